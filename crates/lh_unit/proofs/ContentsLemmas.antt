-- The contents under the calls that build a module.
use Rattle.std.proofs.Common.{◌≡◌, ◌≢◌, ℕ, ◌<◌, false, List, [], ◌∷◌, ◌++◌, length, map, get_or, Option, Some, None, IsSomeAnd, unwrap_or, slice_get, refl, ap, sym, ◌∙◌, subst, arith}
use Rattle.std.proofs.lemmas.List.{map-append, get_or-set_same, get_or_append_left, get_or_push}
use Rattle.std.proofs.lemmas.Option.{slice_get_within}
use Rattle.lh_types.specs.Types.{TypeTree}
use Rattle.lh_unit.specs.Contents as text
use Rattle.lh_unit.specs.Contents.{ItemText, UnitText, BlockText, LineText, unit_text, declare_text, new_unit, change_last, last_unit, line_at_end, blocks_define}
use Rattle.lh_unit.specs.Table.{Table, IsTable, HasBlocks, is_block, insts_at, line_at, no_line}
use Rattle.lh_unit.specs.TableCalls.{with_arg, with_result, with_block, with_line, last_block}
use Rattle.lh_unit.specs.Naming.{Naming, naming_of, line_text, arg_text, label_text, block_text, kind_text, table_text}
use Rattle.lh_unit.specs.Arena.{Arena, IsArena, IsOpen, OfOpen, contents, item_text_at, unit_text_at, unit_count, unit_name_at}
use Rattle.lh_unit.specs.declared.inst.UnitId.{UnitId}
use Rattle.lh_unit.specs.declared.inst.ValueId.{ValueId}
use Rattle.lh_unit.specs.declared.inst.BlockId.{BlockId}
use Rattle.lh_unit.specs.declared.inst.InstId.{InstId}
use Rattle.lh_unit.specs.declared.inst.Inst.{Inst}
use Rattle.lh_unit.specs.declared.inst.Arg.{Arg}
use Rattle.lh_unit.specs.declared.inst.Item.{Item}
use Rattle.lh_unit.specs.declared.inst.Item.TheVariants as item
use Rattle.lh_unit.specs.declared.table.TableLine.{TableLine}
use Rattle.lh_unit.proofs.Lists.{map-same, map-each, Each-left, Each-right}
use Rattle.lh_types.proofs.Lists.{get_below, get_last}
use Rattle.lh_unit_names.specs.declared.name.UnitName.{UnitName}
use Rattle.lh_unit.proofs.Tables.{last-split, front-apart, insts_at-written, last-within, apart}
use Rattle.lh_unit.proofs.Arenas.{with_table, table_at-same, table_at-other, open-within, open-item}
use Rattle.lh_unit.proofs.Texts.{insts-within}
use Rattle.lh_unit.proofs.Defined.{label_text-named}
use Rattle.lh_unit.specs.declared.inst.UnitKind.{UnitKind}
use Rattle.lh_unit.specs.Within.{Each}
use Rattle.lh_unit.specs.Hierarchy.{lines_of}
use Rattle.lh_unit.specs.declared.inst.UnitKind.TheVariants as kind

-- the text of the unit u, were its table t
abbrev pub text_with : Arena → ℕ → Table → UnitText
text_with a u t = table_text (naming_of (unit_name_at a) t) (unit_name_at a u) t

-- the last item of a list of items
pub last_unit-push : (xs : List ItemText) (x : UnitText) → last_unit (xs ++ unit_text x ∷ []) ≡ Some x
last_unit-push [] x = refl
last_unit-push (unit_text y ∷ []) x = refl
last_unit-push (declare_text y ∷ []) x = refl
last_unit-push (unit_text y ∷ z ∷ xs) x = last_unit-push (z ∷ xs) x
last_unit-push (declare_text y ∷ z ∷ xs) x = last_unit-push (z ∷ xs) x

pub change_last-push : (f : UnitText → UnitText) (xs : List ItemText) (x : UnitText) → change_last f (xs ++ unit_text x ∷ []) ≡ xs ++ unit_text (f x) ∷ []
change_last-push f [] x = refl
change_last-push f (unit_text y ∷ []) x = refl
change_last-push f (declare_text y ∷ []) x = refl
change_last-push f (unit_text y ∷ z ∷ xs) x = ap (λ l. unit_text y ∷ l) (change_last-push f (z ∷ xs) x)
change_last-push f (declare_text y ∷ z ∷ xs) x = ap (λ l. declare_text y ∷ l) (change_last-push f (z ∷ xs) x)

pub line_at_end-push : (l : LineText) (xs : List BlockText) (b : BlockText) → line_at_end l (xs ++ b ∷ []) ≡ xs ++ record b { lines = b.lines ++ l ∷ [] } ∷ []
line_at_end-push l [] b = refl
line_at_end-push l (x ∷ []) b = refl
line_at_end-push l (x ∷ y ∷ xs) b = ap (λ z. x ∷ z) (line_at_end-push l (y ∷ xs) b)

-- the contents end with the open unit
pub contents-open : (a : Arena) (u : UnitId) → (p : IsOpen a u) → contents a ≡ map (item_text_at a) p.0 ++ unit_text (unit_text_at a u.0) ∷ []
contents-open a u p = ap (map (item_text_at a)) p.1 ∙ map-append (item_text_at a) p.0 (item.Unit u ∷ [])

pub open-text : (a : Arena) (u : UnitId) → IsOpen a u → last_unit (contents a) ≡ Some (unit_text_at a u.0)
open-text a u p = ap last_unit (contents-open a u p) ∙ last_unit-push (map (item_text_at a) p.0) (unit_text_at a u.0)

pub open-of : (a : Arena) (u : UnitId) (P : UnitText → Type 0) → IsOpen a u → P (unit_text_at a u.0) → OfOpen a P
open-of a u P p h = subst (λ o. IsSomeAnd o P) (sym (open-text a u p)) h

pub of-open : (a : Arena) (u : UnitId) (P : UnitText → Type 0) → IsOpen a u → OfOpen a P → P (unit_text_at a u.0)
of-open a u P p h = subst (λ o. IsSomeAnd o P) (open-text a u p) h

-- another table for the open unit changes the last item alone
pub item_text-other : (a b : Arena) (i : Item) → ((v : UnitId) → i ≡ item.Unit v → unit_text_at b v.0 ≡ unit_text_at a v.0) → item_text_at b i ≡ item_text_at a i
item_text-other a b (item.Unit v) h = ap unit_text (h v refl)
item_text-other a b (item.Declare d) h = refl

pub unit_text-table : (a : Arena) (u v : ℕ) (t : Table) → v ≢ u → unit_text_at (with_table a u t) v ≡ unit_text_at a v
unit_text-table a u v t h = ap (λ s. table_text (naming_of (unit_name_at a) s) (unit_name_at a v) s) (table_at-other a u v t h)

pub unit_text-table_same : (a : Arena) (u : ℕ) (t : Table) → u < unit_count a → unit_text_at (with_table a u t) u ≡ text_with a u t
unit_text-table_same a u t h = ap (λ s. table_text (naming_of (unit_name_at a) s) (unit_name_at a u) s) (table_at-same a u t h)

pub contents-with_table : (a : Arena) (u : UnitId) (t : Table) (f : UnitText → UnitText) → IsArena a → IsOpen a u → text_with a u.0 t ≡ f (unit_text_at a u.0)
    → contents (with_table a u.0 t) ≡ change_last f (contents a)
contents-with_table a u t f o p e =
    contents-open (with_table a u.0 t) u p
    ∙ (λ i. others i ++ unit_text (last i) ∷ [])
    ∙ sym (ap (change_last f) (contents-open a u p) ∙ change_last-push f (map (item_text_at a) p.0) (unit_text_at a u.0))
  where
    apart_from : (i : ℕ) (v : UnitId) → slice_get p.0 i ≡ Some (item.Unit v) → v.0 ≢ u.0
    apart_from i v q r =
        let w : v ≡ u = λ j. record { 0 = r j } in
        let l : i < length p.0 = slice_get_within p.0 i (item.Unit v) q in
        let x : slice_get a.items i ≡ Some (item.Unit u) = ap (λ z. slice_get z i) p.1 ∙ get_below p.0 (item.Unit u ∷ []) i l ∙ q ∙ ap (λ z. Some (item.Unit z)) w in
        let z : i ≡ length p.0 = o.items_distinct i (length p.0) u x (open-item a u p) in omega (arith, z, l)

    others : map (item_text_at (with_table a u.0 t)) p.0 ≡ map (item_text_at a) p.0
    others = map-same (item_text_at (with_table a u.0 t)) (item_text_at a) p.0 (λ i x q. item_text-other a (with_table a u.0 t) x (λ v r. unit_text-table a u.0 v.0 t (apart_from i v (q ∙ ap Some r))))

    last : unit_text_at (with_table a u.0 t) u.0 ≡ f (unit_text_at a u.0)
    last = unit_text-table_same a u.0 t (open-within a u o p) ∙ e

-- what each call does to the text of its unit
pub text-with_arg : (a : Arena) (u : ℕ) (t : Table) (x : Arg) → text_with a u (with_arg t x) ≡ text.with_arg (arg_text (naming_of (unit_name_at a) t) x) (text_with a u t)
text-with_arg a u t x = let e : map (arg_text (naming_of (unit_name_at a) t)) (t.args ++ x ∷ []) ≡ map (arg_text (naming_of (unit_name_at a) t)) t.args ++ arg_text (naming_of (unit_name_at a) t) x
    ∷ [] = map-append (arg_text (naming_of (unit_name_at a) t)) t.args (x ∷ []) in
    λ i. record { kind = kind_text t.kind; name = unit_name_at a u; args = e i; result = t.result; blocks = map (block_text (naming_of (unit_name_at a) t) t) t.blocks }

pub text-with_result : (a : Arena) (u : ℕ) (t : Table) (ty : TypeTree) → text_with a u (with_result t ty) ≡ text.with_result ty (text_with a u t)
text-with_result a u t ty = refl

pub text-with_block : (a : Arena) (u : ℕ) (t : Table) (b : BlockId) → IsTable t → HasBlocks t.kind → b.0 < length t.labels → is_block t.blocks b.0 ≡ false
    → text_with a u (with_block t b) ≡ text.with_block (get_or t.labels b.0 []) (text_with a u t)
text-with_block a u t b o h w n =
    let e : map (block_text f (with_block t b)) (t.blocks ++ b ∷ []) ≡ map (block_text f t) t.blocks ++ record { label = Some (get_or t.labels b.0 []); lines = [] } ∷ [] =
    map-append (block_text f (with_block t b)) t.blocks (b ∷ []) ∙ (λ i. others i ++ last i ∷ []) in
    λ i. record { kind = kind_text t.kind; name = unit_name_at a u; args = map (arg_text f) t.args; result = t.result; blocks = e i }
  where
    f : Naming
    f = naming_of (unit_name_at a) t

    others : map (block_text (naming_of (unit_name_at a) t) (with_block t b)) t.blocks ≡ map (block_text (naming_of (unit_name_at a) t) t) t.blocks
    others = map-same (block_text f (with_block t b)) (block_text f t) t.blocks (λ i x q.
        let s : insts_at (with_block t b) x.0 ≡ insts_at t x.0 = insts_at-written t b.0 x.0 (Some []) (apart t.blocks b.0 n i x q) in
        λ j. record { label = label_text f t.kind x; lines = map (λ (i : InstId). line_text f (line_at t i.0)) (s j) })

    none : insts_at (with_block t b) b.0 ≡ []
    none = ap (λ x. unwrap_or x []) (get_or-set_same t.bodies b.0 (Some []) None (omega (arith, w, o.enough_bodies)))

    last : block_text (naming_of (unit_name_at a) t) (with_block t b) b ≡ record { label = Some (get_or t.labels b.0 []); lines = [] }
    last = let l : label_text f t.kind b ≡ Some (get_or t.labels b.0 []) = label_text-named f t.kind b h in
        λ j. record { label = l j; lines = map (λ (i : InstId). line_text f (line_at t i.0)) (none j) }

pub text-with_line : (a : Arena) (u : ℕ) (t : Table) (r : Option ValueId) (i : Inst) → IsTable t → 0 < length t.blocks
    → text_with a u (with_line t r i) ≡ text.with_line (line_text (naming_of (unit_name_at a) t) record { result = r; inst = i }) (text_with a u t)
text-with_line a u t r i o h =
    let e : map (block_text f now) t.blocks ≡ line_at_end (line_text f line) (map (block_text f t) t.blocks) =
    ap (map (block_text f now)) s.1 ∙ map-append (block_text f now) s.0 (last_block t ∷ []) ∙ (λ j. others j ++ last j ∷ [])
    ∙ sym (ap (λ bs. line_at_end (line_text f line) (map (block_text f t) bs)) s.1
    ∙ ap (line_at_end (line_text f line)) (map-append (block_text f t) s.0 (last_block t ∷ []))
    ∙ line_at_end-push (line_text f line) (map (block_text f t) s.0) (block_text f t (last_block t))) in
    λ j. record { kind = kind_text t.kind; name = unit_name_at a u; args = map (arg_text f) t.args; result = t.result; blocks = e j }
  where
    f : Naming
    f = naming_of (unit_name_at a) t

    line : TableLine
    line = record { result = r; inst = i }

    now : Table
    now = with_line t r i

    b : ℕ
    b = (last_block t).0

    s : (front : List BlockId) × (t.blocks ≡ front ++ last_block t ∷ [])
    s = last-split t h

    -- the lines before stay
    before_it : (x : BlockId) (j : ℕ) → slice_get t.blocks j ≡ Some x → map (λ (k : InstId). line_text f (line_at now k.0)) (insts_at t x.0)
        ≡ map (λ (k : InstId). line_text f (line_at t k.0)) (insts_at t x.0)
    before_it x j q = map-each (λ (k : InstId). k.0 < length t.lines) (λ (k : InstId). line_text f (line_at now k.0)) (λ (k : InstId). line_text f (line_at t k.0)) (insts_at t x.0)
        (λ k w. ap (line_text f) (get_or_append_left t.lines (line ∷ []) no_line k.0 w)) (insts-within t o j x q)

    in_front : (j : ℕ) (x : BlockId) → slice_get s.0 j ≡ Some x → slice_get t.blocks j ≡ Some x
    in_front j x q = ap (λ z. slice_get z j) s.1 ∙ get_below s.0 (last_block t ∷ []) j (slice_get_within s.0 j x q) ∙ q

    others : map (block_text f now) s.0 ≡ map (block_text f t) s.0
    others = map-same (block_text f now) (block_text f t) s.0 (λ j x q.
        let w : insts_at now x.0 ≡ insts_at t x.0 = insts_at-written t b x.0 (Some (insts_at t b ++ record { 0 = length t.lines } ∷ [])) (front-apart t s.0 o s.1 j x q) in
        let l : map (λ (k : InstId). line_text f (line_at now k.0)) (insts_at now x.0) ≡ map (λ (k : InstId). line_text f (line_at t k.0)) (insts_at t x.0) =
        ap (map (λ (k : InstId). line_text f (line_at now k.0))) w ∙ before_it x j (in_front j x q) in
        λ n. record { label = label_text f t.kind x; lines = l n })

    at_last : slice_get t.blocks (length s.0) ≡ Some (last_block t)
    at_last = ap (λ z. slice_get z (length s.0)) s.1 ∙ get_last s.0 (last_block t)

    last : block_text f now (last_block t) ≡ record (block_text f t (last_block t)) { lines = (block_text f t (last_block t)).lines ++ line_text f line ∷ [] }
    last =
        let w : insts_at now b ≡ insts_at t b ++ record { 0 = length t.lines }
        ∷ [] = ap (λ x. unwrap_or x []) (get_or-set_same t.bodies b (Some (insts_at t b ++ record { 0 = length t.lines } ∷ [])) None (last-within t o h)) in
        let n : get_or (t.lines ++ line ∷ []) (length t.lines) no_line ≡ line = get_or_push t.lines line no_line (length t.lines) refl in
        let l : map (λ (k : InstId). line_text f (line_at now k.0)) (insts_at now b) ≡ map (λ (k : InstId). line_text f (line_at t k.0)) (insts_at t b) ++ line_text f line ∷ [] =
        ap (map (λ (k : InstId). line_text f (line_at now k.0))) w
        ∙ map-append (λ (k : InstId). line_text f (line_at now k.0)) (insts_at t b) (record { 0 = length t.lines } ∷ [])
        ∙ (λ m. before_it (last_block t) (length s.0) at_last m ++ line_text f (n m) ∷ []) in
        λ m. record { label = label_text f t.kind (last_block t); lines = l m }

-- in a unit that was just begun only the arguments define values
pub new_unit-blocks : (n : UnitName) (k : UnitKind) (m : List ℕ) → blocks_define m (new_unit n k).blocks ≡ false
new_unit-blocks n kind.Func m = refl
new_unit-blocks n kind.Proc m = refl
new_unit-blocks n kind.Entity m = refl

pub new_unit-args : (n : UnitName) (k : UnitKind) → (new_unit n k).args ≡ []
new_unit-args n kind.Func = refl
new_unit-args n kind.Proc = refl
new_unit-args n kind.Entity = refl

-- from the lines of all blocks to those of each
pub Each-by_blocks : (P : LineText → Type 0) (bs : List BlockText) → Each P (lines_of bs) → Each (λ (b : BlockText). Each P b.lines) bs
Each-by_blocks P [] e = tt
Each-by_blocks P (b ∷ more) e = (Each-left P b.lines (lines_of more) e, Each-by_blocks P more (Each-right P b.lines (lines_of more) e))
