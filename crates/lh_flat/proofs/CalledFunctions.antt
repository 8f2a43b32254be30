-- What a unit calls: the instructions of a module without a fault name functions, and the graph has their names.
use Rattle.std.proofs.Common.{◌≡◌, ℕ, suc, ◌+◌, ◌<◌, inl, inr, min, Bool, true, false, if◌then◌else◌, List, [], ◌∷◌, ◌++◌, length, map, sum_by, Option, Some, None, IsSome, is_some, refl, ap, sym, ◌∙◌, subst, arith}
use Rattle.std.specs.List.{Contains}
use Rattle.std.proofs.lemmas.List.{append-nil, append_assoc}
use Rattle.std.proofs.lemmas.List.Sums.{sum_by-cons}
use Rattle.std.proofs.lemmas.Option.{same_Some, none-some}
use Rattle.lh_unit_names.specs.declared.name.UnitName.{UnitName}
use Rattle.lh_unit.specs.declared.inst.UnitId.{UnitId}
use Rattle.lh_unit.specs.declared.inst.BlockId.{BlockId}
use Rattle.lh_unit.specs.declared.inst.InstId.{InstId}
use Rattle.lh_unit.specs.declared.inst.UnitKind.{UnitKind}
use Rattle.lh_unit.specs.declared.inst.UnitKind.TheVariants as kind
use Rattle.lh_unit.specs.declared.inst.Inst.{Inst}
use Rattle.lh_unit.specs.declared.inst.Inst.TheVariants as inst
use Rattle.lh_unit.specs.declared.inst.Item.TheVariants as item
use Rattle.lh_unit.specs.Contents.{LineText, BlockText, UnitText, ItemText, unit_text, declare_text}
use Rattle.lh_unit.specs.Named.{is_function, unit_named}
use Rattle.lh_unit_names.specs.UnitNames.{is_assert}
use Rattle.lh_unit.specs.Hierarchy.{lines_of}
use Rattle.lh_unit.specs.Naming.{Naming, block_text, inst_text, kind_text}
use Rattle.lh_unit.specs.Places.{places}
use Rattle.lh_unit.specs.Table.{Table, FitsKind, line_at, insts_at}
use Rattle.lh_unit.specs.ById.{inst_line_text}
use Rattle.lh_unit.specs.Arena.{Arena, IsArena, InstPlaced, contents, item_text_at, unit_text_at, kind_at, table_at, naming, blocks_at, unit_count, unit_name_at}
use Rattle.lh_unit.specs.WellFormed.{Site, sites, IsFaultless}
use Rattle.lh_unit.specs.Within.{Each}
use Rattle.lh_unit.proofs.Lists.{Each-append, Each-left, Each-right, Each-of-map}
use Rattle.lh_unit.proofs.ById.{unit_named-by_id}
use Rattle.lh_unit.proofs.ModuleLaws.{line-placed}
use Rattle.lh_verify_laws.specs.Calls.{NamedIsRight}
use Rattle.lh_verify_laws.proofs.Sound.{site_in}
use Rattle.lh_verify_laws.proofs.CallsLaw.{calls_are_right}
use Rattle.lh_verify_laws.proofs.EachItem.{each-contained, each-at}
use Rattle.lh_verify_laws.proofs.AtPlaces.{lines-from}
use Rattle.lh_verify_laws.proofs.Capped.{min-zero}
use Rattle.lh_flat.specs.declared.calls.CallNode.{CallNode}
use Rattle.lh_flat.specs.Calls.{callee_if, callees_in, callees}
use Rattle.lh_flat.specs.Graph.{max_counted, counted, no_node, callee_of, with_inst, with_insts, with_block, with_blocks, node_of}

-- ---- what a module's instructions call

-- what holds of each instruction of a module holds of each line of its units
abbrev OnSite : (List ItemText → UnitText → LineText → Type 0) → List ItemText → Site → Type 0
OnSite P items s = P items s.unit s.place.line

abbrev OnItem : (List ItemText → UnitText → LineText → Type 0) → List ItemText → ItemText → Type 0
OnItem P items (unit_text u) = Each (P items u) (lines_of u.blocks)
OnItem P items (declare_text d) = Unit {0}

on-items : (P : List ItemText → UnitText → LineText → Type 0) (all items : List ItemText) → Each (OnSite P all) (sites items) → Each (OnItem P all) items
on-items P all [] e = tt
on-items P all (unit_text u ∷ more) e = (
  lines-from (P all u) 1 true u.blocks (Each-of-map (OnSite P all) (site_in u) (places u) (Each-left (OnSite P all) (map (site_in u) (places u)) (sites more) e)),
  on-items P all more (Each-right (OnSite P all) (map (site_in u) (places u)) (sites more) e),
)
on-items P all (declare_text d ∷ more) e = (tt, on-items P all more e)

-- what a line names is right
abbrev pub LineNames : List ItemText → UnitText → LineText → Type 0
LineNames items u l = NamedIsRight items u l.inst

-- of each unit of an arena
pub missing-none : (a : Arena) (u : ℕ) → IsArena a → u < unit_count a → kind_at a u ≡ None → blocks_at a u ≡ []
missing-none a u o l e = (subst (λ (k : Option UnitKind). FitsKind k (table_at a u)) e (o.tables u l).fits_kind).2

pub unit-lines : (P : List ItemText → UnitText → LineText → Type 0) → ((items : List ItemText) (s : Site) → IsFaultless items → Contains (sites items) s → P items s.unit s.place.line) →
    (a : Arena) (u : ℕ) → IsArena a → IsFaultless (contents a) → u < unit_count a → Each (P (contents a) (unit_text_at a u)) (lines_of (unit_text_at a u).blocks)
unit-lines P law a u o f l = by (kind_at a u) refl
  where
    by : (k : Option UnitKind) → kind_at a u ≡ k → Each (P (contents a) (unit_text_at a u)) (lines_of (unit_text_at a u).blocks)
    by None e = subst (λ (bs : List BlockId). Each (P (contents a) (unit_text_at a u)) (lines_of (map (block_text (naming a u) (table_at a u)) bs))) (sym (missing-none a u o l e)) tt
    by (Some k) e =
        let v : UnitId = record { 0 = u } in
        let i = o.items_defined v l (subst (λ (x : Option UnitKind). IsSome x) (sym e) refl) in
        each-at (OnItem P (contents a)) (item_text_at a) a.items i.0 (item.Unit v)
        (on-items P (contents a) (contents a) (each-contained (OnSite P (contents a)) (sites (contents a)) (λ s c. law (contents a) s f c))) i.1

unit-names : (a : Arena) (u : ℕ) → IsArena a → IsFaultless (contents a) → u < unit_count a → Each (LineNames (contents a) (unit_text_at a u)) (lines_of (unit_text_at a u).blocks)
unit-names a u o f l = unit-lines LineNames calls_are_right a u o f l

-- ---- by ids

function-kind : (k : Option UnitKind) → is_some k ≡ true → is_function (kind_text k) ≡ true → k ≡ Some kind.Func
function-kind None s e = absurd cc
function-kind (Some kind.Func) s e = refl
function-kind (Some kind.Proc) s e = absurd cc
function-kind (Some kind.Entity) s e = absurd cc

-- a unit that is named as a function is one
named-function : (a : Arena) (u : ℕ) (of : UnitText) → IsArena a → u < unit_count a → unit_named (unit_name_at a u) (contents a) ≡ Some of → is_function of.kind ≡ true → kind_at a u ≡ Some kind.Func
named-function a u of o l n f = by (is_some (kind_at a u)) refl (sym (unit_named-by_id a u o l) ∙ n)
  where
    by : (b : Bool) → is_some (kind_at a u) ≡ b → (if b then Some (unit_text_at a u) else None) ≡ Some of → kind_at a u ≡ Some kind.Func
    by false e q = absurd (none-some of q)
    by true e q = function-kind (kind_at a u) e (ap (λ (v : UnitText). is_function v.kind) (same_Some (unit_text_at a u) of q) ∙ f)

abbrev pub IsFunction : Arena → UnitId → Type 0
IsFunction a t = kind_at a t.0 ≡ Some kind.Func

abbrev pub CallsFunction : Arena → Option UnitId → Type 0
CallsFunction a None = Unit {0}
CallsFunction a (Some t) = IsFunction a t

pub call-right : (a : Arena) (u : ℕ) (i : Inst) → IsArena a → InstPlaced a u i → NamedIsRight (contents a) (unit_text_at a u) (inst_text (naming a u) i) → CallsFunction a (callee_of a i)
call-right a u (inst.Call f result args) o p n = by (is_assert (unit_name_at a f.0)) refl n
  where
    by : (b : Bool) → is_assert (unit_name_at a f.0) ≡ b → NamedIsRight (contents a) (unit_text_at a u) (inst_text (naming a u) (inst.Call f result args))
        → CallsFunction a (if b then None else Some f)
    by true e q = tt
    by false e (inl q) = absurd cc
    by false e (inr q) = named-function a f.0 q.1.of o p.0 q.1.named q.1.function
call-right a u (inst.Const v) o p n = tt
call-right a u (inst.Pure op args) o p n = tt
call-right a u (inst.Var t) o p n = tt
call-right a u (inst.Ld t) o p n = tt
call-right a u (inst.St to value) o p n = tt
call-right a u (inst.Sig t) o p n = tt
call-right a u (inst.Prb t) o p n = tt
call-right a u (inst.Drv to value after cond) o p n = tt
call-right a u (inst.Reg to triggers) o p n = tt
call-right a u (inst.Child v inputs outputs) o p n = tt
call-right a u (inst.Phi ty edges) o p n = tt
call-right a u (inst.Br to) o p n = tt
call-right a u (inst.Branch cond first second) o p n = tt
call-right a u (inst.Wait to after signals) o p n = tt
call-right a u inst.Halt o p n = tt
call-right a u (inst.Ret x) o p n = tt

with-right : (a : Arena) (n : CallNode) (c : Option UnitId) → CallsFunction a c → Each (IsFunction a) n.callees → Each (IsFunction a) (with_inst n c).callees
with-right a n None p h = h
with-right a n (Some f) p h = Each-append (IsFunction a) n.callees (f ∷ []) h (p, tt)

-- a unit with one more piece
abbrev next_piece : CallNode → CallNode
next_piece n = record { insts = n.insts; blocks = counted n.blocks 1; callees = n.callees }

insts-right : (a : Arena) (u : ℕ) (n : CallNode) (is : List InstId) → IsArena a → Each (LineNames (contents a) (unit_text_at a u)) (map (inst_line_text (naming a u) (table_at a u)) is)
    → Each (IsFunction a) n.callees → Each (IsFunction a) (with_insts a u n is).callees
insts-right a u n [] o e h = h
insts-right a u n (i ∷ is) o e h =
    insts-right a u (with_inst n (callee_of a (line_at (table_at a u) i.0).inst)) is o e.1
    (with-right a n (callee_of a (line_at (table_at a u) i.0).inst) (call-right a u (line_at (table_at a u) i.0).inst o (line-placed a u i.0 o) e.0) h)

blocks-right : (a : Arena) (u : ℕ) (n : CallNode) (bs : List BlockId) → IsArena a → Each (LineNames (contents a) (unit_text_at a u)) (lines_of (map (block_text (naming a u) (table_at a u)) bs))
    → Each (IsFunction a) n.callees → Each (IsFunction a) (with_blocks a u n bs).callees
blocks-right a u n [] o e h = h
blocks-right a u n (b ∷ bs) o e h =
    blocks-right a u (with_block a u n b) bs o
    (Each-right (LineNames (contents a) (unit_text_at a u)) (map (inst_line_text (naming a u) (table_at a u)) (insts_at (table_at a u) b.0))
    (lines_of (map (block_text (naming a u) (table_at a u)) bs)) e)
    (insts-right a u (next_piece n) (insts_at (table_at a u) b.0) o
    (Each-left (LineNames (contents a) (unit_text_at a u)) (map (inst_line_text (naming a u) (table_at a u)) (insts_at (table_at a u) b.0)) (lines_of (map (block_text (naming a u) (table_at a u)) bs))
    e) h)

-- each unit that is called is a function
pub callees-functions : (a : Arena) (u : ℕ) → IsArena a → IsFaultless (contents a) → u < unit_count a → Each (IsFunction a) (node_of a u).callees
callees-functions a u o f l = blocks-right a u no_node (blocks_at a u) o (unit-names a u o f l) tt

-- ---- what is counted of a unit is what its text has

-- one more callee in front
abbrev after_callee : Option UnitId → List UnitId → List UnitId
after_callee None more = more
after_callee (Some t) more = t ∷ more

abbrev insts_call : Arena → ℕ → List InstId → List UnitId
insts_call a u [] = []
insts_call a u (i ∷ more) = after_callee (callee_of a (line_at (table_at a u) i.0).inst) (insts_call a u more)

with-callees : (n : CallNode) (c : Option UnitId) (more : List UnitId) → (with_inst n c).callees ++ more ≡ n.callees ++ after_callee c more
with-callees n None more = refl
with-callees n (Some t) more = append_assoc n.callees (t ∷ []) more

insts-callees : (a : Arena) (u : ℕ) (n : CallNode) (is : List InstId) → (with_insts a u n is).callees ≡ n.callees ++ insts_call a u is
insts-callees a u n [] = sym (append-nil n.callees)
insts-callees a u n (i ∷ is) =
    insts-callees a u (with_inst n (callee_of a (line_at (table_at a u) i.0).inst)) is
    ∙ with-callees n (callee_of a (line_at (table_at a u) i.0).inst) (insts_call a u is)

-- the names of callees, in front of others
call-names : (a : Arena) (u : ℕ) (i : Inst) (more : List UnitName) (ids : List UnitId) → more ≡ map (λ (t : UnitId). unit_name_at a t.0) ids
    → callee_if (inst_text (naming a u) i) more ≡ map (λ (t : UnitId). unit_name_at a t.0) (after_callee (callee_of a i) ids)
call-names a u (inst.Call f result args) more ids e = by (is_assert (unit_name_at a f.0))
  where
    by : (b : Bool) → (if b then more else unit_name_at a f.0 ∷ more) ≡ map (λ (t : UnitId). unit_name_at a t.0) (after_callee (if b then None else Some f) ids)
    by true = e
    by false = ap (λ ns. unit_name_at a f.0 ∷ ns) e
call-names a u (inst.Const v) more ids e = e
call-names a u (inst.Pure op args) more ids e = e
call-names a u (inst.Var t) more ids e = e
call-names a u (inst.Ld t) more ids e = e
call-names a u (inst.St to value) more ids e = e
call-names a u (inst.Sig t) more ids e = e
call-names a u (inst.Prb t) more ids e = e
call-names a u (inst.Drv to value after cond) more ids e = e
call-names a u (inst.Reg to triggers) more ids e = e
call-names a u (inst.Child v inputs outputs) more ids e = e
call-names a u (inst.Phi ty edges) more ids e = e
call-names a u (inst.Br to) more ids e = e
call-names a u (inst.Branch cond first second) more ids e = e
call-names a u (inst.Wait to after signals) more ids e = e
call-names a u inst.Halt more ids e = e
call-names a u (inst.Ret None) more ids e = e
call-names a u (inst.Ret (Some x)) more ids e = e

lines-names : (a : Arena) (u : ℕ) (is : List InstId) (ls : List LineText) (ids : List UnitId) → callees_in ls ≡ map (λ (t : UnitId). unit_name_at a t.0) ids
    → callees_in (map (inst_line_text (naming a u) (table_at a u)) is ++ ls) ≡ map (λ (t : UnitId). unit_name_at a t.0) (insts_call a u is ++ ids)
lines-names a u [] ls ids e = e
lines-names a u (i ∷ is) ls ids e =
    call-names a u (line_at (table_at a u) i.0).inst (callees_in (map (inst_line_text (naming a u) (table_at a u)) is ++ ls)) (insts_call a u is ++ ids) (lines-names a u is ls ids e)
    ∙ ap (map (λ (t : UnitId). unit_name_at a t.0)) (front (callee_of a (line_at (table_at a u) i.0).inst))
  where
    front : (c : Option UnitId) → after_callee c (insts_call a u is ++ ids) ≡ after_callee c (insts_call a u is) ++ ids
    front None = refl
    front (Some t) = refl

abbrev blocks_call : Arena → ℕ → List BlockId → List UnitId
blocks_call a u [] = []
blocks_call a u (b ∷ more) = insts_call a u (insts_at (table_at a u) b.0) ++ blocks_call a u more

blocks-callees : (a : Arena) (u : ℕ) (n : CallNode) (bs : List BlockId) → (with_blocks a u n bs).callees ≡ n.callees ++ blocks_call a u bs
blocks-callees a u n [] = sym (append-nil n.callees)
blocks-callees a u n (b ∷ bs) =
    blocks-callees a u (with_block a u n b) bs
    ∙ ap (λ l. l ++ blocks_call a u bs) (insts-callees a u (next_piece n) (insts_at (table_at a u) b.0))
    ∙ append_assoc n.callees (insts_call a u (insts_at (table_at a u) b.0)) (blocks_call a u bs)

blocks-names : (a : Arena) (u : ℕ) (bs : List BlockId) → callees_in (lines_of (map (block_text (naming a u) (table_at a u)) bs)) ≡ map (λ (t : UnitId). unit_name_at a t.0) (blocks_call a u bs)
blocks-names a u [] = refl
blocks-names a u (b ∷ bs) = lines-names a u (insts_at (table_at a u) b.0) (lines_of (map (block_text (naming a u) (table_at a u)) bs)) (blocks_call a u bs) (blocks-names a u bs)

-- the callees of the text are those of the graph
pub callees-names : (a : Arena) (u : ℕ) → callees (unit_text_at a u) ≡ map (λ (t : UnitId). unit_name_at a t.0) (node_of a u).callees
callees-names a u = blocks-names a u (blocks_at a u) ∙ ap (map (λ (t : UnitId). unit_name_at a t.0)) (sym (blocks-callees a u no_node (blocks_at a u)))

-- so many instructions, and so many pieces
pub zero_first : (k : ℕ) → 0 + k ≡ k
zero_first k = omega arith

one_first : (m k : ℕ) → suc (m + k) ≡ suc m + k
one_first m k = omega arith

one_more : (x e n : ℕ) → min (min (x + 1) e + n) e ≡ min (x + suc n) e
one_more x e n = omega arith

with-insts_count : (n : CallNode) (c : Option UnitId) (k : ℕ) → min ((with_inst n c).insts + k) max_counted ≡ min (n.insts + suc k) max_counted
with-insts_count n None k = one_more n.insts max_counted k
with-insts_count n (Some t) k = one_more n.insts max_counted k

insts-count : (a : Arena) (u : ℕ) (n : CallNode) (is : List InstId) (k : ℕ) → min ((with_insts a u n is).insts + k) max_counted ≡ min (n.insts + (length is + k)) max_counted
insts-count a u n [] k = ap (λ m. min (n.insts + m) max_counted) (sym (zero_first k))
insts-count a u n (i ∷ is) k =
    insts-count a u (with_inst n (callee_of a (line_at (table_at a u) i.0).inst)) is k
    ∙ with-insts_count n (callee_of a (line_at (table_at a u) i.0).inst) (length is + k)
    ∙ ap (λ m. min (n.insts + m) max_counted) (one_first (length is) k)

abbrev lines_sum : List BlockText → ℕ
lines_sum bs = sum_by (λ (b : BlockText). length b.lines) bs

length-text : (f : Naming) (t : Table) (is : List InstId) → length (map (inst_line_text f t) is) ≡ length is
length-text f t [] = refl
length-text f t (i ∷ is) = ap suc (length-text f t is)

blocks-count : (a : Arena) (u : ℕ) (n : CallNode) (bs : List BlockId)
    → min (with_blocks a u n bs).insts max_counted ≡ min (n.insts + lines_sum (map (block_text (naming a u) (table_at a u)) bs)) max_counted
blocks-count a u n [] = min-zero n.insts max_counted
blocks-count a u n (b ∷ bs) =
    blocks-count a u (with_block a u n b) bs
    ∙ insts-count a u (next_piece n) (insts_at (table_at a u) b.0) (lines_sum (map (block_text (naming a u) (table_at a u)) bs))
    ∙ ap (λ k. min (n.insts + k) max_counted)
    (ap (λ k. k + lines_sum (map (block_text (naming a u) (table_at a u)) bs)) (sym (length-text (naming a u) (table_at a u) (insts_at (table_at a u) b.0)))
    ∙ sym (sum_by-cons (λ (x : BlockText). length x.lines) (block_text (naming a u) (table_at a u) b) (map (block_text (naming a u) (table_at a u)) bs)))

pub insts-counted : (a : Arena) (u : ℕ) → min (node_of a u).insts max_counted ≡ min (sum_by (λ (b : BlockText). length b.lines) (unit_text_at a u).blocks) max_counted
insts-counted a u = blocks-count a u no_node (blocks_at a u) ∙ ap (λ k. min k max_counted) (zero_first (lines_sum (unit_text_at a u).blocks))

-- the pieces of a block are one more than its calls
with-pieces : (n : CallNode) (c : Option UnitId) (k : ℕ) (more : List UnitId)
    → min ((with_inst n c).blocks + (length more + k)) max_counted ≡ min (n.blocks + (length (after_callee c more) + k)) max_counted
with-pieces n None k more = refl
with-pieces n (Some t) k more = one_more n.blocks max_counted (length more + k) ∙ ap (λ m. min (n.blocks + m) max_counted) (one_first (length more) k)

insts-pieces : (a : Arena) (u : ℕ) (n : CallNode) (is : List InstId) (k : ℕ) → min ((with_insts a u n is).blocks + k) max_counted ≡ min (n.blocks + (length (insts_call a u is) + k)) max_counted
insts-pieces a u n [] k = ap (λ m. min (n.blocks + m) max_counted) (sym (zero_first k))
insts-pieces a u n (i ∷ is) k =
    insts-pieces a u (with_inst n (callee_of a (line_at (table_at a u) i.0).inst)) is k
    ∙ with-pieces n (callee_of a (line_at (table_at a u) i.0).inst) k (insts_call a u is)

length-both : (xs ys : List UnitId) → length (xs ++ ys) ≡ length xs + length ys
length-both [] ys = sym (zero_first (length ys))
length-both (x ∷ xs) ys = ap suc (length-both xs ys) ∙ one_first (length xs) (length ys)

-- one more block
next_block : (b e m n k x : ℕ) → x ≡ m + n → min (min (b + 1) e + (m + (k + n))) e ≡ min (b + (suc k + x)) e
next_block b e m n k x h = omega arith

blocks-pieces : (a : Arena) (u : ℕ) (n : CallNode) (bs : List BlockId) → min (with_blocks a u n bs).blocks max_counted ≡ min (n.blocks + (length bs + length (blocks_call a u bs))) max_counted
blocks-pieces a u n [] = min-zero n.blocks max_counted
blocks-pieces a u n (b ∷ bs) =
    blocks-pieces a u (with_block a u n b) bs
    ∙ insts-pieces a u (next_piece n) (insts_at (table_at a u) b.0) (length bs + length (blocks_call a u bs))
    ∙ next_block n.blocks max_counted (length (insts_call a u (insts_at (table_at a u) b.0))) (length (blocks_call a u bs)) (length bs) (length (blocks_call a u (b ∷ bs)))
    (length-both (insts_call a u (insts_at (table_at a u) b.0)) (blocks_call a u bs))

length-blocks : (f : Naming) (t : Table) (bs : List BlockId) → length (map (block_text f t) bs) ≡ length bs
length-blocks f t [] = refl
length-blocks f t (b ∷ bs) = ap suc (length-blocks f t bs)

pub pieces-counted : (a : Arena) (u : ℕ) → min (node_of a u).blocks max_counted ≡ min (length (unit_text_at a u).blocks + length (node_of a u).callees) max_counted
pieces-counted a u =
    blocks-pieces a u no_node (blocks_at a u)
    ∙ ap (λ k. min k max_counted)
    (zero_first (length (blocks_at a u) + length (blocks_call a u (blocks_at a u)))
    ∙ ap (λ k. k + length (blocks_call a u (blocks_at a u))) (sym (length-blocks (naming a u) (table_at a u) (blocks_at a u)))
    ∙ ap (λ l. length (unit_text_at a u).blocks + length l) (sym (blocks-callees a u no_node (blocks_at a u))))
