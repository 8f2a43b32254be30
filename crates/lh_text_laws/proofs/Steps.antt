-- Each item adds its canonical line to those of what is read so far.
use Rattle.std.proofs.Common.{◌≡◌, ℕ, Bool, true, false, List, [], ◌∷◌, ◌++◌, Option, Some, None, if◌then◌else◌, refl, ap, sym, ◌∙◌, subst}
use Rattle.std.proofs.lemmas.List.{append-nil}
use Rattle.lh_types.specs.Types.{TypeTree}
use Rattle.lh_unit.specs.Contents.{ArgText, LineText, BlockText, UnitText, ItemText, declare_text, last_unit, with_block, with_line, line_at_end}
use Rattle.lh_unit.specs.Lexemes.{Lexeme}
use Rattle.lh_unit.specs.Marks.{close_brace}
use Rattle.lh_unit.specs.Pieces.{Piece, mark}
use Rattle.lh_unit.specs.Canon.{header, declaration, canon_inst_line, blocks_lines, canon_lines}
use Rattle.lh_unit.specs.Spells.{LineItem, empty_item, header_item, declare_item, label_item, inst_item, close_item, SpellsHeader, Spells}
use Rattle.lh_unit.specs.Reads.{ReadState, LinePlace, outside, in_entity, before_labels, in_empty_block, in_block, has_lines, place_after, place_in, place_of, may_stand, headed_unit, after}
use Rattle.lh_unit_names.specs.declared.name.UnitName.{UnitName}
use Rattle.lh_unit.specs.declared.inst.UnitKind.{UnitKind}
use Rattle.lh_unit.specs.declared.inst.UnitKind.TheVariants as kind
use Rattle.lh_unit.specs.declared.inst.Declare.{Declare}
use Rattle.lh_unit.proofs.ContentsLemmas.{last_unit-push}
use Rattle.lh_unit.proofs.ModuleLaws.{last_unit-change_last}
use Rattle.lh_text_laws.specs.ItemLines.{item_line}
use Rattle.lh_text_laws.proofs.Walks.{open_lines, lines_in, canon_lines-append, open_lines-push, HasBlock, blocks-line, grows, label-line, closes, not_open}

-- an entity has its block
abbrev BlockIn : UnitKind → List BlockText → Type 0
BlockIn kind.Entity bs = HasBlock bs
BlockIn _ bs = Unit {0}

abbrev LastReady : Option UnitText → Type 0
LastReady None = Unit {0}
LastReady (Some u) = BlockIn u.kind u.blocks

-- the last unit has its block, if it is an entity
abbrev pub Ready : ReadState → Type 0
Ready s = LastReady (last_unit s.items)

-- where a state stands
data Where (s : ReadState) : Type 0 where
  is_outside : place_of s ≡ outside → lines_in s ≡ canon_lines s.items → Where s
  is_inside : (u : UnitText) → s.inside ≡ true → last_unit s.items ≡ Some u → place_of s ≡ place_in u.kind u.blocks → Where s

find : (s : ReadState) (t : Bool) (o : Option UnitText) → s.inside ≡ t → last_unit s.items ≡ o → Where s
find s false o e f = is_outside (rw e refl) (rw e refl)
find s true None e f = is_outside (rw (e, f) refl) (rw e (not_open s.items f))
find s true (Some u) e f = is_inside u e f (rw (e, f) refl)

abbrev pub IsIn : LinePlace → Type 0
IsIn outside = ⊥
IsIn _ = Unit {0}

after-in : (bs : List BlockText) → IsIn (place_after bs)
after-in [] = tt
after-in (b ∷ []) = elim (has_lines b.lines) as (λ t. IsIn (if t then in_block else in_empty_block)) [ true ↦ tt | false ↦ tt ]
after-in (b ∷ c ∷ more) = after-in (c ∷ more)

pub unit-in : (k : UnitKind) (bs : List BlockText) → IsIn (place_in k bs)
unit-in kind.Entity bs = tt
unit-in kind.Func bs = after-in bs
unit-in kind.Proc bs = after-in bs

pub no_header : (p : LinePlace) (k : UnitKind) (n : UnitName) (args : List ArgText) (r : Option TypeTree) → IsIn p → may_stand p (header_item k n args r) ≡ true → ⊥
no_header outside k n args r i h = i
no_header in_entity k n args r i h = cc
no_header before_labels k n args r i h = cc
no_header in_empty_block k n args r i h = cc
no_header in_block k n args r i h = cc

pub no_declare : (p : LinePlace) (d : Declare) → IsIn p → may_stand p (declare_item d) ≡ true → ⊥
no_declare outside d i h = i
no_declare in_entity d i h = cc
no_declare before_labels d i h = cc
no_declare in_empty_block d i h = cc
no_declare in_block d i h = cc

-- where an instruction may stand, there is a block
block_after : (bs : List BlockText) (l : LineText) → may_stand (place_after bs) (inst_item l) ≡ true → HasBlock bs
block_after [] l h = cc
block_after (b ∷ bs) l h = tt

pub block_in : (k : UnitKind) (bs : List BlockText) (l : LineText) → BlockIn k bs → may_stand (place_in k bs) (inst_item l) ≡ true → HasBlock bs
block_in kind.Entity bs l b h = b
block_in kind.Func bs l b h = block_after bs l h
block_in kind.Proc bs l b h = block_after bs l h

any_kind : (k : UnitKind) (bs : List BlockText) → HasBlock bs → BlockIn k bs
any_kind kind.Entity bs h = h
any_kind kind.Func bs h = tt
any_kind kind.Proc bs h = tt

pushed_block : (bs : List BlockText) (b : BlockText) → HasBlock (bs ++ b ∷ [])
pushed_block [] b = tt
pushed_block (c ∷ bs) b = tt

kept_block : (l : LineText) (bs : List BlockText) → HasBlock bs → HasBlock (line_at_end l bs)
kept_block l [] h = absurd h
kept_block l (b ∷ []) h = tt
kept_block l (b ∷ c ∷ bs) h = tt

abbrev unit_lines : UnitText → List (List Piece)
unit_lines u = header u.kind u.name u.args u.result ∷ blocks_lines u.blocks

headed-lines : (k : UnitKind) (n : UnitName) (args : List ArgText) (r : Option TypeTree) (ts : List Lexeme) → SpellsHeader k n args r ts → unit_lines (headed_unit k n args r) ≡ header k n args r ∷ []
headed-lines kind.Func n args (Some r) ts h = refl
headed-lines kind.Proc n args None ts h = refl
headed-lines kind.Entity n args None ts h = refl
headed-lines kind.Func n args None ts h = absurd h
headed-lines kind.Proc n args (Some r) ts h = absurd h
headed-lines kind.Entity n args (Some r) ts h = absurd h

headed-ready : (k : UnitKind) (n : UnitName) (args : List ArgText) (r : Option TypeTree) → LastReady (Some (headed_unit k n args r))
headed-ready kind.Func n args None = tt
headed-ready kind.Func n args (Some r) = tt
headed-ready kind.Proc n args None = tt
headed-ready kind.Proc n args (Some r) = tt
headed-ready kind.Entity n args None = tt
headed-ready kind.Entity n args (Some r) = tt

last_unit-declare : (items : List ItemText) (d : Declare) → last_unit (items ++ declare_text d ∷ []) ≡ None
last_unit-declare [] d = refl
last_unit-declare (i ∷ []) d = refl
last_unit-declare (i ∷ j ∷ items) d = last_unit-declare (j ∷ items) d

inside-lines : (s : ReadState) → s.inside ≡ true → lines_in s ≡ open_lines s.items
inside-lines s e = rw e refl

-- the lines that an item adds
abbrev pub added : LineItem → List (List Piece)
added empty_item = []
added i = item_line i ∷ []

-- what a step does
pub record Step (s : ReadState) (i : LineItem) : Type 0 where
  pub adds : lines_in (after s i) ≡ lines_in s ++ added i
  pub ready : Ready (after s i)

header-step : (s : ReadState) (k : UnitKind) (n : UnitName) (args : List ArgText) (r : Option TypeTree) (ts : List Lexeme) → SpellsHeader k n args r ts → lines_in s ≡ canon_lines s.items
    → Step s (header_item k n args r)
header-step s k n args r ts h l =
    let u = headed_unit k n args r in
    record {
      adds = open_lines-push s.items u ∙ ap (λ q. canon_lines s.items ++ q) (headed-lines k n args r ts h) ∙ ap (λ q. q ++ header k n args r ∷ []) (sym l);
      ready = subst LastReady (sym (last_unit-push s.items u)) (headed-ready k n args r);
    }

declare-step : (s : ReadState) (d : Declare) → lines_in s ≡ canon_lines s.items → Step s (declare_item d)
declare-step s d l =
    record {
      adds = canon_lines-append s.items (declare_text d ∷ []) ∙ ap (λ q. q ++ declaration d ∷ []) (sym l);
      ready = subst LastReady (sym (last_unit-declare s.items d)) tt;
    }

label-step : (s : ReadState) (n : List ℕ) (u : UnitText) → s.inside ≡ true → last_unit s.items ≡ Some u → Step s (label_item n)
label-step s n u e f =
    record {
      adds = grows (with_block n) (item_line (label_item n)) u (ap (λ q. header u.kind u.name u.args u.result ∷ q) (label-line n u)) s.items f
          ∙ ap (λ q. q ++ item_line (label_item n) ∷ []) (sym (inside-lines s e));
      ready = subst LastReady (sym (last_unit-change_last (with_block n) s.items u f)) (any_kind u.kind (with_block n u).blocks (pushed_block u.blocks (record { label = Some n; lines = [] })));
    }

inst-step : (s : ReadState) (l : LineText) (u : UnitText) → s.inside ≡ true → last_unit s.items ≡ Some u → HasBlock u.blocks → Step s (inst_item l)
inst-step s l u e f b =
    record {
      adds = grows (with_line l) (canon_inst_line l) u (ap (λ q. header u.kind u.name u.args u.result ∷ q) (blocks-line l u.blocks b)) s.items f
          ∙ ap (λ q. q ++ canon_inst_line l ∷ []) (sym (inside-lines s e));
      ready = subst LastReady (sym (last_unit-change_last (with_line l) s.items u f)) (any_kind u.kind (with_line l u).blocks (kept_block l u.blocks b));
    }

close-step : (s : ReadState) (u : UnitText) → s.inside ≡ true → last_unit s.items ≡ Some u → Ready s → Step s close_item
close-step s u e f r = record { adds = closes u s.items f ∙ ap (λ q. q ++ mark close_brace ∷ []) (sym (inside-lines s e)); ready = r }

-- the item may stand where it is placed
stands_at : (p q : LinePlace) (i : LineItem) → p ≡ q → may_stand p i ≡ true → may_stand q i ≡ true
stands_at p q i e h = subst (λ x. may_stand x i ≡ true) e h

step-by : (s : ReadState) (i : LineItem) (ts : List Lexeme) → Where s → Spells ts i → may_stand (place_of s) i ≡ true → Ready s → Step s i
step-by s empty_item ts w h m r = record { adds = sym (append-nil (lines_in s)); ready = r }
step-by s (header_item k n args t) ts (is_outside p l) h m r = header-step s k n args t ts h l
step-by s (header_item k n args t) ts (is_inside u e f p) h m r = absurd (no_header (place_in u.kind u.blocks) k n args t (unit-in u.kind u.blocks) (stands_at _ _ (header_item k n args t) p m))
step-by s (declare_item d) ts (is_outside p l) h m r = declare-step s d l
step-by s (declare_item d) ts (is_inside u e f p) h m r = absurd (no_declare (place_in u.kind u.blocks) d (unit-in u.kind u.blocks) (stands_at _ _ (declare_item d) p m))
step-by s (label_item n) ts (is_outside p l) h m r = let k : may_stand outside (label_item n) ≡ true = stands_at _ _ (label_item n) p m in absurd cc
step-by s (label_item n) ts (is_inside u e f p) h m r = label-step s n u e f
step-by s (inst_item x) ts (is_outside p l) h m r = let k : may_stand outside (inst_item x) ≡ true = stands_at _ _ (inst_item x) p m in absurd cc
step-by s (inst_item x) ts (is_inside u e f p) h m r = inst-step s x u e f (block_in u.kind u.blocks x (subst LastReady f r) (stands_at _ _ (inst_item x) p m))
step-by s close_item ts (is_outside p l) h m r = let k : may_stand outside close_item ≡ true = stands_at _ _ close_item p m in absurd cc
step-by s close_item ts (is_inside u e f p) h m r = close-step s u e f r

-- a step
pub step : (s : ReadState) (i : LineItem) (ts : List Lexeme) → Spells ts i → may_stand (place_of s) i ≡ true → Ready s → Step s i
step s i ts h m r = step-by s i ts (find s s.inside (last_unit s.items) refl refl) h m r
