-- The place of a line behind an item, and what may stand in a place.
use Rattle.std.proofs.Common.{◌≡◌, ℕ, ◌<◌, Bool, true, false, List, [], ◌∷◌, ◌++◌, length, Option, Some, None, IsSomeAnd, refl, ap, sym, ◌∙◌, subst, arith}
use Rattle.std.specs.Prelude.{if◌then◌else◌}
use Rattle.lh_types.specs.Types.{TypeTree}
use Rattle.lh_unit.specs.Contents.{ArgText, UnitText, BlockText, LineText, last_unit, change_last, with_block, with_line, line_at_end}
use Rattle.lh_unit.specs.Arena.{Arena, Grows, IsOpen, OfOpen, contents, unit_count}
use Rattle.lh_unit.specs.Builders.{HasLabels, HasContents}
use Rattle.lh_unit.specs.Spells.{header_item, declare_item, label_item, inst_item, close_item}
use Rattle.lh_unit.specs.Reads as reads
use Rattle.lh_unit.specs.Reads.{outside, in_entity, before_labels, in_empty_block, in_block, has_lines, place_after, place_in, place_in_last, place_of, may_stand, headed_unit}
use Rattle.lh_unit_names.specs.declared.name.UnitName.{UnitName}
use Rattle.lh_unit.specs.declared.inst.Declare.{Declare}
use Rattle.lh_unit.specs.declared.inst.UnitId.{UnitId}
use Rattle.lh_unit.specs.declared.inst.UnitKind.{UnitKind}
use Rattle.lh_unit.specs.declared.inst.UnitKind.TheVariants as kind
use Rattle.lh_read.specs.declared.places.LinePlace.{LinePlace}
use Rattle.lh_read.specs.declared.places.LinePlace.TheVariants.{Outside, InEntity, BeforeLabels, InEmptyBlock, InBlock}
use Rattle.lh_read.specs.Places.{place_held, is_inside, block_unit, label_unit, may_close, behind_header, behind_inst}
use Rattle.lh_read.specs.InOrder.{state_at, HasOpenBlock, EndsIn, InUnit, InPlace}
use Rattle.lh_read.proofs.LastUnit.{last_unit-is, last_unit-has}
use Rattle.lh_unit.proofs.ModuleLaws.{last_unit-change_last}

-- what may stand in the place that is held
pub header-stands : (p : LinePlace) (k : UnitKind) (n : UnitName) (args : List ArgText) (r : Option TypeTree) (b : Bool) → is_inside p ≡ b
    → may_stand (place_held p) (header_item k n args r) ≡ (if b then false else true)
header-stands Outside k n args r b e = ap (λ x. if x then false else true) e
header-stands (InEntity u) k n args r b e = ap (λ x. if x then false else true) e
header-stands (BeforeLabels u) k n args r b e = ap (λ x. if x then false else true) e
header-stands (InEmptyBlock u) k n args r b e = ap (λ x. if x then false else true) e
header-stands (InBlock u) k n args r b e = ap (λ x. if x then false else true) e

pub declare-stands : (p : LinePlace) (d : Declare) (b : Bool) → is_inside p ≡ b → may_stand (place_held p) (declare_item d) ≡ (if b then false else true)
declare-stands Outside d b e = ap (λ x. if x then false else true) e
declare-stands (InEntity u) d b e = ap (λ x. if x then false else true) e
declare-stands (BeforeLabels u) d b e = ap (λ x. if x then false else true) e
declare-stands (InEmptyBlock u) d b e = ap (λ x. if x then false else true) e
declare-stands (InBlock u) d b e = ap (λ x. if x then false else true) e

pub close-stands : (p : LinePlace) → may_stand (place_held p) close_item ≡ may_close p
close-stands Outside = refl
close-stands (InEntity u) = refl
close-stands (BeforeLabels u) = refl
close-stands (InEmptyBlock u) = refl
close-stands (InBlock u) = refl

pub inst-stands : (p : LinePlace) (l : LineText) (u : UnitId) → block_unit p ≡ Some u → may_stand (place_held p) (inst_item l) ≡ true
inst-stands Outside l u e = cc
inst-stands (InEntity v) l u e = refl
inst-stands (BeforeLabels v) l u e = cc
inst-stands (InEmptyBlock v) l u e = refl
inst-stands (InBlock v) l u e = refl

pub inst-misplaced : (p : LinePlace) (l : LineText) → block_unit p ≡ None → may_stand (place_held p) (inst_item l) ≡ false
inst-misplaced Outside l e = refl
inst-misplaced (InEntity v) l e = cc
inst-misplaced (BeforeLabels v) l e = refl
inst-misplaced (InEmptyBlock v) l e = cc
inst-misplaced (InBlock v) l e = cc

pub label-stands : (p : LinePlace) (n : List ℕ) (u : UnitId) → label_unit p ≡ Some u → may_stand (place_held p) (label_item n) ≡ true
label-stands Outside n u e = cc
label-stands (InEntity v) n u e = cc
label-stands (BeforeLabels v) n u e = refl
label-stands (InEmptyBlock v) n u e = cc
label-stands (InBlock v) n u e = refl

pub label-misplaced : (p : LinePlace) (n : List ℕ) → label_unit p ≡ None → may_stand (place_held p) (label_item n) ≡ false
label-misplaced Outside n e = refl
label-misplaced (InEntity v) n e = refl
label-misplaced (BeforeLabels v) n e = cc
label-misplaced (InEmptyBlock v) n e = refl
label-misplaced (InBlock v) n e = cc

-- the place that is held is that of the state
in_unit : (a : Arena) (u : UnitId) (p : reads.LinePlace) → InUnit a u p → place_in_last (last_unit (contents a)) ≡ p
in_unit a u p w = let t = last_unit-is (last_unit (contents a)) w.text in ap place_in_last t.1 ∙ t.2.place

pub place-is : (a : Arena) (p : LinePlace) → InPlace a p → place_of (state_at a p) ≡ place_held p
place-is a Outside w = refl
place-is a (InEntity u) w = in_unit a u in_entity w
place-is a (BeforeLabels u) w = in_unit a u before_labels w
place-is a (InEmptyBlock u) w = in_unit a u in_empty_block w
place-is a (InBlock u) w = in_unit a u in_block w

-- nothing but entries is new
unit-grows : (a b : Arena) (u : UnitId) (p : reads.LinePlace) → Grows a b → InUnit a u p → InUnit b u p
unit-grows a b u p g w = record {
  within = omega (arith, w.within, g.entries.units);
  opened = g.open_stays u w.opened;
  text = subst (λ o. IsSomeAnd o (EndsIn p)) (sym (ap last_unit g.says)) w.text;
}

pub place-grows : (a b : Arena) (p : LinePlace) → Grows a b → InPlace a p → InPlace b p
place-grows a b Outside g w = tt
place-grows a b (InEntity u) g w = unit-grows a b u in_entity g w
place-grows a b (BeforeLabels u) g w = unit-grows a b u before_labels g w
place-grows a b (InEmptyBlock u) g w = unit-grows a b u in_empty_block g w
place-grows a b (InBlock u) g w = unit-grows a b u in_block g w

pub state-grows : (a b : Arena) (p : LinePlace) → Grows a b → state_at a p ≡ state_at b p
state-grows a b p g = λ i. record { items = sym g.says i; inside = is_inside p }

-- what an instruction asks of the open unit
pub record CanTake (a : Arena) (u : UnitId) (P : UnitText → Type 0) : Type 0 where
  pub within : u.0 < unit_count a
  pub opened : IsOpen a u
  pub text : OfOpen a P

can_take : (a : Arena) (u v : UnitId) (p : reads.LinePlace) (P : UnitText → Type 0) → ((t : UnitText) → HasOpenBlock p t → P t) → Some v ≡ Some u → InUnit a v p → CanTake a u P
can_take a u v p P f e w =
    let g : v ≡ u = cc in
    let t = last_unit-is (last_unit (contents a)) w.text in
    subst (λ x. CanTake a x P) g (record { within = w.within; opened = w.opened; text = last_unit-has P (last_unit (contents a)) t.0 t.1 (f t.0 t.2.has) })

pub inst-asks : (a : Arena) (p : LinePlace) (u : UnitId) → InPlace a p → block_unit p ≡ Some u → CanTake a u (λ t. 0 < length t.blocks)
inst-asks a Outside u w e = cc
inst-asks a (InEntity v) u w e = can_take a u v in_entity (λ t. 0 < length t.blocks) (λ t h. h.1) e w
inst-asks a (BeforeLabels v) u w e = cc
inst-asks a (InEmptyBlock v) u w e = can_take a u v in_empty_block (λ t. 0 < length t.blocks) (λ t h. h.1) e w
inst-asks a (InBlock v) u w e = can_take a u v in_block (λ t. 0 < length t.blocks) (λ t h. h.1) e w

pub label-asks : (a : Arena) (p : LinePlace) (u : UnitId) → InPlace a p → label_unit p ≡ Some u → CanTake a u (λ t. HasLabels t.kind)
label-asks a Outside u w e = cc
label-asks a (InEntity v) u w e = cc
label-asks a (BeforeLabels v) u w e = can_take a u v before_labels (λ t. HasLabels t.kind) (λ t h. h) e w
label-asks a (InEmptyBlock v) u w e = cc
label-asks a (InBlock v) u w e = can_take a u v in_block (λ t. HasLabels t.kind) (λ t h. h.0) e w

-- blocks of a function or process
labelled : (k : UnitKind) (bs : List BlockText) → HasLabels k → place_in k bs ≡ place_after bs
labelled kind.Func bs h = refl
labelled kind.Proc bs h = refl
labelled kind.Entity bs h = absurd h

has_lines-push : (ls : List LineText) (l : LineText) → has_lines (ls ++ l ∷ []) ≡ true
has_lines-push [] l = refl
has_lines-push (x ∷ ls) l = refl

after-line : (l : LineText) (bs : List BlockText) → 0 < length bs → place_after (line_at_end l bs) ≡ in_block
after-line l [] h = absurd (omega arith)
after-line l (b ∷ []) h = ap (λ x. if x then in_block else in_empty_block) (has_lines-push b.lines l)
after-line l (b ∷ c ∷ []) h = ap (λ x. if x then in_block else in_empty_block) (has_lines-push c.lines l)
after-line l (b ∷ c ∷ d ∷ bs) h = after-line l (c ∷ d ∷ bs) (omega arith)

after-block : (n : List ℕ) (bs : List BlockText) → place_after (bs ++ record { label = Some n; lines = [] } ∷ []) ≡ in_empty_block
after-block n [] = refl
after-block n (b ∷ []) = refl
after-block n (b ∷ c ∷ bs) = after-block n (c ∷ bs)

more_blocks : (l : LineText) (bs : List BlockText) → 0 < length bs → 0 < length (line_at_end l bs)
more_blocks l [] h = h
more_blocks l (b ∷ []) h = h
more_blocks l (b ∷ c ∷ bs) h = omega arith

some_block : (bs : List BlockText) (b : BlockText) → 0 < length (bs ++ b ∷ [])
some_block [] b = omega arith
some_block (c ∷ bs) b = omega arith

-- the open unit behind one more line, or one more block
behind : (a b : Arena) (u v : UnitId) (p q : reads.LinePlace) (f : UnitText → UnitText) → ((t : UnitText) → EndsIn p t → EndsIn q (f t)) → Some v ≡ Some u → InUnit a v p
    → HasContents a b u (change_last f (contents a)) → InUnit b v q
behind a b u v p q f g e w s =
    let same : u ≡ v = cc in
    let t = last_unit-is (last_unit (contents a)) w.text in
    record {
      within = omega (arith, w.within, s.entries.units);
      opened = subst (IsOpen b) same s.is_open;
      text = last_unit-has (EndsIn q) (last_unit (contents b)) (f t.0) (ap last_unit s.says ∙ last_unit-change_last f (contents a) t.0 t.1) (g t.0 t.2);
    }

in_entity-line : (l : LineText) (t : UnitText) → EndsIn in_entity t → EndsIn in_entity (with_line l t)
in_entity-line l t w = record { place = ap (λ k. place_in k (line_at_end l t.blocks)) w.has.0; has = (w.has.0, more_blocks l t.blocks w.has.1) }

in_block-line : (l : LineText) (t : UnitText) → HasLabels t.kind → 0 < length t.blocks → EndsIn in_block (with_line l t)
in_block-line l t k h = record { place = labelled t.kind (line_at_end l t.blocks) k ∙ after-line l t.blocks h; has = (k, more_blocks l t.blocks h) }

block-added : (n : List ℕ) (t : UnitText) → HasLabels t.kind → EndsIn in_empty_block (with_block n t)
block-added n t k = record {
  place = labelled t.kind (t.blocks ++ record { label = Some n; lines = [] } ∷ []) k ∙ after-block n t.blocks;
  has = (k, some_block t.blocks (record { label = Some n; lines = [] }));
}

pub behind-line : (a b : Arena) (p : LinePlace) (u : UnitId) (l : LineText) → InPlace a p → block_unit p ≡ Some u → HasContents a b u (change_last (with_line l) (contents a))
    → InPlace b (behind_inst p)
behind-line a b Outside u l w e s = cc
behind-line a b (InEntity v) u l w e s = behind a b u v in_entity in_entity (with_line l) (in_entity-line l) e w s
behind-line a b (BeforeLabels v) u l w e s = cc
behind-line a b (InEmptyBlock v) u l w e s = behind a b u v in_empty_block in_block (with_line l) (λ t h. in_block-line l t h.has.0 h.has.1) e w s
behind-line a b (InBlock v) u l w e s = behind a b u v in_block in_block (with_line l) (λ t h. in_block-line l t h.has.0 h.has.1) e w s

pub behind-block : (a b : Arena) (p : LinePlace) (u : UnitId) (n : List ℕ) → InPlace a p → label_unit p ≡ Some u → HasContents a b u (change_last (with_block n) (contents a))
    → InPlace b (InEmptyBlock u)
behind-block a b Outside u n w e s = cc
behind-block a b (InEntity v) u n w e s = cc
behind-block a b (BeforeLabels v) u n w e s = let g : v ≡ u = cc in
    subst (λ x. InUnit b x in_empty_block) g (behind a b u v before_labels in_empty_block (with_block n) (λ t h. block-added n t h.has) e w s)
behind-block a b (InEmptyBlock v) u n w e s = cc
behind-block a b (InBlock v) u n w e s = let g : v ≡ u = cc in subst (λ x. InUnit b x in_empty_block) g (behind a b u v in_block in_empty_block (with_block n) (λ t h. block-added n t h.has.0) e w s)

pub inside-line : (p : LinePlace) (u : UnitId) → block_unit p ≡ Some u → is_inside (behind_inst p) ≡ true
inside-line Outside u e = cc
inside-line (InEntity v) u e = refl
inside-line (BeforeLabels v) u e = cc
inside-line (InEmptyBlock v) u e = refl
inside-line (InBlock v) u e = refl

-- behind a header
new_entity : (n : UnitName) (args : List ArgText) (r : Option TypeTree) → EndsIn in_entity (headed_unit kind.Entity n args r)
new_entity n args None = record { place = refl; has = (refl, omega arith) }
new_entity n args (Some t) = record { place = refl; has = (refl, omega arith) }

new_func : (n : UnitName) (args : List ArgText) (r : Option TypeTree) → EndsIn before_labels (headed_unit kind.Func n args r)
new_func n args None = record { place = refl; has = tt }
new_func n args (Some t) = record { place = refl; has = tt }

new_proc : (n : UnitName) (args : List ArgText) (r : Option TypeTree) → EndsIn before_labels (headed_unit kind.Proc n args r)
new_proc n args None = record { place = refl; has = tt }
new_proc n args (Some t) = record { place = refl; has = tt }

pub behind-head : (a : Arena) (u : UnitId) (k : UnitKind) (n : UnitName) (args : List ArgText) (r : Option TypeTree) → u.0 < unit_count a → IsOpen a u
    → last_unit (contents a) ≡ Some (headed_unit k n args r) → InPlace a (behind_header k u)
behind-head a u kind.Entity n args r w o e = record
    { within = w; opened = o; text = last_unit-has (EndsIn in_entity) (last_unit (contents a)) (headed_unit kind.Entity n args r) e (new_entity n args r) }
behind-head a u kind.Func n args r w o e = record
    { within = w; opened = o; text = last_unit-has (EndsIn before_labels) (last_unit (contents a)) (headed_unit kind.Func n args r) e (new_func n args r) }
behind-head a u kind.Proc n args r w o e = record
    { within = w; opened = o; text = last_unit-has (EndsIn before_labels) (last_unit (contents a)) (headed_unit kind.Proc n args r) e (new_proc n args r) }

pub inside-head : (k : UnitKind) (u : UnitId) → is_inside (behind_header k u) ≡ true
inside-head kind.Entity u = refl
inside-head kind.Func u = refl
inside-head kind.Proc u = refl
