-- A header or a declaration that is taken or refused.
use Rattle.std.proofs.Common.{◌≡◌, true, false, ◌||◌, List, [], Option, Result, Ok, Err, IsErrAnd, refl, ap, sym, ◌∙◌, subst, inl, inr}
use Rattle.std.proofs.Math.Bool.{or-true}
use Rattle.lh_types.specs.Types.{TypeTree}
use Rattle.lh_unit.specs.Contents.{ArgText, last_unit, defines_unit}
use Rattle.lh_unit.specs.Arena.{Arena, contents}
use Rattle.lh_unit.specs.Builders.{AddsDeclare}
use Rattle.lh_unit.specs.Spells.{header_item, declare_item}
use Rattle.lh_unit.specs.Reads.{ReadState, place_of, may_stand, defines_again, args_repeat, is_assert, headed_unit, syntax, duplicate_name}
use Rattle.lh_unit_names.specs.declared.name.UnitName.{UnitName}
use Rattle.lh_unit.specs.declared.inst.UnitId.{UnitId}
use Rattle.lh_unit.specs.declared.inst.UnitKind.{UnitKind}
use Rattle.lh_unit.specs.declared.inst.Declare.{Declare}
use Rattle.lh_read.specs.declared.faults.LineFault.{LineFault}
use Rattle.lh_read.specs.declared.faults.LineFault.TheVariants as line
use Rattle.lh_read.specs.declared.places.LinePlace.{LinePlace}
use Rattle.lh_read.specs.declared.places.LinePlace.TheVariants.{Outside, InEntity, BeforeLabels, InEmptyBlock, InBlock}
use Rattle.lh_read.specs.Places.{is_inside, behind_header}
use Rattle.lh_read.specs.InOrder.{state_at, InPlace}
use Rattle.lh_read.specs.Steps.{step}
use Rattle.lh_read.specs.Building.{Heads, Steps}
use Rattle.lh_read.proofs.StepAnswers.{step-ok, step-misplaced, step-again}
use Rattle.lh_read.proofs.PlaceLaws.{place-is, header-stands, declare-stands, behind-head, inside-head}
use Rattle.lh_unit.proofs.ContentsLemmas.{last_unit-push}

-- a header in this place
module _ (a : Arena) (p : LinePlace) (w : InPlace a p) (k : UnitKind) (n : UnitName) (args : List ArgText) (r : Option TypeTree) where
  pub header-inside : is_inside p ≡ true → step (state_at a p) (header_item k n args r) ≡ Err syntax
  header-inside e = step-misplaced (state_at a p) (header_item k n args r) (ap (λ q. may_stand q (header_item k n args r)) (place-is a p w) ∙ header-stands p k n args r true e)

  stands : is_inside p ≡ false → may_stand (place_of (state_at a p)) (header_item k n args r) ≡ true
  stands e = ap (λ q. may_stand q (header_item k n args r)) (place-is a p w) ∙ header-stands p k n args r false e

  again : is_inside p ≡ false → defines_again (state_at a p) (header_item k n args r) ≡ true → step (state_at a p) (header_item k n args r) ≡ Err duplicate_name
  again e d = step-again (state_at a p) (header_item k n args r) (stands e) refl d

  pub header-assert : is_inside p ≡ false → is_assert n ≡ true → step (state_at a p) (header_item k n args r) ≡ Err duplicate_name
  header-assert e d = again e (ap (λ b. (defines_unit n (contents a) || b) || args_repeat [] args) d ∙ ap (λ b. b || args_repeat [] args) (or-true (defines_unit n (contents a))))

  defined : is_inside p ≡ false → defines_unit n (contents a) ≡ true → step (state_at a p) (header_item k n args r) ≡ Err duplicate_name
  defined e d = again e (ap (λ b. (b || is_assert n) || args_repeat [] args) d)

  repeated : is_inside p ≡ false → args_repeat [] args ≡ true → step (state_at a p) (header_item k n args r) ≡ Err duplicate_name
  repeated e d = again e (ap (λ b. (defines_unit n (contents a) || is_assert n) || b) d ∙ or-true (defines_unit n (contents a) || is_assert n))

  pub head-taken : (u : UnitId) (b : Arena) → is_inside p ≡ false → is_assert n ≡ false → Heads (Ok u) a b n k args r
      → step (state_at a p) (header_item k n args r) ≡ Ok (state_at b (behind_header k u))
  head-taken u b e f h =
      step-ok (state_at a p) (header_item k n args r) (stands e) refl
      (ap (λ x. (x || is_assert n) || args_repeat [] args) h.0 ∙ ap (λ x. x || args_repeat [] args) f ∙ h.1)
      ∙ (λ i. Ok (record { items = sym h.2 i; inside = sym (inside-head k u) i }))

  refused : (f : LineFault) (b : Arena) (s : ReadState) → is_inside p ≡ false → Heads (Err f) a b n k args r → Steps (Err f) (step (state_at a p) (header_item k n args r)) s
  refused line.DuplicateName b s e h = elim h [ inl d ↦ defined e d | inr d ↦ repeated e d ]
  refused line.OutOfMemory b s e h = tt
  refused line.UnitTooLarge b s e h = absurd h
  refused line.Syntax b s e h = absurd h

  pub head-refused : (o : Result (Unit {0}) LineFault) (f : LineFault) (b : Arena) (s : ReadState) → is_inside p ≡ false → Heads (Err f) a b n k args r → IsErrAnd o (λ x. x ≡ f)
      → Steps o (step (state_at a p) (header_item k n args r)) s
  head-refused (Ok x) f b s e h v = absurd v
  head-refused (Err x) f b s e h v = subst (λ y. Steps (Err y) (step (state_at a p) (header_item k n args r)) s) (sym v) (refused f b s e h)

  pub head-placed : (u : UnitId) (b : Arena) → Heads (Ok u) a b n k args r → InPlace b (behind_header k u)
  head-placed u b h = behind-head b u k n args r h.4 h.3 (ap last_unit h.2 ∙ last_unit-push (contents a) (headed_unit k n args r))

-- a declaration in this place
pub declare-inside : (a : Arena) (p : LinePlace) (d : Declare) → InPlace a p → is_inside p ≡ true → step (state_at a p) (declare_item d) ≡ Err syntax
declare-inside a p d w e = step-misplaced (state_at a p) (declare_item d) (ap (λ q. may_stand q (declare_item d)) (place-is a p w) ∙ declare-stands p d true e)

pub declare-taken : (a b : Arena) (p : LinePlace) (d : Declare) → InPlace a p → is_inside p ≡ false → AddsDeclare (Ok tt) a b d → step (state_at a p) (declare_item d) ≡ Ok (state_at b p)
declare-taken a b p d w e h =
    step-ok (state_at a p) (declare_item d) (ap (λ q. may_stand q (declare_item d)) (place-is a p w) ∙ declare-stands p d false e) refl refl
    ∙ (λ i. Ok (record { items = sym h.0 i; inside = sym e i }))

pub outside-placed : (a : Arena) (p : LinePlace) → is_inside p ≡ false → InPlace a p
outside-placed a Outside e = tt
outside-placed a (InEntity u) e = cc
outside-placed a (BeforeLabels u) e = cc
outside-placed a (InEmptyBlock u) e = cc
outside-placed a (InBlock u) e = cc
