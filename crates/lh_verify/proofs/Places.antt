-- The faults of an instruction at its place, part by part.
use Rattle.std.proofs.Common.{◌≡◌, ℕ, suc, length, Bool, true, false, not, ◌&&◌, ◌||◌, if◌then◌else◌, List, map, Option, Some, None, refl, ap, sym, ◌∙◌}
use Rattle.std.specs.Option.{option_map}
use Rattle.std.specs.List.{list_any}
use Rattle.lh_unit.specs.Contents.{UnitText, ItemText}
use Rattle.lh_unit.specs.Typing.{or_else}
use Rattle.lh_unit.specs.TypingRows.{types_fit}
use Rattle.lh_unit.specs.Naming.{Naming, inst_text}
use Rattle.lh_unit.specs.Arena.{table_at}
use Rattle.lh_unit.specs.Places.{places}
use Rattle.lh_unit.specs.WellFormed.{number_of, undefined, wrong_kind, wrong_type, not_here, no_terminator, phi_edges, not_defined, arguments, is_undefined, is_wrong_kind, is_wrong_type, is_asked, has_wrong_kind, has_no_kind, names_wrong_unit, probes_for_signal, result_fits, depends_on_probe}
use Rattle.lh_unit.specs.declared.inst.UnitKind.{UnitKind}
use Rattle.lh_unit.specs.declared.inst.Inst.{Inst}
use Rattle.lh_verify_operands.specs.declared.uses.Use.{Use}
use Rattle.lh_verify_values.specs.declared.scope.Scope.{Scope}
use Rattle.lh_verify.specs.declared.spots.Spot.{Spot}
use Rattle.lh_verify.specs.OperandTests.{ends_wrong}
use Rattle.lh_verify.specs.Faults.{inst_in, text_of, has_fault, first_of, lowest, hides_paths, lowest_of_operands, lowest_of_place}
use Rattle.lh_verify.specs.PhisById.{phi_is_wrong}
use Rattle.lh_verify_values.specs.Facts.{text_in, naming_in, items_in, from_probe}
use Rattle.lh_verify_operands.specs.Uses.{use_text, uses_of}
use Rattle.lh_verify_operands.proofs.UsesText.{uses-text}

pub from-probe-is : (t : UnitText) (n : List ℕ) → from_probe t n ≡ depends_on_probe (suc (length (places t))) t n
unfolding from_probe
from-probe-is t n = refl

-- the parts of fault 2 and of fault 3
module _ (items : List ItemText) (t : UnitText) (f : Naming) (i : Inst) (os : List Use) (e : os ≡ uses_of i) where
  pub kind-parts : is_wrong_kind items t (inst_text f i)
      ≡ (is_asked t (inst_text f i) && ((list_any (has_wrong_kind t) (map (use_text f) os) || names_wrong_unit items (inst_text f i)) || probes_for_signal t (inst_text f i)))
  kind-parts = ap (λ us. is_asked t (inst_text f i) && ((list_any (has_wrong_kind t) us || names_wrong_unit items (inst_text f i)) || probes_for_signal t (inst_text f i)))
      (sym (ap (map (use_text f)) e ∙ uses-text f i))

  pub type-parts : is_wrong_type items t (inst_text f i)
      ≡ (is_asked t (inst_text f i) && ((list_any (has_no_kind t) (map (use_text f) os) || not (types_fit t (inst_text f i))) || not (result_fits items (inst_text f i))))
  type-parts = ap (λ us. is_asked t (inst_text f i) && ((list_any (has_no_kind t) us || not (types_fit t (inst_text f i))) || not (result_fits items (inst_text f i))))
      (sym (ap (map (use_text f)) e ∙ uses-text f i))

-- the numbers of the faults in their order
numbers : (a b d e g h l m : Bool) → option_map number_of (first_of a undefined
    (first_of b wrong_kind (first_of d wrong_type (first_of e not_here (first_of g no_terminator (first_of h phi_edges (first_of l not_defined (first_of m arguments None))))))))
    ≡ or_else (if a then Some 1 else (if b then Some 2 else (if d then Some 3 else None))) (if e then Some
    4 else (if g then Some 5 else (if h then Some 6 else (if l then Some 7 else (if m then Some 8 else None)))))
numbers true b d e g h l m = refl
numbers false true d e g h l m = refl
numbers false false true e g h l m = refl
numbers false false false true g h l m = refl
numbers false false false false true h l m = refl
numbers false false false false false true l m = refl
numbers false false false false false false true m = refl
numbers false false false false false false false true = refl
numbers false false false false false false false false = refl

pub lowest-parts : (s : Scope) (x : Spot) (lacks : Bool) (i : Inst) → i ≡ inst_in s x
    → option_map number_of (lowest s x lacks) ≡ or_else (lowest_of_operands (items_in s) (text_in s) (inst_text (naming_in s) i)) (lowest_of_place s x i lacks)
unfolding text_of
lowest-parts s x lacks i e =
    numbers (has_fault s x undefined) (has_fault s x wrong_kind) (has_fault s x wrong_type) (has_fault s x not_here) (has_fault s x no_terminator) (has_fault s x phi_edges) lacks
    (has_fault s x arguments)
    ∙ ap (λ (z : Inst). or_else (lowest_of_operands (items_in s) (text_in s) (inst_text (naming_in s) z)) (lowest_of_place s x z lacks)) (sym e)

pub or-some : (o r : Option ℕ) (n : ℕ) → o ≡ Some n → Some n ≡ or_else o r
or-some o r n e = ap (λ p. or_else p r) (sym e)

pub or-none : (o r q : Option ℕ) → o ≡ None → q ≡ r → q ≡ or_else o r
or-none o r q e g = g ∙ ap (λ p. or_else p r) (sym e)

pub hides-parts : (s : Scope) (x : Spot) (k : UnitKind) (i : Inst) → k ≡ (text_in s).kind → i ≡ inst_in s x
    → hides_paths s x ≡ ((is_undefined (items_in s) (text_in s) (inst_text (naming_in s) i) || ends_wrong k x.last (inst_text (naming_in s) i)) || phi_is_wrong (table_at s.module.now s.unit.0) x i)
unfolding text_of
hides-parts s x k i e g =
    ap (λ (z : Inst). (is_undefined (items_in s) (text_in s) (inst_text (naming_in s) z) || ends_wrong (text_in s).kind x.last (inst_text (naming_in s) z))
    || phi_is_wrong (table_at s.module.now s.unit.0) x z) (sym g)
    ∙ ap (λ (z : UnitKind). (is_undefined (items_in s) (text_in s) (inst_text (naming_in s) i) || ends_wrong z x.last (inst_text (naming_in s) i)) || phi_is_wrong (table_at s.module.now s.unit.0) x i)
    (sym e)

-- one of three that holds, or the first
pub middle-holds : (a b d : Bool) → b ≡ true → true ≡ ((a || b) || d)
middle-holds true b d e = refl
middle-holds false b d e = ap (λ x. x || d) (sym e)

pub last-holds : (a b d : Bool) → d ≡ true → true ≡ ((a || b) || d)
last-holds true b d e = refl
last-holds false true d e = refl
last-holds false false d e = sym e

pub first-left : (a b d r : Bool) → b ≡ false → d ≡ false → r ≡ a → r ≡ ((a || b) || d)
first-left true true d r e g h = cc
first-left true false d r e g h = h
first-left false b d r e g h = h ∙ sym (ap (λ x. x || d) e ∙ g)
