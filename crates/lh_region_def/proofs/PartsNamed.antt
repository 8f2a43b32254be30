-- A name is that of one part.
use Rattle.std.proofs.Common.{◌≡◌, ℕ, ◌+◌, List, [], ◌∷◌, Bool, true, false, ◌||◌, Some, None, refl, ap, sym, ◌∙◌, subst}
use Rattle.std.specs.Bool.{if◌then◌else◌}
use Rattle.std.specs.Option.{option_and_then, option_map}
use Rattle.std.proofs.lemmas.Bool.{false≢true, or_parts}
use Rattle.std.proofs.lemmas.Option.{same_Some, none-some}
use Rattle.lh_types.specs.declared.op.Op.{Op}
use Rattle.lh_unit.specs.Contents.{OperandText, pure_text, ArgText, UnitText, args_define}
use Rattle.lh_unit_names.specs.Names.{same_name}
use Rattle.lh_unit.specs.Effects.{step_of}
use Rattle.lh_unit.specs.Typing.{carried}
use Rattle.lh_term.specs.declared.part.Part.{Part}
use Rattle.lh_region_def.specs.Known.{known_part, argument_part}
use Rattle.lh_term.specs.Parts.{whole_argument}
use Rattle.lh_region_def.specs.Places.{stepped}
use Rattle.lh_region_def.specs.Typed.{IsPartOf, of_argument, of_step}

-- an argument's part is that of an argument
pub part-argument : (n : List ℕ) (i : ℕ) (xs : List ArgText) (p : Part) → argument_part n i xs ≡ Some p → args_define n xs ≡ true
part-argument n i [] p q = absurd (none-some p q)
part-argument n i (a ∷ xs) p q = by (same_name a.name n) q (part-argument n (i + 1) xs p)
  where
    by : (b : Bool) → (if b then option_map (whole_argument i) (carried a.ty) else argument_part n (i + 1) xs) ≡ Some p → (argument_part n (i + 1) xs ≡ Some p → args_define n xs ≡ true)
        → (b || args_define n xs) ≡ true
    by true g go = refl
    by false g go = go g

-- a name that is no argument's has no argument's part
pub no-argument : (n : List ℕ) (i : ℕ) (xs : List ArgText) → args_define n xs ≡ false → argument_part n i xs ≡ None
no-argument n i [] h = refl
no-argument n i (a ∷ xs) h =
    let b = or_parts (same_name a.name n) (args_define n xs) h in
    ap (λ z. if z then option_map (whole_argument i) (carried a.ty) else argument_part n (i + 1) xs) b.0 ∙ no-argument n (i + 1) xs b.1

same-args : (o o' : Op) (x x' : OperandText) → Some (pure_text o (x ∷ [])) ≡ Some (pure_text o' (x' ∷ [])) → (o ≡ o') × (x ≡ x')
same-args o o' x x' e = (cc, cc)

pub part-is : (p q : Part) → Some (known_part p) ≡ Some (known_part q) → p ≡ q
part-is p q e = cc

pub one-part : (u : UnitText) (n : List ℕ) (p q : Part) → IsPartOf u n p → IsPartOf u n q → p ≡ q
one-part u n p q (of_argument _ _ e) (of_argument _ _ f) = same_Some p q (sym e ∙ f)
one-part u n p q (of_argument _ _ e) (of_step _ o x w _ d g h s) = absurd (false≢true (sym d ∙ part-argument n 0 u.args p e))
one-part u n p q (of_step _ o x w _ d g h s) (of_argument _ _ f) = absurd (false≢true (sym d ∙ part-argument n 0 u.args q f))
one-part u n p q (of_step _ o x w _ d g h s) (of_step _ o' x' w' _ d' g' h' s') =
    let same = same-args o o' x x' (sym g ∙ g') in
    let named : IsPartOf u x.value w' = subst (λ (y : OperandText). IsPartOf u y.value w') (sym same.1) h' in
    let part : w ≡ w' = one-part u x.value w w' h named in
    part-is p q (sym s ∙ (λ i. stepped (Some (part i)) (option_and_then carried (same.1 i).ty) (step_of (same.0 i))) ∙ s')
