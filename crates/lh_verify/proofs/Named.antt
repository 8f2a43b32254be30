-- What an instruction names.
use Rattle.std.proofs.Common.{◌≡◌, ◌<◌, List, [], ◌∷◌, Bool, true, false, not, ◌||◌, map, Some, None, refl, ap, sym, ◌∙◌}
use Rattle.std.specs.List.{list_any}
use Rattle.lh_types.specs.Types.{TypeTree}
use Rattle.lh_unit.specs.Contents.{EdgeText, UnitText, ItemText, defines_value, defines_label, phi_text}
use Rattle.lh_unit.specs.Kinds as kinds
use Rattle.lh_unit.specs.Naming.{Naming, inst_text}
use Rattle.lh_unit.specs.WellFormed.{is_undefined, values_named}
use Rattle.lh_unit.specs.Within.{Sizes, Each, InstWithin}
use Rattle.lh_unit.specs.ById.{blocks_led_to}
use Rattle.lh_unit.specs.declared.inst.BlockId.{BlockId}
use Rattle.lh_unit.specs.declared.inst.PhiEdge.{PhiEdge}
use Rattle.lh_unit.specs.declared.inst.Inst.{Inst}
use Rattle.lh_unit.specs.declared.inst.Inst.TheVariants as inst
use Rattle.lh_verify.specs.OperandTests.{names_nothing, label_is_missing, edge_is_missing, label_is_missing_in, unit_is_missing_in}
use Rattle.lh_verify_operands.specs.declared.uses.Use.{Use}
use Rattle.lh_verify_operands.specs.Uses.{use_text, uses_of}
use Rattle.lh_verify_operands.proofs.UsesText.{uses-text}

edges-missing : (t : UnitText) (es : List EdgeText) → list_any (edge_is_missing t) es ≡ list_any (λ n. not (defines_label n t)) (map (λ (e : EdgeText). e.block) es)
edges-missing t [] = refl
edges-missing t (e ∷ es) = ap (λ b. edge_is_missing t e || b) (edges-missing t es)

pub edges-named : (t : UnitText) (ty : TypeTree) (es : List EdgeText) → list_any (edge_is_missing t) es ≡ label_is_missing_in t (phi_text ty es)
edges-named t ty es = edges-missing t es

values-missing : (t : UnitText) (xs : List kinds.Use) → list_any (names_nothing t) xs ≡ list_any (λ n. not (defines_value n t)) (map (λ (x : kinds.Use). x.value) xs)
values-missing t [] = refl
values-missing t (x ∷ xs) = ap (λ b. names_nothing t x || b) (values-missing t xs)

operands-missing : (t : UnitText) (f : Naming) (i : Inst) (os : List Use) → os ≡ uses_of i
    → list_any (names_nothing t) (map (use_text f) os) ≡ list_any (λ n. not (defines_value n t)) (values_named (inst_text f i))
operands-missing t f i os e =
    ap (λ l. list_any (names_nothing t) (map (use_text f) l)) e
    ∙ ap (list_any (names_nothing t)) (uses-text f i)
    ∙ values-missing t (kinds.uses (inst_text f i))

-- the labels to which an instruction leads
pub targets-within : (s : Sizes) (i : Inst) → InstWithin s i → Each (λ (b : BlockId). b.0 < s.labels) (blocks_led_to i)
targets-within s (inst.Br to) h = (h, tt)
targets-within s (inst.Branch cond zero one) h = (h.1, (h.2, tt))
targets-within s (inst.Wait to after signals) h = (h.0, tt)
targets-within s _ h = tt

pub targets-named : (t : UnitText) (f : Naming) (i : Inst) → ((ty : TypeTree) (es : List PhiEdge) → i ≡ inst.Phi ty es → ⊥)
    → list_any (label_is_missing t) (map (λ (b : BlockId). f.label_name b.0) (blocks_led_to i)) ≡ label_is_missing_in t (inst_text f i)
targets-named t f (inst.Phi ty es) h = absurd (h ty es refl)
targets-named t f (inst.Ret None) h = refl
targets-named t f (inst.Ret (Some o)) h = refl
targets-named t f _ h = refl

-- the three parts of fault 1
pub undefined-parts : (items : List ItemText) (t : UnitText) (f : Naming) (i : Inst) (os : List Use) → os ≡ uses_of i
    → is_undefined items t (inst_text f i) ≡ ((list_any (names_nothing t) (map (use_text f) os) || label_is_missing_in t (inst_text f i)) || unit_is_missing_in items (inst_text f i))
undefined-parts items t f i os e = ap (λ b. (b || label_is_missing_in t (inst_text f i)) || unit_is_missing_in items (inst_text f i)) (sym (operands-missing t f i os e))

-- the first of three, or the last
pub three-first : (a b d : Bool) → a ≡ true → true ≡ ((a || b) || d)
three-first a b d e = ap (λ x. (x || b) || d) (sym e)

pub three-second : (a b d : Bool) → a ≡ false → b ≡ true → true ≡ ((a || b) || d)
three-second a b d e f = ap (λ x. x || d) (sym f) ∙ ap (λ x. (x || b) || d) (sym e)

pub three-third : (a b d r : Bool) → a ≡ false → b ≡ false → r ≡ d → r ≡ ((a || b) || d)
three-third a b d r e f g = g ∙ ap (λ x. x || d) (sym f) ∙ ap (λ x. (x || b) || d) (sym e)
