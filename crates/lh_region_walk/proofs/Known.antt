-- Terms of what is known, and ids within the numbers of a text.
use Rattle.std.proofs.Common.{◌≡◌, ℕ, ◌<◌, List, Option, Some, None, refl, subst}
use Rattle.std.specs.Option.{option_and_then}
use Rattle.std.proofs.lemmas.Option.{same_Some, none-some}
use Rattle.lh_types.specs.Types.{TypeTree}
use Rattle.lh_unit.specs.declared.inst.Inst.{Inst}
use Rattle.lh_unit.specs.declared.inst.ValueId.{ValueId}
use Rattle.lh_unit.specs.ById.{maybe_id, values_used}
use Rattle.lh_unit.specs.Contents.{UnitText}
use Rattle.lh_unit.specs.Typing.{value_type}
use Rattle.lh_flat.specs.declared.flat.FlatInst.{FlatInst}
use Rattle.lh_flat.specs.Below.{ValuesBelow, InstBelow}
use Rattle.lh_term.specs.Tree.{Tree}
use Rattle.lh_term.specs.declared.part.Part.{Part}
use Rattle.lh_region_def.specs.Known.{Known, known_value, known_cell, known_part, Knowledge, as_value, as_cell, as_part, value_known, cell_known, part_known}
use Rattle.lh_region_def.specs.Typed.{KnowsTyped, IsPartOf}
use Rattle.lh_region.specs.Walking.{as_term, term_known}

-- ---- terms of what is known

pub value-term : (k : Knowledge) (n : List ℕ) (x : Tree) → value_known k n ≡ Some x → term_known k n ≡ Some x
value-term k n x q = by (k n) q
  where
    by : (o : Option Known) → option_and_then as_value o ≡ Some x → option_and_then as_term o ≡ Some x
    by None e = absurd (none-some x e)
    by (Some (known_value y)) e = e
    by (Some (known_cell y)) e = absurd (none-some x e)
    by (Some (known_part p)) e = absurd (none-some x e)

pub cell-term : (k : Knowledge) (n : List ℕ) (x : Tree) → cell_known k n ≡ Some x → term_known k n ≡ Some x
cell-term k n x q = by (k n) q
  where
    by : (o : Option Known) → option_and_then as_cell o ≡ Some x → option_and_then as_term o ≡ Some x
    by None e = absurd (none-some x e)
    by (Some (known_value y)) e = absurd (none-some x e)
    by (Some (known_cell y)) e = e
    by (Some (known_part p)) e = absurd (none-some x e)

pub part-of-known : (u : UnitText) (k : Knowledge) (n : List ℕ) (p : Part) (t : TypeTree) → KnowsTyped u k → value_type u n ≡ Some t → part_known k n ≡ Some p → IsPartOf u n p
part-of-known u k n p t h v q = by (k n) refl q
  where
    by : (o : Option Known) → k n ≡ o → option_and_then as_part o ≡ Some p → IsPartOf u n p
    by None g e = absurd (none-some p e)
    by (Some (known_value y)) g e = absurd (none-some p e)
    by (Some (known_cell y)) g e = absurd (none-some p e)
    by (Some (known_part x)) g e = subst (IsPartOf u n) (same_Some x p e) (h n (known_part x) t g v).0.1

-- ---- ids within the text's numbers

pub result-low : (n k : ℕ) (l : FlatInst) (v : ValueId) → InstBelow n k l → l.result ≡ Some v → v.0 < n
result-low n k l v low e = (subst (λ (r : Option ValueId). ValuesBelow n (maybe_id r)) e low.result).0

pub used-low : (n k : ℕ) (l : FlatInst) (j : Inst) → InstBelow n k l → l.inst ≡ j → ValuesBelow n (values_used j)
used-low n k l j low e = subst (λ (x : Inst). ValuesBelow n (values_used x)) e low.used
