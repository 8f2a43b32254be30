-- Ids and names of a copy, part by part.
use Rattle.std.proofs.Common.{◌≡◌, ℕ, Bool, List, [], ◌∷◌, map, Option, Some, None, refl, ap, ◌∙◌}
use Rattle.std.specs.Option.{option_map}
use Rattle.lh_types.specs.Types.{TypeTree}
use Rattle.lh_unit.specs.ById.{operand_ids, maybe_id}
use Rattle.lh_unit.specs.Contents.{OperandText, EdgeText, pure_text, var_text, ld_text, prb_text, phi_text, br_text, UnitText}
use Rattle.lh_unit.specs.Naming.{Naming, value_text, maybe_text, operand_text, edge_text}
use Rattle.lh_unit.specs.Within.{Each, ValueWithin, MaybeWithin, OperandWithin, EdgeWithin}
use Rattle.lh_unit.proofs.Lists.{Each-left, Each-right}
use Rattle.lh_unit_names.specs.declared.name.UnitName.{UnitName}
use Rattle.lh_unit.specs.declared.inst.BlockId.{BlockId}
use Rattle.lh_unit.specs.declared.inst.ValueId.{ValueId}
use Rattle.lh_unit.specs.declared.inst.Typed.{Typed}
use Rattle.lh_unit.specs.declared.inst.PhiEdge.{PhiEdge}
use Rattle.lh_unit.specs.declared.inst.Inst.TheVariants as inst
use Rattle.lh_flat.specs.declared.rename.Renaming.{Renaming}
use Rattle.lh_flat.specs.Copies.{Copy, copied_operand, copied_edge}
use Rattle.lh_flat.specs.Renames.{value_in, last_in, operand_in, edge_in, sizes_in}
use Rattle.lh_flat.specs.Agrees.{IsOneOfBlocks, IsKnown, Agrees, RenamesAsCopied}

abbrev typed : Option TypeTree → List ℕ → OperandText
typed t n = record { value = n; ty = t }

abbrev edged : List ℕ → List ℕ → EdgeText
edged v b = record { value = v; block = b }

operand-same : (f g : Naming) (fs : List UnitText) (kn : ℕ → Bool) (bs : List BlockId) (y : Bool) (c : Copy) (r : Renaming) (n : ℕ) → Agrees f g fs kn bs y c r → (o : Typed)
    → OperandWithin (sizes_in n r) o → IsKnown kn o.value → operand_text g (operand_in r o) ≡ copied_operand c (operand_text f o)
operand-same f g fs kn bs y c r n a o l w = ap (typed o.ty) (a.values o.value l w)

operands-same : (f g : Naming) (fs : List UnitText) (kn : ℕ → Bool) (bs : List BlockId) (y : Bool) (c : Copy) (r : Renaming) (n : ℕ) → Agrees f g fs kn bs y c r → (os : List Typed)
    → Each (OperandWithin (sizes_in n r)) os → Each (IsKnown kn) (operand_ids os) → map (operand_text g) (map (operand_in r) os) ≡ map (copied_operand c) (map (operand_text f) os)
operands-same f g fs kn bs y c r n a [] l w = refl
operands-same f g fs kn bs y c r n a (o ∷ os) l w = cc (operand-same f g fs kn bs y c r n a o l.0 w.0, operands-same f g fs kn bs y c r n a os l.1 w.1)

edge-same : (f g : Naming) (fs : List UnitText) (kn : ℕ → Bool) (bs : List BlockId) (y : Bool) (c : Copy) (r : Renaming) (n : ℕ) → Agrees f g fs kn bs y c r → (e : PhiEdge)
    → EdgeWithin (sizes_in n r) e → IsKnown kn e.value → IsOneOfBlocks bs e.block → edge_text g (edge_in r e) ≡ copied_edge fs c (edge_text f e)
edge-same f g fs kn bs y c r n a e l w q =
    ap (λ v. edged v (g.label_name (last_in r e.block).0)) (a.values e.value l.0 w) ∙ ap (edged (c.value (value_text f e.value))) (a.lasts e.block q)

edges-same : (f g : Naming) (fs : List UnitText) (kn : ℕ → Bool) (bs : List BlockId) (y : Bool) (c : Copy) (r : Renaming) (n : ℕ) → Agrees f g fs kn bs y c r → (es : List PhiEdge)
    → Each (EdgeWithin (sizes_in n r)) es → Each (IsKnown kn) (map (λ (x : PhiEdge). x.value) es) → Each (IsOneOfBlocks bs) (map (λ (x : PhiEdge). x.block) es)
    → map (edge_text g) (map (edge_in r) es) ≡ map (copied_edge fs c) (map (edge_text f) es)
edges-same f g fs kn bs y c r n a [] l w q = refl
edges-same f g fs kn bs y c r n a (e ∷ es) l w q = cc (edge-same f g fs kn bs y c r n a e l.0 w.0 q.0, edges-same f g fs kn bs y c r n a es l.1 w.1 q.1)

values-same : (f g : Naming) (fs : List UnitText) (kn : ℕ → Bool) (bs : List BlockId) (y : Bool) (c : Copy) (r : Renaming) (n : ℕ) → Agrees f g fs kn bs y c r → (vs : List ValueId)
    → Each (ValueWithin (sizes_in n r)) vs → Each (IsKnown kn) vs → map (value_text g) (map (value_in r) vs) ≡ map c.value (map (value_text f) vs)
values-same f g fs kn bs y c r n a [] l w = refl
values-same f g fs kn bs y c r n a (v ∷ vs) l w = cc (a.values v l.0 w.0, values-same f g fs kn bs y c r n a vs l.1 w.1)

pub maybe-same : (f g : Naming) (fs : List UnitText) (kn : ℕ → Bool) (bs : List BlockId) (y : Bool) (c : Copy) (r : Renaming) (n : ℕ) → Agrees f g fs kn bs y c r → (o : Option ValueId)
    → MaybeWithin (sizes_in n r) o → Each (IsKnown kn) (maybe_id o) → maybe_text g (option_map (value_in r) o) ≡ option_map c.value (maybe_text f o)
maybe-same f g fs kn bs y c r n a None l w = refl
maybe-same f g fs kn bs y c r n a (Some v) l w = ap Some (a.values v l w.0)

pub renames_as_copied : RenamesAsCopied
renames_as_copied f g fs kn bs y c r n a (inst.Const v) k p w q = refl
renames_as_copied f g fs kn bs y c r n a (inst.Pure op args) k p w q = ap (pure_text op) (operands-same f g fs kn bs y c r n a args p w)
renames_as_copied f g fs kn bs y c r n a (inst.Var t) k p w q = ap var_text (operand-same f g fs kn bs y c r n a t p w.0)
renames_as_copied f g fs kn bs y c r n a (inst.Ld t) k p w q = ap ld_text (operand-same f g fs kn bs y c r n a t p w.0)
renames_as_copied f g fs kn bs y c r n a (inst.St to value) k p w q = cc (operand-same f g fs kn bs y c r n a to p.0 w.0, a.values value p.1 w.1.0)
renames_as_copied f g fs kn bs y c r n a (inst.Sig t) k p w q = absurd k
renames_as_copied f g fs kn bs y c r n a (inst.Prb t) k p w q = ap prb_text (operand-same f g fs kn bs y c r n a t p w.0)
renames_as_copied f g fs kn bs y c r n a (inst.Drv to value after cond) k p w q = cc
    (operand-same f g fs kn bs y c r n a to p.0 w.0, a.values value p.1 w.1.0, a.values after p.2 w.1.1.0, maybe-same f g fs kn bs y c r n a cond p.3 w.1.1.1)
renames_as_copied f g fs kn bs y c r n a (inst.Reg to triggers) k p w q = absurd k
renames_as_copied f g fs kn bs y c r n a (inst.Child unit inputs outputs) k p w q = absurd k
renames_as_copied f g fs kn bs y c r n a (inst.Call unit ty args) k p w q = cc (ap (λ (h : ℕ → UnitName). h unit.0) a.units, operands-same f g fs kn bs y c r n a args p.1 w)
renames_as_copied f g fs kn bs y c r n a (inst.Phi ty edges) k p w q = ap (phi_text ty) (edges-same f g fs kn bs y c r n a edges p w q)
renames_as_copied f g fs kn bs y c r n a (inst.Br to) k p w q = ap br_text (a.firsts to q.0)
renames_as_copied f g fs kn bs y c r n a (inst.Branch cond zero one) k p w q = cc (a.values cond p.0 w.0, a.firsts zero q.0, a.firsts one q.1.0)
renames_as_copied f g fs kn bs y c r n a (inst.Wait to after signals) k p w q = cc (
  a.firsts to q.0,
  maybe-same f g fs kn bs y c r n a after p.1 (Each-left (IsKnown kn) (maybe_id after) signals w),
  values-same f g fs kn bs y c r n a signals p.2 (Each-right (IsKnown kn) (maybe_id after) signals w),
)
renames_as_copied f g fs kn bs y c r n a inst.Halt k p w q = refl
renames_as_copied f g fs kn bs y c r n a (inst.Ret None) k p w q = ap br_text (a.back k)
renames_as_copied f g fs kn bs y c r n a (inst.Ret (Some t)) k p w q = ap br_text (a.back k)
