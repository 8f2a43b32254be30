-- The values of an instruction's operands are those that it uses.
use Rattle.std.proofs.Common.{◌≡◌, List, [], ◌∷◌, ◌++◌, map, Option, Some, None, refl, ap, ◌∙◌}
use Rattle.std.proofs.lemmas.List.{map-append}
use Rattle.lh_unit.specs.declared.inst.ValueId.{ValueId}
use Rattle.lh_unit.specs.declared.inst.Typed.{Typed}
use Rattle.lh_unit.specs.declared.inst.RegTrigger.{RegTrigger}
use Rattle.lh_unit.specs.declared.inst.PhiEdge.{PhiEdge}
use Rattle.lh_unit.specs.declared.inst.Inst.{Inst}
use Rattle.lh_unit.specs.declared.inst.Inst.TheVariants as inst
use Rattle.lh_unit.specs.ById as ids
use Rattle.lh_verify_operands.specs.declared.uses.Need.{Need}
use Rattle.lh_verify_operands.specs.declared.uses.Need.TheVariants.{Data, Time, Signal, DataOrTime}
use Rattle.lh_verify_operands.specs.declared.uses.Use.{Use}
use Rattle.lh_verify_operands.specs.Uses.{all_used, values_used, maybe_used, operation_need, trigger_uses, triggers_uses, edges_used, uses_of, values_of}

abbrev the_value : Use → ValueId
the_value u = u.value

all-values : (n : Need) (os : List Typed) → values_of (all_used n os) ≡ ids.operand_ids os
all-values n [] = refl
all-values n (o ∷ os) = ap (λ l. o.value ∷ l) (all-values n os)

values-values : (n : Need) (vs : List ValueId) → values_of (values_used n vs) ≡ vs
values-values n [] = refl
values-values n (v ∷ vs) = ap (λ l. v ∷ l) (values-values n vs)

edges-values : (es : List PhiEdge) → values_of (edges_used es) ≡ map (λ (e : PhiEdge). e.value) es
edges-values [] = refl
edges-values (e ∷ es) = ap (λ l. e.value ∷ l) (edges-values es)

maybe-values : (n : Need) (v : Option ValueId) → values_of (maybe_used n v) ≡ ids.maybe_id v
maybe-values n None = refl
maybe-values n (Some v) = refl

two_maybe-values : (g a : Option ValueId) → values_of (maybe_used Data g ++ maybe_used Time a) ≡ ids.maybe_id g ++ ids.maybe_id a
two_maybe-values g a = map-append the_value (maybe_used Data g) (maybe_used Time a) ∙ cc (maybe-values Data g, maybe-values Time a)

triggers-values : (gs : List RegTrigger) → values_of (triggers_uses gs) ≡ ids.trigger_ids gs
triggers-values [] = refl
triggers-values (g ∷ gs) = map-append the_value (trigger_uses g) (triggers_uses gs) ∙ ap (λ l. g.value ∷ g.trigger ∷ l) (cc (two_maybe-values g.gate g.after, triggers-values gs))

-- the values of an instruction's operands are those that it uses
pub uses-values : (i : Inst) → values_of (uses_of i) ≡ ids.values_used i
uses-values (inst.Const d) = refl
uses-values (inst.Pure o args) = all-values (operation_need o args) args
uses-values (inst.Var a) = refl
uses-values (inst.Ld p) = refl
uses-values (inst.St to value) = refl
uses-values (inst.Sig a) = refl
uses-values (inst.Prb s) = refl
uses-values (inst.Drv to value after cond) = ap (λ l. to.value ∷ value ∷ after ∷ l) (maybe-values Data cond)
uses-values (inst.Reg to triggers) = ap (λ l. to.value ∷ l) (triggers-values triggers)
uses-values (inst.Child u inputs outputs) = map-append the_value (all_used Signal inputs) (all_used Signal outputs) ∙ cc (all-values Signal inputs, all-values Signal outputs)
uses-values (inst.Call u result args) = all-values DataOrTime args
uses-values (inst.Phi ty edges) = edges-values edges
uses-values (inst.Br to) = refl
uses-values (inst.Branch cond zero one) = refl
uses-values (inst.Wait to after signals) = map-append the_value (maybe_used Time after) (values_used Signal signals) ∙ cc (maybe-values Time after, values-values Signal signals)
uses-values inst.Halt = refl
uses-values (inst.Ret None) = refl
uses-values (inst.Ret (Some o)) = refl
