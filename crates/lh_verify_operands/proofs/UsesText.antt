-- The operands by ids are the operands by names.
use Rattle.std.proofs.Common.{◌≡◌, List, [], ◌∷◌, ◌++◌, map, Option, Some, None, refl, ap, ◌∙◌}
use Rattle.std.proofs.lemmas.List.{map-append}
use Rattle.lh_types.specs.Types.{TypeTree, int_type, time_type, void_type, array_type, tuple_type, signal_type, pointer_type}
use Rattle.lh_types.specs.declared.op.Op.{Op}
use Rattle.lh_types.specs.declared.op.Op.TheVariants as op
use Rattle.lh_unit.specs.declared.inst.ValueId.{ValueId}
use Rattle.lh_unit.specs.declared.inst.Typed.{Typed}
use Rattle.lh_unit.specs.declared.inst.RegTrigger.{RegTrigger}
use Rattle.lh_unit.specs.declared.inst.PhiEdge.{PhiEdge}
use Rattle.lh_unit.specs.declared.inst.Inst.{Inst}
use Rattle.lh_unit.specs.declared.inst.Inst.TheVariants as inst
use Rattle.lh_unit.specs.Naming.{Naming, value_text, maybe_text, operand_text, trigger_text, edge_text, inst_text}
use Rattle.lh_unit.specs.Contents.{EdgeText}
use Rattle.lh_unit.specs.Typing as typing
use Rattle.lh_unit.specs.Kinds as kinds
use Rattle.lh_verify_operands.specs.declared.uses.Need.{Need}
use Rattle.lh_verify_operands.specs.declared.uses.Need.TheVariants.{Data, Time, Signal, DataOrTime}
use Rattle.lh_verify_operands.specs.Uses.{need_as, use_text, all_used, values_used, maybe_used, step_need, initial_need, first_type, operation_need, trigger_uses, triggers_uses, edges_used, uses_of}

all-text : (f : Naming) (n : Need) (os : List Typed) → map (use_text f) (all_used n os) ≡ kinds.all_used (need_as n) (map (operand_text f) os)
all-text f n [] = refl
all-text f n (o ∷ os) = ap (λ l. kinds.used (need_as n) (value_text f o.value) ∷ l) (all-text f n os)

values-text : (f : Naming) (n : Need) (vs : List ValueId) → map (use_text f) (values_used n vs) ≡ map (kinds.used (need_as n)) (map (value_text f) vs)
values-text f n [] = refl
values-text f n (v ∷ vs) = ap (λ l. kinds.used (need_as n) (value_text f v) ∷ l) (values-text f n vs)

edges-text : (f : Naming) (es : List PhiEdge) → map (use_text f) (edges_used es) ≡ map (λ (e : EdgeText). kinds.used kinds.data_or_time_needed e.value) (map (edge_text f) es)
edges-text f [] = refl
edges-text f (e ∷ es) = ap (λ l. kinds.used kinds.data_or_time_needed (value_text f e.value) ∷ l) (edges-text f es)

maybe-text : (f : Naming) (n : Need) (v : Option ValueId) → map (use_text f) (maybe_used n v) ≡ kinds.maybe_used (need_as n) (maybe_text f v)
maybe-text f n None = refl
maybe-text f n (Some v) = refl

step-text : (t : Option TypeTree) → need_as (step_need t) ≡ kinds.step_need t
step-text None = refl
step-text (Some (int_type n)) = refl
step-text (Some time_type) = refl
step-text (Some void_type) = refl
step-text (Some (array_type n t)) = refl
step-text (Some (tuple_type r)) = refl
step-text (Some (signal_type t)) = refl
step-text (Some (pointer_type t)) = refl

initial-text : (t : Option TypeTree) → need_as (initial_need t) ≡ kinds.initial_need t
initial-text None = refl
initial-text (Some (int_type n)) = refl
initial-text (Some time_type) = refl
initial-text (Some void_type) = refl
initial-text (Some (array_type n t)) = refl
initial-text (Some (tuple_type r)) = refl
initial-text (Some (signal_type t)) = refl
initial-text (Some (pointer_type t)) = refl

first-text : (f : Naming) (os : List Typed) → first_type os ≡ typing.first_type (map (operand_text f) os)
first-text f [] = refl
first-text f (o ∷ os) = refl

step_first-text : (f : Naming) (os : List Typed) → need_as (step_need (first_type os)) ≡ kinds.step_need (typing.first_type (map (operand_text f) os))
step_first-text f os = step-text (first_type os) ∙ ap kinds.step_need (first-text f os)

stepped-text : (f : Naming) (os : List Typed)
    → map (use_text f) (all_used (step_need (first_type os)) os) ≡ kinds.all_used (kinds.step_need (typing.first_type (map (operand_text f) os))) (map (operand_text f) os)
stepped-text f os = all-text f (step_need (first_type os)) os ∙ ap (λ n. kinds.all_used n (map (operand_text f) os)) (step_first-text f os)

operation-text : (f : Naming) (o : Op) (os : List Typed) → map (use_text f) (all_used (operation_need o os) os) ≡ kinds.operation_uses o (map (operand_text f) os)
operation-text f (op.Extf k) os = stepped-text f os
operation-text f (op.Exts at len) os = stepped-text f os
operation-text f _ os = all-text f Data os

two_maybe-text : (f : Naming) (g a : Option ValueId) → map (use_text f) (maybe_used Data g ++ maybe_used Time a) ≡ kinds.maybe_used kinds.data_needed (maybe_text f g)
    ++ kinds.maybe_used kinds.time_needed (maybe_text f a)
two_maybe-text f g a = map-append (use_text f) (maybe_used Data g) (maybe_used Time a) ∙ cc (maybe-text f Data g, maybe-text f Time a)

triggers-text : (f : Naming) (gs : List RegTrigger) → map (use_text f) (triggers_uses gs) ≡ kinds.trigger_uses (map (trigger_text f) gs)
triggers-text f [] = refl
triggers-text f (g ∷ gs) =
    map-append (use_text f) (trigger_uses g) (triggers_uses gs)
    ∙ ap (λ l. kinds.used kinds.data_needed (value_text f g.value) ∷ kinds.used kinds.data_needed (value_text f g.trigger) ∷ l) (cc (two_maybe-text f g.gate g.after, triggers-text f gs))

-- the operands of an instruction by ids are those of its text by names
pub uses-text : (f : Naming) (i : Inst) → map (use_text f) (uses_of i) ≡ kinds.uses (inst_text f i)
uses-text f (inst.Const d) = refl
uses-text f (inst.Pure o args) = operation-text f o args
uses-text f (inst.Var a) = refl
uses-text f (inst.Ld p) = refl
uses-text f (inst.St to value) = refl
uses-text f (inst.Sig a) = ap (λ n. kinds.used n (value_text f a.value) ∷ []) (initial-text a.ty)
uses-text f (inst.Prb s) = refl
uses-text f (inst.Drv to value after cond) = ap
    (λ l. kinds.used kinds.signal_needed (value_text f to.value) ∷ kinds.used kinds.data_needed (value_text f value) ∷ kinds.used kinds.time_needed (value_text f after) ∷ l) (maybe-text f Data cond)
uses-text f (inst.Reg to triggers) = ap (λ l. kinds.used kinds.signal_needed (value_text f to.value) ∷ l) (triggers-text f triggers)
uses-text f (inst.Child u inputs outputs) = map-append (use_text f) (all_used Signal inputs) (all_used Signal outputs) ∙ cc (all-text f Signal inputs, all-text f Signal outputs)
uses-text f (inst.Call u result args) = all-text f DataOrTime args
uses-text f (inst.Phi ty edges) = edges-text f edges
uses-text f (inst.Br to) = refl
uses-text f (inst.Branch cond zero one) = refl
uses-text f (inst.Wait to after signals) = map-append (use_text f) (maybe_used Time after) (values_used Signal signals) ∙ cc (maybe-text f Time after, values-text f Signal signals)
uses-text f inst.Halt = refl
uses-text f (inst.Ret None) = refl
uses-text f (inst.Ret (Some o)) = refl
