use Rattle.std.proofs.Common.{[], ◌<◌, Some, refl, sym, ◌∙◌, subst, arith}
use Rattle.std.proofs.lemmas.Option.{slice_get-get_or}
use Rattle.lh_unit.specs.Within.{MaybeWithin}
use Rattle.lh_unit.specs.Table.{line_at}
use Rattle.lh_unit.specs.Arena.{naming, sizes, table_at, value_count}
use Rattle.lh_verify_values.proofs.KnowingSteps.{knows-after, knows-more, knows-grows, on-ok-both}
use Rattle.lh_unit.proofs.PlacedIds.{result-placed}
use Rattle.lh_verify_values.proofs.facts.tell_inst.Goals as goal

pub bounds-facts-place : goal.bounds-facts-place
bounds-facts-place c =
    let w : MaybeWithin (sizes c.args.m.now c.args.unit.0) (Some c.in-Some.value) = subst (MaybeWithin (sizes c.args.m.now c.args.unit.0)) (sym (sym c.in-Some.is ∙ c.result_of.ensures.value))
    (result-placed c.args.m.now c.args.unit.0 c.args.inst.0 c.result_of.ensures.sound c.requires.unit) in
    let h : c.in-Some.value.0 < value_count c.args.m.now c.args.unit.0 = w in
    omega (arith, h, c.requires.long)

pub returns-in-None-clause-facts : goal.returns-in-None-clause-facts
returns-in-None-clause-facts c = λ ls k. knows-more c.args.types.now (value_count c.args.m.now c.args.unit.0) (naming c.args.m.now c.args.unit.0) ls
    (line_at (table_at c.args.m.now c.args.unit.0) c.args.inst.0) c.args.facts.now k (sym c.result_of.ensures.value ∙ c.in-None.is)

pub returns-in-Some-clause-facts : goal.returns-in-Some-clause-facts
returns-in-Some-clause-facts c = λ ls k.
    let w : MaybeWithin (sizes c.args.m.now c.args.unit.0) (Some c.in-Some.value) = subst (MaybeWithin (sizes c.args.m.now c.args.unit.0)) (sym (sym c.in-Some.is ∙ c.result_of.ensures.value))
    (result-placed c.args.m.now c.args.unit.0 c.args.inst.0 c.result_of.ensures.sound c.requires.unit) in
    let h : c.in-Some.value.0 < value_count c.args.m.now c.args.unit.0 = w in
    let f = naming c.args.m.now c.args.unit.0 in
    let l = line_at (table_at c.args.m.now c.args.unit.0) c.args.inst.0 in
    on-ok-both c.tell.result (c.tell.ensures.fact f) c.tell.ensures.grows
    (λ t g. knows-after _ c.tell.new.fact _ c.tell.new.types (value_count c.args.m.now c.args.unit.0) f ls l c.in-Some.value c.args.facts.now _ t c.inst.ensures.inst
    (slice_get-get_or c.args.facts.now c.in-Some.value.0 _ (omega (arith, h, c.requires.long)))
    (knows-grows c.args.types.now c.tell.new.types (value_count c.args.m.now c.args.unit.0) f [] ls c.args.facts.now g k) (sym c.result_of.ensures.value ∙ c.in-Some.is) h refl)
