use Rattle.std.proofs.Common.{◌≡◌, ◌<◌, ◌≤◌, ◌^◌, List, length, map, get_or, ap, sym, ◌∙◌, subst, arith}
use Rattle.std.proofs.lemmas.List.{take_all}
use Rattle.lh_unit.specs.Within.{Each}
use Rattle.lh_eval.specs.declared.instance.Instance.{Instance}
use Rattle.lh_elab.specs.Answer.{InstanceIs}
use Rattle.lh_elab.specs.Probed.{probed_by, ProbesOf}
use Rattle.lh_elab.proofs.EntityProbes.{IsWithin, instance-is, unit-senses, senses, probes-few, next-probed, all-within}
use Rattle.lh_elab.proofs.probes.probes_of.Goals as goal

pub parts_at-requires : goal.parts_at-requires
parts_at-requires c =
    let a = c.args.m.now in
    let d = c.requires.design in
    let is = c.args.d.now.instances.items in
    let w = length c.args.d.now.init in
    let k = c.loop-instance.instance-index in
    let i = c.instance-item.result in
    let there = c.instances-instance-items.ensures in
    let inside : k < length is = subst (λ (xs : List Instance). k < length xs) there c.loop-instance-test.true in
    let f : InstanceIs a w i = instance-is a w is k i inside (c.instance-item.is ∙ ap (λ (xs : List Instance). get_or xs k i) there) d.fits in
    let few : w < 2 ^ 32 = let n = ap length c.init.ensures in omega (arith, c.few_bits.ensures, n) in
    let p : ProbesOf a i.unit.0 c.index.result.now = unit-senses a c.in_ok-units.units.items i.unit.0 c.index.result.now f.unit c.in_ok-units.ensures.long c.index.ensures
    c.in_ok-units.ensures.probes in
    probes-few a d.arena d.formed w i f few c.as_slice-unit.result.now (subst (ProbesOf a i.unit.0) (sym c.as_slice-unit.ensures) p)

pub loop-instance-preserved : goal.loop-instance-preserved
loop-instance-preserved c =
    let a = c.args.m.now in
    let d = c.requires.design in
    let is = c.args.d.now.instances.items in
    let w = length c.args.d.now.init in
    let k = c.loop-instance.instance-index in
    let i = c.instance-item.result in
    let there = c.instances-instance-items.ensures in
    let inside : k < length is = subst (λ (xs : List Instance). k < length xs) there c.loop-instance-test.true in
    let e : i ≡ get_or is k i = c.instance-item.is ∙ ap (λ (xs : List Instance). get_or xs k i) there in
    let f : InstanceIs a w i = instance-is a w is k i inside e d.fits in
    let p : ProbesOf a i.unit.0 c.index.result.now = unit-senses a c.in_ok-units.units.items i.unit.0 c.index.result.now f.unit c.in_ok-units.ensures.long c.index.ensures
    c.in_ok-units.ensures.probes in
    let q = senses a d.arena d.formed w i f c.as_slice-unit.result.now c.in_ok-parts_at.field-0 (subst (ProbesOf a i.unit.0) (sym c.as_slice-unit.ensures) p) c.in_ok-parts_at.ensures in
    next-probed a is k i c.loop-instance.probes.items c.push_parts.new.all.items c.in_ok-parts_at.field-0 inside e c.loop-instance.invariant c.in_ok-push_parts.ensures q

pub returns-clause-within : goal.returns-clause-within
returns-clause-within c =
    let a = c.args.m.now in
    let d = c.requires.design in
    let is = c.args.d.now.instances.items in
    let w = length c.args.d.now.init in
    let there = c.instances-instance-items.ensures in
    let all : length is ≤ c.loop-instance.instance-index = subst (λ (xs : List Instance). length xs ≤ c.loop-instance.instance-index) there c.loop-instance-test.false in
    let e = c.loop-instance.invariant ∙ ap (map (probed_by a)) (take_all c.loop-instance.instance-index is all) in
    subst (Each (Each (IsWithin w))) (sym e) (all-within a d.arena d.formed w is d.fits)
