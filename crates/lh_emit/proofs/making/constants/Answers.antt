use Rattle.std.proofs.Common.{◌≡◌, get_or, ap, subst, ◌∙◌}
use Rattle.lh_types.specs.ValueOf.{datum_of}
use Rattle.lh_term.specs.Tree.{constant}
use Rattle.lh_term.specs.Arena.{StandsForTree}
use Rattle.lh_types.specs.declared.val.Val.{Val}
use Rattle.lh_term.proofs.Swaps.{grows_on}
use Rattle.lh_emit.proofs.TermParts.{constants-next, constants-end}
use Rattle.lh_emit.proofs.making.constants.Goals as goal

pub loop-left-preserved : goal.loop-left-preserved
loop-left-preserved c =
    let e : c.in_ok-copy.field-0 ≡ get_or c.loop-left.left.now 0 c.value-item.result = c.in_ok-copy.ensures ∙ c.value-item.is in
    constants-next c.args.terms.now c.args.values.now c.loop-left.terms c.konst.new.self c.loop-left.list c.push.new.self c.loop-left.left.now c.value-item.result c.in_ok-id.id c.loop-left.invariant
    c.in-len1-up.len_at_least
    c.konst.ensures.kept (subst (λ (v : Val). StandsForTree c.konst.new.self c.in_ok-id.id (constant (datum_of v))) e c.in_ok-id.ensures.made) c.in_ok-push.ensures.ok

pub returns-clause-made : goal.returns-clause-made
returns-clause-made c = constants-end c.args.terms.now c.args.values.now c.loop-left.terms c.loop-left.list c.loop-left.left.now c.loop-left.invariant c.in_default.len_below

pub returns-in_err-copy-clause-kept : goal.returns-in_err-copy-clause-kept
returns-in_err-copy-clause-kept c = c.loop-left.invariant.grows

pub returns-in_err-id-clause-kept : goal.returns-in_err-id-clause-kept
returns-in_err-id-clause-kept c = grows_on c.args.terms.now c.loop-left.terms c.konst.new.self c.loop-left.invariant.grows c.konst.ensures.kept

pub returns-in_err-push-clause-kept : goal.returns-in_err-push-clause-kept
returns-in_err-push-clause-kept c = grows_on c.args.terms.now c.loop-left.terms c.konst.new.self c.loop-left.invariant.grows c.konst.ensures.kept

pub returns-clause-kept : goal.returns-clause-kept
returns-clause-kept c = c.loop-left.invariant.grows
