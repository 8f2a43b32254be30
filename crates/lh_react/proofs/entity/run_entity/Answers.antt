use Rattle.std.proofs.Common.{◌≡◌, List, length, Option, Some, refl, ap, sym, ◌∙◌, subst, arith}
use Rattle.std.specs.Option.{IsSomeAnd}
use Rattle.lh_unit.specs.Arena.{unit_text_at}
use Rattle.lh_unit.specs.Hierarchy.{lines_of, parts_of}
use Rattle.lh_unit.specs.Pass.{Passed, pass, pass_from}
use Rattle.lh_eval.specs.WishOf.{writes_wish}
use Rattle.lh_react.specs.Standing.{trigger_count, MemoryFits}
use Rattle.lh_react.specs.declared.triggers.TriggerBit.{TriggerBit}
use Rattle.lh_react.specs.Resting.{NoneFires, IsQuiet}
use Rattle.lh_react.specs.TriggerBits.{TriggersFit}
use Rattle.lh_react.proofs.PassFits.{pass-seen}
use Rattle.lh_eval_laws.proofs.FindingPass.{passes-find}
use Rattle.lh_react.specs.Quiet.{begins_with, IsStill}
use Rattle.lh_react.proofs.ProbedBits.{firsts}
use Rattle.lh_react.proofs.AtRest.{rests-as-known}
use Rattle.lh_react.proofs.entity.run_entity.Goals as goal

pub returns-in-Some : goal.returns-in-Some
unfolding pass
returns-in-Some c =
    let m = c.args.m.now in
    let u = c.args.unit.0 in
    let o = c.in_place.ensures in
    let text = unit_text_at m u in
    let e = parts_of text c.args.args.now c.args.sigs.now in
    let p : Passed = begins_with e in
    let z : Passed = pass_from text c.args.now.now c.args.state.now.memory c.args.at p (lines_of text.blocks) in
    let memory = c.args.state.now.memory in
    let told : IsQuiet c.args.now.now c.args.state.now c.in-Some.next = rw c.in-Some.is at c.in_ok-next.ensures in
    let known = subst (λ (k : Option (List TriggerBit)). IsSomeAnd k (λ bits. NoneFires c.args.now.now memory 0 bits told.values)) (sym told.known) told.rest in
    let still : IsStill z told.values = rests-as-known text c.args.args.now c.args.now.now memory c.args.state.now.triggers told.values e
    (c.args.sigs.now, refl) c.args.at c.requires.triggers known
    (firsts m u o c.requires.unit c.requires.entity c.requires.formed)
    (passes-find m u o c.requires.unit c.requires.formed c.requires.entity c.args.args.now c.args.sigs.now c.args.now.now memory c.args.at c.requires.fits) in
    let next : c.in-Some.next.memory ≡ Some z.seen = told.seen ∙ ap Some (sym still.seen) in
    let seen : length z.seen ≡ trigger_count (lines_of text.blocks) = omega (arith, pass-seen text c.args.now.now memory c.args.at (lines_of text.blocks) p) in
    record {
      next = next;
      fits = record {
        memory = subst (MemoryFits text) (sym next) seen;
        triggers = subst (TriggersFit text c.args.args.now) (sym told.kept) c.requires.triggers;
      };
      wish = ap writes_wish c.new.ensures ∙ sym still.wish;
      grouped = rw c.new.ensures tt;
      within = rw c.new.ensures tt;
    }
