use Rattle.std.proofs.Common.{◌≡◌, ◌<◌, [], length, map, Option, Some, IsSome, refl, ap, sym, ◌∙◌, subst, arith}
use Rattle.lh_types.specs.Wish.{no_wish}
use Rattle.lh_unit.specs.Arena.{inst_count, block_insts_at, unit_text_at}
use Rattle.lh_unit.specs.Hierarchy.{lines_of, parts_of}
use Rattle.lh_unit.specs.Pass.{Passed, pass, pass_from}
use Rattle.lh_unit.specs.Within.{Each}
use Rattle.lh_unit.specs.declared.inst.InstId.{InstId}
use Rattle.lh_unit.specs.declared.inst.UnitKind.{UnitKind}
use Rattle.lh_unit.proofs.Lists.{Each-of-map}
use Rattle.lh_eval.specs.Sound.{InstIsSound}
use Rattle.lh_eval.specs.WishOf.{writes_wish}
use Rattle.lh_react.specs.Standing.{StandsForPass, line_in, passed_all, trigger_count, MemoryFits}
use Rattle.lh_eval.proofs.BeginSteps.{entity-insts, entity-lines}
use Rattle.lh_eval_laws.proofs.FitLaws.{unit-is-sound, begins-fit}
use Rattle.lh_eval.specs.Wishing.{WishWithin}
use Rattle.lh_eval.proofs.DriveWishes.{writes-within}
use Rattle.lh_react.proofs.PassFits.{pass-seen, pass-within}
use Rattle.lh_react.proofs.entity.run_each.Goals as goal

pub begin-requires-clause-within : goal.begin-requires-clause-within
begin-requires-clause-within c =
    let m = c.args.m.now in
    let u = c.args.unit.0 in
    subst (Each (λ (i : InstId). i.0 < inst_count m u)) (sym c.insts_of-insts.ensures.insts)
    (entity-insts m u c.insts_of-insts.ensures.arena c.requires.unit c.requires.entity)

pub run_insts-requires-clause-insts : goal.run_insts-requires-clause-insts
run_insts-requires-clause-insts c =
    let m = c.args.m.now in
    let u = c.args.unit.0 in
    subst (Each (λ (i : InstId). i.0 < inst_count m u)) (sym c.insts_of-insts.ensures.insts)
    (entity-insts m u c.insts_of-insts.ensures.arena c.requires.unit c.requires.entity)

pub run_insts-requires-clause-sound : goal.run_insts-requires-clause-sound
run_insts-requires-clause-sound c =
    let m = c.args.m.now in
    let u = c.args.unit.0 in
    let o = c.insts_of-insts.ensures.arena in
    let all : Each (InstIsSound (unit_text_at m u)) (map (line_in m u) (block_insts_at m u 0)) = subst (Each (InstIsSound (unit_text_at m u)))
    (entity-lines m u o c.requires.unit c.requires.entity)
    (unit-is-sound m u o c.requires.unit c.requires.formed (subst (λ (k : Option UnitKind). IsSome k) (sym c.requires.entity) refl)).lines in
    subst (Each (λ (i : InstId). InstIsSound (unit_text_at m u) (line_in m u i))) (sym c.insts_of-insts.ensures.insts)
    (Each-of-map (InstIsSound (unit_text_at m u)) (line_in m u) (block_insts_at m u 0) all)

pub run_insts-requires-clause-fit : goal.run_insts-requires-clause-fit
run_insts-requires-clause-fit c =
    let m = c.args.m.now in
    let u = c.args.unit.0 in
    record {
      passed = record { held = parts_of (unit_text_at m u) c.args.args.now c.args.sigs.now; seen = []; wish = no_wish };
      stands = record { holds = c.in_ok-slots.ensures; seen = c.new.ensures; wish = c.new-2.ensures };
      fits = begins-fit m u c.insts_of-insts.ensures.arena c.requires.unit c.requires.formed c.requires.entity c.args.args.now c.args.sigs.now
          (length c.args.now.now) c.requires.fits;
    }

pub returns : goal.returns
unfolding pass
returns c =
    let m = c.args.m.now in
    let u = c.args.unit.0 in
    let o = c.insts_of-insts.ensures.arena in
    let p : Passed = record { held = parts_of (unit_text_at m u) c.args.args.now c.args.sigs.now; seen = []; wish = no_wish } in
    let st : StandsForPass m u p (record { slots = c.in_ok-slots.slots; seen = c.new.result; wishes = c.new-2.result }) =
    record { holds = c.in_ok-slots.ensures; seen = c.new.ensures; wish = c.new-2.ensures } in
    let ls : map (line_in m u) c.insts_of-insts.result.now ≡ lines_of (unit_text_at m u).blocks = ap (map (line_in m u)) c.insts_of-insts.ensures.insts
    ∙ sym (entity-lines m u o c.requires.unit c.requires.entity) in
    let all : passed_all m u c.args.now.now c.args.state.now.memory c.args.at p c.insts_of-insts.result.now ≡ pass_from
    (unit_text_at m u) c.args.now.now c.args.state.now.memory c.args.at p (lines_of (unit_text_at m u).blocks) =
    ap (pass_from (unit_text_at m u) c.args.now.now c.args.state.now.memory c.args.at p) ls in
    let end = subst (λ (q : Passed). StandsForPass m u q c.run_insts.new.run) all (c.in_ok-run_insts.ensures p st) in
    let text = unit_text_at m u in
    let w = length c.args.now.now in
    let z : Passed = pass_from text c.args.now.now c.args.state.now.memory c.args.at p (lines_of text.blocks) in
    let next : c.in_ok-next.next.memory ≡ Some z.seen = c.in_ok-next.ensures.memory ∙ ap Some end.seen in
    let wish : writes_wish c.in_ok-wishes.wishes ≡ z.wish = c.in_ok-wishes.ensures.wish ∙ end.wish in
    let seen : length z.seen ≡ trigger_count (lines_of text.blocks) =
    omega (arith, pass-seen text c.args.now.now c.args.state.now.memory c.args.at (lines_of text.blocks) p) in
    let start = begins-fit m u o c.requires.unit c.requires.formed c.requires.entity c.args.args.now c.args.sigs.now w c.requires.fits in
    let wished = pass-within text c.args.now.now c.args.state.now.memory c.args.at (lines_of text.blocks) p
    (unit-is-sound m u o c.requires.unit c.requires.formed (subst (λ (k : Option UnitKind). IsSome k) (sym c.requires.entity) refl)).lines start tt in
    record {
      next = next;
      fits = record { memory = subst (MemoryFits text) (sym next) seen; triggers = c.in_ok-next.ensures.triggers };
      wish = wish;
      grouped = c.in_ok-wishes.ensures.grouped;
      within = writes-within w c.in_ok-wishes.wishes (subst (WishWithin w) (sym wish) wished);
    }
