use Rattle.std.proofs.Common.{arith, ◌^◌, ◌≡◌, ◌<◌, List, false, length, slice_get, refl, sym, ap, ◌∙◌, subst}
use Rattle.std.proofs.lemmas.Option.{same_Some}
use Rattle.lh_flat.specs.declared.flat.FlatBlock.{FlatBlock}
use Rattle.lh_region.specs.Heads.{begins_with_phi}
use Rattle.lh_region_joins.proofs.Conditions.{grows-none}
use Rattle.lh_region_walk.proofs.BothRegions.{block-read, answer-phi}
use Rattle.lh_region_walk.proofs.HavingSteps.{has-steps}
use Rattle.lh_region_walk.proofs.FormedText.{head-within, blocks-there}
use Rattle.lh_region_walk.proofs.region.regions.Goals as goal

pub bounds-as_slice-head : goal.bounds-as_slice-head
bounds-as_slice-head c =
    let h = c.requires.form in
    rw (c.as_slice.ensures, c.head_of-head.ensures) (head-within c.args.flat.now h.below (blocks-there h.naming (h.naming.unit_name 0) c.args.flat.now h.names))

pub returns-then-begins_with_phi-clause-answer : goal.returns-then-begins_with_phi-clause-answer
returns-then-begins_with_phi-clause-answer c =
    let h = c.requires.form in let t = c.args.flat.now in
    let l = head-within t h.below (blocks-there h.naming (h.naming.unit_name 0) t h.names) in
    let m : c.head_of-head.result < length c.as_slice.result.now = rw (c.as_slice.ensures, c.head_of-head.ensures) l in
    let e0 = block-read c.as_slice.result.now c.head_of-head.result c.index-as_slice-head.result m c.index-as_slice-head.is in
    answer-phi c.args.terms.now t c.index-as_slice-head.result h (sym (λ i. slice_get (c.as_slice.ensures i) (c.head_of-head.ensures i)) ∙ e0)
    (sym c.begins_with_phi.ensures ∙ c.if-begins_with_phi.true)

pub both_regions-requires-clause-here : goal.both_regions-requires-clause-here
both_regions-requires-clause-here c =
    let h = c.requires.form in let t = c.args.flat.now in
    let l = head-within t h.below (blocks-there h.naming (h.naming.unit_name 0) t h.names) in
    let m : c.head_of-head.result < length c.as_slice.result.now = rw (c.as_slice.ensures, c.head_of-head.ensures) l in
    let e0 = block-read c.as_slice.result.now c.head_of-head.result c.index-as_slice-head.result m c.index-as_slice-head.is in
    record {
      form = h;
      table = c.in_ok-parts.ensures;
      head = c.head_of-head.ensures;
      plain = λ d q. subst (λ (x : FlatBlock). begins_with_phi x ≡ false)
          (same_Some c.index-as_slice-head.result d (sym e0 ∙ ap (λ (xs : List FlatBlock). slice_get xs c.head_of-head.result) c.as_slice.ensures ∙ q))
          (sym c.begins_with_phi.ensures ∙ c.if-begins_with_phi.false);
      now = refl;
    }

pub new-requires : goal.new-requires
new-requires c =
    let h = c.requires.form in
    has-steps (h.naming.unit_name 0) h.naming c.args.flat.now h.names h.below few
  where
    few : length c.args.flat.now.args < 2 ^ 32
    few = omega (arith, c.len-2.ensures, c.if-len-2.false)

pub returns-in_err-parts-clause-kept : goal.returns-in_err-parts-clause-kept
returns-in_err-parts-clause-kept c = grows-none c.args.terms.now

pub returns-clause-kept : goal.returns-clause-kept
returns-clause-kept c = c.both_regions.ensures.kept

pub returns-then-begins_with_phi-clause-kept : goal.returns-then-begins_with_phi-clause-kept
returns-then-begins_with_phi-clause-kept c = grows-none c.args.terms.now
