use Rattle.std.proofs.Common.{◌≡◌, ◌<◌, ◌≤◌, ◌∷◌, ℕ, List, Bool, slice_set, length, sym, ap, ◌∙◌, subst, arith}
use Rattle.lh_time.specs.declared.Instant.{Instant}
use Rattle.lh_unit.specs.Within.{Each}
use Rattle.lh_kernel_states.specs.declared.state.InstState.{InstState}
use Rattle.lh_kernel.specs.declared.run.Activation.{Activation}
use Rattle.lh_kernel.specs.Ran.{states_after}
use Rattle.lh_kernel.specs.Puts.{wishes_by, wishes_ran, WerePut, CanBePut}
use Rattle.lh_kernel.proofs.PutWishes.{AreToBePut, can_front, puts_more, length_ran, known_on}
use Rattle.lh_kernel.proofs.puts.take_acts.Goals as goal

pub put_wishes-requires-clause-can : goal.put_wishes-requires-clause-can
put_wishes-requires-clause-can c =
    let P : List Activation → Type 0 = λ xs. AreToBePut c.args.queue.now.held (wishes_ran c.args.at c.args.acts.items) c.loop-done.queue.held (wishes_ran c.args.at xs) in
    let front = can_front c.loop-done.queue.held (wishes_by c.args.at c.in-Some.done.instance c.in-Some.done.act.wishes) (wishes_ran c.args.at c.next.new.self.rest.items)
    (subst P c.in-Some.ensures.steps.0 c.loop-done.invariant.2).can in
    subst (λ (ws : List (Instant × List (ℕ × Bool))). CanBePut c.loop-done.queue.held (wishes_by c.args.at c.in-Some.done.instance ws)) (sym c.into_parts-next.ensures.wishes) front

pub put_wishes-requires-clause-room : goal.put_wishes-requires-clause-room
put_wishes-requires-clause-room c =
    let P : List Activation → Type 0 = λ xs. length (wishes_ran c.args.at xs) ≤ c.loop-done.queue.spare in
    let r : length (wishes_ran c.args.at (c.in-Some.done ∷ c.next.new.self.rest.items)) ≤ c.loop-done.queue.spare = subst P c.in-Some.ensures.steps.0 c.loop-done.invariant.3 in
    let n : length c.into_parts-next.result.1 ≡ length c.in-Some.done.act.wishes = ap length c.into_parts-next.ensures.wishes in
    omega (arith, r, n, length_ran c.args.at c.in-Some.done c.next.new.self.rest.items)

pub loop-done-preserved : goal.loop-done-preserved
loop-done-preserved c =
    let x = c.in-Some.done in
    let xs = c.next.new.self.rest.items in
    let P : List Activation → Type 0 = λ xs. AreToBePut c.args.queue.now.held (wishes_ran c.args.at c.args.acts.items) c.loop-done.queue.held (wishes_ran c.args.at xs) in
    let Q : List Activation → Type 0 = λ xs. length (wishes_ran c.args.at xs) ≤ c.loop-done.queue.spare in
    let r : length (wishes_ran c.args.at (x ∷ xs)) ≤ c.loop-done.queue.spare = subst Q c.in-Some.ensures.steps.0 c.loop-done.invariant.3 in
    let K : List Activation → Type 0 = λ xs. Each (λ (x : Activation). x.instance < length c.loop-done.states.items) xs in
    let k : Each (λ (x : Activation). x.instance < length c.loop-done.states.items) (x ∷ xs) = subst K c.in-Some.ensures.steps.0 c.loop-done.invariant.4 in
    let e : states_after c.loop-done.states.items (x ∷ xs) ≡ states_after c.args.states.now.items c.args.acts.items =
    ap (states_after c.loop-done.states.items) (sym c.in-Some.ensures.steps.0) ∙ c.loop-done.invariant.5 in
    let n : length c.into_parts-next.result.1 ≡ length x.act.wishes = ap length c.into_parts-next.ensures.wishes in
    let put = subst (λ (ws : List (Instant × List (ℕ × Bool))).
    WerePut c.loop-done.queue.held (wishes_by c.args.at x.instance ws) c.put_wishes.new.queue.held) c.into_parts-next.ensures.wishes
    c.put_wishes.ensures.put in
    let set = c.set_state.ensures ∙ ap (λ (s : InstState). slice_set c.loop-done.states.items x.instance s) c.into_parts-next.ensures.next in (
      tt,
      tt,
      puts_more c.args.queue.now.held (wishes_ran c.args.at c.args.acts.items) c.loop-done.queue.held (wishes_by c.args.at x.instance x.act.wishes)
          (wishes_ran c.args.at xs) c.put_wishes.new.queue.held
          (subst P c.in-Some.ensures.steps.0 c.loop-done.invariant.2) put,
      omega (arith, r, n, length_ran c.args.at x xs, c.put_wishes.ensures.spare),
      known_on c.loop-done.states.items c.set_state.new.states.items x.instance x.act.next xs set k.1,
      ap (λ ss. states_after ss xs) set ∙ e,
    )
