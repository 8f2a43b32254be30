use Rattle.std.proofs.Common.{rules, ℕ, List, length, refl, ap, ◌∙◌, arith}
use Rattle.std.specs.List.{insert}
use Rattle.lh_kernel_wakes.proofs.Places.{found_there, found_in, found_missing, there_already, place_within}
use Rattle.lh_kernel_wakes.proofs.rising.Rising.enter_in_place.Goals as goal

pub put_in-requires : goal.put_in-requires
put_in-requires c =
    let within = place_within _ _ _ c.args.n c.in-Err.place c.self.view_is c.deref.ensures.value c.self.invariant c.in-Err.ensures.position in
    omega (arith, within, ap (λ (xs : List ℕ). length xs) c.begin_with_room.ensures, c.begin_with_room.new.numbers.ok.0)

pub invariant_of-self-in-Err : goal.invariant_of-self-in-Err
invariant_of-self-in-Err c =
    (found_in _ _ _ _ c.args.n c.in-Err.place c.self.view_is c.deref.ensures.value c.self.invariant c.in-Err.ensures.position (c.in_ok-put_in-in-Err.ensures.items ∙ ap (λ (xs : List ℕ). insert xs c.in-Err.place c.args.n) c.begin_with_room.ensures)).0

pub returns-in-Ok-clause-has : goal.returns-in-Ok-clause-has
returns-in-Ok-clause-has c =
    there_already c.args.n _ (found_there _ _ _ c.args.n c.in-Ok.field-0 c.self.view_is c.deref.ensures.value c.self.invariant c.in-Ok.ensures.position)

pub returns-in-Ok-clause-there : goal.returns-in-Ok-clause-there
returns-in-Ok-clause-there c =
    (λ e. found_there _ _ _ c.args.n c.in-Ok.field-0 c.self.view_is c.deref.ensures.value c.self.invariant c.in-Ok.ensures.position, λ h. refl)

pub returns-in_ok-put_in-in-Err-clause-has : goal.returns-in_ok-put_in-in-Err-clause-has
returns-in_ok-put_in-in-Err-clause-has c =
    (found_in _ _ _ _ c.args.n c.in-Err.place c.self.view_is c.deref.ensures.value c.self.invariant c.in-Err.ensures.position (c.in_ok-put_in-in-Err.ensures.items ∙ ap (λ (xs : List ℕ). insert xs c.in-Err.place c.args.n) c.begin_with_room.ensures)).1

pub returns-in_ok-put_in-in-Err-clause-there : goal.returns-in_ok-put_in-in-Err-clause-there
returns-in_ok-put_in-in-Err-clause-there c =
    (λ e. absurd (search rules), λ h. absurd (found_missing _ _ _ c.args.n c.in-Err.place c.self.view_is c.deref.ensures.value c.self.invariant c.in-Err.ensures.position h))
