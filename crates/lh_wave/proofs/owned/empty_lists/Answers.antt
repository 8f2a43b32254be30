use Rattle.std.proofs.Common.{◌≡◌, ℕ, ◌+◌, [], length, subst, arith}
use Rattle.std.specs.Prelude.{vec_len}
use Rattle.lh_wave.specs.Owned.{AreOwned}
use Rattle.lh_wave.proofs.OwnedLemmas.{none_owned}
use Rattle.lh_wave.proofs.owned.empty_lists.Goals as goal

pub loop-place-init : goal.loop-place-init
loop-place-init c = record { level = c.in_ok-lists.ensures.len; each = λ k h. absurd (omega arith) }

pub loop-place-preserved : goal.loop-place-preserved
loop-place-preserved c =
    let long : length c.loop-place.lists.items ≡ vec_len c.loop-place.lists = omega (arith, c.loop-place.lists.ok.0) in
    let more : vec_len c.push.new.self ≡ vec_len c.loop-place.lists + 1 = omega (arith, c.in_ok-push.ensures.len) in
    none_owned c.loop-place.lists c.push.new.self c.new.result c.loop-place._place long more c.in_ok-push.ensures.items c.new.ensures.items c.loop-place.invariant

pub returns : goal.returns
returns c =
    let all : c.loop-place._place ≡ c.args.count = omega (arith, c.loop-place-test.false, c.loop-place.auto._place-end) in
    subst (λ (n : ℕ). AreOwned c.loop-place.lists n []) all c.loop-place.invariant
