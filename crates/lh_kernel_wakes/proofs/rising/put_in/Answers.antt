use Rattle.std.proofs.Common.{◌≡◌, length, arith}
use Rattle.lh_kernel_wakes.proofs.Places.{put_behind}
use Rattle.lh_kernel_wakes.proofs.rising.put_in.Goals as goal

pub returns-in_ok-push-clause-items : goal.returns-in_ok-push-clause-items
returns-in_ok-push-clause-items c =
    let l : c.args.place ≡ length c.args.numbers.now.items = omega arith in
    put_behind c.args.n c.args.place c.args.numbers.now.items c.push.new.self.items l c.in_ok-push.ensures.items
