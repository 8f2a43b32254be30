use Rattle.std.proofs.Common.{◌∙◌, sym}
use Rattle.lh_exec.proofs.Begins.{finish-gives, finish-later}
use Rattle.lh_exec.proofs.process.finish.Goals as goal

pub returns-clause-act : goal.returns-clause-act
returns-clause-act c = λ a u w t args done o h k there. finish-gives a u w args o h t c.args.machine c.args.flow c.in-Some.stand c.in_ok-wishes.wishes done (sym c.in_ok-stand.ensures ∙ c.in-Some.is)
    c.in_ok-wishes.ensures.wish c.in_ok-wishes.ensures.grouped k there

pub returns-clause-late : goal.returns-clause-late
returns-clause-late c = λ a u w t done k. finish-later a u w t c.args.machine c.args.flow c.in-Some.stand done (sym c.in_ok-stand.ensures ∙ c.in-Some.is) k
