use Rattle.lh_result.proofs.Writes.{Puts_of}
use Rattle.lh_result.proofs.status.TopFault.write_line.Goals as goal

pub returns-in-TopMissing-clause-puts : goal.returns-in-TopMissing-clause-puts
returns-in-TopMissing-clause-puts g c =
    let call = c.write_all.ensures in
    rw c.in-TopMissing.is (Puts_of _ _ _ _ _ _ call.ok call.failed call.rose)

pub returns-in-TopIsFunction-clause-puts : goal.returns-in-TopIsFunction-clause-puts
returns-in-TopIsFunction-clause-puts g c =
    let call = c.write_all-in-TopIsFunction.ensures in
    rw c.in-TopIsFunction.is (Puts_of _ _ _ _ _ _ call.ok call.failed call.rose)

pub returns-in-TooDeep-clause-puts : goal.returns-in-TooDeep-clause-puts
returns-in-TooDeep-clause-puts g c =
    let call = c.write_all-in-TooDeep.ensures in
    rw c.in-TooDeep.is (Puts_of _ _ _ _ _ _ call.ok call.failed call.rose)

pub returns-in-TooManyInstances-clause-puts : goal.returns-in-TooManyInstances-clause-puts
returns-in-TooManyInstances-clause-puts g c =
    let call = c.write_all-in-TooManyInstances.ensures in
    rw c.in-TooManyInstances.is (Puts_of _ _ _ _ _ _ call.ok call.failed call.rose)

pub returns-in-TooManyBits-clause-puts : goal.returns-in-TooManyBits-clause-puts
returns-in-TooManyBits-clause-puts g c =
    let call = c.write_all-in-TooManyBits.ensures in
    rw c.in-TooManyBits.is (Puts_of _ _ _ _ _ _ call.ok call.failed call.rose)
