use Rattle.lh_result.proofs.Writes.{Puts_of}
use Rattle.lh_result.proofs.status.Status.write_line.Goals as goal

pub returns-in-Usage-clause-puts : goal.returns-in-Usage-clause-puts
returns-in-Usage-clause-puts g c =
    let call = c.write_all.ensures in
    rw c.in-Usage.is (Puts_of _ _ _ _ _ _ call.ok call.failed call.rose)

pub returns-in-ReadFault-clause-puts : goal.returns-in-ReadFault-clause-puts
returns-in-ReadFault-clause-puts g c =
    let call = c.write_all-in-ReadFault.ensures in
    rw c.in-ReadFault.is (Puts_of _ _ _ _ _ _ call.ok call.failed call.rose)

pub returns-in-SourceTooLong-clause-puts : goal.returns-in-SourceTooLong-clause-puts
returns-in-SourceTooLong-clause-puts g c =
    let call = c.write_all-in-SourceTooLong.ensures in
    rw c.in-SourceTooLong.is (Puts_of _ _ _ _ _ _ call.ok call.failed call.rose)

pub returns-in-WriteFault-clause-puts : goal.returns-in-WriteFault-clause-puts
returns-in-WriteFault-clause-puts g c =
    let call = c.write_all-in-WriteFault.ensures in
    rw c.in-WriteFault.is (Puts_of _ _ _ _ _ _ call.ok call.failed call.rose)

pub returns-in-OutputTooLong-clause-puts : goal.returns-in-OutputTooLong-clause-puts
returns-in-OutputTooLong-clause-puts g c =
    let call = c.write_all-in-OutputTooLong.ensures in
    rw c.in-OutputTooLong.is (Puts_of _ _ _ _ _ _ call.ok call.failed call.rose)

pub returns-in-AssertFailed-clause-puts : goal.returns-in-AssertFailed-clause-puts
returns-in-AssertFailed-clause-puts g c =
    let call = c.write_all-in-AssertFailed.ensures in
    rw c.in-AssertFailed.is (Puts_of _ _ _ _ _ _ call.ok call.failed call.rose)

pub returns-in-OutOfMemory-clause-puts : goal.returns-in-OutOfMemory-clause-puts
returns-in-OutOfMemory-clause-puts g c =
    let call = c.write_all-in-OutOfMemory.ensures in
    rw c.in-OutOfMemory.is (Puts_of _ _ _ _ _ _ call.ok call.failed call.rose)
