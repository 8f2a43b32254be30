use Rattle.std.proofs.Common.{◌+◌, List, Bool, length, drop, ap, sym, ◌∙◌, subst}
use Rattle.lh_bits.specs.Writes.{numbered, bits_of, written, BitsWithin}
use Rattle.lh_bits.proofs.WrittenBits.{runs-next, within-left, within-written, written-append}
use Rattle.lh_bits.proofs.writes.BitWrites.set.Goals as goal

pub set-requires : goal.set-requires
set-requires c =
    within-left (length c.loop-run.now) (numbered c.run-item.result.lo c.run-item.result.bits) (bits_of (drop (c.loop-run.run-index + 1) c.as_slice-run-items.result.now))
    (subst (BitsWithin (length c.loop-run.now)) (runs-next c.as_slice-run-items.result.now c.loop-run.run-index c.run-item.result c.loop-run-test.true c.run-item.is) c.loop-run.invariant.within)

pub loop-run-preserved : goal.loop-run-preserved
loop-run-preserved c =
    let n = runs-next c.as_slice-run-items.result.now c.loop-run.run-index c.run-item.result c.loop-run-test.true c.run-item.is in
    record {
      within = subst (λ (bits : List Bool). BitsWithin (length bits) (bits_of (drop (c.loop-run.run-index + 1) c.as_slice-run-items.result.now))) (sym c.set.ensures)
          (within-written (numbered c.run-item.result.lo c.run-item.result.bits) (bits_of (drop (c.loop-run.run-index + 1) c.as_slice-run-items.result.now)) c.loop-run.now
          (subst (BitsWithin (length c.loop-run.now)) n c.loop-run.invariant.within));
      writes = ap (written (bits_of (drop (c.loop-run.run-index + 1) c.as_slice-run-items.result.now))) c.set.ensures
          ∙ sym (written-append (numbered c.run-item.result.lo c.run-item.result.bits) (bits_of (drop (c.loop-run.run-index + 1) c.as_slice-run-items.result.now)) c.loop-run.now)
          ∙ sym (ap (λ es. written es c.loop-run.now) n) ∙ c.loop-run.invariant.writes;
    }
