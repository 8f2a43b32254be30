use Rattle.std.proofs.Common.{List, length, Option, sym, subst}
use Rattle.lh_time.specs.declared.Instant.{Instant}
use Rattle.lh_types.specs.declared.part.Range.{Range}
use Rattle.lh_unit.specs.World.{bit_numbers}
use Rattle.lh_kernel_changes.specs.Touched.{AreTouched, AreWithin}
use Rattle.lh_kernel.specs.Noting.{HasNoted}
use Rattle.lh_kernel.proofs.FirstStates.{touched_known}
use Rattle.lh_kernel.proofs.start.note_instance.Goals as goal

pub signals_of-requires-clause-within : goal.signals_of-requires-clause-within
signals_of-requires-clause-within c =
    let P : List Range → Type 0 = AreWithin (length c.args.d.now.init) in
    subst P (sym c.senses.ensures) c.requires.within

pub note-requires : goal.note-requires
note-requires c = record { known = touched_known c.args.d.now.signals.items _ c.in_ok-signals.signals _ c.requires.long c.in_ok-signals.ensures }

pub returns : goal.returns
returns c =
    let P : List Range → Type 0 = λ rs. AreTouched c.args.d.now.signals.items (bit_numbers rs) c.in_ok-signals.signals in
    let Q : Option Instant → Type 0 = λ wake. HasNoted c.args.number c.in_ok-signals.signals wake c.args.noted.now c.note.new.self in
    (c.in_ok-signals.signals, subst P c.senses.ensures c.in_ok-signals.ensures, subst Q c.wake.ensures c.in_ok-note.ensures.noted)
