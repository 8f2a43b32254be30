-- What is left of a run that broke off: a write failed, or memory ran out.
use Rattle.std.specs.Prelude.{ℕ, List, ◌∷◌, Option, take}
use Rattle.lh_types.specs.Pictures.{Picture}
use Rattle.lh_io.specs.Streams.{Appends, AppendsProperPrefix}
use Rattle.lh_watch.specs.Members.{Member}
use Rattle.lh_watch.specs.Shown.{shown, IsPartlyShown}
use Rattle.lh_wave.specs.declared.run.WaveFault.{WaveFault}
use Rattle.lh_wave.specs.declared.run.WaveFault.TheVariants.{WriteFault, OutOfMemory}

-- Members that have seen some of these frames, from the first on: all members the same ones, or, where the run broke off within a frame, those in front that one more.
pub data HaveSeen : List Picture → (old now : List Member) → Type 0 where
  no_more : (fs : List Picture) (ms : List Member) → HaveSeen fs ms ms
  in_part : (f : Picture) (fs : List Picture) (ms now : List Member) → IsPartlyShown f ms now → HaveSeen (f ∷ fs) ms now
  one_more : (f : Picture) (fs : List Picture) (ms now : List Member) → HaveSeen fs (shown f ms) now → HaveSeen (f ∷ fs) ms now

-- a prefix of the text was appended
pub record AppendsPrefix (was_written written : Option (List ℕ)) (text : List ℕ) : Type 0 where
  pub count : ℕ
  pub told : Appends was_written written (take count text)

-- what was written of a text where it broke off: a proper prefix after a write that failed, a prefix after running out of memory
abbrev pub BreaksOff : WaveFault → (was_written written : Option (List ℕ)) → (text : List ℕ) → Type 0
BreaksOff WriteFault was_written written text = AppendsProperPrefix was_written written text
BreaksOff OutOfMemory was_written written text = AppendsPrefix was_written written text
