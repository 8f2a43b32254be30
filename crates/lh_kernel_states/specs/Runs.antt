-- What one run of an instance gives, as the code answers it.
use Rattle.std.specs.Prelude.{◌≡◌, ℕ, List, Bool, true, false, Result, Ok, Err}
use Rattle.lh_time.specs.declared.Instant.{Instant}
use Rattle.lh_time.specs.Order.{instant_lt, IsLaterIfAny}
use Rattle.lh_bits.specs.Writes.{BitsWithin}
use Rattle.lh_unit.specs.Arena.{Arena}
use Rattle.lh_unit.specs.Within.{Each}
use Rattle.lh_unit.specs.World.{Act}
use Rattle.lh_eval.specs.declared.instance.Instance.{Instance}
use Rattle.lh_eval.specs.Grouped.{IsGrouped}
use Rattle.lh_eval.specs.WishOf.{writes_wish}
use Rattle.lh_exec.specs.declared.process.ExecFault.{ExecFault}
use Rattle.lh_exec.specs.declared.process.ExecFault.TheVariants as fault
use Rattle.lh_kernel_states.specs.Acts.{ActDone}
use Rattle.lh_kernel_states.specs.States.{StateIs, StateFits, wake_kept}

-- it is what the definition has the instance do
pub record ActIs (a : Arena) (i : Instance) (x : ActDone) (act : Act) : Type 0 where
  pub next : StateIs a i x.next act.after
  pub wish : writes_wish x.wishes ≡ act.wish
  pub outcomes : x.outcomes ≡ act.outcomes
  pub ends : act.ran_away ≡ false

-- exactly what the definition has it do, or a runaway exactly where it is one
abbrev pub Runs : Arena → Instance → Result ActDone ExecFault → Act → Type 0
Runs a i (Ok x) act = ActIs a i x act
Runs a i (Err fault.Runaway) act = act.ran_away ≡ true
Runs a i (Err fault.OutOfMemory) act = Unit {0}

-- What a run at `t` gives is sound, where the signals have so many bits: the next state fits and wakes later; what is wished is due
-- later, at instants that strictly rise, and names only bits of the signals, at each instant some and none twice.
pub record ActIsSound (a : Arena) (width : ℕ) (t : Instant) (i : Instance) (x : ActDone) : Type 0 where
  pub fits : StateFits a width i x.next
  pub wakes : IsLaterIfAny t (wake_kept x.next)
  pub grouped : IsGrouped x.wishes
  pub within : Each (λ (d : Instant × List (ℕ × Bool)). BitsWithin width d.1) x.wishes
  pub later : Each (λ (d : Instant × List (ℕ × Bool)). instant_lt t d.0 ≡ true) x.wishes
