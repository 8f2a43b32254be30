-- When what is kept of an instance may be run.
use Rattle.std.specs.Prelude.{ℕ}
use Rattle.lh_unit.specs.Arena.{Arena, contents}
use Rattle.lh_unit.specs.WellFormed.{IsWellFormed}
use Rattle.lh_eval.specs.declared.instance.Instance.{Instance}
use Rattle.lh_elab.specs.Answer.{InstanceIs}
use Rattle.lh_kernel_states.specs.States.{StateFits}
use Rattle.lh_kernel_states.specs.declared.state.InstState.{InstState}

-- the instance is one of a well-formed module, and the state fits it, where the signals have so many bits
pub record IsRunner (a : Arena) (width : ℕ) (i : Instance) (s : InstState) : Type 0 where
  pub formed : IsWellFormed (contents a)
  pub placed : InstanceIs a width i
  pub fits : StateFits a width i s
