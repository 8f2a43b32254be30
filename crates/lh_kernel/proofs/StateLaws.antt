-- What is kept of instances stands for states, and fits.
use Rattle.std.proofs.Common.{ℕ, List, [], ◌∷◌}
use Rattle.lh_unit.specs.Arena.{Arena}
use Rattle.lh_unit.specs.World.{State}
use Rattle.lh_unit.specs.Within.{Each}
use Rattle.lh_eval.specs.declared.instance.Instance.{Instance}
use Rattle.lh_elab.specs.Answer.{InstanceIs}
use Rattle.lh_kernel_states.specs.declared.state.InstState.{InstState}
use Rattle.lh_kernel_states.specs.Laws.{FittingStand}
use Rattle.lh_kernel.specs.States.{StatesStand, StatesFit}

-- what fits stands for some states
pub some_stand : FittingStand → (a : Arena) (width : ℕ) (is : List Instance) (ss : List InstState) → Each (InstanceIs a width) is → StatesFit a width is ss →
    (ps : List State) × StatesStand a is ss ps
some_stand law a width [] [] f h = ([], tt)
some_stand law a width [] (s ∷ ss) f h = absurd h
some_stand law a width (i ∷ is) [] f h = absurd h
some_stand law a width (i ∷ is) (s ∷ ss) f h =
    let p = law a width i s f.0 h.0 in
    let r = some_stand law a width is ss f.1 h.1 in
    (p.0 ∷ r.0, (p.1, r.1))
