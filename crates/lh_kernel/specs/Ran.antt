-- What the woken instances of a frame do, one after the other up to the first that runs away.
use Rattle.std.specs.Prelude.{◌≡◌, ℕ, List, [], ◌∷◌, ◌++◌, map, Bool, true, Option, Some, None, slice_get, slice_set}
use Rattle.lh_time.specs.declared.Instant.{Instant}
use Rattle.lh_types.specs.declared.frame.Outcome.{Outcome}
use Rattle.lh_unit.specs.Arena.{Arena, contents, unit_text_at}
use Rattle.lh_unit.specs.World.{State, Act, rules_of, runs}
use Rattle.lh_eval.specs.declared.instance.Instance.{Instance}
use Rattle.lh_design.specs.Texts.{instance_text}
use Rattle.lh_kernel_states.specs.declared.state.InstState.{InstState}
use Rattle.lh_kernel_states.specs.Runs.{ActIs, ActIsSound}
use Rattle.lh_kernel.specs.declared.run.Activation.{Activation}

-- what an instance with this state does in the frame at `t`
abbrev pub done_by : Arena → (now : List Bool) → Instant → Instance → State → Act
done_by a now t i p = runs (rules_of 1000000 (contents a)) now t (unit_text_at a i.unit.0) (instance_text a i) p

-- the instance of this number does this, by the states ps
pub record DoesSo (a : Arena) (now : List Bool) (t : Instant) (instances : List Instance) (ps : List State) (k : ℕ) (P : Instance → Act → Type 0) : Type 0 where
  pub instance : Instance
  pub state : State
  pub is : slice_get instances k ≡ Some instance
  pub stands : slice_get ps k ≡ Some state
  pub does : P instance (done_by a now t instance state)

-- the woken instances did this in turn, up to the first that ran away
abbrev pub AllRan : Arena → (now : List Bool) → Instant → List Instance → List State → (woken : List ℕ) → List Activation → (runaway : Option ℕ) → Type 0
AllRan a now t is ps [] [] None = Unit {0}
AllRan a now t is ps (k ∷ ks) [] (Some i) = (i ≡ k) × DoesSo a now t is ps k (λ _ act. act.ran_away ≡ true)
AllRan a now t is ps (k ∷ ks) (x ∷ xs) r = (x.instance ≡ k) × DoesSo a now t is ps k (λ i act. ActIs a i x.act act) × AllRan a now t is ps ks xs r
AllRan a now t is ps _ _ _ = ⊥

-- the instance of this number is there, and its act is sound
pub record ActOfOne (a : Arena) (width : ℕ) (t : Instant) (instances : List Instance) (x : Activation) : Type 0 where
  pub instance : Instance
  pub is : slice_get instances x.instance ≡ Some instance
  pub sound : ActIsSound a width t instance x.act

-- the outcomes of one activation, by execution
abbrev pub outcomes_by : Activation → List Outcome
outcomes_by x = map (λ passed. record { instance = x.instance; passed = passed }) x.act.outcomes

-- the outcomes of activations, by instance and then by execution
abbrev pub outcomes_ran : List Activation → List Outcome
outcomes_ran [] = []
outcomes_ran (x ∷ xs) = outcomes_by x ++ outcomes_ran xs

-- what is kept of the instances after these activations
abbrev pub states_after : List InstState → List Activation → List InstState
states_after ss [] = ss
states_after ss (x ∷ xs) = states_after (slice_set ss x.instance x.act.next) xs
