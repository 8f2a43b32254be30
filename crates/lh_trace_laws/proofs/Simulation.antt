-- Units that show the same, and a relation that shows that they do.
use Rattle.std.proofs.Common.{◌≡◌, List, [], ◌∷◌, Bool, refl, ap, Option, Some, None}
use Rattle.lh_unit.specs.Contents.{UnitText}
use Rattle.lh_unit.specs.Hierarchy.{Instance}
use Rattle.lh_unit.specs.World.{State, start, wake_of, Moment, Act, act, Rules}
use Rattle.lh_trace_laws.specs.Replacing.{Answer, answer_of, Seen, moment_seen, answers, answers_to}

-- what two instances do in a frame shows the same, and leads to states in a relation
pub record Matches (R : State → State → Type 0) (a b : Act) : Type 0 where
  pub answer : answer_of a ≡ answer_of b
  pub after : R a.after b.after

-- A relation between the states of two units, at the bits of the last frame, none before the first, that every frame keeps.
pub record SimulationRelation (r : Rules) (x y : UnitText) (i : Instance) : Type 1 where
  pub R : (before : Option (List Bool)) → State → State → Type 0
  pub start_of : R None (start x i) (start y i)
  pub keeps : (m : Moment) (a b : State) → R m.before a b → Matches (R (Some m.now)) (act r m x i a) (act r m y i b)

module _ (r : Rules) (x y : UnitText) (i : Instance) (sim : SimulationRelation r x y i) where
  answers_from : (frames : List Seen) (before : Option (List Bool)) (a b : State) → sim.R before a b → answers r x i before a frames ≡ answers r y i before b frames
  answers_from [] before a b h = refl
  answers_from (f ∷ more) before a b h =
      let m : Moment = moment_seen before f in
      let k : Matches (sim.R (Some f.now)) (act r m x i a) (act r m y i b) = sim.keeps m a b h in
      let here : answer_of (act r m x i a) ≡ answer_of (act r m y i b) = k.answer in
      let rest : answers r x i (Some f.now) (act r m x i a).after more ≡ answers r y i (Some f.now) (act r m y i b).after more = answers_from more (Some f.now) _ _ k.after in
      cc

  -- units in such a relation show the same in all frames
  pub same_answers : (frames : List Seen) → answers_to r x i frames ≡ answers_to r y i frames
  same_answers frames = answers_from frames None (start x i) (start y i) sim.start_of

-- They show the same in all frames that may follow.
pub record Alike (r : Rules) (x y : UnitText) (i : Instance) (before : Option (List Bool)) (a b : State) : Type 0 where
  pub wake : wake_of a ≡ wake_of b
  pub shows : (frames : List Seen) → answers r x i before a frames ≡ answers r y i before b frames

heads : (a b : Answer) (xs ys : List Answer) → a ∷ xs ≡ b ∷ ys → a ≡ b
heads a b xs ys h = cc

tails : (a b : Answer) (xs ys : List Answer) → a ∷ xs ≡ b ∷ ys → xs ≡ ys
tails a b xs ys h = cc

-- every frame keeps this
pub alike_keeps : (r : Rules) (x y : UnitText) (i : Instance) (m : Moment) (a b : State) → Alike r x y i m.before a b → Matches (Alike r x y i (Some m.now)) (act r m x i a) (act r m y i b)
alike_keeps r x y i m a b h =
    let f : Seen = record { at = m.at; now = m.now } in
    let e : answer_of (act r m x i a) ≡ answer_of (act r m y i b) = heads _ _ _ _ (h.shows (f ∷ [])) in
    record {
      answer = e;
      after = record {
        wake = ap (λ (z : Answer). z.wake) e;
        shows = λ frames. tails _ _ _ _ (h.shows (f ∷ frames));
      };
    }
