-- What an instance wishes at an instant is due later.
use Rattle.std.proofs.Common.{◌≡◌, List, [], ◌∷◌, Bool, true}
use Rattle.std.specs.declared.cmp.Ordering.{Ordering}
use Rattle.std.specs.declared.cmp.Ordering.TheVariants.{Less, Equal, Greater}
use Rattle.std.specs.Ordering.{match_ordering}
use Rattle.std.specs.BTreeMap.{insert_entry}
use Rattle.lh_time.specs.declared.Instant.{Instant}
use Rattle.lh_time.specs.Order.{instant_lt}
use Rattle.lh_types.specs.Wish.{DueBit, due_bit_cmp, Wish}
use Rattle.lh_unit.specs.Contents.{UnitText}
use Rattle.lh_unit.specs.Hierarchy.{Instance}
use Rattle.lh_unit.specs.World.{State, Moment, runs, act, Rules}
use Rattle.lh_trace_laws.specs.Wishes.{IsLate}
use Rattle.lh_trace_laws.proofs.WishKept.{WishProperty, runs_keeps, act_keeps}

insert_late : (t : Instant) (k : DueBit) (v : Bool) → instant_lt t k.due ≡ true → (w : Wish) → IsLate t w → IsLate t (insert_entry due_bit_cmp w k v)
insert_late t k v h [] a = (h, tt)
insert_late t k v h (e ∷ more) a = at (due_bit_cmp k e.0) (insert_late t k v h more a.1)
  where
    at : (o : Ordering) → IsLate t (insert_entry due_bit_cmp more k v) → IsLate t (match_ordering o ((k, v) ∷ e ∷ more) ((e.0, v) ∷ more) (e ∷ insert_entry due_bit_cmp more k v))
    at Less ih = (h, a)
    at Equal ih = (a.0, a.1)
    at Greater ih = (a.0, ih)

late : (t : Instant) → WishProperty t
late t = record { holds = IsLate t; nothing = tt; more = λ w due bit b h a. insert_late t (record { due = due; bit = bit }) b h w a }

pub runs_late : (r : Rules) (now : List Bool) (t : Instant) (u : UnitText) (i : Instance) (state : State) → IsLate t (runs r now t u i state).wish
unfolding late
runs_late r now t u i state = runs_keeps t (late t) r now u i state

pub act_late : (r : Rules) (m : Moment) (u : UnitText) (i : Instance) (state : State) → IsLate m.at (act r m u i state).wish
unfolding late
act_late r m u i state = act_keeps r m (late m.at) u i state
