-- What of held wishes stays where one is put, and where those that are due are taken.
use Rattle.std.proofs.Common.{◌≡◌, ◌≢◌, ◌⊎◌, inl, inr, [], ◌∷◌, Bool, true, false, if◌then◌else◌}
use Rattle.std.specs.Ordering.{nat_cmp, ordering_then}
use Rattle.lh_time.specs.Order.{instant_cmp, instant_lt}
use Rattle.lh_history_laws.proofs.Orders.{then_equal, nat_one}
use Rattle.lh_history_laws.proofs.Instants.{instant_one, le_trans}
use Rattle.lh_queue.specs.Queued.{is_before, with_held, due_later, NoneCompetes, NoneDueBefore, EachWithin, EachNames}
use Rattle.lh_queue.specs.Laws.{MoreWithin, MoreNames, MoreApart, MoreDue, LaterWithin, LaterNames, LaterApart, SoonerDue, DifferentApart}

pub more_within : MoreWithin
more_within n [] x h b = (b, tt)
more_within n (y ∷ ys) x h b = at (is_before x.wish y.wish) (more_within n ys x h.1 b)
  where
    at : (k : Bool) → EachWithin n (with_held ys x) → EachWithin n (if k then x ∷ y ∷ ys else y ∷ with_held ys x)
    at true ih = (b, h)
    at false ih = (h.0, ih)

pub more_names : MoreNames
more_names [] x h b = (b, tt)
more_names (y ∷ ys) x h b = at (is_before x.wish y.wish) (more_names ys x h.1 b)
  where
    at : (k : Bool) → EachNames (with_held ys x) → EachNames (if k then x ∷ y ∷ ys else y ∷ with_held ys x)
    at true ih = (b, h)
    at false ih = (h.0, ih)

pub more_apart : MoreApart
more_apart w [] x h b = (b, tt)
more_apart w (y ∷ ys) x h b = at (is_before x.wish y.wish) (more_apart w ys x h.1 b)
  where
    at : (k : Bool) → NoneCompetes w (with_held ys x) → NoneCompetes w (if k then x ∷ y ∷ ys else y ∷ with_held ys x)
    at true ih = (b, h)
    at false ih = (h.0, ih)

pub more_due : MoreDue
more_due t [] x h b = (b, tt)
more_due t (y ∷ ys) x h b = at (is_before x.wish y.wish) (more_due t ys x h.1 b)
  where
    at : (k : Bool) → NoneDueBefore t (with_held ys x) → NoneDueBefore t (if k then x ∷ y ∷ ys else y ∷ with_held ys x)
    at true ih = (b, h)
    at false ih = (h.0, ih)

pub later_within : LaterWithin
later_within n [] t h = tt
later_within n (y ∷ ys) t h = at (instant_lt t y.wish.due) (later_within n ys t h.1)
  where
    at : (k : Bool) → EachWithin n (due_later t ys) → EachWithin n (if k then y ∷ due_later t ys else due_later t ys)
    at true ih = (h.0, ih)
    at false ih = ih

pub later_names : LaterNames
later_names [] t h = tt
later_names (y ∷ ys) t h = at (instant_lt t y.wish.due) (later_names ys t h.1)
  where
    at : (k : Bool) → EachNames (due_later t ys) → EachNames (if k then y ∷ due_later t ys else due_later t ys)
    at true ih = (h.0, ih)
    at false ih = ih

pub later_apart : LaterApart
later_apart w [] t h = tt
later_apart w (y ∷ ys) t h = at (instant_lt t y.wish.due) (later_apart w ys t h.1)
  where
    at : (k : Bool) → NoneCompetes w (due_later t ys) → NoneCompetes w (if k then y ∷ due_later t ys else due_later t ys)
    at true ih = (h.0, ih)
    at false ih = ih

pub sooner_due : SoonerDue
sooner_due t u [] l h = tt
sooner_due t u (y ∷ ys) l h = (le_trans t u y.wish.due l h.0, sooner_due t u ys l h.1)

pub different_apart : DifferentApart
different_apart w x d e =
    let p = then_equal (instant_cmp w.due x.due) (ordering_then (instant_cmp w.made x.made) (nat_cmp w.instance x.instance)) e in
    let q = then_equal (instant_cmp w.made x.made) (nat_cmp w.instance x.instance) p.1 in
    by d (instant_one w.due x.due p.0) (instant_one w.made x.made q.0) (nat_one w.instance x.instance q.1)
  where
    by : (w.due ≢ x.due) ⊎ (w.made ≢ x.made) ⊎ (w.instance ≢ x.instance) → w.due ≡ x.due → w.made ≡ x.made → w.instance ≡ x.instance → ⊥
    by (inl n) a b c = n a
    by (inr (inl n)) a b c = n b
    by (inr (inr n)) a b c = n c
