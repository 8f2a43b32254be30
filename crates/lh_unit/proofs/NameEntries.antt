-- A name that is new among names or not, by what its insertion answers.
use Rattle.std.proofs.Common.{◌≡◌, ℕ, ◌-◌, ◌^◌, ◌<◌, nat_eq, Bool, true, false, not, List, [], ◌∷◌, ◌++◌, length, Some, None, slice_get, Result, Ok, Err, refl, sym, ap, ◌∙◌, true≢false, arith, length-append}
use Rattle.std.specs.Result.{IsErr}
use Rattle.std.proofs.lemmas.Option.{slice_get_within}
use Rattle.indexmap.specs.IndexSet.{insert_key}
use lib.Pointwise.{pointwise}
use Rattle.lh_types.specs.declared.memory.NoMemory.{NoMemory}
use Rattle.lh_unit_names.specs.Distinct.{has_name}
use Rattle.lh_unit_names.proofs.NameLists.{inserted}
use Rattle.lh_unit.specs.Table.{Table}
use Rattle.lh_unit.specs.TableCalls.{FindsValueIn, FindsLabelIn, NamesValue, NamesLabel, with_value}
use Rattle.lh_unit.specs.declared.inst.BlockId.{BlockId}
use Rattle.lh_unit.specs.declared.inst.ValueId.{ValueId}

pub new-absent : (added here : Bool) → added ≡ true → added ≡ not here → false ≡ here
new-absent added true e f = absurd (true≢false (sym e ∙ f))
new-absent added false e f = refl

pub there : (added here : Bool) → added ≡ false → added ≡ not here → here ≡ true
there added true e f = refl
there added false e f = absurd (true≢false (sym f ∙ e))

-- names to which one was entered that is not new
pub old-kept : (ks new : List (List ℕ)) (n : List ℕ) (added : Bool) → added ≡ false → added ≡ not (has_name ks n) → new ≡ insert_key (pointwise nat_eq) ks n → new ≡ ks
old-kept ks new n added e f g = g ∙ rw (there added (has_name ks n) e f) refl

-- the number of a name that was entered fits
pub few-entered : (ks new : List (List ℕ)) (n : List ℕ) (k : ℕ) → slice_get new k ≡ Some n → new ≡ insert_key (pointwise nat_eq) ks n → length ks < 2 ^ 32 - 1 → k < 2 ^ 32
few-entered ks new n k s e room = by (has_name ks n) refl
  where
    h : k < length new
    h = slice_get_within new k n s

    by : (b : Bool) → has_name ks n ≡ b → k < 2 ^ 32
    by true p = let l : length new ≡ length ks = ap length (e ∙ rw p refl) in omega (arith, h, room)
    by false p = let l : length new ≡ length (ks ++ n ∷ []) = ap length (inserted ks new n n refl e (sym p)) in omega (arith, h, room, length-append ks (n ∷ []))

-- a value whose name was entered
pub value-entered : (t : Table) (new : List (List ℕ)) (n : List ℕ) (k : ℕ) → slice_get new k ≡ Some n → new ≡ insert_key (pointwise nat_eq) t.values n → NamesValue t (record t { values = new }) n k
value-entered t new n k s e = record { within = slice_get_within new k n s; named = s; table = by (has_name t.values n) refl }
  where
    by : (b : Bool) → has_name t.values n ≡ b → (record t { values = new }) ≡ with_value t n
    by true p = rw p (ap (λ ks. record t { values = ks }) (e ∙ rw p refl))
    by false p = rw p (ap (λ ks. record t { values = ks }) (inserted t.values new n n refl e (sym p)))

-- a label that is new
pub label-made : (t : Table) (new : List (List ℕ)) (n : List ℕ) (k : ℕ) → slice_get new k ≡ Some n → new ≡ insert_key (pointwise nat_eq) t.labels n → false ≡ has_name t.labels n
    → NamesLabel t (record t { labels = new; bodies = t.bodies ++ None ∷ [] }) n k
label-made t new n k s e p = record {
  within = slice_get_within new k n s;
  named = s;
  table = rw (← p) (ap (λ ks. record t { labels = ks; bodies = t.bodies ++ None ∷ [] }) (inserted t.labels new n n refl e p));
}

-- a label that stands already
pub label-found : (t : Table) (new : List (List ℕ)) (n : List ℕ) (k : ℕ) → slice_get new k ≡ Some n → new ≡ insert_key (pointwise nat_eq) t.labels n → has_name t.labels n ≡ true
    → NamesLabel t (record t { labels = new }) n k
label-found t new n k s e p = record {
  within = slice_get_within new k n s;
  named = s;
  table = rw p (ap (λ ks. record t { labels = ks }) (e ∙ rw p refl));
}

-- where memory runs out nothing is entered
pub no-value : (r : Result ValueId NoMemory) (old new : Table) (n : List ℕ) → IsErr r → new ≡ old → FindsValueIn r old new n
no-value (Ok v) old new n e p = cc
no-value (Err x) old new n e p = p

pub no-label : (r : Result BlockId NoMemory) (old new : Table) (n : List ℕ) → IsErr r → new ≡ old → FindsLabelIn r old new n
no-label (Ok v) old new n e p = cc
no-label (Err x) old new n e p = p
