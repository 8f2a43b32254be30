-- What holds at each place of a unit holds of its lines, and at each place that a block has.
use Rattle.std.proofs.Common.{ℕ, ◌+◌, List, [], ◌∷◌, ◌++◌, length, Bool, false, sym, subst, append_assoc}
use Rattle.std.proofs.lemmas.List.{append-nil}
use Rattle.lh_unit.specs.Contents.{LineText, BlockText}
use Rattle.lh_unit.specs.Hierarchy.{lines_of}
use Rattle.lh_unit.specs.Places.{InstPlaceText, places_in, places_from}
use Rattle.lh_unit.specs.Within.{Each}
use Rattle.lh_unit.proofs.Lists.{Each-append}
use Rattle.lh_verify_laws.proofs.EachItem.{each-split}

abbrev pub OnLine : (LineText → Type 0) → InstPlaceText → Type 0
OnLine P p = P p.line

lines-in : (P : LineText → Type 0) (k : ℕ) (e : Bool) (b : BlockText) (before rest : List LineText) → Each (OnLine P) (places_in k e b before rest) → Each P rest
lines-in P k e b before [] h = tt
lines-in P k e b before (l ∷ rest) h = (h.0, lines-in P (k + 1) e b (before ++ l ∷ []) rest h.1)

pub lines-from : (P : LineText → Type 0) (k : ℕ) (e : Bool) (bs : List BlockText) → Each (OnLine P) (places_from k e bs) → Each P (lines_of bs)
lines-from P k e [] h = tt
lines-from P k e (b ∷ more) h =
    let r = each-split (OnLine P) (places_in k e b [] b.lines) (places_from (k + length b.lines) false more) h in
    Each-append P b.lines (lines_of more) (lines-in P k e b [] b.lines r.0) (lines-from P (k + length b.lines) false more r.1)

-- an instruction of a block
abbrev pub place-at : (number : ℕ) → Bool → BlockText → (before : List LineText) → LineText → (after : List LineText) → InstPlaceText
place-at k e b before l after = record { number = k; in_entry = e; block = b; before = before; line = l; after = after }

pub in-block : (P : InstPlaceText → Type 0) (k : ℕ) (e : Bool) (b : BlockText) (before seen : List LineText) (l : LineText) (after : List LineText)
    → Each P (places_in k e b before (seen ++ l ∷ after)) → (j : ℕ) × P (place-at j e b (before ++ seen) l after)
in-block P k e b before [] l after h = (k, subst (λ (x : List LineText). P (place-at k e b x l after)) (sym (append-nil before)) h.0)
in-block P k e b before (x ∷ seen) l after h =
    let r = in-block P (k + 1) e b (before ++ x ∷ []) seen l after h.1 in
    (r.0, subst (λ (y : List LineText). P (place-at r.0 e b y l after)) (append_assoc before (x ∷ []) seen) r.1)
