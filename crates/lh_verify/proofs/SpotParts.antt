-- The places of a unit, one by one.
use Rattle.std.proofs.Common.{◌≡◌, ℕ, ◌+◌, ◌<◌, zero, suc, Bool, false, ◌||◌, List, [], ◌∷◌, ◌++◌, length, get_or, drop, refl, ap, sym, ◌∙◌, append_assoc, arith}
use Rattle.std.specs.Prelude.{nat_eq}
use Rattle.std.proofs.lemmas.Grind.{common_steps}
use Rattle.lh_unit.specs.Table.{Table, line_at, insts_at}
use Rattle.lh_unit.specs.declared.inst.BlockId.{BlockId}
use Rattle.lh_unit.specs.declared.inst.InstId.{InstId}
use Rattle.lh_verify.specs.declared.spots.Spot.{Spot}
use Rattle.lh_verify.specs.Spots.{is_other, is_empty, spots_in, spots_from}
use Rattle.std.proofs.lemmas.List.{drop_more}
use Rattle.lh_types.proofs.Tests.{nat_eq-suc}

-- the last is that behind which none is left
pub last-empty : (is : List InstId) (k : ℕ) → k < length is → nat_eq (k + 1) (length is) ≡ is_empty (drop (k + 1) is)
last-empty [] k h = absurd (omega arith)
last-empty (i ∷ []) zero h = refl
last-empty (i ∷ j ∷ is) zero h = grind (arith, common_steps)
last-empty (i ∷ is) (suc k) h =
    let e : suc k + 1 ≡ suc (k + 1) = omega arith in
    ap (λ m. nat_eq m (suc (length is))) e
    ∙ nat_eq-suc (k + 1) (length is)
    ∙ last-empty is k (omega arith)
    ∙ ap (λ m. is_empty (drop m (i ∷ is))) (sym e)

-- one more place
pub spots-step : (t : Table) (e : Bool) (b : BlockId) (other : Bool) (is : List InstId) (k : ℕ) (d : InstId) (old new all : List Spot) (last : Bool) → k < length is → last ≡ is_empty (drop (k + 1) is)
    → new ≡ old ++ record { inst = get_or is k d; block = b; in_entry = e; after_other = other; last = last } ∷ []
    → old ++ spots_in t e b other (drop k is) ≡ all
    → new ++ spots_in t e b (other || is_other (line_at t (get_or is k d).0).inst) (drop (k + 1) is) ≡ all
spots-step t e b other is k d old new all last h w n a =
    let more = spots_in t e b (other || is_other (line_at t (get_or is k d).0).inst) (drop (k + 1) is) in
    ap (λ l. l ++ more) n
    ∙ append_assoc old (record { inst = get_or is k d; block = b; in_entry = e; after_other = other; last = last } ∷ []) more
    ∙ ap (λ x. old ++ (record { inst = get_or is k d; block = b; in_entry = e; after_other = other; last = x } ∷ more)) w
    ∙ ap (λ l. old ++ spots_in t e b other l) (sym (drop_more is k d h))
    ∙ a

-- the places of one more block
pub blocks-step : (t : Table) (e : Bool) (bs : List BlockId) (k : ℕ) (d : BlockId) (old new all : List Spot) → k < length bs
    → new ≡ old ++ spots_in t e (get_or bs k d) false (insts_at t (get_or bs k d).0)
    → old ++ spots_from t e (drop k bs) ≡ all
    → new ++ spots_from t false (drop (k + 1) bs) ≡ all
blocks-step t e bs k d old new all h n a =
    ap (λ l. l ++ spots_from t false (drop (k + 1) bs)) n
    ∙ append_assoc old (spots_in t e (get_or bs k d) false (insts_at t (get_or bs k d).0)) (spots_from t false (drop (k + 1) bs))
    ∙ ap (λ l. old ++ spots_from t e l) (sym (drop_more bs k d h))
    ∙ a
