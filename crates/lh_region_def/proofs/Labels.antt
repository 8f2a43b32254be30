-- The blocks of a flat text by their numbers, and those of its unit by their labels.
use Rattle.std.proofs.Common.{◌≡◌, ℕ, ◌+◌, zero, suc, List, [], ◌∷◌, map, Bool, true, false, Option, Some, None, refl, ap, ◌∙◌, arith}
use Rattle.std.specs.Bool.{if◌then◌else◌}
use Rattle.std.specs.Prelude.{slice_get}
use Rattle.std.specs.Option.{option_map}
use Rattle.std.proofs.lemmas.Option.{same_Some, none-some}
use Rattle.lh_unit.specs.Contents.{BlockText}
use Rattle.lh_unit_names.specs.Names.{same_name}
use Rattle.lh_unit.specs.Named.{block_of}
use Rattle.lh_unit_names.proofs.NameLists.{same_name-is}
use Rattle.lh_flat.specs.Flat.{FlatBlockText, as_block}
use Rattle.lh_region_def.specs.Places.{block_number}
use Rattle.lh_region_def.specs.Right.{BlockAt}

one-more : (o : Option ℕ) (i : ℕ) → o ≡ Some i → option_map (λ k. k + 1) o ≡ Some (suc i)
one-more o i q = ap (option_map (λ k. k + 1)) q ∙ (let e : i + 1 ≡ suc i = omega arith in ap Some e)

-- a label that is that of a block of the unit has a number
pub number-of : (n : List ℕ) (bs : List FlatBlockText) (c : BlockText) → block_of n (map as_block bs) ≡ Some c → (i : ℕ) × (b : FlatBlockText) × (block_number n bs ≡ Some i)
    × (slice_get bs i ≡ Some b) × (b.label ≡ n) × (as_block b ≡ c)
number-of n [] c q = absurd (none-some c q)
number-of n (b ∷ bs) c q = at (number-of n bs c) (same_name b.label n) refl q
  where
    at : (block_of n (map as_block bs) ≡ Some c → (i : ℕ) × (b : FlatBlockText) × (block_number n bs ≡ Some i) × (slice_get bs i ≡ Some b) × (b.label ≡ n) × (as_block b ≡ c)) → (x : Bool)
        → same_name b.label n ≡ x → (if x then Some (as_block b) else block_of n (map as_block bs)) ≡ Some c
        → (i : ℕ) × (d : FlatBlockText) × ((if x then Some 0 else option_map (λ k. k + 1) (block_number n bs)) ≡ Some i) × (slice_get (b ∷ bs) i ≡ Some d) × (d.label ≡ n) × (as_block d ≡ c)
    at go true e h = (0, b, refl, refl, same_name-is b.label n e, same_Some (as_block b) c h)
    at go false e h = let r = go h in (suc r.0, r.1, one-more (block_number n bs) r.0 r.2, r.3, r.4, r.5)

pub block-by : (n : List ℕ) (bs : List FlatBlockText) (c : BlockText) → block_of n (map as_block bs) ≡ Some c → (i : ℕ) × (b : FlatBlockText) × (block_number n bs ≡ Some i) × BlockAt bs i b
    × (b.label ≡ n) × (as_block b ≡ c)
block-by n bs c q = let r = number-of n bs c q in (r.0, r.1, r.2, record { at = r.3; number = ap (λ m. block_number m bs) r.4 ∙ r.2 }, r.4, r.5)

-- the block of a number is that of its label in the unit
pub block-labelled : (bs : List FlatBlockText) (n : List ℕ) (i : ℕ) (b : FlatBlockText) → slice_get bs i ≡ Some b → block_number n bs ≡ Some i → block_of n (map as_block bs) ≡ Some (as_block b)
block-labelled [] n i b q h = absurd (none-some b q)
block-labelled (c ∷ bs) n i b q h = at (block-labelled bs n) (same_name c.label n) i h q
  where
    at : ((j : ℕ) (d : FlatBlockText) → slice_get bs j ≡ Some d → block_number n bs ≡ Some j → block_of n (map as_block bs) ≡ Some (as_block d)) → (x : Bool) → (j : ℕ)
        → (if x then Some 0 else option_map (λ k. k + 1) (block_number n bs)) ≡ Some j → slice_get (c ∷ bs) j ≡ Some b
        → (if x then Some (as_block c) else block_of n (map as_block bs)) ≡ Some (as_block b)
    at go true j h q = let e : 0 ≡ j = same_Some 0 j h in let z : slice_get (c ∷ bs) 0 ≡ Some b = ap (slice_get (c ∷ bs)) e ∙ q in ap (λ x. Some (as_block x)) (same_Some c b z)
    at go false j h q = by (block_number n bs) refl h
      where
        by : (o : Option ℕ) → block_number n bs ≡ o → option_map (λ k. k + 1) o ≡ Some j → block_of n (map as_block bs) ≡ Some (as_block b)
        by None e g = absurd (none-some j g)
        by (Some k) e g =
            let s : k + 1 ≡ j = same_Some (k + 1) j g in
            let t : suc k ≡ j = omega (arith, s) in
            go k b (ap (slice_get (c ∷ bs)) t ∙ q) e

pub block-text : (bs : List FlatBlockText) (i : ℕ) (b : FlatBlockText) → slice_get bs i ≡ Some b → slice_get (map as_block bs) i ≡ Some (as_block b)
block-text [] i b q = absurd (none-some b q)
block-text (c ∷ bs) zero b q = ap (λ x. Some (as_block x)) (same_Some c b q)
block-text (c ∷ bs) (suc i) b q = block-text bs i b q
