-- As many instructions as an activation may have are enough for the entry and two regions of any flat text.
use Rattle.std.proofs.Common.{◌≡◌, ℕ, ◌+◌, ◌≤◌, suc, List, [], ◌∷◌, length, fold, Bool, true, false, nat_lt, Option, Some, None, refl, subst, arith}
use Rattle.std.proofs.lemmas.Bool.Decides.{nat_tests}
use Rattle.lh_unit_names.specs.declared.name.UnitName.{UnitName}
use Rattle.lh_unit.specs.Activation.{functions}
use Rattle.lh_unit.specs.Arena.{contents, unit_text_at}
use Rattle.lh_unit.specs.Contents.{LineText, UnitText}
use Rattle.lh_unit.specs.Trace.{max_instructions}
use Rattle.lh_flat.specs.Calls.{callees, recursion_from, nest_deeper}
use Rattle.lh_flat.specs.Flat.{MergeText, FlatBlockText, FlatText, flattened, flattened_by, flat_in, inst_count, max_flat, max_nested, text_of, with_merge}
use Rattle.lh_region_def.specs.Regions.{lines_at}
use Rattle.lh_region_def.specs.Laws.{max_steps}
use Rattle.lh_entity_laws.specs.Stands.{MaxIsEnough}

-- a flat text is not too large
record IsSmall (large : Bool) (x t : FlatText) : Type 0 where
  small : large ≡ false
  same : x ≡ t

flattened-small : (r : Option UnitName) (deep large : Bool) (x t : FlatText) → flattened_by r deep large x ≡ flattened t → IsSmall large x t
flattened-small (Some f) deep large x t e = absurd cc
flattened-small None true large x t e = absurd cc
flattened-small None false true x t e = absurd cc
flattened-small None false false x t e = record { small = refl; same = cc }

flat-small : (fs : List UnitText) (u : UnitText) (t : FlatText) → flat_in fs u ≡ flattened t → inst_count t.blocks ≤ max_flat
unfolding flat_in
flat-small fs u t e =
    let z = flattened-small (recursion_from (suc (length fs)) fs [] (callees u)) (nest_deeper max_nested fs (callees u)) (nat_lt max_flat (inst_count (text_of fs u).blocks)) (text_of fs u) t e in
    subst (λ (x : FlatText). inst_count x.blocks ≤ max_flat) z.same (not-more max_flat (inst_count (text_of fs u).blocks) z.small)
  where
    not-more : (a b : ℕ) → nat_lt a b ≡ false → b ≤ a
    not-more a b h = grind (arith, nat_tests)

grows : (n : ℕ) (bs : List FlatBlockText) → n ≤ fold (λ a (b : FlatBlockText). a + length b.lines) n bs
grows n [] = omega arith
grows n (b ∷ bs) = let g = grows (n + length b.lines) bs in omega (arith, g)

merge-long : (m : Option MergeText) (ls : List LineText) → length (with_merge m ls) ≤ length ls + 1
merge-long None ls = omega arith
merge-long (Some m) ls = omega arith

first-long : (bs : List FlatBlockText) → length (lines_at bs 0) ≤ inst_count bs + 1
first-long [] = omega arith
first-long (b ∷ bs) = let g : 0 + length b.lines ≤ inst_count (b ∷ bs) = grows (0 + length b.lines) bs in let m = merge-long b.merge b.lines in omega (arith, g, m)

sum-enough : (a b n s : ℕ) → b ≤ n + 1 → n ≤ s → (a + a) + (s + 1) ≤ max_instructions → (a + a) + b ≤ max_instructions
sum-enough a b n s h k e = omega (arith, h, k, e)

pub max-is-enough : MaxIsEnough
max-is-enough a u t fl =
    sum-enough max_steps (length (lines_at t.blocks 0)) (inst_count t.blocks) max_flat (first-long t.blocks) (flat-small (functions (contents a)) (unit_text_at a u) t fl.flat) (omega arith)
