-- A region by ids is one of the process that its flat text is by some names.
use Rattle.std.proofs.Common.{◌≡◌, ℕ, zero, suc, ◌+◌, ◌<◌, Bool, true, false, List, [], ◌∷◌, ◌++◌, length, Some, slice_get, refl, ap, ◌∙◌, arith}
use Rattle.std.proofs.lemmas.Option.{same_Some, none-some}
use Rattle.lh_types.specs.Types.{IsData}
use Rattle.lh_unit_names.specs.declared.name.UnitName.{UnitName}
use Rattle.lh_unit.specs.Contents.{LineText}
use Rattle.lh_unit.specs.Naming.{Naming}
use Rattle.lh_flat.specs.declared.flat.FlatBlock.{FlatBlock}
use Rattle.lh_flat.specs.Flat.{with_merge, as_block}
use Rattle.lh_flat.specs.Reads.{flat_block_text, flat_blocks_text}
use Rattle.lh_term.specs.declared.part.Part.{Part}
use Rattle.lh_region_def.specs.Places.{block_number, Here}
use Rattle.lh_region_def.specs.Typed.{IsOfType}
use Rattle.lh_region_def.specs.Right.{BlockAt}
use Rattle.lh_region_def.proofs.Sites.{Site, site-at}
use Rattle.lh_region_def.proofs.Steps.{RegionOf, text-at}
use Rattle.lh_region_walk.specs.declared.walk.Region.{Region}
use Rattle.lh_region_walk.specs.declared.walk.WalkPoint.{WalkPoint}
use Rattle.lh_region.specs.Effects.{probed}
use Rattle.lh_region_walk.specs.Walked.{process_by, region_text, IsRegion, IsAt}
use Rattle.lh_region.proofs.HeadBlock.{number-of}

-- ---- probes

probed-typed : (is_past : Bool) (p : Part) → IsData p.ty → IsOfType p.ty (probed is_past p)
probed-typed true p d = record { typed = d; type = refl }
probed-typed false p d = record { typed = d; type = refl }

pub region-of : (f : Naming) (name : UnitName) (r : Region) → IsRegion f r → RegionOf (process_by name f r.flat.now) (region_text f r)
region-of f name r h = record { formed = h.names.formed name; blocks = refl; probe = probed-typed r.is_past }

-- ---- blocks

text-block : (f : Naming) (j k : ℕ) (bs : List FlatBlock) (b : FlatBlock) → slice_get bs k ≡ Some b → slice_get (flat_blocks_text f j bs) k ≡ Some (flat_block_text f (j + k) b)
text-block f j k [] b e = absurd (none-some b e)
text-block f j zero (c ∷ bs) b e =
    let z : j ≡ j + 0 = omega arith in
    ap (λ (x : FlatBlock). Some (flat_block_text f j x)) (same_Some c b e) ∙ ap (λ (n : ℕ). Some (flat_block_text f n b)) z
text-block f j (suc k) (c ∷ bs) b e =
    let z : (j + 1) + k ≡ j + suc k = omega arith in
    text-block f (j + 1) k bs b e ∙ ap (λ (n : ℕ). Some (flat_block_text f n b)) z

block-within : (bs : List FlatBlock) (k : ℕ) (b : FlatBlock) → slice_get bs k ≡ Some b → k < length bs
block-within [] k b e = absurd (none-some b e)
block-within (c ∷ bs) zero b e = omega arith
block-within (c ∷ bs) (suc k) b e = omega (arith, block-within bs k b e)

-- the text of a block is that of its number
pub block-text-at : (f : Naming) (bs : List FlatBlock) (k : ℕ) (b : FlatBlock) → slice_get bs k ≡ Some b → slice_get (flat_blocks_text f 0 bs) k ≡ Some (flat_block_text f k b)
block-text-at f bs k b e = let z : 0 + k ≡ k = omega arith in text-block f 0 k bs b e ∙ ap (λ (n : ℕ). Some (flat_block_text f n b)) z

-- the label of a block leads to its number, where labels differ
pub label-number : (f : Naming) (bs : List FlatBlock) (k : ℕ) → ((i j : ℕ) → i < length bs → j < length bs → f.label_name i ≡ f.label_name j → i ≡ j) → k < length bs
    → block_number (f.label_name k) (flat_blocks_text f 0 bs) ≡ Some k
label-number f bs k d l =
    let z : k ≡ 0 + k = omega arith in
    let n : 0 + length bs ≡ length bs = omega arith in
    ap (λ (i : ℕ). block_number (f.label_name i) (flat_blocks_text f 0 bs)) z ∙ number-of f (length bs) 0 k bs d n l

pub block-at-text : (f : Naming) (r : Region) → IsRegion f r → (k : ℕ) (b : FlatBlock) → slice_get r.flat.now.blocks k ≡ Some b → BlockAt (region_text f r).blocks k (flat_block_text f k b)
block-at-text f r h k b e = record {
  at = block-text-at f r.flat.now.blocks k b e;
  number = label-number f r.flat.now.blocks k h.names.labels (block-within r.flat.now.blocks k b e);
}

-- ---- lines

-- what holds at a line of a block
pub site-of : (f : Naming) (name : UnitName) (r : Region) → IsRegion f r → (at : WalkPoint) (h : Here) (b : FlatBlock) → IsAt f r at h b → (done : List LineText) (l : LineText) (rest : List LineText)
    → with_merge (flat_block_text f at.block b).merge (flat_block_text f at.block b).lines ≡ done ++ l ∷ rest
    → Site (process_by name f r.flat.now) (as_block (flat_block_text f at.block b)) done l rest
site-of f name r i at h b s done l rest split =
    site-at (process_by name f r.flat.now) (i.names.formed name) at.block (as_block (flat_block_text f at.block b)) done l rest
    (text-at (process_by name f r.flat.now) (region_text f r) (region-of f name r i) at.block (flat_block_text f at.block b) (block-at-text f r i at.block b s.block) h s.label at.block
    (flat_block_text f at.block b) (block-at-text f r i at.block b s.block)) split
