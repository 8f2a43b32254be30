-- Labels of a flat text stand once.
use Rattle.std.proofs.Common.{◌≡◌, ◌⊎◌, ◌||◌, ℕ, List, [], ◌∷◌, ◌++◌, map, false, if◌then◌else◌, Some, refl, ap, sym, ◌∙◌, inl, inr}
use Rattle.lh_unit.specs.Contents.{BlockText, UnitText, defines_label_in}
use Rattle.lh_unit.specs.Named.{block_of, label_or}
use Rattle.lh_unit_names.proofs.NameLists.{same_name-refl}
use Rattle.lh_text_laws.specs.Printable.{labels_repeat}
use Rattle.lh_flat.specs.Copies.{Copy, last_piece}
use Rattle.lh_flat.specs.Flat.{FlatBlockText, as_block}
use Rattle.lh_flat.specs.Marks.{IsPlain}
use Rattle.lh_flat.proofs.Marks.{path-apart, not_same}
use Rattle.lh_flat.proofs.Apart.{Differs, Apart}
use Rattle.lh_flat.proofs.NumberNames.{labels}
use Rattle.lh_flat_laws.proofs.BlocksFound.{Piece}
use Rattle.lh_flat_laws.proofs.LastPieces.{last_piece-is}
use Rattle.lh_flat_laws.specs.Members.{Among}
use Rattle.lh_flat_laws.proofs.Members.{among-split}

other-label : (x : List ℕ) (bs : List FlatBlockText) (y : FlatBlockText) → Differs x (labels bs) → Among y bs → x ≡ y.label → ⊥
other-label x [] y d a e = elim a [ ]
other-label x (b ∷ bs) y d (inl q) e = d.0 (e ∙ ap (λ (z : FlatBlockText). z.label) (sym q))
other-label x (b ∷ bs) y d (inr a) e = other-label x bs y d.1 a e

-- the block of a label is found
pub once-found : (bs : List FlatBlockText) (y : FlatBlockText) → Apart (labels bs) → Among y bs → block_of y.label (map as_block bs) ≡ Some (as_block y)
once-found [] y p a = elim a [ ]
once-found (b ∷ bs) y p (inl e) =
    ap (λ (z : FlatBlockText). block_of z.label (map as_block (b ∷ bs))) (sym e)
    ∙ ap (λ t. if t then Some (as_block b) else block_of b.label (map as_block bs)) (same_name-refl b.label)
    ∙ ap (λ (z : FlatBlockText). Some (as_block z)) e
once-found (b ∷ bs) y p (inr a) =
    ap (λ t. if t then Some (as_block b) else block_of y.label (map as_block bs)) (not_same b.label y.label (other-label b.label bs y p.0 a))
    ∙ once-found bs y p.1 a

-- a label that none of these blocks has
none-defines : (n : List ℕ) (bs : List FlatBlockText) → ((y : FlatBlockText) → Among y bs → y.label ≡ n → ⊥) → defines_label_in n (map as_block bs) ≡ false
none-defines n [] h = refl
none-defines n (b ∷ bs) h = ap (λ t. t || defines_label_in n (map as_block bs)) (not_same b.label n (h b (inl refl))) ∙ none-defines n bs (λ y a. h y (inr a))

map-ends : (seen : List FlatBlockText) (b : FlatBlockText) → map as_block seen ++ as_block b ∷ [] ≡ map as_block (seen ++ b ∷ [])
map-ends [] b = refl
map-ends (x ∷ seen) b = ap (λ bs. as_block x ∷ bs) (map-ends seen b)

labels-new-from : (seen bs : List FlatBlockText) → Apart (labels bs) → ((s y : FlatBlockText) → Among s seen → Among y bs → s.label ≡ y.label → ⊥)
    → labels_repeat (map as_block seen) (map as_block bs) ≡ false
labels-new-from seen [] p h = refl
labels-new-from seen (b ∷ bs) p h =
    ap (λ t. t || labels_repeat (map as_block seen ++ as_block b ∷ []) (map as_block bs)) (none-defines b.label seen (λ s a. h s b a (inl refl)))
    ∙ ap (λ ss. labels_repeat ss (map as_block bs)) (map-ends seen b)
    ∙ labels-new-from (seen ++ b ∷ []) bs p.1 (λ s y a c e. by s y c e (among-split s seen (b ∷ []) a))
  where
    by : (s y : FlatBlockText) → Among y bs → s.label ≡ y.label → (Among s seen ⊎ Among s (b ∷ [])) → ⊥
    by s y c e (inl a) = h s y a (inr c) e
    by s y c e (inr (inl q)) = other-label b.label bs y p.0 c (ap (λ (z : FlatBlockText). z.label) q ∙ e)
    by s y c e (inr (inr a)) = elim a [ ]

-- no label of a flat text repeats
pub labels-new : (bs : List FlatBlockText) → Apart (labels bs) → labels_repeat [] (map as_block bs) ≡ false
labels-new bs p = labels-new-from [] bs p (λ s y a c e. elim a [ ])

-- blocks of a copy that end in one piece are one
pub last-apart : (fs : List UnitText) (c : Copy) (b d : BlockText) → IsPlain (label_or b.label) → IsPlain (label_or d.label) → block_of (label_or b.label) c.unit.blocks ≡ Some b
    → block_of (label_or d.label) c.unit.blocks ≡ Some d → last_piece fs c b ≡ last_piece fs c d → b ≡ d
last-apart fs c b d p q r s e =
    let x : Piece c.path (label_or b.label) (last_piece fs c b) = last_piece-is fs c b in
    let y : Piece c.path (label_or d.label) (last_piece fs c d) = last_piece-is fs c d in
    let same : label_or b.label ≡ label_or d.label = path-apart c.path (label_or b.label) (label_or d.label) x.more y.more p q x.behind y.behind (sym x.is ∙ e ∙ y.is) in
    some-same b d (sym r ∙ ap (λ n. block_of n c.unit.blocks) same ∙ s)
  where
    some-same : (b d : BlockText) → Some b ≡ Some d → b ≡ d
    some-same b d e = cc
