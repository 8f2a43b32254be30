-- The pieces of a flat text, each as a part of a block of a copy, and the copies in which they stand.
use Rattle.std.proofs.Common.{◌≡◌, ℕ, suc, ◌+◌, List, [], ◌∷◌, ◌++◌, Option, Some, None, refl, ap, sym, ◌∙◌, inl, inr, subst}
use Rattle.lh_unit.specs.Contents.{LineText, BlockText, UnitText}
use Rattle.lh_unit.specs.Named.{label_or}
use Rattle.lh_flat.specs.Copies.{Copy, top_copy, first_piece}
use Rattle.lh_flat.specs.Flat.{MergeText, FlatBlockText, merge_of, pieces_from, flat_block, flat_copy, max_nested}
use Rattle.lh_flat_laws.proofs.Cuts.{Cut, calm, cut, blocks-behind, piece-more}
use Rattle.lh_flat_laws.specs.Members.{Among}
use Rattle.lh_flat_laws.proofs.Members.{among-left, among-right, among-flat}

-- a piece of a block in a copy: the block, its lines before the piece and from there on, the number of the first of those, and the merge
-- and the label of the piece
pub record CopyPiece : Type 0 where
  pub block : BlockText
  pub before : List LineText
  pub number : ℕ
  pub rest : List LineText
  pub merge : Option MergeText
  pub label : List ℕ

module _ (fs : List UnitText) where
  -- the next call that is replaced at a piece
  abbrev pub next_cut : Copy → CopyPiece → Option Cut
  next_cut c s = cut fs c (label_or s.block.label) s.number s.rest

  -- the lines of a piece before that
  abbrev pub next_lines : Copy → CopyPiece → List LineText
  next_lines c s = calm fs c (label_or s.block.label) s.number s.rest

  -- the first piece of a block
  abbrev pub first_copy_piece : Copy → BlockText → CopyPiece
  first_copy_piece c b = record { block = b; before = []; number = 0; rest = b.lines; merge = None; label = first_piece c (label_or b.label) }

  -- the piece that goes on after a call
  abbrev pub after_copy_piece : Copy → CopyPiece → Cut → CopyPiece
  after_copy_piece c s x = record {
    block = s.block;
    before = (s.before ++ next_lines c s) ++ x.line ∷ [];
    number = x.number + 1;
    rest = x.rest;
    merge = merge_of fs c x.copy x.line.inst x.line.result;
    label = x.copy.path;
  }

  -- a piece of this copy
  pub data CopyPieceOf (c : Copy) : CopyPiece → Type 0 where
    begins : (b : BlockText) → Among b c.unit.blocks → CopyPieceOf c (first_copy_piece c b)
    goes_on : (s : CopyPiece) → CopyPieceOf c s → (x : Cut) → next_cut c s ≡ Some x → CopyPieceOf c (after_copy_piece c s x)

  -- a copy in the flat text of a process, below which at most so many units nest
  pub data Nested (u : UnitText) : ℕ → Copy → Type 0 where
    outermost : Nested u max_nested (top_copy u)
    called : (k : ℕ) (c : Copy) → Nested u (suc k) c → (s : CopyPiece) → CopyPieceOf c s → (x : Cut) → next_cut c s ≡ Some x → Nested u k x.copy

  -- the block of the flat text that a piece is
  abbrev pub flat_copy_piece : ℕ → Copy → CopyPiece → FlatBlockText
  flat_copy_piece k c s = record { label = s.label; merge = s.merge; lines = (pieces_from (flat_copy k fs) fs c (label_or s.block.label) s.number s.rest).rest }

  -- what stands behind it in the copy
  abbrev pub flat_behind : ℕ → Copy → CopyPiece → List FlatBlockText
  flat_behind k c s = (pieces_from (flat_copy k fs) fs c (label_or s.block.label) s.number s.rest).more

  -- a piece and what is behind it stand in the copy
  pub record PieceStands (k : ℕ) (c : Copy) (s : CopyPiece) : Type 0 where
    pub block : Among (flat_copy_piece k c s) (flat_copy (suc k) fs c)
    pub behind : (y : FlatBlockText) → Among y (flat_behind k c s) → Among y (flat_copy (suc k) fs c)

  pub behind-cut : (k : ℕ) (c : Copy) (s : CopyPiece) (x : Cut) → next_cut c s ≡ Some x → flat_behind k c s ≡ blocks-behind fs c (label_or s.block.label) (flat_copy k fs) (Some x)
  behind-cut k c s x e = piece-more fs c (label_or s.block.label) (flat_copy k fs) s.number s.rest ∙ ap (blocks-behind fs c (label_or s.block.label) (flat_copy k fs)) e

  pub stands : (k : ℕ) (c : Copy) (s : CopyPiece) → CopyPieceOf c s → PieceStands k c s
  stands k c _ (begins b h) = record {
    block = among-flat (flat_block (flat_copy k fs) fs c) c.unit.blocks b (flat_copy_piece k c (first_copy_piece c b)) h (inl refl);
    behind = λ y a. among-flat (flat_block (flat_copy k fs) fs c) c.unit.blocks b y h (inr a);
  }
  stands k c _ (goes_on s h x e) =
      let before = stands k c s h in
      let in_behind : (y : FlatBlockText) → Among y (blocks-behind fs c (label_or s.block.label) (flat_copy k fs) (Some x)) → Among y (flat_copy (suc k) fs c)
      = λ y a. before.behind y (subst (λ ys. Among y ys) (sym (behind-cut k c s x e)) a) in
      record {
        block = in_behind (flat_copy_piece k c (after_copy_piece c s x)) (among-right _ (flat_copy k fs x.copy) _ (inl refl));
        behind = λ y a. in_behind y (among-right y (flat_copy k fs x.copy) _ (inr a));
      }

  -- so do the blocks of a copy in it
  pub copy-stands : (k : ℕ) (c : Copy) (s : CopyPiece) → CopyPieceOf c s → (x : Cut) → next_cut c s ≡ Some x → (y : FlatBlockText) → Among y (flat_copy k fs x.copy) → Among y (flat_copy (suc k) fs c)
  copy-stands k c s h x e y a = (stands k c s h).behind y (subst (λ ys. Among y ys) (sym (behind-cut k c s x e)) (among-left y (flat_copy k fs x.copy) _ a))

  -- and in the flat text
  pub nested-stands : (u : UnitText) (k : ℕ) (c : Copy) → Nested u k c → (y : FlatBlockText) → Among y (flat_copy (suc k) fs c) → Among y (flat_copy (suc max_nested) fs (top_copy u))
  nested-stands u _ _ outermost y a = a
  nested-stands u _ _ (called k c n s h x e) y a = nested-stands u (suc k) c n y (copy-stands (suc k) c s h x e y a)

  -- each piece of it is a block of the flat text
  pub copy_piece-stands : (u : UnitText) (k : ℕ) (c : Copy) → Nested u k c → (s : CopyPiece) → CopyPieceOf c s → Among (flat_copy_piece k c s) (flat_copy (suc max_nested) fs (top_copy u))
  copy_piece-stands u k c n s h = nested-stands u k c n (flat_copy_piece k c s) (stands k c s h).block
