-- Where calls cut the blocks of a copy: a piece has the lines before the next call that is replaced, and the branch into its copy.
use Rattle.std.proofs.Common.{◌≡◌, ℕ, ◌+◌, List, [], ◌∷◌, ◌++◌, map, Option, Some, None, refl, ap}
use Rattle.std.specs.Option.{option_map_or}
use Rattle.lh_unit.specs.Contents.{LineText, UnitText}
use Rattle.lh_flat.specs.Copies.{Copy, call_path, opened, last_from, copied_line}
use Rattle.lh_flat.specs.Flat.{FlatBlockText, merge_of, branch_into, with_line, pieces_from}

-- a call that is replaced: its line, the number of that, the copy, and the lines behind it
pub record Cut : Type 0 where
  pub line : LineText
  pub number : ℕ
  pub copy : Copy
  pub rest : List LineText

module _ (fs : List UnitText) (c : Copy) (label : List ℕ) where
  abbrev pub calm_by : Option Copy → LineText → List LineText → List LineText
  calm_by None l ls = l ∷ ls
  calm_by (Some d) l ls = []

  -- the lines before the next call that is replaced
  abbrev pub calm : (k : ℕ) → List LineText → List LineText
  calm k [] = []
  calm k (l ∷ more) = calm_by (opened fs c (call_path c label k) l.inst) l (calm (k + 1) more)

  abbrev pub cut_by : Option Copy → (k : ℕ) → LineText → List LineText → Option Cut → Option Cut
  cut_by None k l more next = next
  cut_by (Some d) k l more next = Some (record { line = l; number = k; copy = d; rest = more })

  -- that call
  abbrev pub cut : (k : ℕ) → List LineText → Option Cut
  cut k [] = None
  cut k (l ∷ more) = cut_by (opened fs c (call_path c label k) l.inst) k l more (cut (k + 1) more)

  abbrev pub behind : Option Cut → List LineText
  behind None = []
  behind (Some x) = x.line ∷ x.rest

  -- the lines are those before the call, the call, and those behind it
  pub lines-cut : (k : ℕ) (ls : List LineText) → ls ≡ calm k ls ++ behind (cut k ls)
  lines-cut k [] = refl
  lines-cut k (l ∷ more) = by-case (lines-cut (k + 1) more) (opened fs c (call_path c label k) l.inst)
    where
      by-case : (more ≡ calm (k + 1) more ++ behind (cut (k + 1) more)) → (o : Option Copy) → l ∷ more ≡ calm_by o l (calm (k + 1) more) ++ behind (cut_by o k l more (cut (k + 1) more))
      by-case h None = ap (λ ls. l ∷ ls) h
      by-case h (Some d) = refl

  module _ (copy_of : Copy → List FlatBlockText) where
    abbrev pub ending : Option Cut → List LineText
    ending None = []
    ending (Some x) = branch_into x.copy ∷ []

    -- the blocks behind a piece: the copy's, and the piece that goes on after the call, with what is behind it
    abbrev pub blocks-behind : Option Cut → List FlatBlockText
    blocks-behind None = []
    blocks-behind (Some x) =
        copy_of x.copy ++ record { label = x.copy.path; merge = merge_of fs c x.copy x.line.inst x.line.result; lines = (pieces_from copy_of fs c label (x.number + 1) x.rest).rest }
        ∷ (pieces_from copy_of fs c label (x.number + 1) x.rest).more

    -- the lines of a piece
    pub piece-lines : (k : ℕ) (ls : List LineText) → (pieces_from copy_of fs c label k ls).rest ≡ map (copied_line fs c) (calm k ls) ++ ending (cut k ls)
    piece-lines k [] = refl
    piece-lines k (l ∷ more) = by-case (piece-lines (k + 1) more) (opened fs c (call_path c label k) l.inst)
      where
        by-case : ((pieces_from copy_of fs c label (k + 1) more).rest ≡ map (copied_line fs c) (calm (k + 1) more) ++ ending (cut (k + 1) more)) → (o : Option Copy)
            → (with_line copy_of fs c l o (pieces_from copy_of fs c label (k + 1) more)).rest ≡ map (copied_line fs c) (calm_by o l (calm (k + 1) more))
            ++ ending (cut_by o k l more (cut (k + 1) more))
        by-case h None = ap (λ ls. copied_line fs c l ∷ ls) h
        by-case h (Some d) = refl

    -- and the blocks behind it
    pub piece-more : (k : ℕ) (ls : List LineText) → (pieces_from copy_of fs c label k ls).more ≡ blocks-behind (cut k ls)
    piece-more k [] = refl
    piece-more k (l ∷ more) = by-case (piece-more (k + 1) more) (opened fs c (call_path c label k) l.inst)
      where
        by-case : ((pieces_from copy_of fs c label (k + 1) more).more ≡ blocks-behind (cut (k + 1) more)) → (o : Option Copy)
            → (with_line copy_of fs c l o (pieces_from copy_of fs c label (k + 1) more)).more ≡ blocks-behind (cut_by o k l more (cut (k + 1) more))
        by-case h None = h
        by-case h (Some d) = refl

  -- where a block ends whose lines from line k on are these: in the piece that begins here, or in the last one behind it
  abbrev pub last_by : Option Cut → (here : List ℕ) → List ℕ
  last_by None here = here
  last_by (Some x) here = last_from fs c label x.copy.path (x.number + 1) x.rest

  pub last-cut : (here : List ℕ) (k : ℕ) (ls : List LineText) → last_from fs c label here k ls ≡ last_by (cut k ls) here
  last-cut here k [] = refl
  last-cut here k (l ∷ more) = by-case (last-cut here (k + 1) more) (opened fs c (call_path c label k) l.inst)
    where
      by-case : (last_from fs c label here (k + 1) more ≡ last_by (cut (k + 1) more) here) → (o : Option Copy) → last_from fs c label (option_map_or (λ (d : Copy). d.path) o here) (k + 1) more
          ≡ last_by (cut_by o k l more (cut (k + 1) more)) here
      by-case h None = h
      by-case h (Some d) = refl
