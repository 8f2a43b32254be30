-- A path of blocks of a flat text goes through pieces of copies; what was given in them on the way was given on the path.
use Rattle.std.proofs.Common.{◌≡◌, ◌⊎◌, ℕ, zero, suc, List, [], ◌∷◌, ◌++◌, map, true, false, Option, Some, None, refl, ap, sym, ◌∙◌, inl, inr, subst}
use Rattle.std.specs.List.{list_any, flat_map}
use Rattle.std.proofs.lemmas.Bool.{or_cases, or_left, or_right}
use Rattle.lh_unit.specs.Contents.{OperandText, ret_text, LineText, BlockText, UnitText, is_result_name, lines_define, blocks_define, args_define}
use Rattle.lh_unit_names.specs.Names.{same_name}
use Rattle.lh_unit.specs.Named.{block_of, label_or}
use Rattle.lh_unit.specs.Places.{leads_to, last_leads_to, has_edge, entry_of, IsPath}
use Rattle.lh_unit.specs.WellFormed.{values_named, is_phi}
use Rattle.lh_unit.proofs.ById.{lines_define-append}
use Rattle.lh_unit_names.proofs.NameLists.{same_name-is, same_name-refl}
use Rattle.lh_verify_laws.specs.Defined.{IsThere}
use Rattle.lh_verify_laws.proofs.There.{last-leads}
use Rattle.lh_flat.specs.Copies.{Copy, top_copy, first_piece, copied, copied_line}
use Rattle.lh_flat.specs.Flat.{merge_of, first_label, branch_into, flat_block, flat_copy, max_nested, with_merge, as_block}
use Rattle.lh_flat_laws.proofs.Cuts.{Cut, ending, behind, lines-cut, piece-lines}
use Rattle.lh_flat_laws.proofs.CopyPieces.{CopyPiece, next_cut, next_lines, first_copy_piece, after_copy_piece, CopyPieceOf, begins, goes_on, Nested, outermost, called, flat_copy_piece}
use Rattle.lh_flat_laws.proofs.Lines.{define-parts, define-copied, merge-defines, lines-define, merge-leads, merge-ends, LastOf, no_last, last_is, last-of, Leads, within, back, leads-copied}
use Rattle.lh_flat_laws.specs.Members.{Among}

inner : (b : List LineText) (l : LineText) (r : List LineText) → b ++ l ∷ r ≡ (b ++ l ∷ []) ++ r
inner [] l r = refl
inner (x ∷ b) l r = ap (λ ls. x ∷ ls) (inner b l r)

regrouped : (a b : List LineText) (l : LineText) (r : List LineText) → a ++ (b ++ l ∷ r) ≡ ((a ++ b) ++ l ∷ []) ++ r
regrouped [] b l r = inner b l r
regrouped (x ∷ a) b l r = ap (λ ls. x ∷ ls) (regrouped a b l r)

pub nested-right : (a b c : List LineText) → (a ++ b) ++ c ≡ a ++ (b ++ c)
nested-right [] b c = refl
nested-right (x ∷ a) b c = ap (λ ls. x ∷ ls) (nested-right a b c)

among-named : (ns : List (List ℕ)) (n m : List ℕ) → Among n ns → n ≡ m → list_any (λ x. same_name x m) ns ≡ true
among-named [] n m a e = elim a [ ]
among-named (x ∷ ns) n m (inl q) e = or_left (same_name x m) (list_any (λ y. same_name y m) ns) (ap (λ y. same_name y m) (q ∙ e) ∙ same_name-refl m)
among-named (x ∷ ns) n m (inr a) e = or_right (same_name x m) (list_any (λ y. same_name y m) ns) (among-named ns n m a e)

module _ (fs : List UnitText) where
  -- what is asked of a unit that is copied
  pub record IsGood (v : UnitText) : Type 0 where
    pub leads : (b : BlockText) → Among b v.blocks → (n : List ℕ) → Among n (last_leads_to b.lines) → (d : BlockText) × (block_of n v.blocks ≡ Some d) × Among d v.blocks × (label_or d.label ≡ n)
    pub self : (b : BlockText) → Among b v.blocks → block_of (label_or b.label) v.blocks ≡ Some b
    pub there : (b : BlockText) (before after : List LineText) (l : LineText) → Among b v.blocks → b.lines ≡ before ++ l ∷ after → is_phi l.inst ≡ false → (n : List ℕ) → Among n (values_named l.inst)
        → IsThere v b before n

  -- what is asked of a call that is replaced: an argument of the copy is a value that the call names; the copy has an entry; and a result
  -- of the call is that of the merge behind it
  pub record CallIsGood (c : Copy) (x : Cut) : Type 0 where
    pub arguments : (n : List ℕ) → args_define n x.copy.unit.args ≡ true → (m : List ℕ) × Among m (values_named x.line.inst) × (x.copy.value n ≡ c.value m)
    pub entry : (b : BlockText) × (more : List BlockText) × (x.copy.unit.blocks ≡ b ∷ more)
    pub no_phi : is_phi x.line.inst ≡ false
    pub result : (n : List ℕ) → is_result_name n x.line.result ≡ true → lines_define (c.value n) (with_merge (merge_of fs c x.copy x.line.inst x.line.result) []) ≡ true

  -- the block of a piece is one of the unit, and its lines are those before the piece and those from it on
  pub copy_piece-block : (c : Copy) (s : CopyPiece) → CopyPieceOf fs c s → Among s.block c.unit.blocks × (s.block.lines ≡ s.before ++ s.rest)
  copy_piece-block c _ (begins b h) = (h, refl)
  copy_piece-block c _ (goes_on s h z e) =
      let p = copy_piece-block c s h in
      let cuts : s.rest ≡ next_lines fs c s ++ z.line ∷ z.rest = lines-cut fs c (label_or s.block.label) s.number s.rest ∙ ap (λ o. next_lines fs c s ++ behind fs c (label_or s.block.label) o) e in
      (p.0, p.1 ∙ ap (λ ls. s.before ++ ls) cuts ∙ regrouped s.before (next_lines fs c s) z.line z.rest)

  map-parts : (c : Copy) (xs : List LineText) (l : LineText) → map (copied_line fs c) (xs ++ l ∷ []) ++ [] ≡ map (copied_line fs c) xs ++ copied_line fs c l ∷ []
  map-parts c [] l = refl
  map-parts c (x ∷ xs) l = ap (λ ls. copied_line fs c x ∷ ls) (map-parts c xs l)

  no-rest : (ls : List LineText) → ls ++ [] ≡ ls
  no-rest [] = refl
  no-rest (l ∷ ls) = ap (λ ms. l ∷ ms) (no-rest ls)

  -- where the block of a piece leads
  module _ (y : BlockText) (k : ℕ) (c : Copy) (s : CopyPiece) (of : CopyPieceOf fs c s) (is : y ≡ as_block (flat_copy_piece fs k c s)) where
    pub whole-block : next_cut fs c s ≡ None → s.block.lines ≡ s.before ++ next_lines fs c s
    whole-block e =
        (copy_piece-block c s of).1
        ∙ ap (λ ls. s.before ++ ls) (lines-cut fs c (label_or s.block.label) s.number s.rest ∙ ap (λ o. next_lines fs c s ++ behind fs c (label_or s.block.label) o) e ∙ no-rest (next_lines fs c s))

    block-lines : y.lines ≡ with_merge s.merge (map (copied_line fs c) (next_lines fs c s) ++ ending fs c (label_or s.block.label) (flat_copy k fs) (next_cut fs c s))
    block-lines = ap (λ (b : BlockText). b.lines) is ∙ ap (with_merge s.merge) (piece-lines fs c (label_or s.block.label) (flat_copy k fs) s.number s.rest)

    pub last-here : next_cut fs c s ≡ None → (xs : List LineText) (l : LineText) → next_lines fs c s ≡ xs ++ l ∷ [] → last_leads_to y.lines ≡ leads_to (copied fs c l.inst)
    last-here e xs l q =
        ap last_leads_to block-lines
        ∙ ap (λ o. last_leads_to (with_merge s.merge (map (copied_line fs c) (next_lines fs c s) ++ ending fs c (label_or s.block.label) (flat_copy k fs) o))) e
        ∙ ap (λ ls. last_leads_to (with_merge s.merge (map (copied_line fs c) ls ++ []))) q
        ∙ ap (λ ls. last_leads_to (with_merge s.merge ls)) (map-parts c xs l)
        ∙ merge-leads s.merge (map (copied_line fs c) xs) (copied_line fs c l)

    pub cut-leads : (z : Cut) → next_cut fs c s ≡ Some z → last_leads_to y.lines ≡ first_piece z.copy (first_label z.copy.unit.blocks) ∷ []
    cut-leads z e =
        ap last_leads_to block-lines
        ∙ ap (λ o. last_leads_to (with_merge s.merge (map (copied_line fs c) (next_lines fs c s) ++ ending fs c (label_or s.block.label) (flat_copy k fs) o))) e
        ∙ merge-leads s.merge (map (copied_line fs c) (next_lines fs c s)) (branch_into z.copy)

    pub nothing-here : next_cut fs c s ≡ None → next_lines fs c s ≡ [] → last_leads_to y.lines ≡ []
    nothing-here e q =
        ap last_leads_to block-lines
        ∙ ap (λ o. last_leads_to (with_merge s.merge (map (copied_line fs c) (next_lines fs c s) ++ ending fs c (label_or s.block.label) (flat_copy k fs) o))) e
        ∙ ap (λ ls. last_leads_to (with_merge s.merge (map (copied_line fs c) ls ++ []))) q
        ∙ merge-ends s.merge

    -- it ends with the branch into the copy of the call at which it is cut, or with the copy of the last line of its block
    pub data LeadsOn (m : List ℕ) : Type 0 where
      into : (z : Cut) → next_cut fs c s ≡ Some z → m ≡ first_piece z.copy (first_label z.copy.unit.blocks) → LeadsOn m
      within_unit : next_cut fs c s ≡ None → (d : BlockText) → Among d c.unit.blocks → has_edge s.block (label_or d.label) ≡ true → first_piece c (label_or d.label) ≡ m → LeadsOn m
      back_from : next_cut fs c s ≡ None → (before : List LineText) (l : LineText) (o : Option OperandText) → s.block.lines ≡ before ++ l ∷ [] → l.inst ≡ ret_text o → m ≡ c.path → LeadsOn m

    pub leads-on : IsGood c.unit → (m : List ℕ) → has_edge y m ≡ true → LeadsOn m
    leads-on g m h = by (next_cut fs c s) refl
      where
        jumped : next_cut fs c s ≡ None → (xs : List LineText) (l : LineText) → next_lines fs c s ≡ xs ++ l ∷ [] → Leads c l.inst m → LeadsOn m
        jumped e xs l q w =
            let lines : s.block.lines ≡ (s.before ++ xs) ++ l ∷ [] = whole-block e ∙ ap (λ ls. s.before ++ ls) q ∙ sym (nested-right s.before xs (l ∷ [])) in
            on lines w
          where
            on : s.block.lines ≡ (s.before ++ xs) ++ l ∷ [] → Leads c l.inst m → LeadsOn m
            on lines (within to a r) =
                let ends : last_leads_to s.block.lines ≡ leads_to l.inst = ap last_leads_to lines ∙ last-leads (s.before ++ xs) l in
                let d = g.leads s.block (copy_piece-block c s of).0 to (subst (λ ns. Among to ns) (sym ends) a) in
                within_unit e d.0 d.2 (ap (λ ns. list_any (λ x. same_name x (label_or d.0.label)) ns) ends ∙ among-named (leads_to l.inst) to (label_or d.0.label) a (sym d.3))
                (ap (first_piece c) d.3 ∙ sym r)
            on lines (back o i r) = back_from e (s.before ++ xs) l o lines i r

        by-last : next_cut fs c s ≡ None → (ls : List LineText) → next_lines fs c s ≡ ls → LastOf ls → LeadsOn m
        by-last e _ q no_last = let f : has_edge y m ≡ false = ap (λ ns. list_any (λ x. same_name x m) ns) (nothing-here e q) in cc
        by-last e _ q (last_is xs l) = jumped e xs l q (leads-copied fs c l.inst m (sym (ap (λ ns. list_any (λ x. same_name x m) ns) (last-here e xs l q)) ∙ h))

        by : (o : Option Cut) → next_cut fs c s ≡ o → LeadsOn m
        by None e = by-last e (next_lines fs c s) refl (last-of (next_lines fs c s))
        by (Some z) e = into z e (named (or_cases (same_name (first_piece z.copy (first_label z.copy.unit.blocks)) m) false (sym (ap (λ ns. list_any (λ x. same_name x m) ns) (cut-leads z e)) ∙ h)))
          where
            named : ((same_name (first_piece z.copy (first_label z.copy.unit.blocks)) m ≡ true) ⊎ (false ≡ true)) → m ≡ first_piece z.copy (first_label z.copy.unit.blocks)
            named (inl f) = sym (same_name-is (first_piece z.copy (first_label z.copy.unit.blocks)) m f)
            named (inr f) = cc

  module _ (u x : UnitText) (args : x.args ≡ u.args) where
    -- an argument of the flat text, or given in a block before
    abbrev pub There : List BlockText → List ℕ → Type 0
    There earlier n = (args_define n x.args ≡ true) ⊎ (blocks_define n earlier ≡ true)

    pub there-later : (b : BlockText) (earlier : List BlockText) (n : List ℕ) → There earlier n → There (b ∷ earlier) n
    there-later b earlier n (inl h) = inl h
    there-later b earlier n (inr h) = inr (or_right (lines_define n b.lines) (blocks_define n earlier) h)

    pub there-now : (b : BlockText) (earlier : List BlockText) (n : List ℕ) → lines_define n b.lines ≡ true → There (b ∷ earlier) n
    there-now b earlier n h = inr (or_left (lines_define n b.lines) (blocks_define n earlier) h)

    -- the path that the copy's unit has taken to a block, and what was given on it
    pub record Came (earlier : List BlockText) (c : Copy) (b : BlockText) (q : List BlockText) : Type 0 where
      pub path : IsPath c.unit (b ∷ q)
      pub arguments : (n : List ℕ) → args_define n c.unit.args ≡ true → There earlier (c.value n)
      pub given : (n : List ℕ) → blocks_define n q ≡ true → There earlier (c.value n)

    came-later : (y : BlockText) (earlier : List BlockText) (c : Copy) (b : BlockText) (q : List BlockText) → Came earlier c b q → Came (y ∷ earlier) c b q
    came-later y earlier c b q k = record {
      path = k.path;
      arguments = λ n h. there-later y earlier (c.value n) (k.arguments n h);
      given = λ n h. there-later y earlier (c.value n) (k.given n h);
    }

    -- the same of each call that is open, and of the lines before it
    pub data Waits (earlier : List BlockText) : (k : ℕ) (c : Copy) → Nested fs u k c → Type 0 where
      none_waits : Waits earlier max_nested (top_copy u) outermost
      waits_at : (k : ℕ) (c : Copy) (n : Nested fs u (suc k) c) (s : CopyPiece) (h : CopyPieceOf fs c s) (z : Cut) (e : next_cut fs c s ≡ Some z) (q : List BlockText)
          → Came earlier c s.block q → ((m : List ℕ) → lines_define m (s.before ++ next_lines fs c s) ≡ true → There earlier (c.value m)) → Waits earlier (suc k) c n
          → Waits earlier k z.copy (called k c n s h z e)

    waits-later : (y : BlockText) (earlier : List BlockText) (k : ℕ) (c : Copy) (n : Nested fs u k c) → Waits earlier k c n → Waits (y ∷ earlier) k c n
    waits-later y earlier _ _ _ none_waits = none_waits
    waits-later y earlier _ _ _ (waits_at k c n s h z e q came lines w) =
        waits_at k c n s h z e q (came-later y earlier c s.block q came) (λ m d. there-later y earlier (c.value m) (lines m d)) (waits-later y earlier (suc k) c n w)

    -- given before the lines of a piece: before its block, or by the merge with which it begins
    abbrev pub Begun : List BlockText → Copy → CopyPiece → Type 0
    Begun earlier c s = (n : List ℕ) → lines_define n s.before ≡ true → There earlier (c.value n) ⊎ (lines_define (c.value n) (with_merge s.merge []) ≡ true)

    -- a block of a path, and what was given before it
    pub record Located (y : BlockText) (earlier : List BlockText) : Type 0 where
      pub depth : ℕ
      pub copy : Copy
      pub nested : Nested fs u depth copy
      pub piece : CopyPiece
      pub of : CopyPieceOf fs copy piece
      pub is : y ≡ as_block (flat_copy_piece fs depth copy piece)
      pub waits : Waits earlier depth copy nested
      pub taken : List BlockText
      pub came : Came earlier copy piece.block taken
      pub begun : Begun earlier copy piece

    -- the block of a piece ends with a `ret`
    pub record EndsInRet (s : CopyPiece) : Type 0 where
      pub before : List LineText
      pub line : LineText
      pub operand : Option OperandText
      pub splits : s.block.lines ≡ before ++ line ∷ []
      pub ret : line.inst ≡ ret_text operand

    -- from a piece of a copy to the next: to a block of the same copy, behind the call that made the copy, or into the copy of a call
    pub data Step (c0 : Copy) (s0 : CopyPiece) : Copy → CopyPiece → Type 0 where
      jumps : (d : BlockText) → Among d c0.unit.blocks → next_cut fs c0 s0 ≡ None → has_edge s0.block (label_or d.label) ≡ true → Step c0 s0 c0 (first_copy_piece fs c0 d)
      returns : (k : ℕ) (c : Copy) → Nested fs u k c → (s : CopyPiece) → CopyPieceOf fs c s → (z : Cut) → next_cut fs c s ≡ Some z → z.copy ≡ c0 → next_cut fs c0 s0 ≡ None → EndsInRet s0
          → Step c0 s0 c (after_copy_piece fs c s z)
      enters : (z : Cut) → next_cut fs c0 s0 ≡ Some z → (b : BlockText) (more : List BlockText) → z.copy.unit.blocks ≡ b ∷ more → Step c0 s0 z.copy (first_copy_piece fs z.copy b)

    -- a piece to which a path goes on from a piece of a copy
    pub record GoesOn (m : List ℕ) (earlier : List BlockText) (c0 : Copy) (s0 : CopyPiece) : Type 0 where
      pub depth : ℕ
      pub copy : Copy
      pub nested : Nested fs u depth copy
      pub piece : CopyPiece
      pub of : CopyPieceOf fs copy piece
      pub is : piece.label ≡ m
      pub step : Step c0 s0 copy piece
      pub waits : Waits earlier depth copy nested
      pub taken : List BlockText
      pub came : Came earlier copy piece.block taken
      pub begun : Begun earlier copy piece

    module _ (good : (k : ℕ) (c : Copy) → Nested fs u k c → IsGood c.unit) (calls : (k : ℕ) (c : Copy) → Nested fs u k c → (s : CopyPiece) → CopyPieceOf fs c s → (z : Cut) → next_cut fs c s ≡ Some z
        → CallIsGood c z)
        (deep : (c : Copy) → Nested fs u zero c → (s : CopyPiece) → CopyPieceOf fs c s → (z : Cut) → next_cut fs c s ≡ Some z → ⊥)
        (no_ret : (b : BlockText) (before after : List LineText) (l : LineText) → Among b u.blocks → b.lines ≡ before ++ l ∷ after → (o : Option OperandText) → l.inst ≡ ret_text o → ⊥) where
      -- the lines of a piece that are no merge
      pub copy_piece-lines : (k : ℕ) (c : Copy) (s : CopyPiece) → (flat_copy_piece fs k c s).lines ≡ map (copied_line fs c) (next_lines fs c s)
          ++ ending fs c (label_or s.block.label) (flat_copy k fs) (next_cut fs c s)
      copy_piece-lines k c s = piece-lines fs c (label_or s.block.label) (flat_copy k fs) s.number s.rest

      module _ (y : BlockText) (earlier : List BlockText) (at : Located y earlier) where
        -- the lines of the block at which a path stands
        pub lines-are : y.lines ≡ with_merge at.piece.merge (map (copied_line fs at.copy) (next_lines fs at.copy at.piece)
            ++ ending fs at.copy (label_or at.piece.block.label) (flat_copy at.depth fs) (next_cut fs at.copy at.piece))
        lines-are = ap (λ (b : BlockText). b.lines) at.is ∙ ap (with_merge at.piece.merge) (copy_piece-lines at.depth at.copy at.piece)

        -- what the lines of the piece give is given by the block
        pub calm-given : (n : List ℕ) → lines_define n (next_lines fs at.copy at.piece) ≡ true → lines_define (at.copy.value n) y.lines ≡ true
        calm-given n h =
            ap (lines_define (at.copy.value n)) lines-are
            ∙ lines-define (at.copy.value n) at.piece.merge _ (lines_define-append (at.copy.value n) (map (copied_line fs at.copy) (next_lines fs at.copy at.piece)) _
            (define-copied fs at.copy n (next_lines fs at.copy at.piece) h))

        -- so is what the merge gives
        merge-given : (n : List ℕ) → lines_define n (with_merge at.piece.merge []) ≡ true → lines_define n y.lines ≡ true
        merge-given n h = ap (lines_define n) lines-are ∙ merge-defines n at.piece.merge _ h

        -- what is given before a line of the piece is there behind the block
        pub lines-there : (n : List ℕ) → lines_define n (at.piece.before ++ next_lines fs at.copy at.piece) ≡ true → There (y ∷ earlier) (at.copy.value n)
        lines-there n h = by (define-parts n at.piece.before (next_lines fs at.copy at.piece) h)
          where
            by : ((lines_define n at.piece.before ≡ true) ⊎ (lines_define n (next_lines fs at.copy at.piece) ≡ true)) → There (y ∷ earlier) (at.copy.value n)
            by (inr k) = there-now y earlier (at.copy.value n) (calm-given n k)
            by (inl k) = begun (at.begun n k)
              where
                begun : (There earlier (at.copy.value n) ⊎ (lines_define (at.copy.value n) (with_merge at.piece.merge []) ≡ true)) → There (y ∷ earlier) (at.copy.value n)
                begun (inl t) = there-later y earlier (at.copy.value n) t
                begun (inr m) = there-now y earlier (at.copy.value n) (merge-given (at.copy.value n) m)

        came-on : Came (y ∷ earlier) at.copy at.piece.block at.taken
        came-on = came-later y earlier at.copy at.piece.block at.taken at.came

        -- a value that is there at a line behind the piece's is there behind the block
        pub value-there : (n : List ℕ) → IsThere at.copy.unit at.piece.block (at.piece.before ++ next_lines fs at.copy at.piece) n → There (y ∷ earlier) (at.copy.value n)
        value-there n (inl h) = came-on.arguments n h
        value-there n (inr h) = by (h at.taken at.came.path)
          where
            by : ((lines_define n (at.piece.before ++ next_lines fs at.copy at.piece) ≡ true) ⊎ (blocks_define n at.taken ≡ true)) → There (y ∷ earlier) (at.copy.value n)
            by (inl k) = lines-there n k
            by (inr k) = came-on.given n k

        -- where all lines of a block are behind, its results are there
        block-there : next_cut fs at.copy at.piece ≡ None → (n : List ℕ) → lines_define n at.piece.block.lines ≡ true → There (y ∷ earlier) (at.copy.value n)
        block-there e n h =
            let whole : at.piece.block.lines ≡ at.piece.before ++ (next_lines fs at.copy at.piece ++ []) =
            (copy_piece-block at.copy at.piece at.of).1
            ∙ ap (λ ls. at.piece.before ++ ls) (lines-cut fs at.copy (label_or at.piece.block.label) at.piece.number at.piece.rest
            ∙ ap (λ o. next_lines fs at.copy at.piece ++ behind fs at.copy (label_or at.piece.block.label) o) e) in
            lines-there n (subst (λ ls. lines_define n ls ≡ true) (whole ∙ ap (λ ls. at.piece.before ++ ls) (none-behind (next_lines fs at.copy at.piece))) h)
          where
            none-behind : (ls : List LineText) → ls ++ [] ≡ ls
            none-behind [] = refl
            none-behind (l ∷ ls) = ap (λ ms. l ∷ ms) (none-behind ls)

      -- behind a `ret` the path goes on in the copy that called
      abbrev HasRet : Copy → Type 0
      HasRet c = (b : BlockText) × (before : List LineText) × (after : List LineText) × (l : LineText) × (o : Option OperandText) × Among b c.unit.blocks × (b.lines ≡ before ++ l ∷ after)
          × (l.inst ≡ ret_text o)

      popped : (path : List BlockText) (m : List ℕ) (s0 : CopyPiece) (k : ℕ) (c : Copy) (n : Nested fs u k c) → Waits path k c n → next_cut fs c s0 ≡ None → EndsInRet s0 → HasRet c → m ≡ c.path
          → GoesOn m path c s0
      popped path m s0 _ _ _ none_waits none ret r q = elim (no_ret r.0 r.1 r.2 r.3 r.5 r.6 r.4 r.7) [ ]
      popped path m s0 _ _ _ (waits_at k c n s h z e taken came lines w) none ret r q = record {
        depth = suc k;
        copy = c;
        nested = n;
        piece = after_copy_piece fs c s z;
        of = goes_on s h z e;
        is = sym q;
        step = returns (suc k) c n s h z e refl none ret;
        waits = w;
        taken = taken;
        came = came;
        begun = λ a d. by a (define-parts a (s.before ++ next_lines fs c s) (z.line ∷ []) d);
      }
        where
          by : (a : List ℕ) → ((lines_define a (s.before ++ next_lines fs c s) ≡ true) ⊎ (lines_define a (z.line ∷ []) ≡ true))
              → There path (c.value a) ⊎ (lines_define (c.value a) (with_merge (merge_of fs c z.copy z.line.inst z.line.result) []) ≡ true)
          by a (inl d) = inl (lines a d)
          by a (inr d) = last (or_cases (is_result_name a z.line.result) false d)
            where
              last : ((is_result_name a z.line.result ≡ true) ⊎ (false ≡ true))
                  → There path (c.value a) ⊎ (lines_define (c.value a) (with_merge (merge_of fs c z.copy z.line.inst z.line.result) []) ≡ true)
              last (inl d) = inr ((calls (suc k) c n s h z e).result a d)
              last (inr d) = cc

      -- a branch into a copy leads to its entry
      entered : (path : List BlockText) (m : List ℕ) (k : ℕ) (c : Copy) (n : Nested fs u k c) (s : CopyPiece) (h : CopyPieceOf fs c s) (z : Cut) (e : next_cut fs c s ≡ Some z) (q : List BlockText)
          → Came path c s.block q → ((a : List ℕ) → lines_define a (s.before ++ next_lines fs c s) ≡ true → There path (c.value a)) → Waits path k c n
          → ((a : List ℕ) → args_define a z.copy.unit.args ≡ true → There path (z.copy.value a)) → (b : BlockText) × (more : List BlockText) × (z.copy.unit.blocks ≡ b ∷ more)
          → m ≡ first_piece z.copy (first_label z.copy.unit.blocks) → GoesOn m path c s
      entered path m zero c n s h z e q came lines w a b r = elim (deep c n s h z e) [ ]
      entered path m (suc k) c n s h z e q came lines w a b r = record {
        depth = k;
        copy = z.copy;
        nested = called k c n s h z e;
        piece = first_copy_piece fs z.copy b.0;
        of = begins b.0 (subst (λ bs. Among b.0 bs) (sym b.2) (inl refl));
        is = sym (r ∙ ap (λ bs. first_piece z.copy (first_label bs)) b.2);
        step = enters z e b.0 b.1 b.2;
        waits = waits_at k c n s h z e q came lines w;
        taken = [];
        came = record { path = ap entry_of b.2; arguments = a; given = λ x d. cc };
        begun = λ x d. cc;
      }

      module _ (y : BlockText) (earlier : List BlockText) (at : Located y earlier) where
        cut-block : (z : Cut) → next_cut fs at.copy at.piece ≡ Some z → at.piece.block.lines ≡ (at.piece.before ++ next_lines fs at.copy at.piece) ++ z.line ∷ z.rest
        cut-block z e =
            (copy_piece-block at.copy at.piece at.of).1
            ∙ ap (λ ls. at.piece.before ++ ls) (lines-cut fs at.copy (label_or at.piece.block.label) at.piece.number at.piece.rest
            ∙ ap (λ o. next_lines fs at.copy at.piece ++ behind fs at.copy (label_or at.piece.block.label) o) e)
            ∙ sym (nested-right at.piece.before (next_lines fs at.copy at.piece) (z.line ∷ z.rest))

        jumped : (m : List ℕ) → next_cut fs at.copy at.piece ≡ None → (d : BlockText) → Among d at.copy.unit.blocks → has_edge at.piece.block (label_or d.label) ≡ true
            → first_piece at.copy (label_or d.label) ≡ m → GoesOn m (y ∷ earlier) at.copy at.piece
        jumped m e d a edge r = record {
          depth = at.depth;
          copy = at.copy;
          nested = at.nested;
          piece = first_copy_piece fs at.copy d;
          of = begins d a;
          is = r;
          step = jumps d a e edge;
          waits = waits-later y earlier at.depth at.copy at.nested at.waits;
          taken = at.piece.block ∷ at.taken;
          came = record {
            path = (edge, (good at.depth at.copy at.nested).self d a, at.came.path);
            arguments = (came-on y earlier at).arguments;
            given = λ n h. by-block n (or_cases (lines_define n at.piece.block.lines) (blocks_define n at.taken) h);
          };
          begun = λ n h. cc;
        }
          where
            by-block : (n : List ℕ) → ((lines_define n at.piece.block.lines ≡ true) ⊎ (blocks_define n at.taken ≡ true)) → There (y ∷ earlier) (at.copy.value n)
            by-block n (inl h) = block-there y earlier at e n h
            by-block n (inr h) = (came-on y earlier at).given n h

        pushed : (m : List ℕ) (z : Cut) → next_cut fs at.copy at.piece ≡ Some z → m ≡ first_piece z.copy (first_label z.copy.unit.blocks) → GoesOn m (y ∷ earlier) at.copy at.piece
        pushed m z e r =
            let c : CallIsGood at.copy z = calls at.depth at.copy at.nested at.piece at.of z e in
            entered (y ∷ earlier) m at.depth at.copy at.nested at.piece at.of z e at.taken (came-on y earlier at) (lines-there y earlier at) (waits-later y earlier at.depth at.copy at.nested at.waits)
            (λ a h. let v = c.arguments a h in subst (There (y ∷ earlier)) (sym v.2)
            (value-there y earlier at v.0 ((good at.depth at.copy at.nested).there at.piece.block (at.piece.before ++ next_lines fs at.copy at.piece) z.rest z.line
            (copy_piece-block at.copy at.piece at.of).0 (cut-block z e) c.no_phi v.0 v.1)))
            c.entry r

        -- the path goes on to the piece of the label
        pub goes-on : (m : List ℕ) → has_edge y m ≡ true → GoesOn m (y ∷ earlier) at.copy at.piece
        goes-on m h = by (leads-on y at.depth at.copy at.piece at.of at.is (good at.depth at.copy at.nested) m h)
          where
            by : LeadsOn y at.depth at.copy at.piece at.of at.is m → GoesOn m (y ∷ earlier) at.copy at.piece
            by (into z e r) = pushed m z e r
            by (within_unit e d a edge r) = jumped m e d a edge r
            by (back_from e before l o lines i r) =
                popped (y ∷ earlier) m at.piece at.depth at.copy at.nested (waits-later y earlier at.depth at.copy at.nested at.waits) e
                (record { before = before; line = l; operand = o; splits = lines; ret = i }) (at.piece.block, before, [], l, o, (copy_piece-block at.copy at.piece at.of).0, lines, i) r

      module _ (blocks : x.blocks ≡ map as_block (flat_copy (suc max_nested) fs (top_copy u)))
          (once : (k : ℕ) (c : Copy) → Nested fs u k c → (s : CopyPiece) → CopyPieceOf fs c s → block_of s.label x.blocks ≡ Some (as_block (flat_copy_piece fs k c s)))
          (begin : (b : BlockText) × (more : List BlockText) × (u.blocks ≡ b ∷ more)) where
        -- the first block of the flat text is the first piece of the process's first block
        first-is : entry_of x.blocks ≡ Some (as_block (flat_copy_piece fs max_nested (top_copy u) (first_copy_piece fs (top_copy u) begin.0)))
        first-is = ap entry_of blocks ∙ ap (λ bs. entry_of (map as_block (flat_map (flat_block (flat_copy max_nested fs) fs (top_copy u)) bs))) begin.2

        at-entry : (y : BlockText) → entry_of x.blocks ≡ Some y → Located y []
        at-entry y e = record {
          depth = max_nested;
          copy = top_copy u;
          nested = outermost;
          piece = first_copy_piece fs (top_copy u) begin.0;
          of = begins begin.0 (subst (λ bs. Among begin.0 bs) (sym begin.2) (inl refl));
          is = same-one y _ (sym e ∙ first-is);
          waits = none_waits;
          taken = [];
          came = record { path = ap entry_of begin.2; arguments = λ n h. inl (ap (args_define n) args ∙ h); given = λ n h. cc };
          begun = λ n h. cc;
        }
          where
            same-one : (a b : BlockText) → Some a ≡ Some b → a ≡ b
            same-one a b h = cc

        -- so each block of a path is that of a piece
        pub located : (y : BlockText) (earlier : List BlockText) → IsPath x (y ∷ earlier) → Located y earlier
        located y [] p = at-entry y p
        located y (b ∷ more) p = let at = located b more p.2 in on at.copy at.piece (goes-on b more at (label_or y.label) p.0)
          where
            on : (c0 : Copy) (s0 : CopyPiece) → GoesOn (label_or y.label) (b ∷ more) c0 s0 → Located y (b ∷ more)
            on c0 s0 g = record {
              depth = g.depth;
              copy = g.copy;
              nested = g.nested;
              piece = g.piece;
              of = g.of;
              is = same-one y _ (sym p.1 ∙ ap (λ n. block_of n x.blocks) (sym g.is) ∙ once g.depth g.copy g.nested g.piece g.of);
              waits = g.waits;
              taken = g.taken;
              came = g.came;
              begun = g.begun;
            }
              where
                same-one : (a b : BlockText) → Some a ≡ Some b → a ≡ b
                same-one a b h = cc
