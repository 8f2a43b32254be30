-- The flat text of a process of a well-formed module is formed.
use Rattle.std.proofs.Common.{◌≡◌, ◌⊎◌, ℕ, zero, suc, ◌+◌, List, [], ◌∷◌, ◌++◌, length, map, Bool, true, false, if◌then◌else◌, Option, Some, None, IsSome, option_map, refl, ap, sym, ◌∙◌, inl, inr, subst}
use Rattle.std.specs.List.{flat_map}
use Rattle.std.proofs.lemmas.Option.{same_Some, none-some}
use Rattle.std.proofs.lemmas.Bool.{both_ways}
use Rattle.lh_types.specs.Types.{TypeTree, int_type, time_type, void_type, array_type, tuple_type, signal_type, pointer_type}
use Rattle.lh_unit_names.specs.declared.name.UnitName.{UnitName}
use Rattle.lh_unit.specs.declared.inst.UnitKind.{UnitKind}
use Rattle.lh_unit.specs.declared.inst.UnitKind.TheVariants as kind
use Rattle.lh_unit.specs.Contents.{OperandText, EdgeText, InstText, const_text, pure_text, var_text, ld_text, st_text, sig_text, prb_text, drv_text, reg_text, child_text, call_text, phi_text, br_text, branch_text, wait_text, halt_text, ret_text, LineText, BlockText, UnitText, ItemText, unit_text}
use Rattle.lh_unit.specs.Named.{block_of, function_named, label_or}
use Rattle.lh_unit_names.specs.UnitNames.{is_assert}
use Rattle.lh_unit.specs.Activation.{functions}
use Rattle.lh_unit.specs.Hierarchy.{lines_of}
use Rattle.lh_unit.specs.Kinds.{Kind, a_datum, a_time, kind_of, used, data_or_time_needed, takes, uses}
use Rattle.lh_unit.specs.Places.{InstPlaceText, places_in, places_from, is_terminator, has_edge}
use Rattle.lh_unit.specs.Reads.{args_repeat, has_lines}
use Rattle.lh_unit.specs.Typing.{value_type, result_type, is_value_type}
use Rattle.lh_unit.specs.Within.{Each}
use Rattle.lh_unit.specs.WellFormed.{in_entity, is_phi, labels_named, edges_naming}
use Rattle.lh_unit.proofs.Lists.{Each-append}
use Rattle.lh_trace_laws.proofs.Labelled.{block_of-in}
use Rattle.lh_text_laws.specs.Printable.{HasShape, BlockIsLabelled, labels_repeat, results_repeat}
use Rattle.lh_verify_laws.specs.Calls.{AssertIsRight, NamedIsRight}
use Rattle.lh_verify_laws.specs.Defined.{OperandsThere}
use Rattle.lh_verify_laws.specs.KindsOf.{ArgsHaveKinds, HasTypeOfKind}
use Rattle.lh_verify_laws.specs.Operands.{IsOf, RowIs}
use Rattle.lh_verify_laws.specs.Shape.{EndsOnce}
use Rattle.lh_verify_laws.proofs.AtPlaces.{place-at}
use Rattle.lh_eval.specs.Sound.{InstIsSound}
use Rattle.lh_eval_laws.specs.Units.{IsPort, HasPorts}
use Rattle.lh_eval_laws.proofs.NamedOnce.{lines-typed, args-typed}
use Rattle.lh_eval_laws.proofs.Spelled.{header-ports}
use Rattle.lh_flat.specs.Calls.{callees, nest_deeper}
use Rattle.lh_flat.specs.Copies.{Copy, top_copy, call_path, copy_at, opened, last_piece, copied, copied_line}
use Rattle.lh_flat.specs.Flat.{MergeText, FlatBlockText, merge_of, branch_into, with_merge, flat_block, flat_copy, max_nested, as_block}
use Rattle.lh_flat.proofs.Apart.{Apart}
use Rattle.lh_flat.proofs.NumberNames.{labels}
use Rattle.lh_flat_laws.specs.Formed.{IsFormed, PhiFormed, IsWithoutCalls}
use Rattle.lh_flat_laws.specs.Tidy.{BlockTidy, UnitTidy, FunctionsTidy}
use Rattle.lh_flat_laws.proofs.Cuts.{Cut, behind, lines-cut, piece-lines}
use Rattle.lh_flat_laws.proofs.CopyPieces.{CopyPiece, next_cut, next_lines, first_copy_piece, CopyPieceOf, begins, goes_on, Nested, outermost, called, flat_copy_piece, copy_piece-stands}
use Rattle.lh_flat_laws.proofs.SoundCopies.{IsCode}
use Rattle.lh_flat_laws.proofs.Paths.{IsGood, CallIsGood, copy_piece-block, nested-right}
use Rattle.lh_flat_laws.proofs.Phis.{phi-of, PhisAreGood, no-branch, nothing-is, merge-edges}
use Rattle.lh_flat_laws.proofs.Splits.{LineOf, is_merge, is_copied, is_branch, line-of}
use Rattle.lh_flat_laws.proofs.Facts.{PlaceFacts, UnitFacts, fact-at, label-found, among-in}
use Rattle.lh_flat_laws.proofs.OpenedCalls.{cut-opens, function-is}
use Rattle.lh_flat_laws.proofs.CopyPaths.{ModuleFacts, copy-facts, copies-good, copies-phis, copies-code, process-no-ret, begins-with, copies-calls, copies-arguments, copies-results, copies-sound, copies-merges, copies-returned, copies-naming, not-deep}
use Rattle.lh_flat_laws.proofs.FlatTypes.{among-lines, typed}
use Rattle.lh_flat_laws.proofs.Soundness.{IsCopyPiece, every-copy_piece, line-sound}
use Rattle.lh_flat_laws.proofs.Predecessors.{CopyPieceAt, Onward, onward, names-last}
use Rattle.lh_flat_laws.proofs.OperandKinds.{kinds-copied}
use Rattle.lh_flat_laws.proofs.Labels.{once-found, labels-new, last-apart}
use Rattle.lh_flat_laws.proofs.BlockEnds.{copy_piece-ends}
use Rattle.lh_flat_laws.proofs.LineTargets.{copied-leads, branch-leads, merge-leads, calm-opened, copied-calls}
use Rattle.lh_flat_laws.proofs.Control.{line-there}
use Rattle.lh_flat_laws.proofs.BlocksFound.{opens-is}
use Rattle.lh_flat_laws.specs.Members.{Among}
use Rattle.lh_flat_laws.proofs.Members.{in-each, each-among, among-right, among-map, among-middle}

-- ---- places of a unit, block by block

each-in : (P : InstPlaceText → Type 0) (k : ℕ) (d : Bool) (b : BlockText) (before rest : List LineText)
    → ((j : ℕ) (start : List LineText) (l : LineText) (after : List LineText) → before ++ rest ≡ start ++ l ∷ after → P (place-at j d b start l after)) → Each P (places_in k d b before rest)
each-in P k d b before [] f = tt
each-in P k d b before (l ∷ rest) f = (f k before l rest refl, each-in P (k + 1) d b (before ++ l ∷ []) rest (λ j start m after e. f j start m after (inner before l rest ∙ e)))
  where
    inner : (xs : List LineText) (l : LineText) (ys : List LineText) → xs ++ l ∷ ys ≡ (xs ++ l ∷ []) ++ ys
    inner [] l ys = refl
    inner (x ∷ xs) l ys = ap (λ zs. x ∷ zs) (inner xs l ys)

each-later : (P : InstPlaceText → Type 0) (k : ℕ) (bs : List BlockText)
    → ((j : ℕ) (b : BlockText) (start : List LineText) (l : LineText) (after : List LineText) → Among b bs → b.lines ≡ start ++ l ∷ after → P (place-at j false b start l after))
    → Each P (places_from k false bs)
each-later P k [] f = tt
each-later P k (b ∷ bs) f =
    Each-append P (places_in k false b [] b.lines) (places_from (k + length b.lines) false bs)
    (each-in P k false b [] b.lines (λ j start l after e. f j b start l after (inl refl) e))
    (each-later P (k + length b.lines) bs (λ j c start l after a q. f j c start l after (inr a) q))

-- this is the first of the blocks
abbrev pub IsEntry : List BlockText → BlockText → Type 0
IsEntry bs b = (more : List BlockText) × (bs ≡ b ∷ more)

-- what holds at each line of each block, holds at each place
each-place : (P : InstPlaceText → Type 0) (bs : List BlockText)
    → ((j : ℕ) (d : Bool) (b : BlockText) (start : List LineText) (l : LineText) (after : List LineText) → Among b bs → (d ≡ true → IsEntry bs b) → b.lines ≡ start ++ l ∷ after
    → P (place-at j d b start l after))
    → Each P (places_from 1 true bs)
each-place P [] f = tt
each-place P (b ∷ bs) f =
    Each-append P (places_in 1 true b [] b.lines) (places_from (1 + length b.lines) false bs)
    (each-in P 1 true b [] b.lines (λ j start l after e. f j true b start l after (inl refl) (λ t. (bs, refl)) e))
    (each-later P (1 + length b.lines) bs (λ j c start l after a q. f j false c start l after (inr a) (λ t. absurd cc) q))

every-line : (P : LineText → Type 0) (ls : List LineText) → ((start : List LineText) (l : LineText) (after : List LineText) → ls ≡ start ++ l ∷ after → P l) → Each P ls
every-line P [] f = tt
every-line P (l ∷ ls) f = (f [] l ls refl, every-line P ls (λ start m after e. f (l ∷ start) m after (ap (λ xs. l ∷ xs) e)))

-- and at each line
each-line : (P : LineText → Type 0) (bs : List BlockText) → ((b : BlockText) (start : List LineText) (l : LineText) (after : List LineText) → Among b bs → b.lines ≡ start ++ l ∷ after → P l)
    → Each P (lines_of bs)
each-line P [] f = tt
each-line P (b ∷ bs) f = Each-append P b.lines (lines_of bs) (every-line P b.lines (λ start l after e. f b start l after (inl refl) e))
    (each-line P bs (λ c start l after a e. f c start l after (inr a) e))

-- the blocks of a unit that is no entity have lines
filled-blocks : (bs : List BlockText) → Each BlockIsLabelled bs → (b : BlockText) → Among b bs → (l : LineText) × (ls : List LineText) × (b.lines ≡ l ∷ ls)
filled-blocks bs h b a = some b.lines (in-each BlockIsLabelled bs b h a).1
  where
    some : (ls : List LineText) → has_lines ls ≡ true → (l : LineText) × (more : List LineText) × (ls ≡ l ∷ more)
    some [] e = absurd cc
    some (l ∷ more) e = (l, more, refl)

shape-labelled : (k : UnitKind) (bs : List BlockText) → in_entity k ≡ false → HasShape k bs → Each BlockIsLabelled bs
shape-labelled kind.Entity bs e h = absurd cc
shape-labelled kind.Func [] e h = tt
shape-labelled kind.Func (b ∷ bs) e h = h
shape-labelled kind.Proc [] e h = tt
shape-labelled kind.Proc (b ∷ bs) e h = h

-- a type of values has a kind, which each merge takes
value-kinded : (t : TypeTree) → is_value_type t ≡ true → (k : Kind) × (kind_of t ≡ Some k) × (takes data_or_time_needed k ≡ true)
value-kinded (int_type n) e = (a_datum, refl, refl)
value-kinded (array_type n t) e = (a_datum, refl, refl)
value-kinded (tuple_type r) e = (a_datum, refl, refl)
value-kinded time_type e = (a_time, refl, refl)
value-kinded void_type e = absurd cc
value-kinded (signal_type t) e = absurd cc
value-kinded (pointer_type t) e = absurd cc

merge-kinds : (x : UnitText) (t : TypeTree) (es : List EdgeText) → is_value_type t ≡ true → Each (λ (e : EdgeText). IsOf x t e.value) es
    → Each (HasTypeOfKind x) (map (λ (e : EdgeText). used data_or_time_needed e.value) es)
merge-kinds x t [] v f = tt
merge-kinds x t (e ∷ es) v f = let k = value-kinded t v in ((t, k.0, f.0, k.1, k.2), merge-kinds x t es v f.1)

-- what is called by a line that is not replaced, is not called as a function
asserts-alone : (items : List ItemText) (v : UnitText) (c : Copy) (path : List ℕ) (f : UnitName) (ty : TypeTree) (args : List OperandText)
    → opened (functions items) c path (call_text f ty args) ≡ None → NamedIsRight items v (call_text f ty args) → (is_assert f ≡ true) × AssertIsRight v ty args
asserts-alone items v c path f ty args q (inl r) = r
asserts-alone items v c path f ty args q (inr r) =
    let g = r.1 in
    absurd (none-some (copy_at path (map (λ (o : OperandText). c.value o.value) args) g.of)
    (sym q ∙ (λ j. if r.0 j then None else option_map (copy_at path (map (λ (o : OperandText). c.value o.value) args)) (function_named f (functions items)))
    ∙ ap (option_map (copy_at path (map (λ (o : OperandText). c.value o.value) args))) (function-is items f g.of g.named g.function)))

-- a copied `phi` is one
phi-kept : (fs : List UnitText) (c : Copy) (i : InstText) → is_phi i ≡ true → is_phi (copied fs c i) ≡ true
phi-kept fs c (phi_text ty es) h = refl
phi-kept fs c (const_text a) h = absurd cc
phi-kept fs c (pure_text a b) h = absurd cc
phi-kept fs c (var_text a) h = absurd cc
phi-kept fs c (ld_text a) h = absurd cc
phi-kept fs c (st_text a b) h = absurd cc
phi-kept fs c (sig_text a) h = absurd cc
phi-kept fs c (prb_text a) h = absurd cc
phi-kept fs c (drv_text a b d f) h = absurd cc
phi-kept fs c (reg_text a b) h = absurd cc
phi-kept fs c (child_text a b d) h = absurd cc
phi-kept fs c (call_text a b d) h = absurd cc
phi-kept fs c (br_text a) h = absurd cc
phi-kept fs c (branch_text a b d) h = absurd cc
phi-kept fs c (wait_text a b d) h = absurd cc
phi-kept fs c halt_text h = absurd cc
phi-kept fs c (ret_text a) h = absurd cc

head-is : (a b : BlockText) (xs ys : List BlockText) → a ∷ xs ≡ b ∷ ys → a ≡ b
head-is a b xs ys e = cc

module _ (items : List ItemText) (m : ModuleFacts items items) (u : UnitText) (among : Among (unit_text u) items) (process : u.kind ≡ kind.Proc)
    (shallow : nest_deeper max_nested (functions items) (callees u) ≡ false) (tidy : UnitTidy (functions items) u) (tidies : FunctionsTidy (functions items))
    (kinded : (k : ℕ) (c : Copy) → Nested (functions items) u k c → ArgsHaveKinds c.unit)
    (x : UnitText) (kind_is : x.kind ≡ kind.Proc) (args : x.args ≡ u.args) (blocks : x.blocks ≡ map as_block (flat_copy (suc max_nested) (functions items) (top_copy u)))
    (apart : Apart (labels (flat_copy (suc max_nested) (functions items) (top_copy u))))
    (new : results_repeat x.args [] (lines_of x.blocks) ≡ false)
    (given : Each (λ (l : LineText). (n : List ℕ) → l.result ≡ Some n → IsSome (value_type x n)) (lines_of x.blocks)) where
  abbrev fs : List UnitText
  fs = functions items

  -- ---- what holds of each copy

  good : (k : ℕ) (c : Copy) → Nested fs u k c → IsGood fs c.unit
  good = copies-good items m u among process shallow

  calls : (k : ℕ) (c : Copy) → Nested fs u k c → (s : CopyPiece) → CopyPieceOf fs c s → (z : Cut) → next_cut fs c s ≡ Some z → CallIsGood fs c z
  calls = copies-calls items m u among process shallow

  deep : (c : Copy) → Nested fs u zero c → (s : CopyPiece) → CopyPieceOf fs c s → (z : Cut) → next_cut fs c s ≡ Some z → ⊥
  deep = not-deep items m u among process shallow

  no_ret : (b : BlockText) (before after : List LineText) (l : LineText) → Among b u.blocks → b.lines ≡ before ++ l ∷ after → (o : Option OperandText) → l.inst ≡ ret_text o → ⊥
  no_ret = process-no-ret items m u among process shallow

  code : (k : ℕ) (c : Copy) → Nested fs u k c → (b : BlockText) (before after : List LineText) (l : LineText) → Among b c.unit.blocks → b.lines ≡ before ++ l ∷ after → IsCode l.inst
  code = copies-code items m u among process shallow

  phis : (k : ℕ) (c : Copy) → Nested fs u k c → PhisAreGood c.unit
  phis = copies-phis items m u among process shallow

  facts : (k : ℕ) (c : Copy) → Nested fs u k c → UnitFacts items c.unit
  facts = copy-facts items m u among process shallow

  begin : (b : BlockText) × (more : List BlockText) × (u.blocks ≡ b ∷ more)
  begin = begins-with items m u among process shallow max_nested (top_copy u) outermost

  fact : (k : ℕ) (c : Copy) → Nested fs u k c → (b : BlockText) (before after : List LineText) (l : LineText) → Among b c.unit.blocks → b.lines ≡ before ++ l ∷ after → (j : ℕ) × (d : Bool)
      × PlaceFacts items c.unit (place-at j d b before l after)
  fact k c n b before after l a e = fact-at items c.unit (facts k c n) b before after l a e

  copy-tidy : (k : ℕ) (c : Copy) → Nested fs u k c → UnitTidy fs c.unit
  copy-tidy _ _ outermost = tidy
  copy-tidy _ _ (called k c n s h z e) = let o = opens-is fs c (call_path c (label_or s.block.label) z.number) z.line.inst z.copy (cut-opens fs c (label_or s.block.label) s.number s.rest z e) in
      tidies o.callee z.copy.unit o.named

  block-tidy : (k : ℕ) (c : Copy) → Nested fs u k c → (b : BlockText) → Among b c.unit.blocks → BlockTidy fs c.unit b
  block-tidy k c n b a = in-each (BlockTidy fs c.unit) c.unit.blocks b (copy-tidy k c n).blocks a

  last-once : (k : ℕ) (c : Copy) → Nested fs u k c → (b d : BlockText) → Among b c.unit.blocks → Among d c.unit.blocks → last_piece fs c b ≡ last_piece fs c d → b ≡ d
  last-once k c n b d p q e = last-apart fs c b d (block-tidy k c n b p).plain (block-tidy k c n d q).plain ((good k c n).self b p) ((good k c n).self d q) e

  leads : (k : ℕ) (c : Copy) → Nested fs u k c → (b : BlockText) (before after : List LineText) (l : LineText) → Among b c.unit.blocks → b.lines ≡ before ++ l ∷ after → (n : List ℕ)
      → Among n (labels_named l.inst) → (d : BlockText) × (block_of n c.unit.blocks ≡ Some d) × Among d c.unit.blocks × (label_or d.label ≡ n)
  leads k c nest b before after l a e n h =
      let r = in-each (λ n. (d : BlockText) × (block_of n c.unit.blocks ≡ Some d)) (labels_named l.inst) n (fact k c nest b before after l a e).2.leads h in
      (r.0, r.1, among-in c.unit.blocks r.0 (block_of-in n c.unit.blocks r.0 r.1), label-found n c.unit.blocks r.0 r.1)

  call-continues : (c : Copy) (s : CopyPiece) → CopyPieceOf fs c s → (z : Cut) → next_cut fs c s ≡ Some z → is_terminator z.line.inst ≡ false
  call-continues c s h z e = let o = opens-is fs c (call_path c (label_or s.block.label) z.number) z.line.inst z.copy (cut-opens fs c (label_or s.block.label) s.number s.rest z e) in
      ap is_terminator o.inst

  ends : (k : ℕ) (c : Copy) (n : Nested fs u k c) (s : CopyPiece) → CopyPieceOf fs c s → EndsOnce (as_block (flat_copy_piece fs k c s)).lines
      × ((l : LineText) × (ls : List LineText) × ((as_block (flat_copy_piece fs k c s)).lines ≡ l ∷ ls))
  ends k c n s h =
      let f = facts k c n in
      copy_piece-ends fs c (λ b a. (block-tidy k c n b a).ends) (filled-blocks c.unit.blocks (shape-labelled c.unit.kind c.unit.blocks f.runs f.printable.shaped)) (call-continues c) k s h

  -- ---- names and types of the flat text

  once : (k : ℕ) (c : Copy) → Nested fs u k c → (s : CopyPiece) → CopyPieceOf fs c s → block_of s.label x.blocks ≡ Some (as_block (flat_copy_piece fs k c s))
  once k c n s h = ap (block_of s.label) blocks ∙ once-found (flat_copy (suc max_nested) fs (top_copy u)) (flat_copy_piece fs k c s) apart (copy_piece-stands fs u k c n s h)

  gives : (l : LineText) → Among l (lines_of x.blocks) → (n : List ℕ) → l.result ≡ Some n → value_type x n ≡ result_type l.inst
  gives l a = in-each (λ (l : LineText). (n : List ℕ) → l.result ≡ Some n → value_type x n ≡ result_type l.inst) (lines_of x.blocks) l (lines-typed x new) a

  types : (k : ℕ) (c : Copy) → Nested fs u k c → (n : List ℕ) (t : TypeTree) → value_type c.unit n ≡ Some t → value_type x (c.value n) ≡ Some t
  types = typed fs u x args blocks gives code (copies-arguments items m u among process shallow) (copies-results items m u among process shallow)

  naming : (k : ℕ) (c : Copy) → Nested fs u k c → (d b : BlockText) (before after : List LineText) (l : LineText) (ty : TypeTree) (es : List EdgeText) → Among d c.unit.blocks
      → d.lines ≡ before ++ l ∷ after → l.inst ≡ phi_text ty es
      → Among b c.unit.blocks → has_edge b (label_or d.label) ≡ true → edges_naming (label_or b.label) es ≡ 1
  naming = copies-naming items m u among process shallow

  self : (k : ℕ) (c : Copy) → Nested fs u k c → (b : BlockText) → Among b c.unit.blocks → block_of (label_or b.label) c.unit.blocks ≡ Some b
  self k c n = (good k c n).self

  returned : (k : ℕ) (c : Copy) → Nested fs u (suc k) c → (s : CopyPiece) → CopyPieceOf fs c s → (z : Cut) → next_cut fs c s ≡ Some z → (w : MergeText)
      → merge_of fs c z.copy z.line.inst z.line.result ≡ Some w
      → (b : BlockText) (before after : List LineText) (l : LineText) → Among b z.copy.unit.blocks → b.lines ≡ before ++ l ∷ after → (o : Option OperandText) → l.inst ≡ ret_text o → (a : OperandText)
      × (o ≡ Some a)
  returned = copies-returned items m u among process shallow x types

  -- ---- a line of the flat text

  record LineAt (b : BlockText) (before : List LineText) (l : LineText) (after : List LineText) : Type 0 where
    pub depth : ℕ
    pub copy : Copy
    pub nested : Nested fs u depth copy
    pub piece : CopyPiece
    pub of : CopyPieceOf fs copy piece
    pub is : b ≡ as_block (flat_copy_piece fs depth copy piece)
    pub stands : (as_block (flat_copy_piece fs depth copy piece)).lines ≡ before ++ l ∷ after
    pub line : LineOf fs copy piece before l
    pub listed : Among l (lines_of x.blocks)

  among-lines-of : (bs : List BlockText) (b : BlockText) (before after : List LineText) (l : LineText) → Among b bs → b.lines ≡ before ++ l ∷ after → Among l (lines_of bs)
  among-lines-of bs b before after l a e = among-lines bs b l a (subst (λ ls. Among l ls) (sym e) (among-middle before after l))

  copy_piece-of : (b : BlockText) → Among b x.blocks → (y : FlatBlockText) × (b ≡ as_block y) × IsCopyPiece fs u y
  copy_piece-of b a = let r = among-map as_block (flat_copy (suc max_nested) fs (top_copy u)) b (subst (λ bs. Among b bs) blocks a) in (r.0, r.2, every-copy_piece fs u r.0 r.1)

  line-in : (k : ℕ) (c : Copy) (s : CopyPiece) (before after : List LineText) (l : LineText) → (as_block (flat_copy_piece fs k c s)).lines ≡ before ++ l ∷ after → LineOf fs c s before l
  line-in k c s before after l e = line-of fs c s (flat_copy k fs) before after l (ap (with_merge s.merge) (sym (piece-lines fs c (label_or s.block.label) (flat_copy k fs) s.number s.rest)) ∙ e)

  line-at : (b : BlockText) → Among b x.blocks → (before after : List LineText) (l : LineText) → b.lines ≡ before ++ l ∷ after → LineAt b before l after
  line-at b a before after l e =
      let r = copy_piece-of b a in
      let is : b ≡ as_block (flat_copy_piece fs r.2.depth r.2.copy r.2.piece) = r.1 ∙ ap as_block r.2.is in
      let lines : (as_block (flat_copy_piece fs r.2.depth r.2.copy r.2.piece)).lines ≡ before ++ l ∷ after = ap (λ (b : BlockText). b.lines) (sym is) ∙ e in
      record {
        depth = r.2.depth;
        copy = r.2.copy;
        nested = r.2.nested;
        piece = r.2.piece;
        of = r.2.of;
        is = is;
        stands = lines;
        line = line-in r.2.depth r.2.copy r.2.piece before after l lines;
        listed = among-lines-of x.blocks b before after l a e;
      }

  -- a line that is copied, in its block
  lines-there : (c : Copy) (s : CopyPiece) → CopyPieceOf fs c s → (start : List LineText) (j : LineText) (rest : List LineText) → next_lines fs c s ≡ start ++ j ∷ rest
      → s.block.lines ≡ (s.before ++ start) ++ j ∷ (rest ++ behind fs c (label_or s.block.label) (next_cut fs c s))
  lines-there c s h start j rest q =
      (copy_piece-block fs c s h).1
      ∙ ap (λ ls. s.before ++ ls) (lines-cut fs c (label_or s.block.label) s.number s.rest ∙ ap (λ ls. ls ++ behind fs c (label_or s.block.label) (next_cut fs c s)) q
      ∙ nested-right start (j ∷ rest) _)
      ∙ sym (nested-right s.before start _)

  module _ (b : BlockText) (before : List LineText) (l : LineText) (after : List LineText) (at : LineAt b before l after) where
    sound-at : InstIsSound x l
    sound-at = line-sound fs u x types gives code (copies-sound items m u among process shallow) (copies-merges items m u among process shallow x types) deep at.depth at.copy at.nested at.piece at.of
        before after l at.stands at.listed

    -- what holds of a line that is copied
    own : (start : List LineText) (j : LineText) (rest : List LineText) → next_lines fs at.copy at.piece ≡ start ++ j ∷ rest → (k : ℕ) × (d : Bool)
        × PlaceFacts items at.copy.unit (place-at k d at.piece.block (at.piece.before ++ start) j (rest ++ behind fs at.copy (label_or at.piece.block.label) (next_cut fs at.copy at.piece)))
    own start j rest q = fact at.depth at.copy at.nested at.piece.block (at.piece.before ++ start) _ j (copy_piece-block fs at.copy at.piece at.of).0
        (lines-there at.copy at.piece at.of start j rest q)

    own-code : (start : List LineText) (j : LineText) (rest : List LineText) → next_lines fs at.copy at.piece ≡ start ++ j ∷ rest → IsCode j.inst
    own-code start j rest q = code at.depth at.copy at.nested at.piece.block (at.piece.before ++ start) _ j (copy_piece-block fs at.copy at.piece at.of).0
        (lines-there at.copy at.piece at.of start j rest q)

    kinds-at : Each (HasTypeOfKind x) (uses l.inst)
    kinds-at = by at.line
      where
        by : LineOf fs at.copy at.piece before l → Each (HasTypeOfKind x) (uses l.inst)
        by (is_merge w q r e) =
            let i : l.inst ≡ phi_text w.ty w.edges = ap (λ (j : LineText). j.inst) r in
            let row : RowIs x (phi_text w.ty w.edges) = subst (RowIs x) i sound-at.row in
            subst (λ i. Each (HasTypeOfKind x) (uses i)) (sym i) (merge-kinds x w.ty w.edges row.0 row.1)
        by (is_branch z q r) = subst (λ (i : InstText). Each (HasTypeOfKind x) (uses i)) (sym (ap (λ (j : LineText). j.inst) r)) tt
        by (is_copied start j rest q r e) =
            subst (λ (i : InstText). Each (HasTypeOfKind x) (uses i)) (sym (ap (λ (j : LineText). j.inst) r))
            (kinds-copied at.copy.unit x at.copy (types at.depth at.copy at.nested) fs j.inst (own-code start j rest q) ((own start j rest q).2.kinds (kinded at.depth at.copy at.nested)))

    calls-at : IsWithoutCalls x l.inst
    calls-at = by at.line
      where
        asserts : (start : List LineText) (j : LineText) (rest : List LineText) → next_lines fs at.copy at.piece ≡ start ++ j ∷ rest → (f : UnitName) (ty : TypeTree) (os : List OperandText)
            → j.inst ≡ call_text f ty os → (is_assert f ≡ true) × AssertIsRight at.copy.unit ty os
        asserts start j rest q f ty os i =
            let o = calm-opened fs at.copy (label_or at.piece.block.label) at.piece.number at.piece.rest start rest j q in
            asserts-alone items at.copy.unit at.copy (call_path at.copy (label_or at.piece.block.label) o.0) f ty os
            (ap (opened fs at.copy (call_path at.copy (label_or at.piece.block.label) o.0)) (sym i) ∙ o.1)
            (subst (NamedIsRight items at.copy.unit) i (own start j rest q).2.calls)

        by : LineOf fs at.copy at.piece before l → IsWithoutCalls x l.inst
        by (is_merge w q r e) = subst (IsWithoutCalls x) (sym (ap (λ (j : LineText). j.inst) r)) tt
        by (is_branch z q r) = subst (IsWithoutCalls x) (sym (ap (λ (j : LineText). j.inst) r)) tt
        by (is_copied start j rest q r e) =
            subst (IsWithoutCalls x) (sym (ap (λ (j : LineText). j.inst) r))
            (copied-calls fs at.copy.unit x at.copy (types at.depth at.copy at.nested) [] j.inst (own-code start j rest q) (asserts start j rest q))

    abbrev IsBlock : List ℕ → Type 0
    IsBlock n = (d : BlockText) × (block_of n x.blocks ≡ Some d)

    merge-blocks : (k : ℕ) (c : Copy) → Nested fs u k c → (s : CopyPiece) → CopyPieceOf fs c s → (w : MergeText) → s.merge ≡ Some w → Each IsBlock (map (λ (e : EdgeText). e.block) w.edges)
    merge-blocks k c n _ (begins d h) w e = absurd (none-some w e)
    merge-blocks zero c n _ (goes_on s h z r) w e = elim (deep c n s h z r) [ ]
    merge-blocks (suc k) c n _ (goes_on s h z r) w e = subst (λ es. Each IsBlock (map (λ (e : EdgeText). e.block) es)) (sym (merge-edges fs c z.copy z.line.inst z.line.result w e))
        (merge-leads fs u x once leads no_ret k z.copy (called k c n s h z r))

    branch-blocks : (k : ℕ) (c : Copy) → Nested fs u k c → (s : CopyPiece) → CopyPieceOf fs c s → (z : Cut) → next_cut fs c s ≡ Some z → Each IsBlock (labels_named (branch_into z.copy).inst)
    branch-blocks zero c n s h z e = elim (deep c n s h z e) [ ]
    branch-blocks (suc k) c n s h z e = branch-leads fs u x once leads no_ret k z.copy (called k c n s h z e) (begins-with items m u among process shallow k z.copy (called k c n s h z e))

    leads-at : Each IsBlock (labels_named l.inst)
    leads-at = by at.line
      where
        by : LineOf fs at.copy at.piece before l → Each IsBlock (labels_named l.inst)
        by (is_merge w q r e) = subst (λ (i : InstText). Each IsBlock (labels_named i)) (sym (ap (λ (j : LineText). j.inst) r)) (merge-blocks at.depth at.copy at.nested at.piece at.of w q)
        by (is_branch z q r) = subst (λ (i : InstText). Each IsBlock (labels_named i)) (sym (ap (λ (j : LineText). j.inst) r)) (branch-blocks at.depth at.copy at.nested at.piece at.of z q)
        by (is_copied start j rest q r e) =
            subst (λ (i : InstText). Each IsBlock (labels_named i)) (sym (ap (λ (j : LineText). j.inst) r))
            (copied-leads fs u x once leads no_ret at.depth at.copy at.nested at.piece.block (at.piece.before ++ start) _ j (copy_piece-block fs at.copy at.piece at.of).0
            (lines-there at.copy at.piece at.of start j rest q) (own-code start j rest q))

    -- ---- a `phi`

    merge-first : (o : Option MergeText) (ls : List LineText) (k : LineText) → Among k (with_merge o ls) → (is_phi k.inst ≡ true) ⊎ Among k ls
    merge-first None ls k a = inr a
    merge-first (Some w) ls k (inl e) = inl (ap (λ (j : LineText). is_phi j.inst) (sym e))
    merge-first (Some w) ls k (inr a) = inr a

    firsts : (ty : TypeTree) (es : List EdgeText) → l.inst ≡ phi_text ty es → (k : LineText) → Among k before → is_phi k.inst ≡ true
    firsts ty es i k a = by at.line
      where
        copied-first : (start : List LineText) (j : LineText) (rest : List LineText) → next_lines fs at.copy at.piece ≡ start ++ j ∷ rest → is_phi j.inst ≡ true
            → ((is_phi k.inst ≡ true) ⊎ Among k (map (copied_line fs at.copy) start)) → is_phi k.inst ≡ true
        copied-first start j rest q p (inl h) = h
        copied-first start j rest q p (inr h) =
            let o = among-map (copied_line fs at.copy) start k h in
            ap (λ (j : LineText). is_phi j.inst) o.2
            ∙ phi-kept fs at.copy o.0.inst ((phis at.depth at.copy at.nested).first at.piece.block (at.piece.before ++ start) _ j (copy_piece-block fs at.copy at.piece at.of).0
            (lines-there at.copy at.piece at.of start j rest q) p o.0 (among-right o.0 at.piece.before start o.1))

        by : LineOf fs at.copy at.piece before l → is_phi k.inst ≡ true
        by (is_merge w q r e) = elim (subst (λ ls. Among k ls) e a) [ ]
        by (is_branch z q r) = elim (no-branch z.copy l ty es r i) [ ]
        by (is_copied start j rest q r e) =
            let f = phi-of fs at.copy j.inst ty es (ap (λ (j : LineText). j.inst) (sym r) ∙ i) in
            copied-first start j rest q (ap is_phi f.is) (merge-first at.piece.merge (map (copied_line fs at.copy) start) k (subst (λ ls. Among k ls) e a))

    -- none stands in the entry block
    entry-calm : (ty : TypeTree) (es : List EdgeText) → l.inst ≡ phi_text ty es → IsEntry x.blocks b → ⊥
    entry-calm ty es i entry = by (line-in max_nested (top_copy u) first before after l (ap (λ (b : BlockText). b.lines) (sym is ∙ at.is) ∙ at.stands))
      where
        first : CopyPiece
        first = first_copy_piece fs (top_copy u) begin.0

        is : b ≡ as_block (flat_copy_piece fs max_nested (top_copy u) first)
        is = head-is b _ entry.0 _ (sym entry.1 ∙ blocks ∙ ap (λ bs. map as_block (flat_map (flat_block (flat_copy max_nested fs) fs (top_copy u)) bs)) begin.2)

        by : LineOf fs (top_copy u) first before l → ⊥
        by (is_merge w q r e) = nothing-is w q
        by (is_branch z q r) = no-branch z.copy l ty es r i
        by (is_copied start j rest q r e) =
            let f = phi-of fs (top_copy u) j.inst ty es (ap (λ (j : LineText). j.inst) (sym r) ∙ i) in
            both_ways (is_phi j.inst) ((phis max_nested (top_copy u) outermost).entry begin.0 begin.1 begin.2 start _ j
            (lines-there (top_copy u) first (begins begin.0 (subst (λ bs. Among begin.0 bs) (sym begin.2) (inl refl))) start j rest q)) (ap is_phi f.is)

    self-is : block_of (label_or b.label) x.blocks ≡ Some b
    self-is = subst (λ (d : BlockText). block_of (label_or d.label) x.blocks ≡ Some d) (sym at.is) (once at.depth at.copy at.nested at.piece at.of)

    phi-named : (ty : TypeTree) (es : List EdgeText) → l.inst ≡ phi_text ty es → (last : BlockText) → Among last x.blocks → has_edge last (label_or b.label) ≡ true → (e : EdgeText) × Among e es
        × (e.block ≡ label_or last.label)
    phi-named ty es i last a edge =
        let r = copy_piece-of last a in
        let here : CopyPieceAt fs u x args good calls deep no_ret phis naming self returned last = record
        { depth = r.2.depth; copy = r.2.copy; nested = r.2.nested; piece = r.2.piece; of = r.2.of; is = r.1 ∙ ap as_block r.2.is } in
        by here (onward fs u x args good calls deep no_ret phis naming self returned last here (label_or b.label) edge)
      where
        by : (here : CopyPieceAt fs u x args good calls deep no_ret phis naming self returned last)
            → Onward fs u x args good calls deep no_ret phis naming self returned (label_or b.label) here.copy here.piece → (e : EdgeText) × Among e es × (e.block ≡ label_or last.label)
        by here g =
            names-last fs u x args good calls deep no_ret phis naming self returned last here b before after l ty es (ap (λ (d : BlockText). d.lines) at.is ∙ at.stands) i g.depth g.copy
            g.nested g.piece g.of (target g.depth g.copy g.nested g.piece g.of g.is) g.step
          where
            target : (k : ℕ) (c : Copy) (n : Nested fs u k c) (s : CopyPiece) → CopyPieceOf fs c s → s.label ≡ label_or b.label → b ≡ as_block (flat_copy_piece fs k c s)
            target k c n s h e = same_Some b (as_block (flat_copy_piece fs k c s)) (sym self-is ∙ ap (λ n. block_of n x.blocks) (sym e) ∙ once k c n s h)

    phi-at : (j : ℕ) (d : Bool) → (d ≡ true → IsEntry x.blocks b) → PhiFormed x (place-at j d b before l after) l.inst
    phi-at j d entry = by l.inst refl
      where
        not-entry : (d : Bool) → (d ≡ true → ⊥) → d ≡ false
        not-entry true f = elim (f refl) [ ]
        not-entry false f = refl

        by : (i : InstText) → l.inst ≡ i → PhiFormed x (place-at j d b before l after) i
        by (phi_text ty es) i = record {
          first = each-among (λ (k : LineText). is_phi k.inst ≡ true) before (firsts ty es i);
          no_entry = not-entry d (λ t. entry-calm ty es i (entry t));
          named = each-among (λ (last : BlockText). has_edge last (label_or b.label) ≡ true → (e : EdgeText) × Among e es × (e.block ≡ label_or last.label)) x.blocks (phi-named ty es i);
        }
        by _ i = tt

    there-at : (j : ℕ) (d : Bool) → OperandsThere kind.Proc x (place-at j d b before l after) l.inst
    there-at j d = line-there fs u x args good calls deep no_ret code phis last-once blocks once begin b self-is before after l (ap (λ (d : BlockText). d.lines) at.is ∙ at.stands) j d

  -- ---- all of it

  block-ends : (b : BlockText) → Among b x.blocks → EndsOnce b.lines × ((l : LineText) × (ls : List LineText) × (b.lines ≡ l ∷ ls))
  block-ends b a =
      let r = copy_piece-of b a in
      subst (λ (b : BlockText). EndsOnce b.lines × ((l : LineText) × (ls : List LineText) × (b.lines ≡ l ∷ ls))) (sym (r.1 ∙ ap as_block r.2.is)) (ends r.2.depth r.2.copy r.2.nested r.2.piece r.2.of)

  first-block : (b : BlockText) × (more : List BlockText) × (x.blocks ≡ b ∷ more)
  first-block = subst (λ bs. (b : BlockText) × (more : List BlockText) × (bs ≡ b ∷ more))
      (sym (blocks ∙ ap (λ bs. map as_block (flat_map (flat_block (flat_copy max_nested fs) fs (top_copy u)) bs)) begin.2)) (_, _, refl)

  own-facts : UnitFacts items u
  own-facts = facts max_nested (top_copy u) outermost

  new-args : args_repeat [] x.args ≡ false
  new-args = subst (λ xs. args_repeat [] xs ≡ false) (sym args) own-facts.printable.new_args

  pub formed : IsFormed x
  formed = record {
    process = kind_is;
    blocks = first-block;
    filled = each-among (λ (b : BlockText). (l : LineText) × (more : List LineText) × (b.lines ≡ l ∷ more)) x.blocks (λ b a. (block-ends b a).1);
    labelled = each-among (λ (b : BlockText). (n : List ℕ) × (b.label ≡ Some n)) x.blocks (λ b a. let r = copy_piece-of b a in (r.0.label, ap (λ (b : BlockText). b.label) r.1));
    ends = each-among (λ (b : BlockText). EndsOnce b.lines) x.blocks (λ b a. (block-ends b a).0);
    lines = each-line (InstIsSound x) x.blocks (λ b before l after a e. sound-at b before l after (line-at b a before after l e));
    given = given;
    kinds = each-line (λ (l : LineText). Each (HasTypeOfKind x) (uses l.inst)) x.blocks (λ b before l after a e. kinds-at b before l after (line-at b a before after l e));
    calls = each-line (λ (l : LineText). IsWithoutCalls x l.inst) x.blocks (λ b before l after a e. calls-at b before l after (line-at b a before after l e));
    args = args-typed x new-args;
    ports = subst (Each IsPort) (sym args) (subst (λ k. HasPorts k u.args) process (header-ports u.kind u.name u.args u.result _ own-facts.printable.headed.1));
    there = each-place (λ (p : InstPlaceText). OperandsThere kind.Proc x p p.line.inst) x.blocks (λ j d b before l after a t e. there-at b before l after (line-at b a before after l e) j d);
    leads = each-place (λ (p : InstPlaceText). Each (λ n. (b : BlockText) × (block_of n x.blocks ≡ Some b)) (labels_named p.line.inst)) x.blocks
        (λ j d b before l after a t e. leads-at b before l after (line-at b a before after l e));
    phis = each-place (λ (p : InstPlaceText). PhiFormed x p p.line.inst) x.blocks (λ j d b before l after a t e. phi-at b before l after (line-at b a before after l e) j d t);
    new_args = new-args;
    new_labels = subst (λ bs. labels_repeat [] bs ≡ false) (sym blocks) (labels-new (flat_copy (suc max_nested) fs (top_copy u)) apart);
    new_results = new;
  }
