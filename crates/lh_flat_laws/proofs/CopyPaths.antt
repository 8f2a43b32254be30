-- The copies in the flat text of a process of a well-formed module are as the paths through them ask.
use Rattle.std.proofs.Common.{◌≡◌, ℕ, zero, suc, List, [], ◌∷◌, ◌++◌, Bool, true, false, not, ◌||◌, if◌then◌else◌, Option, Some, None, refl, ap, sym, ◌∙◌, inl, inr, subst}
use Rattle.std.specs.Option.{option_map_or}
use Rattle.std.proofs.lemmas.Option.{same_Some, none-some}
use Rattle.lh_types.specs.Types.{TypeTree, int_type, time_type, void_type, array_type, tuple_type, signal_type, pointer_type}
use Rattle.lh_unit_names.specs.declared.name.UnitName.{UnitName}
use Rattle.lh_unit_names.specs.UnitNames.{same_unit_name, is_assert}
use Rattle.lh_unit.specs.Contents.{OperandText, EdgeText, InstText, call_text, phi_text, ret_text, LineText, BlockText, ArgText, UnitText, ItemText, unit_text, declare_text, is_result_name, lines_define, args_define}
use Rattle.lh_unit_names.specs.Names.{same_name}
use Rattle.lh_unit.specs.Named.{function_named, is_function, label_or}
use Rattle.lh_unit.specs.Activation.{functions}
use Rattle.lh_unit.specs.Hierarchy.{lines_of}
use Rattle.lh_unit.specs.Lexemes.{Lexeme}
use Rattle.lh_unit.specs.Pieces.{lexemes_in}
use Rattle.lh_unit.specs.Spells.{header_item, inst_item, SpellsHeader}
use Rattle.lh_unit.specs.SpellsInst.{gives_value, is_void, SpellsLine}
use Rattle.lh_unit.specs.SpellsTypes.{IsResultType}
use Rattle.lh_unit.specs.Typing.{value_type, result_type, is_value_type, arg_named}
use Rattle.lh_unit.specs.WellFormed.{in_entity, is_phi, edges_naming, values_named}
use Rattle.lh_unit.specs.Places.{has_edge}
use Rattle.lh_unit.specs.Within.{Each}
use Rattle.lh_unit.specs.declared.inst.UnitKind.{UnitKind}
use Rattle.lh_unit.specs.declared.inst.UnitKind.TheVariants as kind
use Rattle.lh_unit_names.proofs.NameLists.{same_name-is, same_name-refl}
use Rattle.lh_trace_laws.proofs.Labelled.{EachLabelled, Labelled, AllLabelled}
use Rattle.lh_verify_laws.specs.Calls.{ArgumentsAre, NamedIsRight}
use Rattle.lh_verify_laws.specs.Operands.{IsOf, ReturnIs, RowIs}
use Rattle.lh_verify_laws.specs.Shape.{PhiIsRight}
use Rattle.lh_verify_laws.proofs.AtPlaces.{place-at}
use Rattle.lh_verify_laws.proofs.There.{function-runs}
use Rattle.lh_eval.specs.Sound.{InstIsSound}
use Rattle.lh_text_laws.specs.ItemLines.{item_line}
use Rattle.lh_text_laws.specs.Printable.{HasInstLine, HasShape, IsPrintableItem}
use Rattle.lh_eval_laws.proofs.SoundLines.{RowsIn, lines-printed, unit-sound}
use Rattle.lh_flat.specs.Calls.{callees, callees_of, nest_deeper}
use Rattle.lh_flat.specs.Copies.{Copy, call_path}
use Rattle.lh_flat.specs.Flat.{MergeText, given_by, merge_of, with_merge, max_nested}
use Rattle.lh_flat_laws.proofs.Cuts.{Cut, behind, lines-cut}
use Rattle.lh_flat_laws.proofs.CopyPieces.{CopyPiece, next_cut, next_lines, CopyPieceOf, Nested, outermost, called}
use Rattle.lh_flat_laws.proofs.SoundCopies.{IsCode}
use Rattle.lh_flat_laws.proofs.Paths.{IsGood, CallIsGood, copy_piece-block, nested-right}
use Rattle.lh_flat_laws.proofs.Phis.{PhisAreGood, given-by}
use Rattle.lh_flat_laws.proofs.Facts.{FactsIn, UnitFacts, fact-at, is-good, phis-good, is-code, no-ret}
use Rattle.lh_flat_laws.proofs.FlatTypes.{argument-typed, among-lines}
use Rattle.lh_flat_laws.proofs.OpenedCalls.{cut-opens, argument-named, function-is, any-among, callee-among}
use Rattle.lh_flat_laws.proofs.BlocksFound.{opens-is, Opens}
use Rattle.lh_flat_laws.specs.Members.{Among}
use Rattle.lh_flat_laws.proofs.Members.{in-each, among-middle}

labelled-by : (k : UnitKind) (u : UnitText) → in_entity k ≡ false → Labelled k u.blocks → AllLabelled u.blocks
labelled-by kind.Entity u e h = absurd cc
labelled-by kind.Func u e h = h
labelled-by kind.Proc u e h = h

-- what holds of a module
pub record ModuleFacts (all items : List ItemText) : Type 0 where
  pub places : Each (FactsIn all) items
  pub printable : Each IsPrintableItem items
  pub labelled : EachLabelled items
  pub rows : Each RowsIn items

rest-of : (all : List ItemText) (i : ItemText) (items : List ItemText) → ModuleFacts all (i ∷ items) → ModuleFacts all items
rest-of all (unit_text u) items m = record { places = m.places.1; printable = m.printable.1; labelled = m.labelled.1; rows = m.rows.1 }
rest-of all (declare_text d) items m = record { places = m.places.1; printable = m.printable.1; labelled = m.labelled; rows = m.rows.1 }

first-unit : (all : List ItemText) (u : UnitText) (items : List ItemText) → ModuleFacts all (unit_text u ∷ items) → in_entity u.kind ≡ false → UnitFacts all u
first-unit all u items m r = record { runs = r; places = m.places.0; printable = m.printable.0; labelled = labelled-by u.kind u r m.labelled.0; sound = unit-sound u m.rows.0 m.printable.0 }

-- of its functions
pub function-facts : (all items : List ItemText) → ModuleFacts all items → (n : UnitName) (f : UnitText) → function_named n (functions items) ≡ Some f → UnitFacts all f
function-facts all [] m n f e = absurd (none-some f e)
function-facts all (declare_text d ∷ items) m n f e = function-facts all items (rest-of all (declare_text d) items m) n f e
function-facts all (unit_text u ∷ items) m n f e = by (is_function u.kind) refl e (function-facts all items (rest-of all (unit_text u) items m) n f)
  where
    by : (b : Bool) → is_function u.kind ≡ b → function_named n (if b then u ∷ functions items else functions items) ≡ Some f → (function_named n (functions items) ≡ Some f → UnitFacts all f)
        → UnitFacts all f
    by false k q go = go q
    by true k q go = at (same_unit_name u.name n) q
      where
        at : (c : Bool) → (if c then Some u else function_named n (functions items)) ≡ Some f → UnitFacts all f
        at true r = subst (UnitFacts all) (same_Some u f r) (first-unit all u items m (function-runs u.kind k))
        at false r = go r

-- of a process in it
pub process-facts : (all items : List ItemText) → ModuleFacts all items → (u : UnitText) → Among (unit_text u) items → u.kind ≡ kind.Proc → UnitFacts all u
process-facts all [] m u a k = elim a [ ]
process-facts all (unit_text v ∷ items) m u (inl e) k = let q : v ≡ u = same v u e in subst (UnitFacts all) q (first-unit all v items m (ap (λ (x : UnitText). in_entity x.kind) q ∙ ap in_entity k))
  where
    same : (v u : UnitText) → unit_text v ≡ unit_text u → v ≡ u
    same v u e = cc
process-facts all (declare_text d ∷ items) m u (inl e) k = absurd cc
process-facts all (i ∷ items) m u (inr a) k = process-facts all items (rest-of all i items m) u a k

module _ (items : List ItemText) (m : ModuleFacts items items) (u : UnitText) (among : Among (unit_text u) items) (process : u.kind ≡ kind.Proc)
    (shallow : nest_deeper max_nested (functions items) (callees u) ≡ false) where
  abbrev fs : List UnitText
  fs = functions items

  -- each copy is of a unit of the module
  pub copy-facts : (k : ℕ) (c : Copy) → Nested fs u k c → UnitFacts items c.unit
  copy-facts _ _ outermost = process-facts items items m u among process
  copy-facts _ _ (called k c n s h z e) = let o = opens-is fs c (call_path c (label_or s.block.label) z.number) z.line.inst z.copy (cut-opens fs c (label_or s.block.label) s.number s.rest z e) in
      function-facts items items m o.callee z.copy.unit o.named

  pub copies-good : (k : ℕ) (c : Copy) → Nested fs u k c → IsGood fs c.unit
  copies-good k c n = is-good items c.unit (copy-facts k c n) fs

  pub copies-phis : (k : ℕ) (c : Copy) → Nested fs u k c → PhisAreGood c.unit
  copies-phis k c n = phis-good items c.unit (copy-facts k c n)

  pub copies-code : (k : ℕ) (c : Copy) → Nested fs u k c → (b : BlockText) (before after : List LineText) (l : LineText) → Among b c.unit.blocks → b.lines ≡ before ++ l ∷ after → IsCode l.inst
  copies-code k c n b before after l a e = let f = copy-facts k c n in let p = fact-at items c.unit f b before after l a e in is-code c.unit.kind l.inst f.runs p.2.allowed

  pub process-no-ret : (b : BlockText) (before after : List LineText) (l : LineText) → Among b u.blocks → b.lines ≡ before ++ l ∷ after → (o : Option OperandText) → l.inst ≡ ret_text o → ⊥
  process-no-ret b before after l a e o i = let p = fact-at items u (process-facts items items m u among process) b before after l a e in no-ret u.kind l.inst o process p.2.allowed i

  -- the line of a call that is replaced, in its block
  cut-lines : (c : Copy) (s : CopyPiece) → CopyPieceOf fs c s → (z : Cut) → next_cut fs c s ≡ Some z → s.block.lines ≡ (s.before ++ next_lines fs c s) ++ z.line ∷ z.rest
  cut-lines c s h z e =
      (copy_piece-block fs c s h).1
      ∙ ap (λ ls. s.before ++ ls) (lines-cut fs c (label_or s.block.label) s.number s.rest ∙ ap (λ o. next_lines fs c s ++ behind fs c (label_or s.block.label) o) e)
      ∙ sym (nested-right s.before (next_lines fs c s) (z.line ∷ z.rest))

  shaped : (k : UnitKind) (bs : List BlockText) → in_entity k ≡ false → HasShape k bs → (b : BlockText) × (more : List BlockText) × (bs ≡ b ∷ more)
  shaped kind.Entity bs e h = absurd cc
  shaped kind.Func [] e h = absurd h
  shaped kind.Func (b ∷ bs) e h = (b, bs, refl)
  shaped kind.Proc [] e h = absurd h
  shaped kind.Proc (b ∷ bs) e h = (b, bs, refl)

  pub begins-with : (k : ℕ) (c : Copy) → Nested fs u k c → (b : BlockText) × (more : List BlockText) × (c.unit.blocks ≡ b ∷ more)
  begins-with k c n = let f = copy-facts k c n in shaped c.unit.kind c.unit.blocks f.runs f.printable.shaped

  -- what a call that is replaced says of its arguments
  pub call-args : (k : ℕ) (c : Copy) → Nested fs u k c → (s : CopyPiece) → (h : CopyPieceOf fs c s) → (z : Cut) → (e : next_cut fs c s ≡ Some z)
      → ArgumentsAre c.unit (opens-is fs c (call_path c (label_or s.block.label) z.number) z.line.inst z.copy (cut-opens fs c (label_or s.block.label) s.number s.rest z e)).args z.copy.unit.args
  call-args k c n s h z e = named-args right
    where
      opens : Opens fs c (call_path c (label_or s.block.label) z.number) z.line.inst z.copy
      opens = opens-is fs c (call_path c (label_or s.block.label) z.number) z.line.inst z.copy (cut-opens fs c (label_or s.block.label) s.number s.rest z e)

      right : NamedIsRight items c.unit (call_text opens.callee opens.ty opens.args)
      right =
          let f = copy-facts k c n in
          let p = fact-at items c.unit f s.block (s.before ++ next_lines fs c s) z.rest z.line (copy_piece-block fs c s h).0 (cut-lines c s h z e) in
          subst (NamedIsRight items c.unit) opens.inst p.2.calls

      named-args : NamedIsRight items c.unit (call_text opens.callee opens.ty opens.args) → ArgumentsAre c.unit opens.args z.copy.unit.args
      named-args (inl r) = absurd (differ (is_assert opens.callee) opens.no_assert r.0)
        where
          differ : (b : Bool) → b ≡ false → b ≡ true → ⊥
          differ b p q = cc
      named-args (inr r) = let g = r.1 in subst (λ (v : UnitText). ArgumentsAre c.unit opens.args v.args)
          (same_Some g.of z.copy.unit (sym (function-is items opens.callee g.of g.named g.function) ∙ opens.named)) g.args_are

  pub copies-calls : (k : ℕ) (c : Copy) → Nested fs u k c → (s : CopyPiece) → CopyPieceOf fs c s → (z : Cut) → next_cut fs c s ≡ Some z → CallIsGood fs c z
  copies-calls k c n s h z e = record {
    arguments = arguments;
    entry = let f = function-facts items items m opens.callee z.copy.unit opens.named in shaped z.copy.unit.kind z.copy.unit.blocks f.runs f.printable.shaped;
    no_phi = ap is_phi opens.inst;
    result = result z.line.result refl;
  }
    where
      opens : Opens fs c (call_path c (label_or s.block.label) z.number) z.line.inst z.copy
      opens = opens-is fs c (call_path c (label_or s.block.label) z.number) z.line.inst z.copy (cut-opens fs c (label_or s.block.label) s.number s.rest z e)

      arguments : (a : List ℕ) → args_define a z.copy.unit.args ≡ true → (w : List ℕ) × Among w (values_named z.line.inst) × (z.copy.value a ≡ c.value w)
      arguments a d =
          let r = argument-named c.unit z.copy.unit.args opens.args c (call_path c (label_or s.block.label) z.number ++ a) a (call-args k c n s h z e) d in
          (r.0, subst (λ i. Among r.0 (values_named i)) (sym opens.inst) r.1, ap (λ (x : Copy). x.value a) (sym opens.copy) ∙ r.2)

      result : (r : Option (List ℕ)) → z.line.result ≡ r → (a : List ℕ) → is_result_name a r ≡ true → lines_define (c.value a) (with_merge (merge_of fs c z.copy z.line.inst r) []) ≡ true
      result None q a d = absurd cc
      result (Some w) q a d =
          let one : w ≡ a = same_name-is w a d in
          ap (λ i. lines_define (c.value a) (with_merge (merge_of fs c z.copy i (Some w)) [])) opens.inst
          ∙ ap (λ b. b || false) (ap (λ y. same_name (c.value w) (c.value y)) (sym one) ∙ same_name-refl (c.value w))

  -- an argument of a copy has the type of the value that the call names
  pub copies-arguments : (k : ℕ) (c : Copy) → Nested fs u (suc k) c → (s : CopyPiece) → CopyPieceOf fs c s → (z : Cut) → next_cut fs c s ≡ Some z → (n : List ℕ) (a : ArgText)
      → arg_named n z.copy.unit.args ≡ Some a
      → (w : List ℕ) × (value_type c.unit w ≡ Some a.ty) × (z.copy.value n ≡ c.value w)
  copies-arguments k c nest s h z e n a q =
      let o = opens-is fs c (call_path c (label_or s.block.label) z.number) z.line.inst z.copy (cut-opens fs c (label_or s.block.label) s.number s.rest z e) in
      let r = argument-typed c.unit z.copy.unit.args o.args c (call_path c (label_or s.block.label) z.number ++ n) n a (call-args (suc k) c nest s h z e) q in
      (r.0, r.1, ap (λ (x : Copy). x.value n) (sym o.copy) ∙ r.2)

  -- a result of a call is that of the merge behind it, and of its type
  pub copies-results : (k : ℕ) (c : Copy) → Nested fs u k c → (s : CopyPiece) → CopyPieceOf fs c s → (z : Cut) → next_cut fs c s ≡ Some z → (n : List ℕ) → is_result_name n z.line.result ≡ true
      → (w : MergeText) × (merge_of fs c z.copy z.line.inst z.line.result ≡ Some w) × (w.value ≡ c.value n) × (result_type z.line.inst ≡ Some w.ty)
  copies-results k c nest s h z e n d = by z.line.result refl d
    where
      opens : Opens fs c (call_path c (label_or s.block.label) z.number) z.line.inst z.copy
      opens = opens-is fs c (call_path c (label_or s.block.label) z.number) z.line.inst z.copy (cut-opens fs c (label_or s.block.label) s.number s.rest z e)

      by : (r : Option (List ℕ)) → z.line.result ≡ r → is_result_name n r ≡ true → (w : MergeText) × (merge_of fs c z.copy z.line.inst z.line.result ≡ Some w) × (w.value ≡ c.value n)
          × (result_type z.line.inst ≡ Some w.ty)
      by None q d = absurd cc
      by (Some m) q d = (
        record { value = c.value m; ty = opens.ty; edges = given_by fs z.copy },
        (λ j. merge_of fs c z.copy (opens.inst j) (q j)),
        ap c.value (same_name-is m n d),
        ap result_type opens.inst,
      )

  -- each line of a copied unit is sound
  pub copies-sound : (k : ℕ) (c : Copy) → Nested fs u k c → (b : BlockText) (before after : List LineText) (l : LineText) → Among b c.unit.blocks → b.lines ≡ before ++ l ∷ after → InstIsSound c.unit l
  copies-sound k c n b before after l a e =
      in-each (InstIsSound c.unit) (lines_of c.unit.blocks) l (copy-facts k c n).sound (among-lines c.unit.blocks b l a (subst (λ ls. Among l ls) (sym e) (among-middle before after l)))

  -- a function has a result
  has-result : (k : UnitKind) (n : UnitName) (args : List ArgText) (r : Option TypeTree) (ts : List Lexeme) → is_function k ≡ true → SpellsHeader k n args r ts → (t : TypeTree) × (r ≡ Some t)
  has-result kind.Func n args (Some t) ts e h = (t, refl)
  has-result kind.Func n args None ts e h = elim h [ ]
  has-result kind.Proc n args r ts e h = absurd cc
  has-result kind.Entity n args r ts e h = absurd cc

  header-fits : (k : UnitKind) (n : UnitName) (args : List ArgText) (t : TypeTree) (ts : List Lexeme) → is_function k ≡ true → SpellsHeader k n args (Some t) ts → IsResultType t
  header-fits kind.Func n args t ts e h = h.4.fits
  header-fits kind.Proc n args t ts e h = absurd cc
  header-fits kind.Entity n args t ts e h = absurd cc

  line-gives : (r : Option (List ℕ)) (i : InstText) (ts : List Lexeme) → SpellsLine r i ts → (n : List ℕ) → r ≡ Some n → gives_value i ≡ true
  line-gives None i ts h n q = absurd (none-some n q)
  line-gives (Some m) i ts h n q = h.2

  -- the type of a result that is no void is that of a value
  value-kind : (t : TypeTree) → not (is_void t) ≡ true → IsResultType t → is_value_type t ≡ true
  value-kind void_type e f = absurd cc
  value-kind (signal_type t) e f = elim f [ ]
  value-kind (pointer_type t) e f = elim f [ ]
  value-kind time_type e f = refl
  value-kind (int_type n) e f = refl
  value-kind (array_type n t) e f = refl
  value-kind (tuple_type ts) e f = refl

  -- the callee of a call that is replaced gives a result of the type that the call writes
  pub record CalleeTyped (c : Copy) (s : CopyPiece) (z : Cut) (written : TypeTree) : Type 0 where
    pub ty : TypeTree
    pub result : z.copy.unit.result ≡ Some ty
    pub same : written ≡ ty
    pub fits : IsResultType ty

  callee-typed : (k : ℕ) (c : Copy) → Nested fs u (suc k) c → (s : CopyPiece) → (h : CopyPieceOf fs c s) → (z : Cut) → (e : next_cut fs c s ≡ Some z)
      → CalleeTyped c s z (opens-is fs c (call_path c (label_or s.block.label) z.number) z.line.inst z.copy (cut-opens fs c (label_or s.block.label) s.number s.rest z e)).ty
  callee-typed k c nest s h z e = record { ty = result.0; result = result.1; same = right.1 result.0 result.1; fits = fits }
    where
      opens : Opens fs c (call_path c (label_or s.block.label) z.number) z.line.inst z.copy
      opens = opens-is fs c (call_path c (label_or s.block.label) z.number) z.line.inst z.copy (cut-opens fs c (label_or s.block.label) s.number s.rest z e)

      inner : Nested fs u k z.copy
      inner = called k c nest s h z e

      function : NamedIsRight items c.unit (call_text opens.callee opens.ty opens.args) → (is_function z.copy.unit.kind ≡ true) × ((t : TypeTree) → z.copy.unit.result ≡ Some t → opens.ty ≡ t)
      function (inl r) = absurd (differ (is_assert opens.callee) opens.no_assert r.0)
        where
          differ : (b : Bool) → b ≡ false → b ≡ true → ⊥
          differ b p q = cc
      function (inr r) =
          let g = r.1 in
          let one : g.of ≡ z.copy.unit = same_Some g.of z.copy.unit (sym (function-is items opens.callee g.of g.named g.function) ∙ opens.named) in
          (ap (λ (v : UnitText). is_function v.kind) (sym one) ∙ g.function, λ t p. g.gives t (ap (λ (v : UnitText). v.result) one ∙ p))

      right : (is_function z.copy.unit.kind ≡ true) × ((t : TypeTree) → z.copy.unit.result ≡ Some t → opens.ty ≡ t)
      right =
          let f = copy-facts (suc k) c nest in
          let p = fact-at items c.unit f s.block (s.before ++ next_lines fs c s) z.rest z.line (copy_piece-block fs c s h).0 (cut-lines c s h z e) in
          function (subst (NamedIsRight items c.unit) opens.inst p.2.calls)

      result : (t : TypeTree) × (z.copy.unit.result ≡ Some t)
      result = let f = copy-facts k z.copy inner in
          has-result z.copy.unit.kind z.copy.unit.name z.copy.unit.args z.copy.unit.result (lexemes_in (item_line (header_item z.copy.unit.kind z.copy.unit.name z.copy.unit.args z.copy.unit.result)))
          right.0 f.printable.headed.1

      fits : IsResultType result.0
      fits = let g = copy-facts k z.copy inner in
          header-fits z.copy.unit.kind z.copy.unit.name z.copy.unit.args result.0 (lexemes_in (item_line (header_item z.copy.unit.kind z.copy.unit.name z.copy.unit.args z.copy.unit.result))) right.0
          (subst (λ r. SpellsHeader z.copy.unit.kind z.copy.unit.name z.copy.unit.args r (lexemes_in (item_line (header_item z.copy.unit.kind z.copy.unit.name z.copy.unit.args z.copy.unit.result))))
          result.1 g.printable.headed.1)

  -- what a merge takes is of the type of the call
  pub copies-merges : (x : UnitText) → ((k : ℕ) (c : Copy) → Nested fs u k c → (n : List ℕ) (t : TypeTree) → value_type c.unit n ≡ Some t → value_type x (c.value n) ≡ Some t)
      → (k : ℕ) (c : Copy) → Nested fs u (suc k) c → (s : CopyPiece) → CopyPieceOf fs c s → (z : Cut) → next_cut fs c s ≡ Some z → (w : MergeText)
      → merge_of fs c z.copy z.line.inst z.line.result ≡ Some w
      → (is_value_type w.ty ≡ true) × ((e : EdgeText) → Among e w.edges → IsOf x w.ty e.value)
  copies-merges x typed k c nest s h z e w q = by z.line.result refl q
    where
      opens : Opens fs c (call_path c (label_or s.block.label) z.number) z.line.inst z.copy
      opens = opens-is fs c (call_path c (label_or s.block.label) z.number) z.line.inst z.copy (cut-opens fs c (label_or s.block.label) s.number s.rest z e)

      inner : Nested fs u k z.copy
      inner = called k c nest s h z e

      line-is : InstIsSound c.unit z.line
      line-is = copies-sound (suc k) c nest s.block (s.before ++ next_lines fs c s) z.rest z.line (copy_piece-block fs c s h).0 (cut-lines c s h z e)

      typing : CalleeTyped c s z opens.ty
      typing = callee-typed k c nest s h z e

      returns : (o : OperandText) → ReturnIs z.copy.unit z.copy.unit.result (Some o) → (is_value_type opens.ty ≡ true) × (value_type z.copy.unit o.value ≡ Some opens.ty)
      returns o r =
          let v : ReturnIs z.copy.unit (Some typing.ty) (Some o) = subst (λ y. ReturnIs z.copy.unit y (Some o)) typing.result r in
          (ap is_value_type typing.same ∙ v.0, v.1.1 ∙ ap Some (sym typing.same))

      edge : (e : EdgeText) → Among e (given_by fs z.copy) → (is_value_type opens.ty ≡ true) × IsOf x opens.ty e.value
      edge e a =
          let g = given-by fs z.copy z.copy.unit.blocks e a in
          let l : InstIsSound z.copy.unit g.given.line = copies-sound k z.copy inner g.from g.given.before g.given.after g.given.line g.is_one g.given.splits in
          let r = returns g.given.operand (subst (RowIs z.copy.unit) g.given.ret l.row) in
          (r.0, ap (value_type x) g.given.value ∙ typed k z.copy inner g.given.operand.value opens.ty r.1)

      -- the type of a named result is that of a value
      value-named : (n : List ℕ) → z.line.result ≡ Some n → is_value_type opens.ty ≡ true
      value-named n p =
          let f = copy-facts (suc k) c nest in
          let printed : HasInstLine z.line = in-each HasInstLine (lines_of c.unit.blocks) z.line (lines-printed c.unit f.printable)
          (among-lines c.unit.blocks s.block z.line (copy_piece-block fs c s h).0
          (subst (λ ls. Among z.line ls) (sym (cut-lines c s h z e)) (among-middle (s.before ++ next_lines fs c s) z.rest z.line))) in
          let gives : gives_value (call_text opens.callee opens.ty opens.args)
          ≡ true = subst (λ i. gives_value i ≡ true) opens.inst (line-gives z.line.result z.line.inst (lexemes_in (item_line (inst_item z.line))) printed.1 n p) in
          value-kind opens.ty gives (subst IsResultType (sym typing.same) typing.fits)

      by : (r : Option (List ℕ)) → z.line.result ≡ r → merge_of fs c z.copy z.line.inst z.line.result ≡ Some w → (is_value_type w.ty ≡ true) × ((e : EdgeText) → Among e w.edges → IsOf x w.ty e.value)
      by None p q = absurd (none-some w (sym (λ j. merge_of fs c z.copy (opens.inst j) (p j)) ∙ q))
      by (Some n) p q =
          let m : MergeText = record { value = c.value n; ty = opens.ty; edges = given_by fs z.copy } in
          let one : m ≡ w = same_Some m w (sym (λ j. merge_of fs c z.copy (opens.inst j) (p j)) ∙ q) in
          subst (λ (w : MergeText). (is_value_type w.ty ≡ true) × ((e : EdgeText) → Among e w.edges → IsOf x w.ty e.value)) one (value-named n p, λ e a. (edge e a).1)

  -- each `ret` of a copy behind which a merge stands gives a value
  pub copies-returned : (x : UnitText) → ((k : ℕ) (c : Copy) → Nested fs u k c → (n : List ℕ) (t : TypeTree) → value_type c.unit n ≡ Some t → value_type x (c.value n) ≡ Some t)
      → (k : ℕ) (c : Copy) → Nested fs u (suc k) c → (s : CopyPiece) → CopyPieceOf fs c s → (z : Cut) → next_cut fs c s ≡ Some z → (w : MergeText)
      → merge_of fs c z.copy z.line.inst z.line.result ≡ Some w
      → (b : BlockText) (before after : List LineText) (l : LineText) → Among b z.copy.unit.blocks → b.lines ≡ before ++ l ∷ after → (o : Option OperandText) → l.inst ≡ ret_text o → (a : OperandText)
      × (o ≡ Some a)
  copies-returned x typed k c nest s h z e w q b before after l a r (Some o) i = (o, refl)
  copies-returned x typed k c nest s h z e w q b before after l a r None i =
      let t = callee-typed k c nest s h z e in
      let o = opens-is fs c (call_path c (label_or s.block.label) z.number) z.line.inst z.copy (cut-opens fs c (label_or s.block.label) s.number s.rest z e) in
      let row : RowIs z.copy.unit l.inst = (copies-sound k z.copy (called k c nest s h z e) b before after l a r).row in
      let void : ReturnIs z.copy.unit (Some t.ty) None = subst (λ y. ReturnIs z.copy.unit y None) t.result (subst (RowIs z.copy.unit) i row) in
      absurd (no-void w.ty (copies-merges x typed k c nest s h z e w q).0 (merge-type z.line.inst z.line.result o.callee o.ty o.args o.inst w q ∙ t.same ∙ void))
    where
      no-void : (t : TypeTree) → is_value_type t ≡ true → t ≡ void_type → ⊥
      no-void t v e = let f : is_value_type void_type ≡ true = ap is_value_type (sym e) ∙ v in cc

      merge-type : (i : InstText) (r : Option (List ℕ)) (f : UnitName) (ty : TypeTree) (args : List OperandText) → i ≡ call_text f ty args → (w : MergeText) → merge_of fs c z.copy i r ≡ Some w
          → w.ty ≡ ty
      merge-type i None f ty args p w q = absurd (none-some w (sym (ap (λ i. merge_of fs c z.copy i None) p) ∙ q))
      merge-type i (Some n) f ty args p w q = sym
          (ap (λ (m : MergeText). m.ty) (same_Some (record { value = c.value n; ty = ty; edges = given_by fs z.copy }) w (sym (ap (λ i. merge_of fs c z.copy i (Some n)) p) ∙ q)))

  -- a `phi` names each block of its unit that leads to its own once
  pub copies-naming : (k : ℕ) (c : Copy) → Nested fs u k c → (d b : BlockText) (before after : List LineText) (l : LineText) (ty : TypeTree) (es : List EdgeText) → Among d c.unit.blocks
      → d.lines ≡ before ++ l ∷ after → l.inst ≡ phi_text ty es
      → Among b c.unit.blocks → has_edge b (label_or d.label) ≡ true → edges_naming (label_or b.label) es ≡ 1
  copies-naming k c n d b before after l ty es a e i a' edge =
      let p = fact-at items c.unit (copy-facts k c n) d before after l a e in
      let r : PhiIsRight c.unit (place-at p.0 p.1 d before l after) (phi_text ty es) = subst (PhiIsRight c.unit (place-at p.0 p.1 d before l after)) i p.2.phi in
      in-each (λ (b : BlockText). has_edge b (label_or d.label) ≡ true → edges_naming (label_or b.label) es ≡ 1) c.unit.blocks b r.2 a' edge

  nested-shallow : (k : ℕ) (c : Copy) → Nested fs u k c → nest_deeper k fs (callees c.unit) ≡ false
  nested-shallow _ _ outermost = shallow
  nested-shallow _ _ (called k c n s h z e) =
      let o = opens-is fs c (call_path c (label_or s.block.label) z.number) z.line.inst z.copy (cut-opens fs c (label_or s.block.label) s.number s.rest z e) in
      let a = callee-among c.unit s.block (s.before ++ next_lines fs c s) z.rest z.line o.callee o.ty o.args (copy_piece-block fs c s h).0 (cut-lines c s h z e) o.inst o.no_assert in
      ap (λ f. nest_deeper k fs (option_map_or callees f [])) (sym o.named) ∙ any-among (λ f. nest_deeper k fs (callees_of fs f)) (callees c.unit) o.callee (nested-shallow (suc k) c n) a

  pub not-deep : (c : Copy) → Nested fs u zero c → (s : CopyPiece) → CopyPieceOf fs c s → (z : Cut) → next_cut fs c s ≡ Some z → ⊥
  not-deep c n s h z e =
      let o = opens-is fs c (call_path c (label_or s.block.label) z.number) z.line.inst z.copy (cut-opens fs c (label_or s.block.label) s.number s.rest z e) in
      let a = callee-among c.unit s.block (s.before ++ next_lines fs c s) z.rest z.line o.callee o.ty o.args (copy_piece-block fs c s h).0 (cut-lines c s h z e) o.inst o.no_assert in
      let f : true ≡ false = any-among (λ (f : UnitName). true) (callees c.unit) o.callee (nested-shallow zero c n) a in
      differ f
    where
      differ : true ≡ false → ⊥
      differ f = cc
