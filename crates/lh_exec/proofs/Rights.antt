-- The units of a well-formed module are right.
use Rattle.std.proofs.Common.{◌≡◌, ℕ, ◌<◌, suc, List, [], ◌∷◌, map, Bool, true, false, ◌||◌, if◌then◌else◌, Option, Some, None, IsSome, is_some, refl, ap, sym, ◌∙◌, subst}
use Rattle.std.specs.Prelude.{slice_get}
use Rattle.std.specs.Option.{option_and_then, option_map}
use Rattle.std.proofs.lemmas.Option.{same_Some, none-some}
use Rattle.lh_types.specs.Types.{TypeTree}
use Rattle.lh_unit_names.specs.declared.name.UnitName.{UnitName}
use Rattle.lh_unit_names.specs.UnitNames.{same_unit_name}
use Rattle.lh_unit.specs.Contents.{InstText, LineText, BlockText, ArgText, UnitText, ItemText, unit_text, declare_text, is_result_name, args_define, lines_define, blocks_define, defines_value}
use Rattle.lh_unit_names.specs.Names.{same_name}
use Rattle.lh_unit.specs.Named.{label_or, function_named, unit_named, is_function}
use Rattle.lh_unit.specs.Activation.{functions}
use Rattle.lh_unit.specs.Arena.{Arena, IsArena, contents, item_text_at, unit_text_at, kind_at, table_at, naming, blocks_at, unit_count, value_count, label_count, label_name_at, value_name_at, unit_name_at}
use Rattle.lh_unit.specs.Hierarchy.{lines_of}
use Rattle.lh_unit.specs.Naming.{block_text, kind_text, arg_text, line_text, maybe_text}
use Rattle.lh_unit.specs.Places.{places}
use Rattle.lh_unit.specs.Table.{HasBlocks, FitsKind, ArgsWithin, ResultsWithin, ResultWithin, is_block, flat}
use Rattle.lh_unit.specs.Typing.{or_else, arg_named, line_giving, inst_giving, result_type, value_type}
use Rattle.lh_unit.specs.WellFormed.{Site, sites, labels_named, IsFaultless, IsWellFormed}
use Rattle.lh_unit.specs.Within.{Each}
use Rattle.lh_unit.specs.declared.inst.UnitId.{UnitId}
use Rattle.lh_unit.specs.declared.inst.BlockId.{BlockId}
use Rattle.lh_unit.specs.declared.inst.ValueId.{ValueId}
use Rattle.lh_unit.specs.declared.inst.Arg.{Arg}
use Rattle.lh_unit.specs.declared.inst.UnitKind.{UnitKind}
use Rattle.lh_unit.specs.declared.inst.UnitKind.TheVariants as kind
use Rattle.lh_unit.specs.declared.inst.Item.{Item}
use Rattle.lh_unit.specs.declared.inst.Item.TheVariants as item
use Rattle.lh_unit.specs.declared.table.TableLine.{TableLine}
use Rattle.lh_unit_names.proofs.NameLists.{same_name-is}
use Rattle.lh_unit.proofs.Defined.{label_text-named, flat_lines}
use Rattle.lh_unit.proofs.ById.{block_of-by_id, unit_named-by_id, line_giving-append}
use Rattle.lh_verify_laws.specs.Calls.{NamedIsRight}
use Rattle.lh_verify_laws.proofs.Sound.{site_in}
use Rattle.lh_verify_laws.proofs.CallsLaw.{calls_are_right}
use Rattle.lh_verify_laws.proofs.ShapeLaw.{labels_are_blocks}
use Rattle.lh_verify_laws.specs.KindsOf.{ArgsHaveKinds, HasTypeOfKind}
use Rattle.lh_verify_laws.proofs.KindsLaw.{operands_have_types}
use Rattle.lh_unit.specs.Kinds.{uses}
use Rattle.lh_unit.proofs.Lists.{Each-of-map}
use Rattle.lh_unit.proofs.ContentsLemmas.{Each-by_blocks}
use Rattle.lh_eval.specs.Sound.{InstIsSound}
use Rattle.lh_verify_laws.proofs.EachItem.{each-split, each-contained}
use Rattle.lh_verify_laws.proofs.AtPlaces.{lines-from}
use Rattle.lh_eval_laws.proofs.FitLaws.{of-unit, unit-is-sound}
use Rattle.lh_exec.proofs.Heads.{args-have-kinds}
use Rattle.lh_exec.specs.Sound.{IsLabel, LineRight, UnitRight, FunctionsRight}

-- what it calls is right, its labels are of blocks, and its operands have types
abbrev pub Leading : List ItemText → UnitText → LineText → Type 0
Leading items u l = NamedIsRight items u l.inst × Each (IsLabel u) (labels_named l.inst) × (ArgsHaveKinds u → Each (HasTypeOfKind u) (uses l.inst))

abbrev SiteLeading : List ItemText → Site → Type 0
SiteLeading items s = Leading items s.unit s.place.line

abbrev pub LeadingIn : List ItemText → ItemText → Type 0
LeadingIn items (unit_text u) = Each (Leading items u) (lines_of u.blocks)
LeadingIn items (declare_text d) = Unit {0}

leading-in : (all items : List ItemText) → Each (SiteLeading all) (sites items) → Each (LeadingIn all) items
leading-in all [] e = tt
leading-in all (unit_text u ∷ more) e =
    let r = each-split (SiteLeading all) (map (site_in u) (places u)) (sites more) e in
    (lines-from (Leading all u) 1 true u.blocks (Each-of-map (SiteLeading all) (site_in u) (places u) r.0), leading-in all more r.1)
leading-in all (declare_text d ∷ more) e = (tt, leading-in all more e)

leading-items : (items : List ItemText) → IsFaultless items → Each (LeadingIn items) items
leading-items items f = leading-in items items (each-contained (SiteLeading items) (sites items) (λ s c. (calls_are_right items s f c, labels_are_blocks items s f c, operands_have_types items s f c)))

both : (items : List ItemText) (u : UnitText) → ArgsHaveKinds u → (ls : List LineText) → Each (InstIsSound u) ls → Each (Leading items u) ls → Each (LineRight items u) ls
both items u k [] s e = tt
both items u k (l ∷ ls) s e = (record { sound = s.0; named = e.0.0; labels = e.0.1; kinds = e.0.2 k }, both items u k ls s.1 e.1)

all-labelled : (a : Arena) (u : ℕ) → HasBlocks (kind_at a u) → (bs : List BlockId) → Each (λ (b : BlockText). b.label ≡ Some (label_or b.label)) (map (block_text (naming a u) (table_at a u)) bs)
all-labelled a u k [] = tt
all-labelled a u k (b ∷ bs) = (let e = label_text-named (naming a u) (kind_at a u) b k in e ∙ sym (ap (λ (o : Option (List ℕ)). Some (label_or o)) e), all-labelled a u k bs)

some-kind : (k : Option UnitKind) → HasBlocks k → IsSome k
some-kind None h = absurd h
some-kind (Some x) h = refl

module _ (a : Arena) (o : IsArena a) (g : IsWellFormed (contents a)) where
  -- a function or a process is right
  pub unit-right : (u : ℕ) → u < unit_count a → HasBlocks (kind_at a u) → UnitRight (contents a) (unit_text_at a u)
  unit-right u h k =
      let s = unit-is-sound a u o h g (some-kind (kind_at a u) k) in
      record {
        lines = Each-by_blocks (LineRight (contents a) (unit_text_at a u)) (unit_text_at a u).blocks
            (both (contents a) (unit_text_at a u) (args-have-kinds (unit_text_at a u) s) (lines_of (unit_text_at a u).blocks) s.lines
            (of-unit a u o h g (some-kind (kind_at a u) k) (LeadingIn (contents a)) (leading-items (contents a) g.1)));
        labelled = all-labelled a u k (blocks_at a u);
        args = s.args;
      }

  -- a function has blocks and a result
  function-kind : (k : Option UnitKind) → IsSome k → is_function (kind_text k) ≡ true → k ≡ Some kind.Func
  function-kind None s e = absurd cc
  function-kind (Some kind.Func) s e = refl
  function-kind (Some kind.Proc) s e = absurd cc
  function-kind (Some kind.Entity) s e = absurd cc

  func-result : (u : ℕ) → u < unit_count a → kind_at a u ≡ Some kind.Func → IsSome (unit_text_at a u).result
  func-result u h e = (subst (λ (k : Option UnitKind). FitsKind k (table_at a u)) e (o.tables u h).fits_kind).0

  func-blocks : (u : ℕ) → kind_at a u ≡ Some kind.Func → HasBlocks (kind_at a u)
  func-blocks u e = subst HasBlocks (sym e) tt

  -- a function of the module is a unit by its id
  by-id : (n : UnitName) (items : List Item) (f : UnitText) → ((i : ℕ) (v : UnitId) → slice_get items i ≡ Some (item.Unit v) → (v.0 < unit_count a) × IsSome (kind_at a v.0))
      → function_named n (functions (map (item_text_at a) items)) ≡ Some f
      → (v : ℕ) × (v < unit_count a) × (kind_at a v ≡ Some kind.Func) × (f ≡ unit_text_at a v)
  by-id n [] f w e = absurd (none-some f e)
  by-id n (item.Declare d ∷ items) f w e = by-id n items f (λ i v q. w (suc i) v q) e
  by-id n (item.Unit x ∷ items) f w e = by (is_function (kind_text (kind_at a x.0))) refl (by-id n items f (λ i v q. w (suc i) v q)) e
    where
      by : (b : Bool) → is_function (kind_text (kind_at a x.0)) ≡ b
          → (function_named n (functions (map (item_text_at a) items)) ≡ Some f → (v : ℕ) × (v < unit_count a) × (kind_at a v ≡ Some kind.Func) × (f ≡ unit_text_at a v))
          → function_named n (if b then unit_text_at a x.0 ∷ functions (map (item_text_at a) items) else functions (map (item_text_at a) items)) ≡ Some f → (v : ℕ) × (v < unit_count a)
          × (kind_at a v ≡ Some kind.Func) × (f ≡ unit_text_at a v)
      by false k go q = go q
      by true k go q = at (same_unit_name (unit_text_at a x.0).name n) q
        where
          at : (c : Bool) → (if c then Some (unit_text_at a x.0) else function_named n (functions (map (item_text_at a) items))) ≡ Some f → (v : ℕ) × (v < unit_count a)
              × (kind_at a v ≡ Some kind.Func) × (f ≡ unit_text_at a v)
          at true r = let z = w 0 x refl in (x.0, z.0, function-kind (kind_at a x.0) z.1 k, sym (same_Some (unit_text_at a x.0) f r))
          at false r = go r

  pub functions-right : FunctionsRight (contents a)
  functions-right n f e =
      let z = by-id n a.items f (λ i v q. (o.items_within i v q, o.items_begun i v q)) e in
      (subst (UnitRight (contents a)) (sym z.3) (unit-right z.0 z.1 (func-blocks z.0 z.2)), subst (λ (v : UnitText). IsSome v.result) (sym z.3) (func-result z.0 z.1 z.2))

  -- what a call names by its id
  pub called-unit : (u : ℕ) → u < unit_count a → (of : UnitText) → unit_named (unit_name_at a u) (contents a) ≡ Some of → is_function of.kind ≡ true → (of ≡ unit_text_at a u) × HasBlocks (kind_at a u)
  called-unit u h of n f = by (kind_at a u) refl (sym (unit_named-by_id a u o h) ∙ n)
    where
      by : (k : Option UnitKind) → kind_at a u ≡ k → (if is_some k then Some (unit_text_at a u) else None) ≡ Some of → (of ≡ unit_text_at a u) × HasBlocks (kind_at a u)
      by None e q = absurd (none-some of q)
      by (Some x) e q =
          let same : unit_text_at a u ≡ of = same_Some (unit_text_at a u) of q in
          let fun : is_function (kind_text (kind_at a u)) ≡ true = ap (λ (v : UnitText). is_function v.kind) same ∙ f in
          (sym same, func-blocks u (function-kind (kind_at a u) (subst (λ (k : Option UnitKind). IsSome k) (sym e) refl) fun))

  -- a label of a block is that of a block by its id
  pub label-stands : (u : ℕ) → u < unit_count a → HasBlocks (kind_at a u) → (b : ℕ) → b < label_count a u → IsLabel (unit_text_at a u) (label_name_at a u b) → is_block (blocks_at a u) b ≡ true
  label-stands u h k b l x = by (is_block (blocks_at a u) b) (sym (block_of-by_id a u o h b k l) ∙ x.1)
    where
      by : (c : Bool) → (if c then Some (block_text (naming a u) (table_at a u) (record { 0 = b })) else None) ≡ Some x.0 → c ≡ true
      by true q = refl
      by false q = absurd (none-some x.0 q)

  -- a name that has a type is that of a value by its id
  named-line : (n : List ℕ) (u : ℕ) (ls : List TableLine) (i : InstText) → ResultsWithin (value_count a u) ls → line_giving n (map (line_text (naming a u)) ls) ≡ Some i → (v : ValueId)
      × (v.0 < value_count a u) × (value_name_at a u v.0 ≡ n)
  named-line n u [] i w e = absurd (none-some i e)
  named-line n u (l ∷ ls) i w e = by l.result w.0 (named-line n u ls i w.1) e
    where
      by : (r : Option ValueId) → ResultWithin (value_count a u) r → (line_giving n (map (line_text (naming a u)) ls) ≡ Some i → (v : ValueId) × (v.0 < value_count a u) × (value_name_at a u v.0 ≡ n))
          → (if is_result_name n (maybe_text (naming a u) r) then Some (line_text (naming a u) l).inst else line_giving n (map (line_text (naming a u)) ls)) ≡ Some i → (v : ValueId)
          × (v.0 < value_count a u) × (value_name_at a u v.0 ≡ n)
      by None t go q = go q
      by (Some v) t go q = at (same_name (value_name_at a u v.0) n) refl q
        where
          at : (c : Bool) → same_name (value_name_at a u v.0) n ≡ c → (if c then Some (line_text (naming a u) l).inst else line_giving n (map (line_text (naming a u)) ls)) ≡ Some i → (y : ValueId)
              × (y.0 < value_count a u) × (value_name_at a u y.0 ≡ n)
          at true s r = (v, t, same_name-is (value_name_at a u v.0) n s)
          at false s r = go r

  named-arg : (n : List ℕ) (u : ℕ) (xs : List Arg) (x : ArgText) → ArgsWithin (value_count a u) xs → arg_named n (map (arg_text (naming a u)) xs) ≡ Some x → (v : ValueId) × (v.0 < value_count a u)
      × (value_name_at a u v.0 ≡ n)
  named-arg n u [] x w e = absurd (none-some x e)
  named-arg n u (y ∷ ys) x w e = at (same_name (value_name_at a u y.value.0) n) refl (named-arg n u ys x w.1) e
    where
      at : (c : Bool) → same_name (value_name_at a u y.value.0) n ≡ c → (arg_named n (map (arg_text (naming a u)) ys) ≡ Some x → (v : ValueId) × (v.0 < value_count a u) × (value_name_at a u v.0 ≡ n))
          → (if c then Some (arg_text (naming a u) y) else arg_named n (map (arg_text (naming a u)) ys)) ≡ Some x → (v : ValueId) × (v.0 < value_count a u) × (value_name_at a u v.0 ≡ n)
      at true s go r = (y.value, w.0, same_name-is (value_name_at a u y.value.0) n s)
      at false s go r = go r

  giving-flat : (n : List ℕ) (bs : List BlockText) → inst_giving n bs ≡ line_giving n (flat (map (λ (b : BlockText). b.lines) bs))
  giving-flat n [] = refl
  giving-flat n (b ∷ bs) = ap (or_else (line_giving n b.lines)) (giving-flat n bs) ∙ sym (line_giving-append n b.lines (flat (map (λ (x : BlockText). x.lines) bs)))

  pub typed-value : (u : ℕ) → u < unit_count a → (n : List ℕ) (t : TypeTree) → value_type (unit_text_at a u) n ≡ Some t → (v : ValueId) × (v.0 < value_count a u) × (value_name_at a u v.0 ≡ n)
  typed-value u h n t e = by (arg_named n (unit_text_at a u).args) refl e
    where
      made : inst_giving n (unit_text_at a u).blocks ≡ line_giving n (map (line_text (naming a u)) (table_at a u).lines)
      made = giving-flat n (unit_text_at a u).blocks ∙ ap (line_giving n) (flat_lines (naming a u) (table_at a u) (o.tables u h))

      from : (i : Option InstText) → line_giving n (map (line_text (naming a u)) (table_at a u).lines) ≡ i → option_and_then result_type i ≡ Some t → (v : ValueId) × (v.0 < value_count a u)
          × (value_name_at a u v.0 ≡ n)
      from None q r = absurd (none-some t r)
      from (Some i) q r = named-line n u (table_at a u).lines i (o.tables u h).results_within q

      by : (x : Option ArgText) → arg_named n (unit_text_at a u).args ≡ x → or_else (option_map (λ (y : ArgText). y.ty) x) (option_and_then result_type (inst_giving n (unit_text_at a u).blocks))
          ≡ Some t → (v : ValueId) × (v.0 < value_count a u) × (value_name_at a u v.0 ≡ n)
      by (Some x) q r = named-arg n u (table_at a u).args x (o.tables u h).args_within q
      by None q r = from (line_giving n (map (line_text (naming a u)) (table_at a u).lines)) refl (sym (ap (option_and_then result_type) made) ∙ r)

  -- ---- names that are defined

  defines-arg : (n : List ℕ) (xs : List ArgText) → args_define n xs ≡ true → (x : ArgText) × (arg_named n xs ≡ Some x)
  defines-arg n [] e = absurd cc
  defines-arg n (x ∷ xs) e = by (same_name x.name n) e (defines-arg n xs)
    where
      by : (b : Bool) → (b || args_define n xs) ≡ true → (args_define n xs ≡ true → (y : ArgText) × (arg_named n xs ≡ Some y)) → (y : ArgText) × ((if b then Some x else arg_named n xs) ≡ Some y)
      by true q go = (x, refl)
      by false q go = go q

  defines-line : (n : List ℕ) (ls : List LineText) → lines_define n ls ≡ true → (i : InstText) × (line_giving n ls ≡ Some i)
  defines-line n [] e = absurd cc
  defines-line n (l ∷ ls) e = by (is_result_name n l.result) e (defines-line n ls)
    where
      by : (b : Bool) → (b || lines_define n ls) ≡ true → (lines_define n ls ≡ true → (i : InstText) × (line_giving n ls ≡ Some i)) → (i : InstText)
          × ((if b then Some l.inst else line_giving n ls) ≡ Some i)
      by true q go = (l.inst, refl)
      by false q go = go q

  given-first : (x y : Option InstText) → (i : InstText) × (y ≡ Some i) → (i : InstText) × (or_else x y ≡ Some i)
  given-first None y z = z
  given-first (Some i) y z = (i, refl)

  defines-block : (n : List ℕ) (bs : List BlockText) → blocks_define n bs ≡ true → (i : InstText) × (inst_giving n bs ≡ Some i)
  defines-block n [] e = absurd cc
  defines-block n (b ∷ bs) e = by (lines_define n b.lines) refl e (defines-block n bs)
    where
      by : (c : Bool) → lines_define n b.lines ≡ c → (c || blocks_define n bs) ≡ true → (blocks_define n bs ≡ true → (i : InstText) × (inst_giving n bs ≡ Some i)) → (i : InstText)
          × (or_else (line_giving n b.lines) (inst_giving n bs) ≡ Some i)
      by true p q go = let z = defines-line n b.lines p in (z.0, ap (λ (o : Option InstText). or_else o (inst_giving n bs)) z.1)
      by false p q go = given-first (line_giving n b.lines) (inst_giving n bs) (go q)

  -- a name that is defined in a unit is that of a value by its id
  pub defined-value : (u : ℕ) → u < unit_count a → (n : List ℕ) → defines_value n (unit_text_at a u) ≡ true → (v : ValueId) × (v.0 < value_count a u) × (value_name_at a u v.0 ≡ n)
  defined-value u h n e = by (args_define n (unit_text_at a u).args) refl e
    where
      made : inst_giving n (unit_text_at a u).blocks ≡ line_giving n (map (line_text (naming a u)) (table_at a u).lines)
      made = giving-flat n (unit_text_at a u).blocks ∙ ap (line_giving n) (flat_lines (naming a u) (table_at a u) (o.tables u h))

      by : (b : Bool) → args_define n (unit_text_at a u).args ≡ b → (b || blocks_define n (unit_text_at a u).blocks) ≡ true → (v : ValueId) × (v.0 < value_count a u) × (value_name_at a u v.0 ≡ n)
      by true p q = let z = defines-arg n (unit_text_at a u).args p in named-arg n u (table_at a u).args z.0 (o.tables u h).args_within z.1
      by false p q = let z = defines-block n (unit_text_at a u).blocks q in named-line n u (table_at a u).lines z.0 (o.tables u h).results_within (sym made ∙ z.1)
