-- The functions and processes of a well-formed module are tidy.
use Rattle.std.proofs.Common.{◌≡◌, ℕ, zero, suc, List, [], ◌∷◌, ◌++◌, map, Bool, true, false, if◌then◌else◌, not, ◌||◌, Option, Some, None, IsSome, refl, ap, sym, ◌∙◌, inl, inr, subst, append_assoc}
use Rattle.std.specs.List.{slice_get}
use Rattle.std.proofs.lemmas.Bool.{or_parts}
use Rattle.std.proofs.lemmas.Option.{same_Some, none-some}
use Rattle.lh_types.specs.Types.{TypeTree, void_type}
use Rattle.lh_unit_names.specs.declared.name.UnitName.{UnitName}
use Rattle.lh_unit.specs.Arena.{Arena, contents, item_text_at, unit_text_at}
use Rattle.lh_unit.specs.Naming.{kind_text}
use Rattle.lh_unit.specs.declared.inst.UnitId.{UnitId}
use Rattle.lh_unit.specs.declared.inst.Item.{Item}
use Rattle.lh_unit.specs.declared.inst.Item.TheVariants as item
use Rattle.lh_unit.specs.declared.inst.UnitKind.{UnitKind}
use Rattle.lh_unit.specs.declared.inst.UnitKind.TheVariants as kind
use Rattle.lh_unit.specs.Canon.{canon, argument, arguments, side_of, ports, header}
use Rattle.lh_unit.specs.CanonTypes.{type_pieces}
use Rattle.lh_unit_names.specs.UnitNames.{same_unit_name, is_assert}
use Rattle.lh_unit.specs.Contents.{EdgeText, InstText, call_text, phi_text, ret_text, LineText, BlockText, ArgText, UnitText, ItemText, unit_text, declare_text, args_define, lines_define}
use Rattle.lh_unit_names.specs.Names.{same_name, IsName}
use Rattle.lh_unit.specs.Hierarchy.{lines_of}
use Rattle.lh_unit.specs.Lexemes.{word, local}
use Rattle.lh_unit.specs.Marks.{open_paren, close_paren, colon}
use Rattle.lh_unit.specs.Named.{block_of, function_named, is_function, label_or}
use Rattle.lh_unit.specs.Pieces.{Piece, token, space, IsLexeme, IsSpaced, behind_commas, lexemes_in}
use Rattle.lh_unit.specs.Reads.{args_repeat}
use Rattle.lh_unit.specs.Spells.{SpellsLabel, label_item, inst_item, header_item}
use Rattle.lh_unit.specs.SpellsInst.{is_void, gives_value}
use Rattle.lh_unit.specs.WellFormed.{in_entity, is_phi, labels_named, IsWellFormed}
use Rattle.lh_unit.specs.Within.{Each}
use Rattle.lh_unit.specs.Activation.{functions}
use Rattle.lh_unit_names.proofs.NameLists.{same_name-is, same_name-refl}
use Rattle.lh_unit.proofs.Within.{Each-more}
use Rattle.lh_unit.proofs.ContentsLemmas.{Each-by_blocks}
use Rattle.lh_verify_laws.specs.Calls.{NamedIsRight}
use Rattle.lh_verify_laws.specs.Operands.{RowIs, ReturnIs}
use Rattle.lh_verify_laws.specs.Shape.{EndsOnce, EachUnit}
use Rattle.lh_verify_laws.proofs.ShapeLaw.{blocks_end_once}
use Rattle.lh_text_laws.specs.ItemLines.{item_line}
use Rattle.lh_text_laws.specs.Printable.{HasLine, HasInstLine, HasLabelLine, BlockIsLabelled, HasShape, result_repeats, results_repeat}
use Rattle.lh_trace_laws.proofs.Labelled.{read-labelled}
use Rattle.lh_eval.specs.Sound.{InstIsSound}
use Rattle.lh_eval_laws.proofs.SoundLines.{rows-of-items, items-printable}
use Rattle.lh_flat.specs.Marks.{IsPlain}
use Rattle.lh_flat.proofs.Apart.{plain-name, name-there}
use Rattle.lh_flat_laws.specs.Tidy.{ResultIsNew, EdgesArePlain, AlwaysGives, CallGives, LineTidy, Either, NoPhis, PhisFirst, BlockTidy, ArgsOnce, EntryHasNoPhi, UnitTidy, FunctionsTidy, FunctionsAreTidy, ProcessesAreTidy}
use Rattle.lh_flat_laws.proofs.LastPieces.{block-each}
use Rattle.lh_flat_laws.proofs.Facts.{UnitFacts, fact-at, phis-good, facts-of-items, label-found}
use Rattle.lh_flat_laws.proofs.CopyPaths.{ModuleFacts, function-facts, process-facts}
use Rattle.lh_flat_laws.proofs.OpenedCalls.{function-is}
use Rattle.lh_flat_laws.specs.Members.{Among}
use Rattle.lh_flat_laws.proofs.Members.{among-left, among-middle}

-- ---- names that are written have no marks

-- the tokens of a line can be written
abbrev Lexed : List Piece → Type 0
Lexed [] = Unit {0}
Lexed (token t ∷ ps) = IsLexeme t × Lexed ps
Lexed (space ∷ ps) = Lexed ps

spaced-lexed : (ps : List Piece) → IsSpaced ps → Lexed ps
spaced-lexed [] h = tt
spaced-lexed (token t ∷ ps) h = (h.0, spaced-lexed ps h.2)
spaced-lexed (space ∷ ps) h = spaced-lexed ps h

lexed-right : (xs ys : List Piece) → Lexed (xs ++ ys) → Lexed ys
lexed-right [] ys h = h
lexed-right (token t ∷ xs) ys h = lexed-right xs ys h.1
lexed-right (space ∷ xs) ys h = lexed-right xs ys h

lexed-left : (xs ys : List Piece) → Lexed (xs ++ ys) → Lexed xs
lexed-left [] ys h = tt
lexed-left (token t ∷ xs) ys h = (h.0, lexed-left xs ys h.1)
lexed-left (space ∷ xs) ys h = lexed-left xs ys h

abbrev ArgPlain : ArgText → Type 0
ArgPlain a = IsPlain a.name

argument-plain : (a : ArgText) → Lexed (argument a) → ArgPlain a
argument-plain a h = plain-name a.name (lexed-right (type_pieces a.ty) (space ∷ token (local a.name) ∷ []) h).0

behind-plain : (args : List ArgText) → Lexed (behind_commas (map argument args)) → Each ArgPlain args
behind-plain [] h = tt
behind-plain (a ∷ args) h = (argument-plain a (lexed-left (argument a) (behind_commas (map argument args)) h.1), behind-plain args (lexed-right (argument a) (behind_commas (map argument args)) h.1))

arguments-plain : (args : List ArgText) → Lexed (arguments args) → Each ArgPlain args
arguments-plain [] h = tt
arguments-plain (a ∷ args) h = (argument-plain a (lexed-left (argument a) (behind_commas (map argument args)) h), behind-plain args (lexed-right (argument a) (behind_commas (map argument args)) h))

both-sides : (args : List ArgText) → Each ArgPlain (side_of false args) → Each ArgPlain (side_of true args) → Each ArgPlain args
both-sides [] h k = tt
both-sides (a ∷ args) h k = by a.output h k (both-sides args)
  where
    by : (b : Bool) → Each ArgPlain (if not b then a ∷ side_of false args else side_of false args) → Each ArgPlain (if b then a ∷ side_of true args else side_of true args)
        → (Each ArgPlain (side_of false args) → Each ArgPlain (side_of true args) → Each ArgPlain args)
        → Each ArgPlain (a ∷ args)
    by true x y go = (y.0, go x y.1)
    by false x y go = (x.0, go x.1 y)

parens : (ps more : List Piece) → Lexed ((token open_paren ∷ ps ++ token close_paren ∷ []) ++ more) → Lexed ps × Lexed more
parens ps more h =
    let inside = lexed-left (token open_paren ∷ ps ++ token close_paren ∷ []) more h in
    (lexed-left ps (token close_paren ∷ []) inside.1, lexed-right (token open_paren ∷ ps ++ token close_paren ∷ []) more h)

ports-plain : (args : List ArgText) → Lexed (ports args) → Each ArgPlain args
ports-plain args h =
    let first = parens (arguments (side_of false args)) _ h in
    let second = parens (arguments (side_of true args)) _ first.1.1 in
    both-sides args (arguments-plain (side_of false args) first.0) (arguments-plain (side_of true args) second.0)

header-plain : (k : UnitKind) (n : UnitName) (args : List ArgText) (r : Option TypeTree) → Lexed (header k n args r) → Each ArgPlain args
header-plain kind.Func n args r h = arguments-plain args (parens (arguments args) _ h.1.1).0
header-plain kind.Proc n args r h = ports-plain args h.1.1
header-plain kind.Entity n args r h = ports-plain args h.1.1

label-named : (n : List ℕ) → HasLine (label_item n) → IsName n
label-named n h = by h.1
  where
    by : SpellsLabel n (lexemes_in (item_line (label_item n))) → IsName n
    by (inl l) = (h.0.0.0, l.1, h.0.0.1)
    by (inr e) = absurd (differ e)
      where
        differ : word n ∷ colon ∷ [] ≡ local n ∷ colon ∷ [] → ⊥
        differ q = cc

pub result-named : (r : List ℕ) (i : InstText) → HasInstLine (record { result = Some r; inst = i }) → IsName r
result-named r i h = (spaced-lexed (item_line (inst_item (record { result = Some r; inst = i }))) h.0).0

-- ---- no name twice

-- a name that was seen stands no more
pub seen-once : (n : List ℕ) (seen xs : List ArgText) → args_repeat seen xs ≡ false → args_define n seen ≡ true → args_define n xs ≡ false
seen-once n seen [] h d = refl
seen-once n seen (a ∷ xs) h d = by (same_name a.name n) refl (seen-once n (seen ++ a ∷ []) xs parts.1 (more seen d))
  where
    parts : (args_define a.name seen ≡ false) × (args_repeat (seen ++ a ∷ []) xs ≡ false)
    parts = or_parts (args_define a.name seen) (args_repeat (seen ++ a ∷ []) xs) h

    more : (ys : List ArgText) → args_define n ys ≡ true → args_define n (ys ++ a ∷ []) ≡ true
    more [] e = absurd cc
    more (y ∷ ys) e = at (same_name y.name n) e (more ys)
      where
        at : (b : Bool) → (b || args_define n ys) ≡ true → (args_define n ys ≡ true → args_define n (ys ++ a ∷ []) ≡ true) → (b || args_define n (ys ++ a ∷ [])) ≡ true
        at true q go = refl
        at false q go = go q

    by : (b : Bool) → same_name a.name n ≡ b → args_define n xs ≡ false → (b || args_define n xs) ≡ false
    by true e q =
        let s : args_define a.name seen ≡ true = ap (λ m. args_define m seen) (same_name-is a.name n e) ∙ d in
        let t : args_define a.name seen ≡ false = parts.0 in absurd cc
    by false e q = q

args-once : (seen xs : List ArgText) → args_repeat seen xs ≡ false → Each ArgPlain xs → ArgsOnce xs
args-once seen [] h p = tt
args-once seen (a ∷ xs) h p =
    let r = or_parts (args_define a.name seen) (args_repeat (seen ++ a ∷ []) xs) h in
    (p.0, seen-once a.name (seen ++ a ∷ []) xs r.1 (last seen), args-once (seen ++ a ∷ []) xs r.1 p.1)
  where
    last : (ys : List ArgText) → args_define a.name (ys ++ a ∷ []) ≡ true
    last [] = ap (λ b. b || false) (same_name-refl a.name)
    last (y ∷ ys) = by (same_name y.name a.name) (last ys)
      where
        by : (b : Bool) → args_define a.name (ys ++ a ∷ []) ≡ true → (b || args_define a.name (ys ++ a ∷ [])) ≡ true
        by true q = refl
        by false q = q

-- a result is no argument
abbrev IsNoArg : List ArgText → LineText → Type 0
IsNoArg args l = (r : List ℕ) → l.result ≡ Some r → args_define r args ≡ false

results-new : (args : List ArgText) (seen ls : List LineText) → results_repeat args seen ls ≡ false → Each (IsNoArg args) ls
results-new args seen [] h = tt
results-new args seen (l ∷ ls) h =
    let p = or_parts (result_repeats args seen l.result) (results_repeat args (seen ++ l ∷ []) ls) h in
    (λ r e. (or_parts (args_define r args) (lines_define r seen) (ap (result_repeats args seen) (sym e) ∙ p.0)).0, results-new args (seen ++ l ∷ []) ls p.1)

-- ---- a function that gives a value does so at each `ret`

always-gives : (items : List ItemText) (d : UnitText) (t : TypeTree) → UnitFacts items d → d.result ≡ Some t → (t ≡ void_type → ⊥) → AlwaysGives d
always-gives items d t f e n =
    Each-by_blocks (λ (l : LineText). l.inst ≡ ret_text None → ⊥) d.blocks
    (Each-more (InstIsSound d) (λ (l : LineText). l.inst ≡ ret_text None → ⊥) (lines_of d.blocks) (λ l s q. n (subst (λ (o : Option TypeTree). ReturnIs d o None) e (subst (RowIs d) q s.row))) f.sound)

function-result : (k : UnitKind) (n : UnitName) (args : List ArgText) (r : Option TypeTree) → is_function k ≡ true → HasLine (header_item k n args r) → (t : TypeTree) × (r ≡ Some t)
function-result kind.Func n args (Some t) e h = (t, refl)
function-result kind.Func n args None e h = absurd h.1
function-result kind.Proc n args r e h = absurd cc
function-result kind.Entity n args r e h = absurd cc

no_void : (t : TypeTree) → not (is_void t) ≡ true → t ≡ void_type → ⊥
no_void t e q = let r : not (is_void void_type) ≡ true = ap (λ x. not (is_void x)) (sym q) ∙ e in absurd cc

spelled-value : (r : List ℕ) (i : InstText) → HasInstLine (record { result = Some r; inst = i }) → gives_value i ≡ true
spelled-value r i h = h.1.2

module _ (items : List ItemText) (all : (n : UnitName) (d : UnitText) → function_named n (functions items) ≡ Some d → UnitFacts items d) (v : UnitText) (f : UnitFacts items v)
    (ends : Each (λ (b : BlockText). EndsOnce b.lines) v.blocks) where
  -- the function of a call with a named result
  call-gives : (i : InstText) (r : Option (List ℕ)) → NamedIsRight items v i → HasInstLine (record { result = r; inst = i }) → CallGives (functions items) i r
  call-gives (call_text g ty args) (Some n) (inl (a, x)) h = λ b d e. absurd (not-both (is_assert g) a b)
    where
      not-both : (c : Bool) → c ≡ true → c ≡ false → ⊥
      not-both true p q = cc
      not-both false p q = cc
  call-gives (call_text g ty args) (Some n) (inr (a, x)) h = λ b d e. gives d e
    where
      gives : (d : UnitText) → function_named g (functions items) ≡ Some d → AlwaysGives d
      gives d e =
          let q : x.of ≡ d = same_Some x.of d (sym (function-is items g x.of x.named x.function) ∙ e) in
          let facts : UnitFacts items d = all g d e in
          let fun : is_function d.kind ≡ true = ap (λ (z : UnitText). is_function z.kind) (sym q) ∙ x.function in
          let t = function-result d.kind d.name d.args d.result fun facts.printable.headed in
          always-gives items d t.0 facts t.1 (λ z. no_void ty (spelled-value n (call_text g ty args) h) (x.gives t.0 (ap (λ (y : UnitText). y.result) q ∙ t.1) ∙ z))
  call-gives (call_text g ty args) None x h = tt
  call-gives _ r x h = tt

  -- labels
  abbrev LabelRight : BlockText → Type 0
  LabelRight b = IsName (label_or b.label)

  label-right : (b : BlockText) → BlockIsLabelled b → LabelRight b
  label-right b h = by b.label h.0
    where
      by : (o : Option (List ℕ)) → HasLabelLine o → IsName (label_or o)
      by None x = absurd x
      by (Some n) x = label-named n x

  shaped : (k : UnitKind) (bs : List BlockText) → in_entity k ≡ false → HasShape k bs → Each BlockIsLabelled bs
  shaped kind.Func [] e h = absurd h
  shaped kind.Func (b ∷ bs) e h = h
  shaped kind.Proc [] e h = absurd h
  shaped kind.Proc (b ∷ bs) e h = h
  shaped kind.Entity bs e h = absurd cc

  labels : Each LabelRight v.blocks
  labels = Each-more BlockIsLabelled LabelRight v.blocks label-right (shaped v.kind v.blocks f.runs f.printable.shaped)

  found-label : (n : List ℕ) (b : BlockText) → block_of n v.blocks ≡ Some b → IsName n
  found-label n b e = subst IsName (label-found n v.blocks b e) (block-each LabelRight n v.blocks b e labels)

  edges-plain : (i : InstText) → Each (λ n. (b : BlockText) × (block_of n v.blocks ≡ Some b)) (labels_named i) → EdgesArePlain i
  edges-plain (phi_text ty edges) h = by edges h
    where
      by : (es : List EdgeText) → Each (λ n. (b : BlockText) × (block_of n v.blocks ≡ Some b)) (map (λ (e : EdgeText). e.block) es) → Each (λ (e : EdgeText). IsPlain e.block) es
      by [] x = tt
      by (e ∷ es) x = (plain-name e.block (found-label e.block x.0.0 x.0.1), by es x.1)
  edges-plain _ h = tt

  result-new : (r : Option (List ℕ)) (i : InstText) → HasInstLine (record { result = r; inst = i }) → IsNoArg v.args (record { result = r; inst = i }) → ResultIsNew v r
  result-new None i h n = tt
  result-new (Some r) i h n = (plain-name r (result-named r i h), n r refl)

  -- a block
  module _ (b : BlockText) (a : Among b v.blocks) where
    line-tidy : (before rest : List LineText) (l : LineText) → b.lines ≡ before ++ l ∷ rest → HasInstLine l → IsNoArg v.args l → LineTidy (functions items) v l
    line-tidy before rest l e h n =
        let z = fact-at items v f b before rest l a e in
        record { result = result-new l.result l.inst h n; edges = edges-plain l.inst z.2.leads; gives = call-gives l.inst l.result z.2.calls h }

    lines-tidy : (before rest : List LineText) → b.lines ≡ before ++ rest → Each HasInstLine rest → Each (IsNoArg v.args) rest → Each (LineTidy (functions items) v) rest
    lines-tidy before [] e h n = tt
    lines-tidy before (l ∷ rest) e h n = (line-tidy before rest l e h.0 n.0, lines-tidy (before ++ l ∷ []) rest (e ∙ sym (append_assoc before (l ∷ []) rest)) h.1 n.1)

    -- where a line is no `phi`, none behind it is one
    phi-before : (x : LineText) (before : List LineText) (l : LineText) (rest : List LineText) → b.lines ≡ before ++ l ∷ rest → Among x before → is_phi x.inst ≡ false → is_phi l.inst ≡ false
    phi-before x before l rest e m q = by (is_phi l.inst) refl
      where
        by : (t : Bool) → is_phi l.inst ≡ t → t ≡ false
        by false z = refl
        by true z = let r : is_phi x.inst ≡ true = (phis-good items v f).first b before rest l a e z x m in absurd cc

    none-behind : (x : LineText) (before rest : List LineText) → b.lines ≡ before ++ rest → Among x before → is_phi x.inst ≡ false → NoPhis rest
    none-behind x before [] e m q = tt
    none-behind x before (l ∷ rest) e m q = (phi-before x before l rest e m q, none-behind x (before ++ l ∷ []) rest (e ∙ sym (append_assoc before (l ∷ []) rest)) (among-left x before (l ∷ []) m) q)

    phis-first : (before rest : List LineText) → b.lines ≡ before ++ rest → PhisFirst rest
    phis-first before [] e = tt
    phis-first before (l ∷ rest) e = by (is_phi l.inst) refl (phis-first (before ++ l ∷ []) rest next)
      where
        next : b.lines ≡ (before ++ l ∷ []) ++ rest
        next = e ∙ sym (append_assoc before (l ∷ []) rest)

        by : (t : Bool) → is_phi l.inst ≡ t → PhisFirst rest → Either t (PhisFirst rest) (NoPhis rest)
        by true q go = go
        by false q go = none-behind l (before ++ l ∷ []) rest next (among-middle before [] l) q

    block-tidy : LabelRight b → EndsOnce b.lines → Each HasInstLine b.lines → Each (IsNoArg v.args) b.lines → BlockTidy (functions items) v b
    block-tidy n e h k = record {
      labelled = name-there (label_or b.label) n;
      plain = plain-name (label_or b.label) n;
      ends = e;
      phis = phis-first [] b.lines refl;
      lines = lines-tidy [] b.lines refl h
          k;
    }

  blocks-tidy : (bs : List BlockText) → ((b : BlockText) → Among b bs → Among b v.blocks) → Each LabelRight bs → Each (λ (b : BlockText). EndsOnce b.lines) bs
      → Each (λ (b : BlockText). Each HasInstLine b.lines) bs → Each (λ (b : BlockText). Each (IsNoArg v.args) b.lines) bs
      → Each (BlockTidy (functions items) v) bs
  blocks-tidy [] m n e h k = tt
  blocks-tidy (b ∷ bs) m n e h k = (block-tidy b (m b (inl refl)) n.0 e.0 h.0 k.0, blocks-tidy bs (λ x y. m x (inr y)) n.1 e.1 h.1 k.1)

  -- the entry
  entry-tidy : (bs : List BlockText) → v.blocks ≡ bs → EntryHasNoPhi bs
  entry-tidy [] q = tt
  entry-tidy (b ∷ more) q = none [] b.lines refl
    where
      none : (before rest : List LineText) → b.lines ≡ before ++ rest → NoPhis rest
      none before [] e = tt
      none before (l ∷ rest) e = ((phis-good items v f).entry b more q before rest l e, none (before ++ l ∷ []) rest (e ∙ sym (append_assoc before (l ∷ []) rest)))

  pub unit-tidy : UnitTidy (functions items) v
  unit-tidy = record {
    args = args-once [] v.args f.printable.new_args (header-plain v.kind v.name v.args v.result (spaced-lexed (header v.kind v.name v.args v.result) f.printable.headed.0));
    blocks = blocks-tidy v.blocks (λ b m. m) labels ends (Each-by_blocks HasInstLine v.blocks f.printable.written)
        (Each-by_blocks (IsNoArg v.args) v.blocks (results-new v.args [] (lines_of v.blocks) f.printable.new_results));
    entry = entry-tidy v.blocks refl;
  }

-- ---- of a module

ends-of : (items : List ItemText) → EachUnit (λ u. in_entity u.kind ≡ false → Each (λ (b : BlockText). EndsOnce b.lines) u.blocks) items → (n : UnitName) (d : UnitText)
    → function_named n (functions items) ≡ Some d → in_entity d.kind ≡ false → Each (λ (b : BlockText). EndsOnce b.lines) d.blocks
ends-of [] h n d e k = absurd (none-some d e)
ends-of (declare_text x ∷ items) h n d e k = ends-of items h n d e k
ends-of (unit_text u ∷ items) h n d e k = by (is_function u.kind) e (λ q. ends-of items h.1 n d q k)
  where
    by : (b : Bool) → function_named n (if b then u ∷ functions items else functions items) ≡ Some d
        → (function_named n (functions items) ≡ Some d → Each (λ (x : BlockText). EndsOnce x.lines) d.blocks) → Each (λ (x : BlockText). EndsOnce x.lines) d.blocks
    by false q go = go q
    by true q go = at (same_unit_name u.name n) q
      where
        at : (c : Bool) → (if c then Some u else function_named n (functions items)) ≡ Some d → Each (λ (x : BlockText). EndsOnce x.lines) d.blocks
        at true r = let m : u ≡ d = same_Some u d r in subst (λ (x : UnitText). in_entity x.kind ≡ false → Each (λ (y : BlockText). EndsOnce y.lines) x.blocks) m h.0 k
        at false r = go r

ends-among : (items : List ItemText) → EachUnit (λ u. in_entity u.kind ≡ false → Each (λ (b : BlockText). EndsOnce b.lines) u.blocks) items → (u : UnitText) → Among (unit_text u) items
    → in_entity u.kind ≡ false → Each (λ (b : BlockText). EndsOnce b.lines) u.blocks
ends-among [] h u a k = elim a [ ]
ends-among (unit_text v ∷ items) h u (inl e) k = let m : v ≡ u = cc in subst (λ (x : UnitText). in_entity x.kind ≡ false → Each (λ (y : BlockText). EndsOnce y.lines) x.blocks) m h.0 k
ends-among (unit_text v ∷ items) h u (inr a) k = ends-among items h.1 u a k
ends-among (declare_text d ∷ items) h u (inl e) k = absurd cc
ends-among (declare_text d ∷ items) h u (inr a) k = ends-among items h u a k

module _ (items : List ItemText) (g : IsWellFormed items) where
  pub facts : ModuleFacts items items
  facts = record { places = facts-of-items items g.1; printable = items-printable items g.0; labelled = read-labelled (canon items) items g.0; rows = rows-of-items items g.1 }

  pub functions-tidy : FunctionsTidy (functions items)
  functions-tidy n d e =
      let f = function-facts items items facts n d e in
      unit-tidy items (function-facts items items facts) d f (ends-of items (blocks_end_once items g.1) n d e f.runs)

  pub process-tidy : (u : UnitText) → Among (unit_text u) items → u.kind ≡ kind.Proc → UnitTidy (functions items) u
  process-tidy u a k =
      let f = process-facts items items facts u a k in
      unit-tidy items (function-facts items items facts) u f (ends-among items (blocks_end_once items g.1) u a f.runs)

-- by ids
pub among-mapped : (a : Arena) (xs : List Item) (i : ℕ) (u : UnitId) → slice_get xs i ≡ Some (item.Unit u) → Among (unit_text (unit_text_at a u.0)) (map (item_text_at a) xs)
among-mapped a [] i u e = absurd (none-some (item.Unit u) e)
among-mapped a (x ∷ xs) zero u e = inl (ap (item_text_at a) (same_Some x (item.Unit u) e))
among-mapped a (x ∷ xs) (suc i) u e = inr (among-mapped a xs i u e)

pub processes_are_tidy : ProcessesAreTidy
processes_are_tidy a u o g l k =
    let v : UnitId = record { 0 = u } in
    let i = o.items_defined v l (subst (λ (x : Option UnitKind). IsSome x) (sym k) refl) in
    process-tidy (contents a) g (unit_text_at a u) (among-mapped a a.items i.0 v i.1) (ap kind_text k)

pub functions_are_tidy : FunctionsAreTidy
functions_are_tidy = functions-tidy
