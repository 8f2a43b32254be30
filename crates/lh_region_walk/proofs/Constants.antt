-- Where a region starts at the head, the terms that are known there are the constants of an entry that is left.
use Rattle.std.proofs.Common.{◌≡◌, ℕ, zero, suc, ◌+◌, ◌<◌, Bool, true, false, nat_eq, if◌then◌else◌, List, [], ◌∷◌, length, map, Option, Some, None, slice_get, refl, ap, sym, ◌∙◌, subst}
use Rattle.std.specs.Option.{is_some, option_and_then, option_map, option_map_or}
use Rattle.std.proofs.lemmas.Option.{same_Some, none-some}
use Rattle.lh_types.specs.Types.{TypeTree}
use Rattle.lh_unit.specs.ById.{maybe_id}
use Rattle.lh_unit.specs.Contents.{ArgText, LineText}
use Rattle.lh_unit_names.specs.Names.{same_name}
use Rattle.lh_unit.specs.Naming.{Naming, maybe_text, inst_text}
use Rattle.lh_unit.specs.Typing.{carried, or_else}
use Rattle.lh_unit.specs.Within.{Each}
use Rattle.lh_unit.specs.declared.inst.ValueId.{ValueId}
use Rattle.lh_unit.specs.declared.inst.Inst.{Inst}
use Rattle.lh_unit.specs.declared.inst.Inst.TheVariants as inst
use Rattle.lh_unit.proofs.Lists.{Same, same, other, same_or, nat_eq-refl, nat_eq-other, nat_eq-is}
use Rattle.lh_unit_names.proofs.NameLists.{same_name-is, same_name-refl}
use Rattle.lh_flat.specs.declared.flat.Merge.{Merge}
use Rattle.lh_flat.specs.declared.flat.FlatInst.{FlatInst}
use Rattle.lh_flat.specs.declared.flat.FlatBlock.{FlatBlock}
use Rattle.lh_flat.specs.declared.flat.Flat.{Flat}
use Rattle.lh_flat.specs.Below.{ValuesBelow, IdsBelow, InstBelow, BlockBelow}
use Rattle.lh_flat.specs.Flat.{with_merge}
use Rattle.lh_flat.specs.Reads.{merge_text, flat_line_text, flat_blocks_text, flat_text}
use Rattle.lh_flat_parts.specs.Steps.{is_result}
use Rattle.lh_term.specs.Tree.{Tree, constant}
use Rattle.lh_term.specs.Arena.{StandsForTree}
use Rattle.lh_term.specs.declared.term.TermId.{TermId}
use Rattle.lh_term.specs.declared.term.TermNode.{TermNode}
use Rattle.lh_region_joins.specs.Joins.{AreConditions}
use Rattle.lh_region_def.specs.Known.{known_value, known_part, Knowledge, nothing_known, with_known, with_given, with_arguments}
use Rattle.lh_term.specs.Parts.{whole_argument}
use Rattle.lh_region_def.specs.Regions.{with_constant, with_constants, lines_at, head_of, known_first}
use Rattle.lh_region_places.specs.declared.state.PlaceState.{PlaceState}
use Rattle.lh_region_places.specs.Asked.{kept_by, kept_at, keeps, source_of, edges_at, IsBelow, Tells, Joins, IsJoin}
use Rattle.lh_region.specs.Begins.{with_place}
use Rattle.lh_region.specs.Forms.{Names}
use Rattle.lh_region.specs.Starts.{constant_in, constant_as, constant_given, lines_left, StandsMaybe, KnowsConstants}
use Rattle.lh_region.specs.Walking.{as_term, term_known, Story}
use Rattle.lh_region.proofs.Begun.{told-old, told-new, told-within, told-some}
use Rattle.lh_region.proofs.EntryConstants.{else-else}

-- ---- names

-- names of values are one where their numbers are
value-same : (f : Naming) (t : Flat) → Names t f → (v w : ℕ) → v < t.values → w < t.values → same_name (f.value_name v) (f.value_name w) ≡ nat_eq v w
value-same f t n v w l m = by (same_or v w)
  where
    by : Same v w → same_name (f.value_name v) (f.value_name w) ≡ nat_eq v w
    by (same e) = subst (λ (i : ℕ). same_name (f.value_name v) (f.value_name i) ≡ nat_eq v i) e (same_name-refl (f.value_name v) ∙ sym (nat_eq-refl v))
    by (other x) = apart (same_name (f.value_name v) (f.value_name w)) refl ∙ sym (nat_eq-other v w x)
      where
        apart : (b : Bool) → same_name (f.value_name v) (f.value_name w) ≡ b → b ≡ false
        apart false e = refl
        apart true e = absurd (x (n.values v w l m (same_name-is (f.value_name v) (f.value_name w) e)))

-- ---- arguments are no terms

given-part : (k : Knowledge) (n m : List ℕ) (i : ℕ) (o : Option TypeTree) → term_known k m ≡ None → term_known (with_given k (Some n) (option_map (λ t. known_part (whole_argument i t)) o)) m ≡ None
given-part k n m i None h = h
given-part k n m i (Some t) h = by (same_name n m)
  where
    by : (b : Bool) → option_and_then as_term (if b then Some (known_part (whole_argument i t)) else k m) ≡ None
    by true = refl
    by false = h

no-arguments : (k : Knowledge) (i : ℕ) (xs : List ArgText) → ((m : List ℕ) → term_known k m ≡ None) → (m : List ℕ) → term_known (with_arguments k i xs) m ≡ None
no-arguments k i [] h m = h m
no-arguments k i (a ∷ xs) h m = no-arguments (with_given k (Some a.name) (option_map (λ t. known_part (whole_argument i t)) (carried a.ty))) (i + 1) xs
    (λ n. given-part k a.name n i (carried a.ty) (h n)) m

-- ---- constants

if-none : (b : Bool) (x : Option Tree) → x ≡ or_else (if b then None else None) x
if-none true x = refl
if-none false x = refl

module _ (f : Naming) (t : Flat) (names : Names t f) (v : ℕ) (l : v < t.values) where
  abbrev name : List ℕ
  name = f.value_name v

  given-one : (k : Knowledge) (r : ℕ) (x : Tree) → r < t.values → term_known (with_known k (f.value_name r) (known_value x)) name ≡ or_else (if nat_eq r v then Some x else None) (term_known k name)
  given-one k r x m = ap (λ (b : Bool). option_and_then as_term (if b then Some (known_value x) else k name)) (value-same f t names r v m l) ∙ by (nat_eq r v)
    where
      by : (b : Bool) → option_and_then as_term (if b then Some (known_value x) else k name) ≡ or_else (if b then Some x else None) (option_and_then as_term (k name))
      by true = refl
      by false = refl

  constant-step : (k : Knowledge) (o : Option ValueId) (i : Inst) → ValuesBelow t.values (maybe_id o) → term_known (with_constant k (inst_text f i) (maybe_text f o)) name
      ≡ or_else (if is_result v o then constant_in i else None) (term_known k name)
  constant-step k None (inst.Const x) h = refl
  constant-step k (Some r) (inst.Const x) h = given-one k r.0 (constant x) h.0
  constant-step k o (inst.Ret None) h = if-none (is_result v o) (term_known k name)
  constant-step k o (inst.Ret (Some y)) h = if-none (is_result v o) (term_known k name)
  constant-step k o _ h = if-none (is_result v o) (term_known k name)

  constants-given : (n : ℕ) (k : Knowledge) (ls : List FlatInst) → Each (InstBelow t.values n) ls
      → term_known (with_constants k (map (flat_line_text f) ls)) name ≡ or_else (constant_given ls v) (term_known k name)
  constants-given n k [] h = refl
  constants-given n k (x ∷ ls) h =
      constants-given n (with_constant k (inst_text f x.inst) (maybe_text f x.result)) ls h.1
      ∙ ap (or_else (constant_given ls v)) (constant-step k x.result x.inst h.0.result)
      ∙ sym (else-else (constant_given ls v) (constant_as v x) (term_known k name))

  -- a merge is no constant
  behind-merge : (k : Knowledge) (m : Option Merge) (ls : List LineText) → with_constants k (with_merge (option_map (merge_text f) m) ls) ≡ with_constants k ls
  behind-merge k None ls = refl
  behind-merge k (Some m) ls = refl

  abbrev arguments : Knowledge
  arguments = with_arguments nothing_known 0 (flat_text f t).args

  else-nothing : (o : Option Tree) → or_else o None ≡ o
  else-nothing None = refl
  else-nothing (Some x) = refl

  constants-left : (bs : List FlatBlock) (b : Bool) → Each (BlockBelow t.values (length t.blocks)) bs
      → term_known (with_constants arguments (if b then [] else lines_at (flat_blocks_text f 0 bs) 0)) name
      ≡ constant_given (if b then [] else option_map_or (λ (x : FlatBlock). x.insts) (slice_get bs 0) []) v
  constants-left bs true h = no-arguments nothing_known 0 (flat_text f t).args (λ m. refl) name
  constants-left [] false h = no-arguments nothing_known 0 (flat_text f t).args (λ m. refl) name
  constants-left (x ∷ bs) false h =
      ap (λ (k : Knowledge). term_known k name) (behind-merge arguments x.merge (map (flat_line_text f) x.insts))
      ∙ constants-given (length t.blocks) arguments x.insts h.0.insts
      ∙ ap (or_else (constant_given x.insts v)) (no-arguments nothing_known 0 (flat_text f t).args (λ m. refl) name)
      ∙ else-nothing (constant_given x.insts v)

  abbrev no_lines : List FlatInst
  no_lines = []

  left-is : (bs : List FlatBlock) (head : ℕ) → lines_left bs head ≡ (if nat_eq head 0 then [] else option_map_or (λ (x : FlatBlock). x.insts) (slice_get bs 0) [])
  left-is [] head = by (nat_eq head 0)
    where
      by : (b : Bool) → no_lines ≡ (if b then no_lines else no_lines)
      by true = refl
      by false = refl
  left-is (x ∷ bs) head = refl

  pub first-constant : IdsBelow t → (head : ℕ) → head_of (flat_text f t).blocks ≡ head → term_known (known_first (flat_text f t)) name ≡ constant_given (lines_left t.blocks head) v
  first-constant below head e =
      ap (λ (h : ℕ). term_known (with_constants arguments (if nat_eq h 0 then [] else lines_at (flat_text f t).blocks 0)) name) e
      ∙ constants-left t.blocks (nat_eq head 0) below.blocks
      ∙ ap (λ (ls : List FlatInst). constant_given ls v) (sym (left-is t.blocks head))

-- ---- what has a constant is a value

as-within : (values v : ℕ) (o : Option ValueId) (c : Option Tree) (x : Tree) → ValuesBelow values (maybe_id o) → (if is_result v o then c else None) ≡ Some x → v < values
as-within values v None c x h e = absurd (none-some x e)
as-within values v (Some r) c x h e = by (nat_eq r.0 v) refl e
  where
    by : (b : Bool) → nat_eq r.0 v ≡ b → (if b then c else None) ≡ Some x → v < values
    by true q g = subst (λ (i : ℕ). i < values) (nat_eq-is r.0 v q) h.0
    by false q g = absurd (none-some x g)

given-within : (values n v : ℕ) (ls : List FlatInst) (x : Tree) → Each (InstBelow values n) ls → constant_given ls v ≡ Some x → v < values
given-within values n v [] x h e = absurd (none-some x e)
given-within values n v (l ∷ ls) x h e = by (λ y q. given-within values n v ls y h.1 q) (constant_given ls v) refl e
  where
    by : ((y : Tree) → constant_given ls v ≡ Some y → v < values) → (o : Option Tree) → constant_given ls v ≡ o → or_else o (constant_as v l) ≡ Some x → v < values
    by go (Some y) q g = go y q
    by go None q g = as-within values v l.result (constant_in l.inst) x h.0.result g

left-within : (values n v head : ℕ) (bs : List FlatBlock) (x : Tree) → Each (BlockBelow values n) bs → constant_given (lines_left bs head) v ≡ Some x → v < values
left-within values n v head [] x h e = absurd (none-some x e)
left-within values n v head (b ∷ bs) x h e = by (nat_eq head 0) e
  where
    by : (y : Bool) → constant_given (if y then [] else b.insts) v ≡ Some x → v < values
    by true g = absurd (none-some x g)
    by false g = given-within values n v b.insts x h.0.insts g

-- ---- the one place

-- no place so far
abbrev pub no_story : Naming → Flat → Story
no_story f t = record { naming = f; values = t.values; blocks = length t.blocks; places = 0; told = λ i v. None }

abbrev pub first_story : Naming → Flat → Story
first_story f t = with_place (no_story f t) (known_first (flat_text f t))

stands-some : (ns : List TermNode) (o : Option TermId) (c : Option Tree) (k : TermId) → o ≡ Some k → StandsMaybe ns o c → (x : Tree) × (c ≡ Some x) × StandsForTree ns k x
stands-some ns None c k e s = absurd (none-some k e)
stands-some ns (Some j) None k e s = absurd s
stands-some ns (Some j) (Some x) k e s = (x, refl, subst (λ (i : TermId). StandsForTree ns i x) (same_Some j k e) s)

kept-some : (ns : List TermNode) (o : Option TermId) (c : Option Tree) (x : Tree) → c ≡ Some x → StandsMaybe ns o c → is_some o ≡ true
kept-some ns None None x e s = absurd (none-some x e)
kept-some ns None (Some y) x e s = absurd s
kept-some ns (Some j) c x e s = refl

module _ (f : Naming) (t : Flat) (names : Names t f) (below : IdsBelow t) (head : ℕ) (is : head_of (flat_text f t).blocks ≡ head) (ns : List TermNode) (p : PlaceState) (edges : p.edges.items ≡ [])
    (selectors : p.selectors ≡ None) (known : KnowsConstants ns p (lines_left t.blocks head)) where
  abbrev ps : List PlaceState
  ps = p ∷ []

  abbrev given : ℕ → Option Tree
  given v = constant_given (lines_left t.blocks head) v

  abbrev told_first : ℕ → Option Tree
  told_first v = (first_story f t).told 0 v

  -- a constant is told
  told-constant : (v : ℕ) (x : Tree) → given v ≡ Some x → told_first v ≡ Some x
  told-constant v x e =
      let l = left-within t.values (length t.blocks) v head t.blocks x below.blocks e in
      told-new (no_story f t) (known_first (flat_text f t)) 0 v refl ∙ told-within (no_story f t) (known_first (flat_text f t)) v l ∙ first-constant f t names v l below head is ∙ e

  constant-told : (v : ℕ) (x : Tree) → told_first v ≡ Some x → given v ≡ Some x
  constant-told v x e =
      let r = told-some (no_story f t) (known_first (flat_text f t)) v x (sym (told-new (no_story f t) (known_first (flat_text f t)) 0 v refl) ∙ e) in
      sym (first-constant f t names v r.0 below head is) ∙ r.1

  no-sources : (i : ℕ) → edges_at ps i ≡ []
  no-sources zero = edges
  no-sources (suc i) = refl

  pub start-tells : Tells ns ps (first_story f t).told
  start-tells = record {
    earlier = λ i. subst (λ es. Each (IsBelow i) (map source_of es)) (sym (no-sources i)) tt;
    places = one-place;
    kept = all-kept;
    joins = none-joins;
  }
    where
      one-place : (i : ℕ) (q : PlaceState) → slice_get ps i ≡ Some q → IsJoin ns q
      one-place zero q e = subst (IsJoin ns) (same_Some p q e) (record { conds = subst (AreConditions ns) (sym edges) tt; selectors = λ ts k. absurd (none-some ts (sym selectors ∙ k)) })
      one-place (suc i) q e = absurd (none-some q e)

      all-kept : (i v : ℕ) (k : TermId) → kept_at ps v i ≡ Some k → (x : Tree) × ((first_story f t).told i v ≡ Some x) × StandsForTree ns k x
      all-kept zero v k e = let r = stands-some ns (kept_by v p) (given v) k e (known v) in (r.0, told-constant v r.0 r.1, r.2)
      all-kept (suc i) v k e = absurd (none-some k e)

      none-joins : (i v : ℕ) (x : Tree) → keeps ps v i ≡ false → (first_story f t).told i v ≡ Some x → Joins ns (first_story f t).told v (edges_at ps i) x
      none-joins zero v x n e = absurd (let z : false ≡ true = sym n ∙ kept-some ns (kept_by v p) (given v) x (constant-told v x e) (known v) in cc)
      none-joins (suc i) v x n e = absurd (none-some x (sym (told-old (no_story f t) (known_first (flat_text f t)) (suc i) v (λ q. let z : suc i ≡ 0 = q in cc)) ∙ e))

pub start-known : (f : Naming) (t : Flat) (v : ℕ) → v < t.values → (first_story f t).told 0 v ≡ term_known (known_first (flat_text f t)) (f.value_name v)
start-known f t v l = told-new (no_story f t) (known_first (flat_text f t)) 0 v refl ∙ told-within (no_story f t) (known_first (flat_text f t)) v l
