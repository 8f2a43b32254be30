-- The first region starts at the head: what is known there is typed and there, and it is held where a process is new.
use Rattle.std.proofs.Common.{◌≡◌, ◌⊎◌, inl, inr, ⊎_elim, ℕ, ◌+◌, suc, List, [], ◌∷◌, ◌++◌, map, length, Bool, true, false, ◌||◌, nat_eq, Option, Some, None, IsSome, refl, ap, sym, ◌∙◌, subst, arith}
use Rattle.std.specs.Bool.{if◌then◌else◌}
use Rattle.std.specs.Prelude.{slice_get}
use Rattle.std.specs.List.{list_any}
use Rattle.std.specs.Option.{option_map, option_map_or}
use Rattle.std.proofs.lemmas.Bool.{false≢true, or_parts}
use Rattle.std.proofs.lemmas.Bool.Decides.{nat_tests}
use Rattle.std.proofs.lemmas.Option.{same_Some, none-some}
use Rattle.lh_types.specs.Types.{TypeTree, signal_type, bit_count}
use Rattle.lh_types.specs.Values.{Datum}
use Rattle.lh_types.specs.Wish.{no_wish}
use Rattle.lh_types.specs.declared.part.Range.{Range}
use Rattle.lh_unit_names.specs.declared.name.UnitName.{UnitName}
use Rattle.lh_unit.specs.Contents.{InstText, const_text, br_text, LineText, BlockText, ArgText, UnitText, is_result_name, args_define, lines_define, blocks_define}
use Rattle.lh_unit_names.specs.Names.{same_name}
use Rattle.lh_unit.specs.Named.{block_of, label_or}
use Rattle.lh_unit.specs.Held.{Held, datum_held, part_held, Env, nothing_held, with_held, with_result, with_args}
use Rattle.lh_unit.specs.Places.{entry_of, leads_to, last_leads_to, has_edge, IsPath}
use Rattle.lh_unit.specs.Reads.{args_repeat}
use Rattle.lh_unit.specs.Typing.{value_type, is_value_type, result_type, carried, inst_giving}
use Rattle.lh_unit.specs.Within.{Each}
use Rattle.lh_unit.specs.Activation as machine
use Rattle.lh_unit.specs.Activation.{Scene, Point, run, went}
use Rattle.lh_unit_names.proofs.NameLists.{same_name-is, same_name-refl}
use Rattle.lh_verify_laws.specs.Defined.{IsThere}
use Rattle.lh_eval.specs.Sound.{IsWrittenRight}
use Rattle.lh_eval.proofs.GivesFit.{constants-fit}
use Rattle.lh_eval_laws.specs.Ranges.{RangesFit, arg_types}
use Rattle.lh_eval_laws.specs.Units.{IsPort}
use Rattle.lh_eval_laws.proofs.FindingStatic.{result-is}
use Rattle.lh_flat_laws.specs.Formed.{IsFormed}
use Rattle.lh_flat_laws.proofs.TidyUnits.{seen-once}
use Rattle.lh_flat.specs.Flat.{FlatBlockText, FlatText, with_merge, flat_unit, as_block}
use Rattle.lh_term.specs.Tree.{Tree, constant}
use Rattle.lh_term.specs.Make.{bit_of}
use Rattle.lh_term.specs.declared.part.Part.{Part}
use Rattle.lh_region_def.specs.Known.{Known, known_value, known_part, Knowledge, nothing_known, with_given, with_arguments, argument_part}
use Rattle.lh_term.specs.Parts.{whole_argument}
use Rattle.lh_region_def.specs.Places.{block_number}
use Rattle.lh_region_def.specs.Regions.{is_constant, with_constant, with_constants, begins_with_phi, lines_at, known_first, head_of, edge_into}
use Rattle.lh_region_def.specs.Typed.{known_type, Among, of_argument, IsTypedKnown, KnowsTyped, KnowsThere, JoinEdge}
use Rattle.lh_region_def.specs.Means.{range_in, lowest_bit, held_as, KnownIsHeld}
use Rattle.lh_region_def.specs.Right.{BlockAt}
use Rattle.lh_flat_laws.proofs.Members.{in-each, among-split}
use Rattle.lh_region_def.proofs.Sites.{LineGood, good-lines}
use Rattle.lh_region_def.proofs.MergedValues.{bit-condition}
use Rattle.lh_region_def.proofs.KnowledgeChanges.{constant-typed, given-shows-typed}
use Rattle.lh_region_def.proofs.Phis.{const-line}
use Rattle.lh_region_def.proofs.PartsNamed.{part-argument, one-part}
use Rattle.lh_region_def.proofs.Operations.{term-type, value-known, part-known}
use Rattle.lh_region_def.proofs.JoinedKnowledge.{known-by-value, known-by-part}
use Rattle.lh_region_def.proofs.Edges.{value-no-void}
use Rattle.lh_verify_laws.specs.Operands.{IsOf}
use Rattle.lh_verify_laws.proofs.There.{last-leads}
use Rattle.lh_eval_laws.proofs.NamedOnce.{giving-lines}
use Rattle.lh_region_def.proofs.Labels.{block-text, block-labelled}
use Rattle.lh_region_def.proofs.Heads.{define-last, ConstantOf, constants-case, constants-stay, constants-known, arguments-case, arguments-known, argument-of, head-behind, entry-plain, NoPhis, no-phis, no-phis-known}

pub const-same : (d d' : Datum) → const_text d ≡ const_text d' → d ≡ d'
const-same d d' e = cc

-- a number that a label has is that of a block
number-is : (n : List ℕ) (bs : List FlatBlockText) (k : ℕ) → block_number n bs ≡ Some k → (b : FlatBlockText) × (slice_get bs k ≡ Some b) × (b.label ≡ n)
number-is n [] k q = absurd (none-some k q)
number-is n (c ∷ bs) k q = by (same_name c.label n) refl q (number-is n bs)
  where
    by : (x : Bool) → same_name c.label n ≡ x → (if x then Some 0 else option_map (λ j. j + 1) (block_number n bs)) ≡ Some k
        → ((j : ℕ) → block_number n bs ≡ Some j → (b : FlatBlockText) × (slice_get bs j ≡ Some b) × (b.label ≡ n)) → (b : FlatBlockText) × (slice_get (c ∷ bs) k ≡ Some b) × (b.label ≡ n)
    by true e f go = (c, ap (slice_get (c ∷ bs)) (sym (same_Some 0 k f)), same_name-is c.label n e)
    by false e f go = at (block_number n bs) refl f
      where
        at : (o : Option ℕ) → block_number n bs ≡ o → option_map (λ j. j + 1) o ≡ Some k → (b : FlatBlockText) × (slice_get (c ∷ bs) k ≡ Some b) × (b.label ≡ n)
        at None g h = absurd (none-some k h)
        at (Some j) g h =
            let r = go j g in
            let s : j + 1 ≡ k = same_Some (j + 1) k h in
            let z : suc j ≡ k = omega (arith, s) in
            (r.0, ap (slice_get (c ∷ bs)) (sym z) ∙ r.1, r.2)

-- ---- arguments that are held

args-else : (e : Env) (xs : List ArgText) (hs : List Held) (n : List ℕ) → args_define n xs ≡ false → with_args e xs hs n ≡ e n
args-else e [] hs n d = refl
args-else e (a ∷ xs) [] n d = refl
args-else e (a ∷ xs) (h ∷ hs) n d = by (same_name a.name n) refl d (args-else (with_held e a.name h) xs hs n)
  where
    by : (b : Bool) → same_name a.name n ≡ b → (b || args_define n xs) ≡ false → (args_define n xs ≡ false → with_args (with_held e a.name h) xs hs n ≡ with_held e a.name h n)
        → with_args (with_held e a.name h) xs hs n ≡ e n
    by true q f go = absurd (false≢true (sym f))
    by false q f go = go f ∙ ap (λ b. if b then Some h else e n) q

range-is : (a b : Range) → a.lo ≡ b.lo → a.len ≡ b.len → a ≡ b
range-is a b p q = λ i. record { lo = p i; len = q i }

pub args-held : (seen : List ArgText) (e : Env) (i : ℕ) (xs : List ArgText) (rs all : List Range) (w : ℕ) (n : List ℕ) (p : Part) → args_repeat seen xs ≡ false → RangesFit w rs (arg_types xs)
    → Each IsPort xs → ((j : ℕ) → slice_get rs j ≡ slice_get all (i + j)) → argument_part n i xs ≡ Some p → with_args e xs (map part_held rs) n ≡ Some (part_held (range_in all p))
args-held seen e i [] rs all w n p new fit ports at q = absurd (none-some p q)
args-held seen e i (a ∷ xs) [] all w n p new fit ports at q = absurd fit
args-held seen e i (a ∷ xs) (r ∷ rs) all w n p new fit ports at q =
    let z = or_parts (args_define a.name seen) (args_repeat (seen ++ a ∷ []) xs) new in
    by (same_name a.name n) refl q z.1 (args-held (seen ++ a ∷ []) (with_held e a.name (part_held r)) (i + 1) xs rs all w n p z.1 fit.2 ports.1 (λ j. at (suc j) ∙ ap (slice_get all) (later i j)))
  where
    later : (i j : ℕ) → i + suc j ≡ (i + 1) + j
    later i j = omega arith

    zero-more : (i : ℕ) → i ≡ i + 0
    zero-more i = omega arith

    by : (b : Bool) → same_name a.name n ≡ b → (if b then option_map (whole_argument i) (carried a.ty) else argument_part n (i + 1) xs) ≡ Some p → args_repeat (seen ++ a ∷ []) xs ≡ false
        → (argument_part n (i + 1) xs ≡ Some p → with_args (with_held e a.name (part_held r)) xs (map part_held rs) n ≡ Some (part_held (range_in all p)))
        → with_args (with_held e a.name (part_held r)) xs (map part_held rs) n ≡ Some (part_held (range_in all p))
    by false m f u go = go f
    by true m f u go =
        let t = ports.0.0 in
        let c : carried a.ty ≡ Some t = ap carried ports.0.1 in
        let same : whole_argument i t ≡ p = same_Some (whole_argument i t) p (sym (ap (option_map (whole_argument i)) c) ∙ f) in
        let apart : args_define n xs ≡ false = seen-once n (seen ++ a ∷ []) xs u (define-last n seen a m) in
        let here : slice_get all i ≡ Some r = ap (slice_get all) (zero-more i) ∙ sym (at 0) in
        let low : r.lo ≡ lowest_bit all i + 0 = (zero-more r.lo ∙ ap (λ x. x + 0) (sym (ap (λ o. option_map_or (λ (y : Range). y.lo) o 0) here))) in
        let len : r.len ≡ bit_count t = fit.0 ∙ ap bit_count ports.0.1 in
        let range : r ≡ range_in all (whole_argument i t) = range-is r (range_in all (whole_argument i t)) low len in
        args-else (with_held e a.name (part_held r)) xs (map part_held rs) n apart ∙ ap (λ b. if b then Some (part_held r) else e n) m ∙ ap (λ y. Some (part_held y)) range
        ∙ ap (λ y. Some (part_held (range_in all y))) same

-- ---- the head

module _ (name : UnitName) (t : FlatText) (f : IsFormed (flat_unit name t)) (plain : begins_with_phi (lines_at t.blocks (head_of t.blocks)) ≡ false) where
  abbrev pub u : UnitText
  u = flat_unit name t

  -- the first block
  pub record Entry : Type 0 where
    pub block : FlatBlockText
    pub more : List FlatBlockText
    pub are : t.blocks ≡ block ∷ more

  pub entry-of : Entry
  entry-of = by t.blocks refl f.blocks
    where
      by : (bs : List FlatBlockText) → t.blocks ≡ bs → (b : BlockText) × (more : List BlockText) × (map as_block bs ≡ b ∷ more) → Entry
      by [] e h = let z : [] ≡ h.0 ∷ h.1 = h.2 in absurd cc
      by (b ∷ more) e h = record { block = b; more = more; are = e }

  abbrev pub eb : FlatBlockText
  eb = entry-of.block

  pub entry-at : BlockAt t.blocks 0 eb
  entry-at = record {
    at = ap (λ bs. slice_get bs 0) entry-of.are;
    number = ap (block_number eb.label) entry-of.are
        ∙ ap (λ b. if b then Some 0 else option_map (λ k. k + 1) (block_number eb.label entry-of.more)) (same_name-refl eb.label);
  }

  pub entry-text : slice_get u.blocks 0 ≡ Some (as_block eb)
  entry-text = block-text t.blocks 0 eb entry-at.at

  pub entry-first : entry_of u.blocks ≡ Some (as_block eb)
  entry-first = ap (λ bs. entry_of (map as_block bs)) entry-of.are

  pub entry-lines : lines_at t.blocks 0 ≡ with_merge eb.merge eb.lines
  entry-lines = ap (λ o. option_map_or (λ (b : FlatBlockText). with_merge b.merge b.lines) o []) entry-at.at

  pub entry-merge : eb.merge ≡ None
  entry-merge = entry-plain u eb (map as_block entry-of.more) (ap (map as_block) entry-of.are) f

  -- the block of the head
  pub record Head : Type 0 where
    pub block : FlatBlockText
    pub at : BlockAt t.blocks (head_of t.blocks) block

  pub head-block : Head
  head-block = by (nat_eq (head_of t.blocks) 0) refl
    where
      by : (b : Bool) → nat_eq (head_of t.blocks) 0 ≡ b → Head
      by true q = let e : 0 ≡ head_of t.blocks = grind (arith, nat_tests) in record { block = eb; at = subst (λ k. BlockAt t.blocks k eb) e entry-at }
      by false q =
          let h = head-behind t q in
          let z = number-is h.label t.blocks (head_of t.blocks) h.number in
          record { block = z.0; at = record { at = z.1; number = ap (λ n. block_number n t.blocks) z.2 ∙ h.number } }

  abbrev pub hb : FlatBlockText
  hb = head-block.block

  pub head-lines : NoPhis (with_merge hb.merge hb.lines)
  head-lines = no-phis u f (head_of t.blocks) (as_block hb) (block-text t.blocks (head_of t.blocks) hb head-block.at.at)
      (sym (ap (λ o. begins_with_phi (option_map_or (λ (b : FlatBlockText). with_merge b.merge b.lines) o [])) head-block.at.at) ∙ plain)

  -- ---- what is known there

  abbrev constants : List LineText
  constants = if nat_eq (head_of t.blocks) 0 then [] else lines_at t.blocks 0

  good-constants : (l : LineText) → Among l constants → LineGood u l
  good-constants l a = by (nat_eq (head_of t.blocks) 0) a
    where
      by : (b : Bool) → Among l (if b then [] else lines_at t.blocks 0) → LineGood u l
      by true a = absurd a
      by false a = in-each (LineGood u) (with_merge eb.merge eb.lines) l (good-lines u f 0 (as_block eb) entry-text) (subst (Among l) entry-lines a)

  argument-known : (n : List ℕ) (x : Known) (ty : TypeTree) → with_arguments nothing_known 0 t.args n ≡ Some x → value_type u n ≡ Some ty → IsTypedKnown u n x × (p : Part) × (x ≡ known_part p)
      × (argument_part n 0 t.args ≡ Some p) × (signal_type p.ty ≡ ty)
  argument-known n x ty q v = by (arguments-case [] nothing_known 0 t.args n x f.new_args q)
    where
      by : (nothing_known n ≡ Some x) ⊎ ((p : Part) × (x ≡ known_part p) × (argument_part n 0 t.args ≡ Some p)) → IsTypedKnown u n x × (p : Part) × (x ≡ known_part p)
          × (argument_part n 0 t.args ≡ Some p) × (signal_type p.ty ≡ ty)
      by (inl z) = absurd (none-some x z)
      by (inr z) =
          let k = argument-of u n 0 t.args z.0 f.args f.ports z.2 in
          (subst (IsTypedKnown u n) (sym z.1) (k.0, of_argument n z.0 z.2), z.0, z.1, z.2, same_Some (signal_type z.0.ty) ty (sym k.1 ∙ v))

  constant-known : (n : List ℕ) (x : Known) (ty : TypeTree) → ConstantOf constants n x → value_type u n ≡ Some ty → IsTypedKnown u n x × (known_type x ≡ ty)
  constant-known n x ty c v =
      let g = good-constants c.line c.among in
      let w : IsWrittenRight (const_text c.value) = subst IsWrittenRight c.inst g.0.written in
      let h = constants-fit 0 c.value w (datum_held c.value) ty refl (ap result_type (sym c.inst) ∙ sym (g.0.gives n c.named) ∙ v) in
      let z = constant-typed c.value ty h.0 h.1 in
      subst (λ y. IsTypedKnown u n y × (known_type y ≡ ty)) (sym c.is) ((z.0, λ d k. ap constant (const-same c.value d (sym c.inst ∙ const-line u c.line g.1 n d c.named k))), z.1)

  pub first-typed : KnowsTyped u (known_first t)
  first-typed n x ty q v = by (constants-case (with_arguments nothing_known 0 t.args) constants n x q)
    where
      by : (with_arguments nothing_known 0 t.args n ≡ Some x) ⊎ ConstantOf constants n x → IsTypedKnown u n x × (known_type x ≡ ty)
      by (inl z) = let k = argument-known n x ty z v in (k.0, ap known_type k.2 ∙ k.4)
      by (inr c) = constant-known n x ty c v

  -- the entry, where it is not the head: constants alone, and a branch to the head
  pub record Leading : Type 0 where
    pub constants : List LineText
    pub last : LineText
    pub are : lines_at t.blocks 0 ≡ constants ++ last ∷ []
    pub all : Each (λ (l : LineText). is_constant l.inst ≡ true) constants
    pub branch : last.inst ≡ br_text hb.label

  pub leading : nat_eq (head_of t.blocks) 0 ≡ false → Leading
  leading q =
      let h = head-behind t q in
      let same : h.entry ≡ eb = same_Some h.entry eb (ap (λ bs. slice_get bs 0) (sym h.blocks) ∙ entry-at.at) in
      let z = number-is h.label t.blocks (head_of t.blocks) h.number in
      let label : hb.label ≡ h.label = ap (λ (x : FlatBlockText). x.label) (same_Some hb z.0 (sym head-block.at.at ∙ z.1)) ∙ z.2 in
      record {
        constants = h.leads.constants;
        last = h.leads.last;
        are = entry-lines ∙ ap (λ o. with_merge o eb.lines) entry-merge ∙ ap (λ (x : FlatBlockText). x.lines) (sym same) ∙ h.leads.are;
        all = h.leads.all;
        branch = h.leads.branch ∙ ap br_text (sym label);
      }

  -- a value that is there at the head is known
  pub first-there : KnowsThere u (as_block hb) [] (known_first t)
  first-there n ty v w (inl d) = constants-stay (with_arguments nothing_known 0 t.args) constants n (arguments-known nothing_known 0 t.args n f.ports d)
  first-there n ty v w (inr h) = by (nat_eq (head_of t.blocks) 0) refl
    where
      none : (z : (false ≡ true) ⊎ (false ≡ true)) → IsSome (known_first t n)
      none (inl e) = absurd (false≢true e)
      none (inr e) = absurd (false≢true e)

      right : (a : Bool) → (a || false) ≡ true → a ≡ true
      right true e = refl
      right false e = e

      behind : nat_eq (head_of t.blocks) 0 ≡ false → IsSome (with_constants (with_arguments nothing_known 0 t.args) (lines_at t.blocks 0) n)
      behind q =
          let h0 = leading q in
          let text : with_merge eb.merge eb.lines ≡ h0.constants ++ h0.last ∷ [] = sym entry-lines ∙ h0.are in
          let stands : block_of hb.label u.blocks ≡ Some (as_block hb) = block-labelled t.blocks hb.label (head_of t.blocks) hb head-block.at.at head-block.at.number in
          let edge : has_edge (as_block eb) hb.label ≡ true =
          ap (λ ls. list_any (λ m. same_name m hb.label) (last_leads_to ls)) text ∙ ap (list_any (λ m. same_name m hb.label)) (last-leads h0.constants h0.last ∙ ap leads_to h0.branch)
          ∙ ap (λ b. b || false) (same_name-refl hb.label) in
          let given : lines_define n (with_merge eb.merge eb.lines)
          ≡ true = ⊎_elim (λ e. absurd (false≢true e)) (λ e. right (lines_define n (with_merge eb.merge eb.lines)) e) (h (as_block eb ∷ []) (edge, stands, entry-first)) in
          constants-known (with_arguments nothing_known 0 t.args) (lines_at t.blocks 0) n (λ l a r. constant-line h0 l (subst (Among l) h0.are a) (subst (Among l) entry-lines a) r)
          (ap (lines_define n) entry-lines ∙ given)
        where
          is-last : (h0 : Leading) (l : LineText) → h0.last ≡ l → Among l (with_merge eb.merge eb.lines) → is_result_name n l.result ≡ true → is_constant l.inst ≡ true
          is-last h0 l e b r =
              let g = in-each (LineGood u) (with_merge eb.merge eb.lines) l (good-lines u f 0 (as_block eb) entry-text) b in
              let none : None ≡ Some ty = sym (ap result_type (ap (λ (x : LineText). x.inst) (sym e) ∙ h0.branch)) ∙ sym (g.0.gives n (result-is l.result n r)) ∙ v in
              absurd (none-some ty none)

          constant-line : (h0 : Leading) (l : LineText) → Among l (h0.constants ++ h0.last ∷ []) → Among l (with_merge eb.merge eb.lines) → is_result_name n l.result ≡ true → is_constant l.inst ≡ true
          constant-line h0 l a b r = at (among-split l h0.constants (h0.last ∷ []) a)
            where
              at : Among l h0.constants ⊎ Among l (h0.last ∷ []) → is_constant l.inst ≡ true
              at (inl c) = in-each (λ (x : LineText). is_constant x.inst ≡ true) h0.constants l h0.all c
              at (inr (inl e)) = is-last h0 l e b r
              at (inr (inr c)) = absurd c

      by : (b : Bool) → nat_eq (head_of t.blocks) 0 ≡ b → IsSome (known_first t n)
      by true q =
          let e : head_of t.blocks ≡ 0 = grind (arith, nat_tests) in
          let same : hb ≡ eb = same_Some hb eb (sym (subst (λ k. slice_get t.blocks k ≡ Some hb) e head-block.at.at) ∙ entry-at.at) in
          none (h [] (entry-first ∙ ap (λ x. Some (as_block x)) (sym same)))
      by false q = subst (λ b. IsSome (with_constants (with_arguments nothing_known 0 t.args) (if b then [] else lines_at t.blocks 0) n)) (sym q) (behind q)

  -- the edge with which the first region starts
  pub first-joins : JoinEdge u (as_block hb) (edge_into (head_of t.blocks) [] (bit_of true) (known_first t))
  first-joins = record {
    cond = bit-condition true;
    known = first-typed;
    there = first-there;
    phis = no-phis-known (edge_into (head_of t.blocks) [] (bit_of true) (known_first t)) (with_merge hb.merge hb.lines) head-lines;
  }

  -- ---- what is known there is held

  -- a path that is longer than its last block goes through the entry before it
  path-entry : (c : BlockText) (earlier : List BlockText) → IsPath u (c ∷ earlier) → (entry_of u.blocks ≡ Some c) ⊎ Among (as_block eb) earlier
  path-entry c [] p = inl p
  path-entry c (d ∷ more) p = by (path-entry d more p.2)
    where
      by : (entry_of u.blocks ≡ Some d) ⊎ Among (as_block eb) more → (entry_of u.blocks ≡ Some c) ⊎ Among (as_block eb) (d ∷ more)
      by (inl e) = inr (inl (same_Some d (as_block eb) (sym e ∙ entry-first)))
      by (inr a) = inr (inr a)

  define-any : (n : List ℕ) (b : BlockText) (bs : List BlockText) → lines_define n b.lines ≡ true → Among b bs → blocks_define n bs ≡ true
  define-any n b [] d a = absurd a
  define-any n b (c ∷ bs) d (inl e) = rw (ap (λ (x : BlockText). lines_define n x.lines) e ∙ d) refl
  define-any n b (c ∷ bs) d (inr a) = by (lines_define n c.lines) (define-any n b bs d a)
    where
      by : (x : Bool) → blocks_define n bs ≡ true → (x || blocks_define n bs) ≡ true
      by true z = refl
      by false z = z

  define-line : (n : List ℕ) (l : LineText) (ls : List LineText) → l.result ≡ Some n → Among l ls → lines_define n ls ≡ true
  define-line n l [] r a = absurd a
  define-line n l (m ∷ ls) r (inl e) = rw (ap (λ (x : LineText). is_result_name n x.result) e ∙ ap (is_result_name n) r ∙ same_name-refl n) refl
  define-line n l (m ∷ ls) r (inr a) = by (is_result_name n m.result) (define-line n l ls r a)
    where
      by : (x : Bool) → lines_define n ls ≡ true → (x || lines_define n ls) ≡ true
      by true z = refl
      by false z = z

  -- a constant of the entry is there at the head
  constant-there : (n : List ℕ) (x : Known) → ConstantOf constants n x → IsThere u (as_block hb) [] n
  constant-there n x c = by (nat_eq (head_of t.blocks) 0) refl c.among
    where
      by : (b : Bool) → nat_eq (head_of t.blocks) 0 ≡ b → Among c.line (if b then [] else lines_at t.blocks 0) → IsThere u (as_block hb) [] n
      by true q a = absurd a
      by false q a =
          let d : lines_define n (with_merge eb.merge eb.lines) ≡ true = define-line n c.line (with_merge eb.merge eb.lines) c.named (subst (Among c.line) entry-lines a) in
          inr (λ earlier path. ⊎_elim (λ e. absurd (clash q e)) (λ k. inr (define-any n (as_block eb) earlier d k)) (path-entry (as_block hb) earlier path))
        where
          clash : nat_eq (head_of t.blocks) 0 ≡ false → entry_of u.blocks ≡ Some (as_block hb) → ⊥
          clash q e =
              let label : eb.label ≡ hb.label = ap (λ (o : Option BlockText). option_map_or (λ (x : BlockText). label_or x.label) o []) (sym entry-first ∙ e) in
              let same : 0 ≡ head_of t.blocks = same_Some 0 (head_of t.blocks) (sym entry-at.number ∙ ap (λ m. block_number m t.blocks) label ∙ head-block.at.number) in
              false≢true (sym q ∙ ap (λ k. nat_eq k 0) (sym same))

  -- Where what is there at the head is known and held, what the first region starts with is held.
  pub held-again : (v v' : Tree → Datum) (r : Part → Range) (k : Knowledge) (e : Env) → ((d : Datum) → v (constant d) ≡ d) → ((d : Datum) → v' (constant d) ≡ d) → KnowsTyped u k
      → KnowsThere u (as_block hb) [] k → KnownIsHeld u v r k e → KnownIsHeld u v' r (known_first t) e
  held-again v v' r k e cv cv' typed there sh n x ty q o = by (constants-case (with_arguments nothing_known 0 t.args) constants n x q)
    where
      by : (with_arguments nothing_known 0 t.args n ≡ Some x) ⊎ ConstantOf constants n x → e n ≡ Some (held_as v' r x)
      by (inl z) =
          let a = argument-known n x ty z o in
          let i : IsOf u (signal_type a.1.ty) n = o ∙ ap Some (sym a.4) in
          let p = part-known u k typed n a.1.ty i (there n (signal_type a.1.ty) i (λ y. cc) (inl (part-argument n 0 t.args a.1 a.3))) in
          let same : p.0 ≡ a.1 = one-part u n p.0 a.1 p.4 (of_argument n a.1 a.3) in
          sh n (known_part p.0) (signal_type a.1.ty) (known-by-part k n p.0 p.1) i ∙ ap (λ y. Some (part_held (r y))) same ∙ ap (λ y. Some (held_as v' r y)) (sym a.2)
      by (inr c) =
          let y = constant-known n x ty c o in
          let y' = subst (λ z. IsTypedKnown u n z × (known_type z ≡ ty)) c.is y in
          let value : is_value_type ty ≡ true = ap is_value_type (sym y'.1) ∙ term-type (constant c.value) y'.0.0 in
          let w = value-known u k typed n ty o value (there n ty o (value-no-void ty value) (constant-there n x c)) in
          let g = good-constants c.line c.among in
          let kn = known-by-value k n w.0 w.1 in
          let inst : inst_giving n u.blocks ≡ Some (const_text c.value) = giving-lines n u.blocks ∙ (g.1 n c.named).1 ∙ ap Some c.inst in
          let same : w.0 ≡ constant c.value = (typed n (known_value w.0) ty kn o).0.1 c.value inst in
          sh n (known_value w.0) ty kn o ∙ ap (λ d. Some (datum_held (v d))) same ∙ ap (λ d. Some (datum_held d)) (cv c.value ∙ sym (cv' c.value)) ∙ ap (λ z. Some (held_as v' r z)) (sym c.is)

  -- the arguments of a new process are held
  pub held-new : (v : Tree → Datum) (w : ℕ) (args : List Range) → RangesFit w args (arg_types t.args)
      → KnownIsHeld u v (range_in args) (with_arguments nothing_known 0 t.args) (with_args nothing_held t.args (map part_held args))
  held-new v w args fit n x ty q o =
      let a = argument-known n x ty q o in
      args-held [] nothing_held 0 t.args args args w n a.1 f.new_args fit f.ports (λ j. ap (slice_get args) (zero-less j)) a.3 ∙ ap (λ y. Some (held_as v (range_in args) y)) (sym a.2)
    where
      zero-less : (j : ℕ) → j ≡ 0 + j
      zero-less j = omega arith

  -- ---- the constants of the entry are executed

  module _ (s : Scene) (v : Tree → Datum) (r : Part → Range) (cv : (d : Datum) → v (constant d) ≡ d) where
    abbrev pub point : List ℕ → List LineText → Env → Point
    point b ls e = record { control = record { unit = u; block = b; rest = ls; held = e }; callers = []; wish = no_wish; outcomes = [] }

    pub record ConstantsRun (b : List ℕ) (ls rest : List LineText) (e : Env) (k : Knowledge) : Type 0 where
      pub held : Env
      pub shown : KnownIsHeld u v r (with_constants k ls) held
      pub runs : (m : ℕ) → run (length ls + m) s (point b (ls ++ rest) e) ≡ run m s (point b rest held)

    pub constants-run : (b : List ℕ) (ls rest : List LineText) → Each (λ (l : LineText). is_constant l.inst ≡ true) ls → (e : Env) (k : Knowledge) → KnownIsHeld u v r k e → ConstantsRun b ls rest e k
    constants-run b [] rest h e k sh = record { held = e; shown = sh; runs = λ m. ap (λ x. run x s (point b rest e)) (zero-less m) }
      where
        zero-less : (m : ℕ) → 0 + m ≡ m
        zero-less m = omega arith
    constants-run b (l ∷ ls) rest h e k sh = by l.inst refl h.0 (constants-run b ls rest h.1)
      where
        more : (a m : ℕ) → suc a + m ≡ suc (a + m)
        more a m = omega arith

        by : (i : InstText) → l.inst ≡ i → is_constant i ≡ true → ((e : Env) (k : Knowledge) → KnownIsHeld u v r k e → ConstantsRun b ls rest e k) → ConstantsRun b (l ∷ ls) rest e k
        by (const_text d) q c go =
            let e' : Env = with_result e l.result (datum_held d) in
            let sh' : KnownIsHeld u v r (with_given k l.result (Some (known_value (constant d)))) e' = given-shows-typed u v r k e l.result (known_value (constant d)) (datum_held d) sh
            (λ n t z w. ap datum_held (sym (cv d))) in
            let z = go e' (with_given k l.result (Some (known_value (constant d)))) sh' in
            record {
              held = z.held;
              shown = subst (λ i. KnownIsHeld u v r (with_constants (with_constant k i l.result) ls) z.held) (sym q) z.shown;
              runs = λ m. ap (λ x. run x s (point b ((l ∷ ls) ++ rest) e)) (more (length ls) m) ∙ ap (λ i. went (machine.executes s i l.result (point b (ls ++ rest) e)) (run (length ls + m) s)) q
                  ∙ z.runs m;
            }
        by _ q c go = absurd (false≢true c)
