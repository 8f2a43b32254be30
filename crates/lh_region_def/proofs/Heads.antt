-- What is known at the head: the arguments, and the constants of the entry; and that it is held there.
use Rattle.std.proofs.Common.{◌≡◌, ◌⊎◌, inl, inr, ⊎_elim, ℕ, ◌+◌, List, [], ◌∷◌, ◌++◌, length, Bool, true, false, ◌||◌, nat_eq, Option, Some, None, IsSome, unwrap_or, refl, ap, sym, ◌∙◌, subst, append_assoc}
use Rattle.std.specs.Bool.{if◌then◌else◌}
use Rattle.std.specs.Prelude.{slice_get}
use Rattle.std.specs.Option.{option_and_then, option_map}
use Rattle.std.proofs.lemmas.Bool.{false≢true, or_parts}
use Rattle.std.proofs.lemmas.Option.{same_Some, none-some}
use Rattle.lh_types.specs.Types.{TypeTree, signal_type, IsData}
use Rattle.lh_types.specs.Values.{Datum}
use Rattle.lh_unit.specs.Contents.{InstText, const_text, phi_text, br_text, LineText, BlockText, ArgText, UnitText, is_result_name, args_define, lines_define}
use Rattle.lh_unit_names.specs.Names.{same_name}
use Rattle.lh_unit.specs.Held.{Env}
use Rattle.lh_unit.specs.Places.{InstPlaceText, places_in, places_from}
use Rattle.lh_unit.specs.Reads.{args_repeat}
use Rattle.lh_unit.specs.Typing.{value_type, carried}
use Rattle.lh_unit.specs.WellFormed.{is_phi}
use Rattle.lh_unit.specs.Within.{Each}
use Rattle.lh_unit.specs.Activation.{phi_taken, phis_taken}
use Rattle.lh_unit_names.proofs.NameLists.{same_name-is}
use Rattle.lh_eval_laws.specs.Units.{HasItsType, IsPort}
use Rattle.lh_verify_laws.proofs.EachItem.{each-split}
use Rattle.lh_verify_laws.proofs.AtPlaces.{place-at}
use Rattle.lh_flat_laws.specs.Formed.{IsFormed, PhiFormed}
use Rattle.lh_flat_laws.proofs.TidyUnits.{seen-once}
use Rattle.lh_flat.specs.Flat.{FlatBlockText, MergeText, FlatText, with_merge, as_block}
use Rattle.lh_term.specs.Tree.{constant}
use Rattle.lh_term.specs.declared.part.Part.{Part}
use Rattle.lh_region_def.specs.Known.{Known, known_value, known_part, Knowledge, with_given, with_arguments, argument_part}
use Rattle.lh_term.specs.Parts.{whole_argument}
use Rattle.lh_region_def.specs.Joins.{RegionEdge}
use Rattle.lh_region_def.specs.Places.{block_number}
use Rattle.lh_region_def.specs.Regions.{is_constant, with_constant, with_constants, branched_to, leads_on, is_led_to, head_after, begins_with_phi, head_of}
use Rattle.lh_region_def.specs.Typed.{Among, PhiKnown}
use Rattle.lh_region_def.proofs.Sites.{site-at}
use Rattle.lh_region_def.proofs.KnowledgeChanges.{given-stays, given-known}
use Rattle.lh_region_def.proofs.PartsNamed.{part-argument}

-- ---- the constants of lines

-- the constant of a line of this name
pub record ConstantOf (ls : List LineText) (n : List ℕ) (x : Known) : Type 0 where
  pub line : LineText
  pub among : Among line ls
  pub named : line.result ≡ Some n
  pub value : Datum
  pub inst : line.inst ≡ const_text value
  pub is : x ≡ known_value (constant value)

constant-more : (l : LineText) (ls : List LineText) (n : List ℕ) (x : Known) → ConstantOf ls n x → ConstantOf (l ∷ ls) n x
constant-more l ls n x c = record { line = c.line; among = inr c.among; named = c.named; value = c.value; inst = c.inst; is = c.is }

one-constant : (k : Knowledge) (l : LineText) (ls : List LineText) (n : List ℕ) (x : Known) → with_constant k l.inst l.result n ≡ Some x → (k n ≡ Some x) ⊎ ConstantOf (l ∷ ls) n x
one-constant k l ls n x q = by l.inst refl q
  where
    named : (d : Datum) → l.inst ≡ const_text d → (r : Option (List ℕ)) → l.result ≡ r → with_given k r (Some (known_value (constant d))) n ≡ Some x → (k n ≡ Some x) ⊎ ConstantOf (l ∷ ls) n x
    named d i None z f = inl f
    named d i (Some m) z f = at (same_name m n) refl f
      where
        at : (b : Bool) → same_name m n ≡ b → (if b then Some (known_value (constant d)) else k n) ≡ Some x → (k n ≡ Some x) ⊎ ConstantOf (l ∷ ls) n x
        at true e f = inr (record { line = l; among = inl refl; named = z ∙ ap Some (same_name-is m n e); value = d; inst = i; is = sym (same_Some (known_value (constant d)) x f) })
        at false e f = inl f

    by : (j : InstText) → l.inst ≡ j → with_constant k j l.result n ≡ Some x → (k n ≡ Some x) ⊎ ConstantOf (l ∷ ls) n x
    by (const_text d) i f = named d i l.result refl f
    by _ i f = inl f

pub constants-case : (k : Knowledge) (ls : List LineText) (n : List ℕ) (x : Known) → with_constants k ls n ≡ Some x → (k n ≡ Some x) ⊎ ConstantOf ls n x
constants-case k [] n x q = inl q
constants-case k (l ∷ ls) n x q = ⊎_elim (λ z. one-constant k l ls n x z) (λ c. inr (constant-more l ls n x c)) (constants-case (with_constant k l.inst l.result) ls n x q)

one-stays : (k : Knowledge) (i : InstText) (r : Option (List ℕ)) (n : List ℕ) → IsSome (k n) → IsSome (with_constant k i r n)
one-stays k (const_text d) r n s = given-stays k r n (Some (known_value (constant d))) s
one-stays k _ r n s = s

pub constants-stay : (k : Knowledge) (ls : List LineText) (n : List ℕ) → IsSome (k n) → IsSome (with_constants k ls n)
constants-stay k [] n s = s
constants-stay k (l ∷ ls) n s = constants-stay (with_constant k l.inst l.result) ls n (one-stays k l.inst l.result n s)

-- where each line that gives this name is a constant, it is known
pub constants-known : (k : Knowledge) (ls : List LineText) (n : List ℕ) → ((l : LineText) → Among l ls → is_result_name n l.result ≡ true → is_constant l.inst ≡ true) → lines_define n ls ≡ true
    → IsSome (with_constants k ls n)
constants-known k [] n h d = absurd (false≢true d)
constants-known k (l ∷ ls) n h d = by (is_result_name n l.result) refl d (constants-known (with_constant k l.inst l.result) ls n (λ x a q. h x (inr a) q))
  where
    one : (i : InstText) → is_constant i ≡ true → is_result_name n l.result ≡ true → IsSome (with_constant k i l.result n)
    one (const_text d) c q = given-known k l.result n (known_value (constant d)) q
    one _ c q = absurd (false≢true c)

    by : (b : Bool) → is_result_name n l.result ≡ b → (b || lines_define n ls) ≡ true → (lines_define n ls ≡ true → IsSome (with_constants (with_constant k l.inst l.result) ls n))
        → IsSome (with_constants (with_constant k l.inst l.result) ls n)
    by true q f go = constants-stay (with_constant k l.inst l.result) ls n (one l.inst (h l (inl refl) q) q)
    by false q f go = go f

-- ---- the arguments

pub define-append : (n : List ℕ) (xs ys : List ArgText) → args_define n xs ≡ true → args_define n (xs ++ ys) ≡ true
define-append n [] ys h = absurd (false≢true h)
define-append n (a ∷ xs) ys h = by (same_name a.name n) h (define-append n xs ys)
  where
    by : (b : Bool) → (b || args_define n xs) ≡ true → (args_define n xs ≡ true → args_define n (xs ++ ys) ≡ true) → (b || args_define n (xs ++ ys)) ≡ true
    by true f go = refl
    by false f go = go f

pub define-last : (n : List ℕ) (xs : List ArgText) (a : ArgText) → same_name a.name n ≡ true → args_define n (xs ++ a ∷ []) ≡ true
define-last n [] a h = rw h refl
define-last n (x ∷ xs) a h = by (same_name x.name n) (define-last n xs a h)
  where
    by : (b : Bool) → args_define n (xs ++ a ∷ []) ≡ true → (b || args_define n (xs ++ a ∷ [])) ≡ true
    by true g = refl
    by false g = g

pub arguments-case : (seen : List ArgText) (k : Knowledge) (i : ℕ) (xs : List ArgText) (n : List ℕ) (x : Known) → args_repeat seen xs ≡ false → with_arguments k i xs n ≡ Some x
    → (k n ≡ Some x) ⊎ ((p : Part) × (x ≡ known_part p) × (argument_part n i xs ≡ Some p))
arguments-case seen k i [] n x h q = inl q
arguments-case seen k i (a ∷ xs) n x h q =
    by (or_parts (args_define a.name seen) (args_repeat (seen ++ a ∷ []) xs) h)
    (arguments-case (seen ++ a ∷ []) (with_given k (Some a.name) (option_map (λ t. known_part (whole_argument i t)) (carried a.ty))) (i + 1) xs n x
    (or_parts (args_define a.name seen) (args_repeat (seen ++ a ∷ []) xs) h).1 q)
  where
    first : (o : Option TypeTree) → carried a.ty ≡ o → (b : Bool) → same_name a.name n ≡ b → with_given k (Some a.name) (option_map (λ t. known_part (whole_argument i t)) o) n ≡ Some x
        → (k n ≡ Some x) ⊎ ((p : Part) × (x ≡ known_part p) × ((if b then option_map (whole_argument i) (carried a.ty) else argument_part n (i + 1) xs) ≡ Some p))
    first None c b e g = inl g
    first (Some t) c true e g = inr (
      whole_argument i t,
      sym (same_Some (known_part (whole_argument i t)) x (sym (ap (λ b. if b then Some (known_part (whole_argument i t)) else k n) e) ∙ g)),
      ap (option_map (whole_argument i)) c,
    )
    first (Some t) c false e g = inl (sym (ap (λ b. if b then Some (known_part (whole_argument i t)) else k n) e) ∙ g)

    later : (p : Part) → args_repeat (seen ++ a ∷ []) xs ≡ false → argument_part n (i + 1) xs ≡ Some p → (b : Bool) → same_name a.name n ≡ b
        → (if b then option_map (whole_argument i) (carried a.ty) else argument_part n (i + 1) xs) ≡ Some p
    later p r g false e = g
    later p r g true e = absurd (false≢true (sym (seen-once n (seen ++ a ∷ []) xs r (define-last n seen a e)) ∙ part-argument n (i + 1) xs p g))

    by : (args_define a.name seen ≡ false) × (args_repeat (seen ++ a ∷ []) xs ≡ false) → (with_given k (Some a.name) (option_map (λ t. known_part (whole_argument i t)) (carried a.ty)) n ≡ Some x)
        ⊎ ((p : Part) × (x ≡ known_part p) × (argument_part n (i + 1) xs ≡ Some p))
        → (k n ≡ Some x) ⊎ ((p : Part) × (x ≡ known_part p) × (argument_part n i (a ∷ xs) ≡ Some p))
    by z (inl g) = first (carried a.ty) refl (same_name a.name n) refl g
    by z (inr g) = inr (g.0, g.1, later g.0 z.1 g.2 (same_name a.name n) refl)

arguments-stay : (k : Knowledge) (i : ℕ) (xs : List ArgText) (n : List ℕ) → IsSome (k n) → IsSome (with_arguments k i xs n)
arguments-stay k i [] n s = s
arguments-stay k i (a ∷ xs) n s = arguments-stay (with_given k (Some a.name) (option_map (λ t. known_part (whole_argument i t)) (carried a.ty))) (i + 1) xs n
    (given-stays k (Some a.name) n (option_map (λ t. known_part (whole_argument i t)) (carried a.ty)) s)

pub arguments-known : (k : Knowledge) (i : ℕ) (xs : List ArgText) (n : List ℕ) → Each IsPort xs → args_define n xs ≡ true → IsSome (with_arguments k i xs n)
arguments-known k i [] n p d = absurd (false≢true d)
arguments-known k i (a ∷ xs) n p d = by (same_name a.name n) refl d (arguments-known (with_given k (Some a.name) (option_map (λ t. known_part (whole_argument i t)) (carried a.ty))) (i + 1) xs n p.1)
  where
    by : (b : Bool) → same_name a.name n ≡ b → (b || args_define n xs) ≡ true
        → (args_define n xs ≡ true → IsSome (with_arguments (with_given k (Some a.name) (option_map (λ t. known_part (whole_argument i t)) (carried a.ty))) (i + 1) xs n))
        → IsSome (with_arguments (with_given k (Some a.name) (option_map (λ t. known_part (whole_argument i t)) (carried a.ty))) (i + 1) xs n)
    by true q f go =
        let t = p.0.0 in
        let c : carried a.ty ≡ Some t = ap carried p.0.1 in
        arguments-stay (with_given k (Some a.name) (option_map (λ t. known_part (whole_argument i t)) (carried a.ty))) (i + 1) xs n
        (subst (λ o. IsSome (with_given k (Some a.name) (option_map (λ t. known_part (whole_argument i t)) o) n)) (sym c) (given-known k (Some a.name) n (known_part (whole_argument i t)) q))
    by false q f go = go f

-- the argument of a part
pub argument-of : (u : UnitText) (n : List ℕ) (i : ℕ) (xs : List ArgText) (p : Part) → Each (HasItsType u) xs → Each IsPort xs → argument_part n i xs ≡ Some p → IsData p.ty
    × (value_type u n ≡ Some (signal_type p.ty))
argument-of u n i [] p t k q = absurd (none-some p q)
argument-of u n i (a ∷ xs) p t k q = by (same_name a.name n) refl q (argument-of u n (i + 1) xs p t.1 k.1)
  where
    by : (b : Bool) → same_name a.name n ≡ b → (if b then option_map (whole_argument i) (carried a.ty) else argument_part n (i + 1) xs) ≡ Some p
        → (argument_part n (i + 1) xs ≡ Some p → IsData p.ty × (value_type u n ≡ Some (signal_type p.ty))) → IsData p.ty × (value_type u n ≡ Some (signal_type p.ty))
    by true e f go =
        let c : carried a.ty ≡ Some k.0.0 = ap carried k.0.1 in
        let same : whole_argument i k.0.0 ≡ p = same_Some (whole_argument i k.0.0) p (sym (ap (option_map (whole_argument i)) c) ∙ f) in
        (subst (λ (x : Part). IsData x.ty) same k.0.2, ap (value_type u) (sym (same_name-is a.name n e)) ∙ t.0 ∙ ap Some k.0.1 ∙ ap (λ (x : Part). Some (signal_type x.ty)) same)
    by false e f go = go f

-- ---- the entry

-- constants alone, and a branch
pub record LeadsOn (ls : List LineText) (n : List ℕ) : Type 0 where
  pub constants : List LineText
  pub last : LineText
  pub are : ls ≡ constants ++ last ∷ []
  pub all : Each (λ (l : LineText). is_constant l.inst ≡ true) constants
  pub branch : last.inst ≡ br_text n

leads-on : (ls : List LineText) (n : List ℕ) → leads_on ls ≡ Some n → LeadsOn ls n
leads-on [] n q = absurd (none-some n q)
leads-on (l ∷ []) n q = by l.inst refl q
  where
    by : (i : InstText) → l.inst ≡ i → branched_to i ≡ Some n → LeadsOn (l ∷ []) n
    by (br_text m) e f = record { constants = []; last = l; are = refl; all = tt; branch = e ∙ ap br_text (same_Some m n f) }
    by _ e f = absurd (none-some n f)
leads-on (l ∷ m ∷ ls) n q = by (is_constant l.inst) refl q (leads-on (m ∷ ls) n)
  where
    by : (b : Bool) → is_constant l.inst ≡ b → (if b then leads_on (m ∷ ls) else None) ≡ Some n → (leads_on (m ∷ ls) ≡ Some n → LeadsOn (m ∷ ls) n) → LeadsOn (l ∷ m ∷ ls) n
    by true e f go = let r = go f in record { constants = l ∷ r.constants; last = r.last; are = ap (λ xs. l ∷ xs) r.are; all = (e, r.all); branch = r.branch }
    by false e f go = absurd (none-some n f)

-- the head is another block than the entry, which holds constants alone and a branch to it
pub record HeadBehind (t : FlatText) : Type 0 where
  pub entry : FlatBlockText
  pub more : List FlatBlockText
  pub blocks : t.blocks ≡ entry ∷ more
  pub label : List ℕ
  pub leads : LeadsOn entry.lines label
  pub number : block_number label t.blocks ≡ Some (head_of t.blocks)

pub head-behind : (t : FlatText) → nat_eq (head_of t.blocks) 0 ≡ false → HeadBehind t
head-behind t z = by t.blocks refl z
  where
    number : (entry : FlatBlockText) (more : List FlatBlockText) → t.blocks ≡ entry ∷ more → (n : List ℕ) → leads_on entry.lines ≡ Some n → (o : Option ℕ) → block_number n (entry ∷ more) ≡ o
        → head_after (entry ∷ more) ≡ o → nat_eq (unwrap_or o 0) 0 ≡ false → HeadBehind t
    number entry more e n l None q h z = absurd (false≢true (sym z))
    number entry more e n l (Some k) q h z = record {
      entry = entry;
      more = more;
      blocks = e;
      label = n;
      leads = leads-on entry.lines n l;
      number = ap (block_number n) e ∙ q
          ∙ ap (λ o. Some (unwrap_or o 0)) (sym h) ∙ ap (λ bs. Some (head_of bs)) (sym e);
    }

    at : (entry : FlatBlockText) (more : List FlatBlockText) → t.blocks ≡ entry ∷ more → (b : Bool) → is_led_to entry.label (entry ∷ more) ≡ b → (o : Option (List ℕ)) → leads_on entry.lines ≡ o
        → nat_eq (unwrap_or (if b then None else option_and_then (λ n. block_number n (entry ∷ more)) o) 0) 0 ≡ false → HeadBehind t
    at entry more e true q o l z = absurd (false≢true (sym z))
    at entry more e false q None l z = absurd (false≢true (sym z))
    at entry more e false q (Some n) l z = number entry more e n l (block_number n (entry ∷ more)) refl
        (ap (λ b. if b then None else option_and_then (λ n. block_number n (entry ∷ more)) (leads_on entry.lines)) q ∙ ap (option_and_then (λ n. block_number n (entry ∷ more))) l) z

    by : (bs : List FlatBlockText) → t.blocks ≡ bs → nat_eq (head_of bs) 0 ≡ false → HeadBehind t
    by [] e z = absurd (false≢true (sym z))
    by (entry ∷ more) e z = at entry more e (is_led_to entry.label (entry ∷ more)) refl (leads_on entry.lines) refl z

-- no `phi` and no merge stands in the entry
pub entry-plain : (u : UnitText) (b : FlatBlockText) (more : List BlockText) → u.blocks ≡ as_block b ∷ more → IsFormed u → b.merge ≡ None
entry-plain u b more e f = by b.merge refl (subst (λ bs. Each (λ (p : InstPlaceText). PhiFormed u p p.line.inst) (places_from 1 true bs)) e f.phis)
  where
    by : (o : Option MergeText) → b.merge ≡ o → Each (λ (p : InstPlaceText). PhiFormed u p p.line.inst) (places_from 1 true (as_block b ∷ more)) → o ≡ None
    by None q h = refl
    by (Some m) q h =
        let h' : Each (λ (p : InstPlaceText). PhiFormed u p p.line.inst) (places_in 1 true (as_block b) [] (with_merge (Some m) b.lines)) = subst
        (λ x. Each (λ (p : InstPlaceText). PhiFormed u p p.line.inst) (places_in 1 true (as_block b) [] (with_merge x b.lines))) q
        (each-split (λ (p : InstPlaceText). PhiFormed u p p.line.inst) (places_in 1 true (as_block b) [] (with_merge b.merge b.lines))
        (places_from (1 + length (with_merge b.merge b.lines)) false more) h).0 in
        let z : true ≡ false = h'.0.no_entry in
        absurd (false≢true (sym z))

-- ---- no `phi` at the head

abbrev pub NoPhis : List LineText → Type 0
NoPhis ls = Each (λ (l : LineText). is_phi l.inst ≡ false) ls

-- a `phi` stands behind other `phi` alone: where the first line is none, there is none
pub no-phis : (u : UnitText) → IsFormed u → (i : ℕ) (b : BlockText) → slice_get u.blocks i ≡ Some b → begins_with_phi b.lines ≡ false → NoPhis b.lines
no-phis u f i b at first = all [] b.lines refl
  where
    front-phi : (l : LineText) (rest : List LineText) → b.lines ≡ l ∷ rest → is_phi l.inst ≡ false
    front-phi l rest e = ap begins_with_phi (sym e) ∙ first

    by : (x : LineText) (before : List LineText) (more : List LineText) → b.lines ≡ (x ∷ before) ++ more → Each (λ (l : LineText). is_phi l.inst ≡ true) (x ∷ before) → ⊥
    by x before more e h = false≢true (sym (front-phi x (before ++ more) e) ∙ h.0)

    one : (before : List LineText) (l : LineText) (more : List LineText) → b.lines ≡ before ++ l ∷ more → is_phi l.inst ≡ false
    one [] l more e = front-phi l more e
    one (x ∷ before) l more e = let s = site-at u f i b (x ∷ before) l more at e in at-phi l.inst s.number s.entry s.phi
      where
        at-phi : (j : InstText) (m : ℕ) (d : Bool) → PhiFormed u (place-at m d b (x ∷ before) l more) j → is_phi j ≡ false
        at-phi (phi_text ty es) m d h = absurd (by x before (l ∷ more) e h.first)
        at-phi _ m d h = refl

    all : (before ls : List LineText) → b.lines ≡ before ++ ls → NoPhis ls
    all before [] e = tt
    all before (l ∷ ls) e = (one before l ls e, all (before ++ l ∷ []) ls (e ∙ sym (append_assoc before (l ∷ []) ls)))

pub no-phis-taken : (from : List ℕ) (e : Env) (ls : List LineText) → NoPhis ls → phis_taken from e ls ≡ Some e
no-phis-taken from e [] h = refl
no-phis-taken from e (l ∷ ls) h = by l.inst h.0 ∙ no-phis-taken from e ls h.1
  where
    by : (i : InstText) → is_phi i ≡ false → phi_taken from e i l.result (phis_taken from e ls) ≡ phis_taken from e ls
    by (phi_text ty es) q = absurd (false≢true (sym q))
    by _ q = refl

pub no-phis-known : (e : RegionEdge) (ls : List LineText) → NoPhis ls → Each (λ (l : LineText). PhiKnown e l.inst) ls
no-phis-known e [] h = tt
no-phis-known e (l ∷ ls) h = (by l.inst h.0, no-phis-known e ls h.1)
  where
    by : (i : InstText) → is_phi i ≡ false → PhiKnown e i
    by (phi_text ty es) q = absurd (false≢true (sym q))
    by _ q = tt
