-- No instruction of the entity of a chain has a fault.
use Rattle.std.proofs.Common.{◌≡◌, ℕ, zero, suc, ◌+◌, ◌≤◌, Bool, true, false, not, ◌&&◌, ◌||◌, List, [], ◌∷◌, ◌++◌, length, map, Option, Some, None, refl, ap, sym, ◌∙◌, subst, arith, append_assoc}
use Rattle.std.specs.Prelude.{codes}
use Rattle.std.specs.List.{flat_map, range_with_len}
use Rattle.std.specs.Option.{option_map_or, option_and_then}
use Rattle.std.proofs.lemmas.Bool.{both_ways as clash}
use Rattle.std.proofs.lemmas.List.{append-nil}
use Rattle.lh_types.specs.Types.{TypeTree, int_type, signal_type, same_type}
use Rattle.lh_types.specs.Faults.{is_data}
use Rattle.lh_types.specs.Values.{Datum, int_value}
use Rattle.lh_types.specs.Same.{same-refl}
use Rattle.lh_unit.specs.Contents.{InstText, const_text, sig_text, LineText, BlockText, UnitText, ItemText, lines_define, defines_value}
use Rattle.lh_unit.specs.Kinds.{Kind, a_datum, a_signal, data_needed, signal_needed, takes, result_kind, value_kind}
use Rattle.lh_unit.specs.Typing.{value_type, result_type, inst_giving, line_giving, or_else}
use Rattle.lh_unit.specs.TypingRows.{has_type}
use Rattle.lh_unit.specs.Places.{places_in, places}
use Rattle.lh_unit.specs.WellFormed.{FaultKind, undefined, wrong_kind, wrong_type, not_here, no_terminator, phi_edges, not_defined, arguments, comes_from_probe, depends_on_probe, HasFault, NoneHasFault, is_undefined, is_wrong_kind, is_wrong_type}
use Rattle.lh_unit.proofs.ById.{lines_define-append as defined-more}
use Rattle.lh_selftest_laws.specs.Words.{bit, word, typed, signal, gives, number, instance, begins_with}
use Rattle.lh_selftest_laws.specs.Chain.{stage, next_of, chain_first, link_signals, link_register, link_adder, link_instances, chain_last, chain_lines, chain_unit, chain_file}
use Rattle.lh_selftest_laws.proofs.Processes.{site}
use Rattle.lh_selftest_laws.proofs.Signals.{given-front, given-defined, links_from, signal_lines, Wired, clock-wired, next-wired, stage-wired}

module _ (n : ℕ) where
  abbrev y : UnitText
  y = chain_unit n

  abbrev items : List ItemText
  items = chain_file n

  -- a line that stands behind these has no fault
  abbrev pub IsClean : (before : List LineText) → LineText → Type 0
  IsClean before l = (k : ℕ) (first : Bool) (b : BlockText) (after : List LineText) (f : FaultKind)
      → ¬ HasFault items (site y (record { number = k; in_entry = first; block = b; before = before; line = l; after = after })) f

  -- each of these lines
  abbrev AllClean : (before : List LineText) → List LineText → Type 0
  AllClean before [] = Unit {0}
  AllClean before (l ∷ more) = IsClean before l × AllClean (before ++ l ∷ []) more

  clean-both : (before xs ys : List LineText) → AllClean before xs → AllClean (before ++ xs) ys → AllClean before (xs ++ ys)
  clean-both before [] ys h k = subst (λ z. AllClean z ys) (append-nil before) k
  clean-both before (x ∷ xs) ys h k = (h.0, clean-both (before ++ x ∷ []) xs ys h.1 (subst (λ z. AllClean z ys) (sym (append_assoc before (x ∷ []) xs)) k))

  clean-places : (k : ℕ) (first : Bool) (b : BlockText) (before rest : List LineText) → AllClean before rest → NoneHasFault items (map (site y) (places_in k first b before rest))
  clean-places k first b before [] h = tt
  clean-places k first b before (l ∷ rest) h = (h.0 k first b rest, clean-places (k + 1) first b (before ++ l ∷ []) rest h.1)

  -- ---- constants

  const-clean : (before : List LineText) (r : List ℕ) (d : Datum) → IsClean before (gives r (const_text d))
  const-clean before r d k first b after undefined = clash _ refl
  const-clean before r d k first b after wrong_kind = clash _ refl
  const-clean before r d k first b after wrong_type = clash _ refl
  const-clean before r d k first b after not_here = clash _ refl
  const-clean before r d k first b after no_terminator = clash _ refl
  const-clean before r d k first b after phi_edges = clash _ refl
  const-clean before r d k first b after not_defined = λ h. clash false refl h.1
  const-clean before r d k first b after arguments = clash _ refl

  -- ---- signals

  -- a constant of a type
  record Constant (t : TypeTree) (a : List ℕ) : Type 0 where
    value : Datum
    giving : inst_giving a y.blocks ≡ Some (const_text value)
    type : value_type y a ≡ Some t
    kind : value_kind y a ≡ Some a_datum
    defined : defines_value a y ≡ true

  module _ (before : List LineText) (r : List ℕ) (w : ℕ) (a : List ℕ) (carries : is_data (int_type w) ≡ true) (c : Constant (int_type w) a) (earlier : lines_define a before ≡ true) where
    abbrev begins : InstText
    begins = sig_text (typed (int_type w) a)

    sig-undefined : is_undefined items y begins ≡ false
    sig-undefined j = (not (c.defined j) || false) || false || false

    sig-kind : is_wrong_kind items y begins ≡ false
    sig-kind j = (option_map_or (λ k. not (takes data_needed k)) (c.kind j) false || false) || false || option_map_or (comes_from_probe (depends_on_probe (length (places y)) y)) (c.giving j) false

    sig-has : has_type y (int_type w) a ≡ true
    sig-has = ap (λ o. option_map_or (λ s. same_type s (int_type w)) o false) c.type ∙ same-refl (int_type w)

    sig-type : is_wrong_type items y begins ≡ false
    sig-type j = (option_map_or (λ (k : Kind). false) (c.kind j) true || false) || not (carries j && sig-has j) || false

    sig-clean : IsClean before (gives r begins)
    sig-clean k first b after undefined = clash _ sig-undefined
    sig-clean k first b after wrong_kind = clash _ sig-kind
    sig-clean k first b after wrong_type = clash _ sig-type
    sig-clean k first b after not_here = clash _ refl
    sig-clean k first b after no_terminator = clash _ refl
    sig-clean k first b after phi_edges = clash _ refl
    sig-clean k first b after not_defined = λ h. clash _ (λ j. not (earlier j) || false) h.1
    sig-clean k first b after arguments = clash _ refl

  first-constant : Constant bit (codes "z1")
  first-constant = record { value = _; giving = refl; type = refl; kind = refl; defined = refl }

  zero-constant : Constant word (codes "z")
  zero-constant = record { value = _; giving = refl; type = refl; kind = refl; defined = refl }

  one-constant : Constant word (codes "o")
  one-constant = record { value = _; giving = refl; type = refl; kind = refl; defined = refl }

  first-clean : AllClean [] chain_first
  first-clean =
      let a : LineText = gives (codes "z1") (number 1 0) in
      let b : LineText = gives (codes "z") (number 32 0) in
      let c : LineText = gives (codes "o") (number 32 1) in
      let d : LineText = gives (codes "clk") (begins_with bit "z1") in (
        const-clean [] (codes "z1") (int_value 1 0),
        (
          const-clean (a ∷ []) (codes "z") (int_value 32 0),
          (
            const-clean (a ∷ b ∷ []) (codes "o") (int_value 32 1),
            (sig-clean (a ∷ b ∷ c ∷ []) (codes "clk") 1 (codes "z1") refl first-constant refl, (sig-clean (a ∷ b ∷ c ∷ d ∷ []) (stage 0) 32 (codes "o") refl one-constant refl, tt)),
          ),
        ),
      )

  signals-clean : (before : List LineText) (is : List ℕ) → lines_define (codes "z") before ≡ true → AllClean before (flat_map link_signals is)
  signals-clean before [] h = tt
  signals-clean before (i ∷ is) h =
      let first : LineText = gives (next_of i) (begins_with word "z") in
      let second : LineText = gives (stage (i + 1)) (begins_with word "z") in
      let p : lines_define (codes "z") (before ++ first ∷ []) ≡ true = defined-more (codes "z") before (first ∷ []) h in
      let q : lines_define (codes "z") ((before ++ first ∷ []) ++ second ∷ []) ≡ true = defined-more (codes "z") (before ++ first ∷ []) (second ∷ []) p in (
        sig-clean before (next_of i) 32 (codes "z") refl zero-constant h,
        (sig-clean (before ++ first ∷ []) (stage (i + 1)) 32 (codes "z") refl zero-constant p, signals-clean ((before ++ first ∷ []) ++ second ∷ []) is q),
      )

  -- ---- instances

  -- a signal that is given earlier
  record Right (before : List LineText) (t : TypeTree) (a : List ℕ) : Type 0 where
    kind : value_kind y a ≡ Some a_signal
    has : has_type y (signal_type t) a ≡ true
    defined : defines_value a y ≡ true
    earlier : lines_define a before ≡ true

  -- what the signal lines define is defined before
  abbrev AllBefore : List LineText → Type 0
  AllBefore before = (a : List ℕ) → lines_define a (signal_lines n) ≡ true → lines_define a before ≡ true

  wired-right : (before : List LineText) (t : TypeTree) (a : List ℕ) → AllBefore before → Wired (signal_lines n) t a → Right before t a
  wired-right before t a all w =
      let front : line_giving a (signal_lines n ++ flat_map link_instances (range_with_len 0 n)) ≡ Some w.inst =
      given-front a (signal_lines n) (flat_map link_instances (range_with_len 0 n)) w.inst w.gives in
      let whole : line_giving a (chain_lines n) ≡ Some w.inst = given-front a (signal_lines n ++ flat_map link_instances (range_with_len 0 n)) chain_last w.inst front in
      record {
        kind = ap (λ o. option_and_then result_kind (or_else o None)) whole ∙ w.kind;
        has = ap (λ o. option_map_or (λ s. same_type s (signal_type t)) (option_and_then result_type (or_else o None)) false) whole
            ∙ ap (λ o. option_map_or (λ s. same_type s (signal_type t)) o false) w.type ∙ same-refl (signal_type t);
        defined = ap (λ b. b || false) (given-defined a (chain_lines n) w.inst whole);
        earlier = all a (given-defined a (signal_lines n) w.inst w.gives);
      }

  abbrev wrong : Option Kind → Bool
  wrong o = option_map_or (λ k. not (takes signal_needed k)) o false

  abbrev none : Option Kind → Bool
  none o = option_map_or (λ (k : Kind). false) o true

  module _ (before : List LineText) (a b c : List ℕ) where
    -- a register
    ff-clean : Right before bit a → Right before word b → Right before word c → IsClean before (instance "ff" (signal bit a ∷ signal word b ∷ []) (signal word c ∷ []))
    ff-clean ra rb rc k first bl after undefined = clash _ (λ j. (not (ra.defined j) || (not (rb.defined j) || (not (rc.defined j) || false))) || false || false)
    ff-clean ra rb rc k first bl after wrong_kind = clash _ (λ j. (wrong (ra.kind j) || (wrong (rb.kind j) || (wrong (rc.kind j) || false))) || false || false)
    ff-clean ra rb rc k first bl after wrong_type = clash _
        (λ j. (none (ra.kind j) || (none (rb.kind j) || (none (rc.kind j) || false))) || not ((ra.has j && (rb.has j && true)) && (rc.has j && true)) || false)
    ff-clean ra rb rc k first bl after not_here = clash _ refl
    ff-clean ra rb rc k first bl after no_terminator = clash _ refl
    ff-clean ra rb rc k first bl after phi_edges = clash _ refl
    ff-clean ra rb rc k first bl after not_defined = λ h. clash _ (λ j. not (ra.earlier j) || (not (rb.earlier j) || (not (rc.earlier j) || false))) h.1
    ff-clean ra rb rc k first bl after arguments = clash _ (λ j. not ((ra.has j && (rb.has j && true)) && (rc.has j && true)))

    -- an adder
    comb-clean : Right before word a → Right before word b → Right before word c → IsClean before (instance "comb" (signal word a ∷ signal word b ∷ []) (signal word c ∷ []))
    comb-clean ra rb rc k first bl after undefined = clash _ (λ j. (not (ra.defined j) || (not (rb.defined j) || (not (rc.defined j) || false))) || false || false)
    comb-clean ra rb rc k first bl after wrong_kind = clash _ (λ j. (wrong (ra.kind j) || (wrong (rb.kind j) || (wrong (rc.kind j) || false))) || false || false)
    comb-clean ra rb rc k first bl after wrong_type = clash _
        (λ j. (none (ra.kind j) || (none (rb.kind j) || (none (rc.kind j) || false))) || not ((ra.has j && (rb.has j && true)) && (rc.has j && true)) || false)
    comb-clean ra rb rc k first bl after not_here = clash _ refl
    comb-clean ra rb rc k first bl after no_terminator = clash _ refl
    comb-clean ra rb rc k first bl after phi_edges = clash _ refl
    comb-clean ra rb rc k first bl after not_defined = λ h. clash _ (λ j. not (ra.earlier j) || (not (rb.earlier j) || (not (rc.earlier j) || false))) h.1
    comb-clean ra rb rc k first bl after arguments = clash _ (λ j. not ((ra.has j && (rb.has j && true)) && (rc.has j && true)))

  -- the testbench
  tb-clean : (before : List LineText) (a b : List ℕ) → Right before word a → Right before bit b → IsClean before (instance "tb" (signal word a ∷ []) (signal bit b ∷ []))
  tb-clean before a b ra rb k first bl after undefined = clash _ (λ j. (not (ra.defined j) || (not (rb.defined j) || false)) || false || false)
  tb-clean before a b ra rb k first bl after wrong_kind = clash _ (λ j. (wrong (ra.kind j) || (wrong (rb.kind j) || false)) || false || false)
  tb-clean before a b ra rb k first bl after wrong_type = clash _ (λ j. (none (ra.kind j) || (none (rb.kind j) || false)) || not ((ra.has j && true) && (rb.has j && true)) || false)
  tb-clean before a b ra rb k first bl after not_here = clash _ refl
  tb-clean before a b ra rb k first bl after no_terminator = clash _ refl
  tb-clean before a b ra rb k first bl after phi_edges = clash _ refl
  tb-clean before a b ra rb k first bl after not_defined = λ h. clash _ (λ j. not (ra.earlier j) || (not (rb.earlier j) || false)) h.1
  tb-clean before a b ra rb k first bl after arguments = clash _ (λ j. not ((ra.has j && true) && (rb.has j && true)))

  before-more : (before more : List LineText) → AllBefore before → AllBefore (before ++ more)
  before-more before more all a h = defined-more a before more (all a h)

  instances-clean : (before : List LineText) (a m : ℕ) → n ≤ 1000 → AllBefore before → a + m ≤ n → AllClean before (flat_map link_instances (range_with_len a m))
  instances-clean before a zero h all l = tt
  instances-clean before a (suc m) h all l =
      let r : LineText = link_register a in
      let s : LineText = link_adder a in
      let clk : Wired (signal_lines n) bit (codes "clk") = clock-wired n in
      let d : Wired (signal_lines n) word (next_of a) = next-wired n a h (omega arith) in
      let x : Wired (signal_lines n) word (stage a) = stage-wired n a h (omega arith) in
      let z : Wired (signal_lines n) word (stage (a + 1)) = stage-wired n (a + 1) h (omega arith) in
      let all1 : AllBefore (before ++ r ∷ []) = before-more before (r ∷ []) all in
      let all2 : AllBefore ((before ++ r ∷ []) ++ s ∷ []) = before-more (before ++ r ∷ []) (s ∷ []) all1 in
      let k : a + 1 + m ≤ n = omega arith in (
        ff-clean before (codes "clk") (next_of a) (stage (a + 1)) (wired-right before bit (codes "clk") all clk) (wired-right before word (next_of a) all d)
            (wired-right before word (stage (a + 1)) all z),
        (
          comb-clean (before ++ r ∷ []) (stage (a + 1)) (stage a) (next_of a) (wired-right (before ++ r ∷ []) word (stage (a + 1)) all1 z) (wired-right (before ++ r ∷ []) word (stage a) all1 x)
              (wired-right (before ++ r ∷ []) word (next_of a) all1 d),
          instances-clean ((before ++ r ∷ []) ++ s ∷ []) (a + 1) m h all2 k,
        ),
      )

  last-clean : (before : List LineText) → 1 ≤ n → n ≤ 1000 → AllBefore before → AllClean before chain_last
  last-clean before l h all = (
    tb-clean before (stage 1) (codes "clk") (wired-right before word (stage 1) all (stage-wired n 1 h l)) (wired-right before bit (codes "clk") all (clock-wired n)),
    tt,
  )

  pub entity-faultless : 1 ≤ n → n ≤ 1000 → NoneHasFault items (map (site y) (places y))
  entity-faultless l h =
      let ss : List LineText = links_from 0 n in
      let is : List LineText = flat_map link_instances (range_with_len 0 n) in
      let all : AllBefore (chain_first ++ ss) = λ a p. p in
      let s : AllClean chain_first ss = signals-clean chain_first (range_with_len 0 n) refl in
      let i : AllClean (chain_first ++ ss) is = instances-clean (chain_first ++ ss) 0 n h all (omega arith) in
      let e : AllClean (chain_first ++ ss ++ is) chain_last = last-clean (chain_first ++ ss ++ is) l h (before-more (chain_first ++ ss) is all) in
      let c : AllClean [] (chain_lines n) = clean-both [] (chain_first ++ ss ++ is) chain_last (clean-both [] (chain_first ++ ss) is (clean-both [] chain_first ss first-clean s) i) e in
      let b : BlockText = record { label = None; lines = chain_lines n } in
      subst (λ ps. NoneHasFault items (map (site y) ps)) (sym (append-nil (places_in 1 true b [] (chain_lines n)))) (clean-places 1 true b [] (chain_lines n) c)
