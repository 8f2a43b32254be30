-- The entity of a chain can be printed.
use Rattle.std.proofs.Common.{◌≡◌, ℕ, zero, suc, ◌+◌, ◌*◌, ◌<◌, ◌≤◌, Bool, true, false, ◌||◌, List, [], ◌∷◌, ◌++◌, length, refl, ap, sym, ◌∙◌, subst, arith, length-append, append_assoc}
use Rattle.std.specs.Prelude.{codes}
use Rattle.std.specs.List.{flat_map, range_with_len}
use Rattle.std.proofs.lemmas.List.{append-nil}
use Rattle.std.proofs.lemmas.List.FromFn.{length-range_with_len}
use Rattle.lh_unit.specs.Contents.{LineText, lines_define}
use Rattle.lh_unit_names.specs.Names.{same_name}
use Rattle.lh_unit.specs.Within.{Each}
use Rattle.lh_unit.proofs.Defined.{lines_define-append}
use Rattle.lh_unit.proofs.Lists.{Each-append as each-append}
use Rattle.lh_text_laws.specs.Printable.{HasInstLine, IsPrintable, result_repeats, results_repeat}
use Rattle.lh_selftest_laws.specs.Words.{word, gives, begins_with}
use Rattle.lh_selftest_laws.specs.Chain.{stage, next_of, chain_first, link_signals, link_register, link_adder, link_instances, chain_last, chain_lines, chain_unit}
use Rattle.lh_selftest_laws.proofs.Lines.{one, whole, const-line, sig-line, Port, instance-line, instance_two-line}
use Rattle.lh_selftest_laws.proofs.Names.{stage-named, next-named, stages-differ, nexts-differ}
use Rattle.lh_selftest_laws.proofs.ChainPrints.{chain-header}

-- ---- each line

links-written : (f : ℕ → List LineText) (b a n : ℕ) → ((i : ℕ) → i < b → Each HasInstLine (f i)) → a + n ≤ b → Each HasInstLine (flat_map f (range_with_len a n))
links-written f b a zero h l = tt
links-written f b a (suc n) h l =
    let m : a < b = omega arith in
    let k : a + 1 + n ≤ b = omega arith in
    each-append HasInstLine (f a) (flat_map f (range_with_len (a + 1) n)) (h a m) (links-written f b (a + 1) n h k)

first-written : Each HasInstLine chain_first
first-written = (
  const-line 1 one (codes "z1") 0 (codes "0") refl refl refl (omega arith),
  (
    const-line 32 whole (codes "z") 0 (codes "0") refl refl refl (omega arith),
    (
      const-line 32 whole (codes "o") 1 (codes "1") refl refl refl (omega arith),
      (sig-line 1 one (codes "clk") (codes "z1") refl refl, (sig-line 32 whole (stage 0) (codes "o") (stage-named 0 (omega arith)) refl, tt)),
    ),
  ),
)

signals-written : (i : ℕ) → i < 1000 → Each HasInstLine (link_signals i)
signals-written i h = (
  sig-line 32 whole (next_of i) (codes "z") (next-named i (omega arith)) refl,
  (sig-line 32 whole (stage (i + 1)) (codes "z") (stage-named (i + 1) (omega arith)) refl, tt),
)

clock : Port
clock = record { n = 1; width = one; name = codes "clk"; named = refl }

at_stage : (k : ℕ) → k ≤ 1000 → Port
at_stage k h = record { n = 32; width = whole; name = stage k; named = stage-named k h }

at_next : (i : ℕ) → i ≤ 1000 → Port
at_next i h = record { n = 32; width = whole; name = next_of i; named = next-named i h }

instances-written : (i : ℕ) → i < 1000 → Each HasInstLine (link_instances i)
unfolding clock at_stage at_next
instances-written i h =
    let k : i ≤ 1000 = omega arith in
    let l : i + 1 ≤ 1000 = omega arith in (
      instance_two-line (codes "ff") clock (at_next i k) (at_stage (i + 1) l) refl,
      (instance_two-line (codes "comb") (at_stage (i + 1) l) (at_stage i k) (at_next i k) refl, tt),
    )

last-written : Each HasInstLine chain_last
unfolding clock at_stage
last-written = (instance-line (codes "tb") (at_stage 1 (omega arith)) clock refl, tt)

chain-written : (n : ℕ) → n ≤ 1000 → Each HasInstLine (chain_lines n)
chain-written n h =
    let ss : List LineText = flat_map link_signals (range_with_len 0 n) in
    let is : List LineText = flat_map link_instances (range_with_len 0 n) in
    let l : 0 + n ≤ 1000 = omega arith in
    let s : Each HasInstLine ss = links-written link_signals 1000 0 n signals-written l in
    let i : Each HasInstLine is = links-written link_instances 1000 0 n instances-written l in
    each-append HasInstLine (chain_first ++ ss ++ is) chain_last
    (each-append HasInstLine (chain_first ++ ss) is (each-append HasInstLine chain_first ss first-written s) i) last-written

-- ---- no name stands twice

results-join : (seen xs ys : List LineText) → results_repeat [] seen xs ≡ false → results_repeat [] (seen ++ xs) ys ≡ false → results_repeat [] seen (xs ++ ys) ≡ false
results-join seen [] ys h k = subst (λ z. results_repeat [] z ys ≡ false) (append-nil seen) k
results-join seen (x ∷ xs) ys h k = at (result_repeats [] seen x.result) h (results-join (seen ++ x ∷ []) xs ys)
  where
    at : (b : Bool) → (b || results_repeat [] (seen ++ x ∷ []) xs) ≡ false
        → (results_repeat [] (seen ++ x ∷ []) xs ≡ false → results_repeat [] ((seen ++ x ∷ []) ++ xs) ys ≡ false → results_repeat [] (seen ++ x ∷ []) (xs ++ ys) ≡ false)
        → (b || results_repeat [] (seen ++ x ∷ []) (xs ++ ys)) ≡ false
    at true q r = absurd cc
    at false q r = r q (subst (λ z. results_repeat [] z ys ≡ false) (sym (append_assoc seen (x ∷ []) xs)) k)

-- the names of the signals from this link on are new behind these lines
record Fresh (seen : List LineText) (a : ℕ) : Type 0 where
  nexts : (i : ℕ) → a ≤ i → i < 1000 → lines_define (next_of i) seen ≡ false
  stages : (i : ℕ) → a ≤ i → i < 1000 → lines_define (stage (i + 1)) seen ≡ false

-- a name that differs from a new one is new behind it
still-new : (n m : List ℕ) (seen : List LineText) → lines_define n seen ≡ false → same_name m n ≡ false → lines_define n (seen ++ gives m (begins_with word "z") ∷ []) ≡ false
still-new n m seen h d = lines_define-append n seen (gives m (begins_with word "z") ∷ []) ∙ ap (λ b. b || (same_name m n || false)) h ∙ ap (λ b. b || false) d

fresh-next : (seen : List LineText) (a : ℕ) → Fresh seen a → a < 1000 → Fresh ((seen ++ gives (next_of a) (begins_with word "z") ∷ []) ++ gives (stage (a + 1)) (begins_with word "z") ∷ []) (a + 1)
fresh-next seen a f l = record {
  nexts = λ i h k. still-new (next_of i) (stage (a + 1)) (seen ++ gives (next_of a) (begins_with word "z") ∷ [])
      (still-new (next_of i) (next_of a) seen (f.nexts i (omega arith) k) (nexts-differ a i (omega arith) (omega arith) (λ e. omega arith))) refl;
  stages = λ i h k. still-new (stage (i + 1)) (stage (a + 1)) (seen ++ gives (next_of a) (begins_with word "z") ∷ [])
      (still-new (stage (i + 1)) (next_of a) seen (f.stages i (omega arith) k) refl) (stages-differ (a + 1) (i + 1) (omega arith) (omega arith) (λ e. omega arith));
}

signals-new : (seen : List LineText) (a n : ℕ) → Fresh seen a → a + n ≤ 1000 → results_repeat [] seen (flat_map link_signals (range_with_len a n)) ≡ false
signals-new seen a zero f l = refl
signals-new seen a (suc n) f l =
    let k : a < 1000 = omega arith in
    let m : a + 1 + n ≤ 1000 = omega arith in
    let p : lines_define (next_of a) seen ≡ false = f.nexts a (omega arith) k in
    let q : lines_define (stage (a + 1)) (seen ++ gives (next_of a) (begins_with word "z") ∷ []) ≡ false = still-new (stage (a + 1)) (next_of a) seen (f.stages a (omega arith) k) refl in
    let r = signals-new ((seen ++ gives (next_of a) (begins_with word "z") ∷ []) ++ gives (stage (a + 1)) (begins_with word "z") ∷ []) (a + 1) n (fresh-next seen a f k) m in
    rw (p, q) r

first-fresh : Fresh chain_first 0
first-fresh = record {
  nexts = λ i h k. refl;
  stages = λ i h k. let d : same_name (stage 0) (stage (i + 1)) ≡ false = stages-differ 0 (i + 1) (omega arith) (omega arith) (λ e. omega arith) in ap (λ b. b || false) d;
}

-- instances give nothing
instances-new : (is : List ℕ) (seen : List LineText) → results_repeat [] seen (flat_map link_instances is) ≡ false
instances-new [] seen = refl
instances-new (i ∷ is) seen = instances-new is ((seen ++ link_register i ∷ []) ++ link_adder i ∷ [])

chain-new : (n : ℕ) → n ≤ 1000 → results_repeat [] [] (chain_lines n) ≡ false
chain-new n h =
    let ss : List LineText = flat_map link_signals (range_with_len 0 n) in
    let is : List LineText = flat_map link_instances (range_with_len 0 n) in
    results-join [] (chain_first ++ ss ++ is) chain_last
    (results-join [] (chain_first ++ ss) is (results-join [] chain_first ss refl (signals-new chain_first 0 n first-fresh (omega arith))) (instances-new (range_with_len 0 n) (chain_first ++ ss)))
    refl

-- ---- how many lines there are

pairs : (f : ℕ → List LineText) → ((i : ℕ) → length (f i) ≡ 2) → (is : List ℕ) → length (flat_map f is) ≡ 2 * length is
pairs f h [] = refl
pairs f h (i ∷ is) = omega (arith, length-append (f i) (flat_map f is), h i, pairs f h is)

pub chain-length : (n : ℕ) → length (chain_lines n) ≡ 4 * n + 6
chain-length n =
    let ns : List ℕ = range_with_len 0 n in
    let l : length ns ≡ n = length-range_with_len 0 n in
    omega (
      arith,
      length-append (chain_first ++ flat_map link_signals ns ++ flat_map link_instances ns) chain_last,
      length-append (chain_first ++ flat_map link_signals ns) (flat_map link_instances ns),
      length-append chain_first (flat_map link_signals ns),
      pairs link_signals (λ i. refl) ns,
      pairs link_instances (λ i. refl) ns,
      l,
    )

pub chain-printable : (n : ℕ) → n ≤ 1000 → IsPrintable (chain_unit n)
chain-printable n h = record {
  headed = chain-header;
  shaped = refl;
  written = subst (Each HasInstLine) (sym (append-nil (chain_lines n))) (chain-written n h);
  no_assert = refl;
  new_args = refl;
  new_labels = refl;
  new_results = subst (λ z. results_repeat [] [] z ≡ false) (sym (append-nil (chain_lines n))) (chain-new n h);
  fits = omega (arith, chain-length n);
}
