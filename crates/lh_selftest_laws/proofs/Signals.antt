-- What the entity of a chain gives under each name.
use Rattle.std.proofs.Common.{◌≡◌, ℕ, zero, suc, ◌+◌, ◌<◌, ◌≤◌, Bool, true, false, ◌||◌, if◌then◌else◌, List, [], ◌∷◌, ◌++◌, Some, None, refl, ap, ◌∙◌, subst, arith}
use Rattle.std.specs.Prelude.{codes}
use Rattle.std.specs.List.{flat_map, range_with_len}
use Rattle.lh_types.specs.Types.{TypeTree, signal_type}
use Rattle.lh_unit.specs.Contents.{InstText, LineText, is_result_name, lines_define}
use Rattle.lh_unit_names.specs.Names.{same_name}
use Rattle.lh_unit.specs.Kinds.{a_signal, result_kind}
use Rattle.lh_unit.specs.Typing.{result_type, line_giving}
use Rattle.lh_unit.proofs.Lists.{Same, same, other, same_or}
use Rattle.lh_unit.proofs.ById.{line_giving-later}
use Rattle.lh_unit_names.proofs.NameLists.{same_name-refl}
use Rattle.lh_selftest_laws.specs.Words.{bit, word, begins_with}
use Rattle.lh_selftest_laws.specs.Chain.{stage, next_of, chain_first, link_signals}
use Rattle.lh_selftest_laws.proofs.Names.{stages-differ, nexts-differ}

-- ---- the line that gives a name

pub given-front : (n : List ℕ) (xs ys : List LineText) (i : InstText) → line_giving n xs ≡ Some i → line_giving n (xs ++ ys) ≡ Some i
given-front n [] ys i h = absurd cc
given-front n (x ∷ xs) ys i h = at (is_result_name n x.result) h (given-front n xs ys i)
  where
    at : (b : Bool) → (if b then Some x.inst else line_giving n xs) ≡ Some i → (line_giving n xs ≡ Some i → line_giving n (xs ++ ys) ≡ Some i)
        → (if b then Some x.inst else line_giving n (xs ++ ys)) ≡ Some i
    at true q r = q
    at false q r = r q

-- what is given is defined
pub given-defined : (n : List ℕ) (xs : List LineText) (i : InstText) → line_giving n xs ≡ Some i → lines_define n xs ≡ true
given-defined n [] i h = absurd cc
given-defined n (x ∷ xs) i h = at (is_result_name n x.result) h (given-defined n xs i)
  where
    at : (b : Bool) → (if b then Some x.inst else line_giving n xs) ≡ Some i → (line_giving n xs ≡ Some i → lines_define n xs ≡ true) → (b || lines_define n xs) ≡ true
    at true q r = refl
    at false q r = r q

-- ---- the signals of the links

abbrev pub links_from : (a n : ℕ) → List LineText
links_from a n = flat_map link_signals (range_with_len a n)

next-given : (i a n : ℕ) → a ≤ i → i < a + n → a + n ≤ 1000 → line_giving (next_of i) (links_from a n) ≡ Some (begins_with word "z")
next-given i a zero l m h = absurd (omega arith)
next-given i a (suc n) l m h = at (same_or a i) (λ k. next-given i (a + 1) n k (omega arith) (omega arith))
  where
    at : Same a i → (a + 1 ≤ i → line_giving (next_of i) (links_from (a + 1) n) ≡ Some (begins_with word "z")) → line_giving (next_of i) (links_from a (suc n)) ≡ Some (begins_with word "z")
    at (same e) r =
        ap (λ (b : Bool). if b then Some (begins_with word "z") else line_giving (next_of i) (links_from (a + 1) n)) (ap (λ k. same_name (next_of k) (next_of i)) e ∙ same_name-refl (next_of i))
    at (other d) r =
        ap (λ (b : Bool). if b then Some (begins_with word "z") else line_giving (next_of i) (links_from (a + 1) n)) (nexts-differ a i (omega arith) (omega arith) d) ∙ r (omega arith)

stage-given : (i a n : ℕ) → a ≤ i → i < a + n → a + n ≤ 1000 → line_giving (stage (i + 1)) (links_from a n) ≡ Some (begins_with word "z")
stage-given i a zero l m h = absurd (omega arith)
stage-given i a (suc n) l m h = at (same_or a i) (λ k. stage-given i (a + 1) n k (omega arith) (omega arith))
  where
    at : Same a i → (a + 1 ≤ i → line_giving (stage (i + 1)) (links_from (a + 1) n) ≡ Some (begins_with word "z")) → line_giving (stage (i + 1)) (links_from a (suc n)) ≡ Some (begins_with word "z")
    at (same e) r =
        ap (λ (b : Bool). if b then Some (begins_with word "z") else line_giving (stage (i + 1)) (links_from (a + 1) n))
        (ap (λ k. same_name (stage (k + 1)) (stage (i + 1))) e ∙ same_name-refl (stage (i + 1)))
    at (other d) r =
        ap (λ (b : Bool). if b then Some (begins_with word "z") else line_giving (stage (i + 1)) (links_from (a + 1) n))
        (stages-differ (a + 1) (i + 1) (omega arith) (omega arith) (λ e. d (omega arith)))
        ∙ r (omega arith)

-- the constants, and the signals of all links
abbrev pub signal_lines : (n : ℕ) → List LineText
signal_lines n = chain_first ++ links_from 0 n

-- a name that is given as a signal by these lines
pub record Wired (ls : List LineText) (t : TypeTree) (name : List ℕ) : Type 0 where
  pub inst : InstText
  pub gives : line_giving name ls ≡ Some inst
  pub type : result_type inst ≡ Some (signal_type t)
  pub kind : result_kind inst ≡ Some a_signal

wired-front : (ls more : List LineText) (t : TypeTree) (name : List ℕ) → Wired ls t name → Wired (ls ++ more) t name
wired-front ls more t name h = record { inst = h.inst; gives = given-front name ls more h.inst h.gives; type = h.type; kind = h.kind }

pub clock-wired : (n : ℕ) → Wired (signal_lines n) bit (codes "clk")
clock-wired n = wired-front chain_first (links_from 0 n) bit (codes "clk") (record { inst = begins_with bit "z1"; gives = refl; type = refl; kind = refl })

pub next-wired : (n i : ℕ) → n ≤ 1000 → i < n → Wired (signal_lines n) word (next_of i)
next-wired n i h l = record {
  inst = begins_with word "z";
  gives = line_giving-later (next_of i) chain_first (links_from 0 n) refl ∙ next-given i 0 n (omega arith) (omega arith) (omega arith);
  type = refl;
  kind = refl;
}

first-stage : (n : ℕ) → Wired (signal_lines n) word (stage 0)
first-stage n = wired-front chain_first (links_from 0 n) word (stage 0)
    (record { inst = begins_with word "o"; gives = ap (λ (b : Bool). if b then Some (begins_with word "o") else None) (same_name-refl (stage 0)); type = refl; kind = refl })

later-stage : (n i : ℕ) → n ≤ 1000 → i < n → Wired (signal_lines n) word (stage (i + 1))
later-stage n i h l =
    let none : line_giving (stage (i + 1)) chain_first
    ≡ None = ap (λ (b : Bool). if b then Some (begins_with word "o") else None) (stages-differ 0 (i + 1) (omega arith) (omega arith) (λ e. omega arith)) in
    record {
      inst = begins_with word "z";
      gives = line_giving-later (stage (i + 1)) chain_first (links_from 0 n) none ∙ stage-given i 0 n (omega arith) (omega arith) (omega arith);
      type = refl;
      kind = refl;
    }

pub stage-wired : (n k : ℕ) → n ≤ 1000 → k ≤ n → Wired (signal_lines n) word (stage k)
stage-wired n zero h l = first-stage n
stage-wired n (suc i) h l = let e : i + 1 ≡ suc i = omega arith in subst (λ k. Wired (signal_lines n) word (stage k)) e (later-stage n i h (omega arith))
