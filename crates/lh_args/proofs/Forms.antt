-- What words ask for, from their options.
use Rattle.std.proofs.Common.{◌≡◌, ℕ, ◌≤◌, List, [], ◌∷◌, length, refl, ap, sym, ◌∙◌, cond, Bool, true, false, Option, Some, None, Bor, arith, subst}
use Rattle.std.specs.Prelude.{codes, MatchBool, IfNone}
use Rattle.std.specs.List.{flat_map}
use Rattle.std.specs.Str.{bytes_eq}
use Rattle.lh_unit_names.specs.declared.name.UnitName.{UnitName}
use Rattle.lh_unit.specs.Numerals.{number_of}
use Rattle.lh_args.specs.Forms.{Choice, spelled, names_in, numbers_in, titles_in, vcds_in, name_meant, IsCount, max_steps, SimulateRequest, Simulates, FileRequest, check, lower, simulate, WordsAskFor, WordsAskForSelfTest}
use Rattle.lh_args.specs.declared.found.FoundOptions.{FoundOptions}
use Rattle.lh_args.specs.Found.{AtMostOnce, IsAllFound}
use Rattle.lh_args.specs.Meant.{titles_from, at_option}
use Rattle.lh_args.proofs.Options.{written-unique}
use Rattle.lh_args.proofs.WatchTitles.{titles_written}

pub if_none : {T : Type 0} (r : Option T) (P : Type 0) → P → IfNone r P
if_none None P p = p
if_none (Some x) P p = tt

vcds_few : (b : Bool) (n : ℕ) → MatchBool b (n ≡ 1) (n ≡ 0) → n ≤ 1
vcds_few true n e = omega arith
vcds_few false n e = omega arith

-- the options of a simulation are given as often as they may be
pub once : (words : List (List ℕ)) (s : SimulateRequest) (p : Simulates words s) → AtMostOnce p.options
once words s p =
    record {
      tops = let e : length (names_in p.options) ≡ 1 = ap length p.one_top in omega arith;
      steps = let e : length (numbers_in p.options) ≡ 1 = ap length p.one_number in omega arith;
      vcds = vcds_few s.vcd (vcds_in p.options) p.vcd_at_most_once;
    }

-- the words behind `simulate` are the options
pub behind_first : (options : List (List ℕ)) (s : SimulateRequest) (p : Simulates (codes "simulate" ∷ options) s) → options ≡ flat_map spelled p.options
behind_first options s p = cc (p.written)

pub not_options : (options : List (List ℕ)) → ((all : List Choice) → options ≡ flat_map spelled all → AtMostOnce all → ⊥) → (s : SimulateRequest) → Simulates (codes "simulate" ∷ options) s → ⊥
not_options options none s p = none p.options (behind_first options s p) (once _ s p)

-- the options that were found are those of the simulation
same_options : (options : List (List ℕ)) (f : FoundOptions) (a : IsAllFound options f) (s : SimulateRequest) (p : Simulates (codes "simulate" ∷ options) s) → a.all ≡ p.options
same_options options f a s p = written-unique a.all p.options (sym a.written ∙ behind_first options s p)

pub no_top : (options : List (List ℕ)) (f : FoundOptions) → IsAllFound options f → f.top ≡ None → (s : SimulateRequest) → Simulates (codes "simulate" ∷ options) s → ⊥
no_top options f a none s p =
    let has : names_in a.all ≡ p.name ∷ [] = ap names_in (same_options options f a s p) ∙ p.one_top in
    let has_none : names_in a.all ≡ [] = rw none at a.found.top in
    cc

pub no_steps : (options : List (List ℕ)) (f : FoundOptions) → IsAllFound options f → f.steps ≡ None → (s : SimulateRequest) → Simulates (codes "simulate" ∷ options) s → ⊥
no_steps options f a none s p =
    let has : numbers_in a.all ≡ p.number ∷ [] = ap numbers_in (same_options options f a s p) ∙ p.one_number in
    let has_none : numbers_in a.all ≡ [] = rw none at a.found.steps in
    cc

pub no_count : (options : List (List ℕ)) (f : FoundOptions) (number : Bor (List ℕ)) → IsAllFound options f → f.steps ≡ Some number → ((n : ℕ) → IsCount max_steps number.now n → ⊥)
    → (s : SimulateRequest) → Simulates (codes "simulate" ∷ options) s → ⊥
no_count options f number a some none s p =
    let has : numbers_in a.all ≡ p.number ∷ [] = ap numbers_in (same_options options f a s p) ∙ p.one_number in
    let found : numbers_in a.all ≡ number.now ∷ [] = rw some at a.found.steps in
    let same : p.number ≡ number.now = cc in
    none s.steps (subst (λ w. IsCount max_steps w s.steps) same p.steps_said)

vcds_match : (b : Bool) (n : ℕ) → n ≡ cond b 1 0 → MatchBool b (n ≡ 1) (n ≡ 0)
vcds_match true n e = e
vcds_match false n e = e

pub simulates : (options : List (List ℕ)) (f : FoundOptions) (name number : Bor (List ℕ)) (n : ℕ) (unit : UnitName) → IsAllFound options f → f.top ≡ Some name → f.steps ≡ Some number
    → IsCount max_steps number.now n → unit ≡ name_meant name.now
    → Simulates (codes "simulate" ∷ options) (record { top = unit; steps = n; vcd = f.vcd; titles = titles_from at_option options })
simulates options f name number n unit a top steps count meant =
    record {
      options = a.all;
      name = name.now;
      number = number.now;
      written = ap (λ l. codes "simulate" ∷ l) a.written;
      one_top = rw top at a.found.top;
      top_meant = meant;
      one_number = rw steps at a.found.steps;
      steps_said = count;
      vcd_at_most_once = vcds_match f.vcd (vcds_in a.all) a.found.vcd;
      titles_given = ap (titles_from at_option) a.written ∙ titles_written a.all;
    }

-- no words ask for two things
same_vcd : (a b : Bool) (n : ℕ) → MatchBool a (n ≡ 1) (n ≡ 0) → MatchBool b (n ≡ 1) (n ≡ 0) → a ≡ b
same_vcd true true n p q = refl
same_vcd false false n p q = refl
same_vcd true false n p q = absurd (omega arith)
same_vcd false true n p q = absurd (omega arith)

same_simulation : (s t : SimulateRequest) → s.top ≡ t.top → s.steps ≡ t.steps → s.vcd ≡ t.vcd → s.titles ≡ t.titles → s ≡ t
same_simulation s t p q r u = λ i. record { top = p i; steps = q i; vcd = r i; titles = u i }

one_simulation : (words : List (List ℕ)) (s t : SimulateRequest) → Simulates words s → Simulates words t → s ≡ t
one_simulation words s t p q =
    let first : codes "simulate" ∷ flat_map spelled p.options ≡ codes "simulate" ∷ flat_map spelled q.options = sym p.written ∙ q.written in
    let behind : flat_map spelled p.options ≡ flat_map spelled q.options = cc in
    let options : p.options ≡ q.options = written-unique p.options q.options behind in
    let names : p.name ∷ [] ≡ q.name ∷ [] = sym p.one_top ∙ ap names_in options ∙ q.one_top in
    let name : p.name ≡ q.name = cc in
    let numbers : p.number ∷ [] ≡ q.number ∷ [] = sym p.one_number ∙ ap numbers_in options ∙ q.one_number in
    let number : p.number ≡ q.number = cc in
    let said : Some s.steps ≡ Some t.steps = sym p.steps_said.says ∙ ap number_of number ∙ q.steps_said.says in
    let steps : s.steps ≡ t.steps = cc in
    let vcd : MatchBool t.vcd (vcds_in p.options ≡ 1) (vcds_in p.options ≡ 0) = subst (λ l. MatchBool t.vcd (vcds_in l ≡ 1) (vcds_in l ≡ 0)) (sym options) q.vcd_at_most_once in
    same_simulation s t (p.top_meant ∙ ap name_meant name ∙ sym q.top_meant) steps (same_vcd s.vcd t.vcd (vcds_in p.options) p.vcd_at_most_once vcd)
    (p.titles_given ∙ ap titles_in options ∙ sym q.titles_given)

-- the first word of a simulation
simulate-first : (words : List (List ℕ)) (s : SimulateRequest) (w : List ℕ) → Simulates words s → words ≡ w ∷ [] → w ≡ codes "simulate"
simulate-first words s w p e = let f : w ∷ [] ≡ codes "simulate" ∷ flat_map spelled p.options = sym e ∙ p.written in cc

one-same : (v w : List ℕ) → v ∷ [] ≡ w ∷ [] → v ≡ w
one-same v w e = cc

check-no-lower : codes "check" ≡ codes "lower" → ⊥
check-no-lower e = let q : true ≡ false = ap (bytes_eq (codes "check")) e in cc

check-no-simulate : codes "check" ≡ codes "simulate" → ⊥
check-no-simulate e = cc

lower-no-simulate : codes "lower" ≡ codes "simulate" → ⊥
lower-no-simulate e = cc

pub one_form : (words : List (List ℕ)) (a b : FileRequest) → WordsAskFor words a → WordsAskFor words b → a ≡ b
one_form words check check p q = refl
one_form words lower lower p q = refl
one_form words (simulate s) (simulate t) p q = ap simulate (one_simulation words s t p q)
one_form words check lower p q = absurd (check-no-lower (one-same (codes "check") (codes "lower") (sym p ∙ q)))
one_form words lower check p q = absurd (check-no-lower (one-same (codes "check") (codes "lower") (sym q ∙ p)))
one_form words check (simulate t) p q = absurd (check-no-simulate (simulate-first words t (codes "check") q p))
one_form words (simulate s) check p q = absurd (check-no-simulate (simulate-first words s (codes "check") p q))
one_form words lower (simulate t) p q = absurd (lower-no-simulate (simulate-first words t (codes "lower") q p))
one_form words (simulate s) lower p q = absurd (lower-no-simulate (simulate-first words s (codes "lower") p q))

-- self-tests
pub one_self_test : (words : List (List ℕ)) (n m : ℕ) → WordsAskForSelfTest words n → WordsAskForSelfTest words m → n ≡ m
one_self_test words n m p q =
    let same : codes "selftest" ∷ p.number ∷ [] ≡ codes "selftest" ∷ q.number ∷ [] = sym p.written ∙ q.written in
    let number : p.number ≡ q.number = cc in
    let said : Some n ≡ Some m = sym p.links_said.says ∙ ap number_of number ∙ q.links_said.says in
    cc

-- the first of two words
two_words : (v w x : List ℕ) (more : List (List ℕ)) → v ∷ w ∷ [] ≡ x ∷ more → v ≡ x
two_words v w x more e = cc

no_simulate : codes "selftest" ≡ codes "simulate" → ⊥
no_simulate e = let q : true ≡ false = ap (bytes_eq (codes "selftest")) e in cc

pub no_file : (words : List (List ℕ)) (links : ℕ) (a : FileRequest) → WordsAskForSelfTest words links → WordsAskFor words a → ⊥
no_file words links check p q = let e : codes "selftest" ∷ p.number ∷ [] ≡ codes "check" ∷ [] = sym p.written ∙ q in cc
no_file words links lower p q = let e : codes "selftest" ∷ p.number ∷ [] ≡ codes "lower" ∷ [] = sym p.written ∙ q in cc
no_file words links (simulate s) p q = no_simulate (two_words (codes "selftest") p.number (codes "simulate") (flat_map spelled q.options) (sym p.written ∙ q.written))

-- more or fewer words than two ask for none
pub no_number : (words more : List (List ℕ)) → words ≡ codes "selftest" ∷ more → more ≡ [] → (links : ℕ) → WordsAskForSelfTest words links → ⊥
no_number words more is none links p = let e : codes "selftest" ∷ p.number ∷ [] ≡ codes "selftest" ∷ [] = sym p.written ∙ is ∙ ap (λ m. codes "selftest" ∷ m) none in cc
