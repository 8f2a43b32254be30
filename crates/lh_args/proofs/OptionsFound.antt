-- What is found of the options so far.
use Rattle.std.proofs.Common.{◌≡◌, ℕ, suc, ◌+◌, ◌≤◌, ◌<◌, List, [], ◌∷◌, ◌++◌, length, refl, ap, sym, ◌∙◌, append_assoc, length-append, cond, true, false, Option, Some, None, Bor, arith, subst}
use Rattle.std.specs.Prelude.{option_map, option_to_list, is_some}
use Rattle.std.specs.List.{flat_map}
use Rattle.std.proofs.lemmas.List.{append-nil}
use Rattle.std.proofs.lemmas.Grind.{flat_map-append}
use Rattle.lh_args.specs.Forms.{Choice, top, steps, vcd, watch, spelled, names_in, numbers_in, vcds_in}
use Rattle.lh_args.specs.declared.found.FoundOptions.{FoundOptions}
use Rattle.lh_args.specs.Found.{OptionsAreFound, AtMostOnce, IsAllFound}
use Rattle.lh_args.proofs.Options.{names_in-append, numbers_in-append, vcds_in-append, Same, spelled-unique, spelled-some, Behind, behind}

abbrev pub texts : Option (Bor (List ℕ)) → List (List ℕ)
texts o = option_to_list (option_map (λ w. w.now) o)

no_text : (o : Option (Bor (List ℕ))) → is_some o ≡ false → texts o ≡ []
no_text None h = refl
no_text (Some w) h = cc

one_text : (o : Option (Bor (List ℕ))) → is_some o ≡ true → length (texts o) ≡ 1
one_text None h = cc
one_text (Some w) h = refl

pub found_top : (f : FoundOptions) (w : Bor (List ℕ)) (done : List Choice) → is_some f.top ≡ false → OptionsAreFound f done
    → OptionsAreFound (record { top = Some w; steps = f.steps; vcd = f.vcd }) (done ++ top w.now ∷ [])
found_top f w done none is =
    record {
      top = names_in-append done (top w.now ∷ []) ∙ ap (λ l. l ++ w.now ∷ []) (is.top ∙ no_text f.top none);
      steps = numbers_in-append done (top w.now ∷ []) ∙ append-nil (numbers_in done) ∙ is.steps;
      vcd = vcds_in-append done (top w.now ∷ []) ∙ (let e : vcds_in done ≡ cond f.vcd 1 0 = is.vcd in omega arith);
    }

pub found_steps : (f : FoundOptions) (w : Bor (List ℕ)) (done : List Choice) → is_some f.steps ≡ false → OptionsAreFound f done
    → OptionsAreFound (record { top = f.top; steps = Some w; vcd = f.vcd }) (done ++ steps w.now ∷ [])
found_steps f w done none is =
    record {
      top = names_in-append done (steps w.now ∷ []) ∙ append-nil (names_in done) ∙ is.top;
      steps = numbers_in-append done (steps w.now ∷ []) ∙ ap (λ l. l ++ w.now ∷ []) (is.steps ∙ no_text f.steps none);
      vcd = vcds_in-append done (steps w.now ∷ []) ∙ (let e : vcds_in done ≡ cond f.vcd 1 0 = is.vcd in omega arith);
    }

pub found_vcd : (f : FoundOptions) (done : List Choice) → f.vcd ≡ false → OptionsAreFound f done → OptionsAreFound (record { top = f.top; steps = f.steps; vcd = true }) (done ++ vcd ∷ [])
found_vcd f done none is =
    record {
      top = names_in-append done (vcd ∷ []) ∙ append-nil (names_in done) ∙ is.top;
      steps = numbers_in-append done (vcd ∷ []) ∙ append-nil (numbers_in done) ∙ is.steps;
      vcd = vcds_in-append done (vcd ∷ []) ∙ ap (λ n. n + 1) (is.vcd ∙ ap (λ b. cond b 1 0) none);
    }

pub found_watch : (f : FoundOptions) (t : List ℕ) (done : List Choice) → OptionsAreFound f done → OptionsAreFound f (done ++ watch t ∷ [])
found_watch f t done is =
    record {
      top = names_in-append done (watch t ∷ []) ∙ append-nil (names_in done) ∙ is.top;
      steps = numbers_in-append done (watch t ∷ []) ∙ append-nil (numbers_in done) ∙ is.steps;
      vcd = vcds_in-append done (watch t ∷ []) ∙ (let e : vcds_in done ≡ cond f.vcd 1 0 = is.vcd in omega arith);
    }

pub top_twice : (f : FoundOptions) (w : List ℕ) (done more : List Choice) → is_some f.top ≡ true → OptionsAreFound f done → AtMostOnce (done ++ top w ∷ more) → ⊥
top_twice f w done more some is once =
    let e : length (names_in (done ++ top w ∷ more)) ≡ length (names_in done) + suc (length (names_in more)) = ap length (names_in-append done (top w ∷ more))
    ∙ length-append (names_in done) (w ∷ names_in more) in
    let one : length (names_in done) ≡ 1 = ap length is.top ∙ one_text f.top some in
    let few : length (names_in (done ++ top w ∷ more)) ≤ 1 = once.tops in
    omega arith

pub steps_twice : (f : FoundOptions) (w : List ℕ) (done more : List Choice) → is_some f.steps ≡ true → OptionsAreFound f done → AtMostOnce (done ++ steps w ∷ more) → ⊥
steps_twice f w done more some is once =
    let e : length (numbers_in (done ++ steps w ∷ more)) ≡ length (numbers_in done) + suc (length (numbers_in more)) = ap length (numbers_in-append done (steps w ∷ more))
    ∙ length-append (numbers_in done) (w ∷ numbers_in more) in
    let one : length (numbers_in done) ≡ 1 = ap length is.steps ∙ one_text f.steps some in
    let few : length (numbers_in (done ++ steps w ∷ more)) ≤ 1 = once.steps in
    omega arith

pub vcd_twice : (f : FoundOptions) (done more : List Choice) → f.vcd ≡ true → OptionsAreFound f done → AtMostOnce (done ++ vcd ∷ more) → ⊥
vcd_twice f done more some is once =
    let e : vcds_in (done ++ vcd ∷ more) ≡ vcds_in done + suc (vcds_in more) = vcds_in-append done (vcd ∷ more) in
    let one : vcds_in done ≡ 1 = is.vcd ∙ ap (λ b. cond b 1 0) some in
    let few : vcds_in (done ++ vcd ∷ more) ≤ 1 = once.vcds in
    omega arith

-- the words so far are these options, and the rest is to be read
pub record Progress (words rest : List (List ℕ)) (f : FoundOptions) : Type 0 where
  pub done : List Choice
  pub whole : words ≡ flat_map spelled done ++ rest
  pub found : OptionsAreFound f done

pub begin : (words : List (List ℕ)) → Progress words words (record { top = None; steps = None; vcd = false })
begin words = record { done = []; whole = refl; found = record { top = refl; steps = refl; vcd = refl } }

pub one_more : (words rest more : List (List ℕ)) (f g : FoundOptions) (c : Choice) → Progress words rest f → rest ≡ spelled c ++ more
    → ((done : List Choice) → OptionsAreFound f done → OptionsAreFound g (done ++ c ∷ [])) → Progress words more g
one_more words rest more f g c p read next =
    record {
      done = p.done ++ c ∷ [];
      whole = p.whole ∙ ap (λ r. flat_map spelled p.done ++ r) read ∙ sym (append_assoc (flat_map spelled p.done) (spelled c) more)
          ∙ ap (λ l. l ++ more) (ap (λ l. flat_map spelled p.done ++ l) (sym (append-nil (spelled c))) ∙ sym (flat_map-append spelled p.done (c ∷ [])));
      found = next p.done p.found;
    }

no_option_at : (done all : List Choice) (rest : List (List ℕ)) → 0 < length rest → ((c : Choice) (more : List (List ℕ)) → rest ≡ spelled c ++ more → ⊥) → (os : List Choice)
    → flat_map spelled os ≡ rest → ⊥
no_option_at done all rest some none [] e = let l : 0 ≡ length rest = ap length e in omega arith
no_option_at done all rest some none (c ∷ os) e = none c (flat_map spelled os) (sym e)

pub no_option : (words rest : List (List ℕ)) (f : FoundOptions) → Progress words rest f → 0 < length rest → ((c : Choice) (more : List (List ℕ)) → rest ≡ spelled c ++ more → ⊥)
    → (all : List Choice) → words ≡ flat_map spelled all → AtMostOnce all → ⊥
no_option words rest f p some none all written once =
    let b : Behind p.done all rest = behind p.done all rest (sym written ∙ p.whole) in
    no_option_at p.done all rest some none b.more b.written

twice_at : (done all : List Choice) (rest more : List (List ℕ)) (c : Choice) → rest ≡ spelled c ++ more → ((more : List Choice) → AtMostOnce (done ++ c ∷ more) → ⊥)
    → AtMostOnce all → (os : List Choice) → all ≡ done ++ os → flat_map spelled os ≡ rest → ⊥
twice_at done all rest more c read none once [] split e = spelled-some c more (e ∙ read)
twice_at done all rest more c read none once (d ∷ os) split e =
    let u : Same d c (flat_map spelled os) more = spelled-unique d c _ _ (e ∙ read) in
    none os (subst AtMostOnce (split ∙ ap (λ x. done ++ x ∷ os) u.option) once)

pub given_twice : (words rest more : List (List ℕ)) (f : FoundOptions) (c : Choice) → Progress words rest f → rest ≡ spelled c ++ more
    → ((done more : List Choice) → OptionsAreFound f done → AtMostOnce (done ++ c ∷ more) → ⊥)
    → (all : List Choice) → words ≡ flat_map spelled all → AtMostOnce all → ⊥
given_twice words rest more f c p read none all written once =
    let b : Behind p.done all rest = behind p.done all rest (sym written ∙ p.whole) in
    twice_at p.done all rest more c read (λ os. none p.done os p.found) once b.more b.split b.written

pub all_read : (words rest : List (List ℕ)) (f : FoundOptions) → Progress words rest f → rest ≡ [] → IsAllFound words f
all_read words rest f p end = record { all = p.done; written = p.whole ∙ ap (λ r. flat_map spelled p.done ++ r) end ∙ append-nil (flat_map spelled p.done); found = p.found }
