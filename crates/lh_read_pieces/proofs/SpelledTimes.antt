-- Times: what is found is spelled so, and what is spelled so is found.
use Rattle.std.proofs.Common.{◌≡◌, ℕ, ◌*◌, ◌<◌, ◌≤◌, Bool, true, false, List, [], ◌∷◌, ◌++◌, length, take, drop, Option, Some, None, nat_eq, refl, ap, sym, ◌∙◌, subst, arith, inl, inr, append_assoc}
use Rattle.std.specs.Prelude.{◌^◌, if◌then◌else◌, ◌&&◌, option_map, codes}
use Rattle.std.specs.Cmp.Lexicographic.{same_text}
use Rattle.std.proofs.Math.Seq.{take-append_seam, drop-append_seam}
use Rattle.std.proofs.lemmas.List.{take-append-drop, length-take-le}
use Rattle.std.proofs.lemmas.Grind.{common_steps}
use lib.Pointwise.{pointwise}
use Rattle.lh_time.specs.declared.Delay.{Delay}
use Rattle.lh_unit_names.specs.Names.{same_bytes}
use Rattle.lh_unit.specs.Lexemes.{Lexeme, word, global, local, arrow, minus, punct}
use Rattle.lh_unit.specs.Numerals.{is_digit, number_of}
use Rattle.lh_unit.specs.SpellsNumbers.{unit_scale, SpellsFemtoseconds, SpellsSteps, SpellsTime}
use Rattle.lh_read_pieces.specs.Pieces.{◌>>=◌, any_word_at, end_at, below, small, small_number}
use Rattle.lh_read_pieces.specs.Times.{digit_run, unit_places, shifted, with_unit, pointed, femtoseconds, before_last, counted, steps_or, steps_at, time_at}
use Rattle.lh_read_pieces.specs.Shorter.{bind_some}
use Rattle.lh_read_pieces.proofs.Pieces.{any_word_at-inv, end_at-inv, below-inv, below-again, small-inv, small-below}
use Rattle.lh_read_pieces.proofs.Runs.{shifted-grows}
use Rattle.lh_read_pieces.proofs.Decimals.{number-append, number-split, number-some, number-run, digits-run, run-le, shifted-sound, shifted-again}

-- units
same-pointwise : (xs ys : List ℕ) → same_bytes xs ys ≡ pointwise nat_eq xs ys
same-pointwise [] [] = refl
same-pointwise [] (y ∷ ys) = refl
same-pointwise (x ∷ xs) [] = refl
same-pointwise (x ∷ xs) (y ∷ ys) = ap (λ b. nat_eq x y && b) (same-pointwise xs ys)

abbrev scale_by : (s ms us ns ps fs : Bool) → Option ℕ
scale_by s ms us ns ps fs = if s then Some (10 ^ 15) else if ms then Some (10 ^ 12) else if us then Some (10 ^ 9) else if ns then Some (10 ^ 6) else if ps then Some (10 ^ 3) else if fs then Some
    1 else None

abbrev places_by : (s ms us ns ps fs : Bool) → Option ℕ
places_by s ms us ns ps fs = if s then Some 15 else if ms then Some 12 else if us then Some 9 else if ns then Some 6 else if ps then Some 3 else if fs then Some 0 else None

places-scale : (s ms us ns ps fs : Bool) → scale_by s ms us ns ps fs ≡ option_map (λ k. 10 ^ k) (places_by s ms us ns ps fs)
places-scale true ms us ns ps fs = refl
places-scale false true us ns ps fs = refl
places-scale false false true ns ps fs = refl
places-scale false false false true ps fs = refl
places-scale false false false false true fs = refl
places-scale false false false false false true = refl
places-scale false false false false false false = refl

unit-scale : (u : List ℕ) → unit_scale u ≡ option_map (λ k. 10 ^ k) (unit_places u)
unit-scale u =
    (λ i. scale_by (same-pointwise u (codes "s") i) (same-pointwise u (codes "ms") i) (same-pointwise u (codes "us") i) (same-pointwise u (codes "ns") i) (same-pointwise u (codes "ps") i)
    (same-pointwise u (codes "fs") i))
    ∙ places-scale (pointwise nat_eq u (codes "s")) (pointwise nat_eq u (codes "ms")) (pointwise nat_eq u (codes "us")) (pointwise nat_eq u (codes "ns")) (pointwise nat_eq u (codes "ps")) (pointwise
    nat_eq u (codes "fs"))

map-some : (o : Option ℕ) (s : ℕ) → option_map (λ k. 10 ^ k) o ≡ Some s → (k : ℕ) × (o ≡ Some k) × (10 ^ k ≡ s)
map-some None s e = cc
map-some (Some k) s e = (k, refl, cc)

-- a unit begins with a letter
record Begins (u : List ℕ) : Type 0 where
  first : ℕ
  rest : List ℕ
  is : u ≡ first ∷ rest
  no_digit : is_digit first ≡ false
  no_point : nat_eq first 46 ≡ false

begins-with : (u x rest : List ℕ) (b : ℕ) → pointwise nat_eq u x ≡ true → x ≡ b ∷ rest → is_digit b ≡ false → nat_eq b 46 ≡ false → Begins u
begins-with u x rest b e f d p = record { first = b; rest = rest; is = same_text u x (sym e) ∙ f; no_digit = d; no_point = p }

unit-begins : (u : List ℕ) (k : ℕ) → unit_places u ≡ Some k → Begins u
unit-begins u k e =
    by (pointwise nat_eq u (codes "s")) (pointwise nat_eq u (codes "ms")) (pointwise nat_eq u (codes "us")) (pointwise nat_eq u (codes "ns")) (pointwise nat_eq u (codes "ps"))
    (pointwise nat_eq u (codes "fs"))
    refl refl refl refl refl refl e
  where
    by : (s ms us ns ps fs : Bool) → pointwise nat_eq u (codes "s") ≡ s → pointwise nat_eq u (codes "ms") ≡ ms → pointwise nat_eq u (codes "us") ≡ us → pointwise nat_eq u (codes "ns") ≡ ns
        → pointwise nat_eq u (codes "ps") ≡ ps → pointwise nat_eq u (codes "fs") ≡ fs → places_by s ms us ns ps fs ≡ Some k → Begins u
    by true ms us ns ps fs a b c d f g q = begins-with u (codes "s") [] 115 a refl refl refl
    by false true us ns ps fs a b c d f g q = begins-with u (codes "ms") (115 ∷ []) 109 b refl refl refl
    by false false true ns ps fs a b c d f g q = begins-with u (codes "us") (115 ∷ []) 117 c refl refl refl
    by false false false true ps fs a b c d f g q = begins-with u (codes "ns") (115 ∷ []) 110 d refl refl refl
    by false false false false true fs a b c d f g q = begins-with u (codes "ps") (115 ∷ []) 112 f refl refl refl
    by false false false false false true a b c d f g q = begins-with u (codes "fs") (115 ∷ []) 102 g refl refl refl
    by false false false false false false a b c d f g q = cc

begins-run : (u : List ℕ) → Begins u → digit_run u ≡ 0
begins-run u b = let d = b.no_digit in ap digit_run b.is ∙ (rw d refl)

-- a number and a unit
with_unit-inv : (whole part unit : List ℕ) (fs : ℕ) → with_unit whole part unit ≡ Some fs → (k : ℕ) × (n : ℕ) × (unit_places unit ≡ Some k) × (number_of whole ≡ Some n) × (shifted n k part ≡ Some fs)
    × (fs < 2 ^ 63)
unfolding with_unit
with_unit-inv whole part unit fs e =
    let a = bind_some (unit_places unit) _ fs e in
    let b = bind_some (small_number whole) _ fs a.2 in
    let c = below-inv (2 ^ 63) (shifted b.0 a.0 part) fs b.2 in
    (a.0, b.0, a.1, small-inv (number_of whole) b.0 b.1, c.0, c.1)

with_unit-again : (whole part unit : List ℕ) (k n fs : ℕ) → unit_places unit ≡ Some k → number_of whole ≡ Some n → shifted n k part ≡ Some fs → fs < 2 ^ 63 → with_unit whole part unit ≡ Some fs
unfolding with_unit
with_unit-again whole part unit k n fs p e s h =
    let u : n < 2 ^ 128 = omega (arith, shifted-grows k n part fs s) in
    ap (λ o. o >>= λ i. (small_number whole >>= λ j. below (2 ^ 63) (shifted j i part))) p
    ∙ ap (λ o. small o >>= λ j. below (2 ^ 63) (shifted j k part)) e
    ∙ ap (λ o. o >>= λ j. below (2 ^ 63) (shifted j k part)) (small-below n u)
    ∙ ap (below (2 ^ 63)) s ∙ below-again (2 ^ 63) fs h

plain-sound : (whole unit : List ℕ) (fs : ℕ) → with_unit whole [] unit ≡ Some fs → SpellsFemtoseconds fs (whole ++ unit)
plain-sound whole unit fs e =
    let a = with_unit-inv whole [] unit fs e in
    let s = shifted-sound a.0 a.1 [] fs a.4 in
    let f : a.1 ≡ s.0 = cc in
    record {
      numeral = whole;
      unit = unit;
      together = refl;
      n = a.1;
      places = 0;
      says = inl (a.3, refl);
      scale = 10 ^ a.0;
      known = unit-scale unit ∙ ap (option_map (λ k. 10 ^ k)) a.2;
      whole = ap (λ x. x * 10 ^ a.0) f ∙ s.2;
      below = a.5;
    }

point-sound : (whole part unit : List ℕ) (fs : ℕ) → 1 ≤ length part → with_unit whole part unit ≡ Some fs → SpellsFemtoseconds fs (whole ++ 46 ∷ (part ++ unit))
point-sound whole part unit fs h e =
    let a = with_unit-inv whole part unit fs e in
    let s = shifted-sound a.0 a.1 part fs a.4 in
    record {
      numeral = whole ++ 46 ∷ part;
      unit = unit;
      together = sym (append_assoc whole (46 ∷ part) unit);
      n = s.0;
      places = length part;
      says = inr (whole, part, refl, number-append whole part a.1 a.3 ∙ s.1, number-some whole a.1 a.3, h, refl);
      scale = 10 ^ a.0;
      known = unit-scale unit ∙ ap (option_map (λ k. 10 ^ k)) a.2;
      whole = s.2;
      below = a.5;
    }

pointed-sound : (whole more : List ℕ) (fs : ℕ) → pointed whole more ≡ Some fs → SpellsFemtoseconds fs (whole ++ more)
pointed-sound whole [] fs e = cc
pointed-sound whole (b ∷ bs) fs e = by (nat_eq b 46) (nat_eq (digit_run bs) 0) refl refl e
  where
    by : (c d : Bool) → nat_eq b 46 ≡ c → nat_eq (digit_run bs) 0 ≡ d
        → (if c then (if d then None else with_unit whole (take (digit_run bs) bs) (drop (digit_run bs) bs)) else with_unit whole [] (b ∷ bs)) ≡ Some fs → SpellsFemtoseconds fs (whole ++ b ∷ bs)
    by false d f g q = plain-sound whole (b ∷ bs) fs q
    by true true f g q = cc
    by true false f g q =
        let l : length (take (digit_run bs) bs) ≡ digit_run bs = length-take-le (digit_run bs) bs (run-le bs) in
        let z : 1 ≤ digit_run bs = grind (arith, common_steps) in
        let x : b ≡ 46 = grind (arith, common_steps) in
        let s = point-sound whole (take (digit_run bs) bs) (drop (digit_run bs) bs) fs (omega (arith, l, z)) q in
        subst (λ w. SpellsFemtoseconds fs (whole ++ w)) (ap (λ w. 46 ∷ w) (take-append-drop (digit_run bs) bs) ∙ ap (λ y. y ∷ bs) (sym x)) s

femtoseconds-sound : (w : List ℕ) (fs : ℕ) → femtoseconds w ≡ Some fs → SpellsFemtoseconds fs w
unfolding femtoseconds
femtoseconds-sound w fs e = subst (SpellsFemtoseconds fs) (take-append-drop (digit_run w) w) (pointed-sound (take (digit_run w) w) (drop (digit_run w) w) fs e)

-- digits and what follows them
femtoseconds-split : (whole more : List ℕ) → digit_run (whole ++ more) ≡ length whole → femtoseconds (whole ++ more) ≡ pointed whole more
unfolding femtoseconds
femtoseconds-split whole more e =
    ap (λ k. pointed (take k (whole ++ more)) (drop k (whole ++ more))) e
    ∙ (λ i. pointed (take-append_seam whole more i) (drop-append_seam whole more i))

plain-again : (fs : ℕ) (w : List ℕ) (s : SpellsFemtoseconds fs w) → number_of s.numeral ≡ Some s.n → s.places ≡ 0 → femtoseconds w ≡ Some fs
plain-again fs w s e z =
    let p = map-some (unit_places s.unit) s.scale (sym (unit-scale s.unit) ∙ s.known) in
    let b = unit-begins s.unit p.0 p.1 in
    let v : s.n * 10 ^ p.0 ≡ fs * 10 ^ 0 = ap (λ x. s.n * x) p.2 ∙ s.whole ∙ ap (λ x. fs * 10 ^ x) z in
    let t = with_unit-again s.numeral [] s.unit p.0 s.n fs p.1 e (shifted-again p.0 s.n [] s.n fs refl v) s.below in
    let n = b.no_point in
    let u : pointed s.numeral s.unit ≡ with_unit s.numeral [] s.unit = ap (pointed s.numeral) b.is ∙ (rw n refl) ∙ ap (with_unit s.numeral []) (sym b.is) in
    ap femtoseconds s.together ∙ femtoseconds-split s.numeral s.unit (number-run s.numeral s.unit s.n e (begins-run s.unit b)) ∙ u ∙ t

point-again : (fs : ℕ) (w : List ℕ) (s : SpellsFemtoseconds fs w) (whole part : List ℕ) → s.numeral ≡ whole ++ 46 ∷ part → number_of (whole ++ part) ≡ Some s.n → 1 ≤ length whole → 1 ≤ length part
    → s.places ≡ length part
    → femtoseconds w ≡ Some fs
point-again fs w s whole part e n h l z =
    let p = map-some (unit_places s.unit) s.scale (sym (unit-scale s.unit) ∙ s.known) in
    let b = unit-begins s.unit p.0 p.1 in
    let m = number-split whole part s.n h n in
    let v : s.n * 10 ^ p.0 ≡ fs * 10 ^ length part = ap (λ x. s.n * x) p.2 ∙ s.whole ∙ ap (λ x. fs * 10 ^ x) z in
    let t = with_unit-again whole part s.unit p.0 m.0 fs p.1 m.1 (shifted-again p.0 m.0 part s.n fs m.2 v) s.below in
    let r : digit_run (part ++ s.unit) ≡ length part = digits-run part s.unit m.0 s.n m.2 (begins-run s.unit b) in
    let g : nat_eq (length part) 0 ≡ false = above (length part) l in
    let u : pointed whole (46 ∷ (part ++ s.unit)) ≡ with_unit whole part s.unit =
    ap (λ k. if nat_eq k 0 then None else with_unit whole (take k (part ++ s.unit)) (drop k (part ++ s.unit))) r
    ∙ ap (λ c. if c then None else with_unit whole (take (length part) (part ++ s.unit)) (drop (length part) (part ++ s.unit))) g
    ∙ (λ i. with_unit whole (take-append_seam part s.unit i) (drop-append_seam part s.unit i)) in
    ap femtoseconds (s.together ∙ ap (λ x. x ++ s.unit) e ∙ append_assoc whole (46 ∷ part) s.unit)
    ∙ femtoseconds-split whole (46 ∷ (part ++ s.unit)) (number-run whole (46 ∷ (part ++ s.unit)) m.0 m.1 refl) ∙ u ∙ t
  where
    above : (x : ℕ) → 1 ≤ x → nat_eq x 0 ≡ false
    above x y = grind (arith, common_steps)

femtoseconds-again : (fs : ℕ) (w : List ℕ) → SpellsFemtoseconds fs w → femtoseconds w ≡ Some fs
femtoseconds-again fs w s = elim s.says [
  | inl h ↦ plain-again fs w s h.0 h.1
  | inr h ↦ point-again fs w s h.0 h.1 h.2 h.3 h.4 h.5 h.6
]

-- steps
before_last-sound : (c : ℕ) (w v : List ℕ) → before_last c w ≡ Some v → w ≡ v ++ c ∷ []
before_last-sound c [] v e = cc
before_last-sound c (b ∷ []) v e = by (nat_eq b c) refl e
  where
    by : (t : Bool) → nat_eq b c ≡ t → (if t then Some [] else None) ≡ Some v → b ∷ [] ≡ v ++ c ∷ []
    by true g q = let x : b ≡ c = grind (arith, common_steps) in let f : [] ≡ v = cc in (λ i. x i ∷ []) ∙ ap (λ l. l ++ c ∷ []) f
    by false g q = cc
before_last-sound c (b ∷ d ∷ bs) v e = by (before_last c (d ∷ bs)) refl e (before_last-sound c (d ∷ bs))
  where
    by : (o : Option (List ℕ)) → before_last c (d ∷ bs) ≡ o → option_map (λ x. b ∷ x) o ≡ Some v → ((x : List ℕ) → before_last c (d ∷ bs) ≡ Some x → d ∷ bs ≡ x ++ c ∷ []) → b ∷ d ∷ bs ≡ v ++ c ∷ []
    by None g q r = cc
    by (Some x) g q r = let f : (b ∷ x) ≡ v = cc in ap (λ l. b ∷ l) (r x g) ∙ ap (λ l. l ++ c ∷ []) f

before_last-of : (c d : ℕ) (v : List ℕ) → before_last c (v ++ d ∷ []) ≡ (if nat_eq d c then Some v else None)
before_last-of c d [] = refl
before_last-of c d (b ∷ []) = by (nat_eq d c)
  where
    by : (t : Bool) → option_map (λ x. b ∷ x) (if t then Some [] else None) ≡ (if t then Some (b ∷ []) else None)
    by true = refl
    by false = refl
before_last-of c d (b ∷ e ∷ bs) = ap (option_map (λ x. b ∷ x)) (before_last-of c d (e ∷ bs)) ∙ by (nat_eq d c)
  where
    by : (t : Bool) → option_map (λ x. b ∷ x) (if t then Some (e ∷ bs) else None) ≡ (if t then Some (b ∷ e ∷ bs) else None)
    by true = refl
    by false = refl

counted-inv : (o : Option ℕ) (ts : List Lexeme) (r : ℕ × List Lexeme) → counted o ts ≡ Some r → (o ≡ Some r.0) × (ts ≡ r.1)
counted-inv None ts r e = cc
counted-inv (Some n) ts r e = (cc, cc)

steps_at-sound : (letter : ℕ) (ts : List Lexeme) (r : ℕ × List Lexeme) → steps_at letter ts ≡ Some r → SpellsSteps letter r.0 ts r.1
steps_at-sound letter (word w ∷ ts) r e = by (before_last letter w) refl e
  where
    by : (o : Option (List ℕ)) → before_last letter w ≡ o → steps_or (word w ∷ ts) ts o ≡ Some r → SpellsSteps letter r.0 (word w ∷ ts) r.1
    by None g q = let f : 0 ≡ r.0 = cc in let h : (word w ∷ ts) ≡ r.1 = cc in inl (sym f, h)
    by (Some v) g q =
        let a = counted-inv (below (2 ^ 31) (small_number v)) ts r q in
        let b = below-inv (2 ^ 31) (small_number v) r.0 a.0 in
        inr (v, (λ i. word (before_last-sound letter w v g i) ∷ a.1 i), small-inv (number_of v) r.0 b.0, b.1)
steps_at-sound letter [] r e = inl (cc, cc)
steps_at-sound letter (global n ∷ ts) r e = inl (cc, cc)
steps_at-sound letter (local n ∷ ts) r e = inl (cc, cc)
steps_at-sound letter (arrow ∷ ts) r e = inl (cc, cc)
steps_at-sound letter (minus ∷ ts) r e = inl (cc, cc)
steps_at-sound letter (punct b ∷ ts) r e = inl (cc, cc)

-- a count is found, and none is where none is found behind it
steps_at-again : (letter n : ℕ) (ts us : List Lexeme) → SpellsSteps letter n ts us → steps_at letter us ≡ Some (0, us) → nat_eq letter letter ≡ true → steps_at letter ts ≡ Some (n, us)
steps_at-again letter n ts us s f g = elim s [
  | inl h ↦ ap (steps_at letter) h.1 ∙ f ∙ ap (λ x. Some (x, us)) (sym h.0)
  | inr h ↦ some h.0 h.1 h.2 h.3
]
  where
    some : (w : List ℕ) → ts ≡ word (w ++ letter ∷ []) ∷ us → number_of w ≡ Some n → n < 2 ^ 31 → steps_at letter ts ≡ Some (n, us)
    some w e m h =
        let l : n < 2 ^ 128 = omega (arith, h) in
        ap (steps_at letter) e
        ∙ ap (steps_or (word (w ++ letter ∷ []) ∷ us) us) (before_last-of letter letter w ∙ ap (λ c. if c then Some w else None) g)
        ∙ ap (λ o. counted (below (2 ^ 31) (small o)) us) m
        ∙ ap (λ o. counted (below (2 ^ 31) o) us) (small-below n l)
        ∙ ap (λ o. counted o us) (below-again (2 ^ 31) n h)

-- behind epsilon steps there is no count of delta steps
no_delta : (n : ℕ) (ts : List Lexeme) → SpellsSteps 101 n ts [] → steps_at 100 ts ≡ Some (0, ts)
no_delta n ts s = elim s [
  | inl h ↦ ap (steps_at 100) h.1 ∙ ap (λ l. Some (0, l)) (sym h.1)
  | inr h ↦ ap (steps_at 100) h.1 ∙ ap (steps_or (word (h.0 ++ 101 ∷ []) ∷ []) []) (before_last-of 100 101 h.0) ∙ ap (λ l. Some (0, l)) (sym h.1)
]

-- what is found is a time that is spelled so
pub time_at-sound : (ts : List Lexeme) (d : Delay) → time_at ts ≡ Some d → SpellsTime d ts
unfolding time_at
time_at-sound ts d p =
    let a = bind_some (any_word_at ts) _ d p in
    let b = bind_some (femtoseconds a.0.0) _ d a.2 in
    let c = bind_some (steps_at 100 a.0.1) _ d b.2 in
    let e = bind_some (steps_at 101 c.0.1) _ d c.2 in
    let f = bind_some (end_at e.0.1) _ d e.2 in
    let q : record { fs = b.0; delta = c.0.0; eps = e.0.0 } ≡ d = cc in
    let x = subst (SpellsSteps 101 e.0.0 c.0.1) (end_at-inv e.0.1 f.0 f.1) (steps_at-sound 101 c.0.1 e.0 e.1) in
    let s : SpellsTime (record { fs = b.0; delta = c.0.0; eps = e.0.0 }) ts =
    (a.0.0, a.0.1, c.0.1, any_word_at-inv ts a.0 a.1, femtoseconds-sound a.0.0 b.0 b.1, steps_at-sound 100 a.0.1 c.0 c.1, x) in
    subst (λ y. SpellsTime y ts) q s

-- a time that is spelled so is found
pub time_at-again : (d : Delay) (ts : List Lexeme) → SpellsTime d ts → time_at ts ≡ Some d
unfolding time_at
time_at-again d ts s =
    ap time_at s.3
    ∙ ap (λ o. o >>= λ fs. (steps_at 100 s.1 >>= λ x. (steps_at 101 x.1 >>= λ y. (end_at y.1 >>= λ _. Some (record { fs = fs; delta = x.0; eps = y.0 }))))) (femtoseconds-again d.fs s.0 s.4)
    ∙ ap (λ o. o >>= λ x. (steps_at 101 x.1 >>= λ y. (end_at y.1 >>= λ _. Some (record { fs = d.fs; delta = x.0; eps = y.0 })))) (steps_at-again 100 d.delta s.1 s.2 s.5 (no_delta d.eps s.2 s.6) refl)
    ∙ ap (λ o. o >>= λ y. (end_at y.1 >>= λ _. Some (record { fs = d.fs; delta = d.delta; eps = y.0 }))) (steps_at-again 101 d.eps s.2 [] s.6 refl refl)
