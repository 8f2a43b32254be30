-- The bits of signals that are put one after the other.
use Rattle.std.proofs.Common.{arith, ◌≡◌, ℕ, ◌+◌, ◌-◌, ◌<◌, ◌≤◌, List, [], ◌∷◌, ◌++◌, length, get_or, take, drop, Bool, false, Some, refl, ap, sym, ◌∙◌, subst, ◌⊎◌, inl, inr}
use Rattle.std.specs.Prelude.{slice_get}
use Rattle.std.proofs.lemmas.Bool.{cases_lt, cases_eq}
use Rattle.std.proofs.lemmas.List.{take_more, take_all, length-append, length-take-le, get_or_append_left, get_or-append_right, get_or-take, get_or-drop}
use Rattle.std.proofs.lemmas.Option.{unwrap_or-slice_get}
use Rattle.lh_types.specs.Types.{IsData, bit_count}
use Rattle.lh_types.specs.Parts.{bits_within, bits_with}
use Rattle.lh_bits.proofs.PackedParts.{length-bits_with, length-bits_within}
use Rattle.lh_unit.specs.World.{bit_at}
use Rattle.lh_kernel_wakes.specs.Rising.{IsOneOf}
use Rattle.lh_design.specs.declared.Signal.{Signal}
use Rattle.lh_design.specs.Filling.{FillFrom}
use Rattle.lh_kernel_changes.specs.Touched.{StaysSame, OthersStay}
use Rattle.lh_kernel_changes.proofs.Filled.{has_of, of_has, at_signal, one_signal}
use Rattle.lh_kernel_wakes.proofs.GatheredNumbers.{has_left, has_right, has_either}
use Rattle.lh_kernel_changes.proofs.Same.{has_or, signals_are_all}

-- the bits of a row that is put, and the others
module _ (lo n : ℕ) (x y : List Bool) (p : lo + n ≤ length x) (q : lo + n ≤ length y) where
  front_len : length (take lo y) ≡ lo
  front_len = length-take-le lo y (omega arith)

  row_len : length (bits_within lo n x) ≡ n
  row_len = length-bits_within lo n x p

  both_len : length (take lo y ++ bits_within lo n x) ≡ lo + n
  both_len = omega (arith, length-append (take lo y) (bits_within lo n x), front_len, row_len)

  bit_put : (b : ℕ) → lo ≤ b → b < lo + n → bit_at (bits_with lo (bits_within lo n x) y) b ≡ bit_at x b
  bit_put b l m =
      let back : lo + (b - lo) ≡ b = omega arith in
      unwrap_or-slice_get (bits_with lo (bits_within lo n x) y) b false
      ∙ get_or_append_left (take lo y ++ bits_within lo n x) (drop (lo + length (bits_within lo n x)) y) false b (omega (arith, both_len))
      ∙ get_or-append_right (take lo y) (bits_within lo n x) lo b false front_len l
      ∙ get_or-take n (drop lo x) (b - lo) false (omega arith)
      ∙ get_or-drop lo x (b - lo) false
      ∙ ap (λ (k : ℕ). get_or x k false) back ∙ sym (unwrap_or-slice_get x b false)

  bit_before : (b : ℕ) → b < lo → bit_at (bits_with lo (bits_within lo n x) y) b ≡ bit_at y b
  bit_before b l =
      unwrap_or-slice_get (bits_with lo (bits_within lo n x) y) b false
      ∙ get_or_append_left (take lo y ++ bits_within lo n x) (drop (lo + length (bits_within lo n x)) y) false b (omega (arith, both_len))
      ∙ get_or_append_left (take lo y) (bits_within lo n x) false b (omega (arith, front_len))
      ∙ get_or-take lo y b false l ∙ sym (unwrap_or-slice_get y b false)

  bit_behind : (b : ℕ) → lo + n ≤ b → bit_at (bits_with lo (bits_within lo n x) y) b ≡ bit_at y b
  bit_behind b l =
      let back : lo + length (bits_within lo n x) + (b - (lo + n)) ≡ b = omega (arith, row_len) in
      unwrap_or-slice_get (bits_with lo (bits_within lo n x) y) b false
      ∙ get_or-append_right (take lo y ++ bits_within lo n x) (drop (lo + length (bits_within lo n x)) y) (lo + n) b false both_len l
      ∙ get_or-drop (lo + length (bits_within lo n x)) y (b - (lo + n)) false
      ∙ ap (λ (k : ℕ). get_or y k false) back ∙ sym (unwrap_or-slice_get y b false)

-- after the first of these were put
pub record PutTo (ss : List Signal) (ks : List ℕ) (i : ℕ) (old from now : List Bool) : Type 0 where
  pub len : length now ≡ length old
  pub put : (k : ℕ) → IsOneOf k (take i ks) → StaysSame ss from now k
  pub others : OthersStay ss (take i ks) old now

pub put_none : (ss : List Signal) (ks : List ℕ) (old from : List Bool) → PutTo ss ks 0 old from old
put_none ss ks old from = record { len = refl; put = λ k h. absurd h; others = λ k h b g. refl }

module _ (hi : ℕ) (ss : List Signal) (k : ℕ) (s : Signal) (from now new : List Bool) (f : FillFrom 0 ss hi) (e : slice_get ss k ≡ Some s) (p : length from ≡ hi) (q : length now ≡ hi)
    (w : new ≡ bits_with s.lo (bits_within s.lo (bit_count s.ty) from) now) where
  inside : s.lo + bit_count s.ty ≤ hi
  inside = let a : IsData s.ty × (s.lo + bit_count s.ty ≤ hi) = at_signal 0 hi ss k s f e in a.1

  put_one : StaysSame ss from new k
  put_one b h =
      let i : (s.lo ≤ b) × (b < s.lo + bit_count s.ty) = of_has ss k s b e h in
      sym (bit_put s.lo (bit_count s.ty) from now (omega (arith, inside)) (omega (arith, inside)) b i.0 i.1) ∙ ap (λ (bs : List Bool). bit_at bs b) (sym w)

  others_stay : (j : ℕ) → (j ≡ k → ⊥) → StaysSame ss now new j
  others_stay j other b h = elim (cases_lt b s.lo) [
    | inl l ↦ sym (bit_before s.lo (bit_count s.ty) from now (omega (arith, inside)) (omega (arith, inside)) b l) ∙ ap (λ (bs : List Bool). bit_at bs b) (sym w)
    | inr l ↦ elim (cases_lt b (s.lo + bit_count s.ty)) [
      | inl m ↦ absurd (other (one_signal hi ss j k b f h (has_of ss k s b e (l, m))))
      | inr m ↦ sym (bit_behind s.lo (bit_count s.ty) from now (omega (arith, inside)) (omega (arith, inside)) b m) ∙ ap (λ (bs : List Bool). bit_at bs b) (sym w)
    ]
  ]

  same_len : length new ≡ length now
  same_len = ap length w ∙ length-bits_with s.lo (bits_within s.lo (bit_count s.ty) from) now (omega (arith, inside, length-bits_within s.lo (bit_count s.ty) from (omega (arith, inside))))

-- one signal more
pub put_more : (hi : ℕ) (ss : List Signal) (ks : List ℕ) (i k : ℕ) (s : Signal) (old from now new : List Bool) → FillFrom 0 ss hi → i < length ks → k ≡ get_or ks i 0 → slice_get ss k ≡ Some s →
    length from ≡ hi → length old ≡ hi → new ≡ bits_with s.lo (bits_within s.lo (bit_count s.ty) from) now → PutTo ss ks i old from now → PutTo ss ks (i + 1) old from new
put_more hi ss ks i k s old from now new f l g e p o w t = record {
  len = same_len hi ss k s from now new f e p q w ∙ t.len;
  put = λ j h. elim (cases_eq j k) [
    | inl c ↦ subst (λ (m : ℕ). StaysSame ss from new m) (sym c) (put_one hi ss k s from now new f e p q w)
    | inr c ↦ later j c (has_either j (take i ks) (k ∷ []) (subst (λ (ms : List ℕ). IsOneOf j ms) next h))
  ];
  others = λ j h. untouched j (λ c. h (subst (λ (ms : List ℕ). IsOneOf j ms) (sym next) (has_right j (take i ks) (k ∷ []) (inl (sym c)))))
      (λ c. h (subst (λ (ms : List ℕ). IsOneOf j ms) (sym next) (has_left j (take i ks) (k ∷ []) c)));
}
  where
    q : length now ≡ hi
    q = t.len ∙ o

    next : take (i + 1) ks ≡ take i ks ++ k ∷ []
    next = take_more ks i 0 l ∙ ap (λ (m : ℕ). take i ks ++ m ∷ []) (sym g)

    kept : (j : ℕ) → (j ≡ k → ⊥) → StaysSame ss now new j
    kept j c = others_stay hi ss k s from now new f e p q w j c

    later : (j : ℕ) → (j ≡ k → ⊥) → IsOneOf j (take i ks) ⊎ IsOneOf j (k ∷ []) → StaysSame ss from new j
    later j c (inl h) b x = t.put j h b x ∙ kept j c b x
    later j c (inr (inl d)) b x = absurd (c (sym d))
    later j c (inr (inr d)) b x = absurd d

    untouched : (j : ℕ) → (j ≡ k → ⊥) → (IsOneOf j (take i ks) → ⊥) → StaysSame ss old new j
    untouched j c h b x = t.others j h b x ∙ kept j c b x

pub put_next : (hi : ℕ) (ss : List Signal) (ks : List ℕ) (i k n : ℕ) (s : Signal) (old from now new : List Bool) → FillFrom 0 ss hi → i < length ks → k ≡ get_or ks i 0 → slice_get ss k ≡ Some s →
    length from ≡ hi → length old ≡ hi → n ≡ bit_count s.ty → new ≡ bits_with s.lo (bits_within s.lo n from) now → PutTo ss ks i old from now → PutTo ss ks (i + 1) old from new
put_next hi ss ks i k n s old from now new f l g e p o c w t =
    put_more hi ss ks i k s old from now new f l g e p o (w ∙ ap (λ (m : ℕ). bits_with s.lo (bits_within s.lo m from) now) c) t

-- after all of them
pub put_all : (ss : List Signal) (ks touched : List ℕ) (i : ℕ) (old from now : List Bool) → ks ≡ touched → length ks ≤ i → PutTo ss ks i old from now
    → ((k : ℕ) → IsOneOf k touched → StaysSame ss from now k) × OthersStay ss touched old now
put_all ss ks touched i old from now v l t =
    let P : List ℕ → Type 0 = λ ms. ((k : ℕ) → IsOneOf k ms → StaysSame ss from now k) × OthersStay ss ms old now in
    subst P (take_all i ks l ∙ v) (t.put, t.others)

undone : (hi : ℕ) (ss : List Signal) (ks : List ℕ) (old from now : List Bool) → FillFrom 0 ss hi → length from ≡ hi → length now ≡ hi → ((k : ℕ) → IsOneOf k ks → StaysSame ss from now k)
    → OthersStay ss ks old now → OthersStay ss ks old from →
    now ≡ from
undone hi ss ks old from now f p q put stay same =
    signals_are_all ss hi now from f q p (λ k b h. elim (has_or k ks) [
      | inl g ↦ sym (put k g b h)
      | inr g ↦ sym (stay k g b h) ∙ same k g b h
    ])

pub undone_by : (hi : ℕ) (ss : List Signal) (ks touched : List ℕ) (i : ℕ) (old from now : List Bool) → ks ≡ touched → FillFrom 0 ss hi → length from ≡ hi → length old ≡ hi → length ks ≤ i
    → PutTo ss ks i old from now → OthersStay ss touched old from → now ≡ from
undone_by hi ss ks touched i old from now v f p o l t same =
    let a = put_all ss ks touched i old from now v l t in
    undone hi ss touched old from now f p (t.len ∙ o) a.0 a.1 same
