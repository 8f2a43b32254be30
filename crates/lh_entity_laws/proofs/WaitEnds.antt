-- The ends of a first region that no reason leaves: each waits for one block, without time, on bits that are the same at each.
use Rattle.std.proofs.Common.{◌≡◌, ◌⊎◌, inl, inr, ℕ, List, [], ◌∷◌, Bool, true, false, not, ◌&&◌, ◌||◌, nat_eq, Some, refl, ap, sym, ◌∙◌, subst, arith, eqb-true}
use Rattle.std.specs.List.{list_any, list_all}
use Rattle.std.specs.Option.{option_and_then}
use Rattle.std.proofs.lemmas.Bool.{false≢true, not-false}
use Rattle.std.proofs.lemmas.Bool.Decides.{nat_tests}
use Rattle.std.specs.Cmp.{first_so, second_so}
use Rattle.lh_types.specs.declared.part.Range.{Range}
use Rattle.lh_unit.specs.Within.{Each}
use Rattle.lh_trace_laws.proofs.BitSets.{SameSet, IsWithin}
use Rattle.lh_term.specs.declared.part.Part.{Part}
use Rattle.lh_term.specs.Tree.{Tree}
use Rattle.lh_term_cover.specs.Bits.{same_bits}
use Rattle.lh_flat.specs.Flat.{FlatText}
use Rattle.lh_region_def.specs.Rows.{Way, halts, enters_head, waits, RegionEnd}
use Rattle.lh_region_def.specs.Regions.{head_of, waits_for, waited_parts, is_that, waits_alike, target_if, one_target}
use Rattle.lh_region_def.specs.Typed.{Among}
use Rattle.lh_flat_laws.proofs.Members.{in-each, each-among}
use Rattle.lh_shape.specs.Reasons.{is_halt, ends_halted, is_timed, is_same_wait, are_mixed, waits_for_head, goes_to_head, parts_waited}
use Rattle.lh_entity_laws.proofs.Bits.{bits_of, same-right, same-left, append-within, left-within, right-within, both-within}
use Rattle.lh_entity_laws.proofs.EndTargets.{WayFits, EndsFit, from_head}

pub none-of : {X : Type 0} (p : X → Bool) (xs : List X) (x : X) → list_any p xs ≡ false → Among x xs → p x ≡ false
none-of p [] x h a = absurd a
none-of p (y ∷ ys) x h a = by (p y) refl h a (none-of p ys x)
  where
    by : (b : Bool) → p y ≡ b → (b || list_any p ys) ≡ false → (y ≡ x) ⊎ Among x ys → (list_any p ys ≡ false → Among x ys → p x ≡ false) → p x ≡ false
    by true q f a go = absurd (false≢true (sym f))
    by false q f (inl e) go = ap p (sym e) ∙ q
    by false q f (inr a) go = go f a

-- a way waits for this block without time, and says whether it is the head
pub record WaitsFor (head target : ℕ) (w : Way) : Type 0 where
  pub parts : List Part
  pub is : w ≡ waits target (nat_eq target head) parts false

-- a wait without time that says whether it leads to the head
abbrev pub IsFree : (head : ℕ) → Way → Type 0
IsFree head halts = ⊥
IsFree head enters_head = ⊥
IsFree head (waits target to_head parts timed) = (to_head ≡ nat_eq target head) × (timed ≡ false)

free-waits : (head target : ℕ) (h : Bool) (ps : List Part) (timed : Bool) → IsFree head (waits target h ps timed) → WaitsFor head target (waits target h ps timed)
free-waits head target h ps timed f = record { parts = ps; is = λ i. waits target (f.0 i) ps (f.1 i) }

alike : (head target : ℕ) (h : Bool) (ps : List Part) (timed : Bool) (v : Way) → IsFree head v → is_same_wait (waits target h ps timed) v ≡ true → WaitsFor head target v
    × (same_bits ps (waited_parts v) ≡ true)
alike head target h ps timed halts f e = absurd f
alike head target h ps timed enters_head f e = absurd f
alike head target h ps timed (waits c k qs td) f e =
    let n : target ≡ c = eqb-true target c (first_so (nat_eq target c) (same_bits ps qs) e) in
    (subst (λ x. WaitsFor head x (waits c k qs td)) (sym n) (free-waits head c k qs td f), second_so (nat_eq target c) (same_bits ps qs) e)

module _ (args : List Range) where
  -- all ends wait for one block, without time, each on the bits on which any of them waits
  pub record AllWait (head : ℕ) (es : List RegionEnd) : Type 0 where
    pub target : ℕ
    pub each : (x : RegionEnd) → Among x es → WaitsFor head target x.way
    pub same : (x : RegionEnd) → Among x es → SameSet (bits_of args (waited_parts x.way)) (bits_of args (parts_waited es))
    pub one : nat_eq target head ≡ false → one_target es ≡ Some target

  part-of : (x : RegionEnd) (es : List RegionEnd) → Among x es → IsWithin (bits_of args (waited_parts x.way)) (bits_of args (parts_waited es))
  part-of x [] a k h = absurd a
  part-of x (e ∷ es) (inl q) k h = left-within args (waited_parts e.way) (parts_waited es) k
      (subst (λ (y : RegionEnd). IsWithin (bits_of args (waited_parts x.way)) (bits_of args (waited_parts y.way))) (sym q) (λ j z. z) k h)
  part-of x (e ∷ es) (inr a) k h = right-within args (waited_parts e.way) (parts_waited es) k (part-of x es a k h)

  all-within : (es : List RegionEnd) (ps : List Part) → ((x : RegionEnd) → Among x es → IsWithin (bits_of args (waited_parts x.way)) (bits_of args ps))
      → IsWithin (bits_of args (parts_waited es)) (bits_of args ps)
  all-within [] ps go k h = cc
  all-within (e ∷ es) ps go k h = append-within args (waited_parts e.way) (parts_waited es) ps (go e (inl refl)) (all-within es ps (λ x a. go x (inr a))) k h

  -- the first end waits, and the others as it does
  module _ (head target : ℕ) (h : Bool) (ps : List Part) (timed : Bool) (e : RegionEnd) (es : List RegionEnd) (w : e.way ≡ waits target h ps timed)
      (free : Each (λ (x : RegionEnd). IsFree head x.way) (e ∷ es)) (mixed : are_mixed (e ∷ es) ≡ false) where
    others : (x : RegionEnd) → Among x es → is_same_wait (waits target h ps timed) x.way ≡ true
    others x a = ap (λ v. is_same_wait v x.way) (sym w) ∙ not-false (is_same_wait e.way x.way) (none-of (λ (f : RegionEnd). not (is_same_wait e.way f.way)) es x mixed a)

    pub other-waits : (x : RegionEnd) → Among x es → WaitsFor head target x.way × (same_bits ps (waited_parts x.way) ≡ true)
    other-waits x a = alike head target h ps timed x.way (in-each (λ (x : RegionEnd). IsFree head x.way) es x free.1 a) (others x a)

    first-waits : WaitsFor head target e.way
    first-waits = subst (WaitsFor head target) (sym w) (free-waits head target h ps timed (subst (IsFree head) w free.0))

    first-parts : waited_parts e.way ≡ ps
    first-parts = ap waited_parts w

    to-first : (x : RegionEnd) → Among x (e ∷ es) → IsWithin (bits_of args (waited_parts x.way)) (bits_of args ps)
    to-first x (inl q) = subst (λ (y : RegionEnd). IsWithin (bits_of args (waited_parts y.way)) (bits_of args ps)) q
        (subst (λ qs. IsWithin (bits_of args qs) (bits_of args ps)) (sym first-parts) (λ k z. z))
    to-first x (inr a) = same-right args ps (waited_parts x.way) (other-waits x a).1

    from-first : (x : RegionEnd) → Among x (e ∷ es) → IsWithin (bits_of args ps) (bits_of args (waited_parts x.way))
    from-first x (inl q) = subst (λ (y : RegionEnd). IsWithin (bits_of args ps) (bits_of args (waited_parts y.way))) q
        (subst (λ qs. IsWithin (bits_of args ps) (bits_of args qs)) (sym first-parts) (λ k z. z))
    from-first x (inr a) = same-left args ps (waited_parts x.way) (other-waits x a).1

    -- where it is not the head, it is the one target
    is-target : nat_eq target head ≡ false → one_target (e ∷ es) ≡ Some target
    is-target n =
        ap (option_and_then (λ m. target_if (list_all (λ (f : RegionEnd). waits_alike m e.way f.way) es) m)) (waits-for e.way first-waits)
        ∙ ap (λ b. target_if b target) (all-alike es (λ x a. x-alike x a))
      where
        waits-for : (v : Way) → WaitsFor head target v → waits_for v ≡ Some target
        waits-for v x = ap waits_for (x.is ∙ ap (λ b. waits target b x.parts false) n)

        here : (m : ℕ) → is_that m (Some m) ≡ true
        here m = grind (arith, nat_tests)

        both : (a b : Bool) → a ≡ true → b ≡ true → (a && b) ≡ true
        both a b p q = ap (λ x. x && b) p ∙ q

        x-alike : (x : RegionEnd) → Among x es → waits_alike target e.way x.way ≡ true
        x-alike x a =
            let o = other-waits x a in
            both (is_that target (waits_for x.way)) (same_bits (waited_parts e.way) (waited_parts x.way)) (ap (is_that target) (waits-for x.way o.0) ∙ here target)
            (ap (λ qs. same_bits qs (waited_parts x.way)) first-parts ∙ o.1)

        all-alike : (xs : List RegionEnd) → ((x : RegionEnd) → Among x xs → waits_alike target e.way x.way ≡ true) → list_all (λ (f : RegionEnd). waits_alike target e.way f.way) xs ≡ true
        all-alike [] go = refl
        all-alike (x ∷ xs) go = both (waits_alike target e.way x.way) (list_all (λ (f : RegionEnd). waits_alike target e.way f.way) xs) (go x (inl refl)) (all-alike xs (λ y a. go y (inr a)))

    all-wait : AllWait head (e ∷ es)
    all-wait = record {
      target = target;
      each = each;
      one = is-target;
      same = λ x a. both-within (bits_of args (waited_parts x.way)) (bits_of args (parts_waited (e ∷ es))) (part-of x (e ∷ es) a)
          (λ k z. from-first x a k (all-within (e ∷ es) ps to-first k z));
    }
      where
        each : (x : RegionEnd) → Among x (e ∷ es) → WaitsFor head target x.way
        each x (inl q) = subst (λ (y : RegionEnd). WaitsFor head target y.way) q first-waits
        each x (inr a) = (other-waits x a).0

  pub wait-all : (head : ℕ) (es : List RegionEnd) (x : RegionEnd) → Among x es → Each (λ (x : RegionEnd). IsFree head x.way) es → are_mixed es ≡ false → AllWait head es
  wait-all head [] x a free mixed = absurd a
  wait-all head (e ∷ es) x a free mixed = by e.way refl free.0
    where
      by : (w : Way) → e.way ≡ w → IsFree head w → AllWait head (e ∷ es)
      by halts q f = absurd f
      by enters_head q f = absurd f
      by (waits c h ps td) q f = all-wait head c h ps td e es q free mixed

  -- whether the first end leads to the head
  pub head-is : (head : ℕ) (es : List RegionEnd) (x : RegionEnd) → Among x es → (w : AllWait head es) → nat_eq w.target head ≡ waits_for_head es
  head-is head [] x a w = absurd a
  head-is head (e ∷ es) x a w = sym (ap goes_to_head (w.each e (inl refl)).is)

-- ---- no reason leaves the ends of the first region

free-way : (t : FlatText) (probe : Part → Tree) (w : Way) → is_halt w ≡ false → is_timed w ≡ false → WayFits (from_head t probe) w → IsFree (head_of t.blocks) w
free-way t probe halts h d f = absurd (false≢true (sym h))
free-way t probe enters_head h d f = absurd (false≢true f)
free-way t probe (waits c k qs td) h d f = (f, d)

pub free-ends : (t : FlatText) (probe : Part → Tree) (es : List RegionEnd) → list_any ends_halted es ≡ false → list_any (λ (e : RegionEnd). is_timed e.way) es ≡ false → EndsFit (from_head t probe) es
    → Each (λ (x : RegionEnd). IsFree (head_of t.blocks) x.way) es
free-ends t probe es h d f =
    each-among (λ (x : RegionEnd). IsFree (head_of t.blocks) x.way) es
    (λ x a. free-way t probe x.way (none-of ends_halted es x h a) (none-of (λ (e : RegionEnd). is_timed e.way) es x d a) (in-each (λ (e : RegionEnd). WayFits (from_head t probe) e.way) es x f a))
