-- What is found by the ids of values is what is known under their names.
use Rattle.std.proofs.Common.{◌≡◌, ℕ, ◌+◌, ◌<◌, ◌^◌, Bool, true, false, ◌&&◌, nat_eq, if◌then◌else◌, List, [], ◌∷◌, length, map, replicate, get_or, set, Option, Some, None, refl, ap, sym, ◌∙◌, subst, arith, zero, suc, lt-ltb, get_or-set_same, get_or-set_other}
use Rattle.std.specs.Option.{option_and_then}
use Rattle.std.proofs.lemmas.List.{length-set, length-replicate}
use Rattle.std.proofs.lemmas.Option.{none-some, same_Some}
use Rattle.lh_types.specs.Types.{bit_count}
use Rattle.lh_unit_names.specs.Names.{same_name}
use Rattle.lh_unit.specs.Arena.{Arena, IsArena, naming, unit_count, value_count, value_name_at}
use Rattle.lh_unit.specs.Held.{front}
use Rattle.lh_unit.specs.Naming.{value_text, maybe_text, operand_text}
use Rattle.lh_unit.specs.Within.{Each}
use Rattle.lh_unit.specs.declared.inst.Typed.{Typed}
use Rattle.lh_unit.specs.declared.inst.ValueId.{ValueId}
use Rattle.lh_unit.proofs.ById.{same_value-by_id}
use Rattle.lh_unit.proofs.Lists.{Same, same, other, same_or, nat_eq-refl, nat_eq-other}
use Rattle.lh_term.specs.Tree.{Tree}
use Rattle.lh_term.specs.Arena.{trees_at, AreIn, ids_below, Grows}
use Rattle.lh_term.specs.declared.part.Part.{Part}
use Rattle.lh_term.specs.declared.term.TermId.{TermId}
use Rattle.lh_term.specs.declared.term.TermNode.{TermNode}
use Rattle.lh_term.proofs.Swaps.{stands_grown}
use Rattle.lh_region_def.specs.Known as text
use Rattle.lh_region_def.specs.Known.{known_value, known_cell, known_part, Knowledge, nothing_known, with_given, as_value, as_part, value_known, part_known, values_known}
use Rattle.lh_cert_read.specs.Known as ids
use Rattle.lh_cert_read.specs.Known.{known_at, term_at, part_at, terms_at, given, MaybeIn, IsKnown, Knows}
use Rattle.lh_cert_read.specs.Lines.{MaybeTerm}
use Rattle.lh_cert_read.specs.declared.known.Known.{Known}
use Rattle.lh_cert_read.specs.declared.known.Known.TheVariants as known

-- ---- lookups

pub in-cons : (n : ℕ) (t : TermId) (ts : List TermId) → t.0 < n → ids_below n ts ≡ true → ids_below n (t ∷ ts) ≡ true
in-cons n t ts l h = ap (λ b. b && ids_below n ts) (lt-ltb t.0 n l) ∙ h

-- terms that are found, or none
abbrev pub AreFound : List TermNode → Option (List TermId) → Option (List Tree) → Type 0
AreFound ns None y = y ≡ None
AreFound ns (Some ids) y = AreIn ns ids × (y ≡ Some (trees_at ns ids))

module _ (a : Arena) (u : ℕ) (ns : List TermNode) (values : List (Option Known)) (k : Knowledge) (h : Knows a u ns values k) where
  pub term-found : (v : ValueId) → v.0 < length values → MaybeTerm ns (term_at values v) (value_known k (value_text (naming a u) v))
  term-found v w = by (known_at values v) (k (value_text (naming a u) v)) (h.each v w)
    where
      by : (x : Option Known) (y : Option text.Known) → IsKnown ns x y → MaybeTerm ns (option_and_then ids.as_term x) (option_and_then as_value y)
      by None None i = tt
      by (Some (known.Term t)) (Some (known_value z)) i = i
      by (Some (known.Part p)) (Some (known_part q)) i = tt
      by _ _ i = absurd i

  pub part-found : (v : ValueId) → v.0 < length values → part_at values v ≡ part_known k (value_text (naming a u) v)
  part-found v w = by (known_at values v) (k (value_text (naming a u) v)) (h.each v w)
    where
      by : (x : Option Known) (y : Option text.Known) → IsKnown ns x y → option_and_then ids.as_part x ≡ option_and_then as_part y
      by None None i = refl
      by (Some (known.Term t)) (Some (known_value z)) i = refl
      by (Some (known.Part p)) (Some (known_part q)) i = ap Some i.0
      by _ _ i = absurd i

  -- the bits of a part that is known have numbers below 2 ^ 32
  pub part-small : (v : ValueId) → v.0 < length values → (p : Part) → part_at values v ≡ Some p → p.lo + bit_count p.ty < 2 ^ 32
  part-small v w p e = by (known_at values v) (k (value_text (naming a u) v)) (h.each v w) e
    where
      by : (x : Option Known) (y : Option text.Known) → IsKnown ns x y → option_and_then ids.as_part x ≡ Some p → p.lo + bit_count p.ty < 2 ^ 32
      by (Some (known.Part q)) (Some (known_part r)) i e = subst (λ (x : Part). x.lo + bit_count x.ty < 2 ^ 32) (same_Some q p e) i.1
      by None None i e = absurd (none-some p e)
      by (Some (known.Term t)) (Some (known_value z)) i e = absurd (none-some p e)
      by _ _ i e = absurd i

  pub terms-found : (os : List Typed) → Each (λ (o : Typed). o.value.0 < length values) os → AreFound ns (terms_at values os) (values_known k (map (operand_text (naming a u)) os))
  terms-found [] w = (refl, refl)
  terms-found (o ∷ os) w =
      by (term_at values o.value) (value_known k (value_text (naming a u) o.value)) (term-found o.value w.0) (terms_at values os) (values_known k (map (operand_text (naming a u)) os)) (terms-found os w.1)
    where
      by : (x : Option TermId) (y : Option Tree) → MaybeTerm ns x y → (xs : Option (List TermId)) (ys : Option (List Tree)) → AreFound ns xs ys → AreFound ns (front x xs) (front y ys)
      by None None i xs ys f = refl
      by (Some t) (Some z) i None ys f = ap (front (Some z)) f
      by (Some t) (Some z) i (Some ts) ys f = (in-cons (length ns) t ts i.is_in f.0, ap (front (Some z)) f.1 ∙ ap (λ y. Some (y ∷ trees_at ns ts)) (sym i.tree))
      by None (Some z) i xs ys f = absurd i
      by (Some t) None i xs ys f = absurd i

-- ---- more is known

set-at : (values : List (Option Known)) (v w : ℕ) (x : Known) → v < length values → get_or (set values v (Some x)) w None ≡ (if nat_eq v w then Some x else get_or values w None)
set-at values v w x p = by (same_or w v)
  where
    by : Same w v → get_or (set values v (Some x)) w None ≡ (if nat_eq v w then Some x else get_or values w None)
    by (same q) =
        ap (λ (k : ℕ). get_or (set values v (Some x)) k None) q ∙ get_or-set_same values v (Some x) None p
        ∙ sym (ap (λ (b : Bool). if b then Some x else get_or values w None) (ap (nat_eq v) q ∙ nat_eq-refl v))
    by (other n) =
        get_or-set_other values v w (Some x) None n
        ∙ sym (ap (λ (b : Bool). if b then Some x else get_or values w None) (nat_eq-other v w (λ q. n (sym q))))

module _ (a : Arena) (u : ℕ) (o : IsArena a) (hu : u < unit_count a) (ns : List TermNode) where
  pub knows-more : (values : List (Option Known)) (k : Knowledge) (v : ValueId) (x : Known) (y : text.Known) → Knows a u ns values k → v.0 < length values → IsKnown ns (Some x) (Some y)
      → Knows a u ns (set values v.0 (Some x)) (text.with_known k (value_text (naming a u) v) y)
  knows-more values k v x y d w i = record {
    long = length-set values v.0 (Some x) ∙ d.long;
    each = λ z p.
        let l : z.0 < length values = omega (arith, p, length-set values v.0 (Some x)) in
        let n : same_name (value_name_at a u v.0) (value_name_at a u z.0) ≡ nat_eq v.0 z.0 = same_value-by_id a u o hu v.0 z.0 (omega (arith, w, d.long)) (omega (arith, l, d.long)) in
        by (nat_eq v.0 z.0) (get_or (set values v.0 (Some x)) z.0 None) (get_or values z.0 None) (set-at values v.0 z.0 x w)
        (same_name (value_name_at a u v.0) (value_name_at a u z.0)) n (k (value_text (naming a u) z)) (d.each z l);
  }
    where
      by : (b : Bool) (m : Option Known) (old : Option Known) → m ≡ (if b then Some x else old) → (c : Bool) → c ≡ b → (was : Option text.Known) → IsKnown ns old was
          → IsKnown ns m (if c then Some y else was)
      by true m old e c f was j = subst (λ (z : Bool). IsKnown ns m (if z then Some y else was)) (sym f) (subst (λ (z : Option Known). IsKnown ns z (Some y)) (sym e) i)
      by false m old e c f was j = subst (λ (z : Bool). IsKnown ns m (if z then Some y else was)) (sym f) (subst (λ (z : Option Known). IsKnown ns z was) (sym e) j)

  pub knows-given : (values : List (Option Known)) (k : Knowledge) (name : Option ValueId) (x : Known) (y : text.Known) → Knows a u ns values k → MaybeIn values name → IsKnown ns (Some x) (Some y)
      → Knows a u ns (given values name (Some x)) (with_given k (maybe_text (naming a u) name) (Some y))
  knows-given values k None x y d w i = d
  knows-given values k (Some v) x y d w i = knows-more values k v x y d w i

pub knows-none : (values : List (Option Known)) (name : Option ValueId) → given values name None ≡ values
knows-none values None = refl
knows-none values (Some v) = refl

known-grown : (ns ms : List TermNode) → Grows ns ms → (x : Option Known) (y : Option text.Known) → IsKnown ns x y → IsKnown ms x y
known-grown ns ms g None None i = tt
known-grown ns ms g (Some (known.Term t)) (Some (known_value z)) i = stands_grown ns ms g t z i
known-grown ns ms g (Some (known.Part p)) (Some (known_part q)) i = i
known-grown ns ms g _ _ i = absurd i

pub knows-grown : (a : Arena) (u : ℕ) (ns ms : List TermNode) (values : List (Option Known)) (k : Knowledge) → Grows ns ms → Knows a u ns values k → Knows a u ms values k
knows-grown a u ns ms values k g d = record {
  long = d.long;
  each = λ v w. known-grown ns ms g (known_at values v) (k (value_text (naming a u) v)) (d.each v w);
}

none-at : (n k : ℕ) → get_or (replicate n (let none : Option Known = None in none)) k None ≡ None
none-at zero zero = refl
none-at zero (suc k) = refl
none-at (suc n) zero = refl
none-at (suc n) (suc k) = none-at n k

pub knows-nothing : (a : Arena) (u : ℕ) (ns : List TermNode) → Knows a u ns (replicate (value_count a u) None) nothing_known
knows-nothing a u ns = record {
  long = length-replicate (value_count a u) None;
  each = λ v p. subst (λ x. IsKnown ns x None) (sym (none-at (value_count a u) v.0)) tt;
}
