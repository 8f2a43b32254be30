-- Entries that are made one after another, each of a name that is said.
use Rattle.std.proofs.Common.{◌≡◌, ◌⊎◌, ℕ, ◌<◌, List, [], ◌∷◌, ◌++◌, Contains, flat_map, if◌then◌else◌, Ok, inl, inr, refl, ap, sym, ◌∙◌, subst, arith, append_assoc, append-nil}
use Rattle.std.proofs.lemmas.List.Elements.{Contains-append_left, Contains-append_right}
use Rattle.lh_unit_names.specs.declared.name.UnitName.{UnitName}
use Rattle.lh_unit.specs.Arena.{Arena, KeepsEntries, one_more_in, value_count, label_count, unit_name_at, value_name_at, label_name_at}
use Rattle.lh_unit.specs.Builders.{NoneElse, FindsUnit, FindsValue, FindsLabel}
use Rattle.lh_unit.specs.declared.inst.UnitId.{UnitId}
use Rattle.lh_unit.specs.declared.inst.BlockId.{BlockId}
use Rattle.lh_unit.specs.declared.inst.ValueId.{ValueId}
use Rattle.lh_unit.proofs.Lists.{Same, same, other, same_or, nat_eq-other}
use Rattle.lh_read.specs.Mentions.{Mention, names_unit, names_value, names_label, one_value, one_label, EntersOnly}

-- lists of what each item names
flat_map-append : {X Y : Type 0} (f : X → List Y) (xs ys : List X) → flat_map f (xs ++ ys) ≡ flat_map f xs ++ flat_map f ys
flat_map-append f [] ys = refl
flat_map-append f (x ∷ xs) ys = ap (λ l. f x ++ l) (flat_map-append f xs ys) ∙ sym (append_assoc (f x) (flat_map f xs) (flat_map f ys))

pub flat_map-push : {X Y : Type 0} (f : X → List Y) (xs : List X) (x : X) → flat_map f (xs ++ x ∷ []) ≡ flat_map f xs ++ f x
flat_map-push f xs x = flat_map-append f xs (x ∷ []) ∙ ap (λ l. flat_map f xs ++ l) (append-nil (f x))

-- the first name
pub at_head : (m : Mention) (ms : List Mention) → Contains (m ∷ ms) m
at_head m ms = (0, omega arith, refl)

-- nothing is entered
pub enters-none : (ms : List Mention) (a : Arena) (u : ℕ) → EntersOnly ms a a u
enters-none ms a u = record { units = λ w h. inl h; values = λ w v h. inl h; labels = λ w b h. inl h }

-- names are entered, and then others
pub enters-both : (ms ns : List Mention) (a b c : Arena) (u : ℕ) → EntersOnly ms a b u → EntersOnly ns b c u → KeepsEntries b c → EntersOnly (ms ++ ns) a c u
enters-both ms ns a b c u p q k = record {
  units = λ w h. elim (q.units w h) [
    | inl x ↦ elim (p.units w x) [ inl y ↦ inl y | inr y ↦ inr (first _ (subst (λ n. Contains ms (names_unit n)) (sym (k.unit_names w x)) y)) ]
    | inr y ↦ inr (Contains-append_right ms ns _ y)
  ];
  values = λ w v h. elim (q.values w v h) [
    | inl x ↦ elim (p.values w v x) [ inl y ↦ inl y | inr y ↦ inr (y.0, first _ (subst (λ n. Contains ms (names_value n)) (sym (k.value_names w v x)) y.1)) ]
    | inr y ↦ inr (y.0, Contains-append_right ms ns _ y.1)
  ];
  labels = λ w v h. elim (q.labels w v h) [
    | inl x ↦ elim (p.labels w v x) [ inl y ↦ inl y | inr y ↦ inr (y.0, first _ (subst (λ n. Contains ms (names_label n)) (sym (k.label_names w v x)) y.1)) ]
    | inr y ↦ inr (y.0, Contains-append_right ms ns _ y.1)
  ];
}
  where
    first : (m : Mention) → Contains ms m → Contains (ms ++ ns) m
    first m h = Contains-append_left ms ns m h

-- no entry more than of this name
module _ (a b : Arena) where
  pub enters-unit : (u : UnitId) (w : ℕ) (n : UnitName) → FindsUnit (Ok u) a b n → EntersOnly (names_unit n ∷ []) a b w
  enters-unit u w n f = record {
    units = λ k h. elim (f.4 k h) [ inl x ↦ inl x | inr e ↦ inr (subst (λ m. Contains (names_unit n ∷ []) (names_unit m)) (sym (ap (unit_name_at b) e ∙ f.2)) (at_head (names_unit n) [])) ];
    values = λ k v h. inl (omega (arith, h, f.3.more_values k));
    labels = λ k v h. inl (omega (arith, h, f.3.more_labels k));
  }

  none_here : (u w : ℕ) → (w ≡ u → ⊥) → one_more_in u w ≡ 0
  none_here u w d = ap (λ c. if c then 1 else 0) (nat_eq-other w u d)

  pub enters-value : (u : UnitId) (v : ValueId) (n : List ℕ) → FindsValue (Ok v) a b u n → EntersOnly (one_value n) a b u.0
  enters-value u v n f = record {
    units = λ k h. inl (omega (arith, h, f.3.more_units));
    values = λ k x h. by k x h (same_or k u.0);
    labels = λ k x h. inl (omega (arith, h, f.3.more_labels k));
  }
    where
      by : (k x : ℕ) → x < value_count b k → Same k u.0 → (x < value_count a k) ⊎ ((k ≡ u.0) × Contains (one_value n) (names_value (value_name_at b k x)))
      by k x h (same e) =
          let named : NoneElse (value_count a u.0) (value_count b u.0) v.0 = f.4 in
          elim (named x (subst (λ j. x < value_count b j) e h)) [
            | inl y ↦ inl (subst (λ j. x < value_count a j) (sym e) y)
            | inr y ↦ inr (e, subst (λ m. Contains (one_value n) (names_value m)) (sym (ap (λ j. value_name_at b j x) e ∙ ap (value_name_at b u.0) y ∙ f.2)) (at_head (names_value n) []))
          ]
      by k x h (other d) = inl (omega (arith, h, f.3.more_values k, none_here u.0 k d))

  pub enters-label : (u : UnitId) (v : BlockId) (n : List ℕ) → FindsLabel (Ok v) a b u n → EntersOnly (one_label n) a b u.0
  enters-label u v n f = record {
    units = λ k h. inl (omega (arith, h, f.3.more_units));
    values = λ k x h. inl (omega (arith, h, f.3.more_values k));
    labels = λ k x h. by k x h (same_or k u.0);
  }
    where
      by : (k x : ℕ) → x < label_count b k → Same k u.0 → (x < label_count a k) ⊎ ((k ≡ u.0) × Contains (one_label n) (names_label (label_name_at b k x)))
      by k x h (same e) =
          let named : NoneElse (label_count a u.0) (label_count b u.0) v.0 = f.4 in
          elim (named x (subst (λ j. x < label_count b j) e h)) [
            | inl y ↦ inl (subst (λ j. x < label_count a j) (sym e) y)
            | inr y ↦ inr (e, subst (λ m. Contains (one_label n) (names_label m)) (sym (ap (λ j. label_name_at b j x) e ∙ ap (label_name_at b u.0) y ∙ f.2)) (at_head (names_label n) []))
          ]
      by k x h (other d) = inl (omega (arith, h, f.3.more_labels k, none_here u.0 k d))
