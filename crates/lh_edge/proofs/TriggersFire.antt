-- An edge-shown condition is 1 exactly where one of its triggers fires.
use Rattle.std.proofs.Common.{◌≡◌, ◌↔◌, Bool, true, false, not, ◌&&◌, ◌||◌, if◌then◌else◌, List, [], ◌∷◌, ◌++◌, refl, sym, ap, ◌∙◌, subst, ◌⊎◌, inl, inr, arith}
use Rattle.std.specs.List.{list_any}
use Rattle.std.specs.Cmp.{first_so, second_so}
use Rattle.std.proofs.lemmas.Bool.{and_from, or_cases, or_left, or_right, cases_Bool, false_from_ne_true, or_parts}
use Rattle.lh_types.specs.Types.{int_type, IsData}
use Rattle.lh_types.specs.Values.{Datum}
use Rattle.lh_types.specs.Fits.{FitsType}
use Rattle.lh_types.specs.Same.{same-is}
use Rattle.lh_types.specs.Apply.{bit_value}
use Rattle.lh_types.proofs.Tests.{not_both}
use Rattle.lh_term.specs.declared.part.Part.{Part}
use Rattle.lh_term.specs.Tree.{Tree, TreeRow, constant, past_of, now_of, operation, choice_of, no_trees, more_trees}
use Rattle.lh_term.specs.Types.{IsTyped, AreTyped, type_of}
use Rattle.lh_term.specs.Mean.{Valuation, IsFitting, mean}
use Rattle.lh_term.specs.SameTree.{same_tree, same_tree-is}
use Rattle.lh_term.specs.Same.{same_part, same_part-is, same_part-refl}
use Rattle.lh_term.specs.Make.{is_bit, is_bit_value, bit_of}
use Rattle.lh_term.specs.Subst.{replaced, is_first, AreSwaps, SecondsTyped, past_with, now_with}
use Rattle.lh_term.specs.Laws.{SwapsKeepMeaning}
use Rattle.lh_term.proofs.Sound.{bit_of_fit, bit_typed, one_wide, bit_term}
use Rattle.lh_edge.specs.Atoms.{contains_past, edge_part, has, atoms_of}
use Rattle.lh_edge.specs.Valuations.{holds}
use Rattle.lh_edge.specs.Shown.{can_show, showing_parts, is_other_past, is_edge_shown, IsEdgeShown}
use Rattle.lh_edge.specs.Triggers.{TriggerTree, pasts_in, pasts_in_row, present_swaps, edge_swaps, gate_of, trigger_at, triggers_at, comes_first, with_part, in_order, triggers_of, Fires, SomeFires}
use Rattle.lh_edge.proofs.Bools.{other_bit}
use Rattle.lh_edge.proofs.Tables.{shown_by, is_showing, to_all}
use Rattle.lh_edge.proofs.AtomMeanings.{meant, as_bit, same_bits, without_past, rest_holds, rest_same, splits}

-- ---- the condition at the edge of a part

-- the values now, with another for one part
abbrev pub at_part : Part → Datum → Valuation → Valuation
at_part p v now q = if same_part p q then v else now q

present_past : (now : Valuation) (p : Part) (qs : List Part) (q : Part) → mean now now (replaced (present_swaps p qs) (past_of q)) ≡ now q
present_past now p [] q = refl
present_past now p (x ∷ qs) q = at (same_part p x || list_any (same_part x) qs) (present_past now p qs q)
  where
    here : (b : Bool) → same_part x q ≡ b → mean now now (replaced (present_swaps p qs) (past_of q)) ≡ now q → mean now now (if b then now_of x else replaced (present_swaps p qs) (past_of q)) ≡ now q
    here true e r = ap now (same_part-is x q e)
    here false e r = r

    at : (b : Bool) → mean now now (replaced (present_swaps p qs) (past_of q)) ≡ now q
        → mean now now (replaced (if b then present_swaps p qs else (past_of x, now_of x) ∷ present_swaps p qs) (past_of q)) ≡ now q
    at true r = r
    at false r = here (same_part x q) refl r

present_now : (now : Valuation) (p : Part) (qs : List Part) (q : Part) → mean now now (replaced (present_swaps p qs) (now_of q)) ≡ now q
present_now now p [] q = refl
present_now now p (x ∷ qs) q = at (same_part p x || list_any (same_part x) qs) (present_now now p qs q)
  where
    at : (b : Bool) → mean now now (replaced (present_swaps p qs) (now_of q)) ≡ now q
        → mean now now (replaced (if b then present_swaps p qs else (past_of x, now_of x) ∷ present_swaps p qs) (now_of q)) ≡ now q
    at true r = r
    at false r = r

past_at : (now : Valuation) (rise : Bool) (p : Part) (c : Tree) → past_with (edge_swaps rise p c) now now ≡ at_part p (bit_value (not rise)) now
past_at now rise p c = λ i q. each q i
  where
    at : (q : Part) (b : Bool) → mean now now (replaced (present_swaps p (pasts_in c)) (past_of q)) ≡ now q →
        mean now now (if b then bit_of (not rise) else replaced (present_swaps p (pasts_in c)) (past_of q)) ≡ (if b then bit_value (not rise) else now q)
    at q true r = refl
    at q false r = r

    each : (q : Part) → past_with (edge_swaps rise p c) now now q ≡ at_part p (bit_value (not rise)) now q
    each q = at q (same_part p q) (present_past now p (pasts_in c) q)

now_at : (now : Valuation) (rise : Bool) (p : Part) (c : Tree) → now p ≡ bit_value rise → now_with (edge_swaps rise p c) now now ≡ now
now_at now rise p c e = λ i q. each q i
  where
    at : (q : Part) (b : Bool) → same_part p q ≡ b → mean now now (replaced (present_swaps p (pasts_in c)) (now_of q)) ≡ now q →
        mean now now (if b then bit_of rise else replaced (present_swaps p (pasts_in c)) (now_of q)) ≡ now q
    at q true k r = sym e ∙ ap now (same_part-is p q k)
    at q false k r = r

    each : (q : Part) → now_with (edge_swaps rise p c) now now q ≡ now q
    each q = at q (same_part p q) refl (present_now now p (pasts_in c) q)

-- ---- the swaps

not_first : (p : Part) (qs : List Part) (x : Part) → list_any (same_part x) qs ≡ false → is_first (present_swaps p qs) (past_of x) ≡ false
not_first p [] x e = refl
not_first p (q ∷ qs) x e =
    let n = or_parts (same_part x q) (list_any (same_part x) qs) e in
    at (same_part p q || list_any (same_part q) qs) (other q n.0) (not_first p qs x n.1)
  where
    other : (q : Part) → same_part x q ≡ false → same_part q x ≡ false
    other q k = false_from_ne_true (same_part q x) (λ s. not_both (same_part x q) (ap (same_part x) (same_part-is q x s) ∙ same_part-refl x) k)

    at : (b : Bool) → same_part q x ≡ false → is_first (present_swaps p qs) (past_of x) ≡ false → is_first (if b then present_swaps p qs else (past_of q, now_of q) ∷ present_swaps p qs) (past_of x)
        ≡ false
    at true k r = r
    at false k r = ap (λ b. if b then true else is_first (present_swaps p qs) (past_of x)) k ∙ r

own_not_first : (p : Part) (qs : List Part) → is_first (present_swaps p qs) (past_of p) ≡ false
own_not_first p [] = refl
own_not_first p (q ∷ qs) = at (same_part p q || list_any (same_part q) qs) refl (own_not_first p qs)
  where
    other : (same_part p q || list_any (same_part q) qs) ≡ false → same_part q p ≡ false
    other k = false_from_ne_true (same_part q p) (λ s. let n = or_parts (same_part p q) (list_any (same_part q) qs) k in not_both (same_part p q) (ap (same_part p) (same_part-is q p s) ∙ same_part-refl p) n.0)

    at : (b : Bool) → (same_part p q || list_any (same_part q) qs) ≡ b → is_first (present_swaps p qs) (past_of p) ≡ false
        → is_first (if b then present_swaps p qs else (past_of q, now_of q) ∷ present_swaps p qs) (past_of p) ≡ false
    at true k r = r
    at false k r = ap (λ b. if b then true else is_first (present_swaps p qs) (past_of p)) (other k) ∙ r

now_not_first : (p : Part) (qs : List Part) (x : Part) → is_first (present_swaps p qs) (now_of x) ≡ false
now_not_first p [] x = refl
now_not_first p (q ∷ qs) x = at (same_part p q || list_any (same_part q) qs) (now_not_first p qs x)
  where
    at : (b : Bool) → is_first (present_swaps p qs) (now_of x) ≡ false → is_first (if b then present_swaps p qs else (past_of q, now_of q) ∷ present_swaps p qs) (now_of x) ≡ false
    at true r = r
    at false r = r

present_are_swaps : (p : Part) (qs : List Part) → AreSwaps (present_swaps p qs)
present_are_swaps p [] = tt
present_are_swaps p (q ∷ qs) = at (same_part p q || list_any (same_part q) qs) refl (present_are_swaps p qs)
  where
    at : (b : Bool) → (same_part p q || list_any (same_part q) qs) ≡ b → AreSwaps (present_swaps p qs) → AreSwaps (if b then present_swaps p qs else (past_of q, now_of q) ∷ present_swaps p qs)
    at true k r = r
    at false k r = let n = or_parts (same_part p q) (list_any (same_part q) qs) k in (tt, not_first p qs q n.1, refl, r)

-- each part is of a data type
abbrev pub AllData : List Part → Type 0
AllData [] = Unit {0}
AllData (p ∷ ps) = IsData p.ty × AllData ps

AllData-append : (ps qs : List Part) → AllData ps → AllData qs → AllData (ps ++ qs)
AllData-append [] qs h k = k
AllData-append (p ∷ ps) qs h k = (h.0, AllData-append ps qs h.1 k)

mutual
  pub pasts_data : (t : Tree) → IsTyped t → AllData (pasts_in t)
  pasts_data (constant v) h = tt
  pasts_data (past_of p) h = (h, tt)
  pasts_data (now_of p) h = tt
  pasts_data (operation op ts) h = pasts_data_row ts h.0
  pasts_data (choice_of c f t) h = AllData-append (pasts_in c) (pasts_in f ++ pasts_in t) (pasts_data c h.0) (AllData-append (pasts_in f) (pasts_in t) (pasts_data f h.1) (pasts_data t h.2))

  pasts_data_row : (ts : TreeRow) → AreTyped ts → AllData (pasts_in_row ts)
  pasts_data_row no_trees h = tt
  pasts_data_row (more_trees t ts) h = AllData-append (pasts_in t) (pasts_in_row ts) (pasts_data t h.0) (pasts_data_row ts h.1)

present_typed : (p : Part) (qs : List Part) → AllData qs → SecondsTyped (present_swaps p qs)
present_typed p [] h = tt
present_typed p (q ∷ qs) h = at (same_part p q || list_any (same_part q) qs) (present_typed p qs h.1)
  where
    at : (b : Bool) → SecondsTyped (present_swaps p qs) → SecondsTyped (if b then present_swaps p qs else (past_of q, now_of q) ∷ present_swaps p qs)
    at true r = r
    at false r = (h.0, r)

pub edge_are_swaps : (rise : Bool) (p : Part) (c : Tree) → p.ty ≡ int_type 1 → AreSwaps (edge_swaps rise p c)
edge_are_swaps rise p c e = (tt, own_not_first p (pasts_in c), e, (tt, now_not_first p (pasts_in c) p, e, present_are_swaps p (pasts_in c)))

pub edge_seconds : (rise : Bool) (p : Part) (c : Tree) → IsTyped c → SecondsTyped (edge_swaps rise p c)
edge_seconds rise p c h = (bit_typed (not rise), (bit_typed rise, present_typed p (pasts_in c) (pasts_data c h)))

-- ---- the law

at_fits : (p : Part) (b : Bool) (now : Valuation) → p.ty ≡ int_type 1 → IsFitting now → IsFitting (at_part p (bit_value b) now)
at_fits p b now e n q h = at (same_part p q) refl
  where
    bit_fits : (b : Bool) → FitsType (bit_value b) (int_type 1)
    bit_fits true = (refl, omega arith)
    bit_fits false = (refl, omega arith)

    at : (x : Bool) → same_part p q ≡ x → FitsType (if x then bit_value b else now q) q.ty
    at true k = subst (FitsType (bit_value b)) (sym e ∙ ap (λ (r : Part). r.ty) (same_part-is p q k)) (bit_fits b)
    at false k = n q h

-- at the same value of one part, two pasts give the same bits to all but the other atoms of the past
agree : (a b now : Valuation) (r : Part) → a r ≡ b r → (t : Tree) → is_other_past r t ≡ false → meant a now t ≡ meant b now t
agree a b now r e t o = at (contains_past t) refl o
  where
    at : (x : Bool) → contains_past t ≡ x → (x && not (same_tree (past_of r) t)) ≡ false → meant a now t ≡ meant b now t
    at false k m = ap (is_bit_value 1) (without_past a b now t k)
    at true k m = let s : past_of r ≡ t = same_tree-is (past_of r) t (not_false (same_tree (past_of r) t) m) in
        subst (λ (u : Tree). meant a now u ≡ meant b now u) s (ap (is_bit_value 1) e)
      where
        not_false : (x : Bool) → not x ≡ false → x ≡ true
        not_false true q = refl
        not_false false q = cc

part_bit : (v : Valuation) (p : Part) → p.ty ≡ int_type 1 → IsFitting v → v p ≡ bit_value (is_bit_value 1 (v p))
part_bit v p e n = as_bit (v p) (bit_of_fit (v p) (subst (FitsType (v p)) e (n p (subst IsData (sym e) one_wide))))

module _ (laws : SwapsKeepMeaning) (waited : List Part) (c : Tree) (h : IsTyped c) (e : type_of c ≡ int_type 1) (past now : Valuation) (pf : IsFitting past) (nf : IsFitting now) where
  -- what the gate means, where the part is now what the trigger says
  gate_means : (rise : Bool) (p : Part) → p.ty ≡ int_type 1 → now p ≡ bit_value rise → mean now now (gate_of rise p c) ≡ mean (at_part p (bit_value (not rise)) now) now c
  unfolding gate_of
  gate_means rise p k m =
      let s = laws (edge_swaps rise p c) (edge_are_swaps rise p c k) (edge_seconds rise p c h) c h in
      s.mean now now nf nf ∙ (λ i. mean (past_at now rise p c i) (now_at now rise p c m i) c)

  module _ (shown : IsEdgeShown waited c) where
    abbrev FiresAt : Bool → Part → Type 0
    FiresAt rise p = Fires past now (record { rise = rise; part = p; gate = gate_of rise p c })

    pub record Fired : Type 0 where
      pub part : Part
      pub rise : Bool
      pub can : can_show waited part ≡ true
      pub atom : has (atoms_of (edge_part c)) (past_of part) ≡ true
      pub fires : FiresAt rise part

    both_hold : (p : Valuation) → IsFitting p → holds (meant p now) (edge_part c) ≡ true → rest_holds p now c ≡ true → mean p now c ≡ bit_value true
    both_hold p f a b = let s = splits c h e p now f nf in s.whole ∙ ap bit_value (and_from _ _ a b)

    edge_holds : (p : Valuation) → IsFitting p → mean p now c ≡ bit_value true → holds (meant p now) (edge_part c) ≡ true
    edge_holds p f m = let s = splits c h e p now f nf in first_so _ (rest_holds p now c) (same_bits _ true (sym s.whole ∙ m))

    rest_hold : (p : Valuation) → IsFitting p → mean p now c ≡ bit_value true → rest_holds p now c ≡ true
    rest_hold p f m = let s = splits c h e p now f nf in second_so (holds (meant p now) (edge_part c)) _ (same_bits _ true (sym s.whole ∙ m))

    pub fires : mean past now c ≡ bit_value true → Fired
    fires m =
        let r = shown.each (meant past now) (edge_holds past pf m) in
        let p : Part = r.0 in
        let one : p.ty ≡ int_type 1 = same-is p.ty (int_type 1) (first_so _ _ r.1.can) in
        let up : Bool = meant past now (now_of p) in
        let before : past p ≡ bit_value (not up) = part_bit past p one pf ∙ ap bit_value (other_bit (meant past now (past_of p)) up r.1.differs) in
        let after : now p ≡ bit_value up = part_bit now p one nf in
        let past' : Valuation = at_part p (bit_value (not up)) now in
        let own : past' p ≡ past p = ap (λ b. if b then bit_value (not up) else now p) (same_part-refl p) ∙ sym before in
        let fit : IsFitting past' = at_fits p (not up) now one nf in
        let edge : holds (meant past' now) (edge_part c) ≡ true = r.1.stays (meant past' now) (agree past' past now p own) in
        record {
          part = p;
          rise = up;
          can = r.1.can;
          atom = r.1.atom;
          fires = record { before = before; after = after; gate = gate_means up p one after ∙ both_hold past' fit edge (rest_same past' past now c ∙ rest_hold past pf m) };
        }

    pub held : (rise : Bool) (p : Part) → can_show waited p ≡ true → FiresAt rise p → mean past now c ≡ bit_value true
    held rise p can f =
        let one : p.ty ≡ int_type 1 = same-is p.ty (int_type 1) (first_so _ _ can) in
        let past' : Valuation = at_part p (bit_value (not rise)) now in
        let fit : IsFitting past' = at_fits p (not rise) now one nf in
        let gate : mean past' now c ≡ bit_value true = sym (gate_means rise p one f.after) ∙ f.gate in
        let r = shown.each (meant past' now) (edge_holds past' fit gate) in
        let q : Part = r.0 in
        let own : past' p ≡ past p = ap (λ b. if b then bit_value (not rise) else now p) (same_part-refl p) ∙ sym f.before in
        let same : p ≡ q = same_part-is p q (elim (cases_Bool (same_part p q)) [
          | inl k ↦ k
          | inr k ↦ absurd (r.1.differs (ap (is_bit_value 1) (ap (λ b. if b then bit_value (not rise) else now q) k)))
        ]) in
        let edge : holds (meant past now) (edge_part c) ≡ true = r.1.stays (meant past now) (agree past past' now q (subst (λ (x : Part). past x ≡ past' x) same (sym own))) in
        both_hold past pf edge (rest_same past past' now c ∙ rest_hold past' fit gate)

-- ---- the list of triggers

some_left : (past now : Valuation) (xs ys : List TriggerTree) → SomeFires past now xs → SomeFires past now (xs ++ ys)
some_left past now [] ys h = absurd h
some_left past now (x ∷ xs) ys h = elim h [ inl f ↦ inl f | inr r ↦ inr (some_left past now xs ys r) ]

some_right : (past now : Valuation) (xs ys : List TriggerTree) → SomeFires past now ys → SomeFires past now (xs ++ ys)
some_right past now [] ys h = h
some_right past now (x ∷ xs) ys h = inr (some_right past now xs ys h)

some_cases : (past now : Valuation) (xs ys : List TriggerTree) → SomeFires past now (xs ++ ys) → SomeFires past now xs ⊎ SomeFires past now ys
some_cases past now [] ys h = inr h
some_cases past now (x ∷ xs) ys h = elim h [
  | inl f ↦ inl (inl f)
  | inr r ↦ elim (some_cases past now xs ys r) [ inl a ↦ inl (inr a) | inr b ↦ inr b ]
]

module _ (past now : Valuation) (c : Tree) where
  abbrev FiresAs : Bool → Part → Type 0
  FiresAs rise p = Fires past now (record { rise = rise; part = p; gate = gate_of rise p c })

  -- a gate that is the constant 0 never fires
  listed : (p : Part) (rise : Bool) → FiresAs rise p → SomeFires past now (trigger_at c p rise)
  listed p rise f = at (is_bit 0 (gate_of rise p c)) refl
    where
      at : (b : Bool) → is_bit 0 (gate_of rise p c) ≡ b → SomeFires past now (if b then [] else (record { rise = rise; part = p; gate = gate_of rise p c }) ∷ [])
      at false k = inl f
      at true k =
          let z : bit_value false ≡ bit_value true = sym (ap (mean now now) (bit_term 0 (gate_of rise p c) k)) ∙ f.gate in
          let x : false ≡ true = same_bits false true z in
          cc

  unlisted : (p : Part) (rise : Bool) → SomeFires past now (trigger_at c p rise) → FiresAs rise p
  unlisted p rise h = at (is_bit 0 (gate_of rise p c)) h
    where
      at : (b : Bool) → SomeFires past now (if b then [] else (record { rise = rise; part = p; gate = gate_of rise p c }) ∷ []) → FiresAs rise p
      at true k = absurd k
      at false k = elim k [ inl f ↦ f | inr r ↦ absurd r ]

  pub some_fires : (ps : List Part) (p : Part) (rise : Bool) → list_any (same_part p) ps ≡ true → FiresAs rise p → SomeFires past now (triggers_at c ps)
  some_fires [] p rise m f = cc
  some_fires (q ∷ ps) p rise m f = elim (or_cases (same_part p q) (list_any (same_part p) ps) m) [
    | inl s ↦ here rise (subst (FiresAs rise) (same_part-is p q s) f)
    | inr r ↦ some_right past now (trigger_at c q true) _ (some_right past now (trigger_at c q false) _ (some_fires ps p rise r f))
  ]
    where
      here : (rise : Bool) → FiresAs rise q → SomeFires past now (trigger_at c q true ++ (trigger_at c q false ++ triggers_at c ps))
      here true g = some_left past now (trigger_at c q true) _ (listed q true g)
      here false g = some_right past now (trigger_at c q true) _ (some_left past now (trigger_at c q false) _ (listed q false g))

  pub record FiresIn (ps : List Part) : Type 0 where
    pub part : Part
    pub rise : Bool
    pub is_in : list_any (same_part part) ps ≡ true
    pub fires : FiresAs rise part

  fires_first : (q : Part) (ps : List Part) (rise : Bool) → FiresAs rise q → FiresIn (q ∷ ps)
  fires_first q ps rise f = record { part = q; rise = rise; is_in = or_left (same_part q q) (list_any (same_part q) ps) (same_part-refl q); fires = f }

  pub fires_in : (ps : List Part) → SomeFires past now (triggers_at c ps) → FiresIn ps
  fires_in [] h = absurd h
  fires_in (q ∷ ps) h = elim (some_cases past now (trigger_at c q true) _ h) [
    | inl a ↦ fires_first q ps true (unlisted q true a)
    | inr r ↦ elim (some_cases past now (trigger_at c q false) _ r) [
      | inl b ↦ fires_first q ps false (unlisted q false b)
      | inr d ↦ let k = fires_in ps d in record { part = k.part; rise = k.rise; is_in = or_right (same_part k.part q) (list_any (same_part k.part) ps) k.is_in; fires = k.fires }
    ]
  ]

-- parts in order are the parts
or_swap : (a b d : Bool) → (a || (b || d)) ≡ (b || (a || d))
or_swap true true d = refl
or_swap true false d = refl
or_swap false b d = refl

pub with_any : (f : Part → Bool) (p : Part) (ps : List Part) → list_any f (with_part p ps) ≡ (f p || list_any f ps)
with_any f p [] = refl
with_any f p (q ∷ ps) = at (comes_first p q) (with_any f p ps)
  where
    at : (b : Bool) → list_any f (with_part p ps) ≡ (f p || list_any f ps) → list_any f (if b then p ∷ q ∷ ps else q ∷ with_part p ps) ≡ (f p || (f q || list_any f ps))
    at true r = refl
    at false r = ap (λ b. f q || b) r ∙ or_swap (f q) (f p) (list_any f ps)

pub order_any : (f : Part → Bool) (ps : List Part) → list_any f (in_order ps) ≡ list_any f ps
order_any f [] = refl
order_any f (p ∷ ps) = with_any f p (in_order ps) ∙ ap (λ b. f p || b) (order_any f ps)

pub triggers_show : SwapsKeepMeaning → (waited : List Part) (c : Tree) → IsTyped c → type_of c ≡ int_type 1 → is_edge_shown waited c ≡ true →
    (past now : Valuation) → IsFitting past → IsFitting now → (mean past now c ≡ bit_value true) ↔ SomeFires past now (triggers_of waited c)
unfolding triggers_of
triggers_show laws waited c h e s past now pf nf =
    let shown = to_all waited c s in (
      λ m.
          let f = fires laws waited c h e past now pf nf shown m in
          some_fires past now c (in_order (showing_parts waited (atoms_of (edge_part c)))) f.part f.rise
          (order_any (same_part f.part) (showing_parts waited (atoms_of (edge_part c))) ∙ is_showing waited (atoms_of (edge_part c)) (same_part f.part) f.part f.can f.atom (same_part-refl f.part))
          f.fires,
      λ m.
          let f = fires_in past now c (in_order (showing_parts waited (atoms_of (edge_part c)))) m in
          let q = shown_by waited (atoms_of (edge_part c)) (same_part f.part) (sym (order_any (same_part f.part) (showing_parts waited (atoms_of (edge_part c)))) ∙ f.is_in) in
          let same : q.part ≡ f.part = sym (same_part-is f.part q.part q.passes) in
          held laws waited c h e past now pf nf shown f.rise f.part (sym (ap (can_show waited) same) ∙ q.can) f.fires,
    )
