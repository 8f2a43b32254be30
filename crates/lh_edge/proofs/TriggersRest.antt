-- A condition is 0 where no trigger's part changes; the parts of triggers are waited on.
use Rattle.std.proofs.Common.{◌≡◌, Bool, true, false, not, if◌then◌else◌, List, [], ◌∷◌, ◌++◌, refl, sym, ap, ◌∙◌, inl, inr}
use Rattle.std.specs.Cmp.{first_so, second_so}
use Rattle.lh_types.specs.Types.{int_type, same_type}
use Rattle.lh_types.specs.Same.{same-is}
use Rattle.lh_types.specs.Apply.{bit_value}
use Rattle.lh_term.specs.declared.part.Part.{Part}
use Rattle.lh_term.specs.Tree.{Tree, constant, past_of, now_of, operation, choice_of}
use Rattle.lh_term.specs.Types.{IsTyped, type_of}
use Rattle.lh_term.specs.Mean.{Valuation, IsFitting, mean}
use Rattle.lh_term.specs.Make.{is_bit, is_bit_value}
use Rattle.lh_term.specs.Laws.{SwapsKeepMeaning}
use Rattle.lh_term.proofs.Sound.{bit_mean}
use Rattle.lh_term_cover.specs.Bits.{covers}
use Rattle.lh_edge.specs.Atoms.{edge_part, atoms_of}
use Rattle.lh_edge.specs.Shown.{can_show, showing_parts, is_edge_shown}
use Rattle.lh_edge.specs.Triggers.{TriggerTree, gate_of, trigger_at, triggers_at, comes_first, with_part, in_order, triggers_of, SomeFires, NoneChanges, AreWaited}
use Rattle.lh_edge.proofs.Bools.{not_own}
use Rattle.lh_edge.proofs.AtomMeanings.{as_bit, same_bits}
use Rattle.lh_edge.proofs.TriggersFire.{triggers_show}

-- ---- nothing fires at rest

no_fire : (past now : Valuation) (ts : List TriggerTree) → NoneChanges past now ts → SomeFires past now ts → ⊥
no_fire past now [] r h = h
no_fire past now (t ∷ ts) r h = elim h [
  | inl f ↦ not_own t.rise (same_bits (not t.rise) t.rise (sym f.before ∙ r.0 ∙ f.after))
  | inr g ↦ no_fire past now ts r.1 g
]

pub rests : SwapsKeepMeaning → (waited : List Part) (c : Tree) → IsTyped c → type_of c ≡ int_type 1 → is_edge_shown waited c ≡ true →
    (past now : Valuation) → IsFitting past → IsFitting now → NoneChanges past now (triggers_of waited c) → mean past now c ≡ bit_value false
rests laws waited c h e s past now pf nf r =
    let is : mean past now c ≡ bit_value (is_bit_value 1 (mean past now c)) = as_bit (mean past now c) (bit_mean c (record { typed = h; type = e }) past now pf nf) in
    is ∙ ap bit_value (at (is_bit_value 1 (mean past now c)) is)
  where
    at : (b : Bool) → mean past now c ≡ bit_value b → b ≡ false
    at false m = refl
    at true m = absurd (no_fire past now (triggers_of waited c) r (let f = triggers_show laws waited c h e s past now pf nf in f.0 m))

-- ---- the parts of triggers

-- each part is of one bit, which is waited on
abbrev pub AllCan : List Part → List Part → Type 0
AllCan waited [] = Unit {0}
AllCan waited (p ∷ ps) = (can_show waited p ≡ true) × AllCan waited ps

showing_can : (waited : List Part) (ts : List Tree) → AllCan waited (showing_parts waited ts)
showing_can waited [] = tt
showing_can waited (past_of p ∷ ts) = at (can_show waited p) refl (showing_can waited ts)
  where
    at : (b : Bool) → can_show waited p ≡ b → AllCan waited (showing_parts waited ts) → AllCan waited (if b then p ∷ showing_parts waited ts else showing_parts waited ts)
    at true e r = (e, r)
    at false e r = r
showing_can waited (constant v ∷ ts) = showing_can waited ts
showing_can waited (now_of p ∷ ts) = showing_can waited ts
showing_can waited (operation op us ∷ ts) = showing_can waited ts
showing_can waited (choice_of a b t ∷ ts) = showing_can waited ts

with_can : (waited : List Part) (p : Part) (ps : List Part) → can_show waited p ≡ true → AllCan waited ps → AllCan waited (with_part p ps)
with_can waited p [] e h = (e, tt)
with_can waited p (q ∷ ps) e h = at (comes_first p q) (with_can waited p ps e h.1)
  where
    at : (b : Bool) → AllCan waited (with_part p ps) → AllCan waited (if b then p ∷ q ∷ ps else q ∷ with_part p ps)
    at true r = (e, h)
    at false r = (h.0, r)

order_can : (waited : List Part) (ps : List Part) → AllCan waited ps → AllCan waited (in_order ps)
order_can waited [] h = tt
order_can waited (p ∷ ps) h = with_can waited p (in_order ps) h.0 (order_can waited ps h.1)

join_waited : (waited : List Part) (xs ys : List TriggerTree) → AreWaited waited xs → AreWaited waited ys → AreWaited waited (xs ++ ys)
join_waited waited [] ys h k = k
join_waited waited (x ∷ xs) ys h k = (h.0, h.1, join_waited waited xs ys h.2 k)

one_waited : (waited : List Part) (c : Tree) (p : Part) (rise : Bool) → can_show waited p ≡ true → AreWaited waited (trigger_at c p rise)
one_waited waited c p rise e = at (is_bit 0 (gate_of rise p c))
  where
    at : (b : Bool) → AreWaited waited (if b then [] else (record { rise = rise; part = p; gate = gate_of rise p c }) ∷ [])
    at true = tt
    at false = (same-is p.ty (int_type 1) (first_so (same_type p.ty (int_type 1)) (covers waited p) e), second_so (same_type p.ty (int_type 1)) (covers waited p) e, tt)

each_waited : (waited : List Part) (c : Tree) (ps : List Part) → AllCan waited ps → AreWaited waited (triggers_at c ps)
each_waited waited c [] h = tt
each_waited waited c (p ∷ ps) h = join_waited waited (trigger_at c p true) _ (one_waited waited c p true h.0)
    (join_waited waited (trigger_at c p false) _ (one_waited waited c p false h.0) (each_waited waited c ps h.1))

pub waited_on : (waited : List Part) (c : Tree) → AreWaited waited (triggers_of waited c)
unfolding triggers_of
waited_on waited c = each_waited waited c (in_order (showing_parts waited (atoms_of (edge_part c))))
    (order_can waited (showing_parts waited (atoms_of (edge_part c))) (showing_can waited (atoms_of (edge_part c))))
