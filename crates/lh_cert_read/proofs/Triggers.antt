-- Triggers that are found one by one.
use Rattle.std.proofs.Common.{◌≡◌, ℕ, ◌+◌, ◌<◌, List, [], ◌∷◌, ◌++◌, length, map, drop, get_or, Option, Some, None, refl, ap, sym, ◌∙◌, subst, append_assoc}
use Rattle.std.specs.Option.{option_map}
use Rattle.std.proofs.lemmas.List.{append-nil, drop_more}
use Rattle.lh_unit.specs.Contents.{TriggerText}
use Rattle.lh_unit.specs.Held.{front}
use Rattle.lh_unit.specs.declared.inst.Mode.{Mode}
use Rattle.lh_unit.specs.declared.inst.RegTrigger.{RegTrigger}
use Rattle.lh_term.specs.Tree.{Tree}
use Rattle.lh_term.specs.Arena.{Grows}
use Rattle.lh_term.specs.declared.term.TermId.{TermId}
use Rattle.lh_term.specs.declared.term.TermNode.{TermNode}
use Rattle.lh_term.proofs.Swaps.{stands_grown}
use Rattle.lh_region_def.specs.Known.{Knowledge}
use Rattle.lh_cert_rows.specs.Rows.{TriggerRow}
use Rattle.lh_cert_rows.specs.Reading.{trigger_known, triggers_known, trigger_row}
use Rattle.lh_cert_read.specs.Rows.{IsTrigger, AreRegisterTriggers}
use Rattle.lh_cert_read.specs.Lines.{MaybeTerm, MaybeTrigger, MaybeTriggers, trigger_by}
use Rattle.lh_cert_read.specs.declared.rows.RegisterTrigger.{RegisterTrigger}

pub term-grown : (ns ms : List TermNode) → Grows ns ms → (x : Option TermId) (y : Option Tree) → MaybeTerm ns x y → MaybeTerm ms x y
term-grown ns ms g None None i = tt
term-grown ns ms g (Some t) (Some z) i = stands_grown ns ms g t z i
term-grown ns ms g None (Some z) i = absurd i
term-grown ns ms g (Some t) None i = absurd i

pub triggers-grown : (ns ms : List TermNode) → Grows ns ms → (gs : List RegisterTrigger) (xs : List TriggerRow) → AreRegisterTriggers ns gs xs → AreRegisterTriggers ms gs xs
triggers-grown ns ms g [] [] h = tt
triggers-grown ns ms g (x ∷ xs) (y ∷ ys) h = (
  record {
    mode = h.0.mode;
    operand = stands_grown ns ms g x.operand y.operand h.0.operand;
    gate = stands_grown ns ms g x.gate y.gate h.0.gate;
    value = stands_grown ns ms g x.value y.value h.0.value;
    delay = stands_grown ns ms g x.delay y.delay h.0.delay;
  },
  triggers-grown ns ms g xs ys h.1,
)
triggers-grown ns ms g [] (y ∷ ys) h = absurd h
triggers-grown ns ms g (x ∷ xs) [] h = absurd h

pub triggers-push : (ns : List TermNode) (gs : List RegisterTrigger) (xs : List TriggerRow) (g : RegisterTrigger) (x : TriggerRow) → AreRegisterTriggers ns gs xs → IsTrigger ns g x
    → AreRegisterTriggers ns (gs ++ g ∷ []) (xs ++ x ∷ [])
triggers-push ns [] [] g x h i = (i, tt)
triggers-push ns (y ∷ ys) (z ∷ zs) g x h i = (h.0, triggers-push ns ys zs g x h.1 i)
triggers-push ns [] (z ∷ zs) g x h i = absurd h
triggers-push ns (y ∷ ys) [] g x h i = absurd h

-- these in front, if the others are there
abbrev pub behind : List TriggerRow → Option (List TriggerRow) → Option (List TriggerRow)
behind xs o = option_map (λ more. xs ++ more) o

-- triggers that were found are those of the first texts, and the rest is still to be looked for
pub record SoFar (ns : List TermNode) (gs : List RegisterTrigger) (rest : List TriggerText) (k : Knowledge) (all : List TriggerText) : Type 0 where
  pub rows : List TriggerRow
  pub are : AreRegisterTriggers ns gs rows
  pub known : triggers_known k all ≡ behind rows (triggers_known k rest)

option-same : {A : Type 0} (o : Option A) → o ≡ option_map (λ x. x) o
option-same None = refl
option-same (Some x) = refl

option-again : (xs : List TriggerRow) (y : TriggerRow) (o : Option (List TriggerRow)) → behind xs (front (Some y) o) ≡ behind (xs ++ y ∷ []) o
option-again xs y None = refl
option-again xs y (Some zs) = ap Some (sym (append_assoc xs (y ∷ []) zs))

pub none-so-far : (ns : List TermNode) (k : Knowledge) (all : List TriggerText) → SoFar ns [] all k all
none-so-far ns k all = record { rows = []; are = tt; known = option-same (triggers_known k all) }

module _ (ns ms : List TermNode) (grows : Grows ns ms) (gs : List RegisterTrigger) (t : TriggerText) (rest : List TriggerText) (k : Knowledge) (all : List TriggerText) (s : SoFar ns gs (t ∷ rest) k all) where
  pub one-more : (g : RegisterTrigger) → MaybeTrigger ms (Some g) (trigger_known k t) → SoFar ms (gs ++ g ∷ []) rest k all
  one-more g m = by (trigger_known k t) refl m
    where
      by : (o : Option TriggerRow) → trigger_known k t ≡ o → MaybeTrigger ms (Some g) o → SoFar ms (gs ++ g ∷ []) rest k all
      by None e m = absurd m
      by (Some x) e m = record {
        rows = s.rows ++ x ∷ [];
        are = triggers-push ms gs s.rows g x (triggers-grown ns ms grows gs s.rows s.are) m;
        known = s.known ∙ ap (λ y. behind s.rows (front y (triggers_known k rest))) e ∙ option-again s.rows x (triggers_known k rest);
      }

  pub is-missing : MaybeTrigger ms None (trigger_known k t) → MaybeTriggers ms None (triggers_known k all)
  is-missing m = by (trigger_known k t) refl m
    where
      by : (o : Option TriggerRow) → trigger_known k t ≡ o → MaybeTrigger ms None o → MaybeTriggers ms None (triggers_known k all)
      by (Some x) e m = absurd m
      by None e m = subst (MaybeTriggers ms None) (sym (s.known ∙ ap (λ y. behind s.rows (front y (triggers_known k rest))) e)) tt

-- the same of the texts of triggers from number i on
module _ (ns ms : List TermNode) (grows : Grows ns ms) (gs : List RegisterTrigger) (text : RegTrigger → TriggerText) (xs : List RegTrigger) (i : ℕ) (l : i < length xs) (k : Knowledge) (all : List TriggerText)
    (s : SoFar ns gs (map text (drop i xs)) k all) where
  parted : (d : RegTrigger) → SoFar ns gs (text (get_or xs i d) ∷ map text (drop (i + 1) xs)) k all
  parted d = subst (λ (rest : List TriggerText). SoFar ns gs rest k all) (ap (map text) (drop_more xs i d l)) s

  pub one-more-at : (d : RegTrigger) (o : Option RegisterTrigger) (g : RegisterTrigger) → MaybeTrigger ms o (trigger_known k (text (get_or xs i d))) → o ≡ Some g
      → SoFar ms (gs ++ g ∷ []) (map text (drop (i + 1) xs)) k all
  one-more-at d o g m e =
      one-more ns ms grows gs (text (get_or xs i d)) (map text (drop (i + 1) xs)) k all (parted d) g (subst (λ x. MaybeTrigger ms x (trigger_known k (text (get_or xs i d)))) e m)

  pub is-missing-at : (d : RegTrigger) (o : Option RegisterTrigger) → MaybeTrigger ms o (trigger_known k (text (get_or xs i d))) → o ≡ None → MaybeTriggers ms None (triggers_known k all)
  is-missing-at d o m e =
      is-missing ns ms grows gs (text (get_or xs i d)) (map text (drop (i + 1) xs)) k all (parted d) (subst (λ x. MaybeTrigger ms x (trigger_known k (text (get_or xs i d)))) e m)

pub all-found : (ns : List TermNode) (gs : List RegisterTrigger) (k : Knowledge) (all : List TriggerText) → SoFar ns gs [] k all → MaybeTriggers ns (Some gs) (triggers_known k all)
all-found ns gs k all s =
    subst (MaybeTriggers ns (Some gs)) (sym (s.known ∙ ap Some (append-nil s.rows))) s.are

pub trigger-made : (ns : List TermNode) (m : Mode) (ox og ov od : Option TermId) (x g v d : Option Tree) → MaybeTerm ns ox x → MaybeTerm ns og g → MaybeTerm ns ov v → MaybeTerm ns od d
    → MaybeTrigger ns (trigger_by m ox og ov od) (trigger_row m x g v d)
trigger-made ns m (Some ox) (Some og) (Some ov) (Some od) (Some x) (Some g) (Some v) (Some d) a b c e = record { mode = refl; operand = a; gate = b; value = c; delay = e }
trigger-made ns m None og ov od None g v d a b c e = tt
trigger-made ns m (Some ox) None ov od (Some x) None v d a b c e = tt
trigger-made ns m (Some ox) (Some og) None od (Some x) (Some g) None d a b c e = tt
trigger-made ns m (Some ox) (Some og) (Some ov) None (Some x) (Some g) (Some v) None a b c e = tt
trigger-made ns m None og ov od (Some x) g v d a b c e = absurd a
trigger-made ns m (Some ox) og ov od None g v d a b c e = absurd a
trigger-made ns m (Some ox) None ov od (Some x) (Some g) v d a b c e = absurd b
trigger-made ns m (Some ox) (Some og) ov od (Some x) None v d a b c e = absurd b
trigger-made ns m (Some ox) (Some og) None od (Some x) (Some g) (Some v) d a b c e = absurd c
trigger-made ns m (Some ox) (Some og) (Some ov) od (Some x) (Some g) None d a b c e = absurd c
trigger-made ns m (Some ox) (Some og) (Some ov) None (Some x) (Some g) (Some v) (Some d) a b c e = absurd e
trigger-made ns m (Some ox) (Some og) (Some ov) (Some od) (Some x) (Some g) (Some v) None a b c e = absurd e
