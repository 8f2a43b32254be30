-- Lists that grow item by item.
use Rattle.std.proofs.Common.{◌≡◌, ℕ, ◌+◌, ◌<◌, List, [], ◌∷◌, ◌++◌, length, map, drop, get_or, set, Bool, true, false, nat_eq, if◌then◌else◌, Option, Some, None, refl, ap, sym, ◌∙◌, subst, append_assoc, add-one, drop-cons}
use Rattle.std.specs.Option.{option_map}
use Rattle.std.proofs.lemmas.List.{append-nil, map-append, length-set}
use Rattle.lh_types.specs.Values.{Datum}
use Rattle.lh_types.specs.ValueOf.{datum_of}
use Rattle.lh_types.specs.declared.part.Range.{Range}
use Rattle.lh_unit.specs.Held.{Held, datum_held, front}
use Rattle.std.proofs.lemmas.Option.{same_Some, none-some}
use Rattle.lh_unit.specs.Table.{Table, line_at}
use Rattle.lh_unit.specs.declared.inst.PhiEdge.{PhiEdge}
use Rattle.lh_unit.specs.Within.{Each}
use Rattle.lh_unit.specs.declared.inst.BlockId.{BlockId}
use Rattle.lh_unit.specs.declared.inst.InstId.{InstId}
use Rattle.lh_unit.specs.declared.inst.ValueId.{ValueId}
use Rattle.lh_unit.proofs.Lists.{drop-item}
use Rattle.lh_eval.specs.Holding.{part_in}
use Rattle.lh_exec.specs.declared.machine.Taken.{Taken}
use Rattle.lh_exec.specs.Standing.{parts_in}
use Rattle.lh_exec.specs.Taking.{edge_in, taken_of, one_taken, all_taken, put_all}

pub map-nothing : {X : Type 0} → (o : Option (List X)) → option_map (λ (ys : List X). [] ++ ys) o ≡ o
map-nothing None = refl
map-nothing (Some xs) = refl

-- ---- what is taken is put, the last one first

pub put-last : (ys : List (ValueId × Datum)) (x : ValueId × Datum) (slots : List (Option Held)) → put_all (ys ++ x ∷ []) slots ≡ put_all ys (set slots x.0.0 (Some (datum_held x.1)))
put-last [] x slots = refl
put-last (y ∷ ys) x slots = ap (λ (s : List (Option Held)). set s y.0.0 (Some (datum_held y.1))) (put-last ys x slots)

pub each-front : {X : Type 0} (P : X → Type 0) (xs : List X) (x : X) → Each P (xs ++ x ∷ []) → Each P xs × P x
each-front P [] x e = (tt, e.0)
each-front P (y ∷ ys) x e = let r = each-front P ys x e.1 in ((e.0, r.0), r.1)

pub put-step : (items front : List Taken) (x : Taken) (slots new : List (Option Held)) (z : List (Option Held)) → items ≡ front ++ x ∷ []
    → new ≡ set slots x.name.0 (Some (datum_held (datum_of x.value))) → put_all (map taken_of items) slots ≡ z
    → Each (λ (t : ValueId × Datum). t.0.0 < length slots) (map taken_of items) → (put_all (map taken_of front) new ≡ z) × Each (λ (t : ValueId × Datum). t.0.0 < length new) (map taken_of front)
    × (x.name.0 < length slots)
put-step items front x slots new z e g h w =
    let all : map taken_of items ≡ map taken_of front ++ taken_of x ∷ [] = ap (map taken_of) e ∙ map-append taken_of front (x ∷ []) in
    let r = each-front (λ (t : ValueId × Datum). t.0.0 < length slots) (map taken_of front) (taken_of x) (subst (Each (λ (t : ValueId × Datum). t.0.0 < length slots)) all w) in
    let long : length slots ≡ length new = sym (ap length g ∙ length-set slots x.name.0 (Some (datum_held (datum_of x.value)))) in (
      ap (put_all (map taken_of front)) g ∙ sym (put-last (map taken_of front) (taken_of x) slots) ∙ sym (ap (λ (l : List (ValueId × Datum)). put_all l slots) all) ∙ h,
      subst (λ (n : ℕ). Each (λ (t : ValueId × Datum). t.0.0 < n) (map taken_of front)) long r.0,
      r.1,
    )

-- ---- taking, instruction by instruction

pub all-taken : (xs : List (ValueId × Datum)) (z : Option (List (ValueId × Datum))) → option_map (λ ys. xs ++ ys) (Some []) ≡ z → z ≡ Some xs
all-taken xs z e = sym e ∙ ap Some (append-nil xs)

pub no-more : (xs : List (ValueId × Datum)) (more z : Option (List (ValueId × Datum))) → more ≡ None → option_map (λ ys. xs ++ ys) more ≡ z → z ≡ None
no-more xs more z e h = sym h ∙ ap (option_map (λ ys. xs ++ ys)) e

module _ (from : BlockId) (slots : List (Option Held)) (t : Table) (insts : List InstId) (i : ℕ) (h : i < length insts) where
  abbrev here : InstId
  here = get_or insts i (record { 0 = 0 })

  split : drop i insts ≡ get_or insts i (record { 0 = 0 }) ∷ drop (i + 1) insts
  split = rw add-one (drop-cons insts i (record { 0 = 0 }) h)

  pub take-stops : (old : List (ValueId × Datum)) (z : Option (List (ValueId × Datum)))
      → one_taken from slots (line_at t (get_or insts i (record { 0 = 0 })).0).inst (line_at t (get_or insts i (record { 0 = 0 })).0).result (all_taken from slots t (drop (i + 1) insts)) ≡ None
      → option_map (λ ys. old ++ ys) (all_taken from slots t (drop i insts)) ≡ z → z ≡ None
  take-stops old z e g = no-more old (all_taken from slots t (drop i insts)) z (ap (all_taken from slots t) split ∙ e) g

  pub take-goes : (old new : List (ValueId × Datum)) (z : Option (List (ValueId × Datum)))
      → option_map (λ ys. new ++ ys) (all_taken from slots t (drop (i + 1) insts))
      ≡ option_map (λ ys. old ++ ys) (one_taken from slots (line_at t (get_or insts i (record { 0 = 0 })).0).inst (line_at t (get_or insts i (record { 0 = 0 })).0).result (all_taken from slots t
      (drop (i + 1) insts)))
      → option_map (λ ys. old ++ ys) (all_taken from slots t (drop i insts)) ≡ z → option_map (λ ys. new ++ ys) (all_taken from slots t (drop (i + 1) insts)) ≡ z
  take-goes old new z e g = e ∙ sym (ap (λ (l : List InstId). option_map (λ ys. old ++ ys) (all_taken from slots t l)) split) ∙ g

pub edge-in-each : (n : ℕ) (from : BlockId) (es : List PhiEdge) (v : ValueId) → Each (λ (e : PhiEdge). e.value.0 < n) es → edge_in from es ≡ Some v → v.0 < n
edge-in-each n from [] v w e = absurd (none-some v e)
edge-in-each n from (x ∷ es) v w e = by (edge-in-each n from es v w.1) (nat_eq x.block.0 from.0) e
  where
    by : (edge_in from es ≡ Some v → v.0 < n) → (c : Bool) → (if c then Some x.value else edge_in from es) ≡ Some v → v.0 < n
    by go true q = subst (λ (y : ValueId). y.0 < n) (same_Some x.value v q) w.0
    by go false q = go q

-- ---- parts, one by one

part-more : (rs : List Range) (r : Range) (o : Option (List Range)) → option_map (λ xs. (rs ++ r ∷ []) ++ xs) o ≡ option_map (λ xs. rs ++ xs) (front (Some r) o)
part-more rs r None = refl
part-more rs r (Some xs) = ap Some (append_assoc rs (r ∷ []) xs)

pub part-step : (slots : List (Option Held)) (vs : List ValueId) (i : ℕ) (v : ValueId) (rs : List Range) (r : Range) (z : Option (List Range)) → i < length vs → v ≡ get_or vs i v
    → part_in slots v ≡ Some r
    → option_map (λ xs. rs ++ xs) (parts_in slots (drop i vs)) ≡ z → option_map (λ xs. (rs ++ r ∷ []) ++ xs) (parts_in slots (drop (i + 1) vs)) ≡ z
part-step slots vs i v rs r z l e f h =
    part-more rs r (parts_in slots (drop (i + 1) vs))
    ∙ ap (λ (x : Option Range). option_map (λ xs. rs ++ xs) (front x (parts_in slots (drop (i + 1) vs)))) (sym f)
    ∙ ap (λ (xs : List ValueId). option_map (λ ys. rs ++ ys) (parts_in slots xs)) (sym (drop-item vs i v l e))
    ∙ h

pub part-stops : (slots : List (Option Held)) (vs : List ValueId) (i : ℕ) (v : ValueId) (rs : List Range) (z : Option (List Range)) → i < length vs → v ≡ get_or vs i v → part_in slots v ≡ None
    → option_map (λ xs. rs ++ xs) (parts_in slots (drop i vs)) ≡ z → None ≡ z
part-stops slots vs i v rs z l e f h =
    ap (λ (x : Option Range). option_map (λ xs. rs ++ xs) (front x (parts_in slots (drop (i + 1) vs)))) (sym f)
    ∙ ap (λ (xs : List ValueId). option_map (λ ys. rs ++ ys) (parts_in slots xs)) (sym (drop-item vs i v l e))
    ∙ h
