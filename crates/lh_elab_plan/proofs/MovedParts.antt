-- Parts as if each argument and `sig` began at bit 0, and where they lie in an instance.
use Rattle.std.proofs.Common.{◌≡◌, ℕ, zero, suc, ◌+◌, ◌<◌, List, [], ◌∷◌, length, map, set, get_or, Option, Some, None, refl, ap, sym, ◌∙◌, subst, arith}
use Rattle.std.specs.Option.{option_map, option_and_then}
use Rattle.std.proofs.lemmas.List.{length-set}
use Rattle.lh_types.specs.Types.{TypeTree, signal_type}
use Rattle.lh_types.specs.Values.{Datum}
use Rattle.lh_types.specs.Apply.{apply}
use Rattle.lh_types.specs.Parts.{range_of}
use Rattle.lh_types.specs.declared.op.Op.{Op}
use Rattle.lh_types.specs.declared.part.Step.{Step}
use Rattle.lh_types.specs.declared.part.Range.{Range}
use Rattle.lh_unit.specs.Typing.{or_else, value_type}
use Rattle.lh_unit.specs.Held.{Held, datum_held, cell_held, part_held, Env, with_held, as_datum, as_part, data_at, part_at, front}
use Rattle.lh_unit.specs.Effects.{operated, signal_part, stepped, step_of, within}
use Rattle.lh_unit.specs.Hierarchy.{if_held}
use Rattle.lh_unit.specs.Naming.{operand_text, value_text, maybe_text}
use Rattle.lh_unit.specs.Arena.{Arena, IsArena, unit_count, naming, unit_text_at}
use Rattle.lh_unit.specs.Within.{Each}
use Rattle.lh_unit.specs.declared.inst.ValueId.{ValueId}
use Rattle.lh_unit.specs.declared.inst.Typed.{Typed}
use Rattle.lh_eval.specs.Holding.{Holds, MaybeIn, datum_in, data_in}
use Rattle.lh_eval.proofs.HeldByIds.{same-held, holds-more}
use Rattle.lh_elab_plan.specs.declared.statics.Base.{Base}
use Rattle.lh_elab_plan.specs.declared.statics.Base.TheVariants as base
use Rattle.lh_elab_plan.specs.Statics.{StaticsById, held_by, given_by, base_of, base_lo, moved, moved_slots, StaticsFollow}

-- a part above another lowest bit
abbrev pub shifted : ℕ → Range → Range
shifted n r = record { lo = n + r.lo; len = r.len }

module _ (args sigs : List Range) where
  pub length-moved : (bs : List Base) (hs : List (Option Held)) → length bs ≡ length hs → length (moved_slots args sigs bs hs) ≡ length hs
  length-moved [] [] e = refl
  length-moved [] (h ∷ hs) e = absurd (omega arith)
  length-moved (b ∷ bs) [] e = refl
  length-moved (b ∷ bs) (h ∷ hs) e = let r = length-moved bs hs (omega arith) in omega arith

  -- the slot of a value
  pub slot-moved : (bs : List Base) (hs : List (Option Held)) (i : ℕ) → length bs ≡ length hs
      → get_or (moved_slots args sigs bs hs) i None ≡ option_map (moved args sigs (get_or bs i (base.Arg 0))) (get_or hs i None)
  slot-moved [] [] zero e = refl
  slot-moved [] [] (suc i) e = refl
  slot-moved [] (h ∷ hs) i e = absurd (omega arith)
  slot-moved (b ∷ bs) [] i e = absurd (omega arith)
  slot-moved (b ∷ bs) (h ∷ hs) zero e = refl
  slot-moved (b ∷ bs) (h ∷ hs) (suc i) e = slot-moved bs hs i (omega arith)

  -- one more
  pub set-moved : (bs : List Base) (hs : List (Option Held)) (i : ℕ) (b : Base) (h : Held) → length bs ≡ length hs
      → moved_slots args sigs (set bs i b) (set hs i (Some h)) ≡ set (moved_slots args sigs bs hs) i (Some (moved args sigs b h))
  set-moved [] [] zero c h e = refl
  set-moved [] [] (suc i) c h e = refl
  set-moved [] (g ∷ hs) i c h e = absurd (omega arith)
  set-moved (b ∷ bs) [] i c h e = absurd (omega arith)
  set-moved (b ∷ bs) (g ∷ hs) zero c h e = refl
  set-moved (b ∷ bs) (g ∷ hs) (suc i) c h e = ap (λ l. option_map (moved args sigs b) g ∷ l) (set-moved bs hs i c h (omega arith))

  datum-moved : (b : Base) (h : Option Held) → option_and_then as_datum (option_map (moved args sigs b) h) ≡ option_and_then as_datum h
  datum-moved b None = refl
  datum-moved b (Some (datum_held d)) = refl
  datum-moved b (Some (cell_held d)) = refl
  datum-moved b (Some (part_held r)) = refl

  pub part-moved : (b : Base) (h : Option Held) → option_and_then as_part (option_map (moved args sigs b) h) ≡ option_map (shifted (base_lo args sigs b)) (option_and_then as_part h)
  part-moved b None = refl
  part-moved b (Some (datum_held d)) = refl
  part-moved b (Some (cell_held d)) = refl
  part-moved b (Some (part_held r)) = refl

  -- where all begins at bit 0, nothing moves
  held-stays : (b : Base) (h : Option Held) → base_lo args sigs b ≡ 0 → option_map (moved args sigs b) h ≡ h
  held-stays b None e = refl
  held-stays b (Some (datum_held d)) e = refl
  held-stays b (Some (cell_held d)) e = refl
  held-stays b (Some (part_held r)) e = let f : base_lo args sigs b + r.lo ≡ r.lo = omega arith in ap (λ (n : ℕ). let q : Range = record { lo = n; len = r.len } in Some (part_held q)) f

  pub slots-stay : ((b : Base) → base_lo args sigs b ≡ 0) → (bs : List Base) (hs : List (Option Held)) → length bs ≡ length hs → moved_slots args sigs bs hs ≡ hs
  slots-stay z [] [] e = refl
  slots-stay z [] (h ∷ hs) e = absurd (omega arith)
  slots-stay z (b ∷ bs) [] e = refl
  slots-stay z (b ∷ bs) (h ∷ hs) e = let p = held-stays b h (z b) in let q = slots-stay z bs hs (omega arith) in λ i. p i ∷ q i

  -- a step into a part
  in-range : (n : ℕ) (b : Base) (r : Range) (o : Option Range) → base_lo args sigs b ≡ n
      → option_map (λ q. part_held (within (shifted n r) q)) o ≡ option_map (moved args sigs b) (option_map (λ q. part_held (within r q)) o)
  in-range n b r None e = refl
  in-range n b r (Some q) e = let f : (n + r.lo) + q.lo ≡ base_lo args sigs b + (r.lo + q.lo) = omega arith in ap (λ (k : ℕ). let x : Range = record { lo = k; len = q.len } in Some (part_held x)) f

  stepped-moved : (b : Base) (ty : Option TypeTree) (p : Option Range) (s : Option Step) → stepped ty (option_map (shifted (base_lo args sigs b)) p) s ≡ option_map (moved args sigs b) (stepped ty p s)
  stepped-moved b (Some (signal_type t)) (Some r) (Some s) = in-range (base_lo args sigs b) b r (range_of t (s ∷ [])) refl
  stepped-moved b (Some (signal_type t)) (Some r) None = refl
  stepped-moved b (Some (signal_type t)) None s = refl
  stepped-moved b (Some _) None s = refl
  stepped-moved b (Some _) (Some r) s = refl
  stepped-moved b None None s = refl
  stepped-moved b None (Some r) s = refl

  -- a value, or else a part
  first-moved : (b : Base) (f : List Datum → Datum) (ds : Option (List Datum)) (p q : Option Held) → p ≡ option_map (moved args sigs b) q
      → or_else (option_map (λ xs. datum_held (f xs)) ds) p ≡ option_map (moved args sigs b) (or_else (option_map (λ xs. datum_held (f xs)) ds) q)
  first-moved b f None p q e = e
  first-moved b f (Some xs) p q e = refl

  data-moved : (bs : List Base) (hs : List (Option Held)) → length bs ≡ length hs → (os : List Typed) → data_in (moved_slots args sigs bs hs) os ≡ data_in hs os
  data-moved bs hs e [] = refl
  data-moved bs hs e (o ∷ os) =
      let p : datum_in (moved_slots args sigs bs hs) o.value ≡ datum_in hs o.value = ap (option_and_then as_datum) (slot-moved bs hs o.value.0 e)
      ∙ datum-moved (get_or bs o.value.0 (base.Arg 0)) (get_or hs o.value.0 None) in
      let q = data-moved bs hs e os in
      λ i. front (p i) (q i)

  module _ (a : Arena) (u : ℕ) (s : StaticsById) (e e0 : Env) (f : StaticsFollow a u args sigs s e) (d : Holds a u s.slots e0) where
    data-same : (os : List Typed) → Each (λ (o : Typed). o.value.0 < length s.slots) os → data_at e (map (operand_text (naming a u)) os) ≡ data_at e0 (map (operand_text (naming a u)) os)
    data-same os w =
        let n = length-moved s.bases s.slots f.long in
        let w' : Each (λ (o : Typed). o.value.0 < length (moved_slots args sigs s.bases s.slots)) os = subst (λ (k : ℕ). Each (λ (o : Typed). o.value.0 < k) os) (sym n) w in
        sym ((same-held a u (moved_slots args sigs s.bases s.slots) e f.holds).values os w') ∙ data-moved s.bases s.slots f.long os ∙ (same-held a u s.slots e0 d).values os w

    part-same : (v : ValueId) → v.0 < length s.slots
        → part_at e (value_text (naming a u) v) ≡ option_map (shifted (base_lo args sigs (get_or s.bases v.0 (base.Arg 0)))) (part_at e0 (value_text (naming a u) v))
    part-same v w =
        let n = length-moved s.bases s.slots f.long in
        let w' : v.0 < length (moved_slots args sigs s.bases s.slots) = omega (arith, n, w) in
        let b = get_or s.bases v.0 (base.Arg 0) in
        sym ((same-held a u (moved_slots args sigs s.bases s.slots) e f.holds).part v w')
        ∙ ap (option_and_then as_part) (slot-moved s.bases s.slots v.0 f.long)
        ∙ part-moved b (get_or s.slots v.0 None)
        ∙ ap (option_map (shifted (base_lo args sigs b))) ((same-held a u s.slots e0 d).part v w)

    -- what an operation gives in an instance
    pub operated-moved : (o : Op) (os : List Typed) → Each (λ (x : Typed). x.value.0 < length s.slots) os → operated (unit_text_at a u) e o (map (operand_text (naming a u)) os)
        ≡ option_map (moved args sigs (base_of s.bases os)) (operated (unit_text_at a u) e0 o (map (operand_text (naming a u)) os))
    operated-moved o os w =
        ap (λ ds. or_else (option_map (λ xs. datum_held (apply o xs)) ds) (signal_part (unit_text_at a u) e o (map (operand_text (naming a u)) os))) (data-same os w)
        ∙ first-moved (base_of s.bases os) (apply o) (data_at e0 (map (operand_text (naming a u)) os)) _ _ (part-of os w)
      where
        part-of : (xs : List Typed) → Each (λ (x : Typed). x.value.0 < length s.slots) xs → signal_part (unit_text_at a u) e o (map (operand_text (naming a u)) xs)
            ≡ option_map (moved args sigs (base_of s.bases xs)) (signal_part (unit_text_at a u) e0 o (map (operand_text (naming a u)) xs))
        part-of [] l = refl
        part-of (x ∷ []) l =
            let ty = value_type (unit_text_at a u) (value_text (naming a u) x.value) in
            let b = get_or s.bases x.value.0 (base.Arg 0) in
            ap (λ p. stepped ty p (step_of o)) (part-same x.value l.0) ∙ stepped-moved b ty (part_at e0 (value_text (naming a u) x.value)) (step_of o)
        part-of (x ∷ y ∷ xs) l = refl

  module _ (a : Arena) (u : ℕ) (o : IsArena a) (h : u < unit_count a) where
    -- something more is held
    pub follows-held : (s : StaticsById) (e : Env) (v : ValueId) (b : Base) (x : Held) → v.0 < length s.slots → StaticsFollow a u args sigs s e
        → StaticsFollow a u args sigs (held_by s v b x) (with_held e (value_text (naming a u) v) (moved args sigs b x))
    follows-held s e v b x w f =
        let n = length-moved s.bases s.slots f.long in
        record {
          long = length-set s.bases v.0 b ∙ f.long ∙ sym (length-set s.slots v.0 (Some x));
          holds = subst (λ (l : List (Option Held)). Holds a u l (with_held e (value_text (naming a u) v) (moved args sigs b x))) (sym (set-moved s.bases s.slots v.0 b x f.long))
              (holds-more a u (moved_slots args sigs s.bases s.slots) e v (moved args sigs b x) o h f.holds (omega (arith, n, w)));
        }

    pub follows-given : (s : StaticsById) (e : Env) (r : Option ValueId) (b : Base) (x : Option Held) → MaybeIn s.slots r → StaticsFollow a u args sigs s e
        → StaticsFollow a u args sigs (given_by s r b x) (if_held e (maybe_text (naming a u) r) (option_map (moved args sigs b) x))
    follows-given s e None b None w f = f
    follows-given s e None b (Some x) w f = f
    follows-given s e (Some v) b None w f = f
    follows-given s e (Some v) b (Some x) w f = follows-held s e v b x w f
