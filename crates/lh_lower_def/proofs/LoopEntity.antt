-- The entity of the loop is within the limits.
use Rattle.std.proofs.Common.{◌≡◌, ◌≤◌, ℕ, zero, suc, ◌+◌, ◌*◌, true, List, [], ◌∷◌, ◌++◌, length, Option, Some, None, slice_get, refl, ap, sym, subst, arith}
use Rattle.lh_types.specs.Values.{int_value, time_value}
use Rattle.lh_types.specs.declared.op.Op.TheVariants.{Add}
use Rattle.lh_unit.specs.Contents.{LineText, const_text}
use Rattle.lh_term.specs.Tree.{Tree, constant, now_of, no_trees, more_trees}
use Rattle.lh_term.specs.Make.{bit_of}
use Rattle.lh_emit_def.specs.Given.{Drive}
use Rattle.lh_emit_def.specs.Emitted.{Source, Emitted, nothing_emitted, gives_term, takes_steps, arg_name, unless_there, need_part}
use Rattle.lh_emit_def.specs.Needs.{gives_operation, need, need_all, probe}
use Rattle.lh_emit_def.specs.Entities.{comb, emit_probes, need_drive, choices_fit, drive_fits}
use Rattle.lh_lower_def.specs.Loops.{whole, sum_of}

abbrev pub drive_of : Tree → Drive
drive_of v = record { cond = bit_of true; part = whole 1; value = v; delay = constant (time_value (record { fs = 0; delta = 1; eps = 0 })) }

-- at most this many instructions
abbrev AtMost : ℕ → Emitted → Type 0
AtMost b e = length e.lines ≤ b

one-longer : (ls : List LineText) (l : LineText) → length (ls ++ l ∷ []) ≡ suc (length ls)
one-longer [] l = refl
one-longer (x ∷ ls) l = ap suc (one-longer ls l)

one-line : (ls : List LineText) (l : LineText) (b : ℕ) → length ls ≤ b → length (ls ++ l ∷ []) ≤ b + 1
one-line ls l b h = omega (arith, h, one-longer ls l)

within-line : (ls : List LineText) (l : LineText) (b c : ℕ) → length ls ≤ b → b + 1 ≤ c → length (ls ++ l ∷ []) ≤ c
within-line ls l b c h k = omega (arith, h, k, one-longer ls l)

unless-at-most : (o : Option (List ℕ)) (f : Emitted → Emitted) (e : Emitted) (b : ℕ) → AtMost b e → AtMost b (f e) → AtMost b (unless_there o f e)
unless-at-most None f e b h k = k
unless-at-most (Some n) f e b h k = h

module _ (s : Source) (none : (i : ℕ) → s.steps (whole i) ≡ []) where
  part-at-most : (i : ℕ) (e : Emitted) (b : ℕ) → AtMost b e → AtMost b (need_part s (whole i) e)
  part-at-most i e b h =
      unless-at-most (e.parts (whole i)) (takes_steps s (whole i) (arg_name (slice_get s.args i)) (s.steps (whole i))) e b h
      (subst (λ st. AtMost b (takes_steps s (whole i) (arg_name (slice_get s.args i)) st e)) (sym (none i)) h)

  now-at-most : (e : Emitted) (b : ℕ) → AtMost b e → AtMost (b + 1) (need s (now_of (whole 0)) e)
  now-at-most e b h =
      unless-at-most (e.terms (now_of (whole 0))) (λ x. probe s (now_of (whole 0)) (whole 0) (need_part s (whole 0) x)) e (b + 1) (omega (arith, h))
      (one-line (need_part s (whole 0) e).lines _ b (part-at-most 0 e b h))

  sum-at-most : (k : ℕ) (e : Emitted) (b : ℕ) → AtMost b e → AtMost (b + (2 * k + 1)) (need s (sum_of k) e)
  sum-at-most zero e b h =
      unless-at-most (e.terms (sum_of 0)) (gives_term s (sum_of 0) (const_text (int_value 32 0))) e (b + (2 * 0 + 1)) (omega (arith, h)) (within-line e.lines _ b (b + (2 * 0 + 1)) h (omega arith))
  sum-at-most (suc k) e b h =
      let a : AtMost (b + (2 * k + 1)) (need s (sum_of k) e) = sum-at-most k e b h in
      let c : AtMost (b + (2 * k + 1) + 1) (need s (now_of (whole 0)) (need s (sum_of k) e)) = now-at-most (need s (sum_of k) e) (b + (2 * k + 1)) a in
      unless-at-most (e.terms (sum_of (suc k)))
      (λ x. gives_operation s (sum_of (suc k)) Add (sum_of k ∷ now_of (whole 0) ∷ []) (need_all s (more_trees (sum_of k) (more_trees (now_of (whole 0)) no_trees)) x)) e
      (b + (2 * suc k + 1)) (omega (arith, h))
      (within-line (need s (now_of (whole 0)) (need s (sum_of k) e)).lines _ (b + (2 * k + 1) + 1) (b + (2 * suc k + 1)) c (omega arith))

  time-at-most : (e : Emitted) (b : ℕ) → AtMost b e → AtMost (b + 1) (need s (drive_of (sum_of 0)).delay e)
  time-at-most e b h =
      unless-at-most (e.terms (drive_of (sum_of 0)).delay) (gives_term s (drive_of (sum_of 0)).delay (const_text (time_value (record { fs = 0; delta = 1; eps = 0 })))) e (b + 1)
      (omega (arith, h)) (one-line e.lines _ b h)

  -- the whole entity
  pub entity-at-most : (k : ℕ) → AtMost (2 * k + 4) (comb s (whole 0 ∷ []) (drive_of (sum_of k) ∷ []))
  entity-at-most k =
      let a : AtMost 1 (emit_probes s (whole 0 ∷ []) (nothing_emitted s)) = now-at-most (nothing_emitted s) 0 (omega arith) in
      let v = sum-at-most k (emit_probes s (whole 0 ∷ []) (nothing_emitted s)) 1 a in
      let t = time-at-most (need s (sum_of k) (emit_probes s (whole 0 ∷ []) (nothing_emitted s))) (1 + (2 * k + 1)) v in
      let q = part-at-most 1 (need s (drive_of (sum_of 0)).delay (need s (sum_of k) (emit_probes s (whole 0 ∷ []) (nothing_emitted s)))) (1 + (2 * k + 1) + 1) t in
      within-line (need_drive s (drive_of (sum_of k)) (emit_probes s (whole 0 ∷ []) (nothing_emitted s))).lines _ (1 + (2 * k + 1) + 1) (2 * k + 4) q (omega arith)

sum-fits : (k : ℕ) → choices_fit (sum_of k) ≡ true
sum-fits zero = refl
sum-fits (suc k) = rw (sum-fits k) refl

pub drive-fits : (k : ℕ) → drive_fits (drive_of (sum_of k)) ≡ true
drive-fits k = rw (sum-fits k) refl
