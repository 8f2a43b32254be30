-- Drives, operations and probes do what their rows and terms say.
use Rattle.std.proofs.Common.{◌≡◌, ℕ, Bool, true, false, if◌then◌else◌, List, [], ◌∷◌, map, refl, sym, ap, ◌∙◌, Option, Some, None}
use Rattle.std.specs.Prelude.{unwrap_or}
use Rattle.std.specs.Option.{option_and_then, option_map}
use Rattle.std.proofs.lemmas.Option.{same_Some, none-some}
use Rattle.lh_time.specs.declared.Instant.{Instant}
use Rattle.lh_types.specs.Types.{signal_type}
use Rattle.lh_types.specs.Bits.{value_bits}
use Rattle.lh_types.specs.Wish.{Wish, with_drive}
use Rattle.lh_types.specs.Apply.{apply, bit_value}
use Rattle.lh_types.specs.declared.op.Op.{Op}
use Rattle.lh_types.specs.declared.part.Range.{Range}
use Rattle.lh_unit.specs.Contents.{OperandText, UnitText}
use Rattle.lh_unit.specs.Typing.{carried, or_else}
use Rattle.lh_unit.specs.Held.{datum_held, Env, as_delay, as_test, data_at, datum_at, front}
use Rattle.lh_unit.specs.Effects.{condition_at, drive_due, drive_when, driven, read_bits, signal_part}
use Rattle.lh_unit.specs.Effects as effect
use Rattle.lh_term.specs.Tree.{Tree, now_of, tree_row, operation_on}
use Rattle.lh_term.specs.Types.{IsTyped}
use Rattle.lh_term.specs.Mean.{Valuation, IsFitting, mean, means, is_one}
use Rattle.lh_term.specs.Make.{bit_of}
use Rattle.lh_term.specs.declared.part.Part.{Part}
use Rattle.lh_term.proofs.Sound.{bit_mean}
use Rattle.lh_term.proofs.Conditions.{one_bit}
use Rattle.lh_region_def.specs.Known.{known_value, Knowledge, value_known, part_known, values_known}
use Rattle.lh_region_def.specs.Means.{range_in, reads, held_as, is_true, due_by}
use Rattle.lh_region_def.specs.Rows.{Drive}
use Rattle.lh_region_def.specs.Typed.{IsCondition}
use Rattle.lh_cert_terms.specs.Rebuilding.{read_operation}
use Rattle.lh_cert_terms.proofs.Reading.{read_sound}
use Rattle.lh_cert_rows.specs.Rows.{driven_by}
use Rattle.lh_cert_rows.specs.Reading.{condition_known, drive_row}
use Rattle.lh_cert_rows.specs.Means.{row_made}
use Rattle.lh_cert_rows.specs.Laws.{IsHeld}
use Rattle.lh_cert_rows.proofs.Registers.{value-held, part-held, drive-due}

-- ---- drives

-- what is known of each part of a drive
record DriveKnown (k : Knowledge) (to : OperandText) (value after : List ℕ) (cond : Option (List ℕ)) (d : Drive) : Type 0 where
  when_known : condition_known k cond ≡ Some d.cond
  to_known : part_known k to.value ≡ Some d.part
  value_is : value_known k value ≡ Some d.value
  delay_is : value_known k after ≡ Some d.delay

row-is : (a b : Drive) → driven_by a ≡ driven_by b → a ≡ b
row-is a b e = cc

drive-parts : (k : Knowledge) (to : OperandText) (value after : List ℕ) (cond : Option (List ℕ)) (d : Drive)
    → drive_row (condition_known k cond) (part_known k to.value) (value_known k value) (value_known k after) ≡ Some (driven_by d) → DriveKnown k to value after cond d
drive-parts k to value after cond d h = at (condition_known k cond) (part_known k to.value) (value_known k value) (value_known k after) refl refl refl refl h
  where
    at : (x : Option Tree) (p : Option Part) (y z : Option Tree) → condition_known k cond ≡ x → part_known k to.value ≡ p → value_known k value ≡ y → value_known k after ≡ z
        → drive_row x p y z ≡ Some (driven_by d) → DriveKnown k to value after cond d
    at (Some x) (Some p) (Some y) (Some z) a b c f e =
        let q = row-is (record { cond = x; part = p; value = y; delay = z }) d (same_Some (driven_by (record { cond = x; part = p; value = y; delay = z })) (driven_by d) e) in
        record {
          when_known = a ∙ ap (λ (m : Drive). Some m.cond) q;
          to_known = b ∙ ap (λ (m : Drive). Some m.part) q;
          value_is = c ∙ ap (λ (m : Drive). Some m.value) q;
          delay_is = f ∙ ap (λ (m : Drive). Some m.delay) q;
        }
    at None p y z a b c f e = absurd (none-some (driven_by d) e)
    at (Some x) None y z a b c f e = absurd (none-some (driven_by d) e)
    at (Some x) (Some p) None z a b c f e = absurd (none-some (driven_by d) e)
    at (Some x) (Some p) (Some y) None a b c f e = absurd (none-some (driven_by d) e)

bit-test : (b : Bool) → as_test (bit_value b) ≡ Some b
bit-test true = refl
bit-test false = refl

module _ (now : Valuation) (fits : IsFitting now) (args : List Range) (k : Knowledge) (e : Env) (s : IsHeld now args k e) where
  tested : (c : Tree) → IsCondition c → as_test (mean now now c) ≡ Some (is_true now now c)
  tested c i =
      let b = bit_mean c (record { typed = i.typed; type = i.type }) now now fits fits in
      ap as_test b.is ∙ bit-test b.bit ∙ ap Some (sym (ap is_one b.is ∙ one_bit b.bit))

  condition-tested : (n : Option (List ℕ)) (c : Tree) → condition_known k n ≡ Some c → IsCondition c → condition_at e n ≡ Some (is_true now now c)
  condition-tested None c q i = ap (λ x. Some (is_true now now x)) (same_Some (bit_of true) c q)
  condition-tested (Some n) c q i = ap (option_and_then as_test) (value-held now args k e s n c q) ∙ tested c i

  when-true : (t : Instant) (w : Wish) (d : Drive) (b : Bool) → unwrap_or (drive_when (Some b) w (drive_due t w (Some (range_in args d.part)) (Some (mean now now d.value)) (as_delay (mean now now d.delay)))) w
      ≡ (if b then with_drive w (due_by t (mean now now d.delay)) (range_in args d.part).lo (value_bits (mean now now d.value)) else w)
  when-true t w d true = drive-due t w (range_in args d.part) (mean now now d.value) (as_delay (mean now now d.delay))
  when-true t w d false = refl

  pub drives-do : (past : Option Valuation) (t : Instant) (w : Wish) (to : OperandText) (value after : List ℕ) (cond : Option (List ℕ)) (d : Drive)
      → drive_row (condition_known k cond) (part_known k to.value) (value_known k value) (value_known k after) ≡ Some (driven_by d) → IsCondition d.cond
      → unwrap_or (driven t e w to value after cond) w ≡ row_made past now args t w (driven_by d)
  drives-do past t w to value after cond d h i =
      let m = drive-parts k to value after cond d h in
      let c = condition-tested cond d.cond m.when_known i in
      let p = part-held now args k e s to.value d.part m.to_known in
      let v = value-held now args k e s value d.value m.value_is in
      let f = ap (option_and_then as_delay) (value-held now args k e s after d.delay m.delay_is) in
      (λ j. unwrap_or (drive_when (c j) w (drive_due t w (p j) (v j) (f j))) w) ∙ when-true t w d (is_true now now d.cond)

  -- ---- operations

  data-held : (os : List OperandText) (ts : List Tree) → values_known k os ≡ Some ts → data_at e os ≡ Some (map (mean now now) ts)
  data-held [] ts q = ap (λ xs. Some (map (mean now now) xs)) (same_Some [] ts q)
  data-held (o ∷ os) ts q = by (data-held os) (value_known k o.value) refl (values_known k os) refl q
    where
      by : ((xs : List Tree) → values_known k os ≡ Some xs → data_at e os ≡ Some (map (mean now now) xs)) → (a : Option Tree) → value_known k o.value ≡ a → (b : Option (List Tree)) → values_known k os ≡ b → front a b ≡ Some ts → front (datum_at e o.value) (data_at e os) ≡ Some (map (mean now now) ts)
      by go None p b g h = absurd (none-some ts h)
      by go (Some x) p None g h = absurd (none-some ts h)
      by go (Some x) p (Some xs) g h =
          let a = value-held now args k e s o.value x p in
          let b = go xs g in
          (λ i. front (a i) (b i)) ∙ ap (λ ys. Some (map (mean now now) ys)) (same_Some (x ∷ xs) ts h)

  means-map : (ts : List Tree) → means now now (tree_row ts) ≡ map (mean now now) ts
  means-map [] = refl
  means-map (t ∷ ts) = ap (λ r. mean now now t ∷ r) (means-map ts)

  -- an operation gives what its term means, where the term means what the operation does
  pub operation-means : (u : UnitText) (o : Op) (operands : List OperandText) (ts : List Tree) → values_known k operands ≡ Some ts
      → mean now now (read_operation o ts) ≡ apply o (means now now (tree_row ts))
      → effect.operated u e o operands ≡ Some (held_as (mean now now) (range_in args) (known_value (read_operation o ts)))
  operation-means u o operands ts q d =
      ap (λ x. or_else (option_map (λ ds. datum_held (apply o ds)) x) (signal_part u e o operands)) (data-held operands ts q)
      ∙ ap (λ ds. Some (datum_held (apply o ds))) (sym (means-map ts)) ∙ ap (λ x. Some (datum_held x)) (sym d)

  pub operations-do : (u : UnitText) (o : Op) (operands : List OperandText) (ts : List Tree) → values_known k operands ≡ Some ts → IsTyped (operation_on o ts)
      → effect.operated u e o operands ≡ Some (held_as (mean now now) (range_in args) (known_value (read_operation o ts)))
  operations-do u o operands ts q i = operation-means u o operands ts q ((read_sound o ts i).mean now now fits fits)

-- ---- probes

pub probes-do : (args : List Range) (now : List Bool) (k : Knowledge) (e : Env) (s : OperandText) (p : Part) → IsHeld (reads args now) args k e → part_known k s.value ≡ Some p → s.ty ≡ Some (signal_type p.ty)
    → effect.probed now e s ≡ Some (held_as (mean (reads args now) (reads args now)) (range_in args) (known_value (now_of p)))
probes-do args now k e s p h q t =
    let r = part-held (reads args now) args k e h s.value p q in
    λ i. read_bits now (option_and_then carried (t i)) (r i)
