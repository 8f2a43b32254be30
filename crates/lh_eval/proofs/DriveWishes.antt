-- A drive names only bits of the signals, where what is held fits.
use Rattle.std.proofs.Common.{◌≡◌, ℕ, ◌+◌, ◌<◌, ◌≤◌, List, [], ◌∷◌, length, Bool, true, false, unwrap_or, Option, Some, None, refl, arith}
use Rattle.std.specs.declared.cmp.Ordering.{Ordering}
use Rattle.std.specs.declared.cmp.Ordering.TheVariants.{Less, Equal, Greater}
use Rattle.std.specs.Ordering.{match_ordering}
use Rattle.std.specs.BTreeMap.{insert_entry}
use Rattle.lh_time.specs.declared.Instant.{Instant}
use Rattle.lh_time.specs.declared.Delay.{Delay}
use Rattle.lh_time.specs.Due.{due_of}
use Rattle.lh_types.specs.Types.{TypeTree, signal_type}
use Rattle.lh_types.specs.Values.{Datum}
use Rattle.lh_types.specs.Bits.{value_bits}
use Rattle.lh_types.specs.Wish.{DueBit, due_bit_cmp, Wish, with_bit, with_bits, with_drive}
use Rattle.lh_types.specs.declared.part.Range.{Range}
use Rattle.lh_bits.proofs.LawProofs.{bits_are_counted}
use Rattle.lh_unit.specs.Contents.{OperandText, drv_text, UnitText}
use Rattle.lh_unit.specs.Effects.{condition_at, drive_due, drive_when, driven}
use Rattle.lh_unit.specs.Held.{datum_held, Env, datum_at, delay_at, part_at}
use Rattle.lh_unit.specs.Within.{Each}
use Rattle.lh_unit.proofs.Lists.{Each-of-map}
use Rattle.lh_verify_laws.specs.Operands.{RowIs, IsOf}
use Rattle.lh_verify_laws.proofs.EachItem.{each-split}
use Rattle.lh_eval.specs.Fitting.{Fits}
use Rattle.lh_eval.specs.Wishing.{WishWithin, BitsWithin}
use Rattle.lh_eval.specs.WishOf.{bits_due, writes_wish}
use Rattle.lh_eval.proofs.ValuesFit.{datum-held}
use Rattle.lh_eval.proofs.GivesFit.{part-fits}

insert-within : (w : ℕ) (k : DueBit) (b : Bool) (es : Wish) → k.bit < w → WishWithin w es → WishWithin w (insert_entry due_bit_cmp es k b)
insert-within w k b [] h x = (h, tt)
insert-within w k b (e ∷ es) h x = at (due_bit_cmp k e.0) (insert-within w k b es h x.1)
  where
    at : (o : Ordering) → WishWithin w (insert_entry due_bit_cmp es k b) → WishWithin w (match_ordering o ((k, b) ∷ e ∷ es) ((e.0, b) ∷ es) (e ∷ insert_entry due_bit_cmp es k b))
    at Less ih = (h, x)
    at Equal ih = (x.0, x.1)
    at Greater ih = (x.0, ih)

bits-within : (w : ℕ) (wish : Wish) (due : Instant) (lo : ℕ) (bs : List Bool) → lo + length bs ≤ w → WishWithin w wish → WishWithin w (with_bits wish due lo bs)
bits-within w wish due lo [] h x = x
bits-within w wish due lo (b ∷ bs) h x = bits-within w (with_bit wish due lo b) due (lo + 1) bs (omega (arith, h)) (insert-within w (record { due = due; bit = lo }) b wish (omega (arith, h)) x)

drive-within : (w : ℕ) (wish : Wish) (due : Option Instant) (lo : ℕ) (bs : List Bool) → lo + length bs ≤ w → WishWithin w wish → WishWithin w (with_drive wish due lo bs)
drive-within w wish None lo bs h x = x
drive-within w wish (Some due) lo bs h x = bits-within w wish due lo bs h x

pub when-within : (w : ℕ) (c : Option Bool) (wish : Wish) (d : Option Wish) → WishWithin w wish → WishWithin w (unwrap_or d wish) → WishWithin w (unwrap_or (drive_when c wish d) wish)
when-within w None wish d x y = x
when-within w (Some true) wish d x y = y
when-within w (Some false) wish d x y = x

module _ (u : UnitText) (w : ℕ) where
  -- a drive of a value to a signal that carries its type
  pub due-within : (e : Env) (t : Instant) (wish : Wish) (to value : List ℕ) (ty : TypeTree) (d : Option Delay) → Fits u w e → IsOf u (signal_type ty) to → IsOf u ty value → WishWithin w wish
      → WishWithin w (unwrap_or (drive_due t wish (part_at e to) (datum_at e value) d) wish)
  due-within e t wish to value ty d f p q x = by (part_at e to) (datum_at e value) d refl refl
    where
      by : (o : Option Range) (v : Option Datum) (z : Option Delay) → part_at e to ≡ o → datum_at e value ≡ v → WishWithin w (unwrap_or (drive_due t wish o v z) wish)
      by None v z g h = x
      by (Some r) None z g h = x
      by (Some r) (Some y) None g h = x
      by (Some r) (Some y) (Some z) g h =
          let k = part-fits u w e f to r ty g p in
          let n = f value (datum_held y) ty (datum-held (e value) y h) q in
          drive-within w wish (due_of t z) r.lo (value_bits y) (omega (arith, bits_are_counted y ty n.1, k.1, k.2)) x

  -- a `drv`
  pub driven-within : (e : Env) (t : Instant) (wish : Wish) (to : OperandText) (value after : List ℕ) (cond : Option (List ℕ)) → Fits u w e → RowIs u (drv_text to value after cond) → WishWithin w wish
      → WishWithin w (unwrap_or (driven t e wish to value after cond) wish)
  driven-within e t wish to value after cond f row x =
      when-within w (condition_at e cond) wish (drive_due t wish (part_at e to.value) (datum_at e value) (delay_at e after)) x
      (due-within e t wish to.value value row.0 (delay_at e after) f row.1.1 row.2 x)

-- writes that have the entries of such a wish
pub writes-within : (w : ℕ) (ds : List (Instant × List (ℕ × Bool))) → WishWithin w (writes_wish ds) → Each (λ (d : Instant × List (ℕ × Bool)). BitsWithin w d.1) ds
writes-within w [] h = tt
writes-within w (d ∷ more) h =
    let r = each-split (λ (e : DueBit × Bool). e.0.bit < w) (bits_due d.0 d.1) (writes_wish more) h in
    (Each-of-map (λ (e : DueBit × Bool). e.0.bit < w) (λ (b : ℕ × Bool). (record { due = d.0; bit = b.0 }, b.1)) d.1 r.0, writes-within w more r.1)
