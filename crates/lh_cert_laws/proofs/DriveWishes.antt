-- Drives that agree wish the same: read again from their leaves, without those that never drive, and merged.
use Rattle.std.proofs.Common.{◌≡◌, List, [], ◌∷◌, map, filter, Bool, true, false, not, ◌&&◌, nat_eq, ℕ, refl, ap, sym, ◌∙◌, arith}
use Rattle.std.specs.Bool.{if◌then◌else◌}
use Rattle.std.proofs.lemmas.Bool.{false≢true}
use Rattle.std.proofs.lemmas.Bool.Decides.{nat_tests}
use Rattle.lh_time.specs.declared.Instant.{Instant}
use Rattle.lh_types.specs.Bits.{value_bits}
use Rattle.lh_types.specs.Same.{and_both}
use Rattle.lh_types.specs.Values.{Datum, int_value, time_value, array_value, tuple_value}
use Rattle.lh_types.specs.Wish.{Wish, with_drive}
use Rattle.lh_types.specs.declared.part.Range.{Range}
use Rattle.lh_unit.specs.Within.{Each}
use Rattle.lh_term.specs.Tree.{Tree, constant, past_of, now_of, operation, choice_of}
use Rattle.lh_term.specs.Mean.{Valuation, IsFitting, mean, is_one}
use Rattle.lh_term.specs.Make.{is_bit, is_bit_value}
use Rattle.lh_term.specs.Same.{same_part, same_part-is}
use Rattle.lh_term.specs.SameTree.{same_tree, same_tree-is}
use Rattle.lh_region_def.specs.Rows.{Drive}
use Rattle.lh_region_def.specs.Means.{range_in, is_true, due_by, with_row, with_rows}
use Rattle.lh_region_def.specs.Right.{DriveTyped}
use Rattle.lh_shape.specs.Laws.{MergedDrivesWish, MergedDrivesAreTyped}
use Rattle.lh_cert_terms.specs.Laws.{RebuiltKeepsMeaning}
use Rattle.lh_cert_agree.specs.Agreeing.{agree}
use Rattle.lh_cert_agree.specs.Laws.{AgreedTermsMeanSame}
use Rattle.lh_cert_def.specs.KeptRows.{rebuilt_drive, can_drive, kept_drives}
use Rattle.lh_cert_def.specs.RowsAgree.{each_with_partner, drive_agrees, drives_agree}

-- ---- lists

pub each-filter : {X : Type 0} (P : X → Type 0) (p : X → Bool) (xs : List X) → Each P xs → Each P (filter p xs)
each-filter P p [] h = tt
each-filter P p (x ∷ xs) h = by (p x) (each-filter P p xs h.1)
  where
    by : (b : Bool) → Each P (filter p xs) → Each P (if b then x ∷ filter p xs else filter p xs)
    by true k = (h.0, k)
    by false k = k

-- ---- a term that is the constant 0

off-value : (d : Datum) → is_bit_value 0 d ≡ true → is_one d ≡ false
off-value (int_value n a) e = let z = (and_both (nat_eq n 1) (nat_eq a 0) e).1 in other a z
  where
    other : (a : ℕ) → nat_eq a 0 ≡ true → nat_eq a 1 ≡ false
    other a z = grind (arith, nat_tests)
off-value (time_value d) e = refl
off-value (array_value vs) e = refl
off-value (tuple_value vs) e = refl

never-true : (v : Valuation) (c : Tree) → is_bit 0 c ≡ true → is_true v v c ≡ false
never-true v (constant d) e = off-value d e
never-true v (past_of p) e = absurd (false≢true e)
never-true v (now_of p) e = absurd (false≢true e)
never-true v (operation o ts) e = absurd (false≢true e)
never-true v (choice_of c f t) e = absurd (false≢true e)

-- ---- drives that are typed

module _ (rebuilds : RebuiltKeepsMeaning) where
  rebuilt-typed : (d : Drive) → DriveTyped d → DriveTyped (rebuilt_drive d)
  rebuilt-typed d h =
      let c = rebuilds d.cond h.cond.typed in
      let x = rebuilds d.value h.value.typed in
      let l = rebuilds d.delay h.delay.typed in
      record {
        cond = record { typed = c.typed; type = c.type ∙ h.cond.type };
        part = h.part;
        value = record { typed = x.typed; type = x.type ∙ h.value.type };
        delay = record { typed = l.typed; type = l.type ∙ h.delay.type };
      }

  pub all-rebuilt-typed : (ds : List Drive) → Each DriveTyped ds → Each DriveTyped (map rebuilt_drive ds)
  all-rebuilt-typed [] h = tt
  all-rebuilt-typed (d ∷ ds) h = (rebuilt-typed d h.0, all-rebuilt-typed ds h.1)

pub kept-typed : MergedDrivesAreTyped → (ds : List Drive) → Each DriveTyped ds → Each DriveTyped (kept_drives ds)
kept-typed merges ds h = merges (filter can_drive ds) (each-filter DriveTyped can_drive ds h)

-- ---- what they wish

module _ (v : Valuation) (fit : IsFitting v) (args : List Range) (t : Instant) where
  -- a drive wishes by what its condition, its delay and its value mean
  row-by : (w : Wish) (a b : Drive) → a.part ≡ b.part → mean v v a.cond ≡ mean v v b.cond → mean v v a.delay ≡ mean v v b.delay → mean v v a.value ≡ mean v v b.value
      → with_row v v args t w a ≡ with_row v v args t w b
  row-by w a b p c d x = λ i. if is_one (c i) then with_drive w (due_by t (d i)) (range_in args (p i)).lo (value_bits (x i)) else w

  pub rebuilt-wish : RebuiltKeepsMeaning → (w : Wish) (ds : List Drive) → Each DriveTyped ds → with_rows v v args t w (map rebuilt_drive ds) ≡ with_rows v v args t w ds
  rebuilt-wish rebuilds w [] h = refl
  rebuilt-wish rebuilds w (d ∷ ds) h =
      let c = rebuilds d.cond h.0.cond.typed in
      let x = rebuilds d.value h.0.value.typed in
      let l = rebuilds d.delay h.0.delay.typed in
      ap (λ z. with_rows v v args t z (map rebuilt_drive ds)) (row-by w (rebuilt_drive d) d refl (c.mean v fit) (l.mean v fit) (x.mean v fit))
      ∙ rebuilt-wish rebuilds (with_row v v args t w d) ds h.1

  -- a drive of the constant condition 0 wishes nothing
  filter-wish : (w : Wish) (ds : List Drive) → with_rows v v args t w (filter can_drive ds) ≡ with_rows v v args t w ds
  filter-wish w [] = refl
  filter-wish w (d ∷ ds) = by (is_bit 0 d.cond) refl (λ x. filter-wish x ds)
    where
      by : (b : Bool) → is_bit 0 d.cond ≡ b → ((x : Wish) → with_rows v v args t x (filter can_drive ds) ≡ with_rows v v args t x ds)
          → with_rows v v args t w (if not b then d ∷ filter can_drive ds else filter can_drive ds) ≡ with_rows v v args t (with_row v v args t w d) ds
      by false e go = go (with_row v v args t w d)
      by true e go =
          let none : with_row v v args t w d ≡ w =
          ap (λ b. if b then with_drive w (due_by t (mean v v d.delay)) (range_in args d.part).lo (value_bits (mean v v d.value)) else w) (never-true v d.cond e) in
          go w ∙ ap (λ z. with_rows v v args t z ds) (sym none)

  pub kept-wish : MergedDrivesWish → (w : Wish) (ds : List Drive) → Each DriveTyped ds → with_rows v v args t w (kept_drives ds) ≡ with_rows v v args t w ds
  kept-wish merges w ds h = merges v v fit fit args t w (filter can_drive ds) (each-filter DriveTyped can_drive ds h) ∙ filter-wish w ds

  pub agreed-wish : AgreedTermsMeanSame → (w : Wish) (ds es : List Drive) → Each DriveTyped ds → Each DriveTyped es → drives_agree ds es ≡ true → with_rows v v args t w ds ≡ with_rows v v args t w es
  agreed-wish agrees w [] [] h k e = refl
  agreed-wish agrees w [] (b ∷ es) h k e = absurd (false≢true e)
  agreed-wish agrees w (a ∷ ds) [] h k e = absurd (false≢true e)
  agreed-wish agrees w (a ∷ ds) (b ∷ es) h k e =
      let z = and_both (drive_agrees a b) (each_with_partner drive_agrees ds es) e in
      let p = and_both (same_part a.part b.part) (same_tree a.delay b.delay && (agree a.cond b.cond && agree a.value b.value)) z.0 in
      let d = and_both (same_tree a.delay b.delay) (agree a.cond b.cond && agree a.value b.value) p.1 in
      let c = and_both (agree a.cond b.cond) (agree a.value b.value) d.1 in
      let cond = agrees a.cond b.cond h.0.cond.typed k.0.cond.typed c.0 in
      let value = agrees a.value b.value h.0.value.typed k.0.value.typed c.1 in
      ap (λ x. with_rows v v args t x ds)
      (row-by w a b (same_part-is a.part b.part p.0) (cond.mean v v fit fit) (ap (mean v v) (same_tree-is a.delay b.delay d.0)) (value.mean v v fit fit))
      ∙ agreed-wish agrees (with_row v v args t w b) ds es h.1 k.1 z.1
