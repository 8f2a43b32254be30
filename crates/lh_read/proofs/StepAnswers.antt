-- What a step answers, test by test.
use Rattle.std.proofs.Common.{◌≡◌, Bool, true, false, not, Result, Ok, Err, refl, subst}
use Rattle.std.specs.Prelude.{if◌then◌else◌}
use Rattle.lh_unit.specs.Spells.{LineItem, empty_item}
use Rattle.lh_unit.specs.Reads.{ReadState, LinePlace, outside, in_entity, before_labels, in_empty_block, in_block, place_of, may_stand, too_large, defines_again, after, BadKind, syntax, unit_too_large, duplicate_name}
use Rattle.lh_read.specs.Steps.{step}

-- an item whose three tests are known
pub step-ok : (s : ReadState) (i : LineItem) → may_stand (place_of s) i ≡ true → too_large s i ≡ false → defines_again s i ≡ false → step s i ≡ Ok (after s i)
unfolding step
step-ok s i a b c = rw (a, b, c) refl

pub step-misplaced : (s : ReadState) (i : LineItem) → may_stand (place_of s) i ≡ false → step s i ≡ Err syntax
unfolding step
step-misplaced s i a = rw a refl

pub step-large : (s : ReadState) (i : LineItem) → may_stand (place_of s) i ≡ true → too_large s i ≡ true → step s i ≡ Err unit_too_large
unfolding step
step-large s i a b = rw (a, b) refl

pub step-again : (s : ReadState) (i : LineItem) → may_stand (place_of s) i ≡ true → too_large s i ≡ false → defines_again s i ≡ true → step s i ≡ Err duplicate_name
unfolding step
step-again s i a b c = rw (a, b, c) refl

-- nothing changes nothing
may_stand-empty : (p : LinePlace) → may_stand p empty_item ≡ true
may_stand-empty outside = refl
may_stand-empty in_entity = refl
may_stand-empty before_labels = refl
may_stand-empty in_empty_block = refl
may_stand-empty in_block = refl

pub empty-taken : (s : ReadState) → step s empty_item ≡ Ok s
empty-taken s = step-ok s empty_item (may_stand-empty (place_of s)) refl refl

-- what an answer tells of the tests
pub record IsFree (s : ReadState) (i : LineItem) (t : ReadState) : Type 0 where
  pub stands : may_stand (place_of s) i ≡ true
  pub has_room : too_large s i ≡ false
  pub is_new : defines_again s i ≡ false
  pub becomes : t ≡ after s i

pub step-free : (s : ReadState) (i : LineItem) (t : ReadState) → step s i ≡ Ok t → IsFree s i t
unfolding step
step-free s i t p = by (may_stand (place_of s) i) (too_large s i) (defines_again s i) refl refl refl p
  where
    by : (a b c : Bool) → may_stand (place_of s) i ≡ a → too_large s i ≡ b → defines_again s i ≡ c
        → (if not a then Err syntax else if b then Err unit_too_large else if c then Err duplicate_name else Ok (after s i)) ≡ Ok t → IsFree s i t
    by false b c e f g q = cc
    by true true c e f g q = cc
    by true false true e f g q = cc
    by true false false e f g q = record { stands = e; has_room = f; is_new = g; becomes = cc }

-- the tests up to the one that finds this fault
abbrev pub HasFault : ReadState → LineItem → BadKind → Type 0
HasFault s i syntax = may_stand (place_of s) i ≡ false
HasFault s i unit_too_large = (may_stand (place_of s) i ≡ true) × (too_large s i ≡ true)
HasFault s i duplicate_name = (may_stand (place_of s) i ≡ true) × (too_large s i ≡ false) × (defines_again s i ≡ true)

same_err : (x y : BadKind) (r : Result ReadState BadKind) → r ≡ Err x → r ≡ Err y → x ≡ y
same_err x y r p q = cc

pub step-fault : (s : ReadState) (i : LineItem) (e : BadKind) → step s i ≡ Err e → HasFault s i e
unfolding step
step-fault s i e p = by (may_stand (place_of s) i) (too_large s i) (defines_again s i) refl refl refl p
  where
    at : (f : BadKind) (r : Result ReadState BadKind) → r ≡ Err f → r ≡ Err e → HasFault s i f → HasFault s i e
    at f r p q w = let g : f ≡ e = same_err f e r p q in subst (HasFault s i) g w

    by : (a b c : Bool) → may_stand (place_of s) i ≡ a → too_large s i ≡ b → defines_again s i ≡ c
        → (if not a then Err syntax else if b then Err unit_too_large else if c then Err duplicate_name else Ok (after s i)) ≡ Err e → HasFault s i e
    by false b c x y z q = at syntax (Err syntax) refl q x
    by true true c x y z q = at unit_too_large (Err unit_too_large) refl q (x, y)
    by true false true x y z q = at duplicate_name (Err duplicate_name) refl q (x, y, z)
    by true false false x y z q = cc
