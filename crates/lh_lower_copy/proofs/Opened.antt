-- The open unit of a module under construction, changed step by step.
use Rattle.std.proofs.Common.{◌≡◌, ℕ, true, false, List, [], ◌∷◌, ◌++◌, Some, Err, refl, ap, sym, ◌∙◌, arith}
use Rattle.lh_unit.specs.Contents.{ItemText, UnitText, LineText, ArgText, unit_text, declare_text, change_last, last_unit, line_count, defines_unit, defines_value, defines_label}
use Rattle.lh_unit.specs.Arena.{Arena, IsOpen, HasFewMore, none_more, contents, unit_text_at, unit_name_at}
use Rattle.lh_unit.specs.Builders.{HasContents, BeginsUnit, AddsArg, AddsBlock, AddsLine, HasRoom, HasTwice, defines_result}
use Rattle.lh_unit.specs.declared.inst.UnitId.{UnitId}
use Rattle.lh_unit.specs.declared.inst.UnitKind.{UnitKind}
use Rattle.lh_unit.specs.declared.inst.UnitFault.{UnitFault}
use Rattle.lh_unit.specs.declared.inst.UnitFault.TheVariants as fault
use Rattle.lh_unit.proofs.ContentsLemmas.{open-text, of-open, last_unit-push, change_last-push}
use Rattle.lh_unit.proofs.ModuleLaws.{KeepsEntries-refl, KeepsEntries-trans, last_unit-change_last}
use Rattle.lh_lower_copy.specs.Changing.{Becomes, AddsUnitText}
use Rattle.lh_types.proofs.Tests.{not_both, some_once}

-- ---- the last item

-- a change of the last unit is what it gives there
change-const : (f : UnitText → UnitText) (xs : List ItemText) (t : UnitText) → last_unit xs ≡ Some t → change_last f xs ≡ change_last (λ x. f t) xs
change-const f [] t e = cc
change-const f (unit_text u ∷ []) t e = let q : u ≡ t = cc in ap (λ x. unit_text (f x) ∷ []) q
change-const f (declare_text d ∷ []) t e = cc
change-const f (unit_text u ∷ i ∷ more) t e = ap (λ l. unit_text u ∷ l) (change-const f (i ∷ more) t e)
change-const f (declare_text d ∷ i ∷ more) t e = ap (λ l. declare_text d ∷ l) (change-const f (i ∷ more) t e)

-- no change
change-none : (xs : List ItemText) (t : UnitText) → last_unit xs ≡ Some t → change_last (λ x. t) xs ≡ xs
change-none [] t e = cc
change-none (unit_text u ∷ []) t e = let q : u ≡ t = cc in ap (λ x. unit_text x ∷ []) (sym q)
change-none (declare_text d ∷ []) t e = cc
change-none (unit_text u ∷ i ∷ more) t e = ap (λ l. unit_text u ∷ l) (change-none (i ∷ more) t e)
change-none (declare_text d ∷ i ∷ more) t e = ap (λ l. declare_text d ∷ l) (change-none (i ∷ more) t e)

-- the later of two changes
change-cons : (t : UnitText) (x : ItemText) (xs : List ItemText) (u : UnitText) → last_unit xs ≡ Some u → change_last (λ y. t) (x ∷ xs) ≡ x ∷ change_last (λ y. t) xs
change-cons t x [] u e = cc
change-cons t (unit_text x) (i ∷ more) u e = refl
change-cons t (declare_text x) (i ∷ more) u e = refl

change-twice : (s t : UnitText) (xs : List ItemText) (u : UnitText) → last_unit xs ≡ Some u → change_last (λ x. t) (change_last (λ x. s) xs) ≡ change_last (λ x. t) xs
change-twice s t [] u e = cc
change-twice s t (unit_text y ∷ []) u e = refl
change-twice s t (declare_text d ∷ []) u e = refl
change-twice s t (unit_text y ∷ i ∷ more) u e =
    change-cons t (unit_text y) (change_last (λ x. s) (i ∷ more)) s (last_unit-change_last (λ x. s) (i ∷ more) u e) ∙ ap (λ l. unit_text y ∷ l) (change-twice s t (i ∷ more) u e)
change-twice s t (declare_text d ∷ i ∷ more) u e =
    change-cons t (declare_text d) (change_last (λ x. s) (i ∷ more)) s (last_unit-change_last (λ x. s) (i ∷ more) u e) ∙ ap (λ l. declare_text d ∷ l) (change-twice s t (i ∷ more) u e)

-- ---- no more entries

pub no_more-refl : (a : Arena) → HasFewMore 0 none_more none_more a a
no_more-refl a = record { more_units = omega arith; more_values = λ u. omega arith; more_labels = λ u. omega arith }

pub no_more-trans : (a b c : Arena) → HasFewMore 0 none_more none_more a b → HasFewMore 0 none_more none_more b c → HasFewMore 0 none_more none_more a c
no_more-trans a b c p q = record {
  more_units = omega (arith, p.more_units, q.more_units);
  more_values = λ u. omega (arith, p.more_values u, q.more_values u);
  more_labels = λ u. omega (arith, p.more_labels u, q.more_labels u);
}

-- ---- the open unit

pub becomes-refl : (a : Arena) (u : UnitId) → IsOpen a u → Becomes a a u (unit_text_at a u.0)
becomes-refl a u p = record {
  is_open = p;
  text = refl;
  says = sym (change-none (contents a) (unit_text_at a u.0) (open-text a u p));
  entries = KeepsEntries-refl a;
  no_more = no_more-refl a;
}

pub becomes-by : (a b : Arena) (u : UnitId) (f : UnitText → UnitText) → IsOpen a u → HasContents a b u (change_last f (contents a)) → Becomes a b u (f (unit_text_at a u.0))
becomes-by a b u f p s =
    let t = unit_text_at a u.0 in
    let e : last_unit (contents a) ≡ Some t = open-text a u p in
    record {
      is_open = s.is_open;
      text = some_once (last_unit (contents b)) (unit_text_at b u.0) (f t) (open-text b u s.is_open) (ap last_unit s.says ∙ last_unit-change_last f (contents a) t e);
      says = s.says ∙ change-const f (contents a) t e;
      entries = s.entries;
      no_more = s.no_more;
    }

pub becomes-trans : (a b c : Arena) (u : UnitId) (s t : UnitText) → IsOpen a u → Becomes a b u s → Becomes b c u t → Becomes a c u t
becomes-trans a b c u s t o p q = record {
  is_open = q.is_open;
  text = q.text;
  says = q.says ∙ ap (change_last (λ x. t)) p.says ∙ change-twice s t (contents a) (unit_text_at a u.0) (open-text a u o);
  entries = KeepsEntries-trans a b c p.entries q.entries;
  no_more = no_more-trans a b c p.no_more q.no_more;
}

pub adds-by : (a b : Arena) (u : UnitId) (t : UnitText) → HasContents a b u (contents a ++ unit_text t ∷ []) → AddsUnitText a b u t
adds-by a b u t s = record {
  is_open = s.is_open;
  text = some_once (last_unit (contents b)) (unit_text_at b u.0) t (open-text b u s.is_open) (ap last_unit s.says ∙ last_unit-push (contents a) t);
  says = s.says;
  entries = s.entries;
  no_more = s.no_more;
}

pub adds-then : (a b c : Arena) (u : UnitId) (s t : UnitText) → AddsUnitText a b u s → Becomes b c u t → AddsUnitText a c u t
adds-then a b c u s t p q = record {
  is_open = q.is_open;
  text = q.text;
  says = q.says ∙ ap (change_last (λ x. t)) p.says ∙ change_last-push (λ x. t) (contents a) s;
  entries = KeepsEntries-trans a b c p.entries q.entries;
  no_more = no_more-trans a b c p.no_more q.no_more;
}

-- ---- refusals that cannot come

pub not-again : (f : UnitFault) (a b : Arena) (u : UnitId) (k : UnitKind) → defines_unit (unit_name_at a u.0) (contents a) ≡ false → BeginsUnit (Err f) a b u k → f ≡ fault.OutOfMemory
not-again fault.UnitTooLarge a b u k h g = absurd g
not-again fault.DuplicateName a b u k h g = absurd (not_both (defines_unit (unit_name_at a u.0) (contents a)) g.0 h)
not-again fault.OutOfMemory a b u k h g = refl

pub no-arg-twice : (f : UnitFault) (a b : Arena) (u : UnitId) (x : ArgText) → IsOpen a u → defines_value x.name (unit_text_at a u.0) ≡ false → AddsArg (Err f) a b u x → f ≡ fault.OutOfMemory
no-arg-twice fault.UnitTooLarge a b u x p h g = absurd g
no-arg-twice fault.DuplicateName a b u x p h g = absurd (not_both (defines_value x.name (unit_text_at a u.0)) (of-open a u (λ t. defines_value x.name t ≡ true) p g.0) h)
no-arg-twice fault.OutOfMemory a b u x p h g = refl

pub no-label-twice : (f : UnitFault) (a b : Arena) (u : UnitId) (n : List ℕ) → IsOpen a u → defines_label n (unit_text_at a u.0) ≡ false → AddsBlock (Err f) a b u n → f ≡ fault.OutOfMemory
no-label-twice fault.UnitTooLarge a b u n p h g = absurd g
no-label-twice fault.DuplicateName a b u n p h g = absurd (not_both (defines_label n (unit_text_at a u.0)) (of-open a u (λ t. defines_label n t ≡ true) p g.0) h)
no-label-twice fault.OutOfMemory a b u n p h g = refl

pub has-room : (f : UnitFault) (a b : Arena) (u : UnitId) (l : LineText) → IsOpen a u → HasRoom l (unit_text_at a u.0) → AddsLine (Err f) a b u l → f ≡ fault.OutOfMemory
has-room fault.UnitTooLarge a b u l p h g = let e : line_count (unit_text_at a u.0).blocks ≡ 65536 = of-open a u (λ t. line_count t.blocks ≡ 65536) p g.0 in absurd (omega (arith, e, h.small))
has-room fault.DuplicateName a b u l p h g = absurd (not_both (defines_result l.result (unit_text_at a u.0)) (of-open a u (HasTwice l) p g.0).twice h.undefined)
has-room fault.OutOfMemory a b u l p h g = refl
