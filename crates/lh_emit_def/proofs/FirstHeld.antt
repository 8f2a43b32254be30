-- Before the first instruction a pass holds the arguments.
use Rattle.std.proofs.Common.{◌≡◌, ℕ, ◌+◌, Bool, true, false, ◌&&◌, nat_eq, List, [], ◌++◌, map, Option, Some, None, slice_get, refl, ap, sym, ◌∙◌, subst, arith}
use Rattle.std.specs.Option.{option_and_then, option_map, option_map_or}
use Rattle.lh_types.specs.Types.{TypeTree, signal_type, bit_count, same_type}
use Rattle.lh_types.specs.Wish.{no_wish}
use Rattle.lh_types.specs.Same.{and_both, same-is}
use Rattle.lh_types.specs.declared.part.Range.{Range}
use Rattle.lh_unit.specs.Contents.{LineText, ArgText, UnitText}
use Rattle.lh_unit.specs.Held.{part_held, nothing_held}
use Rattle.lh_unit.specs.Typing.{value_type, or_else, result_type, inst_giving}
use Rattle.lh_unit.proofs.Lists.{some_inj, nat_eq-is}
use Rattle.lh_term.specs.declared.part.Part.{Part}
use Rattle.lh_emit_def.specs.Names.{value_name}
use Rattle.lh_emit_def.specs.Emitted.{nothing_emitted, name_if_whole, whole_name}
use Rattle.lh_emit_def.specs.Entities.{entity_with}
use Rattle.lh_emit_def.specs.Laws.{ArgumentsFit}
use Rattle.lh_emit_def.specs.Reads.{range_in}
use Rattle.lh_emit_def.proofs.Arguments.{AreApart, are-apart, other-held, argument-held, argument-named, HasBits, argument-wide}
use Rattle.lh_emit_def.proofs.PassState.{Frame, source, start, Begins, HoldsPart, Inv}

-- the arguments of the frame's unit fit
abbrev pub ArgsFit : Frame → Type 0
ArgsFit f = ArgumentsFit f.unit f.args

module _ (f : Frame) (fit : ArgsFit f) where
  apart : AreApart f.unit.args
  apart = are-apart f.unit.args fit.once

  argument-type : (y : UnitText) (ls : List LineText) → Begins f fit.few y ls → (k : ℕ) (a : ArgText) → slice_get f.unit.args k ≡ Some a → value_type y a.name ≡ Some a.ty
  argument-type y ls b k a p =
      ap (λ x. value_type x a.name) b.is
      ∙ ap (λ x. or_else (option_map (λ (z : ArgText). z.ty) x) (option_and_then result_type (inst_giving a.name (entity_with f.unit (ls ++ b.more)).blocks))) (argument-named f.unit.args k a apart p)

  -- the bits of an argument
  whole-range : (k : ℕ) (t : TypeTree) (r : Range) → slice_get f.args k ≡ Some r → r.len ≡ bit_count t → range_in f.args (record { arg = k; lo = 0; ty = t }) ≡ r
  whole-range k t r p w =
      let l : r.lo + 0 ≡ r.lo = omega arith in
      ap (λ (o : Option Range). let z : Range = record { lo = option_map_or (λ (r : Range). r.lo) o 0 + 0; len = bit_count t } in z) p
      ∙ (λ i. record { lo = l i; len = sym w i })

  argument-part : (y : UnitText) → Begins f fit.few y [] → (k : ℕ) (a : ArgText) (t : TypeTree) → slice_get f.unit.args k ≡ Some a → a.ty ≡ signal_type t →
      HoldsPart f fit.few y (start f fit.few).held a.name (record { arg = k; lo = 0; ty = t })
  argument-part y b k a t p s =
      let h : HasBits f.args k a.ty = argument-wide f.unit.args f.args k a fit.wide p in
      let w : h.range.len ≡ bit_count t = h.wide ∙ ap bit_count s in
      record {
        held = argument-held f.unit.args f.args nothing_held k a h.range apart p h.there ∙ ap (λ r. Some (part_held r)) (sym (whole-range k t h.range h.there w));
        type = argument-type y [] b k a p ∙ ap Some s;
      }

  -- a part with a name is the whole of an argument
  named-whole : (y : UnitText) → Begins f fit.few y [] → (p : Part) (n : List ℕ) → whole_name f.unit.args p ≡ Some n → HoldsPart f fit.few y (start f fit.few).held n p
  named-whole y b p n h = at (slice_get f.unit.args p.arg) refl
    where
      by : (a : ArgText) → slice_get f.unit.args p.arg ≡ Some a → name_if_whole p a ≡ Some n → (c : Bool) → (nat_eq p.lo 0 && same_type a.ty (signal_type p.ty)) ≡ c →
          HoldsPart f fit.few y (start f fit.few).held n p
      by a q g false r = let z : None ≡ Some n = (rw r at g) in absurd cc
      by a q g true r =
          let z : Some a.name ≡ Some n = (rw r at g) in
          let c = and_both (nat_eq p.lo 0) (same_type a.ty (signal_type p.ty)) r in
          let l : p.lo ≡ 0 = nat_eq-is p.lo 0 c.0 in
          let x = argument-part y b p.arg a p.ty q (same-is a.ty (signal_type p.ty) c.1) in
          subst (λ (m : List ℕ). HoldsPart f fit.few y (start f fit.few).held m p) (some_inj a.name n z)
          (subst (λ (m : ℕ). HoldsPart f fit.few y (start f fit.few).held a.name (record { arg = p.arg; lo = m; ty = p.ty })) (sym l) x)

      at : (o : Option ArgText) → slice_get f.unit.args p.arg ≡ o → HoldsPart f fit.few y (start f fit.few).held n p
      at None q = let z : None ≡ Some n = (rw q at h) in absurd cc
      at (Some a) q = by a q (rw q at h) (nat_eq p.lo 0 && same_type a.ty (signal_type p.ty)) refl

  pub begins : Inv f fit.few no_wish [] (nothing_emitted (source f fit.few))
  begins y b = record {
    wish = refl;
    seen = refl;
    terms = λ t n h. absurd cc;
    parts = λ p n h. named-whole y b p n h;
    args = λ k a t p q. argument-part y b k a t p q;
    new = λ j m. record { held = other-held (value_name j) f.unit.args (map part_held f.args) nothing_held m.free; given = refl };
    room = omega arith;
  }
