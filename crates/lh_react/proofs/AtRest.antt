-- A pass in which no trigger fires: nothing is wished, and their values are seen.
use Rattle.std.proofs.Common.{◌≡◌, ◌⊎◌, inl, inr, ℕ, ◌+◌, List, [], ◌∷◌, ◌++◌, length, Bool, false, Option, Some, None, refl, ap, sym, ◌∙◌, subst, arith, length-append}
use Rattle.std.specs.Option.{option_and_then, IsSomeAnd}
use Rattle.std.proofs.lemmas.List.{append_assoc, append-nil}
use Rattle.lh_time.specs.declared.Instant.{Instant}
use Rattle.lh_types.specs.declared.part.Range.{Range}
use Rattle.lh_unit.specs.Contents.{OperandText, TriggerText, InstText, drv_text, reg_text, LineText, UnitText}
use Rattle.lh_unit.specs.Held.{Env, as_test, test_at}
use Rattle.lh_unit.specs.Hierarchy.{lines_of}
use Rattle.lh_unit.specs.Pass.{Passed, mode_holds, fires, triggers_from, passes, pass_from}
use Rattle.lh_unit.specs.Within.{Each}
use Rattle.lh_eval_laws.specs.Finding.{TriggerFinds, FindsInPass, FindsAll}
use Rattle.lh_eval_laws.proofs.NamedOnce.{IsFirst}
use Rattle.lh_react.specs.declared.triggers.Gate.{Gate}
use Rattle.lh_react.specs.declared.triggers.Gate.TheVariants as gate
use Rattle.lh_react.specs.declared.triggers.TriggerBit.{TriggerBit}
use Rattle.lh_react.specs.Quiet.{BeginsBy, IsComparedBit, KnowsProbedBits, IsShut, HoldsBack, begins_with, IsStill}
use Rattle.lh_react.specs.TriggerBits.{GateIs, IsTriggerBit, AreTriggerBits, triggers_by, triggers_of, IsNoDrive, HasTriggers, TriggersFit}
use Rattle.lh_react.specs.Resting.{GateIsShut, IsHeld, past_at, NoneFires}
use Rattle.lh_react.proofs.QuietSteps.{passes-know, probe-tests, held-back, trigger-still, begins-plain}

module _ (u : UnitText) (args : List Range) (now : List Bool) (memory : Option (List Bool)) (begun : Env) (begins : BeginsBy u args begun) (t : Instant) where
  shut : (n : Option (List ℕ)) (x : Gate) → GateIs u args n x → GateIsShut now x → IsShut u now begun n
  shut None gate.Unknown is s = absurd s
  shut (Some n) gate.Unknown is s = absurd s
  shut None (gate.Bit place) is s = absurd is
  shut (Some n) (gate.Bit place) is s = inl (is now begun false s begins)
  shut None (gate.Same left right) is s = absurd is
  shut (Some n) (gate.Same left right) is s = inr (subst (λ (b : Bool). IsComparedBit u now begun n b) s.other (is now begun s.left_in s.right_in begins))

  holds-back : (g : TriggerText) (b : TriggerBit) (past : Option Bool) (value : Bool) → IsTriggerBit u args g b → IsHeld now past value b
      → HoldsBack u now begun past value g
  holds-back g b past value is held = by held
    where
      by : (mode_holds b.mode past value ≡ false) ⊎ GateIsShut now b.gate → HoldsBack u now begun past value g
      by (inl mode) = inl (ap (λ k. mode_holds k past value) (sym is.mode) ∙ mode)
      by (inr s) = inr (shut g.gate b.gate is.gate s)

  -- From p a pass has come to q, where `more` are the triggers that are left: theirs are the values that have not been seen.
  record Onward (more : List TriggerText) (values : List Bool) (p q : Passed) : Type 0 where
    pub bits : List TriggerBit
    pub rest : List Bool
    pub are : AreTriggerBits u args more bits
    pub rests : NoneFires now memory (length q.seen) bits rest
    pub seen : q.seen ++ rest ≡ p.seen ++ values
    pub wish : q.wish ≡ p.wish

  seen-one : (p : Passed) (v : Bool) → length (p.seen ++ v ∷ []) ≡ length p.seen + 1
  seen-one p v = omega (arith, length-append p.seen (v ∷ []))

  register-rests : (to : OperandText) (gs more : List TriggerText) (bits : List TriggerBit) (values : List Bool) (p : Passed)
      → AreTriggerBits u args (gs ++ more) bits → NoneFires now memory (length p.seen) bits values → KnowsProbedBits u now begun p.held
      → Each (TriggerFinds p.held) gs
      → Onward more values p (triggers_from memory t to false p gs)
  register-rests to [] more bits values p are rests k finds = record { bits = bits; rest = values; are = are; rests = rests; seen = refl; wish = refl }
  register-rests to (g ∷ gs) more [] values p are rests k finds = absurd are
  register-rests to (g ∷ gs) more (b ∷ bits) [] p are rests k finds = absurd rests
  register-rests to (g ∷ gs) more (b ∷ bits) (v ∷ values) p are rests k finds =
      let is : test_at p.held g.trigger ≡ Some v = probe-tests u now begun p.held g.trigger v k (are.0.bit now begun v rests.0.is begins) finds.0.trigger in
      let back : HoldsBack u now begun (past_at memory (length p.seen)) v g = holds-back g b (past_at memory (length p.seen)) v are.0 rests.0.held in
      let still : fires memory p g ≡ false = held-back u now begun memory p g (past_at memory (length p.seen)) v refl k back is finds.0.gate in
      let q : Passed = record { held = p.held; seen = p.seen ++ v ∷ []; wish = p.wish } in
      let n : Onward more values q (triggers_from memory t to false q gs) = register-rests to gs more bits values q are.1
      (subst (λ (m : ℕ). NoneFires now memory m bits values) (sym (seen-one p v)) rests.1) k finds.1 in
      let all : Onward more (v ∷ values) p (triggers_from memory t to false q gs) =
      record { bits = n.bits; rest = n.rest; are = n.are; rests = n.rests; seen = n.seen ∙ append_assoc p.seen (v ∷ []) values; wish = n.wish } in
      subst (λ (z : Passed). Onward more (v ∷ values) p z) (sym (trigger-still memory t to p g gs v is still)) all

  inst-rests : (i : InstText) (r : Option (List ℕ)) (more : List TriggerText) (bits : List TriggerBit) (values : List Bool) (p : Passed)
      → AreTriggerBits u args (triggers_by i ++ more) bits → NoneFires now memory (length p.seen) bits values → IsNoDrive i → KnowsProbedBits u now begun p.held
      → FindsInPass u now t p i → Onward more values p (passes u now memory t i r p)
  inst-rests (reg_text to gs) r more bits values p are rests free k f = register-rests to gs more bits values p are rests k f.1
  inst-rests (drv_text to value after cond) r more bits values p are rests free k f = absurd free
  inst-rests _ r more bits values p are rests free k f = record { bits = bits; rest = values; are = are; rests = rests; seen = refl; wish = refl }

  lines-rest : (ls : List LineText) (bits : List TriggerBit) (values : List Bool) (p : Passed) → AreTriggerBits u args (triggers_of ls) bits
      → NoneFires now memory (length p.seen) bits values → Each (λ (l : LineText). IsNoDrive l.inst) ls → Each (IsFirst u.args (lines_of u.blocks)) ls
      → KnowsProbedBits u now begun p.held → FindsAll u now memory t p ls → ((pass_from u now memory t p ls).seen ≡ p.seen ++ values) ×
      ((pass_from u now memory t p ls).wish ≡ p.wish)
  lines-rest [] [] [] p are rests free first k f = (sym (append-nil p.seen), refl)
  lines-rest [] [] (v ∷ values) p are rests free first k f = absurd rests
  lines-rest [] (b ∷ bits) values p are rests free first k f = absurd are
  lines-rest (l ∷ ls) bits values p are rests free first k f =
      let q : Passed = passes u now memory t l.inst l.result p in
      let n : Onward (triggers_of ls) values p q = inst-rests l.inst l.result (triggers_of ls) bits values p are rests free.0 k f.0 in
      let z = lines-rest ls n.bits n.rest q n.are n.rests free.1 first.1 (passes-know u now begun memory t p l.inst l.result first.0 k) f.1 in
      (z.0 ∙ n.seen, z.1 ∙ n.wish)

  -- where all triggers of an entity rest, so does its pass
  pub pass-rests : (bits : List TriggerBit) (values : List Bool) → HasTriggers u args bits → NoneFires now memory 0 bits values
      → Each (IsFirst u.args (lines_of u.blocks)) (lines_of u.blocks) → FindsAll u now memory t (begins_with begun) (lines_of u.blocks)
      → IsStill (pass_from u now memory t (begins_with begun) (lines_of u.blocks)) values
  pass-rests bits values has rests first f =
      let k : KnowsProbedBits u now begun begun = record {
        probes = λ n s x. record { part = refl; value = inl (begins-plain u args begun begins n) };
        compared = λ n b x. inl (ap (option_and_then as_test) (begins-plain u args begun begins n));
      } in
      let z = lines-rest (lines_of u.blocks) bits values (begins_with begun) has.all rests has.no_drive first k f in
      record { seen = z.0; wish = z.1 }

-- the same, where they are known
pub rests-as-known : (u : UnitText) (args : List Range) (now : List Bool) (memory : Option (List Bool)) (known : Option (List TriggerBit)) (values : List Bool)
    (begun : Env) → BeginsBy u args begun → (t : Instant) → TriggersFit u args known → IsSomeAnd known (λ bits. NoneFires now memory 0 bits values)
    → Each (IsFirst u.args (lines_of u.blocks)) (lines_of u.blocks) → FindsAll u now memory t (begins_with begun) (lines_of u.blocks)
    → IsStill (pass_from u now memory t (begins_with begun) (lines_of u.blocks)) values
rests-as-known u args now memory None values begun begins t fit rests first f = absurd rests
rests-as-known u args now memory (Some bits) values begun begins t fit rests first f = pass-rests u args now memory begun begins t bits values fit rests first f
