use mathlib.Core.Bool
use Rattle.std.proofs.Common.{◌≡◌, ◌∙◌, Bool, true, false, not, refl}
use Rattle.lh_ops.proofs.SignLemmas.{modulo_zero, modulo_apart}
use Rattle.lh_ops.proofs.signs.signed_modulo.Goals as goal

differs : (s t : Bool) → mathlib.Core.Bool.beq s t ≡ false → s ≡ not t
differs true true e = cc
differs true false e = refl
differs false true e = refl
differs false false e = cc

pub returns-then-left-eq0 : goal.returns-then-left-eq0
returns-then-left-eq0 c = modulo_zero c.args.width c.args.a c.args.b _ _ _ c.requires.fits c.if-b-eq0.false c.magnitude.ensures c.magnitude-divisor.ensures c.is_negative-negative.ensures
    c.if-left-eq0.true

pub returns : goal.returns
returns c = c.signed_word-2.ensures ∙ modulo_apart c.args.width c.args.a c.args.b _ _ _ c.requires.fits c.if-b-eq0.false c.magnitude.ensures c.magnitude-divisor.ensures c.is_negative-negative.ensures
    _ c.is_negative.ensures (differs _ _ c.if-is_negative-negative.false) c.if-left-eq0.false
