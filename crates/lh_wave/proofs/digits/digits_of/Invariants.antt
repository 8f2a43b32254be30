use Rattle.lh_wave.proofs.Nibbles.{NibblesAt}
use Rattle.lh_wave.proofs.digits.digits_of.Given as goal

abbrev pub invariant-loop-i : goal.invariant-loop-i
invariant-loop-i l = record { digits : NibblesAt l.i-end l.fn.number l.digits l.i l.rest }
