use Rattle.std.proofs.Common.{◌≡◌, ◌<◌, List, length, ◌++◌}
use Rattle.std.specs.Option.{option_map}
use Rattle.lh_unit.specs.Within.{Each}
use Rattle.lh_unit.specs.declared.inst.Typed.{Typed}
use Rattle.lh_term.specs.declared.term.TermId.{TermId}
use Rattle.lh_cert_read.specs.Known.{terms_at}
use Rattle.lh_cert_read.proofs.known.KnownValues.terms_of.Given as goal

abbrev pub invariant-loop-left : goal.invariant-loop-left
invariant-loop-left l = record {
  within : Each (λ (o : Typed). o.value.0 < length l.self.values.items) l.left;
  rest : terms_at l.self.values.items l.operands ≡ option_map (λ (ts : List TermId). l.terms ++ ts) (terms_at l.self.values.items l.left);
}

abbrev pub decreases-loop-left : goal.decreases-loop-left
decreases-loop-left l = length l.left
