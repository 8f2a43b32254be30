use Rattle.std.proofs.Common.{[], take, List, length}
use Rattle.lh_unit.specs.Naming.{Naming}
use Rattle.lh_unit.specs.declared.table.TableLine.{TableLine}
use Rattle.lh_verify_values.specs.FactsOfUnit.{FactsAfter, Marks}
use Rattle.lh_verify_values.specs.Numbers.{NumbersGrow}
use Rattle.lh_verify_values.proofs.facts.tell_args.Given as goal

abbrev pub invariant-loop-arg : goal.invariant-loop-arg
invariant-loop-arg l = record {
  marks : Marks (take l.arg-index l.args) (length l.initial.facts) l.seen;
  knows : (f : Naming) (lines : List TableLine) → FactsAfter l.initial.types (length l.initial.facts) f [] lines l.initial.facts
      → FactsAfter l.types (length l.initial.facts) f (take l.arg-index l.args) lines l.facts;
  grows : NumbersGrow l.initial.types l.types;
}
