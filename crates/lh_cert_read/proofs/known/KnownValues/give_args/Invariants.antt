use Rattle.std.proofs.Common.{◌≡◌, drop, length}
use Rattle.lh_unit.specs.Table.{ArgsWithin}
use Rattle.lh_cert_read.specs.Known.{args_given}
use Rattle.lh_cert_read.proofs.known.KnownValues.give_args.Given as goal

abbrev pub invariant-loop-k : goal.invariant-loop-k
invariant-loop-k l = record {
  within : ArgsWithin (length l.self.values.items) (drop l.k l.args);
  same : args_given l.self.values.items l.k (drop l.k l.args) ≡ args_given l.initial.self.values.items 0 l.args;
}
