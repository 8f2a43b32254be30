use Rattle.std.proofs.Common.{map, take}
use Rattle.lh_read.specs.Building.{arg_of}
use Rattle.lh_read.specs.Mentions.{EachNamed}
use Rattle.lh_read.proofs.Args.{At}
use Rattle.lh_read.proofs.ids.Resolver.add_args.Given as goal

abbrev pub invariant-loop-param : goal.invariant-loop-param
invariant-loop-param l = At l.fn.self.module l.self.module l.unit (map (arg_of l.output) (take l.param-index l.params)) × (EachNamed l.fn.self.module → EachNamed l.self.module)
