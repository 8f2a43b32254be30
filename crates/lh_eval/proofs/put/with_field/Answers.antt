use Rattle.std.proofs.Common.{ap}
use Rattle.lh_types.specs.ValueOf.{datum_of}
use Rattle.lh_eval.proofs.Fields.{element_there, member_there}
use Rattle.lh_eval.proofs.put.with_field.Goals as goal

pub replaced-requires : goal.replaced-requires
replaced-requires c = element_there c.args.k (datum_of c.args.whole.now) (datum_of c.args.new.now) c.in-Array.elements c.requires (ap datum_of c.in-Array.is)

pub replaced-requires-in-Tuple : goal.replaced-requires-in-Tuple
replaced-requires-in-Tuple c = member_there c.args.k (datum_of c.args.whole.now) (datum_of c.args.new.now) c.in-Tuple.fields c.requires (ap datum_of c.in-Tuple.is)
