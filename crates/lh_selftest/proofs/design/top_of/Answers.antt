use Rattle.lh_selftest.proofs.Tops.{top-is_there, top-is_defined}
use Rattle.lh_selftest.proofs.design.top_of.Goals as goal

pub unreachable-requires : goal.unreachable-requires
unreachable-requires c = top-is_there c.args.m.now c.find.ensures.sound c.requires c.in-None.ensures.found

pub returns-clause-begun : goal.returns-clause-begun
returns-clause-begun c =
    let found = c.in-Some.ensures.found in
    top-is_defined c.args.m.now c.in-Some.unit.0 c.find.ensures.sound found.0 found.1 c.requires
