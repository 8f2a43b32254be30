use Rattle.std.proofs.Common.{sym, subst}
use Rattle.lh_unit.specs.Arena.{Arena, contents}
use Rattle.lh_selftest.specs.SelfTest.{HasDesign}
use Rattle.lh_selftest.proofs.Tops.{top-is_starved, design-is}
use Rattle.lh_selftest.proofs.design.design_of.Goals as goal

pub top_of-requires : goal.top_of-requires
top_of-requires c = subst (λ (a : Arena). HasDesign (contents a)) (sym c.module-module.ensures.«module») c.requires

pub wanting-requires : goal.wanting-requires
wanting-requires c =
    top-is_starved c.module-module.result.now _ c.in-Err.fault c.top_of.ensures.name (subst (λ (a : Arena). HasDesign (contents a)) (sym c.module-module.ensures.«module») c.requires)
    c.in-Err.ensures.elaborates

pub returns-in-Ok-clause-built : goal.returns-in-Ok-clause-built
returns-in-Ok-clause-built c = design-is c.module-module.result.now c.args.file.now c.in-Ok.design _ c.module-module.ensures.«module» c.top_of.ensures.name c.in-Ok.ensures.elaborates
