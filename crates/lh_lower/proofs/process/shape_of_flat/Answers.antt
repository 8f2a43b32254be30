use Rattle.lh_term.proofs.Swaps.{grows_on}
use Rattle.lh_flat.specs.Reads.{flat_text}
use Rattle.lh_region_def.specs.Regions.{regions_of}
use Rattle.lh_lower.proofs.Flats.{by-regions}
use Rattle.lh_lower.proofs.Outcomes.{if-ok}
use Rattle.lh_lower.proofs.process.shape_of_flat.Goals as goal

pub returns-in-Ok-clause-is : goal.returns-in-Ok-clause-is
returns-in-Ok-clause-is c =
    if-ok c.shape_of_regions.result _ _
    (λ s h f n. by-regions c.regions.new.terms c.shape_of_regions.new.terms c.in-Ok.regions s (regions_of (flat_text f c.args.flat.now)) (c.in-Ok.ensures.answer f n) h) c.shape_of_regions.ensures.is

pub returns-in-Ok-clause-kept : goal.returns-in-Ok-clause-kept
returns-in-Ok-clause-kept c = grows_on c.args.terms.now c.regions.new.terms c.shape_of_regions.new.terms c.in-Ok.ensures.kept c.shape_of_regions.ensures.kept
