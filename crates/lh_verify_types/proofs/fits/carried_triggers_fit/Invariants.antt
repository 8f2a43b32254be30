use Rattle.std.proofs.Common.{◌≡◌, map, drop}
use Rattle.std.specs.List.{list_all}
use Rattle.lh_unit.specs.Naming.{trigger_text}
use Rattle.lh_verify_types.specs.Fitting.{carried_fits}
use Rattle.lh_verify_values.specs.Facts.{text_in, naming_in}
use Rattle.lh_verify_types.proofs.fits.carried_triggers_fit.Given as goal

abbrev pub invariant-loop-trigger : goal.invariant-loop-trigger
invariant-loop-trigger l = let f = naming_in l.scope in let p = carried_fits (text_in l.scope) l.carried.ty.now in
    list_all p (map (trigger_text f) (drop l.trigger-index l.triggers)) ≡ list_all p (map (trigger_text f) l.triggers)
