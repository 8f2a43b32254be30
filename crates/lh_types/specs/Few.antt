-- How contracts see a list that is mostly short.
use Rattle.std.specs.Prelude.{List}
use Rattle.lh_types.specs.declared.few.Few.{Few}
use Rattle.lh_types.specs.declared.few.Few.TheVariants.{One, Two, Other}

-- the items in order
abbrev pub few_items : {T : Type 0} → Few T → List T
few_items (One items) = items
few_items (Two items) = items
few_items (Other items) = items
