use Rattle.std.proofs.Common.{map, refl, ap}
use Rattle.std.proofs.lemmas.List.{at_drop_all}
use Rattle.lh_unit.specs.Arena.{naming, value_count}
use Rattle.lh_unit.specs.Naming.{arg_text}
use Rattle.lh_unit.specs.Canon.{argument}
use Rattle.lh_unit.proofs.Lists.{drop-item}
use Rattle.lh_unit.proofs.PlacedIds.{args-item}
use Rattle.lh_text_buffer.proofs.Parts.{all-left, none-left}
use Rattle.lh_print.proofs.Joined.{in_row, in_row-first, row_step}
use Rattle.lh_print.proofs.arguments.put_arguments.Goals as goal

pub loop-arg-init : goal.loop-arg-init
loop-arg-init c = all-left _ _ _ (in_row-first (map argument (map (arg_text (naming c.args.view.module.now c.args.view.unit.0)) c.args.args.now)))

pub put_argument-requires : goal.put_argument-requires
put_argument-requires c = record {
  placed = args-item (value_count c.args.view.module.now c.args.view.unit.0) c.args.args.now c.loop-arg.arg-index c.arg-item.result c.requires.placed
      c.loop-arg-test.true c.arg-item.is;
}

pub loop-arg-preserved : goal.loop-arg-preserved
loop-arg-preserved c =
    let f = naming c.args.view.module.now c.args.view.unit.0 in
    row_step _ _ _ _ c.loop-arg.before.now _ (argument (arg_text f c.arg-item.result)) _ _
    (ap (λ l. map argument (map (arg_text f) l)) (drop-item c.args.args.now c.loop-arg.arg-index c.arg-item.result c.loop-arg-test.true c.arg-item.is)) refl c.put_argument.ensures
    c.loop-arg.invariant

pub returns : goal.returns
returns c = none-left _ _ _ _ (at_drop_all (λ l. in_row c.loop-arg.before.now (map argument (map (arg_text (naming c.args.view.module.now c.args.view.unit.0)) l))) c.args.args.now c.loop-arg.arg-index c.loop-arg-test.false) c.loop-arg.invariant
