use Rattle.std.proofs.Common.{◌+◌, ◌++◌, drop, map, ap, sym, subst, ◌∙◌}
use Rattle.std.proofs.lemmas.List.{at_drop_all}
use Rattle.lh_text_buffer.specs.Writing.{Writes}
use Rattle.lh_unit.specs.Arena.{naming, value_count}
use Rattle.lh_unit.specs.Naming.{arg_text}
use Rattle.lh_unit.specs.Pieces.{render}
use Rattle.lh_unit.specs.Canon.{argument, side_of}
use Rattle.lh_unit.proofs.Lists.{drop-item}
use Rattle.lh_unit.proofs.PlacedIds.{args-item}
use Rattle.lh_text_buffer.proofs.Parts.{all-left, none-left}
use Rattle.lh_print.proofs.Joined.{in_row, in_row-first, row_step, row_same}
use Rattle.lh_print.proofs.Sides.{side_of-here, side_of-other}
use Rattle.lh_print.proofs.arguments.put_side.Goals as goal
use Rattle.lh_print.proofs.arguments.put_side.Goals.{then-is_on_side, else-is_on_side}

pub loop-arg-init : goal.loop-arg-init
loop-arg-init c = all-left _ _ _ (in_row-first (map argument (side_of c.args.output (map (arg_text (naming c.args.view.module.now c.args.view.unit.0)) c.args.args.now))))

pub put_argument-requires : goal.put_argument-requires
put_argument-requires c = record {
  placed = args-item (value_count c.args.view.module.now c.args.view.unit.0) c.args.args.now c.loop-arg.arg-index c.arg-item.result c.requires.placed
      c.loop-arg-test.true c.arg-item.is;
}

pub loop-arg-preserved : goal.loop-arg-preserved
loop-arg-preserved c =
    let a = arg_text (naming c.args.view.module.now c.args.view.unit.0) in
    let more = map a (drop (c.loop-arg.arg-index + 1) c.args.args.now) in
    let first = ap (λ l. map argument (side_of c.args.output (map a l))) (drop-item c.args.args.now c.loop-arg.arg-index c.arg-item.result c.loop-arg-test.true c.arg-item.is) in
    elim c.if-is_on_side.branch [
      | then-is_on_side w ↦
          row_step _ _ _ _ c.loop-arg.before.now _ (argument (a c.arg-item.result)) _ _
          (first ∙ ap (λ l. map argument l) (side_of-here c.args.output (a c.arg-item.result) more (sym c.is_on_side.ensures ∙ w.if-is_on_side.true)))
          (ap (λ b. b.now) w.before-is)
          (subst (λ next. Writes c.loop-arg.out next (c.loop-arg.before.now ++ render (argument (a c.arg-item.result)))) (sym w.out-is) w.put_argument.ensures) c.loop-arg.invariant
      | else-is_on_side w ↦
          row_same _ _ _ _ c.loop-arg.before.now _ _ _
          (first ∙ ap (λ l. map argument l) (side_of-other c.args.output (a c.arg-item.result) more (sym c.is_on_side.ensures ∙ w.if-is_on_side.false)))
          (ap (λ b. b.now) w.before-is) w.out-is c.loop-arg.invariant
    ]

pub returns : goal.returns
returns c = none-left _ _ _ _ (at_drop_all (λ l. in_row c.loop-arg.before.now (map argument (side_of c.args.output (map (arg_text (naming c.args.view.module.now c.args.view.unit.0)) l)))) c.args.args.now c.loop-arg.arg-index c.loop-arg-test.false) c.loop-arg.invariant
