use Rattle.std.proofs.Common.{◌≡◌, ℕ, None, Option, replicate, length, ap, ◌∙◌}
use Rattle.std.proofs.lemmas.List.{length-replicate}
use Rattle.lh_unit.specs.Held.{Held}
use Rattle.lh_unit.specs.Arena.{value_count, table_at, args_at, block_insts_at}
use Rattle.lh_eval.specs.Beginning.{args_given, signals_given}
use Rattle.lh_eval.proofs.BeginSteps.{length-args, begun}
use Rattle.lh_eval.proofs.begin.begin.Goals as goal

pub hold_signals-requires-clause-slots : goal.hold_signals-requires-clause-slots
hold_signals-requires-clause-slots c =
    ap length c.hold_args.ensures
    ∙ length-args c.args-2.result.now c.args.args.now c.in_ok-slots.slots
    ∙ ap length c.in_ok-slots.ensures
    ∙ length-replicate c.values.result None
    ∙ c.values.ensures.count

pub returns : goal.returns
returns c =
    let n : c.values.result ≡ value_count c.args.m.now c.args.unit.0 = c.values.ensures.count in
    let first : c.in_ok-slots.slots ≡ replicate (value_count c.args.m.now c.args.unit.0) None = c.in_ok-slots.ensures ∙ ap (λ (k : ℕ). let none : Option Held = None in replicate k none) n in
    let all : c.hold_signals.new.slots ≡ signals_given (table_at c.args.m.now c.args.unit.0) (block_insts_at c.args.m.now c.args.unit.0 0) c.args.sigs.now (args_given
    (args_at c.args.m.now c.args.unit.0) c.args.args.now (replicate (value_count c.args.m.now c.args.unit.0) None)) =
    c.hold_signals.ensures
    ∙ ap (λ l. signals_given (table_at c.args.m.now c.args.unit.0) l c.args.sigs.now c.hold_args.new.slots) c.requires.insts
    ∙ ap (signals_given (table_at c.args.m.now c.args.unit.0) (block_insts_at c.args.m.now c.args.unit.0 0) c.args.sigs.now) (c.hold_args.ensures
    ∙ ap (λ l. args_given l c.args.args.now c.in_ok-slots.slots) c.args-2.ensures.args ∙ ap (args_given (args_at c.args.m.now c.args.unit.0) c.args.args.now) first) in
    begun c.args.m.now c.args.unit.0 c.values.ensures.sound c.requires.unit c.requires.entity c.args.args.now c.args.sigs.now c.hold_signals.new.slots all
