use Rattle.std.proofs.Common.{◌<◌, arith, drop, ◌+◌, subst, sym, List, Option}
use Rattle.lh_unit.proofs.Lists.{drop-item}
use Rattle.lh_unit.specs.Within.{Each}
use Rattle.lh_unit.specs.declared.inst.Arg.{Arg}
use Rattle.lh_term.specs.declared.part.Part.{Part}
use Rattle.lh_flat_parts.proofs.Tables.{TakingArgs, TakingArgs-arg, TakingArgs-within, TakingArgs-none}
use Rattle.lh_flat_parts.proofs.table.arguments_of.Goals as goal

pub loop-k-init : goal.loop-k-init
loop-k-init c =
    subst (λ (ps : List (Option Part)). TakingArgs c.args.flat.now.values ps 0 c.as_slice-arg-items.result.now c.as_slice-arg-items.result.now) (sym c.in_ok-parts.ensures)
    (TakingArgs-none c.args.flat.now.values c.as_slice-arg-items.result.now (subst (Each (λ (a : Arg). a.value.0 < c.args.flat.now.values)) (sym c.as_slice-arg-items.ensures) c.requires.within))

pub put_argument-requires-clause-within : goal.put_argument-requires-clause-within
put_argument-requires-clause-within c =
    let items = c.as_slice-arg-items.result.now in let i = c.loop-k.k in
    TakingArgs-within _ _ i (drop i items) items c.arg-item.result (drop (i + 1) items) (drop-item items i c.arg-item.result (omega arith) c.arg-item.is) c.loop-k.invariant

pub loop-k-preserved : goal.loop-k-preserved
loop-k-preserved c =
    let items = c.as_slice-arg-items.result.now in let i = c.loop-k.k in
    TakingArgs-arg _ _ _ i (drop i items) items c.arg-item.result (drop (i + 1) items) (drop-item items i c.arg-item.result (omega arith) c.arg-item.is) c.in_ok-put_argument.ensures.parts
    c.in_ok-put_argument.ensures.carried c.loop-k.invariant
