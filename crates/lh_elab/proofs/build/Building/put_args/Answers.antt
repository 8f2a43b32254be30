use Rattle.std.proofs.Common.{◌≡◌, ◌<◌, List, [], ◌∷◌, length, map, take, get_or, replicate, false, ap, sym, ◌∙◌, subst, arith}
use Rattle.std.proofs.lemmas.List.{length-map}
use Rattle.lh_types.specs.Types.{bit_count}
use Rattle.lh_types.specs.declared.part.Range.{Range}
use Rattle.lh_unit.specs.declared.inst.Arg.{Arg}
use Rattle.lh_unit.specs.Arena.{naming, value_count, args_at}
use Rattle.lh_unit.specs.Naming.{arg_text}
use Rattle.lh_unit.specs.Hierarchy.{SignalText}
use Rattle.lh_unit.specs.Design.{carried_type, signal_ranges, top_signals}
use Rattle.lh_unit.specs.Table.{ArgsWithin}
use Rattle.lh_elab.specs.Builds.{AddsSignals}
use Rattle.lh_elab.proofs.BuildSteps.{adds-more, rest-more, ranges-more, top_of, more-args, room-arg, arg-at, args-in}
use Rattle.lh_elab.proofs.build.Building.put_args.Goals as goal

pub value_name-requires-clause-value : goal.value_name-requires-clause-value
value_name-requires-clause-value c =
    let m = c.args.m.now in
    let u = c.args.top.0 in
    args-in (value_count m u) c.args-arg-items.result.now c.loop-arg.arg-index c.arg-item.result c.loop-arg-test.true c.arg-item.is
    (subst (ArgsWithin (value_count m u)) (sym c.args-arg-items.ensures.args) (c.args-arg-items.ensures.sound.tables u c.requires.unit).args_within)

pub put_arg-requires : goal.put_arg-requires
put_arg-requires c =
    let m = c.args.m.now in
    let f = naming m c.args.top.0 in
    let xs = args_at m c.args.top.0 in
    let k = c.loop-arg.arg-index in
    let item = c.arg-item.result in
    let e = c.args-arg-items.ensures.args in
    let h : k < length xs = subst (λ (l : List Arg). k < length l) e c.loop-arg-test.true in
    let is : item ≡ get_or xs k item = c.arg-item.is ∙ ap (λ (l : List Arg). get_or l k item) e in
    let hx : k < length (map (arg_text f) xs) = let n = length-map xs (arg_text f) in omega (arith, h, n) in
    let g = room-arg c.args.self.now.lo c.loop-arg.self.lo (length c.args.self.now.init) (map (arg_text f) xs) k (arg_text f item) hx (arg-at f xs k item h is) c.requires.room
    c.loop-arg.invariant.adds.lo in
    let w : bit_count c.carried.result.now ≡ bit_count (carried_type item.ty) = ap bit_count c.carried.ensures in
    omega (arith, g, w, c.loop-arg.invariant.adds.long)

pub loop-arg-preserved : goal.loop-arg-preserved
loop-arg-preserved c =
    let m = c.args.m.now in
    let f = naming m c.args.top.0 in
    let xs = args_at m c.args.top.0 in
    let k = c.loop-arg.arg-index in
    let item = c.arg-item.result in
    let e = c.args-arg-items.ensures.args in
    let h : k < length xs = subst (λ (l : List Arg). k < length l) e c.loop-arg-test.true in
    let is : item ≡ get_or xs k item = c.arg-item.is ∙ ap (λ (l : List Arg). get_or l k item) e in
    let hx : k < length (map (arg_text f) xs) = let n = length-map xs (arg_text f) in omega (arith, h, n) in
    let more = more-args (map (arg_text f) xs) k (arg_text f item) hx (arg-at f xs k item h is) in
    let ty : c.carried.result.now ≡ carried_type item.ty = c.carried.ensures in
    let one : AddsSignals c.loop-arg.self c.put_arg.new.self 0 (top_of (arg_text f item) ∷ []) =
    subst (λ (s : SignalText). AddsSignals c.loop-arg.self c.put_arg.new.self 0 (s ∷ [])) (λ j. record { name = c.value_name.ensures.name j; ty = ty j; initial = replicate (bit_count (ty j)) false })
    c.in_ok-range.ensures.signals in
    let ss = top_signals (take k (map (arg_text f) xs)) in
    let range : c.in_ok-range.range ≡ record { lo = c.loop-arg.self.lo; len = bit_count (carried_type item.ty) } = c.in_ok-range.ensures.range
    ∙ (λ j. let r : Range = record { lo = c.loop-arg.self.lo; len = bit_count (ty j) } in r) in
    record {
      adds = subst (AddsSignals c.args.self.now c.put_arg.new.self 0) (sym more)
          (adds-more c.args.self.now c.loop-arg.self c.put_arg.new.self 0 ss (top_of (arg_text f item) ∷ []) c.loop-arg.invariant.adds one);
      rest = rest-more c.args.self.now c.loop-arg.self c.put_arg.new.self c.loop-arg.invariant.rest c.in_ok-range.ensures.rest;
      ranges = c.in_ok-push.ensures.ok ∙ ranges-more c.args.self.now.lo c.loop-arg.self.lo ss (top_of (arg_text f item)) c.loop-arg.ranges c.in_ok-range.range c.loop-arg.invariant.ranges
          c.loop-arg.invariant.adds.lo range ∙ ap (signal_ranges c.args.self.now.lo) (sym more);
    }
