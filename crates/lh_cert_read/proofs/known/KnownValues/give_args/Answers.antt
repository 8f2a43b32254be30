use Rattle.std.proofs.Common.{◌≡◌, ◌+◌, ◌≤◌, List, ◌∷◌, drop, length, Option, Some, ap, sym, ◌∙◌, subst, arith}
use Rattle.std.proofs.lemmas.List.{drop_all}
use Rattle.lh_unit.specs.Table.{ArgsWithin}
use Rattle.lh_unit.proofs.Lists.{drop-item}
use Rattle.lh_cert_read.specs.Known.{given, args_given}
use Rattle.lh_cert_read.specs.declared.known.Known.{Known}
use Rattle.lh_cert_read.proofs.Arguments.{given-long}
use Rattle.lh_cert_read.proofs.known.KnownValues.give_args.Goals as goal

pub give-requires : goal.give-requires
give-requires c =
    let xs = c.args.args.now in
    let k = c.loop-k.k in
    (subst (ArgsWithin (length c.loop-k.self.values.items)) (drop-item xs k c.index-args-k.result (omega arith) c.index-args-k.is) c.loop-k.invariant.within).0

pub loop-k-preserved : goal.loop-k-preserved
loop-k-preserved c =
    let xs = c.args.args.now in
    let k = c.loop-k.k in
    let values = c.loop-k.self.values.items in
    let x = c.index-args-k.result in
    let d : drop k xs ≡ x ∷ drop (k + 1) xs = drop-item xs k x (omega arith) c.index-args-k.is in
    let new : c.give.new.self.values.items ≡ given values (Some x.value) c.in_ok-whole.whole = c.give.ensures in
    record {
      within = subst (λ n. ArgsWithin n (drop (k + 1) xs)) (sym (ap length new ∙ given-long values (Some x.value) c.in_ok-whole.whole))
          (subst (ArgsWithin (length values)) d c.loop-k.invariant.within).1;
      same = ap (λ (vs : List (Option Known)). args_given vs (k + 1) (drop (k + 1) xs)) (new ∙ ap (given values (Some x.value)) c.in_ok-whole.ensures) ∙ sym (ap (args_given values k) d)
          ∙ c.loop-k.invariant.same;
    }

pub returns : goal.returns
returns c =
    let xs = c.args.args.now in
    let k = c.loop-k.k in
    let n : length xs ≤ k = omega arith in
    sym (ap (args_given c.loop-k.self.values.items k) (drop_all k xs n)) ∙ c.loop-k.invariant.same
