use Rattle.std.proofs.Common.{◌<◌, length, refl, arith}
use Rattle.lh_text_buffer.proofs.Parts.{all-left}
use Rattle.lh_wave.proofs.FrameLemmas.{Writing-next_at, Writing-end}
use Rattle.lh_wave.proofs.OwnedLemmas.{scope_whole, signals_known, child_known}
use Rattle.lh_wave.proofs.head.Scopes.+put.Goals as goal

pub put_variables-requires-clause-known : goal.put_variables-requires-clause-known
put_variables-requires-clause-known t c =
    let inside : c.args.instance < length c.args.self.now.design.now.instances.items = c.requires.known (omega arith) in
    signals_known c.args.self.now.design.now _ _ _ c.numbers_at.ensures c.requires.signals inside

pub put-requires : goal.put-requires
put-requires t c =
    let inside : c.args.instance < length c.args.self.now.design.now.instances.items = c.requires.known (omega arith) in (
      omega arith,
      (
        c.requires.design,
        (
          c.requires.children,
          (c.requires.signals, λ _. child_known c.args.self.now.design.now _ _ _ _ c.numbers_at-child-items.ensures c.requires.children inside c.loop-child-test.true),
        ),
      ),
    )

pub begin-requires-clause-known : goal.begin-requires-clause-known
begin-requires-clause-known t c = c.requires.known (omega arith)

pub loop-child-init : goal.loop-child-init
loop-child-init t c = record { whole = c.numbers_at-child-items.ensures; text = all-left _ _ _ refl }

pub loop-child-preserved : goal.loop-child-preserved
loop-child-preserved t c = record {
  whole = c.loop-child.invariant.whole;
  text = Writing-next_at _ _ _ _ _ _ _ c.loop-child.invariant.text c.loop-child-test.true c.put.ensures;
}

pub returns : goal.returns
returns t c =
    let inside : c.args.instance < length c.args.self.now.design.now.instances.items = c.requires.known (omega arith) in
    scope_whole c.args.self.now.«module».now c.args.self.now.design.now c.args.self.now.children c.args.self.now.signals _ _ _ _ _ _ _ _ _ (λ e. absurd (omega (arith, e)))
    c.requires.children c.requires.signals inside c.numbers_at.ensures c.numbers_at-child-items.ensures
    c.begin.ensures c.put_variables.ensures (Writing-end _ _ _ _ _ c.loop-child.invariant.text c.loop-child-test.false) c.put-2.ensures
