use Rattle.std.proofs.Common.{◌≡◌, ◌-◌}
use Rattle.lh_unit.specs.Paths.{shown_in}
use Rattle.lh_design.specs.Texts.{design_text}
use Rattle.lh_wave.specs.HeadText.{signals_in, scope_text}
use Rattle.lh_wave.specs.Owned.{numbers_of}
use Rattle.lh_wave.proofs.FrameLemmas.{Writing}
use Rattle.lh_wave.proofs.head.Scopes.+put.Given as goal

abbrev pub decreases-put : goal.decreases-put
decreases-put l = l.steps

abbrev pub invariant-loop-child : goal.invariant-loop-child
invariant-loop-child l = record {
  whole : l.child-items ≡ numbers_of l.fn.self.children l.instance;
  text : Writing (scope_text (l.steps - 1) (shown_in (design_text l.fn.self.«module».now l.fn.self.design.now)) (signals_in (design_text l.fn.self.«module».now l.fn.self.design.now)))
      l.initial.to l.to l.child-items l.child-index;
}
