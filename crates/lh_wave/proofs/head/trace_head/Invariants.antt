use Rattle.std.proofs.Common.{◌≡◌}
use Rattle.std.specs.Prelude.{true}
use Rattle.lh_unit.specs.Paths.{shown_in, path_at}
use Rattle.lh_design.specs.Texts.{design_text}
use Rattle.lh_wave.proofs.HeadLines.{SignalsWriting}
use Rattle.lh_wave.proofs.head.trace_head.Given as goal

abbrev pub invariant-loop-k : goal.invariant-loop-k
invariant-loop-k l = record {
  whole : l.signal-items ≡ l.fn.d.signals.items;
  path : l.path.text.items ≡ path_at (shown_in (design_text l.fn.m l.fn.d)) l.path.instance;
  text : l.to.is_whole ≡ true → SignalsWriting l.fn.m l.fn.d l.to.items l.k;
}
