use Rattle.std.proofs.Common.{◌≡◌, ◌≤◌}
use Rattle.lh_unit.specs.Paths.{shown_in, path_at}
use Rattle.lh_design.specs.Texts.{design_text}
use Rattle.lh_wave.proofs.HeadLaws.{HeadGoing}
use Rattle.lh_wave.proofs.head.write_trace_head.Given as goal

abbrev pub invariant-loop-k : goal.invariant-loop-k
invariant-loop-k g l = record {
  whole : l.signal-items ≡ l.fn.d.signals.items;
  path : l.path.text.items ≡ path_at (shown_in (design_text l.fn.m l.fn.d)) l.path.instance;
  never_fall : g.K.Sink.faults l.fn.out ≤ g.K.Sink.faults l.out;
  going : HeadGoing l.fn.m l.fn.d (g.K.Sink.written l.fn.out) (g.K.Sink.written l.out) l.waits.items l.k;
}
