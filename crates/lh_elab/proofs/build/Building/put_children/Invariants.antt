use Rattle.std.proofs.Common.{◌≡◌, ◌-◌, ◌++◌, length, drop}
use Rattle.lh_elab.specs.Builds.{KeepsBuilt, kids}
use Rattle.lh_elab.proofs.build.Building.put_children.Given as goal

abbrev pub invariant-loop-i : goal.invariant-loop-i
invariant-loop-i l = record {
  pending : l.self.pending.items ≡ l.initial.self.pending.items ++ kids l.m l.parent l.room l.args l.sigs (drop (length l.children - l.i) l.children);
  built : KeepsBuilt l.initial.self l.self;
}
