use Rattle.std.proofs.Common.{◌∙◌, refl}
use Rattle.lh_emit_body.proofs.AddedLines.{room-seek}
use Rattle.lh_emit_body.proofs.lines.Lines.name_next.Goals as goal

pub name-requires : goal.name-requires
name-requires c = room-seek c.args.self.now c.requires

pub returns : goal.returns
returns c = record {
  name = c.in_ok-name.name;
  id = c.in_ok-value.ensures ∙ c.len.ensures;
  names = c.in_ok-push.ensures.ok;
  lines = refl;
  named = c.in_ok-name.ensures.name;
  next = c.in_ok-name.ensures.next;
  fresh = c.in_ok-name.ensures.fresh;
  count = c.in_ok-name.ensures.count;
  near = c.in_ok-name.ensures.near;
}
