use Rattle.std.proofs.Common.{◌∙◌}
use Rattle.lh_wave.proofs.Titles.{title_there, title_past}
use Rattle.lh_wave.proofs.ending.title.Goals as goal

pub returns : goal.returns
returns g c = c.as_bytes.ensures.value ∙ c.title.ensures ∙ title_there g.W.Watcher.member _ _ _ c.if-place-ws.false c.index-ws-place.is

pub returns-then-place-ws : goal.returns-then-place-ws
returns-then-place-ws g c = title_past g.W.Watcher.member _ _ c.if-place-ws.true
