use Rattle.std.proofs.Common.{◌≡◌, ◌∙◌, sym}
use Rattle.lh_emit_source.specs.Origins.{source_by}
use Rattle.lh_emit.proofs.EmptyEntity.{begins-emitted}
use Rattle.lh_emit.proofs.SourceSteps.{source-of, source-names}
use Rattle.lh_emit.proofs.emitter.Emitter.new.Goals as goal

pub returns : goal.returns
returns c = λ ns name f h once.
    let s = source_by name f c.args.origin.now.flat.now in
    begins-emitted ns s c.in_ok-arguments.field-0 c.new.result c.new-2.result c.in_ok-arguments.ensures.room
    (c.in_ok-arguments.ensures.begins s.args (source-names c.args.origin.now s (source-of c.args.origin.now name f h) ∙ sym c.names.ensures)) c.new.ensures c.new-2.ensures
