-- An instruction that gives no value, in an entity under construction.
use Rattle.std.proofs.Common.{◌≡◌, ℕ, List, sym, subst}
use Rattle.std.specs.Prelude.{Result, Ok, Err}
use Rattle.lh_unit.specs.Naming.{inst_text}
use Rattle.lh_unit.specs.declared.inst.Inst.{Inst}
use Rattle.lh_term.specs.declared.term.TermNode.{TermNode}
use Rattle.lh_emit_def.specs.Emitted.{Source, Emitted, puts}
use Rattle.lh_emit_body.specs.Lines.{naming, LinesAreEmitted, PutsOne}
use Rattle.lh_emit_body.specs.declared.lines.EmitFault.{EmitFault}
use Rattle.lh_emit_body.specs.declared.lines.EmitFault.TheVariants as fault
use Rattle.lh_emit.specs.Emitting.{ArgumentsFirst, IsEmitted, PutsInst}
use Rattle.lh_emit.specs.Parts.{KnowsParts}
use Rattle.lh_emit.specs.Values.{ValuesNameTerms}
use Rattle.lh_emit.specs.declared.emitter.Emitter.{Emitter}
use Rattle.lh_emit_body.specs.declared.lines.Lines.{Lines}

-- the entity after the instruction
pub puts-emitted : (ns : List TermNode) (s : Source) (x : Emitter) (e : Emitted) (i : Inst) (new : Lines) → IsEmitted ns s x e → PutsOne x.lines i new (Ok tt) →
    IsEmitted ns s record { lines = new; values = x.values; parts = x.parts } (puts (inst_text (naming x.lines.names) i) e)
puts-emitted ns s x e i new w h =
    let k : ValuesNameTerms ns x.lines.names x.values (puts (inst_text (naming x.lines.names) i) e) = record
    { named = w.terms.named; within = w.terms.within; held = w.terms.held; among = w.terms.among } in
    let p : KnowsParts s.args x.lines.names x.parts (puts (inst_text (naming x.lines.names) i) e) = record { named = w.parts.named; within = w.parts.within } in
    record {
      room = h.2;
      says = h.0 s e w.says;
      arguments = subst (ArgumentsFirst s.args) (sym h.1) w.arguments;
      terms = subst (λ (names : List (List ℕ)). ValuesNameTerms ns names x.values (puts (inst_text (naming x.lines.names) i) e)) (sym h.1) k;
      parts = subst (λ (names : List (List ℕ)). KnowsParts s.args names x.parts (puts (inst_text (naming x.lines.names) i) e)) (sym h.1) p;
      fit = w.fit;
    }

pub puts-inst : (x : Emitter) (i : Inst) (new : Lines) (r : Result (Unit {0}) EmitFault) → PutsOne x.lines i new r → PutsInst x i record { lines = new; values = x.values; parts = x.parts } r
puts-inst x i new (Ok u) h = λ ns s e w. puts-emitted ns s x e i new w h
puts-inst x i new (Err fault.EntityTooLarge) h = h
puts-inst x i new (Err fault.OutOfMemory) h = tt
