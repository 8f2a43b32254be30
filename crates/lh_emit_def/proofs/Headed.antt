-- The header of a process is that of its entity, and says what its arguments are.
use Rattle.std.proofs.Common.{◌≡◌, ℕ, zero, suc, List, [], ◌∷◌, map, Option, Some, None, slice_get, refl, ap, sym, subst}
use Rattle.std.specs.Prelude.{codes}
use Rattle.lh_types.specs.Types.{TypeTree, IsLimited}
use Rattle.lh_unit_names.specs.Names.{IsName}
use Rattle.lh_unit.specs.Contents.{ArgText}
use Rattle.lh_unit.specs.Canon.{header, unit_name_pieces, ports}
use Rattle.lh_unit.specs.Lexemes.{Lexeme, word, local, arrow}
use Rattle.lh_unit.specs.Marks.{open_paren, close_paren, open_brace, comma}
use Rattle.lh_unit.specs.Pieces.{Piece, IsLexeme, lexemes_in, ◌␣◌}
use Rattle.lh_unit.specs.Within.{Each}
use Rattle.lh_unit.specs.Spells.{header_item, TypedName, SpellsPort, input_of, output_of, SpellsPorts, SpellsHeader}
use Rattle.lh_unit.specs.SpellsParts.{SpellsParts, SpellsList}
use Rattle.lh_unit_names.specs.declared.name.UnitName.{UnitName}
use Rattle.lh_unit.specs.declared.inst.UnitKind.{UnitKind}
use Rattle.lh_unit.specs.declared.inst.UnitKind.TheVariants as kind
use Rattle.lh_text_laws.specs.Printable.{HasLine}
use Rattle.lh_text_laws.proofs.SpacedLines.{word-lexeme}
use Rattle.lh_text_laws.proofs.Types.{type-again}
use Rattle.lh_emit_def.proofs.InstructionSpelling.{each-append, spaced-written}

-- ---- the header of the entity

entity-headed : (n : UnitName) (args : List ArgText) → HasLine (header_item kind.Proc n args None) → HasLine (header_item kind.Entity n args None)
entity-headed n args h =
    let rest : List Piece = unit_name_pieces n ␣ ports args in
    let k : SpellsHeader kind.Proc n args None (word (codes "proc") ∷ lexemes_in rest) = h.1 in
    let q : lexemes_in rest ≡ k.0 ∷ k.1 = cc (k.2) in
    ((word-lexeme (codes "entity") refl, refl, h.0.2), (k.0, k.1, ap (λ z. word (codes "entity") ∷ z) q, k.3, k.4))

process-headed : (k : UnitKind) (n : UnitName) (args : List ArgText) (r : Option TypeTree) → k ≡ kind.Proc → HasLine (header_item k n args r) → HasLine (header_item kind.Proc n args None)
process-headed kind.Proc n args None q h = h
process-headed kind.Proc n args (Some r) q h = absurd h.1
process-headed kind.Func n args r q h = absurd cc
process-headed kind.Entity n args r q h = absurd cc

pub headed : (k : UnitKind) (n : UnitName) (args : List ArgText) (r : Option TypeTree) → k ≡ kind.Proc → HasLine (header_item k n args r) → HasLine (header_item kind.Entity n args None)
headed k n args r q h = entity-headed n args (process-headed k n args r q h)

-- ---- the arguments

-- the name of an argument can be written, and its type is within the limits
pub record ArgWritten (a : ArgText) : Type 0 where
  pub name : IsName a.name
  pub type : IsLimited a.ty

record PortWritten (a : TypedName) : Type 0 where
  name : IsName a.name
  type : IsLimited a.ty

-- parts of a header, and the tokens that follow
record PortsWritten (xs : List TypedName) (more : List Lexeme) : Type 0 where
  each : Each PortWritten xs
  left : Each IsLexeme more

port-written : (a : TypedName) (ts more : List Lexeme) → Each IsLexeme ts → SpellsPort a ts more → PortsWritten (a ∷ []) more
port-written a ts more l h =
    let r = type-again a.ty ts (local a.name ∷ more) l h.1 in
    record { each = (record { name = r.left.0; type = h.1.1 }, tt); left = r.left.1 }

parts-written : (a : TypedName) (xs : List TypedName) (ts more : List Lexeme) → Each IsLexeme ts → SpellsParts SpellsPort (a ∷ xs) ts more → PortsWritten (a ∷ xs) more
parts-written a [] ts more l h = port-written a ts more l h
parts-written a (b ∷ xs) ts more l h =
    let p = port-written a ts (comma ∷ h.0) l h.1 in
    let r = parts-written b xs h.0 more p.left.1 h.2 in
    record { each = (p.each.0, r.each); left = r.left }

list-written : (xs : List TypedName) (ts more : List Lexeme) → Each IsLexeme ts → SpellsList SpellsPort xs ts more → PortsWritten xs more
list-written [] ts more l h = record { each = tt; left = subst (Each IsLexeme) h l }
list-written (a ∷ xs) ts more l h = parts-written a xs ts more l h

inputs-written : (xs : List TypedName) → Each PortWritten xs → Each ArgWritten (map input_of xs)
inputs-written [] h = tt
inputs-written (a ∷ xs) h = (record { name = h.0.name; type = h.0.type }, inputs-written xs h.1)

outputs-written : (xs : List TypedName) → Each PortWritten xs → Each ArgWritten (map output_of xs)
outputs-written [] h = tt
outputs-written (a ∷ xs) h = (record { name = h.0.name; type = h.0.type }, outputs-written xs h.1)

ports-written : (args : List ArgText) (ts : List Lexeme) → Each IsLexeme ts → SpellsPorts args ts → Each ArgWritten args
ports-written args ts l h =
    let k : Each IsLexeme (open_paren ∷ h.first) = subst (Each IsLexeme) h.opened l in
    let a = list-written h.inputs h.first (close_paren ∷ arrow ∷ open_paren ∷ h.second) k.1 h.spelled_inputs in
    let b = list-written h.outputs h.second (close_paren ∷ open_brace ∷ []) a.left.1.1.1 h.spelled_outputs in
    subst (Each ArgWritten) (sym h.together) (each-append ArgWritten (map input_of h.inputs) (map output_of h.outputs) (inputs-written h.inputs a.each) (outputs-written h.outputs b.each))

process-args : (n : UnitName) (args : List ArgText) → HasLine (header_item kind.Proc n args None) → Each ArgWritten args
process-args n args h =
    let ts : List Lexeme = lexemes_in (header kind.Proc n args None) in
    let k : SpellsHeader kind.Proc n args None ts = h.1 in
    let l : Each IsLexeme ts = spaced-written (header kind.Proc n args None) h.0 in
    let m : Each IsLexeme (word (codes "proc") ∷ k.0 ∷ k.1) = subst (Each IsLexeme) k.2 l in
    ports-written args k.1 m.1.1 k.4

pub args-written : (k : UnitKind) (n : UnitName) (args : List ArgText) (r : Option TypeTree) → k ≡ kind.Proc → HasLine (header_item k n args r) → Each ArgWritten args
args-written k n args r q h = process-args n args (process-headed k n args r q h)

pub arg-written : (args : List ArgText) (k : ℕ) (a : ArgText) → Each ArgWritten args → slice_get args k ≡ Some a → ArgWritten a
arg-written [] zero a w p = absurd cc
arg-written [] (suc k) a w p = absurd cc
arg-written (x ∷ xs) zero a w p = let f : x ≡ a = cc in subst ArgWritten f w.0
arg-written (x ∷ xs) (suc k) a w p = arg-written xs k a w.1 p
