-- Lists of operands: what is found is spelled so, and what is spelled so is found.
use Rattle.std.proofs.Common.{◌≡◌, ℕ, ◌<◌, List, ◌∷◌, length, Option, Some, None, refl, ap, sym, subst, arith}
use Rattle.lh_types.specs.Types.{TypeTree}
use Rattle.lh_unit.specs.Contents.{OperandText}
use Rattle.lh_unit.specs.Lexemes.{Lexeme, local, punct}
use Rattle.lh_unit.specs.SpellsParts.{SpellsTyped, SpellsOperand, SpellsParts, SpellsList}
use Rattle.lh_read_pieces.specs.Pieces.{punct_at, parts_at, list_at}
use Rattle.lh_read_pieces.proofs.TypeStarts.{punct_at-type}
use Rattle.lh_read_pieces.proofs.SpelledLists.{parts_at-sound, parts_at-again, list_at-sound, list_at-again}
use Rattle.lh_read_phrases.specs.SyntaxOf.{operand_of, operands_of}
use Rattle.lh_read_phrases.specs.Shorter.{free_at-shorter}
use Rattle.lh_read_phrases.specs.Operands.{free_at}
use Rattle.lh_read_phrases.specs.declared.syntax.Operand.{Operand}
use Rattle.lh_read_phrases.proofs.SpelledOperands.{operands_as, operands_as-of, free_at-sound, free_at-again}
use Rattle.lh_read_phrases.proofs.SpelledEach.{parts_mapped, list_mapped, parts_unmapped, list_unmapped}

-- an operand as the program holds it is spelled
abbrev pub SpellsFree : Operand → List Lexeme → List Lexeme → Type 0
SpellsFree o ts us = SpellsOperand (operand_of o) ts us

again : (a : Operand) (ts us : List Lexeme) → SpellsFree a ts us → free_at ts ≡ Some (a, us)
again a ts us s = free_at-again (operand_of a) ts us s

shorter : (a : Operand) (ts us : List Lexeme) → SpellsFree a ts us → length us < length ts
shorter a ts us s = free_at-shorter ts a us (again a ts us s)

-- no operand begins with a closing parenthesis
no_close : (ty : Option TypeTree) (n : List ℕ) (ts us : List Lexeme) → SpellsTyped ty n ts us → punct_at 41 ts ≡ None
no_close None n ts us s = ap (punct_at 41) s
no_close (Some t) n ts us s = punct_at-type 41 refl refl t ts (local n ∷ us) s.0

pub operand_parts-sound : (k : ℕ) (ts : List Lexeme) (r : List Operand × List Lexeme) → parts_at free_at k ts ≡ Some r → SpellsParts SpellsOperand (operands_of r.0) ts r.1
operand_parts-sound k ts r p = parts_mapped operand_of SpellsOperand r.0 ts r.1 (parts_at-sound free_at SpellsFree free_at-sound k ts r p)

pub operand_list-sound : (ts : List Lexeme) (r : List Operand × List Lexeme) → list_at free_at 41 ts ≡ Some r → SpellsList SpellsOperand (operands_of r.0) ts r.1
operand_list-sound ts r p = list_mapped operand_of SpellsOperand r.0 ts r.1 (list_at-sound free_at SpellsFree free_at-sound 41 ts r p)

pub operand_parts-again : (os : List OperandText) (ts us : List Lexeme) → SpellsParts SpellsOperand os ts us → punct_at 44 us ≡ None → parts_at free_at (length ts) ts ≡ Some (operands_as os, us)
operand_parts-again os ts us s c =
    let e = subst (λ l. SpellsParts SpellsOperand l ts us) (sym (operands_as-of os)) s in
    parts_at-again free_at SpellsFree again shorter (length ts) (operands_as os) ts us (parts_unmapped operand_of SpellsOperand (operands_as os) ts us e) (omega arith) c

pub operand_list-again : (os : List OperandText) (ts us more : List Lexeme) → SpellsList SpellsOperand os ts us → us ≡ punct 41 ∷ more → list_at free_at 41 ts ≡ Some (operands_as os, us)
operand_list-again os ts us more s c =
    let e = subst (λ l. SpellsList SpellsOperand l ts us) (sym (operands_as-of os)) s in
    list_at-again free_at SpellsFree again shorter 41 refl refl (λ a vs ws w. no_close a.ty a.value vs ws w) (operands_as os) ts us more
    (list_unmapped operand_of SpellsOperand (operands_as os) ts us e) c
