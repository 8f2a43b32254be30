-- Names and operands, spelled again.
use Rattle.std.proofs.Common.{◌≡◌, ℕ, inl, inr, true, false, List, [], ◌∷◌, ◌++◌, Option, Some, None, if◌then◌else◌, nat_eq, refl, sym, ◌∙◌, subst, append_assoc}
use Rattle.std.specs.Prelude.{codes}
use Rattle.std.proofs.lemmas.List.{append-nil}
use Rattle.lh_types.specs.Types.{TypeTree}
use Rattle.lh_unit_names.specs.Names.{IsName}
use Rattle.lh_unit.specs.Contents.{OperandText, TriggerText, EdgeText}
use Rattle.lh_unit.specs.Lexemes.{Lexeme, word, global, local}
use Rattle.lh_unit.specs.Marks.{open_bracket, close_bracket, comma}
use Rattle.lh_unit.specs.Pieces.{Piece, token, space, IsLexeme, begins_with_word, lexemes_in, percent, mark, ◌⸴◌}
use Rattle.lh_unit.specs.CanonTypes.{type_pieces}
use Rattle.lh_unit.specs.CanonWords.{mode_word}
use Rattle.lh_unit.specs.Canon.{typed_pieces, operand, operands, maybe, trigger, edge}
use Rattle.lh_unit.specs.Within.{Each}
use Rattle.lh_unit.specs.SpellsTypes.{SpellsType}
use Rattle.lh_unit.specs.SpellsParts.{SpellsUnitName, SpellsLocal, SpellsTyped, SpellsOperand, SpellsBare, SpellsWithType, SpellsMaybe, SpellsTrigger, SpellsEdge}
use Rattle.lh_unit.specs.SpellsInst.{Column, typed, bare, free, SpellsColumn, SpellsColumns}
use Rattle.lh_unit_names.specs.declared.name.UnitName.{UnitName}
use Rattle.lh_text_laws.proofs.SpacedLines.{spaced-append, spaced-space, spaced-comma, spaced-enclosed, word-lexeme}
use Rattle.lh_text_laws.proofs.Again.{PiecesSpell, Again, joined, again-map, again-nothing}
use Rattle.lh_text_laws.proofs.Types.{type-again}

-- the name of a unit, as it is written
abbrev pub unit_lexeme : UnitName → Lexeme
unit_lexeme n = if nat_eq n.sigil 64 then global n.name else local n.name

named : (n : UnitName) (t : Lexeme) → SpellsUnitName n t → t ≡ unit_lexeme n
named n t (inl h) = let e : nat_eq n.sigil 64 ≡ true = rw h.0 refl in rw e h.1
named n t (inr h) = let e : nat_eq n.sigil 64 ≡ false = rw h.0 refl in rw e h.1

-- the name of a unit stands
pub record UnitStands (n : UnitName) : Type 0 where
  pub spelled : SpellsUnitName n (unit_lexeme n)
  pub written : IsLexeme (unit_lexeme n)

pub unit-again : (n : UnitName) (t : Lexeme) → IsLexeme t → SpellsUnitName n t → UnitStands n
unit-again n t w h = record { spelled = subst (SpellsUnitName n) (named n t h) h; written = subst IsLexeme (named n t h) w }

-- a local name
pub local-again : (n : List ℕ) (ts more : List Lexeme) → Each IsLexeme ts → SpellsLocal n ts more → Again (SpellsLocal n) (percent n) more
local-again n ts more l h = let k : Each IsLexeme (local n ∷ more) = subst (Each IsLexeme) h l in record { left = k.1; stands = record { spaced = (k.0, refl, tt); spelled = λ rest. refl } }

-- a value with its type, or without
pub typed-again : (o : Option TypeTree) (n : List ℕ) (ts more : List Lexeme) → Each IsLexeme ts → SpellsTyped o n ts more → Again (SpellsTyped o n) (typed_pieces o n) more
typed-again None n ts more l h = let k : Each IsLexeme (local n ∷ more) = subst (Each IsLexeme) h l in record { left = k.1; stands = record { spaced = (k.0, refl, tt); spelled = λ rest. refl } }
typed-again (Some t) n ts more l h =
    let r = type-again t ts (local n ∷ more) l h in
    record {
      left = r.left.1;
      stands = record {
        spaced = spaced-space (type_pieces t) (percent n) r.stands.spaced (r.left.0, refl, tt);
        spelled = λ rest. joined (SpellsTyped (Some t) n) (type_pieces t) (space ∷ percent n) rest (r.stands.spelled (space ∷ token (local n) ∷ rest));
      };
    }

-- an operand
pub operand-again : (o : OperandText) (ts more : List Lexeme) → Each IsLexeme ts → SpellsOperand o ts more → Again (SpellsOperand o) (operand o) more
operand-again o ts more l h = typed-again o.ty o.value ts more l h

bare_operand : (o : OperandText) (ts more : List Lexeme) → SpellsBare o ts more → SpellsOperand o ts more
bare_operand o ts more h = subst (λ ty. SpellsTyped ty o.value ts more) (sym h.0) h.1

operand_bare : (o : OperandText) (ts more : List Lexeme) → o.ty ≡ None → SpellsOperand o ts more → SpellsBare o ts more
operand_bare o ts more e h = (e, subst (λ ty. SpellsTyped ty o.value ts more) e h)

-- an operand without its type
pub bare-again : (o : OperandText) (ts more : List Lexeme) → Each IsLexeme ts → SpellsBare o ts more → Again (SpellsBare o) (operand o) more
bare-again o ts more l h = again-map (SpellsOperand o) (SpellsBare o) (operand o) more (λ us vs g. operand_bare o us vs h.0 g) (operand-again o ts more l (bare_operand o ts more h))

pub typed_operand : (o : OperandText) (t : TypeTree) (ts more : List Lexeme) → o.ty ≡ Some t → SpellsType t ts (local o.value ∷ more) → SpellsOperand o ts more
typed_operand o t ts more e h = subst (λ ty. SpellsTyped ty o.value ts more) (sym e) h

pub operand_typed : (o : OperandText) (t : TypeTree) (ts more : List Lexeme) → o.ty ≡ Some t → SpellsOperand o ts more → SpellsType t ts (local o.value ∷ more)
operand_typed o t ts more e h = subst (λ ty. SpellsTyped ty o.value ts more) e h

-- an operand with its type
pub with_type-again : (o : OperandText) (ts more : List Lexeme) → Each IsLexeme ts → SpellsWithType o ts more → Again (SpellsWithType o) (operand o) more
with_type-again o ts more l h = again-map (SpellsOperand o) (SpellsWithType o) (operand o) more (λ us vs g. (h.0, h.1, operand_typed o h.0 us vs h.1 g))
    (operand-again o ts more l (typed_operand o h.0 ts more h.1 h.2))

column-again : (c : Column) (o : OperandText) (ts more : List Lexeme) → Each IsLexeme ts → SpellsColumn c o ts more → Again (SpellsColumn c o) (operand o) more
column-again typed o ts more l h = with_type-again o ts more l h
column-again bare o ts more l h = bare-again o ts more l h
column-again free o ts more l h = operand-again o ts more l h

two_columns : (c d : Column) (cs : List Column) (o p : OperandText) (os : List OperandText) → PiecesSpell (SpellsColumn c o) (operand o)
    → PiecesSpell (SpellsColumns (d ∷ cs) (p ∷ os)) (operands (p ∷ os)) → PiecesSpell (SpellsColumns (c ∷ d ∷ cs) (o ∷ p ∷ os)) (operands (o ∷ p ∷ os))
two_columns c d cs o p os r s =
    record {
      spaced = spaced-comma (operand o) (operands (p ∷ os)) r.spaced s.spaced;
      spelled = λ rest. joined (SpellsColumns (c ∷ d ∷ cs) (o ∷ p ∷ os)) (operand o) (token comma ∷ space ∷ operands (p ∷ os)) rest
          (lexemes_in (operands (p ∷ os) ++ rest), r.spelled (token comma ∷ space ∷ (operands (p ∷ os) ++ rest)), s.spelled rest);
    }

-- operands by their columns
pub columns-again : (cs : List Column) (os : List OperandText) (ts more : List Lexeme) → Each IsLexeme ts → SpellsColumns cs os ts more → Again (SpellsColumns cs os) (operands os) more
columns-again (c ∷ []) (o ∷ []) ts more l h = subst (λ q. Again (SpellsColumn c o) q more) (sym (append-nil (operand o))) (column-again c o ts more l h)
columns-again (c ∷ d ∷ cs) (o ∷ p ∷ os) ts more l h =
    let r = column-again c o ts (comma ∷ h.0) l h.1 in
    let s = columns-again (d ∷ cs) (p ∷ os) h.0 more r.left.1 h.2 in
    record { left = s.left; stands = two_columns c d cs o p os r.stands s.stands }
columns-again _ _ ts more l h = absurd h

-- a word and a value stand
pub some-stands : (w n : List ℕ) → IsLexeme (word w) → IsName n → PiecesSpell (SpellsMaybe w (Some n)) (maybe w (Some n))
some-stands w n i k = record { spaced = (i, refl, (k, refl, tt)); spelled = λ rest. refl }

-- a word and a value, or nothing
pub maybe-again : (w : List ℕ) (o : Option (List ℕ)) (ts more : List Lexeme) → IsLexeme (word w) → Each IsLexeme ts → SpellsMaybe w o ts more → Again (SpellsMaybe w o) (maybe w o) more
maybe-again w None ts more i l h = again-nothing ts more l h
maybe-again w (Some n) ts more i l h = let k : Each IsLexeme (word w ∷ local n ∷ more) = subst (Each IsLexeme) h l in record { left = k.1.1; stands = some-stands w n i k.1.0 }

pub maybe-begins : (w : List ℕ) (o : Option (List ℕ)) (more : List Piece) → begins_with_word more ≡ false → begins_with_word (maybe w o ++ more) ≡ false
maybe-begins w None more h = h
maybe-begins w (Some n) more h = refl

pub maybe-alone : (w : List ℕ) (o : Option (List ℕ)) → begins_with_word (maybe w o) ≡ false
maybe-alone w None = refl
maybe-alone w (Some n) = refl

trigger-stands : (g : TriggerText) → IsName g.value → IsLexeme (word (mode_word g.mode)) → IsName g.trigger → PiecesSpell (SpellsMaybe (codes "if") g.gate) (maybe (codes "if") g.gate)
    → PiecesSpell (SpellsMaybe (codes "after") g.after) (maybe (codes "after") g.after) → PiecesSpell (SpellsTrigger g) (trigger g)
trigger-stands g v m t a b =
    let gate = maybe (codes "if") g.gate in
    let after = maybe (codes "after") g.after in
    let first = maybe-begins (codes "if") g.gate after (maybe-alone (codes "after") g.after) in
    record {
      spaced = spaced-enclosed 91 93 (percent g.value ⸴ (token (word (mode_word g.mode)) ∷ space ∷ token (local g.trigger) ∷ (gate ++ after))) refl refl
          (v, refl, (refl, refl, (m, refl, (t, first, spaced-append gate after a.spaced b.spaced (maybe-alone (codes "after") g.after)))));
      spelled = λ rest. (
        lexemes_in (((gate ++ after) ++ mark close_bracket) ++ rest),
        lexemes_in (after ++ token close_bracket ∷ rest),
        refl,
        subst (λ q. SpellsMaybe (codes "if") g.gate (lexemes_in q) (lexemes_in (after ++ token close_bracket ∷ rest)))
            (sym (append_assoc (gate ++ after) (mark close_bracket) rest ∙ append_assoc gate after (token close_bracket ∷ rest))) (a.spelled (after ++ token close_bracket ∷ rest)),
        b.spelled (token close_bracket ∷ rest),
      );
    }

-- a trigger of a register
pub trigger-again : (g : TriggerText) (ts more : List Lexeme) → Each IsLexeme ts → SpellsTrigger g ts more → Again (SpellsTrigger g) (trigger g) more
trigger-again g ts more l h =
    let k : Each IsLexeme (open_bracket ∷ local g.value ∷ comma ∷ word (mode_word g.mode) ∷ local g.trigger ∷ h.0) = subst (Each IsLexeme) h.2 l in
    let a = maybe-again (codes "if") g.gate h.0 h.1 (word-lexeme (codes "if") refl) k.1.1.1.1.1 h.3 in
    let b = maybe-again (codes "after") g.after h.1 (close_bracket ∷ more) (word-lexeme (codes "after") refl) a.left h.4 in
    record { left = b.left.1; stands = trigger-stands g k.1.0 k.1.1.1.0 k.1.1.1.1.0 a.stands b.stands }

-- an edge of a phi
pub edge-again : (e : EdgeText) (ts more : List Lexeme) → Each IsLexeme ts → SpellsEdge e ts more → Again (SpellsEdge e) (edge e) more
edge-again e ts more l h =
    let k : Each IsLexeme (open_bracket ∷ local e.value ∷ comma ∷ local e.block ∷ close_bracket ∷ more) = subst (Each IsLexeme) h l in
    record { left = k.1.1.1.1.1; stands = record { spaced = (refl, refl, (k.1.0, refl, (refl, refl, (k.1.1.1.0, refl, (refl, refl, tt))))); spelled = λ rest. refl } }
