-- Headers and declarations, spelled again.
use Rattle.std.proofs.Common.{◌≡◌, true, false, List, [], ◌∷◌, ◌++◌, map, Option, Some, None, refl, ap, sym, ◌∙◌, subst}
use Rattle.std.specs.Prelude.{codes}
use Rattle.std.proofs.Math.Bool.{and-false}
use Rattle.lh_types.specs.Types.{TypeTree}
use Rattle.lh_unit.specs.Contents.{ArgText}
use Rattle.lh_unit.specs.Lexemes.{Lexeme, word, arrow}
use Rattle.lh_unit.specs.Marks.{open_paren, close_paren, open_brace}
use Rattle.lh_unit.specs.Pieces.{Piece, token, space, IsLexeme, takes_more, lexemes_in, mark, commas, in_parens, ◌␣◌}
use Rattle.lh_unit.specs.CanonTypes.{type_pieces}
use Rattle.lh_unit.specs.Canon.{typed_pieces, argument, arguments, side_of, ports, result_pieces, header, types, declaration}
use Rattle.lh_unit.specs.Within.{Each}
use Rattle.lh_unit.specs.SpellsTypes.{SpellsType, SpellsValueType, SpellsSignalType}
use Rattle.lh_unit.specs.SpellsParts.{SpellsList, SpellsTyped}
use Rattle.lh_unit.specs.Spells.{TypedName, SpellsParam, SpellsPort, input_of, output_of, SpellsParams, SpellsPorts, SpellsHeader, SpellsDeclare}
use Rattle.lh_unit_names.specs.declared.name.UnitName.{UnitName}
use Rattle.lh_unit.specs.declared.inst.UnitKind.{UnitKind}
use Rattle.lh_unit.specs.declared.inst.UnitKind.TheVariants as kind
use Rattle.lh_unit.specs.declared.inst.Declare.{Declare}
use Rattle.lh_unit.specs.declared.inst.Declare.TheVariants as declare
use Rattle.lh_text_laws.proofs.SpacedLines.{spaced-append, spaced-space, spaced-enclosed}
use Rattle.lh_text_laws.proofs.Again.{Whole, PiecesSpell, Again, at_end, again-map, list-again}
use Rattle.lh_text_laws.proofs.Types.{type-again, row_pieces-list}
use Rattle.lh_text_laws.proofs.Operands.{unit_lexeme, unit-again, typed-again}
use Rattle.lh_text_laws.proofs.Insts.{parens}

abbrev typed_name : TypedName → List Piece
typed_name a = typed_pieces (Some a.ty) a.name

param-again : (a : TypedName) (ts more : List Lexeme) → Each IsLexeme ts → SpellsParam a ts more → Again (SpellsParam a) (typed_name a) more
param-again a ts more l h = again-map (SpellsTyped (Some a.ty) a.name) (SpellsParam a) (typed_name a) more (λ us vs g. (h.0, g)) (typed-again (Some a.ty) a.name ts more l h.1)

port-again : (a : TypedName) (ts more : List Lexeme) → Each IsLexeme ts → SpellsPort a ts more → Again (SpellsPort a) (typed_name a) more
port-again a ts more l h = again-map (SpellsTyped (Some a.ty) a.name) (SpellsPort a) (typed_name a) more (λ us vs g. (h.0, g)) (typed-again (Some a.ty) a.name ts more l h.1)

value_type-again : (t : TypeTree) (ts more : List Lexeme) → Each IsLexeme ts → SpellsValueType t ts more → Again (SpellsValueType t) (type_pieces t) more
value_type-again t ts more l h = again-map (SpellsType t) (SpellsValueType t) (type_pieces t) more (λ us vs g. (h.0, g)) (type-again t ts more l h.1)

signal_type-again : (t : TypeTree) (ts more : List Lexeme) → Each IsLexeme ts → SpellsSignalType t ts more → Again (SpellsSignalType t) (type_pieces t) more
signal_type-again t ts more l h = again-map (SpellsType t) (SpellsSignalType t) (type_pieces t) more (λ us vs g. (h.0, g)) (type-again t ts more l h.1)

map-inputs : (xs : List TypedName) → map argument (map input_of xs) ≡ map typed_name xs
map-inputs [] = refl
map-inputs (a ∷ xs) = ap (λ q. typed_name a ∷ q) (map-inputs xs)

map-outputs : (xs : List TypedName) → map argument (map output_of xs) ≡ map typed_name xs
map-outputs [] = refl
map-outputs (a ∷ xs) = ap (λ q. typed_name a ∷ q) (map-outputs xs)

no_inputs : (ys : List TypedName) → side_of false (map output_of ys) ≡ []
no_inputs [] = refl
no_inputs (b ∷ ys) = no_inputs ys

all_outputs : (ys : List TypedName) → side_of true (map output_of ys) ≡ map output_of ys
all_outputs [] = refl
all_outputs (b ∷ ys) = ap (λ q. output_of b ∷ q) (all_outputs ys)

side-inputs : (xs ys : List TypedName) → side_of false (map input_of xs ++ map output_of ys) ≡ map input_of xs
side-inputs [] ys = no_inputs ys
side-inputs (a ∷ xs) ys = ap (λ q. input_of a ∷ q) (side-inputs xs ys)

side-outputs : (xs ys : List TypedName) → side_of true (map input_of xs ++ map output_of ys) ≡ map output_of ys
side-outputs [] ys = all_outputs ys
side-outputs (a ∷ xs) ys = side-outputs xs ys

-- the parameters of a function and its result
params-again : (args : List ArgText) (r : TypeTree) (ts : List Lexeme) → Each IsLexeme ts → SpellsParams args r ts → Whole (SpellsParams args r) (in_parens (arguments args) ␣ result_pieces (Some r))
params-again args r ts l h =
    let k : Each IsLexeme (open_paren ∷ h.first) = subst (Each IsLexeme) h.opened l in
    let e : commas (map typed_name h.params) ≡ arguments args = ap commas (sym (map-inputs h.params)) ∙ ap arguments (sym h.together) in
    let a = list-again SpellsParam typed_name param-again h.params h.first (close_paren ∷ h.second) k.1 h.spelled_params in
    let b = type-again r h.second (open_brace ∷ []) a.left.1 h.spelled_result in
    let s : PiecesSpell (SpellsList SpellsParam h.params) (arguments args) = subst (PiecesSpell (SpellsList SpellsParam h.params)) e a.stands in
    let end = space ∷ (type_pieces r ␣ mark open_brace) in
    record {
      spaced = spaced-append (in_parens (arguments args)) end (spaced-enclosed 40 41 (arguments args) refl refl s.spaced)
          (spaced-space (type_pieces r) (mark open_brace) b.stands.spaced (refl, refl, tt)) refl;
      spelled = record {
        params = h.params;
        together = h.together;
        first = lexemes_in ((arguments args ++ mark close_paren) ++ end);
        second = lexemes_in end;
        opened = refl;
        spelled_params = parens (SpellsList SpellsParam h.params) (arguments args) end s;
        spelled_result = b.stands.spelled (space ∷ mark open_brace);
        fits = h.fits;
      };
    }

-- the inputs and outputs of a process or entity
ports-again : (args : List ArgText) (ts : List Lexeme) → Each IsLexeme ts → SpellsPorts args ts → Whole (SpellsPorts args) (ports args)
ports-again args ts l h =
    let k : Each IsLexeme (open_paren ∷ h.first) = subst (Each IsLexeme) h.opened l in
    let xs = arguments (side_of false args) in
    let ys = arguments (side_of true args) in
    let e : commas (map typed_name h.inputs) ≡ xs = ap commas (sym (map-inputs h.inputs)) ∙ ap arguments (sym (side-inputs h.inputs h.outputs))
    ∙ ap (λ q. arguments (side_of false q)) (sym h.together) in
    let f : commas (map typed_name h.outputs) ≡ ys = ap commas (sym (map-outputs h.outputs)) ∙ ap arguments (sym (side-outputs h.inputs h.outputs))
    ∙ ap (λ q. arguments (side_of true q)) (sym h.together) in
    let a = list-again SpellsPort typed_name port-again h.inputs h.first (close_paren ∷ arrow ∷ open_paren ∷ h.second) k.1 h.spelled_inputs in
    let b = list-again SpellsPort typed_name port-again h.outputs h.second (close_paren ∷ open_brace ∷ []) a.left.1.1.1 h.spelled_outputs in
    let s : PiecesSpell (SpellsList SpellsPort h.inputs) xs = subst (PiecesSpell (SpellsList SpellsPort h.inputs)) e a.stands in
    let t : PiecesSpell (SpellsList SpellsPort h.outputs) ys = subst (PiecesSpell (SpellsList SpellsPort h.outputs)) f b.stands in
    let last = space ∷ mark open_brace in
    let end = space ∷ token arrow ∷ space ∷ (in_parens ys ++ last) in
    record {
      spaced = spaced-append (in_parens xs) end (spaced-enclosed 40 41 xs refl refl s.spaced)
          (tt, refl, spaced-append (in_parens ys) last (spaced-enclosed 40 41 ys refl refl t.spaced) (refl, refl, tt) refl) refl;
      spelled = record {
        inputs = h.inputs;
        outputs = h.outputs;
        together = h.together;
        first = lexemes_in ((xs ++ mark close_paren) ++ end);
        second = lexemes_in ((ys ++ mark close_paren) ++ last);
        opened = refl;
        spelled_inputs = parens (SpellsList SpellsPort h.inputs) xs end s;
        spelled_outputs = parens (SpellsList SpellsPort h.outputs) ys last t;
      };
    }

-- the head of a unit
pub header-again : (k : UnitKind) (n : UnitName) (args : List ArgText) (r : Option TypeTree) (ts : List Lexeme) → Each IsLexeme ts → SpellsHeader k n args r ts
    → Whole (SpellsHeader k n args r) (header k n args r)
header-again kind.Func n args (Some r) ts l h =
    let k : Each IsLexeme (word (codes "func") ∷ h.0 ∷ h.1) = subst (Each IsLexeme) h.2 l in
    let u = unit-again n h.0 k.1.0 h.3 in
    let p = params-again args r h.1 k.1.1 h.4 in
    record { spaced = (k.0, refl, (u.written, and-false (takes_more (unit_lexeme n)), p.spaced)); spelled = (unit_lexeme n, _, refl, u.spelled, p.spelled) }
header-again kind.Proc n args None ts l h =
    let k : Each IsLexeme (word (codes "proc") ∷ h.0 ∷ h.1) = subst (Each IsLexeme) h.2 l in
    let u = unit-again n h.0 k.1.0 h.3 in
    let p = ports-again args h.1 k.1.1 h.4 in
    record { spaced = (k.0, refl, (u.written, and-false (takes_more (unit_lexeme n)), p.spaced)); spelled = (unit_lexeme n, lexemes_in (ports args), refl, u.spelled, p.spelled) }
header-again kind.Entity n args None ts l h =
    let k : Each IsLexeme (word (codes "entity") ∷ h.0 ∷ h.1) = subst (Each IsLexeme) h.2 l in
    let u = unit-again n h.0 k.1.0 h.3 in
    let p = ports-again args h.1 k.1.1 h.4 in
    record { spaced = (k.0, refl, (u.written, and-false (takes_more (unit_lexeme n)), p.spaced)); spelled = (unit_lexeme n, lexemes_in (ports args), refl, u.spelled, p.spelled) }
header-again kind.Func n args None ts l h = absurd h
header-again kind.Proc n args (Some r) ts l h = absurd h
header-again kind.Entity n args (Some r) ts l h = absurd h

-- a declaration
pub declare-again : (d : Declare) (ts : List Lexeme) → Each IsLexeme ts → SpellsDeclare d ts → Whole (SpellsDeclare d) (declaration d)
declare-again (declare.Func n ps r) ts l h =
    let k : Each IsLexeme (word (codes "declare") ∷ h.0 ∷ open_paren ∷ h.1) = subst (Each IsLexeme) h.3 l in
    let u = unit-again n h.0 k.1.0 h.4 in
    let a = list-again SpellsValueType type_pieces value_type-again ps h.1 (close_paren ∷ h.2) k.1.1.1 h.5 in
    let b = type-again r h.2 [] a.left.1 h.6 in
    let s : PiecesSpell (SpellsList SpellsValueType ps) (types ps) = subst (PiecesSpell (SpellsList SpellsValueType ps)) (sym (row_pieces-list ps)) a.stands in
    let end = space ∷ type_pieces r in
    record {
      spaced = (k.0, refl, (u.written, and-false (takes_more (unit_lexeme n)), spaced-append (in_parens (types ps)) end (spaced-enclosed 40 41 (types ps) refl refl s.spaced) b.stands.spaced refl));
      spelled = (
        unit_lexeme n,
        lexemes_in ((types ps ++ mark close_paren) ++ end),
        lexemes_in end,
        refl,
        u.spelled,
        parens (SpellsList SpellsValueType ps) (types ps) end s,
        at_end (SpellsType r) (type_pieces r) b.stands,
        h.7,
      );
    }
declare-again (declare.Unit n xs ys) ts l h =
    let k : Each IsLexeme (word (codes "declare") ∷ h.0 ∷ open_paren ∷ h.1) = subst (Each IsLexeme) h.3 l in
    let u = unit-again n h.0 k.1.0 h.4 in
    let a = list-again SpellsSignalType type_pieces signal_type-again xs h.1 (close_paren ∷ arrow ∷ open_paren ∷ h.2) k.1.1.1 h.5 in
    let b = list-again SpellsSignalType type_pieces signal_type-again ys h.2 (close_paren ∷ []) a.left.1.1.1 h.6 in
    let s : PiecesSpell (SpellsList SpellsSignalType xs) (types xs) = subst (PiecesSpell (SpellsList SpellsSignalType xs)) (sym (row_pieces-list xs)) a.stands in
    let t : PiecesSpell (SpellsList SpellsSignalType ys) (types ys) = subst (PiecesSpell (SpellsList SpellsSignalType ys)) (sym (row_pieces-list ys)) b.stands in
    let end = space ∷ token arrow ∷ space ∷ in_parens (types ys) in
    record {
      spaced = (
        k.0,
        refl,
        (
          u.written,
          and-false (takes_more (unit_lexeme n)),
          spaced-append (in_parens (types xs)) end (spaced-enclosed 40 41 (types xs) refl refl s.spaced) (tt, refl, spaced-enclosed 40 41 (types ys) refl refl t.spaced) refl,
        ),
      );
      spelled = (
        unit_lexeme n,
        lexemes_in ((types xs ++ mark close_paren) ++ end),
        lexemes_in (types ys ++ mark close_paren),
        refl,
        u.spelled,
        parens (SpellsList SpellsSignalType xs) (types xs) end
            s,
        t.spelled (mark close_paren),
      );
    }
