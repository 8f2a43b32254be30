-- Instructions, spelled again.
use Rattle.std.proofs.Common.{ℕ, ◌≤◌, inl, inr, List, [], ◌∷◌, ◌++◌, map, Option, Some, None, refl, sym, subst}
use Rattle.std.specs.Prelude.{codes}
use Rattle.std.proofs.Math.Bool.{and-false}
use Rattle.lh_types.specs.Types.{TypeTree, int_type}
use Rattle.lh_types.specs.Values.{Datum, int_value, time_value, array_value, tuple_value}
use Rattle.lh_unit_names.specs.Names.{IsName}
use Rattle.lh_unit.specs.Contents.{OperandText, TriggerText, EdgeText, InstText, const_text, pure_text, var_text, ld_text, st_text, sig_text, prb_text, drv_text, reg_text, child_text, call_text, phi_text, br_text, branch_text, wait_text, halt_text, ret_text}
use Rattle.lh_unit.specs.Lexemes.{Lexeme, word, local, arrow}
use Rattle.lh_unit.specs.Marks.{open_paren, close_paren, comma, equals}
use Rattle.lh_unit.specs.Pieces.{Piece, token, space, IsLexeme, takes_more, lexemes_in, mark, number, keyword, percent, commas, behind_commas, in_parens, ◌␣◌}
use Rattle.lh_unit.specs.CanonTypes.{type_pieces, time_pieces}
use Rattle.lh_unit.specs.Canon.{operand, operands, maybe, trigger, edge, inst_pieces, line_pieces}
use Rattle.lh_unit.specs.Within.{Each}
use Rattle.lh_unit.specs.SpellsParts.{SpellsParts, SpellsList, SpellsBehind, SpellsLocal, SpellsOperand, SpellsMaybe, SpellsTrigger, SpellsEdge}
use Rattle.lh_unit.specs.SpellsInst.{SpellsDelay, SpellsWordTyped, SpellsInst, SpellsLine}
use Rattle.lh_unit_names.specs.declared.name.UnitName.{UnitName}
use Rattle.lh_text_laws.specs.Printable.{HasInstLine}
use Rattle.lh_text_laws.proofs.SpacedLines.{spaced-append, spaced-space, spaced-comma, spaced-enclosed, word-lexeme}
use Rattle.lh_text_laws.proofs.Again.{Whole, PiecesSpell, Again, at_end, joined, parts-again, list-again, behind-again}
use Rattle.lh_text_laws.proofs.Types.{type-again}
use Rattle.lh_text_laws.proofs.Numbers.{integer-again, time-again}
use Rattle.lh_text_laws.proofs.Operands.{unit_lexeme, unit-again, local-again, operand-again, with_type-again, some-stands, maybe-again, maybe-begins, maybe-alone, trigger-again, edge-again}
use Rattle.lh_text_laws.proofs.Operations.{behind-begins, pure-again}

-- a list in parentheses, and what follows
pub parens : (S : List Lexeme → List Lexeme → Type 0) (ps rest : List Piece) → PiecesSpell S ps → S (lexemes_in ((ps ++ mark close_paren) ++ rest)) (close_paren ∷ lexemes_in rest)
parens S ps rest s = joined (λ ts more. S ts (close_paren ∷ more)) ps (mark close_paren) rest (s.spelled (token close_paren ∷ rest))

-- a word, and behind it an operand with its type
abbrev worded : List ℕ → OperandText → List Piece
worded w o = token (word w) ∷ space ∷ operand o

worded-again : (w : List ℕ) (o : OperandText) (ts more : List Lexeme) → Each IsLexeme ts → SpellsWordTyped w o ts more → Again (SpellsWordTyped w o) (worded w o) more
worded-again w o ts more l h =
    let k : Each IsLexeme (word w ∷ h.0) = subst (Each IsLexeme) h.1 l in
    let a = with_type-again o h.0 more k.1 h.2 in
    record { left = a.left; stands = record { spaced = (k.0, refl, a.stands.spaced); spelled = λ rest. (lexemes_in (operand o ++ rest), refl, a.stands.spelled rest) } }

worded-whole : (w : List ℕ) (o : OperandText) (ts : List Lexeme) → Each IsLexeme ts → SpellsWordTyped w o ts [] → Whole (λ us. SpellsWordTyped w o us []) (worded w o)
worded-whole w o ts l h = let a = worded-again w o ts [] l h in record { spaced = a.stands.spaced; spelled = at_end (SpellsWordTyped w o) (worded w o) a.stands }

const-again : (d : Datum) (ts : List Lexeme) → Each IsLexeme ts → SpellsInst (const_text d) ts → Whole (SpellsInst (const_text d)) (inst_pieces (const_text d))
const-again (int_value n bits) ts l h =
    let k : Each IsLexeme (word (codes "const") ∷ h.0) = subst (Each IsLexeme) h.2 l in
    let a = type-again (int_type n) h.0 h.1 k.1 h.3 in
    let b = integer-again n bits h.1 (let w : n ≤ 128 = h.3.1.1 in w) h.4 in
    record {
      spaced = (k.0, refl, spaced-space (type_pieces (int_type n)) (number bits) a.stands.spaced b.1);
      spelled = (lexemes_in (type_pieces (int_type n) ␣ number bits), lexemes_in (number bits), refl, a.stands.spelled (space ∷ number bits), b.0);
    }
const-again (time_value d) ts l h =
    let b = time-again d h.0 h.2 in
    record {
      spaced = (word-lexeme (codes "const") refl, refl, (word-lexeme (codes "time") refl, refl, b.1));
      spelled = (lexemes_in (time_pieces d.fs d.delta d.eps), refl, b.0);
    }
const-again (array_value r) ts l h = absurd h
const-again (tuple_value r) ts l h = absurd h

st-again : (p : OperandText) (v : List ℕ) (ts : List Lexeme) → Each IsLexeme ts → SpellsInst (st_text p v) ts → Whole (SpellsInst (st_text p v)) (inst_pieces (st_text p v))
st-again p v ts l h =
    let a = worded-again (codes "st") p ts (comma ∷ local v ∷ []) l h in
    record { spaced = spaced-comma (worded (codes "st") p) (percent v) a.stands.spaced (a.left.1.0, refl, tt); spelled = a.stands.spelled (token comma ∷ space ∷ percent v) }

-- the delay and the condition of a drive
record Delayed (d : List ℕ) (c : Option (List ℕ)) : Type 0 where
  named : IsName d
  cond : PiecesSpell (SpellsMaybe (codes "if") c) (maybe (codes "if") c)

delay-again : (d : List ℕ) (c : Option (List ℕ)) (ts : List Lexeme) → Each IsLexeme ts → SpellsDelay d c ts → Delayed d c
delay-again d c ts l (inl h) =
    let k : Each IsLexeme (word (codes "after") ∷ local d ∷ h.0) = subst (Each IsLexeme) h.1 l in
    record { named = k.1.0; cond = (maybe-again (codes "if") c h.0 [] (word-lexeme (codes "if") refl) k.1.1 h.2).stands }
delay-again d c ts l (inr (inl h)) =
    let k : Each IsLexeme (comma ∷ local d ∷ h.0) = subst (Each IsLexeme) h.1 l in
    record { named = k.1.0; cond = (maybe-again (codes "if") c h.0 [] (word-lexeme (codes "if") refl) k.1.1 h.2).stands }
delay-again d c ts l (inr (inr h)) =
    let k : Each IsLexeme (word (codes "if") ∷ local h.0 ∷ word (codes "after") ∷ local d ∷ []) = subst (Each IsLexeme) h.2 l in
    record { named = k.1.1.1.0; cond = subst (λ o. PiecesSpell (SpellsMaybe (codes "if") o) (maybe (codes "if") o)) (sym h.1) (some-stands (codes "if") h.0 (word-lexeme (codes "if") refl) k.1.0) }

drv-again : (s : OperandText) (v d : List ℕ) (c : Option (List ℕ)) (ts : List Lexeme) → Each IsLexeme ts → SpellsInst (drv_text s v d c) ts
    → Whole (SpellsInst (drv_text s v d c)) (inst_pieces (drv_text s v d c))
drv-again s v d c ts l h =
    let a = worded-again (codes "drv") s ts (comma ∷ local v ∷ h.0) l h.1 in
    let b = delay-again d c h.0 a.left.1.1 h.2 in
    let end = percent v ␣ keyword "after" ␣ percent d ++ maybe (codes "if") c in
    let cond = lexemes_in (maybe (codes "if") c) in
    record {
      spaced = spaced-comma (worded (codes "drv") s) end a.stands.spaced (a.left.1.0, refl, (word-lexeme (codes "after") refl, refl, (b.named, maybe-alone (codes "if") c, b.cond.spaced)));
      spelled = (word (codes "after") ∷ local d ∷ cond, a.stands.spelled (token comma ∷ space ∷ end), inl (cond, refl, at_end (SpellsMaybe (codes "if") c) (maybe (codes "if") c) b.cond));
    }

reg-again : (q : OperandText) (gs : List TriggerText) (ts : List Lexeme) → Each IsLexeme ts → SpellsInst (reg_text q gs) ts → Whole (SpellsInst (reg_text q gs)) (inst_pieces (reg_text q gs))
reg-again q [] ts l h = absurd h.2
reg-again q (g ∷ gs) ts l h =
    let a = worded-again (codes "reg") q ts (comma ∷ h.0) l h.1 in
    let b = parts-again SpellsTrigger trigger trigger-again (g ∷ gs) h.0 [] a.left.1 h.2 in
    let end = commas (map trigger (g ∷ gs)) in
    record {
      spaced = spaced-comma (worded (codes "reg") q) end a.stands.spaced b.stands.spaced;
      spelled = (lexemes_in end, a.stands.spelled (token comma ∷ space ∷ end), at_end (SpellsParts SpellsTrigger (g ∷ gs)) end b.stands);
    }

child-again : (u : UnitName) (xs ys : List OperandText) (ts : List Lexeme) → Each IsLexeme ts → SpellsInst (child_text u xs ys) ts
    → Whole (SpellsInst (child_text u xs ys)) (inst_pieces (child_text u xs ys))
child-again u xs ys ts l h =
    let k : Each IsLexeme (word (codes "inst") ∷ h.0 ∷ open_paren ∷ h.1) = subst (Each IsLexeme) h.3 l in
    let n = unit-again u h.0 k.1.0 h.4 in
    let a = list-again SpellsOperand operand operand-again xs h.1 (close_paren ∷ arrow ∷ open_paren ∷ h.2) k.1.1.1 h.5 in
    let b = list-again SpellsOperand operand operand-again ys h.2 (close_paren ∷ []) a.left.1.1.1 h.6 in
    let end = space ∷ token arrow ∷ space ∷ in_parens (operands ys) in
    record {
      spaced = (
        k.0,
        refl,
        (
          n.written,
          and-false (takes_more (unit_lexeme u)),
          spaced-append (in_parens (operands xs)) end (spaced-enclosed 40 41 (operands xs) refl refl a.stands.spaced) (tt, refl, spaced-enclosed 40 41 (operands ys) refl refl b.stands.spaced) refl,
        ),
      );
      spelled = (
        unit_lexeme u,
        lexemes_in ((operands xs ++ mark close_paren) ++ end),
        lexemes_in (operands ys ++ mark close_paren),
        refl,
        n.spelled,
        parens (SpellsList SpellsOperand xs) (operands xs)
            end a.stands,
        b.stands.spelled (mark close_paren),
      );
    }

call-again : (f : UnitName) (r : TypeTree) (xs : List OperandText) (ts : List Lexeme) → Each IsLexeme ts → SpellsInst (call_text f r xs) ts
    → Whole (SpellsInst (call_text f r xs)) (inst_pieces (call_text f r xs))
call-again f r xs ts l h =
    let k : Each IsLexeme (word (codes "call") ∷ h.1) = subst (Each IsLexeme) h.3 l in
    let a = type-again r h.1 (h.0 ∷ open_paren ∷ h.2) k.1 h.4 in
    let n = unit-again f h.0 a.left.0 h.5 in
    let b = list-again SpellsOperand operand operand-again xs h.2 (close_paren ∷ []) a.left.1.1 h.6 in
    let end = token (unit_lexeme f) ∷ space ∷ in_parens (operands xs) in
    record {
      spaced = (k.0, refl, spaced-space (type_pieces r) end a.stands.spaced (n.written, and-false (takes_more (unit_lexeme f)), spaced-enclosed 40 41 (operands xs) refl refl b.stands.spaced));
      spelled = (unit_lexeme f, lexemes_in (type_pieces r ␣ end), lexemes_in (operands xs ++ mark close_paren), refl, a.stands.spelled (space ∷ end), n.spelled, b.stands.spelled (mark close_paren));
    }

phi-again : (t : TypeTree) (es : List EdgeText) (ts : List Lexeme) → Each IsLexeme ts → SpellsInst (phi_text t es) ts → Whole (SpellsInst (phi_text t es)) (inst_pieces (phi_text t es))
phi-again t es ts l h =
    let k : Each IsLexeme (word (codes "phi") ∷ h.0) = subst (Each IsLexeme) h.2 l in
    let a = type-again t h.0 h.1 k.1 h.3 in
    let b = parts-again SpellsEdge edge edge-again es h.1 [] a.left h.4 in
    let end = commas (map edge es) in
    record {
      spaced = (k.0, refl, spaced-space (type_pieces t) end a.stands.spaced b.stands.spaced);
      spelled = (lexemes_in (type_pieces t ␣ end), lexemes_in end, refl, a.stands.spelled (space ∷ end), at_end (SpellsParts SpellsEdge es) end b.stands);
    }

wait-again : (b : List ℕ) (d : Option (List ℕ)) (ss : List (List ℕ)) (ts : List Lexeme) → Each IsLexeme ts → SpellsInst (wait_text b d ss) ts
    → Whole (SpellsInst (wait_text b d ss)) (inst_pieces (wait_text b d ss))
wait-again b d ss ts l h =
    let k : Each IsLexeme (word (codes "wait") ∷ local b ∷ h.0) = subst (Each IsLexeme) h.2 l in
    let a = maybe-again (codes "for") d h.0 h.1 (word-lexeme (codes "for") refl) k.1.1 h.3 in
    let s = behind-again SpellsLocal percent local-again ss h.1 [] a.left h.4 in
    let delay = maybe (codes "for") d in
    let end = behind_commas (map percent ss) in
    record {
      spaced = (k.0, refl, (k.1.0, maybe-begins (codes "for") d end (behind-begins (map percent ss)), spaced-append delay end a.stands.spaced s.stands.spaced (behind-begins (map percent ss))));
      spelled = (lexemes_in (delay ++ end), lexemes_in end, refl, a.stands.spelled end, at_end (SpellsBehind SpellsLocal ss) end s.stands);
    }

-- an instruction
pub inst-again : (i : InstText) (ts : List Lexeme) → Each IsLexeme ts → SpellsInst i ts → Whole (SpellsInst i) (inst_pieces i)
inst-again (const_text d) ts l h = const-again d ts l h
inst-again (pure_text o args) ts l h = let a = pure-again o args ts l h in record { spaced = a.spaced; spelled = a.spelled }
inst-again (var_text a) ts l h = worded-whole (codes "var") a ts l h
inst-again (ld_text a) ts l h = worded-whole (codes "ld") a ts l h
inst-again (st_text p v) ts l h = st-again p v ts l h
inst-again (sig_text a) ts l h = worded-whole (codes "sig") a ts l h
inst-again (prb_text a) ts l h = worded-whole (codes "prb") a ts l h
inst-again (drv_text s v d c) ts l h = drv-again s v d c ts l h
inst-again (reg_text q gs) ts l h = reg-again q gs ts l h
inst-again (child_text u xs ys) ts l h = child-again u xs ys ts l h
inst-again (call_text f r xs) ts l h = call-again f r xs ts l h
inst-again (phi_text t es) ts l h = phi-again t es ts l h
inst-again (br_text b) ts l h =
    let k : Each IsLexeme (word (codes "br") ∷ local b ∷ []) = subst (Each IsLexeme) h l in
    record { spaced = (k.0, refl, (k.1.0, refl, tt)); spelled = refl }
inst-again (branch_text c zero one) ts l h =
    let k : Each IsLexeme (word (codes "br") ∷ local c ∷ comma ∷ local zero ∷ comma ∷ local one ∷ []) = subst (Each IsLexeme) h l in
    record { spaced = (k.0, refl, (k.1.0, refl, (refl, refl, (k.1.1.1.0, refl, (refl, refl, (k.1.1.1.1.1.0, refl, tt)))))); spelled = refl }
inst-again (wait_text b d ss) ts l h = wait-again b d ss ts l h
inst-again halt_text ts l h = record { spaced = (word-lexeme (codes "halt") refl, refl, tt); spelled = refl }
inst-again (ret_text None) ts l h = record { spaced = (word-lexeme (codes "ret") refl, refl, tt); spelled = refl }
inst-again (ret_text (Some v)) ts l h = worded-whole (codes "ret") v ts l h

-- an instruction line
pub line-again : (r : Option (List ℕ)) (i : InstText) (ts : List Lexeme) → Each IsLexeme ts → SpellsLine r i ts → Whole (SpellsLine r i) (line_pieces r i)
line-again None i ts l h = let a = inst-again i ts l h.1 in record { spaced = a.spaced; spelled = (h.0, a.spelled) }
line-again (Some r) i ts l h =
    let k : Each IsLexeme (local r ∷ equals ∷ h.0) = subst (Each IsLexeme) h.1 l in
    let a = inst-again i h.0 k.1.1 h.3 in
    record { spaced = (k.0, refl, (refl, refl, a.spaced)); spelled = (lexemes_in (inst_pieces i), refl, h.2, a.spelled) }

pub line-has : (r : Option (List ℕ)) (i : InstText) (ts : List Lexeme) → Each IsLexeme ts → SpellsLine r i ts → HasInstLine (record { result = r; inst = i })
line-has r i ts w h = let a = line-again r i ts w h in (a.spaced, a.spelled)
