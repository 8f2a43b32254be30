-- The instruction that gives a term, by ids.
use Rattle.std.proofs.Common.{◌≡◌, ℕ, ◌+◌, ◌<◌, Bool, true, false, if◌then◌else◌, List, [], ◌∷◌, ◌++◌, length, Option, Some, refl, ap, sym, ◌∙◌, subst, arith, length-append, inl, inr}
use Rattle.std.specs.Prelude.{slice_index_or}
use Rattle.std.specs.Option.{option_map}
use Rattle.std.proofs.Math.ListN.{get_or-append}
use Rattle.lh_types.specs.Types.{TypeTree, signal_type}
use Rattle.lh_types.specs.Values.{Datum}
use Rattle.lh_types.specs.declared.op.Op.{Op}
use Rattle.lh_unit.specs.Contents.{ArgText, InstText, prb_text}
use Rattle.lh_unit.specs.Naming.{value_text, inst_text}
use Rattle.lh_unit.specs.Typing.{or_else}
use Rattle.lh_unit.specs.Within.{Each, InstWithin}
use Rattle.lh_unit.specs.declared.inst.Typed.{Typed}
use Rattle.lh_unit.specs.declared.inst.ValueId.{ValueId}
use Rattle.lh_unit.specs.declared.inst.Inst.{Inst}
use Rattle.lh_unit.specs.declared.inst.Inst.TheVariants as inst
use Rattle.lh_term.specs.Tree.{Tree, constant}
use Rattle.lh_term.specs.Types.{type_of, row_result}
use Rattle.lh_term.specs.SameTree.{same_tree, same_tree-is}
use Rattle.lh_term.specs.Arena.{trees, tree_at, IsIn, OneId, Grows}
use Rattle.lh_term.specs.declared.part.Part.{Part}
use Rattle.lh_term.specs.declared.term.TermId.{TermId}
use Rattle.lh_term.specs.declared.term.TermNode.{TermNode}
use Rattle.lh_term.proofs.Swaps.{tree_grown, in_grown}
use Rattle.lh_emit_def.specs.Emitted.{Source, Emitted, gives_term, with_term, next_name, whole_name, signal, typed, need_part}
use Rattle.lh_emit_def.specs.Entities.{max_lines, choices_fit}
use Rattle.lh_emit_def.specs.Needs.{operation_text, types_of_all}
use Rattle.lh_emit_body.specs.Lines.{naming, most_lines, values_alone, LinesAreEmitted, LinesHaveRoom, NamesGrow, GivesValue}
use Rattle.lh_emit.specs.Emitting.{ArgumentsFirst, IsEmitted}
use Rattle.lh_emit.specs.Making.{AreOperandTerms, HasNoPair, form_of, TermIsProbed}
use Rattle.lh_emit.specs.Operands.{with_type}
use Rattle.lh_emit.specs.Operations.{HaveValues, AreValues, operands_of}
use Rattle.lh_emit.specs.Parts.{part_in, KnowsParts}
use Rattle.lh_emit.specs.Tasks.{made_of, makes, HasName}
use Rattle.lh_emit.specs.Underway.{EmitsPart, IsReady, IsInstOfTerm, TermIsMade, IsTooMuchToMake, CanTakePart, GivesNoPart, TakesPartOr, CanMake, MakesNot, GivesInstOr, MakesOr}
use Rattle.std.specs.Prelude.{Result, Ok, Err}
use Rattle.std.specs.Result.{IsErrAnd}
use Rattle.std.proofs.lemmas.Option.{slice_get_within}
use Rattle.lh_emit_body.specs.declared.lines.EmitFault.{EmitFault}
use Rattle.lh_emit_body.specs.declared.lines.EmitFault.TheVariants as fault
use Rattle.lh_term.proofs.Arenas.{map_length}
use Rattle.lh_emit.specs.Values.{value_in, KeepsOtherValues, ValuesNameTerms}
use Rattle.lh_emit.specs.declared.emitter.Emitter.{Emitter}
use Rattle.lh_emit_body.specs.declared.lines.Lines.{Lines}
use Rattle.lh_emit.specs.declared.making.TermForm.TheVariants.{Scalar, Joined}
use Rattle.lh_emit_source.specs.declared.origin.Origin.{Origin}
use Rattle.lh_emit.specs.declared.parts.Parts.{Parts}
use Rattle.lh_emit.specs.declared.values.Values.{Values}
use Rattle.lh_emit.proofs.TermForms.{scalar-makes, probe-makes, probe-reached, probe-fits, joined-makes, joined-type, made-fit, no-pair-fits}
use Rattle.lh_emit.proofs.KnownValues.{knows-kept, knows-grown, text-more}
use Rattle.lh_emit.proofs.OperationOperands.{have-values, values-named, operation-same, operands-within}
use Rattle.lh_emit.proofs.NeedTasks.{gives-longer}
use Rattle.lh_emit.proofs.StepLaws.{GivesFault, says-length, grows-same, grows-then}

-- ---- entities by larger arenas and with more names

pub emitted-grown : (ns ms : List TermNode) (s : Source) (x : Emitter) (e : Emitted) → Grows ns ms → OneId ms → IsEmitted ns s x e → IsEmitted ms s x e
emitted-grown ns ms s x e g one w = record { room = w.room; says = w.says; arguments = w.arguments; terms = knows-grown ns ms g one x.lines.names x.values e w.terms; parts = w.parts; fit = w.fit }

pub args-more : (args : List ArgText) (names new : List (List ℕ)) → NamesGrow names new → ArgumentsFirst args names → ArgumentsFirst args new
args-more args names new (more, e) w = record {
  long = omega (arith, w.long, ap length e, length-append names more);
  named = λ k a h.
      let l : k < length names = omega (arith, slice_get_within args k a h, w.long) in
      ap (λ ns. slice_index_or ns k []) e ∙ get_or-append names more [] k l ∙ w.named k a h;
}

pub parts-more : (args : List ArgText) (names new : List (List ℕ)) (ps : Parts) (e x : Emitted) → NamesGrow names new → KnowsParts args names ps e → x.parts ≡ e.parts → KnowsParts args new ps x
parts-more args names new ps e x (more, g) k q = record {
  named = λ p.
      ap (λ f. f p) q ∙ k.named p
      ∙ ap (or_else (whole_name args p)) (sym (ap (λ ns. option_map (value_text (naming ns)) (part_in ps p)) g ∙ text-more names more (part_in ps p) (k.within p)));
  within = λ p v h. let l = k.within p v h in omega (arith, l, ap length g, length-append names more);
}

-- ---- the terms that a term is made of

pub made-fits : (ns : List TermNode) (s : Source) (x : Emitter) (e : Emitted) → IsEmitted ns s x e → (ts : List Tree) → Each (HasName e) ts → Each (λ (t : Tree). choices_fit t ≡ true) ts
made-fits ns s x e w [] h = tt
made-fits ns s x e w (t ∷ ts) h = (w.fit t h.0.0 h.0.1, made-fits ns s x e w ts h.1)

module _ (ns : List TermNode) (s : Source) (x : Emitter) (t : TermId) (e : Emitted) (r : IsReady ns s x t e) where
  abbrev tree : Tree
  tree = tree_at (trees ns) t

  -- a constant
  pub scalar-inst : (v : Datum) → tree ≡ constant v → form_of tree ≡ Scalar → IsInstOfTerm ns s t e ns x (inst.Const v)
  scalar-inst v q h = record { emitted = e; is = r.is; makes = scalar-makes s tree v e q h; within = tt; fits = ap choices_fit q }

  -- the value of a part
  pub probe-inst : (p : Part) (y : Emitter) (v : ValueId) (i : Inst) → TermIsProbed tree p → EmitsPart ns s p e y v → i ≡ inst.Prb (with_type (signal_type p.ty) v) → IsInstOfTerm ns s t e ns y i
  probe-inst p y v i h k q = record {
    emitted = need_part s p e;
    is = k.is;
    makes =
        probe-makes s tree p e h
        ∙ ap (λ n. gives_term s tree (prb_text (typed n (signal_type p.ty))) (need_part s p e)) (sym k.name)
        ∙ ap (λ j. gives_term s tree (inst_text (naming y.lines.names) j) (need_part s p e)) (sym q);
    within = subst (InstWithin (values_alone (length y.lines.names))) (sym q) k.within;
    fits = probe-fits tree p h;
  }

  -- the terms that it is made of have values
  module _ (ms : List TermNode) (g : Grows ns ms) (one : OneId ms) (xs : List TermId) (m : AreOperandTerms ns ms t xs) where
    grown : IsEmitted ms s x e
    grown = emitted-grown ns ms s x e g one r.is

    pub made-values : HaveValues x.values xs
    made-values = have-values ms x.lines.names x.values e grown.terms xs m.within (subst (Each (HasName e)) (sym m.made) r.made)

    -- an operation on these
    pub joined-inst : (op : Op) (given : List ValueId) (d : TypeTree) (args : List Typed) → form_of tree ≡ Joined op → AreValues x.values xs given → d ≡ type_of tree
        → args ≡ operands_of ms op xs d given →
        IsInstOfTerm ns s t e ms x (inst.Pure op args)
    joined-inst op given d args f a q z =
        let k = values-named ms x.lines.names x.values e grown.terms xs given m.within a in
        let i : Inst = inst.Pure op (operands_of ms op xs d given) in
        let same : inst_text (naming x.lines.names) i ≡ operation_text e op (made_of tree) =
        operation-same (naming x.lines.names) e ms op xs d given k.0 (λ w. q ∙ joined-type tree op f w ∙ ap (λ ts. row_result op (types_of_all ts)) (sym m.made)) ∙ ap (operation_text e op) m.made in
        record {
          emitted = e;
          is = grown;
          makes =
              joined-makes s tree op e f ∙ ap (λ b. gives_term s tree b e) (sym same)
              ∙ ap (λ b. gives_term s tree (inst_text (naming x.lines.names) (inst.Pure op b)) e) (sym z);
          within = subst (λ b. InstWithin (values_alone (length x.lines.names)) (inst.Pure op b)) (sym z) (operands-within (length x.lines.names) ms op xs d given k.1);
          fits = made-fit tree m.pair (made-fits ns s x e r.is (made_of tree) r.made);
        }

  -- ---- the entity after the instruction

  module _ (ms : List TermNode) (y : Emitter) (i : Inst) (g : Grows ns ms) (one : OneId ms) (k : IsInstOfTerm ns s t e ms y i) where
    abbrev text : InstText
    text = inst_text (naming y.lines.names) i

    abbrev end : Emitted
    end = gives_term s tree text k.emitted

    same-tree : tree_at (trees ms) t ≡ tree
    same-tree = tree_grown ns ms g t r.is_in

    pub inst-made : (new : Lines) (v : ValueId) (vs : Values) → GivesValue y.lines i new v → KeepsOtherValues y.values t v vs → TermIsMade ns s t e ms record { lines = new; values = vs; parts = y.parts }
    inst-made new v vs h keeps = record { is = subst (IsEmitted ms s record { lines = new; values = vs; parts = y.parts }) (sym k.makes) after }
      where
        said : LinesAreEmitted s.args new end
        said = let z = (h.0 s k.emitted k.is.says).0 in record { fresh = z.fresh; next = z.next; lines = z.lines; names = z.names }

        named : value_text (naming new.names) v ≡ next_name s k.emitted
        named = (h.0 s k.emitted k.is.says).1

        knows : ValuesNameTerms ms new.names vs end
        knows =
            let names2 : List (List ℕ) = y.lines.names ++ h.2.0 in
            let q : with_term k.emitted.terms tree (next_name s k.emitted) ≡ with_term k.emitted.terms (tree_at (trees ms) t) (value_text (naming names2) v) =
            (λ j. with_term k.emitted.terms (sym same-tree j) (sym named j)) ∙ ap (λ ns. with_term k.emitted.terms (tree_at (trees ms) t) (value_text (naming ns) v)) h.2.1 in
            let z = knows-kept ms y.lines.names h.2.0 y.values vs k.emitted t v one (in_grown ns ms g t r.is_in) k.is.terms (subst (λ (ns : List (List ℕ)). v.0 < length ns) h.2.1 h.1) keeps
            (with_term k.emitted.terms tree (next_name s k.emitted)) q in
            subst (λ (ns : List (List ℕ)). ValuesNameTerms ms ns vs end) (sym h.2.1) (record { named = z.named; within = z.within; held = z.held; among = z.among })

        fit : (u : Tree) (n : List ℕ) (b : Bool) → same_tree tree u ≡ b → (if b then Some (next_name s k.emitted) else k.emitted.terms u) ≡ Some n → choices_fit u ≡ true
        fit u n true q z = ap choices_fit (sym (same_tree-is tree u q)) ∙ k.fits
        fit u n false q z = k.is.fit u n z

        after : IsEmitted ms s record { lines = new; values = vs; parts = y.parts } end
        after = record {
          room = h.3;
          says = said;
          arguments = args-more s.args y.lines.names new.names h.2 k.is.arguments;
          terms = knows;
          parts = parts-more s.args y.lines.names new.names y.parts k.emitted end h.2 k.is.parts refl;
          fit = λ u n z. fit u n (same_tree tree u) refl z;
        }

    -- no room for the instruction
    pub inst-not : length y.lines.lines ≡ most_lines → IsTooMuchToMake s tree e
    unfolding most_lines
    inst-not full =
        let long : length (gives_term s tree (inst_text (naming y.lines.names) i) k.emitted).lines ≡ length k.emitted.lines + 1 = gives-longer s tree (inst_text (naming y.lines.names) i) k.emitted in
        let same : length (makes s tree e).lines ≡ length (gives_term s tree (inst_text (naming y.lines.names) i) k.emitted).lines = ap (λ (z : Emitted). length z.lines) k.makes in
        let len : length k.emitted.lines ≡ length y.lines.lines = says-length s y.lines k.emitted k.is.says in
        inr (omega (arith, long, same, len, full))

-- ---- by contracts

pub inst-no-memory : (ns : List TermNode) (o : Origin) (x : Emitter) (t : TermId) (ms : List TermNode) (y : Emitter) (r : Result Inst EmitFault) → IsErrAnd r (λ f. f ≡ fault.OutOfMemory)
    → GivesInstOr ns o x t ms y r
inst-no-memory ns o x t ms y (Ok v) h = absurd h
inst-no-memory ns o x t ms y (Err f) h = subst (MakesNot ns o x t) (sym h) tt

pub inst-cause : (ns : List TermNode) (o : Origin) (x : Emitter) (t : TermId) (ms : List TermNode) (y : Emitter) (r : Result Inst EmitFault) (f : EmitFault) → IsErrAnd r (λ e. e ≡ f) → MakesNot ns o x t f
    → GivesInstOr ns o x t ms y r
inst-cause ns o x t ms y (Ok v) f h g = absurd h
inst-cause ns o x t ms y (Err e) f h g = subst (MakesNot ns o x t) (sym h) g

pub gives-scalar : (ns : List TermNode) (o : Origin) (x : Emitter) (t : TermId) (v : Datum) → tree_at (trees ns) t ≡ constant v → form_of (tree_at (trees ns) t) ≡ Scalar
    → GivesInstOr ns o x t ns x (Ok (inst.Const v))
gives-scalar ns o x t v q h = (grows-same x.lines.names x.lines.names refl, λ s e src r. scalar-inst ns s x t e r v q h)

pub can-probe : (ns : List TermNode) (o : Origin) (x : Emitter) (t : TermId) (p : Part) → CanMake ns o x t → TermIsProbed (tree_at (trees ns) t) p → CanTakePart ns o x p
can-probe ns o x t p c h = record {
  source = c.source;
  emitted = c.emitted;
  origin = c.origin;
  is = c.is.is;
  given = probe-reached c.source (tree_at (trees ns) t) p h c.is.given.parts;
}

pub gives-probe : (ns : List TermNode) (o : Origin) (x : Emitter) (t : TermId) (p : Part) (y : Emitter) (v : ValueId) (from : Typed) → TermIsProbed (tree_at (trees ns) t) p → TakesPartOr ns o x p y (Ok v)
    → from ≡ with_type (signal_type p.ty) v →
    GivesInstOr ns o x t ns y (Ok (inst.Prb from))
gives-probe ns o x t p y v from h k q = (
  k.0,
  λ s e src r. probe-inst ns s x t e r p y v (inst.Prb from) h (k.1 s e src r.is (probe-reached s (tree_at (trees ns) t) p h r.given.parts)) (ap inst.Prb q),
)

pub probe-not : (ns : List TermNode) (o : Origin) (x : Emitter) (t : TermId) (p : Part) (f : EmitFault) → TermIsProbed (tree_at (trees ns) t) p → GivesNoPart ns o x p f → MakesNot ns o x t f
probe-not ns o x t p fault.OutOfMemory h g = tt
probe-not ns o x t p fault.EntityTooLarge h g = λ s e src r.
    let tree = tree_at (trees ns) t in
    let far : max_lines < length (need_part s p e).lines = g s e src r.is (probe-reached s tree p h r.given.parts) in
    let long : length (gives_term s tree (prb_text (signal (need_part s p e) p)) (need_part s p e)).lines ≡ length (need_part s p e).lines
    + 1 = gives-longer s tree (prb_text (signal (need_part s p e) p)) (need_part s p e) in
    let same : length (makes s tree e).lines ≡ length (gives_term s tree (prb_text (signal (need_part s p e) p)) (need_part s p e)).lines =
    ap (λ (z : Emitted). length z.lines) (probe-makes s tree p e h) in
    inr (omega (arith, far, long, same))

pub have-made : (ns : List TermNode) (o : Origin) (x : Emitter) (t : TermId) (ms : List TermNode) (xs : List TermId) → CanMake ns o x t → Grows ns ms → OneId ms → AreOperandTerms ns ms t xs → HaveValues x.values xs
have-made ns o x t ms xs c g one m = made-values ns c.source x t c.emitted c.is ms g one xs m

pub values-length : (vs : Values) (xs : List TermId) (given : List ValueId) → AreValues vs xs given → length given ≡ length xs
values-length vs xs given a = sym (map_length {X = ValueId} {Y = Option ValueId} Some given) ∙ ap length a ∙ map_length (value_in vs) xs

pub gives-joined : (ns : List TermNode) (o : Origin) (x : Emitter) (t : TermId) (op : Op) (ms : List TermNode) (xs : List TermId) (given : List ValueId) (d : TypeTree) (args : List Typed)
    → form_of (tree_at (trees ns) t) ≡ Joined op → IsIn ns t →
    Grows ns ms → OneId ms → AreOperandTerms ns ms t xs → AreValues x.values xs given → d ≡ type_of (tree_at (trees ms) t) → args ≡ operands_of ms op xs d given
    → GivesInstOr ns o x t ms x (Ok (inst.Pure op args))
gives-joined ns o x t op ms xs given d args f h g one m a q z = (
  grows-same x.lines.names x.lines.names refl,
  λ s e src r. joined-inst ns s x t e r ms g one xs m op given d args f a (q ∙ ap type_of (tree_grown ns ms g t h)) z,
)

pub joined-not : (ns : List TermNode) (o : Origin) (x : Emitter) (t : TermId) (f : EmitFault) → HasNoPair ns t f → MakesNot ns o x t f
joined-not ns o x t fault.OutOfMemory h = tt
joined-not ns o x t fault.EntityTooLarge h = λ s e src r. inl (no-pair-fits (tree_at (trees ns) t) h)

-- ---- the whole instruction

pub make-no-memory : (ns : List TermNode) (o : Origin) (x : Emitter) (t : TermId) (ms : List TermNode) (y : Emitter) (r : Result (Unit {0}) EmitFault) → IsErrAnd r (λ f. f ≡ fault.OutOfMemory)
    → MakesOr ns o x t ms y r
make-no-memory ns o x t ms y (Ok v) h = absurd h
make-no-memory ns o x t ms y (Err f) h = subst (MakesNot ns o x t) (sym h) tt

pub make-cause : (ns : List TermNode) (o : Origin) (x : Emitter) (t : TermId) (ms : List TermNode) (y : Emitter) (r : Result (Unit {0}) EmitFault) (f : EmitFault) → IsErrAnd r (λ e. e ≡ f)
    → MakesNot ns o x t f → MakesOr ns o x t ms y r
make-cause ns o x t ms y (Ok v) f h g = absurd h
make-cause ns o x t ms y (Err e) f h g = subst (MakesNot ns o x t) (sym h) g

pub can-give : (ns : List TermNode) (o : Origin) (x : Emitter) (t : TermId) (ms : List TermNode) (y : Emitter) (i : Inst) → CanMake ns o x t → GivesInstOr ns o x t ms y (Ok i) → LinesHaveRoom y.lines
    × InstWithin (values_alone (length y.lines.names)) i
can-give ns o x t ms y i c k = let m = k.1 c.source c.emitted c.origin c.is in (m.is.room, m.within)

pub makes-inst : (ns : List TermNode) (o : Origin) (x : Emitter) (t : TermId) (ms : List TermNode) (y : Emitter) (i : Inst) (new : Lines) (v : ValueId) (vs : Values) → Grows ns ms → OneId ms
    → GivesInstOr ns o x t ms y (Ok i) → GivesValue y.lines i new v →
    KeepsOtherValues y.values t v vs → MakesOr ns o x t ms record { lines = new; values = vs; parts = y.parts } (Ok tt)
makes-inst ns o x t ms y i new v vs g one k h keeps = (
  grows-then x.lines.names y.lines.names new.names k.0 h.2,
  λ s e src r. inst-made ns s x t e r ms y i g one (k.1 s e src r) new v vs h keeps,
)

pub makes-not : (ns : List TermNode) (o : Origin) (x : Emitter) (t : TermId) (ms : List TermNode) (y : Emitter) (i : Inst) (f : EmitFault) → Grows ns ms → OneId ms → GivesInstOr ns o x t ms y (Ok i)
    → GivesFault y.lines f → MakesNot ns o x t f
makes-not ns o x t ms y i fault.OutOfMemory g one k h = tt
makes-not ns o x t ms y i fault.EntityTooLarge g one k h = λ s e src r. inst-not ns s x t e r ms y i g one (k.1 s e src r) h
