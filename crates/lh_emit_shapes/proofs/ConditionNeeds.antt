-- Need of a condition; and what calls tell of a term that an id stands for.
use Rattle.std.proofs.Common.{◌≡◌, ◌⊎◌, ◌<◌, Bool, true, false, if◌then◌else◌, List, length, Option, Some, None, refl, ap, sym, subst}
use Rattle.std.specs.Prelude.{Result, IfErr}
use Rattle.std.specs.Result.{IsErrAnd}
use Rattle.lh_unit.specs.Naming.{Naming}
use Rattle.lh_unit_names.specs.declared.name.UnitName.{UnitName}
use Rattle.lh_unit.specs.declared.inst.ValueId.{ValueId}
use Rattle.lh_term.specs.Tree.{Tree, constant, past_of, now_of, operation, choice_of}
use Rattle.lh_term.specs.Make.{is_bit}
use Rattle.lh_term.specs.Arena.{trees, tree_at}
use Rattle.lh_term.specs.declared.term.TermId.{TermId}
use Rattle.lh_term.specs.declared.term.TermNode.{TermNode}
use Rattle.lh_emit_def.specs.Emitted.{Emitted}
use Rattle.lh_emit_def.specs.Needs.{need}
use Rattle.lh_emit_def.specs.Entities.{max_lines, need_cond, choices_fit}
use Rattle.lh_emit_def.specs.Ways.{TermIsGiven}
use Rattle.lh_emit_source.specs.Origins.{source_by, IsOrigin}
use Rattle.lh_emit.specs.Emitting.{IsEmitted, IsNeeded, NeedsTerm, IsTooLarge, NeedsNot}
use Rattle.lh_emit_shapes.specs.Putting.{IsTested, TestsTerm, TestsTermNot}
use Rattle.lh_emit_source.specs.declared.origin.Origin.{Origin}
use Rattle.lh_emit.specs.declared.emitter.Emitter.{Emitter}
use Rattle.lh_emit.proofs.StepLaws.{err-cause}
use Rattle.lh_emit_body.specs.declared.lines.EmitFault.{EmitFault}
use Rattle.lh_emit_body.specs.declared.lines.EmitFault.TheVariants as fault

-- ---- tests

-- running out of memory
pub err-memory : {A : Type 0} (r : Result A EmitFault) (P : EmitFault → Type 0) → IsErrAnd r (λ e. e ≡ fault.OutOfMemory) → P fault.OutOfMemory → IfErr r P
err-memory r P e h = err-cause r fault.OutOfMemory P e h

-- ---- a condition

one-fits : (c : Tree) → is_bit 1 c ≡ true → choices_fit c ≡ true
one-fits (constant v) h = refl
one-fits (past_of p) h = refl
one-fits (now_of p) h = refl
one-fits (operation op ts) h = absurd cc
one-fits (choice_of c f t) h = absurd cc

module _ (ns : List TermNode) (o : Origin) (x : Emitter) (t : TermId) where
  abbrev tree : Tree
  tree = tree_at (trees ns) t

  pub tests-one : is_bit 1 (tree_at (trees ns) t) ≡ true → TestsTerm ns o x t ns x None
  tests-one q name f e origin is given = record {
    is = subst (λ (b : Bool). IsEmitted ns (source_by name f o.flat.now) x (if b then e else need (source_by name f o.flat.now) tree e)) (sym q) is;
    name = rw q refl;
    within = tt;
    fits = one-fits tree q;
  }

  pub tests-term : (ms : List TermNode) (y : Emitter) (v : ValueId) → is_bit 1 (tree_at (trees ns) t) ≡ false → NeedsTerm ns o x t ms y v → TestsTerm ns o x t ms y (Some v)
  tests-term ms y v q n name f e origin is given =
      let k = n name f e origin is given in
      record {
        is = subst (λ (b : Bool). IsEmitted ms (source_by name f o.flat.now) y (if b then e else need (source_by name f o.flat.now) tree e)) (sym q) k.is;
        name = rw q (ap Some k.name);
        within = k.within;
        fits = k.fits;
      }

  pub tests-not : (f : EmitFault) → is_bit 1 (tree_at (trees ns) t) ≡ false → NeedsNot ns o x t f → TestsTermNot ns o x t f
  tests-not fault.OutOfMemory q h = tt
  tests-not fault.EntityTooLarge q h = λ name f e origin is given.
      subst (λ (b : Bool). (choices_fit tree ≡ false) ⊎ (max_lines < length (if b then e else need (source_by name f o.flat.now) tree e).lines)) (sym q) (h name f e origin is given)

  -- ---- the term that an id stands for

  module _ (name : UnitName) (f : Naming) (e : Emitted) (origin : IsOrigin f o) (is : IsEmitted ns (source_by name f o.flat.now) x e)
      (a : Tree) (stands : tree_at (trees ns) t ≡ a) (given : TermIsGiven (source_by name f o.flat.now) a) where
    pub is-given : TermIsGiven (source_by name f o.flat.now) (tree_at (trees ns) t)
    is-given = subst (TermIsGiven (source_by name f o.flat.now)) (sym stands) given

    pub needed-at : (ms : List TermNode) (y : Emitter) (v : ValueId) → NeedsTerm ns o x t ms y v → IsNeeded ms (source_by name f o.flat.now) a e y v
    needed-at ms y v n = subst (λ (z : Tree). IsNeeded ms (source_by name f o.flat.now) z e y v) stands (n name f e origin is is-given)

    pub not-needed-at : NeedsNot ns o x t fault.EntityTooLarge → IsTooLarge (source_by name f o.flat.now) a e
    not-needed-at n = subst (λ (z : Tree). IsTooLarge (source_by name f o.flat.now) z e) stands (n name f e origin is is-given)

    pub tested-at : (ms : List TermNode) (y : Emitter) (v : Option ValueId) → TestsTerm ns o x t ms y v → IsTested ms (source_by name f o.flat.now) a e y v
    tested-at ms y v n = subst (λ (z : Tree). IsTested ms (source_by name f o.flat.now) z e y v) stands (n name f e origin is is-given)

    pub not-tested-at : TestsTermNot ns o x t fault.EntityTooLarge → (choices_fit a ≡ false) ⊎ (max_lines < length (need_cond (source_by name f o.flat.now) a e).lines)
    not-tested-at n = subst (λ (z : Tree). (choices_fit z ≡ false) ⊎ (max_lines < length (need_cond (source_by name f o.flat.now) z e).lines)) stands (n name f e origin is is-given)
