-- What is still to be done, step by step.
use Rattle.std.proofs.Common.{◌≡◌, ℕ, ◌+◌, ◌<◌, true, false, List, [], ◌∷◌, ◌++◌, length, map, Option, Some, None, refl, ap, sym, ◌∙◌, subst, arith, inl, inr, ◌⊎◌, is_some, ltb-true}
use Rattle.std.specs.Prelude.{nat_lt}
use Rattle.std.specs.Option.{option_map}
use Rattle.std.proofs.lemmas.List.{append-nil}
use Rattle.lh_types.specs.Same.{and_both}
use Rattle.lh_unit.specs.Naming.{value_text}
use Rattle.lh_unit.specs.Within.{Each}
use Rattle.lh_unit.proofs.Lists.{Each-append}
use Rattle.lh_unit.specs.declared.inst.ValueId.{ValueId}
use Rattle.lh_term.specs.Tree.{Tree}
use Rattle.lh_term.specs.Arena.{trees, tree_at, trees_at, ids_below, IsIn, AreIn, OneId, Grows}
use Rattle.lh_term.specs.declared.term.TermId.{TermId}
use Rattle.lh_term.specs.declared.term.TermNode.{TermNode}
use Rattle.lh_term.proofs.Swaps.{tree_grown, in_grown, grows_on}
use Rattle.lh_emit_def.specs.Emitted.{Source, Emitted, term_name}
use Rattle.lh_emit_def.specs.Entities.{max_lines, choices_fit}
use Rattle.lh_emit_def.specs.Needs.{need}
use Rattle.lh_emit_def.specs.Ways.{TermIsGiven}
use Rattle.lh_emit_body.specs.Lines.{naming, NamesGrow}
use Rattle.lh_emit.specs.Emitting.{IsEmitted}
use Rattle.lh_emit.specs.Making.{AreOperandTerms, HasNoPair}
use Rattle.lh_emit_source.specs.Origins.{IsSource}
use Rattle.lh_emit.specs.Tasks.{made_of, makes, need_of, make_of, takes, TermsAreReady, steps_size}
use Rattle.lh_emit.specs.Underway.{step_of, steps_at, term_of, tops, IsTask, FitsTask, IsUnderway, CanGo, HasGone, Goes, IsTooMuch, EmitFails, IsReady, CanMake, TermIsMade, MakesTerm, IsTooMuchToMake, MakesNot, GoesOr, MakesOr, HasTerm, CanTakeTerm, GivesNoTerm, TakesTermOr}
use Rattle.std.specs.Prelude.{Result, Ok, Err}
use Rattle.std.specs.Result.{IsErrAnd}
use Rattle.std.proofs.lemmas.Bool.{false_from_ne_true}
use Rattle.lh_emit.proofs.OperationOperands.{have-value, value-named}
use Rattle.lh_emit.proofs.TaskStacks.{pushed}
use Rattle.lh_emit.proofs.StepLaws.{grows-same, grows-then}
use Rattle.lh_emit.specs.Values.{value_in}
use Rattle.lh_emit.specs.declared.emitter.Emitter.{Emitter}
use Rattle.lh_emit_body.specs.declared.lines.EmitFault.{EmitFault}
use Rattle.lh_emit_body.specs.declared.lines.EmitFault.TheVariants as fault
use Rattle.lh_emit_source.specs.declared.origin.Origin.{Origin}
use Rattle.lh_emit.specs.declared.tasks.Task.{Task}
use Rattle.lh_emit.specs.declared.tasks.Task.TheVariants.{Need, Make}
use Rattle.lh_emit.proofs.TermForms.{fit-made, no-pair-fits, made-given}
use Rattle.lh_emit.proofs.GivenLines.{emitted-grown}
use Rattle.lh_emit.proofs.NeedTasks.{need-needed, step-there, step-new, takes-longer, smaller-there, smaller-made, smaller-new}

-- ---- tasks by a larger arena

module _ (ns ms : List TermNode) (g : Grows ns ms) where
  step-grown : (x : Task) → IsIn ns (term_of x) → step_of ms x ≡ step_of ns x
  step-grown (Need t) h = ap need_of (tree_grown ns ms g t h)
  step-grown (Make t) h = ap make_of (tree_grown ns ms g t h)

  pub steps-grown : (s : Source) (xs : List Task) → Each (IsTask ns s) xs → steps_at ms xs ≡ steps_at ns xs
  steps-grown s [] h = refl
  steps-grown s (x ∷ xs) h = let p = step-grown x h.0.is_in in let r = steps-grown s xs h.1 in λ i. p i ∷ r i

  pub tasks-grown : (s : Source) (xs : List Task) → Each (IsTask ns s) xs → Each (IsTask ms s) xs
  tasks-grown s [] h = tt
  tasks-grown s (x ∷ xs) h =
      (record { is_in = in_grown ns ms g (term_of x) h.0.is_in; given = subst (TermIsGiven s) (sym (tree_grown ns ms g (term_of x) h.0.is_in)) h.0.given }, tasks-grown s xs h.1)

  pub fits-grown : (s : Source) (xs : List Task) → Each (IsTask ns s) xs → Each (FitsTask ns) xs → Each (FitsTask ms) xs
  fits-grown s [] h f = tt
  fits-grown s (x ∷ xs) h f = (ap choices_fit (tree_grown ns ms g (term_of x) h.0.is_in) ∙ f.0, fits-grown s xs h.1 f.1)

-- ---- need of terms on a stack

needs-steps : (ms : List TermNode) (xs : List TermId) (rest : List Task) → steps_at ms (map Need xs ++ rest) ≡ map need_of (trees_at ms xs) ++ steps_at ms rest
needs-steps ms [] rest = refl
needs-steps ms (x ∷ xs) rest = ap (λ ys. need_of (tree_at (trees ms) x) ∷ ys) (needs-steps ms xs rest)

needs-tasks : (ms : List TermNode) (s : Source) (xs : List TermId) → AreIn ms xs → Each (TermIsGiven s) (trees_at ms xs) → Each (IsTask ms s) (map Need xs)
needs-tasks ms s [] h g = tt
needs-tasks ms s (x ∷ xs) h g =
    let b = and_both (nat_lt x.0 (length ms)) (ids_below (length ms) xs) h in
    (record { is_in = ltb-true x.0 (length ms) b.0; given = g.0 }, needs-tasks ms s xs b.1 g.1)

needs-fit : (ms : List TermNode) (xs : List TermId) → Each (λ (t : Tree). choices_fit t ≡ true) (trees_at ms xs) → Each (FitsTask ms) (map Need xs)
needs-fit ms [] h = tt
needs-fit ms (x ∷ xs) h = (h.0, needs-fit ms xs h.1)

open-steps : (ns ms : List TermNode) (s : Source) (t : TermId) (xs : List TermId) (rest : List Task) → Grows ns ms → AreOperandTerms ns ms t xs → IsIn ns t → Each (IsTask ns s) rest →
    steps_at ms (map Need xs ++ Make t ∷ rest) ≡ map need_of (made_of (tree_at (trees ns) t)) ++ make_of (tree_at (trees ns) t) ∷ steps_at ns rest
open-steps ns ms s t xs rest g m h r =
    needs-steps ms xs (Make t ∷ rest)
    ∙ (λ i. map need_of (m.made i) ++ make_of (tree_grown ns ms g t h i) ∷ steps-grown ns ms g s rest r i)

-- ---- one step

module _ (ns : List TermNode) (s : Source) (x : Emitter) (t : TermId) (rest : List Task) (e : Emitted) where
  abbrev tree : Tree
  tree = tree_at (trees ns) t

  module _ (u : IsUnderway ns s x (Need t ∷ rest) e) where
    -- a term that was emitted
    pub gone-there : (n : List ℕ) → e.terms tree ≡ Some n → HasGone ns s (Need t ∷ rest) e ns x rest
    gone-there n q =
        let k = step-there s tree n (steps_at ns rest) e q u.ready in
        record { emitted = e; is = record { is = u.is; ready = k.1; given = u.given.1 }; same = k.0; fit = λ h. h.1 }

    -- one that was not
    pub gone-open : (ms : List TermNode) (xs : List TermId) → Grows ns ms → OneId ms → AreOperandTerms ns ms t xs → e.terms tree ≡ None → HasGone ns s (Need t ∷ rest) e ms x (map Need xs ++ Make t ∷ rest)
    gone-open ms xs g one m q =
        let k = step-new s tree (steps_at ns rest) e q u.ready in
        let same = open-steps ns ms s t xs rest g m u.given.0.is_in u.given.1 in
        let here : IsTask ms s (Make t) = record { is_in = in_grown ns ms g t u.given.0.is_in; given = subst (TermIsGiven s) (sym (tree_grown ns ms g t u.given.0.is_in)) u.given.0.given } in
        record {
          emitted = e;
          is = record {
            is = emitted-grown ns ms s x e g one u.is;
            ready = subst (λ ys. TermsAreReady s ys e) (sym same) k.1;
            given =
                Each-append (IsTask ms s) (map Need xs) (Make t ∷ rest)
                (needs-tasks ms s xs m.within (subst (Each (TermIsGiven s)) (sym m.made) (made-given s tree u.given.0.given m.pair)))
                (here, tasks-grown ns ms g s rest u.given.1);
          };
          same = ap (λ ys. takes s ys e) same ∙ k.0;
          fit = λ h.
              Each-append (FitsTask ms) (map Need xs) (Make t ∷ rest)
              (needs-fit ms xs (subst (Each (λ (y : Tree). choices_fit y ≡ true)) (sym m.made) (fit-made tree h.0)))
              (ap choices_fit (tree_grown ns ms g t u.given.0.is_in) ∙ h.0, fits-grown ns ms g s rest u.given.1 h.1);
        }

    -- a choice without an array
    pub open-not : (f : EmitFault) → HasNoPair ns t f → f ≡ fault.EntityTooLarge → IsTooMuch ns s (Need t ∷ rest) e
    open-not fault.OutOfMemory h q = absurd cc
    open-not fault.EntityTooLarge h q = inl (λ k. let z : choices_fit tree ≡ false = no-pair-fits tree h in let y : choices_fit tree ≡ true = k.0 in absurd cc)

  module _ (u : IsUnderway ns s x (Make t ∷ rest) e) where
    pub ready-make : IsReady ns s x t e
    ready-make = record { is = u.is; is_in = u.given.0.is_in; given = u.given.0.given; made = u.ready.0 }

    -- an instruction that is made
    pub gone-make : (ms : List TermNode) (y : Emitter) → Grows ns ms → TermIsMade ns s t e ms y → HasGone ns s (Make t ∷ rest) e ms y rest
    gone-make ms y g k =
        let same : steps_at ms rest ≡ steps_at ns rest = steps-grown ns ms g s rest u.given.1 in
        record {
          emitted = makes s tree e;
          is = record { is = k.is; ready = subst (λ ys. TermsAreReady s ys (makes s tree e)) (sym same) u.ready.1; given = tasks-grown ns ms g s rest u.given.1 };
          same = ap (λ ys. takes s ys (makes s tree e)) same;
          fit = λ h. fits-grown ns ms g s rest u.given.1 h.1;
        }

    pub make-not : IsTooMuchToMake s tree e → IsTooMuch ns s (Make t ∷ rest) e
    make-not (inl h) = inl (λ k. let y : choices_fit tree ≡ true = k.0 in absurd cc)
    make-not (inr h) = inr (omega (arith, h, takes-longer s (steps_at ns rest) (makes s tree e)))

-- ---- by contracts

none-there : (v : Option ValueId) → is_some v ≡ false → v ≡ None
none-there None h = refl
none-there (Some v) h = absurd cc

pub goes-there : (ns : List TermNode) (o : Origin) (x : Emitter) (t : TermId) (rest : List Task) → IsIn ns t → is_some (value_in x.values t) ≡ true → Goes ns o x (Need t ∷ rest) ns x rest
goes-there ns o x t rest h q s e src u = at (value_in x.values t) refl
  where
    at : (v : Option ValueId) → value_in x.values t ≡ v → HasGone ns s (Need t ∷ rest) e ns x rest
    at None p = let z : is_some (value_in x.values t) ≡ false = ap is_some p in absurd cc
    at (Some v) p = gone-there ns s x t rest e u (value_text (naming x.lines.names) v) (u.is.terms.named t h ∙ ap (option_map (value_text (naming x.lines.names))) p)

pub goes-open : (ns : List TermNode) (o : Origin) (x : Emitter) (t : TermId) (rest all : List Task) (ms : List TermNode) (xs : List TermId) → IsIn ns t → value_in x.values t ≡ None → Grows ns ms → OneId ms
    → AreOperandTerms ns ms t xs →
    all ≡ map Need xs ++ Make t ∷ rest → Goes ns o x (Need t ∷ rest) ms x all
goes-open ns o x t rest all ms xs h q g one m a s e src u =
    subst (HasGone ns s (Need t ∷ rest) e ms x) (sym a)
    (gone-open ns s x t rest e u ms xs g one m (u.is.terms.named t h ∙ ap (option_map (value_text (naming x.lines.names))) q))

pub goes-not-open : (ns : List TermNode) (o : Origin) (x : Emitter) (t : TermId) (rest : List Task) (f : EmitFault) → HasNoPair ns t f → EmitFails ns o x (Need t ∷ rest) f
goes-not-open ns o x t rest fault.OutOfMemory h = tt
goes-not-open ns o x t rest fault.EntityTooLarge h = λ s e src u. open-not ns s x t rest e u fault.EntityTooLarge h refl

pub goes-make : (ns : List TermNode) (o : Origin) (x : Emitter) (t : TermId) (rest : List Task) (ms : List TermNode) (y : Emitter) → Grows ns ms → MakesTerm ns o x t ms y
    → Goes ns o x (Make t ∷ rest) ms y rest
goes-make ns o x t rest ms y g k s e src u = gone-make ns s x t rest e u ms y g (k s e src (ready-make ns s x t rest e u))

pub goes-not-make : (ns : List TermNode) (o : Origin) (x : Emitter) (t : TermId) (rest : List Task) (f : EmitFault) → MakesNot ns o x t f → EmitFails ns o x (Make t ∷ rest) f
goes-not-make ns o x t rest fault.OutOfMemory h = tt
goes-not-make ns o x t rest fault.EntityTooLarge h = λ s e src u. make-not ns s x t rest e u (h s e src (ready-make ns s x t rest e u))

pub can-make : (ns : List TermNode) (o : Origin) (x : Emitter) (t : TermId) (rest : List Task) → CanGo ns o x (Make t ∷ rest) → CanMake ns o x t
can-make ns o x t rest c = record { source = c.source; emitted = c.emitted; origin = c.origin; is = ready-make ns c.source x t rest c.emitted c.is }

pub need-in : (ns : List TermNode) (o : Origin) (x : Emitter) (t : TermId) (rest : List Task) → CanGo ns o x (Need t ∷ rest) → IsIn ns t
need-in ns o x t rest c = c.is.given.0.is_in

pub make-in : (ns : List TermNode) (o : Origin) (x : Emitter) (t : TermId) (rest : List Task) → CanGo ns o x (Make t ∷ rest) → IsIn ns t
make-in ns o x t rest c = c.is.given.0.is_in

-- less is left

pub less-make : (ns : List TermNode) (o : Origin) (x : Emitter) (t : TermId) (rest : List Task) (ms : List TermNode) → CanGo ns o x (Make t ∷ rest) → Grows ns ms
    → steps_size (steps_at ms rest) < steps_size (steps_at ns (Make t ∷ rest))
less-make ns o x t rest ms c g =
    subst (λ ys. steps_size ys < steps_size (steps_at ns (Make t ∷ rest))) (sym (steps-grown ns ms g c.source rest c.is.given.1)) (smaller-made (tree_at (trees ns) t) (steps_at ns rest))

less-there : (ns : List TermNode) (t : TermId) (rest : List Task) → steps_size (steps_at ns rest) < steps_size (steps_at ns (Need t ∷ rest))
less-there ns t rest = smaller-there (tree_at (trees ns) t) (steps_at ns rest)

less-open : (ns : List TermNode) (o : Origin) (x : Emitter) (t : TermId) (rest all : List Task) (ms : List TermNode) (xs : List TermId) → CanGo ns o x (Need t ∷ rest) → Grows ns ms → AreOperandTerms ns ms t xs
    → all ≡ map Need xs ++ Make t ∷ rest →
    steps_size (steps_at ms all) < steps_size (steps_at ns (Need t ∷ rest))
less-open ns o x t rest all ms xs c g m e =
    subst (λ ys. steps_size ys < steps_size (steps_at ns (Need t ∷ rest))) (sym (ap (steps_at ms) e ∙ open-steps ns ms c.source t xs rest g m c.is.given.0.is_in c.is.given.1))
    (smaller-new (tree_at (trees ns) t) (steps_at ns rest))

-- a term that has a value, and one that has none
pub go-there : (ns : List TermNode) (o : Origin) (x : Emitter) (t : TermId) (rest : List Task) → CanGo ns o x (Need t ∷ rest) → is_some (value_in x.values t) ≡ true
    → GoesOr ns o x (Need t ∷ rest) ns x rest (Ok tt)
go-there ns o x t rest c q = (grows-same x.lines.names x.lines.names refl, goes-there ns o x t rest c.is.given.0.is_in q, less-there ns t rest)

pub go-open : (ns : List TermNode) (o : Origin) (x : Emitter) (t : TermId) (rest mid all : List Task) (ms : List TermNode) (xs : List TermId) → CanGo ns o x (Need t ∷ rest)
    → is_some (value_in x.values t) ≡ false → Grows ns ms → OneId ms →
    AreOperandTerms ns ms t xs → mid ≡ Make t ∷ rest → all ≡ map Need xs ++ mid → GoesOr ns o x (Need t ∷ rest) ms x all (Ok tt)
go-open ns o x t rest mid all ms xs c q g one m e f =
    let a : all ≡ map Need xs ++ Make t ∷ rest = f ∙ ap (λ ys. map Need xs ++ ys) e in (
      grows-same x.lines.names x.lines.names refl,
      goes-open ns o x t rest all ms xs c.is.given.0.is_in (none-there (value_in x.values t) q) g one m a,
      less-open ns o x t rest all ms xs c g m a,
    )

-- ---- one after the other

pub goes-same : (ns : List TermNode) (o : Origin) (x : Emitter) (left : List Task) → Goes ns o x left ns x left
goes-same ns o x left s e src u = record { emitted = e; is = u; same = refl; fit = λ h. h }

pub goes-then : (ns : List TermNode) (o : Origin) (x : Emitter) (left : List Task) (ms : List TermNode) (y : Emitter) (mid : List Task) (ls : List TermNode) (z : Emitter) (rest : List Task) →
    Goes ns o x left ms y mid → Goes ms o y mid ls z rest → Goes ns o x left ls z rest
goes-then ns o x left ms y mid ls z rest f g s e src u =
    let a = f s e src u in
    let b = g s a.emitted src a.is in
    record { emitted = b.emitted; is = b.is; same = b.same ∙ a.same; fit = λ h. b.fit (a.fit h) }

too-much-then : (ns : List TermNode) (s : Source) (left : List Task) (e : Emitted) (ms : List TermNode) (y : Emitter) (mid : List Task) (a : HasGone ns s left e ms y mid) → IsTooMuch ms s mid a.emitted
    → IsTooMuch ns s left e
too-much-then ns s left e ms y mid a (inl h) = inl (λ k. h (a.fit k))
too-much-then ns s left e ms y mid a (inr h) = inr (subst (λ (z : Emitted). max_lines < length z.lines) a.same h)

pub goes-not-then : (ns : List TermNode) (o : Origin) (x : Emitter) (left : List Task) (ms : List TermNode) (y : Emitter) (mid : List Task) (f : EmitFault) → Goes ns o x left ms y mid → EmitFails ms o y mid f
    → EmitFails ns o x left f
goes-not-then ns o x left ms y mid fault.OutOfMemory g n = tt
goes-not-then ns o x left ms y mid fault.EntityTooLarge g n = λ s e src u. on s e (g s e src u) src
  where
    on : (s : Source) (e : Emitted) → HasGone ns s left e ms y mid → IsSource o s → IsTooMuch ns s left e
    on s e a src = too-much-then ns s left e ms y mid a (n s a.emitted src a.is)

pub can-go-on : (ns : List TermNode) (o : Origin) (x : Emitter) (left : List Task) (ms : List TermNode) (y : Emitter) (mid : List Task) → CanGo ns o x left → Goes ns o x left ms y mid → CanGo ms o y mid
can-go-on ns o x left ms y mid c g = let a = g c.source c.emitted c.origin c.is in record { source = c.source; emitted = a.emitted; origin = c.origin; is = a.is }

-- ---- results

pub go-no-memory : (ns : List TermNode) (o : Origin) (x : Emitter) (left : List Task) (ms : List TermNode) (y : Emitter) (rest : List Task) (r : Result (Unit {0}) EmitFault)
    → IsErrAnd r (λ f. f ≡ fault.OutOfMemory) → GoesOr ns o x left ms y rest r
go-no-memory ns o x left ms y rest (Ok u) h = absurd h
go-no-memory ns o x left ms y rest (Err f) h = subst (EmitFails ns o x left) (sym h) tt

pub go-cause : (ns : List TermNode) (o : Origin) (x : Emitter) (left : List Task) (ms : List TermNode) (y : Emitter) (rest : List Task) (r : Result (Unit {0}) EmitFault) (f : EmitFault)
    → IsErrAnd r (λ e. e ≡ f) → EmitFails ns o x left f → GoesOr ns o x left ms y rest r
go-cause ns o x left ms y rest (Ok u) f h g = absurd h
go-cause ns o x left ms y rest (Err e) f h g = subst (EmitFails ns o x left) (sym h) g

-- the step of an instruction
pub go-make : (ns : List TermNode) (o : Origin) (x : Emitter) (t : TermId) (rest : List Task) (ms : List TermNode) (y : Emitter) (r : Result (Unit {0}) EmitFault) → CanGo ns o x (Make t ∷ rest) → Grows ns ms
    → MakesOr ns o x t ms y r →
    GoesOr ns o x (Make t ∷ rest) ms y rest r
go-make ns o x t rest ms y (Ok u) c g k = (k.0, goes-make ns o x t rest ms y g k.1, less-make ns o x t rest ms c g)
go-make ns o x t rest ms y (Err f) c g k = goes-not-make ns o x t rest f k

-- ---- from the first to the last

first-underway : (ns : List TermNode) (s : Source) (x : Emitter) (t : TermId) (e : Emitted) → IsEmitted ns s x e → IsIn ns t → TermIsGiven s (tree_at (trees ns) t) → IsUnderway ns s x (Need t ∷ []) e
first-underway ns s x t e w h g = record { is = w; ready = tt; given = (record { is_in = h; given = g }, tt) }

pub can-go-first : (ns : List TermNode) (o : Origin) (x : Emitter) (t : TermId) → CanTakeTerm ns o x t → CanGo ns o x (Need t ∷ [])
can-go-first ns o x t c = record { source = c.source; emitted = c.emitted; origin = c.origin; is = first-underway ns c.source x t c.emitted c.is c.within c.given }

pub takes-term : (ns : List TermNode) (o : Origin) (x : Emitter) (t : TermId) (ms : List TermNode) (y : Emitter) (v : ValueId) → IsIn ns t → Grows ns ms → NamesGrow x.lines.names y.lines.names
    → Goes ns o x (Need t ∷ []) ms y [] → Some v ≡ value_in y.values t →
    TakesTermOr ns o x t ms y (Ok v)
takes-term ns o x t ms y v h g names k q = (names, λ s e src w given. on s e src w given (k s e src (first-underway ns s x t e w h given)))
  where
    on : (s : Source) (e : Emitted) → IsSource o s → IsEmitted ns s x e → TermIsGiven s (tree_at (trees ns) t) → HasGone ns s (Need t ∷ []) e ms y [] → HasTerm ns s t e ms y v
    on s e src w given a =
        let tree = tree_at (trees ns) t in
        let is : IsEmitted ms s y (need s tree e) = subst (IsEmitted ms s y) a.same a.is.is in
        let n = value-named ms y.lines.names y.values (need s tree e) is.terms t v (in_grown ns ms g t h) q in
        let named = (need-needed s tree e).named in
        record {
          is = is;
          name = n.0 ∙ ap (term_name (need s tree e)) (tree_grown ns ms g t h);
          within = n.1;
          fits = is.fit tree named.0 named.1;
        }

pub no-term : (ns : List TermNode) (o : Origin) (x : Emitter) (t : TermId) (f : EmitFault) → IsIn ns t → EmitFails ns o x (Need t ∷ []) f → GivesNoTerm ns o x t f
no-term ns o x t fault.OutOfMemory h k = tt
no-term ns o x t fault.EntityTooLarge h k = λ s e src w given. on s e (k s e src (first-underway ns s x t e w h given))
  where
    on : (s : Source) (e : Emitted) → IsTooMuch ns s (Need t ∷ []) e → (choices_fit (tree_at (trees ns) t) ≡ false) ⊎ (max_lines < length (need s (tree_at (trees ns) t) e).lines)
    on s e (inr far) = inr far
    on s e (inl out) = inl (false_from_ne_true (choices_fit (tree_at (trees ns) t)) (λ p. out (p, tt)))

pub term-no-memory : (ns : List TermNode) (o : Origin) (x : Emitter) (t : TermId) (ms : List TermNode) (y : Emitter) (r : Result ValueId EmitFault) → IsErrAnd r (λ f. f ≡ fault.OutOfMemory)
    → TakesTermOr ns o x t ms y r
term-no-memory ns o x t ms y (Ok v) h = absurd h
term-no-memory ns o x t ms y (Err f) h = subst (GivesNoTerm ns o x t) (sym h) tt

pub term-cause : (ns : List TermNode) (o : Origin) (x : Emitter) (t : TermId) (ms : List TermNode) (y : Emitter) (r : Result ValueId EmitFault) (f : EmitFault) → IsErrAnd r (λ e. e ≡ f)
    → GivesNoTerm ns o x t f → TakesTermOr ns o x t ms y r
term-cause ns o x t ms y (Ok v) f h g = absurd h
term-cause ns o x t ms y (Err e) f h g = subst (GivesNoTerm ns o x t) (sym h) g

-- the term has a value in the end
pub term-valued : (ns : List TermNode) (o : Origin) (x : Emitter) (t : TermId) (ms : List TermNode) (y : Emitter) → CanTakeTerm ns o x t → Grows ns ms → Goes ns o x (Need t ∷ []) ms y []
    → is_some (value_in y.values t) ≡ true
term-valued ns o x t ms y c g k =
    let s = c.source in
    let tree = tree_at (trees ns) t in
    let a = k s c.emitted c.origin (first-underway ns s x t c.emitted c.is c.within c.given) in
    let is : IsEmitted ms s y (need s tree c.emitted) = subst (IsEmitted ms s y) a.same a.is.is in
    let named = (need-needed s tree c.emitted).named in
    have-value ms y.lines.names y.values (need s tree c.emitted) is.terms t (in_grown ns ms g t c.within) (named.0, ap (need s tree c.emitted).terms (tree_grown ns ms g t c.within) ∙ named.1)

-- ---- the loop

-- what was done so far, and what is left on the stack
pub record GoneSoFar (ns : List TermNode) (o : Origin) (x : Emitter) (t : TermId) (ms : List TermNode) (y : Emitter) (tasks : List Task) : Type 0 where
  pub grows : Grows ns ms
  pub names : NamesGrow x.lines.names y.lines.names
  pub goes : Goes ns o x (Need t ∷ []) ms y (tops tasks)

pub gone-first : (ns : List TermNode) (o : Origin) (x : Emitter) (t : TermId) (tasks : List Task) → tops tasks ≡ Need t ∷ [] → GoneSoFar ns o x t ns x tasks
gone-first ns o x t tasks e = record {
  grows = ([], sym (append-nil ns));
  names = grows-same x.lines.names x.lines.names refl;
  goes = subst (Goes ns o x (Need t ∷ []) ns x) (sym e) (goes-same ns o x (Need t ∷ []));
}

module _ (ns : List TermNode) (o : Origin) (x : Emitter) (t : TermId) (ms : List TermNode) (y : Emitter) (tasks left : List Task) (k : Task) (e : tasks ≡ left ++ k ∷ [])
    (w : GoneSoFar ns o x t ms y tasks) where
  popped : Goes ns o x (Need t ∷ []) ms y (k ∷ tops left)
  popped = subst (Goes ns o x (Need t ∷ []) ms y) (pushed tasks left k e) w.goes

  pub can-step : CanTakeTerm ns o x t → CanGo ms o y (k ∷ tops left)
  can-step c = can-go-on ns o x (Need t ∷ []) ms y (k ∷ tops left) (can-go-first ns o x t c) popped

  pub gone-next : (ls : List TermNode) (z : Emitter) (more : List Task) → Grows ms ls → GoesOr ms o y (k ∷ tops left) ls z (tops more) (Ok tt) → GoneSoFar ns o x t ls z more
  gone-next ls z more g h = record {
    grows = grows_on ns ms ls w.grows g;
    names = grows-then x.lines.names y.lines.names z.lines.names w.names h.0;
    goes = goes-then ns o x (Need t ∷ []) ms y (k ∷ tops left) ls z (tops more) popped h.1;
  }

  pub step-cause : (f : EmitFault) → IsIn ns t → EmitFails ms o y (k ∷ tops left) f → GivesNoTerm ns o x t f
  step-cause f h g = no-term ns o x t f h (goes-not-then ns o x (Need t ∷ []) ms y (k ∷ tops left) f popped g)

  pub less-left : (ls : List TermNode) (z : Emitter) (more : List Task) → GoesOr ms o y (k ∷ tops left) ls z (tops more) (Ok tt)
      → steps_size (steps_at ls (tops more)) < steps_size (steps_at ms (tops tasks))
  less-left ls z more h = subst (λ ys. steps_size (steps_at ls (tops more)) < steps_size (steps_at ms ys)) (sym (pushed tasks left k e)) h.2

pub nothing-left : (ns : List TermNode) (o : Origin) (x : Emitter) (t : TermId) (ms : List TermNode) (y : Emitter) (tasks : List Task) → tasks ≡ [] → GoneSoFar ns o x t ms y tasks
    → Goes ns o x (Need t ∷ []) ms y []
nothing-left ns o x t ms y tasks e w = subst (λ ys. Goes ns o x (Need t ∷ []) ms y (tops ys)) e w.goes
