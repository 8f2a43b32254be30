-- Steps to a part by ids are those of the definition.
use Rattle.std.proofs.Common.{◌≡◌, ℕ, ◌+◌, ◌-◌, ◌<◌, ◌≤◌, List, [], ◌∷◌, ◌++◌, length, map, take, drop, get_or, Option, Some, None, refl, ap, sym, ◌∙◌, subst, arith, length-append, append_assoc}
use Rattle.std.proofs.Math.Seq.{take-length}
use Rattle.std.proofs.lemmas.List.{append-nil}
use Rattle.lh_term.proofs.Arenas.{map_length}
use Rattle.lh_types.specs.Types.{TypeTree, signal_type, IsData}
use Rattle.lh_types.specs.declared.op.Op.{Op}
use Rattle.lh_unit.specs.Contents.{LineText, pure_text}
use Rattle.lh_unit.specs.Naming.{value_text, inst_text}
use Rattle.lh_unit.specs.Within.{Each, InstWithin}
use Rattle.lh_unit.specs.declared.inst.ValueId.{ValueId}
use Rattle.lh_unit.specs.declared.inst.Inst.{Inst}
use Rattle.lh_unit.specs.declared.inst.Inst.TheVariants as inst
use Rattle.lh_term.specs.declared.part.Part.{Part}
use Rattle.lh_emit_def.specs.Emitted.{PartStep, Source, Emitted, gives, next_name, typed, takes_steps, with_part}
use Rattle.lh_emit_body.specs.Lines.{naming, line_text, most_lines, values_alone, LinesAreEmitted, LinesHaveRoom, NamesGrow, GivesValue, GivesOne}
use Rattle.std.specs.Prelude.{Result, Ok, Err}
use Rattle.std.specs.Result.{IsErrAnd, IfErr}
use Rattle.lh_emit.specs.Operands.{with_type}
use Rattle.lh_emit_source.specs.Origins.{AreStepsOf, step_text, route_text}
use Rattle.lh_emit.specs.Steps.{walk, walk_name, AllData, StillWalks, Walks, WalksNot}
use Rattle.lh_emit_body.specs.declared.lines.BodyLine.{BodyLine}
use Rattle.lh_emit_body.specs.declared.lines.EmitFault.{EmitFault}
use Rattle.lh_emit_body.specs.declared.lines.EmitFault.TheVariants as fault
use Rattle.lh_emit_body.specs.declared.lines.Lines.{Lines}
use Rattle.lh_emit_source.specs.declared.origin.RouteStep.{RouteStep}

-- the steps to a part are steps, and then the part has the name
pub takes-walk : (s : Source) (p : Part) (n : List ℕ) (xs : List PartStep) (e : Emitted) →
    takes_steps s p n xs e ≡ record (walk s n xs e) { parts = with_part (walk s n xs e).parts p (walk_name s n xs e) }
takes-walk s p n [] e = refl
takes-walk s p n (st ∷ more) e = takes-walk s p (next_name s e) more _

pub walk-parts : (s : Source) (n : List ℕ) (xs : List PartStep) (e : Emitted) → (walk s n xs e).parts ≡ e.parts
walk-parts s n [] e = refl
walk-parts s n (st ∷ more) e = walk-parts s (next_name s e) more _

pub walk-terms : (s : Source) (n : List ℕ) (xs : List PartStep) (e : Emitted) → (walk s n xs e).terms ≡ e.terms
walk-terms s n [] e = refl
walk-terms s n (st ∷ more) e = walk-terms s (next_name s e) more _

walk-longer : (s : Source) (n : List ℕ) (xs : List PartStep) (e : Emitted) → length e.lines ≤ length (walk s n xs e).lines
walk-longer s n [] e = omega arith
walk-longer s n (st ∷ more) e =
    let k : length (gives s (pure_text st.op (typed n (signal_type st.to.ty) ∷ [])) e).lines ≤ length (walk s n (st ∷ more) e).lines = walk-longer s (next_name s e) more _ in
    omega (arith, k, length-append {A = LineText})

-- as many instructions by ids
pub says-length : (s : Source) (ls : Lines) (e : Emitted) → LinesAreEmitted s.args ls e → length e.lines ≡ length ls.lines
says-length s ls e y = ap length (sym y.lines) ∙ map_length (line_text ls.names) ls.lines

pub grows-then : (a b c : List (List ℕ)) → NamesGrow a b → NamesGrow b c → NamesGrow a c
grows-then a b c (m, e) (n, f) = (m ++ n, f ∙ ap (λ xs. xs ++ n) e ∙ append_assoc a m n)

pub grows-same : (a b : List (List ℕ)) → b ≡ a → NamesGrow a b
grows-same a b e = ([], e ∙ sym (append-nil a))

-- the cause of a fault of one instruction
abbrev pub GivesFault : Lines → EmitFault → Type 0
GivesFault ls fault.OutOfMemory = Unit {0}
GivesFault ls fault.EntityTooLarge = length ls.lines ≡ most_lines

-- ---- one step

pub walks-first : (all : List RouteStep) (old : Lines) (from : ValueId) → LinesHaveRoom old → from.0 < length old.names → Walks all old from old from all
walks-first all old from room within = record {
  room = room;
  within = within;
  grows = grows-same old.names old.names refl;
  walks = λ s e xs y h. record { rest = xs; entity = e; says = y; steps = h; same = refl; name = refl };
}

-- the first one of steps that are left
pub record Heads (xs : List PartStep) (st : RouteStep) (left : List RouteStep) : Type 0 where
  pub head : PartStep
  pub tail : List PartStep
  pub is : xs ≡ head ∷ tail
  pub op : st.op ≡ head.op
  pub ty : st.ty ≡ head.to.ty
  pub steps : AreStepsOf tail left

heads : (xs : List PartStep) (st : RouteStep) (left : List RouteStep) → AreStepsOf xs (st ∷ left) → Heads xs st left
heads [] st left h = absurd cc
heads (x ∷ xs) st left h =
    let p : route_text st ≡ step_text x = cc in
    let r : map route_text left ≡ map step_text xs = cc in
    record { head = x; tail = xs; is = refl; op = ap (λ q. q.0) p; ty = ap (λ q. q.1) p; steps = r }

no-steps : (xs : List PartStep) → AreStepsOf xs [] → xs ≡ []
no-steps [] h = refl
no-steps (x ∷ xs) h = absurd cc

-- the entity after a step by ids
step-gives : (s : Source) (n : List ℕ) (x : PartStep) (st : RouteStep) (e : Emitted) → st.op ≡ x.op → st.ty ≡ x.to.ty →
    gives s (pure_text st.op (typed n (signal_type st.ty) ∷ [])) e ≡ gives s (pure_text x.op (typed n (signal_type x.to.ty) ∷ [])) e
step-gives s n x st e p q = λ i. gives s (pure_text (p i) (typed n (signal_type (q i)) ∷ [])) e

module _ (all : List RouteStep) (old : Lines) (from : ValueId) (now : Lines) (v : ValueId) (st : RouteStep) (left : List RouteStep) (w : Walks all old from now v (st ∷ left)) where
  abbrev step : Inst
  step = inst.Pure st.op (with_type (signal_type st.ty) v ∷ [])

  pub step-within : InstWithin (values_alone (length now.names)) step
  step-within = (w.within, tt)

  pub walks-next : (new : Lines) (u : ValueId) → GivesValue now step new u → Walks all old from new u left
  walks-next new u g = record {
    room = g.3;
    within = g.1;
    grows = grows-then old.names now.names new.names w.grows g.2;
    walks = λ s e xs y h. on s e xs (w.walks s e xs y h);
  }
    where
      on : (s : Source) (e : Emitted) (xs : List PartStep) → StillWalks s (value_text (naming old.names) from) xs e now v (st ∷ left)
          → StillWalks s (value_text (naming old.names) from) xs e new u left
      on s e xs k =
          let d = heads k.rest st left k.steps in
          let n = value_text (naming now.names) v in
          let one = g.0 s k.entity k.says in
          let after : gives s (inst_text (naming now.names) step) k.entity ≡ gives s (pure_text d.head.op (typed n (signal_type d.head.to.ty) ∷ [])) k.entity =
          step-gives s n d.head st k.entity d.op d.ty in
          record {
            rest = d.tail;
            entity = gives s (inst_text (naming now.names) step) k.entity;
            says = one.0;
            steps = d.steps;
            same = (λ i. walk s (one.1 i) d.tail (after i)) ∙ ap (λ ys. walk s n ys k.entity) (sym d.is) ∙ k.same;
            name = (λ i. walk_name s (one.1 i) d.tail (after i)) ∙ ap (λ ys. walk_name s n ys k.entity) (sym d.is) ∙ k.name;
          }

  -- no room for a step
  pub walks-not : length now.lines ≡ most_lines → WalksNot all old from fault.EntityTooLarge
  walks-not full s e xs y h =
      let k = w.walks s e xs y h in
      let d = heads k.rest st left k.steps in
      let n = value_text (naming now.names) v in
      let more : length (gives s (pure_text d.head.op (typed n (signal_type d.head.to.ty) ∷ [])) k.entity).lines ≤ length (walk s n (d.head ∷ d.tail) k.entity).lines =
      walk-longer s (next_name s k.entity) d.tail _ in
      let same : length (walk s n (d.head ∷ d.tail) k.entity).lines ≡ length (walk s (value_text (naming old.names) from) xs e).lines =
      ap (λ (z : Emitted). length z.lines) (ap (λ ys. walk s n ys k.entity) (sym d.is) ∙ k.same) in
      let len : length k.entity.lines ≡ most_lines = says-length s now k.entity k.says ∙ full in
      omega (arith, more, same, len, length-append {A = LineText})

-- the items of a list that has some
pub split-first : (xs : List RouteStep) (d : RouteStep) → 1 ≤ length xs → xs ≡ get_or xs 0 d ∷ take (length xs - 1) (drop 1 xs)
split-first [] d l = absurd (omega (arith, l))
split-first (x ∷ xs) d l = let e : length (x ∷ xs) - 1 ≡ length xs = omega arith in ap (λ ys. x ∷ ys) (sym (ap (λ n. take n xs) e ∙ take-length xs))

pub none-left : (xs : List RouteStep) → length xs < 1 → xs ≡ []
none-left [] l = refl
none-left (x ∷ xs) l = absurd (omega (arith, l))

-- ---- a step of a list that has some

head-is : (xs : List RouteStep) (st : RouteStep) → 1 ≤ length xs → st ≡ get_or xs 0 st → xs ≡ st ∷ take (length xs - 1) (drop 1 xs)
head-is xs st l e = split-first xs st l ∙ ap (λ y. y ∷ take (length xs - 1) (drop 1 xs)) (sym e)

module _ (all : List RouteStep) (old : Lines) (from : ValueId) (now : Lines) (v : ValueId) (xs : List RouteStep) (st : RouteStep) (i : Inst) (w : Walks all old from now v xs) (l : 1 ≤ length xs)
    (e : st ≡ get_or xs 0 st) (q : i ≡ inst.Pure st.op (with_type (signal_type st.ty) v ∷ [])) where
  at-head : Walks all old from now v (st ∷ take (length xs - 1) (drop 1 xs))
  at-head = subst (Walks all old from now v) (head-is xs st l e) w

  pub step-can : InstWithin (values_alone (length now.names)) i
  step-can = subst (InstWithin (values_alone (length now.names))) (sym q) (step-within all old from now v st (take (length xs - 1) (drop 1 xs)) at-head)

  pub walks-on : (new : Lines) (u : ValueId) → GivesValue now i new u → Walks all old from new u (take (length xs - 1) (drop 1 xs))
  walks-on new u g = walks-next all old from now v st (take (length xs - 1) (drop 1 xs)) at-head new u (subst (λ j. GivesValue now j new u) q g)

  -- a fault of a step is one of the whole
  pub walks-cause : (f : EmitFault) → GivesFault now f → WalksNot all old from f
  walks-cause fault.OutOfMemory h = tt
  walks-cause fault.EntityTooLarge h = walks-not all old from now v st (take (length xs - 1) (drop 1 xs)) at-head h

pub types-left : (xs : List RouteStep) → AllData xs → AllData (take (length xs - 1) (drop 1 xs))
types-left [] h = tt
types-left (x ∷ xs) h = let e : length (x ∷ xs) - 1 ≡ length xs = omega arith in subst AllData (sym (ap (λ n. take n xs) e ∙ take-length xs)) h.1

pub type-first : (xs : List RouteStep) (st : RouteStep) → AllData xs → 1 ≤ length xs → st ≡ get_or xs 0 st → IsData st.ty
type-first [] st h l e = absurd (omega (arith, l))
type-first (x ∷ xs) st h l e = subst (λ (y : RouteStep). IsData y.ty) (sym e) h.0

pub walks-end : (all : List RouteStep) (old : Lines) (from : ValueId) (now : Lines) (v : ValueId) (xs : List RouteStep) → Walks all old from now v xs → length xs < 1 → Walks all old from now v []
walks-end all old from now v xs w l = subst (Walks all old from now v) (none-left xs l) w

-- the fault of an instruction is the cause
pub gives-fault : (old new : Lines) (i : Inst) (f : EmitFault) → GivesOne old i new (Err f) → GivesFault old f
gives-fault old new i fault.OutOfMemory h = tt
gives-fault old new i fault.EntityTooLarge h = h

pub err-cause : {A : Type 0} (r : Result A EmitFault) (f : EmitFault) (P : EmitFault → Type 0) → IsErrAnd r (λ e. e ≡ f) → P f → IfErr r P
err-cause (Ok v) f P h p = tt
err-cause (Err e) f P h p = subst P (sym h) p
