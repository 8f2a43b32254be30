-- What a table has after steps and arguments were put into it.
use Rattle.std.proofs.Common.{◌≡◌, ℕ, zero, suc, ◌+◌, ◌<◌, Bool, true, false, nat_eq, if◌then◌else◌, List, [], ◌∷◌, ◌++◌, length, get_or, set, replicate, Option, Some, None, refl, ap, sym, ◌∙◌, subst, length-set, get_or-set_same, get_or-set_other, append_assoc}
use Rattle.std.proofs.lemmas.List.{length-replicate}
use Rattle.std.specs.Option.{option_map}
use Rattle.lh_unit.specs.Typing.{carried, or_else}
use Rattle.lh_unit.specs.Within.{Each}
use Rattle.lh_unit.specs.declared.inst.ValueId.{ValueId}
use Rattle.lh_unit.specs.declared.inst.Arg.{Arg}
use Rattle.lh_unit.proofs.Lists.{Same, same, other, same_or, nat_eq-refl, nat_eq-other, Each-left, Each-right}
use Rattle.lh_term.specs.declared.part.Part.{Part}
use Rattle.lh_flat.specs.declared.flat.FlatInst.{FlatInst}
use Rattle.lh_flat.specs.declared.flat.FlatBlock.{FlatBlock}
use Rattle.lh_flat_parts.specs.declared.step.PartStep.{PartStep}
use Rattle.lh_flat_parts.specs.Steps.{step_in, if_result, step_giving, with_result, step_results, insts_in, argument_from, StepWithin, step_at, part_at}
use Rattle.lh_term.specs.Parts.{whole_argument}
use Rattle.lh_types.specs.Types.{IsData}
use Rattle.lh_flat_parts.specs.Resolving.{with_step, with_steps, with_part, with_args, StepsCarry, PartsCarry}

or-assoc : {A : Type 0} (a b c : Option A) → or_else a (or_else b c) ≡ or_else (or_else a b) c
or-assoc (Some x) b c = refl
or-assoc None b c = refl

if-none : {A : Type 0} (b : Bool) (o : Option A) → o ≡ or_else (if b then None else None) o
if-none true o = refl
if-none false o = refl

at-set : {A : Type 0} (xs : List (Option A)) (i j : ℕ) (x : A) → i < length xs → get_or (set xs i (Some x)) j None ≡ or_else (if nat_eq i j then Some x else None) (get_or xs j None)
at-set {A} xs i j x h = by (same_or i j)
  where
    by : Same i j → get_or (set xs i (Some x)) j None ≡ or_else (if nat_eq i j then Some x else None) (get_or xs j None)
    by (same e) =
        subst (λ (k : ℕ). get_or (set xs i (Some x)) k None ≡ or_else (if nat_eq i k then Some x else None) (get_or xs k None)) e
        (get_or-set_same xs i (Some x) None h ∙ ap (λ (b : Bool). or_else (if b then Some x else None) (get_or xs i None)) (sym (nat_eq-refl i)))
    by (other n) = get_or-set_other xs i j (Some x) None (λ e. n (sym e)) ∙ ap (λ (b : Bool). or_else (if b then Some x else None) (get_or xs j None)) (sym (nat_eq-other i j n))

pub at-none : {A : Type 0} (n v : ℕ) → get_or {A = Option A} (replicate n None) v None ≡ None
at-none zero v = refl
at-none (suc n) zero = refl
at-none (suc n) (suc v) = at-none n v

-- ---- steps

pub length-step : (ss : List (Option PartStep)) (r : Option ValueId) (x : Option PartStep) → length (with_step ss r x) ≡ length ss
length-step ss None x = refl
length-step ss (Some v) None = refl
length-step ss (Some v) (Some s) = length-set ss v.0 (Some s)

step-with : (n : ℕ) (ss : List (Option PartStep)) (r : Option ValueId) (x : Option PartStep) (v : ℕ) → length ss ≡ n → StepWithin n r x
    → step_at (with_step ss r x) v ≡ or_else (if_result v r x) (step_at ss v)
step-with n ss None x v e h = refl
step-with n ss (Some w) None v e h = if-none (nat_eq w.0 v) (step_at ss v)
step-with n ss (Some w) (Some s) v e h = at-set ss w.0 v s (subst (λ (k : ℕ). w.0 < k) (sym e) h.0)

pub length-steps : (ss : List (Option PartStep)) (ls : List FlatInst) → length (with_steps ss ls) ≡ length ss
length-steps ss [] = refl
length-steps ss (l ∷ more) = length-steps (with_step ss l.result (step_in l.inst)) more ∙ length-step ss l.result (step_in l.inst)

pub steps-with : (n : ℕ) (ss : List (Option PartStep)) (ls : List FlatInst) (v : ℕ) → length ss ≡ n → Each (λ (l : FlatInst). StepWithin n l.result (step_in l.inst)) ls
    → step_at (with_steps ss ls) v ≡ or_else (step_giving ls v) (step_at ss v)
steps-with n ss [] v e h = refl
steps-with n ss (l ∷ more) v e h =
    steps-with n (with_step ss l.result (step_in l.inst)) more v (length-step ss l.result (step_in l.inst) ∙ e) h.1
    ∙ ap (or_else (step_giving more v)) (step-with n ss l.result (step_in l.inst) v e h.0)
    ∙ or-assoc (step_giving more v) (if_result v l.result (step_in l.inst)) (step_at ss v)

pub steps-append : (ss : List (Option PartStep)) (xs ys : List FlatInst) → with_steps ss (xs ++ ys) ≡ with_steps (with_steps ss xs) ys
steps-append ss [] ys = refl
steps-append ss (l ∷ more) ys = steps-append (with_step ss l.result (step_in l.inst)) more ys

result-append : (r : Option ValueId) (x : Option PartStep) (vs ws : List ValueId) → with_result r x (vs ++ ws) ≡ with_result r x vs ++ ws
result-append None x vs ws = refl
result-append (Some v) None vs ws = refl
result-append (Some v) (Some s) vs ws = refl

pub results-append : (xs ys : List FlatInst) → step_results (xs ++ ys) ≡ step_results xs ++ step_results ys
results-append [] ys = refl
results-append (l ∷ more) ys = ap (with_result l.result (step_in l.inst)) (results-append more ys) ∙ result-append l.result (step_in l.inst) (step_results more) (step_results ys)

-- the results so far, and one more line
pub results-line : (before : List ValueId) (l : FlatInst) (more : List FlatInst) → (before ++ with_result l.result (step_in l.inst) []) ++ step_results more ≡ before ++ step_results (l ∷ more)
results-line before l more = append_assoc before (with_result l.result (step_in l.inst) []) (step_results more)
    ∙ ap (λ (r : List ValueId). before ++ r) (sym (result-append l.result (step_in l.inst) [] (step_results more)))

-- the results so far, and one more block
pub results-block : (before : List ValueId) (b : FlatBlock) (more : List FlatBlock) → (before ++ step_results b.insts) ++ step_results (insts_in more) ≡ before ++ step_results (insts_in (b ∷ more))
results-block before b more = append_assoc before (step_results b.insts) (step_results (insts_in more)) ∙ ap (λ (r : List ValueId). before ++ r) (sym (results-append b.insts (insts_in more)))

-- ---- arguments

part-with : (ps : List (Option Part)) (w : ℕ) (o : Option Part) (v : ℕ) → w < length ps → part_at (with_part ps w o) v ≡ or_else (if nat_eq w v then o else None) (part_at ps v)
part-with ps w None v h = if-none (nat_eq w v) (part_at ps v)
part-with ps w (Some p) v h = at-set ps w v p h

pub length-part : (ps : List (Option Part)) (w : ℕ) (o : Option Part) → length (with_part ps w o) ≡ length ps
length-part ps w None = refl
length-part ps w (Some p) = length-set ps w (Some p)

pub length-args : (ps : List (Option Part)) (k : ℕ) (args : List Arg) → length (with_args ps k args) ≡ length ps
length-args ps k [] = refl
length-args ps k (a ∷ more) = length-args (with_part ps a.value.0 (option_map (whole_argument k) (carried a.ty))) (k + 1) more ∙ length-part ps a.value.0 (option_map (whole_argument k) (carried a.ty))

pub args-with : (n : ℕ) (ps : List (Option Part)) (k : ℕ) (args : List Arg) (v : ℕ) → length ps ≡ n → Each (λ (a : Arg). a.value.0 < n) args
    → part_at (with_args ps k args) v ≡ or_else (argument_from k args v) (part_at ps v)
args-with n ps k [] v e h = refl
args-with n ps k (a ∷ more) v e h =
    let o = option_map (whole_argument k) (carried a.ty) in
    args-with n (with_part ps a.value.0 o) (k + 1) more v (length-part ps a.value.0 o ∙ e) h.1
    ∙ ap (or_else (argument_from (k + 1) more v)) (part-with ps a.value.0 o v (subst (λ (m : ℕ). a.value.0 < m) (sym e) h.0))
    ∙ or-assoc (argument_from (k + 1) more v) (if nat_eq a.value.0 v then o else None) (part_at ps v)

-- ---- blocks

-- the steps of some blocks were taken, and these blocks are left
pub record Taking (n : ℕ) (g : List (Option PartStep)) (r : List ValueId) (rest all : List FlatBlock) : Type 0 where
  pub given : with_steps g (insts_in rest) ≡ with_steps (replicate n None) (insts_in all)
  pub results : r ++ step_results (insts_in rest) ≡ step_results (insts_in all)
  pub long : length g ≡ n
  pub within : Each (λ (l : FlatInst). StepWithin n l.result (step_in l.inst)) (insts_in rest)

pub Taking-within : (n : ℕ) (g : List (Option PartStep)) (r : List ValueId) (rest all : List FlatBlock) (b : FlatBlock) (more : List FlatBlock) → rest ≡ b ∷ more → Taking n g r rest all
    → Each (λ (l : FlatInst). StepWithin (length g) l.result (step_in l.inst)) b.insts
Taking-within n g r rest all b more e t =
    subst (λ (k : ℕ). Each (λ (l : FlatInst). StepWithin k l.result (step_in l.inst)) b.insts) (sym t.long)
    (Each-left (λ (l : FlatInst). StepWithin n l.result (step_in l.inst)) b.insts (insts_in more)
    (subst (λ (bs : List FlatBlock). Each (λ (l : FlatInst). StepWithin n l.result (step_in l.inst)) (insts_in bs)) e t.within))

pub Taking-block : (n : ℕ) (g h : List (Option PartStep)) (r s : List ValueId) (rest all : List FlatBlock) (b : FlatBlock) (more : List FlatBlock) → rest ≡ b ∷ more → h ≡ with_steps g b.insts
    → s ≡ r ++ step_results b.insts → Taking n g r rest all → Taking n h s more all
Taking-block n g h r s rest all b more e p q t = record {
  given = ap (λ (x : List (Option PartStep)). with_steps x (insts_in more)) p ∙ sym (steps-append g b.insts (insts_in more)) ∙ ap (λ (bs : List FlatBlock). with_steps g (insts_in bs)) (sym e)
      ∙ t.given;
  results = ap (λ (x : List ValueId). x ++ step_results (insts_in more)) q ∙ results-block r b more ∙ ap (λ (bs : List FlatBlock). r ++ step_results (insts_in bs)) (sym e) ∙ t.results;
  long = ap length p ∙ length-steps g b.insts ∙ t.long;
  within =
      Each-right (λ (l : FlatInst). StepWithin n l.result (step_in l.inst)) b.insts (insts_in more)
      (subst (λ (bs : List FlatBlock). Each (λ (l : FlatInst). StepWithin n l.result (step_in l.inst)) (insts_in bs)) e t.within);
}

-- ---- lines and arguments, one after the other

-- the steps of some lines were taken, and these lines are left
pub record TakingLines (n : ℕ) (old g : List (Option PartStep)) (was r : List ValueId) (rest all : List FlatInst) : Type 0 where
  pub given : with_steps g rest ≡ with_steps old all
  pub results : r ++ step_results rest ≡ was ++ step_results all
  pub long : length g ≡ n
  pub within : Each (λ (l : FlatInst). StepWithin n l.result (step_in l.inst)) rest
  pub carried : StepsCarry old → StepsCarry g

pub TakingLines-line : (n : ℕ) (old g h : List (Option PartStep)) (was r s : List ValueId) (rest all : List FlatInst) (l : FlatInst) (more : List FlatInst) → rest ≡ l ∷ more
    → h ≡ with_step g l.result (step_in l.inst) → s ≡ r ++ with_result l.result (step_in l.inst) [] → (StepsCarry g → StepsCarry h) → TakingLines n old g was r rest all
    → TakingLines n old h was s more all
TakingLines-line n old g h was r s rest all l more e p q f t = record {
  given = ap (λ (x : List (Option PartStep)). with_steps x more) p ∙ ap (with_steps g) (sym e) ∙ t.given;
  results = ap (λ (x : List ValueId). x ++ step_results more) q ∙ results-line r l more ∙ ap (λ (x : List FlatInst). r ++ step_results x) (sym e) ∙ t.results;
  long = ap length p ∙ length-step g l.result (step_in l.inst) ∙ t.long;
  within = (subst (Each (λ (x : FlatInst). StepWithin n x.result (step_in x.inst))) e t.within).1;
  carried = λ c. f (t.carried c);
}

-- some arguments were put, and these are left
pub record TakingArgs (n : ℕ) (ps : List (Option Part)) (k : ℕ) (rest all : List Arg) : Type 0 where
  pub parts : with_args ps k rest ≡ with_args (replicate n None) 0 all
  pub long : length ps ≡ n
  pub within : Each (λ (a : Arg). a.value.0 < n) rest
  pub carried : PartsCarry ps

pub TakingArgs-arg : (n : ℕ) (ps qs : List (Option Part)) (k : ℕ) (rest all : List Arg) (a : Arg) (more : List Arg) → rest ≡ a ∷ more
    → qs ≡ with_part ps a.value.0 (option_map (whole_argument k) (carried a.ty)) → (PartsCarry ps → PartsCarry qs) → TakingArgs n ps k rest all → TakingArgs n qs (k + 1) more all
TakingArgs-arg n ps qs k rest all a more e q f t = record {
  parts = ap (λ (x : List (Option Part)). with_args x (k + 1) more) q ∙ ap (with_args ps k) (sym e) ∙ t.parts;
  long = ap length q ∙ length-part ps a.value.0 (option_map (whole_argument k) (carried a.ty)) ∙ t.long;
  within = (subst (Each (λ (x : Arg). x.value.0 < n)) e t.within).1;
  carried = f t.carried;
}

pub TakingArgs-none : (n : ℕ) (all : List Arg) → Each (λ (a : Arg). a.value.0 < n) all → TakingArgs n (replicate n None) 0 all all
TakingArgs-none n all w = record { parts = refl; long = length-replicate n None; within = w; carried = λ v p e. none v p (at-none n v ∙ refl) e }
  where
    none : (v : ℕ) (p : Part) → part_at (replicate n None) v ≡ None → part_at (replicate n None) v ≡ Some p → IsData p.ty × (p.lo ≡ 0)
    none v p f e = cc

pub TakingLines-within : (n : ℕ) (old g : List (Option PartStep)) (was r : List ValueId) (rest all : List FlatInst) (l : FlatInst) (more : List FlatInst) → rest ≡ l ∷ more
    → TakingLines n old g was r rest all → StepWithin (length g) l.result (step_in l.inst)
TakingLines-within n old g was r rest all l more e t =
    subst (λ (k : ℕ). StepWithin k l.result (step_in l.inst)) (sym t.long) (subst (Each (λ (x : FlatInst). StepWithin n x.result (step_in x.inst))) e t.within).0

pub TakingArgs-within : (n : ℕ) (ps : List (Option Part)) (k : ℕ) (rest all : List Arg) (a : Arg) (more : List Arg) → rest ≡ a ∷ more → TakingArgs n ps k rest all → a.value.0 < length ps
TakingArgs-within n ps k rest all a more e t = subst (λ (m : ℕ). a.value.0 < m) (sym t.long) (subst (Each (λ (x : Arg). x.value.0 < n)) e t.within).0
