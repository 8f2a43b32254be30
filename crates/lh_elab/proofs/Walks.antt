-- What is still to be visited, as the definition visits it.
use Rattle.std.proofs.Common.{◌≡◌, ℕ, zero, suc, ◌+◌, ◌<◌, List, [], ◌∷◌, ◌++◌, map, sum_by, Some, refl, ap, sym, ◌∙◌, arith}
use Rattle.std.proofs.lemmas.List.Sums.{sum_by-cons}
use Rattle.lh_types.specs.Types.{bit_count}
use Rattle.lh_types.specs.declared.part.Range.{Range}
use Rattle.lh_unit_names.specs.declared.name.UnitName.{UnitName}
use Rattle.lh_unit.specs.declared.inst.Arg.{Arg}
use Rattle.lh_unit.specs.Naming.{Naming, arg_text}
use Rattle.lh_unit.specs.Arena.{Arena, unit_count, args_at, naming, unit_name_at}
use Rattle.lh_unit.specs.Hierarchy.{Child, Entry}
use Rattle.lh_unit.specs.Design.{Design, hierarchy_in, arg_ranges, visit, visit_all, visited}
use Rattle.lh_unit.specs.Within.{Each}
use Rattle.lh_elab_plan.specs.declared.plan.PlanChild.{PlanChild}
use Rattle.lh_elab.specs.declared.build.Pending.{Pending}
use Rattle.lh_elab_plan.specs.Plans.{child_of, low_at}
use Rattle.lh_elab.specs.Builds.{ranges_by, kid, kids, kids_in}

-- the visit of an instance that is pending
abbrev pub gone : Arena → List Entry → Pending → Design → Design
gone a table p d = visited (visit p.room table) p.parent (unit_name_at a p.unit.0) (hierarchy_in table (unit_name_at a p.unit.0)) p.args d

-- the visits of all that are pending, the last of them first
abbrev pub unwound : Arena → List Entry → List Pending → Design → Design
unwound a table [] d = d
unwound a table (p ∷ ps) d = gone a table p (unwound a table ps d)

pub unwound-append : (a : Arena) (table : List Entry) (ps qs : List Pending) (d : Design) → unwound a table (ps ++ qs) d ≡ unwound a table ps (unwound a table qs d)
unwound-append a table [] qs d = refl
unwound-append a table (p ∷ ps) qs d = ap (gone a table p) (unwound-append a table ps qs d)

pub ranges-read : (f : Naming) (xs : List Arg) (lows : List ℕ) → arg_ranges (map (arg_text f) xs) lows ≡ ranges_by xs lows
ranges-read f [] lows = refl
ranges-read f (x ∷ xs) [] = ap (λ l. record { lo = 0; len = bit_count x.ty } ∷ l) (ranges-read f xs [])
ranges-read f (x ∷ xs) (lo ∷ lows) = ap (λ l. record { lo = lo; len = bit_count x.ty } ∷ l) (ranges-read f xs lows)

-- the arguments of each unit are read
abbrev pub ReadsArgs : Arena → List Entry → Type 0
ReadsArgs a table = (u : ℕ) → u < unit_count a → (hierarchy_in table (unit_name_at a u)).args ≡ map (arg_text (naming a u)) (args_at a u)

visit-none : (table : List Entry) (n : ℕ) (cs : List Child) (d : Design) → visit_all (visit 0 table n) cs d ≡ d
unfolding visit
visit-none table n [] d = refl
visit-none table n (c ∷ cs) d = visit-none table n cs d

module _ (a : Arena) (table : List Entry) (r : ReadsArgs a table) (n : ℕ) (args sigs : List Range) where
  kid-goes : (k : ℕ) (c : PlanChild) (d : Design) → c.unit.0 < unit_count a → gone a table (kid a n k args sigs c) d ≡ visit (suc k) table n (child_of a args sigs c) d
  unfolding visit
  kid-goes k c d l =
      let lows = map (low_at args sigs) c.lows.items in
      let e : ranges_by (args_at a c.unit.0) lows ≡ arg_ranges (hierarchy_in table (unit_name_at a c.unit.0)).args lows =
      sym (ranges-read (naming a c.unit.0) (args_at a c.unit.0) lows) ∙ ap (λ xs. arg_ranges xs lows) (sym (r c.unit.0 l)) in
      ap (λ rs. visited (visit k table) (Some n) (unit_name_at a c.unit.0) (hierarchy_in table (unit_name_at a c.unit.0)) rs d) e

  kids-go : (k : ℕ) (cs : List PlanChild) (d : Design) → Each (λ (c : PlanChild). c.unit.0 < unit_count a) cs
      → unwound a table (kids a n k args sigs cs) d ≡ visit_all (visit (suc k) table n) (map (child_of a args sigs) cs) d
  kids-go k [] d l = refl
  kids-go k (c ∷ cs) d l =
      unwound-append a table (kids a n k args sigs cs) (kid a n k args sigs c ∷ []) d
      ∙ ap (unwound a table (kids a n k args sigs cs)) (kid-goes k c d l.0)
      ∙ kids-go k cs (visit (suc k) table n (child_of a args sigs c) d) l.1

  pub kids-visited : (k : ℕ) (cs : List PlanChild) (d : Design) → Each (λ (c : PlanChild). c.unit.0 < unit_count a) cs
      → unwound a table (kids_in a n k args sigs cs) d ≡ visit_all (visit k table n) (map (child_of a args sigs) cs) d
  kids-visited zero cs d l = sym (visit-none table n (map (child_of a args sigs) cs) d)
  kids-visited (suc k) cs d l = kids-go k cs d l

-- the sum of something over what is pending, by room and name
abbrev pub left : Arena → (ℕ → UnitName → ℕ) → List Pending → ℕ
left a F [] = 0
left a F (p ∷ ps) = F (suc p.room) (unit_name_at a p.unit.0) + left a F ps

pub left-append : (a : Arena) (F : ℕ → UnitName → ℕ) (ps qs : List Pending) → left a F (ps ++ qs) ≡ left a F ps + left a F qs
left-append a F [] qs = let e : 0 + left a F qs ≡ left a F qs = omega arith in sym e
left-append a F (p ∷ ps) qs = let e = left-append a F ps qs in omega arith

module _ (a : Arena) (F : ℕ → UnitName → ℕ) (none : (n : UnitName) → F 0 n ≡ 0) (n : ℕ) (args sigs : List Range) where
  all-none : (cs : List Child) → sum_by (λ (x : UnitName). F 0 x) (map (λ (c : Child). c.unit) cs) ≡ 0
  all-none [] = refl
  all-none (c ∷ cs) = let e = sum_by-cons (λ (x : UnitName). F 0 x) c.unit (map (λ (y : Child). y.unit) cs) in let f = all-none cs in omega (arith, e, f, none c.unit)

  kids-left : (k : ℕ) (cs : List PlanChild) → left a F (kids a n k args sigs cs) ≡ sum_by (F (suc k)) (map (λ (c : Child). c.unit) (map (child_of a args sigs) cs))
  kids-left k [] = refl
  kids-left k (c ∷ cs) =
      let e = left-append a F (kids a n k args sigs cs) (kid a n k args sigs c ∷ []) in
      let f = kids-left k cs in
      let g = sum_by-cons (F (suc k)) (unit_name_at a c.unit.0) (map (λ (y : Child). y.unit) (map (child_of a args sigs) cs)) in
      omega (arith, e, f, g)

  -- so much is left of the instances in an instance
  pub kids-count : (k : ℕ) (cs : List PlanChild) → left a F (kids_in a n k args sigs cs) ≡ sum_by (F k) (map (λ (c : Child). c.unit) (map (child_of a args sigs) cs))
  kids-count zero cs = sym (all-none (map (child_of a args sigs) cs))
  kids-count (suc k) cs = kids-left k cs
