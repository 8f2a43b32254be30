-- Recursion, depth and counts over names are those over ids.
use Rattle.std.proofs.Common.{◌≡◌, ℕ, zero, suc, ◌+◌, ◌<◌, ◌≤◌, inl, inr, min, Bool, true, false, ◌||◌, nat_eq, if◌then◌else◌, List, [], ◌∷◌, ◌++◌, length, map, sum_by, Option, Some, None, refl, ap, sym, ◌∙◌, subst, arith}
use Rattle.std.specs.List.{list_any}
use Rattle.std.specs.Option.{option_map, option_map_or}
use Rattle.std.proofs.lemmas.List.Sums.{sum_by-cons, sum_by-append}
use Rattle.lh_unit_names.specs.declared.name.UnitName.{UnitName}
use Rattle.lh_unit.specs.declared.inst.UnitId.{UnitId}
use Rattle.lh_unit_names.specs.UnitNames.{same_unit_name, is_assert}
use Rattle.lh_unit.specs.Typing.{or_else}
use Rattle.lh_unit.specs.Contents.{InstText, call_text, LineText, BlockText, UnitText}
use Rattle.lh_unit.specs.Named.{function_named}
use Rattle.lh_unit.specs.Hierarchy.{lines_of}
use Rattle.lh_unit.specs.Within.{Each}
use Rattle.lh_unit.specs.Design.{is_one_of, first_some, cycle_at}
use Rattle.lh_unit.proofs.Lists.{nat_eq-other}
use Rattle.lh_verify_laws.specs.Graphs.{met_or, is_open, IsIn}
use Rattle.lh_flat.specs.declared.calls.CallNode.{CallNode}
use Rattle.lh_flat.specs.Calls.{callee_if, callees_in, callees, callees_of, recursion_from, nest_deeper}
use Rattle.lh_flat.specs.Graph.{max_counted, node_at, callees_at}
use Rattle.lh_flat.specs.Measures.{measuring}
use Rattle.lh_flat.specs.Lengths.{called_length, copy_length}
use Rattle.lh_verify_laws.proofs.Graphs.{Distinct, no_longer, is_open-in}
use Rattle.lh_verify_laws.proofs.Capped.{both_capped}
use Rattle.lh_unit_graph.specs.Measures.{cycle_in}
use Rattle.lh_flat.proofs.MeasureSums.{nests, insts_in}

-- a unit that is called is another than the top, and the function of its name has its text
pub record IsCalled (fs : List UnitText) (name : ℕ → UnitName) (text : ℕ → UnitText) (top : ℕ) (n : ℕ) (t : UnitId) : Type 0 where
  pub within : t.0 < n
  pub not_top : top ≡ t.0 → ⊥
  pub named : function_named (name t.0) fs ≡ Some (text t.0)

-- a graph by ids stands for these functions and a process, where ids have these names and texts
pub record StandsFor (fs : List UnitText) (name : ℕ → UnitName) (text : ℕ → UnitText) (top : ℕ) (g : List CallNode) : Type 0 where
  pub same : (v w : ℕ) → v < length g → w < length g → same_unit_name (name v) (name w) ≡ nat_eq v w
  pub called : (u : ℕ) → u < length g → Each (IsCalled fs name text top (length g)) (callees_at g u)
  pub callees_are : (u : ℕ) → u < length g → callees (text u) ≡ map (λ (t : UnitId). name t.0) (callees_at g u)
  pub insts_are : (u : ℕ) → u < length g → min (node_at g u).insts max_counted ≡ min (sum_by (λ (b : BlockText). length b.lines) (text u).blocks) max_counted
  pub blocks_are : (u : ℕ) → u < length g → min (node_at g u).blocks max_counted ≡ min (length (text u).blocks + length (callees_at g u)) max_counted

-- ---- lists of names and of ids

any-named : {P : UnitId → Type 0} (name : ℕ → UnitName) (F : UnitName → Bool) (G : UnitId → Bool) (ts : List UnitId) → ((t : UnitId) → P t → F (name t.0) ≡ G t) → Each P ts
    → list_any F (map (λ (t : UnitId). name t.0) ts) ≡ list_any G ts
any-named name F G [] f h = refl
any-named name F G (t ∷ ts) f h = ap (λ b. b || list_any F (map (λ (x : UnitId). name x.0) ts)) (f t h.0) ∙ ap (λ b. G t || b) (any-named name F G ts f h.1)

pub capped-named : {P : UnitId → Type 0} (e : ℕ) (name : ℕ → UnitName) (F : UnitName → ℕ) (G : UnitId → ℕ) (ts : List UnitId) → ((t : UnitId) → P t → min (F (name t.0)) e ≡ min (G t) e) → Each P ts
    → min (sum_by F (map (λ (t : UnitId). name t.0) ts)) e ≡ min (sum_by G ts) e
capped-named e name F G [] f h = refl
capped-named e name F G (t ∷ ts) f h =
    ap (λ s. min s e) (sum_by-cons F (name t.0) (map (λ (x : UnitId). name x.0) ts))
    ∙ both_capped (F (name t.0)) (sum_by F (map (λ (x : UnitId). name x.0) ts)) (G t) (sum_by G ts) e (f t h.0) (capped-named e name F G ts f h.1)
    ∙ sym (ap (λ s. min s e) (sum_by-cons G t ts))

first-named : {P : UnitId → Type 0} (name : ℕ → UnitName) (F : UnitName → Option UnitName) (G : UnitId → Option ℕ) (ts : List UnitId) → ((t : UnitId) → P t → F (name t.0) ≡ option_map name (G t))
    → Each P ts → first_some F (map (λ (t : UnitId). name t.0) ts) ≡ option_map name (first_some G ts)
first-named name F G [] f h = refl
first-named name F G (t ∷ ts) f h =
    ap (λ x. or_else x (first_some F (map (λ (y : UnitId). name y.0) ts))) (f t h.0)
    ∙ ap (or_else (option_map name (G t))) (first-named name F G ts f h.1)
    ∙ sym (mapped (G t) (first_some G ts))
  where
    mapped : (p q : Option ℕ) → option_map name (or_else p q) ≡ or_else (option_map name p) (option_map name q)
    mapped None q = refl
    mapped (Some x) q = refl

first-same : {P : UnitId → Type 0} (F G : UnitId → Option ℕ) (ts : List UnitId) → ((t : UnitId) → P t → F t ≡ G t) → Each P ts → first_some F ts ≡ first_some G ts
first-same F G [] f h = refl
first-same F G (t ∷ ts) f h = ap (λ x. or_else x (first_some F ts)) (f t h.0) ∙ ap (or_else (G t)) (first-same F G ts f h.1)

-- ---- what is counted of blocks apart from what they call

pub sum-apart : (F : BlockText → ℕ) (F' : UnitName → ℕ) (bs : List BlockText) → sum_by (λ (b : BlockText). F b + sum_by F' (callees_in b.lines)) bs ≡ sum_by F bs + sum_by F' (callees_in (lines_of bs))
sum-apart F F' [] = refl
sum-apart F F' (b ∷ bs) =
    sum_by-cons (λ (x : BlockText). F x + sum_by F' (callees_in x.lines)) b bs
    ∙ ap (λ n. F b + sum_by F' (callees_in b.lines) + n) (sum-apart F F' bs)
    ∙ moved (F b) (sum_by F' (callees_in b.lines)) (sum_by F bs) (sum_by F' (callees_in (lines_of bs)))
    ∙ ap (λ n. n + (sum_by F' (callees_in b.lines) + sum_by F' (callees_in (lines_of bs)))) (sym (sum_by-cons F b bs))
    ∙ ap (λ n. sum_by F (b ∷ bs) + n) (sym (ap (sum_by F') (callees-append b.lines (lines_of bs)) ∙ sum_by-append F' (callees_in b.lines) (callees_in (lines_of bs))))
  where
    moved : (a b c d : ℕ) → a + b + (c + d) ≡ (a + c) + (b + d)
    moved a b c d = omega arith

    callees-append : (xs ys : List LineText) → callees_in (xs ++ ys) ≡ callees_in xs ++ callees_in ys
    callees-append [] ys = refl
    callees-append (x ∷ xs) ys = ap (callee_if x.inst) (callees-append xs ys) ∙ behind x.inst (callees_in xs) (callees_in ys)
      where
        behind : (i : InstText) (m n : List UnitName) → callee_if i (m ++ n) ≡ callee_if i m ++ n
        behind (call_text f r args) m n = by (is_assert f)
          where
            by : (b : Bool) → (if b then m ++ n else f ∷ (m ++ n)) ≡ (if b then m else f ∷ m) ++ n
            by true = refl
            by false = refl
        behind _ m n = refl

-- ---- depth

module _ (fs : List UnitText) (name : ℕ → UnitName) (text : ℕ → UnitText) (top : ℕ) (g : List CallNode) (o : StandsFor fs name text top g) where
  abbrev Called : UnitId → Type 0
  Called t = IsCalled fs name text top (length g) t

  -- what a function calls that is called
  callees-of : (t : UnitId) → Called t → callees_of fs (name t.0) ≡ callees (text t.0)
  callees-of t c = ap (λ f. option_map_or callees f []) c.named

  pub nests-named : (k u : ℕ) → u < length g → nest_deeper k fs (callees (text u)) ≡ nests (suc k) g u
  nests-named zero u l = ap (list_any (λ f. true)) (o.callees_are u l) ∙ any-named name (λ f. true) (λ t. true) (callees_at g u) (λ t c. refl) (o.called u l)
  nests-named (suc k) u l =
      ap (list_any (λ f. nest_deeper k fs (callees_of fs f))) (o.callees_are u l)
      ∙ any-named name (λ f. nest_deeper k fs (callees_of fs f)) (λ (t : UnitId). nests (suc k) g t.0) (callees_at g u)
      (λ t c. ap (nest_deeper k fs) (callees-of t c) ∙ nests-named k t.0 c.within) (o.called u l)

  -- ---- recursion

  -- open functions are ids of the graph
  abbrev pub AllBelow : List ℕ → Type 0
  AllBelow xs = Each (λ x. x < length g) xs

  -- a function is open by its name where it is by its id; the top is open by its id alone
  open-named : (xs : List ℕ) (t : UnitId) → AllBelow xs → Called t → is_one_of (map name xs) (name t.0) ≡ is_open (xs ++ top ∷ []) t.0
  open-named [] t h c = sym (ap (λ b. b || false) (nat_eq-other top t.0 c.not_top))
  open-named (x ∷ xs) t h c = ap (λ b. b || is_one_of (map name xs) (name t.0)) (o.same x t.0 h.0 c.within) ∙ ap (λ b. nat_eq x t.0 || b) (open-named xs t h.1 c)

  met-named : (F : UnitName → Option UnitName) (G : ℕ → Option ℕ) (b c : Bool) (t : ℕ) → b ≡ c → F (name t) ≡ option_map name (G t) → cycle_at F b (name t) ≡ option_map name (met_or G c t)
  met-named F G b true t e f = ap (λ x. cycle_at F x (name t)) e
  met-named F G b false t e f = ap (λ x. cycle_at F x (name t)) e ∙ f

  pub recursion-named : (k : ℕ) (xs opened : List ℕ) (u : ℕ) → u ∷ opened ≡ xs ++ top ∷ [] → AllBelow xs → u < length g
      → recursion_from k fs (map name xs) (callees (text u)) ≡ option_map name (cycle_in measuring k g opened u)
  recursion-named zero xs opened u e h l = refl
  recursion-named (suc k) xs opened u e h l =
      ap (first_some (λ f. cycle_at (λ n. recursion_from k fs (n ∷ map name xs) (callees_of fs n)) (is_one_of (map name xs) f) f)) (o.callees_are u l)
      ∙ first-named name (λ f. cycle_at (λ n. recursion_from k fs (n ∷ map name xs) (callees_of fs n)) (is_one_of (map name xs) f) f) (λ (t : UnitId). met_or (cycle_in measuring k g (u ∷ opened))
      (is_open (u ∷ opened) t.0) t.0) (callees_at g u)
      (λ t c. met-named (λ n. recursion_from k fs (n ∷ map name xs) (callees_of fs n)) (cycle_in measuring k g (u ∷ opened)) (is_one_of (map name xs) (name t.0)) (is_open (u ∷ opened) t.0) t.0
      (open-named xs t h c ∙ sym (ap (λ ys. is_open ys t.0) e))
      (ap (recursion_from k fs (map name (t.0 ∷ xs))) (callees-of t c) ∙ recursion-named k (t.0 ∷ xs) (u ∷ opened) t.0 (ap (λ ys. t.0 ∷ ys) e) (c.within, h) c.within))
      (o.called u l)

  -- no more units are open than may be: the search finds the same at each number of steps from there on
  module _ (may : List ℕ) (all : (u : ℕ) → Each (λ (t : UnitId). IsIn may t.0) (callees_at g u)) where
    too_few : (n : ℕ) (opened : List ℕ) → Distinct (n ∷ opened) → ((v : ℕ) → IsIn (n ∷ opened) v → IsIn may v) → length may ≤ 0 + length opened → ⊥
    too_few n opened d i h = omega (arith, no_longer (n ∷ opened) may d i)

    pub cycle-stays : (k j : ℕ) (opened : List ℕ) (n : ℕ) → Distinct (n ∷ opened) → ((v : ℕ) → IsIn (n ∷ opened) v → IsIn may v) → length may ≤ k + length opened → length may ≤ j + length opened
        → cycle_in measuring k g opened n ≡ cycle_in measuring j g opened n
    cycle-stays zero j opened n d i h q = absurd (too_few n opened d i h)
    cycle-stays (suc k) zero opened n d i h q = absurd (too_few n opened d i q)
    cycle-stays (suc k) (suc j) opened n d i h q =
        first-same (λ (t : UnitId). met_or (cycle_in measuring k g (n ∷ opened)) (is_open (n ∷ opened) t.0) t.0) (λ (t : UnitId). met_or (cycle_in measuring j g (n ∷ opened)) (is_open (n ∷ opened) t.0) t.0)
        (callees_at g n)
        (λ t c. by t c (is_open (n ∷ opened) t.0) refl (λ f. cycle-stays k j (n ∷ opened) t.0 (f, d) (inside t c) (moved k (length may) h) (moved j (length may) q))) (all n)
      where
        moved : (m p : ℕ) → p ≤ suc m + length opened → p ≤ m + length (n ∷ opened)
        moved m p l = omega arith

        inside : (t : UnitId) → IsIn may t.0 → (v : ℕ) → IsIn (t.0 ∷ n ∷ opened) v → IsIn may v
        inside t c v (inl z) = subst (IsIn may) z c
        inside t c v (inr z) = i v z

        by : (t : UnitId) → IsIn may t.0 → (b : Bool) → is_open (n ∷ opened) t.0 ≡ b → ((IsIn (n ∷ opened) t.0 → ⊥) → cycle_in measuring k g (n ∷ opened) t.0 ≡ cycle_in measuring j g (n ∷ opened) t.0)
            → met_or (cycle_in measuring k g (n ∷ opened)) b t.0 ≡ met_or (cycle_in measuring j g (n ∷ opened)) b t.0
        by t c true e f = refl
        by t c false e f = f (λ z. let y : is_open (n ∷ opened) t.0 ≡ true = is_open-in (n ∷ opened) t.0 z in cc)

  -- ---- lengths

  pub length-named : (k u : ℕ) → u < length g → min (copy_length k fs (text u)) max_counted ≡ min (insts_in k g u) max_counted
  length-named zero u l = refl
  length-named (suc k) u l =
      ap (λ n. min n max_counted) (sum-apart (λ (b : BlockText). length b.lines) (called_length (copy_length k fs) fs) (text u).blocks)
      ∙ both_capped (sum_by (λ (b : BlockText). length b.lines) (text u).blocks) (sum_by (called_length (copy_length k fs) fs) (callees (text u))) (node_at g u).insts (sum_by
      (λ (t : UnitId). insts_in k g t.0) (callees_at g u)) max_counted
      (sym (o.insts_are u l))
      (ap (λ ns. min (sum_by (called_length (copy_length k fs) fs) ns) max_counted) (o.callees_are u l)
      ∙ capped-named max_counted name (called_length (copy_length k fs) fs) (λ (t : UnitId). insts_in k g t.0) (callees_at g u)
      (λ t c. ap (λ f. min (option_map_or (copy_length k fs) f 0) max_counted) c.named ∙ length-named k t.0 c.within) (o.called u l))
