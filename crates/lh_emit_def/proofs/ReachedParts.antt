-- Each part that a process names is reached by the steps that are found for it.
use Rattle.std.proofs.Common.{◌≡◌, ℕ, zero, suc, ◌+◌, ◌<◌, ◌≤◌, Bool, true, false, if◌then◌else◌, List, [], ◌∷◌, ◌++◌, length, Option, Some, None, slice_get, unwrap_or, refl, ap, sym, ◌∙◌, subst, arith, inl, inr, ◌⊎◌}
use Rattle.std.specs.Option.{option_and_then, option_map, is_some}
use Rattle.lh_types.specs.Types.{TypeTree, int_type, time_type, void_type, array_type, tuple_type, signal_type, pointer_type}
use Rattle.lh_types.specs.Parts.{Part as TypePart, step_part}
use Rattle.lh_types.specs.declared.op.Op.{Op}
use Rattle.lh_types.specs.declared.part.Step.{Step}
use Rattle.lh_unit.specs.Contents.{OperandText, InstText, pure_text, LineText, BlockText, ArgText, UnitText, is_result_name}
use Rattle.lh_unit_names.specs.Names.{same_name}
use Rattle.lh_unit.specs.Effects.{step_of}
use Rattle.lh_unit.specs.Hierarchy.{lines_of}
use Rattle.lh_unit.specs.Typing.{carried, or_else, line_giving, inst_giving}
use Rattle.lh_unit_names.proofs.NameLists.{same_name-is}
use Rattle.lh_unit.proofs.Lists.{some_inj}
use Rattle.lh_term.specs.Same.{same_part, same_part-is, same_part-refl}
use Rattle.lh_term.specs.declared.part.Part.{Part}
use Rattle.lh_emit_def.specs.Emitted.{PartStep, source_of}
use Rattle.lh_emit_def.specs.Ways.{part_by_step, part_by, StepsLead, IsReached}
use Rattle.lh_term.specs.Parts.{whole_argument}
use Rattle.lh_emit_def.specs.Reached.{Reached, as_argument, stepped_by, further, reached, steps_if, first_steps, steps_in, IsReachedPartOf}
use Rattle.lh_region_def.specs.Known.{argument_part}

-- ---- what is reached is reached by its steps

pub record Leads (u : UnitText) (r : Reached) : Type 0 where
  pub arg : ArgText
  pub carries : TypeTree
  pub there : slice_get u.args r.part.arg ≡ Some arg
  pub signal : arg.ty ≡ signal_type carries
  pub leads : StepsLead (whole_argument r.part.arg carries) r.steps r.part

record IsArgument (xs : List ArgText) (i : ℕ) (p : Part) : Type 0 where
  number : ℕ
  arg : ArgText
  carries : TypeTree
  there : slice_get xs number ≡ Some arg
  signal : arg.ty ≡ signal_type carries
  is : p ≡ whole_argument (i + number) carries

carried-is : (t c : TypeTree) → carried t ≡ Some c → t ≡ signal_type c
carried-is (signal_type t) c h = ap signal_type (some_inj t c h)
carried-is (int_type n) c h = absurd cc
carried-is time_type c h = absurd cc
carried-is void_type c h = absurd cc
carried-is (array_type n t) c h = absurd cc
carried-is (tuple_type r) c h = absurd cc
carried-is (pointer_type t) c h = absurd cc

argument-is : (n : List ℕ) (i : ℕ) (xs : List ArgText) (p : Part) → argument_part n i xs ≡ Some p → IsArgument xs i p
argument-is n i [] p h = absurd cc
argument-is n i (a ∷ more) p h = at (same_name a.name n) refl (argument-is n (i + 1) more p)
  where
    here : (o : Option TypeTree) → carried a.ty ≡ o → option_map (whole_argument i) o ≡ Some p → IsArgument (a ∷ more) i p
    here None q r = absurd cc
    here (Some c) q r =
        let z : i ≡ i + 0 = omega arith in
        record { number = 0; arg = a; carries = c; there = refl; signal = carried-is a.ty c q; is = sym (some_inj (whole_argument i c) p r) ∙ ap (λ k. whole_argument k c) z }

    at : (b : Bool) → same_name a.name n ≡ b → (argument_part n (i + 1) more ≡ Some p → IsArgument more (i + 1) p) → IsArgument (a ∷ more) i p
    at true q r = here (carried a.ty) refl (rw q at h)
    at false q r =
        let x = r (rw q at h) in
        let z : i + 1 + x.number ≡ i + suc x.number = omega arith in
        record { number = suc x.number; arg = x.arg; carries = x.carries; there = x.there; signal = x.signal; is = x.is ∙ ap (λ k. whole_argument k x.carries) z }

argument-leads : (u : UnitText) (n : List ℕ) (r : Reached) → as_argument u n ≡ Some r → Leads u r
argument-leads u n r h = at (argument_part n 0 u.args) refl h
  where
    at : (o : Option Part) → argument_part n 0 u.args ≡ o → option_map (λ p. let z : Reached = record { part = p; steps = [] } in z) o ≡ Some r → Leads u r
    at None q k = absurd cc
    at (Some p) q k =
        let x = argument-is n 0 u.args p q in
        let z : 0 + x.number ≡ x.number = omega arith in
        let w : p ≡ whole_argument x.number x.carries = x.is ∙ ap (λ m. whole_argument m x.carries) z in
        let y : Leads u (record { part = p; steps = [] }) = record {
          arg = x.arg;
          carries = x.carries;
          there = ap (λ (q : Part). slice_get u.args q.arg) w ∙ x.there;
          signal = x.signal;
          leads = ap (λ (q : Part). whole_argument q.arg x.carries) w ∙ sym w;
        } in
        subst (Leads u) (some_inj _ r k) y

steps-then : (p q to : Part) (ss : List PartStep) (o : Op) → StepsLead p ss q → part_by q o ≡ Some to → StepsLead p (ss ++ record { op = o; to = to } ∷ []) to
steps-then p q to [] o h k = (subst (λ (x : Part). part_by x o ≡ Some to) (sym h) k, refl)
steps-then p q to (st ∷ ss) o h k = (h.0, steps-then st.to q to ss o h.1 k)

part_by-arg : (q to : Part) (o : Op) → part_by q o ≡ Some to → to.arg ≡ q.arg
part_by-arg q to o h = at (step_of o) refl h
  where
    by : (x : Option TypePart) → option_map (λ (a : TypePart). let z : Part = record { arg = q.arg; lo = q.lo + a.lo; ty = a.of } in z) x ≡ Some to → to.arg ≡ q.arg
    by None k = absurd cc
    by (Some a) k = ap (λ (z : Part). z.arg) (sym (some_inj _ to k))

    at : (x : Option Step) → step_of o ≡ x → option_and_then (part_by_step q) x ≡ Some to → to.arg ≡ q.arg
    at None p k = absurd cc
    at (Some st) p k = by (step_part q.ty st) k

-- what an instruction gives
pub record Stepped (f : List ℕ → Option Reached) (i : Option InstText) (r : Reached) : Type 0 where
  pub op : Op
  pub operand : OperandText
  pub from : Reached
  pub is : i ≡ Some (pure_text op (operand ∷ []))
  pub reaches : f operand.value ≡ Some from
  pub steps : stepped_by op from ≡ Some r

pub further-is : (f : List ℕ → Option Reached) (i : Option InstText) (r : Reached) → further f i ≡ Some r → Stepped f i r
further-is f (Some (pure_text o (x ∷ []))) r h = at (f x.value) refl h
  where
    at : (z : Option Reached) → f x.value ≡ z → option_and_then (stepped_by o) z ≡ Some r → Stepped f (Some (pure_text o (x ∷ []))) r
    at None q k = absurd cc
    at (Some y) q k = record { op = o; operand = x; from = y; is = refl; reaches = q; steps = k }
further-is f _ r h = absurd cc

step-leads : (u : UnitText) (o : Op) (from r : Reached) → Leads u from → stepped_by o from ≡ Some r → Leads u r
step-leads u o from r l h = at (part_by from.part o) refl h
  where
    at : (x : Option Part) → part_by from.part o ≡ x → option_map (λ p. let z : Reached = record { part = p; steps = from.steps ++ record { op = o; to = p } ∷ [] } in z) x ≡ Some r → Leads u r
    at None q k = absurd cc
    at (Some to) q k =
        let a : to.arg ≡ from.part.arg = part_by-arg from.part to o q in
        let y : Leads u (record { part = to; steps = from.steps ++ record { op = o; to = to } ∷ [] }) = record {
          arg = l.arg;
          carries = l.carries;
          there = ap (λ n. slice_get u.args n) a ∙ l.there;
          signal = l.signal;
          leads = subst (λ n. StepsLead (whole_argument n l.carries) (from.steps ++ record { op = o; to = to } ∷ []) to) (sym a)
              (steps-then (whole_argument from.part.arg l.carries) from.part to from.steps o l.leads q);
        } in
        subst (Leads u) (some_inj _ r k) y

-- what is reached as an argument or by a step
or-else-is : (a b : Option Reached) (r : Reached) → or_else a b ≡ Some r → (a ≡ Some r) ⊎ ((a ≡ None) × (b ≡ Some r))
or-else-is None b r h = inr (refl, h)
or-else-is (Some x) b r h = inl h

pub reached-leads : (k : ℕ) (u : UnitText) (n : List ℕ) (r : Reached) → reached k u n ≡ Some r → Leads u r
reached-leads zero u n r h = argument-leads u n r h
reached-leads (suc k) u n r h = by (or-else-is (as_argument u n) (further (reached k u) (inst_giving n u.blocks)) r h) (λ m x e. reached-leads k u m x e)
  where
    by : (as_argument u n ≡ Some r) ⊎ ((as_argument u n ≡ None) × (further (reached k u) (inst_giving n u.blocks) ≡ Some r)) → ((m : List ℕ) (x : Reached) → reached k u m ≡ Some x → Leads u x)
        → Leads u r
    by (inl a) f = argument-leads u n r a
    by (inr b) f = let s = further-is (reached k u) (inst_giving n u.blocks) r b.1 in step-leads u s.op s.from r (f s.operand.value s.from s.reaches) s.steps

-- ---- more steps reach no less

further-more : (f g : List ℕ → Option Reached) → ((m : List ℕ) (x : Reached) → f m ≡ Some x → g m ≡ Some x) → (i : Option InstText) (r : Reached) → further f i ≡ Some r → further g i ≡ Some r
further-more f g h i r e =
    let s = further-is f i r e in
    ap (further g) s.is ∙ ap (option_and_then (stepped_by s.op)) (h s.operand.value s.from s.reaches) ∙ s.steps

pub one-more : (k : ℕ) (u : UnitText) (n : List ℕ) (r : Reached) → reached k u n ≡ Some r → reached (suc k) u n ≡ Some r
one-more zero u n r h = ap (λ o. or_else o (further (reached zero u) (inst_giving n u.blocks))) h
one-more (suc k) u n r h = by (or-else-is (as_argument u n) (further (reached k u) (inst_giving n u.blocks)) r h) (λ m x e. one-more k u m x e)
  where
    by : (as_argument u n ≡ Some r) ⊎ ((as_argument u n ≡ None) × (further (reached k u) (inst_giving n u.blocks) ≡ Some r)) →
        ((m : List ℕ) (x : Reached) → reached k u m ≡ Some x → reached (suc k) u m ≡ Some x) → reached (suc (suc k)) u n ≡ Some r
    by (inl a) f = ap (λ o. or_else o (further (reached (suc k) u) (inst_giving n u.blocks))) a
    by (inr b) f = ap (λ o. or_else o (further (reached (suc k) u) (inst_giving n u.blocks))) b.0 ∙ further-more (reached k u) (reached (suc k) u) f (inst_giving n u.blocks) r b.1

-- ---- how many lines are reached

-- the result of a line is reached
abbrev is_met : (List ℕ → Option Reached) → LineText → Bool
is_met f l = is_some (option_and_then f l.result)

abbrev count : (List ℕ → Option Reached) → List LineText → ℕ
count f [] = 0
count f (l ∷ more) = if is_met f l then suc (count f more) else count f more

count-within : (f : List ℕ → Option Reached) (ls : List LineText) → count f ls ≤ length ls
count-within f [] = omega arith
count-within f (l ∷ more) = at (is_met f l) (count-within f more)
  where
    at : (b : Bool) → count f more ≤ length more → (if b then suc (count f more) else count f more) ≤ suc (length more)
    at true h = omega (arith, h)
    at false h = omega (arith, h)

abbrev AtLeast : (f g : List ℕ → Option Reached) → Type 0
AtLeast f g = (m : List ℕ) (x : Reached) → f m ≡ Some x → g m ≡ Some x

met-more : (f g : List ℕ → Option Reached) → AtLeast f g → (o : Option (List ℕ)) → is_some (option_and_then f o) ≡ true → is_some (option_and_then g o) ≡ true
met-more f g h None e = e
met-more f g h (Some n) e = at (f n) refl e
  where
    at : (x : Option Reached) → f n ≡ x → is_some x ≡ true → is_some (g n) ≡ true
    at None q k = absurd cc
    at (Some r) q k = ap is_some (h n r q)

count-more : (f g : List ℕ → Option Reached) → AtLeast f g → (ls : List LineText) → count f ls ≤ count g ls
count-more f g h [] = omega arith
count-more f g h (l ∷ more) = at (is_met f l) (is_met g l) refl refl (count-more f g h more)
  where
    at : (a b : Bool) → is_met f l ≡ a → is_met g l ≡ b → count f more ≤ count g more → (if a then suc (count f more) else count f more) ≤ (if b then suc (count g more) else count g more)
    at true true p q k = omega (arith, k)
    at true false p q k = let z : true ≡ false = sym (met-more f g h l.result p) ∙ q in absurd cc
    at false true p q k = omega (arith, k)
    at false false p q k = k

-- one of the lines gives the name
abbrev Given : List ℕ → List LineText → Type 0
Given n [] = ⊥
Given n (l ∷ more) = (l.result ≡ Some n) ⊎ Given n more

line-given : (n : List ℕ) (ls : List LineText) (i : InstText) → line_giving n ls ≡ Some i → Given n ls
line-given n [] i h = absurd cc
line-given n (l ∷ more) i h = at (is_result_name n l.result) refl (line-given n more i)
  where
    named : (o : Option (List ℕ)) → is_result_name n o ≡ true → o ≡ Some n
    named None q = absurd cc
    named (Some m) q = ap Some (same_name-is m n q)

    at : (b : Bool) → is_result_name n l.result ≡ b → (line_giving n more ≡ Some i → Given n more) → Given n (l ∷ more)
    at true q r = inl (named l.result q)
    at false q r = inr (r (rw q at h))

given-before : (n : List ℕ) (xs ys : List LineText) → Given n xs → Given n (xs ++ ys)
given-before n [] ys h = absurd h
given-before n (l ∷ xs) ys (inl e) = inl e
given-before n (l ∷ xs) ys (inr h) = inr (given-before n xs ys h)

given-after : (n : List ℕ) (xs ys : List LineText) → Given n ys → Given n (xs ++ ys)
given-after n [] ys h = h
given-after n (l ∷ xs) ys h = inr (given-after n xs ys h)

inst-given : (n : List ℕ) (bs : List BlockText) (i : InstText) → inst_giving n bs ≡ Some i → Given n (lines_of bs)
inst-given n [] i h = absurd cc
inst-given n (b ∷ bs) i h = at (line_giving n b.lines) refl h (inst-given n bs i)
  where
    at : (o : Option InstText) → line_giving n b.lines ≡ o → or_else o (inst_giving n bs) ≡ Some i → (inst_giving n bs ≡ Some i → Given n (lines_of bs)) → Given n (b.lines ++ lines_of bs)
    at None q k r = given-after n b.lines (lines_of bs) (r k)
    at (Some j) q k r = given-before n b.lines (lines_of bs) (line-given n b.lines j q)

count-one : (f g : List ℕ → Option Reached) → AtLeast f g → (n : List ℕ) (r : Reached) (ls : List LineText) → f n ≡ None → g n ≡ Some r → Given n ls → count f ls < count g ls
count-one f g h n r [] a b k = absurd k
count-one f g h n r (l ∷ more) a b (inl e) =
    let p : is_met f l ≡ false = ap (λ o. is_some (option_and_then f o)) e ∙ ap is_some a in
    let q : is_met g l ≡ true = ap (λ o. is_some (option_and_then g o)) e ∙ ap is_some b in
    let m = count-more f g h more in
    rw (p, q) (omega (arith, m))
count-one f g h n r (l ∷ more) a b (inr k) = at (is_met f l) (is_met g l) refl refl (count-one f g h n r more a b k)
  where
    at : (x y : Bool) → is_met f l ≡ x → is_met g l ≡ y → count f more < count g more → (if x then suc (count f more) else count f more) < (if y then suc (count g more) else count g more)
    at true true p q k = omega (arith, k)
    at true false p q k = let z : true ≡ false = sym (met-more f g h l.result p) ∙ q in absurd cc
    at false true p q k = omega (arith, k)
    at false false p q k = k

-- ---- as many steps as lines are enough

module _ (u : UnitText) where
  abbrev lines : List LineText
  lines = lines_of u.blocks

  -- the name is reached with one more step, and not with this many
  record IsNew (k : ℕ) (n : List ℕ) : Type 0 where
    way : Reached
    before : reached k u n ≡ None
    after : reached (suc k) u n ≡ Some way

  grows : (k : ℕ) → AtLeast (reached k u) (reached (suc k) u)
  grows k m x e = one-more k u m x e

  -- it is no argument, so a line gives it
  new-step : (k : ℕ) (n : List ℕ) → (v : IsNew k n) → (as_argument u n ≡ None) × (further (reached k u) (inst_giving n u.blocks) ≡ Some v.way)
  new-step k n v = by (or-else-is (as_argument u n) (further (reached k u) (inst_giving n u.blocks)) v.way v.after)
    where
      argument : (k : ℕ) → as_argument u n ≡ Some v.way → reached k u n ≡ Some v.way
      argument zero a = a
      argument (suc k) a = ap (λ o. or_else o (further (reached k u) (inst_giving n u.blocks))) a

      by : (as_argument u n ≡ Some v.way) ⊎ ((as_argument u n ≡ None) × (further (reached k u) (inst_giving n u.blocks) ≡ Some v.way)) →
          (as_argument u n ≡ None) × (further (reached k u) (inst_giving n u.blocks) ≡ Some v.way)
      by (inl a) = let z : None ≡ Some v.way = sym v.before ∙ argument k a in absurd cc
      by (inr b) = b

  new-given : (k : ℕ) (n : List ℕ) → IsNew k n → Given n lines
  new-given k n v =
      let s = further-is (reached k u) (inst_giving n u.blocks) v.way (new-step k n v).1 in
      inst-given n u.blocks _ s.is

  -- and what it is a step from is new with one step fewer
  new-from : (k : ℕ) (n : List ℕ) → IsNew (suc k) n → (m : List ℕ) × IsNew k m
  new-from k n v =
      let t = new-step (suc k) n v in
      let s = further-is (reached (suc k) u) (inst_giving n u.blocks) v.way t.1 in
      at s t.0 (reached k u s.operand.value) refl
    where
      at : (s : Stepped (reached (suc k) u) (inst_giving n u.blocks) v.way) → as_argument u n ≡ None → (o : Option Reached) → reached k u s.operand.value ≡ o → (m : List ℕ) × IsNew k m
      at s a None q = (s.operand.value, record { way = s.from; before = q; after = s.reaches })
      at s a (Some r) q =
          let e : Some r ≡ Some s.from = sym (one-more k u s.operand.value r q) ∙ s.reaches in
          let f : reached (suc k) u n ≡ Some v.way =
          ap (λ o. or_else o (further (reached k u) (inst_giving n u.blocks))) a ∙ ap (further (reached k u)) s.is ∙ ap (option_and_then (stepped_by s.op)) (q ∙ e) ∙ s.steps in
          let z : None ≡ Some v.way = sym v.before ∙ f in absurd cc

  new-counted : (k : ℕ) (n : List ℕ) → IsNew k n → k ≤ count (reached k u) lines
  new-counted zero n v = omega arith
  new-counted (suc k) n v =
      let m = new-from k n v in
      let a = new-counted k m.0 m.1 in
      let b = count-one (reached k u) (reached (suc k) u) (grows k) m.0 m.1.way lines m.1.before m.1.after (new-given k m.0 m.1) in
      omega (arith, a, b)

  -- a name that is new with one more step needs fewer steps than there are lines
  new-few : (k : ℕ) (n : List ℕ) → IsNew k n → k < length lines
  new-few k n v =
      let a = new-counted k n v in
      let b = count-one (reached k u) (reached (suc k) u) (grows k) n v.way lines v.before v.after (new-given k n v) in
      omega (arith, a, b, count-within (reached (suc k) u) lines)

  enough : (d : ℕ) (n : List ℕ) (r : Reached) → reached (d + length lines) u n ≡ Some r → reached (length lines) u n ≡ Some r
  enough zero n r h = let z : 0 + length lines ≡ length lines = omega arith in ap (λ k. reached k u n) (sym z) ∙ h
  enough (suc d) n r h = at (reached (d + length lines) u n) refl (enough d n)
    where
      next : suc d + length lines ≡ suc (d + length lines)
      next = omega arith

      at : (o : Option Reached) → reached (d + length lines) u n ≡ o → ((x : Reached) → reached (d + length lines) u n ≡ Some x → reached (length lines) u n ≡ Some x)
          → reached (length lines) u n ≡ Some r
      at None q f = absurd (let l = new-few (d + length lines) n (record { way = r; before = q; after = ap (λ k. reached k u n) (sym next) ∙ h }) in omega (arith, l))
      at (Some x) q f =
          let e : Some x ≡ Some r = sym (one-more (d + length lines) u n x q) ∙ ap (λ k. reached k u n) (sym next) ∙ h in
          f x q ∙ e

  more-steps : (d k : ℕ) (n : List ℕ) (r : Reached) → reached k u n ≡ Some r → reached (d + k) u n ≡ Some r
  more-steps zero k n r h = let z : 0 + k ≡ k = omega arith in ap (λ j. reached j u n) z ∙ h
  more-steps (suc d) k n r h = let z : suc d + k ≡ suc (d + k) = omega arith in ap (λ j. reached j u n) z ∙ one-more (d + k) u n r (more-steps d k n r h)

  -- with fewer steps than lines, and with more
  pub in-few : (k : ℕ) (n : List ℕ) (r : Reached) → reached k u n ≡ Some r → reached (length lines) u n ≡ Some r
  in-few k n r h =
      let z : k + length lines ≡ length lines + k = omega arith in
      enough k n r (ap (λ j. reached j u n) z ∙ more-steps (length lines) k n r h)

-- ---- the steps that are found

pub record Found (f : List ℕ → Option Reached) (p : Part) (ss : List PartStep) : Type 0 where
  pub name : List ℕ
  pub way : Reached
  pub reaches : f name ≡ Some way
  pub part : way.part ≡ p
  pub steps : way.steps ≡ ss

pub if-found : (f : List ℕ → Option Reached) (p : Part) (o : Option (List ℕ)) (ss : List PartStep) → steps_if p (option_and_then f o) ≡ Some ss → (x : Found f p ss) × (o ≡ Some x.name)
if-found f p None ss h = absurd cc
if-found f p (Some n) ss h = at (f n) refl h
  where
    by : (r : Reached) → f n ≡ Some r → (b : Bool) → same_part r.part p ≡ b → (if b then Some r.steps else None) ≡ Some ss → (x : Found f p ss) × (Some n ≡ Some x.name)
    by r q true e k = (record { name = n; way = r; reaches = q; part = same_part-is r.part p e; steps = some_inj r.steps ss k }, refl)
    by r q false e k = absurd cc

    at : (x : Option Reached) → f n ≡ x → steps_if p x ≡ Some ss → (x : Found f p ss) × (Some n ≡ Some x.name)
    at None q k = absurd cc
    at (Some r) q k = by r q (same_part r.part p) refl k

first-found : (f : List ℕ → Option Reached) (p : Part) (ls : List LineText) (ss : List PartStep) → first_steps f p ls ≡ Some ss → Found f p ss
first-found f p [] ss h = absurd cc
first-found f p (l ∷ more) ss h = at (steps_if p (option_and_then f l.result)) refl h (first-found f p more ss)
  where
    at : (x : Option (List PartStep)) → steps_if p (option_and_then f l.result) ≡ x → or_else x (first_steps f p more) ≡ Some ss → (first_steps f p more ≡ Some ss → Found f p ss) → Found f p ss
    at None q k r = r k
    at (Some s) q k r = (if-found f p l.result ss (q ∙ k)).0

-- a line whose result is the part gives its steps
pub given-steps : (f : List ℕ → Option Reached) (p : Part) (n : List ℕ) (r : Reached) (o : Option (List ℕ)) → f n ≡ Some r → r.part ≡ p → o ≡ Some n → steps_if p (option_and_then f o) ≡ Some r.steps
given-steps f p n r o a e q =
    ap (λ o. steps_if p (option_and_then f o)) q ∙ ap (steps_if p) a ∙ ap (λ (x : Part). if same_part x p then Some r.steps else None) e
    ∙ ap (λ b. if b then Some r.steps else None) (same_part-refl p)

-- a line whose result is the part is found, or an earlier one
finds : (f : List ℕ → Option Reached) (p : Part) (n : List ℕ) (r : Reached) (ls : List LineText) → f n ≡ Some r → r.part ≡ p → Given n ls → (ss : List PartStep) × (first_steps f p ls ≡ Some ss)
finds f p n r [] a e g = absurd g
finds f p n r (l ∷ more) a e (inl q) =
    (r.steps, ap (λ o. or_else o (first_steps f p more)) (given-steps f p n r l.result a e q))
finds f p n r (l ∷ more) a e (inr g) = at (steps_if p (option_and_then f l.result)) (finds f p n r more a e g)
  where
    at : (x : Option (List PartStep)) → (ss : List PartStep) × (first_steps f p more ≡ Some ss) → (ss : List PartStep) × (or_else x (first_steps f p more) ≡ Some ss)
    at None h = h
    at (Some s) h = (s, refl)

found-leads : (u : UnitText) (p : Part) (r : Reached) (ss : List PartStep) → Leads u r → r.part ≡ p → r.steps ≡ ss → steps_in u p ≡ ss → IsReached (source_of u (steps_in u)) p
found-leads u p r ss l e s q = record {
  arg = l.arg;
  carries = l.carries;
  there = ap (λ (x : Part). slice_get u.args x.arg) (sym e) ∙ l.there;
  signal = l.signal;
  leads = subst (λ zs. StepsLead (whole_argument p.arg l.carries) zs p) (s ∙ sym q) (subst (λ (x : Part). StepsLead (whole_argument x.arg l.carries) r.steps x) e l.leads);
}

-- it is an argument, or a line gives it
named-how : (u : UnitText) (k : ℕ) (n : List ℕ) (r : Reached) → reached k u n ≡ Some r → (as_argument u n ≡ Some r) ⊎ Given n (lines_of u.blocks)
named-how u zero n r h = inl h
named-how u (suc k) n r h = by (or-else-is (as_argument u n) (further (reached k u) (inst_giving n u.blocks)) r h)
  where
    by : (as_argument u n ≡ Some r) ⊎ ((as_argument u n ≡ None) × (further (reached k u) (inst_giving n u.blocks) ≡ Some r)) → (as_argument u n ≡ Some r) ⊎ Given n (lines_of u.blocks)
    by (inl a) = inl a
    by (inr b) = inr (inst-given n u.blocks _ (further-is (reached k u) (inst_giving n u.blocks) r b.1).is)

argument-steps : (u : UnitText) (n : List ℕ) (r : Reached) → as_argument u n ≡ Some r → r.steps ≡ []
argument-steps u n r h = at (argument_part n 0 u.args) h
  where
    at : (o : Option Part) → option_map (λ p. let z : Reached = record { part = p; steps = [] } in z) o ≡ Some r → r.steps ≡ []
    at None k = absurd cc
    at (Some p) k = ap (λ (z : Reached). z.steps) (sym (some_inj _ r k))

-- Each part that has a name is reached by the steps that are found for it.
pub part-reached : (u : UnitText) (n : List ℕ) (p : Part) → IsReachedPartOf u n p → IsReached (source_of u (steps_in u)) p
part-reached u n p h = at (first_steps (reached (length (lines_of u.blocks)) u) p (lines_of u.blocks)) refl
  where
    by : first_steps (reached (length (lines_of u.blocks)) u) p (lines_of u.blocks) ≡ None → (as_argument u n ≡ Some h.way) ⊎ Given n (lines_of u.blocks) → IsReached (source_of u (steps_in u)) p
    by q (inl a) = found-leads u p h.way [] (reached-leads h.count u n h.way h.is_reached) h.is_part (argument-steps u n h.way a) (ap (λ o. unwrap_or o []) q)
    by q (inr g) =
        let x = finds (reached (length (lines_of u.blocks)) u) p n h.way (lines_of u.blocks) (in-few u h.count n h.way h.is_reached) h.is_part g in
        let z : None ≡ Some x.0 = sym q ∙ x.1 in absurd cc

    at : (o : Option (List PartStep)) → first_steps (reached (length (lines_of u.blocks)) u) p (lines_of u.blocks) ≡ o → IsReached (source_of u (steps_in u)) p
    at (Some ss) q =
        let x = first-found (reached (length (lines_of u.blocks)) u) p (lines_of u.blocks) ss q in
        found-leads u p x.way ss (reached-leads (length (lines_of u.blocks)) u x.name x.way x.reaches) x.part x.steps (ap (λ o. unwrap_or o []) q)
    at None q = by q (named-how u h.count n h.way h.is_reached)
