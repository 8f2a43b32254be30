-- What a pass knows of the probes of arguments and of what compares them, and triggers that do not fire.
use Rattle.std.proofs.Common.{◌≡◌, ◌⊎◌, inl, inr, ℕ, List, [], ◌∷◌, ◌++◌, map, Bool, true, false, ◌&&◌, nat_eq, if◌then◌else◌, unwrap_or, Option, Some, None, IsSome, refl, ap, sym, ◌∙◌, subst}
use Rattle.std.specs.Option.{option_and_then, option_map}
use Rattle.std.proofs.lemmas.Option.{same_Some}
use Rattle.lh_time.specs.declared.Instant.{Instant}
use Rattle.lh_types.specs.Values.{Datum, int_value}
use Rattle.lh_types.specs.Apply.{apply}
use Rattle.lh_types.specs.declared.op.Op.{Op}
use Rattle.lh_types.specs.declared.op.Op.TheVariants.{Eq}
use Rattle.lh_types.specs.declared.part.Range.{Range}
use Rattle.lh_types.proofs.Tests.{not_both}
use Rattle.lh_unit.specs.Contents.{OperandText, TriggerText, InstText, const_text, pure_text, prb_text, drv_text, reg_text, ArgText, UnitText, args_define}
use Rattle.lh_unit_names.specs.Names.{same_name}
use Rattle.lh_unit.specs.Typing.{line_giving, carried, or_else}
use Rattle.lh_unit.specs.Held.{Held, datum_held, part_held, nothing_held, with_args, Env, as_datum, as_part, as_test, datum_at, part_at, test_at, with_held, front}
use Rattle.lh_unit.specs.Effects.{operated, read_bits, probed, condition_at}
use Rattle.lh_unit.specs.Hierarchy.{lines_of, if_held, with_parts, signal_names}
use Rattle.lh_unit.specs.Pass.{Passed, mode_holds, past_of, trigger_now, fires, stored, triggers_from, passes}
use Rattle.lh_unit_names.proofs.NameLists.{same_name-is}
use Rattle.lh_eval_laws.proofs.NamedOnce.{IsFirst}
use Rattle.lh_eval_laws.proofs.FitLaws.{triggers-hold}
use Rattle.lh_react.specs.Quiet.{test_of, BeginsBy, IsProbe, IsProbedBit, IsProbedInt, IsComparedBit, IsKnownBit, KnowsProbes, KnowsCompared, KnowsProbedBits, IsShut, HoldsBack}
use Rattle.lh_eval.proofs.ValuesFit.{test-truth}

not-there : (o : Option Bool) → o ≡ None → IsSome o → ⊥
not-there None e s = absurd cc
not-there (Some b) e s = absurd cc

no-datum : (o : Option Datum) → o ≡ None → IsSome o → ⊥
no-datum None e s = absurd cc
no-datum (Some d) e s = absurd cc

test-same : (v k w l : ℕ) → as_test (apply Eq (int_value v k ∷ int_value w l ∷ [])) ≡ Some (nat_eq v w && nat_eq k l)
unfolding apply
test-same v k w l = test-truth (nat_eq v w && nat_eq k l)

module _ (u : UnitText) (now : List Bool) (begun : Env) where
  probed-same : (e : Env) (s : OperandText) → part_at e s.value ≡ part_at begun s.value → probed now e s ≡ probed now begun s
  probed-same e s q = ap (read_bits now (option_and_then carried s.ty)) q

  -- a result is not the name of an argument
  not-argument : (m v : List ℕ) → args_define m u.args ≡ false → args_define v u.args ≡ true → same_name m v ≡ false
  not-argument m v other arg = by (same_name m v) refl
    where
      by : (b : Bool) → same_name m v ≡ b → b ≡ false
      by false q = refl
      by true q = absurd (not_both (args_define v u.args) arg (ap (λ x. args_define x u.args) (sym (same_name-is m v q)) ∙ other))

  result-known : (e : Env) (m : List ℕ) (h : Held) (i : InstText) (n : List ℕ) (s : OperandText) → line_giving m (lines_of u.blocks) ≡ Some i
      → ((x : OperandText) → i ≡ prb_text x → Some h ≡ probed now e x) → IsProbe u n s
      → part_at e s.value ≡ part_at begun s.value → (datum_at e n ≡ None) ⊎ (e n ≡ probed now begun s)
      → (b : Bool) → same_name m n ≡ b → (option_and_then as_datum (if b then Some h else e n) ≡ None) ⊎ ((if b then Some h else e n) ≡ probed now begun s)
  result-known e m h i n s giving gives x part value true q =
      let same : Some i ≡ Some (prb_text s) = sym giving ∙ ap (λ y. line_giving y (lines_of u.blocks)) (same_name-is m n q) ∙ x.given in
      inr (gives s (same_Some i (prb_text s) same) ∙ probed-same e s part)
  result-known e m h i n s giving gives x part value false q = value

  -- what an instruction gives is held under its result
  given-known : (e : Env) (r : Option (List ℕ)) (o : Option Held) (i : InstText) → IsFirst u.args (lines_of u.blocks) (record { result = r; inst = i })
      → ((s : OperandText) → i ≡ prb_text s → o ≡ probed now e s) → KnowsProbes u now begun e
      → KnowsProbes u now begun (if_held e r o)
  given-known e None None i f gives k = k
  given-known e None (Some h) i f gives k = k
  given-known e (Some m) None i f gives k = k
  given-known e (Some m) (Some h) i f gives k = λ n s x.
      let other : same_name m s.value ≡ false = not-argument m s.value (f m refl).0 x.argument in
      record {
        part = ap (λ (b : Bool). option_and_then as_part (if b then Some h else e s.value)) other ∙ (k n s x).part;
        value = result-known e m h i n s (f m refl).1 gives x (k n s x).part (k n s x).value (same_name m n) refl;
      }

  -- a pass still knows the probes after each instruction
  passes-probes : (memory : Option (List Bool)) (t : Instant) (p : Passed) (i : InstText) (r : Option (List ℕ))
      → IsFirst u.args (lines_of u.blocks) (record { result = r; inst = i }) → KnowsProbes u now begun p.held
      → KnowsProbes u now begun (passes u now memory t i r p).held
  passes-probes memory t p (const_text d) r f k = given-known p.held r (Some (datum_held d)) (const_text d) f (λ s q. absurd cc) k
  passes-probes memory t p (pure_text o args) r f k = given-known p.held r _ (pure_text o args) f (λ s q. absurd cc) k
  passes-probes memory t p (prb_text x) r f k = given-known p.held r (probed now p.held x) (prb_text x) f
      (λ s q. let same : x ≡ s = cc in ap (probed now p.held) same) k
  passes-probes memory t p (drv_text to value after cond) r f k = k
  passes-probes memory t p (reg_text to gs) r f k = subst (KnowsProbes u now begun) (sym (triggers-hold memory t to false p gs)) k
  passes-probes memory t p _ r f k = k

  -- both operands of a comparison are values
  both-there : (p q : Option Datum) → IsSome (or_else (option_map (λ ds. datum_held (apply Eq ds)) (front p (front q (Some [])))) None) → IsSome p × IsSome q
  both-there (Some a) (Some b) s = (refl, refl)
  both-there (Some a) None s = absurd cc
  both-there None q s = absurd cc

  -- what is held of an operand that is known
  held-known : (e : Env) (x : OperandText) (w k : ℕ) → KnowsProbes u now begun e → IsProbedInt u now begun x.value w k → IsSome (datum_at e x.value)
      → e x.value ≡ Some (datum_held (int_value w k))
  held-known e x w k knows is there = by (knows x.value is.signal is.probe).value
    where
      by : (datum_at e x.value ≡ None) ⊎ (e x.value ≡ probed now begun is.signal) → e x.value ≡ Some (datum_held (int_value w k))
      by (inl missing) = absurd (no-datum (datum_at e x.value) missing there)
      by (inr same) = same ∙ is.int

  -- what a comparison gives
  compared-test : (e : Env) (x y : OperandText) (v k w l : ℕ) → e x.value ≡ Some (datum_held (int_value v k)) → e y.value ≡ Some (datum_held (int_value w l))
      → test_of (operated u e Eq (x ∷ y ∷ [])) ≡ Some (nat_eq v w && nat_eq k l)
  compared-test e x y v k w l left right =
      let F : Option Held → Option Held → Option Bool = λ p q. test_of
      (or_else (option_map (λ ds. datum_held (apply Eq ds)) (front (option_and_then as_datum p) (front (option_and_then as_datum q) (Some [])))) None) in
      ap (λ (p : Option Held). F p (e y.value)) left ∙ ap (F (Some (datum_held (int_value v k)))) right ∙ test-same v k w l

  result-compared : (e : Env) (m : List ℕ) (h : Held) (i : InstText) (n : List ℕ) (b : Bool) → line_giving m (lines_of u.blocks) ≡ Some i
      → ((x y : OperandText) → i ≡ pure_text Eq (x ∷ y ∷ []) → Some h ≡ operated u e Eq (x ∷ y ∷ [])) → KnowsProbedBits u now begun e
      → IsComparedBit u now begun n b
      → (c : Bool) → same_name m n ≡ c → (test_of (if c then Some h else e n) ≡ None) ⊎ (test_of (if c then Some h else e n) ≡ Some b)
  result-compared e m h i n b giving gives k x true q =
      let c = x.compared in
      let both : Some (pure_text Eq x.operands) ≡ Some (pure_text Eq (c.left ∷ c.right ∷ [])) = ap (λ (os : List OperandText). Some (pure_text Eq os)) c.both in
      let same : Some i ≡ Some (pure_text Eq (c.left ∷ c.right ∷ [])) = sym giving ∙ ap (λ y. line_giving y (lines_of u.blocks)) (same_name-is m n q) ∙ x.given
      ∙ both in
      let is : Some h ≡ operated u e Eq (c.left ∷ c.right ∷ []) = gives c.left c.right (same_Some i (pure_text Eq (c.left ∷ c.right ∷ [])) same) in
      let there : IsSome (operated u e Eq (c.left ∷ c.right ∷ [])) = subst (λ (o : Option Held). IsSome o) is refl in
      let held = both-there (datum_at e c.left.value) (datum_at e c.right.value) there in
      let left : e c.left.value ≡ Some (datum_held (int_value c.left_width c.left_bits)) =
      held-known e c.left c.left_width c.left_bits k.probes c.is_left held.0 in
      let right : e c.right.value ≡ Some (datum_held (int_value c.right_width c.right_bits)) =
      held-known e c.right c.right_width c.right_bits k.probes c.is_right held.1 in
      inr (ap test_of is ∙ compared-test e c.left c.right c.left_width c.left_bits c.right_width c.right_bits left right
      ∙ ap (λ (z : Bool). Some z) (sym c.same))
  result-compared e m h i n b giving gives k x false q = k.compared n b x

  given-compared : (e : Env) (r : Option (List ℕ)) (o : Option Held) (i : InstText) → IsFirst u.args (lines_of u.blocks) (record { result = r; inst = i })
      → ((x y : OperandText) → i ≡ pure_text Eq (x ∷ y ∷ []) → o ≡ operated u e Eq (x ∷ y ∷ [])) → KnowsProbedBits u now begun e
      → KnowsCompared u now begun (if_held e r o)
  given-compared e None None i f gives k = k.compared
  given-compared e None (Some h) i f gives k = k.compared
  given-compared e (Some m) None i f gives k = k.compared
  given-compared e (Some m) (Some h) i f gives k = λ n b x. result-compared e m h i n b (f m refl).1 gives k x (same_name m n) refl

  same-operation : (e : Env) (o : Op) (args : List OperandText) (x y : OperandText) → pure_text o args ≡ pure_text Eq (x ∷ y ∷ [])
      → operated u e o args ≡ operated u e Eq (x ∷ y ∷ [])
  same-operation e o args x y q =
      let left : o ≡ Eq = cc in
      let right : args ≡ x ∷ y ∷ [] = cc in
      ap (λ (z : Op). operated u e z args) left ∙ ap (operated u e Eq) right

  passes-compared : (memory : Option (List Bool)) (t : Instant) (p : Passed) (i : InstText) (r : Option (List ℕ))
      → IsFirst u.args (lines_of u.blocks) (record { result = r; inst = i }) → KnowsProbedBits u now begun p.held
      → KnowsCompared u now begun (passes u now memory t i r p).held
  passes-compared memory t p (const_text d) r f k = given-compared p.held r (Some (datum_held d)) (const_text d) f (λ x y q. absurd cc) k
  passes-compared memory t p (pure_text o args) r f k = given-compared p.held r (operated u p.held o args) (pure_text o args) f (same-operation p.held o args) k
  passes-compared memory t p (prb_text s) r f k = given-compared p.held r (probed now p.held s) (prb_text s) f (λ x y q. absurd cc) k
  passes-compared memory t p (drv_text to value after cond) r f k = k.compared
  passes-compared memory t p (reg_text to gs) r f k = subst (KnowsCompared u now begun) (sym (triggers-hold memory t to false p gs)) k.compared
  passes-compared memory t p _ r f k = k.compared

  pub passes-know : (memory : Option (List Bool)) (t : Instant) (p : Passed) (i : InstText) (r : Option (List ℕ))
      → IsFirst u.args (lines_of u.blocks) (record { result = r; inst = i }) → KnowsProbedBits u now begun p.held
      → KnowsProbedBits u now begun (passes u now memory t i r p).held
  passes-know memory t p i r f k = record { probes = passes-probes memory t p i r f k.probes; compared = passes-compared memory t p i r f k }

  -- what a trigger or a gate is, where that is a known bit
  pub probe-tests : (e : Env) (n : List ℕ) (b : Bool) → KnowsProbedBits u now begun e → IsProbedBit u now begun n b → IsSome (test_at e n)
      → test_at e n ≡ Some b
  probe-tests e n b k x there = by (k.probes n x.signal x.probe).value
    where
      by : (datum_at e n ≡ None) ⊎ (e n ≡ probed now begun x.signal) → test_at e n ≡ Some b
      by (inl missing) = absurd (not-there (test_at e n) (ap (option_and_then as_test) missing) there)
      by (inr is) = ap test_of is ∙ x.bit

  known-tests : (e : Env) (n : List ℕ) (b : Bool) → KnowsProbedBits u now begun e → IsKnownBit u now begun n b → IsSome (test_at e n) → test_at e n ≡ Some b
  known-tests e n b k (inl x) there = probe-tests e n b k x there
  known-tests e n b k (inr x) there = by (k.compared n b x)
    where
      by : (test_at e n ≡ None) ⊎ (test_at e n ≡ Some b) → test_at e n ≡ Some b
      by (inl missing) = absurd (not-there (test_at e n) missing there)
      by (inr is) = is

  and-false : (b : Bool) → (b && false) ≡ false
  and-false true = refl
  and-false false = refl

  -- a trigger that is held back does not fire
  pub held-back : (memory : Option (List Bool)) (p : Passed) (g : TriggerText) (past : Option Bool) (b : Bool) → past ≡ past_of memory p.seen
      → KnowsProbedBits u now begun p.held → HoldsBack u now begun past b g → test_at p.held g.trigger ≡ Some b → IsSome (condition_at p.held g.gate)
      → fires memory p g ≡ false
  held-back memory p g past b was k back is there =
      let F : Option Bool → Bool → Bool = λ o x. mode_holds g.mode o x && unwrap_or (condition_at p.held g.gate) false in
      ap (λ (o : Option Bool). F (past_of memory p.seen) (unwrap_or o false)) is ∙ ap (λ (o : Option Bool). F o b) (sym was) ∙ by back
    where
      shut : (gate : Option (List ℕ)) → IsShut u now begun gate → IsSome (condition_at p.held gate) → unwrap_or (condition_at p.held gate) false ≡ false
      shut None s t = absurd s
      shut (Some n) s t = ap (λ (o : Option Bool). unwrap_or o false) (known-tests p.held n false k s t)

      by : (mode_holds g.mode past b ≡ false) ⊎ IsShut u now begun g.gate → (mode_holds g.mode past b && unwrap_or (condition_at p.held g.gate) false) ≡ false
      by (inl mode) = ap (λ (x : Bool). x && unwrap_or (condition_at p.held g.gate) false) mode
      by (inr s) = ap (λ (x : Bool). mode_holds g.mode past b && x) (shut g.gate s there) ∙ and-false (mode_holds g.mode past b)

-- a trigger that does not fire is seen, and nothing else is done
pub trigger-still : (memory : Option (List Bool)) (t : Instant) (to : OperandText) (p : Passed) (g : TriggerText) (more : List TriggerText) (b : Bool)
    → test_at p.held g.trigger ≡ Some b → fires memory p g ≡ false
    → triggers_from memory t to false p (g ∷ more) ≡ triggers_from memory t to false (record { held = p.held; seen = p.seen ++ b ∷ []; wish = p.wish }) more
trigger-still memory t to p g more b e still =
    let value : trigger_now p.held g ≡ b = ap (λ (o : Option Bool). unwrap_or o false) e in
    ap (λ (x : Bool). triggers_from memory t to x
    (record { held = p.held; seen = p.seen ++ trigger_now p.held g ∷ []; wish = if x then stored t to g p else p.wish }) more) still
    ∙ ap (λ (x : Bool). triggers_from memory t to false (record { held = p.held; seen = p.seen ++ x ∷ []; wish = p.wish }) more) value

-- no value is held
abbrev NoValue : Env → Type 0
NoValue e = (n : List ℕ) → datum_at e n ≡ None

no-value-with : (e : Env) (m : List ℕ) (r : Range) → NoValue e → NoValue (with_held e m (part_held r))
no-value-with e m r h n = by (same_name m n)
  where
    by : (b : Bool) → option_and_then as_datum (if b then Some (part_held r) else e n) ≡ None
    by true = refl
    by false = h n

no-value-args : (e : Env) (xs : List ArgText) (rs : List Range) → NoValue e → NoValue (with_args e xs (map part_held rs))
no-value-args e [] rs h = h
no-value-args e (x ∷ xs) [] h = h
no-value-args e (x ∷ xs) (r ∷ rs) h = no-value-args (with_held e x.name (part_held r)) xs rs (no-value-with e x.name r h)

no-value-parts : (e : Env) (names : List (Option (List ℕ))) (rs : List Range) → NoValue e → NoValue (with_parts e names rs)
no-value-parts e [] rs h = h
no-value-parts e (m ∷ names) [] h = h
no-value-parts e (None ∷ names) (r ∷ rs) h = no-value-parts e names rs h
no-value-parts e (Some m ∷ names) (r ∷ rs) h = no-value-parts (with_held e m (part_held r)) names rs (no-value-with e m r h)

-- what an entity begins with are parts
pub begins-plain : (u : UnitText) (args : List Range) (e : Env) → BeginsBy u args e → (n : List ℕ) → datum_at e n ≡ None
begins-plain u args e h n =
    ap (λ (x : Env). datum_at x n) h.1 ∙ no-value-parts (with_args nothing_held u.args (map part_held args)) (signal_names (lines_of u.blocks)) h.0
    (no-value-args nothing_held u.args args (λ m. refl)) n
