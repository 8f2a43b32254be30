-- What a process holds, its flat text holds under the names of copies: reading and giving.
use Rattle.std.proofs.Common.{◌≡◌, ℕ, ◌+◌, ◌<◌, ◌≤◌, inl, inr, ◌⊎◌, Bool, true, false, ◌||◌, if◌then◌else◌, List, [], ◌∷◌, ◌++◌, map, Option, Some, None, refl, ap, sym, ◌∙◌, subst, arith}
use Rattle.std.specs.Option.{option_map, option_and_then}
use Rattle.std.proofs.lemmas.List.{append_cancel_left}
use Rattle.std.proofs.lemmas.Option.{same_Some, none-some}
use Rattle.lh_time.specs.declared.Instant.{Instant}
use Rattle.lh_time.specs.declared.Delay.{Delay}
use Rattle.lh_time.specs.Due.{due_of}
use Rattle.lh_types.specs.Types.{TypeTree}
use Rattle.lh_types.specs.Values.{Datum}
use Rattle.lh_types.specs.Wish.{Wish}
use Rattle.lh_types.specs.declared.part.Range.{Range}
use Rattle.lh_unit.specs.Contents.{OperandText, ArgText, UnitText, args_define}
use Rattle.lh_unit_names.specs.Names.{same_name}
use Rattle.lh_unit.specs.Typing.{carried}
use Rattle.lh_unit.specs.Held.{Held, datum_held, cell_held, part_held, Env, with_held, with_args, as_datum, as_cell, as_part, as_delay, as_test, datum_at, cell_at, part_at, delay_at, test_at, front, data_at, parts_at}
use Rattle.lh_unit.specs.Effects.{read_bits, probed, condition_at, drive_due, drive_when, driven}
use Rattle.lh_unit.specs.Activation.{asserted, wake_at}
use Rattle.lh_unit.specs.Within.{Each}
use Rattle.lh_flat.specs.Copies.{Copy, top_copy, argument_or, copied_operand}
use Rattle.lh_flat.specs.Marks.{marks, IsPlain}
use Rattle.lh_flat_laws.specs.Tidy.{ArgsOnce}
use Rattle.lh_flat.proofs.Marks.{not_same, is_same, Names, one, two, names, marks-append}
use Rattle.lh_eval.proofs.ValuesFit.{datum-held}

-- ---- where there is something, it is the same

abbrev pub Keeps : {A : Type 0} → (x y : Option A) → Type 0
Keeps {A} x y = (v : A) → x ≡ Some v → y ≡ Some v

pub keeps-same : {A : Type 0} (x : Option A) → Keeps x x
keeps-same x v e = e

pub keeps-then : {A B : Type 0} (g : A → Option B) (x y : Option A) → Keeps x y → Keeps (option_and_then g x) (option_and_then g y)
keeps-then g None y k v e = absurd (none-some v e)
keeps-then g (Some a) y k v e = ap (option_and_then g) (k a refl) ∙ e

pub keeps-map : {A B : Type 0} (g : A → B) (x y : Option A) → Keeps x y → Keeps (option_map g x) (option_map g y)
keeps-map g None y k v e = absurd (none-some v e)
keeps-map g (Some a) y k v e = ap (option_map g) (k a refl) ∙ e

pub keeps-front : {A : Type 0} (x y : Option A) (xs ys : Option (List A)) → Keeps x y → Keeps xs ys → Keeps (front x xs) (front y ys)
keeps-front None y xs ys k l v e = absurd (none-some v e)
keeps-front (Some a) y None ys k l v e = absurd (none-some v e)
keeps-front (Some a) y (Some xs) ys k l v e = ap (λ o. front o ys) (k a refl) ∙ ap (front (Some a)) (l xs refl) ∙ e

-- ---- a copy, and what is held of it

-- a value that is no parameter has a name of its own; each other has a name from outside
pub record CopyFits (c : Copy) : Type 0 where
  pub own : (n : List ℕ) → args_define n c.unit.args ≡ false → c.value n ≡ c.path ++ n
  pub low : (n : List ℕ) → (c.value n ≡ c.path ++ n) ⊎ (marks (c.value n) < marks c.path)

pub record Holds (u : UnitText) (c : Copy) (e f : Env) : Type 0 where
  pub plain : (n : List ℕ) (h : Held) → e n ≡ Some h → IsPlain n
  pub same : (n : List ℕ) (h : Held) → e n ≡ Some h → f (c.value n) ≡ Some h
  pub cells : (n : List ℕ) (d : Datum) → e n ≡ Some (cell_held d) → c.value n ≡ c.path ++ n
  pub parts : (n : List ℕ) (r : Range) → e n ≡ Some (part_held r) → c ≡ top_copy u

-- the names of a copy have no more marks than its path
pub name-marks : (c : Copy) (n : List ℕ) → CopyFits c → IsPlain n → marks (c.value n) ≤ marks c.path
name-marks c n o p = by (o.low n)
  where
    by : (c.value n ≡ c.path ++ n) ⊎ (marks (c.value n) < marks c.path) → marks (c.value n) ≤ marks c.path
    by (inl e) = let h : marks (c.value n) ≡ marks c.path + marks n = ap marks e ∙ marks-append c.path n in omega (arith, h, p)
    by (inr l) = omega (arith, l)

-- what is held under a name of its own is given in both
pub Holds-put : (u : UnitText) (c : Copy) (e f : Env) (n : List ℕ) (h : Held) → CopyFits c → Holds u c e f → IsPlain n → c.value n ≡ c.path ++ n → ((r : Range) → h ≡ part_held r → c ≡ top_copy u)
    → Holds u c (with_held e n h) (with_held f (c.value n) h)
Holds-put u c e f n h o k p w t = record {
  plain = λ m g q. plain m g (names n m) q;
  same = λ m g q. same m g (names n m) q;
  cells = λ m d q. cells m d (names n m) q;
  parts = λ m r q. parts m r (names n m) q;
}
  where
    here : (m : List ℕ) (g : Held) → same_name n m ≡ true → (if same_name n m then Some h else e m) ≡ Some g → h ≡ g
    here m g s q = same_Some h g (sym (ap (λ b. if b then Some h else e m) s) ∙ q)

    there : (m : List ℕ) (g : Held) → same_name n m ≡ false → (if same_name n m then Some h else e m) ≡ Some g → e m ≡ Some g
    there m g s q = sym (ap (λ b. if b then Some h else e m) s) ∙ q

    plain : (m : List ℕ) (g : Held) → Names n m → with_held e n h m ≡ Some g → IsPlain m
    plain m g (one r s) q = subst IsPlain r p
    plain m g (two r s) q = k.plain m g (there m g s q)

    -- another name is that of another value
    apart : (m : List ℕ) → (n ≡ m → ⊥) → c.value n ≡ c.value m → ⊥
    apart m r z = by (o.low m)
      where
        by : (c.value m ≡ c.path ++ m) ⊎ (marks (c.value m) < marks c.path) → ⊥
        by (inl y) = r (append_cancel_left c.path n m (sym w ∙ z ∙ y))
        by (inr l) = let g : marks (c.value m) ≡ marks c.path + marks n = sym (ap marks z) ∙ ap marks w ∙ marks-append c.path n in omega (arith, l, g)

    same : (m : List ℕ) (g : Held) → Names n m → with_held e n h m ≡ Some g → with_held f (c.value n) h (c.value m) ≡ Some g
    same m g (one r s) q = ap (λ b. if b then Some h else f (c.value m)) (is_same (c.value n) (c.value m) (ap c.value r)) ∙ ap Some (here m g s q)
    same m g (two r s) q = ap (λ b. if b then Some h else f (c.value m)) (not_same (c.value n) (c.value m) (apart m r)) ∙ k.same m g (there m g s q)

    cells : (m : List ℕ) (d : Datum) → Names n m → with_held e n h m ≡ Some (cell_held d) → c.value m ≡ c.path ++ m
    cells m d (one r s) q = sym (ap c.value r) ∙ w ∙ ap (λ x. c.path ++ x) r
    cells m d (two r s) q = k.cells m d (there m (cell_held d) s q)

    parts : (m : List ℕ) (x : Range) → Names n m → with_held e n h m ≡ Some (part_held x) → c ≡ top_copy u
    parts m x (one r s) q = t x (here m (part_held x) s q)
    parts m x (two r s) q = k.parts m x (there m (part_held x) s q)

-- names with fewer marks keep what they hold
pub record Below (limit : ℕ) (f g : Env) : Type 0 where
  pub keeps : (n : List ℕ) → marks n < limit → g n ≡ f n

pub Below-put : (c : Copy) (f : Env) (n : List ℕ) (h : Held) → c.value n ≡ c.path ++ n → Below (marks c.path) f (with_held f (c.value n) h)
Below-put c f n h w = record { keeps = λ m l. ap (λ b. if b then Some h else f m) (not_same (c.value n) m (λ e. fewer m l e)) }
  where
    fewer : (m : List ℕ) → marks m < marks c.path → c.value n ≡ m → ⊥
    fewer m l e = let g : marks m ≡ marks c.path + marks n = sym (ap marks e) ∙ ap marks w ∙ marks-append c.path n in omega (arith, l, g)

pub Below-same : (k : ℕ) (f : Env) → Below k f f
Below-same k f = record { keeps = λ n l. refl }

pub Below-then : (k : ℕ) (f g h : Env) → Below k f g → Below k g h → Below k f h
Below-then k f g h a b = record { keeps = λ n l. b.keeps n l ∙ a.keeps n l }

-- a copy whose path has fewer marks holds what it held
pub Holds-below : (u : UnitText) (c : Copy) (e f g : Env) (limit : ℕ) → CopyFits c → Holds u c e f → marks c.path < limit → Below limit f g → Holds u c e g
Holds-below u c e f g limit o k l b = record {
  plain = k.plain;
  same = λ n h q. b.keeps (c.value n) (small n h q) ∙ k.same n h q;
  cells = k.cells;
  parts = k.parts;
}
  where
    small : (n : List ℕ) (h : Held) → e n ≡ Some h → marks (c.value n) < limit
    small n h q = let m = name-marks c n o (k.plain n h q) in omega (arith, l, m)

-- ---- reading

module _ (u : UnitText) (c : Copy) (e f : Env) (k : Holds u c e f) where
  pub keeps-held : (n : List ℕ) → Keeps (e n) (f (c.value n))
  keeps-held n h q = k.same n h q

  pub keeps-datum : (n : List ℕ) → Keeps (datum_at e n) (datum_at f (c.value n))
  keeps-datum n = keeps-then as_datum (e n) (f (c.value n)) (keeps-held n)

  pub keeps-cell : (n : List ℕ) → Keeps (cell_at e n) (cell_at f (c.value n))
  keeps-cell n = keeps-then as_cell (e n) (f (c.value n)) (keeps-held n)

  pub keeps-part : (n : List ℕ) → Keeps (part_at e n) (part_at f (c.value n))
  keeps-part n = keeps-then as_part (e n) (f (c.value n)) (keeps-held n)

  pub keeps-delay : (n : List ℕ) → Keeps (delay_at e n) (delay_at f (c.value n))
  keeps-delay n = keeps-then as_delay (datum_at e n) (datum_at f (c.value n)) (keeps-datum n)

  pub keeps-test : (n : List ℕ) → Keeps (test_at e n) (test_at f (c.value n))
  keeps-test n = keeps-then as_test (datum_at e n) (datum_at f (c.value n)) (keeps-datum n)

  pub keeps-data : (os : List OperandText) → Keeps (data_at e os) (data_at f (map (copied_operand c) os))
  keeps-data [] = keeps-same (Some [])
  keeps-data (o ∷ os) = keeps-front (datum_at e o.value) (datum_at f (c.value o.value)) (data_at e os) (data_at f (map (copied_operand c) os)) (keeps-datum o.value) (keeps-data os)

  pub keeps-parts : (ns : List (List ℕ)) → Keeps (parts_at e ns) (parts_at f (map c.value ns))
  keeps-parts [] = keeps-same (Some [])
  keeps-parts (n ∷ ns) = keeps-front (part_at e n) (part_at f (c.value n)) (parts_at e ns) (parts_at f (map c.value ns)) (keeps-part n) (keeps-parts ns)

  pub keeps-probed : (now : List Bool) (s : OperandText) → Keeps (probed now e s) (probed now f (copied_operand c s))
  keeps-probed now s = by (option_and_then carried s.ty) (part_at e s.value) (part_at f (c.value s.value)) (keeps-part s.value)
    where
      by : (t : Option TypeTree) (x y : Option Range) → Keeps x y → Keeps (read_bits now t x) (read_bits now t y)
      by None x y h v q = absurd (none-some v q)
      by (Some t) None y h v q = absurd (none-some v q)
      by (Some t) (Some r) y h v q = ap (read_bits now (Some t)) (h r refl) ∙ q

  pub keeps-condition : (o : Option (List ℕ)) → Keeps (condition_at e o) (condition_at f (option_map c.value o))
  keeps-condition None = keeps-same (Some true)
  keeps-condition (Some n) = keeps-test n

  pub keeps-driven : (t : Instant) (w : Wish) (to : OperandText) (value after : List ℕ) (cond : Option (List ℕ))
      → Keeps (driven t e w to value after cond) (driven t f w (copied_operand c to) (c.value value) (c.value after) (option_map c.value cond))
  keeps-driven t w to value after cond =
      when (condition_at e cond) (condition_at f (option_map c.value cond)) (keeps-condition cond)
      (drive_due t w (part_at e to.value) (datum_at e value) (delay_at e after)) (drive_due t w (part_at f (c.value to.value)) (datum_at f (c.value value)) (delay_at f (c.value after)))
      (due (part_at e to.value) (part_at f (c.value to.value)) (keeps-part to.value) (datum_at e value) (datum_at f (c.value value)) (keeps-datum value) (delay_at e after) (delay_at f (c.value after))
      (keeps-delay after))
    where
      due : (x y : Option Range) → Keeps x y → (v z : Option Datum) → Keeps v z → (d g : Option Delay) → Keeps d g → Keeps (drive_due t w x v d) (drive_due t w y z g)
      due None y a v z b d g h r q = absurd (none-some r q)
      due (Some x) y a None z b d g h r q = absurd (none-some r q)
      due (Some x) y a (Some v) z b None g h r q = absurd (none-some r q)
      due (Some x) y a (Some v) z b (Some d) g h r q = ap (λ o. drive_due t w o z g) (a x refl) ∙ ap (λ o. drive_due t w (Some x) o g) (b v refl) ∙ ap (drive_due t w (Some x) (Some v)) (h d refl) ∙ q

      when : (x y : Option Bool) → Keeps x y → (d g : Option Wish) → Keeps d g → Keeps (drive_when x w d) (drive_when y w g)
      when None y a d g b r q = absurd (none-some r q)
      when (Some true) y a d g b r q = ap (λ o. drive_when o w g) (a true refl) ∙ b r q
      when (Some false) y a d g b r q = ap (λ o. drive_when o w g) (a false refl) ∙ q

  pub keeps-asserted : (args : List OperandText) → Keeps (asserted e args) (asserted f (map (copied_operand c) args))
  keeps-asserted [] v q = absurd (none-some v q)
  keeps-asserted (o ∷ []) v q = keeps-test o.value v q
  keeps-asserted (o ∷ x ∷ more) v q = absurd (none-some v q)

  pub keeps-wake : (t : Instant) (after : Option (List ℕ)) → Keeps (wake_at t e after) (wake_at t f (option_map c.value after))
  keeps-wake t None = keeps-same (Some None)
  keeps-wake t (Some n) = keeps-map (due_of t) (delay_at e n) (delay_at f (c.value n)) (keeps-delay n)

-- ---- the parameters of a function

-- a name that no parameter has
pub other-name : (ps : List ArgText) (args : List (List ℕ)) (other n : List ℕ) → args_define n ps ≡ false → argument_or ps args other n ≡ other
other-name [] args other n e = refl
other-name (p ∷ ps) [] other n e = refl
other-name (p ∷ ps) (a ∷ args) other n e = by (same_name p.name n) e (other-name ps args other n)
  where
    by : (b : Bool) → (b || args_define n ps) ≡ false → (args_define n ps ≡ false → argument_or ps args other n ≡ other) → (if b then a else argument_or ps args other n) ≡ other
    by true q go = absurd (none q)
      where
        none : true ≡ false → ⊥
        none r = cc
    by false q go = go q

-- a name is that of an argument, or the other
pub low-name : (limit : ℕ) (ps : List ArgText) (args : List (List ℕ)) (other n : List ℕ) → Each (λ a. marks a < limit) args
    → (argument_or ps args other n ≡ other) ⊎ (marks (argument_or ps args other n) < limit)
low-name limit [] args other n h = inl refl
low-name limit (p ∷ ps) [] other n h = inl refl
low-name limit (p ∷ ps) (a ∷ args) other n h = by (same_name p.name n) (low-name limit ps args other n h.1)
  where
    by : (b : Bool) → (argument_or ps args other n ≡ other) ⊎ (marks (argument_or ps args other n) < limit)
        → ((if b then a else argument_or ps args other n) ≡ other) ⊎ (marks (if b then a else argument_or ps args other n) < limit)
    by true r = inr h.0
    by false r = r

-- what a function begins with is what its arguments are
pub record Given (f : Env) (to n : List ℕ) (h : Held) : Type 0 where
  pub value : Datum
  pub is : h ≡ datum_held value
  pub plain : IsPlain n
  pub same : f to ≡ Some h

skipped : (ps : List ArgText) (e : Env) (hs : List Held) (n : List ℕ) → args_define n ps ≡ false → with_args e ps hs n ≡ e n
skipped [] e hs n q = refl
skipped (p ∷ ps) e [] n q = refl
skipped (p ∷ ps) e (h ∷ hs) n q = by (same_name p.name n) refl q (λ r. skipped ps (with_held e p.name h) hs n r)
  where
    by : (b : Bool) → same_name p.name n ≡ b → (b || args_define n ps) ≡ false → (args_define n ps ≡ false → with_args (with_held e p.name h) ps hs n ≡ with_held e p.name h n)
        → with_args (with_held e p.name h) ps hs n ≡ e n
    by true s r go = absurd (none r)
      where
        none : true ≡ false → ⊥
        none t = cc
    by false s r go = go r ∙ ap (λ b. if b then Some h else e n) s

pub begins-given : (u : UnitText) (c : Copy) (e f : Env) → Holds u c e f → (ps : List ArgText) (os : List OperandText) (ds : List Datum) (before : Env) (other n : List ℕ) (h : Held) → ArgsOnce ps
    → data_at e os ≡ Some ds → before n ≡ None
    → with_args before ps (map datum_held ds) n ≡ Some h → Given f (argument_or ps (map (λ (o : OperandText). c.value o.value) os) other n) n h
begins-given u c e f k [] os ds before other n h w d b q = absurd (none-some h (sym b ∙ q))
begins-given u c e f k (p ∷ ps) [] ds before other n h w d b q =
    absurd (none-some h (sym b ∙ subst (λ xs. with_args before (p ∷ ps) (map datum_held xs) n ≡ Some h) (sym (same_Some [] ds d)) q))
begins-given u c e f k (p ∷ ps) (o ∷ os) ds before other n h w d b q =
    first (datum_at e o.value) refl (data_at e os) refl d (λ x xs t z y. begins-given u c e f k ps os xs (with_held before p.name (datum_held x)) other n h w.2 t z y)
  where
    both : (x : Datum) (xs : List Datum) → datum_at e o.value ≡ Some x → data_at e os ≡ Some xs → with_args (with_held before p.name (datum_held x)) ps (map datum_held xs) n ≡ Some h → Names p.name n
        → ((x : Datum) (xs : List Datum) → data_at e os ≡ Some xs → with_held before p.name (datum_held x) n ≡ None → with_args (with_held before p.name (datum_held x)) ps (map datum_held xs) n
        ≡ Some h → Given f (argument_or ps (map (λ (o : OperandText). c.value o.value) os) other n) n h)
        → Given f (if same_name p.name n then c.value o.value else argument_or ps (map (λ (o : OperandText). c.value o.value) os) other n) n h
    both x xs r t z (one y g) go =
        let v : h ≡ datum_held x =
        same_Some h (datum_held x) (sym z ∙ skipped ps (with_held before p.name (datum_held x)) (map datum_held xs) n (subst (λ m. args_define m ps ≡ false) y w.1)
        ∙ ap (λ c. if c then Some (datum_held x) else before n) g) in
        subst (λ (a : Bool). Given f (if a then c.value o.value else argument_or ps (map (λ (o : OperandText). c.value o.value) os) other n) n h) (sym g) record {
          value = x;
          is = v;
          plain = subst IsPlain y w.0;
          same = k.same o.value (datum_held x) (datum-held (e o.value) x r) ∙ ap Some (sym v);
        }
    both x xs r t z (two y g) go =
        subst (λ (a : Bool). Given f (if a then c.value o.value else argument_or ps (map (λ (o : OperandText). c.value o.value) os) other n) n h) (sym g)
        (go x xs t (ap (λ a. if a then Some (datum_held x) else before n) g ∙ b) z)

    first : (x : Option Datum) → datum_at e o.value ≡ x → (xs : Option (List Datum)) → data_at e os ≡ xs → front x xs ≡ Some ds
        → ((x : Datum) (xs : List Datum) → data_at e os ≡ Some xs → with_held before p.name (datum_held x) n ≡ None → with_args (with_held before p.name (datum_held x)) ps (map datum_held xs) n
        ≡ Some h → Given f (argument_or ps (map (λ (o : OperandText). c.value o.value) os) other n) n h)
        → Given f (if same_name p.name n then c.value o.value else argument_or ps (map (λ (o : OperandText). c.value o.value) os) other n) n h
    first None r xs s t go = absurd (none-some ds t)
    first (Some x) r None s t go = absurd (none-some ds t)
    first (Some x) r (Some xs) s t go =
        both x xs r s (subst (λ ys. with_args before (p ∷ ps) (map datum_held ys) n ≡ Some h) (sym (same_Some (x ∷ xs) ds t)) q) (names p.name n) go
