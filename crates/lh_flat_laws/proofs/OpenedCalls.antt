-- Calls that are replaced: what they name, and the units that are copied.
use Rattle.std.proofs.Common.{◌≡◌, ℕ, ◌+◌, List, [], ◌∷◌, ◌++◌, map, Bool, true, false, ◌||◌, if◌then◌else◌, Option, Some, None, refl, ap, sym, ◌∙◌, inl, inr, subst}
use Rattle.std.specs.List.{list_any}
use Rattle.std.proofs.lemmas.Option.{same_Some, none-some}
use Rattle.lh_types.specs.Types.{TypeTree}
use Rattle.lh_unit_names.specs.declared.name.UnitName.{UnitName}
use Rattle.lh_unit_names.specs.UnitNames.{same_unit_name, is_assert}
use Rattle.lh_unit.specs.Contents.{OperandText, InstText, const_text, pure_text, var_text, ld_text, st_text, sig_text, prb_text, drv_text, reg_text, child_text, call_text, phi_text, br_text, branch_text, wait_text, halt_text, ret_text, LineText, BlockText, ArgText, UnitText, ItemText, unit_text, declare_text, args_define}
use Rattle.lh_unit_names.specs.Names.{same_name}
use Rattle.lh_unit.specs.Named.{unit_named, function_named, is_function}
use Rattle.lh_unit.specs.Activation.{functions}
use Rattle.lh_unit.specs.Hierarchy.{lines_of}
use Rattle.lh_unit.specs.Kinds.{Use, all_used, data_or_time_needed}
use Rattle.lh_verify_laws.specs.Calls.{ArgumentsAre}
use Rattle.lh_flat.specs.Calls.{callee_if, callees_in, callees}
use Rattle.lh_flat.specs.Copies.{Copy, call_path, argument_or, opened}
use Rattle.lh_flat_laws.proofs.Cuts.{Cut, cut, cut_by}
use Rattle.lh_flat_laws.specs.Members.{Among}

-- the call at which lines are cut is replaced by the copy, and its path is that of its line
pub cut-opens : (fs : List UnitText) (c : Copy) (label : List ℕ) (k : ℕ) (ls : List LineText) (z : Cut) → cut fs c label k ls ≡ Some z
    → opened fs c (call_path c label z.number) z.line.inst ≡ Some z.copy
cut-opens fs c label k [] z e = absurd (none-some z e)
cut-opens fs c label k (l ∷ more) z e = by (opened fs c (call_path c label k) l.inst) refl e (cut-opens fs c label (k + 1) more z)
  where
    by : (o : Option Copy) → opened fs c (call_path c label k) l.inst ≡ o → cut_by fs c label o k l more (cut fs c label (k + 1) more) ≡ Some z
        → (cut fs c label (k + 1) more ≡ Some z → opened fs c (call_path c label z.number) z.line.inst ≡ Some z.copy) → opened fs c (call_path c label z.number) z.line.inst ≡ Some z.copy
    by None q r go = go r
    by (Some d) q r go = let w : record { line = l; number = k; copy = d; rest = more } ≡ z = same_Some _ z r in
        subst (λ (z : Cut). opened fs c (call_path c label z.number) z.line.inst ≡ Some z.copy) w q

-- ---- arguments

-- an argument of a copy is one of the values that the call names
pub argument-named : (v : UnitText) (ps : List ArgText) (os : List OperandText) (c : Copy) (other n : List ℕ) → ArgumentsAre v os ps → args_define n ps ≡ true
    → (m : List ℕ) × Among m (map (λ (x : Use). x.value) (all_used data_or_time_needed os)) × (argument_or ps (map (λ (o : OperandText). c.value o.value) os) other n ≡ c.value m)
argument-named v [] [] c other n h d = absurd cc
argument-named v [] (o ∷ os) c other n h d = elim h [ ]
argument-named v (p ∷ ps) [] c other n h d = elim h [ ]
argument-named v (p ∷ ps) (o ∷ os) c other n h d = by (same_name p.name n) refl d (argument-named v ps os c other n h.1)
  where
    by : (b : Bool) → same_name p.name n ≡ b → b || args_define n ps ≡ true
        → (args_define n ps ≡ true → (m : List ℕ) × Among m (map (λ (x : Use). x.value) (all_used data_or_time_needed os))
        × (argument_or ps (map (λ (o : OperandText). c.value o.value) os) other n ≡ c.value m))
        → (m : List ℕ) × Among m (o.value ∷ map (λ (x : Use). x.value) (all_used data_or_time_needed os))
        × ((if b then c.value o.value else argument_or ps (map (λ (o : OperandText). c.value o.value) os) other n) ≡ c.value m)
    by true e q go = (o.value, inl refl, refl)
    by false e q go = let r = go q in (r.0, inr r.1, r.2)

-- ---- functions

-- a function that an item of the module is, under its name
pub function-is : (items : List ItemText) (n : UnitName) (v : UnitText) → unit_named n items ≡ Some v → is_function v.kind ≡ true → function_named n (functions items) ≡ Some v
function-is [] n v e h = absurd (none-some v e)
function-is (declare_text d ∷ more) n v e h = function-is more n v e h
function-is (unit_text w ∷ more) n v e h = by (same_unit_name w.name n) refl e (is_function w.kind) refl (λ q. function-is more n v q h)
  where
    by : (b : Bool) → same_unit_name w.name n ≡ b → (if b then Some w else unit_named n more) ≡ Some v → (d : Bool) → is_function w.kind ≡ d
        → (unit_named n more ≡ Some v → function_named n (functions more) ≡ Some v)
        → function_named n (if d then w ∷ functions more else functions more) ≡ Some v
    by true q r true s go = ap (λ b. if b then Some w else function_named n (functions more)) q ∙ r
    by true q r false s go = absurd (bad (same_Some w v r))
      where
        bad : w ≡ v → ⊥
        bad k = let a : is_function v.kind ≡ false = ap (λ (x : UnitText). is_function x.kind) (sym k) ∙ s in cc
    by false q r true s go = ap (λ b. if b then Some w else function_named n (functions more)) q ∙ go r
    by false q r false s go = go r

-- ---- how deep copies nest

pub any-among : {A : Type 0} (p : A → Bool) (xs : List A) (x : A) → list_any p xs ≡ false → Among x xs → p x ≡ false
any-among p [] x h a = elim a [ ]
any-among p (y ∷ xs) x h (inl e) = by (p y) refl h
  where
    by : (b : Bool) → p y ≡ b → b || list_any p xs ≡ false → p x ≡ false
    by true q r = absurd cc
    by false q r = ap p (sym e) ∙ q
any-among p (y ∷ xs) x h (inr a) = by (p y) h (λ r. any-among p xs x r a)
  where
    by : (b : Bool) → b || list_any p xs ≡ false → (list_any p xs ≡ false → p x ≡ false) → p x ≡ false
    by true r go = absurd cc
    by false r go = go r

-- a call that a line makes is one of the unit's
callees-line : (before after : List LineText) (l : LineText) (f : UnitName) (ty : TypeTree) (args : List OperandText) → l.inst ≡ call_text f ty args → is_assert f ≡ false
    → Among f (callees_in (before ++ l ∷ after))
callees-line [] after l f ty args i n = subst (λ i. Among f (callee_if i (callees_in after))) (sym i) (subst (λ b. Among f (if b then callees_in after else f ∷ callees_in after)) (sym n) (inl refl))
callees-line (x ∷ before) after l f ty args i n = more x.inst (callees-line before after l f ty args i n)
  where
    more : (i : InstText) → Among f (callees_in (before ++ l ∷ after)) → Among f (callee_if i (callees_in (before ++ l ∷ after)))
    more (call_text g ty args) a = by (is_assert g)
      where
        by : (b : Bool) → Among f (if b then callees_in (before ++ l ∷ after) else g ∷ callees_in (before ++ l ∷ after))
        by true = a
        by false = inr a
    more (const_text x) a = a
    more (pure_text x y) a = a
    more (var_text x) a = a
    more (ld_text x) a = a
    more (st_text x y) a = a
    more (sig_text x) a = a
    more (prb_text x) a = a
    more (drv_text x y z w) a = a
    more (reg_text x y) a = a
    more (child_text x y z) a = a
    more (phi_text x y) a = a
    more (br_text x) a = a
    more (branch_text x y z) a = a
    more (wait_text x y z) a = a
    more halt_text a = a
    more (ret_text x) a = a

lines-around : (bs : List BlockText) (b : BlockText) → Among b bs → (start : List LineText) × (end : List LineText) × (lines_of bs ≡ start ++ (b.lines ++ end))
lines-around [] b a = elim a [ ]
lines-around (c ∷ bs) b (inl e) = ([], lines_of bs, ap (λ (x : BlockText). x.lines ++ lines_of bs) e)
lines-around (c ∷ bs) b (inr a) = let r = lines-around bs b a in (c.lines ++ r.0, r.1, ap (λ ls. c.lines ++ ls) r.2 ∙ sym (in-three c.lines r.0 (b.lines ++ r.1)))
  where
    in-three : (x y z : List LineText) → (x ++ y) ++ z ≡ x ++ (y ++ z)
    in-three [] y z = refl
    in-three (l ∷ x) y z = ap (λ ls. l ∷ ls) (in-three x y z)

pub callee-among : (v : UnitText) (b : BlockText) (before after : List LineText) (l : LineText) (f : UnitName) (ty : TypeTree) (args : List OperandText) → Among b v.blocks
    → b.lines ≡ before ++ l ∷ after → l.inst ≡ call_text f ty args → is_assert f ≡ false → Among f (callees v)
callee-among v b before after l f ty args a e i n =
    let r = lines-around v.blocks b a in
    let whole : lines_of v.blocks ≡ (r.0 ++ before) ++ l ∷ (after ++ r.1) =
    r.2 ∙ ap (λ ls. r.0 ++ (ls ++ r.1)) e ∙ ap (λ ls. r.0 ++ ls) (in-three before (l ∷ after) r.1) ∙ sym (in-three r.0 before (l ∷ (after ++ r.1))) in
    subst (λ ls. Among f (callees_in ls)) (sym whole) (callees-line (r.0 ++ before) (after ++ r.1) l f ty args i n)
  where
    in-three : (x y z : List LineText) → (x ++ y) ++ z ≡ x ++ (y ++ z)
    in-three [] y z = refl
    in-three (l ∷ x) y z = ap (λ ls. l ∷ ls) (in-three x y z)
