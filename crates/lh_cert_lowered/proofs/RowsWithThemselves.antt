-- Rows agree with themselves, and what an emitted entity says has the rows that are kept of its shape.
use Rattle.std.proofs.Common.{◌≡◌, Bool, true, false, not, ◌&&◌, ◌||◌, if◌then◌else◌, List, [], ◌∷◌, ◌++◌, map, refl, ap, sym, ◌∙◌, subst, inl, inr}
use Rattle.std.specs.Prelude.{filter}
use Rattle.std.specs.List.{list_all, list_any, flat_map}
use Rattle.std.proofs.lemmas.Bool.{and_from, or_left, or_right}
use Rattle.lh_unit.specs.Within.{Each}
use Rattle.lh_term.specs.Tree.{Tree}
use Rattle.lh_term.specs.Same.{same_part, same_part-refl}
use Rattle.lh_term.specs.SameTree.{same_tree, same_tree-refl}
use Rattle.lh_term.specs.declared.part.Part.{Part}
use Rattle.lh_edge.specs.Triggers.{TriggerTree, EdgeRowTree}
use Rattle.lh_region_def.specs.Rows.{Drive}
use Rattle.lh_region_def.specs.Typed.{Among}
use Rattle.lh_unit.specs.declared.inst.Mode.{Mode}
use Rattle.lh_emit_def.specs.Entities.{mode_of}
use Rattle.lh_cert_agree.specs.Agreeing.{agree}
use Rattle.lh_cert_rows.specs.Rows.{TriggerRow, drives_in, registers_in}
use Rattle.lh_cert_def.specs.KeptRows.{rebuilt_drive, kept_drives, trigger_of, register_of, singles, singles_by, can_fire, kept_triggers, kept_register, has_triggers, kept_registers}
use Rattle.lh_cert_def.specs.RowsAgree.{each_with_partner, drive_agrees, drives_agree, same_mode, is_change, is_edge, is_match, matched, drive_same, register_agrees, registers_agree}
use Rattle.lh_cert_emitted.specs.Laws.{drive_said, register_said, registers_said}

agrees-itself : (t : Tree) → agree t t ≡ true
unfolding agree
agrees-itself t = or_left (same_tree t t) _ (same_tree-refl t)

-- ---- lists

pub all-hold : {A : Type 0} (test : A → Bool) (xs : List A) → Each (λ x. test x ≡ true) xs → list_all test xs ≡ true
all-hold test [] h = refl
all-hold test (x ∷ xs) h = and_from (test x) (list_all test xs) h.0 (all-hold test xs h.1)

any-holds : {A : Type 0} (test : A → Bool) (xs : List A) (x : A) → Among x xs → test x ≡ true → list_any test xs ≡ true
any-holds test [] x a h = absurd a
any-holds test (y ∷ ys) x (inl e) h = or_left (test y) (list_any test ys) (ap test e ∙ h)
any-holds test (y ∷ ys) x (inr a) h = or_right (test y) (list_any test ys) (any-holds test ys x a h)

with-themselves : {A : Type 0} (test : A → A → Bool) (xs : List A) → Each (λ x. test x x ≡ true) xs → each_with_partner test xs xs ≡ true
with-themselves test [] h = refl
with-themselves test (x ∷ xs) h = and_from (test x x) (each_with_partner test xs xs) h.0 (with-themselves test xs h.1)

each-of : {A : Type 0} (P : A → Type 0) → ((x : A) → P x) → (xs : List A) → Each P xs
each-of P f [] = tt
each-of P f (x ∷ xs) = (f x, each-of P f xs)

each-filter : {A : Type 0} (P : A → Type 0) (test : A → Bool) (xs : List A) → Each P xs → Each P (filter test xs)
each-filter P test [] h = tt
each-filter P test (x ∷ xs) h = at (test x) refl (each-filter P test xs h.1)
  where
    at : (b : Bool) → test x ≡ b → Each P (filter test xs) → Each P (filter test (x ∷ xs))
    at true q r = rw q (h.0, r)
    at false q r = rw q r

each-append : {A : Type 0} (P : A → Type 0) (xs ys : List A) → Each P xs → Each P ys → Each P (xs ++ ys)
each-append P [] ys h k = k
each-append P (x ∷ xs) ys h k = (h.0, each-append P xs ys h.1 k)

-- each item of a list, with its place in the list
each-there : {A : Type 0} (P Q : A → Type 0) (all xs : List A) → ((x : A) → Among x xs → Among x all) → Each P xs → ((x : A) → Among x all → P x → Q x) → Each Q xs
each-there P Q all [] go h f = tt
each-there P Q all (x ∷ xs) go h f = (f x (go x (inl refl)) h.0, each-there P Q all xs (λ y a. go y (inr a)) h.1 f)

each-in : {A : Type 0} (P Q : A → Type 0) (xs : List A) → Each P xs → ((x : A) → Among x xs → P x → Q x) → Each Q xs
each-in P Q xs h f = each-there P Q xs xs (λ x a. a) h f

-- ---- drives

drive-itself : (d : Drive) → drive_agrees d d ≡ true
drive-itself d = and_from _ _ (same_part-refl d.part) (and_from _ _ (same_tree-refl d.delay) (and_from _ _ (agrees-itself d.cond) (agrees-itself d.value)))

pub drives-themselves : (ds : List Drive) → drives_agree ds ds ≡ true
drives-themselves ds = with-themselves drive_agrees ds (each-of (λ d. drive_agrees d d ≡ true) drive-itself ds)

pub drives-back : (ds : List Drive) → drives_in (map drive_said ds) ≡ map rebuilt_drive ds
drives-back [] = refl
drives-back (d ∷ ds) = ap (λ l. rebuilt_drive d ∷ l) (drives-back ds)

-- ---- registers

pub registers-back : (rs : List (Part × List TriggerRow)) → registers_in (map register_said rs) ≡ rs
registers-back [] = refl
registers-back (r ∷ rs) = ap (λ l. r ∷ l) (registers-back rs)

-- a register without triggers is left out in either way
pub kept-again : (rs : List (Part × List TriggerRow)) → kept_registers (filter has_triggers rs) ≡ kept_registers rs
kept-again [] = refl
kept-again ((p, []) ∷ rs) = kept-again rs
kept-again ((p, g ∷ gs) ∷ rs) = at (has_triggers (kept_register (p, g ∷ gs))) refl (kept-again rs)
  where
    at : (b : Bool) → has_triggers (kept_register (p, g ∷ gs)) ≡ b → kept_registers (filter has_triggers rs) ≡ kept_registers rs →
        kept_registers ((p, g ∷ gs) ∷ filter has_triggers rs) ≡ kept_registers ((p, g ∷ gs) ∷ rs)
    at true q e = rw q (ap (λ l. kept_register (p, g ∷ gs) ∷ l) e)
    at false q e = rw q e

-- a trigger of a row
abbrev IsOf : EdgeRowTree → TriggerRow → Type 0
IsOf r g = (t : TriggerTree) × (g ≡ trigger_of r t)

-- the triggers of a register are those of a row
abbrev IsRegister : Part × List TriggerRow → Type 0
IsRegister x = (r : EdgeRowTree) × Each (IsOf r) x.1

one-single : (r : EdgeRowTree) (t : TriggerTree) → singles (trigger_of r t) ≡ trigger_of r t ∷ []
one-single r t = at t.rise
  where
    at : (b : Bool) → singles_by (mode_of b) (trigger_of r t) ≡ trigger_of r t ∷ []
    at true = refl
    at false = refl

all-single : (r : EdgeRowTree) (ts : List TriggerTree) → flat_map singles (map (trigger_of r) ts) ≡ map (trigger_of r) ts
all-single r [] = refl
all-single r (t ∷ ts) = (λ i. one-single r t i ++ all-single r ts i)

triggers-of : (r : EdgeRowTree) (ts : List TriggerTree) → Each (IsOf r) (map (trigger_of r) ts)
triggers-of r [] = tt
triggers-of r (t ∷ ts) = ((t, refl), triggers-of r ts)

kept-of : (r : EdgeRowTree) → IsRegister (kept_register (register_of r))
kept-of r = (r, subst (λ (l : List TriggerRow). Each (IsOf r) (filter can_fire l)) (sym (all-single r r.triggers)) (each-filter (IsOf r) can_fire (map (trigger_of r) r.triggers) (triggers-of r r.triggers)))

all-kept : (rs : List EdgeRowTree) → Each IsRegister (map kept_register (map register_of rs))
all-kept [] = tt
all-kept (r ∷ rs) = (kept-of r, all-kept rs)

module _ (r : EdgeRowTree) where
  is-change : (t : TriggerTree) → is_edge (trigger_of r t) ≡ true
  is-change t = at t.rise
    where
      at : (b : Bool) → (is_change (mode_of b) && true) ≡ true
      at true = refl
      at false = refl

  mode-itself : (t : TriggerTree) → same_mode (mode_of t.rise) (mode_of t.rise) ≡ true
  mode-itself t = at t.rise
    where
      at : (b : Bool) → same_mode (mode_of b) (mode_of b) ≡ true
      at true = refl
      at false = refl

  match-itself : (g : TriggerRow) → IsOf r g → is_match g g ≡ true
  match-itself g h = subst (λ (x : TriggerRow). is_match x x ≡ true) (sym h.1) (and_from _ _ (mode-itself h.0) (and_from _ _ (same_tree-refl (trigger_of r h.0).operand) (agrees-itself (trigger_of r h.0).gate)))

  edge-itself : (g : TriggerRow) → IsOf r g → is_edge g ≡ true
  edge-itself g h = subst (λ (x : TriggerRow). is_edge x ≡ true) (sym h.1) (is-change h.0)

  drives-alike : (g h : TriggerRow) → IsOf r g → IsOf r h → drive_same g h ≡ true
  drives-alike g h a b =
      subst (λ (x : TriggerRow). drive_same x h ≡ true) (sym a.1)
      (subst (λ (x : TriggerRow). drive_same (trigger_of r a.0) x ≡ true) (sym b.1) (and_from _ _ (agrees-itself (trigger_of r a.0).value) (same_tree-refl (trigger_of r a.0).delay)))

  triggers-agree : (p : Part) (gs : List TriggerRow) → Each (IsOf r) gs → register_agrees (p, gs) (p, gs) ≡ true
  triggers-agree p gs h =
      let edges = each-in (IsOf r) (λ g. is_edge g ≡ true) gs h (λ g a k. edge-itself g k) in
      let alike = each-in (IsOf r) (λ g. list_all (drive_same g) gs ≡ true) gs h
      (λ g a k. all-hold (drive_same g) gs (each-in (IsOf r) (λ x. drive_same g x ≡ true) gs h (λ x b l. drives-alike g x k l))) in
      let found = each-in (IsOf r) (λ g. matched gs g ≡ true) gs h (λ g a k. any-holds (is_match g) gs g a (match-itself g k)) in
      and_from _ _ (same_part-refl p)
      (and_from _ _ (all-hold is_edge (gs ++ gs) (each-append (λ g. is_edge g ≡ true) gs gs edges edges))
      (and_from _ _ (all-hold (λ g. list_all (drive_same g) gs) gs alike) (and_from _ _ (all-hold (matched gs) gs found) (all-hold (matched gs) gs found))))

register-itself : (x : Part × List TriggerRow) → IsRegister x → register_agrees x x ≡ true
register-itself (p, gs) h = triggers-agree h.0 p gs h.1

pub registers-themselves : (rs : List EdgeRowTree) → registers_agree (kept_registers (map register_of rs)) (kept_registers (map register_of rs)) ≡ true
registers-themselves rs =
    let all = each-filter IsRegister has_triggers (map kept_register (map register_of rs)) (all-kept rs) in
    with-themselves register_agrees (kept_registers (map register_of rs)) (each-in IsRegister (λ x. register_agrees x x ≡ true) (kept_registers (map register_of rs)) all (λ x a k. register-itself x k))
