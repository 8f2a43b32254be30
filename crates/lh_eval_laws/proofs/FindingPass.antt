-- A pass of an entity goes from the parts of its arguments and signals through its instructions, and each finds what it looks for.
use Rattle.std.proofs.Common.{◌≡◌, ◌⊎◌, inl, inr, ⊎_elim, ℕ, ◌+◌, ◌<◌, List, [], ◌∷◌, ◌++◌, length, map, Bool, true, false, not, ◌||◌, if◌then◌else◌, Option, Some, None, IsSome, refl, ap, sym, ◌∙◌, subst}
use Rattle.std.specs.List.{Contains}
use Rattle.std.proofs.lemmas.Option.{none-some, same_Some}
use Rattle.std.proofs.lemmas.Bool.{false_from_ne_true, or_left, or_right}
use Rattle.lh_time.specs.declared.Instant.{Instant}
use Rattle.lh_types.specs.Types.{TypeTree, IsData}
use Rattle.lh_types.specs.Wish.{Wish, no_wish}
use Rattle.lh_types.specs.declared.part.Range.{Range}
use Rattle.lh_types.specs.declared.op.Op.{Op}
use Rattle.lh_types.specs.declared.op.Op.TheVariants as op
use Rattle.lh_unit.specs.declared.inst.UnitKind.{UnitKind}
use Rattle.lh_unit.specs.declared.inst.UnitKind.TheVariants as kind
use Rattle.lh_unit.specs.Contents.{OperandText, TriggerText, InstText, const_text, pure_text, var_text, ld_text, st_text, sig_text, prb_text, drv_text, reg_text, child_text, call_text, phi_text, br_text, branch_text, wait_text, halt_text, ret_text, LineText, BlockText, ArgText, UnitText, ItemText, unit_text, declare_text, is_result_name, lines_define, args_define}
use Rattle.lh_unit_names.specs.Names.{same_name}
use Rattle.lh_unit.specs.Typing.{first_type}
use Rattle.lh_unit.specs.Kinds.{Use, uses, operation_uses, all_used, step_need, Need, data_needed, time_needed, maybe_used, trigger_uses}
use Rattle.lh_unit.specs.Held.{Held, datum_held, part_held, Env, nothing_held, with_held, with_result, with_args, datum_at, part_at}
use Rattle.lh_unit.specs.Effects.{operated, probed, condition_at, drive_when}
use Rattle.lh_unit.specs.Hierarchy.{lines_of, signal_names, name_if_signal, with_parts, parts_of, if_held}
use Rattle.lh_unit.specs.Pass.{Passed, passes}
use Rattle.lh_unit.specs.Places.{InstPlaceText, places_in, places_from, places}
use Rattle.lh_unit.specs.WellFormed.{Site, sites, values_named, not_here, is_allowed, IsFaultless}
use Rattle.lh_unit.specs.SpellsInst.{gives_value, SpellsLine}
use Rattle.lh_unit.specs.Within.{Each}
use Rattle.lh_unit.proofs.Within.{Each-more}
use Rattle.lh_unit.specs.Arena.{Arena, IsArena, unit_count, kind_at, contents, unit_text_at}
use Rattle.lh_unit.specs.Naming.{kind_text}
use Rattle.lh_unit.specs.WellFormed.{IsWellFormed}
use Rattle.lh_unit.specs.Lexemes.{Lexeme}
use Rattle.lh_unit.specs.Pieces.{lexemes_in}
use Rattle.lh_unit.specs.Spells.{inst_item}
use Rattle.lh_unit.proofs.Lists.{Each-of-map}
use Rattle.lh_text_laws.specs.ItemLines.{item_line}
use Rattle.lh_text_laws.specs.Printable.{HasInstLine}
use Rattle.lh_verify_laws.specs.Operands.{RowIs, TriggerIs}
use Rattle.lh_verify_laws.specs.Parts.{HasPart}
use Rattle.lh_verify_laws.specs.Defined.{IsEarlier, OperandsThere}
use Rattle.lh_verify_laws.proofs.Sound.{site_in, at_site}
use Rattle.lh_verify_laws.proofs.DefinedLaw.{all_there}
use Rattle.lh_eval.specs.Fitting.{Fits}
use Rattle.lh_eval.specs.Sound.{InstIsSound}
use Rattle.lh_eval_laws.specs.Ranges.{RangesFit, arg_types, signal_types, type_if_signal, InstanceFits}
use Rattle.lh_eval_laws.specs.Finding.{TriggerFinds, FindsInPass, FindsAll}
use Rattle.lh_verify_laws.proofs.EachItem.{each-contained, each-split}
use Rattle.lh_verify_laws.proofs.AtPlaces.{lines-from}
use Rattle.lh_eval_laws.proofs.SoundLines.{lines-printed}
use Rattle.lh_eval_laws.proofs.FitLaws.{triggers-hold, keeps-fit, of-unit, unit-is-sound, begins-fit}
use Rattle.lh_eval_laws.proofs.OperandsFound.{some-of, is-some, carries-value, value-at, part-at, test-at, delay-at, delay-of, condition-at, operated-there}

-- what is held stays held
pub held-stays : (e : Env) (m n : List ℕ) (h : Held) → IsSome (e n) → IsSome (with_held e m h n)
held-stays e m n h s = at (same_name m n)
  where
    at : (b : Bool) → IsSome (if b then Some h else e n)
    at true = refl
    at false = s

pub result-stays : (e : Env) (r : Option (List ℕ)) (n : List ℕ) (h : Held) → IsSome (e n) → IsSome (with_result e r h n)
result-stays e None n h s = s
result-stays e (Some m) n h s = held-stays e m n h s

pub given-stays : (e : Env) (r : Option (List ℕ)) (n : List ℕ) (o : Option Held) → IsSome (e n) → IsSome (if_held e r o n)
given-stays e r n None s = s
given-stays e r n (Some h) s = result-stays e r n h s

pub args-stay : (e : Env) (xs : List ArgText) (hs : List Held) (n : List ℕ) → IsSome (e n) → IsSome (with_args e xs hs n)
args-stay e [] hs n s = s
args-stay e (x ∷ xs) [] n s = s
args-stay e (x ∷ xs) (h ∷ hs) n s = args-stay (with_held e x.name h) xs hs n (held-stays e x.name n h s)

pub parts-stay : (e : Env) (names : List (Option (List ℕ))) (rs : List Range) (n : List ℕ) → IsSome (e n) → IsSome (with_parts e names rs n)
parts-stay e [] rs n s = s
parts-stay e (m ∷ names) [] n s = s
parts-stay e (m ∷ names) (r ∷ rs) n s = parts-stay (with_result e m (part_held r)) names rs n (result-stays e m n (part_held r) s)

-- what is given is held under the name of the result
pub named-held : (e : Env) (r : Option (List ℕ)) (n : List ℕ) (h : Held) → is_result_name n r ≡ true → IsSome (with_result e r h n)
named-held e None n h q = absurd cc
named-held e (Some m) n h q = rw q refl

pub given-held : (e : Env) (r : Option (List ℕ)) (n : List ℕ) (o : Option Held) → IsSome o → is_result_name n r ≡ true → IsSome (if_held e r o n)
given-held e r n None s q = absurd cc
given-held e r n (Some h) s q = named-held e r n h q

-- each argument is held
pub args-held : (w : ℕ) (e : Env) (xs : List ArgText) (rs : List Range) → RangesFit w rs (arg_types xs) → (n : List ℕ) → args_define n xs ≡ true → IsSome (with_args e xs (map part_held rs) n)
args-held w e [] rs f n d = absurd cc
args-held w e (x ∷ xs) [] f n d = absurd f
args-held w e (x ∷ xs) (r ∷ rs) f n d = at (same_name x.name n) refl d (args-held w (with_held e x.name (part_held r)) xs rs f.2 n)
  where
    at : (b : Bool) → same_name x.name n ≡ b → (b || args_define n xs) ≡ true
        → (args_define n xs ≡ true → IsSome (with_args (with_held e x.name (part_held r)) xs (map part_held rs) n)) → IsSome (with_args (with_held e x.name (part_held r)) xs (map part_held rs) n)
    at true q k go = args-stay (with_held e x.name (part_held r)) xs (map part_held rs) n (named-held e (Some x.name) n (part_held r) q)
    at false q k go = go k

-- so is the result of a `sig`
abbrev pub SigHeld : Env → InstText → Option (List ℕ) → Type 0
SigHeld e (sig_text a) r = (n : List ℕ) → is_result_name n r ≡ true → IsSome (e n)
SigHeld e _ r = Unit {0}

abbrev pub SigsHeld : Env → List LineText → Type 0
SigsHeld e [] = Unit {0}
SigsHeld e (l ∷ ls) = SigHeld e l.inst l.result × SigsHeld e ls

sig-more : (e f : Env) (i : InstText) (r : Option (List ℕ)) → ((n : List ℕ) → IsSome (e n) → IsSome (f n)) → SigHeld e i r → SigHeld f i r
sig-more e f (sig_text a) r m h = λ n q. m n (h n q)
sig-more e f _ r m h = tt

pub sigs-more : (e f : Env) (ls : List LineText) → ((n : List ℕ) → IsSome (e n) → IsSome (f n)) → SigsHeld e ls → SigsHeld f ls
sigs-more e f [] m h = tt
sigs-more e f (l ∷ ls) m h = (sig-more e f l.inst l.result m h.0, sigs-more e f ls m h.1)

sig-held : (w : ℕ) (i : InstText) (r : Option (List ℕ)) (ls : List LineText) → ((rs : List Range) (e : Env) → RangesFit w rs (signal_types ls) → SigsHeld (with_parts e (signal_names ls) rs) ls)
    → (rs : List Range) (e : Env) → RangesFit w rs (type_if_signal i (signal_types ls))
    → SigHeld (with_parts e (name_if_signal i r (signal_names ls)) rs) i r × SigsHeld (with_parts e (name_if_signal i r (signal_names ls)) rs) ls
sig-held w (sig_text a) r ls go [] e f = absurd f
sig-held w (sig_text a) r ls go (x ∷ rs) e f =
    (λ n q. parts-stay (with_result e r (part_held x)) (signal_names ls) rs n (named-held e r n (part_held x) q), go rs (with_result e r (part_held x)) f.2)
sig-held w _ r ls go rs e f = (tt, go rs e f)

pub sigs-held : (w : ℕ) (ls : List LineText) (rs : List Range) (e : Env) → RangesFit w rs (signal_types ls) → SigsHeld (with_parts e (signal_names ls) rs) ls
sigs-held w [] rs e f = tt
sigs-held w (l ∷ ls) rs e f = sig-held w l.inst l.result ls (sigs-held w ls) rs e f

-- what an instruction names is known where it stands: an argument, or a result before it
abbrev pub KnownNames : Type 0
KnownNames = List ℕ → Bool

abbrev pub known_after : KnownNames → LineText → KnownNames
known_after known l n = known n || is_result_name n l.result

abbrev pub NamesKnown : KnownNames → List LineText → Type 0
NamesKnown known [] = Unit {0}
NamesKnown known (l ∷ ls) = Each (λ n. known n ≡ true) (values_named l.inst) × NamesKnown (known_after known l) ls

-- the module has no `var`, `ld` or the like in an entity, and what gives no value has no result
abbrev pub IsFitLine : LineText → Type 0
IsFitLine l = (is_allowed kind.Entity l.inst ≡ true) × ((n : List ℕ) → l.result ≡ Some n → gives_value l.inst ≡ true)

-- the values of a list of uses
abbrev pub named_in : List Use → List (List ℕ)
named_in us = map (λ (x : Use). x.value) us

abbrev pub AllHeld : Env → List Use → Type 0
AllHeld e us = Each (λ n. IsSome (e n)) (named_in us)

pub held-split : (e : Env) (xs ys : List Use) → AllHeld e (xs ++ ys) → AllHeld e xs × AllHeld e ys
held-split e [] ys h = (tt, h)
held-split e (x ∷ xs) ys h = let r = held-split e xs ys h.1 in ((h.0, r.0), r.1)

held-operands : (e : Env) (need : Need) (os : List OperandText) → AllHeld e (all_used need os) → Each (λ (o : OperandText). IsSome (e o.value)) os
held-operands e need [] h = tt
held-operands e need (o ∷ os) h = (h.0, held-operands e need os h.1)

held-operation : (e : Env) (o : Op) (os : List OperandText) → AllHeld e (operation_uses o os) → Each (λ (x : OperandText). IsSome (e x.value)) os
held-operation e (op.Extf k) os h = held-operands e (step_need (first_type os)) os h
held-operation e (op.Exts at len) os h = held-operands e (step_need (first_type os)) os h
held-operation e o os h = held-operands e data_needed os h

held-maybe : (e : Env) (need : Need) (c : Option (List ℕ)) → AllHeld e (maybe_used need c) → (n : List ℕ) → c ≡ Some n → IsSome (e n)
held-maybe e need None h n q = absurd (none-some n q)
held-maybe e need (Some m) h n q = subst (λ k. IsSome (e k)) (same_Some m n q) h.0

module _ (u : UnitText) (w : ℕ) (e : Env) (fits : Fits u w e) where
  triggers-find : (t : TypeTree) → IsData t → (gs : List TriggerText) → Each (TriggerIs u t) gs → AllHeld e (trigger_uses gs) → Each (TriggerFinds e) gs
  triggers-find t d [] r h = tt
  triggers-find t d (g ∷ gs) r h =
      let both = held-split e (maybe_used data_needed g.gate ++ maybe_used time_needed g.after) (trigger_uses gs) h.1.1 in
      let parts = held-split e (maybe_used data_needed g.gate) (maybe_used time_needed g.after) both.0 in
      let v = value-at u w e fits g.value t r.0.value (carries-value t d) h.0 in (
        record {
          value = is-some (datum_at e g.value) v.0 v.1;
          trigger = test-at u w e fits g.trigger r.0.trigger h.1.0;
          gate = condition-at u w e fits g.gate r.0.gate (held-maybe e data_needed g.gate parts.0);
          after = delay-of u w e fits g.after r.0.after (held-maybe e time_needed g.after parts.1);
        },
        triggers-find t d gs r.1 both.1,
      )

drive-there : (c : Bool) (w x : Wish) → IsSome (drive_when (Some c) w (Some x))
drive-there true w x = refl
drive-there false w x = refl

module _ (u : UnitText) (now : List Bool) (memory : Option (List Bool)) (t : Instant) where
  -- a sound instruction finds what it looks for, where its operands are held
  pub finds-one : (p : Passed) → Fits u (length now) p.held → (i : InstText) → RowIs u i → HasPart u i → AllHeld p.held (uses i) → FindsInPass u now t p i
  finds-one p f (pure_text o os) row part h = operated-there u (length now) p.held f o os row part (held-operation p.held o os h)
  finds-one p f (prb_text s) row part h =
      let r = part-at u (length now) p.held f s.value row.0 row.1.1 h.0 in
      rw (row.1.0, r.1) refl
  finds-one p f (drv_text to value after cond) row part h =
      let r = part-at u (length now) p.held f to.value row.0 row.1.1 h.0 in
      let v = value-at u (length now) p.held f value row.0 row.2 (carries-value row.0 r.2) h.1.0 in
      let d = delay-at u (length now) p.held f after row.3 h.1.1.0 in
      let c = some-of (condition_at p.held cond) (condition-at u (length now) p.held f cond row.4 (held-maybe p.held data_needed cond h.1.1.1)) in
      rw (c.1, r.1, v.1, d.1) (drive-there c.0 p.wish _)
  finds-one p f (reg_text to gs) row part h =
      let r = part-at u (length now) p.held f to.value row.0 row.1.1 h.0 in
      (is-some (part_at p.held to.value) r.0 r.1, triggers-find u (length now) p.held f row.0 r.2 gs row.2 h.1)
  finds-one p f _ row part h = tt

  -- nothing that is held is lost
  pub passes-stay : (i : InstText) (r : Option (List ℕ)) (p : Passed) (n : List ℕ) → IsSome (p.held n) → IsSome ((passes u now memory t i r p).held n)
  passes-stay (const_text d) r p n s = given-stays p.held r n (Some (datum_held d)) s
  passes-stay (pure_text o os) r p n s = given-stays p.held r n (operated u p.held o os) s
  passes-stay (prb_text o) r p n s = given-stays p.held r n (probed now p.held o) s
  passes-stay (reg_text to gs) r p n s = subst (λ (x : Env). IsSome (x n)) (sym (triggers-hold memory t to false p gs)) s
  passes-stay _ r p n s = s

  -- what gives no value has no result
  pub unnamed : {A : Type 0} (r : Option (List ℕ)) (n : List ℕ) → ((m : List ℕ) → r ≡ Some m → false ≡ true) → is_result_name n r ≡ true → A
  unnamed None n k q = absurd cc
  unnamed (Some m) n k q = let e : false ≡ true = k m refl in absurd cc

  -- the result of an instruction is held after it
  result-held : (i : InstText) (r : Option (List ℕ)) (p : Passed) → is_allowed kind.Entity i ≡ true → ((m : List ℕ) → r ≡ Some m → gives_value i ≡ true) → FindsInPass u now t p i → SigHeld p.held i r
      → (n : List ℕ) → is_result_name n r ≡ true → IsSome ((passes u now memory t i r p).held n)
  result-held (const_text d) r p a g f s n q = given-held p.held r n (Some (datum_held d)) refl q
  result-held (pure_text o os) r p a g f s n q = given-held p.held r n (operated u p.held o os) f q
  result-held (prb_text o) r p a g f s n q = given-held p.held r n (probed now p.held o) f q
  result-held (sig_text o) r p a g f s n q = s n q
  result-held (drv_text to value after c) r p a g f s n q = unnamed r n g q
  result-held (reg_text to gs) r p a g f s n q = unnamed r n g q
  result-held (child_text v inputs outputs) r p a g f s n q = unnamed r n g q
  result-held (var_text o) r p a g f s n q = absurd cc
  result-held (ld_text o) r p a g f s n q = absurd cc
  result-held (st_text to value) r p a g f s n q = absurd cc
  result-held (call_text v ty os) r p a g f s n q = absurd cc
  result-held (phi_text ty es) r p a g f s n q = absurd cc
  result-held (br_text to) r p a g f s n q = absurd cc
  result-held (branch_text c x y) r p a g f s n q = absurd cc
  result-held (wait_text to after ss) r p a g f s n q = absurd cc
  result-held halt_text r p a g f s n q = absurd cc
  result-held (ret_text o) r p a g f s n q = absurd cc

  -- after an instruction what is known is held
  pub next-held : (l : LineText) (p : Passed) (known : KnownNames) → ((n : List ℕ) → known n ≡ true → IsSome (p.held n)) → IsFitLine l → FindsInPass u now t p l.inst → SigHeld p.held l.inst l.result
      → (n : List ℕ) → known_after known l n ≡ true → IsSome ((passes u now memory t l.inst l.result p).held n)
  next-held l p known k a h g n q = at (known n) refl (is_result_name n l.result) refl q
    where
      at : (b : Bool) → known n ≡ b → (c : Bool) → is_result_name n l.result ≡ c → (b || c) ≡ true → IsSome ((passes u now memory t l.inst l.result p).held n)
      at true x c y q = passes-stay l.inst l.result p n (k n x)
      at false x true y q = result-held l.inst l.result p a.0 a.1 h g n y
      at false x false y q = absurd cc

  -- each instruction finds what it looks for
  pub finds-all : (ls : List LineText) (p : Passed) (known : KnownNames) → ((n : List ℕ) → known n ≡ true → IsSome (p.held n)) → Fits u (length now) p.held
      → Each (InstIsSound u) ls → NamesKnown known ls → Each IsFitLine ls → SigsHeld p.held ls → FindsAll u now memory t p ls
  finds-all [] p known k f s m a g = tt
  finds-all (l ∷ ls) p known k f s m a g =
      let here : FindsInPass u now t p l.inst = finds-one p f l.inst s.0.row s.0.part (Each-more (λ n. known n ≡ true) (λ n. IsSome (p.held n)) (values_named l.inst) k m.0) in
      let after : Passed = passes u now memory t l.inst l.result p in (
        here,
        finds-all ls after (known_after known l) (next-held l p known k a.0 here g.0) (keeps-fit u now memory t p l s.0 f) s.1 m.1 a.1
            (sigs-more p.held after.held ls (λ n h. passes-stay l.inst l.result p n h) g.1),
      )

-- From the module to its unit.
-- a name that is defined by lines up to one more
defined-last : (n : List ℕ) (before : List LineText) (l : LineText) → lines_define n (before ++ l ∷ []) ≡ true → (lines_define n before ≡ true) ⊎ (is_result_name n l.result ≡ true)
defined-last n [] l h = at (is_result_name n l.result) refl h
  where
    at : (b : Bool) → is_result_name n l.result ≡ b → (b || false) ≡ true → (false ≡ true) ⊎ (is_result_name n l.result ≡ true)
    at true e q = inr e
    at false e q = absurd cc
defined-last n (x ∷ before) l h = at (is_result_name n x.result) refl h (defined-last n before l)
  where
    at : (b : Bool) → is_result_name n x.result ≡ b → (b || lines_define n (before ++ l ∷ [])) ≡ true
        → (lines_define n (before ++ l ∷ []) ≡ true → (lines_define n before ≡ true) ⊎ (is_result_name n l.result ≡ true))
        → ((is_result_name n x.result || lines_define n before) ≡ true) ⊎ (is_result_name n l.result ≡ true)
    at true e q go = inl (ap (λ b. b || lines_define n before) e)
    at false e q go = ⊎_elim (λ r. inl (ap (λ b. b || lines_define n before) e ∙ r)) (λ r. inr r) (go q)

module _ (u : UnitText) where
  -- what is known has the arguments, and the results of these lines
  record KnowsResults (known : KnownNames) (before : List LineText) : Type 0 where
    args : (n : List ℕ) → args_define n u.args ≡ true → known n ≡ true
    lines : (n : List ℕ) → lines_define n before ≡ true → known n ≡ true

  abbrev NamesEarlier : InstPlaceText → Type 0
  NamesEarlier p = Each (IsEarlier u p.before) (values_named p.line.inst)

  knows-more : (known : KnownNames) (before : List LineText) (l : LineText) → KnowsResults known before → KnowsResults (known_after known l) (before ++ l ∷ [])
  knows-more known before l k = record {
    args = λ n h. or_left (known n) (is_result_name n l.result) (k.args n h);
    lines = λ n h. ⊎_elim (λ q. or_left (known n) (is_result_name n l.result) (k.lines n q)) (λ q. or_right (known n) (is_result_name n l.result) q) (defined-last n before l h);
  }

  known-in : (number : ℕ) (e : Bool) (b : BlockText) (before rest : List LineText) → Each NamesEarlier (places_in number e b before rest) → (known : KnownNames) → KnowsResults known before
      → (more : List LineText)
      → ((after : KnownNames) → KnowsResults after [] → NamesKnown after more) → NamesKnown known (rest ++ more)
  known-in number e b before [] h known k more go = go known (record { args = k.args; lines = λ n q. absurd cc })
  known-in number e b before (l ∷ rest) h known k more go = (
    Each-more (IsEarlier u before) (λ n. known n ≡ true) (values_named l.inst) (λ n q. ⊎_elim (k.args n) (k.lines n) q) h.0,
    known-in (number + 1) e b (before ++ l ∷ []) rest h.1 (known_after known l) (knows-more known before l k) more go,
  )

  known-from : (number : ℕ) (e : Bool) (bs : List BlockText) → Each NamesEarlier (places_from number e bs) → (known : KnownNames) → KnowsResults known [] → NamesKnown known (lines_of bs)
  known-from number e [] h known k = tt
  known-from number e (b ∷ bs) h known k =
      let r = each-split NamesEarlier (places_in number e b [] b.lines) (places_from (number + length b.lines) false bs) h in
      known-in number e b [] b.lines r.0 known k (lines_of bs) (λ after q. known-from (number + length b.lines) false bs r.1 after q)

-- what holds at each instruction of an entity
abbrev SiteThere : Site → Type 0
SiteThere s = OperandsThere s.unit.kind s.unit s.place s.place.line.inst × (is_allowed s.unit.kind s.place.line.inst ≡ true)

abbrev pub EntityLines : UnitText → Type 0
EntityLines u = NamesKnown (λ n. args_define n u.args) (lines_of u.blocks) × Each (λ (l : LineText). is_allowed kind.Entity l.inst ≡ true) (lines_of u.blocks)

abbrev pub EntityIn : ItemText → Type 0
EntityIn (unit_text u) = u.kind ≡ kind.Entity → EntityLines u
EntityIn (declare_text d) = Unit {0}

entity-lines : (u : UnitText) → Each SiteThere (map (site_in u) (places u)) → u.kind ≡ kind.Entity → EntityLines u
entity-lines u h k =
    let ps : Each (λ p. SiteThere (site_in u p)) (places u) = Each-of-map SiteThere (site_in u) (places u) h in
    let there : Each (NamesEarlier u) (places u) = Each-more (λ p. SiteThere (site_in u p)) (NamesEarlier u) (places u) (λ p q. subst (λ (x : UnitKind). OperandsThere x u p p.line.inst) k q.0) ps in
    let allowed : Each (λ (p : InstPlaceText). is_allowed kind.Entity p.line.inst ≡ true) (places u) =
    Each-more (λ p. SiteThere (site_in u p)) (λ (p : InstPlaceText). is_allowed kind.Entity p.line.inst ≡ true) (places u) (λ p q. ap (λ (x : UnitKind). is_allowed x p.line.inst) (sym k) ∙ q.1) ps in (
      known-from u 1 true u.blocks there (λ n. args_define n u.args) (record { args = λ n q. q; lines = λ n q. absurd cc }),
      lines-from (λ (l : LineText). is_allowed kind.Entity l.inst ≡ true) 1 true
          u.blocks allowed,
    )

entities-in : (items : List ItemText) → Each SiteThere (sites items) → Each EntityIn items
entities-in [] h = tt
entities-in (unit_text u ∷ more) h = let r = each-split SiteThere (map (site_in u) (places u)) (sites more) h in (entity-lines u r.0, entities-in more r.1)
entities-in (declare_text d ∷ more) h = (tt, entities-in more h)

allowed-there : (items : List ItemText) (s : Site) → IsFaultless items → Contains (sites items) s → is_allowed s.unit.kind s.place.line.inst ≡ true
allowed-there items s f c = not-false (is_allowed s.unit.kind s.place.line.inst) (false_from_ne_true (not (is_allowed s.unit.kind s.place.line.inst)) ((at_site items s f c).none not_here))
  where
    not-false : (b : Bool) → not b ≡ false → b ≡ true
    not-false true e = refl
    not-false false e = cc

pub entities-of-items : (items : List ItemText) → IsFaultless items → Each EntityIn items
entities-of-items items f = entities-in items (each-contained SiteThere (sites items) (λ s c. (all_there items s f c, allowed-there items s f c)))

-- a line is spelled, so what gives no value has no result
pub line-gives : (r : Option (List ℕ)) (i : InstText) (ts : List Lexeme) → SpellsLine r i ts → (n : List ℕ) → r ≡ Some n → gives_value i ≡ true
line-gives None i ts h n q = absurd (none-some n q)
line-gives (Some m) i ts h n q = h.2

pub fit-lines : (ls : List LineText) → Each (λ (l : LineText). is_allowed kind.Entity l.inst ≡ true) ls → Each HasInstLine ls → Each IsFitLine ls
fit-lines [] a b = tt
fit-lines (l ∷ ls) a b = ((a.0, λ n q. line-gives l.result l.inst (lexemes_in (item_line (inst_item l))) b.0.1 n q), fit-lines ls a.1 b.1)

module _ (a : Arena) (u : ℕ) (o : IsArena a) (h : u < unit_count a) (g : IsWellFormed (contents a)) (k : kind_at a u ≡ Some kind.Entity) where
  pub defined : IsSome (kind_at a u)
  defined = subst (λ (x : Option UnitKind). IsSome x) (sym k) refl

  pub passes-find : (args sigs : List Range) (now : List Bool) (memory : Option (List Bool)) (t : Instant) → InstanceFits (unit_text_at a u) args sigs (length now)
      → FindsAll (unit_text_at a u) now memory t (record { held = parts_of (unit_text_at a u) args sigs; seen = []; wish = no_wish }) (lines_of (unit_text_at a u).blocks)
  passes-find args sigs now memory t f =
      let x : UnitText = unit_text_at a u in
      let s = unit-is-sound a u o h g defined in
      let e : EntityLines x = of-unit a u o h g defined EntityIn (entities-of-items (contents a) g.1) (ap kind_text k) in
      finds-all x now memory t (lines_of x.blocks) (record { held = parts_of x args sigs; seen = []; wish = no_wish }) (λ n. args_define n x.args)
      (λ n q. parts-stay (with_args nothing_held x.args (map part_held args)) (signal_names (lines_of x.blocks)) sigs n (args-held (length now) nothing_held x.args args f.of_args n q))
      (begins-fit a u o h g k args sigs (length now) f) s.lines e.0 (fit-lines (lines_of x.blocks) e.1 (lines-printed x s.printable))
      (sigs-held (length now) (lines_of x.blocks) sigs (with_args nothing_held x.args (map part_held args)) f.of_signals)
