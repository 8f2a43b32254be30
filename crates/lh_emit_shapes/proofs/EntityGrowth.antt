-- An entity only gets longer, and what has a name keeps it.
use Rattle.std.proofs.Common.{◌≡◌, ℕ, ◌+◌, ◌≤◌, Bool, true, false, ◌&&◌, if◌then◌else◌, List, [], ◌∷◌, ◌++◌, length, Option, Some, None, refl, ap, sym, ◌∙◌, arith, length-append}
use Rattle.std.specs.Prelude.{fold}
use Rattle.lh_types.specs.Values.{Datum, DatumRow, int_value, time_value, array_value, tuple_value, no_values, more_values}
use Rattle.lh_unit.specs.Contents.{InstText, LineText}
use Rattle.lh_term.specs.Tree.{Tree, TreeRow, constant, past_of, now_of, operation, choice_of, no_trees, more_trees, operation_on}
use Rattle.lh_term.specs.SameTree.{same_tree, same_tree-is}
use Rattle.lh_term.specs.Same.{same_part, same_part-is}
use Rattle.lh_types.specs.declared.op.Op.TheVariants.{Array}
use Rattle.lh_term.specs.Make.{is_bit, is_constant, value_in}
use Rattle.lh_term.specs.declared.part.Part.{Part}
use Rattle.lh_emit_def.specs.Given.{Drive, TriggerTree, EdgeRowTree}
use Rattle.lh_emit_def.specs.Emitted.{Source, PartStep, Emitted, gives, puts, gives_term, next_name, takes_steps, unless_there, need_part}
use Rattle.lh_emit_def.specs.Needs.{operation_text, gives_operation, need_value, need_values, need_pair, need, need_all}
use Rattle.lh_emit_def.specs.Entities.{need_cond, emit_drive, emit_drives, emit_probes, need_trigger, emit_register_by, emit_register}
use Rattle.lh_emit_def.proofs.Induction.{IsNamed, term-named}

-- at least as long, and each name stays
pub record Extends (e x : Emitted) : Type 0 where
  pub longer : length e.lines ≤ length x.lines
  pub terms : (t : Tree) (n : List ℕ) → e.terms t ≡ Some n → x.terms t ≡ Some n
  pub parts : (p : Part) (n : List ℕ) → e.parts p ≡ Some n → x.parts p ≡ Some n

pub extends-same : (e : Emitted) → Extends e e
extends-same e = record { longer = omega arith; terms = λ t n h. h; parts = λ p n h. h }

pub extends-then : (e x y : Emitted) → Extends e x → Extends x y → Extends e y
extends-then e x y a b = record {
  longer = omega (arith, a.longer, b.longer);
  terms = λ t n h. b.terms t n (a.terms t n h);
  parts = λ p n h. b.parts p n (a.parts p n h);
}

-- ---- one more instruction

more : (ls : List LineText) (l : LineText) (k : ℕ) → k ≤ length ls → k ≤ length (ls ++ l ∷ [])
more ls l k h = let q : length (ls ++ l ∷ []) ≡ length ls + 1 = length-append ls (l ∷ []) in omega (arith, q, h)

pub puts-extends : (i : InstText) (e : Emitted) → Extends e (puts i e)
puts-extends i e = record { longer = more e.lines _ (length e.lines) (omega arith); terms = λ t n h. h; parts = λ p n h. h }

gives-extends : (s : Source) (i : InstText) (e x : Emitted) → Extends e x → Extends e (gives s i x)
gives-extends s i e x k = record { longer = more x.lines _ (length e.lines) k.longer; terms = λ t n h. k.terms t n h; parts = λ p n h. k.parts p n h }

-- the instruction of a term that had no name
term-extends : (s : Source) (t : Tree) (i : InstText) (e x : Emitted) → e.terms t ≡ None → Extends e x → Extends e (gives_term s t i x)
term-extends s t i e x none k = record { longer = more x.lines _ (length e.lines) k.longer; terms = λ u n h. at u n h (same_tree t u) refl; parts = λ p n h. k.parts p n h }
  where
    at : (u : Tree) (n : List ℕ) → e.terms u ≡ Some n → (b : Bool) → same_tree t u ≡ b → (if b then Some (next_name s x) else x.terms u) ≡ Some n
    at u n h true q = let z : None ≡ Some n = sym none ∙ ap e.terms (same_tree-is t u q) ∙ h in absurd cc
    at u n h false q = k.terms u n h

-- the steps to a part that had no name
steps-extends : (s : Source) (p : Part) (n : List ℕ) (ss : List PartStep) (e x : Emitted) → e.parts p ≡ None → Extends e x → Extends e (takes_steps s p n ss x)
steps-extends s p n [] e x none k = record { longer = k.longer; terms = λ u m h. k.terms u m h; parts = λ q m h. at q m h (same_part p q) refl }
  where
    at : (q : Part) (m : List ℕ) → e.parts q ≡ Some m → (b : Bool) → same_part p q ≡ b → (if b then Some n else x.parts q) ≡ Some m
    at q m h true r = let z : None ≡ Some m = sym none ∙ ap e.parts (same_part-is p q r) ∙ h in absurd cc
    at q m h false r = k.parts q m h
steps-extends s p n (st ∷ ss) e x none k = steps-extends s p (next_name s x) ss e _ none (gives-extends s _ e x k)

-- ---- need

unless-extends : (e : Emitted) (o : Option (List ℕ)) (f : Emitted → Emitted) → (o ≡ None → Extends e (f e)) → Extends e (unless_there o f e)
unless-extends e (Some n) f k = extends-same e
unless-extends e None f k = k refl

pub part-extends : (s : Source) (p : Part) (e : Emitted) → Extends e (need_part s p e)
part-extends s p e = unless-extends e (e.parts p) _ (λ q. steps-extends s p _ (s.steps p) e e q (extends-same e))

mutual
  value-extends : (s : Source) (v : Datum) (e : Emitted) → Extends e (need_value s v e)
  value-extends s (int_value w b) e = unless-extends e (e.terms (constant (int_value w b))) _ (λ q. term-extends s _ _ e e q (extends-same e))
  value-extends s (time_value d) e = unless-extends e (e.terms (constant (time_value d))) _ (λ q. term-extends s _ _ e e q (extends-same e))
  value-extends s (array_value vs) e = unless-extends e (e.terms (constant (array_value vs))) _ (λ q. term-extends s _ _ e _ q (values-extends s vs e))
  value-extends s (tuple_value vs) e = unless-extends e (e.terms (constant (tuple_value vs))) _ (λ q. term-extends s _ _ e _ q (values-extends s vs e))

  values-extends : (s : Source) (vs : DatumRow) (e : Emitted) → Extends e (need_values s vs e)
  values-extends s no_values e = extends-same e
  values-extends s (more_values v vs) e = extends-then e (need_value s v e) _ (value-extends s v e) (values-extends s vs (need_value s v e))

pair-extends : (s : Source) (f t : Tree) (need_f need_t : Emitted → Emitted) → ((x : Emitted) → Extends x (need_f x)) → ((x : Emitted) → Extends x (need_t x)) → (e : Emitted)
    → Extends e (need_pair s f t need_f need_t e)
pair-extends s f t need_f need_t kf kt e = at (is_constant f && is_constant t)
  where
    at : (b : Bool) → Extends e (if b then need_value s (array_value (more_values (value_in f) (more_values (value_in t) no_values))) e
        else unless_there (e.terms (operation_on Array (f ∷ t ∷ []))) (λ x. gives_operation s (operation_on Array (f ∷ t ∷ [])) Array (f ∷ t ∷ []) (need_t (need_f x))) e)
    at true = value-extends s (array_value (more_values (value_in f) (more_values (value_in t) no_values))) e
    at false =
        unless-extends e (e.terms (operation_on Array (f ∷ t ∷ []))) (λ x. gives_operation s (operation_on Array (f ∷ t ∷ [])) Array (f ∷ t ∷ []) (need_t (need_f x)))
        (λ q. term-extends s (operation_on Array (f ∷ t ∷ [])) (operation_text (need_t (need_f e)) Array (f ∷ t ∷ [])) e (need_t (need_f e)) q
        (extends-then e (need_f e) (need_t (need_f e)) (kf e) (kt (need_f e))))

mutual
  pub need-extends : (s : Source) (t : Tree) (e : Emitted) → Extends e (need s t e)
  need-extends s (constant v) e = value-extends s v e
  need-extends s (past_of p) e = unless-extends e (e.terms (past_of p)) _ (λ q. term-extends s _ _ e _ q (part-extends s p e))
  need-extends s (now_of p) e = unless-extends e (e.terms (now_of p)) _ (λ q. term-extends s _ _ e _ q (part-extends s p e))
  need-extends s (operation op ts) e = unless-extends e (e.terms (operation op ts)) _ (λ q. term-extends s _ _ e _ q (all-extends s ts e))
  need-extends s (choice_of c f t) e =
      unless-extends e (e.terms (choice_of c f t)) _
      (λ q. term-extends s _ _ e _ q (extends-then e _ _ (pair-extends s f t (need s f) (need s t) (λ x. need-extends s f x) (λ x. need-extends s t x) e) (need-extends s c _)))

  all-extends : (s : Source) (ts : TreeRow) (e : Emitted) → Extends e (need_all s ts e)
  all-extends s no_trees e = extends-same e
  all-extends s (more_trees t ts) e = extends-then e (need s t e) _ (need-extends s t e) (all-extends s ts (need s t e))

-- the term has a name then
unless-named : (e : Emitted) (t : Tree) (f : Emitted → Emitted) → IsNamed (f e) t → IsNamed (unless_there (e.terms t) f e) t
unless-named e t f k = at (e.terms t) refl
  where
    at : (o : Option (List ℕ)) → e.terms t ≡ o → IsNamed (unless_there o f e) t
    at None q = k
    at (Some n) q = record { name = n; is = q }

value-named : (s : Source) (v : Datum) (e : Emitted) → IsNamed (need_value s v e) (constant v)
value-named s (int_value w b) e = unless-named e (constant (int_value w b)) _ (term-named s _ _ _)
value-named s (time_value d) e = unless-named e (constant (time_value d)) _ (term-named s _ _ _)
value-named s (array_value vs) e = unless-named e (constant (array_value vs)) _ (term-named s _ _ _)
value-named s (tuple_value vs) e = unless-named e (constant (tuple_value vs)) _ (term-named s _ _ _)

pub need-named : (s : Source) (t : Tree) (e : Emitted) → IsNamed (need s t e) t
need-named s (constant v) e = value-named s v e
need-named s (past_of p) e = unless-named e (past_of p) _ (term-named s _ _ _)
need-named s (now_of p) e = unless-named e (now_of p) _ (term-named s _ _ _)
need-named s (operation op ts) e = unless-named e (operation op ts) _ (term-named s _ _ _)
need-named s (choice_of c f t) e = unless-named e (choice_of c f t) _ (term-named s _ _ _)

-- ---- drives and registers

pub cond-extends : (s : Source) (c : Tree) (e : Emitted) → Extends e (need_cond s c e)
cond-extends s c e = at (is_bit 1 c)
  where
    at : (b : Bool) → Extends e (if b then e else need s c e)
    at true = extends-same e
    at false = need-extends s c e

pub drive-extends : (s : Source) (d : Drive) (e : Emitted) → Extends e (emit_drive s e d)
drive-extends s d e =
    let e1 = need s d.value e in
    let e2 = need s d.delay e1 in
    let e3 = need_cond s d.cond e2 in
    let e4 = need_part s d.part e3 in
    extends-then e e1 _ (need-extends s d.value e)
    (extends-then e1 e2 _ (need-extends s d.delay e1)
    (extends-then e2 e3 _ (cond-extends s d.cond e2)
    (extends-then e3 e4 _ (part-extends s d.part e3) (puts-extends _ e4))))

pub drives-extends : (s : Source) (ds : List Drive) (e : Emitted) → Extends e (emit_drives s ds e)
drives-extends s [] e = extends-same e
drives-extends s (d ∷ ds) e = extends-then e (emit_drive s e d) _ (drive-extends s d e) (drives-extends s ds (emit_drive s e d))

pub probes-extends : (s : Source) (ps : List Part) (e : Emitted) → Extends e (emit_probes s ps e)
probes-extends s [] e = extends-same e
probes-extends s (p ∷ ps) e = extends-then e (need s (now_of p) e) _ (need-extends s (now_of p) e) (probes-extends s ps (need s (now_of p) e))

pub trigger-extends : (s : Source) (r : EdgeRowTree) (g : TriggerTree) (e : Emitted) → Extends e (need_trigger s r e g)
trigger-extends s r g e =
    let e1 = need s r.value e in
    let e2 = need s (now_of g.part) e1 in
    let e3 = need_cond s g.gate e2 in
    extends-then e e1 _ (need-extends s r.value e)
    (extends-then e1 e2 _ (need-extends s (now_of g.part) e1)
    (extends-then e2 e3 _ (cond-extends s g.gate e2) (need-extends s r.delay e3)))

pub triggers-extends : (s : Source) (r : EdgeRowTree) (gs : List TriggerTree) (e : Emitted) → Extends e (fold (need_trigger s r) e gs)
triggers-extends s r [] e = extends-same e
triggers-extends s r (g ∷ gs) e = extends-then e (need_trigger s r e g) _ (trigger-extends s r g e) (triggers-extends s r gs (need_trigger s r e g))

-- the entity with a register is longer than what the register needs
pub register-extends : (s : Source) (r : EdgeRowTree) (e : Emitted) → Extends e (emit_register s e r)
register-extends s r e = at r.triggers
  where
    at : (gs : List TriggerTree) → Extends e (emit_register_by s r gs e)
    at [] = extends-same e
    at (g ∷ gs) =
        let e1 = fold (need_trigger s r) e r.triggers in
        let e2 = need_part s r.part e1 in
        extends-then e e1 _ (triggers-extends s r r.triggers e) (extends-then e1 e2 _ (part-extends s r.part e1) (puts-extends _ e2))

pub registers-extends : (s : Source) (rs : List EdgeRowTree) (e : Emitted) → Extends e (fold (emit_register s) e rs)
registers-extends s [] e = extends-same e
registers-extends s (r ∷ rs) e = extends-then e (emit_register s e r) _ (register-extends s r e) (registers-extends s rs (emit_register s e r))
