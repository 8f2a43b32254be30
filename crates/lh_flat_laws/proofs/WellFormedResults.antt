-- Each result of the flat text of a process of a well-formed module stands once, and has a type.
use Rattle.std.proofs.Common.{◌≡◌, ℕ, suc, List, [], ◌∷◌, true, false, Option, Some, None, IsSome, ap, sym, ◌∙◌, subst}
use Rattle.std.proofs.lemmas.Bool.{or_parts}
use Rattle.lh_unit_names.specs.declared.name.UnitName.{UnitName}
use Rattle.lh_unit.specs.declared.inst.UnitKind.TheVariants as kind
use Rattle.lh_unit.specs.Contents.{LineText, BlockText, ArgText, UnitText, ItemText, unit_text, is_result_name, args_define, defines_label_in}
use Rattle.lh_unit_names.specs.Names.{same_name}
use Rattle.lh_unit.specs.Named.{label_or}
use Rattle.lh_unit.specs.Activation.{functions}
use Rattle.lh_unit.specs.Hierarchy.{lines_of}
use Rattle.lh_unit.specs.Places.{InstPlaceText}
use Rattle.lh_unit.specs.Typing.{value_type}
use Rattle.lh_unit.specs.WellFormed.{is_allowed, IsWellFormed}
use Rattle.lh_unit.specs.Within.{Each}
use Rattle.lh_unit.proofs.Within.{Each-more}
use Rattle.lh_verify_laws.proofs.AtPlaces.{lines-from}
use Rattle.lh_trace_laws.proofs.Labelled.{AllLabelled}
use Rattle.lh_eval.specs.Sound.{InstIsSound}
use Rattle.lh_text_laws.specs.Printable.{HasInstLine, results_repeat}
use Rattle.lh_eval_laws.proofs.NamedOnce.{GivesItsType, lines-typed}
use Rattle.lh_flat.specs.Copies.{top_copy}
use Rattle.lh_flat.specs.Flat.{flat_unit, max_nested, text_of}
use Rattle.lh_flat.specs.Marks.{IsPlain}
use Rattle.lh_flat.proofs.Apart.{Differs, Apart, plain-name, name-there}
use Rattle.lh_flat.proofs.Marks.{is_same}
use Rattle.lh_flat_laws.specs.Tidy.{BlockTidy, ArgsOnce, UnitTidy}
use Rattle.lh_flat_laws.proofs.Facts.{PlaceFacts, UnitFacts, is-code}
use Rattle.lh_flat_laws.proofs.CopyPaths.{function-facts, process-facts}
use Rattle.lh_flat_laws.proofs.TidyUnits.{result-named, facts, process-tidy, functions-tidy}
use Rattle.lh_flat_laws.proofs.Results.{named, results, IsNewIn, results-apart, IsOwn, labels_in, OwnNames, once}
use Rattle.lh_flat_laws.proofs.ResultTypes.{IsTyped, IsTypedCode, line-typed, copies-typed}
use Rattle.lh_flat_laws.specs.Members.{Among}

-- ---- the names of a unit

results-own : (ls : List LineText) → Each HasInstLine ls → Each IsOwn (results ls)
results-own [] h = tt
results-own (l ∷ ls) h = by l.result h.0 (results-own ls h.1)
  where
    by : (r : Option (List ℕ)) → HasInstLine (record { result = r; inst = l.inst }) → Each IsOwn (results ls) → Each IsOwn (named r (results ls))
    by None w go = go
    by (Some n) w go = let k = result-named n l.inst w in (record { plain = plain-name n k; filled = name-there n k }, go)

labels-own : (fs : List UnitText) (v : UnitText) (bs : List BlockText) → Each (BlockTidy fs v) bs → Each IsOwn (labels_in bs)
labels-own fs v [] h = tt
labels-own fs v (b ∷ bs) h = (record { plain = h.0.plain; filled = h.0.labelled }, labels-own fs v bs h.1)

label-differs : (n : List ℕ) (bs : List BlockText) → AllLabelled bs → defines_label_in n bs ≡ false → Differs n (labels_in bs)
label-differs n [] a d = tt
label-differs n (b ∷ bs) a d =
    let p = or_parts (is_result_name n b.label) (defines_label_in n bs) d in
    ((λ e. other (ap label_or a.1) (ap (is_result_name n) (sym a.1) ∙ p.0) e), label-differs n bs a.3 p.1)
  where
    other : label_or b.label ≡ a.0 → same_name a.0 n ≡ false → n ≡ label_or b.label → ⊥
    other q f e = let t : same_name a.0 n ≡ true = is_same a.0 n (sym (e ∙ q)) in cc

labels-once : (bs : List BlockText) → AllLabelled bs → Apart (labels_in bs)
labels-once [] a = tt
labels-once (b ∷ bs) a = (subst (λ n. Differs n (labels_in bs)) (sym (ap label_or a.1)) (label-differs a.0 bs a.3 a.2), labels-once bs a.3)

own-names : (items : List ItemText) (fs : List UnitText) (v : UnitText) → UnitFacts items v → UnitTidy fs v → OwnNames v
own-names items fs v f t =
    let r = results-apart v.args [] (lines_of v.blocks) f.printable.new_results in
    record {
      once = r.0;
      own = results-own (lines_of v.blocks) f.printable.written;
      new = Each-more (IsNewIn v.args []) (λ n. args_define n v.args ≡ false) (results (lines_of v.blocks)) (λ n h. h.0) r.1;
      labels = labels-own fs v v.blocks t.blocks;
      labels_once = labels-once v.blocks f.labelled;
    }

args-plain : (args : List ArgText) → ArgsOnce args → Each (λ (a : ArgText). IsPlain a.name) args
args-plain [] h = tt
args-plain (a ∷ args) h = (h.0, args-plain args h.2)

-- ---- the types of its lines

typed-lines : (v : UnitText) (ls : List LineText) → Each HasInstLine ls → Each (InstIsSound v) ls → Each (λ (l : LineText). is_allowed v.kind l.inst ≡ true) ls
    → ((l : LineText) → is_allowed v.kind l.inst ≡ true → HasInstLine l → InstIsSound v l → IsTypedCode l) → Each IsTypedCode ls
typed-lines v [] h s a f = tt
typed-lines v (l ∷ ls) h s a f = (f l a.0 h.0 s.0, typed-lines v ls h.1 s.1 a.1 f)

unit-typed : (items : List ItemText) (v : UnitText) → UnitFacts items v → Each IsTypedCode (lines_of v.blocks)
unit-typed items v f =
    let allowed : Each (λ (l : LineText). is_allowed v.kind l.inst ≡ true) (lines_of v.blocks) =
    lines-from (λ (l : LineText). is_allowed v.kind l.inst ≡ true) 1 true v.blocks
    (Each-more (PlaceFacts items v) (λ (p : InstPlaceText). is_allowed v.kind p.line.inst ≡ true) _ (λ p h. h.allowed) f.places) in
    typed-lines v (lines_of v.blocks) f.printable.written f.sound allowed
    (λ l a h s. (is-code v.kind l.inst f.runs a, line-typed v l h s.row))

-- ---- the flat text of a process

-- each line of a unit gives a value of a type
abbrev pub GivesTyped : UnitText → LineText → Type 0
GivesTyped x l = (n : List ℕ) → l.result ≡ Some n → IsSome (value_type x n)

value-typed : (x : UnitText) (ls : List LineText) → Each IsTyped ls → Each (GivesItsType x) ls → Each (GivesTyped x) ls
value-typed x [] h k = tt
value-typed x (l ∷ ls) h k = ((λ n e. subst (λ o. IsSome o) (sym (k.0 n e)) (h.0 n e)), value-typed x ls h.1 k.1)

module _ (items : List ItemText) (g : IsWellFormed items) (u : UnitText) (among : Among (unit_text u) items) (process : u.kind ≡ kind.Proc) (name : UnitName) where
  abbrev flat : UnitText
  flat = flat_unit name (text_of (functions items) u)

  -- Each result of its flat text stands once.
  pub results_once : results_repeat flat.args [] (lines_of flat.blocks) ≡ false
  results_once =
      let t = process-tidy items g u among process in
      once (functions items) (λ n f e. own-names items (functions items) f (function-facts items items (facts items g) n f e) (functions-tidy items g n f e)) u name
      (own-names items (functions items) u (process-facts items items (facts items g) u among process) t) (args-plain u.args t.args)

  -- Each has the type that its own line tells.
  pub results_tell : Each (GivesItsType flat) (lines_of flat.blocks)
  results_tell = lines-typed flat results_once

  -- Each has a type.
  pub results_typed : Each (GivesTyped flat) (lines_of flat.blocks)
  results_typed =
      let typed : Each IsTyped (lines_of flat.blocks) = copies-typed (functions items) (λ n f e. unit-typed items f (function-facts items items (facts items g) n f e)) (suc max_nested) (top_copy u)
      (unit-typed items u (process-facts items items (facts items g) u among process)) in
      value-typed flat (lines_of flat.blocks) typed results_tell
