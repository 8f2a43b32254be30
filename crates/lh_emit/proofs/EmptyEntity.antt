-- An entity with its arguments and no instruction.
use Rattle.std.proofs.Common.{◌≡◌, ℕ, zero, suc, ◌+◌, ◌-◌, ◌<◌, ◌≤◌, List, [], ◌∷◌, ◌++◌, length, map, take, drop, get_or, Option, Some, None, slice_get, refl, ap, sym, ◌∙◌, subst, arith, append_assoc}
use Rattle.std.specs.Prelude.{slice_index_or}
use Rattle.std.specs.Option.{option_map}
use Rattle.std.proofs.Math.Seq.{take-length}
use Rattle.std.proofs.lemmas.List.{append-nil}
use Rattle.lh_unit.specs.Contents.{ArgText}
use Rattle.lh_unit.specs.Naming.{value_text}
use Rattle.lh_unit.specs.Typing.{or_else}
use Rattle.lh_term.specs.declared.part.Part.{Part}
use Rattle.lh_term.specs.declared.term.TermId.{TermId}
use Rattle.lh_term.specs.declared.term.TermNode.{TermNode}
use Rattle.lh_term.proofs.Arenas.{map_length}
use Rattle.lh_emit_def.specs.Emitted.{Source, nothing_emitted, whole_name}
use Rattle.lh_emit_body.specs.Lines.{naming, line_text, arg_names, LinesHaveRoom, BeginsWith, AddsBodyArg, LinesAreEmitted}
use Rattle.lh_emit.specs.Begun.{HasArgs}
use Rattle.lh_emit.specs.Emitting.{ArgumentsFirst, IsEmitted}
use Rattle.lh_emit.specs.Parts.{part_in, KnowsParts}
use Rattle.lh_emit.specs.Values.{value_in}
use Rattle.lh_emit.specs.declared.emitter.Emitter.{Emitter}
use Rattle.lh_emit_body.specs.declared.lines.Lines.{Lines}
use Rattle.lh_emit.specs.declared.parts.Parts.{Parts}
use Rattle.lh_emit.specs.declared.values.Values.{Values}
use Rattle.lh_emit.proofs.KnownValues.{knows-none}

-- ---- arguments

-- those so far, and the names of those that are left
pub record ArgsSoFar (args : List ArgText) (ls : Lines) (left : List (List ℕ)) : Type 0 where
  pub done : List ArgText
  pub rest : List ArgText
  pub is : args ≡ done ++ rest
  pub begins : BeginsWith done ls
  pub names : arg_names rest ≡ left

pub record AddingArgs (names : List (List ℕ)) (ls : Lines) (left : List (List ℕ)) : Type 0 where
  pub room : LinesHaveRoom ls
  pub adding : (args : List ArgText) → arg_names args ≡ names → ArgsSoFar args ls left

pub args-first : (names : List (List ℕ)) (ls : Lines) → LinesHaveRoom ls → BeginsWith [] ls → AddingArgs names ls names
args-first names ls r b = record { room = r; adding = λ args e. record { done = []; rest = args; is = refl; begins = b; names = e } }

one-more : (args : List ArgText) (old new : Lines) (n : List ℕ) (left : List (List ℕ)) → AddsBodyArg n old new → ArgsSoFar args old (n ∷ left) → ArgsSoFar args new left
one-more args old new n left h k = by k.rest k.is k.names
  where
    by : (rest : List ArgText) → args ≡ k.done ++ rest → arg_names rest ≡ n ∷ left → ArgsSoFar args new left
    by [] e q = absurd cc
    by (a ∷ rest) e q =
        let p : a.name ≡ n = cc in
        let r : arg_names rest ≡ left = cc in
        record { done = k.done ++ a ∷ []; rest = rest; is = e ∙ sym (append_assoc k.done (a ∷ []) rest); begins = h.0 k.done a p k.begins; names = r }

split-first : (xs : List (List ℕ)) (d : List ℕ) → 1 ≤ length xs → xs ≡ get_or xs 0 d ∷ take (length xs - 1) (drop 1 xs)
split-first [] d l = absurd (omega (arith, l))
split-first (x ∷ xs) d l = let e : length (x ∷ xs) - 1 ≡ length xs = omega arith in ap (λ ys. x ∷ ys) (sym (ap (λ n. take n xs) e ∙ take-length xs))

pub args-next : (names : List (List ℕ)) (old new : Lines) (left : List (List ℕ)) (n : List ℕ) → AddingArgs names old left → 1 ≤ length left → n ≡ get_or left 0 n → AddsBodyArg n old new
    → AddingArgs names new (take (length left - 1) (drop 1 left))
args-next names old new left n k l e h =
    let rest = take (length left - 1) (drop 1 left) in
    let same : left ≡ n ∷ rest = split-first left n l ∙ ap (λ y. y ∷ rest) (sym e) in
    record { room = h.1; adding = λ args q. one-more args old new n rest h (subst (ArgsSoFar args old) same (k.adding args q)) }

none-left : (xs : List (List ℕ)) → length xs < 1 → xs ≡ []
none-left [] l = refl
none-left (x ∷ xs) l = absurd (omega (arith, l))

no-names : (xs : List ArgText) → arg_names xs ≡ [] → xs ≡ []
no-names [] e = refl
no-names (x ∷ xs) e = absurd cc

pub args-end : (names : List (List ℕ)) (ls : Lines) (left : List (List ℕ)) → AddingArgs names ls left → length left < 1 → HasArgs names ls
args-end names ls left k l = record { room = k.room; begins = λ args q. on args (k.adding args q) }
  where
    on : (args : List ArgText) → ArgsSoFar args ls left → BeginsWith args ls
    on args z =
        let e : z.rest ≡ [] = no-names z.rest (z.names ∙ none-left left l) in
        subst (λ xs. BeginsWith xs ls) (sym (z.is ∙ ap (λ xs. z.done ++ xs) e ∙ append-nil z.done)) z.begins

-- ---- the entity

arg-named : (args : List ArgText) (k : ℕ) (a : ArgText) → slice_get args k ≡ Some a → slice_index_or (arg_names args) k [] ≡ a.name
arg-named [] k a h = absurd cc
arg-named (x ∷ args) zero a h = let e : x ≡ a = cc in ap (λ (y : ArgText). y.name) e
arg-named (x ∷ args) (suc k) a h = arg-named args k a h

or-none : {A : Type 0} (x y : Option A) → y ≡ None → x ≡ or_else x y
or-none None y e = sym e
or-none (Some a) y e = refl

pub begins-emitted : (ns : List TermNode) (s : Source) (ls : Lines) (vs : Values) (ps : Parts) → LinesHaveRoom ls → BeginsWith s.args ls → ((x : TermId) → value_in vs x ≡ None)
    → ((p : Part) → part_in ps p ≡ None) →
    IsEmitted ns s record { lines = ls; values = vs; parts = ps } (nothing_emitted s)
begins-emitted ns s ls vs ps room b no_values no_parts = record {
  room = room;
  says = record { fresh = b.fresh; next = b.next; lines = ap (map (line_text ls.names)) b.lines; names = b.names ∙ sym (append-nil (arg_names s.args)) };
  arguments = record {
    long = omega (arith, ap length b.names, map_length (λ (a : ArgText). a.name) s.args);
    named = λ k a h. ap (λ ns. slice_index_or ns k []) b.names ∙ arg-named s.args k a h;
  };
  terms = knows-none ns ls.names vs (nothing_emitted s) no_values (λ t. refl);
  parts = record {
    named = λ p. or-none (whole_name s.args p) (option_map (value_text (naming ls.names)) (part_in ps p)) (ap (option_map (value_text (naming ls.names))) (no_parts p));
    within = λ p v h. let z = no_parts p in absurd cc;
  };
  fit = λ t n h. absurd cc;
}
