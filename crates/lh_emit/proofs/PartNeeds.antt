-- Need of a part by ids: a whole argument, a part that is there, and one that is new.
use Rattle.std.proofs.Common.{◌≡◌, ℕ, zero, suc, ◌+◌, ◌<◌, ◌≤◌, Bool, true, false, if◌then◌else◌, List, [], ◌∷◌, ◌++◌, length, map, get_or, Option, Some, None, slice_get, refl, ap, sym, ◌∙◌, subst, arith, length-append}
use Rattle.std.specs.Prelude.{unwrap_or, slice_index_or, Result, Ok, Err}
use Rattle.std.specs.Option.{option_map, option_and_then}
use Rattle.std.proofs.Math.ListN.{get_or-append}
use Rattle.lh_types.specs.Types.{TypeTree, IsData, IsLimited, int_type}
use Rattle.lh_unit.specs.Contents.{ArgText}
use Rattle.lh_unit.specs.Naming.{value_text}
use Rattle.lh_unit.specs.Typing.{or_else}
use Rattle.lh_unit.specs.declared.inst.Arg.{Arg}
use Rattle.lh_unit.specs.declared.inst.ValueId.{ValueId}
use Rattle.lh_term.specs.Same.{same_part, same_part-is, same_part-refl}
use Rattle.lh_term.specs.declared.part.Part.{Part}
use Rattle.lh_term.specs.declared.term.TermNode.{TermNode}
use Rattle.lh_emit_def.specs.Emitted.{PartStep, Source, Emitted, whole_name, name_if_whole, arg_name, with_part, takes_steps, unless_there, need_part, part_name}
use Rattle.lh_emit_def.specs.Entities.{max_lines}
use Rattle.lh_emit_def.specs.Ways.{StepsLead, IsReached}
use Rattle.lh_term.specs.Parts.{whole_argument}
use Rattle.lh_emit_def.proofs.StepTypes.{step-well-to}
use Rattle.lh_emit_body.specs.Lines.{naming, most_lines, LinesAreEmitted}
use Rattle.lh_emit.specs.Emitting.{ArgumentsFirst, IsEmitted}
use Rattle.lh_emit_source.specs.Origins.{AreStepsOf, step_text, route_text, args_of, IsSource}
use Rattle.lh_emit.specs.Parts.{part_in, KeepsPart}
use Rattle.lh_emit.specs.Steps.{walk, walk_name, AllData, StillWalks, Walks, WalksNot}
use Rattle.std.specs.Result.{IsErrAnd}
use Rattle.std.proofs.lemmas.Option.{slice_get_within}
use Rattle.lh_emit_body.specs.declared.lines.EmitFault.{EmitFault}
use Rattle.lh_emit.specs.Underway.{EmitsPart, CanTakePart, GivesNoPart, TakesPartOr, Looks, IsNewPart}
use Rattle.lh_emit.specs.Whole.{is_whole}
use Rattle.lh_emit.specs.Values.{ValuesNameTerms}
use Rattle.lh_emit.specs.declared.emitter.Emitter.{Emitter}
use Rattle.lh_emit_body.specs.declared.lines.EmitFault.TheVariants as fault
use Rattle.lh_emit_body.specs.declared.lines.Lines.{Lines}
use Rattle.lh_emit_source.specs.declared.origin.Origin.{Origin}
use Rattle.lh_emit_source.specs.declared.origin.RouteStep.{RouteStep}
use Rattle.lh_emit.specs.declared.parts.Parts.{Parts}
use Rattle.lh_emit.proofs.KnownValues.{text-more, knows-more}
use Rattle.lh_emit.proofs.SourceSteps.{source-types}
use Rattle.lh_emit.proofs.StepLaws.{takes-walk, walk-parts, walk-terms, grows-same}

-- ---- arguments

-- the items at one place of lists that agree
same-type : (xs : List Arg) (ys : List ArgText) (k : ℕ) (y : ArgText) (d : Arg) → map (λ (a : Arg). a.ty) xs ≡ map (λ (a : ArgText). a.ty) ys → slice_get ys k ≡ Some y → (k < length xs)
    × ((get_or xs k d).ty ≡ y.ty)
same-type [] [] k y d e h = absurd cc
same-type [] (z ∷ ys) k y d e h = absurd cc
same-type (x ∷ xs) [] k y d e h = absurd cc
same-type (x ∷ xs) (z ∷ ys) zero y d e h = let p : x.ty ≡ z.ty = cc in let q : z ≡ y = cc in (omega arith, p ∙ ap (λ (a : ArgText). a.ty) q)
same-type (x ∷ xs) (z ∷ ys) (suc k) y d e h =
    let p : map (λ (a : Arg). a.ty) xs ≡ map (λ (a : ArgText). a.ty) ys = cc in
    let r = same-type xs ys k y d p h in (omega (arith, r.0), r.1)

-- ---- steps lead to parts of data types

route-data : (p q : Part) (xs : List PartStep) (route : List RouteStep) → IsData p.ty → StepsLead p xs q → AreStepsOf xs route → AllData route
route-data p q [] [] h l e = tt
route-data p q [] (r ∷ route) h l e = absurd cc
route-data p q (x ∷ xs) [] h l e = tt
route-data p q (x ∷ xs) (r ∷ route) h l e =
    let a : route_text r ≡ step_text x = cc in
    let b : map route_text route ≡ map step_text xs = cc in
    let d : IsData x.to.ty = step-well-to p x.to x.op h l.0 in
    (subst IsData (sym (ap (λ z. z.1) a)) d, route-data x.to q xs route d l.1 b)

-- ---- the argument of a part

module _ (o : Origin) (s : Source) (src : IsSource o s) (p : Part) (r : IsReached s p) (d : Arg) where
  pub arg-in : p.arg < length (args_of o)
  arg-in = (same-type (args_of o) s.args p.arg r.arg d (source-types o s src) r.there).0

  arg-type : (get_or (args_of o) p.arg d).ty ≡ r.arg.ty
  arg-type = (same-type (args_of o) s.args p.arg r.arg d (source-types o s src) r.there).1

  pub route-types : (route : List RouteStep) → IsLimited (get_or (args_of o) p.arg d).ty → AreStepsOf (s.steps p) route → AllData route
  route-types route h e = route-data (whole_argument p.arg r.carries) p (s.steps p) route (subst IsLimited (arg-type ∙ r.signal) h) r.leads e

  whole-at : (b : Bool) → is_whole p r.arg.ty ≡ b → whole_name s.args p ≡ (if b then Some r.arg.name else None)
  whole-at b e = ap (option_and_then (name_if_whole p)) r.there ∙ ap (λ (c : Bool). if c then Some r.arg.name else None) e

  pub whole-name : (b : Bool) → b ≡ is_whole p (get_or (args_of o) p.arg d).ty → whole_name s.args p ≡ (if b then Some r.arg.name else None)
  whole-name b e = whole-at b (sym (e ∙ ap (is_whole p) arg-type))

  module _ (ns : List TermNode) (x : Emitter) (e : Emitted) (w : IsEmitted ns s x e) where
    pub from-within : p.arg < length x.lines.names
    from-within = omega (arith, slice_get_within s.args p.arg r.arg r.there, w.arguments.long)

    from-name : slice_index_or x.lines.names p.arg [] ≡ r.arg.name
    from-name = w.arguments.named p.arg r.arg r.there

    there : (n : List ℕ) (v : ValueId) → e.parts p ≡ Some n → value_text (naming x.lines.names) v ≡ n → v.0 < length x.lines.names → EmitsPart ns s p e x v
    there n v h q l =
        let same : need_part s p e ≡ e = ap (λ z. unless_there z (takes_steps s p (arg_name (slice_get s.args p.arg)) (s.steps p)) e) h in
        record {
          is = subst (IsEmitted ns s x) (sym same) w;
          name = q ∙ ap (λ z. unwrap_or z []) (sym h) ∙ ap (λ (z : Emitted). part_name z p) (sym same);
          within = l;
        }

    -- a whole argument is its own value
    pub whole-taken : (b : Bool) → b ≡ is_whole p (get_or (args_of o) p.arg d).ty → b ≡ true → EmitsPart ns s p e x record { 0 = p.arg }
    whole-taken b q t =
        let n : whole_name s.args p ≡ Some r.arg.name = whole-name b q ∙ ap (λ (c : Bool). if c then Some r.arg.name else None) t in
        there r.arg.name record { 0 = p.arg } (w.parts.named p ∙ ap (λ z. or_else z (option_map (value_text (naming x.lines.names)) (part_in x.parts p))) n) from-name from-within

    parts-at : (b : Bool) → b ≡ is_whole p (get_or (args_of o) p.arg d).ty → b ≡ false → e.parts p ≡ option_map (value_text (naming x.lines.names)) (part_in x.parts p)
    parts-at b q t =
        let n : whole_name s.args p ≡ None = whole-name b q ∙ ap (λ (c : Bool). if c then Some r.arg.name else None) t in
        w.parts.named p ∙ ap (λ z. or_else z (option_map (value_text (naming x.lines.names)) (part_in x.parts p))) n

    -- a part that is there has its value
    pub known-taken : (b : Bool) (v : ValueId) → b ≡ is_whole p (get_or (args_of o) p.arg d).ty → b ≡ false → part_in x.parts p ≡ Some v → EmitsPart ns s p e x v
    known-taken b v q t h = there (value_text (naming x.lines.names) v) v (parts-at b q t ∙ ap (option_map (value_text (naming x.lines.names))) h) refl (w.parts.within p v h)

    need-new : (b : Bool) → b ≡ is_whole p (get_or (args_of o) p.arg d).ty → b ≡ false → part_in x.parts p ≡ None →
        need_part s p e ≡ record (walk s (value_text (naming x.lines.names) record { 0 = p.arg }) (s.steps p) e) {
          parts = with_part e.parts p (walk_name s (value_text (naming x.lines.names) record { 0 = p.arg }) (s.steps p) e);
        }
    need-new b q t h =
        let none : e.parts p ≡ None = parts-at b q t ∙ ap (option_map (value_text (naming x.lines.names))) h in
        let name : arg_name (slice_get s.args p.arg) ≡ value_text (naming x.lines.names) record { 0 = p.arg } = ap arg_name r.there ∙ sym from-name in
        ap (λ z. unless_there z (takes_steps s p (arg_name (slice_get s.args p.arg)) (s.steps p)) e) none
        ∙ ap (λ n. takes_steps s p n (s.steps p) e) name
        ∙ takes-walk s p (value_text (naming x.lines.names) record { 0 = p.arg }) (s.steps p) e
        ∙ ap (λ (f : Part → Option (List ℕ)). record (walk s (value_text (naming x.lines.names) record { 0 = p.arg }) (s.steps p) e) {
          parts = with_part f p (walk_name s (value_text (naming x.lines.names) record { 0 = p.arg }) (s.steps p) e);
        }) (walk-parts s (value_text (naming x.lines.names) record { 0 = p.arg }) (s.steps p) e)

    -- steps to it are too many
    pub steps-fault : (b : Bool) (route : List RouteStep) → b ≡ is_whole p (get_or (args_of o) p.arg d).ty → b ≡ false → part_in x.parts p ≡ None → AreStepsOf (s.steps p) route →
        WalksNot route x.lines record { 0 = p.arg } fault.EntityTooLarge → max_lines < length (need_part s p e).lines
    unfolding most_lines
    steps-fault b route q t h a f =
        let same : length (need_part s p e).lines ≡ length (walk s (value_text (naming x.lines.names) record { 0 = p.arg }) (s.steps p) e).lines =
        ap (λ (z : Emitted). length z.lines) (need-new b q t h) in
        let far : 65536 < length (walk s (value_text (naming x.lines.names) record { 0 = p.arg }) (s.steps p) e).lines = f s e (s.steps p) w.says a in
        omega (arith, same, far)

    -- ---- a part that is new

    module _ (b : Bool) (route : List RouteStep) (new : Lines) (v : ValueId) (ps : Parts) (q : b ≡ is_whole p (get_or (args_of o) p.arg d).ty) (t : b ≡ false) (h : part_in x.parts p ≡ None)
        (a : AreStepsOf (s.steps p) route)
        (k : Walks route x.lines record { 0 = p.arg } new v []) (keeps : KeepsPart x.parts p v ps) where
      abbrev from : List ℕ
      from = value_text (naming x.lines.names) record { 0 = p.arg }

      abbrev end : Emitted
      end = walk s from (s.steps p) e

      still : StillWalks s from (s.steps p) e new v []
      still = k.walks s e (s.steps p) w.says a

      no-rest : (xs : List PartStep) (z : Emitted) → AreStepsOf xs [] → (walk s (value_text (naming new.names) v) xs z ≡ z)
          × (walk_name s (value_text (naming new.names) v) xs z ≡ value_text (naming new.names) v)
      no-rest [] z g = (refl, refl)
      no-rest (y ∷ xs) z g = absurd cc

      entity-is : still.entity ≡ end
      entity-is = sym (no-rest still.rest still.entity still.steps).0 ∙ still.same

      name-is : value_text (naming new.names) v ≡ walk_name s from (s.steps p) e
      name-is = sym (no-rest still.rest still.entity still.steps).1 ∙ still.name

      abbrev after : Emitted
      after = record end { parts = with_part e.parts p (walk_name s from (s.steps p) e) }

      says : LinesAreEmitted s.args new after
      says =
          let y : LinesAreEmitted s.args new end = subst (LinesAreEmitted s.args new) entity-is still.says in
          record { fresh = y.fresh; next = y.next; lines = y.lines; names = y.names }

      more-names : (names : List (List ℕ)) → (y : Option ValueId) → ((u : ValueId) → y ≡ Some u → u.0 < length x.lines.names) → (m : List (List ℕ)) → names ≡ x.lines.names ++ m →
          option_map (value_text (naming names)) y ≡ option_map (value_text (naming x.lines.names)) y
      more-names names y l m g = ap (λ ns. option_map (value_text (naming ns)) y) g ∙ text-more x.lines.names m y l

      parts-named : (z : Part) (c : Bool) → same_part p z ≡ c → after.parts z ≡ or_else (whole_name s.args z) (option_map (value_text (naming new.names)) (if c then Some v else part_in x.parts z))
      parts-named z true g =
          let same : p ≡ z = same_part-is p z g in
          let n : whole_name s.args p ≡ None = whole-name b q ∙ ap (λ (c : Bool). if c then Some r.arg.name else None) t in
          ap (λ (c : Bool). if c then Some (walk_name s from (s.steps p) e) else e.parts z) g
          ∙ ap Some (sym name-is)
          ∙ ap (λ y. or_else y (Some (value_text (naming new.names) v))) (sym n ∙ ap (whole_name s.args) same)
      parts-named z false g =
          ap (λ (c : Bool). if c then Some (walk_name s from (s.steps p) e) else e.parts z) g
          ∙ w.parts.named z
          ∙ ap (or_else (whole_name s.args z)) (sym (more-names new.names (part_in x.parts z) (w.parts.within z) k.grows.0 k.grows.1))

      longer : length x.lines.names ≤ length new.names
      longer = omega (arith, ap length k.grows.1, length-append x.lines.names k.grows.0)

      part-within : (z : Part) (u : ValueId) (c : Bool) → (if c then Some v else part_in x.parts z) ≡ Some u → u.0 < length new.names
      part-within z u true g = let same : v ≡ u = cc in subst (λ (y : ValueId). y.0 < length new.names) same k.within
      part-within z u false g = let l = w.parts.within z u g in omega (arith, l, longer)

      args-first : ArgumentsFirst s.args new.names
      args-first = record {
        long = omega (arith, w.arguments.long, longer);
        named = λ j y g.
            let l : j < length x.lines.names = omega (arith, slice_get_within s.args j y g, w.arguments.long) in
            ap (λ ns. slice_index_or ns j []) k.grows.1 ∙ get_or-append x.lines.names k.grows.0 [] j l ∙ w.arguments.named j y g;
      }

      new-emitted : IsEmitted ns s record { lines = new; values = x.values; parts = ps } after
      new-emitted = record {
        room = k.room;
        says = says;
        arguments = args-first;
        terms = subst (λ (names : List (List ℕ)). ValuesNameTerms ns names x.values after) (sym k.grows.1)
            (knows-more ns x.lines.names k.grows.0 x.values e after w.terms (walk-terms s from (s.steps p) e));
        parts = record {
          named = λ z. parts-named z (same_part p z) refl ∙ ap (λ y. or_else (whole_name s.args z) (option_map (value_text (naming new.names)) y)) (sym (keeps z));
          within = λ z u g. part-within z u (same_part p z) (sym (keeps z) ∙ g);
        };
        fit = λ z n g. w.fit z n (sym (ap (λ f. f z) (walk-terms s from (s.steps p) e)) ∙ g);
      }

      pub new-taken : EmitsPart ns s p e record { lines = new; values = x.values; parts = ps } v
      new-taken =
          let same = need-new b q t h in
          record {
            is = subst (IsEmitted ns s record { lines = new; values = x.values; parts = ps }) (sym same) new-emitted;
            name =
                let c : same_part p p ≡ true = same_part-refl p in
                name-is ∙ ap (λ (y : Bool). unwrap_or (if y then Some (walk_name s from (s.steps p) e) else e.parts p) []) (sym c) ∙ ap (λ (z : Emitted). part_name z p) (sym same);
            within = k.within;
          }

-- ---- by contracts

pub part-no-memory : (ns : List TermNode) (o : Origin) (x : Emitter) (p : Part) (y : Emitter) (r : Result ValueId EmitFault) → IsErrAnd r (λ f. f ≡ fault.OutOfMemory) → TakesPartOr ns o x p y r
part-no-memory ns o x p y (Ok v) h = absurd h
part-no-memory ns o x p y (Err f) h = subst (GivesNoPart ns o x p) (sym h) tt

pub part-in-args : (ns : List TermNode) (o : Origin) (x : Emitter) (p : Part) (args : List Arg) (d : Arg) → CanTakePart ns o x p → args ≡ args_of o → p.arg < length args
part-in-args ns o x p args d c e = subst (λ (xs : List Arg). p.arg < length xs) (sym e) (arg-in o c.source c.origin p c.given d)

pub looks-at : (args : List Arg) (p : Part) (b : Bool) (a : Arg) (t : TypeTree) → a ≡ get_or args p.arg a → t ≡ a.ty → b ≡ is_whole p t → IsLimited t → Looks args p b
looks-at args p b a t e q w l = record { arg = a; whole = w ∙ ap (is_whole p) (q ∙ ap (λ (z : Arg). z.ty) e); limited = subst IsLimited (q ∙ ap (λ (z : Arg). z.ty) e) l }

pub takes-whole : (ns : List TermNode) (o : Origin) (x : Emitter) (p : Part) (args : List Arg) (b : Bool) → args ≡ args_of o → Looks args p b → b ≡ true → TakesPartOr ns o x p x (Ok record { 0 = p.arg })
takes-whole ns o x p args b e k t = (
  grows-same x.lines.names x.lines.names refl,
  λ s em src w r. let l = subst (λ xs. Looks xs p b) e k in whole-taken o s src p r l.arg ns x em w b l.whole t,
)

pub takes-known : (ns : List TermNode) (o : Origin) (x : Emitter) (p : Part) (args : List Arg) (b : Bool) (v : ValueId) → args ≡ args_of o → Looks args p b → b ≡ false → part_in x.parts p ≡ Some v
    → TakesPartOr ns o x p x (Ok v)
takes-known ns o x p args b v e k t h = (
  grows-same x.lines.names x.lines.names refl,
  λ s em src w r. let l = subst (λ xs. Looks xs p b) e k in known-taken o s src p r l.arg ns x em w b v l.whole t h,
)

pub new-part : (o : Origin) (x : Emitter) (p : Part) (args : List Arg) (b : Bool) → args ≡ args_of o → Looks args p b → b ≡ false → part_in x.parts p ≡ None → IsNewPart o x p
new-part o x p args b e k t h = record { looks = subst (Looks (args_of o) p) t (subst (λ xs. Looks xs p b) e k); none = h }

pub new-types : (ns : List TermNode) (o : Origin) (x : Emitter) (p : Part) (route : List RouteStep) → CanTakePart ns o x p → IsNewPart o x p → ((s : Source) → IsSource o s → AreStepsOf (s.steps p) route)
    → AllData route
new-types ns o x p route c k a = route-types o c.source c.origin p c.given k.looks.arg route k.looks.limited (a c.source c.origin)

pub new-from : (ns : List TermNode) (o : Origin) (x : Emitter) (p : Part) → CanTakePart ns o x p → p.arg < length x.lines.names
new-from ns o x p c = from-within o c.source c.origin p c.given d ns x c.emitted c.is
  where
    d : Arg
    d = record { value = record { 0 = 0 }; ty = int_type 1; output = false }

pub takes-new : (ns : List TermNode) (o : Origin) (x : Emitter) (p : Part) (route : List RouteStep) (new : Lines) (v : ValueId) (ps : Parts) → IsNewPart o x p
    → ((s : Source) → IsSource o s → AreStepsOf (s.steps p) route) →
    Walks route x.lines record { 0 = p.arg } new v [] → KeepsPart x.parts p v ps → TakesPartOr ns o x p record { lines = new; values = x.values; parts = ps } (Ok v)
takes-new ns o x p route new v ps k a w keeps = (
  w.grows,
  λ s em src i r. new-taken o s src p r k.looks.arg ns x em i false route new v ps k.looks.whole refl k.none (a s src) w keeps,
)

pub takes-not : (ns : List TermNode) (o : Origin) (x : Emitter) (p : Part) (route : List RouteStep) (f : EmitFault) → IsNewPart o x p → ((s : Source) → IsSource o s → AreStepsOf (s.steps p) route) →
    WalksNot route x.lines record { 0 = p.arg } f → GivesNoPart ns o x p f
takes-not ns o x p route fault.OutOfMemory k a w = tt
takes-not ns o x p route fault.EntityTooLarge k a w = λ s em src i r. steps-fault o s src p r k.looks.arg ns x em i false route k.looks.whole refl k.none (a s src) w

pub part-cause : (ns : List TermNode) (o : Origin) (x : Emitter) (p : Part) (y : Emitter) (r : Result ValueId EmitFault) (f : EmitFault) → IsErrAnd r (λ e. e ≡ f) → GivesNoPart ns o x p f
    → TakesPartOr ns o x p y r
part-cause ns o x p y (Ok v) f h g = absurd h
part-cause ns o x p y (Err e) f h g = subst (GivesNoPart ns o x p) (sym h) g
