-- An entity that is added in the place of a process, part by part.
use Rattle.std.proofs.Common.{◌≡◌, ℕ, ◌+◌, ◌<◌, ◌≤◌, ◌^◌, false, List, [], ◌∷◌, length, map, drop, get_or, Some, None, slice_get, Result, Ok, Err, IfOk, refl, ap, sym, ◌∙◌, subst, arith}
use Rattle.std.specs.Option.{option_map}
use Rattle.std.proofs.lemmas.List.{length-map}
use Rattle.std.proofs.lemmas.Option.{slice_get-get_or, slice_get-map, slice_get_within}
use Rattle.lh_types.specs.Types.{TypeTree}
use Rattle.lh_types.specs.declared.memory.NoMemory.{NoMemory}
use Rattle.lh_unit.specs.Contents.{UnitText, LineText, ArgText, new_unit, with_arg, with_line, defines_value, defines_unit}
use Rattle.lh_unit.specs.Within.{Each}
use Rattle.lh_unit.specs.Naming.{arg_text, maybe_text, inst_text}
use Rattle.lh_unit.specs.Arena.{Arena, IsOpen, contents, naming, sizes, args_at, unit_text_at, unit_count, value_count, unit_name_at, value_name_at}
use Rattle.lh_unit.specs.Builders.{line_text_at, HasRoom}
use Rattle.lh_unit.specs.declared.inst.UnitId.{UnitId}
use Rattle.lh_unit.specs.declared.inst.UnitKind.TheVariants as kind
use Rattle.lh_unit.specs.declared.inst.Arg.{Arg}
use Rattle.lh_unit.proofs.Lists.{drop-item, map-each}
use Rattle.lh_unit.proofs.Texts.{Agree, maybe-same, inst-same}
use Rattle.lh_unit.proofs.Within.{Each-more, MaybeWithin-more, InstWithin-more}
use Rattle.lh_unit.proofs.ModuleLaws.{MaybeWithin-keeps, InstPlaced-keeps, maybe_text-keeps, inst_text_at-keeps}
use Rattle.lh_emit_def.specs.Entities.{entity_with}
use Rattle.lh_emit_body.specs.Lines as emit
use Rattle.lh_emit_body.specs.Lines.{line_text, values_alone, IsNamedLine}
use Rattle.lh_emit_body.specs.Bodies.{IsBody}
use Rattle.lh_emit_body.specs.declared.body.Body.{Body}
use Rattle.lh_emit_body.specs.declared.lines.BodyLine.{BodyLine}
use Rattle.lh_lower_copy.specs.Changing.{Becomes, AddsUnitText, with_args, with_lines}
use Rattle.lh_lower_copy.specs.Fitting.{ArgsFit, LinesFit}
use Rattle.lh_lower_copy.specs.Named.{SameUnits, HasValues, NamesValues}
use Rattle.lh_lower_copy.specs.Copying.{AddsUnit}
use Rattle.lh_lower_copy.specs.Putting.{CanPut, ArgsNamed, IsLineWithin, body_line_at}
use Rattle.lh_lower_copy.proofs.Opened.{becomes-trans, adds-then}
use Rattle.lh_lower_copy.proofs.Rests.{Left, left-start, left-next, left-done, LineNew}
use Rattle.lh_lower_copy.proofs.Once.{Whole, entity, new-args, headed-by, entity-whole}
use Rattle.lh_lower_copy.proofs.Texts.{adds-unit}

-- ---- arguments

-- these arguments are still to be added
abbrev pub PortsLeft : (a old now : Arena) → UnitId → List Arg → Type 0
PortsLeft a old now u xs = ArgsNamed a now u.0 × Left ArgsFit with_args old now u (map (arg_text (naming a u.0)) xs) (with_args (unit_text_at a u.0).args (unit_text_at old u.0))

pub ports-start : (a old : Arena) (u : UnitId) (xs : List Arg) → xs ≡ args_at a u.0 → ArgsNamed a old u.0 → IsOpen old u → ArgsFit (unit_text_at old u.0) (unit_text_at a u.0).args
    → PortsLeft a old old u xs
ports-start a old u xs e s o f = (
  s,
  subst (λ ys. Left ArgsFit with_args old old u (map (arg_text (naming a u.0)) ys) (with_args (unit_text_at a u.0).args (unit_text_at old u.0))) (sym e)
      (left-start ArgsFit with_args old u (unit_text_at a u.0).args o f),
)

named-becomes : (a b c : Arena) (u : UnitId) (t : UnitText) → ArgsNamed a b u.0 → Becomes b c u t → ArgsNamed a c u.0
named-becomes a b c u t s p = record {
  long = omega (arith, s.long, p.entries.values u.0);
  few = s.few;
  named = λ k x h. p.entries.value_names u.0 k (omega (arith, within k x h, s.long)) ∙ s.named k x h;
}
  where
    within : (k : ℕ) (x : Arg) → slice_get (args_at a u.0) k ≡ Some x → k < length (args_at a u.0)
    within k x h = slice_get_within (args_at a u.0) k x h

module _ (a old now : Arena) (u : UnitId) (xs : List Arg) (i : ℕ) (x : Arg) (e : xs ≡ args_at a u.0) (l : PortsLeft a old now u (drop i xs)) (w : i < length xs) (q : x ≡ get_or xs i x) where
  pub port-few : i < 2 ^ 32
  port-few = let n : length xs ≡ length (args_at a u.0) = ap (λ (ys : List Arg). length ys) e in omega (arith, n, w, l.0.few)

  pub port-within : i < value_count now u.0
  port-within = let n : length xs ≡ length (args_at a u.0) = ap (λ (ys : List Arg). length ys) e in omega (arith, n, w, l.0.long)

  ports_now : Left ArgsFit with_args old now u (arg_text (naming a u.0) x ∷ map (arg_text (naming a u.0)) (drop (i + 1) xs)) (with_args (unit_text_at a u.0).args (unit_text_at old u.0))
  ports_now = subst (λ ys. Left ArgsFit with_args old now u (map (arg_text (naming a u.0)) ys) (with_args (unit_text_at a u.0).args (unit_text_at old u.0))) (drop-item xs i x w q) l.1

  name : value_name_at now u.0 i ≡ (arg_text (naming a u.0) x).name
  name = l.0.named i x (ap (λ ys. slice_get ys i) (sym e) ∙ slice_get-get_or xs i x w ∙ ap Some (sym q))

  pub port-new : defines_value (value_name_at now u.0 i) (unit_text_at now u.0) ≡ false
  port-new = ap (λ n. defines_value n (unit_text_at now u.0)) name ∙ ports_now.fit.0

  pub ports-next : (new : Arena) (ty : TypeTree) → IsOpen old u → ty ≡ x.ty
      → Becomes now new u (with_arg (arg_text (naming now u.0) (record { value = record { 0 = i }; ty = ty; output = x.output })) (unit_text_at now u.0)) → PortsLeft a old new u (drop (i + 1) xs)
  ports-next new ty p r b =
      let y : ArgText = arg_text (naming a u.0) x in
      let t = with_arg y (unit_text_at now u.0) in
      let same : arg_text (naming now u.0) (record { value = record { 0 = i }; ty = ty; output = x.output }) ≡ y = λ k. record { name = name k; ty = r k; output = x.output } in
      let c : Becomes now new u t = subst (λ z. Becomes now new u (with_arg z (unit_text_at now u.0))) same b in (
        named-becomes a now new u t l.0 c,
        left-next ArgsFit with_args old now new u (y ∷ map (arg_text (naming a u.0)) (drop (i + 1) xs)) (map (arg_text (naming a u.0)) (drop (i + 1) xs))
            (with_args (unit_text_at a u.0).args (unit_text_at old u.0)) t p ports_now c (λ g. g.1) refl,
      )

pub ports-done : (a old now : Arena) (u : UnitId) (rest : List Arg) → rest ≡ [] → PortsLeft a old now u rest → Becomes old now u (with_args (unit_text_at a u.0).args (unit_text_at old u.0))
ports-done a old now u rest e l = left-done ArgsFit with_args old now u (map (arg_text (naming a u.0)) rest) (with_args (unit_text_at a u.0).args (unit_text_at old u.0)) (λ t. refl)
    (ap (map (arg_text (naming a u.0))) e) l.1

-- ---- instructions

-- these lines of all are still to be added
abbrev pub BodyLeft : (old now : Arena) → UnitId → (rest all : List BodyLine) → Type 0
BodyLeft old now u rest all = Each (IsLineWithin old u.0) rest
    × Left LinesFit with_lines old now u (map (body_line_at old u.0) rest) (with_lines (map (body_line_at old u.0) all) (unit_text_at old u.0))

pub body-start : (old : Arena) (u : UnitId) (ls all : List BodyLine) → ls ≡ all → IsOpen old u → Each (IsLineWithin old u.0) all → LinesFit (unit_text_at old u.0) (map (body_line_at old u.0) all)
    → BodyLeft old old u ls all
body-start old u ls all e o w f = subst (λ ys. BodyLeft old old u ys all) (sym e) (w, left-start LinesFit with_lines old u (map (body_line_at old u.0) all) o f)

module _ (old now : Arena) (u : UnitId) (ls more all : List BodyLine) (x : BodyLine) (e : ls ≡ x ∷ more) (l : BodyLeft old now u ls all) where
  body_now : BodyLeft old now u (x ∷ more) all
  body_now = subst (λ ys. BodyLeft old now u ys all) e l

  pub body-new : LineNew now u.0 x.result x.inst (body_line_at old u.0 x)
  body-new =
      let k = body_now.1.so_far.entries in
      let w = body_now.0.0 in
      let r : maybe_text (naming now u.0) x.result ≡ maybe_text (naming old u.0) x.result = maybe_text-keeps old now u.0 k x.result w.0 in
      let n : inst_text (naming now u.0) x.inst ≡ inst_text (naming old u.0) x.inst = inst_text_at-keeps old now u.0 k x.inst w.1 in
      let line : line_text_at now u.0 x.result x.inst ≡ body_line_at old u.0 x = λ i. record { result = r i; inst = n i } in
      record {
        begun = body_now.1.fit.0;
        within = MaybeWithin-keeps old now u.0 k x.result w.0;
        placed = InstPlaced-keeps old now u.0 k x.inst w.1;
        line = line;
        room = subst (λ z. HasRoom z (unit_text_at now u.0)) (sym line) body_now.1.fit.1;
      }

  pub body-next : (new : Arena) → IsOpen old u → Becomes now new u (with_line (line_text_at now u.0 x.result x.inst) (unit_text_at now u.0)) → BodyLeft old new u more all
  body-next new p c =
      let y = body_line_at old u.0 x in
      let t = with_line y (unit_text_at now u.0) in
      let m : Becomes now new u t = subst (λ z. Becomes now new u (with_line z (unit_text_at now u.0))) body-new.line c in (
        body_now.0.1,
        left-next LinesFit with_lines old now new u (y ∷ map (body_line_at old u.0) more) (map (body_line_at old u.0) more) (with_lines (map (body_line_at old u.0) all) (unit_text_at old u.0)) t p
            body_now.1 m (λ g. g.2) refl,
      )

pub body-done : (old now : Arena) (u : UnitId) (rest all : List BodyLine) → rest ≡ [] → BodyLeft old now u rest all
    → Becomes old now u (with_lines (map (body_line_at old u.0) all) (unit_text_at old u.0))
body-done old now u rest all e l = left-done LinesFit with_lines old now u (map (body_line_at old u.0) rest) (with_lines (map (body_line_at old u.0) all) (unit_text_at old u.0)) (λ t. refl)
    (ap (map (body_line_at old u.0)) e) l.1

pub none-left : (ls : List BodyLine) → length ls ≡ 0 → ls ≡ []
none-left [] h = refl
none-left (x ∷ ls) h = cc

-- ---- the whole entity

-- names that stay
values-adds : (b c : Arena) (u : UnitId) (t : UnitText) (n : ℕ) (f : ℕ → List ℕ) → HasValues b u.0 n f → AddsUnitText b c u t → HasValues c u.0 n f
values-adds b c u t n f s p = record {
  count = omega (arith, p.entries.values u.0, p.no_more.more_values u.0, s.count);
  names = λ v h. p.entries.value_names u.0 v (omega (arith, h, s.count)) ∙ s.names v h;
}

values-becomes : (b c : Arena) (u : UnitId) (t : UnitText) (n : ℕ) (f : ℕ → List ℕ) → HasValues b u.0 n f → Becomes b c u t → HasValues c u.0 n f
values-becomes b c u t n f s p = record {
  count = omega (arith, p.entries.values u.0, p.no_more.more_values u.0, s.count);
  names = λ v h. p.entries.value_names u.0 v (omega (arith, h, s.count)) ∙ s.names v h;
}

-- the lines by names of the unit u
module _ (m : Arena) (u : ℕ) (b : Body) (s : HasValues m u (length b.names) (λ v. get_or b.names v [])) where
  agree : Agree (values_alone (length b.names)) (naming m u) (emit.naming b.names)
  agree = record { units = λ k h. absurd (omega (arith, h)); values = s.names; labels = λ k h. absurd (omega (arith, h)) }

  pub line-within : (l : BodyLine) → IsNamedLine (length b.names) l → IsLineWithin m u l
  line-within l w =
      let n : length b.names ≤ value_count m u = omega (arith, s.count) in (
        MaybeWithin-more (values_alone (length b.names)) (sizes m u) (omega arith) n (omega arith) l.result w.0,
        InstWithin-more (values_alone (length b.names)) (sizes m u) l.inst (omega arith) n (omega arith) w.1,
      )

  line-same : (l : BodyLine) → IsNamedLine (length b.names) l → body_line_at m u l ≡ line_text b.names l
  line-same l w =
      let r : maybe_text (naming m u) l.result ≡ maybe_text (emit.naming b.names) l.result = maybe-same (values_alone (length b.names)) (naming m u) (emit.naming b.names) agree l.result w.0 in
      let n : inst_text (naming m u) l.inst ≡ inst_text (emit.naming b.names) l.inst = inst-same (values_alone (length b.names)) (naming m u) (emit.naming b.names) agree l.inst w.1 in
      λ i. record { result = r i; inst = n i }

  pub lines-within : Each (IsNamedLine (length b.names)) b.lines → Each (IsLineWithin m u) b.lines
  lines-within w = Each-more (IsNamedLine (length b.names)) (IsLineWithin m u) b.lines line-within w

  pub lines-same : Each (IsNamedLine (length b.names)) b.lines → map (body_line_at m u) b.lines ≡ map (line_text b.names) b.lines
  lines-same w = map-each (IsNamedLine (length b.names)) (body_line_at m u) (line_text b.names) b.lines line-same w

-- what is asked, step by step
module _ (a m : Arena) (u : UnitId) (b : Body) (h : u.0 < unit_count a) (s : SameUnits a m) (c : CanPut (unit_text_at a u.0) b) (few : length b.names < 2 ^ 32)
    (given : Arena) (v : NamesValues m given u.0 (length b.names) (λ k. get_or b.names k [])) where
  given-name : unit_name_at given u.0 ≡ unit_name_at a u.0
  given-name = v.only.entries.unit_names u.0 (omega (arith, h, s.units)) ∙ s.names u.0 h

  pub body-undefined : defines_unit (unit_name_at a u.0) (contents m) ≡ false → defines_unit (unit_name_at given u.0) (contents given) ≡ false
  body-undefined d = (λ i. defines_unit (given-name i) (v.only.says i)) ∙ d

  module _ (begun : Arena) (p : AddsUnitText given begun u (new_unit (unit_name_at given u.0) kind.Entity)) where
    values : HasValues begun u.0 (length b.names) (λ k. get_or b.names k [])
    values = values-adds given begun u (new_unit (unit_name_at given u.0) kind.Entity) (length b.names) (λ k. get_or b.names k []) v.named p

    pub body-args : ArgsFit (unit_text_at begun u.0) (unit_text_at a u.0).args
    body-args = subst (λ t. ArgsFit t (unit_text_at a u.0).args) (sym p.text) (new-args (unit_name_at given u.0) kind.Entity (unit_text_at a u.0).args c.new_args)

    pub body-named : ArgsNamed a begun u.0
    body-named =
        let n : length (unit_text_at a u.0).args ≡ length (args_at a u.0) = length-map (args_at a u.0) (arg_text (naming a u.0)) in
        record {
          long = omega (arith, n, c.is.arguments.long, values.count);
          few = omega (arith, n, c.is.arguments.long, few);
          named = λ k x g.
              let i : slice_get (unit_text_at a u.0).args k ≡ Some (arg_text (naming a u.0) x) = slice_get-map (arg_text (naming a u.0)) (args_at a u.0) k
              ∙ ap (option_map (arg_text (naming a u.0))) g in
              let w : k < length (args_at a u.0) = slice_get_within (args_at a u.0) k x g in
              values.names k (omega (arith, w, n, c.is.arguments.long)) ∙ c.is.arguments.named k (arg_text (naming a u.0) x) i;
        }

    module _ (filled : Arena) (q : Becomes begun filled u (with_args (unit_text_at a u.0).args (unit_text_at begun u.0))) where
      there : HasValues filled u.0 (length b.names) (λ k. get_or b.names k [])
      there = values-becomes begun filled u (with_args (unit_text_at a u.0).args (unit_text_at begun u.0)) (length b.names) (λ k. get_or b.names k []) values q

      text : unit_text_at filled u.0 ≡ entity (unit_name_at a u.0) (unit_text_at a u.0).args None []
      text = q.text ∙ ap (with_args (unit_text_at a u.0).args) (p.text ∙ ap (λ n. new_unit n kind.Entity) given-name) ∙ headed-by kind.Entity (unit_name_at a u.0) (unit_text_at a u.0).args None refl

      lines : map (body_line_at filled u.0) b.lines ≡ c.lines
      lines = lines-same filled u.0 b there c.is.within ∙ c.is.says

      whole : Whole (entity (unit_name_at a u.0) (unit_text_at a u.0).args None c.lines)
      whole = entity-whole (unit_name_at a u.0) (unit_text_at a u.0).args None c.lines c.new_results c.few

      pub body-within : Each (IsLineWithin filled u.0) b.lines
      body-within = lines-within filled u.0 b there c.is.within

      pub body-fit : LinesFit (unit_text_at filled u.0) (map (body_line_at filled u.0) b.lines)
      body-fit = subst (λ t. LinesFit t (map (body_line_at filled u.0) b.lines)) (sym text) (subst (LinesFit (entity (unit_name_at a u.0) (unit_text_at a u.0).args None [])) (sym lines) whole.fit.1)

      pub body-put : (r : Result (Unit {0}) NoMemory) (new : Arena) → IfOk r (λ x. Becomes filled new u (with_lines (map (body_line_at filled u.0) b.lines) (unit_text_at filled u.0)))
          → IfOk r (λ x. (ls : List LineText) → IsBody (unit_text_at a u.0).args b ls → AddsUnit m new u.0 (entity_with (unit_text_at a u.0) ls))
      body-put (Err x) new g = tt
      body-put (Ok x) new g = λ ls is.
          let e : entity_with (unit_text_at a u.0) c.lines ≡ entity_with (unit_text_at a u.0) ls = ap (entity_with (unit_text_at a u.0)) (sym c.is.says ∙ is.says) in
          let t : with_lines (map (body_line_at filled u.0) b.lines) (unit_text_at filled u.0) ≡ entity_with (unit_text_at a u.0) c.lines = (λ i. with_lines (lines i) (text i)) ∙ whole.gives in
          let d : Becomes filled new u (entity_with (unit_text_at a u.0) c.lines) = subst (Becomes filled new u) t g in
          let y : AddsUnitText given new u (entity_with (unit_text_at a u.0) c.lines) =
          adds-then given begun new u (new_unit (unit_name_at given u.0) kind.Entity) (entity_with (unit_text_at a u.0) c.lines) p
          (becomes-trans begun filled new u (with_args (unit_text_at a u.0).args (unit_text_at begun u.0)) (entity_with (unit_text_at a u.0) c.lines) p.is_open q d) in
          subst (AddsUnit m new u.0) e (adds-unit m given new u (entity_with (unit_text_at a u.0) c.lines) v.only y)
