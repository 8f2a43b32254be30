-- Each item of a module that is spelled is spelled alone.
use Rattle.std.proofs.Common.{◌≡◌, ℕ, Bool, true, false, ◌||◌, List, [], ◌∷◌, ◌++◌, Option, refl, sym, ◌∙◌, subst}
use Rattle.std.proofs.lemmas.Bool.{or_parts}
use Rattle.lh_types.specs.Types.{TypeTree}
use Rattle.lh_unit.specs.Contents.{ArgText, LineText, UnitText, ItemText, unit_text, declare_text, change_last, with_block, with_line, defines_unit}
use Rattle.lh_unit.specs.Lines.{lines_of}
use Rattle.lh_unit.specs.Canon.{canon}
use Rattle.lh_unit.specs.Within.{Each}
use Rattle.lh_unit.specs.Spells.{LineItem, empty_item, header_item, declare_item, label_item, inst_item, close_item, Spells}
use Rattle.lh_unit.specs.Reads.{ReadState, outside, place_in, place_in_last, place_of, may_stand, headed_unit, after, is_full, too_large, args_repeat, is_assert, value_again, label_again, defines_again, LineSpells, Takes, Walk, start}
use Rattle.lh_unit_names.specs.declared.name.UnitName.{UnitName}
use Rattle.lh_unit.specs.declared.inst.UnitKind.{UnitKind}
use Rattle.lh_unit.specs.declared.inst.Declare.{Declare}
use Rattle.lh_unit.proofs.ContentsLemmas.{last_unit-push, change_last-push}
use Rattle.lh_text_laws.specs.Laws.{IsSpelledAlone, units_repeat, SpelledApart}
use Rattle.lh_text_laws.proofs.Readings.{read_to, walked-spelled}
use Rattle.lh_text_laws.proofs.Steps.{unit-in, no_header, no_declare}
use Rattle.lh_text_laws.proofs.Units.{repeat-unit, repeat-declare, repeat-same, headed-name}

-- one line more
pub walk-append : (a b : List (List ℕ)) (s m t : ReadState) → Walk a s m → Walk b m t → Walk (a ++ b) s t
walk-append [] b s m t w v = subst (λ q. Walk b q t) (sym w) v
walk-append (l ∷ a) b s m t w v = (w.0, w.1, walk-append a b w.0 m t w.2 v)

-- some lines lead to this state
record Reached (t : ReadState) : Type 0 where
  lines : List (List ℕ)
  walk : Walk lines start t

one_more : (s t : ReadState) (l : List ℕ) → Reached s → Takes s l t → Reached t
one_more s t l r k = record { lines = r.lines ++ l ∷ []; walk = walk-append r.lines (l ∷ []) start s t r.walk (t, k, refl) }

alone : (i : ItemText) → Reached (read_to (i ∷ [])) → IsSpelledAlone i
alone i r = walked-spelled r.lines (i ∷ []) r.walk

-- a unit that is still open, behind these items
abbrev pub opened : List ItemText → UnitText → ReadState
opened front u = record { items = front ++ unit_text u ∷ []; inside = true }

each-push : (items : List ItemText) (i : ItemText) → Each IsSpelledAlone items → IsSpelledAlone i → Each IsSpelledAlone (items ++ i ∷ [])
each-push [] i h k = (k, tt)
each-push (x ∷ items) i h k = (h.0, each-push items i h.1 k)

-- what holds on the way, where no unit is open and where one is
abbrev Closed : List ItemText → Type 0
Closed items = Each IsSpelledAlone items × (units_repeat [] items ≡ false)

record Open (items : List ItemText) : Type 0 where
  front : List ItemText
  unit : UnitText
  joined : items ≡ front ++ unit_text unit ∷ []
  each : Each IsSpelledAlone front
  new : units_repeat [] (front ++ unit_text unit ∷ []) ≡ false
  reached : Reached (opened [] unit)

abbrev Kept : Bool → List ItemText → Type 0
Kept false items = Closed items
Kept true items = Open items

-- what a line says and that it has no fault
pub record Fine (s : ReadState) (l : List ℕ) (i : LineItem) : Type 0 where
  pub said : LineSpells s l i
  pub has_room : too_large s i ≡ false
  pub is_new : defines_again s i ≡ false

spells : (s : ReadState) (l : List ℕ) (i : LineItem) (f : Fine s l i) → Spells f.said.tokens i
spells s l i f = f.said.spelled

takes-fine : (s : ReadState) (l : List ℕ) (i : LineItem) → Fine s l i → Takes s l (after s i)
takes-fine s l i f = record { item = i; said = f.said; has_room = f.has_room; is_new = f.is_new; becomes = refl }

header-kept : (items : List ItemText) (l : List ℕ) (k : UnitKind) (n : UnitName) (args : List ArgText) (r : Option TypeTree) → Closed items → Fine (read_to items) l (header_item k n args r)
    → Open (items ++ unit_text (headed_unit k n args r) ∷ [])
header-kept items l k n args r c f =
    let u = headed_unit k n args r in
    let a = or_parts (defines_unit n items || is_assert n) (args_repeat [] args) f.is_new in
    let b = or_parts (defines_unit n items) (is_assert n) a.0 in
    let d : is_assert n ≡ false = b.1 in
    let e : args_repeat [] args ≡ false = a.1 in
    let t : Takes start l (opened [] u) = record {
      item = header_item k n args r;
      said = record { tokens = f.said.tokens; lexed = f.said.lexed; spelled = f.said.spelled; stands = refl };
      has_room = refl;
      is_new = rw (d, e) refl;
      becomes = refl;
    }
    in
    record {
      front = items;
      unit = u;
      joined = refl;
      each = c.0;
      new = repeat-unit [] items u c.1 (subst (λ q. defines_unit q items ≡ false) (sym (headed-name k n args r)) b.0);
      reached = record { lines = l ∷ []; walk = (opened [] u, t, refl) };
    }

declare-kept : (items : List ItemText) (l : List ℕ) (d : Declare) → Closed items → Fine (read_to items) l (declare_item d) → Closed (items ++ declare_text d ∷ [])
declare-kept items l d c f =
    let t : Takes start l (read_to (declare_text d ∷ [])) = record {
      item = declare_item d;
      said = record { tokens = f.said.tokens; lexed = f.said.lexed; spelled = f.said.spelled; stands = refl };
      has_room = refl;
      is_new = refl;
      becomes = refl;
    }
    in
    (each-push items (declare_text d) c.0 (alone (declare_text d) (record { lines = l ∷ []; walk = (read_to (declare_text d ∷ []), t, refl) })), repeat-declare [] items d c.1)

-- what stands at an open unit does so where the unit is alone
pub alone-stands : (front : List ItemText) (u : UnitText) (i : LineItem) → may_stand (place_of (opened front u)) i ≡ true → may_stand (place_in u.kind u.blocks) i ≡ true
alone-stands front u i h = subst (λ o. may_stand (place_in_last o) i ≡ true) (last_unit-push front u) h

label-kept : (front : List ItemText) (u : UnitText) (l : List ℕ) (n : List ℕ) → Each IsSpelledAlone front → units_repeat [] (front ++ unit_text u ∷ []) ≡ false → Reached (opened [] u)
    → Fine (opened front u) l (label_item n) → Open (change_last (with_block n) (front ++ unit_text u ∷ []))
label-kept front u l n c h r f =
    let v = with_block n u in
    let t : Takes (opened [] u) l (opened [] v) = record {
      item = label_item n;
      said = record { tokens = f.said.tokens; lexed = f.said.lexed; spelled = f.said.spelled; stands = alone-stands front u (label_item n) f.said.stands };
      has_room = refl;
      is_new = subst (λ o. label_again n o ≡ false) (last_unit-push front u) f.is_new;
      becomes = refl;
    }
    in
    record { front = front; unit = v; joined = change_last-push (with_block n) front u; each = c; new = repeat-same [] front v u refl ∙ h; reached = one_more (opened [] u) (opened [] v) l r t }

inst-kept : (front : List ItemText) (u : UnitText) (l : List ℕ) (x : LineText) → Each IsSpelledAlone front → units_repeat [] (front ++ unit_text u ∷ []) ≡ false → Reached (opened [] u)
    → Fine (opened front u) l (inst_item x) → Open (change_last (with_line x) (front ++ unit_text u ∷ []))
inst-kept front u l x c h r f =
    let v = with_line x u in
    let t : Takes (opened [] u) l (opened [] v) = record {
      item = inst_item x;
      said = record { tokens = f.said.tokens; lexed = f.said.lexed; spelled = f.said.spelled; stands = alone-stands front u (inst_item x) f.said.stands };
      has_room = subst (λ o. is_full o ≡ false) (last_unit-push front u) f.has_room;
      is_new = subst (λ o. value_again x.result o ≡ false) (last_unit-push front u) f.is_new;
      becomes = refl;
    }
    in
    record { front = front; unit = v; joined = change_last-push (with_line x) front u; each = c; new = repeat-same [] front v u refl ∙ h; reached = one_more (opened [] u) (opened [] v) l r t }

close-kept : (front : List ItemText) (u : UnitText) (l : List ℕ) → Each IsSpelledAlone front → units_repeat [] (front ++ unit_text u ∷ []) ≡ false → Reached (opened [] u)
    → Fine (opened front u) l close_item → Closed (front ++ unit_text u ∷ [])
close-kept front u l c h r f =
    let t : Takes (opened [] u) l (read_to (unit_text u ∷ [])) = record {
      item = close_item;
      said = record { tokens = f.said.tokens; lexed = f.said.lexed; spelled = f.said.spelled; stands = alone-stands front u close_item f.said.stands };
      has_room = refl;
      is_new = refl;
      becomes = refl;
    }
    in
    (each-push front (unit_text u) c (alone (unit_text u) (one_more (opened [] u) (read_to (unit_text u ∷ [])) l r t)), h)

-- what holds is kept by an item where no unit is open
closed-kept : (items : List ItemText) (l : List ℕ) (i : LineItem) → Closed items → Fine (read_to items) l i → Kept (after (read_to items) i).inside (after (read_to items) i).items
closed-kept items l empty_item c f = c
closed-kept items l (header_item k n args r) c f = header-kept items l k n args r c f
closed-kept items l (declare_item d) c f = declare-kept items l d c f
closed-kept items l (label_item n) c f = let e : may_stand outside (label_item n) ≡ true = f.said.stands in absurd cc
closed-kept items l (inst_item x) c f = let e : may_stand outside (inst_item x) ≡ true = f.said.stands in absurd cc
closed-kept items l close_item c f = let e : may_stand outside close_item ≡ true = f.said.stands in absurd cc

-- and where one is
open-kept : (front : List ItemText) (u : UnitText) (l : List ℕ) (i : LineItem) → Open (front ++ unit_text u ∷ []) → Each IsSpelledAlone front → units_repeat [] (front ++ unit_text u ∷ []) ≡ false
    → Reached (opened [] u) → Fine (opened front u) l i → Kept (after (opened front u) i).inside (after (opened front u) i).items
open-kept front u l empty_item o c h r f = o
open-kept front u l (header_item k n args t) o c h r f = absurd
    (no_header (place_in u.kind u.blocks) k n args t (unit-in u.kind u.blocks) (alone-stands front u (header_item k n args t) f.said.stands))
open-kept front u l (declare_item d) o c h r f = absurd (no_declare (place_in u.kind u.blocks) d (unit-in u.kind u.blocks) (alone-stands front u (declare_item d) f.said.stands))
open-kept front u l (label_item n) o c h r f = label-kept front u l n c h r f
open-kept front u l (inst_item x) o c h r f = inst-kept front u l x c h r f
open-kept front u l close_item o c h r f = close-kept front u l c h r f

kept-by : (inside : Bool) (items : List ItemText) (l : List ℕ) (i : LineItem) → Kept inside items → Fine (record { items = items; inside = inside }) l i
    → Kept (after (record { items = items; inside = inside }) i).inside (after (record { items = items; inside = inside }) i).items
kept-by false items l i c f = closed-kept items l i c f
kept-by true items l i o f =
    subst (λ q. Fine (record { items = q; inside = true }) l i → Kept (after (record { items = q; inside = true }) i).inside (after (record { items = q; inside = true }) i).items) (sym o.joined)
    (λ g. open-kept o.front o.unit l i (subst Open o.joined o) o.each o.new o.reached g) f

walked-kept : (ls : List (List ℕ)) (s t : ReadState) → Walk ls s t → Kept s.inside s.items → Kept t.inside t.items
walked-kept [] s t w c = subst (λ q. Kept q.inside q.items) w c
walked-kept (l ∷ ls) s t w c =
    let k = w.1 in
    let m : Kept (after s k.item).inside (after s k.item).items = kept-by s.inside s.items l k.item c (record { said = k.said; has_room = k.has_room; is_new = k.is_new }) in
    walked-kept ls w.0 t w.2 (subst (λ q. Kept q.inside q.items) (sym k.becomes) m)

pub spelled_apart : SpelledApart
spelled_apart items h = walked-kept (lines_of (canon items)) start (read_to items) h (tt, refl)
