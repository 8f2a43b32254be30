-- Items that are spelled alone are spelled together, where no two units have one name.
use Rattle.std.proofs.Common.{◌≡◌, ℕ, Bool, true, false, ◌||◌, List, [], ◌∷◌, ◌++◌, refl, ap, sym, ◌∙◌, subst, append_assoc}
use Rattle.std.proofs.lemmas.List.{append-nil}
use Rattle.std.proofs.lemmas.Bool.{or_parts, or_left, or_right}
use Rattle.lh_unit.specs.Contents.{UnitText, ItemText, unit_text, declare_text, change_last, last_unit, with_block, with_line, defines_unit}
use Rattle.lh_unit_names.specs.UnitNames.{same_unit_name}
use Rattle.lh_unit.specs.Lines.{lines_of}
use Rattle.lh_unit.specs.Canon.{canon}
use Rattle.lh_unit.specs.Within.{Each}
use Rattle.lh_unit.specs.Spells.{LineItem, empty_item, header_item, declare_item, label_item, inst_item, close_item}
use Rattle.lh_unit.specs.Reads.{ReadState, place_in_last, place_of, may_stand, headed_unit, after, is_full, too_large, args_repeat, is_assert, value_again, label_again, defines_again, Takes, Walk, start}
use Rattle.lh_unit_names.specs.declared.name.UnitName.{UnitName}
use Rattle.lh_unit.proofs.Arenas.{same_unit_name-is, same_unit_name-refl}
use Rattle.lh_unit.proofs.ContentsLemmas.{last_unit-push, change_last-push}
use Rattle.lh_text_laws.specs.Laws.{IsSpelledAlone, units_repeat, SpelledTogether}
use Rattle.lh_text_laws.proofs.Readings.{read_to, walked-spelled}
use Rattle.lh_text_laws.proofs.Apart.{walk-append}
use Rattle.lh_text_laws.proofs.Units.{defines_unit-append, defines_unit-change, headed-name}

-- the unit names of items stay
names-step : (n : UnitName) (s : ReadState) (i : LineItem) → defines_unit n s.items ≡ true → defines_unit n (after s i).items ≡ true
names-step n s empty_item h = h
names-step n s (header_item k m args r) h = defines_unit-append n s.items (unit_text (headed_unit k m args r) ∷ []) ∙ or_left (defines_unit n s.items) _ h
names-step n s (declare_item d) h = defines_unit-append n s.items (declare_text d ∷ []) ∙ or_left (defines_unit n s.items) _ h
names-step n s (label_item m) h = defines_unit-change n (with_block m) (λ u. refl) s.items ∙ h
names-step n s (inst_item x) h = defines_unit-change n (with_line x) (λ u. refl) s.items ∙ h
names-step n s close_item h = h

names-stay : (n : UnitName) (ls : List (List ℕ)) (s t : ReadState) → Walk ls s t → defines_unit n s.items ≡ true → defines_unit n t.items ≡ true
names-stay n [] s t w h = subst (λ q. defines_unit n q.items ≡ true) w h
names-stay n (l ∷ ls) s t w h =
    let k = w.1 in
    names-stay n ls w.0 t w.2 (subst (λ q. defines_unit n q.items ≡ true) (sym k.becomes) (names-step n s k.item h))

-- the same state behind these items
abbrev behind : List ItemText → ReadState → ReadState
behind a s = record { items = a ++ s.items; inside = s.inside }

-- where a unit is open, it is the last item
record Last (items : List ItemText) : Type 0 where
  front : List ItemText
  unit : UnitText
  joined : items ≡ front ++ unit_text unit ∷ []

abbrev Shown : Bool → List ItemText → Type 0
Shown false items = Unit {0}
Shown true items = Last items

last-behind : (a items : List ItemText) → Last items → last_unit (a ++ items) ≡ last_unit items
last-behind a items h =
    subst (λ q. last_unit (a ++ q) ≡ last_unit q) (sym h.joined)
    (ap last_unit (sym (append_assoc a h.front (unit_text h.unit ∷ []))) ∙ last_unit-push (a ++ h.front) h.unit ∙ sym (last_unit-push h.front h.unit))

change-behind : (f : UnitText → UnitText) (a items : List ItemText) → Last items → a ++ change_last f items ≡ change_last f (a ++ items)
change-behind f a items h =
    let e : a ++ (h.front ++ unit_text h.unit ∷ []) ≡ (a ++ h.front) ++ unit_text h.unit ∷ [] = sym (append_assoc a h.front (unit_text h.unit ∷ [])) in
    let g : a ++ (h.front ++ unit_text (f h.unit) ∷ []) ≡ (a ++ h.front) ++ unit_text (f h.unit) ∷ [] = sym (append_assoc a h.front (unit_text (f h.unit) ∷ [])) in
    subst (λ q. a ++ change_last f q ≡ change_last f (a ++ q)) (sym h.joined)
    (ap (λ q. a ++ q) (change_last-push f h.front h.unit) ∙ g ∙ sym (ap (change_last f) e ∙ change_last-push f (a ++ h.front) h.unit))

change-last : (f : UnitText → UnitText) (items : List ItemText) → Last items → Last (change_last f items)
change-last f items h = record { front = h.front; unit = f h.unit; joined = ap (change_last f) h.joined ∙ change_last-push f h.front h.unit }

-- where no unit is open, labels, instructions and ends do not stand
shown-step : (inside : Bool) (items : List ItemText) (i : LineItem) → may_stand (place_of (record { items = items; inside = inside })) i ≡ true → Shown inside items
    → Shown (after (record { items = items; inside = inside }) i).inside (after (record { items = items; inside = inside }) i).items
shown-step inside items empty_item m h = h
shown-step inside items (header_item k n args r) m h = record { front = items; unit = headed_unit k n args r; joined = refl }
shown-step inside items (declare_item d) m h = tt
shown-step true items (label_item n) m h = change-last (with_block n) items h
shown-step true items (inst_item x) m h = change-last (with_line x) items h
shown-step false items (label_item n) m h = absurd cc
shown-step false items (inst_item x) m h = absurd cc
shown-step inside items close_item m h = tt

place-behind : (a : List ItemText) (inside : Bool) (items : List ItemText) → Shown inside items
    → place_of (record { items = a ++ items; inside = inside }) ≡ place_of (record { items = items; inside = inside })
place-behind a false items h = refl
place-behind a true items h = ap place_in_last (last-behind a items h)

room-behind : (a : List ItemText) (inside : Bool) (items : List ItemText) (i : LineItem) → may_stand (place_of (record { items = items; inside = inside })) i ≡ true → Shown inside items
    → too_large (record { items = a ++ items; inside = inside }) i ≡ too_large (record { items = items; inside = inside }) i
room-behind a inside items empty_item m h = refl
room-behind a inside items (header_item k n args r) m h = refl
room-behind a inside items (declare_item d) m h = refl
room-behind a inside items (label_item n) m h = refl
room-behind a true items (inst_item x) m h = ap is_full (last-behind a items h)
room-behind a false items (inst_item x) m h = absurd cc
room-behind a inside items close_item m h = refl

-- the items do not define the name that a header brings
abbrev IsApart : List ItemText → LineItem → Type 0
IsApart a (header_item k n args r) = defines_unit n a ≡ false
IsApart a _ = Unit {0}

header-new : (a b c : Bool) (x : Bool) → x ≡ false → ((a || b) || c) ≡ false → (((x || a) || b) || c) ≡ false
header-new a b c true e h = absurd cc
header-new a b c false e h = h

new-behind : (a : List ItemText) (inside : Bool) (items : List ItemText) (i : LineItem) → may_stand (place_of (record { items = items; inside = inside })) i ≡ true → Shown inside items → IsApart a i
    → defines_again (record { items = items; inside = inside }) i ≡ false → defines_again (record { items = a ++ items; inside = inside }) i ≡ false
new-behind a inside items empty_item m h p d = refl
new-behind a inside items (header_item k n args r) m h p d =
    ap (λ q. (q || is_assert n) || args_repeat [] args) (defines_unit-append n a items) ∙ header-new (defines_unit n items) (is_assert n) (args_repeat [] args) (defines_unit n a) p d
new-behind a inside items (declare_item x) m h p d = refl
new-behind a true items (label_item n) m h p d = ap (label_again n) (last-behind a items h) ∙ d
new-behind a true items (inst_item x) m h p d = ap (value_again x.result) (last-behind a items h) ∙ d
new-behind a false items (label_item n) m h p d = absurd cc
new-behind a false items (inst_item x) m h p d = absurd cc
new-behind a inside items close_item m h p d = refl

becomes-behind : (a : List ItemText) (inside : Bool) (items : List ItemText) (i : LineItem) → may_stand (place_of (record { items = items; inside = inside })) i ≡ true → Shown inside items
    → behind a (after (record { items = items; inside = inside }) i) ≡ after (record { items = a ++ items; inside = inside }) i
becomes-behind a inside items empty_item m h = refl
becomes-behind a inside items (header_item k n args r) m h = ap (λ q. record { items = q; inside = true }) (sym (append_assoc a items (unit_text (headed_unit k n args r) ∷ [])))
becomes-behind a inside items (declare_item d) m h = ap (λ q. record { items = q; inside = false }) (sym (append_assoc a items (declare_text d ∷ [])))
becomes-behind a true items (label_item n) m h = ap (λ q. record { items = q; inside = true }) (change-behind (with_block n) a items h)
becomes-behind a true items (inst_item x) m h = ap (λ q. record { items = q; inside = true }) (change-behind (with_line x) a items h)
becomes-behind a false items (label_item n) m h = absurd cc
becomes-behind a false items (inst_item x) m h = absurd cc
becomes-behind a inside items close_item m h = refl

takes-behind : (a : List ItemText) (s m : ReadState) (l : List ℕ) (k : Takes s l m) → Shown s.inside s.items → IsApart a k.item → Takes (behind a s) l (behind a m)
takes-behind a s m l k h p =
    let st : may_stand (place_of s) k.item ≡ true = k.said.stands in
    record {
      item = k.item;
      said = record { tokens = k.said.tokens; lexed = k.said.lexed; spelled = k.said.spelled; stands = subst (λ q. may_stand q k.item ≡ true) (sym (place-behind a s.inside s.items h)) st };
      has_room = room-behind a s.inside s.items k.item st h ∙ k.has_room;
      is_new = new-behind a s.inside s.items k.item st h p k.is_new;
      becomes = ap (behind a) k.becomes ∙ becomes-behind a s.inside s.items k.item st h;
    }

-- a header's name is among those of the items that it leads to
apart-by : (a : List ItemText) (s m : ReadState) (i : LineItem) → m ≡ after s i → ((n : UnitName) → defines_unit n m.items ≡ true → defines_unit n a ≡ false) → IsApart a i
apart-by a s m empty_item e f = tt
apart-by a s m (header_item k n args r) e f =
    f n (ap (λ q. defines_unit n q.items) e ∙ defines_unit-append n s.items (unit_text (headed_unit k n args r) ∷ [])
    ∙ or_right (defines_unit n s.items) _ (ap (λ q. same_unit_name q n || false) (headed-name k n args r) ∙ or_left (same_unit_name n n) false (same_unit_name-refl n)))
apart-by a s m (declare_item d) e f = tt
apart-by a s m (label_item n) e f = tt
apart-by a s m (inst_item x) e f = tt
apart-by a s m close_item e f = tt

-- a walk behind items that define none of the names that it comes to
walk-behind : (a : List ItemText) (ls : List (List ℕ)) (s t : ReadState) → Walk ls s t → Shown s.inside s.items → ((n : UnitName) → defines_unit n t.items ≡ true → defines_unit n a ≡ false)
    → Walk ls (behind a s) (behind a t)
walk-behind a [] s t w h f = ap (behind a) w
walk-behind a (l ∷ ls) s t w h f =
    let k = w.1 in
    let g = subst (λ q. Shown q.inside q.items) (sym k.becomes) (shown-step s.inside s.items k.item k.said.stands h) in
    let p : IsApart a k.item = apart-by a s w.0 k.item k.becomes (λ n d. f n (names-stay n ls w.0 t w.2 d)) in
    (behind a w.0, takes-behind a s w.0 l k h p, walk-behind a ls w.0 t w.2 g f)

-- the names of one item are not among those before
item-apart : (a : List ItemText) (i : ItemText) (more : List ItemText) → units_repeat a (i ∷ more) ≡ false → (n : UnitName) → defines_unit n (i ∷ []) ≡ true → defines_unit n a ≡ false
item-apart a (declare_text d) more h n e = absurd cc
item-apart a (unit_text u) more h n e = same (same_unit_name u.name n) refl e
  where
    same : (t : Bool) → same_unit_name u.name n ≡ t → (t || false) ≡ true → defines_unit n a ≡ false
    same true q e = subst (λ m. defines_unit m a ≡ false) (same_unit_name-is u.name n q) (or_parts (defines_unit u.name a) (units_repeat (a ++ unit_text u ∷ []) more) h).0
    same false q e = absurd cc

rest-apart : (a : List ItemText) (i : ItemText) (more : List ItemText) → units_repeat a (i ∷ more) ≡ false → units_repeat (a ++ i ∷ []) more ≡ false
rest-apart a (declare_text d) more h = h
rest-apart a (unit_text u) more h = (or_parts (defines_unit u.name a) (units_repeat (a ++ unit_text u ∷ []) more) h).1

-- some lines lead from one list of items to another
record Leads (a b : List ItemText) : Type 0 where
  lines : List (List ℕ)
  walk : Walk lines (read_to a) (read_to b)

leads-on : (a b c : List ItemText) → Leads a b → Leads b c → Leads a c
leads-on a b c x y = record { lines = x.lines ++ y.lines; walk = walk-append x.lines y.lines (read_to a) (read_to b) (read_to c) x.walk y.walk }

item-leads : (a : List ItemText) (i : ItemText) (more : List ItemText) → IsSpelledAlone i → units_repeat a (i ∷ more) ≡ false → Leads a (a ++ i ∷ [])
item-leads a i more h k =
    let ls = lines_of (canon (i ∷ [])) in
    let w : Walk ls (read_to (a ++ [])) (read_to (a ++ i ∷ [])) = walk-behind a ls start (read_to (i ∷ [])) h tt (item-apart a i more k) in
    record { lines = ls; walk = subst (λ q. Walk ls (read_to q) (read_to (a ++ i ∷ []))) (append-nil a) w }

all-lead : (a items : List ItemText) → Each IsSpelledAlone items → units_repeat a items ≡ false → Leads a (a ++ items)
all-lead a [] h k = record { lines = []; walk = ap read_to (sym (append-nil a)) }
all-lead a (i ∷ more) h k =
    subst (Leads a) (append_assoc a (i ∷ []) more) (leads-on a (a ++ i ∷ []) ((a ++ i ∷ []) ++ more) (item-leads a i more h.0 k) (all-lead (a ++ i ∷ []) more h.1 (rest-apart a i more k)))

pub spelled_together : SpelledTogether
spelled_together items h k = let r = all-lead [] items h k in walked-spelled r.lines items r.walk
