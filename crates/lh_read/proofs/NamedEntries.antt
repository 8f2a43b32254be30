-- Each entry is still named once a line is taken.
use Rattle.std.proofs.Common.{◌≡◌, ℕ, ◌<◌, zero, suc, List, [], ◌∷◌, ◌++◌, length, flat_map, Contains, slice_index_or, Some, Ok, inl, inr, refl, ap, sym, ◌∙◌, subst, arith, append_assoc, append-nil}
use Rattle.std.proofs.lemmas.List.Elements.{Contains-append_left, Contains-append_right, Contains-append_cases}
use Rattle.lh_types.specs.Types.{TypeTree}
use Rattle.lh_unit.specs.Contents.{ArgText, LineText, BlockText, UnitText, ItemText, unit_text, declare_text, new_unit, last_unit, change_last, with_arg, with_result, with_block, with_line, line_at_end}
use Rattle.lh_unit.specs.Arena.{Arena, KeepsEntries, Grows, IsOpen, no_arena, contents, unit_count, value_count, label_count, unit_name_at, value_name_at, label_name_at, unit_text_at}
use Rattle.lh_unit.specs.Builders.{HasContents, AddsDeclare, FindsUnit}
use Rattle.lh_unit.specs.Table.{Table, no_table}
use Rattle.lh_unit_names.specs.declared.name.UnitName.{UnitName}
use Rattle.lh_unit.specs.declared.inst.UnitId.{UnitId}
use Rattle.lh_unit.specs.declared.inst.UnitKind.{UnitKind}
use Rattle.lh_unit.specs.declared.inst.UnitKind.TheVariants as kind
use Rattle.lh_unit.specs.declared.inst.Declare.{Declare}
use Rattle.lh_unit.proofs.ContentsLemmas.{open-text, last_unit-push}
use Rattle.lh_unit.proofs.ModuleLaws.{KeepsEntries-trans, Grows-refl, last_unit-change_last}
use Rattle.lh_read.specs.Mentions.{Mention, names_unit, names_value, names_label, one_label, maybe_label, line_mentions, block_mentions, arg_mentions, unit_mentions, SomeUnit, IsMentioned, IsMentionedIn, EachNamed, EntersOnly}
use Rattle.lh_read.proofs.EntryLaws.{at_head, enters-none, flat_map-push}

-- the header of a unit, its arguments and its blocks
module _ (t : UnitText) (m : Mention) where
  pub by_args : Contains (flat_map arg_mentions t.args) m → Contains (unit_mentions t) m
  by_args h = Contains-append_right (names_unit t.name ∷ []) (flat_map arg_mentions t.args ++ flat_map block_mentions t.blocks) m
      (Contains-append_left (flat_map arg_mentions t.args) (flat_map block_mentions t.blocks) m h)

  pub by_blocks : Contains (flat_map block_mentions t.blocks) m → Contains (unit_mentions t) m
  by_blocks h = Contains-append_right (names_unit t.name ∷ []) (flat_map arg_mentions t.args ++ flat_map block_mentions t.blocks) m
      (Contains-append_right (flat_map arg_mentions t.args) (flat_map block_mentions t.blocks) m h)

-- a unit with the same header, at least these arguments and at least these blocks names at least the same
pub record Extends (t u : UnitText) : Type 0 where
  pub name : u.name ≡ t.name
  pub args : (m : Mention) → Contains (flat_map arg_mentions t.args) m → Contains (flat_map arg_mentions u.args) m
  pub blocks : (m : Mention) → Contains (flat_map block_mentions t.blocks) m → Contains (flat_map block_mentions u.blocks) m

mentions-kept : (t u : UnitText) (m : Mention) → Extends t u → Contains (unit_mentions t) m → Contains (unit_mentions u) m
mentions-kept t u m e h = elim (Contains-append_cases (names_unit t.name ∷ []) (flat_map arg_mentions t.args ++ flat_map block_mentions t.blocks) m h) [
  | inl x ↦ Contains-append_left (names_unit u.name ∷ []) (flat_map arg_mentions u.args ++ flat_map block_mentions u.blocks) m (subst (λ n. Contains (names_unit n ∷ []) m) (sym e.name) x)
  | inr x ↦ elim (Contains-append_cases (flat_map arg_mentions t.args) (flat_map block_mentions t.blocks) m x) [ inl y ↦ by_args u m (e.args m y) | inr y ↦ by_blocks u m (e.blocks m y) ]
]

-- one more argument, one more block, one more line, another result
pub with_arg-extends : (a : ArgText) (t : UnitText) → Extends t (with_arg a t)
with_arg-extends a t = record {
  name = refl;
  args = λ m h. subst (λ l. Contains l m) (sym (flat_map-push arg_mentions t.args a)) (Contains-append_left (flat_map arg_mentions t.args) (arg_mentions a) m h);
  blocks = λ m h. h;
}

pub with_result-extends : (ty : TypeTree) (t : UnitText) → Extends t (with_result ty t)
with_result-extends ty t = record { name = refl; args = λ m h. h; blocks = λ m h. h }

pub with_block-extends : (n : List ℕ) (t : UnitText) → Extends t (with_block n t)
with_block-extends n t =
    let b : BlockText = record { label = Some n; lines = [] } in
    record {
      name = refl;
      args = λ m h. h;
      blocks = λ m h. subst (λ l. Contains l m) (sym (flat_map-push block_mentions t.blocks b)) (Contains-append_left (flat_map block_mentions t.blocks) (block_mentions b) m h);
    }

-- a block with one more line
abbrev longer : LineText → BlockText → BlockText
longer l b = record b { lines = b.lines ++ l ∷ [] }

longer-mentions : (l : LineText) (b : BlockText) → block_mentions (longer l b) ≡ block_mentions b ++ line_mentions l
longer-mentions l b = ap (λ ms. maybe_label b.label ++ ms) (flat_map-push line_mentions b.lines l) ∙ sym (append_assoc (maybe_label b.label) (flat_map line_mentions b.lines) (line_mentions l))

lines-kept : (l : LineText) (bs : List BlockText) (m : Mention) → Contains (flat_map block_mentions bs) m → Contains (flat_map block_mentions (line_at_end l bs)) m
lines-kept l [] m h = h
lines-kept l (b ∷ []) m h =
    let g : Contains (block_mentions b) m = subst (λ ms. Contains ms m) (append-nil (block_mentions b)) h in
    subst (λ ms. Contains (ms ++ []) m) (sym (longer-mentions l b))
    (subst (λ ms. Contains ms m) (sym (append-nil (block_mentions b ++ line_mentions l))) (Contains-append_left (block_mentions b) (line_mentions l) m g))
lines-kept l (b ∷ c ∷ more) m h = elim (Contains-append_cases (block_mentions b) (flat_map block_mentions (c ∷ more)) m h) [
  | inl x ↦ Contains-append_left (block_mentions b) (flat_map block_mentions (line_at_end l (c ∷ more))) m x
  | inr x ↦ Contains-append_right (block_mentions b) (flat_map block_mentions (line_at_end l (c ∷ more))) m (lines-kept l (c ∷ more) m x)
]

line-there : (l : LineText) (bs : List BlockText) (m : Mention) → 0 < length bs → Contains (line_mentions l) m → Contains (flat_map block_mentions (line_at_end l bs)) m
line-there l [] m n h = absurd (omega (arith, n))
line-there l (b ∷ []) m n h =
    subst (λ ms. Contains (ms ++ []) m) (sym (longer-mentions l b))
    (subst (λ ms. Contains ms m) (sym (append-nil (block_mentions b ++ line_mentions l))) (Contains-append_right (block_mentions b) (line_mentions l) m h))
line-there l (b ∷ c ∷ more) m n h = Contains-append_right (block_mentions b) (flat_map block_mentions (line_at_end l (c ∷ more))) m (line-there l (c ∷ more) m (omega arith) h)

pub with_line-extends : (l : LineText) (t : UnitText) → Extends t (with_line l t)
with_line-extends l t = record { name = refl; args = λ m h. h; blocks = λ m h. lines-kept l t.blocks m h }

-- and what was added is named
pub with_arg-names : (a : ArgText) (t : UnitText) (m : Mention) → Contains (arg_mentions a) m → Contains (unit_mentions (with_arg a t)) m
with_arg-names a t m h =
    by_args (with_arg a t) m (subst (λ l. Contains l m) (sym (flat_map-push arg_mentions t.args a)) (Contains-append_right (flat_map arg_mentions t.args) (arg_mentions a) m h))

pub with_block-names : (n : List ℕ) (t : UnitText) (m : Mention) → Contains (one_label n) m → Contains (unit_mentions (with_block n t)) m
with_block-names n t m h =
    let b : BlockText = record { label = Some n; lines = [] } in
    by_blocks (with_block n t) m (subst (λ l. Contains l m) (sym (flat_map-push block_mentions t.blocks b)) (Contains-append_right (flat_map block_mentions t.blocks) (block_mentions b) m h))

pub with_line-names : (l : LineText) (t : UnitText) (m : Mention) → 0 < length t.blocks → Contains (line_mentions l) m → Contains (unit_mentions (with_line l t)) m
with_line-names l t m n h = by_blocks (with_line l t) m (line-there l t.blocks m n h)

-- a unit of which something holds, where the last one is changed, where items follow, and the last one itself
some-changed : (P : UnitText → Type 0) (f : UnitText → UnitText) (items : List ItemText) → ((t : UnitText) → P t → P (f t)) → SomeUnit P items → SomeUnit P (change_last f items)
some-changed P f [] k h = absurd h
some-changed P f (unit_text u ∷ []) k h = elim h [ inl x ↦ inl (k u x) | inr x ↦ absurd x ]
some-changed P f (declare_text d ∷ []) k h = absurd h
some-changed P f (unit_text u ∷ i ∷ more) k h = elim h [ inl x ↦ inl x | inr x ↦ inr (some-changed P f (i ∷ more) k x) ]
some-changed P f (declare_text d ∷ i ∷ more) k h = some-changed P f (i ∷ more) k h

some-followed : (P : UnitText → Type 0) (items more : List ItemText) → SomeUnit P items → SomeUnit P (items ++ more)
some-followed P [] more h = absurd h
some-followed P (unit_text u ∷ items) more h = elim h [ inl x ↦ inl x | inr x ↦ inr (some-followed P items more x) ]
some-followed P (declare_text d ∷ items) more h = some-followed P items more h

some-last : (P : UnitText → Type 0) (items : List ItemText) (t : UnitText) → last_unit items ≡ Some t → P t → SomeUnit P items
some-last P [] t e h = cc
some-last P (unit_text u ∷ []) t e h = let g : u ≡ t = cc in inl (subst P (sym g) h)
some-last P (declare_text d ∷ []) t e h = cc
some-last P (unit_text u ∷ i ∷ more) t e h = inr (some-last P (i ∷ more) t e h)
some-last P (declare_text d ∷ i ∷ more) t e h = some-last P (i ∷ more) t e h

-- only a unit that has an entry has values and labels
unit_of_value : (ts : List Table) (w v : ℕ) → v < length (slice_index_or ts w no_table).values → w < length ts
unit_of_value [] zero v h = absurd (omega (arith, h))
unit_of_value [] (suc w) v h = absurd (omega (arith, h))
unit_of_value (t ∷ ts) zero v h = omega arith
unit_of_value (t ∷ ts) (suc w) v h = omega (arith, unit_of_value ts w v h)

unit_of_label : (ts : List Table) (w b : ℕ) → b < length (slice_index_or ts w no_table).labels → w < length ts
unit_of_label [] zero b h = absurd (omega (arith, h))
unit_of_label [] (suc w) b h = absurd (omega (arith, h))
unit_of_label (t ∷ ts) zero b h = omega arith
unit_of_label (t ∷ ts) (suc w) b h = omega (arith, unit_of_label ts w b h)

-- what was named is still named, where what the module says has each unit that it had
module _ (a new : Arena) (named : EachNamed a) (k : KeepsEntries a new) (still : (P : UnitText → Type 0) → ((t : UnitText) → P t → (u : UnitText) → Extends t u → P u) → SomeUnit P (contents a) → SomeUnit P (contents new)) where
  unit-still : (w : ℕ) → w < unit_count a → IsMentioned (contents new) (unit_name_at new w)
  unit-still w h = subst (IsMentioned (contents new)) (sym (k.unit_names w h))
      (still (λ t. Contains (unit_mentions t) (names_unit (unit_name_at a w))) (λ t p u e. mentions-kept t u (names_unit (unit_name_at a w)) e p) (named.units w h))

  in_unit-still : (w : ℕ) (m n : Mention) → w < unit_count a → n ≡ m → IsMentionedIn (contents a) (unit_name_at a w) m → IsMentionedIn (contents new) (unit_name_at new w) n
  in_unit-still w m n h e p =
      subst (λ x. IsMentionedIn (contents new) x n) (sym (k.unit_names w h))
      (subst (IsMentionedIn (contents new) (unit_name_at a w)) (sym e)
      (still (λ t. (t.name ≡ unit_name_at a w) × Contains (unit_mentions t) m) (λ t q u x. (x.name ∙ q.0, mentions-kept t u m x q.1)) p))

  value-still : (w v : ℕ) → v < value_count a w → IsMentionedIn (contents new) (unit_name_at new w) (names_value (value_name_at new w v))
  value-still w v h = in_unit-still w (names_value (value_name_at a w v)) (names_value (value_name_at new w v)) (unit_of_value a.units w v h) (ap names_value (k.value_names w v h)) (named.values w v h)

  label-still : (w b : ℕ) → b < label_count a w → IsMentionedIn (contents new) (unit_name_at new w) (names_label (label_name_at new w b))
  label-still w b h = in_unit-still w (names_label (label_name_at a w b)) (names_label (label_name_at new w b)) (unit_of_label a.units w b h) (ap names_label (k.label_names w b h)) (named.labels w b h)

-- nothing is read yet
pub named-none : EachNamed no_arena
named-none = record {
  units = λ u h. absurd (omega (arith, h));
  values = λ u v h. let l = unit_of_value [] u v h in absurd (omega (arith, l));
  labels = λ u b h. let l = unit_of_label [] u b h in absurd (omega (arith, l));
}

-- the open unit is changed, to which the new entries were added
pub named-changed : (a now new : Arena) (u : UnitId) (ms : List Mention) (f : UnitText → UnitText) → ((t : UnitText) → Extends t (f t)) → EachNamed a → Grows a now → EntersOnly ms a now u.0
    → IsOpen now u → HasContents now new u (change_last f (contents now)) → ((m : Mention) → Contains ms m → Contains (unit_mentions (f (unit_text_at now u.0))) m) → EachNamed new
named-changed a now new u ms f ext named g only o s covers = record {
  units = λ w h.
      let b : w < unit_count now = omega (arith, h, s.no_more.more_units) in
      elim (only.units w b) [
        | inl x ↦ unit-still a new named k still w x
        | inr y ↦ subst (IsMentioned (contents new)) (sym (s.entries.unit_names w b)) (here (λ t. Contains (unit_mentions t) (names_unit (unit_name_at now w))) (covers (names_unit (unit_name_at now w)) y))
      ];
  values = λ w v h.
      let b : v < value_count now w = omega (arith, h, s.no_more.more_values w) in
      elim (only.values w v b) [
        | inl x ↦ value-still a new named k still w v x
        | inr y ↦ in_open w (names_value (value_name_at now w v)) (names_value (value_name_at new w v)) (unit_of_value now.units w v b) y.0 (ap names_value (s.entries.value_names w v b)) y.1
      ];
  labels = λ w v h.
      let b : v < label_count now w = omega (arith, h, s.no_more.more_labels w) in
      elim (only.labels w v b) [
        | inl x ↦ label-still a new named k still w v x
        | inr y ↦ in_open w (names_label (label_name_at now w v)) (names_label (label_name_at new w v)) (unit_of_label now.units w v b) y.0 (ap names_label (s.entries.label_names w v b)) y.1
      ];
}
  where
    k : KeepsEntries a new
    k = KeepsEntries-trans a now new g.entries s.entries

    t : UnitText
    t = unit_text_at now u.0

    still : (P : UnitText → Type 0) → ((t : UnitText) → P t → (u : UnitText) → Extends t u → P u) → SomeUnit P (contents a) → SomeUnit P (contents new)
    still P c h = subst (SomeUnit P) (sym s.says) (some-changed P f (contents now) (λ x p. c x p (f x) (ext x)) (subst (SomeUnit P) (sym g.says) h))

    here : (P : UnitText → Type 0) → P (f (unit_text_at now u.0)) → SomeUnit P (contents new)
    here P p = subst (SomeUnit P) (sym s.says)
        (some-last P (change_last f (contents now)) (f (unit_text_at now u.0)) (last_unit-change_last f (contents now) (unit_text_at now u.0) (open-text now u o)) p)

    in_open : (w : ℕ) (m n : Mention) → w < unit_count now → w ≡ u.0 → n ≡ m → Contains ms m → IsMentionedIn (contents new) (unit_name_at new w) n
    in_open w m n h e q c =
        subst (λ x. IsMentionedIn (contents new) x n) (sym (s.entries.unit_names w h))
        (subst (IsMentionedIn (contents new) (unit_name_at now w)) (sym q)
        (here (λ t. (t.name ≡ unit_name_at now w) × Contains (unit_mentions t) m) ((ext (unit_text_at now u.0)).name ∙ ap (unit_name_at now) (sym e), covers m c)))

-- a unit that is not open in what is said gets no entry, and the open one none that its lines don't name
nothing_there : (m : Mention) → Contains [] m → ⊥
nothing_there m h = omega (arith, h.1)

pub named-still : (a new : Arena) (u : UnitId) (f : UnitText → UnitText) → ((t : UnitText) → Extends t (f t)) → IsOpen a u → HasContents a new u (change_last f (contents a)) → EachNamed a → EachNamed new
named-still a new u f ext o s named = named-changed a a new u [] f ext named (Grows-refl a) (enters-none [] a u.0) o s (λ m h. absurd (nothing_there m h))

-- a unit is begun whose entry was found or made
pub named-begun : (a now new : Arena) (u : UnitId) (n : UnitName) (k : UnitKind) → FindsUnit (Ok u) a now n → HasContents now new u (contents now ++ unit_text (new_unit (unit_name_at now u.0) k) ∷ [])
    → EachNamed a → EachNamed new
named-begun a now new u n k f s named = record {
  units = λ w h.
      let b : w < unit_count now = omega (arith, h, s.no_more.more_units) in
      elim (f.4 w b) [
        | inl x ↦ unit-still a new named keeps still w x
        | inr e ↦ subst (IsMentioned (contents new)) (sym (s.entries.unit_names w b ∙ ap (unit_name_at now) e)) here
      ];
  values = λ w v h. value-still a new named keeps still w v (omega (arith, h, s.no_more.more_values w, f.3.more_values w));
  labels = λ w v h. label-still a new named keeps still w v (omega (arith, h, s.no_more.more_labels w, f.3.more_labels w));
}
  where
    keeps : KeepsEntries a new
    keeps = KeepsEntries-trans a now new f.0.grows.entries s.entries

    still : (P : UnitText → Type 0) → ((t : UnitText) → P t → (u : UnitText) → Extends t u → P u) → SomeUnit P (contents a) → SomeUnit P (contents new)
    still P c h = subst (SomeUnit P) (sym s.says) (some-followed P (contents now) _ (subst (SomeUnit P) (sym f.0.grows.says) h))

    header : (n : UnitName) (k : UnitKind) → Contains (unit_mentions (new_unit n k)) (names_unit n)
    header n kind.Func = at_head (names_unit n) []
    header n kind.Proc = at_head (names_unit n) []
    header n kind.Entity = at_head (names_unit n) []

    here : IsMentioned (contents new) (unit_name_at now u.0)
    here =
        let n = unit_name_at now u.0 in
        subst (SomeUnit (λ t. Contains (unit_mentions t) (names_unit n))) (sym s.says)
        (some-last (λ t. Contains (unit_mentions t) (names_unit n)) (contents now ++ unit_text (new_unit n k) ∷ []) (new_unit n k) (last_unit-push (contents now) (new_unit n k)) (header n k))

-- one more declaration
pub named-declared : (a new : Arena) (d : Declare) → AddsDeclare (Ok tt) a new d → EachNamed a → EachNamed new
named-declared a new d s named = record {
  units = λ w h. unit-still a new named s.1 still w (omega (arith, h, s.3.more_units));
  values = λ w v h. value-still a new named s.1 still w v (omega (arith, h, s.3.more_values w));
  labels = λ w v h. label-still a new named s.1 still w v (omega (arith, h, s.3.more_labels w));
}
  where
    still : (P : UnitText → Type 0) → ((t : UnitText) → P t → (u : UnitText) → Extends t u → P u) → SomeUnit P (contents a) → SomeUnit P (contents new)
    still P c h = subst (SomeUnit P) (sym s.0) (some-followed P (contents a) _ h)
