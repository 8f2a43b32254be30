-- An item that is spelled can be printed.
use Rattle.std.proofs.Common.{◌≡◌, ℕ, ◌+◌, ◌≤◌, Bool, true, false, ◌||◌, List, [], ◌∷◌, ◌++◌, nat_eq, Option, Some, None, if◌then◌else◌, refl, ap, sym, ◌∙◌, subst, arith, append_assoc, length-append}
use Rattle.std.proofs.lemmas.List.{append-nil}
use Rattle.std.proofs.lemmas.Grind.{common_steps}
use Rattle.std.proofs.lemmas.Bool.{or_parts}
use Rattle.lh_types.specs.Types.{TypeTree}
use Rattle.lh_unit.specs.Contents.{ArgText, LineText, BlockText, UnitText, ItemText, unit_text, declare_text, line_at_end, with_block, with_line, line_count, args_define, defines_unit, defines_label_in}
use Rattle.lh_unit.specs.Canon.{canon}
use Rattle.lh_unit.specs.Lines.{lines_of as written_lines}
use Rattle.lh_unit.specs.Spells.{LineItem, empty_item, header_item, declare_item, label_item, inst_item, close_item}
use Rattle.lh_unit.specs.Reads.{ReadState, outside, has_lines, in_block, in_empty_block, place_after, place_in, may_stand, headed_unit, after, is_full, args_repeat, is_assert, value_again, label_again, most_lines, Walk, start}
use Rattle.lh_unit.specs.Within.{Each}
use Rattle.lh_unit.specs.Hierarchy.{lines_of}
use Rattle.lh_unit_names.specs.declared.name.UnitName.{UnitName}
use Rattle.lh_unit.specs.declared.inst.UnitKind.{UnitKind}
use Rattle.lh_unit.specs.declared.inst.UnitKind.TheVariants as kind
use Rattle.lh_unit.proofs.Lists.{or_false}
use Rattle.lh_unit.proofs.ContentsLemmas.{last_unit-push, change_last-push}
use Rattle.lh_text_laws.specs.Laws.{SpelledIsPrintable}
use Rattle.lh_text_laws.specs.Printable.{HasLine, HasInstLine, HasLabelLine, BlockIsLabelled, HasShape, result_repeats, results_repeat, label_repeats, labels_repeat, IsPrintable, IsPrintableItem}
use Rattle.lh_text_laws.proofs.Apart.{opened, Fine, alone-stands}
use Rattle.lh_text_laws.proofs.Items.{item-again}
use Rattle.lh_text_laws.proofs.PrintableUnits.{unit_of, block, start_blocks, headed-start, lines_of-last, line_count-last, blocks_define-lines}
use Rattle.lh_text_laws.proofs.Readings.{read_to}
use Rattle.lh_text_laws.proofs.Steps.{block_in, unit-in, no_header, no_declare}
use Rattle.lh_text_laws.proofs.Walks.{HasBlock}
use Rattle.lh_text_laws.proofs.Written.{written}
use Rattle.lh_unit.proofs.ModuleLaws.{Each-push}

-- blocks of which each but the last has an instruction
abbrev PartLabelled : List BlockText → Type 0
PartLabelled [] = Unit {0}
PartLabelled (b ∷ []) = HasLabelLine b.label
PartLabelled (b ∷ c ∷ more) = BlockIsLabelled b × PartLabelled (c ∷ more)

abbrev PartShape : UnitKind → List BlockText → Type 0
PartShape kind.Entity (b ∷ []) = b.label ≡ None
PartShape kind.Entity _ = ⊥
PartShape _ bs = PartLabelled bs

-- a unit that can be printed as far as it is read
record Part (u : UnitText) : Type 0 where
  headed : HasLine (header_item u.kind u.name u.args u.result)
  shaped : PartShape u.kind u.blocks
  lines : Each HasInstLine (lines_of u.blocks)
  no_assert : is_assert u.name ≡ false
  new_args : args_repeat [] u.args ≡ false
  new_labels : labels_repeat [] u.blocks ≡ false
  new_results : results_repeat u.args [] (lines_of u.blocks) ≡ false
  fits : line_count u.blocks ≤ most_lines

-- a header
part-start : (k : UnitKind) (n : UnitName) (args : List ArgText) (r : Option TypeTree) → HasLine (header_item k n args r) → is_assert n ≡ false → args_repeat [] args ≡ false
    → Part (unit_of k n args r (start_blocks k))
part-start kind.Func n args r h a b = record { headed = h; shaped = tt; lines = tt; no_assert = a; new_args = b; new_labels = refl; new_results = refl; fits = omega arith }
part-start kind.Proc n args r h a b = record { headed = h; shaped = tt; lines = tt; no_assert = a; new_args = b; new_labels = refl; new_results = refl; fits = omega arith }
part-start kind.Entity n args r h a b = record { headed = h; shaped = refl; lines = tt; no_assert = a; new_args = b; new_labels = refl; new_results = refl; fits = omega arith }

-- a label
labelled-label : (n : List ℕ) (bs : List BlockText) → HasLine (label_item n) → may_stand (place_after bs) (label_item n) ≡ true → PartLabelled bs → PartLabelled (bs ++ block (Some n) [] ∷ [])
labelled-label n [] h m p = h
labelled-label n (b ∷ []) h m p = ((p, has (has_lines b.lines) refl m), h)
  where
    has : (t : Bool) → has_lines b.lines ≡ t → may_stand (if t then in_block else in_empty_block) (label_item n) ≡ true → has_lines b.lines ≡ true
    has true e g = e
    has false e g = absurd cc
labelled-label n (b ∷ c ∷ []) h m p = (p.0, labelled-label n (c ∷ []) h m p.1)
labelled-label n (b ∷ c ∷ d ∷ more) h m p = (p.0, labelled-label n (c ∷ d ∷ more) h m p.1)

shape-label : (k : UnitKind) (n : List ℕ) (bs : List BlockText) → HasLine (label_item n) → may_stand (place_in k bs) (label_item n) ≡ true → PartShape k bs → PartShape k (bs ++ block (Some n) [] ∷ [])
shape-label kind.Entity n bs h m p = absurd cc
shape-label kind.Func n bs h m p = labelled-label n bs h m p
shape-label kind.Proc n bs h m p = labelled-label n bs h m p

labels-push : (seen bs : List BlockText) (n : List ℕ) → labels_repeat seen bs ≡ false → defines_label_in n (seen ++ bs) ≡ false → labels_repeat seen (bs ++ block (Some n) [] ∷ []) ≡ false
labels-push seen [] n h k = or_false (defines_label_in n seen) ∙ subst (λ q. defines_label_in n q ≡ false) (append-nil seen) k
labels-push seen (b ∷ bs) n h k =
    let p = or_parts (label_repeats seen b.label) (labels_repeat (seen ++ b ∷ []) bs) h in
    let e : label_repeats seen b.label ≡ false = p.0 in
    rw e (labels-push (seen ++ b ∷ []) bs n p.1 (subst (λ q. defines_label_in n q ≡ false) (sym (append_assoc seen (b ∷ []) bs)) k))

part-label : (u : UnitText) (n : List ℕ) → HasLine (label_item n) → may_stand (place_in u.kind u.blocks) (label_item n) ≡ true → label_again n (Some u) ≡ false → Part u → Part (with_block n u)
part-label u n h m d p =
    let e : lines_of u.blocks ≡ lines_of (u.blocks ++ block (Some n) [] ∷ []) = sym (lines_of-last u.blocks (block (Some n) []) ∙ append-nil (lines_of u.blocks)) in
    let f : line_count u.blocks ≤ most_lines = p.fits in
    let g : line_count (u.blocks ++ block (Some n) [] ∷ []) ≡ line_count u.blocks + 0 = line_count-last u.blocks (block (Some n) []) in
    record {
      headed = p.headed;
      shaped = shape-label u.kind n u.blocks h m p.shaped;
      lines = subst (Each HasInstLine) e p.lines;
      no_assert = p.no_assert;
      new_args = p.new_args;
      new_labels = labels-push [] u.blocks n p.new_labels d;
      new_results = subst (λ q. results_repeat u.args [] q ≡ false) e p.new_results;
      fits = omega arith;
    }

-- an instruction
lines_of-end : (l : LineText) (bs : List BlockText) → HasBlock bs → lines_of (line_at_end l bs) ≡ lines_of bs ++ l ∷ []
lines_of-end l [] h = absurd h
lines_of-end l (b ∷ []) h = append-nil (b.lines ++ l ∷ []) ∙ ap (λ q. q ++ l ∷ []) (sym (append-nil b.lines))
lines_of-end l (b ∷ c ∷ bs) h = ap (λ q. b.lines ++ q) (lines_of-end l (c ∷ bs) tt) ∙ sym (append_assoc b.lines (lines_of (c ∷ bs)) (l ∷ []))

line_count-end : (l : LineText) (bs : List BlockText) → HasBlock bs → line_count (line_at_end l bs) ≡ line_count bs + 1
line_count-end l [] h = absurd h
line_count-end l (b ∷ []) h = omega (arith, length-append b.lines (l ∷ []))
line_count-end l (b ∷ c ∷ bs) h = let e = line_count-end l (c ∷ bs) tt in omega arith

labels-end : (l : LineText) (seen bs : List BlockText) → labels_repeat seen (line_at_end l bs) ≡ labels_repeat seen bs
labels-end l seen [] = refl
labels-end l seen (b ∷ []) = refl
labels-end l seen (b ∷ c ∷ bs) = ap (λ q. label_repeats seen b.label || q) (labels-end l (seen ++ b ∷ []) (c ∷ bs))

labelled-end : (l : LineText) (bs : List BlockText) → PartLabelled bs → PartLabelled (line_at_end l bs)
labelled-end l [] p = tt
labelled-end l (b ∷ []) p = p
labelled-end l (b ∷ c ∷ []) p = (p.0, labelled-end l (c ∷ []) p.1)
labelled-end l (b ∷ c ∷ d ∷ more) p = (p.0, labelled-end l (c ∷ d ∷ more) p.1)

shape-end : (k : UnitKind) (l : LineText) (bs : List BlockText) → PartShape k bs → PartShape k (line_at_end l bs)
shape-end kind.Entity l [] p = p
shape-end kind.Entity l (b ∷ []) p = p
shape-end kind.Entity l (b ∷ c ∷ bs) p = absurd p
shape-end kind.Func l bs p = labelled-end l bs p
shape-end kind.Proc l bs p = labelled-end l bs p

shape-block : (k : UnitKind) (l : LineText) (bs : List BlockText) → may_stand (place_in k bs) (inst_item l) ≡ true → PartShape k bs → HasBlock bs
shape-block kind.Entity l [] m p = absurd p
shape-block kind.Entity l (b ∷ bs) m p = tt
shape-block kind.Func l bs m p = block_in kind.Func bs l tt m
shape-block kind.Proc l bs m p = block_in kind.Proc bs l tt m

pub results-push : (args : List ArgText) (seen xs : List LineText) (l : LineText) → results_repeat args seen xs ≡ false → result_repeats args (seen ++ xs) l.result ≡ false
    → results_repeat args seen (xs ++ l ∷ []) ≡ false
results-push args seen [] l h k = or_false (result_repeats args seen l.result) ∙ subst (λ q. result_repeats args q l.result ≡ false) (append-nil seen) k
results-push args seen (x ∷ xs) l h k =
    let p = or_parts (result_repeats args seen x.result) (results_repeat args (seen ++ x ∷ []) xs) h in
    let e : result_repeats args seen x.result ≡ false = p.0 in
    rw e (results-push args (seen ++ x ∷ []) xs l p.1 (subst (λ q. result_repeats args q l.result ≡ false) (sym (append_assoc seen (x ∷ []) xs)) k))

said_new : (u : UnitText) (r : Option (List ℕ)) → value_again r (Some u) ≡ false → result_repeats u.args (lines_of u.blocks) r ≡ false
said_new u None h = refl
said_new u (Some r) h = ap (λ q. args_define r u.args || q) (sym (blocks_define-lines r u.blocks)) ∙ h

has_room_below : (n : ℕ) → n ≤ most_lines → nat_eq n most_lines ≡ false → n + 1 ≤ most_lines
has_room_below n h e = grind (arith, common_steps)

part-inst : (u : UnitText) (l : LineText) → HasInstLine l → may_stand (place_in u.kind u.blocks) (inst_item l) ≡ true → is_full (Some u) ≡ false → value_again l.result (Some u) ≡ false → Part u
    → Part (with_line l u)
part-inst u l h m c d p =
    let b = shape-block u.kind l u.blocks m p.shaped in
    let e : lines_of u.blocks ++ l ∷ [] ≡ lines_of (line_at_end l u.blocks) = sym (lines_of-end l u.blocks b) in
    record {
      headed = p.headed;
      shaped = shape-end u.kind l u.blocks p.shaped;
      lines = subst (Each HasInstLine) e (Each-push HasInstLine (lines_of u.blocks) l p.lines h);
      no_assert = p.no_assert;
      new_args = p.new_args;
      new_labels = labels-end l [] u.blocks ∙ p.new_labels;
      new_results = subst (λ q. results_repeat u.args [] q ≡ false) e (results-push u.args [] (lines_of u.blocks) l p.new_results (said_new u l.result d));
      fits = subst (λ q. q ≤ most_lines) (sym (line_count-end l u.blocks b)) (has_room_below (line_count u.blocks) p.fits c);
    }

-- the end
labelled-close : (b : BlockText) (bs : List BlockText) → may_stand (place_after (b ∷ bs)) close_item ≡ true → PartLabelled (b ∷ bs) → Each BlockIsLabelled (b ∷ bs)
labelled-close b [] m p = ((p, has (has_lines b.lines) refl m), tt)
  where
    has : (t : Bool) → has_lines b.lines ≡ t → may_stand (if t then in_block else in_empty_block) close_item ≡ true → has_lines b.lines ≡ true
    has true e g = e
    has false e g = absurd cc
labelled-close b (c ∷ bs) m p = (p.0, labelled-close c bs m p.1)

shape-close : (k : UnitKind) (bs : List BlockText) → may_stand (place_in k bs) close_item ≡ true → PartShape k bs → HasShape k bs
shape-close kind.Entity [] m p = p
shape-close kind.Entity (b ∷ []) m p = p
shape-close kind.Entity (b ∷ c ∷ bs) m p = p
shape-close kind.Func [] m p = absurd cc
shape-close kind.Proc [] m p = absurd cc
shape-close kind.Func (b ∷ bs) m p = labelled-close b bs m p
shape-close kind.Proc (b ∷ bs) m p = labelled-close b bs m p

part-close : (u : UnitText) → may_stand (place_in u.kind u.blocks) close_item ≡ true → Part u → IsPrintable u
part-close u m p =
    record {
      headed = p.headed;
      shaped = shape-close u.kind u.blocks m p.shaped;
      written = p.lines;
      no_assert = p.no_assert;
      new_args = p.new_args;
      new_labels = p.new_labels;
      new_results = p.new_results;
      fits = p.fits;
    }

-- what holds where a unit is open
record OpenPart (items : List ItemText) : Type 0 where
  front : List ItemText
  unit : UnitText
  joined : items ≡ front ++ unit_text unit ∷ []
  each : Each IsPrintableItem front
  part : Part unit

abbrev Kept : Bool → List ItemText → Type 0
Kept false items = Each IsPrintableItem items
Kept true items = OpenPart items

has_line : (s : ReadState) (l : List ℕ) (i : LineItem) → Fine s l i → HasLine i
has_line s l i f = let a = item-again i f.said.tokens (written l f.said.tokens f.said.lexed) f.said.spelled in (a.spaced, a.spelled)

header-kept : (items : List ItemText) (l : List ℕ) (k : UnitKind) (n : UnitName) (args : List ArgText) (r : Option TypeTree) → Each IsPrintableItem items
    → Fine (read_to items) l (header_item k n args r) → OpenPart (items ++ unit_text (headed_unit k n args r) ∷ [])
header-kept items l k n args r c f =
    let a = or_parts (defines_unit n items || is_assert n) (args_repeat [] args) f.is_new in
    let b = or_parts (defines_unit n items) (is_assert n) a.0 in
    record {
      front = items;
      unit = headed_unit k n args r;
      joined = refl;
      each = c;
      part = subst Part (sym (headed-start k n args r f.said.tokens f.said.spelled)) (part-start k n args r (has_line (read_to items) l (header_item k n args r) f) b.1 a.1);
    }

closed-kept : (items : List ItemText) (l : List ℕ) (i : LineItem) → Each IsPrintableItem items → Fine (read_to items) l i → Kept (after (read_to items) i).inside (after (read_to items) i).items
closed-kept items l empty_item c f = c
closed-kept items l (header_item k n args r) c f = header-kept items l k n args r c f
closed-kept items l (declare_item d) c f = Each-push IsPrintableItem items (declare_text d) c (has_line (read_to items) l (declare_item d) f)
closed-kept items l (label_item n) c f = let e : may_stand outside (label_item n) ≡ true = f.said.stands in absurd cc
closed-kept items l (inst_item x) c f = let e : may_stand outside (inst_item x) ≡ true = f.said.stands in absurd cc
closed-kept items l close_item c f = let e : may_stand outside close_item ≡ true = f.said.stands in absurd cc

open-kept : (front : List ItemText) (u : UnitText) (l : List ℕ) (i : LineItem) → Each IsPrintableItem front → Part u → Fine (opened front u) l i
    → Kept (after (opened front u) i).inside (after (opened front u) i).items
open-kept front u l empty_item c p f = record { front = front; unit = u; joined = refl; each = c; part = p }
open-kept front u l (header_item k n args t) c p f = absurd (no_header (place_in u.kind u.blocks) k n args t (unit-in u.kind u.blocks) (alone-stands front u (header_item k n args t) f.said.stands))
open-kept front u l (declare_item d) c p f = absurd (no_declare (place_in u.kind u.blocks) d (unit-in u.kind u.blocks) (alone-stands front u (declare_item d) f.said.stands))
open-kept front u l (label_item n) c p f =
    record {
      front = front;
      unit = with_block n u;
      joined = change_last-push (with_block n) front u;
      each = c;
      part = part-label u n (has_line (opened front u) l (label_item n) f) (alone-stands front u (label_item n) f.said.stands) (subst (λ o. label_again n o ≡ false) (last_unit-push front u) f.is_new)
          p;
    }
open-kept front u l (inst_item x) c p f =
    record {
      front = front;
      unit = with_line x u;
      joined = change_last-push (with_line x) front u;
      each = c;
      part = part-inst u x (has_line (opened front u) l (inst_item x) f) (alone-stands front u (inst_item x) f.said.stands) (subst (λ o. is_full o ≡ false) (last_unit-push front u) f.has_room)
          (subst (λ o. value_again x.result o ≡ false) (last_unit-push front u) f.is_new) p;
    }
open-kept front u l close_item c p f = Each-push IsPrintableItem front (unit_text u) c (part-close u (alone-stands front u close_item f.said.stands) p)

kept-by : (inside : Bool) (items : List ItemText) (l : List ℕ) (i : LineItem) → Kept inside items → Fine (record { items = items; inside = inside }) l i
    → Kept (after (record { items = items; inside = inside }) i).inside (after (record { items = items; inside = inside }) i).items
kept-by false items l i c f = closed-kept items l i c f
kept-by true items l i o f =
    subst (λ q. Fine (record { items = q; inside = true }) l i → Kept (after (record { items = q; inside = true }) i).inside (after (record { items = q; inside = true }) i).items) (sym o.joined)
    (λ g. open-kept o.front o.unit l i o.each o.part g) f

walked-kept : (ls : List (List ℕ)) (s t : ReadState) → Walk ls s t → Kept s.inside s.items → Kept t.inside t.items
walked-kept [] s t w c = subst (λ q. Kept q.inside q.items) w c
walked-kept (l ∷ ls) s t w c =
    let k = w.1 in
    let m : Kept (after s k.item).inside (after s k.item).items = kept-by s.inside s.items l k.item c (record { said = k.said; has_room = k.has_room; is_new = k.is_new }) in
    walked-kept ls w.0 t w.2 (subst (λ q. Kept q.inside q.items) (sym k.becomes) m)

pub spelled_is_printable : SpelledIsPrintable
spelled_is_printable i h = (walked-kept (written_lines (canon (i ∷ []))) start (read_to (i ∷ [])) h tt).0
