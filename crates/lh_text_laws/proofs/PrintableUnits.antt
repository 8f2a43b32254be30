-- A unit that can be printed is spelled.
use Rattle.std.proofs.Common.{◌≡◌, ℕ, ◌+◌, ◌<◌, ◌≤◌, true, false, ◌||◌, List, [], ◌∷◌, ◌++◌, length, nat_eq, Option, Some, None, if◌then◌else◌, refl, ap, sym, ◌∙◌, subst, arith, append_assoc, length-append}
use Rattle.std.proofs.lemmas.List.{append-nil}
use Rattle.std.proofs.lemmas.Grind.{common_steps}
use Rattle.std.proofs.lemmas.Bool.{or_parts}
use Rattle.lh_types.specs.Types.{TypeTree}
use Rattle.lh_unit.specs.Contents.{ArgText, LineText, BlockText, UnitText, unit_text, declare_text, line_at_end, line_count, args_define, lines_define, blocks_define, defines_label_in}
use Rattle.lh_unit.specs.Lexemes.{Lexeme}
use Rattle.lh_unit.specs.Pieces.{render, lexemes_in}
use Rattle.lh_unit.specs.Spells.{LineItem, header_item, declare_item, label_item, inst_item, close_item, SpellsHeader}
use Rattle.lh_unit.specs.Reads.{ReadState, has_lines, in_block, in_empty_block, place_after, place_in, place_of, may_stand, headed_unit, after, too_large, args_repeat, is_assert, value_again, defines_again, most_lines, Takes, Walk, start}
use Rattle.lh_unit.specs.Within.{Each}
use Rattle.lh_unit.specs.Hierarchy.{lines_of}
use Rattle.lh_unit_names.specs.declared.name.UnitName.{UnitName}
use Rattle.lh_unit.specs.declared.inst.UnitKind.{UnitKind}
use Rattle.lh_unit.specs.declared.inst.UnitKind.TheVariants as kind
use Rattle.lh_unit.specs.declared.inst.Declare.{Declare}
use Rattle.lh_unit.proofs.Lists.{Each-left, Each-right}
use Rattle.lh_unit.proofs.RenderedPieces.{lexemes-render}
use Rattle.lh_text_laws.specs.ItemLines.{item_line}
use Rattle.lh_text_laws.specs.Laws.{PrintableIsSpelled}
use Rattle.lh_text_laws.specs.Printable.{HasLine, HasInstLine, HasLabelLine, BlockIsLabelled, result_repeats, results_repeat, label_repeats, labels_repeat, IsPrintable}
use Rattle.lh_text_laws.proofs.Apart.{opened, walk-append}
use Rattle.lh_text_laws.proofs.Readings.{read_to, walked-spelled}
use Rattle.lh_unit.proofs.Defined.{lines_define-append}

-- some lines lead from one state to another
record Way (s t : ReadState) : Type 0 where
  lines : List (List ℕ)
  walk : Walk lines s t

here : (s : ReadState) → Way s s
here s = record { lines = []; walk = refl }

on : (s m t : ReadState) → Way s m → Way m t → Way s t
on s m t a b = record { lines = a.lines ++ b.lines; walk = walk-append a.lines b.lines s m t a.walk b.walk }

-- the canonical line of an item, where it may stand and has no fault
record Passes (s : ReadState) (i : LineItem) : Type 0 where
  line : HasLine i
  stands : may_stand (place_of s) i ≡ true
  has_room : too_large s i ≡ false
  is_new : defines_again s i ≡ false

pass : (s : ReadState) (i : LineItem) → Passes s i → Way s (after s i)
pass s i p =
    let t : Takes s (render (item_line i)) (after s i) = record {
      item = i;
      said = record { tokens = lexemes_in (item_line i); lexed = lexemes-render (item_line i) p.line.0; spelled = p.line.1; stands = p.stands };
      has_room = p.has_room;
      is_new = p.is_new;
      becomes = refl;
    }
    in
    record { lines = render (item_line i) ∷ []; walk = (after s i, t, refl) }

abbrev pub unit_of : UnitKind → UnitName → List ArgText → Option TypeTree → List BlockText → UnitText
unit_of k n args r bs = record { kind = k; name = n; args = args; result = r; blocks = bs }

abbrev pub block : Option (List ℕ) → List LineText → BlockText
block label lines = record { label = label; lines = lines }

-- one more line at the end of the last block
line_at_end-last : (l : LineText) (done : List BlockText) (b : BlockText) → line_at_end l (done ++ b ∷ []) ≡ done ++ block b.label (b.lines ++ l ∷ []) ∷ []
line_at_end-last l [] b = refl
line_at_end-last l (c ∷ []) b = refl
line_at_end-last l (c ∷ d ∷ done) b = ap (λ q. c ∷ q) (line_at_end-last l (d ∷ done) b)

pub line_count-last : (done : List BlockText) (b : BlockText) → line_count (done ++ b ∷ []) ≡ line_count done + length b.lines
line_count-last [] b = omega arith
line_count-last (c ∷ done) b = let e = line_count-last done b in omega arith

pub blocks_define-lines : (n : List ℕ) (bs : List BlockText) → blocks_define n bs ≡ lines_define n (lines_of bs)
blocks_define-lines n [] = refl
blocks_define-lines n (b ∷ bs) = ap (λ q. lines_define n b.lines || q) (blocks_define-lines n bs) ∙ sym (lines_define-append n b.lines (lines_of bs))

pub lines_of-last : (done : List BlockText) (b : BlockText) → lines_of (done ++ b ∷ []) ≡ lines_of done ++ b.lines
lines_of-last [] b = append-nil b.lines
lines_of-last (c ∷ done) b = ap (λ q. c.lines ++ q) (lines_of-last done b) ∙ sym (append_assoc c.lines (lines_of done) b.lines)

-- an instruction may stand in a block, and a label or an end behind one that has instructions
inst-after : (done : List BlockText) (b : BlockText) (l : LineText) → may_stand (place_after (done ++ b ∷ [])) (inst_item l) ≡ true
inst-after [] b l = elim (has_lines b.lines) as (λ t. may_stand (if t then in_block else in_empty_block) (inst_item l) ≡ true) [ true ↦ refl | false ↦ refl ]
inst-after (c ∷ []) b l = inst-after [] b l
inst-after (c ∷ d ∷ done) b l = inst-after (d ∷ done) b l

inst-in : (k : UnitKind) (done : List BlockText) (b : BlockText) (l : LineText) → may_stand (place_in k (done ++ b ∷ [])) (inst_item l) ≡ true
inst-in kind.Entity done b l = refl
inst-in kind.Func done b l = inst-after done b l
inst-in kind.Proc done b l = inst-after done b l

block-after : (done : List BlockText) (b : BlockText) → has_lines b.lines ≡ true → place_after (done ++ b ∷ []) ≡ in_block
block-after [] b h = rw h refl
block-after (c ∷ []) b h = block-after [] b h
block-after (c ∷ d ∷ done) b h = block-after (d ∷ done) b h

new_result : (args : List ArgText) (bs : List BlockText) (u : UnitText) (r : Option (List ℕ)) → u.args ≡ args → u.blocks ≡ bs → result_repeats args (lines_of bs) r ≡ false
    → value_again r (Some u) ≡ false
new_result args bs u None a b h = refl
new_result args bs u (Some r) a b h = (λ i. args_define r (a i) || blocks_define r (b i)) ∙ ap (λ q. args_define r args || q) (blocks_define-lines r bs) ∙ h

not_full : (n : ℕ) → n < most_lines → nat_eq n most_lines ≡ false
not_full n h = grind (arith, common_steps)

pub results-split : (args : List ArgText) (seen xs ys : List LineText) → results_repeat args seen (xs ++ ys) ≡ false → (results_repeat args seen xs ≡ false)
    × (results_repeat args (seen ++ xs) ys ≡ false)
results-split args seen [] ys h = (refl, subst (λ q. results_repeat args q ys ≡ false) (sym (append-nil seen)) h)
results-split args seen (x ∷ xs) ys h =
    let p = or_parts (result_repeats args seen x.result) (results_repeat args (seen ++ x ∷ []) (xs ++ ys)) h in
    let e : result_repeats args seen x.result ≡ false = p.0 in
    let q = results-split args (seen ++ x ∷ []) xs ys p.1 in
    (rw e q.0, subst (λ z. results_repeat args z ys ≡ false) (append_assoc seen (x ∷ []) xs) q.1)

full-after : (b : BlockText) (bs : List BlockText) → Each BlockIsLabelled (b ∷ bs) → place_after (b ∷ bs) ≡ in_block
full-after b [] h = let e : has_lines b.lines ≡ true = h.0.1 in rw e refl
full-after b (c ∷ bs) h = full-after c bs h.1

-- the blocks of a unit that has only its header
abbrev pub start_blocks : UnitKind → List BlockText
start_blocks kind.Entity = block None [] ∷ []
start_blocks _ = []

pub headed-start : (k : UnitKind) (n : UnitName) (args : List ArgText) (r : Option TypeTree) (ts : List Lexeme) → SpellsHeader k n args r ts
    → headed_unit k n args r ≡ unit_of k n args r (start_blocks k)
headed-start kind.Func n args (Some r) ts h = refl
headed-start kind.Proc n args None ts h = refl
headed-start kind.Entity n args None ts h = refl
headed-start kind.Func n args None ts h = absurd h
headed-start kind.Proc n args (Some r) ts h = absurd h
headed-start kind.Entity n args (Some r) ts h = absurd h

module _ (k : UnitKind) (n : UnitName) (args : List ArgText) (r : Option TypeTree) where
  -- the unit with these blocks, alone and still open
  abbrev with_blocks : List BlockText → ReadState
  with_blocks bs = opened [] (unit_of k n args r bs)

  inst-way : (done : List BlockText) (b : BlockText) (l : LineText) → HasInstLine l → line_count done + length b.lines < most_lines → result_repeats args (lines_of done ++ b.lines) l.result ≡ false
      → Way (with_blocks (done ++ b ∷ [])) (with_blocks (done ++ block b.label (b.lines ++ l ∷ []) ∷ []))
  inst-way done b l h c v =
      let bs = done ++ b ∷ [] in
      let m : line_count bs < most_lines = subst (λ q. q < most_lines) (sym (line_count-last done b)) c in
      let w : result_repeats args (lines_of bs) l.result ≡ false = subst (λ q. result_repeats args q l.result ≡ false) (sym (lines_of-last done b)) v in
      let p : Passes (with_blocks bs) (inst_item l) = record
      { line = h; stands = inst-in k done b l; has_room = not_full (line_count bs) m; is_new = new_result args bs (unit_of k n args r bs) l.result refl refl w } in
      subst (λ q. Way (with_blocks bs) (with_blocks q)) (line_at_end-last l done b) (pass (with_blocks bs) (inst_item l) p)

  insts-way : (done : List BlockText) (label : Option (List ℕ)) (seen rest : List LineText) → Each HasInstLine rest → line_count done + (length seen + length rest) ≤ most_lines
      → results_repeat args (lines_of done ++ seen) rest ≡ false
      → Way (with_blocks (done ++ block label seen ∷ [])) (with_blocks (done ++ block label (seen ++ rest) ∷ []))
  insts-way done label seen [] h c v = subst (λ q. Way (with_blocks (done ++ block label seen ∷ [])) (with_blocks (done ++ block label q ∷ []))) (sym (append-nil seen))
      (here (with_blocks (done ++ block label seen ∷ [])))
  insts-way done label seen (l ∷ rest) h c v =
      let w = or_parts (result_repeats args (lines_of done ++ seen) l.result) (results_repeat args ((lines_of done ++ seen) ++ l ∷ []) rest) v in
      let m : results_repeat args (lines_of done ++ (seen ++ l ∷ [])) rest ≡ false = subst (λ q. results_repeat args q rest ≡ false) (append_assoc (lines_of done) seen (l ∷ [])) w.1 in
      let a = inst-way done (block label seen) l h.0 (omega arith) w.0 in
      let b = insts-way done label (seen ++ l ∷ []) rest h.1 (omega (arith, length-append seen (l ∷ []))) m in
      subst (λ q. Way (with_blocks (done ++ block label seen ∷ [])) (with_blocks (done ++ block label q ∷ []))) (append_assoc seen (l ∷ []) rest)
      (on (with_blocks (done ++ block label seen ∷ [])) (with_blocks (done ++ block label (seen ++ l ∷ []) ∷ [])) (with_blocks (done ++ block label ((seen ++ l ∷ []) ++ rest) ∷ [])) a b)

  label-way : (done : List BlockText) (l : List ℕ) → HasLine (label_item l) → may_stand (place_in k done) (label_item l) ≡ true → defines_label_in l done ≡ false
      → Way (with_blocks done) (with_blocks (done ++ block (Some l) [] ∷ []))
  label-way done l h m d = pass (with_blocks done) (label_item l) (record { line = h; stands = m; has_room = refl; is_new = d })

  block-way : (done : List BlockText) (label : Option (List ℕ)) (lines : List LineText) → HasLabelLine label → Each HasInstLine lines
      → ((l : List ℕ) → may_stand (place_in k done) (label_item l) ≡ true)
      → line_count done + length lines ≤ most_lines → label_repeats done label ≡ false → results_repeat args (lines_of done) lines ≡ false
      → Way (with_blocks done) (with_blocks (done ++ block label lines ∷ []))
  block-way done None lines h w m c d v = absurd h
  block-way done (Some l) lines h w m c d v =
      on (with_blocks done) (with_blocks (done ++ block (Some l) [] ∷ [])) (with_blocks (done ++ block (Some l) lines ∷ []))
      (label-way done l h (m l) d) (insts-way done (Some l) [] lines w (omega arith) (subst (λ q. results_repeat args q lines ≡ false) (sym (append-nil (lines_of done))) v))

  blocks-way : ((bs : List BlockText) → place_in k bs ≡ place_after bs) → (done rest : List BlockText) → Each BlockIsLabelled rest → Each HasInstLine (lines_of rest)
      → ((l : List ℕ) → may_stand (place_in k done) (label_item l) ≡ true)
      → line_count done + line_count rest ≤ most_lines → labels_repeat done rest ≡ false → results_repeat args (lines_of done) (lines_of rest) ≡ false
      → Way (with_blocks done) (with_blocks (done ++ rest))
  blocks-way f done [] h w m c d v = subst (λ q. Way (with_blocks done) (with_blocks q)) (sym (append-nil done)) (here (with_blocks done))
  blocks-way f done (b ∷ rest) h w m c d v =
      let ds = or_parts (label_repeats done b.label) (labels_repeat (done ++ b ∷ []) rest) d in
      let vs = results-split args (lines_of done) b.lines (lines_of rest) v in
      let e : line_count (done ++ b ∷ []) ≡ line_count done + length b.lines = line_count-last done b in
      let x = block-way done b.label b.lines h.0.0 (Each-left HasInstLine b.lines (lines_of rest) w) m (omega arith) ds.0 vs.0 in
      let y = blocks-way f (done ++ b ∷ []) rest h.1 (Each-right HasInstLine b.lines (lines_of rest) w) (λ l. subst (λ q. may_stand q (label_item l) ≡ true) (sym (f (done ++ b ∷ []) ∙ block-after done b h.0.1)) refl) (omega arith) ds.1
      (subst (λ q. results_repeat args q (lines_of rest) ≡ false) (sym (lines_of-last done b)) vs.1)
      in
      subst (λ q. Way (with_blocks done) (with_blocks q)) (append_assoc done (b ∷ []) rest) (on (with_blocks done) (with_blocks (done ++ b ∷ [])) (with_blocks ((done ++ b ∷ []) ++ rest)) x y)

  close-way : (bs : List BlockText) → may_stand (place_in k bs) close_item ≡ true → Way (with_blocks bs) (read_to (unit_text (unit_of k n args r bs) ∷ []))
  close-way bs m = pass (with_blocks bs) close_item (record { line = ((refl, refl, tt), refl); stands = m; has_room = refl; is_new = refl })

  header-way : HasLine (header_item k n args r) → is_assert n ≡ false → args_repeat [] args ≡ false → Way start (with_blocks (start_blocks k))
  header-way h a b =
      subst (λ q. Way start (opened [] q)) (headed-start k n args r (lexemes_in (item_line (header_item k n args r))) h.1)
      (pass start (header_item k n args r) (record { line = h; stands = refl; has_room = refl; is_new = rw (a, b) refl }))

entity-way : (n : UnitName) (args : List ArgText) (r : Option TypeTree) (bs : List BlockText) → IsPrintable (unit_of kind.Entity n args r bs)
    → Way (with_blocks kind.Entity n args r (start_blocks kind.Entity)) (with_blocks kind.Entity n args r bs)
entity-way n args r [] p = absurd p.shaped
entity-way n args r (b ∷ []) p =
    let c : line_count (b ∷ []) ≤ most_lines = p.fits in
    let w : Each HasInstLine b.lines = Each-left HasInstLine b.lines [] p.written in
    let v : results_repeat args [] b.lines ≡ false = subst (λ q. results_repeat args [] q ≡ false) (append-nil b.lines) p.new_results in
    subst (λ q. Way (with_blocks kind.Entity n args r (start_blocks kind.Entity)) (with_blocks kind.Entity n args r (block q b.lines ∷ []))) (sym p.shaped)
    (insts-way kind.Entity n args r [] None [] b.lines w (omega arith) v)
entity-way n args r (b ∷ c ∷ bs) p = absurd p.shaped

labelled-way : (k : UnitKind) (n : UnitName) (args : List ArgText) (r : Option TypeTree) (bs : List BlockText) → ((cs : List BlockText) → place_in k cs ≡ place_after cs) → Each BlockIsLabelled bs
    → IsPrintable (unit_of k n args r bs) → Way (with_blocks k n args r []) (with_blocks k n args r bs)
labelled-way k n args r bs f h p =
    let c : line_count bs ≤ most_lines = p.fits in
    blocks-way k n args r f [] bs h p.written (λ l. subst (λ q. may_stand q (label_item l) ≡ true) (sym (f [])) refl) (omega arith) p.new_labels p.new_results

-- the blocks of a unit, and that it may end behind them
record Built (k : UnitKind) (n : UnitName) (args : List ArgText) (r : Option TypeTree) (bs : List BlockText) : Type 0 where
  way : Way (with_blocks k n args r (start_blocks k)) (with_blocks k n args r bs)
  ends : may_stand (place_in k bs) close_item ≡ true

built : (k : UnitKind) (n : UnitName) (args : List ArgText) (r : Option TypeTree) (bs : List BlockText) → IsPrintable (unit_of k n args r bs) → Built k n args r bs
built kind.Entity n args r bs p = record { way = entity-way n args r bs p; ends = refl }
built kind.Func n args r [] p = absurd p.shaped
built kind.Proc n args r [] p = absurd p.shaped
built kind.Func n args r (b ∷ bs) p = record { way = labelled-way kind.Func n args r (b ∷ bs) (λ cs. refl) p.shaped p; ends = rw (full-after b bs p.shaped) refl }
built kind.Proc n args r (b ∷ bs) p = record { way = labelled-way kind.Proc n args r (b ∷ bs) (λ cs. refl) p.shaped p; ends = rw (full-after b bs p.shaped) refl }

printable-way : (k : UnitKind) (n : UnitName) (args : List ArgText) (r : Option TypeTree) (bs : List BlockText) → IsPrintable (unit_of k n args r bs)
    → Way start (read_to (unit_text (unit_of k n args r bs) ∷ []))
printable-way k n args r bs p =
    let b = built k n args r bs p in
    on start (with_blocks k n args r (start_blocks k)) (read_to (unit_text (unit_of k n args r bs) ∷ [])) (header-way k n args r p.headed p.no_assert p.new_args)
    (on (with_blocks k n args r (start_blocks k)) (with_blocks k n args r bs) (read_to (unit_text (unit_of k n args r bs) ∷ [])) b.way (close-way k n args r bs b.ends))

declare-way : (d : Declare) → HasLine (declare_item d) → Way start (read_to (declare_text d ∷ []))
declare-way d h = pass start (declare_item d) (record { line = h; stands = refl; has_room = refl; is_new = refl })

pub printable_is_spelled : PrintableIsSpelled
printable_is_spelled (unit_text u) p = let w = printable-way u.kind u.name u.args u.result u.blocks p in walked-spelled w.lines (unit_text u ∷ []) w.walk
printable_is_spelled (declare_text d) h = let w = declare-way d h in walked-spelled w.lines (declare_text d ∷ []) w.walk
