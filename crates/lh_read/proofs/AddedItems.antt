-- One more instruction or block in the open unit, and its end.
use Rattle.std.proofs.Common.{◌≡◌, ℕ, ◌<◌, true, false, List, length, Option, Some, None, Result, Ok, Err, IsErrAnd, nat_eq, refl, ap, sym, ◌∙◌, subst, arith}
use Rattle.std.proofs.lemmas.Grind.{common_steps}
use Rattle.lh_unit.specs.Contents.{UnitText, LineText, InstText, last_unit, change_last, with_block, with_line, line_count, defines_label}
use Rattle.lh_unit.specs.Naming.{maybe_text}
use Rattle.lh_unit.specs.Arena.{Arena, Grows, OfOpen, contents, naming, label_name_at, unit_text_at}
use Rattle.lh_unit.specs.Builders.{defines_result, line_text_at, HasRoom, HasContents, AddsLine, AddsBlock}
use Rattle.lh_unit.specs.Spells.{label_item, inst_item, close_item}
use Rattle.lh_unit.specs.Reads.{ReadState, place_of, may_stand, is_full, value_again, label_again, BadKind, syntax}
use Rattle.lh_unit.specs.declared.inst.UnitId.{UnitId}
use Rattle.lh_unit.specs.declared.inst.BlockId.{BlockId}
use Rattle.lh_unit.specs.declared.inst.ValueId.{ValueId}
use Rattle.lh_unit.specs.declared.inst.Inst.{Inst}
use Rattle.lh_unit.specs.declared.inst.UnitFault.{UnitFault}
use Rattle.lh_unit.specs.declared.inst.UnitFault.TheVariants as fault
use Rattle.lh_unit.proofs.ContentsLemmas.{open-text}
use Rattle.lh_unit.proofs.ModuleLaws.{Grows-trans, OfOpen-is, maybe_text-keeps}
use Rattle.lh_read.specs.declared.faults.LineFault.{LineFault}
use Rattle.lh_read.specs.declared.places.LinePlace.{LinePlace}
use Rattle.lh_read.specs.declared.places.LinePlace.TheVariants.{Outside, InEmptyBlock}
use Rattle.lh_read.specs.declared.reader.Reader.{Reader}
use Rattle.lh_read.specs.FaultOf.{fault_of}
use Rattle.lh_read.specs.Places.{block_unit, label_unit, may_close, behind_inst}
use Rattle.lh_read.specs.Mentions.{one_label, maybe_value, inst_mentions, line_mentions, EachNamed, EntersOnly}
use Rattle.lh_read.specs.Placing.{MaybePlaced, LabelPlaced, InstPlacedAs}
use Rattle.lh_read.specs.InOrder.{state_at, state_of, InPlace, ReaderIsInOrder}
use Rattle.lh_read.specs.Steps.{step}
use Rattle.lh_read.specs.Building.{Steps}
use Rattle.lh_read.proofs.EntryLaws.{enters-both}
use Rattle.lh_read.proofs.NamedEntries.{named-changed, with_block-extends, with_line-extends, with_block-names, with_line-names}
use Rattle.lh_read.proofs.LastUnit.{last_unit-is}
use Rattle.lh_read.proofs.StepAnswers.{step-ok, step-misplaced, step-large, step-again}
use Rattle.lh_read.proofs.PlaceLaws.{place-is, place-grows, state-grows, inst-asks, label-asks, inst-stands, inst-misplaced, inside-line, behind-line, label-stands, label-misplaced, behind-block, close-stands}

again-result : (r : Option (List ℕ)) (t : UnitText) → value_again r (Some t) ≡ defines_result r t
again-result None t = refl
again-result (Some n) t = refl

not_full : (n : ℕ) → n < 65536 → nat_eq n 65536 ≡ false
not_full n h = grind (arith, common_steps)

full : (n : ℕ) → n ≡ 65536 → nat_eq n 65536 ≡ true
full n h = grind (arith, common_steps)

-- an instruction in this place, of the unit u
module _ (a : Arena) (p : LinePlace) (u : UnitId) (l : LineText) (w : InPlace a p) (e : block_unit p ≡ Some u) where
  stands : may_stand (place_of (state_at a p)) (inst_item l) ≡ true
  stands = ap (λ q. may_stand q (inst_item l)) (place-is a p w) ∙ inst-stands p l u e

  room : (t : UnitText) → last_unit (contents a) ≡ Some t → line_count t.blocks < 65536 → is_full (last_unit (contents a)) ≡ false
  room t f h = ap is_full f ∙ not_full (line_count t.blocks) h

  line-taken : (b : Arena) → OfOpen a (HasRoom l) → HasContents a b u (change_last (with_line l) (contents a)) → step (state_at a p) (inst_item l) ≡ Ok (state_at b (behind_inst p))
  line-taken b h s =
      let t = last_unit-is (last_unit (contents a)) h in
      step-ok (state_at a p) (inst_item l) stands (room t.0 t.1 t.2.small) (ap (value_again l.result) t.1 ∙ again-result l.result t.0 ∙ t.2.undefined)
      ∙ (λ i. Ok (record { items = sym s.says i; inside = sym (inside-line p u e) i }))

  line-refused : (f : UnitFault) (b : Arena) (s : ReadState) → AddsLine (Err f) a b u l → Steps (Err (fault_of f)) (step (state_at a p) (inst_item l)) s
  line-refused fault.UnitTooLarge b s h =
      let t = last_unit-is (last_unit (contents a)) h.0 in
      step-large (state_at a p) (inst_item l) stands (ap is_full t.1 ∙ full (line_count t.0.blocks) t.2)
  line-refused fault.DuplicateName b s h =
      let t = last_unit-is (last_unit (contents a)) h.0 in
      step-again (state_at a p) (inst_item l) stands (room t.0 t.1 t.2.small) (ap (value_again l.result) t.1 ∙ again-result l.result t.0 ∙ t.2.twice)
  line-refused fault.OutOfMemory b s h = tt

-- what the module is asked to add to the open unit of a reader
pub record LineRequest (r : Reader) (u : UnitId) (now : Arena) (l said : LineText) : Type 0 where
  pub placed : InPlace now r.place
  pub unit : block_unit r.place ≡ Some u
  pub grows : Grows r.resolver.module now
  pub line : l ≡ said
  pub only : EntersOnly (line_mentions l) r.resolver.module now u.0

pub line-asked : (r : Reader) (u : UnitId) (mid now : Arena) (v : Option ValueId) (i : Inst) (name : Option (List ℕ)) (said : InstText) → ReaderIsInOrder r → block_unit r.place ≡ Some u
    → MaybePlaced r.resolver.module mid u v name → InstPlacedAs mid now u i said → LineRequest r u now (line_text_at now u.0 v i) (record { result = name; inst = said })
line-asked r u mid now v i name said o e p q =
    let g = Grows-trans r.resolver.module mid now p.grows q.grows in
    let n : maybe_text (naming now u.0) v ≡ name = maybe_text-keeps mid now u.0 q.grows.entries v p.within ∙ p.says in
    let s : line_text_at now u.0 v i ≡ (record { result = name; inst = said }) = λ j. record { result = n j; inst = q.says j } in
    record {
      placed = place-grows r.resolver.module now r.place g o.place;
      unit = e;
      grows = g;
      line = s;
      only = subst (λ l. EntersOnly (line_mentions l) r.resolver.module now u.0) (sym s) (enters-both (maybe_value name) (inst_mentions said) r.resolver.module mid now u.0 p.only q.only q.grows.entries);
    }

asked : (r : Reader) (u : UnitId) (now : Arena) (l said : LineText) → LineRequest r u now l said → step (state_of r) (inst_item said) ≡ step (state_at now r.place) (inst_item l)
asked r u now l said a = ap (λ s. step s (inst_item said)) (state-grows r.resolver.module now r.place a.grows) ∙ ap (λ x. step (state_at now r.place) (inst_item x)) (sym a.line)

pub inst-taken : (r : Reader) (u : UnitId) (now new : Arena) (l said : LineText) → LineRequest r u now l said → OfOpen now (HasRoom l)
    → HasContents now new u (change_last (with_line l) (contents now))
    → step (state_of r) (inst_item said) ≡ Ok (state_at new (behind_inst r.place))
inst-taken r u now new l said a h s = asked r u now l said a ∙ line-taken now r.place u l a.placed a.unit new h s

pub inst-placed : (r : Reader) (u : UnitId) (now new : Arena) (l said : LineText) → LineRequest r u now l said → HasContents now new u (change_last (with_line l) (contents now))
    → InPlace new (behind_inst r.place)
inst-placed r u now new l said a s = behind-line now new r.place u l a.placed a.unit s

-- the line names what was entered for it
pub inst-named : (r : Reader) (u : UnitId) (now new : Arena) (l said : LineText) → ReaderIsInOrder r → LineRequest r u now l said → HasContents now new u (change_last (with_line l) (contents now))
    → EachNamed new
inst-named r u now new l said o a s =
    let c = inst-asks now r.place u a.placed a.unit in
    let b : 0 < length (unit_text_at now u.0).blocks = OfOpen-is now (λ t. 0 < length t.blocks) (unit_text_at now u.0) (open-text now u c.opened) c.text in
    named-changed r.resolver.module now new u (line_mentions l) (with_line l) (with_line-extends l) o.named a.grows a.only c.opened s (λ m h. with_line-names l (unit_text_at now u.0) m b h)

-- a fault that is passed on
pub steps-err : (o : Result (Unit {0}) LineFault) (f : LineFault) (x : Result ReadState BadKind) (s : ReadState) → IsErrAnd o (λ e. e ≡ f) → Steps (Err f) x s → Steps o x s
steps-err (Ok _) f x s h w = absurd h
steps-err (Err e) f x s h w = subst (λ y. Steps (Err y) x s) (sym h) w

pub inst-refused : (o : Result (Unit {0}) LineFault) (r : Reader) (u : UnitId) (now new : Arena) (l said : LineText) (f : UnitFault) (s : ReadState) → LineRequest r u now l said
    → AddsLine (Err f) now new u l → IsErrAnd o (λ e. e ≡ fault_of f)
    → Steps o (step (state_of r) (inst_item said)) s
inst-refused o r u now new l said f s a h w =
    steps-err o (fault_of f) (step (state_of r) (inst_item said)) s w
    (subst (λ x. Steps (Err (fault_of f)) x s) (sym (asked r u now l said a)) (line-refused now r.place u l a.placed a.unit f new s h))

pub inst-outside : (r : Reader) (l : LineText) → ReaderIsInOrder r → block_unit r.place ≡ None → step (state_of r) (inst_item l) ≡ Err syntax
inst-outside r l o e = step-misplaced (state_of r) (inst_item l) (ap (λ q. may_stand q (inst_item l)) (place-is r.resolver.module r.place o.place) ∙ inst-misplaced r.place l e)

-- a label in this place, of the unit u
module _ (a : Arena) (p : LinePlace) (u : UnitId) (n : List ℕ) (w : InPlace a p) (e : label_unit p ≡ Some u) where
  label_stands : may_stand (place_of (state_at a p)) (label_item n) ≡ true
  label_stands = ap (λ q. may_stand q (label_item n)) (place-is a p w) ∙ label-stands p n u e

  block-taken : (b : Arena) → OfOpen a (λ t. defines_label n t ≡ false) → HasContents a b u (change_last (with_block n) (contents a))
      → step (state_at a p) (label_item n) ≡ Ok (state_at b (InEmptyBlock u))
  block-taken b h s =
      let t = last_unit-is (last_unit (contents a)) h in
      step-ok (state_at a p) (label_item n) label_stands refl (ap (label_again n) t.1 ∙ t.2) ∙ (λ i. Ok (record { items = sym s.says i; inside = true }))

  block-refused : (f : UnitFault) (b : Arena) (s : ReadState) → AddsBlock (Err f) a b u n → Steps (Err (fault_of f)) (step (state_at a p) (label_item n)) s
  block-refused fault.UnitTooLarge b s h = absurd h
  block-refused fault.DuplicateName b s h =
      let t = last_unit-is (last_unit (contents a)) h.0 in
      step-again (state_at a p) (label_item n) label_stands refl (ap (label_again n) t.1 ∙ t.2)
  block-refused fault.OutOfMemory b s h = tt

-- a label that was given an id
label-same : (r : Reader) (u : UnitId) (now : Arena) (b : BlockId) (n : List ℕ) → LabelPlaced r.resolver.module now u b n
    → step (state_of r) (label_item n) ≡ step (state_at now r.place) (label_item (label_name_at now u.0 b.0))
label-same r u now b n q = ap (λ s. step s (label_item n)) (state-grows r.resolver.module now r.place q.grows) ∙ ap (λ x. step (state_at now r.place) (label_item x)) (sym q.says)

pub label-taken : (r : Reader) (u : UnitId) (now new : Arena) (b : BlockId) (n : List ℕ) → ReaderIsInOrder r → label_unit r.place ≡ Some u → LabelPlaced r.resolver.module now u b n
    → AddsBlock (Ok tt) now new u (label_name_at now u.0 b.0)
    → step (state_of r) (label_item n) ≡ Ok (state_at new (InEmptyBlock u))
label-taken r u now new b n o e q h = label-same r u now b n q ∙ block-taken now r.place u (label_name_at now u.0 b.0) (place-grows r.resolver.module now r.place q.grows o.place) e new h.0 h.1

pub label-placed : (r : Reader) (u : UnitId) (now new : Arena) (b : BlockId) (n : List ℕ) → ReaderIsInOrder r → label_unit r.place ≡ Some u → LabelPlaced r.resolver.module now u b n
    → AddsBlock (Ok tt) now new u (label_name_at now u.0 b.0)
    → InPlace new (InEmptyBlock u)
label-placed r u now new b n o e q h = behind-block now new r.place u (label_name_at now u.0 b.0) (place-grows r.resolver.module now r.place q.grows o.place) e h.1

pub label-refused : (x : Result (Unit {0}) LineFault) (r : Reader) (u : UnitId) (now new : Arena) (b : BlockId) (n : List ℕ) (f : UnitFault) (s : ReadState) → ReaderIsInOrder r → label_unit r.place ≡ Some u
    → LabelPlaced r.resolver.module now u b n
    → AddsBlock (Err f) now new u (label_name_at now u.0 b.0) → IsErrAnd x (λ y. y ≡ fault_of f) → Steps x (step (state_of r) (label_item n)) s
label-refused x r u now new b n f s o e q h w =
    steps-err x (fault_of f) (step (state_of r) (label_item n)) s w
    (subst (λ y. Steps (Err (fault_of f)) y s) (sym (label-same r u now b n q)) (block-refused now r.place u (label_name_at now u.0 b.0) (place-grows r.resolver.module now r.place q.grows o.place) e f new s h))

pub label-outside : (r : Reader) (n : List ℕ) → ReaderIsInOrder r → label_unit r.place ≡ None → step (state_of r) (label_item n) ≡ Err syntax
label-outside r n o e = step-misplaced (state_of r) (label_item n) (ap (λ q. may_stand q (label_item n)) (place-is r.resolver.module r.place o.place) ∙ label-misplaced r.place n e)

-- the label names what was entered for it
pub label-named : (r : Reader) (u : UnitId) (now new : Arena) (b : BlockId) (n : List ℕ) → ReaderIsInOrder r → label_unit r.place ≡ Some u → LabelPlaced r.resolver.module now u b n
    → AddsBlock (Ok tt) now new u (label_name_at now u.0 b.0)
    → EachNamed new
label-named r u now new b n o e q h =
    let w = place-grows r.resolver.module now r.place q.grows o.place in
    let only = subst (λ x. EntersOnly (one_label x) r.resolver.module now u.0) (sym q.says) q.only in
    named-changed r.resolver.module now new u (one_label (label_name_at now u.0 b.0)) (with_block (label_name_at now u.0 b.0)) (with_block-extends (label_name_at now u.0 b.0)) o.named q.grows only
    (label-asks now r.place u w e).opened h.1 (λ m c. with_block-names (label_name_at now u.0 b.0) (unit_text_at now u.0) m c)

-- the end of a unit
pub close-misplaced : (r : Reader) → ReaderIsInOrder r → may_close r.place ≡ false → step (state_of r) close_item ≡ Err syntax
close-misplaced r o e = step-misplaced (state_of r) close_item (ap (λ q. may_stand q close_item) (place-is r.resolver.module r.place o.place) ∙ close-stands r.place ∙ e)

pub close-taken : (r : Reader) → ReaderIsInOrder r → may_close r.place ≡ true → step (state_of r) close_item ≡ Ok (state_at r.resolver.module Outside)
close-taken r o e = step-ok (state_of r) close_item (ap (λ q. may_stand q close_item) (place-is r.resolver.module r.place o.place) ∙ close-stands r.place ∙ e) refl refl
