-- An item more of a module that is lowered.
use Rattle.std.proofs.Common.{◌≡◌, ◌<◌, ℕ, List, [], ◌∷◌, ◌++◌, length, map, take, drop, zero, suc, get_or, add-one, ◌+◌, Option, Some, None, IsSome, Result, Ok, Err, IfOk, OnOk, refl, ap, sym, ◌∙◌, subst, arith}
use Rattle.std.specs.List.{flat_map}
use Rattle.std.proofs.lemmas.List.{append-nil}
use Rattle.std.proofs.Math.Seq.{take-suc}
use Rattle.lh_types.specs.declared.memory.NoMemory.{NoMemory}
use Rattle.lh_unit.specs.declared.inst.UnitId.{UnitId}
use Rattle.lh_unit.specs.declared.inst.Declare.{Declare}
use Rattle.lh_unit.specs.declared.inst.Item.{Item}
use Rattle.lh_unit.specs.declared.inst.Item.TheVariants as item
use Rattle.lh_unit.specs.declared.inst.UnitKind.{UnitKind}
use Rattle.lh_unit.specs.declared.inst.UnitKind.TheVariants as unit_kind
use Rattle.lh_unit.specs.Contents.{ItemText, LineText, UnitText, unit_text, declare_text}
use Rattle.lh_unit.specs.Naming.{kind_text}
use Rattle.lh_unit.specs.Arena.{Arena, IsArena, contents, item_text_at, unit_text_at, unit_count, unit_name_at, kind_at}
use Rattle.lh_unit.specs.Within.{Each}
use Rattle.lh_emit_def.specs.Entities.{entity_with}
use Rattle.lh_emit_body.specs.Bodies.{IsBody}
use Rattle.lh_emit_body.specs.declared.body.Body.{Body}
use Rattle.lh_lower_copy.specs.Copying.{IsCopying, CanAdd, CopiesMore, CopiesUnit}
use Rattle.lh_lower_copy.specs.Putting.{CanPut}
use Rattle.lh_lower_def.specs.declared.report.Kind.{Kind}
use Rattle.lh_lower_def.specs.declared.report.Verdict.{Verdict}
use Rattle.lh_lower_def.specs.declared.report.Verdict.TheVariants as verdict
use Rattle.lh_lower_def.specs.Lowering as text
use Rattle.lh_lower_def.specs.Lowering.{lowered_item, item_row, outcome_in, report}
use Rattle.lh_lower_def.specs.Report.{RowText, row_text}
use Rattle.lh_lower_def.specs.declared.report.ReportRow.{ReportRow}
use Rattle.lh_shape.specs.declared.reason.Reason.{Reason}
use Rattle.lh_lower.specs.Outcomes.{IsOutcomeAt}
use Rattle.lh_lower.specs.Lowers.{IsLowering, ItemIsBehind, IsNextItem, LowersItem}
use Rattle.lh_lower.specs.declared.outcome.ProcessOutcome.{ProcessOutcome}
use Rattle.lh_lower.specs.declared.outcome.ProcessOutcome.TheVariants as outcome
use Rattle.lh_lower.specs.declared.lowering.Lowering.{Lowering}
use Rattle.lh_lower.proofs.Lowerings.{within, begun, fresh, lowered-more, rows-more, as-kept, as-process, rows-push, within-push}
use Rattle.lh_term.proofs.Swaps.{take_whole}

-- the items so far, lowered, and their rows
abbrev items-of : Arena → List Item → List ItemText
items-of a seen = map (lowered_item (contents a)) (map (item_text_at a) seen)

abbrev rows-of : Arena → List Item → List RowText
rows-of a seen = flat_map (item_row (contents a)) (map (item_text_at a) seen)

-- the same report
same-rows : (a : Arena) (seen : List Item) (rows : List ReportRow) (more : List RowText) → map (row_text a) rows ≡ rows-of a seen → more ≡ [] → map (row_text a) rows ≡ rows-of a seen ++ more
same-rows a seen rows more e f = e ∙ sym (append-nil (rows-of a seen)) ∙ ap (λ (xs : List RowText). rows-of a seen ++ xs) (sym f)

-- what is known of the lowering with one item more
record OneMore (a : Arena) (seen : List Item) (i : Item) (m : Lowering) : Type 0 where
  sound : IsArena a
  from : m.from.now ≡ a
  flattens : m.flattener.m.now ≡ a
  copied : m.copying.from.now ≡ a
  copies : IsCopying a m.copying.to (items-of a seen ++ lowered_item (contents a) (item_text_at a i) ∷ [])
  report : map (row_text a) m.report ≡ rows-of a seen ++ item_row (contents a) (item_text_at a i)
  within : Each (λ (r : ReportRow). r.unit.0 < unit_count a) m.report

one-more : (a : Arena) (seen : List Item) (i : Item) (m : Lowering) → OneMore a seen i m → IsLowering a m (seen ++ i ∷ [])
one-more a seen i m k = record {
  sound = k.sound;
  from = k.from;
  flattens = k.flattens;
  copied = k.copied;
  copies = subst (IsCopying a m.copying.to) (sym (lowered-more a seen i)) k.copies;
  report = k.report ∙ sym (rows-more a seen i);
  within = k.within;
}

-- ---- a declaration

pub declare-lowers : (r : Result (Unit {0}) NoMemory) (l m : Lowering) (d e : Declare) → e ≡ d → m.from.now ≡ l.from.now → m.flattener.m.now ≡ l.flattener.m.now
    → m.copying.from.now ≡ l.copying.from.now → m.report ≡ l.report
    → IfOk r (λ _. CopiesMore l.copying.from.now l.copying.to m.copying.to (declare_text e)) → OnOk r (LowersItem l (item.Declare d) m)
declare-lowers (Err x) l m d e same from fl co rows h = tt
declare-lowers (Ok x) l m d e same from fl co rows h = λ seen w b.
    let a = l.from.now in
    one-more a seen (item.Declare d) m record {
      sound = w.sound;
      from = from;
      flattens = fl ∙ w.flattens;
      copied = co ∙ w.copied;
      copies = subst (λ (z : Declare). IsCopying a m.copying.to (items-of a seen ++ declare_text z ∷ [])) same
          (subst (λ (z : Arena). CopiesMore z l.copying.to m.copying.to (declare_text e)) w.copied h (items-of a seen) w.copies);
      report = ap (map (row_text a)) rows ∙ same-rows a seen l.report [] w.report refl;
      within = subst (Each (λ (z : ReportRow). z.unit.0 < unit_count a)) (sym rows) w.within;
    }

-- ---- a unit

module _ (l : Lowering) (u : UnitId) (n : IsNextItem l (item.Unit u)) where
  o : IsArena l.from.now
  o = n.lowering.sound

  abbrev a : Arena
  a = l.from.now

  pub unit-within : u.0 < unit_count a
  unit-within = within a o u n.seen n.behind

  pub unit-begun : IsSome (kind_at a u.0)
  unit-begun = begun a o u n.seen n.behind

  pub flattens-same : l.flattener.m.now ≡ a
  flattens-same = n.lowering.flattens

  pub copies-same : l.copying.from.now ≡ a
  copies-same = n.lowering.copied

  pub can-add : CanAdd l.copying.from.now l.copying.to u.0
  can-add = subst (λ (z : Arena). CanAdd z l.copying.to u.0) (sym copies-same) record { items = items-of a n.seen; copying = n.lowering.copies; undefined = fresh a o u n.seen n.behind }

  pub begun-there : IsSome (kind_at l.copying.from.now u.0)
  begun-there = subst (λ (z : Arena). IsSome (kind_at z u.0)) (sym copies-same) unit-begun

-- the kind of a unit that is there
kind-is : (k : Option UnitKind) (x : UnitKind) → k ≡ Some x → kind_text k ≡ x
kind-is k x e = ap kind_text e

-- what has a kind that is no process is none
no-process : (k : Option UnitKind) → IsSome k → (k ≡ Some unit_kind.Proc → ⊥) → kind_text k ≡ unit_kind.Proc → ⊥
no-process None s n e = absurd cc
no-process (Some x) s n e = n (ap Some e)

module _ (l m : Lowering) (u : UnitId) (o : IsArena l.from.now) where
  abbrev b : Arena
  b = l.from.now

  abbrev t : UnitText
  t = unit_text_at b u.0

  copied-more : (x : UnitText) (seen : List Item) → IsLowering b l seen → ItemIsBehind b seen (item.Unit u) → CopiesUnit l.copying.from.now l.copying.to m.copying.to u.0 x
      → lowered_item (contents b) (unit_text t) ≡ unit_text x
      → IsCopying b m.copying.to (items-of b seen ++ lowered_item (contents b) (unit_text t) ∷ [])
  copied-more x seen w h c e =
      subst (λ (z : ItemText). IsCopying b m.copying.to (items-of b seen ++ z ∷ [])) (sym e)
      (subst (λ (z : Arena). CopiesUnit z l.copying.to m.copying.to u.0 x) w.copied c (items-of b seen) w.copies (fresh b o u seen h))

  -- a unit that is no process stays
  pub kept-lowers : (r : Result (Unit {0}) NoMemory) → m.from.now ≡ b → m.flattener.m.now ≡ l.flattener.m.now → m.copying.from.now ≡ l.copying.from.now → m.report ≡ l.report → IsSome (kind_at b u.0)
      → (kind_at b u.0 ≡ Some unit_kind.Proc → ⊥)
      → IfOk r (λ _. CopiesUnit l.copying.from.now l.copying.to m.copying.to u.0 (unit_text_at l.copying.from.now u.0)) → l.copying.from.now ≡ b → OnOk r (LowersItem l (item.Unit u) m)
  kept-lowers (Err x) from fl co rows begins n h e = tt
  kept-lowers (Ok x) from fl co rows begins n h e = λ seen w behind.
      let k = as-kept (contents b) t t.kind refl (no-process (kind_at b u.0) begins n) in
      one-more b seen (item.Unit u) m record {
        sound = w.sound;
        from = from;
        flattens = fl ∙ w.flattens;
        copied = co ∙ w.copied;
        copies = copied-more t seen w behind (subst (λ (z : Arena). CopiesUnit l.copying.from.now l.copying.to m.copying.to u.0 (unit_text_at z u.0)) e h) k.0;
        report = ap (map (row_text b)) rows ∙ same-rows b seen l.report (item_row (contents b) (unit_text t)) w.report k.1;
        within = subst (Each (λ (z : ReportRow). z.unit.0 < unit_count b)) (sym rows) w.within;
      }

  -- a process gets a row
  module _ (v : Verdict) (x : text.Outcome) (is : outcome_in (contents b) t ≡ x) (told : text.verdict_of x ≡ v) (process : kind_at b u.0 ≡ Some unit_kind.Proc) (from : m.from.now ≡ b)
      (fl : m.flattener.m.now ≡ b) (co : m.copying.from.now ≡ b)
      (c : CopiesUnit l.copying.from.now l.copying.to m.copying.to u.0 (text.in_place t x)) where
    process-lowers : (r : Result (Unit {0}) NoMemory) → OnOk r (m.report ≡ l.report ++ record { unit = u; verdict = v } ∷ []) → OnOk r (LowersItem l (item.Unit u) m)
    process-lowers (Err y) rows = tt
    process-lowers (Ok y) rows = λ seen w behind.
        let k = as-process (contents b) t x (kind-is (kind_at b u.0) unit_kind.Proc process) is in
        let row : ReportRow = record { unit = u; verdict = v } in
        one-more b seen (item.Unit u) m record {
          sound = w.sound;
          from = from;
          flattens = fl;
          copied = co;
          copies = copied-more (text.in_place t x) seen w behind c k.0;
          report = ap (map (row_text b)) rows ∙ rows-push b l.report row (rows-of b seen) record { unit = unit_name_at b u.0; verdict = v } w.report refl
              ∙ ap (λ (z : Verdict). rows-of b seen ++ record { unit = unit_name_at b u.0; verdict = z } ∷ []) (sym told) ∙ ap (λ (xs : List RowText). rows-of b seen ++ xs) (sym k.1);
          within = subst (Each (λ (z : ReportRow). z.unit.0 < unit_count b)) (sym rows) (within-push (unit_count b) l.report row w.within (within b o u seen behind));
        }

  module _ (n : IsNextItem l (item.Unit u)) (process : kind_at b u.0 ≡ Some unit_kind.Proc) (x : ProcessOutcome) (is : IsOutcomeAt b u.0 x) (from : m.from.now ≡ b) (fl : m.flattener.m.now ≡ l.flattener.m.now)
      (co : m.copying.from.now ≡ l.copying.from.now) (r : Result (Unit {0}) NoMemory) where
    pub entity-lowers : (k : Kind) (body : Body) → x ≡ outcome.Entity k body
        → ((lines : List LineText) → IsBody (unit_text_at l.copying.from.now u.0).args body lines
        → CopiesUnit l.copying.from.now l.copying.to m.copying.to u.0 (entity_with (unit_text_at l.copying.from.now u.0) lines))
        → OnOk r (m.report ≡ l.report ++ record { unit = u; verdict = verdict.Lowered k } ∷ []) → OnOk r (LowersItem l (item.Unit u) m)
    entity-lowers k body e c rows =
        let h : IsOutcomeAt b u.0 (outcome.Entity k body) = subst (IsOutcomeAt b u.0) e is in
        let there = subst (λ (z : Arena). (lines : List LineText) → IsBody (unit_text_at z u.0).args body lines
        → CopiesUnit l.copying.from.now l.copying.to m.copying.to u.0 (entity_with (unit_text_at z u.0) lines)) (copies-same l u n) c in
        process-lowers (verdict.Lowered k) (text.becomes k (entity_with t h.0)) h.1 refl process from (fl ∙ flattens-same l u n) (co ∙ copies-same l u n) (there h.0 h.2.is) r rows

    pub left-lowers : (s : Reason) → x ≡ outcome.Left s → CopiesUnit l.copying.from.now l.copying.to m.copying.to u.0 (unit_text_at l.copying.from.now u.0)
        → OnOk r (m.report ≡ l.report ++ record { unit = u; verdict = verdict.Left s } ∷ []) → OnOk r (LowersItem l (item.Unit u) m)
    left-lowers s e c rows =
        let h : IsOutcomeAt b u.0 (outcome.Left s) = subst (IsOutcomeAt b u.0) e is in
        process-lowers (verdict.Left s) (text.stays s) h refl process from (fl ∙ flattens-same l u n) (co ∙ copies-same l u n)
        (subst (λ (z : Arena). CopiesUnit l.copying.from.now l.copying.to m.copying.to u.0 (unit_text_at z u.0)) (copies-same l u n) c) r rows

-- the body of an outcome may be put
pub can-put : (a : Arena) (u : ℕ) (k : Kind) (b : Body) → IsOutcomeAt a u (outcome.Entity k b) → CanPut (unit_text_at a u) b
can-put a u k b h = record { lines = h.0; is = h.2.is; few = h.2.short; new_args = h.2.once; new_results = h.2.new_results }

-- ---- all of them

pub all-seen : (a : Arena) (i : ℕ) → i ≡ length a.items → take i a.items ≡ a.items
all-seen a i e = ap (λ (n : ℕ). take n a.items) e ∙ take_whole a.items

-- the next item
split : (x : Item) (xs : List Item) (k : ℕ) → k < length xs → xs ≡ take k xs ++ get_or xs k x ∷ drop (suc k) xs
split x [] k l = absurd (omega (arith, l))
split x (y ∷ xs) zero l = refl
split x (y ∷ xs) (suc k) l = ap (λ (ys : List Item). y ∷ ys) (split x xs k (omega (arith, l)))

pub behind : (c : Arena) (i : ℕ) (x : Item) → i < length c.items → x ≡ get_or c.items i x → ItemIsBehind c (take i c.items) x
behind c i x h e = record { rest = drop (suc i) c.items; split = split x c.items i h ∙ ap (λ (y : Item). take i c.items ++ y ∷ drop (suc i) c.items) (sym e) }

pub take-next : (xs : List Item) (i : ℕ) (x : Item) → i < length xs → x ≡ get_or xs i x → take (i + 1) xs ≡ take i xs ++ x ∷ []
take-next xs i x h e = ap (λ (n : ℕ). take n xs) (add-one i) ∙ take-suc xs i x h ∙ ap (λ (y : Item). take i xs ++ y ∷ []) (sym e)
