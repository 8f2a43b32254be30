-- The units of a module and what became of its processes, by ids.
use Rattle.std.proofs.Common.{◌≡◌, ℕ, ◌+◌, List, [], ◌∷◌, map, Bool, cond, not, count_by, refl, ap, sym, ◌∙◌}
use Rattle.std.proofs.lemmas.List.Sums.{sum_by-cons}
use Rattle.lh_unit.specs.Arena.{Arena, item_text_at, contents}
use Rattle.lh_unit.specs.declared.inst.Item.{Item}
use Rattle.lh_unit.specs.declared.inst.Item.TheVariants as item
use Rattle.lh_lower_def.specs.Lowering.{report}
use Rattle.lh_lower_def.specs.Report.{RowText, row_text}
use Rattle.lh_lower_def.specs.declared.report.ReportRow.{ReportRow}
use Rattle.lh_lower_def.specs.declared.report.Verdict.{Verdict}
use Rattle.lh_selftest.specs.SelfTest.{is_unit, is_lowered, units_of}
use Rattle.lh_selftest.specs.Counted.{is_unit_item}

-- what is counted of items that were made of others is counted of those
count_by-map : {X Y : Type 0} (p : Y → Bool) (q : X → Bool) (f : X → Y) → ((x : X) → p (f x) ≡ q x) → (xs : List X) → count_by p (map f xs) ≡ count_by q xs
count_by-map p q f e [] = refl
count_by-map p q f e (x ∷ xs) =
    sum_by-cons (λ y. cond (p y) 1 0) (f x) (map f xs)
    ∙ ap (λ b. cond b 1 0 + count_by p (map f xs)) (e x)
    ∙ ap (λ n. cond (q x) 1 0 + n) (count_by-map p q f e xs)
    ∙ sym (sum_by-cons (λ y. cond (q y) 1 0) x xs)

unit-by_id : (a : Arena) (i : Item) → is_unit (item_text_at a i) ≡ is_unit_item i
unit-by_id a (item.Unit u) = refl
unit-by_id a (item.Declare d) = refl

-- rows that fit a test, by ids
rows-by_id : (a : Arena) (p : Verdict → Bool) (rows : List ReportRow) (file : List RowText) → map (row_text a) rows ≡ file
    → count_by (λ (r : ReportRow). p r.verdict) rows ≡ count_by (λ (r : RowText). p r.verdict) file
rows-by_id a p rows file e =
    sym (count_by-map (λ (r : RowText). p r.verdict) (λ (r : ReportRow). p r.verdict) (row_text a) (λ r. refl) rows) ∙ ap (count_by (λ (r : RowText). p r.verdict)) e

pub units-by_id : (a : Arena) (rows : List ReportRow) (all lowered left : ℕ) → map (row_text a) rows ≡ report (contents a) → all ≡ count_by is_unit_item a.items
    → lowered ≡ count_by (λ (r : ReportRow). is_lowered r.verdict) rows → left ≡ count_by (λ (r : ReportRow). not (is_lowered r.verdict)) rows
    → record { all = all; lowered = lowered; left = left } ≡ units_of (contents a)
units-by_id a rows all lowered left e f g h =
    let all_so = f ∙ sym (count_by-map is_unit is_unit_item (item_text_at a) (unit-by_id a) a.items) in
    let lowered_so = g ∙ rows-by_id a is_lowered rows (report (contents a)) e in
    let left_so = h ∙ rows-by_id a (λ v. not (is_lowered v)) rows (report (contents a)) e in
    ap (λ n. record { all = n; lowered = lowered; left = left }) all_so
    ∙ ap (λ n. record { all = count_by is_unit (contents a); lowered = n; left = left }) lowered_so
    ∙ ap (λ n. record { all = count_by is_unit (contents a); lowered = count_by (λ (r : RowText). is_lowered r.verdict) (report (contents a)); left = n }) left_so
