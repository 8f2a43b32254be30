use Rattle.std.proofs.Common.{◌≡◌, ◌∙◌, ◌++◌, ◌∷◌, [], refl, sym}
use Rattle.std.proofs.lemmas.Result.{on_ok_weaker}
use Rattle.lh_region.specs.declared.rows.Rows.{Rows}
use Rattle.lh_region.specs.declared.rows.DriveRow.{DriveRow}
use Rattle.lh_region.specs.Effects.{IsDriven, StillDriven}
use Rattle.lh_region_joins.proofs.Conditions.{grows-none}
use Rattle.lh_term.proofs.Swaps.{grows_on}
use Rattle.lh_region.proofs.RowLists.{driven-more, driven-still, delay-asked}
use Rattle.lh_region.proofs.effects.drive.Goals as goal

pub returns-clause-rows : goal.returns-clause-rows
returns-clause-rows c =
    let ns = c.args.terms.now in let ms = c.value_at.new.terms in let os = c.value_at-2.new.terms in
    let ps = c.args.places.now.items in let qs = c.value_at.new.places.items in let rs = c.value_at-2.new.places.items in
    let d = c.args.drives in let r = c.args.rows.now in
    let row : DriveRow = record { cond = d.cond; part = c.args.part; value = c.in_ok-value.value; delay = c.in_ok-delay.delay } in
    let q : Rows = record { probes = r.probes; drives = c.push.new.self; asserts = r.asserts; ends = r.ends } in
    on_ok_weaker {P = c.push.new.self ≡ r.drives ++ row ∷ []} {Q = IsDriven ns ps r os q d c.args.part} c.push.result
    (λ e. driven-more ns ms ps qs d c.in_ok-value.value c.value_at.ensures.kept c.in_ok-value.ensures.still c.in_ok-value.ensures.term os rs c.in_ok-delay.delay c.value_at-2.ensures.kept
    c.in_ok-delay.ensures.still c.in_ok-delay.ensures.term
    r q c.args.part row c.requires.cond (sym c.never_holds.ensures ∙ c.if-never_holds.false) refl refl refl refl refl e refl refl)
    c.push.ensures.ok

pub value_at-requires-clause-told : goal.value_at-requires-clause-told
value_at-requires-clause-told c = record { told = c.requires.told.told; tells = c.requires.told.tells; there = c.requires.told.value }

pub value_at-requires-2-clause-told : goal.value_at-requires-2-clause-told
value_at-requires-2-clause-told c =
    delay-asked c.args.terms.now c.value_at.new.terms c.args.places.now.items c.value_at.new.places.items c.args.drives c.in_ok-value.value c.value_at.ensures.kept
    c.in_ok-value.ensures.still c.in_ok-value.ensures.term c.requires.told

pub returns-clause-still : goal.returns-clause-still
returns-clause-still c =
    let ns = c.args.terms.now in let ms = c.value_at.new.terms in let os = c.value_at-2.new.terms in
    let ps = c.args.places.now.items in let qs = c.value_at.new.places.items in let rs = c.value_at-2.new.places.items in
    on_ok_weaker {P = c.push.new.self ≡ c.args.rows.now.drives ++ _} {Q = StillDriven ns ps os rs c.args.drives} c.push.result
    (λ e. driven-still ns ms ps qs c.args.drives c.in_ok-value.value c.value_at.ensures.kept c.in_ok-value.ensures.still c.in_ok-value.ensures.term os rs c.in_ok-delay.delay c.value_at-2.ensures.kept
    c.in_ok-delay.ensures.still c.in_ok-delay.ensures.term)
    c.push.ensures.ok

pub returns-then-never_holds-clause-kept : goal.returns-then-never_holds-clause-kept
returns-then-never_holds-clause-kept c = grows-none c.args.terms.now

pub returns-in_err-value-clause-kept : goal.returns-in_err-value-clause-kept
returns-in_err-value-clause-kept c = c.value_at.ensures.kept

pub returns-in_err-delay-clause-kept : goal.returns-in_err-delay-clause-kept
returns-in_err-delay-clause-kept c = grows_on c.args.terms.now c.value_at.new.terms c.value_at-2.new.terms c.value_at.ensures.kept c.value_at-2.ensures.kept

pub returns-clause-kept : goal.returns-clause-kept
returns-clause-kept c = grows_on c.args.terms.now c.value_at.new.terms c.value_at-2.new.terms c.value_at.ensures.kept c.value_at-2.ensures.kept
