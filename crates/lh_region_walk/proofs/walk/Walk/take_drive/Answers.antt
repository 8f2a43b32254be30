use Rattle.std.proofs.Common.{ap, refl}
use Rattle.std.specs.Option.{is_some}
use Rattle.lh_region_places.specs.Asked.{SamePlaces}
use Rattle.lh_region.specs.declared.effects.DriveAt.{DriveAt}
use Rattle.lh_region.specs.Effects.{StillDriven, IsDriven}
use Rattle.lh_region_walk.specs.declared.walk.Walk.{Walk}
use Rattle.lh_region_walk.specs.Walked.{WalksLine}
use Rattle.lh_region_walk.proofs.TakingLines.{drive-told, may-test, tested, drives-on, drive-condition, can-drive, drive-next}
use Rattle.lh_region_walk.proofs.Answered.{ok-three}
use Rattle.lh_term.proofs.Swaps.{grows_on}
use Rattle.lh_region_joins.proofs.Conditions.{grows-none}
use Rattle.lh_region_walk.proofs.walk.Walk.take_drive.Goals as goal

pub part_of-requires-clause-there : goal.part_of-requires-clause-there
part_of-requires-clause-there c = ap is_some
    (drive-told c.args.terms.now c.requires.can.naming c.requires.can.name c.args.region.now c.args.self.now c.args.at c.requires.can.before c.requires.can.here c.requires.can.insts
    c.requires.can.block c.requires.can.done c.requires.can.rest c.requires.can.midst c.args.line.now c.requires.can.between c.in-Drv.to c.in-Drv.value c.in-Drv.after c.in-Drv.cond c.in-Drv.is
    c.requires.can.below).part.is

pub drive_cond-requires-clause-test : goal.drive_cond-requires-clause-test
drive_cond-requires-clause-test c =
    let d = drive-told c.args.terms.now c.requires.can.naming c.requires.can.name c.args.region.now c.args.self.now c.args.at c.requires.can.before c.requires.can.here c.requires.can.insts
    c.requires.can.block c.requires.can.done c.requires.can.rest c.requires.can.midst c.args.line.now c.requires.can.between c.in-Drv.to c.in-Drv.value c.in-Drv.after c.in-Drv.cond c.in-Drv.is
    c.requires.can.below in
    may-test c.args.terms.now c.requires.can.naming c.requires.can.name c.args.region.now c.args.self.now c.args.at c.requires.can.before c.requires.can.here c.requires.can.insts c.requires.can.block
    c.requires.can.done c.requires.can.rest c.requires.can.midst c.args.line.now c.requires.can.between c.in-Drv.cond d.when d.cond_told

pub drive-requires-clause-cond : goal.drive-requires-clause-cond
drive-requires-clause-cond c =
    let ms = c.drive_cond.new.terms in let qs = c.drive_cond.new.places.items in
    let d = drive-told c.args.terms.now c.requires.can.naming c.requires.can.name c.args.region.now c.args.self.now c.args.at c.requires.can.before c.requires.can.here c.requires.can.insts
    c.requires.can.block c.requires.can.done c.requires.can.rest c.requires.can.midst c.args.line.now c.requires.can.between c.in-Drv.to c.in-Drv.value c.in-Drv.after c.in-Drv.cond c.in-Drv.is
    c.requires.can.below in
    let tells = tested c.args.terms.now c.requires.can.naming c.requires.can.name c.args.region.now c.args.self.now c.args.at c.requires.can.before c.requires.can.here c.requires.can.insts
    c.requires.can.block c.requires.can.done c.requires.can.rest c.requires.can.midst c.args.line.now c.requires.can.between ms qs c.in-Drv.cond d.when d.cond_told c.in_ok-cond.ensures.still in
    let st = drives-on c.args.terms.now c.requires.can.naming c.requires.can.name c.args.region.now c.args.self.now c.args.at c.requires.can.before c.requires.can.here c.requires.can.insts
    c.requires.can.block c.requires.can.done c.requires.can.rest c.requires.can.midst c.args.line.now c.requires.can.between ms qs c.in-Drv.cond d.when d.cond_told c.in_ok-cond.cond
    c.in_ok-cond.ensures.made in
    drive-condition c.args.terms.now c.requires.can.naming c.requires.can.name c.args.region.now c.args.self.now c.args.at c.requires.can.before c.requires.can.here c.requires.can.insts
    c.requires.can.block c.requires.can.done c.requires.can.rest c.requires.can.midst c.args.line.now c.requires.can.between c.in-Drv.to c.in-Drv.value c.in-Drv.after c.in-Drv.cond d ms qs tells
    c.in_ok-cond.cond st

pub drive-requires-clause-told : goal.drive-requires-clause-told
drive-requires-clause-told c =
    let ms = c.drive_cond.new.terms in let qs = c.drive_cond.new.places.items in
    let d = drive-told c.args.terms.now c.requires.can.naming c.requires.can.name c.args.region.now c.args.self.now c.args.at c.requires.can.before c.requires.can.here c.requires.can.insts
    c.requires.can.block c.requires.can.done c.requires.can.rest c.requires.can.midst c.args.line.now c.requires.can.between c.in-Drv.to c.in-Drv.value c.in-Drv.after c.in-Drv.cond c.in-Drv.is
    c.requires.can.below in
    let tells = tested c.args.terms.now c.requires.can.naming c.requires.can.name c.args.region.now c.args.self.now c.args.at c.requires.can.before c.requires.can.here c.requires.can.insts
    c.requires.can.block c.requires.can.done c.requires.can.rest c.requires.can.midst c.args.line.now c.requires.can.between ms qs c.in-Drv.cond d.when d.cond_told c.in_ok-cond.ensures.still in
    let st = drives-on c.args.terms.now c.requires.can.naming c.requires.can.name c.args.region.now c.args.self.now c.args.at c.requires.can.before c.requires.can.here c.requires.can.insts
    c.requires.can.block c.requires.can.done c.requires.can.rest c.requires.can.midst c.args.line.now c.requires.can.between ms qs c.in-Drv.cond d.when d.cond_told c.in_ok-cond.cond
    c.in_ok-cond.ensures.made in
    can-drive c.args.terms.now c.requires.can.naming c.requires.can.name c.args.region.now c.args.self.now c.args.at c.requires.can.before c.requires.can.here c.requires.can.insts c.requires.can.block
    c.requires.can.done c.requires.can.rest c.requires.can.midst c.args.line.now c.requires.can.between c.in-Drv.to c.in-Drv.value c.in-Drv.after c.in-Drv.cond d ms qs tells c.in_ok-cond.cond st

pub returns-clause-taken : goal.returns-clause-taken
returns-clause-taken c =
    let ms = c.drive_cond.new.terms in let qs = c.drive_cond.new.places.items in let os = c.drive.new.terms in let rs = c.drive.new.places.items in
    let q : Walk = record { places = c.drive.new.places; ahead = c.args.self.now.ahead; insts = c.args.self.now.insts; rows = c.drive.new.rows; sources = c.args.self.now.sources } in
    let x : DriveAt = record { place = c.args.at.place; cond = c.in_ok-cond.cond; value = c.in-Drv.value.0; after = c.in-Drv.after.0 } in
    ok-three c.drive.result (SamePlaces qs rs) (StillDriven ms qs os rs x) (IsDriven ms qs c.args.self.now.rows os c.drive.new.rows x c.in_ok-part.part)
    (WalksLine c.args.terms.now c.args.region.now c.args.self.now c.args.at c.args.line.now os q)
    (λ same still rows f name before h insts b done rest m i.
    let d = drive-told c.args.terms.now f name c.args.region.now c.args.self.now c.args.at before h insts b done rest m c.args.line.now i c.in-Drv.to c.in-Drv.value c.in-Drv.after c.in-Drv.cond
    c.in-Drv.is c.requires.can.below in
    let tells = tested c.args.terms.now f name c.args.region.now c.args.self.now c.args.at before h insts b done rest m c.args.line.now i ms qs c.in-Drv.cond d.when d.cond_told
    c.in_ok-cond.ensures.still in
    let st = drives-on c.args.terms.now f name c.args.region.now c.args.self.now c.args.at before h insts b done rest m c.args.line.now i ms qs c.in-Drv.cond d.when d.cond_told c.in_ok-cond.cond
    c.in_ok-cond.ensures.made in
    drive-next c.args.terms.now f name c.args.region.now c.args.self.now c.args.at before h insts b done rest m c.args.line.now i c.in-Drv.to c.in-Drv.value c.in-Drv.after c.in-Drv.cond d ms qs tells
    c.in_ok-cond.cond st os q c.in_ok-part.part c.in-Drv.is c.in_ok-part.ensures c.drive_cond.ensures.kept c.drive.ensures.kept (record { ahead = refl; counted = refl; sources = refl })
    c.in_ok-cond.ensures.same same still rows)
    c.drive.ensures.same c.drive.ensures.still c.drive.ensures.rows

pub returns-in_err-part-clause-kept : goal.returns-in_err-part-clause-kept
returns-in_err-part-clause-kept c = grows-none c.args.terms.now

pub returns-in_err-cond-clause-kept : goal.returns-in_err-cond-clause-kept
returns-in_err-cond-clause-kept c = c.drive_cond.ensures.kept

pub returns-clause-kept : goal.returns-clause-kept
returns-clause-kept c = grows_on c.args.terms.now c.drive_cond.new.terms c.drive.new.terms c.drive_cond.ensures.kept c.drive.ensures.kept
