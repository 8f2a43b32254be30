use Rattle.std.proofs.Common.{◌≡◌, None, Some, subst}
use Rattle.std.proofs.lemmas.Result.{IfOk-weaker}
use Rattle.lh_verify.specs.FirstFound.{FindsFault, LacksFirst, first_at}
use Rattle.lh_verify_values.specs.Facts.{items_in, text_in}
use Rattle.lh_verify.proofs.UnitPlaces.{unit-law}
use Rattle.lh_verify.proofs.unit.first_in.Goals as goal

pub returns-in-None : goal.returns-in-None
returns-in-None c =
    let s = c.args.scope.now in
    unit-law s c.requires.sound c.requires.scope.unit None c.in_ok-found.found c.args.places.now c.requires.places c.requires.within
    (subst (LacksFirst (items_in s) (text_in s)) c.in-None.is c.in_ok-first_lacking.ensures) c.in_ok-found.ensures

pub returns-in-Some : goal.returns-in-Some
returns-in-Some c =
    let s = c.args.scope.now in
    let lacks = Some c.in-Some.inst in
    IfOk-weaker c.first_at-in-Some.result (λ found. found ≡ first_at s lacks c.args.places.now) (λ found. FindsFault (items_in s) (text_in s) found)
    (λ found q. unit-law s c.requires.sound c.requires.scope.unit lacks found c.args.places.now c.requires.places c.requires.within
    (subst (LacksFirst (items_in s) (text_in s)) c.in-Some.is c.in_ok-first_lacking.ensures) q) c.first_at-in-Some.ensures
