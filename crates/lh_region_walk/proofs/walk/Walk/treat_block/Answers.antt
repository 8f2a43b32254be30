use Rattle.std.proofs.Common.{[], ◌∷◌, ◌+◌, refl, sym, subst, ◌∙◌}
use Rattle.std.proofs.lemmas.Result.{err_from_is_err_and, IfErr-weaker, on_ok_weaker}
use Rattle.std.proofs.lemmas.List.{nil_from_length}
use Rattle.lh_region_joins.specs.Joins.{AreConditions}
use Rattle.lh_region_walk.specs.declared.walk.Walk.{Walk}
use Rattle.lh_region_walk.specs.declared.walk.WalkPoint.{WalkPoint}
use Rattle.lh_region.specs.Walking.{place_of}
use Rattle.lh_region_walk.specs.Walked.{Treats, TreatsNot}
use Rattle.lh_region_walk.specs.Turns.{Passes, Stops, walks_at}
use Rattle.lh_region_walk.proofs.Reached.{reached-none, edges-can, begins-by, some-led, treat-can, passes-block, stops-block}
use Rattle.lh_term.proofs.Swaps.{grows_on}
use Rattle.lh_region.specs.declared.rows.RegionFault.TheVariants.{OutOfMemory}
use Rattle.lh_region_walk.proofs.Turned.{stops-memory}
use Rattle.lh_region_walk.proofs.walk.Walk.treat_block.Goals as goal

pub any_of-requires : goal.any_of-requires
any_of-requires c =
    let w = c.args.self.now in
    let some = some-led c.reach-edges.result _ c.len.result c.reach-edges.ensures.edges c.len.ensures c.if-len-eq0.false in
    subst (AreConditions c.args.terms.now) (sym (c.as_slice.ensures ∙ c.reach-edges.ensures.edges))
    (edges-can c.args.terms.now c.args.region.now w c.args.turn c.args.block c.requires.block some c.requires.walk)

pub treat-requires : goal.treat-requires
treat-requires c =
    let w = c.args.self.now in let ns = c.args.terms.now in let ms = c.any_of.new.terms in
    let some = some-led c.reach-edges.result _ c.len.result c.reach-edges.ensures.edges c.len.ensures c.if-len-eq0.false in
    let b = begins-by ns ms w (record { places = c.begin.new.places; ahead = c.reach-edges.new.self; insts = w.insts; rows = w.rows; sources = w.sources }) c.args.turn c.args.block
    (record { place = c.len-place.result; block = c.args.block; turns = c.args.turn; cond = c.in_ok-cond.cond }) c.reach-edges.result c.as_slice.result.now c.reach-edges.ensures.edges
    c.as_slice.ensures some
    c.reach-edges.ensures.here c.reach-edges.ensures.next refl refl refl c.any_of.ensures.kept (c.in_ok-begin.ensures.place) (c.in_ok-begin.ensures.joined) c.len-place.ensures refl refl
    c.in_ok-cond.ensures.made in
    treat-can ns c.args.region.now w c.args.turn c.args.block c.requires.block some ms _ _ b c.requires.within c.requires.walk

pub returns-clause-passed : goal.returns-clause-passed
returns-clause-passed c =
    let w = c.args.self.now in let ns = c.args.terms.now in let ms = c.any_of.new.terms in let r = c.args.region.now in
    let some = some-led c.reach-edges.result _ c.len.result c.reach-edges.ensures.edges c.len.ensures c.if-len-eq0.false in
    let q : Walk = record { places = c.begin.new.places; ahead = c.reach-edges.new.self; insts = w.insts; rows = w.rows; sources = w.sources } in
    let at : WalkPoint = record { place = c.len-place.result; block = c.args.block; turns = c.args.turn; cond = c.in_ok-cond.cond } in
    let b = begins-by ns ms w q c.args.turn c.args.block at c.reach-edges.result c.as_slice.result.now c.reach-edges.ensures.edges c.as_slice.ensures some
    c.reach-edges.ensures.here c.reach-edges.ensures.next refl refl refl c.any_of.ensures.kept (c.in_ok-begin.ensures.place) (c.in_ok-begin.ensures.joined) c.len-place.ensures refl refl
    c.in_ok-cond.ensures.made in
    on_ok_weaker {P = Treats ms r q at c.treat.new.terms c.treat.new.self} {Q = Passes (walks_at ns r w c.args.turn c.args.block) r (place_of c.args.turn c.args.block ∷ []) c.treat.new.terms c.treat.new.self c.args.turn (c.args.block + 1)} c.treat.result
    (passes-block ns r w c.args.turn c.args.block c.requires.block some ms q at b c.requires.within c.treat.new.terms c.treat.new.self) c.treat.ensures.treated

pub returns-clause-cause : goal.returns-clause-cause
returns-clause-cause c =
    let w = c.args.self.now in let ns = c.args.terms.now in let ms = c.any_of.new.terms in let r = c.args.region.now in
    let some = some-led c.reach-edges.result _ c.len.result c.reach-edges.ensures.edges c.len.ensures c.if-len-eq0.false in
    let q : Walk = record { places = c.begin.new.places; ahead = c.reach-edges.new.self; insts = w.insts; rows = w.rows; sources = w.sources } in
    let at : WalkPoint = record { place = c.len-place.result; block = c.args.block; turns = c.args.turn; cond = c.in_ok-cond.cond } in
    let b = begins-by ns ms w q c.args.turn c.args.block at c.reach-edges.result c.as_slice.result.now c.reach-edges.ensures.edges c.as_slice.ensures some
    c.reach-edges.ensures.here c.reach-edges.ensures.next refl refl refl c.any_of.ensures.kept (c.in_ok-begin.ensures.place) (c.in_ok-begin.ensures.joined) c.len-place.ensures refl refl
    c.in_ok-cond.ensures.made in
    IfErr-weaker c.treat.result (TreatsNot ms r q at) (Stops (walks_at ns r w c.args.turn c.args.block) r (place_of c.args.turn c.args.block ∷ []))
    (λ e t. stops-block ns r w c.args.turn c.args.block c.requires.block some ms q at b c.requires.within e t) c.treat.ensures.cause

pub returns-in_err-cond-clause-kept : goal.returns-in_err-cond-clause-kept
returns-in_err-cond-clause-kept c = c.any_of.ensures.kept

pub returns-in_err-begin-clause-kept : goal.returns-in_err-begin-clause-kept
returns-in_err-begin-clause-kept c = c.any_of.ensures.kept

pub returns-clause-kept : goal.returns-clause-kept
returns-clause-kept c = grows_on c.args.terms.now c.any_of.new.terms c.treat.new.terms c.any_of.ensures.kept c.treat.ensures.kept

pub returns-in_err-cond-clause-cause : goal.returns-in_err-cond-clause-cause
returns-in_err-cond-clause-cause c =
    let p = err_from_is_err_and c.from_residual.result c.from_residual.ensures.1 in
    rw (p.1, p.2) (stops-memory (walks_at c.args.terms.now c.args.region.now c.args.self.now c.args.turn c.args.block) c.args.region.now (place_of c.args.turn c.args.block ∷ []) OutOfMemory refl)

pub returns-in_err-begin-clause-cause : goal.returns-in_err-begin-clause-cause
returns-in_err-begin-clause-cause c =
    let p = err_from_is_err_and c.from_residual-in_err-begin.result c.from_residual-in_err-begin.ensures.1 in
    rw (p.1, p.2) (stops-memory (walks_at c.args.terms.now c.args.region.now c.args.self.now c.args.turn c.args.block) c.args.region.now (place_of c.args.turn c.args.block ∷ []) OutOfMemory refl)

pub returns-then-len-eq0-clause-passed : goal.returns-then-len-eq0-clause-passed
returns-then-len-eq0-clause-passed c =
    let w = c.args.self.now in
    let none = nil_from_length c.reach-edges.result (sym c.len.ensures ∙ c.if-len-eq0.true) in
    reached-none c.args.terms.now c.args.region.now w (record { places = w.places; ahead = c.reach-edges.new.self; insts = w.insts; rows = w.rows; sources = w.sources }) c.args.turn c.args.block (sym c.reach-edges.ensures.edges ∙ none) refl c.reach-edges.ensures.here c.reach-edges.ensures.next refl refl refl
