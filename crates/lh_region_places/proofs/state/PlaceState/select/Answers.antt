use Rattle.std.proofs.Common.{refl}
use Rattle.lh_region_places.proofs.ToldValues.{select-made}
use Rattle.lh_region_places.proofs.state.PlaceState.select.Goals as goal

pub returns-in_ok-made-clause-place : goal.returns-in_ok-made-clause-place
returns-in_ok-made-clause-place c = select-made c.args.terms.now c.selectors.new.terms c.args.self.now _ c.in_ok-made.made c.as_slice.result.now c.selectors.ensures.kept c.requires
    c.as_slice.ensures.value c.in_ok-made.ensures.made refl refl refl refl
