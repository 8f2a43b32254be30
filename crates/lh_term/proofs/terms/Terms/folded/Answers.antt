use Rattle.std.proofs.Common.{◌≡◌, List, map, sym, ap, ◌∙◌, subst}
use Rattle.lh_types.specs.Values.{Datum}
use Rattle.lh_types.specs.ValueOf.{datum_of}
use Rattle.lh_types.specs.Apply.{apply}
use Rattle.lh_types.specs.ApplyTypes.{FitsOp}
use Rattle.lh_term.specs.Types.{FitsTerm}
use Rattle.lh_term.specs.Make.{values_in}
use Rattle.lh_term.specs.Arena.{trees_at}
use Rattle.lh_term.proofs.Sound.{folded_fits, folded_typed}
use Rattle.lh_term.proofs.terms.Terms.folded.Goals as goal

pub apply-requires : goal.apply-requires
apply-requires c =
    let e : map datum_of c.deref.result.now ≡ values_in (trees_at c.args.self.now c.args.args.now) = ap (map datum_of) c.deref.ensures.value ∙ c.in_ok-values.ensures in
    let P : List Datum → Type 0 = FitsOp c.args.op.now in
    subst P (sym e) (folded_fits c.args.op.now (trees_at c.args.self.now c.args.args.now) (c.are_typed.ensures, c.requires.fits) c.requires.constants)

pub konst-requires : goal.konst-requires
konst-requires c =
    let e : map datum_of c.deref.result.now ≡ values_in (trees_at c.args.self.now c.args.args.now) = ap (map datum_of) c.deref.ensures.value ∙ c.in_ok-values.ensures in
    let P : Datum → Type 0 = FitsTerm in
    subst P (sym (c.in_ok-value.ensures ∙ ap (apply c.args.op.now) e))
    (folded_typed c.args.op.now (trees_at c.args.self.now c.args.args.now) (c.are_typed.ensures, c.requires.fits) c.requires.constants)
