use Rattle.std.proofs.Common.{List, map, set, ap, ◌∙◌}
use Rattle.std.proofs.lemmas.List.{map-set}
use Rattle.lh_types.specs.Values.{Datum}
use Rattle.lh_types.specs.ValueOf.{datum_of}
use Rattle.lh_types.specs.declared.val.Val.{Val}
use Rattle.lh_eval.proofs.put.replaced.Goals as goal

pub returns : goal.returns
returns c =
    c.from_vec.ensures ∙ ap (map datum_of) c.put.ensures ∙ map-set datum_of c.into_vec-values.result.items c.args.k c.in_ok-copy-2.field-0
    ∙ ap (λ (ds : List Datum). set ds c.args.k (datum_of c.in_ok-copy-2.field-0)) (c.into_vec-values.ensures ∙ c.in_ok-copy.ensures)
    ∙ ap (λ (v : Val). set c.args.of.now c.args.k (datum_of v)) c.in_ok-copy-2.ensures
