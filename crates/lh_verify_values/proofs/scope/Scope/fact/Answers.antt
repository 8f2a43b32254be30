use Rattle.std.proofs.Common.{ℕ, ◌<◌, subst, sym}
use Rattle.std.proofs.lemmas.Option.{slice_get-get_or}
use Rattle.lh_verify_values.proofs.scope.Scope.fact.Goals as goal

pub returns : goal.returns
returns c =
    let P : ℕ → Type 0 = λ n. c.args.value.0 < n in
    c.requires.scope.told c.args.value _ (slice_get-get_or c.args.self.now.facts.now c.args.value.0 _ (subst P (sym c.requires.scope.long) c.requires.within))
