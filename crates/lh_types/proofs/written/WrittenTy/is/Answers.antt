use Rattle.std.proofs.Common.{Some, ap, sym, ◌∙◌}
use Rattle.std.specs.Option.{option_copied}
use Rattle.lh_types.specs.Same.{same-is}
use Rattle.lh_types.proofs.written.WrittenTy.is.Goals as goal

pub returns-in-Some-Some : goal.returns-in-Some-Some
returns-in-Some-Some c t = sym c.get.ensures ∙ ap option_copied c.in-Some-Some.is-0 ∙ ap Some (same-is _ _ (sym c.eq.ensures ∙ t)) ∙ sym (ap option_copied c.in-Some-Some.is-1)
