use Rattle.std.proofs.Common.{ap, sym, ◌∙◌}
use Rattle.lh_unit.specs.Naming.{value_text, inst_text}
use Rattle.lh_unit.specs.WellFormed.{probes_for_signal}
use Rattle.lh_verify_values.specs.Facts.{text_in, naming_in}
use Rattle.lh_verify.proofs.Places.{from-probe-is}
use Rattle.lh_verify.proofs.place.probes_for_signal.Goals as goal

pub returns-in-Sig : goal.returns-in-Sig
returns-in-Sig c =
    let s = c.args.scope.now in
    c.comes_from_probe.ensures ∙ from-probe-is (text_in s) (value_text (naming_in s) c.in-Sig.of.value) ∙ ap (λ i. probes_for_signal (text_in s) (inst_text (naming_in s) i)) (sym c.in-Sig.is)
