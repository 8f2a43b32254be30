use Rattle.std.proofs.Common.{refl, subst}
use Rattle.lh_term.specs.Tree.{constant}
use Rattle.lh_term.specs.Arena.{StandsForTree}
use Rattle.lh_region_def.specs.Known.{known_value}
use Rattle.lh_cert_read.specs.declared.known.Known.TheVariants as known
use Rattle.lh_cert_read.proofs.Steps.{gives-read}
use Rattle.lh_cert_read.proofs.reading.Reading.take_constant.Goals as goal

pub returns-clause-says : goal.returns-clause-says
returns-clause-says c = λ a u e o h r.
    gives-read a u c.args.terms.now c.konst.new.self c.in_ok-term.ensures.kept c.args.self.now e r o h c.args.name c.requires.name (known.Term c.in_ok-term.term) (known_value (constant c.args.value.now))
    (subst (λ d. StandsForTree c.konst.new.self c.in_ok-term.term (constant d)) c.in_ok-value.ensures c.in_ok-term.ensures.made)
    (record { known = c.give.new.self; rows = c.args.self.now.rows }) c.give.ensures refl
