use Rattle.lh_lower_laws.proofs.laws.well_formed_law.Goals as goal

pub returns : goal.returns
returns c = λ a s. (c.spelled_law.ensures.spelled a s, c.faultless_law.ensures a s)
