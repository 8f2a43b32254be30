use Rattle.lh_kernel.proofs.puts.put_wish.Goals as goal

pub returns-clause-put : goal.returns-clause-put
returns-clause-put c = let a = c.put.ensures.adds in record { key = a.0; adds = a.2; holds = c.put.ensures.holds }
