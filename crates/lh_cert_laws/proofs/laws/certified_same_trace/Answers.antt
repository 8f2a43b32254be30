use Rattle.lh_cert_laws.proofs.CertifiedTrace.{Laws, same-trace, same-trace-within}
use Rattle.lh_cert_laws.proofs.laws.certified_same_trace.Goals as goal

laws : goal.After-replaced_law → Laws
laws c = record {
  rebuilds = c.rebuilt_keeps_meaning.ensures;
  agrees = c.agreed_terms_mean_same.ensures;
  merges = c.merged_drives_law.ensures.wish;
  merged = c.merged_drives_law.ensures.typed;
  typed = c.passes_do_rows.ensures.typed;
  passes = c.passes_do_rows.ensures.passes;
  formed = c.formed_law.ensures;
  combs = c.comb_given.ensures;
  edges = c.edge_given.ensures;
  onces = c.once_given.ensures;
  comb_stands = c.comb_stands_for.ensures;
  edge_stands = c.edge_stands_for.ensures;
  once_stands = c.once_stands_for.ensures;
}

pub returns : goal.returns
returns c = record {
  same = same-trace (laws c) c.replaced_law.ensures c.max_is_enough.ensures;
  within = same-trace-within (laws c) c.replaced_law.ensures;
}
