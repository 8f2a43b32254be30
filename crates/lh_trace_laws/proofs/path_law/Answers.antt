use Rattle.lh_trace_laws.proofs.PathsLaw.{path_computes, top_path, child_path, designs_have_parents_before}
use Rattle.lh_trace_laws.proofs.path_law.Goals as goal

pub returns : goal.returns
returns c = record { computes = path_computes; top = top_path; child = child_path; parents = designs_have_parents_before }
