use Rattle.std.proofs.Common.{◌≡◌, ℕ, take}
use Rattle.lh_region_joins.specs.Joins.{is_listed, count_of, raised}
use Rattle.lh_region_joins.proofs.joins.Shared.take.Given as goal

abbrev pub invariant-loop-conjunct : goal.invariant-loop-conjunct
invariant-loop-conjunct l = record {
  edges : l.self.edges ≡ l.fn.self.edges;
  counts : (q : ℕ) → count_of l.self.counts q ≡ raised l.fn.self.edges (is_listed (take l.conjunct-index l.conjunct-items) q) (count_of l.fn.self.counts q);
}
