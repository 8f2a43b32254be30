use Rattle.std.proofs.Common.{ℕ, ◌<◌}
use Rattle.std.proofs.lemmas.List.Sorted.{All-permutation, Contains-permutation, IsNonDecreasingBy-from_sort}
use Rattle.lh_wave.proofs.changed.sort_numbers.Goals as goal

pub returns-clause-within : goal.returns-clause-within
returns-clause-within c = λ count. All-permutation (λ (k : ℕ). k < count) _ _ c.in_ok-sort.ensures.permutation

pub returns-clause-listed : goal.returns-clause-listed
returns-clause-listed c = λ k. Contains-permutation _ _ k c.in_ok-sort.ensures.permutation

pub returns-clause-rising : goal.returns-clause-rising
returns-clause-rising c = IsNonDecreasingBy-from_sort (λ x. x) _ c.in_ok-sort.ensures.sorted
