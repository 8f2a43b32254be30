-- One instruction more, and the last.
use Rattle.std.proofs.Common.{ℕ, ◌+◌, ◌<◌, ◌≤◌, List, [], ◌∷◌, length, drop, get_or, Bool, Option, ap, sym, ◌∙◌, subst}
use Rattle.std.proofs.lemmas.List.{drop_more, drop_all}
use Rattle.lh_time.specs.declared.Instant.{Instant}
use Rattle.lh_unit.specs.Arena.{Arena, unit_text_at}
use Rattle.lh_unit.specs.Pass.{Passed}
use Rattle.lh_unit.specs.declared.inst.InstId.{InstId}
use Rattle.lh_eval.specs.Sound.{InstIsSound}
use Rattle.lh_react.specs.declared.pass.PassRun.{PassRun}
use Rattle.lh_react.specs.Standing.{StandsForPass, RunFits, ContinuesPass, line_in, passed_all}
use Rattle.lh_eval_laws.proofs.FitLaws.{keeps-fit}

module _ (a : Arena) (u : ℕ) (now : List Bool) (memory : Option (List Bool)) (t : Instant) where
  pub more-fit : (r s : PassRun) (i : InstId) → RunFits a u (length now) r → InstIsSound (unit_text_at a u) (line_in a u i)
      → ((p : Passed) → StandsForPass a u p r → StandsForPass a u (passed_all a u now memory t p (i ∷ [])) s) → RunFits a u (length now) s
  more-fit r s i f x go = record {
    passed = passed_all a u now memory t f.passed (i ∷ []);
    stands = go f.passed f.stands;
    fits = keeps-fit (unit_text_at a u) now memory t f.passed (line_in a u i) x f.fits;
  }

  pub goes-on : (r s : PassRun) (is : List InstId) (k : ℕ) (d : InstId) (z : Passed) → k < length is
      → ((p : Passed) → StandsForPass a u p r → StandsForPass a u (passed_all a u now memory t p (get_or is k d ∷ [])) s)
      → ContinuesPass a u now memory t r (drop k is) z → ContinuesPass a u now memory t s (drop (k + 1) is) z
  goes-on r s is k d z h go c = record {
    passed = passed_all a u now memory t c.passed (get_or is k d ∷ []);
    stands = go c.passed c.stands;
    same = sym (ap (passed_all a u now memory t c.passed) (drop_more is k d h)) ∙ c.same;
  }

  pub ends : (r : PassRun) (is : List InstId) (k : ℕ) (z : Passed) → length is ≤ k → ContinuesPass a u now memory t r (drop k is) z → StandsForPass a u z r
  ends r is k z h c = subst (λ (q : Passed). StandsForPass a u q r) (sym (ap (passed_all a u now memory t c.passed) (drop_all k is h)) ∙ c.same) c.stands
