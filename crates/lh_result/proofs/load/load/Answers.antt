use Rattle.std.proofs.Common.{◌≡◌, ◌≤◌, List, length, ap, sym, subst, arith, Err, Ok}
use Rattle.std.proofs.lemmas.Result.{err_from_is_err_and}
use Rattle.lh_unit.specs.Arena.{Arena, contents}
use Rattle.lh_unit.specs.Contents.{ItemText}
use Rattle.lh_unit.specs.Reads.{Reads}
use Rattle.lh_unit.specs.WellFormed.{IsFaultless}
use Rattle.lh_text_laws.proofs.Readings.{every_reading_is_spelled}
use Rattle.lh_result.specs.Steps.{IsFaultStatus, Loads}
use Rattle.lh_result.specs.Result.{source_limit}
use Rattle.lh_result.proofs.LoadSteps.{Loads-stopped, of_source, Loads-faulty, Loads-done}
use Rattle.lh_result.proofs.load.load.Goals as goal

pub verify-requires : goal.verify-requires
verify-requires g c = every_reading_is_spelled c.deref.result.now (contents c.in_ok-module.module) c.in_ok-module.ensures.ok

pub returns-in_err-bytes-clause-loads : goal.returns-in_err-bytes-clause-loads
returns-in_err-bytes-clause-loads g c =
    let p = err_from_is_err_and c.from_residual.result c.from_residual.ensures.1 in
    let count = c.in_err-bytes.ensures.fault_count in
    rw (p.1, p.2) (Loads-stopped c.in_err-bytes.field-0.0 _ _ _ _ _ count.1 count.2)

pub returns-in-Err-clause-loads : goal.returns-in-Err-clause-loads
returns-in-Err-clause-loads g c =
    let bytes = c.in_ok-bytes.ensures in
    let few : length c.in_ok-bytes.bytes.items ≤ source_limit = omega (arith, bytes.count.0) in
    let text : c.deref.result.now ≡ c.in_ok-bytes.bytes.items = c.deref.ensures.value in
    let reads = rw text at c.in_ok-module.ensures.ok in
    let P : List ItemText → Type 0 = λ f. IsFaultStatus c.refused.result f in
    let fault = subst P (ap (λ (a : Arena). contents a) c.in-Err.ensures.0) c.refused.ensures in
    of_source (λ t. Loads t (Err c.refused.result)) _ _ c.in_ok-bytes.bytes.items bytes.whole (Loads-faulty _ (contents c.in_ok-module.module) c.refused.result few reads fault)

pub returns-in-Ok-clause-loads : goal.returns-in-Ok-clause-loads
returns-in-Ok-clause-loads g c =
    let bytes = c.in_ok-bytes.ensures in
    let few : length c.in_ok-bytes.bytes.items ≤ source_limit = omega (arith, bytes.count.0) in
    let text : c.deref.result.now ≡ c.in_ok-bytes.bytes.items = c.deref.ensures.value in
    let reads = rw text at c.in_ok-module.ensures.ok in
    let R : Arena → Type 0 = λ a. Reads c.in_ok-bytes.bytes.items (contents a) in
    let F : Arena → Type 0 = λ a. IsFaultless (contents a) in
    let same = c.in-Ok.ensures.0 in
    of_source (λ t. Loads t (Ok c.in-Ok.verified)) _ _ c.in_ok-bytes.bytes.items bytes.whole
    (Loads-done _ c.in-Ok.verified few (subst R (sym same) reads) (subst F (sym same) c.in-Ok.ensures.1))
