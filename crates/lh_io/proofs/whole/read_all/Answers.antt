use Rattle.std.proofs.Common.{◌≡◌, ◌≤◌, ◌+◌, Ok, arith, refl, ap, ◌∙◌, vec_len}
use Rattle.std.proofs.lemmas.Grind.{common_steps}
use Rattle.std.proofs.lemmas.List.{length-take-le}
use Rattle.lh_io.proofs.Steps.{ReadSoFar-start, ReadSoFar-told, ReadSoFar-all, TakesBytes-more}
use Rattle.lh_io.proofs.whole.read_all.Goals as goal

pub returns-then-len-n-clause-fault_count : goal.returns-then-len-n-clause-fault_count
returns-then-len-n-clause-fault_count g c =
    let all : vec_len c.turns.bytes + c.in-Ok.n ≡ c.args.limit + 1 = grind (arith, common_steps, c.in-Ok.ensures.within, c.len.ensures, c.min-want.ensures) in
    (c.args.limit + 1, refl, TakesBytes-more _ _ _ _ _ _ _ _ _ _ _ _ c.turns.invariant.read (omega arith) c.turns.invariant.taken c.in-Ok.ensures.bytes c.in-Ok.ensures.counted all)

pub returns-then-is_err-clause-fault_count : goal.returns-then-is_err-clause-fault_count
returns-then-is_err-clause-fault_count g c =
    let few : vec_len c.turns.bytes + c.in-Ok.n ≤ c.args.limit = grind (arith, common_steps) in
    (vec_len c.turns.bytes + c.in-Ok.n, few, TakesBytes-more _ _ _ _ _ _ _ _ _ _ _ _ c.turns.invariant.read (omega arith) c.turns.invariant.taken c.in-Ok.ensures.bytes c.in-Ok.ensures.counted refl)

pub turns-init : goal.turns-init
turns-init g c = record {
  few = omega arith;
  taken = omega arith;
  read = ReadSoFar-start _ _ c.new-bytes.ensures.items;
  never_fall = omega arith;
}

pub overflow_add-limit : goal.overflow_add-limit
overflow_add-limit g c = omega arith

pub overflow_sub-limit : goal.overflow_sub-limit
overflow_sub-limit g c = omega arith

pub returns-in-Err-clause-fault_count : goal.returns-in-Err-clause-fault_count
returns-in-Err-clause-fault_count g c = (
  vec_len c.turns.bytes,
  c.turns.invariant.few,
  record {
    counted = c.in-Err.ensures.failed.1 ∙ c.turns.invariant.taken;
    told = ReadSoFar-told _ _ _ _ _ c.turns.invariant.read (omega arith) c.in-Err.ensures.failed.0;
  },
)

pub returns-in-Err-clause-rose : goal.returns-in-Err-clause-rose
returns-in-Err-clause-rose g c = λ e h. omega (arith, c.in-Err.ensures.rose h, c.turns.invariant.never_fall)

pub returns-then-n-eq0-clause-whole : goal.returns-then-n-eq0-clause-whole
returns-then-n-eq0-clause-whole g c = ReadSoFar-all _ _ _ _ _ _ _ c.turns.invariant.read c.in-Ok.ensures.bytes
    (c.in-Ok.ensures.end (ap Ok c.if-n-eq0.true) (omega (arith, length-take-le c.min-want.result c.turns.room (omega arith))))

pub returns-then-n-eq0-clause-count : goal.returns-then-n-eq0-clause-count
returns-then-n-eq0-clause-count g c = (
  c.turns.invariant.few,
  TakesBytes-more _ _ _ _ _ _ _ _ _ _ _ _ c.turns.invariant.read (omega arith) c.turns.invariant.taken c.in-Ok.ensures.bytes c.in-Ok.ensures.counted
      (omega (arith, c.if-n-eq0.true)),
)
