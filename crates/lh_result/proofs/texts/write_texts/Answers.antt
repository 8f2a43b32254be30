use Rattle.std.proofs.Common.{arith}
use Rattle.std.proofs.lemmas.Result.{err_from_is_err_and}
use Rattle.lh_result.proofs.Performances.{Appends_nothing}
use Rattle.lh_result.proofs.Lowerings.{long-text, short-text, out-broke, log-broke, both-written}
use Rattle.lh_result.proofs.texts.write_texts.Goals as goal

pub returns-then-len-gt-SOURCE_LIMIT-clause-writes : goal.returns-then-len-gt-SOURCE_LIMIT-clause-writes
returns-then-len-gt-SOURCE_LIMIT-clause-writes g c = λ file is.
    (long-text file c.args.texts.now is (omega (arith, c.if-len-gt-SOURCE_LIMIT.true, c.len.ensures)), Appends_nothing _, Appends_nothing _)

pub returns-in_err-write_all-clause-writes : goal.returns-in_err-write_all-clause-writes
returns-in_err-write_all-clause-writes g c = λ file is.
    let p = err_from_is_err_and c.from_residual.result c.from_residual.ensures.1 in
    let t = c.args.texts.now in
    let short = short-text file t is (λ l. omega (arith, l, c.if-len-gt-SOURCE_LIMIT.false, c.len.ensures)) in
    rw (p.1, p.2) (out-broke file t _ _ _ _ _ _ c.deref.result.now is short c.deref.ensures.value c.in_err-write_all.ensures.failed c.in_err-write_all.ensures.rose)

pub returns-in_err-write_all-2-clause-writes : goal.returns-in_err-write_all-2-clause-writes
returns-in_err-write_all-2-clause-writes g c = λ file is.
    let p = err_from_is_err_and c.from_residual-in_err-write_all-2.result c.from_residual-in_err-write_all-2.ensures.1 in
    let t = c.args.texts.now in
    let short = short-text file t is (λ l. omega (arith, l, c.if-len-gt-SOURCE_LIMIT.false, c.len.ensures)) in
    rw (p.1, p.2) (log-broke file t _ _ _ _ _ _ _ _ c.deref.result.now c.deref-2.result.now is short c.deref.ensures.value c.in_ok-write_all.ensures.ok c.deref-2.ensures.value
    c.in_err-write_all-2.ensures.failed c.in_err-write_all-2.ensures.rose)

pub returns-clause-writes : goal.returns-clause-writes
returns-clause-writes g c = λ file is.
    let t = c.args.texts.now in
    let short = short-text file t is (λ l. omega (arith, l, c.if-len-gt-SOURCE_LIMIT.false, c.len.ensures)) in
    both-written file t _ _ _ _ c.deref.result.now c.deref-2.result.now is short c.deref.ensures.value c.in_ok-write_all.ensures.ok c.deref-2.ensures.value c.in_ok-write_all-2.ensures.ok
