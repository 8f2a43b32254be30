use Rattle.std.proofs.Common.{◌≡◌, ◌<◌, Some, sym, ◌∙◌, ap, subst, length, rules, arith}
use Rattle.std.proofs.lemmas.Result.{err_from_is_err_and}
use Rattle.lh_read_pieces.specs.Pieces.{parts_at}
use Rattle.lh_read_pieces.specs.Shorter.{punct_at-shorter}
use Rattle.lh_read_pieces.proofs.Found.{ReadsAsFound-without}
use Rattle.lh_read_pieces.proofs.Lists.{At, At-none, At-next, At-end}
use Rattle.lh_read_pieces.proofs.list.parts.Goals as goal

pub loop-parts-preserved : goal.loop-parts-preserved
loop-parts-preserved g c =
    let e : g.P.ListPart.part_at c.loop-parts.rest ≡ Some (c.in_ok-part.part, c.in_ok-part.more) = search rules in
    let l : length c.in_ok-part.more < length c.loop-parts.rest = search rules in
    subst (At g.P.ListPart.part_at c.args.tokens.now c.in-Some.next) (sym c.in_ok-push.ensures.ok)
    (At-next g.P.ListPart.part_at c.args.tokens.now c.loop-parts.rest c.in_ok-part.more c.in-Some.next c.loop-parts.parts c.in_ok-part.part c.loop-parts.invariant e l (sym c.in-Some.ensures))

pub returns-in_err-part : goal.returns-in_err-part
returns-in_err-part g c =
    let p = err_from_is_err_and c.from_residual.result c.from_residual.ensures.1 in
    rw (p.1, p.2) (ReadsAsFound-without _ (g.P.ListPart.part_at c.loop-parts.rest) (parts_at g.P.ListPart.part_at (length c.args.tokens.now) c.args.tokens.now) c.in_err-part.ensures
    (At-none g.P.ListPart.part_at c.args.tokens.now c.loop-parts.rest c.loop-parts.parts c.loop-parts.invariant))

pub returns-in-None : goal.returns-in-None
returns-in-None g c =
    let e : g.P.ListPart.part_at c.loop-parts.rest ≡ Some (c.in_ok-part.part, c.in_ok-part.more) = search rules in
    let l : length c.in_ok-part.more < length c.loop-parts.rest = search rules in
    ap (λ xs. Some (xs, c.in_ok-part.more)) c.in_ok-push.ensures.ok
    ∙ sym (At-end g.P.ListPart.part_at c.args.tokens.now c.loop-parts.rest c.in_ok-part.more c.loop-parts.parts c.in_ok-part.part c.loop-parts.invariant e l (sym c.in-None.ensures))

pub loop-parts-smaller : goal.loop-parts-smaller
loop-parts-smaller g c =
    let l : length c.in_ok-part.more < length c.loop-parts.rest = search rules in
    let n : length c.in-Some.next < length c.in_ok-part.more = punct_at-shorter 44 c.in_ok-part.more c.in-Some.next (sym c.in-Some.ensures) in
    omega arith
