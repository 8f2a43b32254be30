use Rattle.std.proofs.Common.{[], length, slice_index_or, subst, arith}
use Rattle.lh_lower_copy.specs.Named.{NamesValues}
use Rattle.lh_lower_copy.proofs.Bodies.{body-undefined, body-args, body-named, body-within, body-fit, body-put}
use Rattle.lh_lower_copy.proofs.entities.put_body.Goals as goal

pub begin-requires-clause-undefined : goal.begin-requires-clause-undefined
begin-requires-clause-undefined c = body-undefined c.args.from.now c.args.m.now c.args.unit c.args.body c.requires.there c.requires.units c.requires.body (omega arith) c.name_all.new.m
    (subst (λ ns. NamesValues c.args.m.now c.name_all.new.m c.args.unit.0 (length ns) (λ k. slice_index_or ns k [])) c.as_slice.ensures c.in_ok-name_all.ensures) c.requires.undefined

pub put_args-requires-clause-named : goal.put_args-requires-clause-named
put_args-requires-clause-named c = body-named c.args.from.now c.args.m.now c.args.unit c.args.body c.requires.there c.requires.units c.requires.body (omega arith) c.name_all.new.m
    (subst (λ ns. NamesValues c.args.m.now c.name_all.new.m c.args.unit.0 (length ns) (λ k. slice_index_or ns k [])) c.as_slice.ensures c.in_ok-name_all.ensures) c.begin.new.m c.in_ok-begin.ensures

pub put_args-requires-clause-fit : goal.put_args-requires-clause-fit
put_args-requires-clause-fit c = body-args c.args.from.now c.args.m.now c.args.unit c.args.body c.requires.there c.requires.units c.requires.body (omega arith) c.name_all.new.m
    (subst (λ ns. NamesValues c.args.m.now c.name_all.new.m c.args.unit.0 (length ns) (λ k. slice_index_or ns k [])) c.as_slice.ensures c.in_ok-name_all.ensures) c.begin.new.m c.in_ok-begin.ensures

pub put_lines-requires-clause-within : goal.put_lines-requires-clause-within
put_lines-requires-clause-within c = body-within c.args.from.now c.args.m.now c.args.unit c.args.body c.requires.there c.requires.units c.requires.body (omega arith) c.name_all.new.m
    (subst (λ ns. NamesValues c.args.m.now c.name_all.new.m c.args.unit.0 (length ns) (λ k. slice_index_or ns k [])) c.as_slice.ensures c.in_ok-name_all.ensures) c.begin.new.m c.in_ok-begin.ensures
    c.put_args.new.m c.in_ok-put_args.ensures

pub put_lines-requires-clause-fit : goal.put_lines-requires-clause-fit
put_lines-requires-clause-fit c = body-fit c.args.from.now c.args.m.now c.args.unit c.args.body c.requires.there c.requires.units c.requires.body (omega arith) c.name_all.new.m
    (subst (λ ns. NamesValues c.args.m.now c.name_all.new.m c.args.unit.0 (length ns) (λ k. slice_index_or ns k [])) c.as_slice.ensures c.in_ok-name_all.ensures) c.begin.new.m c.in_ok-begin.ensures
    c.put_args.new.m c.in_ok-put_args.ensures

pub returns : goal.returns
returns c = body-put c.args.from.now c.args.m.now c.args.unit c.args.body c.requires.there c.requires.units c.requires.body (omega arith) c.name_all.new.m
    (subst (λ ns. NamesValues c.args.m.now c.name_all.new.m c.args.unit.0 (length ns) (λ k. slice_index_or ns k [])) c.as_slice.ensures c.in_ok-name_all.ensures) c.begin.new.m c.in_ok-begin.ensures
    c.put_args.new.m c.in_ok-put_args.ensures c.put_lines.result c.put_lines.new.m c.put_lines.ensures
