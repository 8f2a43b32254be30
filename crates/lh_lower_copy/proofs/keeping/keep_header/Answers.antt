use Rattle.lh_lower_copy.proofs.Singly.{is-once}
use Rattle.lh_lower_copy.proofs.Texts.{header-undefined, header-args, header-named, header-type, header-done}
use Rattle.lh_lower_copy.proofs.keeping.keep_header.Goals as goal

pub begin-requires-clause-undefined : goal.begin-requires-clause-undefined
begin-requires-clause-undefined c = header-undefined c.args.from.now c.args.m.now c.args.unit c.args.kind c.requires.sound c.requires.there c.requires.kind c.requires.named
    (is-once c.args.from.now c.args.unit.0 c.requires.sound c.requires.there) c.requires.undefined

pub keep_args-requires-clause-named : goal.keep_args-requires-clause-named
keep_args-requires-clause-named c = header-named c.args.from.now c.args.m.now c.args.unit c.args.kind c.requires.sound c.requires.there c.requires.kind c.requires.named
    (is-once c.args.from.now c.args.unit.0 c.requires.sound c.requires.there) c.begin.new.m c.in_ok-begin.ensures

pub keep_args-requires-clause-fit : goal.keep_args-requires-clause-fit
keep_args-requires-clause-fit c = header-args c.args.from.now c.args.m.now c.args.unit c.args.kind c.requires.sound c.requires.there c.requires.kind c.requires.named
    (is-once c.args.from.now c.args.unit.0 c.requires.sound c.requires.there) c.begin.new.m c.in_ok-begin.ensures

pub keep_type-requires-clause-fits : goal.keep_type-requires-clause-fits
keep_type-requires-clause-fits c =
    header-type c.args.from.now c.args.m.now c.args.unit c.args.kind c.requires.sound c.requires.there c.requires.kind c.requires.named
    (is-once c.args.from.now c.args.unit.0 c.requires.sound c.requires.there) c.begin.new.m c.in_ok-begin.ensures c.keep_args.new.m c.in_ok-keep_args.ensures

pub returns : goal.returns
returns c =
    header-done c.args.from.now c.args.m.now c.args.unit c.args.kind c.requires.sound c.requires.there c.requires.kind c.requires.named
    (is-once c.args.from.now c.args.unit.0 c.requires.sound c.requires.there) c.begin.new.m c.in_ok-begin.ensures c.keep_args.new.m c.in_ok-keep_args.ensures
    c.keep_type.result c.keep_type.new.m c.keep_type.ensures
