use Rattle.std.proofs.Common.{refl}
use Rattle.lh_lower.proofs.LoweredItems.{unit-within, unit-begun, copies-same, begun-there, can-add, kept-lowers}
use Rattle.lh_lower.proofs.lowering.Lowering.take_unit.Goals as goal

pub is_process-requires : goal.is_process-requires
is_process-requires c = unit-within c.args.self.now c.args.unit c.requires.next

pub keep-requires-clause-defined : goal.keep-requires-clause-defined
keep-requires-clause-defined c = begun-there c.args.self.now c.args.unit c.requires.next

pub keep-requires-clause-can : goal.keep-requires-clause-can
keep-requires-clause-can c = can-add c.args.self.now c.args.unit c.requires.next

pub returns-else-is_process-clause-lowers : goal.returns-else-is_process-clause-lowers
returns-else-is_process-clause-lowers c =
    let l = c.args.self.now in let u = c.args.unit in let n = c.requires.next in
    kept-lowers l _ u n.lowering.sound c.keep.result refl refl c.keep.ensures.from refl (unit-begun l u n) (λ p. (let q = c.if-is_process.ensures.1 p in absurd cc)) c.keep.ensures.copies
    (copies-same l u n)
