use Rattle.std.proofs.Common.{◌<◌, ◌-◌, nat_eq, length, refl, arith}
use Rattle.std.specs.HashSet as hash
use Rattle.lh_term.specs.Reach.{operands_of}
use Rattle.lh_edge.specs.Atoms.{contains_past}
use Rattle.lh_edge.proofs.Found.{id_get}
use Rattle.lh_edge.proofs.Told.{tells_next, tells_more}
use Rattle.lh_edge.proofs.pasts.pasts_among.Goals as goal

pub note_past-requires-clause-is_in : goal.note_past-requires-clause-is_in
note_past-requires-clause-is_in c =
    let l : c.loop-k.k - 1 < length c.args.made_of.now = omega (arith, c.loop-k-test.true, c.loop-k.invariant.within) in
    id_get (length c.args.terms.now) c.args.made_of.now (c.loop-k.k - 1) (record { 0 = 0 }) l c.requires.are_in

pub note_past-requires-clause-tells : goal.note_past-requires-clause-tells
note_past-requires-clause-tells c =
    tells_next c.args.terms.now contains_past operands_of (hash.contains nat_eq c.loop-k.pasts) c.args.made_of.now c.loop-k.k (record { 0 = 0 }) c.requires.go_on c.loop-k-test.true c.loop-k.invariant.within
    c.loop-k.invariant.told

pub loop-k-preserved : goal.loop-k-preserved
loop-k-preserved c = record {
  within = omega (arith, c.loop-k.invariant.within);
  told = tells_more c.args.terms.now contains_past (hash.contains nat_eq c.loop-k.pasts) (hash.contains nat_eq c.note_past.new.pasts) c.args.made_of.now c.loop-k.k (record { 0 = 0 }) _ c.loop-k-test.true
      c.loop-k.invariant.within refl c.in_ok-note_past.ensures.told c.loop-k.invariant.told;
}
