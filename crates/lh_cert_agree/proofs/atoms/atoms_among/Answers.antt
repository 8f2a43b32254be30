use Rattle.std.proofs.Common.{◌<◌, ◌≤◌, length, arith}
use Rattle.lh_edge.proofs.Found.{id_get}
use Rattle.lh_cert_agree.proofs.Found.{found_turn, finds_all}
use Rattle.lh_cert_agree.proofs.atoms.atoms_among.Goals as goal

pub add_atom-requires-clause-is_in : goal.add_atom-requires-clause-is_in
add_atom-requires-clause-is_in c =
    let l : c.loop-x.x-index < length c.args.joined.now = omega arith in
    id_get (length c.args.terms.now) c.args.joined.now c.loop-x.x-index (record { 0 = 0 }) l c.requires.are_in

pub returns-then-len-gt-MAX_ATOMS : goal.returns-then-len-gt-MAX_ATOMS
returns-then-len-gt-MAX_ATOMS c =
    let l : c.loop-x.x-index < length c.args.joined.now = omega arith in
    let n = found_turn c.args.terms.now c.args._a c.args._b c.args.joined.now c.requires c.loop-x.found.items c.add_atom.new.found.items c.loop-x.x-index (record { 0 = 0 }) l
    c.loop-x.invariant.so_far c.in_ok-add_atom.ensures in
    let more : 12 < length c.add_atom.new.found.items = omega (arith, c.if-len-gt-MAX_ATOMS.true, c.len.ensures) in
    (c.add_atom.new.found.items, n.of, more)

pub loop-x-preserved : goal.loop-x-preserved
loop-x-preserved c =
    let l : c.loop-x.x-index < length c.args.joined.now = omega arith in
    record {
      so_far = found_turn c.args.terms.now c.args._a c.args._b c.args.joined.now c.requires c.loop-x.found.items c.add_atom.new.found.items c.loop-x.x-index (record { 0 = 0 }) l
          c.loop-x.invariant.so_far c.in_ok-add_atom.ensures;
      few = omega (arith, c.if-len-gt-MAX_ATOMS.false, c.len.ensures);
    }

pub returns : goal.returns
returns c =
    let n : length c.args.joined.now ≤ c.loop-x.x-index = omega arith in
    finds_all c.args.terms.now c.args._a c.args._b c.args.joined.now c.requires c.loop-x.found.items c.loop-x.x-index n c.loop-x.invariant.few c.loop-x.invariant.so_far
