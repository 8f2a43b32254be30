use Rattle.std.proofs.Common.{◌∙◌, ◌/◌, ◌^◌, sym, arith, length}
use Rattle.lh_term.specs.Arena.{tree_at, trees}
use Rattle.lh_cert_agree.proofs.Gating.{atom_next, rest_length, rest_below, atom_none}
use Rattle.lh_cert_agree.proofs.gates.atom_gate.Goals as goal

pub loop-left-preserved : goal.loop-left-preserved
loop-left-preserved c = record {
  within = rest_below (length c.args.terms.now) c.loop-left.left.now c.in-len1-up.len_at_least c.loop-left.invariant.within;
  counted = omega (arith, c.loop-left.invariant.counted, rest_length c.loop-left.left.now c.in-len1-up.len_at_least);
  same = atom_next c.args.terms.now c.args.atoms.now c.loop-left.left.now c.args.x (record { 0 = 0 }) c.loop-left.j c.in-len1-up.len_at_least (sym c.same.ensures ∙ c.if-same.false)
      c.loop-left.invariant.same;
}

pub returns : goal.returns
returns c = λ n bits. atom_none c.args.terms.now c.loop-left.left.now (n / 2 ^ c.loop-left.j) (tree_at (trees c.args.terms.now) c.args.x) c.in_default.len_below ∙ c.loop-left.invariant.same n
