use Rattle.std.proofs.Common.{◌≡◌, ◌+◌, ◌-◌, ◌*◌, ◌%◌, ◌^◌, ◌≤◌, ℕ, arith, subst}
use Rattle.lh_cert_agree.proofs.Gating.{blocks_enough, one_block}
use Rattle.lh_cert_agree.proofs.agreement.blocks.Goals as goal

pub returns-then-atoms-gt6 : goal.returns-then-atoms-gt6
returns-then-atoms-gt6 c =
    let e : 6 + (c.args.atoms - 6) ≡ c.args.atoms = omega (arith, c.if-atoms-gt6.true) in
    subst (λ (n : ℕ). 2 ^ n ≤ 64 * (1 * 2 ^ (c.args.atoms - 6) % 18446744073709551616)) e (blocks_enough (c.args.atoms - 6) (omega (arith, c.requires)))

pub returns-else-atoms-gt6 : goal.returns-else-atoms-gt6
returns-else-atoms-gt6 c = one_block c.args.atoms (omega (arith, c.if-atoms-gt6.false))
