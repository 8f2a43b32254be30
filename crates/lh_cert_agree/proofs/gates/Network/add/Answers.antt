use Rattle.std.proofs.Common.{◌≡◌, ℕ, length, arith, nat_eq, Some, if◌then◌else◌, ap, ◌∙◌}
use Rattle.std.specs.HashMap as hash
use Rattle.lh_term.specs.Arena.{trees_at}
use Rattle.lh_cert_agree.proofs.Gating.{gates_next}
use Rattle.lh_cert_agree.proofs.gates.Network.add.Goals as goal

pub returns-clause-gates : goal.returns-clause-gates
returns-clause-gates c =
    let e : c.len-place.result ≡ length c.args.self.now.gates.items = omega (arith, c.len-place.ensures) in
    gates_next c.args.terms.now (trees_at c.args.terms.now c.args.atoms.now) c.args.self.now.gates.items (hash.get nat_eq c.args.self.now.places) c.args.x c.gate_of-gate.result c.push.new.self.items
    (hash.get nat_eq c.insert.new.self) c.requires.gates c.gate_of-gate.ensures c.in_ok-push.ensures.items (λ q. c.in_ok-insert.ensures.updates.0 q ∙ ap (λ (p : ℕ). if nat_eq c.args.x.0 q then Some p else hash.get nat_eq c.args.self.now.places q) e)
