use Rattle.std.proofs.lemmas.Result.{IfErr-weaker, on_ok_weaker}
use Rattle.lh_region_joins.proofs.Conditions.{grows-none}
use Rattle.lh_region_def.specs.Rows as text
use Rattle.lh_region_walk.specs.Walked.{EndsLine, EndsFor}
use Rattle.lh_region_walk.specs.Leaving.{EndsThere, LeadsThere, LeadsNot, Branches, BranchesNot, Waits}
use Rattle.lh_region_walk.proofs.Ended.{br-ends, br-ends-not, branch-ends, branch-ends-not, wait-ends, halt-ends, else-ends, asked-test, asked-parts}
use Rattle.lh_region_walk.proofs.walk.Walk.leave.Goals as goal

pub branch-self-requires-clause-test : goal.branch-self-requires-clause-test
branch-self-requires-clause-test c = asked-test c.args.terms.now c.args.region.now c.args.self.now c.args.at c.args.line.now c.requires.can c.in-Branch.cond c.in-Branch.zero c.in-Branch.one
    c.in-Branch.is

pub wait-requires : goal.wait-requires
wait-requires c = asked-parts c.args.terms.now c.args.region.now c.args.self.now c.args.at c.args.line.now c.requires.can c.in-Wait.to c.in-Wait.after c.in-Wait.signals c.in-Wait.is

pub returns-in-Br-clause-left : goal.returns-in-Br-clause-left
returns-in-Br-clause-left c =
    let ns = c.args.terms.now in let r = c.args.region.now in let w = c.args.self.now in let q = c.lead_on.new.self in
    on_ok_weaker {P = LeadsThere ns r w c.args.at c.args.at.cond c.in-Br.to.0 q} {Q = EndsLine ns r w c.args.at c.args.line.now ns q} c.lead_on.result
    (λ x. br-ends ns r w c.args.at c.args.line.now c.in-Br.to q c.in-Br.is x) c.lead_on.ensures.led

pub returns-in-Br-clause-cause : goal.returns-in-Br-clause-cause
returns-in-Br-clause-cause c =
    let ns = c.args.terms.now in let r = c.args.region.now in let w = c.args.self.now in
    IfErr-weaker c.lead_on.result (LeadsNot ns r w c.args.at c.args.at.cond c.in-Br.to.0) (EndsFor ns r w c.args.at c.args.line.now)
    (λ x h. br-ends-not ns r w c.args.at c.args.line.now c.in-Br.to x c.in-Br.is h) c.lead_on.ensures.cause

pub returns-in-Branch-clause-left : goal.returns-in-Branch-clause-left
returns-in-Branch-clause-left c =
    let ns = c.args.terms.now in let ms = c.branch-self.new.terms in let r = c.args.region.now in let w = c.args.self.now in let q = c.branch-self.new.self in let b = c.in-Branch in
    on_ok_weaker {P = Branches ns r w c.args.at b.cond.0 b.zero.0 b.one.0 ms q} {Q = EndsLine ns r w c.args.at c.args.line.now ms q} c.branch-self.result
    (λ x. branch-ends ns r w c.args.at c.args.line.now c.requires.can.below b.cond b.zero b.one ms q b.is x) c.branch-self.ensures.led

pub returns-in-Branch-clause-cause : goal.returns-in-Branch-clause-cause
returns-in-Branch-clause-cause c =
    let ns = c.args.terms.now in let r = c.args.region.now in let w = c.args.self.now in let b = c.in-Branch in
    IfErr-weaker c.branch-self.result (BranchesNot ns r w c.args.at b.cond.0 b.zero.0 b.one.0) (EndsFor ns r w c.args.at c.args.line.now)
    (λ x h. branch-ends-not ns r w c.args.at c.args.line.now c.requires.can.below b.cond b.zero b.one x b.is h) c.branch-self.ensures.cause

pub returns-in-Wait-clause-left : goal.returns-in-Wait-clause-left
returns-in-Wait-clause-left c =
    let ns = c.args.terms.now in let r = c.args.region.now in let w = c.args.self.now in let q = c.wait.new.self in let b = c.in-Wait in
    on_ok_weaker {P = Waits r w c.args.at b.to.0 c.is_some.result b.signals q} {Q = EndsLine ns r w c.args.at c.args.line.now ns q} c.wait.result
    (λ x. wait-ends ns r w c.args.at c.args.line.now c.requires.can.below b.to b.after b.signals c.is_some.result q c.is_some.ensures b.is x) c.wait.ensures.ended

pub returns-in-Halt-clause-left : goal.returns-in-Halt-clause-left
returns-in-Halt-clause-left c =
    let ns = c.args.terms.now in let r = c.args.region.now in let w = c.args.self.now in let q = c.end_there.new.self in
    on_ok_weaker {P = EndsThere w c.args.at c.args.at.cond text.halts q} {Q = EndsLine ns r w c.args.at c.args.line.now ns q} c.end_there.result (λ x. halt-ends ns r w c.args.at c.args.line.now q c.in-Halt.is x)
    c.end_there.ensures.ended

pub returns-in_default : goal.returns-in_default
returns-in_default c =
    let d = c.in_default in
    record {
      kept = grows-none c.args.terms.now;
      left = else-ends c.args.terms.now c.args.region.now c.args.self.now c.args.at c.args.line.now c.args.self.now c.requires.last d.not-Br d.not-Branch d.not-Wait d.not-Halt;
      cause = tt;
    }

pub returns-in-Br-clause-kept : goal.returns-in-Br-clause-kept
returns-in-Br-clause-kept c = grows-none c.args.terms.now

pub returns-in-Branch-clause-kept : goal.returns-in-Branch-clause-kept
returns-in-Branch-clause-kept c = c.branch-self.ensures.kept

pub returns-in-Wait-clause-kept : goal.returns-in-Wait-clause-kept
returns-in-Wait-clause-kept c = grows-none c.args.terms.now

pub returns-in-Halt-clause-kept : goal.returns-in-Halt-clause-kept
returns-in-Halt-clause-kept c = grows-none c.args.terms.now
