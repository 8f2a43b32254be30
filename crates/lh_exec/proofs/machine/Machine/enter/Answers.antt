use Rattle.std.proofs.Common.{◌≡◌, ◌∙◌, ◌<◌, ℕ, true, false, map, ap, sym, subst, refl}
use Rattle.lh_types.specs.Values.{Datum}
use Rattle.lh_unit.specs.Arena.{table_at, inst_count}
use Rattle.lh_unit.specs.Within.{Each}
use Rattle.lh_unit.specs.declared.inst.InstId.{InstId}
use Rattle.lh_unit.specs.declared.inst.ValueId.{ValueId}
use Rattle.lh_exec.specs.Taking.{taken_of, all_taken, TakesValues}
use Rattle.lh_exec.proofs.Edges.{insts-within, taken-names, enters, enters-none}
use Rattle.lh_exec.proofs.machine.Machine.enter.Goals as goal

pub take_phis-requires-clause-insts : goal.take_phis-requires-clause-insts
take_phis-requires-clause-insts c =
    subst (Each (λ (i : InstId). i.0 < inst_count c.args.m.now c.args.self.now.frame.unit.0)) (sym c.insts-insts.ensures.insts)
    (insts-within c.args.m.now c.args.self.now.frame.unit.0 c.args.to c.requires.arena c.requires.unit c.requires.stands)

pub put_taken-requires : goal.put_taken-requires
put_taken-requires c =
    let t : c.in_ok-take_phis.field-0 ≡ true = cc in
    let all = subst (λ b. TakesValues b (map taken_of c.take_phis.new.taken.items)
    (all_taken c.args.self.now.frame.block c.args.self.now.frame.slots (table_at c.args.m.now c.args.self.now.frame.unit.0) c.insts-insts.result.now)) t c.in_ok-take_phis.ensures in
    subst (λ (n : ℕ). Each (λ (x : ValueId × Datum). x.0.0 < n) (map taken_of c.take_phis.new.taken.items)) (sym c.requires.slots)
    (taken-names c.args.m.now c.args.self.now.frame.unit.0 c.requires.arena c.requires.unit c.args.self.now.frame.block c.args.self.now.frame.slots c.insts-insts.result.now
    (map taken_of c.take_phis.new.taken.items) all)

pub returns-then-not-branch : goal.returns-then-not-branch
returns-then-not-branch c = λ p st.
    let t : c.in_ok-take_phis.field-0 ≡ false = cc in
    let none = subst (λ b. TakesValues b (map taken_of c.take_phis.new.taken.items)
    (all_taken c.args.self.now.frame.block c.args.self.now.frame.slots (table_at c.args.m.now c.args.self.now.frame.unit.0) c.insts-insts.result.now)) t c.in_ok-take_phis.ensures in
    enters-none c.args.m.now c.args.self.now p st c.args.to c.requires.to c.requires.stands
    (sym (ap (all_taken c.args.self.now.frame.block c.args.self.now.frame.slots (table_at c.args.m.now c.args.self.now.frame.unit.0)) c.insts-insts.ensures.insts) ∙ none)
    (record { frame = c.args.self.now.frame; callers = c.args.self.now.callers; wishes = c.args.self.now.wishes; outcomes = c.args.self.now.outcomes; taken = c.take_phis.new.taken })

pub returns : goal.returns
returns c = λ p st.
    let t : c.in_ok-take_phis.field-0 ≡ true = cc in
    let all = subst (λ b. TakesValues b (map taken_of c.take_phis.new.taken.items)
    (all_taken c.args.self.now.frame.block c.args.self.now.frame.slots (table_at c.args.m.now c.args.self.now.frame.unit.0) c.insts-insts.result.now)) t c.in_ok-take_phis.ensures in
    enters c.args.m.now c.args.self.now p st c.args.to c.requires.to c.requires.stands (map taken_of c.take_phis.new.taken.items)
    (sym (ap (all_taken c.args.self.now.frame.block c.args.self.now.frame.slots (table_at c.args.m.now c.args.self.now.frame.unit.0)) c.insts-insts.ensures.insts) ∙ all)
    (record {
      frame = record { unit = c.args.self.now.frame.unit; block = c.args.to; next = 0; slots = c.put_taken.new.slots };
      callers = c.args.self.now.callers;
      wishes = c.args.self.now.wishes;
      outcomes = c.args.self.now.outcomes;
      taken = c.put_taken.new.taken;
    })
    (λ i. record { unit = c.args.self.now.frame.unit; block = c.args.to; next = 0; slots = c.put_taken.ensures i }) refl refl refl
