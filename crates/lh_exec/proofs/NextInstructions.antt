-- Past the instruction that comes next.
use Rattle.std.proofs.Common.{◌≡◌, ℕ, ◌+◌, ◌<◌, ◌≤◌, List, ◌∷◌, length, map, drop, get_or, Option, Result, IfOk, refl, ap, sym, ◌∙◌, subst}
use Rattle.std.proofs.lemmas.List.{drop_all, drop_more}
use Rattle.lh_types.specs.declared.memory.NoMemory.{NoMemory}
use Rattle.lh_unit.specs.Contents.{LineText, UnitText}
use Rattle.lh_unit.specs.Activation.{Scene, Point, executes, steps_by, step}
use Rattle.lh_unit.specs.Arena.{Arena, IsArena, contents, naming, table_at, block_insts_at, unit_text_at, inst_count, value_count, result_at, inst_at, unit_count}
use Rattle.lh_unit.specs.ById.{inst_line_text}
use Rattle.lh_unit.specs.Held.{Held}
use Rattle.lh_unit.specs.Naming.{inst_text, maybe_text}
use Rattle.lh_unit.specs.Within.{Each}
use Rattle.lh_unit.specs.declared.inst.InstId.{InstId}
use Rattle.lh_unit.specs.declared.inst.ValueId.{ValueId}
use Rattle.lh_unit.specs.declared.inst.Inst.{Inst}
use Rattle.lh_unit.proofs.ById.{result-within}
use Rattle.lh_eval.specs.Holding.{MaybeIn}
use Rattle.lh_eval.proofs.BeginSteps.{maybe-in}
use Rattle.lh_exec.specs.declared.machine.Machine.{Machine}
use Rattle.lh_exec.specs.declared.machine.Flow.{Flow}
use Rattle.lh_exec.specs.declared.machine.Flow.TheVariants as flow
use Rattle.lh_exec.specs.Standing.{MachineIs, InstLeads}
use Rattle.lh_exec.specs.Sound.{LineRight, MachineFits}
use Rattle.lh_exec.proofs.KeepsFit.{past-of}
use Rattle.lh_exec.proofs.Edges.{insts-within}

-- the result of an instruction has a slot
pub name-in : (a : Arena) (u i : ℕ) (slots : List (Option Held)) (r : Option ValueId) → IsArena a → u < unit_count a → length slots ≡ value_count a u → r ≡ result_at a u i → MaybeIn slots r
name-in a u i slots r o h l e = subst (MaybeIn slots) (sym e) (maybe-in (value_count a u) slots (result_at a u i) l (result-within a u o h i))

module _ (a : Arena) (m : Machine) (p : Point) (k : MachineIs a m p) where
  abbrev insts : List InstId
  insts = block_insts_at a m.frame.unit.0 m.frame.block.0

  abbrev line : InstId → LineText
  line = inst_line_text (naming a m.frame.unit.0) (table_at a m.frame.unit.0)

  abbrev pub past : Point
  past = record p {
    control = record p.control
        { rest = map (inst_line_text (naming a m.frame.unit.0) (table_at a m.frame.unit.0)) (drop (m.frame.next + 1) (block_insts_at a m.frame.unit.0 m.frame.block.0)) };
  }

  pub insts-here : Each (λ (i : InstId). i.0 < inst_count a m.frame.unit.0) (block_insts_at a m.frame.unit.0 m.frame.block.0)
  insts-here = insts-within a m.frame.unit.0 m.frame.block k.arena k.frame.within k.frame.stands

  pub past-is : MachineIs a (record m { frame = record m.frame { next = m.frame.next + 1 } }) past
  past-is = record {
    arena = k.arena;
    frame = record {
      within = k.frame.within;
      has_blocks = k.frame.has_blocks;
      label = k.frame.label;
      stands = k.frame.stands;
      unit = k.frame.unit;
      block = k.frame.block;
      rest = refl;
      held = k.frame.held;
    };
    callers = k.callers;
    wish = k.wish;
    outcomes = k.outcomes;
  }

  -- no instruction is left
  pub no-more : (s : Scene) (n : Machine) → length (block_insts_at a m.frame.unit.0 m.frame.block.0) ≤ m.frame.next → InstLeads a n flow.Lost p.control.unit (step s p)
  no-more s n h =
      subst (λ (ls : List LineText). InstLeads a n flow.Lost p.control.unit (steps_by s p ls))
      (sym (k.frame.rest ∙ ap (map (inst_line_text (naming a m.frame.unit.0) (table_at a m.frame.unit.0))) (drop_all m.frame.next (block_insts_at a m.frame.unit.0 m.frame.block.0) h))) tt

  module _ (d : InstId) (h : m.frame.next < length (block_insts_at a m.frame.unit.0 m.frame.block.0)) where
    abbrev pub id : InstId
    id = get_or (block_insts_at a m.frame.unit.0 m.frame.block.0) m.frame.next d

    pub rest-is : p.control.rest ≡ inst_line_text (naming a m.frame.unit.0) (table_at a m.frame.unit.0) id ∷ past.control.rest
    rest-is = k.frame.rest ∙ ap (map (inst_line_text (naming a m.frame.unit.0) (table_at a m.frame.unit.0))) (drop_more (block_insts_at a m.frame.unit.0 m.frame.block.0) m.frame.next d h)

    -- what the instruction leads to is what the step leads to
    pub stepped : (s : Scene) (n : Machine) (r : Result Flow NoMemory) (i : Inst) (name : Option ValueId) → i ≡ inst_at a m.frame.unit.0 id.0 → name ≡ result_at a m.frame.unit.0 id.0
        → IfOk r (λ fl. InstLeads a n fl p.control.unit (executes s (inst_text (naming a m.frame.unit.0) i) (maybe_text (naming a m.frame.unit.0) name) past))
        → IfOk r (λ fl. InstLeads a n fl p.control.unit (step s p))
    stepped s n r i name e g x =
        subst (λ (ls : List LineText). IfOk r (λ fl. InstLeads a n fl p.control.unit (steps_by s p ls))) (sym rest-is)
        (subst (λ (y : Option ValueId). IfOk r (λ fl. InstLeads a n fl p.control.unit
        (executes s (inst_text (naming a m.frame.unit.0) (inst_at a m.frame.unit.0 id.0)) (maybe_text (naming a m.frame.unit.0) y) past))) g
        (subst (λ (y : Inst). IfOk r (λ fl. InstLeads a n fl p.control.unit (executes s (inst_text (naming a m.frame.unit.0) y) (maybe_text (naming a m.frame.unit.0) name) past))) e x))

-- the instruction that comes next is right, and past it the machine still fits
pub line-right : (a : Arena) (w : ℕ) (m : Machine) (f : MachineFits a w m) (d : InstId) (h : m.frame.next < length (block_insts_at a m.frame.unit.0 m.frame.block.0)) (i : Inst) (name : Option ValueId)
    → let u = m.frame.unit.0 in let id = get_or (block_insts_at a u m.frame.block.0) m.frame.next d in i ≡ inst_at a u id.0 → name ≡ result_at a u id.0
    → LineRight (contents a) (unit_text_at a m.frame.unit.0) (record { result = maybe_text (naming a m.frame.unit.0) name; inst = inst_text (naming a m.frame.unit.0) i })
line-right a w m f d h i name e g =
    let right = (past-of (contents a) w f.unit f.point (inst_line_text (naming a m.frame.unit.0) (table_at a m.frame.unit.0) (id a m f.point f.is d h)) (past a m f.point f.is).control.rest f.fits
    (rest-is a m f.point f.is d h)).right in
    subst (λ (v : UnitText). LineRight (contents a) v (record { result = maybe_text (naming a m.frame.unit.0) name; inst = inst_text (naming a m.frame.unit.0) i })) f.is.frame.unit
    (subst (λ (y : Option ValueId). LineRight (contents a) f.point.control.unit (record { result = maybe_text (naming a m.frame.unit.0) y; inst = inst_text (naming a m.frame.unit.0) i })) (sym g)
    (subst (λ (y : Inst). LineRight (contents a) f.point.control.unit
    (record { result = maybe_text (naming a m.frame.unit.0) (result_at a m.frame.unit.0 (id a m f.point f.is d h).0); inst = inst_text (naming a m.frame.unit.0) y })) (sym e) right))

pub past-fits : (a : Arena) (w : ℕ) (m : Machine) (f : MachineFits a w m) (d : InstId) (h : m.frame.next < length (block_insts_at a m.frame.unit.0 m.frame.block.0))
    → MachineFits a w (record m { frame = record m.frame { next = m.frame.next + 1 } })
past-fits a w m f d h = record {
  unit = f.unit;
  point = past a m f.point f.is;
  is = past-is a m f.point f.is;
  fits = (past-of (contents a) w f.unit f.point (inst_line_text (naming a m.frame.unit.0) (table_at a m.frame.unit.0) (id a m f.point f.is d h)) (past a m f.point f.is).control.rest f.fits
      (rest-is a m f.point f.is d h)).fits;
}
