use Rattle.std.proofs.Common.{ℕ, List, ◌∷◌, ◌++◌, codes, decimal, le_trans}
use Rattle.std.proofs.lemmas.Result.{err_from_is_err_and}
use Rattle.lh_unit_names.specs.declared.name.UnitName.{UnitName}
use Rattle.lh_result.specs.StatusLines.{name_of_fault}
use Rattle.lh_result.proofs.Writes.{BreaksOff_first, BreaksOff_second, Puts_second, Puts_regrouped, Appends_more}
use Rattle.lh_result.proofs.status.write_inst_fault.Goals as goal

abbrev unit_part : UnitName → List ℕ
unit_part u = codes "unit " ++ u.sigil ∷ u.name

abbrev inst_part : ℕ → List ℕ
inst_part inst = codes " instruction " ++ decimal inst ++ codes ": "

pub returns-in_err-write_unit-clause-puts : goal.returns-in_err-write_unit-clause-puts
returns-in_err-write_unit-clause-puts g c =
    let p = err_from_is_err_and c.from_residual.result c.from_residual.ensures.1 in
    let u : List ℕ = unit_part c.args.unit.now in
    let i : List ℕ = inst_part c.args.inst in
    let d : List ℕ = decimal c.args.number in
    rw p.1 (BreaksOff_first _ (u ++ i ++ d) (name_of_fault c.args.number) (BreaksOff_first _ (u ++ i) d (BreaksOff_first _ u i c.in_err-write_unit.ensures.puts)))

pub returns-in_err-write_number-clause-puts : goal.returns-in_err-write_number-clause-puts
returns-in_err-write_number-clause-puts g c =
    let p = err_from_is_err_and c.from_residual-in_err-write_number.result c.from_residual-in_err-write_number.ensures.1 in
    let u : List ℕ = unit_part c.args.unit.now in
    let i : List ℕ = inst_part c.args.inst in
    let d : List ℕ = decimal c.args.number in
    let cut = BreaksOff_second _ _ _ _ _ _ u i c.in_ok-write_unit.ensures.puts c.in_ok-write_unit.ensures.never_fall c.in_err-write_number.ensures.puts in
    rw p.1 (BreaksOff_first _ (u ++ i ++ d) (name_of_fault c.args.number) (BreaksOff_first _ (u ++ i) d cut))

pub returns-clause-puts : goal.returns-clause-puts
returns-clause-puts g c =
    let u : List ℕ = unit_part c.args.unit.now in
    let i : List ℕ = inst_part c.args.inst in
    let d : List ℕ = decimal c.args.number in
    let n : List ℕ = name_of_fault c.args.number in
    let both = Appends_more _ _ _ u i c.in_ok-write_unit.ensures.puts c.in_ok-write_number.ensures.puts in
    let last = rw c.fault_name.ensures at c.write_number-2.ensures.puts in
    Puts_regrouped c.write_number-2.result _ (u ++ i) d n
    (Puts_second c.write_number-2.result _ _ _ _ _ _ (u ++ i) (d ++ n) both (le_trans c.in_ok-write_unit.ensures.never_fall c.in_ok-write_number.ensures.never_fall) last)
