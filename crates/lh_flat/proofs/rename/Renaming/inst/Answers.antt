use Rattle.std.proofs.Common.{◌≡◌, ◌∙◌, ap, sym, subst, refl, Result, IfOk}
use Rattle.std.proofs.lemmas.Result.{IfOk-from_err}
use Rattle.lh_types.specs.declared.memory.NoMemory.{NoMemory}
use Rattle.lh_unit.specs.Within.{InstWithin}
use Rattle.lh_unit.specs.declared.inst.Inst.{Inst}
use Rattle.lh_unit.specs.declared.inst.Inst.TheVariants as inst
use Rattle.lh_unit.proofs.Within.{Each-more}
use Rattle.lh_flat.specs.Renames.{renamed, sizes_in, max_units}
use Rattle.lh_flat.specs.declared.rename.Renaming.{Renaming}
use Rattle.lh_flat.proofs.rename.Renaming.inst.Goals as goal

-- what is known and said of an instruction, where its form is told
within : (r : Renaming) (old i : Inst) → old ≡ i → InstWithin (sizes_in max_units r) old → InstWithin (sizes_in max_units r) i
within r old i e w = subst (InstWithin (sizes_in max_units r)) e w

made : (r : Renaming) (old i x : Inst) → old ≡ i → x ≡ renamed r i → x ≡ renamed r old
made r old i x e h = h ∙ ap (renamed r) (sym e)

answered : (r : Renaming) (old i : Inst) (a : Result Inst NoMemory) → old ≡ i → IfOk a (λ x. x ≡ renamed r i) → IfOk a (λ x. x ≡ renamed r old)
answered r old i a e h = rw e h

pub pure_inst-requires : goal.pure_inst-requires
pure_inst-requires c = within c.args.self.now _ _ c.in-Pure.is c.requires

pub returns-in_err-copy-in-Const : goal.returns-in_err-copy-in-Const
returns-in_err-copy-in-Const c = IfOk-from_err _ _ c.from_residual.ensures.0

pub returns-in_ok-copy-in-Const : goal.returns-in_ok-copy-in-Const
returns-in_ok-copy-in-Const c = made c.args.self.now _ _ _ c.in-Const.is (ap inst.Const c.in_ok-copy-in-Const.ensures)

pub operand-requires : goal.operand-requires
operand-requires c = within c.args.self.now _ _ c.in-Var.is c.requires

pub returns-in_err-operand-in-Var : goal.returns-in_err-operand-in-Var
returns-in_err-operand-in-Var c = IfOk-from_err _ _ c.from_residual-in_err-operand-in-Var.ensures.0

pub returns-in_ok-operand-in-Var : goal.returns-in_ok-operand-in-Var
returns-in_ok-operand-in-Var c = made c.args.self.now _ _ _ c.in-Var.is (ap inst.Var c.in_ok-operand-in-Var.ensures)

pub operand-requires-in-Ld : goal.operand-requires-in-Ld
operand-requires-in-Ld c = within c.args.self.now _ _ c.in-Ld.is c.requires

pub returns-in_err-operand-in-Ld : goal.returns-in_err-operand-in-Ld
returns-in_err-operand-in-Ld c = IfOk-from_err _ _ c.from_residual-in_err-operand-in-Ld.ensures.0

pub returns-in_ok-operand-in-Ld : goal.returns-in_ok-operand-in-Ld
returns-in_ok-operand-in-Ld c = made c.args.self.now _ _ _ c.in-Ld.is (ap inst.Ld c.in_ok-operand-in-Ld.ensures)

pub operand-requires-in-Prb : goal.operand-requires-in-Prb
operand-requires-in-Prb c = within c.args.self.now _ _ c.in-Prb.is c.requires

pub returns-in_err-operand-in-Prb : goal.returns-in_err-operand-in-Prb
returns-in_err-operand-in-Prb c = IfOk-from_err _ _ c.from_residual-in_err-operand-in-Prb.ensures.0

pub returns-in_ok-operand-in-Prb : goal.returns-in_ok-operand-in-Prb
returns-in_ok-operand-in-Prb c = made c.args.self.now _ _ _ c.in-Prb.is (ap inst.Prb c.in_ok-operand-in-Prb.ensures)

pub returns-in-Pure : goal.returns-in-Pure
returns-in-Pure c = answered c.args.self.now _ _ _ c.in-Pure.is c.pure_inst.ensures

pub st-requires : goal.st-requires
st-requires c = let w = (within c.args.self.now _ _ c.in-St.is c.requires) in record { to = w.0; value = w.1 }

pub drv-requires : goal.drv-requires
drv-requires c = let w = (within c.args.self.now _ _ c.in-Drv.is c.requires) in record { to = w.0; value = w.1; after = w.2; cond = w.3 }

pub call-requires : goal.call-requires
call-requires c = (within c.args.self.now _ _ c.in-Call.is c.requires).1

pub phi-requires : goal.phi-requires
phi-requires c = Each-more _ _ c.in-Phi.edges (λ e w. w.0) (within c.args.self.now _ _ c.in-Phi.is c.requires)

pub wait-requires : goal.wait-requires
wait-requires c = let w = (within c.args.self.now _ _ c.in-Wait.is c.requires) in record { after = w.1; signals = w.2 }

pub value-requires : goal.value-requires
value-requires c = (within c.args.self.now _ _ c.in-Branch.is c.requires).0

pub returns-in-St : goal.returns-in-St
returns-in-St c = answered c.args.self.now _ _ _ c.in-St.is c.st.ensures

pub returns-in-Drv : goal.returns-in-Drv
returns-in-Drv c = answered c.args.self.now _ _ _ c.in-Drv.is c.drv.ensures

pub returns-in-Call : goal.returns-in-Call
returns-in-Call c = answered c.args.self.now _ _ _ c.in-Call.is c.call.ensures

pub returns-in-Phi : goal.returns-in-Phi
returns-in-Phi c = answered c.args.self.now _ _ _ c.in-Phi.is c.phi.ensures

pub returns-in-Wait : goal.returns-in-Wait
returns-in-Wait c = answered c.args.self.now _ _ _ c.in-Wait.is c.wait.ensures

pub returns-in-Br : goal.returns-in-Br
returns-in-Br c = made c.args.self.now _ _ _ c.in-Br.is (ap inst.Br c.first.ensures)

pub returns-in-Branch : goal.returns-in-Branch
returns-in-Branch c = made c.args.self.now _ _ _ c.in-Branch.is (λ i. inst.Branch (c.value.ensures i) (c.first-in-Branch.ensures i) (c.first-in-Branch-2.ensures i))

pub returns-in-Halt : goal.returns-in-Halt
returns-in-Halt c = made c.args.self.now _ _ _ c.in-Halt.is refl

pub returns-in-Ret : goal.returns-in-Ret
returns-in-Ret c = made c.args.self.now _ _ _ c.in-Ret.is refl
