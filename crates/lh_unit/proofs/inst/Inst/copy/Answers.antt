use Rattle.std.proofs.Common.{◌≡◌, ◌∙◌, ap, sym, Result, IfOk}
use Rattle.std.proofs.lemmas.Result.{IfOk-from_err}
use Rattle.lh_types.specs.declared.memory.NoMemory.{NoMemory}
use Rattle.lh_unit.specs.declared.inst.Inst.{Inst}
use Rattle.lh_unit.specs.declared.inst.Inst.TheVariants as inst
use Rattle.lh_unit.proofs.inst.Inst.copy.Goals as goal

-- a copy of what the instruction is
copied : (r : Result Inst NoMemory) (old i : Inst) → old ≡ i → IfOk r (λ x. x ≡ i) → IfOk r (λ x. x ≡ old)
copied r old i e h = rw e h

pub returns-in_err-copy-in-Const : goal.returns-in_err-copy-in-Const
returns-in_err-copy-in-Const c = IfOk-from_err _ _ c.from_residual.ensures.0

pub returns-in_err-copy-in-Var : goal.returns-in_err-copy-in-Var
returns-in_err-copy-in-Var c = IfOk-from_err _ _ c.from_residual-in_err-copy-in-Var.ensures.0

pub returns-in_err-copy-in-Ld : goal.returns-in_err-copy-in-Ld
returns-in_err-copy-in-Ld c = IfOk-from_err _ _ c.from_residual-in_err-copy-in-Ld.ensures.0

pub returns-in_err-copy-in-Sig : goal.returns-in_err-copy-in-Sig
returns-in_err-copy-in-Sig c = IfOk-from_err _ _ c.from_residual-in_err-copy-in-Sig.ensures.0

pub returns-in_err-copy-in-Prb : goal.returns-in_err-copy-in-Prb
returns-in_err-copy-in-Prb c = IfOk-from_err _ _ c.from_residual-in_err-copy-in-Prb.ensures.0

pub returns-in_ok-copy-in-Const : goal.returns-in_ok-copy-in-Const
returns-in_ok-copy-in-Const c = ap inst.Const c.in_ok-copy-in-Const.ensures ∙ sym c.in-Const.is

pub returns-in-Pure : goal.returns-in-Pure
returns-in-Pure c = copied _ _ _ c.in-Pure.is c.copy_pure.ensures

pub returns-in_ok-copy-in-Var : goal.returns-in_ok-copy-in-Var
returns-in_ok-copy-in-Var c = ap inst.Var c.in_ok-copy-in-Var.ensures ∙ sym c.in-Var.is

pub returns-in_ok-copy-in-Ld : goal.returns-in_ok-copy-in-Ld
returns-in_ok-copy-in-Ld c = ap inst.Ld c.in_ok-copy-in-Ld.ensures ∙ sym c.in-Ld.is

pub returns-in-St : goal.returns-in-St
returns-in-St c = copied _ _ _ c.in-St.is c.copy_st.ensures

pub returns-in_ok-copy-in-Sig : goal.returns-in_ok-copy-in-Sig
returns-in_ok-copy-in-Sig c = ap inst.Sig c.in_ok-copy-in-Sig.ensures ∙ sym c.in-Sig.is

pub returns-in_ok-copy-in-Prb : goal.returns-in_ok-copy-in-Prb
returns-in_ok-copy-in-Prb c = ap inst.Prb c.in_ok-copy-in-Prb.ensures ∙ sym c.in-Prb.is

pub returns-in-Drv : goal.returns-in-Drv
returns-in-Drv c = copied _ _ _ c.in-Drv.is c.copy_drv.ensures

pub returns-in-Reg : goal.returns-in-Reg
returns-in-Reg c = copied _ _ _ c.in-Reg.is c.copy_reg.ensures

pub returns-in-Child : goal.returns-in-Child
returns-in-Child c = copied _ _ _ c.in-Child.is c.copy_child.ensures

pub returns-in-Call : goal.returns-in-Call
returns-in-Call c = copied _ _ _ c.in-Call.is c.copy_call.ensures

pub returns-in-Phi : goal.returns-in-Phi
returns-in-Phi c = copied _ _ _ c.in-Phi.is c.copy_phi.ensures

pub returns-in-Br : goal.returns-in-Br
returns-in-Br c = sym c.in-Br.is

pub returns-in-Branch : goal.returns-in-Branch
returns-in-Branch c = sym c.in-Branch.is

pub returns-in-Wait : goal.returns-in-Wait
returns-in-Wait c = copied _ _ _ c.in-Wait.is c.copy_wait.ensures

pub returns-in-Halt : goal.returns-in-Halt
returns-in-Halt c = sym c.in-Halt.is

pub returns-in-Ret : goal.returns-in-Ret
returns-in-Ret c = copied _ _ _ c.in-Ret.is c.copy_ret.ensures
