use Rattle.std.proofs.Common.{◌≡◌, ◌∙◌, map, Result, IfOk, sym, ap, subst}
use Rattle.lh_unit.specs.Contents.{InstText, reg_text, phi_text, wait_text}
use Rattle.lh_unit.specs.Arena.{Arena}
use Rattle.lh_unit.specs.declared.inst.UnitId.{UnitId}
use Rattle.lh_unit.specs.declared.inst.Inst.{Inst}
use Rattle.lh_read_phrases.specs.SyntaxOf.{operand_of, trigger_of, edge_of, inst_of}
use Rattle.lh_read.specs.Placing.{InstPlacedAs}
use Rattle.lh_read.proofs.ids.Resolver.any_instruction.Goals as goal

-- what an arm answers
told : {E : Type 0} (r : Result Inst E) (old new : Arena) (u : UnitId) (x y : InstText) → x ≡ y → IfOk r (λ i. InstPlacedAs old new u i y) → IfOk r (λ i. InstPlacedAs old new u i x)
told r old new u x y e h = subst (λ s. IfOk r (λ i. InstPlacedAs old new u i s)) (sym e) h

pub returns-in-Pure : goal.returns-in-Pure
returns-in-Pure c = told c.pure.result c.args.self.now.module c.pure.new.self.module c.args.unit _ _ (ap inst_of c.in-Pure.is) c.pure.ensures

pub returns-in-Var : goal.returns-in-Var
returns-in-Var c = told c.var.result c.args.self.now.module c.var.new.self.module c.args.unit _ _ (ap inst_of c.in-Var.is) c.var.ensures

pub returns-in-Ld : goal.returns-in-Ld
returns-in-Ld c = told c.ld.result c.args.self.now.module c.ld.new.self.module c.args.unit _ _ (ap inst_of c.in-Ld.is) c.ld.ensures

pub returns-in-St : goal.returns-in-St
returns-in-St c = told c.st.result c.args.self.now.module c.st.new.self.module c.args.unit _ _ (ap inst_of c.in-St.is) c.st.ensures

pub returns-in-Sig : goal.returns-in-Sig
returns-in-Sig c = told c.sig.result c.args.self.now.module c.sig.new.self.module c.args.unit _ _ (ap inst_of c.in-Sig.is) c.sig.ensures

pub returns-in-Prb : goal.returns-in-Prb
returns-in-Prb c = told c.prb.result c.args.self.now.module c.prb.new.self.module c.args.unit _ _ (ap inst_of c.in-Prb.is) c.prb.ensures

pub returns-in-Drv : goal.returns-in-Drv
returns-in-Drv c = told c.drv.result c.args.self.now.module c.drv.new.self.module c.args.unit _ _ (ap inst_of c.in-Drv.is) c.drv.ensures

pub returns-in-Child : goal.returns-in-Child
returns-in-Child c = told c.child.result c.args.self.now.module c.child.new.self.module c.args.unit _ _ (ap inst_of c.in-Child.is) c.child.ensures

pub returns-in-Call : goal.returns-in-Call
returns-in-Call c = told c.call.result c.args.self.now.module c.call.new.self.module c.args.unit _ _ (ap inst_of c.in-Call.is) c.call.ensures

pub returns-in-Br : goal.returns-in-Br
returns-in-Br c = told c.br.result c.args.self.now.module c.br.new.self.module c.args.unit _ _ (ap inst_of c.in-Br.is) c.br.ensures

pub returns-in-Ret : goal.returns-in-Ret
returns-in-Ret c = told c.ret.result c.args.self.now.module c.ret.new.self.module c.args.unit _ _ (ap inst_of c.in-Ret.is) c.ret.ensures

pub returns-in-Reg : goal.returns-in-Reg
returns-in-Reg c =
    told c.reg.result c.args.self.now.module c.reg.new.self.module c.args.unit _ _ (ap inst_of c.in-Reg.is ∙ ap (λ ts. reg_text (operand_of c.in-Reg.to) (map trigger_of ts)) (sym c.as_slice.ensures)) c.reg.ensures

pub returns-in-Phi : goal.returns-in-Phi
returns-in-Phi c =
    told c.phi.result c.args.self.now.module c.phi.new.self.module c.args.unit _ _ (ap inst_of c.in-Phi.is ∙ ap (λ es. phi_text c.in-Phi.ty (map edge_of es)) (sym c.as_slice-in-Phi.ensures)) c.phi.ensures

pub returns-in-Wait : goal.returns-in-Wait
returns-in-Wait c =
    told c.wait.result c.args.self.now.module c.wait.new.self.module c.args.unit _ _ (ap inst_of c.in-Wait.is ∙ ap (λ ns. wait_text c.in-Wait.to c.in-Wait.after ns) (sym c.as_slice-in-Wait.ensures)) c.wait.ensures
