use Rattle.std.proofs.Common.{◌≡◌, Some, None, refl, Result, Ok, Err, ap, sym, ◌∙◌, subst}
use Rattle.std.specs.Result.{IsErr}
use Rattle.lh_types.specs.declared.memory.NoMemory.{NoMemory}
use Rattle.lh_unit.specs.Table.{Table, IsTable}
use Rattle.lh_unit.specs.TableCalls.{BeginsTable, begun}
use Rattle.lh_unit.specs.TableOf.{table_of}
use Rattle.lh_unit.specs.declared.inst.UnitKind.{UnitKind}
use Rattle.lh_unit.proofs.Tables.{IsTable-begun, Definitions-same}
use Rattle.lh_unit.proofs.table.UnitTable.begin.Goals as goal

-- where memory runs out nothing is begun
not-begun : (r : Result (Unit {0}) NoMemory) (old new : Table) (k : UnitKind) → IsErr r → new ≡ old → BeginsTable r old new k
not-begun (Ok x) old new k e p = cc
not-begun (Err x) old new k e p = p

missing : (old now : Table) → old ≡ now → now.kind ≡ None → old.kind ≡ None
missing old now e k = subst (λ (t : Table). t.kind ≡ None) (sym e) k

func : (c : goal.After-self-1) → (record (table_of c.self.inside) { kind = Some c.args.kind; result = c.put_type.new.place }) ≡ begun (table_of c.self.inside) c.args.kind
func c = (λ i. record (table_of c.self.inside) { kind = Some (c.in-Func.is i); result = (c.put_type.ensures ∙ ap Some c.void.ensures) i }) ∙ ap (begun (table_of c.self.inside)) (sym c.in-Func.is)

pub invariant_of-self : goal.invariant_of-self
invariant_of-self c = (
  subst IsTable (sym (func c)) (IsTable-begun (table_of c.self.inside) c.args.kind (missing _ _ c.self.view_is c.requires) c.self.invariant.0),
  Definitions-same (table_of c.self.inside) _ _ refl refl refl c.self.invariant.1,
)

pub returns-in-Func : goal.returns-in-Func
returns-in-Func c = func c ∙ ap (λ (t : Table). begun t c.args.kind) c.self.view_is

proc : (c : goal.After-self-in-Proc-1) → (record (table_of c.self.inside) { kind = Some c.args.kind }) ≡ begun (table_of c.self.inside) c.args.kind
proc c = (λ i. record (table_of c.self.inside) { kind = Some (c.in-Proc.is i) }) ∙ ap (begun (table_of c.self.inside)) (sym c.in-Proc.is)

pub invariant_of-self-in-Proc : goal.invariant_of-self-in-Proc
invariant_of-self-in-Proc c = (
  subst IsTable (sym (proc c)) (IsTable-begun (table_of c.self.inside) c.args.kind (missing _ _ c.self.view_is c.requires) c.self.invariant.0),
  Definitions-same (table_of c.self.inside) _ _ refl refl refl c.self.invariant.1,
)

pub returns-in-Proc : goal.returns-in-Proc
returns-in-Proc c = proc c ∙ ap (λ (t : Table). begun t c.args.kind) c.self.view_is

same : (c : goal.After-from_residual) → (record (table_of c.self.inside) { blocks = c.begin_block.new.blocks.items; bodies = c.begin_block.new.bodies.items }) ≡ table_of c.self.inside
same c = λ i. record (table_of c.self.inside) { blocks = c.in_err-begin_block-in-Entity.ensures.err_blocks i; bodies = c.in_err-begin_block-in-Entity.ensures.err_bodies i }

pub invariant_of-self-in_err-begin_block-in-Entity : goal.invariant_of-self-in_err-begin_block-in-Entity
invariant_of-self-in_err-begin_block-in-Entity c = (
  subst IsTable (sym (same c)) c.self.invariant.0,
  Definitions-same (table_of c.self.inside) _ _ refl refl refl c.self.invariant.1,
)

pub returns-in_err-begin_block-in-Entity : goal.returns-in_err-begin_block-in-Entity
returns-in_err-begin_block-in-Entity c = not-begun _ _ _ _ c.from_residual.ensures.0 (same c ∙ c.self.view_is)

entity : (c : goal.After-self-in-Entity-1) → (record (table_of c.self.inside) { kind = Some c.args.kind; blocks = c.begin_block.new.blocks.items; bodies = c.begin_block.new.bodies.items })
    ≡ begun (table_of c.self.inside) c.args.kind
entity c =
    (λ i. record (table_of c.self.inside) {
      kind = Some (c.in-Entity.is i);
      blocks = c.in_ok-begin_block-in-Entity.ensures.ok_blocks i;
      bodies = c.in_ok-begin_block-in-Entity.ensures.ok_bodies i;
    }) ∙ ap (begun (table_of c.self.inside)) (sym c.in-Entity.is)

pub invariant_of-self-in-Entity : goal.invariant_of-self-in-Entity
invariant_of-self-in-Entity c = (
  subst IsTable (sym (entity c)) (IsTable-begun (table_of c.self.inside) c.args.kind (missing _ _ c.self.view_is c.requires) c.self.invariant.0),
  Definitions-same (table_of c.self.inside) _ _ refl refl refl c.self.invariant.1,
)

pub returns-in_ok-begin_block-in-Entity : goal.returns-in_ok-begin_block-in-Entity
returns-in_ok-begin_block-in-Entity c = entity c ∙ ap (λ (t : Table). begun t c.args.kind) c.self.view_is
