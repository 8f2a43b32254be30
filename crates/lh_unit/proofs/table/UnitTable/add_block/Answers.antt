use Rattle.std.proofs.Common.{rules, ◌≡◌, ◌<◌, false, length, refl, sym, ◌∙◌, subst}
use Rattle.lh_unit.specs.Table.{Table, HasBlocks, is_block}
use Rattle.lh_unit.specs.TableCalls.{with_block}
use Rattle.lh_unit.specs.TableOf.{table_of}
use Rattle.lh_unit.proofs.Tables.{IsTable-with_block, IsTable-by, Definitions-same, not_block}
use Rattle.lh_unit.proofs.table.UnitTable.add_block.Goals as goal

pub invariant_of-self-2 : goal.invariant_of-self-2
invariant_of-self-2 c =
    let h : c.args.block.0 < length (table_of c.self.inside).labels = search rules in
    let w : c.args.block.0 < length (table_of c.self.inside).bodies = search rules in
    let s : HasBlocks (table_of c.self.inside).kind = subst (λ (t : Table). HasBlocks t.kind) (sym c.self.view_is) c.requires.labels in
    let a : is_block (table_of c.self.inside).blocks c.args.block.0 ≡ false = not_block (table_of c.self.inside) _ c.index.result.now c.self.invariant.0 w c.index.ensures (sym c.is_some.ensures
    ∙ c.if-is_some.false) in (
      IsTable-by _ (with_block (table_of c.self.inside) c.args.block) refl refl refl refl refl (search rules) (search rules) refl
          (IsTable-with_block (table_of c.self.inside) c.args.block s h a c.self.invariant.0),
      Definitions-same (table_of c.self.inside) _ _ refl refl refl c.self.invariant.1,
    )
