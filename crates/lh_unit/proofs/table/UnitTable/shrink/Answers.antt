use Rattle.std.proofs.Common.{◌≡◌, ◌∙◌, sym, subst}
use Rattle.lh_unit.specs.Table.{Table, IsTable, Definitions}
use Rattle.lh_unit.specs.TableOf.{table_of}
use Rattle.lh_unit.proofs.table.UnitTable.shrink.Goals as goal

same : (c : goal.After-shrink_to_fit-5) → (record {
  kind = c.self.inside.kind;
  values = c.close.new.self;
  labels = c.close-2.new.self;
  args = c.shrink_to_fit-4.new.self.items;
  result = c.self.inside.result;
  blocks = c.shrink_to_fit-3.new.self.items;
  bodies = c.shrink_to_fit-2.new.self.items;
  lines = c.shrink_to_fit-5.new.self.items;
}) ≡ table_of c.self.inside
same c = λ i. record {
  kind = c.self.inside.kind;
  values = c.close.ensures i;
  labels = c.close-2.ensures i;
  args = c.shrink_to_fit-4.ensures.items i;
  result = c.self.inside.result;
  blocks = c.shrink_to_fit-3.ensures.items i;
  bodies = c.shrink_to_fit-2.ensures.items i;
  lines = c.shrink_to_fit-5.ensures.items i;
}

pub invariant_of-self : goal.invariant_of-self
invariant_of-self c = (
  subst IsTable (sym (same c)) c.self.invariant.0,
  subst (λ (t : Table). Definitions t c.shrink_to_fit.new.self.items) (sym (same c)) (subst (Definitions (table_of c.self.inside)) (sym c.shrink_to_fit.ensures.items) c.self.invariant.1),
)

pub returns : goal.returns
returns c = same c ∙ c.self.view_is
