use Rattle.std.proofs.Common.{rules, arith, ◌≡◌, ◌<◌, ◌-◌, ◌^◌, ◌++◌, ◌∷◌, [], None, false, length, refl, sym, ap, ◌∙◌, subst}
use Rattle.lh_unit.specs.TableOf.{table_of}
use Rattle.lh_unit_names.specs.Distinct.{has_name}
use Rattle.lh_unit.specs.Table.{Table}
use Rattle.lh_unit.proofs.NameEntries.{new-absent, old-kept, there, few-entered, label-made, label-found, no-label}
use Rattle.lh_unit.proofs.Tables.{IsTable-by, IsTable-new_label, Definitions-same}
use Rattle.lh_unit_names.proofs.NameLists.{inserted}
use Rattle.lh_unit.proofs.table.UnitTable.block_named.Goals as goal
use Rattle.lh_unit.proofs.table.UnitTable.block_named.Goals.{then-is_new, else-is_new}

pub invariant_of-self-then-is_new : goal.invariant_of-self-then-is_new
invariant_of-self-then-is_new c =
    let absent : false ≡ has_name c.self.inside.labels c.args.name = new-absent _ _ c.if-is_new.true c.in_ok-i.ensures.added in
    let e : c.enter.new.self ≡ c.self.inside.labels ++ c.args.name ∷ [] = inserted _ _ _ _ refl c.in_ok-i.ensures.names absent in
    let f : c.push_reserved.new.self.items ≡ c.self.inside.bodies.items ++ None ∷ [] = search rules in
    let room : length (table_of c.self.inside).labels < 2 ^ 32 - 1 = search rules in (
      IsTable-by _ (record (table_of c.self.inside) { labels = c.self.inside.labels ++ c.args.name ∷ []; bodies = c.self.inside.bodies.items ++ None ∷ [] }) refl refl e refl refl refl f refl
          (IsTable-new_label (table_of c.self.inside) c.args.name (sym absent) room c.self.invariant.0),
      Definitions-same (table_of c.self.inside) _ _ refl refl refl c.self.invariant.1,
    )

pub invariant_of-self : goal.invariant_of-self
invariant_of-self c = (
  IsTable-by _ (table_of c.self.inside) refl refl refl refl refl refl c.reserve.ensures.items refl c.self.invariant.0,
  Definitions-same (table_of c.self.inside) _ _ refl refl refl c.self.invariant.1,
)

pub invariant_of-self-in_err-i : goal.invariant_of-self-in_err-i
invariant_of-self-in_err-i c = (
  IsTable-by _ (table_of c.self.inside) refl refl c.in_err-i.ensures.err refl refl refl c.reserve.ensures.items refl c.self.invariant.0,
  Definitions-same (table_of c.self.inside) _ _ refl refl refl c.self.invariant.1,
)

pub invariant_of-self-else-is_new : goal.invariant_of-self-else-is_new
invariant_of-self-else-is_new c =
    let e : c.enter.new.self ≡ c.self.inside.labels = old-kept _ _ _ _ c.if-is_new.false c.in_ok-i.ensures.added c.in_ok-i.ensures.names in (
      IsTable-by _ (table_of c.self.inside) refl refl e refl refl refl c.reserve.ensures.items refl c.self.invariant.0,
      Definitions-same (table_of c.self.inside) _ _ refl refl refl c.self.invariant.1,
    )

pub returns-in_err-reserve : goal.returns-in_err-reserve
returns-in_err-reserve c = no-label _ _ _ _ c.from_residual.ensures.0 (ap (λ bs. record (table_of c.self.inside) { bodies = bs }) c.in_err-reserve.ensures.items ∙ c.self.view_is)

pub returns-in_err-i : goal.returns-in_err-i
returns-in_err-i c = no-label _ _ _ _ c.from_residual-in_err-i.ensures.0 ((λ i. record (table_of c.self.inside) { labels = c.in_err-i.ensures.err i; bodies = c.reserve.ensures.items i }) ∙ c.self.view_is)

pub overflow_cast-result : goal.overflow_cast-result
overflow_cast-result c = omega (arith, few-entered _ _ _ _ c.in_ok-i.ensures.stored c.in_ok-i.ensures.names (subst (λ (t : Table). length t.labels < 2 ^ 32 - 1) (sym c.self.view_is) c.requires))

pub returns : goal.returns
returns c = rw (← c.self.view_is) (elim c.if-is_new.branch [
  | then-is_new w ↦ rw w.self-is (rw (w.push_reserved.ensures.items, c.reserve.ensures.items)
      (label-made (table_of c.self.inside) _ _ _ c.in_ok-i.ensures.stored c.in_ok-i.ensures.names (new-absent _ _ w.if-is_new.true c.in_ok-i.ensures.added)))
  | else-is_new w ↦ rw w.self-is (rw c.reserve.ensures.items
      (label-found (table_of c.self.inside) _ _ _ c.in_ok-i.ensures.stored c.in_ok-i.ensures.names (there _ _ w.if-is_new.false c.in_ok-i.ensures.added)))
])
