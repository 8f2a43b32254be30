use Rattle.std.proofs.Common.{rules, arith, ◌≡◌, ◌<◌, ◌-◌, ◌^◌, ◌++◌, ◌∷◌, [], false, length, refl, sym, ap, ◌∙◌, subst}
use Rattle.lh_unit.specs.TableOf.{table_of}
use Rattle.lh_unit_names.specs.Distinct.{has_name}
use Rattle.lh_unit.specs.declared.inst.ValueDef.TheVariants as value_def
use Rattle.lh_unit.specs.Table.{Table, Definitions}
use Rattle.lh_unit.specs.TableCalls.{NamesValue}
use Rattle.lh_unit.proofs.NameEntries.{new-absent, old-kept, few-entered, value-entered, no-value}
use Rattle.lh_unit.proofs.Tables.{IsTable-by, IsTable-new_value, Definitions-same, Definitions-new_value}
use Rattle.lh_unit_names.proofs.NameLists.{inserted}
use Rattle.lh_unit.proofs.table.UnitTable.value_named.Goals as goal
use Rattle.lh_unit.proofs.table.UnitTable.value_named.Goals.{then-is_new, else-is_new}

pub invariant_of-self-then-is_new : goal.invariant_of-self-then-is_new
invariant_of-self-then-is_new c =
    let absent : false ≡ has_name c.self.inside.values c.args.name = new-absent _ _ c.if-is_new.true c.in_ok-i.ensures.added in
    let e : c.enter.new.self ≡ c.self.inside.values ++ c.args.name ∷ [] = inserted _ _ _ _ refl c.in_ok-i.ensures.names absent in
    let f : c.push_reserved.new.self.items ≡ c.self.inside.defs.items ++ value_def.Missing ∷ [] = search rules in
    let room : length (table_of c.self.inside).values < 2 ^ 32 - 1 = search rules in (
      IsTable-by _ (record (table_of c.self.inside) { values = c.self.inside.values ++ c.args.name ∷ [] }) refl e refl refl refl refl refl refl
          (IsTable-new_value (table_of c.self.inside) c.args.name (sym absent) room c.self.invariant.0),
      rw f (Definitions-same (record (table_of c.self.inside) { values = c.self.inside.values ++ c.args.name ∷ [] }) _ _ e refl refl
          (Definitions-new_value (table_of c.self.inside) c.self.inside.defs.items c.args.name c.self.invariant.0 c.self.invariant.1)),
    )

pub invariant_of-self : goal.invariant_of-self
invariant_of-self c = (c.self.invariant.0, subst (Definitions (table_of c.self.inside)) (sym c.reserve.ensures.items) c.self.invariant.1)

pub invariant_of-self-in_err-i : goal.invariant_of-self-in_err-i
invariant_of-self-in_err-i c = (
  IsTable-by _ (table_of c.self.inside) refl c.in_err-i.ensures.err refl refl refl refl refl refl c.self.invariant.0,
  subst (Definitions _) (sym c.reserve.ensures.items) (Definitions-same (table_of c.self.inside) _ _ c.in_err-i.ensures.err refl refl c.self.invariant.1),
)

pub invariant_of-self-else-is_new : goal.invariant_of-self-else-is_new
invariant_of-self-else-is_new c =
    let e : c.enter.new.self ≡ c.self.inside.values = old-kept _ _ _ _ c.if-is_new.false c.in_ok-i.ensures.added c.in_ok-i.ensures.names in (
      IsTable-by _ (table_of c.self.inside) refl e refl refl refl refl refl refl c.self.invariant.0,
      subst (Definitions _) (sym c.reserve.ensures.items) (Definitions-same (table_of c.self.inside) _ _ e refl refl c.self.invariant.1),
    )

pub returns-in_err-reserve : goal.returns-in_err-reserve
returns-in_err-reserve c = no-value _ _ _ _ c.from_residual.ensures.0 c.self.view_is

pub returns-in_err-i : goal.returns-in_err-i
returns-in_err-i c = no-value _ _ _ _ c.from_residual-in_err-i.ensures.0 (ap (λ ks. record (table_of c.self.inside) { values = ks }) c.in_err-i.ensures.err ∙ c.self.view_is)

pub overflow_cast-result : goal.overflow_cast-result
overflow_cast-result c = omega (arith, few-entered _ _ _ _ c.in_ok-i.ensures.stored c.in_ok-i.ensures.names (subst (λ (t : Table). length t.values < 2 ^ 32 - 1) (sym c.self.view_is) c.requires))

entered : (c : goal.Joined-is_new) → NamesValue (table_of c.self.inside) (record (table_of c.self.inside) { values = c.enter.new.self }) c.args.name c.in_ok-i.i
entered c = value-entered (table_of c.self.inside) _ _ _ c.in_ok-i.ensures.stored c.in_ok-i.ensures.names

pub returns : goal.returns
returns c = rw (← c.self.view_is) (elim c.if-is_new.branch [ then-is_new w ↦ rw w.self-is (entered c) | else-is_new w ↦ rw w.self-is (entered c) ])
