use Rattle.std.proofs.Common.{rules, ◌≡◌, ◌<◌, ◌++◌, ◌∷◌, [], IsSome, true, false, length, refl, sym, ◌∙◌, subst, ap, arith}
use Rattle.lh_unit.specs.Table.{Table, is_defined}
use Rattle.lh_unit.specs.TableCalls.{with_arg}
use Rattle.lh_unit.specs.TableOf.{table_of}
use Rattle.lh_unit.specs.declared.inst.Arg.{Arg}
use Rattle.lh_unit.proofs.Tables.{args-few, definition-told, IsTable-by, IsTable-with_arg, Definitions-same, Definitions-with_arg}
use Rattle.lh_unit.proofs.table.UnitTable.add_arg.Goals as goal

pub returns-then-is_some : goal.returns-then-is_some
returns-then-is_some c =
    let h : c.args.value.0 < length (table_of c.self.inside).values = search rules in
    let n : is_defined (table_of c.self.inside) c.args.value.0
    ≡ true = definition-told (table_of c.self.inside) c.self.inside.defs.items c.args.value.0 c.index.result.now c.self.invariant.1 h c.index.ensures ∙ sym c.is_some.ensures ∙ c.if-is_some.true in
    (subst (λ (t : Table). is_defined t c.args.value.0 ≡ true) c.self.view_is n, refl)

pub overflow_cast-number : goal.overflow_cast-number
overflow_cast-number c =
    let m : c.len-number.result ≡ length (table_of c.self.inside).args = search rules in
    omega (arith, m, args-few (table_of c.self.inside) c.self.inside.defs.items c.self.invariant.0 c.self.invariant.1)

pub invariant_of-self-2 : goal.invariant_of-self-2
invariant_of-self-2 c =
    let a : Arg = record { value = c.args.value; ty = c.args.ty; output = c.args.output } in
    let h : c.args.value.0 < length (table_of c.self.inside).values = search rules in
    let e : c.push_arg.new.args.items ≡ c.self.inside.args.items ++ a ∷ [] = search rules in
    let m : c.len-number.result ≡ length c.self.inside.args.items = search rules in
    let s : IsSome (table_of c.self.inside).kind = subst (λ (t : Table). IsSome t.kind) (sym c.self.view_is) c.requires.begun in
    let n : is_defined (table_of c.self.inside) c.args.value.0
    ≡ false = definition-told (table_of c.self.inside) c.self.inside.defs.items c.args.value.0 c.index.result.now c.self.invariant.1 h c.index.ensures ∙ sym c.is_some.ensures
    ∙ c.if-is_some.false in (
      IsTable-by _ (with_arg (table_of c.self.inside) a) refl refl refl e refl refl refl refl
          (IsTable-with_arg (table_of c.self.inside) a s h n c.self.invariant.0),
      rw m (Definitions-same (with_arg (table_of c.self.inside) a) _ _ refl e refl
          (Definitions-with_arg (table_of c.self.inside) c.self.inside.defs.items a n h c.self.invariant.1)),
    )

pub returns : goal.returns
returns c =
    let a : Arg = record { value = c.args.value; ty = c.args.ty; output = c.args.output } in
    let h : c.args.value.0 < length (table_of c.self.inside).values = search rules in
    let e : c.push_arg.new.args.items ≡ c.self.inside.args.items ++ a ∷ [] = search rules in
    let n : is_defined (table_of c.self.inside) c.args.value.0
    ≡ false = definition-told (table_of c.self.inside) c.self.inside.defs.items c.args.value.0 c.index.result.now c.self.invariant.1 h c.index.ensures ∙ sym c.is_some.ensures
    ∙ c.if-is_some.false in (
      subst (λ (t : Table). is_defined t c.args.value.0 ≡ false) c.self.view_is n,
      (λ i. record (table_of c.self.inside) { args = e i }) ∙ ap (λ (t : Table). with_arg t a) c.self.view_is,
    )
