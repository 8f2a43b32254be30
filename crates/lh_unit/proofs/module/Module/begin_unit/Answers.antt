use Rattle.std.proofs.Common.{rules, ◌≡◌, ◌<◌, ◌++◌, ◌∷◌, [], None, is_some, length, refl, sym, ap, subst, ◌∙◌}
use Rattle.std.specs.Vec.{with_item}
use Rattle.lh_unit.specs.TableCalls.{begun}
use Rattle.lh_unit.specs.Arena.{IsArena, table_at, kind_at}
use Rattle.lh_unit.specs.ArenaOf.{arena_of}
use Rattle.lh_unit.specs.declared.inst.Item.TheVariants as item
use Rattle.lh_unit.proofs.ItemLemmas.{HasContents-begun, defines-begun, defines-missing, kind-told, none-told, IsArena-begins, with_begun, began, unchanged, is-begun, not-begun}
use Rattle.lh_unit.proofs.Seen.{within}
use Rattle.lh_unit.proofs.module.Module.begin_unit.Goals as goal

pub returns-then-is_some : goal.returns-then-is_some
returns-then-is_some c =
    let h : c.args.unit.0 < length (arena_of c.self.inside).units = within c.self.inside _ c.self.view_is _ c.requires in
    rw (← c.self.view_is) (
      defines-begun (arena_of c.self.inside) c.args.unit c.self.invariant h
          (kind-told (arena_of c.self.inside) c.args.unit.0 c.index.result.now _ h c.index.ensures (ap is_some (sym c.kind.ensures) ∙ sym c.is_some.ensures ∙ c.if-is_some.true)),
      refl,
    )

pub invariant_of-self : goal.invariant_of-self
invariant_of-self c = subst (λ is. IsArena (record (arena_of c.self.inside) { items = is })) (sym c.reserve.ensures.items) c.self.invariant

pub returns-then-is_err : goal.returns-then-is_err
returns-then-is_err c =
    let h : c.args.unit.0 < length (arena_of c.self.inside).units = within c.self.inside _ c.self.view_is _ c.requires in
    let n : kind_at (arena_of c.self.inside) c.args.unit.0 ≡ None = none-told (arena_of c.self.inside) c.args.unit.0 c.index.result.now h c.index.ensures (ap is_some (sym c.kind.ensures)
    ∙ sym c.is_some.ensures ∙ c.if-is_some.false) in
    rw (← c.self.view_is) (defines-missing (arena_of c.self.inside) c.args.unit c.self.invariant h n, λ i. record (arena_of c.self.inside) { items = c.reserve.ensures.items i })

pub invariant_of-self-then-is_err-2 : goal.invariant_of-self-then-is_err-2
invariant_of-self-then-is_err-2 c =
    let h : c.args.unit.0 < length (arena_of c.self.inside).units = within c.self.inside _ c.self.view_is _ c.requires in
    let b : c.begin.new.self ≡ c.index_mut-table.result.now = not-begun _ _ _ _ c.begin.ensures (sym c.is_err-2.ensures.value ∙ c.if-is_err-2.true) in
    subst IsArena (sym (unchanged (arena_of c.self.inside) c.args.unit.0 c.index_mut-table.result.now c.begin.new.self c.reserve.new.self.items h c.index_mut-table.ensures.value b c.reserve.ensures.items))
    c.self.invariant

pub returns-then-is_err-2 : goal.returns-then-is_err-2
returns-then-is_err-2 c =
    let h : c.args.unit.0 < length (arena_of c.self.inside).units = within c.self.inside _ c.self.view_is _ c.requires in
    let n : kind_at (arena_of c.self.inside) c.args.unit.0 ≡ None = none-told (arena_of c.self.inside) c.args.unit.0 c.index.result.now h c.index.ensures (ap is_some (sym c.kind.ensures)
    ∙ sym c.is_some.ensures ∙ c.if-is_some.false) in
    let b : c.begin.new.self ≡ c.index_mut-table.result.now = not-begun _ _ _ _ c.begin.ensures (sym c.is_err-2.ensures.value ∙ c.if-is_err-2.true) in
    rw (← c.self.view_is) (
      defines-missing (arena_of c.self.inside) c.args.unit c.self.invariant h n,
      unchanged (arena_of c.self.inside) c.args.unit.0 c.index_mut-table.result.now c.begin.new.self c.reserve.new.self.items h c.index_mut-table.ensures.value b c.reserve.ensures.items,
    )

began_now : (c : goal.After-push_reserved) → (record (arena_of c.self.inside) {
  units = (arena_of record { names = c.self.inside.names; units = with_item c.self.inside.units c.args.unit.0 c.begin.new.self; items = c.push_reserved.new.self }).units;
  items = c.push_reserved.new.self.items;
}) ≡ with_begun (arena_of c.self.inside) c.args.unit (begun (table_at (arena_of c.self.inside) c.args.unit.0) c.args.kind)
began_now c =
    let h : c.args.unit.0 < length (arena_of c.self.inside).units = within c.self.inside _ c.self.view_is _ c.requires in
    let b : c.begin.new.self ≡ begun c.index_mut-table.result.now c.args.kind = is-begun _ _ _ _ c.begin.ensures (sym c.is_err-2.ensures.value ∙ c.if-is_err-2.false) in
    let p : c.push_reserved.new.self.items ≡ c.self.inside.items.items ++ item.Unit c.args.unit ∷ [] = search rules in
    began (arena_of c.self.inside) c.args.unit c.args.kind c.index_mut-table.result.now c.begin.new.self c.push_reserved.new.self.items h c.index_mut-table.ensures.value b p

pub invariant_of-self-2 : goal.invariant_of-self-2
invariant_of-self-2 c =
    let h : c.args.unit.0 < length (arena_of c.self.inside).units = within c.self.inside _ c.self.view_is _ c.requires in
    let n : kind_at (arena_of c.self.inside) c.args.unit.0 ≡ None = none-told (arena_of c.self.inside) c.args.unit.0 c.index.result.now h c.index.ensures (ap is_some (sym c.kind.ensures)
    ∙ sym c.is_some.ensures ∙ c.if-is_some.false) in
    IsArena-begins (arena_of c.self.inside) _ c.args.unit c.args.kind c.self.invariant h n (began_now c)

pub returns : goal.returns
returns c =
    let h : c.args.unit.0 < length (arena_of c.self.inside).units = within c.self.inside _ c.self.view_is _ c.requires in
    let n : kind_at (arena_of c.self.inside) c.args.unit.0 ≡ None = none-told (arena_of c.self.inside) c.args.unit.0 c.index.result.now h c.index.ensures (ap is_some (sym c.kind.ensures)
    ∙ sym c.is_some.ensures ∙ c.if-is_some.false) in
    rw (← c.self.view_is) (HasContents-begun (arena_of c.self.inside) _ c.args.unit c.args.kind c.self.invariant h n (began_now c))
