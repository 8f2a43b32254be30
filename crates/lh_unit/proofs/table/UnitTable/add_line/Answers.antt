use Rattle.std.proofs.Common.{rules, ◌≡◌, ◌<◌, ◌-◌, ◌++◌, ◌∷◌, [], Some, None, IsSome, Option, Err, true, false, get_or, set, unwrap_or, length, refl, sym, ◌∙◌, ap, subst}
use Rattle.lh_unit.specs.Table.{Table, IsTable, Definitions, ResultWithin, result_defined, with_definition, defined_among}
use Rattle.lh_unit.specs.TableCalls.{TakesLine, with_line, last_block}
use Rattle.lh_unit.specs.TableOf.{table_of, InOrder}
use Rattle.lh_unit.specs.declared.table.UnitTable.TheInside.{Inside}
use Rattle.lh_unit.specs.declared.inst.Inst.{Inst}
use Rattle.lh_unit.specs.declared.inst.ValueId.{ValueId}
use Rattle.lh_unit.specs.declared.inst.ValueDef.TheVariants as value_def
use Rattle.lh_unit.specs.declared.inst.UnitFault.TheVariants as fault
use Rattle.lh_unit.proofs.Tables.{last-read, last-body, last-within, result-told, line-laid, IsTable-with_line, Definitions-with_line}
use Rattle.lh_unit.proofs.table.UnitTable.add_line.Goals as goal

pub push_id-requires-clause-within : goal.push_id-requires-clause-within
push_id-requires-clause-within c =
    let t : Table = table_of c.self.inside in
    let b : 0 < length (table_of c.self.inside).blocks = search rules in
    let n : c.len.result ≡ length (table_of c.self.inside).blocks = search rules in
    let l : c.index-last.result.now ≡ last_block (table_of c.self.inside) = last-read (table_of c.self.inside) c.index-last.result.now b (c.index-last.ensures
    ∙ ap (λ k. get_or c.self.inside.blocks.items (k - 1) c.index-last.result.now) n) in
    subst (λ k. k.0 < length c.self.inside.bodies.items) (sym l) (last-within (table_of c.self.inside) c.self.invariant.0 b)

pub push_id-requires-clause-stands : goal.push_id-requires-clause-stands
push_id-requires-clause-stands c =
    let b : 0 < length (table_of c.self.inside).blocks = search rules in
    let n : c.len.result ≡ length (table_of c.self.inside).blocks = search rules in
    let l : c.index-last.result.now ≡ last_block (table_of c.self.inside) = last-read (table_of c.self.inside) c.index-last.result.now b (c.index-last.ensures
    ∙ ap (λ k. get_or c.self.inside.blocks.items (k - 1) c.index-last.result.now) n) in
    subst (λ k. IsSome (get_or c.self.inside.bodies.items k.0 None)) (sym l) (last-body (table_of c.self.inside) c.self.invariant.0 b)

laid : (c : goal.After-define) → (record (table_of c.self.inside) { lines = c.push_reserved.new.self.items; bodies = c.push_id.new.bodies.items })
    ≡ with_line (table_of c.self.inside) c.args.value c.args.inst
laid c =
    let b : 0 < length (table_of c.self.inside).blocks = search rules in
    let n : c.len.result ≡ length (table_of c.self.inside).blocks = search rules in
    let l : c.index-last.result.now ≡ last_block (table_of c.self.inside) = last-read (table_of c.self.inside) c.index-last.result.now b (c.index-last.ensures
    ∙ ap (λ k. get_or c.self.inside.blocks.items (k - 1) c.index-last.result.now) n) in
    let e : c.push_reserved.new.self.items ≡ c.self.inside.lines.items ++ record { result = c.args.value; inst = c.args.inst } ∷ [] = search rules in
    let m : c.len-id.result ≡ length c.self.inside.lines.items = search rules in
    let d : c.push_id.new.bodies.items ≡ set c.self.inside.bodies.items c.index-last.result.now.0 (Some
    (unwrap_or (get_or c.self.inside.bodies.items c.index-last.result.now.0 None) [] ++ record { 0 = c.len-id.result } ∷ [])) = search rules in
    line-laid (table_of c.self.inside) c.index-last.result.now c.push_reserved.new.self.items c.push_id.new.bodies.items c.args.value c.args.inst l e
    (d ∙ ap (λ k. set c.self.inside.bodies.items c.index-last.result.now.0 (Some (unwrap_or (get_or c.self.inside.bodies.items c.index-last.result.now.0 None) [] ++ record { 0 = k } ∷ []))) m)

pub returns-then-is_defined : goal.returns-then-is_defined
returns-then-is_defined c =
    let w : ResultWithin (length (table_of c.self.inside).values) c.args.value = subst (λ (t : Table). ResultWithin (length t.values) c.args.value) (sym c.self.view_is) c.requires.within in
    let few : length (table_of c.self.inside).lines < 65536 = search rules in
    let n : result_defined (table_of c.self.inside) c.args.value ≡ true = sym (result-told (table_of c.self.inside) c.self.inside.defs.items c.args.value c.self.invariant.1 w)
    ∙ sym c.is_defined.ensures ∙ c.if-is_defined.true in
    subst (λ (t : Table). TakesLine c.refuse-then-is_defined.result t t c.args.value c.args.inst) c.self.view_is
    (subst (λ r. TakesLine r (table_of c.self.inside) (table_of c.self.inside) c.args.value c.args.inst) (sym c.refuse-then-is_defined.ensures) (few, n, refl))

told : (c : goal.After-define) → result_defined (table_of c.self.inside) c.args.value ≡ false
told c =
    let w : ResultWithin (length (table_of c.self.inside).values) c.args.value = subst (λ (t : Table). ResultWithin (length t.values) c.args.value) (sym c.self.view_is) c.requires.within in
    sym (result-told (table_of c.self.inside) c.self.inside.defs.items c.args.value c.self.invariant.1 w) ∙ sym c.is_defined.ensures ∙ c.if-is_defined.false

pub invariant_of-self-2 : goal.invariant_of-self-2
invariant_of-self-2 c =
    let b : 0 < length (table_of c.self.inside).blocks = search rules in
    let w : ResultWithin (length (table_of c.self.inside).values) c.args.value = subst (λ (t : Table). ResultWithin (length t.values) c.args.value) (sym c.self.view_is) c.requires.within in
    let few : length (table_of c.self.inside).lines < 65536 = search rules in
    let m : c.len-id.result ≡ length c.self.inside.lines.items = search rules in
    let e : c.define.new.defs.items ≡ with_definition c.self.inside.defs.items c.args.value (value_def.Inst record { 0 = length c.self.inside.lines.items }) = c.define.ensures
    ∙ ap (λ k. with_definition c.self.inside.defs.items c.args.value (value_def.Inst record { 0 = k })) m in (
      subst IsTable (sym (laid c)) (IsTable-with_line (table_of c.self.inside) c.args.value c.args.inst b w few (told c) c.self.invariant.0),
      subst (λ (t : Table). Definitions t c.define.new.defs.items) (sym (laid c))
          (subst (Definitions (with_line (table_of c.self.inside) c.args.value c.args.inst)) (sym e)
          (Definitions-with_line (table_of c.self.inside) c.self.inside.defs.items c.args.value c.args.inst (told c) w c.self.invariant.1)),
    )

pub returns : goal.returns
returns c =
    let few : length (table_of c.self.inside).lines < 65536 = search rules in
    let m : c.len-id.result ≡ length (table_of c.self.inside).lines = search rules in
    rw (← c.self.view_is) (few, told c, m, laid c)

pub invariant_of-self : goal.invariant_of-self
invariant_of-self c = (
  subst (λ ls. IsTable (record (table_of c.self.inside) { lines = ls })) (sym c.reserve.ensures.items) c.self.invariant.0,
  subst (λ ls. Definitions (record (table_of c.self.inside) { lines = ls }) c.self.inside.defs.items) (sym c.reserve.ensures.items) c.self.invariant.1,
)

-- where memory runs out the line was neither too many nor defined
refused : (m : Inside) (old new : Table) (v : Option ValueId) (i : Inst) → table_of m ≡ old → ResultWithin (length old.values) v → InOrder m → length m.lines.items < 65536
    → defined_among m.defs.items v ≡ false → new ≡ table_of m → TakesLine (Err fault.OutOfMemory) old new v i
refused m old new v i e w o few n q =
    let r : ResultWithin (length (table_of m).values) v = subst (λ (t : Table). ResultWithin (length t.values) v) (sym e) w in
    subst (λ (t : Table). TakesLine (Err fault.OutOfMemory) t new v i) e (few, sym (result-told (table_of m) m.defs.items v o.1 r) ∙ n, q)

pub returns-then-is_err : goal.returns-then-is_err
returns-then-is_err c =
    let few : length c.self.inside.lines.items < 65536 = search rules in
    rw c.refuse-then-is_err.ensures (refused c.self.inside _ _ c.args.value c.args.inst c.self.view_is c.requires.within c.self.invariant few (sym c.is_defined.ensures ∙ c.if-is_defined.false)
    (λ i. record (table_of c.self.inside) { lines = c.reserve.ensures.items i }))

pub invariant_of-self-then-is_err-2 : goal.invariant_of-self-then-is_err-2
invariant_of-self-then-is_err-2 c =
    let b : c.push_id.new.bodies.items ≡ c.self.inside.bodies.items = search rules in
    let e : (record (table_of c.self.inside) { bodies = c.push_id.new.bodies.items; lines = c.reserve.new.self.items }) ≡ table_of c.self.inside =
    λ i. record (table_of c.self.inside) { bodies = b i; lines = c.reserve.ensures.items i } in (
      subst IsTable (sym e) c.self.invariant.0,
      subst (λ (t : Table). Definitions t c.self.inside.defs.items) (sym e) c.self.invariant.1,
    )

pub returns-then-is_err-2 : goal.returns-then-is_err-2
returns-then-is_err-2 c =
    let few : length c.self.inside.lines.items < 65536 = search rules in
    let b : c.push_id.new.bodies.items ≡ c.self.inside.bodies.items = search rules in
    rw c.refuse-then-is_err-2.ensures (refused c.self.inside _ _ c.args.value c.args.inst c.self.view_is c.requires.within c.self.invariant few (sym c.is_defined.ensures ∙ c.if-is_defined.false)
    (λ i. record (table_of c.self.inside) { bodies = b i; lines = c.reserve.ensures.items i }))
