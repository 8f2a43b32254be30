-- A module under construction that copies another one, with one item more.
use Rattle.std.proofs.Common.{◌≡◌, ◌≢◌, ℕ, ◌<◌, zero, suc, true, false, ◌||◌, List, [], ◌∷◌, ◌++◌, length, get_or, IsSome, Result, Ok, Err, IfOk, refl, ap, sym, ◌∙◌, arith}
use Rattle.std.proofs.lemmas.Bool.{or_parts}
use Rattle.lh_types.specs.declared.memory.NoMemory.{NoMemory}
use Rattle.lh_unit_names.specs.UnitNames.{same_unit_name}
use Rattle.lh_unit.specs.Contents.{ItemText, UnitText, LineText, unit_text, declare_text, defines_unit}
use Rattle.lh_unit.specs.Table.{Table, no_table}
use Rattle.lh_unit.specs.Arena.{Arena, contents, kind_at, unit_count, value_count, label_count, unit_name_at, unit_text_at}
use Rattle.lh_unit.specs.Builders.{AddsDeclare}
use Rattle.lh_unit_names.specs.declared.name.UnitName.{UnitName}
use Rattle.lh_unit.specs.declared.inst.Declare.{Declare}
use Rattle.lh_unit.proofs.Arenas.{same_unit_name-refl}
use Rattle.lh_emit_def.specs.Entities.{entity_with}
use Rattle.lh_emit_body.specs.Bodies.{IsBody}
use Rattle.lh_emit_body.specs.declared.body.Body.{Body}
use Rattle.lh_lower_copy.specs.Named.{SameUnits, NamesUnits}
use Rattle.lh_lower_copy.specs.Copying.{IsCopying, CanAdd, CopiesMore, CopiesUnit, AddsUnit}

-- a unit that is defined is there
tables-there : (ts : List Table) (u : ℕ) → IsSome (get_or ts u no_table).kind → u < length ts
tables-there [] zero h = absurd cc
tables-there [] (suc u) h = absurd cc
tables-there (t ∷ ts) zero h = omega arith
tables-there (t ∷ ts) (suc u) h = let g : u < length ts = tables-there ts u h in omega (arith, g)

pub is-there : (a : Arena) (u : ℕ) → IsSome (kind_at a u) → u < unit_count a
is-there a u h = tables-there a.units u h

-- ---- which units are defined

defines-unit : (n : UnitName) (items : List ItemText) (t : UnitText) → defines_unit n (items ++ unit_text t ∷ []) ≡ false → (defines_unit n items ≡ false) × (same_unit_name t.name n ≡ false)
defines-unit n [] t h = (refl, (or_parts (same_unit_name t.name n) false h).0)
defines-unit n (unit_text x ∷ items) t h =
    let p = or_parts (same_unit_name x.name n) (defines_unit n (items ++ unit_text t ∷ [])) h in
    let q = defines-unit n items t p.1 in
    (ap (λ b. b || defines_unit n items) p.0 ∙ q.0, q.1)
defines-unit n (declare_text d ∷ items) t h = defines-unit n items t h

defines-declare : (n : UnitName) (items : List ItemText) (d : Declare) → defines_unit n (items ++ declare_text d ∷ []) ≡ defines_unit n items
defines-declare n [] d = refl
defines-declare n (unit_text x ∷ items) d = ap (λ b. same_unit_name x.name n || b) (defines-declare n items d)
defines-declare n (declare_text x ∷ items) d = defines-declare n items d

-- ---- copies

pub copying-start : (a b : Arena) → NamesUnits a b (unit_count a) → IsCopying a b []
copying-start a b n = record { units = n.count; names = n.names; says = n.empty; unopened = λ u h d. (n.values u, n.labels u) }

pub copies-declare : (r : Result (Unit {0}) NoMemory) (a old new : Arena) (d : Declare) → AddsDeclare r old new d → IfOk r (λ x. CopiesMore a old new (declare_text d))
copies-declare (Err e) a old new d h = tt
copies-declare (Ok x) a old new d h = λ items c. let k = h.1 in record {
  units = omega (arith, k.units, h.3.more_units, c.units);
  names = λ u w. k.unit_names u (omega (arith, w, c.units)) ∙ c.names u w;
  says = h.0 ∙ ap (λ xs. xs ++ declare_text d ∷ []) c.says;
  unopened = λ u w f.
      let g = c.unopened u w (sym (defines-declare (unit_name_at a u) items d) ∙ f) in
      (omega (arith, g.0, h.3.more_values u), omega (arith, g.1, h.3.more_labels u));
}

differ : (a : Arena) (u w : ℕ) (t : UnitText) → t.name ≡ unit_name_at a u → same_unit_name t.name (unit_name_at a w) ≡ false → w ≢ u
differ a u w t e h q =
    let x : same_unit_name t.name (unit_name_at a w) ≡ true = (λ i. same_unit_name (e i) (unit_name_at a (q i))) ∙ same_unit_name-refl (unit_name_at a u) in absurd cc

pub copies-unit : (r : Result (Unit {0}) NoMemory) (a old new : Arena) (u : ℕ) (t : UnitText) → t.name ≡ unit_name_at a u → IfOk r (λ x. AddsUnit old new u t) → IfOk r (λ x. CopiesUnit a old new u t)
copies-unit (Err e) a old new u t n h = tt
copies-unit (Ok x) a old new u t n h = λ items c d. record {
  units = h.units ∙ c.units;
  names = λ w l. h.entries.unit_names w (omega (arith, l, c.units)) ∙ c.names w l;
  says = h.says ∙ ap (λ xs. xs ++ unit_text t ∷ []) c.says;
  unopened = λ w l f.
      let p = defines-unit (unit_name_at a w) items t f in
      let g = c.unopened w l p.0 in
      let other : w ≢ u = differ a u w t n p.1 in
      (h.values w other ∙ g.0, h.labels w other ∙ g.1);
}

pub copies-entity : (r : Result (Unit {0}) NoMemory) (a old new : Arena) (u : ℕ) (b : Body)
    → IfOk r (λ x. (ls : List LineText) → IsBody (unit_text_at a u).args b ls → AddsUnit old new u (entity_with (unit_text_at a u) ls))
    → IfOk r (λ x. (ls : List LineText) → IsBody (unit_text_at a u).args b ls → CopiesUnit a old new u (entity_with (unit_text_at a u) ls))
copies-entity (Err e) a old new u b h = tt
copies-entity (Ok x) a old new u b h = λ ls is. copies-unit (Ok tt) a old new u (entity_with (unit_text_at a u) ls) refl (h ls is)

-- what is known before a unit is added
module _ (a b : Arena) (u : ℕ) (c : CanAdd a b u) where
  pub can-units : SameUnits a b
  can-units = record { units = c.copying.units; names = c.copying.names }

  pub can-undefined : defines_unit (unit_name_at a u) (contents b) ≡ false
  can-undefined = ap (defines_unit (unit_name_at a u)) c.copying.says ∙ c.undefined

  pub can-values : u < unit_count a → value_count b u ≡ 0
  can-values h = (c.copying.unopened u h c.undefined).0

  pub can-labels : u < unit_count a → label_count b u ≡ 0
  can-labels h = (c.copying.unopened u h c.undefined).1
