-- What the fields of a module say of what the module is seen as.
use Rattle.std.proofs.Common.{◌≡◌, ℕ, ◌<◌, Some, slice_get, length, get_or, sym, subst, ap, ◌∙◌}
use Rattle.std.proofs.lemmas.Option.{slice_get-get_or}
use Rattle.lh_unit.specs.Table.{Table, IsTable, line_at, no_line}
use Rattle.lh_unit.specs.Arena.{Arena, IsArena, InstPlaced, table_at, unit_count, inst_count}
use Rattle.lh_unit.specs.ArenaOf.{arena_of}
use Rattle.lh_unit.specs.declared.module.Module.TheInside.{Inside}
use Rattle.lh_unit.specs.declared.table.TableLine.{TableLine}
use Rattle.lh_unit.proofs.Writes.{read}

module _ (m : Inside) (a : Arena) (e : arena_of m ≡ a) (u : ℕ) (h : u < unit_count a) where
  -- the unit has an entry
  pub within : u < length m.units.items
  within = subst (λ (x : Arena). u < unit_count x) (sym e) h

  -- a table that was read is the unit's
  pub table-read : (s : Table) → s ≡ get_or m.units.items u s → s ≡ table_at a u
  table-read s q = read (arena_of m) u s within q ∙ ap (λ (x : Arena). table_at x u) e

  -- it is in order
  pub table-sound : (s : Table) → s ≡ get_or m.units.items u s → IsArena (arena_of m) → IsTable s
  table-sound s q o = subst IsTable (sym (read (arena_of m) u s within q)) (o.tables u within)

  -- its instructions have their ids in their places
  pub line-placed : (s : Table) → s ≡ get_or m.units.items u s → IsArena (arena_of m) → (i : ℕ) (l : TableLine) → i < inst_count a u → l ≡ line_at s i → InstPlaced a u l.inst
  line-placed s q o i l w p =
      let r : table_at (arena_of m) u ≡ s = sym (read (arena_of m) u s within q) in
      let v : i < length s.lines = subst (λ (t : Table). i < length t.lines) (sym (table-read s q)) w in
      subst (λ (x : Arena). InstPlaced x u l.inst) e (o.placed u i l (ap (λ (t : Table). slice_get t.lines i) r ∙ slice_get-get_or s.lines i no_line v ∙ ap Some (sym p)))
