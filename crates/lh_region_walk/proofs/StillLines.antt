-- A line of a place that leads nowhere leaves the edges of the place and how it ends as they were.
use Rattle.std.proofs.Common.{◌≡◌, ℕ, Bool, true, false, if◌then◌else◌, List, [], ◌∷◌, ◌++◌, map, Option, Some, None, refl}
use Rattle.std.proofs.lemmas.Bool.{false≢true}
use Rattle.lh_unit.specs.declared.inst.Inst.{Inst}
use Rattle.lh_unit.specs.declared.inst.Inst.TheVariants as inst
use Rattle.lh_unit.specs.Naming.{Naming, value_text, maybe_text, operand_text, inst_text}
use Rattle.lh_term.specs.Tree.{Tree}
use Rattle.lh_term.specs.Make.{is_zero}
use Rattle.lh_term.specs.declared.part.Part.{Part}
use Rattle.lh_region_def.specs.Known.{value_known, part_known, values_known}
use Rattle.lh_region_def.specs.Places.{Region as RegionText, Here, Midst, probes, drive_cond, drives, asserts, takes}
use Rattle.lh_region_walk.specs.Lines.{gives_alone}
use Rattle.lh_region_walk.specs.Walked.{leads_nowhere}

pub record Still (m m' : Midst) : Type 0 where
  pub edges : m'.edges ≡ m.edges
  pub ends : m'.rows.ends ≡ m.rows.ends

still-same : (m : Midst) → Still m m
still-same m = record { edges = refl; ends = refl }

probe-still : (g : RegionText) (m : Midst) (r : Option (List ℕ)) (o : Option Part) → Still m (probes g m r o)
probe-still g m r None = record { edges = refl; ends = refl }
probe-still g m r (Some p) = record { edges = refl; ends = refl }

drive-still : (m : Midst) (c : Option Tree) (p : Option Part) (x y : Option Tree) → Still m (drives m c p x y)
drive-still m None p x y = still-same m
drive-still m (Some c) None x y = still-same m
drive-still m (Some c) (Some p) None y = still-same m
drive-still m (Some c) (Some p) (Some x) None = still-same m
drive-still m (Some c) (Some p) (Some x) (Some y) = by (is_zero c)
  where
    by : (z : Bool) → Still m (if z then m else record m { rows = record m.rows { drives = m.rows.drives ++ record { cond = c; part = p; value = x; delay = y } ∷ [] } })
    by true = record { edges = refl; ends = refl }
    by false = record { edges = refl; ends = refl }

pub drives-known : (m : Midst) (c : Tree) (p : Part) (x y : Tree) → (drives m (Some c) (Some p) (Some x) (Some y)).known ≡ m.known
drives-known m c p x y = by (is_zero c)
  where
    by : (z : Bool) → (if z then m else record m { rows = record m.rows { drives = m.rows.drives ++ record { cond = c; part = p; value = x; delay = y } ∷ [] } }).known ≡ m.known
    by true = refl
    by false = refl

assert-still : (m : Midst) (o : Option (List Tree)) → Still m (asserts m o)
assert-still m None = still-same m
assert-still m (Some ts) = record { edges = refl; ends = refl }

pub takes-still : (f : Naming) (g : RegionText) (h : Here) (i : Inst) (r : Option (List ℕ)) (m : Midst) → leads_nowhere i ≡ true → Still m (takes g h (inst_text f i) r m)
takes-still f g h (inst.Prb a) r m e = probe-still g m r (part_known m.known (value_text f a.value))
takes-still f g h (inst.Drv to value after cond) r m e = drive-still m (drive_cond m.known h.cond (maybe_text f cond)) (part_known m.known (value_text f to.value))
    (value_known m.known (value_text f value)) (value_known m.known (value_text f after))
takes-still f g h (inst.Call v ty args) r m e = assert-still m (values_known m.known (map (operand_text f) args))
takes-still f g h (inst.Br to) r m e = absurd (false≢true e)
takes-still f g h (inst.Branch c zero one) r m e = absurd (false≢true e)
takes-still f g h (inst.Wait to after on) r m e = absurd (false≢true e)
takes-still f g h inst.Halt r m e = absurd (false≢true e)
takes-still f g h (inst.Ret x) r m e = absurd (false≢true e)
takes-still f g h _ r m e = record { edges = refl; ends = refl }

pub alone-leads : (i : Inst) → gives_alone i ≡ true → leads_nowhere i ≡ true
alone-leads (inst.St to value) e = absurd (false≢true e)
alone-leads (inst.Prb a) e = absurd (false≢true e)
alone-leads (inst.Drv to value after cond) e = absurd (false≢true e)
alone-leads (inst.Call v ty args) e = absurd (false≢true e)
alone-leads _ e = e
