-- Drives that are put, one after the other; and the present values of parts.
use Rattle.std.proofs.Common.{◌≡◌, ◌⊎◌, ◌<◌, false, ◌&&◌, List, [], ◌∷◌, length, inl, inr, refl, ap, sym, ◌∙◌, subst, arith}
use Rattle.std.specs.List.{list_all}
use Rattle.lh_unit.specs.Within.{Each}
use Rattle.lh_unit.specs.declared.inst.ValueId.{ValueId}
use Rattle.lh_term.specs.Tree.{now_of}
use Rattle.lh_term.specs.Arena.{Grows}
use Rattle.lh_term.specs.declared.part.Part.{Part}
use Rattle.lh_term.specs.declared.term.TermNode.{TermNode}
use Rattle.lh_term.proofs.Swaps.{grows_on}
use Rattle.lh_region_def.specs.Rows.{Drive}
use Rattle.lh_region.specs.Stands.{AreDrives}
use Rattle.lh_region.specs.declared.rows.DriveRow.{DriveRow}
use Rattle.lh_emit_def.specs.Emitted.{Source, Emitted}
use Rattle.lh_emit_def.specs.Needs.{need}
use Rattle.lh_emit_def.specs.Entities.{max_lines, emit_drive, emit_drives, emit_probes, drive_fits}
use Rattle.lh_emit_def.specs.Ways.{DriveIsGiven, WaitIsGiven}
use Rattle.lh_emit_source.specs.Origins.{source_by}
use Rattle.lh_emit.specs.Emitting.{IsEmitted, CanProbe, NeedsNow, NeedsNowNot}
use Rattle.lh_emit_shapes.specs.Putting.{CanPutDrive, PutsDrive, DriveTooLarge, PutsDriveNot, CanPutDrives, AreDriven, PutsDrives, PutsDrivesNot, CanPutProbes, PutsProbes, PutsProbesNot}
use Rattle.lh_emit_source.specs.declared.origin.Origin.{Origin}
use Rattle.lh_emit.specs.declared.emitter.Emitter.{Emitter}
use Rattle.lh_emit_body.specs.declared.lines.EmitFault.{EmitFault}
use Rattle.lh_emit_body.specs.declared.lines.EmitFault.TheVariants as fault
use Rattle.lh_emit_shapes.proofs.EntityGrowth.{drives-extends, probes-extends}
use Rattle.lh_emit_shapes.proofs.RowGrowth.{drives-grown}

-- ---- drives

-- what is left of the drives, and the entity so far
pub record DrivesLeft (s : Source) (ms : List TermNode) (y : Emitter) (left : List DriveRow) (ds : List Drive) (e : Emitted) : Type 0 where
  pub now : Emitted
  pub rest : List Drive
  pub is : IsEmitted ms s y now
  pub are : AreDrives ms left rest
  pub given : Each (DriveIsGiven s) rest
  pub same : emit_drives s rest now ≡ emit_drives s ds e
  pub fits : list_all drive_fits rest ≡ list_all drive_fits ds

pub record DrivesSoFar (o : Origin) (rows : List DriveRow) (ns : List TermNode) (x : Emitter) (ms : List TermNode) (y : Emitter) (left : List DriveRow) : Type 0 where
  pub grows : Grows ns ms
  pub some : CanPutDrives ns o x rows
  pub each : (c : CanPutDrives ns o x rows) → DrivesLeft (source_by c.name c.naming o.flat.now) ms y left c.drives c.emitted

-- the first of those that are left
record FirstDrive (s : Source) (ms : List TermNode) (y : Emitter) (row : DriveRow) (left : List DriveRow) (ds : List Drive) (e : Emitted) : Type 0 where
  now : Emitted
  first : Drive
  others : List Drive
  is : IsEmitted ms s y now
  are : AreDrives ms (row ∷ left) (first ∷ others)
  given : Each (DriveIsGiven s) (first ∷ others)
  same : emit_drives s others (emit_drive s now first) ≡ emit_drives s ds e
  fits : (drive_fits first && list_all drive_fits others) ≡ list_all drive_fits ds

first-drive : (s : Source) (ms : List TermNode) (y : Emitter) (row : DriveRow) (left : List DriveRow) (ds : List Drive) (e : Emitted) → DrivesLeft s ms y (row ∷ left) ds e
    → FirstDrive s ms y row left ds e
first-drive s ms y row left ds e l = by l.rest l.are l.given l.same l.fits
  where
    by : (rest : List Drive) → AreDrives ms (row ∷ left) rest → Each (DriveIsGiven s) rest → emit_drives s rest l.now ≡ emit_drives s ds e → list_all drive_fits rest ≡ list_all drive_fits ds
        → FirstDrive s ms y row left ds e
    by [] a g q f = absurd a
    by (d ∷ more) a g q f = record { now = l.now; first = d; others = more; is = l.is; are = a; given = g; same = q; fits = f }

module _ (o : Origin) (rows : List DriveRow) (ns : List TermNode) (x : Emitter) where
  pub drives-begin : Grows ns ns → CanPutDrives ns o x rows → DrivesSoFar o rows ns x ns x rows
  drives-begin g can = record {
    grows = g;
    some = can;
    each = λ c. record { now = c.emitted; rest = c.drives; is = c.is; are = c.are; given = c.given; same = refl; fits = refl };
  }

  module _ (ms : List TermNode) (y : Emitter) (row : DriveRow) (left all : List DriveRow) (cut : all ≡ row ∷ left) (so : DrivesSoFar o rows ns x ms y all) where
    first-of-all : (c : CanPutDrives ns o x rows) → FirstDrive (source_by c.name c.naming o.flat.now) ms y row left c.drives c.emitted
    first-of-all c =
        let s = source_by c.name c.naming o.flat.now in
        first-drive s ms y row left c.drives c.emitted (subst (λ (l : List DriveRow). DrivesLeft s ms y l c.drives c.emitted) cut (so.each c))

    can-first : (c : CanPutDrives ns o x rows) → CanPutDrive ms o y row
    can-first c =
        let l = first-of-all c in
        record { name = c.name; naming = c.naming; emitted = l.now; drive = l.first; origin = c.origin; is = l.is; are = l.are.0; given = l.given.0 }

    pub drives-can : CanPutDrive ms o y row
    drives-can = can-first so.some

    pub drives-next : (m2 : List TermNode) (y2 : Emitter) → Grows ms m2 → PutsDrive ms o y row m2 y2 → DrivesSoFar o rows ns x m2 y2 left
    drives-next m2 y2 g p = record {
      grows = grows_on ns ms m2 so.grows g;
      some = so.some;
      each = λ c.
          let l = first-of-all c in
          let r = p (record { name = c.name; naming = c.naming; emitted = l.now; drive = l.first; origin = c.origin; is = l.is; are = l.are.0; given = l.given.0 }) in
          record {
            now = emit_drive (source_by c.name c.naming o.flat.now) l.now l.first;
            rest = l.others;
            is = r.is;
            are = drives-grown ms m2 g left l.others l.are.1;
            given = l.given.1;
            same = l.same;
            fits = sym (ap (λ b. b && list_all drive_fits l.others) r.fits) ∙ l.fits;
          };
    }

    pub drives-not : (f : EmitFault) → PutsDriveNot ms o y row f → PutsDrivesNot ns o x rows f
    drives-not fault.OutOfMemory p = tt
    drives-not fault.EntityTooLarge p = λ c.
        let s = source_by c.name c.naming o.flat.now in
        let l = first-of-all c in
        large c s l (p (record { name = c.name; naming = c.naming; emitted = l.now; drive = l.first; origin = c.origin; is = l.is; are = l.are.0; given = l.given.0 }))
      where
        large : (c : CanPutDrives ns o x rows) (s : Source) (l : FirstDrive s ms y row left c.drives c.emitted) → DriveTooLarge s l.first l.now →
            (list_all drive_fits c.drives ≡ false) ⊎ (max_lines < length (emit_drives s c.drives c.emitted).lines)
        large c s l (inl q) = inl (sym l.fits ∙ ap (λ b. b && list_all drive_fits l.others) q)
        large c s l (inr w) =
            let k = (drives-extends s l.others (emit_drive s l.now l.first)).longer in
            let z : length (emit_drives s l.others (emit_drive s l.now l.first)).lines ≡ length (emit_drives s c.drives c.emitted).lines = ap (λ (e : Emitted). length e.lines) l.same in
            inr (omega (arith, k, w, z))

  drives-done : (s : Source) (ms : List TermNode) (y : Emitter) (ds : List Drive) (e : Emitted) → DrivesLeft s ms y [] ds e → AreDriven ms s ds e y
  drives-done s ms y ds e l = by l.rest l.are l.same l.fits
    where
      by : (rest : List Drive) → AreDrives ms [] rest → emit_drives s rest l.now ≡ emit_drives s ds e → list_all drive_fits rest ≡ list_all drive_fits ds → AreDriven ms s ds e y
      by [] a q f = record { is = subst (IsEmitted ms s y) q l.is; fits = sym f }
      by (d ∷ more) a q f = absurd a

  pub drives-end : (ms : List TermNode) (y : Emitter) (all : List DriveRow) → all ≡ [] → DrivesSoFar o rows ns x ms y all → PutsDrives ns o x rows ms y
  drives-end ms y all cut so = λ c.
      let s = source_by c.name c.naming o.flat.now in
      drives-done s ms y c.drives c.emitted (subst (λ (l : List DriveRow). DrivesLeft s ms y l c.drives c.emitted) cut (so.each c))

-- ---- the present values of parts

pub record ProbesLeft (s : Source) (ms : List TermNode) (y : Emitter) (left ps : List Part) (e : Emitted) : Type 0 where
  pub now : Emitted
  pub is : IsEmitted ms s y now
  pub given : Each (WaitIsGiven s) left
  pub same : emit_probes s left now ≡ emit_probes s ps e

pub record ProbesSoFar (o : Origin) (ps : List Part) (ns : List TermNode) (x : Emitter) (ms : List TermNode) (y : Emitter) (left : List Part) : Type 0 where
  pub grows : Grows ns ms
  pub some : CanPutProbes ns o x ps
  pub each : (c : CanPutProbes ns o x ps) → ProbesLeft (source_by c.name c.naming o.flat.now) ms y left ps c.emitted

module _ (o : Origin) (ps : List Part) (ns : List TermNode) (x : Emitter) where
  pub probes-begin : Grows ns ns → CanPutProbes ns o x ps → ProbesSoFar o ps ns x ns x ps
  probes-begin g can = record { grows = g; some = can; each = λ c. record { now = c.emitted; is = c.is; given = c.given; same = refl } }

  module _ (ms : List TermNode) (y : Emitter) (p : Part) (left all : List Part) (cut : all ≡ p ∷ left) (so : ProbesSoFar o ps ns x ms y all) where
    probes-first : (c : CanPutProbes ns o x ps) → ProbesLeft (source_by c.name c.naming o.flat.now) ms y (p ∷ left) ps c.emitted
    probes-first c = subst (λ (l : List Part). ProbesLeft (source_by c.name c.naming o.flat.now) ms y l ps c.emitted) cut (so.each c)

    pub probes-can : CanProbe ms o y p
    probes-can =
        let c = so.some in
        let l = probes-first c in
        record { name = c.name; naming = c.naming; emitted = l.now; origin = c.origin; is = l.is; given = l.given.0 }

    pub probes-next : (m2 : List TermNode) (y2 : Emitter) (v : ValueId) → Grows ms m2 → NeedsNow ms o y p m2 y2 v → ProbesSoFar o ps ns x m2 y2 left
    probes-next m2 y2 v g n = record {
      grows = grows_on ns ms m2 so.grows g;
      some = so.some;
      each = λ c.
          let l = probes-first c in
          let r = n c.name c.naming l.now c.origin l.is l.given.0 in
          record { now = need (source_by c.name c.naming o.flat.now) (now_of p) l.now; is = r.is; given = l.given.1; same = l.same };
    }

    pub probes-not : (f : EmitFault) → NeedsNowNot ms o y p f → PutsProbesNot ns o x ps f
    probes-not fault.OutOfMemory n = tt
    probes-not fault.EntityTooLarge n = λ c.
        let s = source_by c.name c.naming o.flat.now in
        let l = probes-first c in
        let w = n c.name c.naming l.now c.origin l.is l.given.0 in
        let k = (probes-extends s left (need s (now_of p) l.now)).longer in
        let z : length (emit_probes s left (need s (now_of p) l.now)).lines ≡ length (emit_probes s ps c.emitted).lines = ap (λ (e : Emitted). length e.lines) l.same in
        omega (arith, k, w, z)

  pub probes-end : (ms : List TermNode) (y : Emitter) (all : List Part) → all ≡ [] → ProbesSoFar o ps ns x ms y all → PutsProbes ns o x ps ms y
  probes-end ms y all cut so c =
      let s = source_by c.name c.naming o.flat.now in
      let l : ProbesLeft s ms y [] ps c.emitted = subst (λ (l : List Part). ProbesLeft s ms y l ps c.emitted) cut (so.each c) in
      subst (IsEmitted ms s y) l.same l.is
