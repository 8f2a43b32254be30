-- What an emitted entity says.
use Rattle.std.proofs.Common.{◌≡◌, ℕ, ◌+◌, ◌≤◌, Bool, true, false, ◌&&◌, ◌||◌, nat_eq, List, [], ◌∷◌, ◌++◌, length, map, Option, Some, None, slice_get, refl, ap, sym, ◌∙◌, subst, arith, append-nil}
use Rattle.std.specs.List.{list_all, list_any}
use Rattle.std.specs.Prelude.{filter}
use Rattle.lh_types.specs.Types.{TypeTree, signal_type, same_type}
use Rattle.lh_types.specs.Same.{and_both, same-is}
use Rattle.lh_unit.specs.Contents.{LineText, ArgText, UnitText}
use Rattle.lh_unit.specs.Hierarchy.{lines_of}
use Rattle.lh_unit.specs.Within.{Each}
use Rattle.lh_unit.proofs.Lists.{some_inj, nat_eq-is}
use Rattle.lh_term.specs.Tree.{now_of}
use Rattle.lh_term.specs.Parts.{whole_argument}
use Rattle.lh_term.specs.declared.part.Part.{Part}
use Rattle.lh_edge.specs.Triggers.{EdgeRowTree}
use Rattle.lh_region_def.specs.Known.{known_part, nothing_known, with_arguments}
use Rattle.lh_region_def.specs.Rows.{Drive}
use Rattle.lh_region_def.specs.Typed.{Among}
use Rattle.lh_emit_def.specs.Names.{value_name}
use Rattle.lh_emit_def.specs.Emitted.{PartStep, source_of, Emitted, nothing_emitted, name_if_whole, whole_name}
use Rattle.lh_emit_def.specs.Entities.{entity_with, comb, edge, once, emit_probes, drive_fits, row_fits}
use Rattle.lh_emit_def.specs.Laws.{HasApartArgs, PartPasses}
use Rattle.lh_emit_def.specs.Ways.{IsReached}
use Rattle.lh_emit_def.proofs.Arguments.{AreApart, are-apart}
use Rattle.lh_emit_def.proofs.Induction.{IsNamed, Kept}
use Rattle.lh_emit_def.proofs.PassState.{HasFewArgs, Begins}
use Rattle.lh_emit_def.proofs.Whole.{IsWithin, within, Good, good-drives, good-waited, each-second, given-rows}
use Rattle.lh_cert_rows.specs.Rows.{TriggerRow, EntityRow}
use Rattle.lh_cert_def.specs.Headers.{has_hierarchy, has_drive, has_register}
use Rattle.lh_cert_def.specs.KeptRows.{register_of, has_triggers}
use Rattle.lh_cert_rows.specs.Reading.{EntityText, reads_lines, read}
use Rattle.lh_cert_emitted.specs.Laws.{drive_said, register_said, registers_said, CombSaysRows, OnceSaysRows, EdgeSaysRows}
use Rattle.lh_cert_emitted.proofs.ArgumentsKnown.{other-known, argument-known}
use Rattle.lh_cert_emitted.proofs.SaysState.{frame, begun, said, Says, Inv, is_drive_row, is_register_row}
use Rattle.lh_cert_emitted.proofs.SaysRows.{drives-emitted, rows-emitted, probes-emitted}

module _ (u : UnitText) (steps : Part → List PartStep) (a : HasApartArgs u) (G : Part → Type 0) where
  argument-is : (k : ℕ) (x : ArgText) (t : TypeTree) → slice_get u.args k ≡ Some x → x.ty ≡ signal_type t → (begun u steps a.few G).known x.name ≡ Some (known_part (whole_argument k t))
  argument-is k x t p s =
      let j : 0 + k ≡ k = omega arith in
      argument-known u.args nothing_known 0 k x t (are-apart u.args a.once) p s ∙ ap (λ m. Some (known_part (whole_argument m t))) j

  -- a part with a name is the whole of an argument
  named-whole : (p : Part) (n : List ℕ) → whole_name u.args p ≡ Some n → (begun u steps a.few G).known n ≡ Some (known_part p)
  named-whole p n h = at (slice_get u.args p.arg) refl
    where
      by : (x : ArgText) → slice_get u.args p.arg ≡ Some x → name_if_whole p x ≡ Some n → (c : Bool) → (nat_eq p.lo 0 && same_type x.ty (signal_type p.ty)) ≡ c →
          (begun u steps a.few G).known n ≡ Some (known_part p)
      by x q g false r = let z : None ≡ Some n = (rw r at g) in absurd cc
      by x q g true r =
          let z : Some x.name ≡ Some n = (rw r at g) in
          let c = and_both (nat_eq p.lo 0) (same_type x.ty (signal_type p.ty)) r in
          let l : p.lo ≡ 0 = nat_eq-is p.lo 0 c.0 in
          let w = argument-is p.arg x p.ty q (same-is x.ty (signal_type p.ty) c.1) in
          subst (λ (m : List ℕ). (begun u steps a.few G).known m ≡ Some (known_part p)) (some_inj x.name n z)
          (subst (λ (m : ℕ). (begun u steps a.few G).known x.name ≡ Some (known_part (record { arg = p.arg; lo = m; ty = p.ty }))) (sym l) w)

      at : (o : Option ArgText) → slice_get u.args p.arg ≡ o → (begun u steps a.few G).known n ≡ Some (known_part p)
      at None q = let z : None ≡ Some n = (rw q at h) in absurd cc
      at (Some x) q = by x q (rw q at h) (nat_eq p.lo 0 && same_type x.ty (signal_type p.ty)) refl

  begins : Inv u steps a.few G [] (nothing_emitted (source_of u steps))
  begins y b = record {
    rows_are = refl;
    terms = λ t n h. absurd cc;
    parts = named-whole;
    args = argument-is;
    new = λ j m. other-known (value_name j) u.args nothing_known 0 m.free;
    room = omega arith;
    probed = tt;
    asked = λ p n. absurd (let z = n.is in cc);
    hierarchy = refl;
    drives = refl;
    registers = refl;
  }

  module _ (y : UnitText) (fits : Bool) (e : Emitted) (w : IsWithin u y fits e.lines) where
    begun-so : Begins (frame u steps a.few G) a.few y e.lines
    begun-so = record { more = []; is = w.is ∙ ap (entity_with u) (sym (append-nil e.lines)); short = subst (λ (l : List LineText). length l ≤ 65536) (sym (append-nil e.lines)) w.short }

    -- what it says is what its lines say
    read-is : read y ≡ said u steps a.few G e.lines
    unfolding read
    read-is = ap first-said w.is ∙ ap (reads_lines (begun u steps a.few G)) (append-nil e.lines)
      where
        first-said : UnitText → EntityText
        first-said z = reads_lines (record { known = with_arguments nothing_known 0 z.args; probes = []; rows = [] }) (lines_of z.blocks)

    lines-are : lines_of y.blocks ≡ e.lines
    lines-are = ap (λ (z : UnitText). lines_of z.blocks) w.is ∙ append-nil e.lines

-- ---- kinds of rows

no-registers : (ds : List Drive) → list_any is_register_row (map drive_said ds) ≡ false
no-registers [] = refl
no-registers (d ∷ ds) = no-registers ds

no-drives : (rs : List (Part × List TriggerRow)) → list_any is_drive_row (map register_said rs) ≡ false
no-drives [] = refl
no-drives (r ∷ rs) = no-drives rs

neither : (a b : Bool) → a ≡ false → b ≡ false → (a || b) ≡ false
neither a b p q = rw (p, q) refl

-- what has a name is probed
all-asked : (u : UnitText) (steps : Part → List PartStep) (few : HasFewArgs u) (G : Part → Type 0) (rows : List EntityRow) (e x : Emitted) (ps : List Part) → Kept e x → Each (λ p. IsNamed e (now_of p)) ps
    → Says u steps few G rows x → Each (λ q. Among q (said u steps few G x.lines).probes) ps
all-asked u steps few G rows e x [] k h m = tt
all-asked u steps few G rows e x (q ∷ ps) k h m = (m.asked q (k.terms (now_of q) h.0), all-asked u steps few G rows e x ps k h.1 m)

pub comb-says : CombSaysRows
comb-says test u y steps waited ds h a ws gs ps rs =
    let s = source_of u steps in
    let P = PartPasses test in
    let G = Good u steps P in
    let w = within u y (list_all drive_fits ds) (comb s waited ds).lines h in
    let n = probes-emitted u steps a.few G (λ p r. r.0) [] waited (good-waited u steps P waited ws ps) (nothing_emitted s) (begins u steps a G) in
    let x = emit_probes s waited (nothing_emitted s) in
    let b = drives-emitted u steps a.few G (λ p r. r.0) [] ds (good-drives u steps P ds gs rs) w.all_fit x n.inv in
    let m : Says u steps a.few G (map drive_said ds) (comb s waited ds) = b.inv y (begun-so u steps a G y (list_all drive_fits ds) (comb s waited ds) w) in
    let r = read-is u steps a G y (list_all drive_fits ds) (comb s waited ds) w in
    let l = lines-are u steps a G y (list_all drive_fits ds) (comb s waited ds) w in
    record {
      form = neither _ _ (ap has_hierarchy l ∙ m.hierarchy) (ap has_register l ∙ m.registers ∙ no-registers ds);
      rows = ap (λ (z : EntityText). z.rows) r ∙ m.rows_are;
      probes = record {
        all_have = subst (λ (z : EntityText). Each P z.probes) (sym r) (each-second _ P _ m.probed);
        all_there = subst (λ (z : EntityText). Each (λ p. Among p z.probes) waited) (sym r) (all-asked u steps a.few G _ x (comb s waited ds) waited b.kept n.named m);
      };
    }

pub once-says : OnceSaysRows
once-says u y steps ds h a gs rs =
    let s = source_of u steps in
    let G = Good u steps (λ p. ⊥) in
    let w = within u y (list_all drive_fits ds) (once s ds).lines h in
    let b = drives-emitted u steps a.few G (λ p r. r.0) [] ds (good-drives u steps (λ p. ⊥) ds gs rs) w.all_fit (nothing_emitted s) (begins u steps a G) in
    let m : Says u steps a.few G (map drive_said ds) (once s ds) = b.inv y (begun-so u steps a G y (list_all drive_fits ds) (once s ds) w) in
    let r = read-is u steps a G y (list_all drive_fits ds) (once s ds) w in
    let l = lines-are u steps a G y (list_all drive_fits ds) (once s ds) w in
    record {
      form = neither _ _ (ap has_hierarchy l ∙ m.hierarchy) (ap has_register l ∙ m.registers ∙ no-registers ds);
      rows = ap (λ (z : EntityText). z.rows) r ∙ m.rows_are;
      probes = record { all_have = subst (λ (z : EntityText). Each (λ p. ⊥) z.probes) (sym r) (each-second _ (λ p. ⊥) _ m.probed); all_there = tt };
    }

pub edge-says : EdgeSaysRows
edge-says u y steps rs h a gs =
    let s = source_of u steps in
    let G = IsReached s in
    let w = within u y (list_all row_fits rs) (edge s rs).lines h in
    let b = rows-emitted u steps a.few G (λ p r. r) [] rs (given-rows u steps rs gs) w.all_fit (nothing_emitted s) (begins u steps a G) in
    let m : Says u steps a.few G (registers_said rs) (edge s rs) = b y (begun-so u steps a G y (list_all row_fits rs) (edge s rs) w) in
    let r = read-is u steps a G y (list_all row_fits rs) (edge s rs) w in
    let l = lines-are u steps a G y (list_all row_fits rs) (edge s rs) w in
    record {
      form = neither _ _ (ap has_hierarchy l ∙ m.hierarchy) (ap has_drive l ∙ m.drives ∙ no-drives (filter has_triggers (map register_of rs)));
      rows = ap (λ (z : EntityText). z.rows) r ∙ m.rows_are;
    }
