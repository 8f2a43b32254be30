-- The entity that a process becomes is right and can be printed.
use Rattle.std.proofs.Common.{◌≡◌, ℕ, ◌<◌, ◌^◌, List, [], length, Some, refl, ap, sym, ◌∙◌, subst}
use Rattle.lh_unit.specs.declared.inst.UnitKind.TheVariants as unit_kind
use Rattle.lh_unit.specs.Activation.{functions}
use Rattle.lh_unit.specs.Arena.{Arena, IsArena, contents, unit_count, kind_at, unit_text_at}
use Rattle.lh_unit.specs.Contents.{UnitText}
use Rattle.lh_unit.specs.Naming.{kind_text}
use Rattle.lh_unit.specs.Reads.{args_repeat}
use Rattle.lh_unit.specs.Within.{Each}
use Rattle.lh_text_laws.specs.Printable.{IsPrintable}
use Rattle.lh_flat_laws.specs.Formed.{IsFormed}
use Rattle.lh_flat_laws.proofs.FlatActivations.{flat-is}
use Rattle.lh_flat_state_laws.specs.Formed.{FlatTextsAreFormed}
use Rattle.lh_flat.specs.Flat.{FlatText, flat_unit}
use Rattle.lh_term.specs.declared.part.Part.{Part}
use Rattle.lh_edge.specs.Triggers.{EdgeRowTree}
use Rattle.lh_region_def.specs.Rows.{Drive}
use Rattle.lh_shape.specs.Shapes.{ShapeText, comb, edge, once, left, shape_of_text}
use Rattle.lh_emit_def.specs.Emitted.{PartStep, source_of}
use Rattle.lh_emit_def.specs.Reached.{steps_in}
use Rattle.lh_emit_def.specs.Ways.{WaitIsGiven, DriveIsGiven, RowIsGiven}
use Rattle.lh_emit_def.specs.Laws.{IsRightEntity, HasApartArgs, CombIsRight, EdgeIsRight, OnceIsRight}
use Rattle.lh_lower_def.specs.Lowering.{becomes, outcome_in}
use Rattle.lh_lower_def.specs.declared.report.Kind.{Kind}
use Rattle.lh_entity_laws.specs.Given.{source_in, CombIsGiven, EdgeIsGiven, OnceIsGiven}
use Rattle.lh_emit_def.specs.Printed.{HasPrintableHeader, CombIsPrintable, EdgeIsPrintable, OnceIsPrintable}
use Rattle.lh_entity_laws.specs.Stands.{IsEmittedFor, IsFlattened}
use Rattle.lh_lower_laws.specs.Delays.{ShapeIsWritable, DelaysAreWritable}
use Rattle.lh_lower_laws.specs.Same.{IsSourceModule}
use Rattle.lh_lower_laws.proofs.Outcomes.{Emitting, emitting}

-- a unit of a module in order has few arguments
abbrev pub ArgsAreFew : Type 0
ArgsAreFew = (a : Arena) (u : ℕ) → IsArena a → u < unit_count a → length (unit_text_at a u).args < 2 ^ 32

module _ (few : ArgsAreFew) (flat-formed : FlatTextsAreFormed) (a : Arena) (u : ℕ) (t : FlatText) (fl : IsFlattened a u t) where
  abbrev x : UnitText
  x = unit_text_at a u

  abbrev steps : Part → List PartStep
  steps = steps_in (flat_unit x.name t)

  same-args : t.args ≡ x.args
  same-args = ap (λ (z : FlatText). z.args) (sym (flat-is (functions (contents a)) x t fl.flat).same)

  formed : IsFormed (flat_unit x.name t)
  formed = flat-formed a u x.name t fl.arena fl.formed fl.named fl.within fl.process fl.flat

  source-is : source_in x.name t ≡ source_of x steps
  source-is = λ j. record { args = same-args j; steps = steps }

  apart : HasApartArgs x
  apart = record { few = few a u fl.arena fl.within; once = ap (args_repeat []) (sym same-args) ∙ formed.new_args }

  -- what the laws of entities ask of the rows

  waits-given : CombIsGiven → (waited : List Part) (ds : List Drive) → shape_of_text t ≡ comb waited ds → Each (WaitIsGiven (source_of x steps)) waited
  waits-given given waited ds q = subst (λ s. Each (WaitIsGiven s) waited) source-is (given x.name t formed waited ds q).waits

  drives-given : CombIsGiven → (waited : List Part) (ds : List Drive) → shape_of_text t ≡ comb waited ds → Each (DriveIsGiven (source_of x steps)) ds
  drives-given given waited ds q = subst (λ s. Each (DriveIsGiven s) ds) source-is (given x.name t formed waited ds q).drives

  rows-given : EdgeIsGiven → (rs : List EdgeRowTree) → shape_of_text t ≡ edge rs → Each (RowIsGiven (source_of x steps)) rs
  rows-given given rs q = subst (λ s. Each (RowIsGiven s) rs) source-is (given x.name t formed rs q)

  once-drives-given : OnceIsGiven → (ds : List Drive) → shape_of_text t ≡ once ds → Each (DriveIsGiven (source_of x steps)) ds
  once-drives-given given ds q = subst (λ s. Each (DriveIsGiven s) ds) source-is (given x.name t formed ds q).0

  module _ (combs : CombIsGiven) (edges : EdgeIsGiven) (onces : OnceIsGiven) (y : UnitText) where
    right-by : CombIsRight → EdgeIsRight → OnceIsRight → (z : ShapeText) → shape_of_text t ≡ z → IsEmittedFor x t z y → IsRightEntity y
    right-by c e o (comb waited ds) q h = c x y steps waited ds h apart (waits-given combs waited ds q) (drives-given combs waited ds q)
    right-by c e o (edge rs) q h = e x y steps rs h apart (rows-given edges rs q)
    right-by c e o (once ds) q h = o x y steps ds h apart (once-drives-given onces ds q)
    right-by c e o (left r) q h = absurd h

    printable-by : CombIsPrintable → EdgeIsPrintable → OnceIsPrintable → HasPrintableHeader x → (z : ShapeText) → shape_of_text t ≡ z → ShapeIsWritable z → IsEmittedFor x t z y → IsPrintable y
    printable-by c e o head (comb waited ds) q w h = c x y steps waited ds h head (waits-given combs waited ds q) (drives-given combs waited ds q) w
    printable-by c e o head (edge rs) q w h = e x y steps rs h head (rows-given edges rs q) w
    printable-by c e o head (once ds) q w h = o x y steps ds h head (once-drives-given onces ds q) w
    printable-by c e o head (left r) q w h = absurd h

  -- the header of a process that can be printed
  head-printable : IsPrintable x → HasPrintableHeader x
  head-printable p = record { is_process = ap kind_text fl.process; headed = p.headed; no_assert = p.no_assert; arguments = apart }

-- a process of a module with an entity, and its flat text
flattened-of : (a : Arena) (s : IsSourceModule a) (u : ℕ) (y : UnitText) → u < unit_count a → kind_at a u ≡ Some unit_kind.Proc → (m : Emitting (contents a) (unit_text_at a u) y)
    → IsFlattened a u m.text
flattened-of a s u y w p m = record { arena = s.arena; formed = s.formed; named = s.named; within = w; process = p; flat = m.flat }

module _ (few : ArgsAreFew) (flat-formed : FlatTextsAreFormed) (combs : CombIsGiven) (edges : EdgeIsGiven) (onces : OnceIsGiven) (a : Arena) (s : IsSourceModule a) (u : ℕ) (w : u < unit_count a)
    (p : kind_at a u ≡ Some unit_kind.Proc) (k : Kind) (y : UnitText) (e : outcome_in (contents a) (unit_text_at a u) ≡ becomes k y) where
  -- what a process becomes is right
  pub becomes-right : CombIsRight → EdgeIsRight → OnceIsRight → IsRightEntity y
  becomes-right c d o =
      let m : Emitting (contents a) (unit_text_at a u) y = emitting (contents a) (unit_text_at a u) y k e in
      right-by few flat-formed a u m.text (flattened-of a s u y w p m) combs edges onces y c d o (shape_of_text m.text) refl m.emitted

  -- and can be printed where the process can
  pub becomes-printable : CombIsPrintable → EdgeIsPrintable → OnceIsPrintable → DelaysAreWritable → IsPrintable (unit_text_at a u) → IsPrintable y
  becomes-printable c d o delays q =
      let m : Emitting (contents a) (unit_text_at a u) y = emitting (contents a) (unit_text_at a u) y k e in
      let fl : IsFlattened a u m.text = flattened-of a s u y w p m in
      printable-by few flat-formed a u m.text fl combs edges onces y c d o (head-printable few flat-formed a u m.text fl q) (shape_of_text m.text) refl (delays a u m.text fl) m.emitted
