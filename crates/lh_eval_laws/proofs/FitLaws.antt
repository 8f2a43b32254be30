-- What holds of the instructions of a well-formed module: their operands fit, and what they give fits.
use Rattle.std.proofs.Common.{◌≡◌, ℕ, ◌<◌, List, [], ◌∷◌, ◌++◌, length, map, Bool, false, not, ◌&&◌, ◌||◌, if◌then◌else◌, Option, Some, IsSome, refl, ap, sym, ◌∙◌, subst}
use Rattle.lh_time.specs.declared.Instant.{Instant}
use Rattle.lh_types.specs.declared.part.Range.{Range}
use Rattle.lh_unit.specs.Contents.{OperandText, TriggerText, InstText, const_text, pure_text, prb_text, reg_text, LineText, UnitText, ItemText, unit_text}
use Rattle.lh_unit.specs.Held.{datum_held, part_held, nothing_held, with_args}
use Rattle.lh_unit.specs.Effects.{operated, probed}
use Rattle.lh_unit.specs.Typing.{value_type, result_type}
use Rattle.lh_unit.specs.Hierarchy.{lines_of, parts_of}
use Rattle.lh_unit.specs.Pass.{Passed, passes, triggers_from, trigger_now, fires, stored}
use Rattle.lh_unit.specs.Arena.{Arena, IsArena, unit_count, kind_at, contents, unit_text_at, item_text_at}
use Rattle.lh_unit.specs.Naming.{kind_text}
use Rattle.lh_unit.specs.Within.{Each}
use Rattle.lh_unit.specs.WellFormed.{IsWellFormed}
use Rattle.lh_unit.specs.declared.inst.UnitKind.{UnitKind}
use Rattle.lh_unit.specs.declared.inst.UnitKind.TheVariants as kind
use Rattle.lh_unit.specs.declared.inst.UnitId.{UnitId}
use Rattle.lh_unit.specs.declared.inst.Item.TheVariants as item
use Rattle.lh_text_laws.specs.Printable.{IsPrintable, IsPrintableItem}
use Rattle.lh_verify_laws.specs.Operands.{RowIs}
use Rattle.lh_verify_laws.specs.Parts.{HasPart}
use Rattle.lh_eval.specs.Fitting.{Fits}
use Rattle.lh_eval.specs.Sound.{IsWrittenRight, InstIsSound}
use Rattle.lh_eval_laws.specs.Ranges.{RangesFit, arg_types, InstanceFits}
use Rattle.lh_eval_laws.specs.Units.{UnitIsSound}
use Rattle.lh_verify_laws.proofs.EachItem.{each-at}
use Rattle.lh_eval_laws.proofs.SoundLines.{IsTyped, RowsIn, rows-of-items, items-printable, unit-sound, signals-written, ports-written}
use Rattle.lh_eval_laws.proofs.NamedOnce.{args-typed}
use Rattle.lh_eval_laws.proofs.Begins.{process-fits, entity-fits}
use Rattle.lh_eval.proofs.GivesFit.{constants-fit, operations-fit, probes-fit, held-still-fits}

-- a register holds nothing more
pub triggers-hold : (memory : Option (List Bool)) (t : Instant) (to : OperandText) (fired : Bool) (p : Passed) (gs : List TriggerText) → (triggers_from memory t to fired p gs).held ≡ p.held
triggers-hold memory t to fired p [] = refl
triggers-hold memory t to fired p (g ∷ gs) =
    triggers-hold memory t to (fired || fires memory p g)
    (record { held = p.held; seen = p.seen ++ trigger_now p.held g ∷ []; wish = if not fired && fires memory p g then stored t to g p else p.wish }) gs

keeps : (u : UnitText) (now : List Bool) (memory : Option (List Bool)) (t : Instant) (p : Passed) → Fits u (length now) p.held → (i : InstText) (r : Option (List ℕ)) → RowIs u i → HasPart u i
    → IsWrittenRight i → ((n : List ℕ) → r ≡ Some n → value_type u n ≡ result_type i)
    → Fits u (length now) (passes u now memory t i r p).held
keeps u now memory t p f (const_text d) r row part written gives = held-still-fits u (length now) p.held r (Some (datum_held d)) f
    (λ n e x s g q. constants-fit (length now) d written x s g (sym (gives n e) ∙ q))
keeps u now memory t p f (pure_text o os) r row part written gives =
    held-still-fits u (length now) p.held r (operated u p.held o os) f (λ n e x s g q. operations-fit u (length now) p.held o os f row part written x s g (sym (gives n e) ∙ q))
keeps u now memory t p f (prb_text o) r row part written gives = held-still-fits u (length now) p.held r (probed now p.held o) f
    (λ n e x s g q. probes-fit u now p.held o f row x s g (sym (gives n e) ∙ q))
keeps u now memory t p f (reg_text to gs) r row part written gives = subst (Fits u (length now)) (sym (triggers-hold memory t to false p gs)) f
keeps u now memory t p f _ r row part written gives = f

-- what is held still fits after an instruction
pub keeps-fit : (u : UnitText) (now : List Bool) (memory : Option (List Bool)) (t : Instant) (p : Passed) (l : LineText) → InstIsSound u l → Fits u (length now) p.held
    → Fits u (length now) (passes u now memory t l.inst l.result p).held
keeps-fit u now memory t p l s f = keeps u now memory t p f l.inst l.result s.row s.part s.written s.gives

module _ (a : Arena) (u : ℕ) (o : IsArena a) (h : u < unit_count a) (g : IsWellFormed (contents a)) where
  -- what holds of each item of the module holds of the unit
  pub of-unit : IsSome (kind_at a u) → (P : ItemText → Type 0) → Each P (contents a) → P (unit_text (unit_text_at a u))
  of-unit b P each =
      let v : UnitId = record { 0 = u } in
      let i = o.items_defined v h b in
      each-at P (item_text_at a) a.items i.0 (item.Unit v) each i.1

  -- a defined unit is sound
  pub unit-is-sound : IsSome (kind_at a u) → UnitIsSound (unit_text_at a u)
  unit-is-sound b =
      let rows : Each (IsTyped (unit_text_at a u)) (lines_of (unit_text_at a u).blocks) = of-unit b RowsIn (rows-of-items (contents a) g.1) in
      let printable : IsPrintable (unit_text_at a u) = of-unit b IsPrintableItem (items-printable (contents a) g.0) in
      record {
        lines = unit-sound (unit_text_at a u) rows printable;
        args = args-typed (unit_text_at a u) printable.new_args;
        ports = ports-written (unit_text_at a u) printable;
        signals = signals-written (unit_text_at a u) rows printable;
        printable = printable;
      }

  sound-of : (k : UnitKind) → kind_at a u ≡ Some k → UnitIsSound (unit_text_at a u)
  sound-of k e = unit-is-sound (subst (λ (x : Option UnitKind). IsSome x) (sym e) refl)

  -- what a process begins with fits
  pub process-begins : kind_at a u ≡ Some kind.Proc → (args : List Range) (w : ℕ) → RangesFit w args (arg_types (unit_text_at a u).args)
      → Fits (unit_text_at a u) w (with_args nothing_held (unit_text_at a u).args (map part_held args))
  process-begins e args w f = process-fits (unit_text_at a u) w (ap kind_text e) (sound-of kind.Proc e) args f

  -- what an entity begins with fits
  pub begins-fit : kind_at a u ≡ Some kind.Entity → (args sigs : List Range) (w : ℕ) → InstanceFits (unit_text_at a u) args sigs w → Fits (unit_text_at a u) w (parts_of (unit_text_at a u) args sigs)
  begins-fit e args sigs w f = entity-fits (unit_text_at a u) w (ap kind_text e) (sound-of kind.Entity e) args sigs f
