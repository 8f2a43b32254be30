-- The flat text of a process of a well-formed module is formed.
use Rattle.std.proofs.Common.{◌≡◌, ◌<◌, ℕ, List, [], ◌∷◌, false, Option, Some, IsSome, refl, ap, sym, subst}
use Rattle.lh_unit_names.specs.declared.name.UnitName.{UnitName}
use Rattle.lh_unit.specs.declared.inst.UnitId.{UnitId}
use Rattle.lh_unit.specs.declared.inst.UnitKind.{UnitKind}
use Rattle.lh_unit.specs.declared.inst.UnitKind.TheVariants as kind
use Rattle.lh_unit.specs.Activation.{functions}
use Rattle.lh_unit.specs.Arena.{Arena, IsArena, contents, unit_count, kind_at, unit_text_at}
use Rattle.lh_unit.specs.Contents.{LineText, UnitText, ItemText, unit_text}
use Rattle.lh_unit.specs.Hierarchy.{lines_of}
use Rattle.lh_unit.specs.Naming.{kind_text}
use Rattle.lh_unit.specs.Table.{HasBlocks}
use Rattle.lh_unit.specs.WellFormed.{IsWellFormed}
use Rattle.lh_unit.specs.Within.{Each}
use Rattle.lh_verify_laws.specs.Operands.{RowIs}
use Rattle.lh_verify_laws.specs.Parts.{HasPart}
use Rattle.lh_eval.specs.Sound.{InstIsSound}
use Rattle.lh_eval_laws.specs.Units.{UnitIsSound}
use Rattle.lh_eval_laws.proofs.NamedOnce.{args-typed}
use Rattle.lh_eval_laws.proofs.SoundLines.{signals-written, ports-written}
use Rattle.lh_exec.proofs.Heads.{args-have-kinds}
use Rattle.lh_flat.specs.Calls.{callees, nest_deeper}
use Rattle.lh_flat.specs.Copies.{top_copy}
use Rattle.lh_flat.specs.Flat.{flat_unit, text_of, max_nested}
use Rattle.lh_flat.specs.Marks.{UnitsAreNamed}
use Rattle.lh_flat.proofs.Formed.{units-right}
use Rattle.lh_flat.proofs.Distinct.{unit-labels, copies-labels}
use Rattle.lh_flat_laws.specs.Formed.{IsFormed}
use Rattle.lh_flat_laws.proofs.Facts.{UnitFacts}
use Rattle.lh_flat_laws.proofs.CopyPaths.{copy-facts}
use Rattle.lh_flat_laws.proofs.FlatActivations.{flat-is}
use Rattle.lh_flat_laws.proofs.TidyUnits.{facts, among-mapped, functions_are_tidy, processes_are_tidy}
use Rattle.lh_flat_laws.proofs.FlatForm.{formed}
use Rattle.lh_flat_laws.proofs.WellFormedResults.{results_once, results_typed}
use Rattle.lh_flat_state_laws.specs.Formed.{FlatTextsAreFormed}
use Rattle.lh_flat_laws.specs.Members.{Among}

rows : (v : UnitText) (ls : List LineText) → Each (InstIsSound v) ls → Each (λ (l : LineText). RowIs v l.inst × HasPart v l.inst) ls
rows v [] h = tt
rows v (l ∷ ls) h = ((h.0.row, h.0.part), rows v ls h.1)

-- each unit of which the facts are known is sound
unit-sound : (items : List ItemText) (v : UnitText) → UnitFacts items v → UnitIsSound v
unit-sound items v f = record {
  lines = f.sound;
  args = args-typed v f.printable.new_args;
  ports = ports-written v f.printable;
  signals = signals-written v (rows v (lines_of v.blocks) f.sound) f.printable;
  printable = f.printable;
}

module _ (a : Arena) (u : ℕ) (name : UnitName) (o : IsArena a) (g : IsWellFormed (contents a)) (named : UnitsAreNamed a) (l : u < unit_count a) (k : kind_at a u ≡ Some kind.Proc) where
  abbrev process : UnitText
  process = unit_text_at a u

  abbrev flat : UnitText
  flat = flat_unit name (text_of (functions (contents a)) process)

  listed : Among (unit_text process) (contents a)
  listed =
      let v : UnitId = record { 0 = u } in
      let i = o.items_defined v l (subst (λ (x : Option UnitKind). IsSome x) (sym k) refl) in
      among-mapped a a.items i.0 v i.1

  process-kind : process.kind ≡ kind.Proc
  process-kind = ap kind_text k

  flat-formed : nest_deeper max_nested (functions (contents a)) (callees process) ≡ false → IsFormed flat
  flat-formed shallow =
      formed (contents a) (facts (contents a) g) process listed process-kind shallow (processes_are_tidy a u o g l k) (functions_are_tidy (contents a) g)
      (λ d c n. args-have-kinds c.unit (unit-sound (contents a) c.unit (copy-facts (contents a) (facts (contents a) g) process listed process-kind shallow d c n)))
      flat refl refl refl
      (unit-labels a o (functions (contents a)) named (units-right a o g.1) max_nested (copies-labels a o (functions (contents a)) named (units-right a o g.1) max_nested) u l
      (subst HasBlocks (sym k) tt) (top_copy process) refl).0
      (results_once (contents a) g process listed process-kind name) (results_typed (contents a) g process listed process-kind name)

pub flat_texts_formed : FlatTextsAreFormed
flat_texts_formed a u name text o g named l k e =
    let x = flat-is (functions (contents a)) (unit_text_at a u) text e in
    subst (λ t. IsFormed (flat_unit name t)) x.same (flat-formed a u name o g named l k x.shallow)
