-- The instructions of a unit of a well-formed module are sound, and what an entity begins with fits.
use Rattle.std.proofs.Common.{◌≡◌, ℕ, List, [], ◌∷◌, map, true, Option, sym, ◌∙◌, subst}
use Rattle.std.proofs.lemmas.Option.{same_Some}
use Rattle.lh_types.specs.Types.{IsLimited}
use Rattle.lh_types.proofs.TypeFaults.{limited_data}
use Rattle.lh_unit.specs.Contents.{InstText, sig_text, LineText, UnitText, ItemText, unit_text, declare_text}
use Rattle.lh_unit.specs.Hierarchy.{lines_of}
use Rattle.lh_unit.specs.Places.{places}
use Rattle.lh_unit.specs.WellFormed.{Site, sites, IsFaultless, IsSpelled}
use Rattle.lh_unit.specs.Within.{Each}
use Rattle.lh_verify_laws.specs.Operands.{RowIs}
use Rattle.lh_verify_laws.specs.Parts.{HasPart}
use Rattle.lh_verify_laws.proofs.Sound.{site_in}
use Rattle.lh_verify_laws.proofs.RowsLaw.{rows_are}
use Rattle.lh_verify_laws.proofs.PartsLaw.{parts_are_there}
use Rattle.lh_text_laws.specs.Laws.{IsSpelledAlone}
use Rattle.lh_text_laws.specs.Printable.{HasInstLine, IsPrintable, IsPrintableItem}
use Rattle.lh_unit.specs.Spells.{header_item}
use Rattle.lh_unit.specs.Pieces.{lexemes_in}
use Rattle.lh_unit.proofs.Within.{Each-more}
use Rattle.lh_unit.proofs.Lists.{Each-of-map}
use Rattle.lh_text_laws.specs.ItemLines.{item_line}
use Rattle.lh_text_laws.proofs.Apart.{spelled_apart}
use Rattle.lh_text_laws.proofs.Printed.{spelled_is_printable}
use Rattle.lh_eval.specs.Sound.{InstIsSound}
use Rattle.lh_verify_laws.proofs.EachItem.{each-contained, each-split}
use Rattle.lh_verify_laws.proofs.AtPlaces.{lines-from}
use Rattle.lh_eval_laws.proofs.Spelled.{SignalWritten, SignalNamed, line-written, signal-written, signal-named, header-ports}
use Rattle.lh_eval_laws.proofs.NamedOnce.{GivesItsType, lines-typed}
use Rattle.lh_eval_laws.specs.Units.{HasPorts, SigWritesData, WritesData}

-- an instruction has its row and its part
abbrev pub IsTyped : UnitText → LineText → Type 0
IsTyped u l = RowIs u l.inst × HasPart u l.inst

abbrev pub RowsIn : ItemText → Type 0
RowsIn (unit_text u) = Each (IsTyped u) (lines_of u.blocks)
RowsIn (declare_text d) = Unit {0}

abbrev SiteTyped : Site → Type 0
SiteTyped s = IsTyped s.unit s.place.line

rows-in : (items : List ItemText) → Each SiteTyped (sites items) → Each RowsIn items
rows-in [] e = tt
rows-in (unit_text u ∷ more) e =
    let r = each-split SiteTyped (map (site_in u) (places u)) (sites more) e in
    (lines-from (IsTyped u) 1 true u.blocks (Each-of-map SiteTyped (site_in u) (places u) r.0), rows-in more r.1)
rows-in (declare_text d ∷ more) e = (tt, rows-in more e)

-- Of a module without a fault each instruction of each unit has its row and its part; of one that is spelled each item can be printed.
pub rows-of-items : (items : List ItemText) → IsFaultless items → Each RowsIn items
rows-of-items items f = rows-in items (each-contained SiteTyped (sites items) (λ s c. (rows_are items s f c, parts_are_there items s f c)))

pub items-printable : (items : List ItemText) → IsSpelled items → Each IsPrintableItem items
items-printable items s = Each-more IsSpelledAlone IsPrintableItem items spelled_is_printable (spelled_apart items s).0

each-sound : (u : UnitText) (ls : List LineText) → Each (IsTyped u) ls → Each HasInstLine ls → Each (GivesItsType u) ls → Each (InstIsSound u) ls
each-sound u [] a b c = tt
each-sound u (l ∷ ls) a b c = (record { row = a.0.0; part = a.0.1; written = line-written l b.0; gives = c.0 }, each-sound u ls a.1 b.1 c.1)

pub results-typed : (u : UnitText) → IsPrintable u → Each (GivesItsType u) (lines_of u.blocks)
results-typed u p = lines-typed u p.new_results

pub lines-printed : (u : UnitText) → IsPrintable u → Each HasInstLine (lines_of u.blocks)
lines-printed u p = p.written

-- Each instruction of such a unit is sound.
pub unit-sound : (u : UnitText) → Each (IsTyped u) (lines_of u.blocks) → IsPrintable u → Each (InstIsSound u) (lines_of u.blocks)
unit-sound u r p = each-sound u (lines_of u.blocks) r (lines-printed u p) (results-typed u p)

-- a `sig` whose row holds, and which is spelled, writes a data type
sig-writes : (u : UnitText) (r : Option (List ℕ)) (i : InstText) → RowIs u i → SignalWritten i → SignalNamed r i → SigWritesData r i
sig-writes u r (sig_text a) row wr named =
    let same : wr.0 ≡ row.0 = same_Some wr.0 row.0 (sym wr.1 ∙ row.2.0) in
    (row.0, row.2.0, limited_data row.0 row.1 (subst IsLimited same wr.2), named)
sig-writes u r _ row wr named = tt

each-writes : (u : UnitText) (ls : List LineText) → Each (IsTyped u) ls → Each HasInstLine ls → Each WritesData ls
each-writes u [] a b = tt
each-writes u (l ∷ ls) a b = (sig-writes u l.result l.inst a.0.0 (signal-written l b.0) (signal-named l b.0), each-writes u ls a.1 b.1)

-- each `sig` of such a unit writes a data type
pub signals-written : (u : UnitText) → Each (IsTyped u) (lines_of u.blocks) → IsPrintable u → Each WritesData (lines_of u.blocks)
signals-written u r p = each-writes u (lines_of u.blocks) r (lines-printed u p)

-- its arguments are signals, where it is a process or an entity
pub ports-written : (u : UnitText) → IsPrintable u → HasPorts u.kind u.args
ports-written u p = header-ports u.kind u.name u.args u.result (lexemes_in (item_line (header_item u.kind u.name u.args u.result))) p.headed.1
