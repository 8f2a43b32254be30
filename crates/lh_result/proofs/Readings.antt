-- Every text has a first faulty line or reads as one list of items, and never both.
use Rattle.std.proofs.Common.{◌≡◌, ℕ, List, ◌⊎◌, inl, inr, sym, ◌∙◌}
use Rattle.lh_unit.specs.Contents.{ItemText}
use Rattle.lh_unit.specs.Reads.{BadKind, Reads, FirstBad}
use Rattle.lh_read.specs.Reading.{ReadsOrIsBad}
use Rattle.lh_read.proofs.Computed.{reads-or_bad}

by_law : (text : List ℕ) → ReadsOrIsBad text → ((line : ℕ) × (kind : BadKind) × FirstBad text line kind) ⊎ ((file : List ItemText) × Reads text file)
by_law text (inl (file, one)) = inr (file, one.reads)
by_law text (inr (line, kind, one)) = inl (line, kind, one.bad)

pub FirstBad-or-Reads : (text : List ℕ) → ((line : ℕ) × (kind : BadKind) × FirstBad text line kind) ⊎ ((file : List ItemText) × Reads text file)
FirstBad-or-Reads text = by_law text (reads-or_bad text)

never_both : (text : List ℕ) (file : List ItemText) (line : ℕ) (kind : BadKind) → ReadsOrIsBad text → Reads text file → FirstBad text line kind → ⊥
never_both text file line kind (inl (only, one)) reads bad = one.no_fault line kind bad
never_both text file line kind (inr (l, k, one)) reads bad = one.no_items file reads

one_file : (text : List ℕ) (file again : List ItemText) → ReadsOrIsBad text → Reads text file → Reads text again → file ≡ again
one_file text file again (inl (only, one)) reads reads' = one.only file reads ∙ sym (one.only again reads')
one_file text file again (inr (line, kind, one)) reads reads' = absurd (one.no_items file reads)

pub Reads-unique : (text : List ℕ) (file again : List ItemText) → Reads text file → Reads text again → file ≡ again
Reads-unique text file again = one_file text file again (reads-or_bad text)

one_fault : (text : List ℕ) (line again : ℕ) (kind same : BadKind) → ReadsOrIsBad text → FirstBad text line kind → FirstBad text again same → (line ≡ again) × (kind ≡ same)
one_fault text line again kind same (inl (file, one)) bad bad' = absurd (one.no_fault line kind bad)
one_fault text line again kind same (inr (l, k, one)) bad bad' =
    let first = one.only line kind bad in
    let second = one.only again same bad' in
    (first.0 ∙ sym second.0, first.1 ∙ sym second.1)

pub FirstBad-unique : (text : List ℕ) (line again : ℕ) (kind same : BadKind) → FirstBad text line kind → FirstBad text again same → (line ≡ again) × (kind ≡ same)
FirstBad-unique text line again kind same = one_fault text line again kind same (reads-or_bad text)
