-- What a text reads as, computed line by line; so every text reads or is faulty.
use Rattle.std.proofs.Common.{◌≡◌, ℕ, ◌+◌, Bool, true, false, List, [], ◌∷◌, Option, Some, None, Result, Ok, Err, refl, subst, inl, inr}
use Rattle.lh_unit.specs.Contents.{ItemText}
use Rattle.lh_unit.specs.Lines.{lines_of}
use Rattle.lh_unit.specs.Spells.{LineItem}
use Rattle.lh_unit.specs.Reads.{ReadState, start, Takes, Walk, BadKind, syntax, IsBad, FirstBadFrom, Reads, FirstBad}
use Rattle.lh_lex.specs.Front.{lexemes_to_bad}
use Rattle.lh_read_lines.specs.Items.{item_at}
use Rattle.lh_read_lines.specs.SpelledBy.{SpelledBy}
use Rattle.lh_read_lines.proofs.SpelledItems.{spelled_by}
use Rattle.lh_read.specs.Steps.{step}
use Rattle.lh_read.specs.Reading.{ReadsOrIsBad}
use Rattle.lh_read.proofs.Texts.{closed, taken-line, bad-line, unspelled-line, reads-once, reads-bad, first_bad-once}

abbrev pub step_item : ReadState → Option LineItem → Result ReadState BadKind
step_item s None = Err syntax
step_item s (Some i) = step s i

-- the state after a line, or its fault
abbrev pub step_line : ReadState → List ℕ → Result ReadState BadKind
step_line s l = step_item s (item_at (lexemes_to_bad l))

-- goes on from a state, or names the line
abbrev pub or_fault : ℕ → Result ReadState BadKind → (ReadState → Result (List ItemText) (ℕ × BadKind)) → Result (List ItemText) (ℕ × BadKind)
or_fault n (Err e) f = Err (n, e)
or_fault n (Ok s) f = f s

-- the items at the end, where no unit is open then
abbrev pub at_end : Bool → ℕ → List ItemText → Result (List ItemText) (ℕ × BadKind)
at_end true n items = Err (n, syntax)
at_end false n items = Ok items

-- the items of these lines, or the first faulty one, where the next line has the number n
abbrev pub read_lines : List (List ℕ) → ℕ → ReadState → Result (List ItemText) (ℕ × BadKind)
read_lines [] n s = at_end s.inside n s.items
read_lines (l ∷ ls) n s = or_fault n (step_line s l) (λ t. read_lines ls (n + 1) t)

abbrev pub read_of : List ℕ → Result (List ItemText) (ℕ × BadKind)
read_of text = read_lines (lines_of text) 1 start

-- a line that is taken, or its fault
abbrev Answered : ReadState → List ℕ → Result ReadState BadKind → Type 0
Answered s l (Ok t) = Takes s l t
Answered s l (Err why) = IsBad s l why

line-answered : (s : ReadState) (l : List ℕ) → Answered s l (step_line s l)
line-answered s l = spelled (item_at (lexemes_to_bad l)) (spelled_by (lexemes_to_bad l) (item_at (lexemes_to_bad l)) refl)
  where
    stepped : (i : LineItem) → SpelledBy (lexemes_to_bad l) (Some i) → (r : Result ReadState BadKind) → step s i ≡ r → Answered s l r
    stepped i w (Ok t) p = taken-line s t l i w p
    stepped i w (Err why) p = bad-line s l i why w p

    spelled : (o : Option LineItem) → SpelledBy (lexemes_to_bad l) o → Answered s l (step_item s o)
    spelled None w = unspelled-line s l w
    spelled (Some i) w = stepped i w (step s i) refl

-- these lines lead to the end of a text, or one of them is the first faulty one
abbrev AllAnswered : List (List ℕ) → ℕ → ReadState → Result (List ItemText) (ℕ × BadKind) → Type 0
AllAnswered ls n s (Ok items) = Walk ls s (closed items)
AllAnswered ls n s (Err b) = FirstBadFrom ls n s b.0 b.1

end-answered : (n : ℕ) (s : ReadState) (b : Bool) → s.inside ≡ b → AllAnswered [] n s (at_end b n s.items)
end-answered n s true e = (e, refl, refl)
end-answered n s false e = λ i. record { items = s.items; inside = e i }

next-answered : (l : List ℕ) (ls : List (List ℕ)) (n : ℕ) (s t : ReadState) → Takes s l t → (r : Result (List ItemText) (ℕ × BadKind)) → AllAnswered ls (n + 1) t r → AllAnswered (l ∷ ls) n s r
next-answered l ls n s t w (Ok items) v = (t, w, v)
next-answered l ls n s t w (Err b) v = inr (t, w, v)

first-answered : (l : List ℕ) (ls : List (List ℕ)) (n : ℕ) (s : ReadState) (r : Result ReadState BadKind) → Answered s l r → ((t : ReadState) → AllAnswered ls (n + 1) t (read_lines ls (n + 1) t))
    → AllAnswered (l ∷ ls) n s (or_fault n r (λ t. read_lines ls (n + 1) t))
first-answered l ls n s (Err why) w f = inl (refl, w)
first-answered l ls n s (Ok t) w f = next-answered l ls n s t w (read_lines ls (n + 1) t) (f t)

lines-answered : (ls : List (List ℕ)) (n : ℕ) (s : ReadState) → AllAnswered ls n s (read_lines ls n s)
lines-answered [] n s = end-answered n s s.inside refl
lines-answered (l ∷ ls) n s = first-answered l ls n s (step_line s l) (line-answered s l) (λ t. lines-answered ls (n + 1) t)

pub read_of-reads : (text : List ℕ) (items : List ItemText) → read_of text ≡ Ok items → Reads text items
read_of-reads text items e = subst (AllAnswered (lines_of text) 1 start) e (lines-answered (lines_of text) 1 start)

pub read_of-bad : (text : List ℕ) (n : ℕ) (why : BadKind) → read_of text ≡ Err (n, why) → FirstBad text n why
read_of-bad text n why e = subst (AllAnswered (lines_of text) 1 start) e (lines-answered (lines_of text) 1 start)

-- every text reads or is faulty, and never both
text-answered : (text : List ℕ) (r : Result (List ItemText) (ℕ × BadKind)) → AllAnswered (lines_of text) 1 start r → ReadsOrIsBad text
text-answered text (Ok items) w = inl (
  items,
  record { reads = w; only = λ others v. reads-once text items others w v; no_fault = λ k why b. reads-bad text items k why w b },
)
text-answered text (Err f) b = inr (
  f.0,
  f.1,
  record { bad = b; only = λ m other c. first_bad-once text f.0 m f.1 other b c; no_items = λ items w. reads-bad text items f.0 f.1 w b },
)

pub reads-or_bad : (text : List ℕ) → ReadsOrIsBad text
reads-or_bad text = text-answered text (read_of text) (lines-answered (lines_of text) 1 start)
