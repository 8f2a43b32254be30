-- A line is taken or is faulty in one way only, and so is a text.
use Rattle.std.proofs.Common.{◌≡◌, ℕ, ◌+◌, true, false, List, [], ◌∷◌, Option, Some, None, Ok, Err, refl, ap, sym, ◌∙◌, subst, inl, inr}
use Rattle.std.proofs.lemmas.Bool.{both_ways}
use Rattle.lh_unit.specs.Contents.{ItemText}
use Rattle.lh_unit.specs.Lexemes.{Lexeme}
use Rattle.lh_unit.specs.Lines.{lines_of}
use Rattle.lh_unit.specs.Spells.{LineItem, Spells}
use Rattle.lh_unit.specs.Reads.{ReadState, start, place_of, may_stand, too_large, defines_again, after, LineSpells, Takes, Walk, Reads, BadKind, syntax, unit_too_large, duplicate_name, IsBad, FirstBadFrom, FirstBad}
use Rattle.lh_lex.specs.Front.{lexemes_to_bad}
use Rattle.lh_lex.proofs.ToBad.{lexemes-all, those-lexemes}
use Rattle.lh_read_lines.specs.Items.{item_at}
use Rattle.lh_read_lines.specs.SpelledBy.{SpelledBy}
use Rattle.lh_read_lines.proofs.SpelledItems.{spelled_by}
use Rattle.lh_read.specs.Steps.{step}
use Rattle.lh_read.proofs.SpelledTokens.{spelled-tokens}
use Rattle.lh_read.proofs.StepAnswers.{IsFree, step-free, HasFault, step-fault}

-- no unit is open at the end of these items
abbrev pub closed : List ItemText → ReadState
closed items = record { items = items; inside = false }

-- a line whose tokens spell this item
said-line : (s : ReadState) (l : List ℕ) (i : LineItem) → Spells (lexemes_to_bad l) i → may_stand (place_of s) i ≡ true → LineSpells s l i
said-line s l i w h = record { tokens = lexemes_to_bad l; lexed = lexemes-all l (spelled-tokens (lexemes_to_bad l) i w); spelled = w; stands = h }

pub taken-line : (s t : ReadState) (l : List ℕ) (i : LineItem) → SpelledBy (lexemes_to_bad l) (Some i) → step s i ≡ Ok t → Takes s l t
taken-line s t l i w p =
    let f : IsFree s i t = step-free s i t p in
    record { item = i; said = said-line s l i w.0 f.stands; has_room = f.has_room; is_new = f.is_new; becomes = f.becomes }

said-spelled : (s : ReadState) (l : List ℕ) (j : LineItem) → LineSpells s l j → Spells (lexemes_to_bad l) j
said-spelled s l j w = subst (λ us. Spells us j) (sym (those-lexemes l w.tokens w.lexed)) w.spelled

pub bad-line : (s : ReadState) (l : List ℕ) (i : LineItem) (why : BadKind) → SpelledBy (lexemes_to_bad l) (Some i) → step s i ≡ Err why → IsBad s l why
bad-line s l i why w p = by why (step-fault s i why p)
  where
    by : (b : BadKind) → HasFault s i b → IsBad s l b
    by syntax f = λ j v. both_ways (may_stand (place_of s) i) f (ap (may_stand (place_of s)) (sym (w.1 j (said-spelled s l j v))) ∙ v.stands)
    by unit_too_large f = (i, said-line s l i w.0 f.0, f.1)
    by duplicate_name f = (i, said-line s l i w.0 f.0, f.1, f.2)

-- a line whose tokens spell nothing, or that has a bad byte
pub unspelled-line : (s : ReadState) (l : List ℕ) → SpelledBy (lexemes_to_bad l) None → IsBad s l syntax
unspelled-line s l w = λ j v. w j (said-spelled s l j v)

-- tokens spell one item
spells-once : (ts : List Lexeme) (i j : LineItem) → Spells ts i → Spells ts j → i ≡ j
spells-once ts i j v w = by (item_at ts) (spelled_by ts (item_at ts) refl)
  where
    by : (o : Option LineItem) → SpelledBy ts o → i ≡ j
    by None s = absurd (s i v)
    by (Some k) s = s.1 i v ∙ sym (s.1 j w)

said-once : (s : ReadState) (l : List ℕ) (i j : LineItem) → LineSpells s l i → LineSpells s l j → i ≡ j
said-once s l i j v w = spells-once (lexemes_to_bad l) i j (said-spelled s l i v) (said-spelled s l j w)

taken-once : (s t u : ReadState) (l : List ℕ) → Takes s l t → Takes s l u → t ≡ u
taken-once s t u l v w = v.becomes ∙ ap (after s) (said-once s l v.item w.item v.said w.said) ∙ sym w.becomes

bad-taken : (s t : ReadState) (l : List ℕ) (why : BadKind) → IsBad s l why → Takes s l t → ⊥
bad-taken s t l syntax b w = b w.item w.said
bad-taken s t l unit_too_large b w = both_ways (too_large s b.0) (ap (too_large s) (said-once s l b.0 w.item b.1 w.said) ∙ w.has_room) b.2
bad-taken s t l duplicate_name b w = both_ways (defines_again s b.0) (ap (defines_again s) (said-once s l b.0 w.item b.1 w.said) ∙ w.is_new) b.3

bad-once : (s : ReadState) (l : List ℕ) (e f : BadKind) → IsBad s l e → IsBad s l f → e ≡ f
bad-once s l syntax syntax b c = refl
bad-once s l syntax unit_too_large b c = absurd (b c.0 c.1)
bad-once s l syntax duplicate_name b c = absurd (b c.0 c.1)
bad-once s l unit_too_large syntax b c = absurd (c b.0 b.1)
bad-once s l unit_too_large unit_too_large b c = refl
bad-once s l unit_too_large duplicate_name b c = absurd (both_ways (too_large s b.0) (ap (too_large s) (said-once s l b.0 c.0 b.1 c.1) ∙ c.2) b.2)
bad-once s l duplicate_name syntax b c = absurd (c b.0 b.1)
bad-once s l duplicate_name unit_too_large b c = absurd (both_ways (too_large s c.0) (ap (too_large s) (said-once s l c.0 b.0 c.1 b.1) ∙ b.2) c.2)
bad-once s l duplicate_name duplicate_name b c = refl

-- line after line
walk-once : (ls : List (List ℕ)) (s t u : ReadState) → Walk ls s t → Walk ls s u → t ≡ u
walk-once [] s t u v w = sym v ∙ w
walk-once (l ∷ ls) s t u v w = walk-once ls w.0 t u (subst (λ m. Walk ls m t) (taken-once s v.0 w.0 l v.1 w.1) v.2) w.2

walk-bad : (ls : List (List ℕ)) (n : ℕ) (s : ReadState) (items : List ItemText) (k : ℕ) (why : BadKind) → Walk ls s (closed items) → FirstBadFrom ls n s k why → ⊥
walk-bad [] n s items k why w b = both_ways s.inside (ap (λ x. x.inside) w) b.0
walk-bad (l ∷ ls) n s items k why w b = elim b [
  | inl f ↦ bad-taken s w.0 l why f.1 w.1
  | inr f ↦ walk-bad ls (n + 1) f.0 items k why (subst (λ m. Walk ls m (closed items)) (taken-once s w.0 f.0 l w.1 f.1) w.2) f.2
]

first-once : (ls : List (List ℕ)) (n : ℕ) (s : ReadState) (k m : ℕ) (e f : BadKind) → FirstBadFrom ls n s k e → FirstBadFrom ls n s m f → (m ≡ k) × (f ≡ e)
first-once [] n s k m e f b c = (c.1 ∙ sym b.1, c.2 ∙ sym b.2)
first-once (l ∷ ls) n s k m e f b c = elim b [
  | inl x ↦ elim c [ inl y ↦ (y.0 ∙ sym x.0, bad-once s l f e y.1 x.1) | inr y ↦ absurd (bad-taken s y.0 l e x.1 y.1) ]
  | inr x ↦ elim c [
    | inl y ↦ absurd (bad-taken s x.0 l f y.1 x.1)
    | inr y ↦ first-once ls (n + 1) x.0 k m e f x.2 (subst (λ t. FirstBadFrom ls (n + 1) t m f) (taken-once s y.0 x.0 l y.1 x.1) y.2)
  ]
]

pub reads-once : (text : List ℕ) (items others : List ItemText) → Reads text items → Reads text others → others ≡ items
reads-once text items others v w = ap (λ s. s.items) (walk-once (lines_of text) start (closed others) (closed items) w v)

pub reads-bad : (text : List ℕ) (items : List ItemText) (k : ℕ) (why : BadKind) → Reads text items → FirstBad text k why → ⊥
reads-bad text items k why w b = walk-bad (lines_of text) 1 start items k why w b

pub first_bad-once : (text : List ℕ) (k m : ℕ) (e f : BadKind) → FirstBad text k e → FirstBad text m f → (m ≡ k) × (f ≡ e)
first_bad-once text k m e f b c = first-once (lines_of text) 1 start k m e f b c
