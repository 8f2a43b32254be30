-- How far a text is read.
use Rattle.std.proofs.Common.{Some, None, ◌≡◌, ◌==◌, ℕ, ◌+◌, ◌<◌, ◌≤◌, List, [], ◌∷◌, length, Result, Ok, Err, IfOk, IfErr, true, false, refl, sym, subst, inl, inr, arith}
use Rattle.lh_types.specs.Same.{nat_eq-is}
use Rattle.lh_unit.specs.Contents.{ItemText}
use Rattle.lh_unit.specs.Lexemes.{Lexeme}
use Rattle.lh_unit.specs.Lines.{lines_of}
use Rattle.lh_unit.specs.Spells.{LineItem}
use Rattle.lh_unit.specs.Arena.{Arena, contents}
use Rattle.lh_unit.specs.Reads.{ReadState, start, Takes, Walk, BadKind, syntax, unit_too_large, duplicate_name, IsBad, FirstBadFrom, Reads, FirstBad}
use Rattle.lh_read_pieces.specs.declared.fault.ScanFault.{ScanFault}
use Rattle.lh_read_pieces.specs.declared.fault.ScanFault.TheVariants as scan
use Rattle.lh_lex.specs.Front.{lexemes_to_bad}
use Rattle.lh_read_lines.specs.SpelledBy.{SpelledBy}
use Rattle.lh_read.specs.declared.faults.LineFault.{LineFault}
use Rattle.lh_read.specs.declared.faults.LineFault.TheVariants as line
use Rattle.lh_read.specs.declared.reader.Reader.{Reader}
use Rattle.lh_read.specs.declared.TextFault.{TextFault}
use Rattle.lh_read.specs.declared.TextFault.TheVariants.{Syntax, UnitTooLarge, DuplicateName, OutOfMemory}
use Rattle.lh_read.specs.Places.{is_inside}
use Rattle.lh_read.specs.FaultOf.{spelling_fault}
use Rattle.lh_read.specs.InOrder.{ReaderIsInOrder, state_of}
use Rattle.lh_read.specs.Steps.{step}
use Rattle.lh_read.specs.Building.{Steps, TakesOrIsBad}
use Rattle.lh_read.specs.Reading.{ModuleOrNoMemory, NamesFirstFault, ModuleOrFault, text_fault}
use Rattle.lh_read.proofs.Texts.{closed, taken-line, bad-line, unspelled-line, reads-once, reads-bad}

-- what is answered of a line that says an item
pub line-steps : (o : Result (Unit {0}) LineFault) (s t : ReadState) (l : List ℕ) (ts : List Lexeme) (i : LineItem) → ts ≡ lexemes_to_bad l → SpelledBy ts (Some i) → Steps o (step s i) t → TakesOrIsBad o s l t
line-steps o s t l ts i e w p = by o (subst (λ us. SpelledBy us (Some i)) e w) p
  where
    by : (q : Result (Unit {0}) LineFault) → SpelledBy (lexemes_to_bad l) (Some i) → Steps q (step s i) t → TakesOrIsBad q s l t
    by (Ok _) v p = taken-line s t l i v p
    by (Err line.Syntax) v p = bad-line s l i syntax v p
    by (Err line.UnitTooLarge) v p = bad-line s l i unit_too_large v p
    by (Err line.DuplicateName) v p = bad-line s l i duplicate_name v p
    by (Err line.OutOfMemory) v p = tt

-- what is answered of a line that spells no item
pub line-unspelled : (e : ScanFault) (s t : ReadState) (l : List ℕ) (ts : List Lexeme) → ts ≡ lexemes_to_bad l → (e ≡ scan.NotSpelled → SpelledBy ts None) → TakesOrIsBad (Err (spelling_fault e)) s l t
line-unspelled scan.NotSpelled s t l ts e h = unspelled-line s l (subst (λ us. SpelledBy us None) e (h refl))
line-unspelled scan.OutOfMemory s t l ts e h = tt

-- the lines before this number are read: what follows from here is what the text reads as
pub record At (text rest : List ℕ) (number : ℕ) (r : Reader) : Type 0 where
  pub reads : (items : List ItemText) → Walk (lines_of rest) (state_of r) (closed items) → Reads text items
  pub bad : (k : ℕ) (why : BadKind) → FirstBadFrom (lines_of rest) number (state_of r) k why → FirstBad text k why
  pub order : ReaderIsInOrder r
  pub counted : 1 ≤ number
  pub short : number + length rest ≤ length text + 1

pub At-start : (text : List ℕ) (r : Reader) → state_of r ≡ start → ReaderIsInOrder r → At text text 1 r
At-start text r s o = record {
  reads = λ items w. subst (λ x. Walk (lines_of text) x (closed items)) s w;
  bad = λ k why b. subst (λ x. FirstBadFrom (lines_of text) 1 x k why) s b;
  order = o;
  counted = omega arith;
  short = omega arith;
}

pub At-next : (text rest first more : List ℕ) (number : ℕ) (r q : Reader) → At text rest number r → lines_of rest ≡ first ∷ lines_of more → length more < length rest
    → Takes (state_of r) first (state_of q) → ReaderIsInOrder q → At text more (number + 1) q
At-next text rest first more number r q a l s t o = record {
  reads = λ items w. a.reads items (subst (λ ls. Walk ls (state_of r) (closed items)) (sym l) (state_of q, t, w));
  bad = λ k why b. a.bad k why (subst (λ ls. FirstBadFrom ls number (state_of r) k why) (sym l) (inr (state_of q, t, b)));
  order = o;
  counted = omega arith;
  short = omega (arith, a.short);
}

stopped : (text rest first more : List ℕ) (number : ℕ) (r : Reader) (why : BadKind) → At text rest number r → lines_of rest ≡ first ∷ lines_of more → IsBad (state_of r) first why
    → FirstBad text number why
stopped text rest first more number r why a l b = a.bad number why (subst (λ ls. FirstBadFrom ls number (state_of r) number why) (sym l) (inl (refl, b)))

pub At-fault : (text rest first more : List ℕ) (number : ℕ) (r : Reader) (f : LineFault) (s : ReadState) → At text rest number r → lines_of rest ≡ first ∷ lines_of more
    → TakesOrIsBad (Err f) (state_of r) first s → ModuleOrFault (Err (text_fault number f)) text
At-fault text rest first more number r line.Syntax s a l b = stopped text rest first more number r syntax a l b
At-fault text rest first more number r line.UnitTooLarge s a l b = stopped text rest first more number r unit_too_large a l b
At-fault text rest first more number r line.DuplicateName s a l b = stopped text rest first more number r duplicate_name a l b
At-fault text rest first more number r line.OutOfMemory s a l b = tt

pub nothing_left : (rest : List ℕ) → true ≡ (length rest == 0) → rest ≡ []
nothing_left [] e = refl
nothing_left (b ∷ rest) e = let n : length (b ∷ rest) ≡ 0 = nat_eq-is (length (b ∷ rest)) 0 (sym e) in absurd (omega (arith, n))

pub At-end : (text rest : List ℕ) (number : ℕ) (r : Reader) → At text rest number r → rest ≡ [] → is_inside r.place ≡ false → Reads text (contents r.resolver.module)
At-end text rest number r a e o =
    a.reads (contents r.resolver.module) (subst (λ t. Walk (lines_of t) (state_of r) (closed (contents r.resolver.module))) (sym e) (λ i. record { items = contents r.resolver.module; inside = o i }))

pub At-open : (text rest : List ℕ) (number : ℕ) (r : Reader) → At text rest number r → rest ≡ [] → is_inside r.place ≡ true → FirstBad text number syntax
At-open text rest number r a e o = a.bad number syntax (subst (λ t. FirstBadFrom (lines_of t) number (state_of r) number syntax) (sym e) (o, refl, refl))

-- what the caller is told
pub told-ok : (r : Result Arena TextFault) (text : List ℕ) → ModuleOrFault r text → IfOk r (λ m. Reads text (contents m))
told-ok (Ok m) text a = a
told-ok (Err e) text a = tt

pub told-only : (r : Result Arena TextFault) (text : List ℕ) → ModuleOrFault r text → (items : List ItemText) → Reads text items → ModuleOrNoMemory r items
told-only (Ok m) text a items w = reads-once text items (contents m) w a
told-only (Err (Syntax n)) text a items w = reads-bad text items n syntax w a
told-only (Err (UnitTooLarge n)) text a items w = reads-bad text items n unit_too_large w a
told-only (Err (DuplicateName n)) text a items w = reads-bad text items n duplicate_name w a
told-only (Err OutOfMemory) text a items w = tt

pub told-fault : (r : Result Arena TextFault) (text : List ℕ) → ModuleOrFault r text → IfErr r (λ e. NamesFirstFault e text)
told-fault (Ok m) text a = tt
told-fault (Err e) text a = a
