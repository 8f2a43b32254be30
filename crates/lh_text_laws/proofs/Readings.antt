-- What a text reads as is spelled.
use Rattle.std.proofs.Common.{◌≡◌, ℕ, false, List, [], ◌∷◌, ◌++◌, map, refl, ap, sym, ◌∙◌, subst, append_assoc}
use Rattle.std.proofs.lemmas.List.{append-nil}
use Rattle.lh_unit.specs.Contents.{ItemText}
use Rattle.lh_unit.specs.Lines.{lines_of}
use Rattle.lh_unit.specs.Pieces.{Piece, render, IsSpaced, lexemes_in}
use Rattle.lh_unit.specs.Canon.{canon, canon_lines}
use Rattle.lh_unit.specs.Within.{Each}
use Rattle.lh_unit.specs.Spells.{LineItem, empty_item, Spells}
use Rattle.lh_unit.specs.Reads.{ReadState, after, Takes, Walk, start}
use Rattle.lh_unit.specs.WellFormed.{IsSpelled}
use Rattle.lh_unit.proofs.RenderedPieces.{lexemes-render}
use Rattle.lh_text_laws.specs.ItemLines.{item_line}
use Rattle.lh_text_laws.specs.Laws.{EveryReadingIsSpelled, CanonHasItsLines, HasItsTokens, CanonHasItsTokens}
use Rattle.lh_text_laws.proofs.Written.{written}
use Rattle.lh_text_laws.proofs.Again.{Whole}
use Rattle.lh_text_laws.proofs.Items.{item-again}
use Rattle.lh_text_laws.proofs.TextLines.{lines_of-text}
use Rattle.lh_text_laws.proofs.Walks.{lines_in}
use Rattle.lh_text_laws.proofs.Steps.{Ready, added, Step, step}

-- the canonical lines that lead from one state to another
record Lined (s t : ReadState) : Type 0 where
  more : List (List Piece)
  spaced : Each IsSpaced more
  walk : Walk (map render more) s t
  adds : lines_in t ≡ lines_in s ++ more

-- the same item taken from its canonical line
again-takes : (s m : ReadState) (l : List ℕ) (k : Takes s l m) → Whole (λ us. Spells us k.item) (item_line k.item) → Takes s (render (item_line k.item)) m
again-takes s m l k a =
    record {
      item = k.item;
      said = record { tokens = lexemes_in (item_line k.item); lexed = lexemes-render (item_line k.item) a.spaced; spelled = a.spelled; stands = k.said.stands };
      has_room = k.has_room;
      is_new = k.is_new;
      becomes = k.becomes;
    }

line-front : (s m t : ReadState) (ps : List Piece) → IsSpaced ps → Takes s (render ps) m → lines_in m ≡ lines_in s ++ ps ∷ [] → Lined m t → Lined s t
line-front s m t ps h k e r = record { more = ps ∷ r.more; spaced = (h, r.spaced); walk = (m, k, r.walk); adds = r.adds ∙ ap (λ q. q ++ r.more) e ∙ append_assoc (lines_in s) (ps ∷ []) r.more }

front : (i : LineItem) (s m t : ReadState) → IsSpaced (item_line i) → Takes s (render (item_line i)) m → m ≡ after s i → lines_in m ≡ lines_in s ++ added i → Lined m t → Lined s t
front empty_item s m t h k b e r = subst (λ q. Lined q t) b r
front i s m t h k b e r = line-front s m t (item_line i) h k e r

taken : (s m t : ReadState) (l : List ℕ) (k : Takes s l m) → Step s k.item → Whole (λ us. Spells us k.item) (item_line k.item) → Lined m t → Lined s t
taken s m t l k d a r = front k.item s m t a.spaced (again-takes s m l k a) k.becomes (ap lines_in k.becomes ∙ d.adds) r

lined : (ls : List (List ℕ)) (s t : ReadState) → Walk ls s t → Ready s → Lined s t
lined [] s t w r = subst (Lined s) w (record { more = []; spaced = tt; walk = refl; adds = sym (append-nil (lines_in s)) })
lined (l ∷ ls) s t w r =
    let k = w.1 in
    let d = step s k.item k.said.tokens k.said.spelled k.said.stands r in
    let a = item-again k.item k.said.tokens (written l k.said.tokens k.said.lexed) k.said.spelled in
    let n : Ready w.0 = subst Ready (sym k.becomes) d.ready in
    taken s w.0 t l k d a (lined ls w.0 t w.2 n)

-- the state after the last line
abbrev pub read_to : List ItemText → ReadState
read_to items = record { items = items; inside = false }

-- the canonical lines of what is read
record Readable (items : List ItemText) : Type 0 where
  spaced : Each IsSpaced (canon_lines items)
  walk : Walk (map render (canon_lines items)) start (read_to items)

readable : (ls : List (List ℕ)) (items : List ItemText) → Walk ls start (read_to items) → Readable items
readable ls items w =
    let r = lined ls start (read_to items) w tt in
    let e : r.more ≡ canon_lines items = sym r.adds in
    record { spaced = subst (Each IsSpaced) e r.spaced; walk = subst (λ q. Walk (map render q) start (read_to items)) e r.walk }

-- what any lines lead to is spelled
pub walked-spelled : (ls : List (List ℕ)) (items : List ItemText) → Walk ls start (read_to items) → IsSpelled items
walked-spelled ls items w =
    let r = readable ls items w in
    subst (λ q. Walk q start (read_to items)) (sym (lines_of-text (canon_lines items) r.spaced)) r.walk

pub every_reading_is_spelled : EveryReadingIsSpelled
every_reading_is_spelled text items w = walked-spelled (lines_of text) items w

pub canon_has_its_lines : CanonHasItsLines
canon_has_its_lines items h = lines_of-text (canon_lines items) (readable (lines_of (canon items)) items h).spaced

each-tokens : (ls : List (List Piece)) → Each IsSpaced ls → Each HasItsTokens ls
each-tokens [] h = tt
each-tokens (l ∷ ls) h = (lexemes-render l h.0, each-tokens ls h.1)

pub canon_has_its_tokens : CanonHasItsTokens
canon_has_its_tokens items h = each-tokens (canon_lines items) (readable (lines_of (canon items)) items h).spaced
