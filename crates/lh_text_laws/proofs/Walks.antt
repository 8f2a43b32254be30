-- The canonical lines of what is read lead through the same states.
use Rattle.std.proofs.Common.{◌≡◌, ℕ, List, [], ◌∷◌, ◌++◌, map, Some, None, if◌then◌else◌, refl, ap, sym, ◌∙◌, subst, append_assoc}
use Rattle.std.proofs.lemmas.List.{append-nil}
use Rattle.lh_unit.specs.Contents.{LineText, BlockText, UnitText, ItemText, unit_text, declare_text, change_last, last_unit, with_block, line_at_end}
use Rattle.lh_unit.specs.Marks.{close_brace}
use Rattle.lh_unit.specs.Pieces.{Piece, mark}
use Rattle.lh_unit.specs.Canon.{header, declaration, canon_inst_line, label_lines, block_lines, blocks_lines, item_lines, canon_lines}
use Rattle.lh_unit.specs.Spells.{label_item}
use Rattle.lh_unit.specs.Reads.{ReadState}
use Rattle.lh_text_laws.specs.ItemLines.{item_line}

-- the lines of items, the last of which is still open
abbrev pub open_lines : List ItemText → List (List Piece)
open_lines [] = []
open_lines (unit_text u ∷ []) = header u.kind u.name u.args u.result ∷ blocks_lines u.blocks
open_lines (declare_text d ∷ []) = declaration d ∷ []
open_lines (i ∷ j ∷ more) = item_lines i ++ open_lines (j ∷ more)

-- the lines of what is read so far
abbrev pub lines_in : ReadState → List (List Piece)
lines_in s = if s.inside then open_lines s.items else canon_lines s.items

-- joining
pub canon_lines-append : (a b : List ItemText) → canon_lines (a ++ b) ≡ canon_lines a ++ canon_lines b
canon_lines-append [] b = refl
canon_lines-append (i ∷ a) b = ap (λ q. item_lines i ++ q) (canon_lines-append a b) ∙ sym (append_assoc (item_lines i) (canon_lines a) (canon_lines b))

pub open_lines-push : (a : List ItemText) (u : UnitText) → open_lines (a ++ unit_text u ∷ []) ≡ canon_lines a ++ (header u.kind u.name u.args u.result ∷ blocks_lines u.blocks)
open_lines-push [] u = refl
open_lines-push (i ∷ []) u = ap (λ q. q ++ (header u.kind u.name u.args u.result ∷ blocks_lines u.blocks)) (sym (append-nil (item_lines i)))
open_lines-push (i ∷ j ∷ a) u = ap (λ q. item_lines i ++ q) (open_lines-push (j ∷ a) u)
    ∙ sym (append_assoc (item_lines i) (canon_lines (j ∷ a)) (header u.kind u.name u.args u.result ∷ blocks_lines u.blocks))

blocks_lines-append : (a b : List BlockText) → blocks_lines (a ++ b) ≡ blocks_lines a ++ blocks_lines b
blocks_lines-append [] b = refl
blocks_lines-append (x ∷ a) b = ap (λ q. block_lines x ++ q) (blocks_lines-append a b) ∙ sym (append_assoc (block_lines x) (blocks_lines a) (blocks_lines b))

map-append : (a b : List LineText) → map canon_inst_line (a ++ b) ≡ map canon_inst_line a ++ map canon_inst_line b
map-append [] b = refl
map-append (x ∷ a) b = ap (λ q. canon_inst_line x ∷ q) (map-append a b)

-- there is a block
abbrev pub HasBlock : List BlockText → Type 0
HasBlock [] = ⊥
HasBlock (b ∷ bs) = Unit {0}

-- one more line in the last block
block-line : (b : BlockText) (l : LineText) → block_lines (record b { lines = b.lines ++ l ∷ [] }) ≡ block_lines b ++ canon_inst_line l ∷ []
block-line b l = ap (λ q. label_lines b.label ++ q) (map-append b.lines (l ∷ [])) ∙ sym (append_assoc (label_lines b.label) (map canon_inst_line b.lines) (canon_inst_line l ∷ []))

pub blocks-line : (l : LineText) (bs : List BlockText) → HasBlock bs → blocks_lines (line_at_end l bs) ≡ blocks_lines bs ++ canon_inst_line l ∷ []
blocks-line l [] h = absurd h
blocks-line l (b ∷ []) h = append-nil (block_lines (record b { lines = b.lines ++ l ∷ [] })) ∙ block-line b l ∙ ap (λ q. q ++ canon_inst_line l ∷ []) (sym (append-nil (block_lines b)))
blocks-line l (b ∷ c ∷ bs) h = ap (λ q. block_lines b ++ q) (blocks-line l (c ∷ bs) tt) ∙ sym (append_assoc (block_lines b) (blocks_lines (c ∷ bs)) (canon_inst_line l ∷ []))

-- one more line in the last unit
pub grows : (f : UnitText → UnitText) (l : List Piece) (u : UnitText)
    → (header (f u).kind (f u).name (f u).args (f u).result ∷ blocks_lines (f u).blocks ≡ (header u.kind u.name u.args u.result ∷ blocks_lines u.blocks) ++ l ∷ [])
    → (items : List ItemText) → last_unit items ≡ Some u → open_lines (change_last f items) ≡ open_lines items ++ l ∷ []
grows f l u e [] h = absurd cc
grows f l u e (unit_text v ∷ []) h =
    let q : u ≡ v = cc in
    subst (λ w. header (f w).kind (f w).name (f w).args (f w).result ∷ blocks_lines (f w).blocks ≡ (header w.kind w.name w.args w.result ∷ blocks_lines w.blocks) ++ l ∷ []) q e
grows f l u e (declare_text d ∷ []) h = absurd cc
grows f l u e (i ∷ unit_text v ∷ []) h = ap (λ q. item_lines i ++ q) (grows f l u e (unit_text v ∷ []) h) ∙ sym (append_assoc (item_lines i) (open_lines (unit_text v ∷ [])) (l ∷ []))
grows f l u e (i ∷ declare_text d ∷ []) h = absurd cc
grows f l u e (i ∷ j ∷ k ∷ more) h = ap (λ q. item_lines i ++ q) (grows f l u e (j ∷ k ∷ more) h) ∙ sym (append_assoc (item_lines i) (open_lines (j ∷ k ∷ more)) (l ∷ []))

pub label-line : (n : List ℕ) (u : UnitText) → blocks_lines (with_block n u).blocks ≡ blocks_lines u.blocks ++ item_line (label_item n) ∷ []
label-line n u = blocks_lines-append u.blocks (record { label = Some n; lines = [] } ∷ [])

-- the closing line
pub closes : (u : UnitText) (items : List ItemText) → last_unit items ≡ Some u → canon_lines items ≡ open_lines items ++ mark close_brace ∷ []
closes u [] h = absurd cc
closes u (unit_text v ∷ []) h = append-nil (item_lines (unit_text v))
closes u (declare_text d ∷ []) h = absurd cc
closes u (i ∷ j ∷ more) h = ap (λ q. item_lines i ++ q) (closes u (j ∷ more) h) ∙ sym (append_assoc (item_lines i) (open_lines (j ∷ more)) (mark close_brace ∷ []))

-- without an open unit
pub not_open : (items : List ItemText) → last_unit items ≡ None → open_lines items ≡ canon_lines items
not_open [] h = refl
not_open (unit_text v ∷ []) h = absurd cc
not_open (declare_text d ∷ []) h = refl
not_open (i ∷ j ∷ more) h = ap (λ q. item_lines i ++ q) (not_open (j ∷ more) h)
