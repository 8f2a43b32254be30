-- The canonical line of what one line says.
use Rattle.std.specs.Prelude.{List, [], ◌∷◌}
use Rattle.lh_unit.specs.Canon.{header, declaration, canon_inst_line}
use Rattle.lh_unit.specs.Lexemes.{word}
use Rattle.lh_unit.specs.Marks.{colon, close_brace}
use Rattle.lh_unit.specs.Pieces.{Piece, token, mark}
use Rattle.lh_unit.specs.Spells.{LineItem, empty_item, header_item, declare_item, label_item, inst_item, close_item}

-- the pieces of the line; none for what says nothing
abbrev pub item_line : LineItem → List Piece
item_line empty_item = []
item_line (header_item k n args r) = header k n args r
item_line (declare_item d) = declaration d
item_line (label_item n) = token (word n) ∷ token colon ∷ []
item_line (inst_item l) = canon_inst_line l
item_line close_item = mark close_brace
