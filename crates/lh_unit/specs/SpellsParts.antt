-- How the parts of a line are spelled: names, lists and operands.
use Rattle.std.specs.Prelude.{◌≡◌, ℕ, List, [], ◌∷◌, Option, Some, None, ◌⊎◌, codes}
use Rattle.lh_types.specs.Types.{TypeTree}
use Rattle.lh_unit.specs.Contents.{OperandText, TriggerText, EdgeText}
use Rattle.lh_unit.specs.Lexemes.{Lexeme, word, global, local}
use Rattle.lh_unit.specs.Marks.{open_bracket, close_bracket, comma}
use Rattle.lh_unit.specs.CanonWords.{mode_word}
use Rattle.lh_unit.specs.SpellsTypes.{SpellsType}
use Rattle.lh_unit_names.specs.declared.name.UnitName.{UnitName}

-- the name of a unit begins with `@` or `%`
abbrev pub SpellsUnitName : UnitName → Lexeme → Type 0
SpellsUnitName n t = ((n.sigil ≡ 64) × (t ≡ global n.name)) ⊎ ((n.sigil ≡ 37) × (t ≡ local n.name))

-- a list by comma of one or more parts, each spelled as P says, and then the tokens `more`
abbrev pub SpellsParts : {A : Type 0} → (A → List Lexeme → List Lexeme → Type 0) → List A → List Lexeme → List Lexeme → Type 0
SpellsParts P [] ts more = ⊥
SpellsParts P (a ∷ []) ts more = P a ts more
SpellsParts P (a ∷ b ∷ rest) ts more = (us : List Lexeme) × P a ts (comma ∷ us) × SpellsParts P (b ∷ rest) us more

-- such a list, or nothing
abbrev pub SpellsList : {A : Type 0} → (A → List Lexeme → List Lexeme → Type 0) → List A → List Lexeme → List Lexeme → Type 0
SpellsList P [] ts more = ts ≡ more
SpellsList P (a ∷ rest) ts more = SpellsParts P (a ∷ rest) ts more

-- a comma before each part, or nothing
abbrev pub SpellsBehind : {A : Type 0} → (A → List Lexeme → List Lexeme → Type 0) → List A → List Lexeme → List Lexeme → Type 0
SpellsBehind P [] ts more = ts ≡ more
SpellsBehind P (a ∷ rest) ts more = (us : List Lexeme) × (ts ≡ comma ∷ us) × SpellsParts P (a ∷ rest) us more

-- `%a`
abbrev pub SpellsLocal : List ℕ → List Lexeme → List Lexeme → Type 0
SpellsLocal n ts more = ts ≡ local n ∷ more

-- `T %a`, or `%a` where no type is kept
abbrev pub SpellsTyped : Option TypeTree → List ℕ → List Lexeme → List Lexeme → Type 0
SpellsTyped None n ts more = ts ≡ local n ∷ more
SpellsTyped (Some t) n ts more = SpellsType t ts (local n ∷ more)

-- `?T %a`
abbrev pub SpellsOperand : OperandText → List Lexeme → List Lexeme → Type 0
SpellsOperand o ts more = SpellsTyped o.ty o.value ts more

-- `%a`, without a type
abbrev pub SpellsBare : OperandText → List Lexeme → List Lexeme → Type 0
SpellsBare o ts more = (o.ty ≡ None) × (ts ≡ local o.value ∷ more)

-- `T %a`
abbrev pub SpellsWithType : OperandText → List Lexeme → List Lexeme → Type 0
SpellsWithType o ts more = (t : TypeTree) × (o.ty ≡ Some t) × SpellsType t ts (local o.value ∷ more)

-- a word and `%a`, or nothing
abbrev pub SpellsMaybe : (keyword : List ℕ) → Option (List ℕ) → List Lexeme → List Lexeme → Type 0
SpellsMaybe keyword None ts more = ts ≡ more
SpellsMaybe keyword (Some n) ts more = ts ≡ word keyword ∷ local n ∷ more

-- `[%v, mode %t if %g after %d]`
abbrev pub SpellsTrigger : TriggerText → List Lexeme → List Lexeme → Type 0
SpellsTrigger g ts more =
    (us : List Lexeme) × (vs : List Lexeme)
    × (ts ≡ open_bracket ∷ local g.value ∷ comma ∷ word (mode_word g.mode) ∷ local g.trigger ∷ us)
    × SpellsMaybe (codes "if") g.gate us vs
    × SpellsMaybe (codes "after") g.after vs (close_bracket ∷ more)

-- `[%v, %b]`
abbrev pub SpellsEdge : EdgeText → List Lexeme → List Lexeme → Type 0
SpellsEdge e ts more = ts ≡ open_bracket ∷ local e.value ∷ comma ∷ local e.block ∷ close_bracket ∷ more
