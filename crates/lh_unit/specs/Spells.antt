-- What the tokens of one line spell, one case for each spelling of the language.
use Rattle.std.specs.Prelude.{◌≡◌, ℕ, ◌≤◌, true, false, List, [], ◌∷◌, ◌++◌, map, length, Option, Some, None, ◌⊎◌, codes}
use Rattle.lh_types.specs.Types.{TypeTree}
use Rattle.lh_unit.specs.Contents.{ArgText, LineText}
use Rattle.lh_unit.specs.Lexemes.{Lexeme, word, local, arrow}
use Rattle.lh_unit.specs.Marks.{open_paren, close_paren, open_brace, close_brace, colon}
use Rattle.lh_unit.specs.SpellsTypes.{SpellsType, SpellsValueType, SpellsSignalType, IsResultType}
use Rattle.lh_unit.specs.SpellsParts.{SpellsUnitName, SpellsList}
use Rattle.lh_unit.specs.SpellsInst.{SpellsLine}
use Rattle.lh_unit_names.specs.declared.name.UnitName.{UnitName}
use Rattle.lh_unit.specs.declared.inst.UnitKind.{UnitKind}
use Rattle.lh_unit.specs.declared.inst.UnitKind.TheVariants as kind
use Rattle.lh_unit.specs.declared.inst.Declare.{Declare}
use Rattle.lh_unit.specs.declared.inst.Declare.TheVariants as declare

-- what one line says
pub data LineItem : Type 0 where
  -- nothing, or only a comment
  empty_item : LineItem
  header_item : (kind : UnitKind) → (name : UnitName) → (args : List ArgText) → (result : Option TypeTree) → LineItem
  declare_item : Declare → LineItem
  label_item : List ℕ → LineItem
  inst_item : LineText → LineItem
  -- the end of a unit
  close_item : LineItem

-- a name with the type that is written before it
pub record TypedName : Type 0 where
  pub ty : TypeTree
  pub name : List ℕ

-- `V %a`, and then the tokens `more`
abbrev pub SpellsParam : TypedName → List Lexeme → List Lexeme → Type 0
SpellsParam a ts more = SpellsValueType a.ty ts (local a.name ∷ more)

-- `S %a`, and then the tokens `more`
abbrev pub SpellsPort : TypedName → List Lexeme → List Lexeme → Type 0
SpellsPort a ts more = SpellsSignalType a.ty ts (local a.name ∷ more)

abbrev pub input_of : TypedName → ArgText
input_of a = record { name = a.name; ty = a.ty; output = false }

abbrev pub output_of : TypedName → ArgText
output_of a = record { name = a.name; ty = a.ty; output = true }

-- `(V1 %a1, ..) R {`
pub record SpellsParams (args : List ArgText) (result : TypeTree) (ts : List Lexeme) : Type 0 where
  pub params : List TypedName
  pub together : args ≡ map input_of params
  pub first : List Lexeme
  pub second : List Lexeme
  pub opened : ts ≡ open_paren ∷ first
  pub spelled_params : SpellsList SpellsParam params first (close_paren ∷ second)
  pub spelled_result : SpellsType result second (open_brace ∷ [])
  pub fits : IsResultType result

-- `(S1 %a1, ..) -> (S2 %a2, ..) {`
pub record SpellsPorts (args : List ArgText) (ts : List Lexeme) : Type 0 where
  pub inputs : List TypedName
  pub outputs : List TypedName
  pub together : args ≡ map input_of inputs ++ map output_of outputs
  pub first : List Lexeme
  pub second : List Lexeme
  pub opened : ts ≡ open_paren ∷ first
  pub spelled_inputs : SpellsList SpellsPort inputs first (close_paren ∷ arrow ∷ open_paren ∷ second)
  pub spelled_outputs : SpellsList SpellsPort outputs second (close_paren ∷ open_brace ∷ [])

-- the head of a unit: its kind, its name and what follows
abbrev pub SpellsHeader : UnitKind → UnitName → List ArgText → Option TypeTree → List Lexeme → Type 0
-- `func @n (V1 %a1, ..) R {`
SpellsHeader kind.Func n args (Some r) ts = (name : Lexeme) × (us : List Lexeme) × (ts ≡ word (codes "func") ∷ name ∷ us) × SpellsUnitName n name × SpellsParams args r us
-- `proc @n (S1 %a1) -> (S2 %a2) {`
SpellsHeader kind.Proc n args None ts = (name : Lexeme) × (us : List Lexeme) × (ts ≡ word (codes "proc") ∷ name ∷ us) × SpellsUnitName n name × SpellsPorts args us
-- `entity @n (S1 %a1) -> (S2 %a2) {`
SpellsHeader kind.Entity n args None ts = (name : Lexeme) × (us : List Lexeme) × (ts ≡ word (codes "entity") ∷ name ∷ us) × SpellsUnitName n name × SpellsPorts args us
SpellsHeader _ n args result ts = ⊥

-- a unit that is defined elsewhere
abbrev pub SpellsDeclare : Declare → List Lexeme → Type 0
-- `declare @n (V1, V2) R`
SpellsDeclare (declare.Func n params r) ts =
    (name : Lexeme) × (us : List Lexeme) × (vs : List Lexeme) × (ts ≡ word (codes "declare") ∷ name ∷ open_paren ∷ us) × SpellsUnitName n name
    × SpellsList SpellsValueType params us (close_paren ∷ vs) × SpellsType r vs [] × IsResultType r
-- `declare @n (S1) -> (S2)`
SpellsDeclare (declare.Unit n inputs outputs) ts =
    (name : Lexeme) × (us : List Lexeme) × (vs : List Lexeme) × (ts ≡ word (codes "declare") ∷ name ∷ open_paren ∷ us) × SpellsUnitName n name
    × SpellsList SpellsSignalType inputs us (close_paren ∷ arrow ∷ open_paren ∷ vs) × SpellsList SpellsSignalType outputs vs (close_paren ∷ [])

-- `name:`, where the word is no longer than a name, or `%name:`
abbrev pub SpellsLabel : List ℕ → List Lexeme → Type 0
SpellsLabel n ts = ((ts ≡ word n ∷ colon ∷ []) × (length n ≤ 255)) ⊎ (ts ≡ local n ∷ colon ∷ [])

-- the tokens of a line spell this item
abbrev pub Spells : List Lexeme → LineItem → Type 0
Spells ts empty_item = ts ≡ []
Spells ts (header_item kind name args result) = SpellsHeader kind name args result ts
Spells ts (declare_item d) = SpellsDeclare d ts
Spells ts (label_item n) = SpellsLabel n ts
Spells ts (inst_item l) = SpellsLine l.result l.inst ts
Spells ts close_item = ts ≡ close_brace ∷ []
