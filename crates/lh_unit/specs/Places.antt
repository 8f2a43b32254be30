-- Where an instruction stands, and by which paths of blocks it is reached.
use Rattle.std.specs.Prelude.{◌≡◌, ℕ, ◌+◌, List, [], ◌∷◌, ◌++◌, length, Bool, true, false, Option, Some, None}
use Rattle.std.specs.List.{list_any}
use Rattle.lh_unit.specs.Contents.{InstText, br_text, branch_text, wait_text, halt_text, ret_text, LineText, BlockText, UnitText}
use Rattle.lh_unit_names.specs.Names.{same_name}
use Rattle.lh_unit.specs.Named.{block_of, label_or}

-- a place of an instruction: its number in the unit from 1, whether its block is the entry, its block, and the instructions of the block before and after it
pub record InstPlaceText : Type 0 where
  pub number : ℕ
  pub in_entry : Bool
  pub block : BlockText
  pub before : List LineText
  pub line : LineText
  pub after : List LineText

-- the places of the rest of a block, the first of them having this number
abbrev pub places_in : (number : ℕ) → (in_entry : Bool) → BlockText → (before rest : List LineText) → List InstPlaceText
places_in k e b before [] = []
places_in k e b before (l ∷ rest) =
    record { number = k; in_entry = e; block = b; before = before; line = l; after = rest } ∷ places_in (k + 1) e b (before ++ l ∷ []) rest

-- the places of blocks, the first of them having this number
abbrev pub places_from : (number : ℕ) → (in_entry : Bool) → List BlockText → List InstPlaceText
places_from k e [] = []
places_from k e (b ∷ more) = places_in k e b [] b.lines ++ places_from (k + length b.lines) false more

-- the places of a unit in file order
abbrev pub places : UnitText → List InstPlaceText
places u = places_from 1 true u.blocks

-- the labels to which an instruction may lead
abbrev pub leads_to : InstText → List (List ℕ)
leads_to (br_text to) = to ∷ []
leads_to (branch_text cond first second) = first ∷ second ∷ []
leads_to (wait_text to after signals) = to ∷ []
leads_to _ = []

-- an instruction that ends a block
abbrev pub is_terminator : InstText → Bool
is_terminator (br_text to) = true
is_terminator (branch_text cond first second) = true
is_terminator (wait_text to after signals) = true
is_terminator halt_text = true
is_terminator (ret_text o) = true
is_terminator _ = false

-- the labels that the last of these instructions names
abbrev pub last_leads_to : List LineText → List (List ℕ)
last_leads_to [] = []
last_leads_to (l ∷ []) = leads_to l.inst
last_leads_to (l ∷ m ∷ more) = last_leads_to (m ∷ more)

-- a block has an edge to the block of this label
abbrev pub has_edge : (from : BlockText) → (to : List ℕ) → Bool
has_edge b n = list_any (λ m. same_name m n) (last_leads_to b.lines)

-- the entry block of a unit
abbrev pub entry_of : List BlockText → Option BlockText
entry_of [] = None
entry_of (b ∷ more) = Some b

-- A path of blocks, the last one first: it goes back to the entry, and each block has an edge to the one that it leads to, which is the block of that label.
abbrev pub IsPath : UnitText → List BlockText → Type 0
IsPath u [] = ⊥
IsPath u (b ∷ []) = entry_of u.blocks ≡ Some b
IsPath u (b ∷ c ∷ more) = (has_edge c (label_or b.label) ≡ true) × (block_of (label_or b.label) u.blocks ≡ Some b) × IsPath u (c ∷ more)
