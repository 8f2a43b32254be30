-- The head by ids.
use Rattle.std.specs.Prelude.{◌≡◌, ℕ, ◌<◌, List, [], ◌∷◌, length, Bool, true, false, ◌||◌, nat_eq, Option, Some, None, unwrap_or}
use Rattle.std.specs.List.{list_any}
use Rattle.std.specs.Option.{option_map, is_some}
use Rattle.lh_unit.specs.Naming.{Naming}
use Rattle.lh_unit.specs.Within.{Each}
use Rattle.lh_unit.specs.declared.inst.BlockId.{BlockId}
use Rattle.lh_unit.specs.declared.inst.Inst.{Inst}
use Rattle.lh_unit.specs.declared.inst.Inst.TheVariants as inst
use Rattle.lh_flat.specs.declared.flat.FlatInst.{FlatInst}
use Rattle.lh_flat.specs.declared.flat.FlatBlock.{FlatBlock}
use Rattle.lh_flat.specs.declared.flat.Flat.{Flat}
use Rattle.lh_flat.specs.Reads.{flat_text}
use Rattle.lh_region_def.specs.Regions.{head_of}

-- where an instruction of an entry leads that stands behind constants
abbrev pub leads_then : Inst → (next : Option BlockId) → Option BlockId
leads_then (inst.Const v) next = next
leads_then (inst.Br to) next = Some to
leads_then _ next = None

-- where instructions lead that are constants up to a branch
abbrev pub leads_on : List FlatInst → Option BlockId
leads_on [] = None
leads_on (l ∷ more) = leads_then l.inst (leads_on more)

-- an instruction leads to the block
abbrev pub leads_to : BlockId → Inst → Bool
leads_to b (inst.Br to) = nat_eq to.0 b.0
leads_to b (inst.Branch cond zero one) = nat_eq zero.0 b.0 || nat_eq one.0 b.0
leads_to b (inst.Wait to after signals) = nat_eq to.0 b.0
leads_to b _ = false

-- one of these instructions does
abbrev pub names : BlockId → List FlatInst → Bool
names b ls = list_any (λ (l : FlatInst). leads_to b l.inst) ls

-- an instruction of these blocks does
abbrev pub is_named : BlockId → List FlatBlock → Bool
is_named b blocks = list_any (λ (x : FlatBlock). names b x.insts) blocks

abbrev pub entry_id : BlockId
entry_id = record { 0 = 0 }

-- the block to which the entry leads, where nothing leads to the entry, else the entry
abbrev pub head_if : Bool → Option BlockId → ℕ
head_if true to = 0
head_if false to = unwrap_or (option_map (λ (b : BlockId). b.0) to) 0

abbrev pub head_in : List FlatBlock → ℕ
head_in [] = 0
head_in (entry ∷ more) = head_if (is_named entry_id (entry ∷ more)) (leads_on entry.insts)

abbrev pub is_phi : Inst → Bool
is_phi (inst.Phi ty edges) = true
is_phi _ = false

abbrev pub starts_with_phi : List FlatInst → Bool
starts_with_phi [] = false
starts_with_phi (l ∷ more) = is_phi l.inst

abbrev pub begins_with_phi : FlatBlock → Bool
begins_with_phi b = is_some b.merge || starts_with_phi b.insts

-- the labels of an instruction are of the first n blocks
abbrev pub LabelsAreWithin : (n : ℕ) → Inst → Type 0
LabelsAreWithin n (inst.Br to) = to.0 < n
LabelsAreWithin n (inst.Branch cond zero one) = (zero.0 < n) × (one.0 < n)
LabelsAreWithin n (inst.Wait to after signals) = to.0 < n
LabelsAreWithin n _ = Unit {0}

abbrev pub IsNoBranch : Inst → Type 0
IsNoBranch (inst.Br to) = ⊥
IsNoBranch _ = Unit {0}

-- a branch without condition is the last instruction
abbrev pub BranchIsLast : List FlatInst → Type 0
BranchIsLast [] = Unit {0}
BranchIsLast (l ∷ []) = Unit {0}
BranchIsLast (l ∷ m ∷ more) = IsNoBranch l.inst × BranchIsLast (m ∷ more)

-- labels are blocks, and a branch ends its block
pub record FlatLabelsFit (t : Flat) : Type 0 where
  pub within : Each (λ (b : FlatBlock). Each (λ (l : FlatInst). LabelsAreWithin (length t.blocks) l.inst) b.insts) t.blocks
  pub last : Each (λ (b : FlatBlock). BranchIsLast b.insts) t.blocks

-- no two of the first n blocks have one label
abbrev pub LabelsDiffer : Naming → (n : ℕ) → Type 0
LabelsDiffer f n = (j k : ℕ) → j < n → k < n → f.label_name j ≡ f.label_name k → j ≡ k

-- The head by ids is the head of the text.
abbrev pub HeadsAgree : Type 0
HeadsAgree = (f : Naming) (t : Flat) → LabelsDiffer f (length t.blocks) → FlatLabelsFit t → head_of (flat_text f t).blocks ≡ head_in t.blocks
