-- The same questions over ids as over names: operands, labels, definitions and places.
use Rattle.std.specs.Prelude.{ℕ, ◌+◌, Bool, true, false, ◌||◌, nat_eq, List, [], ◌∷◌, ◌++◌, length, map, Option, Some, None, if◌then◌else◌}
use Rattle.lh_unit.specs.Contents.{LineText}
use Rattle.lh_unit.specs.Table.{Table, line_at, insts_at, is_result}
use Rattle.lh_unit.specs.Naming.{Naming, line_text, block_text}
use Rattle.lh_unit.specs.Arena.{Arena, table_at, naming, unit_text_at}
use Rattle.lh_unit.specs.Places.{InstPlaceText}
use Rattle.lh_unit.specs.WellFormed.{Site}
use Rattle.lh_unit.specs.declared.inst.UnitId.{UnitId}
use Rattle.lh_unit.specs.declared.inst.BlockId.{BlockId}
use Rattle.lh_unit.specs.declared.inst.InstId.{InstId}
use Rattle.lh_unit.specs.declared.inst.ValueId.{ValueId}
use Rattle.lh_unit.specs.declared.inst.Typed.{Typed}
use Rattle.lh_unit.specs.declared.inst.RegTrigger.{RegTrigger}
use Rattle.lh_unit.specs.declared.inst.PhiEdge.{PhiEdge}
use Rattle.lh_unit.specs.declared.inst.Inst.{Inst}
use Rattle.lh_unit.specs.declared.inst.Inst.TheVariants as inst
use Rattle.lh_unit.specs.declared.inst.Arg.{Arg}
use Rattle.lh_unit.specs.declared.inst.Item.{Item}
use Rattle.lh_unit.specs.declared.inst.Item.TheVariants as item
use Rattle.lh_unit.specs.declared.table.TableLine.{TableLine}

-- an instruction makes a signal
abbrev pub is_sig : Inst → Bool
is_sig (inst.Sig initial) = true
is_sig _ = false

-- the values of operands
abbrev pub operand_ids : List Typed → List ValueId
operand_ids os = map (λ (o : Typed). o.value) os

-- an operand that may be absent
abbrev pub maybe_id : Option ValueId → List ValueId
maybe_id None = []
maybe_id (Some v) = v ∷ []

-- the operands of a register's triggers
abbrev pub trigger_ids : List RegTrigger → List ValueId
trigger_ids [] = []
trigger_ids (g ∷ more) = g.value ∷ g.trigger ∷ maybe_id g.gate ++ maybe_id g.after ++ trigger_ids more

-- the values that an instruction uses, in the order of the spelling
abbrev pub values_used : Inst → List ValueId
values_used (inst.Const d) = []
values_used (inst.Pure op args) = operand_ids args
values_used (inst.Var t) = t.value ∷ []
values_used (inst.Ld t) = t.value ∷ []
values_used (inst.St to value) = to.value ∷ value ∷ []
values_used (inst.Sig t) = t.value ∷ []
values_used (inst.Prb t) = t.value ∷ []
values_used (inst.Drv to value after cond) = to.value ∷ value ∷ after ∷ maybe_id cond
values_used (inst.Reg to triggers) = to.value ∷ trigger_ids triggers
values_used (inst.Child unit inputs outputs) = operand_ids inputs ++ operand_ids outputs
values_used (inst.Call unit result args) = operand_ids args
values_used (inst.Phi ty edges) = map (λ (e : PhiEdge). e.value) edges
values_used (inst.Br to) = []
values_used (inst.Branch cond zero one) = cond ∷ []
values_used (inst.Wait to after signals) = maybe_id after ++ signals
values_used inst.Halt = []
values_used (inst.Ret None) = []
values_used (inst.Ret (Some t)) = t.value ∷ []

-- the blocks to which an instruction may lead
abbrev pub blocks_led_to : Inst → List BlockId
blocks_led_to (inst.Br to) = to ∷ []
blocks_led_to (inst.Branch cond zero one) = zero ∷ one ∷ []
blocks_led_to (inst.Wait to after signals) = to ∷ []
blocks_led_to _ = []

-- the blocks whose labels an instruction names
abbrev pub blocks_named : Inst → List BlockId
blocks_named (inst.Phi ty edges) = map (λ (e : PhiEdge). e.block) edges
blocks_named i = blocks_led_to i

-- the units that an instruction names
abbrev pub unit_ids : Inst → List UnitId
unit_ids (inst.Child unit inputs outputs) = unit ∷ []
unit_ids (inst.Call unit result args) = unit ∷ []
unit_ids _ = []

-- an instruction that ends a block
abbrev pub ends_block : Inst → Bool
ends_block (inst.Br to) = true
ends_block (inst.Branch cond zero one) = true
ends_block (inst.Wait to after signals) = true
ends_block inst.Halt = true
ends_block (inst.Ret t) = true
ends_block _ = false

-- the blocks to which the last of these instructions may lead
abbrev pub last_led_to : Table → List InstId → List BlockId
last_led_to t [] = []
last_led_to t (i ∷ []) = blocks_led_to (line_at t i.0).inst
last_led_to t (i ∷ j ∷ more) = last_led_to t (j ∷ more)

-- the blocks to which a block has an edge
abbrev pub successors : Table → BlockId → List BlockId
successors t b = last_led_to t (insts_at t b.0)

-- whether one of these instructions gives the value v
abbrev pub insts_make : Table → List InstId → ℕ → Bool
insts_make t [] v = false
insts_make t (i ∷ more) v = is_result (line_at t i.0).result v || insts_make t more v

-- whether an instruction of one of these blocks gives the value v
abbrev pub blocks_make : Table → List BlockId → ℕ → Bool
blocks_make t [] v = false
blocks_make t (b ∷ more) v = insts_make t (insts_at t b.0) v || blocks_make t more v

-- the argument that is the value v
abbrev pub arg_being : List Arg → ℕ → Option Arg
arg_being [] v = None
arg_being (x ∷ more) v = if nat_eq x.value.0 v then Some x else arg_being more v

-- the instruction that gives the value v
abbrev pub inst_making : List TableLine → ℕ → Option Inst
inst_making [] v = None
inst_making (l ∷ more) v = if is_result l.result v then Some l.inst else inst_making more v

-- whether one of these items defines the unit v
abbrev pub is_item : List Item → ℕ → Bool
is_item [] v = false
is_item (item.Unit u ∷ more) v = nat_eq u.0 v || is_item more v
is_item (item.Declare d ∷ more) v = is_item more v

-- a place of an instruction: its number in the unit from 1, whether its block is the entry, its block, and the instructions of the block before and after it
pub record InstPlace : Type 0 where
  pub number : ℕ
  pub in_entry : Bool
  pub block : BlockId
  pub before : List InstId
  pub inst : InstId
  pub after : List InstId

-- the places of the rest of a block, the first of them having this number
abbrev pub inst_places_in : (number : ℕ) → (in_entry : Bool) → BlockId → (before rest : List InstId) → List InstPlace
inst_places_in k e b before [] = []
inst_places_in k e b before (i ∷ rest) =
    record { number = k; in_entry = e; block = b; before = before; inst = i; after = rest } ∷ inst_places_in (k + 1) e b (before ++ i ∷ []) rest

-- the places of blocks, the first of them having this number
abbrev pub inst_places_from : Table → (number : ℕ) → (in_entry : Bool) → List BlockId → List InstPlace
inst_places_from t k e [] = []
inst_places_from t k e (b ∷ more) = inst_places_in k e b [] (insts_at t b.0) ++ inst_places_from t (k + length (insts_at t b.0)) false more

-- the places of a unit in file order
abbrev pub inst_places : Table → List InstPlace
inst_places t = inst_places_from t 1 true t.blocks

-- the text of an instruction with its result
abbrev pub inst_line_text : Naming → Table → InstId → LineText
inst_line_text f t i = line_text f (line_at t i.0)

-- the text of a place
abbrev pub place_text : Naming → Table → InstPlace → InstPlaceText
place_text f t s = record {
  number = s.number;
  in_entry = s.in_entry;
  block = block_text f t s.block;
  before = map (inst_line_text f t) s.before;
  line = inst_line_text f t s.inst;
  after = map (inst_line_text f t) s.after;
}

-- a place of the unit u as an instruction of the module
abbrev pub site_text : Arena → ℕ → InstPlace → Site
site_text a u s = record { unit = unit_text_at a u; place = place_text (naming a u) (table_at a u) s }

-- the instructions of a module in file order
abbrev pub sites_at : Arena → List Item → List Site
sites_at a [] = []
sites_at a (item.Unit u ∷ more) = map (site_text a u.0) (inst_places (table_at a u.0)) ++ sites_at a more
sites_at a (item.Declare d ∷ more) = sites_at a more
