-- A process without calls that is as a process of a well-formed module is: what a flat text is, read as a process.
use Rattle.std.specs.Prelude.{◌≡◌, ℕ, List, [], ◌∷◌, false, true, Some, IsSome}
use Rattle.lh_unit.specs.declared.inst.UnitKind.TheVariants as kind
use Rattle.lh_unit.specs.Contents.{EdgeText, phi_text, InstText, sig_text, reg_text, child_text, call_text, ret_text, LineText, BlockText, UnitText}
use Rattle.lh_unit.specs.Named.{block_of, label_or}
use Rattle.lh_unit_names.specs.UnitNames.{is_assert}
use Rattle.lh_unit.specs.Hierarchy.{lines_of}
use Rattle.lh_unit.specs.Kinds.{uses}
use Rattle.lh_unit.specs.Places.{InstPlaceText, places, has_edge}
use Rattle.lh_unit.specs.Typing.{value_type}
use Rattle.lh_unit.specs.Reads.{args_repeat}
use Rattle.lh_unit.specs.Within.{Each}
use Rattle.lh_unit.specs.WellFormed.{labels_named, is_phi}
use Rattle.lh_text_laws.specs.Printable.{labels_repeat, results_repeat}
use Rattle.lh_verify_laws.specs.Calls.{AssertIsRight}
use Rattle.lh_verify_laws.specs.Defined.{OperandsThere}
use Rattle.lh_verify_laws.specs.KindsOf.{HasTypeOfKind}
use Rattle.lh_verify_laws.specs.Shape.{EndsOnce}
use Rattle.lh_eval.specs.Sound.{InstIsSound}
use Rattle.lh_eval_laws.specs.Units.{HasItsType, IsPort}
use Rattle.lh_flat_laws.specs.Members.{Among}

-- it may stand in a process whose calls were replaced: each call is an assertion of one truth value
abbrev pub IsWithoutCalls : UnitText → InstText → Type 0
IsWithoutCalls u (call_text f ty args) = (is_assert f ≡ true) × AssertIsRight u ty args
IsWithoutCalls u (ret_text o) = ⊥
IsWithoutCalls u (sig_text a) = ⊥
IsWithoutCalls u (reg_text to triggers) = ⊥
IsWithoutCalls u (child_text v inputs outputs) = ⊥
IsWithoutCalls u _ = Unit {0}

-- A `phi` stands behind other `phi` alone and not in the entry block, and names each block that has an edge to its own.
pub record IsPhiFormed (u : UnitText) (p : InstPlaceText) (es : List EdgeText) : Type 0 where
  pub first : Each (λ (l : LineText). is_phi l.inst ≡ true) p.before
  pub no_entry : p.in_entry ≡ false
  pub named : Each (λ (b : BlockText). has_edge b (label_or p.block.label) ≡ true → (e : EdgeText) × Among e es × (e.block ≡ label_or b.label)) u.blocks

abbrev pub PhiFormed : UnitText → InstPlaceText → InstText → Type 0
PhiFormed u p (phi_text ty es) = IsPhiFormed u p es
PhiFormed u p _ = Unit {0}

-- Each instruction has its row, its part and its operands; where control stands at it, what it names has been given; each block ends with its
-- one terminator, whose labels are blocks; each operand has a type of its kind; no name and no label stands twice.
pub record IsFormed (u : UnitText) : Type 0 where
  pub process : u.kind ≡ kind.Proc
  pub blocks : (b : BlockText) × (more : List BlockText) × (u.blocks ≡ b ∷ more)
  pub filled : Each (λ (b : BlockText). (l : LineText) × (more : List LineText) × (b.lines ≡ l ∷ more)) u.blocks
  pub labelled : Each (λ (b : BlockText). (n : List ℕ) × (b.label ≡ Some n)) u.blocks
  pub ends : Each (λ (b : BlockText). EndsOnce b.lines) u.blocks
  pub lines : Each (InstIsSound u) (lines_of u.blocks)
  pub given : Each (λ (l : LineText). (n : List ℕ) → l.result ≡ Some n → IsSome (value_type u n)) (lines_of u.blocks)
  pub kinds : Each (λ (l : LineText). Each (HasTypeOfKind u) (uses l.inst)) (lines_of u.blocks)
  pub calls : Each (λ (l : LineText). IsWithoutCalls u l.inst) (lines_of u.blocks)
  pub args : Each (HasItsType u) u.args
  pub ports : Each IsPort u.args
  pub there : Each (λ (p : InstPlaceText). OperandsThere kind.Proc u p p.line.inst) (places u)
  pub leads : Each (λ (p : InstPlaceText). Each (λ n. (b : BlockText) × (block_of n u.blocks ≡ Some b)) (labels_named p.line.inst)) (places u)
  pub phis : Each (λ (p : InstPlaceText). PhiFormed u p p.line.inst) (places u)
  pub new_args : args_repeat [] u.args ≡ false
  pub new_labels : labels_repeat [] u.blocks ≡ false
  pub new_results : results_repeat u.args [] (lines_of u.blocks) ≡ false
