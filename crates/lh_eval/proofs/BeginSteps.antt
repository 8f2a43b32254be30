-- What an entity holds where it begins, by ids and by names.
use Rattle.std.proofs.Common.{◌≡◌, ℕ, ◌<◌, if◌then◌else◌, List, [], ◌∷◌, length, map, set, get_or, replicate, Bool, true, false, Option, Some, None, refl, ap, sym, ◌∙◌, subst, arith}
use Rattle.std.proofs.lemmas.List.{append-nil, length-set}
use Rattle.lh_types.specs.declared.part.Range.{Range}
use Rattle.lh_unit.specs.Contents.{LineText}
use Rattle.lh_unit.specs.Table.{Table, ArgsWithin, ResultWithin, FitsKind, line_at, entity_block}
use Rattle.lh_unit.specs.Arena.{Arena, IsArena, naming, unit_count, value_count, inst_count, table_at, kind_at, args_at, block_insts_at, unit_text_at}
use Rattle.lh_unit.specs.ById.{inst_line_text, is_sig}
use Rattle.lh_unit.specs.Held.{Held, Env, part_held, with_args, nothing_held}
use Rattle.lh_unit.specs.Hierarchy.{with_parts, signal_names, name_if_signal, lines_of, parts_of}
use Rattle.lh_unit.specs.Naming.{arg_text, inst_text, maybe_text, block_text}
use Rattle.lh_unit.specs.declared.inst.UnitKind.{UnitKind}
use Rattle.lh_unit.specs.declared.inst.UnitKind.TheVariants as kind
use Rattle.lh_unit.specs.declared.inst.BlockId.{BlockId}
use Rattle.lh_unit.specs.declared.inst.InstId.{InstId}
use Rattle.lh_unit.specs.declared.inst.Inst.{Inst}
use Rattle.lh_unit.specs.declared.inst.Inst.TheVariants as inst
use Rattle.lh_unit.specs.declared.inst.Arg.{Arg}
use Rattle.lh_unit.specs.declared.inst.ValueId.{ValueId}
use Rattle.lh_unit.proofs.ById.{result-within}
use Rattle.lh_eval.specs.Holding.{Holds, MaybeIn, given}
use Rattle.lh_unit.specs.Within.{Each}
use Rattle.lh_eval.proofs.GivingText.{block-insts}
use Rattle.lh_eval.proofs.HeldByIds.{holds-more, holds-given, holds-nothing}
use Rattle.lh_eval.specs.Beginning.{args_given, signals_given, next_given}

-- a result of the unit has a slot
pub maybe-in : (n : ℕ) (slots : List (Option Held)) (r : Option ValueId) → length slots ≡ n → ResultWithin n r → MaybeIn slots r
maybe-in n slots None e w = tt
maybe-in n slots (Some v) e w = omega (arith, e, w)

pub length-args : (xs : List Arg) (rs : List Range) (slots : List (Option Held)) → length (args_given xs rs slots) ≡ length slots
length-args [] rs slots = refl
length-args (x ∷ xs) [] slots = refl
length-args (x ∷ xs) (r ∷ rs) slots = length-args xs rs (set slots x.value.0 (Some (part_held r))) ∙ length-set slots x.value.0 (Some (part_held r))

-- without a part no signal is held
no-signals : (t : Table) (is : List InstId) (slots : List (Option Held)) → signals_given t is [] slots ≡ slots
no-signals t [] slots = refl
no-signals t (i ∷ more) slots = by (is_sig (line_at t i.0).inst) (no-signals t more slots)
  where
    by : (b : Bool) → signals_given t more [] slots ≡ slots → (if b then next_given (line_at t i.0).result [] slots (signals_given t more) else signals_given t more [] slots) ≡ slots
    by true e = refl
    by false e = e

pub no-ranges : (t : Table) (is : List InstId) (rs : List Range) (slots : List (Option Held)) → length rs ≡ 0 → slots ≡ signals_given t is rs slots
no-ranges t is [] slots n = sym (no-signals t is slots)
no-ranges t is (r ∷ rs) slots n = absurd (omega arith)

module _ (a : Arena) (u : ℕ) (o : IsArena a) (h : u < unit_count a) where
  pub args-held : (xs : List Arg) (rs : List Range) (slots : List (Option Held)) (e : Env) → ArgsWithin (value_count a u) xs → Holds a u slots e
      → Holds a u (args_given xs rs slots) (with_args e (map (arg_text (naming a u)) xs) (map part_held rs))
  args-held [] rs slots e w d = d
  args-held (x ∷ xs) [] slots e w d = d
  args-held (x ∷ xs) (r ∷ rs) slots e w d = args-held xs rs (set slots x.value.0 (Some (part_held r))) _ w.1 (holds-more a u slots e x.value (part_held r) o h d (omega (arith, w.0, d.long)))

  one-signal : (names : List (Option (List ℕ))) (others : List Range → List (Option Held) → List (Option Held))
      (go : (rs : List Range) (slots : List (Option Held)) (e : Env) → Holds a u slots e → Holds a u (others rs slots) (with_parts e names rs))
      (i : Inst) (n : Option ValueId) (rs : List Range) (slots : List (Option Held)) (e : Env) → ResultWithin (value_count a u) n → Holds a u slots e
      → Holds a u (if is_sig i then next_given n rs slots others else others rs slots) (with_parts e (name_if_signal (inst_text (naming a u) i) (maybe_text (naming a u) n) names) rs)
  one-signal names others go (inst.Sig t) n [] slots e w d = d
  one-signal names others go (inst.Sig t) n (r ∷ rs) slots e w d = go rs (given slots n (Some (part_held r))) _
      (holds-given a u slots e n (Some (part_held r)) o h d (maybe-in (value_count a u) slots n d.long w))
  one-signal names others go (inst.Ret None) n rs slots e w d = go rs slots e d
  one-signal names others go (inst.Ret (Some t)) n rs slots e w d = go rs slots e d
  one-signal names others go _ n rs slots e w d = go rs slots e d

  pub signals-held : (is : List InstId) (rs : List Range) (slots : List (Option Held)) (e : Env) → Holds a u slots e
      → Holds a u (signals_given (table_at a u) is rs slots) (with_parts e (signal_names (map (inst_line_text (naming a u) (table_at a u)) is)) rs)
  signals-held [] rs slots e d = d
  signals-held (i ∷ is) rs slots e d =
      one-signal (signal_names (map (inst_line_text (naming a u) (table_at a u)) is)) (signals_given (table_at a u) is) (signals-held is)
      (line_at (table_at a u) i.0).inst (line_at (table_at a u) i.0).result rs slots e (result-within a u o h i.0) d

  fits-entity : (k : Option UnitKind) → k ≡ Some kind.Entity → FitsKind k (table_at a u) → (table_at a u).blocks ≡ entity_block ∷ []
  fits-entity None e f = absurd cc
  fits-entity (Some kind.Func) e f = absurd cc
  fits-entity (Some kind.Proc) e f = absurd cc
  fits-entity (Some kind.Entity) e f = f.1

  -- the one block of an entity
  pub entity-blocks : kind_at a u ≡ Some kind.Entity → (table_at a u).blocks ≡ entity_block ∷ []
  entity-blocks e = fits-entity (kind_at a u) e (o.tables u h).fits_kind

  pub entity-lines : kind_at a u ≡ Some kind.Entity → lines_of (unit_text_at a u).blocks ≡ map (inst_line_text (naming a u) (table_at a u)) (block_insts_at a u 0)
  entity-lines e =
      ap (λ (bs : List BlockId). lines_of (map (block_text (naming a u) (table_at a u)) bs)) (entity-blocks e)
      ∙ append-nil (map (inst_line_text (naming a u) (table_at a u)) (block_insts_at a u 0))

  -- all of it
  pub begun : kind_at a u ≡ Some kind.Entity → (args sigs : List Range) (slots : List (Option Held))
      → slots ≡ signals_given (table_at a u) (block_insts_at a u 0) sigs (args_given (args_at a u) args (replicate (value_count a u) None)) → Holds a u slots (parts_of (unit_text_at a u) args sigs)
  begun e args sigs slots s =
      let d : Holds a u (args_given (args_at a u) args (replicate (value_count a u) None)) (with_args nothing_held (unit_text_at a u).args (map part_held args)) =
      args-held (args_at a u) args (replicate (value_count a u) None) nothing_held (o.tables u h).args_within (holds-nothing a u) in
      let f : Holds a u (signals_given (table_at a u) (block_insts_at a u 0) sigs (args_given (args_at a u) args (replicate (value_count a u) None)))
      (with_parts (with_args nothing_held (unit_text_at a u).args (map part_held args)) (signal_names (map (inst_line_text (naming a u) (table_at a u)) (block_insts_at a u 0))) sigs) =
      signals-held (block_insts_at a u 0) sigs _ _ d in
      let g : Holds a u slots (with_parts (with_args nothing_held (unit_text_at a u).args (map part_held args)) (signal_names (map (inst_line_text (naming a u) (table_at a u)) (block_insts_at a u 0)))
      sigs) =
      subst (λ (x : List (Option Held)). Holds a u x
      (with_parts (with_args nothing_held (unit_text_at a u).args (map part_held args)) (signal_names (map (inst_line_text (naming a u) (table_at a u)) (block_insts_at a u 0))) sigs)) (sym s) f in
      subst (λ (ls : List LineText). Holds a u slots (with_parts (with_args nothing_held (unit_text_at a u).args (map part_held args)) (signal_names ls) sigs)) (sym (entity-lines e)) g

  -- the instructions of an entity are of the unit
  pub entity-insts : kind_at a u ≡ Some kind.Entity → Each (λ (i : InstId). i.0 < inst_count a u) (block_insts_at a u 0)
  entity-insts e =
      let b : get_or (table_at a u).blocks 0 entity_block ≡ entity_block = ap (λ (bs : List BlockId). get_or bs 0 entity_block) (entity-blocks e) in
      let l : 0 < length (table_at a u).blocks = let n : length (table_at a u).blocks ≡ 1 = ap length (entity-blocks e) in omega (arith, n) in
      subst (λ (x : BlockId). Each (λ (i : InstId). i.0 < inst_count a u) (block_insts_at a u x.0)) b (block-insts a u o h 0 entity_block l)
