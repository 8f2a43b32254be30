-- In a module without a fault the instructions of functions and processes can be copied.
use Rattle.std.proofs.Common.{◌≡◌, ℕ, suc, ◌<◌, inl, inr, Bool, true, false, if◌then◌else◌, List, [], ◌∷◌, length, map, Option, Some, None, is_some, refl, ap, sym, ◌∙◌, subst}
use Rattle.std.proofs.lemmas.List.{length-map}
use Rattle.std.proofs.lemmas.Option.{same_Some, none-some}
use Rattle.lh_unit.specs.declared.inst.UnitId.{UnitId}
use Rattle.lh_unit.specs.declared.inst.BlockId.{BlockId}
use Rattle.lh_unit.specs.declared.inst.InstId.{InstId}
use Rattle.lh_unit.specs.declared.inst.PhiEdge.{PhiEdge}
use Rattle.lh_unit.specs.declared.inst.UnitKind.{UnitKind}
use Rattle.lh_unit.specs.declared.inst.UnitKind.TheVariants as kind
use Rattle.lh_unit.specs.declared.inst.Inst.{Inst}
use Rattle.lh_unit.specs.declared.inst.Inst.TheVariants as inst
use Rattle.lh_unit.specs.ById.{values_used, blocks_named, inst_line_text}
use Rattle.lh_unit.specs.Contents.{OperandText, EdgeText, LineText, BlockText, ArgText, UnitText, ItemText, defines_value}
use Rattle.lh_unit.specs.Kinds.{Use, uses}
use Rattle.lh_unit.specs.Named.{block_of, is_function}
use Rattle.lh_unit.specs.Hierarchy.{lines_of}
use Rattle.lh_unit.specs.Naming.{Naming, value_text, operand_text, arg_text, inst_text, edge_text, block_text, kind_text}
use Rattle.lh_unit.specs.Activation.{functions}
use Rattle.lh_unit.specs.Table.{is_block, insts_at, HasBlocks}
use Rattle.lh_unit.specs.Arena.{Arena, IsArena, InstPlaced, sizes, contents, unit_text_at, kind_at, table_at, naming, args_at, blocks_at, label_count, unit_name_at, label_name_at, unit_count}
use Rattle.lh_unit_names.specs.UnitNames.{is_assert}
use Rattle.lh_unit.specs.WellFormed.{IsFaultless, is_allowed, labels_named}
use Rattle.lh_unit.specs.Within.{Each, EdgeWithin}
use Rattle.lh_unit.proofs.Lists.{Each-left, Each-right, Each-of-map}
use Rattle.lh_unit.proofs.ById.{block_of-by_id, unit_named-by_id}
use Rattle.lh_unit.proofs.ByIdInsts.{values_named-by_id}
use Rattle.lh_unit.proofs.ModuleLaws.{line-placed}
use Rattle.lh_verify_laws.specs.Calls.{ArgumentsAre, NamedIsRight}
use Rattle.lh_verify_laws.proofs.CallsLaw.{calls_are_right}
use Rattle.lh_verify_laws.proofs.OperandsLaw.{operands_are_defined}
use Rattle.lh_verify_laws.proofs.ShapeLaw.{labels_are_blocks, all_allowed}
use Rattle.lh_flat.specs.Graph.{callee_of}
use Rattle.lh_flat.specs.Agrees.{IsOneOfBlocks, IsKnown, IsCode}
use Rattle.lh_flat.specs.Building.{line_of}
use Rattle.lh_flat.specs.CopyNames.{IsCallable, is_known, HasArgsFor, InstIsRight, BlockIsRight, UnitsAreRight}
use Rattle.lh_flat.proofs.CallGraph.{CalleeIn, callee-in}
use Rattle.lh_flat.proofs.CalledFunctions.{LineNames, unit-lines, CallsFunction, call-right}
use Rattle.lh_flat.proofs.RefusalLaws.{callee-text}

-- the instruction may stand in a unit of this kind
abbrev LineAllowed : List ItemText → UnitText → LineText → Type 0
LineAllowed items u l = is_allowed u.kind l.inst ≡ true

-- the labels that it names are those of blocks
abbrev LineLabels : List ItemText → UnitText → LineText → Type 0
LineLabels items u l = Each (λ n. (b : BlockText) × (block_of n u.blocks ≡ Some b)) (labels_named l.inst)

-- the values that it uses are defined
abbrev LineDefined : List ItemText → UnitText → LineText → Type 0
LineDefined items u l = Each (λ (x : Use). defines_value x.value u ≡ true) (uses l.inst)

code-in : (k : Option UnitKind) (f : Naming) (i : Inst) → HasBlocks k → is_allowed (kind_text k) (inst_text f i) ≡ true → IsCode (is_function (kind_text k)) i
code-in (Some kind.Func) f (inst.Sig t) h e = cc
code-in (Some kind.Proc) f (inst.Sig t) h e = cc
code-in (Some kind.Func) f (inst.Reg to triggers) h e = cc
code-in (Some kind.Proc) f (inst.Reg to triggers) h e = cc
code-in (Some kind.Func) f (inst.Child u inputs outputs) h e = cc
code-in (Some kind.Proc) f (inst.Child u inputs outputs) h e = cc
code-in (Some kind.Entity) f i h e = absurd h
code-in None f i h e = absurd h
code-in (Some kind.Func) f (inst.Ret x) h e = refl
code-in (Some kind.Proc) f (inst.Ret None) h e = e
code-in (Some kind.Proc) f (inst.Ret (Some x)) h e = e
code-in (Some kind.Func) f _ h e = tt
code-in (Some kind.Proc) f _ h e = tt

module _ (a : Arena) (u : ℕ) (o : IsArena a) (l : u < unit_count a) (k : HasBlocks (kind_at a u)) where
  is-block : (b : BlockId) → b.0 < label_count a u → (x : BlockText) × (block_of (label_name_at a u b.0) (unit_text_at a u).blocks ≡ Some x) → IsOneOfBlocks (blocks_at a u) b
  is-block b h x = by (is_block (blocks_at a u) b.0) (sym (block_of-by_id a u o l b.0 k h) ∙ x.1)
    where
      by : (y : Bool) → (if y then Some (block_text (naming a u) (table_at a u) b) else None) ≡ Some x.0 → y ≡ true
      by true e = refl
      by false e = absurd (none-some x.0 e)

  edges-blocks : (es : List PhiEdge) → Each (λ (e : PhiEdge). e.block.0 < label_count a u) es
      → Each (λ n. (b : BlockText) × (block_of n (unit_text_at a u).blocks ≡ Some b)) (map (λ (e : EdgeText). e.block) (map (edge_text (naming a u)) es))
      → Each (IsOneOfBlocks (blocks_at a u)) (map (λ (e : PhiEdge). e.block) es)
  edges-blocks [] h w = tt
  edges-blocks (e ∷ es) h w = (is-block e.block h.0 w.0, edges-blocks es h.1 w.1)

  second : (es : List PhiEdge) → Each (EdgeWithin (sizes a u)) es → Each (λ (e : PhiEdge). e.block.0 < label_count a u) es
  second [] h = tt
  second (e ∷ es) h = (h.0.1, second es h.1)

  named-blocks : (i : Inst) → InstPlaced a u i → Each (λ n. (b : BlockText) × (block_of n (unit_text_at a u).blocks ≡ Some b)) (labels_named (inst_text (naming a u) i))
      → Each (IsOneOfBlocks (blocks_at a u)) (blocks_named i)
  named-blocks (inst.Phi ty edges) p w = edges-blocks edges (second edges p) w
  named-blocks (inst.Br to) p w = (is-block to p w.0, tt)
  named-blocks (inst.Branch cond zero one) p w = (is-block zero p.1 w.0, (is-block one p.2 w.1.0, tt))
  named-blocks (inst.Wait to after signals) p w = (is-block to p.0 w.0, tt)
  named-blocks _ p w = tt

has-blocks : (k : Option UnitKind) → k ≡ Some kind.Func → HasBlocks k
has-blocks k e = subst HasBlocks (sym e) tt

callable : (a : Arena) (o : IsArena a) (c : Option UnitId) → CalleeIn (unit_count a) c → CallsFunction a c → (f : UnitId) → c ≡ Some f → IsCallable a (functions (contents a)) f
callable a o None h k f e = absurd (none-some f e)
callable a o (Some t) h k f e =
    let q : t ≡ f = cc in
    subst (IsCallable a (functions (contents a))) q record { within = h; blocks = has-blocks (kind_at a t.0) k; named = callee-text a t o h k }

-- its values are known
known-values : (a : Arena) (u : ℕ) (i : Inst) → Each (λ (x : Use). defines_value x.value (unit_text_at a u) ≡ true) (uses (inst_text (naming a u) i)) → Each (IsKnown (is_known a u)) (values_used i)
known-values a u i w =
    Each-of-map (λ n. defines_value n (unit_text_at a u) ≡ true) (value_text (naming a u)) (values_used i)
    (subst (Each (λ n. defines_value n (unit_text_at a u) ≡ true)) (values_named-by_id (naming a u) i) (to-map (uses (inst_text (naming a u) i)) w))
  where
    to-map : (xs : List Use) → Each (λ (x : Use). defines_value x.value (unit_text_at a u) ≡ true) xs → Each (λ n. defines_value n (unit_text_at a u) ≡ true) (map (λ (x : Use). x.value) xs)
    to-map [] e = tt
    to-map (x ∷ xs) e = (e.0, to-map xs e.1)

-- arguments are as many as parameters
as-many : (v : UnitText) (os : List OperandText) (ps : List ArgText) → ArgumentsAre v os ps → length os ≡ length ps
as-many v [] [] h = refl
as-many v (o ∷ os) (p ∷ ps) h = ap suc (as-many v os ps h.1)
as-many v [] (p ∷ ps) h = absurd h
as-many v (o ∷ os) [] h = absurd h

args-for : (a : Arena) (u : ℕ) (i : Inst) (o : IsArena a) → InstPlaced a u i → NamedIsRight (contents a) (unit_text_at a u) (inst_text (naming a u) i) → CallsFunction a (callee_of a i) → (f : UnitId)
    → callee_of a i ≡ Some f → HasArgsFor a i f
args-for a u (inst.Call h ty args) o p n k f e = by (is_assert (unit_name_at a h.0)) refl n k e
  where
    by : (b : Bool) → is_assert (unit_name_at a h.0) ≡ b → NamedIsRight (contents a) (unit_text_at a u) (inst_text (naming a u) (inst.Call h ty args))
        → CallsFunction a (if b then None else Some h) → (if b then None else Some h) ≡ Some f → length args ≡ length (args_at a f.0)
    by true q m c z = absurd (none-some f z)
    by false q (inl m) c z = cc
    by false q (inr m) c z =
        let t : h ≡ f = cc in
        let s : unit_text_at a h.0 ≡ m.1.of = same_Some (unit_text_at a h.0) m.1.of (sym (unit_named-by_id a h.0 o p.0 ∙ ap (λ b. if b then Some (unit_text_at a h.0) else None) (some-kind (kind_at a h.0) c)) ∙ m.1.named) in
        sym (length-map args (operand_text (naming a u))) ∙ as-many (unit_text_at a u) (map (operand_text (naming a u)) args) m.1.of.args m.1.args_are
        ∙ ap (λ (x : UnitText). length x.args) (sym s) ∙ length-map (args_at a h.0) (arg_text (naming a h.0)) ∙ ap (λ (x : UnitId). length (args_at a x.0)) t
      where
        some-kind : (y : Option UnitKind) → y ≡ Some kind.Func → is_some y ≡ true
        some-kind y w = ap is_some w
args-for a u _ o p n k f e = tt

-- each instruction of a function or a process of a module without a fault is right
pub units-right : (a : Arena) → IsArena a → IsFaultless (contents a) → UnitsAreRight a (functions (contents a))
units-right a o f u l k = blocks (blocks_at a u) (unit-lines LineAllowed all_allowed a u o f l) (unit-lines LineLabels labels_are_blocks a u o f l) (unit-lines LineNames calls_are_right a u o f l)
    (unit-lines LineDefined operands_are_defined a u o f l)
  where
    insts : (is : List InstId) → Each (LineAllowed (contents a) (unit_text_at a u)) (map (inst_line_text (naming a u) (table_at a u)) is)
        → Each (LineLabels (contents a) (unit_text_at a u)) (map (inst_line_text (naming a u) (table_at a u)) is)
        → Each (LineNames (contents a) (unit_text_at a u)) (map (inst_line_text (naming a u) (table_at a u)) is)
        → Each (LineDefined (contents a) (unit_text_at a u)) (map (inst_line_text (naming a u) (table_at a u)) is) →
        Each (λ (i : InstId). InstIsRight a (functions (contents a)) u (line_of a u i).inst) is
    insts [] p q r d = tt
    insts (i ∷ is) p q r d = (
      record {
        code = code-in (kind_at a u) (naming a u) (line_of a u i).inst k p.0;
        values = known-values a u (line_of a u i).inst d.0;
        blocks = named-blocks a u o l k (line_of a u i).inst (line-placed a u i.0 o) q.0;
        called = callable a o (callee_of a (line_of a u i).inst) (callee-in a u (line_of a u i).inst (line-placed a u i.0 o)) (call-right a u (line_of a u i).inst o (line-placed a u i.0 o) r.0);
        args = args-for a u (line_of a u i).inst o (line-placed a u i.0 o) r.0 (call-right a u (line_of a u i).inst o (line-placed a u i.0 o) r.0);
      },
      insts is p.1 q.1 r.1 d.1,
    )

    blocks : (bs : List BlockId) → Each (LineAllowed (contents a) (unit_text_at a u)) (lines_of (map (block_text (naming a u) (table_at a u)) bs))
        → Each (LineLabels (contents a) (unit_text_at a u)) (lines_of (map (block_text (naming a u) (table_at a u)) bs))
        → Each (LineNames (contents a) (unit_text_at a u)) (lines_of (map (block_text (naming a u) (table_at a u)) bs))
        → Each (LineDefined (contents a) (unit_text_at a u)) (lines_of (map (block_text (naming a u) (table_at a u)) bs)) →
        Each (BlockIsRight a (functions (contents a)) u) bs
    blocks [] p q r d = tt
    blocks (b ∷ bs) p q r d =
        let is : List LineText = map (inst_line_text (naming a u) (table_at a u)) (insts_at (table_at a u) b.0) in
        let rest : List LineText = lines_of (map (block_text (naming a u) (table_at a u)) bs) in (
          insts (insts_at (table_at a u) b.0) (Each-left (LineAllowed (contents a) (unit_text_at a u)) is rest p) (Each-left (LineLabels (contents a) (unit_text_at a u)) is rest q)
              (Each-left (LineNames (contents a) (unit_text_at a u)) is rest r) (Each-left (LineDefined (contents a) (unit_text_at a u)) is rest d),
          blocks bs (Each-right (LineAllowed (contents a) (unit_text_at a u)) is rest p) (Each-right (LineLabels (contents a) (unit_text_at a u)) is rest q)
              (Each-right (LineNames (contents a) (unit_text_at a u)) is rest r) (Each-right (LineDefined (contents a) (unit_text_at a u)) is rest d),
        )
