-- The values of a copy have the names that the copy gives, and what the copy gives back is what its text gives back.
use Rattle.std.proofs.Common.{◌≡◌, ℕ, zero, suc, ◌+◌, ◌<◌, Bool, true, false, ◌||◌, nat_eq, if◌then◌else◌, List, [], ◌∷◌, ◌++◌, length, get_or, map, Option, Some, None, unwrap_or, refl, ap, sym, ◌∙◌, subst, arith}
use Rattle.std.specs.List.{flat_map}
use Rattle.std.proofs.lemmas.List.{map-append, length-map}
use Rattle.std.proofs.lemmas.List.FromFn.{get_or-map-range_with_len}
use Rattle.lh_unit.specs.Contents.{OperandText, EdgeText, UnitText}
use Rattle.lh_unit_names.specs.Names.{same_name}
use Rattle.lh_unit.specs.ById.{operand_ids, values_used}
use Rattle.lh_unit.specs.Naming.{Naming, value_text, operand_text, inst_text, block_text, arg_text}
use Rattle.lh_unit.specs.Table.{insts_at, is_arg, is_result, is_made, ArgsWithin}
use Rattle.lh_unit.specs.Within.{Each}
use Rattle.lh_unit.specs.Arena.{Arena, IsArena, table_at, naming, args_at, unit_count, value_count, value_name_at, InstPlaced}
use Rattle.lh_unit.specs.declared.inst.UnitId.{UnitId}
use Rattle.lh_unit.specs.declared.inst.BlockId.{BlockId}
use Rattle.lh_unit.specs.declared.inst.InstId.{InstId}
use Rattle.lh_unit.specs.declared.inst.ValueId.{ValueId}
use Rattle.lh_unit.specs.declared.inst.Typed.{Typed}
use Rattle.lh_unit.specs.declared.inst.Arg.{Arg}
use Rattle.lh_unit.specs.declared.inst.Inst.{Inst}
use Rattle.lh_unit.specs.declared.inst.Inst.TheVariants as inst
use Rattle.lh_unit.specs.declared.table.TableLine.{TableLine}
use Rattle.lh_unit.proofs.Lists.{nat_eq-is}
use Rattle.lh_unit.proofs.ById.{same_value-by_id, defines_value-by_id}
use Rattle.lh_unit.proofs.ModuleLaws.{line-placed}
use Rattle.lh_flat.specs.declared.flat.MergeEdge.{MergeEdge}
use Rattle.lh_flat.specs.declared.rename.Renaming.{Renaming}
use Rattle.lh_flat.specs.Copies.{Copy, argument_or, last_piece}
use Rattle.lh_flat.specs.Flat.{edge_if_given, given_in}
use Rattle.lh_flat.specs.Reads.{merge_edge_text}
use Rattle.lh_flat.specs.Renames.{value_in, last_in}
use Rattle.lh_flat.specs.Graph.{callee_of}
use Rattle.lh_flat.specs.Agrees.{IsKnown}
use Rattle.lh_flat.specs.Building.{line_of, own_ids, argument_of, result_id, new_id, new_ids, call_args, edge_given, insts_give, blocks_give}
use Rattle.lh_flat.specs.CopyNames.{own_names, result_name, result_names, unit_results, NamedFrom, is_known, HasArgsFor, InstIsRight, BlockIsRight}
use Rattle.lh_flat.proofs.CalledFunctions.{zero_first}
use Rattle.lh_flat.proofs.BlockCopies.{line_text_of, arg_names, CopyIs}

-- the name at a place of a row
pub named-at : (name : ℕ → List ℕ) (n : ℕ) (xs : List (List ℕ)) (i : ℕ) → NamedFrom name n xs → i < length xs → name (n + i) ≡ get_or xs i []
named-at name n [] i h l = absurd (omega arith)
named-at name n (x ∷ xs) zero h l = ap name (plus_none n) ∙ h.0
  where
    plus_none : (m : ℕ) → m + 0 ≡ m
    plus_none m = omega arith
named-at name n (x ∷ xs) (suc i) h l = ap name (further n i) ∙ named-at name (n + 1) xs i h.1 (omega arith)
  where
    further : (m j : ℕ) → m + suc j ≡ m + 1 + j
    further m j = omega arith

-- a result has its name
result-named : (g : ℕ → List ℕ) (name : ℕ → List ℕ) (path : List ℕ) (from k : ℕ) (ls : List TableLine) (v : ℕ) → is_made ls v ≡ true → NamedFrom g from (result_names name path k ls)
    → g (result_id from ls v) ≡ path ++ name v
result-named g name path from k [] v m h = cc
result-named g name path from k (l ∷ ls) v m h = by l.result m h.0 (λ q. result-named g name path (from + 1) (k + 1) ls v q h.1)
  where
    by : (r : Option ValueId) → (is_result r v || is_made ls v) ≡ true → g from ≡ result_name name path k r → (is_made ls v ≡ true → g (result_id (from + 1) ls v) ≡ path ++ name v)
        → g (if is_result r v then from else result_id (from + 1) ls v) ≡ path ++ name v
    by None q e f = f q
    by (Some w) q e f = at (nat_eq w.0 v) refl q
      where
        at : (b : Bool) → nat_eq w.0 v ≡ b → (b || is_made ls v) ≡ true → g (if b then from else result_id (from + 1) ls v) ≡ path ++ name v
        at true z y = e ∙ ap (λ n. path ++ name n) (nat_eq-is w.0 v z)
        at false z y = f y

module _ (a : Arena) (o : IsArena a) (u : ℕ) (l : u < unit_count a) (g : Naming) where
  -- a parameter has the name of its argument
  argument-named : (ps : List Arg) (xs : List ValueId) (v : ℕ) (other : ValueId) (path : List ℕ) → length ps ≡ length xs → ArgsWithin (value_count a u) ps → v < value_count a u
      → (is_arg ps v ≡ false → value_text g other ≡ path ++ value_name_at a u v) →
      value_text g (unwrap_or (argument_of ps xs v) other) ≡ argument_or (map (arg_text (naming a u)) ps) (map (value_text g) xs) (path ++ value_name_at a u v) (value_name_at a u v)
  argument-named [] xs v other path long w k e = e refl
  argument-named (p ∷ ps) [] v other path long w k e = cc
  argument-named (p ∷ ps) (x ∷ xs) v other path long w k e =
      by (nat_eq p.value.0 v) e (λ f. argument-named ps xs v other path (shorter long) w.1 k f)
      ∙ sym (ap (λ b. if b then value_text g x else argument_or (map (arg_text (naming a u)) ps) (map (value_text g) xs) (path ++ value_name_at a u v) (value_name_at a u v))
      (same_value-by_id a u o l p.value.0 v w.0 k))
    where
      shorter : suc (length ps) ≡ suc (length xs) → length ps ≡ length xs
      shorter z = omega (arith, z)

      by : (b : Bool) → ((b || is_arg ps v) ≡ false → value_text g other ≡ path ++ value_name_at a u v)
          → ((is_arg ps v ≡ false → value_text g other ≡ path ++ value_name_at a u v) → value_text g (unwrap_or (argument_of ps xs v) other)
          ≡ argument_or (map (arg_text (naming a u)) ps) (map (value_text g) xs) (path ++ value_name_at a u v) (value_name_at a u v)) →
          value_text g (unwrap_or (if b then Some x else argument_of ps xs v) other)
          ≡ (if b then value_text g x else argument_or (map (arg_text (naming a u)) ps) (map (value_text g) xs) (path ++ value_name_at a u v) (value_name_at a u v))
      by true f ih = refl
      by false f ih = ih f

  -- each value that is known has its name
  pub values-named : (path : List ℕ) (from : ℕ) (xs : List ValueId) (v : ValueId) → length (args_at a u) ≡ length xs → NamedFrom g.value_name from (unit_results a u path) → v.0 < value_count a u
      → IsKnown (is_known a u) v →
      value_text g (get_or (new_ids (table_at a u) xs from) v.0 v)
      ≡ argument_or (map (arg_text (naming a u)) (args_at a u)) (map (value_text g) xs) (path ++ value_name_at a u v.0) (value_name_at a u v.0)
  values-named path from xs v long h k n =
      ap (value_text g) (get_or-map-range_with_len (new_id (table_at a u) xs from) 0 (value_count a u) v.0 v.0 v k (zero_first v.0))
      ∙ argument-named (args_at a u) xs v.0 (record { 0 = result_id from (table_at a u).lines v.0 }) path long (o.tables u l).args_within k
      (λ e. result-named g.value_name (value_name_at a u) path from 0 (table_at a u).lines v.0 (made (is_arg (args_at a u) v.0) e (sym (defines_value-by_id a u o l v.0 k) ∙ n)) h)
    where
      made : (b : Bool) → b ≡ false → (b || is_made (table_at a u).lines v.0) ≡ true → is_made (table_at a u).lines v.0 ≡ true
      made true e q = cc
      made false e q = q

  -- the values of a process have their own names
  pub own-named : (v : ValueId) → NamedFrom g.value_name 0 (own_names a u) → v.0 < value_count a u → value_text g (get_or (own_ids (value_count a u)) v.0 v) ≡ value_name_at a u v.0
  own-named v h k =
      ap (value_text g) (get_or-map-range_with_len (λ (n : ℕ). record { 0 = n }) 0 (value_count a u) v.0 v.0 v k (zero_first v.0))
      ∙ ap g.value_name (sym (zero_first v.0)) ∙ named-at g.value_name 0 (own_names a u) v.0 h k

-- the names of a call's arguments
args-named : (a : Arena) (fs : List UnitText) (g : Naming) (u : ℕ) (c : Copy) (r : Renaming) → CopyIs a fs g u c r → (os : List Typed) → Each (λ (t : Typed). t.value.0 < value_count a u) os
    → Each (IsKnown (is_known a u)) (operand_ids os) →
    map (value_text g) (map (λ (t : Typed). value_in r t.value) os) ≡ map (λ (t : OperandText). c.value t.value) (map (operand_text (naming a u)) os)
args-named a fs g u c r k [] w n = refl
args-named a fs g u c r k (t ∷ os) w n = cc (k.agrees.values t.value (subst (λ m. t.value.0 < m) (sym k.fits.values) w.0) n.0, args-named a fs g u c r k os w.1 n.1)

pub call_args-named : (a : Arena) (fs : List UnitText) (g : Naming) (u : ℕ) (c : Copy) (r : Renaming) → CopyIs a fs g u c r → (i : Inst) → InstPlaced a u i
    → Each (IsKnown (is_known a u)) (values_used i) → map (value_text g) (call_args r i) ≡ arg_names c (inst_text (naming a u) i)
call_args-named a fs g u c r k (inst.Call f ty args) p n = args-named a fs g u c r k args p.1 n
call_args-named a fs g u c r k (inst.Ret None) p n = refl
call_args-named a fs g u c r k (inst.Ret (Some t)) p n = refl
call_args-named a fs g u c r k _ p n = refl

-- they are as many as the parameters
pub call_args-long : (a : Arena) (r : Renaming) (i : Inst) (f : UnitId) → callee_of a i ≡ Some f → HasArgsFor a i f → length (args_at a f.0) ≡ length (call_args r i)
call_args-long a r (inst.Call h ty args) f e n = sym (length-map args (λ (t : Typed). value_in r t.value) ∙ n)
call_args-long a r _ f e n = cc

-- what an instruction of a copy gives back
edge-given : (a : Arena) (fs : List UnitText) (g : Naming) (u : ℕ) (c : Copy) (r : Renaming) → CopyIs a fs g u c r → (b : BlockId) (block : List ℕ) → g.label_name (last_in r b).0 ≡ block → (i : Inst)
    → InstPlaced a u i → Each (IsKnown (is_known a u)) (values_used i) → (more : List MergeEdge) (texts : List EdgeText) → map (merge_edge_text g) more ≡ texts →
    map (merge_edge_text g) (edge_given r b i more) ≡ edge_if_given c block (inst_text (naming a u) i) texts
edge-given a fs g u c r k b block e (inst.Ret None) p n more texts h = h
edge-given a fs g u c r k b block e (inst.Ret (Some t)) p n more texts h = cc (k.agrees.values t.value (subst (λ m. t.value.0 < m) (sym k.fits.values) p) n.0, e, h)
edge-given a fs g u c r k b block e _ p n more texts h = h

module _ (a : Arena) (o : IsArena a) (fs : List UnitText) (g : Naming) (u : ℕ) (c : Copy) (r : Renaming) (k : CopyIs a fs g u c r) where
  insts-given : (b : BlockId) (block : List ℕ) → g.label_name (last_in r b).0 ≡ block → (is : List InstId) → Each (λ (i : InstId). InstIsRight a fs u (line_of a u i).inst) is
      → map (merge_edge_text g) (insts_give a u r b is) ≡ given_in c block (map (line_text_of a u) is)
  insts-given b block e [] q = refl
  insts-given b block e (i ∷ is) q =
      edge-given a fs g u c r k b block e (line_of a u i).inst (line-placed a u i.0 o) q.0.values (insts_give a u r b is) (given_in c block (map (line_text_of a u) is)) (insts-given b block e is q.1)

  pub blocks-given : (bs : List BlockId) → Each (λ (b : BlockId). g.label_name (last_in r b).0 ≡ last_piece fs c (block_text (naming a u) (table_at a u) b)) bs
      → Each (BlockIsRight a fs u) bs →
      map (merge_edge_text g) (blocks_give a u r bs) ≡ flat_map (λ b. given_in c (last_piece fs c b) b.lines) (map (block_text (naming a u) (table_at a u)) bs)
  blocks-given [] w q = refl
  blocks-given (b ∷ bs) w q =
      map-append (merge_edge_text g) (insts_give a u r b (insts_at (table_at a u) b.0)) (blocks_give a u r bs)
      ∙ ap (λ xs. xs ++ map (merge_edge_text g) (blocks_give a u r bs)) (insts-given b (last_piece fs c (block_text (naming a u) (table_at a u) b)) w.0 (insts_at (table_at a u) b.0) q.0)
      ∙ ap (λ xs. given_in c (last_piece fs c (block_text (naming a u) (table_at a u) b)) (map (line_text_of a u) (insts_at (table_at a u) b.0)) ++ xs) (blocks-given bs w.1 q.1)
