-- A flat text within its limit of instructions has few blocks and takes few ids: each block has an instruction, and each id is one's.
use Rattle.std.proofs.Common.{◌≡◌, ℕ, zero, suc, ◌+◌, ◌^◌, ◌<◌, ◌≤◌, true, false, if◌then◌else◌, List, [], ◌∷◌, ◌++◌, length, map, sum_by, Option, Some, None, refl, ap, sym, ◌∙◌, subst, arith}
use Rattle.std.specs.Option.{option_map_or}
use Rattle.std.proofs.lemmas.List.{length-append, length-map}
use Rattle.std.proofs.lemmas.List.Sums.{sum_by-cons}
use Rattle.lh_unit_names.specs.declared.name.UnitName.{UnitName}
use Rattle.lh_unit_names.specs.UnitNames.{is_assert}
use Rattle.lh_unit.specs.Contents.{BlockText, UnitText}
use Rattle.lh_unit.specs.Naming.{inst_text, block_text}
use Rattle.lh_unit.specs.Table.{Table, IsTable, flat, ids_from, insts_at, HasBlocks}
use Rattle.lh_unit.specs.Within.{Each}
use Rattle.lh_unit.specs.Arena.{Arena, IsArena, table_at, naming, blocks_at, unit_count, value_count, inst_count, unit_name_at, unit_text_at, kind_at}
use Rattle.lh_unit.specs.declared.inst.UnitId.{UnitId}
use Rattle.lh_unit.specs.declared.inst.BlockId.{BlockId}
use Rattle.lh_unit.specs.declared.inst.InstId.{InstId}
use Rattle.lh_unit.specs.declared.inst.Inst.{Inst}
use Rattle.lh_unit.specs.declared.inst.Inst.TheVariants as inst
use Rattle.lh_unit.specs.declared.table.TableLine.{TableLine}
use Rattle.lh_flat.specs.Graph.{callee_of}
use Rattle.lh_flat.specs.Calls.{callee_if, callees_in}
use Rattle.lh_flat.specs.Flat.{max_nested}
use Rattle.lh_flat.specs.Lengths.{called_length, block_length, copy_length}
use Rattle.lh_flat.specs.Building.{line_of, insts_room, blocks_room, unit_room, call_room}
use Rattle.lh_flat.specs.CopyNames.{IsCallable, InstIsRight, BlockIsRight, UnitsAreRight}
use Rattle.lh_flat.specs.Made.{TopHasRoom}
use Rattle.lh_flat.specs.Room.{blocks_values, inner_values, call_values}
use Rattle.lh_flat.proofs.BlockCopies.{line_text_of}
use Rattle.lh_flat.proofs.BuilderRoom.{no_room, flat_room, room-next}
use Rattle.lh_flat.proofs.Endings.{EndsPlain, UnitsEnd}
use Rattle.lh_flat.proofs.Rooms.{no_values, flat_values, values-next}

-- how many instructions these blocks have
abbrev lines_in : Arena → (u : ℕ) → List BlockId → ℕ
lines_in a u [] = 0
lines_in a u (b ∷ more) = length (insts_at (table_at a u) b.0) + lines_in a u more

length-flat : (a : Arena) (u : ℕ) (bs : List BlockId) → length (flat (map (λ (b : BlockId). insts_at (table_at a u) b.0) bs)) ≡ lines_in a u bs
length-flat a u [] = refl
length-flat a u (b ∷ bs) =
    length-append (insts_at (table_at a u) b.0) (flat (map (λ (x : BlockId). insts_at (table_at a u) x.0) bs)) ∙ ap (λ n. length (insts_at (table_at a u) b.0) + n) (length-flat a u bs)

length-ids : (k : ℕ) (ls : List TableLine) → length (ids_from k ls) ≡ length ls
length-ids k [] = refl
length-ids k (l ∷ ls) = ap suc (length-ids (k + 1) ls)

-- all of them
lines-all : (a : Arena) (u : ℕ) → IsTable (table_at a u) → lines_in a u (blocks_at a u) ≡ inst_count a u
lines-all a u o = sym (length-flat a u (blocks_at a u)) ∙ ap length o.in_order ∙ length-ids 0 (table_at a u).lines

callee-sum : (a : Arena) (u : ℕ) (values : Option UnitId → ℕ) (F : UnitName → ℕ) (i : Inst) (more : List UnitName) → values None ≡ 0
    → ((f : UnitId) → callee_of a i ≡ Some f → values (Some f) ≡ F (unit_name_at a f.0)) → values (callee_of a i) + sum_by F more ≡ sum_by F (callee_if (inst_text (naming a u) i) more)
callee-sum a u values F (inst.Call f ty args) more z =
    elim (is_assert (unit_name_at a f.0)) as (λ b. ((h : UnitId) → (if b then None else Some f) ≡ Some h → values (Some h) ≡ F (unit_name_at a h.0))
    → values (if b then None else Some f) + sum_by F more ≡ sum_by F (if b then more else unit_name_at a f.0 ∷ more)) [
      | true ↦ λ g. none (values None) (sum_by F more) z
      | false ↦ λ g. ap (λ n. n + sum_by F more) (g f refl) ∙ sym (sum_by-cons F (unit_name_at a f.0) more)
    ]
  where
    none : (x y : ℕ) → x ≡ 0 → x + y ≡ y
    none x y e = omega arith
callee-sum a u values F (inst.Ret None) more z = λ g. none (values None) (sum_by F more) z
  where
    none : (x y : ℕ) → x ≡ 0 → x + y ≡ y
    none x y e = omega arith
callee-sum a u values F (inst.Ret (Some t)) more z = λ g. none (values None) (sum_by F more) z
  where
    none : (x y : ℕ) → x ≡ 0 → x + y ≡ y
    none x y e = omega arith
callee-sum a u values F _ more z = λ g. none (values None) (sum_by F more) z
  where
    none : (x y : ℕ) → x ≡ 0 → x + y ≡ y
    none x y e = omega arith

module _ (a : Arena) (o : IsArena a) (fs : List UnitText) (formed : UnitsAreRight a fs) (ends : UnitsEnd a) where
  -- ---- blocks

  module _ (room values : Option UnitId → ℕ) (none : room None ≡ 0) (fit : (f : UnitId) → IsCallable a fs f → room (Some f) ≤ values (Some f) + 1) where
    line-fit : (c : Option UnitId) → ((f : UnitId) → c ≡ Some f → IsCallable a fs f) → room c ≤ values c + 1
    line-fit None h = omega (arith, none)
    line-fit (Some f) h = fit f (h f refl)

    last-fit : (c : Option UnitId) → c ≡ None → room c + 0 + 1 ≤ 1 + (values c + 0)
    last-fit None e = omega (arith, none)
    last-fit (Some f) e = absurd cc

    next-fit : (x y m n k : ℕ) → x ≤ y + 1 → m + 1 ≤ suc k + n → x + m + 1 ≤ suc (suc k) + (y + n)
    next-fit x y m n k h g = omega arith

    insts-fit : (u : ℕ) (is : List InstId) → Each (λ (i : InstId). InstIsRight a fs u (line_of a u i).inst) is → EndsPlain a u is → insts_room room a u is + 1 ≤ length is + insts_room values a u is
    insts-fit u [] w e = absurd e
    insts-fit u (i ∷ []) w e = last-fit (callee_of a (line_of a u i).inst) e
    insts-fit u (i ∷ j ∷ more) w e =
        next-fit (room (callee_of a (line_of a u i).inst)) (values (callee_of a (line_of a u i).inst)) (insts_room room a u (j ∷ more)) (insts_room values a u (j ∷ more)) (length more)
        (line-fit (callee_of a (line_of a u i).inst) w.0.called) (insts-fit u (j ∷ more) w.1 e)

    both_fit : (x y z v m n : ℕ) → x + 1 ≤ y + z → m ≤ v + n → x + 1 + m ≤ y + v + (z + n)
    both_fit x y z v m n h g = omega arith

    blocks-fit : (u : ℕ) (bs : List BlockId) → Each (BlockIsRight a fs u) bs → Each (λ (b : BlockId). EndsPlain a u (insts_at (table_at a u) b.0)) bs
        → blocks_room room a u bs ≤ lines_in a u bs + blocks_values values a u bs
    blocks-fit u [] w e = omega arith
    blocks-fit u (b ∷ bs) w e =
        let is : List InstId = insts_at (table_at a u) b.0 in
        both_fit (insts_room room a u is) (length is) (insts_room values a u is) (lines_in a u bs) (blocks_room room a u bs) (blocks_values values a u bs) (insts-fit u is w.0 e.0) (blocks-fit u bs w.1 e.1)

  unit-fit : (room values : Option UnitId → ℕ) → room None ≡ 0 → ((f : UnitId) → IsCallable a fs f → room (Some f) ≤ values (Some f) + 1) → (u : ℕ) → u < unit_count a → HasBlocks (kind_at a u)
      → unit_room room a u ≤ inst_count a u + inner_values values a u
  unit-fit room values none fit u l k =
      subst (λ n. unit_room room a u ≤ n + inner_values values a u) (lines-all a u (o.tables u l)) (blocks-fit room values none fit u (blocks_at a u) (formed u l k) (ends u l k))

  -- a call takes no more blocks than it takes ids, and one
  call-fit : (k : ℕ) (f : UnitId) → IsCallable a fs f → call_room k a (Some f) ≤ call_values k a (Some f) + 1
  call-fit zero f c = omega (arith, flat_room 0 a f refl)
  call-fit (suc j) f c =
      omega (arith, room-next j a f, values-next j a f, unit-fit (call_room j a) (call_values j a) (no_room j a) (call-fit j) f.0 c.within c.blocks)

  -- ---- ids

  module _ (values : Option UnitId → ℕ) (length_of : UnitText → ℕ) (none : values None ≡ 0) (counted : (f : UnitId) → IsCallable a fs f → values (Some f) ≡ length_of (unit_text_at a f.0)) where
    insts-counted : (u : ℕ) (is : List InstId) → Each (λ (i : InstId). InstIsRight a fs u (line_of a u i).inst) is
        → insts_room values a u is ≡ sum_by (called_length length_of fs) (callees_in (map (line_text_of a u) is))
    insts-counted u [] w = refl
    insts-counted u (i ∷ is) w =
        ap (λ n. values (callee_of a (line_of a u i).inst) + n) (insts-counted u is w.1)
        ∙ callee-sum a u values (called_length length_of fs) (line_of a u i).inst (callees_in (map (line_text_of a u) is)) none
        (λ f e. let c : IsCallable a fs f = w.0.called f e in counted f c ∙ sym (ap (λ x. option_map_or length_of x 0) c.named))

    rearranged : (x y m n p q : ℕ) → x ≡ p → m ≡ q → x + y + (m + n) ≡ p + q + (y + n)
    rearranged x y m n p q e f = omega arith

    blocks-counted : (u : ℕ) (bs : List BlockId) → Each (BlockIsRight a fs u) bs
        → lines_in a u bs + blocks_values values a u bs ≡ sum_by (block_length length_of fs) (map (block_text (naming a u) (table_at a u)) bs)
    blocks-counted u [] w = refl
    blocks-counted u (b ∷ bs) w =
        let is : List InstId = insts_at (table_at a u) b.0 in
        rearranged (length is) (lines_in a u bs) (insts_room values a u is) (blocks_values values a u bs) (length (map (line_text_of a u) is)) (sum_by (called_length length_of fs)
        (callees_in (map (line_text_of a u) is)))
        (sym (length-map is (line_text_of a u))) (insts-counted u is w.0)
        ∙ ap (λ n. length (map (line_text_of a u) is) + sum_by (called_length length_of fs) (callees_in (map (line_text_of a u) is)) + n) (blocks-counted u bs w.1)
        ∙ sym (sum_by-cons (block_length length_of fs) (block_text (naming a u) (table_at a u) b) (map (block_text (naming a u) (table_at a u)) bs))

    unit-counted : (u : ℕ) → u < unit_count a → HasBlocks (kind_at a u) → inst_count a u + inner_values values a u ≡ sum_by (block_length length_of fs) (unit_text_at a u).blocks
    unit-counted u l k = ap (λ n. n + inner_values values a u) (sym (lines-all a u (o.tables u l))) ∙ blocks-counted u (blocks_at a u) (formed u l k)

  -- a call takes as many ids as its copy has instructions
  call-counted : (k : ℕ) (f : UnitId) → IsCallable a fs f → call_values k a (Some f) ≡ copy_length k fs (unit_text_at a f.0)
  call-counted zero f c = flat_values a f
  call-counted (suc j) f c = values-next j a f ∙ unit-counted (call_values j a) (copy_length j fs) (no_values j a) (call-counted j) f.0 c.within c.blocks

  -- so a process whose flat text is within its limit has room
  top-room-at : (k n u : ℕ) → u < unit_count a → HasBlocks (kind_at a u) → value_count a u ≤ 4294901759 → n ≡ suc k → copy_length n fs (unit_text_at a u) ≤ 65536 →
      (0 + unit_room (call_room k a) a u < 2 ^ 32) × (value_count a u + inner_values (call_values k a) a u < 2 ^ 32)
  top-room-at k n u l h few e m =
      let all : inst_count a u + inner_values (call_values k a) a u ≡ copy_length (suc k) fs (unit_text_at a u) =
      unit-counted (call_values k a) (copy_length k fs) (no_values k a) (call-counted k) u l h in
      let short : copy_length (suc k) fs (unit_text_at a u) ≤ 65536 = subst (λ x. copy_length x fs (unit_text_at a u) ≤ 65536) e m in
      bounds (unit_room (call_room k a) a u) (inst_count a u) (inner_values (call_values k a) a u) (value_count a u) (copy_length (suc k) fs (unit_text_at a u))
      (unit-fit (call_room k a) (call_values k a) (no_room k a) (call-fit k) u l h) all short few
    where
      bounds : (r i v w c : ℕ) → r ≤ i + v → i + v ≡ c → c ≤ 65536 → w ≤ 4294901759 → (0 + r < 2 ^ 32) × (w + v < 2 ^ 32)
      bounds r i v w c x y z q = (omega arith, omega arith)

  pub top-room : (n u : ℕ) → u < unit_count a → HasBlocks (kind_at a u) → value_count a u ≤ 4294901759 → n ≡ suc max_nested → copy_length n fs (unit_text_at a u) ≤ 65536 → TopHasRoom a u
  top-room n u l h few e m = let r = top-room-at max_nested n u l h few e m in record { blocks = r.0; values = r.1 }
