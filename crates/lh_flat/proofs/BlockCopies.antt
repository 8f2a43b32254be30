-- What is built of a block reads as the block of the copy, where what is built of each call reads as the call's copy.
use Rattle.std.proofs.Common.{◌≡◌, ℕ, suc, ◌+◌, ◌<◌, true, false, Bool, ◌||◌, if◌then◌else◌, List, [], ◌∷◌, ◌++◌, length, map, Option, Some, None, refl, ap, sym, ◌∙◌, subst, arith, append_assoc}
use Rattle.std.proofs.lemmas.List.{append-nil, map-append, length-append}
use Rattle.std.specs.List.{list_any, flat_map}
use Rattle.std.specs.Option.{option_map}
use Rattle.lh_unit_names.specs.declared.name.UnitName.{UnitName}
use Rattle.lh_unit.specs.Contents.{OperandText, InstText, call_text, LineText, UnitText}
use Rattle.lh_unit.specs.Named.{is_function, function_named, label_or}
use Rattle.lh_unit_names.specs.UnitNames.{is_assert}
use Rattle.lh_unit.specs.Hierarchy.{lines_of}
use Rattle.lh_unit.specs.Naming.{Naming, maybe_text, operand_text, inst_text, line_text, block_text, kind_text}
use Rattle.lh_unit.specs.Table.{insts_at, HasBlocks}
use Rattle.lh_unit.specs.Within.{Sizes, Each, InstWithin}
use Rattle.lh_unit.specs.Arena.{Arena, IsArena, table_at, naming, blocks_at, unit_count, value_count, label_count, unit_name_at, label_name_at, unit_text_at, kind_at, InstPlaced}
use Rattle.lh_unit.specs.declared.inst.UnitId.{UnitId}
use Rattle.lh_unit.specs.declared.inst.BlockId.{BlockId}
use Rattle.lh_unit.specs.declared.inst.InstId.{InstId}
use Rattle.lh_unit.specs.declared.inst.Inst.{Inst}
use Rattle.lh_unit.specs.declared.inst.Inst.TheVariants as inst
use Rattle.lh_unit.specs.declared.table.TableLine.{TableLine}
use Rattle.lh_unit.proofs.Defined.{label_text-named}
use Rattle.lh_unit.proofs.ModuleLaws.{line-placed}
use Rattle.lh_flat.specs.declared.rename.Renaming.{Renaming}
use Rattle.lh_flat.specs.declared.build.FlatBuilder.{FlatBuilder}
use Rattle.lh_flat.specs.Graph.{callee_of}
use Rattle.lh_flat.specs.Calls.{callee_if, callees_in}
use Rattle.lh_flat.specs.Copies.{Copy, call_path, copy_at, opened, first_piece, copied, copied_line}
use Rattle.lh_flat.specs.Flat.{MergeText, FlatBlockText, Pieces, merge_of, branch_into, with_line, pieces_from, in_order, flat_block}
use Rattle.lh_flat.specs.Reads.{merge_text, flat_line_text}
use Rattle.lh_flat.specs.Renames.{value_in, renamed, sizes_in}
use Rattle.lh_flat.specs.Agrees.{Agrees}
use Rattle.lh_flat.specs.Fits.{IdsFit}
use Rattle.lh_flat.specs.Building.{line_of, no_block, put, taken, line_in, line_added, insts_added, blocks_added}
use Rattle.lh_flat.specs.CopyNames.{call_names, insts_names, blocks_names, NamedFrom, IsCallable, is_known, InstIsRight, BlockIsRight}
use Rattle.lh_flat.proofs.BuilderRoom.{maybe-within}
use Rattle.lh_flat.proofs.CopiedIds.{result-known}
use Rattle.lh_flat.proofs.Names.{maybe-same, renames_as_copied}
use Rattle.lh_flat.proofs.NumberNames.{named-left, named-right, labels, labels-left, labels-right, moved, read, read-one_more, long-by_text, none_less}
use Rattle.lh_types.proofs.Tests.{or_false_left, or_false_right}

-- the text of an instruction of the unit u
abbrev pub line_text_of : Arena → (u : ℕ) → InstId → LineText
line_text_of a u i = line_text (naming a u) (line_of a u i)

-- the operands of a call
abbrev pub call_operands : InstText → List OperandText
call_operands (call_text f ty args) = args
call_operands _ = []

-- the names of the arguments of a call
abbrev pub arg_names : Copy → InstText → List (List ℕ)
arg_names c i = map (λ (o : OperandText). c.value o.value) (call_operands i)

-- what no function is called by is not replaced
pub opened-none : (a : Arena) (fs : List UnitText) (u : ℕ) (c : Copy) (path : List ℕ) (i : Inst) → callee_of a i ≡ None → opened fs c path (inst_text (naming a u) i) ≡ None
opened-none a fs u c path (inst.Call f ty args) =
    elim (is_assert (unit_name_at a f.0)) as (λ b. (if b then None else Some f) ≡ None
    → (if b then None else option_map (copy_at path (map (λ (o : OperandText). c.value o.value) (map (operand_text (naming a u)) args))) (function_named (unit_name_at a f.0) fs)) ≡ None) [
      | true ↦ λ e. refl
      | false ↦ λ e. cc
    ]
opened-none a fs u c path (inst.Ret None) = λ e. refl
opened-none a fs u c path (inst.Ret (Some t)) = λ e. refl
opened-none a fs u c path _ = λ e. refl

-- a call is replaced by the copy of the function
pub opened-some : (a : Arena) (fs : List UnitText) (u : ℕ) (c : Copy) (path : List ℕ) (i : Inst) (f : UnitId) → callee_of a i ≡ Some f
    → function_named (unit_name_at a f.0) fs ≡ Some (unit_text_at a f.0) →
    opened fs c path (inst_text (naming a u) i) ≡ Some (copy_at path (arg_names c (inst_text (naming a u) i)) (unit_text_at a f.0))
opened-some a fs u c path (inst.Call h ty args) f =
    elim (is_assert (unit_name_at a h.0)) as (λ b. (if b then None else Some h) ≡ Some f → function_named (unit_name_at a f.0) fs ≡ Some (unit_text_at a f.0) →
    (if b then None else option_map (copy_at path (map (λ (o : OperandText). c.value o.value) (map (operand_text (naming a u)) args))) (function_named (unit_name_at a h.0) fs))
    ≡ Some (copy_at path (map (λ (o : OperandText). c.value o.value) (map (operand_text (naming a u)) args)) (unit_text_at a f.0))) [
      | true ↦ λ e n. cc
      | false ↦ λ e n. let q : h ≡ f = cc in ap (λ (x : UnitId). option_map (copy_at path (map (λ (o : OperandText). c.value o.value) (map (operand_text (naming a u)) args)))
          (function_named (unit_name_at a x.0) fs)) q ∙ ap (option_map (copy_at path (map (λ (o : OperandText). c.value o.value) (map (operand_text (naming a u)) args)))) n
    ]
opened-some a fs u c path _ f = λ e n. cc

-- the functions called by an instruction and those behind it
abbrev pub Tested : (test : UnitName → Bool) → Arena → Option UnitId → Type 0
Tested test a None = Unit {0}
Tested test a (Some f) = test (unit_name_at a f.0) ≡ false

pub tested : (test : UnitName → Bool) (a : Arena) (u : ℕ) (i : Inst) (more : List UnitName) → list_any test (callee_if (inst_text (naming a u) i) more) ≡ false → Tested test a (callee_of a i)
    × (list_any test more ≡ false)
tested test a u (inst.Call f ty args) more =
    elim (is_assert (unit_name_at a f.0)) as (λ b. list_any test (if b then more else unit_name_at a f.0 ∷ more) ≡ false → Tested test a (if b then None else Some f) × (list_any test more ≡ false)) [
      | true ↦ λ e. (tt, e)
      | false ↦ λ e. (or_false_left (test (unit_name_at a f.0)) (list_any test more) e, or_false_right (test (unit_name_at a f.0)) (list_any test more) e)
    ]
tested test a u (inst.Ret None) more = λ e. (tt, e)
tested test a u (inst.Ret (Some t)) more = λ e. (tt, e)
tested test a u _ more = λ e. (tt, e)

pub callees-append : (xs ys : List LineText) → callees_in (xs ++ ys) ≡ callees_in xs ++ callees_in ys
callees-append [] ys = refl
callees-append (x ∷ xs) ys = ap (callee_if x.inst) (callees-append xs ys) ∙ by x.inst
  where
    by : (i : InstText) → callee_if i (callees_in xs ++ callees_in ys) ≡ callee_if i (callees_in xs) ++ callees_in ys
    by (call_text f ty args) = elim (is_assert f) as
        (λ b. (if b then callees_in xs ++ callees_in ys else f ∷ (callees_in xs ++ callees_in ys)) ≡ (if b then callees_in xs else f ∷ callees_in xs) ++ callees_in ys) [ true ↦ refl | false ↦ refl ]
    by _ = refl

pub any-append : (test : UnitName → Bool) (xs ys : List UnitName) → list_any test (xs ++ ys) ≡ false → (list_any test xs ≡ false) × (list_any test ys ≡ false)
any-append test [] ys e = (refl, e)
any-append test (x ∷ xs) ys e =
    let r : (list_any test xs ≡ false) × (list_any test ys ≡ false) = any-append test xs ys (or_false_right (test x) (list_any test (xs ++ ys)) e) in
    (ap (λ b. b || list_any test xs) (or_false_left (test x) (list_any test (xs ++ ys)) e) ∙ r.0, r.1)

-- the copy c of the unit u has these ids in the flat text that g names
pub record CopyIs (a : Arena) (fs : List UnitText) (g : Naming) (u : ℕ) (c : Copy) (r : Renaming) : Type 0 where
  pub within : u < unit_count a
  pub blocks : HasBlocks (kind_at a u)
  pub unit : c.unit ≡ unit_text_at a u
  pub fits : IdsFit a u r
  pub agrees : Agrees (naming a u) g fs (is_known a u) (blocks_at a u) (is_function (kind_text (kind_at a u))) c r

-- what is built for a call reads as the branch into the copy, and the copy
pub record CallReads (fs : List UnitText) (g : Naming) (c d : Copy) (l : LineText) (copies : List FlatBlockText) (names : List (List ℕ)) (t t' : FlatBuilder) : Type 0 where
  pub blocks : read g t'.blocks ≡ read g t.blocks
      ++ (record { label = g.label_name (length t.blocks); merge = option_map (merge_text g) t.current.merge; lines = map (flat_line_text g) t.current.insts ++ branch_into d ∷ [] } ∷ copies)
  pub merge : option_map (merge_text g) t'.current.merge ≡ merge_of fs c d l.inst l.result
  pub insts : t'.current.insts ≡ []
  pub values : t'.values ≡ t.values + length names

-- what is built for the rest of a block reads as the pieces of that
pub record LinesRead (g : Naming) (p : Pieces) (names : List (List ℕ)) (t t' : FlatBuilder) : Type 0 where
  pub blocks : read g (put t').blocks ≡ read g t.blocks
      ++ (record { label = g.label_name (length t.blocks); merge = option_map (merge_text g) t.current.merge; lines = map (flat_line_text g) t.current.insts ++ p.rest } ∷ p.more)
  pub values : t'.values ≡ t.values + length names

-- what is built for blocks reads as these
pub record BlocksRead (g : Naming) (texts : List FlatBlockText) (names : List (List ℕ)) (t t' : FlatBuilder) : Type 0 where
  pub blocks : read g t'.blocks ≡ read g t.blocks ++ texts
  pub current : t'.current ≡ no_block
  pub values : t'.values ≡ t.values + length names

-- what is built for each call reads as its copy
abbrev pub CallsRead : (a : Arena) (fs : List UnitText) (g : Naming) (called : UnitId → Renaming → TableLine → FlatBuilder → FlatBuilder) (copy_of : Copy → List FlatBlockText) (names : UnitId → List ℕ
    → List (List ℕ)) (test : UnitName → Bool) → Type 0
CallsRead a fs g called copy_of names test =
    (u : ℕ) (c : Copy) (r : Renaming) (i : InstId) (f : UnitId) (path : List ℕ) (t : FlatBuilder) → CopyIs a fs g u c r → callee_of a (line_of a u i).inst ≡ Some f
    → InstIsRight a fs u (line_of a u i).inst → test (unit_name_at a f.0) ≡ false →
    NamedFrom g.label_name (length t.blocks + 1) (labels (copy_of (copy_at path (arg_names c (line_text_of a u i).inst) (unit_text_at a f.0)))) →
    g.label_name (length t.blocks + 1 + length (copy_of (copy_at path (arg_names c (line_text_of a u i).inst) (unit_text_at a f.0)))) ≡ path →
    NamedFrom g.value_name t.values (names f path) →
    CallReads fs g c (copy_at path (arg_names c (line_text_of a u i).inst) (unit_text_at a f.0)) (line_text_of a u i)
    (copy_of (copy_at path (arg_names c (line_text_of a u i).inst) (unit_text_at a f.0))) (names f path) t (called f r (line_of a u i) t)

abbrev sized : ℕ → ℕ → ℕ → Sizes
sized n v x = record { units = n; values = v; labels = x }

sizes-same : (n v w x y : ℕ) → v ≡ w → x ≡ y → sized n v x ≡ sized n w y
sizes-same n v w x y e f = ap (λ p. sized n p x) e ∙ ap (sized n w) f

pub inst-fits : (a : Arena) (u : ℕ) (r : Renaming) (i : Inst) → IdsFit a u r → InstPlaced a u i → InstWithin (sizes_in (unit_count a) r) i
inst-fits a u r i f p = subst (λ s. InstWithin s i) (sizes-same (unit_count a) (value_count a u) (length r.values) (label_count a u) (length r.spans) (sym f.values) (sym f.labels)) p

abbrev lined : Option (List ℕ) → InstText → LineText
lined x i = record { result = x; inst = i }

line-records : (x y : Option (List ℕ)) (i j : InstText) → x ≡ y → i ≡ j → lined x i ≡ lined y j
line-records x y i j e f = ap (λ p. lined p i) e ∙ ap (lined y) f

abbrev blocked : List ℕ → Option MergeText → List LineText → FlatBlockText
blocked k m xs = record { label = k; merge = m; lines = xs }

block-records : (k l : List ℕ) (m n : Option MergeText) (xs ys : List LineText) → k ≡ l → m ≡ n → xs ≡ ys → blocked k m xs ≡ blocked l n ys
block-records k l m n xs ys e f h = ap (λ p. blocked p m xs) e ∙ ap (λ q. blocked l q xs) f ∙ ap (blocked l n) h

-- one more line of a piece
pushed : {A B : Type 0} (F : A → B) (xs : List A) (x : A) (y : B) (rest : List B) → F x ≡ y → map F (xs ++ x ∷ []) ++ rest ≡ map F xs ++ y ∷ rest
pushed F xs x y rest e = ap (λ zs. zs ++ rest) (map-append F xs (x ∷ [])) ∙ append_assoc (map F xs) (F x ∷ []) rest ∙ ap (λ z. map F xs ++ z ∷ rest) e

behind : (l n c : ℕ) → l ≡ n + suc c → n + 1 + c + 1 ≡ l + 1
behind l n c e = omega arith

at_end : (l n c : ℕ) → l ≡ n + suc c → l ≡ n + 1 + c
at_end l n c e = omega arith

summed : (v w x m n : ℕ) → v ≡ w + n → w ≡ x + m → v ≡ x + (m + n)
summed v w x m n e f = omega arith

-- the first piece of a block, and what stands after it
pub block-named : (a : Arena) (fs : List UnitText) (copy_of : Copy → List FlatBlockText) (u : ℕ) (c : Copy) (x : BlockId) → HasBlocks (kind_at a u)
    → flat_block copy_of fs c (block_text (naming a u) (table_at a u) x)
    ≡ in_order c (label_name_at a u x.0) (pieces_from copy_of fs c (label_name_at a u x.0) 0 (map (line_text_of a u) (insts_at (table_at a u) x.0)))
block-named a fs copy_of u c x k =
    ap (λ m. in_order c m (pieces_from copy_of fs c m 0 (map (line_text_of a u) (insts_at (table_at a u) x.0)))) (ap label_or (label_text-named (naming a u) (kind_at a u) x k))

module _ (a : Arena) (o : IsArena a) (fs : List UnitText) (g : Naming) (called : UnitId → Renaming → TableLine → FlatBuilder → FlatBuilder) (copy_of : Copy → List FlatBlockText) (names : UnitId → List ℕ → List (List ℕ))
    (test : UnitName → Bool) (calls : CallsRead a fs g called copy_of names test) where
  line-same : (u : ℕ) (c : Copy) (r : Renaming) (i : InstId) → CopyIs a fs g u c r → InstIsRight a fs u (line_of a u i).inst
      → flat_line_text g (line_in r (line_of a u i)) ≡ copied_line fs c (line_text_of a u i)
  line-same u c r i k w =
      line-records (maybe_text g (option_map (value_in r) (line_of a u i).result)) (option_map c.value (maybe_text (naming a u) (line_of a u i).result)) (inst_text g (renamed r (line_of a u i).inst))
      (copied fs c (inst_text (naming a u) (line_of a u i).inst))
      (maybe-same (naming a u) g fs (is_known a u) (blocks_at a u) (is_function (kind_text (kind_at a u))) c r (unit_count a) k.agrees (line_of a u i).result
      (maybe-within a o u k.within r k.fits (unit_count a) i.0 (line_of a u i).result refl) (result-known a u o k.within i.0 (line_of a u i).result refl))
      (renames_as_copied (naming a u) g fs (is_known a u) (blocks_at a u) (is_function (kind_text (kind_at a u))) c r (unit_count a) k.agrees (line_of a u i).inst w.code
      (inst-fits a u r (line_of a u i).inst k.fits (line-placed a u i.0 o)) w.values w.blocks)

  -- the lines of a block from line n on
  pub lines-read : (u : ℕ) (c : Copy) (r : Renaming) (k : CopyIs a fs g u c r) (label : List ℕ) (is : List InstId) → Each (λ (i : InstId). InstIsRight a fs u (line_of a u i).inst) is → (n : ℕ)
      → list_any test (callees_in (map (line_text_of a u) is)) ≡ false → (t : FlatBuilder) →
      NamedFrom g.label_name (length t.blocks + 1) (labels (pieces_from copy_of fs c label n (map (line_text_of a u) is)).more) →
      NamedFrom g.value_name t.values (insts_names names a u c.path label n is) →
      LinesRead g (pieces_from copy_of fs c label n (map (line_text_of a u) is)) (insts_names names a u c.path label n is) t (insts_added called a u r is t)
  lines-read u c r k label [] w n q t h v = record {
    blocks = read-one_more g t.blocks t.current
        ∙ ap (λ (xs : List LineText). read g t.blocks ++ record { label = g.label_name (length t.blocks); merge = option_map (merge_text g) t.current.merge; lines = xs } ∷ [])
        (sym (append-nil (map (flat_line_text g) t.current.insts)));
    values = none_less t.values;
  }
  lines-read u c r k label (i ∷ more) w n q t h v =
      by (callee_of a (line_of a u i).inst) refl (tested test a u (line_of a u i).inst (callees_in (map (line_text_of a u) more)) q).0
      (λ s hs vs. lines-read u c r k label more w.1 (n + 1) (tested test a u (line_of a u i).inst (callees_in (map (line_text_of a u) more)) q).1 s hs vs) h v
    where
      path : List ℕ
      path = call_path c label n

      by : (x : Option UnitId) → callee_of a (line_of a u i).inst ≡ x → Tested test a x →
          ((s : FlatBuilder) → NamedFrom g.label_name (length s.blocks + 1) (labels (pieces_from copy_of fs c label (n + 1) (map (line_text_of a u) more)).more)
          → NamedFrom g.value_name s.values (insts_names names a u c.path label (n + 1) more) →
          LinesRead g (pieces_from copy_of fs c label (n + 1) (map (line_text_of a u) more)) (insts_names names a u c.path label (n + 1) more) s (insts_added called a u r more s)) →
          NamedFrom g.label_name (length t.blocks + 1)
          (labels (with_line copy_of fs c (line_text_of a u i) (opened fs c (call_path c label n) (line_text_of a u i).inst)
          (pieces_from copy_of fs c label (n + 1) (map (line_text_of a u) more))).more) →
          NamedFrom g.value_name t.values (call_names names (call_path c label n) x ++ insts_names names a u c.path label (n + 1) more) →
          LinesRead g (with_line copy_of fs c (line_text_of a u i) (opened fs c (call_path c label n) (line_text_of a u i).inst) (pieces_from copy_of fs c label (n + 1) (map (line_text_of a u) more)))
          (call_names names (call_path c label n) x ++ insts_names names a u c.path label (n + 1) more) t (insts_added called a u r more (line_added called r (line_of a u i) x t))
      by None e z ih hl hv =
          let l : LineText = line_text_of a u i in
          let p : Pieces = pieces_from copy_of fs c label (n + 1) (map (line_text_of a u) more) in
          let none : opened fs c (call_path c label n) l.inst ≡ None = opened-none a fs u c (call_path c label n) (line_of a u i).inst e in
          let s : FlatBuilder = taken (line_in r (line_of a u i)) t in
          let rest : LinesRead g p (insts_names names a u c.path label (n + 1) more) s (insts_added called a u r more s) =
          ih s (subst (λ y. NamedFrom g.label_name (length t.blocks + 1) (labels (with_line copy_of fs c l y p).more)) none hl) hv in
          subst (λ y. LinesRead g (with_line copy_of fs c l y p) (insts_names names a u c.path label (n + 1) more) t (insts_added called a u r more s)) (sym none) record {
            blocks = rest.blocks
                ∙ ap (λ (xs : List LineText). read g t.blocks ++ record { label = g.label_name (length t.blocks); merge = option_map (merge_text g) t.current.merge; lines = xs } ∷ p.more)
                (pushed (flat_line_text g) t.current.insts (line_in r (line_of a u i)) (copied_line fs c l) p.rest (line-same u c r i k w.0));
            values = rest.values;
          }
      by (Some f) e z ih hl hv =
          let l : LineText = line_text_of a u i in
          let p : Pieces = pieces_from copy_of fs c label (n + 1) (map (line_text_of a u) more) in
          let d : Copy = copy_at (call_path c label n) (arg_names c l.inst) (unit_text_at a f.0) in
          let ok : IsCallable a fs f = w.0.called f e in
          let some : opened fs c (call_path c label n) l.inst ≡ Some d = opened-some a fs u c (call_path c label n) (line_of a u i).inst f e ok.named in
          let D : FlatBlockText = record { label = d.path; merge = merge_of fs c d l.inst l.result; lines = p.rest } in
          let ns : List (List ℕ) = insts_names names a u c.path label (n + 1) more in
          let hs : NamedFrom g.label_name (length t.blocks + 1) (labels (copy_of d ++ D ∷ p.more)) = subst
          (λ y. NamedFrom g.label_name (length t.blocks + 1) (labels (with_line copy_of fs c l y p).more)) some hl in
          let right : NamedFrom g.label_name (length t.blocks + 1 + length (copy_of d)) (labels (D ∷ p.more)) = labels-right g.label_name (length t.blocks + 1) (copy_of d) (D ∷ p.more) hs in
          let s : FlatBuilder = called f r (line_of a u i) t in
          let one : CallReads fs g c d l (copy_of d) (names f (call_path c label n)) t s =
          calls u c r i f (call_path c label n) t k e w.0 z (labels-left g.label_name (length t.blocks + 1) (copy_of d) (D ∷ p.more) hs) right.0
          (named-left g.value_name t.values (names f (call_path c label n)) ns hv) in
          let B : FlatBlockText = record {
            label = g.label_name (length t.blocks);
            merge = option_map (merge_text g) t.current.merge;
            lines = map (flat_line_text g) t.current.insts ++ branch_into d
                ∷ [];
          } in
          let long : length s.blocks ≡ length t.blocks + suc (length (copy_of d)) = long-by_text g t.blocks s.blocks (B ∷ copy_of d) one.blocks in
          let rest : LinesRead g p ns s (insts_added called a u r more s) =
          ih s (moved g.label_name (length t.blocks + 1 + length (copy_of d) + 1) (length s.blocks + 1) (labels p.more) (behind (length s.blocks) (length t.blocks) (length (copy_of d)) long) right.1)
          (moved g.value_name (t.values + length (names f (call_path c label n))) s.values ns (sym one.values) (named-right g.value_name t.values (names f (call_path c label n)) ns hv)) in
          let same : blocked (g.label_name (length s.blocks)) (option_map (merge_text g) s.current.merge) (map (flat_line_text g) s.current.insts ++ p.rest) ≡ D =
          block-records (g.label_name (length s.blocks)) d.path (option_map (merge_text g) s.current.merge) (merge_of fs c d l.inst l.result) (map (flat_line_text g) s.current.insts ++ p.rest) p.rest
          (ap g.label_name (at_end (length s.blocks) (length t.blocks) (length (copy_of d)) long) ∙ right.0) one.merge (ap (λ xs. map (flat_line_text g) xs ++ p.rest) one.insts) in
          subst (λ y. LinesRead g (with_line copy_of fs c l y p) (names f (call_path c label n) ++ ns) t (insts_added called a u r more s)) (sym some) record {
            blocks = rest.blocks
                ∙ ap (λ x. read g s.blocks ++ x ∷ p.more) same
                ∙ ap (λ xs. xs ++ D ∷ p.more) one.blocks
                ∙ append_assoc (read g t.blocks) (B ∷ copy_of d) (D ∷ p.more);
            values = summed (insts_added called a u r more s).values s.values t.values (length (names f (call_path c label n))) (length ns) rest.values one.values
                ∙ ap (λ m. t.values + m) (sym (length-append (names f (call_path c label n)) ns));
          }

  -- blocks, one after the other
  pub blocks-read : (u : ℕ) (c : Copy) (r : Renaming) (k : CopyIs a fs g u c r) (bs : List BlockId) → Each (BlockIsRight a fs u) bs
      → list_any test (callees_in (lines_of (map (block_text (naming a u) (table_at a u)) bs))) ≡ false → (t : FlatBuilder) → t.current ≡ no_block →
      NamedFrom g.label_name (length t.blocks) (labels (flat_map (flat_block copy_of fs c) (map (block_text (naming a u) (table_at a u)) bs))) →
      NamedFrom g.value_name t.values (blocks_names names a u c.path bs) →
      BlocksRead g (flat_map (flat_block copy_of fs c) (map (block_text (naming a u) (table_at a u)) bs)) (blocks_names names a u c.path bs) t (blocks_added called a u r bs t)
  blocks-read u c r k [] w q t z h v = record { blocks = sym (append-nil (read g t.blocks)); current = z; values = none_less t.values }
  blocks-read u c r k (x ∷ bs) w q t z h v =
      let is : List InstId = insts_at (table_at a u) x.0 in
      let m : List ℕ = label_name_at a u x.0 in
      let p : Pieces = pieces_from copy_of fs c m 0 (map (line_text_of a u) is) in
      let X : List FlatBlockText = flat_block copy_of fs c (block_text (naming a u) (table_at a u) x) in
      let Y : List FlatBlockText = flat_map (flat_block copy_of fs c) (map (block_text (naming a u) (table_at a u)) bs) in
      let e : X ≡ in_order c m p = block-named a fs copy_of u c x k.blocks in
      let ns : List (List ℕ) = insts_names names a u c.path m 0 is in
      let qs : (list_any test (callees_in (map (line_text_of a u) is)) ≡ false) × (list_any test (callees_in (lines_of (map (block_text (naming a u) (table_at a u)) bs))) ≡ false) =
      any-append test (callees_in (map (line_text_of a u) is)) (callees_in (lines_of (map (block_text (naming a u) (table_at a u)) bs)))
      (ap (list_any test) (sym (callees-append (map (line_text_of a u) is) (lines_of (map (block_text (naming a u) (table_at a u)) bs)))) ∙ q) in
      let hs : NamedFrom g.label_name (length t.blocks) (labels (in_order c m p)) = subst (λ zs. NamedFrom g.label_name (length t.blocks) (labels zs)) e
      (labels-left g.label_name (length t.blocks) X Y h) in
      let s : FlatBuilder = put (insts_added called a u r is t) in
      let one : LinesRead g p ns t (insts_added called a u r is t) = lines-read u c r k m is w.0 0 qs.0 t hs.1 (named-left g.value_name t.values ns (blocks_names names a u c.path bs) v) in
      let head : blocked (g.label_name (length t.blocks)) (option_map (merge_text g) t.current.merge) (map (flat_line_text g) t.current.insts ++ p.rest) ≡ blocked (first_piece c m) None p.rest =
      block-records (g.label_name (length t.blocks)) (first_piece c m) (option_map (merge_text g) t.current.merge) None (map (flat_line_text g) t.current.insts ++ p.rest) p.rest hs.0
      (ap (λ b. option_map (merge_text g) b.merge) z) (ap (λ b. map (flat_line_text g) b.insts ++ p.rest) z) in
      let got : read g s.blocks ≡ read g t.blocks ++ X = one.blocks ∙ ap (λ b. read g t.blocks ++ b ∷ p.more) head ∙ ap (λ zs. read g t.blocks ++ zs) (sym e) in
      let rest : BlocksRead g Y (blocks_names names a u c.path bs) s (blocks_added called a u r bs s) =
      blocks-read u c r k bs w.1 qs.1 s refl (moved g.label_name (length t.blocks + length X) (length s.blocks) (labels Y) (sym (long-by_text g t.blocks s.blocks X got))
      (labels-right g.label_name (length t.blocks) X Y h))
      (moved g.value_name (t.values + length ns) s.values (blocks_names names a u c.path bs) (sym one.values) (named-right g.value_name t.values ns (blocks_names names a u c.path bs) v)) in
      record {
        blocks = rest.blocks ∙ ap (λ xs. xs ++ Y) got ∙ append_assoc (read g t.blocks) X Y;
        current = rest.current;
        values = summed (blocks_added called a u r bs s).values s.values t.values (length ns) (length (blocks_names names a u c.path bs)) rest.values one.values
            ∙ ap (λ n. t.values + n) (sym (length-append ns (blocks_names names a u c.path bs)));
      }
