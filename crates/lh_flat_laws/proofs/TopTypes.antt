-- The values of the process have in the flat text the types that they have in the process.
use Rattle.std.proofs.Common.{◌≡◌, ℕ, zero, suc, ◌+◌, ◌<◌, Bool, true, false, if◌then◌else◌, List, [], ◌∷◌, ◌++◌, map, Option, Some, None, refl, ap, sym, ◌∙◌, subst, arith}
use Rattle.std.specs.List.{flat_map}
use Rattle.std.specs.Option.{option_map, option_and_then}
use Rattle.lh_types.specs.Types.{TypeTree}
use Rattle.lh_unit_names.specs.declared.name.UnitName.{UnitName}
use Rattle.lh_unit.specs.Contents.{OperandText, InstText, const_text, pure_text, var_text, ld_text, st_text, sig_text, prb_text, drv_text, reg_text, child_text, call_text, phi_text, br_text, branch_text, wait_text, halt_text, ret_text, LineText, BlockText, ArgText, UnitText, args_define, is_result_name}
use Rattle.lh_unit_names.specs.Names.{same_name}
use Rattle.lh_unit.specs.Named.{label_or}
use Rattle.lh_unit.specs.Typing.{result_type, operation_type, line_giving, inst_giving, or_else, arg_named, value_type}
use Rattle.lh_unit.specs.Within.{Each}
use Rattle.lh_flat.specs.Copies.{Copy, top_copy, call_path, opened, copied_operand, copied}
use Rattle.lh_flat.specs.Flat.{FlatBlockText, Pieces, given_by, with_merge, merge_of, with_line, pieces_from, flat_block, flat_copy, flat_unit, as_block}
use Rattle.lh_flat.specs.Marks.{marks, IsPlain}
use Rattle.lh_flat_laws.specs.Tidy.{ResultIsNew, LineTidy, BlockTidy, UnitTidy, FunctionsTidy}
use Rattle.lh_flat.proofs.Marks.{not_same, marks-append, marks-mark}
use Rattle.lh_flat_laws.proofs.BlocksFound.{Opens, opens-is, opens-path}
use Rattle.lh_flat_laws.proofs.HeldValues.{other-name}

-- the path of a call has one more mark
pub path-marks : (c : Copy) (label : List ℕ) (k : ℕ) → IsPlain label → marks (call_path c label k) ≡ suc (marks c.path)
path-marks c label k p =
    marks-append (c.path ++ label) ((256 + k) ∷ [])
    ∙ ap (λ n. n + marks ((256 + k) ∷ [])) (marks-append c.path label)
    ∙ ap (λ n. marks c.path + marks label + n) (marks-mark k [])
    ∙ added (marks c.path) (marks label) p
  where
    added : (a b : ℕ) → b ≡ 0 → a + b + 1 ≡ suc a
    added a b e = omega arith

pub opens-own : (fs : List UnitText) (c : Copy) (path : List ℕ) (i : InstText) (d : Copy) → Opens fs c path i d → (n : List ℕ) → args_define n d.unit.args ≡ false → d.value n ≡ d.path ++ n
opens-own fs c path i d o n e = subst (λ (x : Copy). x.value n ≡ x.path ++ n) o.copy (other-name d.unit.args (map (λ (x : OperandText). c.value x.value) o.args) (path ++ n) n e)

-- ---- copies give no value of the process

-- the names of a copy that is not the process have a mark
record Marked (fs : List UnitText) (d : Copy) : Type 0 where
  pub tidy : UnitTidy fs d.unit
  pub own : (n : List ℕ) → args_define n d.unit.args ≡ false → d.value n ≡ d.path ++ n
  pub some : 0 < marks d.path

module _ (fs : List UnitText) (w : FunctionsTidy fs) (n : List ℕ) (p : IsPlain n) where
  opens-marked : (c : Copy) (label : List ℕ) (k : ℕ) (i : InstText) (d : Copy) → IsPlain label → Opens fs c (call_path c label k) i d → Marked fs d
  opens-marked c label k i d q o = record {
    tidy = w o.callee d.unit o.named;
    own = opens-own fs c (call_path c label k) i d o;
    some = let e : marks d.path ≡ suc (marks c.path) = ap marks (opens-path fs c (call_path c label k) i d o) ∙ path-marks c label k q in omega (arith, e);
  }

  other-result : (d : Copy) → Marked fs d → (r : Option (List ℕ)) → ResultIsNew d.unit r → is_result_name n (option_map d.value r) ≡ false
  other-result d o None e = refl
  other-result d o (Some m) e = not_same (d.value m) n (λ q.
      let h : marks n ≡ marks d.path + marks m = sym (ap marks q) ∙ ap marks (o.own m e.1) ∙ marks-append d.path m in
      let s : 0 < marks d.path = o.some in omega (arith, h, s, p))

  giving-append : (xs ys : List FlatBlockText) → inst_giving n (map as_block (xs ++ ys)) ≡ or_else (inst_giving n (map as_block xs)) (inst_giving n (map as_block ys))
  giving-append [] ys = refl
  giving-append (x ∷ xs) ys = ap (or_else (line_giving n (as_block x).lines)) (giving-append xs ys)
      ∙ assoc (line_giving n (as_block x).lines) (inst_giving n (map as_block xs)) (inst_giving n (map as_block ys))
    where
      assoc : (a b c : Option InstText) → or_else a (or_else b c) ≡ or_else (or_else a b) c
      assoc None b c = refl
      assoc (Some x) b c = refl

  -- none of these gives the value
  abbrev NoneGive : List FlatBlockText → Type 0
  NoneGive bs = inst_giving n (map as_block bs) ≡ None

  none-append : (xs ys : List FlatBlockText) → NoneGive xs → NoneGive ys → NoneGive (xs ++ ys)
  none-append xs ys a b = giving-append xs ys ∙ ap (λ o. or_else o (inst_giving n (map as_block ys))) a ∙ b

  abbrev NonePieces : Pieces → Type 0
  NonePieces q = (line_giving n q.rest ≡ None) × NoneGive q.more

  merge-none : (c d : Copy) (i : InstText) (r : Option (List ℕ)) (ls : List LineText) → is_result_name n (option_map c.value r) ≡ false → line_giving n ls ≡ None
      → line_giving n (with_merge (merge_of fs c d i r) ls) ≡ None
  merge-none c d (call_text f ty args) None ls e h = h
  merge-none c d (call_text f ty args) (Some m) ls e h = ap (λ b. if b then Some (phi_text ty (given_by fs d)) else line_giving n ls) e ∙ h
  merge-none c d _ r ls e h = h

  line-none : (copy_of : Copy → List FlatBlockText) → ((d : Copy) → Marked fs d → NoneGive (copy_of d)) → (c : Copy) (label : List ℕ) (k : ℕ) (l : LineText) (o : Option Copy) (q : Pieces)
      → IsPlain label → Marked fs c → ResultIsNew c.unit l.result
      → opened fs c (call_path c label k) l.inst ≡ o → NonePieces q → NonePieces (with_line copy_of fs c l o q)
  line-none copy_of h c label k l None q a m r e s = (ap (λ b. if b then Some (copied fs c l.inst) else line_giving n q.rest) (other-result c m l.result r) ∙ s.0, s.1)
  line-none copy_of h c label k l (Some d) q a m r e s = (
    refl,
    none-append (copy_of d) (record { label = d.path; merge = merge_of fs c d l.inst l.result; lines = q.rest } ∷ q.more)
        (h d (opens-marked c label k l.inst d a (opens-is fs c (call_path c label k) l.inst d e)))
        (ap (λ o. or_else o (inst_giving n (map as_block q.more))) (merge-none c d l.inst l.result q.rest (other-result c m l.result r) s.0) ∙ s.1),
  )

  pieces-none : (copy_of : Copy → List FlatBlockText) → ((d : Copy) → Marked fs d → NoneGive (copy_of d)) → (c : Copy) (label : List ℕ) (k : ℕ) (ls : List LineText) → IsPlain label → Marked fs c
      → Each (LineTidy fs c.unit) ls → NonePieces (pieces_from copy_of fs c label k ls)
  pieces-none copy_of h c label k [] a m t = (refl, refl)
  pieces-none copy_of h c label k (l ∷ ls) a m t =
      line-none copy_of h c label k l (opened fs c (call_path c label k) l.inst) (pieces_from copy_of fs c label (k + 1) ls) a m t.0.result refl (pieces-none copy_of h c label (k + 1) ls a m t.1)

  blocks-none : (copy_of : Copy → List FlatBlockText) → ((d : Copy) → Marked fs d → NoneGive (copy_of d)) → (c : Copy) (bs : List BlockText) → Marked fs c → Each (BlockTidy fs c.unit) bs
      → NoneGive (flat_map (flat_block copy_of fs c) bs)
  blocks-none copy_of h c [] m t = refl
  blocks-none copy_of h c (b ∷ bs) m t =
      let r = pieces-none copy_of h c (label_or b.label) 0 b.lines t.0.plain m t.0.lines in
      none-append (flat_block copy_of fs c b) (flat_map (flat_block copy_of fs c) bs)
      (ap (λ o. or_else o (inst_giving n (map as_block (pieces_from copy_of fs c (label_or b.label) 0 b.lines).more))) r.0 ∙ r.1)
      (blocks-none copy_of h c bs m t.1)

  copy-none : (k : ℕ) (d : Copy) → Marked fs d → NoneGive (flat_copy k fs d)
  copy-none zero d m = refl
  copy-none (suc k) d m = blocks-none (flat_copy k fs) (copy-none k) d d.unit.blocks m m.tidy.blocks

  -- ---- the process itself

  -- both give none, or values of one type
  abbrev SameType : Option InstText → Option InstText → Type 0
  SameType None None = Unit {0}
  SameType (Some i) (Some j) = result_type i ≡ result_type j
  SameType _ _ = ⊥

  same-or : (a b x y : Option InstText) → SameType a b → SameType x y → SameType (or_else a x) (or_else b y)
  same-or None None x y s t = t
  same-or None (Some j) x y s t = absurd s
  same-or (Some i) None x y s t = absurd s
  same-or (Some i) (Some j) x y s t = s

  same-then : (a b : Option InstText) → SameType a b → option_and_then result_type a ≡ option_and_then result_type b
  same-then None None s = refl
  same-then None (Some j) s = absurd s
  same-then (Some i) None s = absurd s
  same-then (Some i) (Some j) s = s

  operands-same : (u : UnitText) (args : List OperandText) → map (copied_operand (top_copy u)) args ≡ args
  operands-same u [] = refl
  operands-same u (o ∷ os) = ap (λ l. o ∷ l) (operands-same u os)

  copied-type : (u : UnitText) (i : InstText) → result_type (copied fs (top_copy u) i) ≡ result_type i
  copied-type u (const_text d) = refl
  copied-type u (pure_text op args) = ap (operation_type op) (operands-same u args)
  copied-type u (var_text a) = refl
  copied-type u (ld_text q) = refl
  copied-type u (st_text to value) = refl
  copied-type u (sig_text a) = refl
  copied-type u (prb_text s) = refl
  copied-type u (drv_text to value after cond) = refl
  copied-type u (reg_text to triggers) = refl
  copied-type u (child_text v inputs outputs) = refl
  copied-type u (call_text f result args) = refl
  copied-type u (phi_text ty edges) = refl
  copied-type u (br_text to) = refl
  copied-type u (branch_text cond first second) = refl
  copied-type u (wait_text to after signals) = refl
  copied-type u halt_text = refl
  copied-type u (ret_text o) = refl

  result-same : (r : Option (List ℕ)) → is_result_name n (option_map (λ (m : List ℕ). m) r) ≡ is_result_name n r
  result-same None = refl
  result-same (Some m) = refl

  -- what the pieces give
  abbrev given_by_pieces : Pieces → Option InstText
  given_by_pieces q = or_else (line_giving n q.rest) (inst_giving n (map as_block q.more))

  merge-same : (u : UnitText) (d : Copy) (i : InstText) (r : Option (List ℕ)) (f : UnitName) (ty : TypeTree) (args : List OperandText) (q : Pieces) (x : Option InstText) → i ≡ call_text f ty args
      → SameType (given_by_pieces q) x
      → SameType (or_else (line_giving n (with_merge (merge_of fs (top_copy u) d i r) q.rest)) (inst_giving n (map as_block q.more))) (if is_result_name n r then Some i else x)
  merge-same u d i r f ty args q x e s = subst
      (λ j. SameType (or_else (line_giving n (with_merge (merge_of fs (top_copy u) d j r) q.rest)) (inst_giving n (map as_block q.more))) (if is_result_name n r then Some j else x)) (sym e) (by r)
    where
      by : (r : Option (List ℕ)) → SameType (or_else (line_giving n (with_merge (merge_of fs (top_copy u) d (call_text f ty args) r) q.rest)) (inst_giving n (map as_block q.more))) (if is_result_name
          n r then Some (call_text f ty args) else x)
      by None = s
      by (Some m) = at (same_name m n)
        where
          at : (b : Bool) → SameType (or_else (if b then Some (phi_text ty (given_by fs d)) else line_giving n q.rest) (inst_giving n (map as_block q.more))) (if b then Some
              (call_text f ty args) else x)
          at true = refl
          at false = s

  line-same : (k : ℕ) (u : UnitText) (label : List ℕ) (j : ℕ) (l : LineText) (o : Option Copy) (q : Pieces) (x : Option InstText) → IsPlain label
      → opened fs (top_copy u) (call_path (top_copy u) label j) l.inst ≡ o → SameType (given_by_pieces q) x
      → SameType (given_by_pieces (with_line (flat_copy k fs) fs (top_copy u) l o q)) (if is_result_name n l.result then Some l.inst else x)
  line-same k u label j l None q x a e s = subst
      (λ b. SameType (or_else (if b then Some (copied fs (top_copy u) l.inst) else line_giving n q.rest) (inst_giving n (map as_block q.more))) (if is_result_name n l.result then Some l.inst else x))
      (sym (result-same l.result)) (by (is_result_name n l.result))
    where
      by : (b : Bool) → SameType (or_else (if b then Some (copied fs (top_copy u) l.inst) else line_giving n q.rest) (inst_giving n (map as_block q.more))) (if b then Some l.inst else x)
      by true = copied-type u l.inst
      by false = s
  line-same k u label j l (Some d) q x a e s =
      let o = opens-is fs (top_copy u) (call_path (top_copy u) label j) l.inst d e in
      subst (λ y. SameType y (if is_result_name n l.result then Some l.inst else x))
      (sym (giving-append (flat_copy k fs d) (record { label = d.path; merge = merge_of fs (top_copy u) d l.inst l.result; lines = q.rest } ∷ q.more)
      ∙ ap (λ y. or_else y (inst_giving n (map as_block (record { label = d.path; merge = merge_of fs (top_copy u) d l.inst l.result; lines = q.rest } ∷ q.more)))) (copy-none k d
      (opens-marked (top_copy u) label j l.inst d a o))))
      (merge-same u d l.inst l.result o.callee o.ty o.args q x o.inst s)

  pieces-same : (k : ℕ) (u : UnitText) (label : List ℕ) (j : ℕ) (ls : List LineText) → IsPlain label
      → SameType (given_by_pieces (pieces_from (flat_copy k fs) fs (top_copy u) label j ls)) (line_giving n ls)
  pieces-same k u label j [] a = tt
  pieces-same k u label j (l ∷ ls) a =
      line-same k u label j l (opened fs (top_copy u) (call_path (top_copy u) label j) l.inst) (pieces_from (flat_copy k fs) fs (top_copy u) label (j + 1) ls) (line_giving n ls) a refl
      (pieces-same k u label (j + 1) ls a)

  blocks-same : (k : ℕ) (u : UnitText) (bs : List BlockText) → Each (BlockTidy fs u) bs
      → SameType (inst_giving n (map as_block (flat_map (flat_block (flat_copy k fs) fs (top_copy u)) bs))) (inst_giving n bs)
  blocks-same k u [] t = tt
  blocks-same k u (b ∷ bs) t =
      subst (λ y. SameType y (or_else (line_giving n b.lines) (inst_giving n bs)))
      (sym (giving-append (flat_block (flat_copy k fs) fs (top_copy u) b) (flat_map (flat_block (flat_copy k fs) fs (top_copy u)) bs)))
      (same-or (inst_giving n (map as_block (flat_block (flat_copy k fs) fs (top_copy u) b))) (line_giving n b.lines)
      (inst_giving n (map as_block (flat_map (flat_block (flat_copy k fs) fs (top_copy u)) bs))) (inst_giving n bs)
      (pieces-same k u (label_or b.label) 0 b.lines t.0.plain) (blocks-same k u bs t.1))

  -- so the value has the type that it has in the process
  pub type-same : (k : ℕ) (u : UnitText) (name : UnitName) → UnitTidy fs u → value_type (flat_unit name (record { args = u.args; blocks = flat_copy (suc k) fs (top_copy u) })) n ≡ value_type u n
  type-same k u name t =
      ap (or_else (option_map (λ (x : ArgText). x.ty) (arg_named n u.args)))
      (same-then (inst_giving n (map as_block (flat_copy (suc k) fs (top_copy u)))) (inst_giving n u.blocks) (blocks-same k u u.blocks t.blocks))
