-- How many instructions the pieces of a block have, and so a copy.
use Rattle.std.proofs.Common.{◌≡◌, ℕ, zero, suc, ◌+◌, List, [], ◌∷◌, length, map, sum_by, true, false, if◌then◌else◌, Option, Some, None, refl, ap, sym, ◌∙◌, zero-add, arith}
use Rattle.std.specs.List.{flat_map}
use Rattle.std.specs.Option.{option_map, option_map_or}
use Rattle.std.proofs.lemmas.List.Sums.{sum_by-append, sum_by-cons}
use Rattle.lh_unit_names.specs.declared.name.UnitName.{UnitName}
use Rattle.lh_unit.specs.Contents.{OperandText, InstText, call_text, LineText, BlockText, UnitText}
use Rattle.lh_unit.specs.Named.{function_named, label_or}
use Rattle.lh_unit_names.specs.UnitNames.{is_assert}
use Rattle.lh_flat.specs.Calls.{callee_if, callees_in}
use Rattle.lh_flat.specs.Copies.{Copy, call_path, copy_at, opened, first_piece}
use Rattle.lh_flat.specs.Flat.{FlatBlockText, Pieces, merge_of, with_line, pieces_from, in_order, flat_block, flat_copy, inst_count}
use Rattle.lh_flat.specs.Lengths.{called_length, block_length, copy_length, LengthsAdd}

-- the length of what a line is replaced by
abbrev pub opened_length : (length_of : UnitText → ℕ) → Option Copy → ℕ
opened_length length_of o = option_map_or (λ (d : Copy). length_of d.unit) o 0

named-length : (length_of : UnitText → ℕ) (path : List ℕ) (args : List (List ℕ)) (o : Option UnitText) → option_map_or length_of o 0 ≡ opened_length length_of (option_map (copy_at path args) o)
named-length length_of path args None = refl
named-length length_of path args (Some f) = refl

pub callee-length : (length_of : UnitText → ℕ) (fs : List UnitText) (c : Copy) (path : List ℕ) (i : InstText) (more : List UnitName)
    → sum_by (called_length length_of fs) (callee_if i more) ≡ opened_length length_of (opened fs c path i) + sum_by (called_length length_of fs) more
callee-length length_of fs c path (call_text f t args) more =
    elim (is_assert f) as (λ b. sum_by (called_length length_of fs) (if b then more else f ∷ more)
    ≡ opened_length length_of (if b then None else option_map (copy_at path (map (λ (o : OperandText). c.value o.value) args)) (function_named f fs)) + sum_by (called_length length_of fs) more) [
      | true ↦ sym (zero-add (sum_by (called_length length_of fs) more))
      | false ↦ sum_by-cons (called_length length_of fs) f more
          ∙ ap (λ n. n + sum_by (called_length length_of fs) more) (named-length length_of path (map (λ (o : OperandText). c.value o.value) args) (function_named f fs))
    ]
callee-length length_of fs c path _ more = sym (zero-add (sum_by (called_length length_of fs) more))

abbrev pieces_length : Pieces → ℕ
pieces_length p = length p.rest + inst_count p.more

both : (a b c d : ℕ) → a ≡ c → b ≡ d → a + b ≡ c + d
both a b c d e f = omega arith

one_line : (n m : ℕ) → suc n + m ≡ 1 + (0 + (n + m))
one_line n m = omega arith

line-length : (length_of : UnitText → ℕ) (copy_of : Copy → List FlatBlockText) → ((d : Copy) → inst_count (copy_of d) ≡ length_of d.unit)
    → (fs : List UnitText) (c : Copy) (l : LineText) (o : Option Copy) (p : Pieces) → pieces_length (with_line copy_of fs c l o p) ≡ 1 + (opened_length length_of o + pieces_length p)
line-length length_of copy_of h fs c l None p = one_line (length p.rest) (inst_count p.more)
line-length length_of copy_of h fs c l (Some d) p =
    ap (λ n. 1 + n)
    (sum_by-append (λ (b : FlatBlockText). length b.lines) (copy_of d) (record { label = d.path; merge = merge_of fs c d l.inst l.result; lines = p.rest } ∷ p.more)
    ∙ both (inst_count (copy_of d)) (inst_count (record { label = d.path; merge = merge_of fs c d l.inst l.result; lines = p.rest } ∷ p.more)) (length_of d.unit) (pieces_length p)
    (h d) (sum_by-cons (λ (b : FlatBlockText). length b.lines) (record { label = d.path; merge = merge_of fs c d l.inst l.result; lines = p.rest }) p.more))

arranged : (x p n s t : ℕ) → p ≡ n + s → t ≡ x + s → 1 + (x + p) ≡ suc n + t
arranged x p n s t e f = omega arith

pieces-length : (length_of : UnitText → ℕ) (copy_of : Copy → List FlatBlockText) → ((d : Copy) → inst_count (copy_of d) ≡ length_of d.unit)
    → (fs : List UnitText) (c : Copy) (label : List ℕ) (k : ℕ) (ls : List LineText)
    → pieces_length (pieces_from copy_of fs c label k ls) ≡ length ls + sum_by (called_length length_of fs) (callees_in ls)
pieces-length length_of copy_of h fs c label k [] = refl
pieces-length length_of copy_of h fs c label k (l ∷ more) =
    line-length length_of copy_of h fs c l (opened fs c (call_path c label k) l.inst) (pieces_from copy_of fs c label (k + 1) more)
    ∙ arranged (opened_length length_of (opened fs c (call_path c label k) l.inst)) (pieces_length (pieces_from copy_of fs c label (k + 1) more)) (length more)
    (sum_by (called_length length_of fs) (callees_in more)) (sum_by (called_length length_of fs) (callee_if l.inst (callees_in more)))
    (pieces-length length_of copy_of h fs c label (k + 1) more)
    (callee-length length_of fs c (call_path c label k) l.inst (callees_in more))

first-length : (c : Copy) (label : List ℕ) (p : Pieces) → inst_count (in_order c label p) ≡ pieces_length p
first-length c label p = sum_by-cons (λ (b : FlatBlockText). length b.lines) (record { label = first_piece c label; merge = None; lines = p.rest }) p.more

blocks-length : (length_of : UnitText → ℕ) (copy_of : Copy → List FlatBlockText) → ((d : Copy) → inst_count (copy_of d) ≡ length_of d.unit) → (fs : List UnitText) (c : Copy) (bs : List BlockText)
    → inst_count (flat_map (flat_block copy_of fs c) bs) ≡ sum_by (block_length length_of fs) bs
blocks-length length_of copy_of h fs c [] = refl
blocks-length length_of copy_of h fs c (b ∷ bs) =
    sum_by-append (λ (x : FlatBlockText). length x.lines) (flat_block copy_of fs c b) (flat_map (flat_block copy_of fs c) bs)
    ∙ both (inst_count (flat_block copy_of fs c b)) (inst_count (flat_map (flat_block copy_of fs c) bs)) (block_length length_of fs b) (sum_by (block_length length_of fs) bs)
    (first-length c (label_or b.label) (pieces_from copy_of fs c (label_or b.label) 0 b.lines) ∙ pieces-length length_of copy_of h fs c (label_or b.label) 0 b.lines)
    (blocks-length length_of copy_of h fs c bs)
    ∙ sym (sum_by-cons (block_length length_of fs) b bs)

pub lengths_add : LengthsAdd
lengths_add zero fs c = refl
lengths_add (suc k) fs c = blocks-length (copy_length k fs) (flat_copy k fs) (λ d. lengths_add k fs d) fs c c.unit.blocks
