-- How many blocks a copy has.
use Rattle.std.proofs.Common.{◌≡◌, ℕ, zero, suc, ◌+◌, ◌<◌, min, List, [], ◌∷◌, ◌++◌, length, sum_by, Option, Some, None, refl, ap, sym, ◌∙◌, arith}
use Rattle.std.specs.List.{flat_map}
use Rattle.std.specs.Option.{option_map_or}
use Rattle.std.proofs.lemmas.List.Sums.{sum_by-cons}
use Rattle.lh_unit_names.specs.declared.name.UnitName.{UnitName}
use Rattle.lh_unit.specs.declared.inst.UnitId.{UnitId}
use Rattle.lh_unit.specs.Contents.{LineText, BlockText, UnitText}
use Rattle.lh_unit.specs.Named.{label_or}
use Rattle.lh_flat.specs.declared.calls.CallNode.{CallNode}
use Rattle.lh_flat.specs.Calls.{callees_in, callees}
use Rattle.lh_flat.specs.Copies.{Copy, call_path, opened}
use Rattle.lh_flat.specs.Flat.{FlatBlockText, Pieces, merge_of, with_line, pieces_from, flat_block, flat_copy}
use Rattle.lh_flat.specs.Lengths.{called_length}
use Rattle.lh_flat.specs.Graph.{max_counted, node_at, callees_at}
use Rattle.lh_flat.proofs.MeasureSums.{blocks_in}
use Rattle.lh_flat.proofs.Lengths.{opened_length, callee-length}
use Rattle.lh_flat.proofs.CallCounts.{StandsFor, capped-named, sum-apart}
use Rattle.lh_verify_laws.proofs.Capped.{both_capped}

-- one more block for each call, and those of the copies
abbrev pub more_blocks : (blocks_of : UnitText → ℕ) → List UnitText → List LineText → ℕ
more_blocks blocks_of fs ls = sum_by (called_length (λ u. 1 + blocks_of u) fs) (callees_in ls)

abbrev pub copy_blocks : (depth : ℕ) → List UnitText → UnitText → ℕ
copy_blocks zero fs u = 0
copy_blocks (suc k) fs u = sum_by (λ (b : BlockText). 1 + more_blocks (copy_blocks k fs) fs b.lines) u.blocks

length-both : {A : Type 0} (xs ys : List A) → length (xs ++ ys) ≡ length xs + length ys
length-both [] ys = zero_first (length ys)
  where
    zero_first : (n : ℕ) → n ≡ 0 + n
    zero_first n = omega arith
length-both (x ∷ xs) ys = ap suc (length-both xs ys) ∙ next (length xs) (length ys)
  where
    next : (m n : ℕ) → suc (m + n) ≡ suc m + n
    next m n = omega arith

line-blocks : (blocks_of : UnitText → ℕ) (copy_of : Copy → List FlatBlockText) → ((d : Copy) → length (copy_of d) ≡ blocks_of d.unit)
    → (fs : List UnitText) (c : Copy) (l : LineText) (o : Option Copy) (p : Pieces) → length (with_line copy_of fs c l o p).more ≡ opened_length (λ u. 1 + blocks_of u) o + length p.more
line-blocks blocks_of copy_of h fs c l None p = zero_first (length p.more)
  where
    zero_first : (n : ℕ) → n ≡ 0 + n
    zero_first n = omega arith
line-blocks blocks_of copy_of h fs c l (Some d) p =
    length-both (copy_of d) (record { label = d.path; merge = merge_of fs c d l.inst l.result; lines = p.rest } ∷ p.more) ∙ ap (λ n. n + suc (length p.more)) (h d)
    ∙ moved (blocks_of d.unit) (length p.more)
  where
    moved : (m n : ℕ) → m + suc n ≡ 1 + m + n
    moved m n = omega arith

pieces-blocks : (blocks_of : UnitText → ℕ) (copy_of : Copy → List FlatBlockText) → ((d : Copy) → length (copy_of d) ≡ blocks_of d.unit)
    → (fs : List UnitText) (c : Copy) (label : List ℕ) (k : ℕ) (ls : List LineText) → length (pieces_from copy_of fs c label k ls).more ≡ more_blocks blocks_of fs ls
pieces-blocks blocks_of copy_of h fs c label k [] = refl
pieces-blocks blocks_of copy_of h fs c label k (l ∷ more) =
    line-blocks blocks_of copy_of h fs c l (opened fs c (call_path c label k) l.inst) (pieces_from copy_of fs c label (k + 1) more)
    ∙ ap (λ n. opened_length (λ u. 1 + blocks_of u) (opened fs c (call_path c label k) l.inst) + n) (pieces-blocks blocks_of copy_of h fs c label (k + 1) more)
    ∙ sym (callee-length (λ u. 1 + blocks_of u) fs c (call_path c label k) l.inst (callees_in more))

units-blocks : (blocks_of : UnitText → ℕ) (copy_of : Copy → List FlatBlockText) → ((d : Copy) → length (copy_of d) ≡ blocks_of d.unit) → (fs : List UnitText) (c : Copy) (bs : List BlockText)
    → length (flat_map (flat_block copy_of fs c) bs) ≡ sum_by (λ (b : BlockText). 1 + more_blocks blocks_of fs b.lines) bs
units-blocks blocks_of copy_of h fs c [] = refl
units-blocks blocks_of copy_of h fs c (b ∷ bs) =
    length-both (flat_block copy_of fs c b) (flat_map (flat_block copy_of fs c) bs)
    ∙ ap (λ n. suc n + length (flat_map (flat_block copy_of fs c) bs)) (pieces-blocks blocks_of copy_of h fs c (label_or b.label) 0 b.lines)
    ∙ ap (λ n. suc (more_blocks blocks_of fs b.lines) + n) (units-blocks blocks_of copy_of h fs c bs)
    ∙ ap (λ n. n + sum_by (λ (x : BlockText). 1 + more_blocks blocks_of fs x.lines) bs) (one_first (more_blocks blocks_of fs b.lines))
    ∙ sym (sum_by-cons (λ (x : BlockText). 1 + more_blocks blocks_of fs x.lines) b bs)
  where
    one_first : (n : ℕ) → suc n ≡ 1 + n
    one_first n = omega arith

pub blocks_add : (depth : ℕ) (fs : List UnitText) (c : Copy) → length (flat_copy depth fs c) ≡ copy_blocks depth fs c.unit
blocks_add zero fs c = refl
blocks_add (suc k) fs c = units-blocks (copy_blocks k fs) (flat_copy k fs) (λ d. blocks_add k fs d) fs c c.unit.blocks

-- each of some counts one more
ones : (F : UnitId → ℕ) (ts : List UnitId) → sum_by (λ t. 1 + F t) ts ≡ length ts + sum_by F ts
ones F [] = refl
ones F (t ∷ ts) = sum_by-cons (λ x. 1 + F x) t ts ∙ ap (λ n. 1 + F t + n) (ones F ts) ∙ moved (F t) (length ts) (sum_by F ts) ∙ ap (λ n. suc (length ts) + n) (sym (sum_by-cons F t ts))
  where
    moved : (a b c : ℕ) → 1 + a + (b + c) ≡ suc b + (a + c)
    moved a b c = omega arith

one_each : (bs : List BlockText) → sum_by (λ (b : BlockText). 1) bs ≡ length bs
one_each [] = refl
one_each (b ∷ bs) = sum_by-cons (λ (x : BlockText). 1) b bs ∙ ap (λ n. 1 + n) (one_each bs) ∙ one_first (length bs)
  where
    one_first : (n : ℕ) → 1 + n ≡ suc n
    one_first n = omega arith

next_capped : (a b e : ℕ) → min a e ≡ min b e → min (1 + a) e ≡ min (1 + b) e
next_capped a b e h = omega arith

regrouped : (a b c x e : ℕ) → min x e ≡ min (a + b) e → min (a + (b + c)) e ≡ min (x + c) e
regrouped a b c x e h = omega arith

module _ (fs : List UnitText) (name : ℕ → UnitName) (text : ℕ → UnitText) (top : ℕ) (g : List CallNode) (o : StandsFor fs name text top g) where
  pub blocks-named : (k u : ℕ) → u < length g → min (copy_blocks k fs (text u)) max_counted ≡ min (blocks_in k g u) max_counted
  blocks-named zero u l = refl
  blocks-named (suc k) u l =
      ap (λ n. min n max_counted) (sum-apart (λ (b : BlockText). 1) (called_length (λ v. 1 + copy_blocks k fs v) fs) (text u).blocks)
      ∙ both_capped (sum_by (λ (b : BlockText). 1) (text u).blocks) (sum_by (called_length (λ v. 1 + copy_blocks k fs v) fs) (callees (text u))) (length (text u).blocks) (length (callees_at g u)
      + sum_by (λ (t : UnitId). blocks_in k g t.0) (callees_at g u)) max_counted
      (ap (λ n. min n max_counted) (one_each (text u).blocks))
      (ap (λ ns. min (sum_by (called_length (λ v. 1 + copy_blocks k fs v) fs) ns) max_counted) (o.callees_are u l)
      ∙ capped-named max_counted name (called_length (λ v. 1 + copy_blocks k fs v) fs) (λ (t : UnitId). 1 + blocks_in k g t.0) (callees_at g u)
      (λ t c. ap (λ f. min (option_map_or (λ v. 1 + copy_blocks k fs v) f 0) max_counted) c.named
      ∙ next_capped (copy_blocks k fs (text t.0)) (blocks_in k g t.0) max_counted (blocks-named k t.0 c.within)) (o.called u l)
      ∙ ap (λ n. min n max_counted) (ones (λ (t : UnitId). blocks_in k g t.0) (callees_at g u)))
      ∙ regrouped (length (text u).blocks) (length (callees_at g u)) (sum_by (λ (t : UnitId). blocks_in k g t.0) (callees_at g u)) (node_at g u).blocks max_counted (o.blocks_are u l)
