-- Where two namings that differ beyond the numbers read a text alike, each id of it is within them.
use Rattle.std.proofs.Common.{◌≡◌, ℕ, ◌+◌, ◌<◌, inl, inr, true, false, nat_lt, if◌then◌else◌, List, [], ◌∷◌, length, get_or, map, Option, Some, None, ap, sym, ◌∙◌, arith}
use Rattle.std.specs.Option.{option_map}
use Rattle.std.proofs.lemmas.Bool.{cases_lt}
use Rattle.std.proofs.lemmas.Grind.{common_steps}
use Rattle.std.proofs.lemmas.List.{get_or_past}
use Rattle.std.proofs.lemmas.Option.{same_Some}
use Rattle.lh_unit.specs.ById.{maybe_id, values_used, blocks_named}
use Rattle.lh_unit.specs.Contents.{EdgeText, LineText}
use Rattle.lh_unit.specs.Naming.{Naming, value_text, maybe_text}
use Rattle.lh_unit.specs.WellFormed.{values_named, labels_named}
use Rattle.lh_unit.specs.Within.{Each}
use Rattle.lh_unit.specs.declared.inst.BlockId.{BlockId}
use Rattle.lh_unit.specs.declared.inst.ValueId.{ValueId}
use Rattle.lh_unit.proofs.ByIdInsts.{values_named-by_id, labels_named-by_id}
use Rattle.lh_flat.specs.declared.flat.MergeEdge.{MergeEdge}
use Rattle.lh_flat.specs.declared.flat.Merge.{Merge}
use Rattle.lh_flat.specs.declared.flat.FlatInst.{FlatInst}
use Rattle.lh_flat.specs.declared.flat.FlatBlock.{FlatBlock}
use Rattle.lh_flat.specs.Flat.{MergeText, FlatBlockText}
use Rattle.lh_flat.specs.Reads.{merge_edge_text, merge_text, flat_line_text, flat_block_text, flat_blocks_text}
use Rattle.lh_flat.specs.Below.{ValuesBelow, InstBelow, EdgeBelow, MaybeBelow, BlockBelow}

-- the same names, and a mark beyond them
abbrev pub name_or_mark : List (List ℕ) → ℕ → List ℕ
name_or_mark xs n = if nat_lt n (length xs) then get_or xs n [] else 256 ∷ []

pub name-inside : (xs : List (List ℕ)) (n : ℕ) → n < length xs → name_or_mark xs n ≡ get_or xs n []
name-inside xs n l = let e : nat_lt n (length xs) ≡ true = grind (arith, common_steps) in ap (λ b. if b then get_or xs n [] else 256 ∷ []) e

empty : ◌≡◌ {A = List ℕ} [] (256 ∷ []) → ⊥
empty q = cc

pub inside : (xs : List (List ℕ)) (n : ℕ) → get_or xs n [] ≡ name_or_mark xs n → n < length xs
inside xs n e = elim (cases_lt n (length xs)) [
  | inl l ↦ l
  | inr l ↦
      let none : get_or xs n [] ≡ [] = get_or_past xs n [] l in
      let out : nat_lt n (length xs) ≡ false = grind (arith, common_steps) in
      absurd (empty (sym none ∙ e ∙ ap (λ b. if b then get_or xs n [] else 256 ∷ []) out))
]

pub head-same : {A : Type 0} (x y : A) (xs ys : List A) → x ∷ xs ≡ y ∷ ys → x ≡ y
head-same x y xs ys e = cc

pub tail-same : {A : Type 0} (x y : A) (xs ys : List A) → x ∷ xs ≡ y ∷ ys → xs ≡ ys
tail-same x y xs ys e = cc

-- from lists that are one to their items
each-same : {A B : Type 0} (f g : A → B) (P : A → Type 0) (xs : List A) → ((x : A) → f x ≡ g x → P x) → map f xs ≡ map g xs → Each P xs
each-same f g P [] h e = tt
each-same f g P (x ∷ xs) h e = (h x (head-same (f x) (g x) (map f xs) (map g xs) e), each-same f g P xs h (tail-same (f x) (g x) (map f xs) (map g xs) e))

module _ (g h : Naming) (n m : ℕ) (values : (v : ℕ) → g.value_name v ≡ h.value_name v → v < n) (blocks : (b : ℕ) → g.label_name b ≡ h.label_name b → b < m) where
  used-below : (vs : List ValueId) → map (value_text g) vs ≡ map (value_text h) vs → ValuesBelow n vs
  used-below vs e = each-same (value_text g) (value_text h) (λ (v : ValueId). v.0 < n) vs (λ v q. values v.0 q) e

  result-below : (v : Option ValueId) → maybe_text g v ≡ maybe_text h v → ValuesBelow n (maybe_id v)
  result-below None e = tt
  result-below (Some v) e = (values v.0 (same_Some (value_text g v) (value_text h v) e), tt)

  inst-below : (i : FlatInst) → flat_line_text g i ≡ flat_line_text h i → InstBelow n m i
  inst-below i e = record {
    result = result-below i.result (ap (λ (l : LineText). l.result) e);
    used = used-below (values_used i.inst) (sym (values_named-by_id g i.inst) ∙ ap (λ (l : LineText). values_named l.inst) e ∙ values_named-by_id h i.inst);
    named = each-same (λ (b : BlockId). g.label_name b.0) (λ (b : BlockId). h.label_name b.0) (λ (b : BlockId). b.0 < m) (blocks_named i.inst) (λ b q. blocks b.0 q)
        (sym (labels_named-by_id g i.inst) ∙ ap (λ (l : LineText). labels_named l.inst) e ∙ labels_named-by_id h i.inst);
  }

  edge-below : (x : MergeEdge) → merge_edge_text g x ≡ merge_edge_text h x → EdgeBelow n m x
  edge-below x e = record { value = values x.value.0 (ap (λ (t : EdgeText). t.value) e); block = blocks x.block.0 (ap (λ (t : EdgeText). t.block) e) }

  merge-below : (x : Option Merge) → option_map (merge_text g) x ≡ option_map (merge_text h) x → MaybeBelow n m x
  merge-below None e = tt
  merge-below (Some x) e =
      let q : merge_text g x ≡ merge_text h x = same_Some (merge_text g x) (merge_text h x) e in
      record {
        value = values x.value.0 (ap (λ (t : MergeText). t.value) q);
        edges = each-same (merge_edge_text g) (merge_edge_text h) (EdgeBelow n m) x.edges edge-below (ap (λ (t : MergeText). t.edges) q);
      }

  block-below : (k : ℕ) (b : FlatBlock) → flat_block_text g k b ≡ flat_block_text h k b → BlockBelow n m b
  block-below k b e = record {
    merge = merge-below b.merge (ap (λ (t : FlatBlockText). t.merge) e);
    insts = each-same (flat_line_text g) (flat_line_text h) (InstBelow n m) b.insts inst-below (ap (λ (t : FlatBlockText). t.lines) e);
  }

  pub blocks-below : (k : ℕ) (bs : List FlatBlock) → flat_blocks_text g k bs ≡ flat_blocks_text h k bs → Each (BlockBelow n m) bs
  blocks-below k [] e = tt
  blocks-below k (b ∷ bs) e = (
    block-below k b (head-same (flat_block_text g k b) (flat_block_text h k b) (flat_blocks_text g (k + 1) bs) (flat_blocks_text h (k + 1) bs) e),
    blocks-below (k + 1) bs (tail-same (flat_block_text g k b) (flat_block_text h k b) (flat_blocks_text g (k + 1) bs) (flat_blocks_text h (k + 1) bs) e),
  )
