-- The head by ids is the head of the text.
use Rattle.std.proofs.Common.{◌≡◌, ℕ, zero, suc, ◌+◌, ◌<◌, List, [], ◌∷◌, length, map, Bool, true, false, ◌||◌, nat_eq, if◌then◌else◌, Option, Some, None, unwrap_or, refl, ap, sym, ◌∙◌, subst, arith}
use Rattle.std.specs.List.{list_any}
use Rattle.std.specs.Option.{option_map, option_and_then}
use Rattle.std.proofs.Math.Bool.{or-false}
use Rattle.lh_unit.specs.Contents.{LineText}
use Rattle.lh_unit_names.specs.Names.{same_name}
use Rattle.lh_unit.specs.Places as places
use Rattle.lh_unit.specs.Naming.{Naming, inst_text}
use Rattle.lh_unit.specs.Within.{Each}
use Rattle.lh_unit.specs.declared.inst.BlockId.{BlockId}
use Rattle.lh_unit.specs.declared.inst.Inst.{Inst}
use Rattle.lh_unit.specs.declared.inst.Inst.TheVariants as inst
use Rattle.lh_unit.proofs.Lists.{Same, same, other, same_or, nat_eq-refl, nat_eq-other}
use Rattle.lh_unit_names.proofs.NameLists.{same_name-is, same_name-refl}
use Rattle.lh_flat.specs.Reads.{flat_line_text, flat_blocks_text}
use Rattle.lh_flat.specs.declared.flat.FlatInst.{FlatInst}
use Rattle.lh_flat.specs.declared.flat.FlatBlock.{FlatBlock}
use Rattle.lh_region_def.specs.Places.{block_number}
use Rattle.lh_region_def.specs.Regions as rows
use Rattle.lh_region.specs.Heads.{leads_then, leads_on, leads_to, names, is_named, entry_id, head_if, head_in, LabelsAreWithin, IsNoBranch, BranchIsLast, LabelsDiffer, HeadsAgree}

-- names of labels are one where their numbers are
pub label-same : (f : Naming) (n j k : ℕ) → LabelsDiffer f n → j < n → k < n → same_name (f.label_name j) (f.label_name k) ≡ nat_eq k j
label-same f n j k d l m = by (same_or k j)
  where
    by : Same k j → same_name (f.label_name j) (f.label_name k) ≡ nat_eq k j
    by (same e) = subst (λ (i : ℕ). same_name (f.label_name i) (f.label_name k) ≡ nat_eq k i) e (same_name-refl (f.label_name k) ∙ sym (nat_eq-refl k))
    by (other x) = apart (same_name (f.label_name j) (f.label_name k)) refl ∙ sym (nat_eq-other k j x)
      where
        apart : (b : Bool) → same_name (f.label_name j) (f.label_name k) ≡ b → b ≡ false
        apart false e = refl
        apart true e = absurd (x (sym (d j k l m (same_name-is (f.label_name j) (f.label_name k) e))))

-- ---- where the entry leads

abbrev label_of : Naming → BlockId → List ℕ
label_of f b = f.label_name b.0

by-last : (f : Naming) (i : Inst) → rows.branched_to (inst_text f i) ≡ option_map (label_of f) (leads_then i None)
by-last f (inst.Br to) = refl
by-last f (inst.Ret None) = refl
by-last f (inst.Ret (Some t)) = refl
by-last f _ = refl

by-next : (f : Naming) (i : Inst) (o : Option (List ℕ)) (n : Option BlockId) → IsNoBranch i → o ≡ option_map (label_of f) n
    → (if rows.is_constant (inst_text f i) then o else None) ≡ option_map (label_of f) (leads_then i n)
by-next f (inst.Const v) o n h e = e
by-next f (inst.Br to) o n h e = absurd h
by-next f (inst.Ret None) o n h e = refl
by-next f (inst.Ret (Some t)) o n h e = refl
by-next f _ o n h e = refl

leads-text : (f : Naming) (ls : List FlatInst) → BranchIsLast ls → rows.leads_on (map (flat_line_text f) ls) ≡ option_map (label_of f) (leads_on ls)
leads-text f [] h = refl
leads-text f (l ∷ []) h = by-last f l.inst
leads-text f (l ∷ m ∷ more) h = by-next f l.inst (rows.leads_on (map (flat_line_text f) (m ∷ more))) (leads_on (m ∷ more)) h.0 (leads-text f (m ∷ more) h.1)

-- ---- what leads to the entry

inst-leads : (f : Naming) (n : ℕ) (i : Inst) → LabelsDiffer f n → 0 < n → LabelsAreWithin n i → list_any (same_name (f.label_name 0)) (places.leads_to (inst_text f i)) ≡ leads_to entry_id i
inst-leads f n (inst.Br to) d z h = or-false (same_name (f.label_name 0) (f.label_name to.0)) ∙ label-same f n 0 to.0 d z h
inst-leads f n (inst.Branch cond first second) d z h =
    ap (λ (b : Bool). same_name (f.label_name 0) (f.label_name first.0) || b) (or-false (same_name (f.label_name 0) (f.label_name second.0)))
    ∙ (λ i. label-same f n 0 first.0 d z h.0 i || label-same f n 0 second.0 d z h.1 i)
inst-leads f n (inst.Wait to after signals) d z h = or-false (same_name (f.label_name 0) (f.label_name to.0)) ∙ label-same f n 0 to.0 d z h
inst-leads f n (inst.Ret None) d z h = refl
inst-leads f n (inst.Ret (Some t)) d z h = refl
inst-leads f n _ d z h = refl

lines-lead : (f : Naming) (n : ℕ) (ls : List FlatInst) → LabelsDiffer f n → 0 < n → Each (λ (l : FlatInst). LabelsAreWithin n l.inst) ls
    → list_any (λ (l : LineText). list_any (same_name (f.label_name 0)) (places.leads_to l.inst)) (map (flat_line_text f) ls) ≡ names entry_id ls
lines-lead f n [] d z h = refl
lines-lead f n (l ∷ more) d z h = let a = inst-leads f n l.inst d z h.0 in let b = lines-lead f n more d z h.1 in λ i. a i || b i

blocks-lead : (f : Naming) (n k : ℕ) (bs : List FlatBlock) → LabelsDiffer f n → 0 < n → Each (λ (b : FlatBlock). Each (λ (l : FlatInst). LabelsAreWithin n l.inst) b.insts) bs
    → rows.is_led_to (f.label_name 0) (flat_blocks_text f k bs) ≡ is_named entry_id bs
blocks-lead f n k [] d z h = refl
blocks-lead f n k (b ∷ more) d z h = let a = lines-lead f n b.insts d z h.0 in let c = blocks-lead f n (k + 1) more d z h.1 in λ i. a i || c i

-- ---- the number of a label

pub number-of : (f : Naming) (n j i : ℕ) (bs : List FlatBlock) → LabelsDiffer f n → j + length bs ≡ n → i < length bs → block_number (f.label_name (j + i)) (flat_blocks_text f j bs) ≡ Some i
number-of f n j i [] d e l = absurd (omega arith)
number-of f n j zero (b ∷ more) d e l = ap (λ (x : Bool). if x then Some 0 else option_map (λ (k : ℕ). k + 1) (block_number (f.label_name (j + 0)) (flat_blocks_text f (j + 1) more)))
    (label-same f n j (j + 0) d (omega (arith, e)) (omega (arith, e)) ∙ ap (λ (k : ℕ). nat_eq k j) zero-more ∙ nat_eq-refl j)
  where
    zero-more : j + 0 ≡ j
    zero-more = omega arith
number-of f n j (suc i) (b ∷ more) d e l =
    ap (λ (x : Bool). if x then Some 0 else option_map (λ (k : ℕ). k + 1) (block_number (f.label_name (j + suc i)) (flat_blocks_text f (j + 1) more)))
    (label-same f n j (j + suc i) d (omega (arith, e)) (omega (arith, e)) ∙ nat_eq-other (j + suc i) j (λ x. absurd (omega (arith, x))))
    ∙ ap (λ (k : ℕ). option_map (λ (m : ℕ). m + 1) (block_number (f.label_name k) (flat_blocks_text f (j + 1) more))) shift
    ∙ ap (option_map (λ (m : ℕ). m + 1)) (number-of f n (j + 1) i more d (omega (arith, e)) (omega arith))
    ∙ ap Some one-more
  where
    shift : j + suc i ≡ (j + 1) + i
    shift = omega arith

    one-more : i + 1 ≡ suc i
    one-more = omega arith

-- where instructions lead is a block
pub leads-within : (n : ℕ) (ls : List FlatInst) (b : BlockId) → Each (λ (l : FlatInst). LabelsAreWithin n l.inst) ls → leads_on ls ≡ Some b → b.0 < n
leads-within n [] b h e = cc
leads-within n (l ∷ more) b h e = by l.inst h.0 e (λ x. leads-within n more b h.1 x)
  where
    by : (i : Inst) → LabelsAreWithin n i → leads_then i (leads_on more) ≡ Some b → (leads_on more ≡ Some b → b.0 < n) → b.0 < n
    by (inst.Const v) w x g = g x
    by (inst.Br to) w x g = let k : to ≡ b = cc in subst (λ (y : BlockId). y.0 < n) k w
    by _ w x g = cc

pub heads-agree : HeadsAgree
heads-agree f t d h = by t.blocks refl
  where
    of : (n : ℕ) (entry : FlatBlock) (more : List FlatBlock) → n ≡ length (entry ∷ more) → LabelsDiffer f n
        → Each (λ (b : FlatBlock). Each (λ (l : FlatInst). LabelsAreWithin n l.inst) b.insts) (entry ∷ more) → BranchIsLast entry.insts
        → rows.head_of (flat_blocks_text f 0 (entry ∷ more)) ≡ head_in (entry ∷ more)
    of n entry more e d w last =
        ap (λ (x : Bool). unwrap_or (if x then None else option_and_then (λ (m : List ℕ). block_number m (flat_blocks_text f 0 (entry ∷ more))) (rows.leads_on (map (flat_line_text f) entry.insts))) 0)
        (blocks-lead f n 0 (entry ∷ more) d (omega (arith, e)) w)
        ∙ ap (λ (x : Option (List ℕ)). unwrap_or (if is_named entry_id (entry ∷ more) then None else option_and_then (λ (m : List ℕ). block_number m (flat_blocks_text f 0 (entry ∷ more))) x) 0)
        (leads-text f entry.insts last)
        ∙ pick (is_named entry_id (entry ∷ more)) (leads_on entry.insts) refl
      where
        pick : (x : Bool) (o : Option BlockId) → leads_on entry.insts ≡ o
            → unwrap_or (if x then None else option_and_then (λ (m : List ℕ). block_number m (flat_blocks_text f 0 (entry ∷ more))) (option_map (label_of f) o)) 0 ≡ head_if x o
        pick true o g = refl
        pick false None g = refl
        pick false (Some b) g =
            let l : b.0 < n = leads-within n entry.insts b w.0 g in
            ap (λ (o : Option ℕ). unwrap_or o 0) (ap (λ (k : ℕ). block_number (f.label_name k) (flat_blocks_text f 0 (entry ∷ more))) (sym zero-less)
            ∙ number-of f n 0 b.0 (entry ∷ more) d (zero-length ∙ sym e) (subst (λ (k : ℕ). b.0 < k) e l))
          where
            zero-less : 0 + b.0 ≡ b.0
            zero-less = omega arith

            zero-length : 0 + length (entry ∷ more) ≡ length (entry ∷ more)
            zero-length = omega arith

    by : (bs : List FlatBlock) → t.blocks ≡ bs → rows.head_of (flat_blocks_text f 0 t.blocks) ≡ head_in t.blocks
    by [] e = ap (λ (x : List FlatBlock). rows.head_of (flat_blocks_text f 0 x)) e ∙ ap head_in (sym e)
    by (entry ∷ more) e =
        ap (λ (x : List FlatBlock). rows.head_of (flat_blocks_text f 0 x)) e
        ∙ of (length t.blocks) entry more (ap length e) d (subst (Each (λ (b : FlatBlock). Each (λ (l : FlatInst). LabelsAreWithin (length t.blocks) l.inst) b.insts)) e h.within) (subst
        (Each (λ (b : FlatBlock). BranchIsLast b.insts)) e h.last).0
        ∙ ap head_in (sym e)
