-- What a formed flat text is by ids: where its labels lead, its head, and the constants of its entry.
use Rattle.std.proofs.Common.{◌≡◌, ℕ, ◌+◌, ◌<◌, Bool, true, false, ◌||◌, nat_eq, if◌then◌else◌, List, [], ◌∷◌, length, map, Option, Some, None, IsSome, slice_get, refl, ap, sym, ◌∙◌, subst, arith}
use Rattle.std.specs.Option.{option_map, option_map_or, is_some}
use Rattle.lh_types.specs.Types.{TypeTree}
use Rattle.lh_types.specs.Values.{Datum}
use Rattle.lh_unit_names.specs.declared.name.UnitName.{UnitName}
use Rattle.lh_unit.specs.ById.{blocks_named}
use Rattle.lh_unit.specs.Contents.{const_text, LineText, BlockText, UnitText}
use Rattle.lh_unit.specs.Held.{datum_held}
use Rattle.lh_unit.specs.Naming.{Naming, maybe_text, inst_text}
use Rattle.lh_unit.specs.Places.{is_terminator}
use Rattle.lh_unit.specs.Typing.{value_type, result_type}
use Rattle.lh_unit.specs.Within.{Each}
use Rattle.lh_unit.specs.WellFormed.{is_phi as text_is_phi}
use Rattle.lh_unit.specs.declared.inst.BlockId.{BlockId}
use Rattle.lh_unit.specs.declared.inst.ValueId.{ValueId}
use Rattle.lh_unit.specs.declared.inst.Inst.{Inst}
use Rattle.lh_unit.specs.declared.inst.Inst.TheVariants as inst
use Rattle.lh_verify_laws.specs.Shape.{EndsOnce}
use Rattle.lh_eval.specs.Sound.{InstIsSound, IsWrittenRight}
use Rattle.lh_eval.proofs.GivesFit.{constants-fit}
use Rattle.lh_flat.specs.declared.flat.Merge.{Merge}
use Rattle.lh_flat.specs.declared.flat.FlatInst.{FlatInst}
use Rattle.lh_flat.specs.declared.flat.FlatBlock.{FlatBlock}
use Rattle.lh_flat.specs.declared.flat.Flat.{Flat}
use Rattle.lh_flat.specs.Below.{IdsBelow, InstBelow, BlockBelow}
use Rattle.lh_flat.specs.Flat.{MergeText, FlatBlockText, with_merge, flat_unit, as_block}
use Rattle.lh_flat.specs.Reads.{merge_text, flat_line_text, flat_block_text, flat_blocks_text, flat_text}
use Rattle.lh_term.specs.Types.{FitsTerm}
use Rattle.lh_region_def.specs.Regions as rows
use Rattle.lh_region_def.specs.Regions.{lines_at, head_of}
use Rattle.lh_region_def.proofs.KnowledgeChanges.{constant-typed}
use Rattle.lh_region_def.proofs.Sites.{block-lines}
use Rattle.lh_region.specs.Forms.{Names}
use Rattle.lh_region.specs.Heads.{leads_on, is_named, entry_id, head_if, head_in, is_phi, starts_with_phi, begins_with_phi, LabelsAreWithin, IsNoBranch, BranchIsLast, FlatLabelsFit}
use Rattle.lh_region.specs.Starts.{GivesValueWithin, lines_left}
use Rattle.lh_region.proofs.HeadBlock.{heads-agree, leads-within}
use Rattle.lh_region_walk.proofs.Regional.{block-text-at}

-- ---- labels

inst-within : (n : ℕ) (i : Inst) → Each (λ (b : BlockId). b.0 < n) (blocks_named i) → LabelsAreWithin n i
inst-within n (inst.Br to) h = h.0
inst-within n (inst.Branch cond a b) h = (h.0, h.1.0)
inst-within n (inst.Wait to after signals) h = h.0
inst-within n _ h = tt

insts-within : (v n : ℕ) (ls : List FlatInst) → Each (InstBelow v n) ls → Each (λ (l : FlatInst). LabelsAreWithin n l.inst) ls
insts-within v n [] h = tt
insts-within v n (l ∷ ls) h = (inst-within n l.inst h.0.named, insts-within v n ls h.1)

blocks-within : (v n : ℕ) (bs : List FlatBlock) → Each (BlockBelow v n) bs → Each (λ (b : FlatBlock). Each (λ (l : FlatInst). LabelsAreWithin n l.inst) b.insts) bs
blocks-within v n [] h = tt
blocks-within v n (b ∷ bs) h = (insts-within v n b.insts h.0.insts, blocks-within v n bs h.1)

no-branch : (f : Naming) (i : Inst) → is_terminator (inst_text f i) ≡ false → IsNoBranch i
no-branch f (inst.Br to) e = absurd cc
no-branch f _ e = tt

branch-last : (f : Naming) (ls : List FlatInst) → EndsOnce (map (flat_line_text f) ls) → BranchIsLast ls
branch-last f [] h = tt
branch-last f (l ∷ []) h = tt
branch-last f (l ∷ m ∷ more) h = (no-branch f l.inst h.0, branch-last f (m ∷ more) h.1)

-- a merge is no terminator
behind-merge : (f : Naming) (m : Option Merge) (ls : List FlatInst) → EndsOnce (with_merge (option_map (merge_text f) m) (map (flat_line_text f) ls)) → EndsOnce (map (flat_line_text f) ls)
behind-merge f None ls h = h
behind-merge f (Some m) [] h = absurd cc
behind-merge f (Some m) (l ∷ ls) h = h.1

blocks-last : (f : Naming) (k : ℕ) (bs : List FlatBlock) → Each (λ (b : BlockText). EndsOnce b.lines) (map as_block (flat_blocks_text f k bs)) → Each (λ (b : FlatBlock). BranchIsLast b.insts) bs
blocks-last f k [] h = tt
blocks-last f k (b ∷ bs) h = (branch-last f b.insts (behind-merge f b.merge b.insts h.0), blocks-last f (k + 1) bs h.1)

pub has-labels : (f : Naming) (name : UnitName) (t : Flat) → IdsBelow t → Names t f → FlatLabelsFit t
has-labels f name t b n = record {
  within = blocks-within t.values (length t.blocks) t.blocks b.blocks;
  last = blocks-last f 0 t.blocks (n.formed name).ends;
}

-- ---- the head

pub head-is : (f : Naming) (name : UnitName) (t : Flat) → IdsBelow t → Names t f → head_of (flat_text f t).blocks ≡ head_in t.blocks
head-is f name t b n = heads-agree f t n.labels (has-labels f name t b n)

pub head-within : (t : Flat) → IdsBelow t → 0 < length t.blocks → head_in t.blocks < length t.blocks
head-within t b l = by t.blocks refl
  where
    by : (bs : List FlatBlock) → t.blocks ≡ bs → head_in bs < length t.blocks
    by [] e = l
    by (entry ∷ more) e = at (is_named entry_id (entry ∷ more)) (leads_on entry.insts) refl
      where
        at : (x : Bool) (o : Option BlockId) → leads_on entry.insts ≡ o → head_if x o < length t.blocks
        at true o q = l
        at false None q = l
        at false (Some c) q =
            let w = subst (λ (bs : List FlatBlock). Each (λ (b : FlatBlock). Each (λ (l : FlatInst). LabelsAreWithin (length t.blocks) l.inst) b.insts) bs) e
            (blocks-within t.values (length t.blocks) t.blocks b.blocks) in
            leads-within (length t.blocks) entry.insts c w.0 q

some-block : (f : Naming) (bs : List FlatBlock) → (b : BlockText) × (more : List BlockText) × (map as_block (flat_blocks_text f 0 bs) ≡ b ∷ more) → 0 < length bs
some-block f [] h = absurd (let z : [] ≡ h.0 ∷ h.1 = h.2 in cc)
some-block f (b ∷ bs) h = omega arith

pub blocks-there : (f : Naming) (name : UnitName) (t : Flat) → Names t f → 0 < length t.blocks
blocks-there f name t n = some-block f t.blocks (n.formed name).blocks

phi-is : (f : Naming) (i : Inst) → text_is_phi (inst_text f i) ≡ is_phi i
phi-is f (inst.Phi ty edges) = refl
phi-is f (inst.Ret None) = refl
phi-is f (inst.Ret (Some t)) = refl
phi-is f _ = refl

phi-first : (f : Naming) (m : Option Merge) (ls : List FlatInst) → rows.begins_with_phi (with_merge (option_map (merge_text f) m) (map (flat_line_text f) ls)) ≡ (is_some m || starts_with_phi ls)
phi-first f (Some m) ls = refl
phi-first f None [] = refl
phi-first f None (l ∷ ls) = phi-is f l.inst

-- the head begins with a `phi` by ids where it does in the text
pub phi-agrees : (f : Naming) (t : Flat) (k : ℕ) (b : FlatBlock) → slice_get t.blocks k ≡ Some b → rows.begins_with_phi (lines_at (flat_text f t).blocks k) ≡ begins_with_phi b
phi-agrees f t k b e =
    ap (λ (o : Option FlatBlockText). rows.begins_with_phi (option_map_or (λ (b : FlatBlockText). with_merge b.merge b.lines) o [])) (block-text-at f t.blocks k b e)
    ∙ phi-first f b.merge b.insts

-- ---- the constants of the entry

const-fits : (u : UnitText) (l : LineText) (d : Datum) (n : List ℕ) → InstIsSound u l → l.inst ≡ const_text d → l.result ≡ Some n → IsSome (value_type u n) → FitsTerm d
const-fits u l d n s i r g = by (value_type u n) refl g
  where
    by : (o : Option TypeTree) → value_type u n ≡ o → IsSome o → FitsTerm d
    by None q h = absurd cc
    by (Some t) q h =
        let w : IsWrittenRight (const_text d) = subst IsWrittenRight i s.written in
        let k = constants-fit 0 d w (datum_held d) t refl (ap result_type (sym i) ∙ sym (s.gives n r) ∙ q) in
        (constant-typed d t k.0 k.1).0

given-fits : (f : Naming) (u : UnitText) (o : Option ValueId) (i : Inst) → InstIsSound u (flat_line_text f (record { result = o; inst = i }))
    → ((n : List ℕ) → maybe_text f o ≡ Some n → IsSome (value_type u n)) → GivesValueWithin o i
given-fits f u None i s g = tt
given-fits f u (Some v) (inst.Const x) s g = const-fits u (flat_line_text f (record { result = Some v; inst = inst.Const x })) x (f.value_name v.0) s refl refl (g (f.value_name v.0) refl)
given-fits f u (Some v) _ s g = tt

all-fit : (f : Naming) (u : UnitText) (ls : List FlatInst) → Each (InstIsSound u) (map (flat_line_text f) ls)
    → Each (λ (l : LineText). (n : List ℕ) → l.result ≡ Some n → IsSome (value_type u n)) (map (flat_line_text f) ls) → Each (λ (l : FlatInst). GivesValueWithin l.result l.inst) ls
all-fit f u [] s g = tt
all-fit f u (l ∷ ls) s g = (given-fits f u l.result l.inst s.0 g.0, all-fit f u ls s.1 g.1)

each-behind : (P : LineText → Type 0) (m : Option MergeText) (ls : List LineText) → Each P (with_merge m ls) → Each P ls
each-behind P None ls h = h
each-behind P (Some m) ls h = h.1

pub entry-fits : (f : Naming) (name : UnitName) (t : Flat) → Names t f → (head : ℕ) → Each (λ (l : FlatInst). GivesValueWithin l.result l.inst) (lines_left t.blocks head)
entry-fits f name t n head = by t.blocks refl
  where
    u : UnitText
    u = flat_unit name (flat_text f t)

    by : (bs : List FlatBlock) → t.blocks ≡ bs → Each (λ (l : FlatInst). GivesValueWithin l.result l.inst) (lines_left bs head)
    by [] e = tt
    by (entry ∷ more) e = at (nat_eq head 0)
      where
        text : slice_get u.blocks 0 ≡ Some (as_block (flat_block_text f 0 entry))
        text = ap (λ (bs : List FlatBlock). slice_get (map as_block (flat_blocks_text f 0 bs)) 0) e

        fit : Each (λ (l : FlatInst). GivesValueWithin l.result l.inst) entry.insts
        fit = all-fit f u entry.insts
            (each-behind (InstIsSound u) (option_map (merge_text f) entry.merge) (map (flat_line_text f) entry.insts)
            (block-lines (InstIsSound u) u.blocks 0 (as_block (flat_block_text f 0 entry)) (n.formed name).lines text))
            (each-behind (λ (l : LineText). (n : List ℕ) → l.result ≡ Some n → IsSome (value_type u n)) (option_map (merge_text f) entry.merge) (map (flat_line_text f) entry.insts)
            (block-lines (λ (l : LineText). (n : List ℕ) → l.result ≡ Some n → IsSome (value_type u n)) u.blocks 0 (as_block (flat_block_text f 0 entry)) (n.formed name).given text))

        at : (x : Bool) → Each (λ (l : FlatInst). GivesValueWithin l.result l.inst) (if x then [] else entry.insts)
        at true = tt
        at false = fit
