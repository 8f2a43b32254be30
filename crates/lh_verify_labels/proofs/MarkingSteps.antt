-- Marks of labels and of values, step by step.
use Rattle.std.proofs.Common.{◌≡◌, ℕ, ◌+◌, ◌-◌, ◌<◌, ◌≤◌, zero, suc, Bool, true, false, ◌||◌, nat_eq, if◌then◌else◌, List, [], ◌∷◌, ◌++◌, length, map, get_or, set, drop, replicate, Option, Some, None, slice_get, refl, ap, sym, ◌∙◌, subst, arith}
use Rattle.std.specs.List.{list_any}
use Rattle.std.specs.Option.{option_map, option_map_or}
use Rattle.std.proofs.lemmas.Option.{slice_get-get_or, slice_get_within}
use Rattle.std.proofs.Math.ListN.{length-set}
use Rattle.lh_unit.specs.Contents.{defines_label_in, is_result_name}
use Rattle.lh_unit.specs.Kinds as kinds
use Rattle.lh_unit.specs.Naming.{Naming, value_text, inst_text, block_text, label_text}
use Rattle.lh_unit.specs.Within.{Sizes, Each, ValueWithin, InstWithin}
use Rattle.lh_unit.specs.Table.{Table, HasBlocks, FitsKind, BlocksWithin, is_block, is_result}
use Rattle.lh_unit.specs.ById.{inst_making}
use Rattle.lh_unit.specs.WellFormed.{values_named, comes_from_probe, depends_on_probe}
use Rattle.lh_unit.specs.Arena.{Arena, IsArena, naming, sizes, table_at, kind_at, blocks_at, unit_text_at, unit_count, value_count, label_count, label_name_at}
use Rattle.lh_unit.specs.declared.inst.UnitKind.{UnitKind}
use Rattle.lh_unit.specs.declared.inst.UnitKind.TheVariants as kind
use Rattle.lh_unit.specs.declared.inst.ValueId.{ValueId}
use Rattle.lh_unit.specs.declared.inst.BlockId.{BlockId}
use Rattle.lh_unit.specs.declared.inst.Inst.{Inst}
use Rattle.lh_unit.specs.declared.inst.Inst.TheVariants as inst
use Rattle.lh_unit.specs.declared.table.TableLine.{TableLine}
use Rattle.lh_unit.proofs.Lists.{Same, same, other, same_or, nat_eq-refl, nat_eq-other, or_false, or_true, some_inj}
use Rattle.lh_unit.proofs.ById.{defines_label-by_id, inst_giving-by_id}
use Rattle.lh_verify_operands.specs.declared.uses.Use.{Use}
use Rattle.lh_verify_operands.specs.Operands.{UseWithin}
use Rattle.lh_verify_operands.specs.Uses.{use_text, uses_of}
use Rattle.lh_verify_labels.specs.Marking.{BlockMarks, MarksLabels, has_labels, comes_from, Reaches, Advances}
use Rattle.std.proofs.lemmas.List.{drop_more}
use Rattle.lh_verify_operands.proofs.UsesText.{uses-text}
use Rattle.lh_verify_operands.proofs.UsesWithin.{uses-within}
use Rattle.lh_verify_values.proofs.KnowingSteps.{get-set-same, get-set-other, replicate-false, length-replicate}
use Rattle.lh_unit.proofs.Tables.{is_block-push}

pub blocks-none : (n : ℕ) (marks : List Bool) → marks ≡ replicate n false → BlockMarks [] n marks
blocks-none n marks e = record {
  long = ap length e ∙ length-replicate n false;
  marked = λ b x g. replicate-false n b x (sym (ap (λ l. slice_get l b) e) ∙ g);
}

pub blocks-more : (n : ℕ) (bs : List BlockId) (c : BlockId) (marks : List Bool) → BlockMarks bs n marks → c.0 < n → BlockMarks (bs ++ c ∷ []) n (set marks c.0 true)
blocks-more n bs c marks m h = record {
  long = length-set marks c.0 true ∙ m.long;
  marked = λ b x g. by b x (same_or c.0 b) g;
}
  where
    within : c.0 < length marks
    within = omega (arith, h, m.long)

    by : (b : ℕ) (x : Bool) → Same c.0 b → slice_get (set marks c.0 true) b ≡ Some x → x ≡ is_block (bs ++ c ∷ []) b
    by b x (other d) g = m.marked b x (sym (get-set-other marks c.0 b true d) ∙ g) ∙ sym (is_block-push bs c b ∙ ap (λ z. is_block bs b || z) (nat_eq-other c.0 b d) ∙ or_false (is_block bs b))
    by b x (same e) g =
        sym (some_inj true x (sym (get-set-same marks c.0 true within) ∙ ap (slice_get (set marks c.0 true)) e ∙ g))
        ∙ sym (is_block-push bs c b ∙ ap (λ z. is_block bs b || z) (sym (ap (λ u. nat_eq u b) (sym e)) ∙ nat_eq-refl b) ∙ or_true (is_block bs b))

-- where blocks have labels, and where none has
labelled : (k : Option UnitKind) → has_labels k ≡ true → HasBlocks k
labelled None h = cc
labelled (Some kind.Func) h = tt
labelled (Some kind.Proc) h = tt
labelled (Some kind.Entity) h = cc

pub stands-blocks : (a : Arena) (u : ℕ) (marks : List Bool) → IsArena a → u < unit_count a → has_labels (kind_at a u) ≡ true → BlockMarks (blocks_at a u) (label_count a u) marks
    → MarksLabels a u marks
stands-blocks a u marks o h k m = record {
  long = m.long;
  marked = λ b x g. m.marked b x g ∙ sym (defines_label-by_id a u o h b (labelled (kind_at a u) k) (omega (arith, slice_get_within marks b x g, m.long)));
}

no-labels : (f : Naming) (t : Table) (n : List ℕ) (bs : List BlockId) → ((b : BlockId) → label_text f t.kind b ≡ None) → defines_label_in n (map (block_text f t) bs) ≡ false
no-labels f t n [] h = refl
no-labels f t n (b ∷ bs) h = ap (λ o. is_result_name n o || defines_label_in n (map (block_text f t) bs)) (h b) ∙ no-labels f t n bs h

unlabelled : (f : Naming) (t : Table) (n : List ℕ) (k : Option UnitKind) → t.kind ≡ k → FitsKind k t → has_labels k ≡ false → defines_label_in n (map (block_text f t) t.blocks) ≡ false
unlabelled f t n None e w h = ap (λ bs. defines_label_in n (map (block_text f t) bs)) w.2
unlabelled f t n (Some kind.Func) e w h = cc
unlabelled f t n (Some kind.Proc) e w h = cc
unlabelled f t n (Some kind.Entity) e w h = no-labels f t n t.blocks (λ b. ap (λ k. label_text f k b) e)

pub stands-none : (a : Arena) (u : ℕ) (marks : List Bool) → IsArena a → u < unit_count a → has_labels (kind_at a u) ≡ false → marks ≡ replicate (label_count a u) false → MarksLabels a u marks
stands-none a u marks o h k e = record {
  long = ap length e ∙ length-replicate (label_count a u) false;
  marked = λ b x g. replicate-false (label_count a u) b x (sym (ap (λ l. slice_get l b) e) ∙ g)
      ∙ sym (unlabelled (naming a u) (table_at a u) (label_name_at a u b) (kind_at a u) refl (o.tables u h).fits_kind k);
}

-- one round of marks, line by line from the last
pub advance-none : (old marks : List Bool) (n : ℕ) → marks ≡ replicate n false → Advances [] old n marks
advance-none old marks n e = record {
  long = ap length e ∙ length-replicate n false;
  marked = λ v x g. replicate-false n v x (sym (ap (λ l. slice_get l v) e) ∙ g);
}

pub advance-same : (ls : List TableLine) (l : TableLine) (old marks : List Bool) (n : ℕ) → l.result ≡ None → Advances ls old n marks → Advances (l ∷ ls) old n marks
advance-same ls l old marks n r m = record {
  long = m.long;
  marked = λ v x g. m.marked v x g ∙ sym (ap (λ o. option_map_or (comes_from old) (if is_result o v then Some l.inst else inst_making ls v) false) r);
}

pub advance-more : (ls : List TableLine) (l : TableLine) (w : ValueId) (old marks : List Bool) (n : ℕ) (b : Bool) → l.result ≡ Some w → w.0 < n → b ≡ comes_from old l.inst → Advances ls old n marks
    → Advances (l ∷ ls) old n (set marks w.0 b)
advance-more ls l w old marks n b r h c m = record {
  long = length-set marks w.0 b ∙ m.long;
  marked = λ v x g. by v x (same_or w.0 v) g;
}
  where
    within : w.0 < length marks
    within = omega (arith, h, m.long)

    by : (v : ℕ) (x : Bool) → Same w.0 v → slice_get (set marks w.0 b) v ≡ Some x → x ≡ option_map_or (comes_from old) (if is_result l.result v then Some l.inst else inst_making ls v) false
    by v x (other d) g =
        m.marked v x (sym (get-set-other marks w.0 v b d) ∙ g)
        ∙ ap (λ z. option_map_or (comes_from old) (if z then Some l.inst else inst_making ls v) false) (sym (ap (λ o. is_result o v) r ∙ nat_eq-other w.0 v d))
    by v x (same e) g =
        sym (some_inj b x (sym (get-set-same marks w.0 b within) ∙ ap (slice_get (set marks w.0 b)) e ∙ g))
        ∙ c
        ∙ ap (λ z. option_map_or (comes_from old) (if z then Some l.inst else inst_making ls v) false) (sym (ap (λ o. is_result o v) r ∙ ap (λ u. nat_eq u v) e ∙ nat_eq-refl v))

-- marks by ids answer for names
module _ (f : Naming) (s : Sizes) (marks : List Bool) (D : List ℕ → Bool) (tells : (v : ValueId) → ValueWithin s v → D (value_text f v) ≡ get_or marks v.0 false) where
  any-uses : (us : List Use) → Each (UseWithin s) us → list_any D (map (λ (x : kinds.Use). x.value) (map (use_text f) us)) ≡ list_any (λ (x : Use). get_or marks x.value.0 false) us
  any-uses [] h = refl
  any-uses (x ∷ us) h = let r = any-uses us h.1 in let q : D (value_text f x.value) ≡ get_or marks x.value.0 false = tells x.value h.0 in cc

  others : (i : Inst) → InstWithin s i → list_any D (values_named (inst_text f i)) ≡ list_any (λ (x : Use). get_or marks x.value.0 false) (uses_of i)
  others i h = ap (λ l. list_any D (map (λ (x : kinds.Use). x.value) l)) (sym (uses-text f i)) ∙ any-uses (uses_of i) (uses-within s i h)

  comes-text : (i : Inst) → InstWithin s i → comes_from_probe D (inst_text f i) ≡ comes_from marks i
  comes-text (inst.Prb x) h = refl
  comes-text (inst.Const d) h = others (inst.Const d) h
  comes-text (inst.Pure o args) h = others (inst.Pure o args) h
  comes-text (inst.Var x) h = others (inst.Var x) h
  comes-text (inst.Ld x) h = others (inst.Ld x) h
  comes-text (inst.St to value) h = others (inst.St to value) h
  comes-text (inst.Sig x) h = others (inst.Sig x) h
  comes-text (inst.Drv to value after cond) h = others (inst.Drv to value after cond) h
  comes-text (inst.Reg to triggers) h = others (inst.Reg to triggers) h
  comes-text (inst.Child u inputs outputs) h = others (inst.Child u inputs outputs) h
  comes-text (inst.Call u result args) h = others (inst.Call u result args) h
  comes-text (inst.Phi ty edges) h = others (inst.Phi ty edges) h
  comes-text (inst.Br to) h = others (inst.Br to) h
  comes-text (inst.Branch cond first second) h = others (inst.Branch cond first second) h
  comes-text (inst.Wait to after signals) h = others (inst.Wait to after signals) h
  comes-text inst.Halt h = others inst.Halt h
  comes-text (inst.Ret None) h = others (inst.Ret None) h
  comes-text (inst.Ret (Some x)) h = others (inst.Ret (Some x)) h

-- what holds of each instruction holds of the one that gives a value
pub making-has : (P : Inst → Type 0) (ls : List TableLine) → ((j : ℕ) (l : TableLine) → slice_get ls j ≡ Some l → P l.inst) → (v : ℕ) (i : Inst) → inst_making ls v ≡ Some i → P i
making-has P [] h v i e = absurd cc
making-has P (x ∷ ls) h v i e = by (is_result x.result v) e (making-has P ls (λ j l g. h (suc j) l g) v i)
  where
    by : (c : Bool) → (if c then Some x.inst else inst_making ls v) ≡ Some i → (inst_making ls v ≡ Some i → P i) → P i
    by true g r = subst P (some_inj x.inst i g) (h 0 x refl)
    by false g r = r g

pub reach-none : (a : Arena) (u : ℕ) (marks : List Bool) → marks ≡ replicate (value_count a u) false → Reaches a u 0 marks
reach-none a u marks e = record {
  long = ap length e ∙ length-replicate (value_count a u) false;
  marked = λ v x g. replicate-false (value_count a u) v x (sym (ap (λ l. slice_get l v) e) ∙ g);
}

-- a round reaches one instruction further
module _ (a : Arena) (u : ℕ) (o : IsArena a) (h : u < unit_count a) where
  tells : (k : ℕ) (marks : List Bool) → Reaches a u k marks → (v : ValueId) → ValueWithin (sizes a u) v → depends_on_probe k (unit_text_at a u) (value_text (naming a u) v) ≡ get_or marks v.0 false
  tells k marks m v w = sym (m.marked v.0 (get_or marks v.0 false) (slice_get-get_or marks v.0 false (omega (arith, w, m.long))))

  giving : (k : ℕ) (marks : List Bool) (g : Option Inst) → Reaches a u k marks → ((i : Inst) → g ≡ Some i → InstWithin (sizes a u) i)
      → option_map_or (comes_from_probe (depends_on_probe k (unit_text_at a u))) (option_map (inst_text (naming a u)) g) false ≡ option_map_or (comes_from marks) g false
  giving k marks None m p = refl
  giving k marks (Some i) m p = comes-text (naming a u) (sizes a u) marks (depends_on_probe k (unit_text_at a u)) (tells k marks m) i (p i refl)

  pub reach-more : (k : ℕ) (marks next : List Bool) → Reaches a u k marks → Advances (table_at a u).lines marks (value_count a u) next → Reaches a u (suc k) next
  reach-more k marks next m n = record {
    long = n.long;
    marked = λ v x g.
        n.marked v x g
        ∙ sym (giving k marks (inst_making (table_at a u).lines v) m (λ i e. making-has (InstWithin (sizes a u)) (table_at a u).lines (λ j l q. o.placed u j l q) v i e))
        ∙ ap (λ z. option_map_or (comes_from_probe (depends_on_probe k (unit_text_at a u))) z false) (sym (inst_giving-by_id a u o h v (omega (arith, slice_get_within next v x g, n.long))));
  }

  -- where a round adds nothing, no further one does
  pub reach-stays : (d k : ℕ) (marks : List Bool) → Advances (table_at a u).lines marks (value_count a u) marks → Reaches a u k marks → Reaches a u (d + k) marks
  reach-stays zero k marks n m = let e : k ≡ 0 + k = omega arith in subst (λ (j : ℕ). Reaches a u j marks) e m
  reach-stays (suc d) k marks n m = let e : suc (d + k) ≡ suc d + k = omega arith in subst (λ (j : ℕ). Reaches a u j marks) e (reach-more (d + k) marks marks (reach-stays d k marks n m) n)

-- a block at an index has an entry
pub blocks-item : (n : ℕ) (bs : List BlockId) (i : ℕ) (d : BlockId) → BlocksWithin n bs → i < length bs → (get_or bs i d).0 < n
blocks-item n [] i d p h = absurd (omega arith)
blocks-item n (b ∷ bs) zero d p h = p.0
blocks-item n (b ∷ bs) (suc i) d p h = blocks-item n bs i d p.1 (omega arith)

pub drop-before : (ls : List TableLine) (i : ℕ) (d : TableLine) → 0 < i → i ≤ length ls → get_or ls (i - 1) d ∷ drop i ls ≡ drop (i - 1) ls
drop-before ls i d p h = let e : (i - 1) + 1 ≡ i = omega arith in ap (λ k. get_or ls (i - 1) d ∷ drop k ls) (sym e) ∙ sym (drop_more ls (i - 1) d (omega arith))
