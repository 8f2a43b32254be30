-- The faults of a place by ids are those of its text.
use Rattle.std.proofs.Common.{◌≡◌, ℕ, ◌+◌, ◌<◌, zero, suc, Bool, true, false, not, ◌&&◌, ◌||◌, nat_eq, cond, List, [], ◌∷◌, ◌++◌, length, map, Option, Some, None, slice_get, refl, ap, sym, ◌∙◌, subst}
use Rattle.std.specs.List.{list_any, list_all, fold}
use Rattle.std.proofs.lemmas.List.Folds.{list_any-append}
use Rattle.std.proofs.lemmas.List.{map-append}
use Rattle.lh_unit.specs.Contents.{EdgeText, LineText, BlockText}
use Rattle.lh_unit_names.specs.Names.{same_name}
use Rattle.lh_unit.specs.Named.{label_or}
use Rattle.lh_unit.specs.Places.{has_edge}
use Rattle.lh_unit.specs.Naming.{Naming, inst_text, edge_text, block_text, label_text}
use Rattle.lh_unit.specs.Within.{Each, EdgeWithin}
use Rattle.lh_unit.specs.Table.{Table, HasBlocks, FitsKind, BlocksWithin, is_block, line_at, insts_at, entity_block}
use Rattle.lh_unit.specs.Arena.{Arena, IsArena, InstPlaced, naming, sizes, table_at, kind_at, blocks_at, unit_text_at, unit_count, label_count, label_name_at}
use Rattle.lh_unit.specs.ById.{inst_line_text, place_text, successors}
use Rattle.lh_unit.specs.ById as byid
use Rattle.lh_unit.specs.WellFormed as wf
use Rattle.lh_unit.specs.declared.inst.UnitKind.{UnitKind}
use Rattle.lh_unit.specs.declared.inst.UnitKind.TheVariants as kind
use Rattle.lh_unit.specs.declared.inst.BlockId.{BlockId}
use Rattle.lh_unit.specs.declared.inst.InstId.{InstId}
use Rattle.lh_unit.specs.declared.inst.PhiEdge.{PhiEdge}
use Rattle.lh_unit.specs.declared.inst.Inst.{Inst}
use Rattle.lh_unit.specs.declared.inst.Inst.TheVariants as inst
use Rattle.lh_unit.proofs.Lists.{or_false, some_inj}
use Rattle.lh_unit.proofs.Defined.{label_text-named}
use Rattle.lh_unit.proofs.ById.{same_label-by_id}
use Rattle.lh_unit.proofs.ByIdInsts.{has_edge-by_id}
use Rattle.lh_unit.proofs.ByIdPlaces.{InUnit}
use Rattle.lh_verify.specs.declared.spots.Spot.{Spot}
use Rattle.lh_verify.specs.Spots as spots
use Rattle.lh_verify.specs.PhisById as phis

-- a place by ids, with what the faults of places ask of it
abbrev pub spot_of : Table → byid.InstPlace → Spot
spot_of t s = record { inst = s.inst; block = s.block; in_entry = s.in_entry; after_other = list_any (λ (i : InstId). spots.is_other (line_at t i.0).inst) s.before; last = spots.is_empty s.after }

-- the places of a unit
in-map : (t : Table) (k : ℕ) (e : Bool) (b : BlockId) (before rest : List InstId) (o : Bool) → list_any (λ (i : InstId). spots.is_other (line_at t i.0).inst) before ≡ o
    → map (spot_of t) (byid.inst_places_in k e b before rest) ≡ spots.spots_in t e b o rest
in-map t k e b before [] o q = refl
in-map t k e b before (i ∷ rest) o q =
    let p : list_any (λ (j : InstId). spots.is_other (line_at t j.0).inst) (before ++ i ∷ []) ≡ (o || spots.is_other (line_at t i.0).inst) =
    list_any-append (λ (j : InstId). spots.is_other (line_at t j.0).inst) before (i ∷ []) ∙ ap (λ z. z || (spots.is_other (line_at t i.0).inst || false)) q
    ∙ ap (λ z. o || z) (or_false (spots.is_other (line_at t i.0).inst)) in
    ap (λ z. record { inst = i; block = b; in_entry = e; after_other = z; last = spots.is_empty rest } ∷ map (spot_of t) (byid.inst_places_in (k + 1) e b (before ++ i ∷ []) rest)) q
    ∙ ap (λ l. record { inst = i; block = b; in_entry = e; after_other = o; last = spots.is_empty rest } ∷ l)
    (in-map t (k + 1) e b (before ++ i ∷ []) rest (o || spots.is_other (line_at t i.0).inst) p)

from-map : (t : Table) (k : ℕ) (e : Bool) (bs : List BlockId) → map (spot_of t) (byid.inst_places_from t k e bs) ≡ spots.spots_from t e bs
from-map t k e [] = refl
from-map t k e (b ∷ bs) =
    map-append (spot_of t) (byid.inst_places_in k e b [] (insts_at t b.0)) (byid.inst_places_from t (k + length (insts_at t b.0)) false bs)
    ∙ ap (λ l. l ++ map (spot_of t) (byid.inst_places_from t (k + length (insts_at t b.0)) false bs)) (in-map t k e b [] (insts_at t b.0) false refl)
    ∙ ap (λ l. spots.spots_in t e b false (insts_at t b.0) ++ l) (from-map t (k + length (insts_at t b.0)) false bs)

pub spots-map : (t : Table) → map (spot_of t) (byid.inst_places t) ≡ spots.spots_of t
spots-map t = from-map t 1 true t.blocks

-- no instruction is left, in both
pub empty-is : (g : InstId → LineText) (is : List InstId) → wf.is_empty (map g is) ≡ spots.is_empty is
empty-is g [] = refl
empty-is g (i ∷ is) = refl

-- what is no `phi`
other-is : (f : Naming) (i : Inst) → not (wf.is_phi (inst_text f i)) ≡ spots.is_other i
other-is f (inst.Const d) = refl
other-is f (inst.Pure o args) = refl
other-is f (inst.Var x) = refl
other-is f (inst.Ld x) = refl
other-is f (inst.St to value) = refl
other-is f (inst.Sig x) = refl
other-is f (inst.Prb x) = refl
other-is f (inst.Drv to value after cond) = refl
other-is f (inst.Reg to triggers) = refl
other-is f (inst.Child u inputs outputs) = refl
other-is f (inst.Call u result args) = refl
other-is f (inst.Phi ty edges) = refl
other-is f (inst.Br to) = refl
other-is f (inst.Branch cond first second) = refl
other-is f (inst.Wait to after signals) = refl
other-is f inst.Halt = refl
other-is f (inst.Ret None) = refl
other-is f (inst.Ret (Some x)) = refl

others-are : (f : Naming) (t : Table) (is : List InstId) → list_any (λ (l : LineText). not (wf.is_phi l.inst)) (map (inst_line_text f t) is)
    ≡ list_any (λ (i : InstId). spots.is_other (line_at t i.0).inst) is
others-are f t [] = refl
others-are f t (i ∷ is) = let q : not (wf.is_phi (inst_text f (line_at t i.0).inst)) ≡ spots.is_other (line_at t i.0).inst = other-is f (line_at t i.0).inst in let r = others-are f t is in cc

-- a block that is not the entry has a label
has-blocks : (k : Option UnitKind) (t : Table) (j : ℕ) (b : BlockId) → FitsKind k t → slice_get t.blocks j ≡ Some b → nat_eq j 0 ≡ false → HasBlocks k
has-blocks k t zero b w s e = absurd cc
has-blocks None t (suc j) b w s e = let q : slice_get [] (suc j) ≡ Some b = sym (ap (λ l. slice_get l (suc j)) w.2) ∙ s in absurd cc
has-blocks (Some kind.Func) t (suc j) b w s e = tt
has-blocks (Some kind.Proc) t (suc j) b w s e = tt
has-blocks (Some kind.Entity) t (suc j) b w s e = let q : slice_get (entity_block ∷ []) (suc j) ≡ Some b = sym (ap (λ l. slice_get l (suc j)) w.1) ∙ s in absurd cc

within : (n : ℕ) (bs : List BlockId) (j : ℕ) (b : BlockId) → BlocksWithin n bs → slice_get bs j ≡ Some b → b.0 < n
within n [] j b w s = absurd cc
within n (x ∷ bs) zero b w s = subst (λ (y : BlockId). y.0 < n) (some_inj x b s) w.0
within n (x ∷ bs) (suc j) b w s = within n bs j b w.1 s

blocks-of : (n : ℕ) (k : Option UnitKind) (t : Table) (j : ℕ) (b : BlockId) → n ≡ length t.labels → HasBlocks k → FitsKind k t → slice_get t.blocks j ≡ Some b → b.0 < n
blocks-of n None t j b e h w s = absurd h
blocks-of n (Some kind.Func) t j b e h w s = within n t.blocks j b (subst (λ (m : ℕ). BlocksWithin m t.blocks) (sym e) w.1) s
blocks-of n (Some kind.Proc) t j b e h w s = within n t.blocks j b (subst (λ (m : ℕ). BlocksWithin m t.blocks) (sym e) w.1) s
blocks-of n (Some kind.Entity) t j b e h w s = absurd h

module _ (a : Arena) (u : ℕ) (o : IsArena a) (h : u < unit_count a) (k : HasBlocks (kind_at a u)) where
  -- how many edges name a block
  counts : (b : BlockId) → b.0 < label_count a u → (n : ℕ) (es : List PhiEdge) → Each (EdgeWithin (sizes a u)) es
      → fold (λ (k : ℕ) (x : EdgeText). k + cond (same_name x.block (label_name_at a u b.0)) 1 0) n (map (edge_text (naming a u)) es)
      ≡ fold (λ (k : ℕ) (x : PhiEdge). k + cond (nat_eq x.block.0 b.0) 1 0) n es
  counts b l n [] w = refl
  counts b l n (e ∷ es) w =
      ap (λ c. fold (λ (k : ℕ) (x : EdgeText). k + cond (same_name x.block (label_name_at a u b.0)) 1 0) (n + cond c 1 0) (map (edge_text (naming a u)) es))
      (same_label-by_id a u o h e.block.0 b.0 w.0.1 l)
      ∙ counts b l (n + cond (nat_eq e.block.0 b.0) 1 0) es w.1

  naming-is : (b : BlockId) → b.0 < label_count a u → (es : List PhiEdge) → Each (EdgeWithin (sizes a u)) es → wf.edges_naming (label_name_at a u b.0) (map (edge_text (naming a u)) es)
      ≡ phis.edges_naming b es
  naming-is b l es w = counts b l 0 es w

  -- each predecessor is named once
  once-is : (to : BlockId) → to.0 < label_count a u → (es : List PhiEdge) → Each (EdgeWithin (sizes a u)) es → (bs : List BlockId)
      → ((j : ℕ) (b : BlockId) → slice_get bs j ≡ Some b → (i : ℕ) × (slice_get (blocks_at a u) i ≡ Some b))
      → list_all (λ (b : BlockText). not (has_edge b (label_name_at a u to.0)) || nat_eq (wf.edges_naming (label_or b.label) (map (edge_text (naming a u)) es)) 1)
      (map (block_text (naming a u) (table_at a u)) bs) ≡ list_all (phis.named_once (table_at a u) to es) bs
  once-is to l es w [] g = refl
  once-is to l es w (b ∷ bs) g =
      let p : (i : ℕ) × (slice_get (blocks_at a u) i ≡ Some b) = g 0 b refl in
      let q : has_edge (block_text (naming a u) (table_at a u) b) (label_name_at a u to.0) ≡ is_block (successors (table_at a u) b) to.0 = has_edge-by_id a u o h p.0 b to.0 p.1 l in
      let z : label_text (naming a u) (kind_at a u) b ≡ Some (label_name_at a u b.0) = label_text-named (naming a u) (kind_at a u) b k in
      let y : wf.edges_naming (label_or (label_text (naming a u) (kind_at a u) b)) (map (edge_text (naming a u)) es) ≡ phis.edges_naming b es =
      ap (λ n. wf.edges_naming (label_or n) (map (edge_text (naming a u)) es)) z
      ∙ naming-is b (blocks-of (label_count a u) (kind_at a u) (table_at a u) p.0 b refl k (o.tables u h).fits_kind p.1) es w in
      let r = once-is to l es w bs (λ j c s. g (suc j) c s) in
      λ i. (not (q i) || nat_eq (y i) 1) && r i

  pub preds-are : (to : BlockId) → to.0 < label_count a u → (es : List PhiEdge) → Each (EdgeWithin (sizes a u)) es
      → wf.names_predecessors (unit_text_at a u) (label_or (label_text (naming a u) (kind_at a u) to)) (map (edge_text (naming a u)) es) ≡ phis.names_predecessors (table_at a u) to es (blocks_at a u)
  preds-are to l es w =
      ap (λ n. wf.names_predecessors (unit_text_at a u) (label_or n) (map (edge_text (naming a u)) es)) (label_text-named (naming a u) (kind_at a u) to k)
      ∙ once-is to l es w (blocks_at a u) (λ j b s. (j, s))

-- in the entry a `phi` is wrong anyway
anyway : (a : Bool) (p q : Bool) → ((a || true) || p) ≡ ((a || true) || q)
anyway true p q = refl
anyway false p q = refl

either : (e a b p q : Bool) → a ≡ b → (e ≡ false → p ≡ q) → ((a || e) || not p) ≡ ((b || e) || not q)
either true a b p q x y = ap (λ z. (z || true) || not p) x ∙ anyway b (not p) (not q)
either false a b p q x y = λ i. (x i || false) || not (y refl i)

module _ (a : Arena) (u : ℕ) (o : IsArena a) (h : u < unit_count a) (s : byid.InstPlace) (w : InUnit (table_at a u) s) where
  pub phi-is : (i : Inst) → InstPlaced a u i → wf.phi_is_wrong (unit_text_at a u) (place_text (naming a u) (table_at a u) s) (inst_text (naming a u) i)
      ≡ phis.phi_is_wrong (table_at a u) (spot_of (table_at a u) s) i
  phi-is (inst.Phi ty edges) p =
      either s.in_entry _ _ _ _ (others-are (naming a u) (table_at a u) s.before)
      (λ e. let k : HasBlocks (kind_at a u) = has-blocks (kind_at a u) (table_at a u) w.index s.block (o.tables u h).fits_kind w.stands (sym w.entry ∙ e) in
      preds-are a u o h k s.block (blocks-of (label_count a u) (kind_at a u) (table_at a u) w.index s.block refl k (o.tables u h).fits_kind w.stands) edges p)
  phi-is (inst.Const d) p = refl
  phi-is (inst.Pure op args) p = refl
  phi-is (inst.Var x) p = refl
  phi-is (inst.Ld x) p = refl
  phi-is (inst.St to value) p = refl
  phi-is (inst.Sig x) p = refl
  phi-is (inst.Prb x) p = refl
  phi-is (inst.Drv to value after cond) p = refl
  phi-is (inst.Reg to triggers) p = refl
  phi-is (inst.Child v inputs outputs) p = refl
  phi-is (inst.Call v result args) p = refl
  phi-is (inst.Br to) p = refl
  phi-is (inst.Branch cond first second) p = refl
  phi-is (inst.Wait to after signals) p = refl
  phi-is inst.Halt p = refl
  phi-is (inst.Ret None) p = refl
  phi-is (inst.Ret (Some x)) p = refl
