-- Predecessors of labels, block by block, and what a `phi` asks of them.
use Rattle.std.proofs.Common.{◌≡◌, ℕ, Bool, true, false, not, ◌&&◌, ◌||◌, nat_eq, if◌then◌else◌, List, [], ◌∷◌, ◌++◌, refl, ap, sym, ◌∙◌}
use Rattle.std.proofs.lemmas.List.Elements.{filter-append}
use Rattle.lh_types.specs.Types.{TypeTree}
use Rattle.lh_unit.specs.Table.{Table, is_block}
use Rattle.lh_unit.specs.ById.{successors}
use Rattle.lh_unit.specs.declared.inst.BlockId.{BlockId}
use Rattle.lh_unit.specs.declared.inst.PhiEdge.{PhiEdge}
use Rattle.lh_unit.specs.declared.inst.Inst.{Inst}
use Rattle.lh_unit.specs.declared.inst.Inst.TheVariants as inst
use Rattle.lh_verify.specs.declared.spots.Spot.{Spot}
use Rattle.lh_verify.specs.Counting.{all_named_once}
use Rattle.lh_verify.specs.PhisById.{edges_naming, names_predecessors, phi_is_wrong}
use Rattle.lh_verify.specs.Predecessors.{predecessors_in, IsPredecessors, AddsPredecessor}

-- one more block, which leads where its last instruction does
pub one-more : (t : Table) (bs : List BlockId) (b : BlockId) (n : ℕ) (leads : List BlockId) (old new : List (List BlockId)) → leads ≡ successors t b → IsPredecessors t bs n old
    → AddsPredecessor b leads old new → IsPredecessors t (bs ++ b ∷ []) n new
one-more t bs b n leads old new e p a = record {
  long = a.long ∙ p.long;
  row = λ to.
      a.row to
      ∙ ap (λ l. l ++ (if is_block leads to then b ∷ [] else [])) (p.row to)
      ∙ ap (λ ls. predecessors_in t bs to ++ (if is_block ls to then b ∷ [] else [])) e
      ∙ sym (filter-append (λ (x : BlockId). is_block (successors t x) to) bs (b ∷ []));
}

-- the blocks that are asked of are the predecessors
asked-of : (t : Table) (to : BlockId) (es : List PhiEdge) (bs : List BlockId) → names_predecessors t to es bs ≡ all_named_once es (predecessors_in t bs to.0)
asked-of t to es [] = refl
asked-of t to es (b ∷ bs) = by (is_block (successors t b) to.0) (asked-of t to es bs)
  where
    by : (c : Bool) → names_predecessors t to es bs ≡ all_named_once es (predecessors_in t bs to.0) → ((not c || nat_eq (edges_naming b es) 1) && names_predecessors t to es bs)
        ≡ all_named_once es (if c then b ∷ predecessors_in t bs to.0 else predecessors_in t bs to.0)
    by true r = ap (λ z. nat_eq (edges_naming b es) 1 && z) r
    by false r = r

neither : (a e p : Bool) → a ≡ false → e ≡ false → not p ≡ ((a || e) || not p)
neither true e p x y = absurd cc
neither false true p x y = absurd cc
neither false false p x y = refl

-- a `phi` in front of its block, and not the entry, is wrong where its edges do not name each predecessor once
pub by-counts : (t : Table) (s : Spot) (i : Inst) (ty : TypeTree) (es : List PhiEdge) (b : Bool) → i ≡ inst.Phi ty es → s.after_other ≡ false → s.in_entry ≡ false
    → b ≡ all_named_once es (predecessors_in t t.blocks s.block.0) → not b ≡ phi_is_wrong t s i
by-counts t s i ty es b e p q r =
    ap not (r ∙ sym (asked-of t s.block es t.blocks))
    ∙ neither s.after_other s.in_entry (names_predecessors t s.block es t.blocks) p q
    ∙ ap (phi_is_wrong t s) (sym e)
