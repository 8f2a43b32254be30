-- Steps of loops over the items of a list.
use Rattle.std.proofs.Common.{◌≡◌, ℕ, ◌+◌, ◌<◌, List, [], ◌∷◌, ◌++◌, length, map, drop, get_or, Some, None, refl, ap, sym, ◌∙◌, append_assoc}
use Rattle.std.proofs.lemmas.List.{drop_more}
use Rattle.lh_unit.specs.declared.inst.BlockId.{BlockId}
use Rattle.lh_unit.specs.declared.inst.Inst.{Inst}
use Rattle.lh_unit.specs.declared.inst.Inst.TheVariants as inst
use Rattle.lh_flat.specs.declared.flat.MergeEdge.{MergeEdge}
use Rattle.lh_flat.specs.declared.rename.Renaming.{Renaming}
use Rattle.lh_flat.specs.Building.{edge_given}

-- what is made of the items, one after another
pub mapped-next : {A B : Type 0} (f : A → B) (to new : List B) (xs : List A) (k : ℕ) (d : A) (x : B) → k < length xs → new ≡ to ++ x ∷ [] → x ≡ f (get_or xs k d)
    → to ++ map f (drop k xs) ≡ map f xs → new ++ map f (drop (k + 1) xs) ≡ map f xs
mapped-next f to new xs k d x h e g o =
    ap (λ ys. ys ++ map f (drop (k + 1) xs)) (e ∙ ap (λ y. to ++ y ∷ []) g) ∙ append_assoc to (f (get_or xs k d) ∷ []) (map f (drop (k + 1) xs))
    ∙ ap (λ ys. to ++ map f ys) (sym (drop_more xs k d h)) ∙ o

-- what an instruction gives back comes first
pub edge-first : (r : Renaming) (b : BlockId) (i : Inst) (more : List MergeEdge) → edge_given r b i more ≡ edge_given r b i [] ++ more
edge-first r b (inst.Const v) more = refl
edge-first r b (inst.Pure op args) more = refl
edge-first r b (inst.Var t) more = refl
edge-first r b (inst.Ld t) more = refl
edge-first r b (inst.St to value) more = refl
edge-first r b (inst.Sig t) more = refl
edge-first r b (inst.Prb t) more = refl
edge-first r b (inst.Drv to value after cond) more = refl
edge-first r b (inst.Reg to triggers) more = refl
edge-first r b (inst.Child unit inputs outputs) more = refl
edge-first r b (inst.Call unit ty args) more = refl
edge-first r b (inst.Phi ty edges) more = refl
edge-first r b (inst.Br to) more = refl
edge-first r b (inst.Branch cond zero one) more = refl
edge-first r b (inst.Wait to after signals) more = refl
edge-first r b inst.Halt more = refl
edge-first r b (inst.Ret None) more = refl
edge-first r b (inst.Ret (Some o)) more = refl
