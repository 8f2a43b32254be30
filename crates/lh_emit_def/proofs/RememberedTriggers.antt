-- Registers by what the entity remembers of its previous run.
use Rattle.std.proofs.Common.{◌≡◌, ℕ, zero, suc, ◌+◌, Bool, true, false, ◌&&◌, ◌||◌, if◌then◌else◌, List, [], ◌∷◌, ◌++◌, length, map, Some, None, slice_get, unwrap_or, refl, ap, sym, ◌∙◌, subst, arith, length-append, append_assoc, append-nil}
use Rattle.std.specs.Prelude.{fold}
use Rattle.std.specs.List.{list_all, list_any}
use Rattle.lh_types.specs.Wish.{Wish}
use Rattle.lh_types.specs.Same.{and_both}
use Rattle.lh_unit.specs.Held.{as_test}
use Rattle.lh_unit.specs.Pass.{mode_holds, past_of}
use Rattle.lh_unit.specs.Within.{Each}
use Rattle.lh_term.specs.Mean.{Valuation, mean}
use Rattle.lh_emit_def.specs.Given.{TriggerTree, EdgeRowTree}
use Rattle.lh_emit_def.specs.Emitted.{Emitted}
use Rattle.lh_emit_def.specs.Entities.{mode_of, emit_register, row_fits}
use Rattle.lh_emit_def.specs.Registers.{sees, fires, register_drives, register_made, row_seen, triggers_seen}
use Rattle.lh_emit_def.specs.Ways.{RowIsGiven}
use Rattle.lh_emit_def.proofs.PassState.{Frame, HasFewArgs, source, Inv}
use Rattle.lh_emit_def.proofs.RegisterPasses.{v, fires_from, row-emitted}

item-at : (pre more : List Bool) (x : Bool) (k : ℕ) → length pre ≡ k → slice_get (pre ++ x ∷ more) k ≡ Some x
item-at [] more x zero e = refl
item-at [] more x (suc k) e = absurd (omega (arith, e))
item-at (b ∷ pre) more x zero e = absurd (omega (arith, e))
item-at (b ∷ pre) more x (suc k) e = item-at pre more x k (omega (arith, e))

-- as many values are seen whenever
seen-length : (x w : Valuation) (gs : List TriggerTree) → length (map (λ (g : TriggerTree). sees x g.part) gs) ≡ length (map (λ (g : TriggerTree). sees w g.part) gs)
seen-length x w [] = refl
seen-length x w (g ∷ gs) = ap suc (seen-length x w gs)

-- at the first run nothing fires
first-rests : (w : Valuation) (g : TriggerTree) → fires None w g ≡ false
first-rests w g = by g.rise
  where
    by : (b : Bool) → (mode_holds (mode_of b) None (sees w g.part) && unwrap_or (as_test (mean w w g.gate)) false) ≡ false
    by true = refl
    by false = refl

module _ (f : Frame) (few : HasFewArgs f.unit) where
  none-fires : f.memory ≡ None → (gs : List TriggerTree) (seen : List Bool) → fires_from f few seen gs ≡ false
  none-fires e [] seen = refl
  none-fires e (g ∷ gs) seen =
      let a : fires (past_of f.memory seen) (v f few) g ≡ false = ap (λ m. fires (past_of m seen) (v f few) g) e ∙ first-rests (v f few) g in
      let b = none-fires e gs (seen ++ sees (v f few) g.part ∷ []) in
      λ i. a i || b i

  -- by what was seen at the previous run
  fires-by : (past : Valuation) (memory pre post : List Bool) (gs : List TriggerTree) (seen : List Bool) → f.memory ≡ Some memory →
      memory ≡ pre ++ (map (λ (g : TriggerTree). sees past g.part) gs ++ post) → length pre ≡ length seen →
      fires_from f few seen gs ≡ list_any (λ (g : TriggerTree). fires (Some (sees past g.part)) (v f few) g) gs
  fires-by past memory pre post [] seen e m l = refl
  fires-by past memory pre post (g ∷ gs) seen e m l =
      let x = sees past g.part in
      let rest = map (λ (g : TriggerTree). sees past g.part) gs ++ post in
      let p : past_of f.memory seen ≡ Some x = ap (λ o. past_of o seen) (e ∙ ap Some m) ∙ item-at pre rest x (length seen) l in
      let a : fires (past_of f.memory seen) (v f few) g ≡ fires (Some x) (v f few) g = ap (λ o. fires o (v f few) g) p in
      let b = fires-by past memory (pre ++ x ∷ []) post gs (seen ++ sees (v f few) g.part ∷ []) e (m ∙ sym (append_assoc pre (x ∷ []) rest))
      (length-append pre (x ∷ []) ∙ ap (λ n. n + 1) l ∙ sym (length-append seen (sees (v f few) g.part ∷ []))) in
      λ i. a i || b i

  -- ---- rows, one after the other

  -- with a memory
  pub rows-emitted : (past : Valuation) (memory pre : List Bool) (rs : List EdgeRowTree) → f.memory ≡ Some memory → memory ≡ pre ++ triggers_seen past rs →
      Each (RowIsGiven (source f few)) rs → list_all row_fits rs ≡ true → (w : Wish) (ts : List Bool) → length pre ≡ length ts → (e : Emitted) → Inv f few w ts e →
      Inv f few (fold (register_made past (v f few) f.args f.at) w rs) (ts ++ triggers_seen (v f few) rs) (fold (emit_register (source f few)) e rs)
  rows-emitted past memory pre [] m q g c w ts l e inv = subst (λ us. Inv f few w us e) (sym (append-nil ts)) inv
  rows-emitted past memory pre (r ∷ rs) m q g c w ts l e inv =
      let b = and_both (row_fits r) (list_all row_fits rs) c in
      let x = emit_register (source f few) e r in
      let y = fires-by past memory pre (triggers_seen past rs) r.triggers ts m q l in
      let one : Inv f few (register_made past (v f few) f.args f.at w r) (ts ++ row_seen (v f few) r) x =
      subst (λ z. Inv f few (if z then register_drives (v f few) f.args f.at w r else w) (ts ++ row_seen (v f few) r) x) y (row-emitted f few w ts r g.0 b.0 e inv) in
      let k : length (pre ++ row_seen past r) ≡ length (ts ++ row_seen (v f few) r) =
      length-append pre (row_seen past r) ∙ (λ i. l i + seen-length past (v f few) r.triggers i) ∙ sym (length-append ts (row_seen (v f few) r)) in
      let all = rows-emitted past memory (pre ++ row_seen past r) rs m (q ∙ sym (append_assoc pre (row_seen past r) (triggers_seen past rs))) g.1 b.1
      (register_made past (v f few) f.args f.at w r) (ts ++ row_seen (v f few) r) k x one in
      subst (λ us. Inv f few (fold (register_made past (v f few) f.args f.at) w (r ∷ rs)) us (fold (emit_register (source f few)) e (r ∷ rs)))
      (append_assoc ts (row_seen (v f few) r) (triggers_seen (v f few) rs)) all

  -- at the first run
  pub rows-first : f.memory ≡ None → (rs : List EdgeRowTree) → Each (RowIsGiven (source f few)) rs → list_all row_fits rs ≡ true → (w : Wish) (ts : List Bool) (e : Emitted) → Inv f few w ts e →
      Inv f few w (ts ++ triggers_seen (v f few) rs) (fold (emit_register (source f few)) e rs)
  rows-first m [] g c w ts e inv = subst (λ us. Inv f few w us e) (sym (append-nil ts)) inv
  rows-first m (r ∷ rs) g c w ts e inv =
      let b = and_both (row_fits r) (list_all row_fits rs) c in
      let x = emit_register (source f few) e r in
      let one : Inv f few w (ts ++ row_seen (v f few) r) x =
      subst (λ z. Inv f few (if z then register_drives (v f few) f.args f.at w r else w) (ts ++ row_seen (v f few) r) x) (none-fires m r.triggers ts) (row-emitted f few w ts r g.0 b.0 e inv) in
      subst (λ us. Inv f few w us (fold (emit_register (source f few)) e (r ∷ rs))) (append_assoc ts (row_seen (v f few) r) (triggers_seen (v f few) rs))
      (rows-first m rs g.1 b.1 w (ts ++ row_seen (v f few) r) x one)

  -- with any memory
  pub rows-seen : (rs : List EdgeRowTree) → Each (RowIsGiven (source f few)) rs → list_all row_fits rs ≡ true → (w : Wish) (ts : List Bool) (e : Emitted) → Inv f few w ts e →
      (x : Wish) × Inv f few x (ts ++ triggers_seen (v f few) rs) (fold (emit_register (source f few)) e rs)
  rows-seen [] g c w ts e inv = (w, subst (λ us. Inv f few w us e) (sym (append-nil ts)) inv)
  rows-seen (r ∷ rs) g c w ts e inv =
      let b = and_both (row_fits r) (list_all row_fits rs) c in
      let x = emit_register (source f few) e r in
      let l = rows-seen rs g.1 b.1 (if fires_from f few ts r.triggers then register_drives (v f few) f.args f.at w r else w) (ts ++ row_seen (v f few) r) x (row-emitted f few w ts r g.0 b.0 e inv) in
      (l.0, subst (λ us. Inv f few l.0 us (fold (emit_register (source f few)) e (r ∷ rs))) (append_assoc ts (row_seen (v f few) r) (triggers_seen (v f few) rs)) l.1)
