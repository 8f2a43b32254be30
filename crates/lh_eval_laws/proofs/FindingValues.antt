-- Without any probe an entity holds each value that comes from no probe.
use Rattle.std.proofs.Common.{◌≡◌, ◌≤◌, ℕ, zero, suc, ◌+◌, List, [], ◌∷◌, length, map, Bool, true, false, ◌||◌, if◌then◌else◌, Option, Some, None, IsSome, refl, ap, sym, ◌∙◌, subst, arith}
use Rattle.std.specs.Option.{option_and_then, option_map, option_map_or}
use Rattle.std.proofs.lemmas.Option.{none-some, same_Some}
use Rattle.lh_time.specs.declared.Instant.{Instant}
use Rattle.lh_types.specs.Types.{TypeTree, signal_type, pointer_type}
use Rattle.lh_types.specs.Values.{Datum}
use Rattle.lh_types.specs.Apply.{apply}
use Rattle.lh_types.specs.Parts.{range_of}
use Rattle.lh_types.specs.declared.op.Op.{Op}
use Rattle.lh_types.specs.declared.op.Op.TheVariants as op
use Rattle.lh_types.specs.declared.part.Range.{Range}
use Rattle.lh_types.specs.declared.part.Step.{Step}
use Rattle.lh_unit.specs.declared.inst.UnitKind.TheVariants as kind
use Rattle.lh_unit.specs.Contents.{OperandText, InstText, const_text, pure_text, var_text, ld_text, st_text, sig_text, prb_text, drv_text, reg_text, child_text, call_text, phi_text, br_text, branch_text, wait_text, halt_text, ret_text, LineText, UnitText, is_result_name}
use Rattle.lh_unit.specs.Typing.{value_type, result_type, signal_of, first_type, or_else}
use Rattle.lh_unit.specs.Kinds.{Use, uses, Need, data_needed, all_used, step_need}
use Rattle.lh_unit.specs.Held.{Held, datum_held, cell_held, part_held, Env, as_datum, datum_at, part_at, data_at, front}
use Rattle.lh_unit.specs.Effects.{within, stepped, signal_part, step_of, operated}
use Rattle.lh_unit.specs.Hierarchy.{lines_of, if_held, static_of, static_from}
use Rattle.lh_unit.specs.Pass.{Passed}
use Rattle.lh_unit.specs.WellFormed.{values_named, comes_from_probe, depends_on_probe, is_allowed}
use Rattle.lh_unit.specs.SpellsInst.{gives_value}
use Rattle.lh_unit.specs.Within.{Each}
use Rattle.lh_unit.proofs.Within.{Each-more}
use Rattle.lh_unit.proofs.Lists.{Each-fails}
use Rattle.lh_verify_laws.specs.Operands.{IsOf, RowIs}
use Rattle.lh_verify_laws.specs.Parts.{HasPart}
use Rattle.lh_verify_laws.specs.KindsOf.{HasTypeOfKind}
use Rattle.lh_eval.specs.Fitting.{IsTypeWithinLimits, FitsHeld, Fits}
use Rattle.lh_eval.specs.Sound.{IsWrittenRight, InstIsSound}
use Rattle.lh_eval.proofs.GivesFit.{operations-fit}
use Rattle.lh_eval.proofs.ValuesFit.{datum-held}
use Rattle.lh_eval_laws.specs.Finding.{FindsInPass}
use Rattle.lh_eval_laws.proofs.NamedOnce.{IsFirst, giving-lines}
use Rattle.lh_eval_laws.proofs.FitLaws.{keeps-fit}
use Rattle.lh_eval_laws.proofs.OperandsFound.{some-of, is-some}
use Rattle.lh_eval_laws.proofs.FindingPass.{KnownNames, known_after, NamesKnown, IsFitLine, SigsHeld, given-stays, given-held, sigs-more, finds-one, passes-stay, unnamed, next-held}
use Rattle.lh_eval_laws.proofs.FindingStatic.{result-is, after, static_after, static-line-fits, static-stays}

-- what fits a data type or a time is a value
pub value-held : (w : ℕ) (h : Held) (t : TypeTree) → IsTypeWithinLimits t → FitsHeld w h t → (d : Datum) × (as_datum h ≡ Some d)
value-held w (datum_held d) t v f = (d, refl)
value-held w (cell_held d) (pointer_type t) v f = absurd v
value-held w (cell_held d) _ v f = absurd f
value-held w (part_held r) (signal_type t) v f = absurd v
value-held w (part_held r) _ v f = absurd f

-- both are there
record Front {A : Type 0} (a : Option A) (b : Option (List A)) : Type 0 where
  first : A
  rest : List A
  is_first : a ≡ Some first
  is_rest : b ≡ Some rest

front-parts : {A : Type 0} (a : Option A) (b : Option (List A)) (ds : List A) → front a b ≡ Some ds → Front a b
front-parts (Some x) (Some xs) ds e = record { first = x; rest = xs; is_first = refl; is_rest = refl }
front-parts (Some x) None ds e = absurd (none-some ds e)
front-parts None b ds e = absurd (none-some ds e)

-- a part of a signal is no value
part-no-datum : (u : UnitText) (e : Env) (o : Op) (os : List OperandText) (x : Held) (d : Datum) → signal_part u e o os ≡ Some x → as_datum x ≡ Some d → ⊥
part-no-datum u e o [] x d g a = none-some x g
part-no-datum u e o (y ∷ z ∷ more) x d g a = none-some x g
part-no-datum u e o (y ∷ []) x d g a = by (value_type u y.value) (part_at e y.value) (step_of o) g
  where
    of-range : (r : Range) (q : Option Range) → option_map (λ z. part_held (within r z)) q ≡ Some x → ⊥
    of-range r None c = none-some x c
    of-range r (Some z) c = none-some d (ap (option_and_then as_datum) c ∙ a)

    by : (ty : Option TypeTree) (q : Option Range) (st : Option Step) → stepped ty q st ≡ Some x → ⊥
    by (Some (signal_type b)) (Some r) (Some s) c = of-range r (range_of b (s ∷ [])) c
    by (Some (signal_type b)) (Some r) None c = none-some x c
    by (Some (signal_type b)) None st c = none-some x c
    by (Some y) q st c = none-some x c
    by None q st c = none-some x c

module _ (u : UnitText) (now : List Bool) (memory : Option (List Bool)) (t : Instant) where
  -- a value that comes from no probe within k steps is held
  abbrev pub FreeValue : ℕ → Env → List ℕ → Type 0
  FreeValue k e n = depends_on_probe k u n ≡ false → (ty : TypeTree) → IsOf u ty n → IsTypeWithinLimits ty → IsSome (e n)

  abbrev pub ValuesHeld : ℕ → KnownNames → Env → Type 0
  ValuesHeld j known e = (n : List ℕ) → known n ≡ true → (k : ℕ) → j ≤ k → FreeValue k e n

  module _ (w : ℕ) (p : Passed) (f : Fits u w p.held) (e : Env) (fe : Fits u w e) (k : ℕ) where
    value-in : (n : List ℕ) (ty : TypeTree) → IsOf u ty n → IsTypeWithinLimits ty → IsSome (e n) → (d : Datum) × (datum_at e n ≡ Some d)
    value-in n ty i v h =
        let x = some-of (e n) h in
        let d = value-held w x.0 ty v (fe n x.0 ty x.1 i) in
        (d.0, ap (option_and_then as_datum) x.1 ∙ d.1)

    -- operands that are values in the pass, and come from no probe, are held
    values-move : (need : Need) (os : List OperandText) (ds : List Datum) → data_at p.held os ≡ Some ds → Each (λ n. depends_on_probe k u n ≡ false) (map (λ (x : Use). x.value) (all_used need os))
        → Each (FreeValue k e) (map (λ (x : Use). x.value) (all_used need os)) → Each (HasTypeOfKind u) (all_used need os) → IsSome (data_at e os)
    values-move need [] ds g a b c = refl
    values-move need (o ∷ os) ds g a b c =
        let q = front-parts (datum_at p.held o.value) (data_at p.held os) ds g in
        let ty : TypeTree = c.0.0 in
        let v = f o.value (datum_held q.first) ty (datum-held (p.held o.value) q.first q.is_first) c.0.2 in
        let d = value-in o.value ty c.0.2 v.0 (b.0 a.0 ty c.0.2 v.0) in
        let more = some-of (data_at e os) (values-move need os q.rest q.is_rest a.1 b.1 c.1) in
        is-some (front (datum_at e o.value) (data_at e os)) (d.0 ∷ more.0) (ap (λ x. front x (data_at e os)) d.1 ∙ ap (front (Some d.0)) more.1)

    operation-moves : (o : Op) (os : List OperandText) (ds : List Datum) → data_at p.held os ≡ Some ds → Each (λ n. depends_on_probe k u n ≡ false) (values_named (pure_text o os))
        → Each (FreeValue k e) (values_named (pure_text o os))
        → Each (HasTypeOfKind u) (uses (pure_text o os)) → IsSome (data_at e os)
    operation-moves (op.Extf n) os ds g a b c = values-move (step_need (first_type os)) os ds g a b c
    operation-moves (op.Exts at len) os ds g a b c = values-move (step_need (first_type os)) os ds g a b c
    operation-moves o os ds g a b c = values-move data_needed os ds g a b c

    operated-moves : (o : Op) (os : List OperandText) (x : Held) (d : Datum) → operated u p.held o os ≡ Some x → as_datum x ≡ Some d
        → Each (λ n. depends_on_probe k u n ≡ false) (values_named (pure_text o os))
        → Each (FreeValue k e) (values_named (pure_text o os)) → Each (HasTypeOfKind u) (uses (pure_text o os)) → IsSome (operated u e o os)
    operated-moves o os x d g v a b c = by (data_at p.held os) refl
      where
        by : (ds : Option (List Datum)) → data_at p.held os ≡ ds → IsSome (operated u e o os)
        by (Some ds) q =
            let es = some-of (data_at e os) (operation-moves o os ds q a b c) in
            is-some (operated u e o os) (datum_held (apply o es.0)) (ap (λ z. or_else (option_map (λ y. datum_held (apply o y)) z) (signal_part u e o os)) es.1)
        by None q =
            let s : signal_part u p.held o os ≡ Some x = sym (ap (λ z. or_else (option_map (λ y. datum_held (apply o y)) z) (signal_part u p.held o os)) q) ∙ g in
            absurd (part-no-datum u p.held o os x d s v)

  -- a `sig` gives a signal
  sig-gives : (a : OperandText) (ty : TypeTree) → RowIs u (sig_text a) → result_type (sig_text a) ≡ Some ty → IsTypeWithinLimits ty → ⊥
  sig-gives a ty row res v =
      let made : option_and_then signal_of a.ty ≡ Some (signal_type row.0) = ap (option_and_then signal_of) row.2.0 ∙ ap (λ b. if b then Some (signal_type row.0) else None) row.1 in
      let same : signal_type row.0 ≡ ty = same_Some (signal_type row.0) ty (sym made ∙ res) in
      let P : TypeTree → Type 0 = IsTypeWithinLimits in subst P (sym same) v

  value-result : (w k : ℕ) (l : LineText) (p : Passed) (e : Env) → Fits u w p.held → Fits u w e → InstIsSound u l → IsFitLine l → IsFirst u.args (lines_of u.blocks) l
      → Each (HasTypeOfKind u) (uses l.inst) → FindsInPass u now t p l.inst
      → Each (FreeValue k e) (values_named l.inst) → (n : List ℕ) → is_result_name n l.result ≡ true → depends_on_probe (suc k) u n ≡ false → (ty : TypeTree) → IsOf u ty n → IsTypeWithinLimits ty
      → IsSome (static_after u now memory t e l n)
  value-result w k l p e f fe s a first c h b n q dep ty i v = at l.inst s.row s.part s.written (sym (s.gives n (result-is l.result n q)) ∙ i) a.0 a.1 c h b from
    where
      from : comes_from_probe (depends_on_probe k u) l.inst ≡ false
      from = sym (ap (λ o. option_map_or (comes_from_probe (depends_on_probe k u)) o false) (giving-lines n u.blocks ∙ (first n (result-is l.result n q)).1)) ∙ dep

      at : (i : InstText) → RowIs u i → HasPart u i → IsWrittenRight i → result_type i ≡ Some ty → is_allowed kind.Entity i ≡ true → ((m : List ℕ) → l.result ≡ Some m → gives_value i ≡ true)
          → Each (HasTypeOfKind u) (uses i) → FindsInPass u now t p i → Each (FreeValue k e) (values_named i) → comes_from_probe (depends_on_probe k u) i ≡ false
          → IsSome (if_held e l.result (static_of u e i) n)
      at (const_text d) row part written res a g c h b from = given-held e l.result n (Some (datum_held d)) refl q
      at (pure_text o os) row part written res a g c h b from =
          let x = some-of (operated u p.held o os) h in
          let d = value-held w x.0 ty v (operations-fit u w p.held o os f row part written x.0 ty x.1 res) in
          given-held e l.result n (operated u e o os) (operated-moves w p f e fe k o os x.0 d.0 x.1 d.1 (Each-fails (depends_on_probe k u) (values_named (pure_text o os)) from) b c) q
      at (prb_text o) row part written res a g c h b from = absurd cc
      at (sig_text o) row part written res a g c h b from = absurd (sig-gives o ty row res v)
      at (drv_text to value later y) row part written res a g c h b from = unnamed u now memory t l.result n g q
      at (reg_text to gs) row part written res a g c h b from = unnamed u now memory t l.result n g q
      at (child_text m inputs outputs) row part written res a g c h b from = unnamed u now memory t l.result n g q
      at (var_text o) row part written res a g c h b from = absurd cc
      at (ld_text o) row part written res a g c h b from = absurd cc
      at (st_text to value) row part written res a g c h b from = absurd cc
      at (call_text m y os) row part written res a g c h b from = absurd cc
      at (phi_text y es) row part written res a g c h b from = absurd cc
      at (br_text to) row part written res a g c h b from = absurd cc
      at (branch_text x y z) row part written res a g c h b from = absurd cc
      at (wait_text to later ss) row part written res a g c h b from = absurd cc
      at halt_text row part written res a g c h b from = absurd cc
      at (ret_text o) row part written res a g c h b from = absurd cc

  -- the operands of each line that come from no probe are held where the unit is at its end
  pub values-found : (most : ℕ) (ls : List LineText) (j : ℕ) (p : Passed) (e : Env) (known : KnownNames) → j + length ls ≤ most → ((n : List ℕ) → known n ≡ true → IsSome (p.held n))
      → Fits u (length now) p.held
      → ValuesHeld j known e → Fits u (length now) e → Each (InstIsSound u) ls → NamesKnown known ls → Each IsFitLine ls → Each (IsFirst u.args (lines_of u.blocks)) ls
      → Each (λ (l : LineText). Each (HasTypeOfKind u) (uses l.inst)) ls
      → SigsHeld p.held ls → Each (λ (l : LineText). Each (FreeValue most (static_from u e ls)) (values_named l.inst)) ls
  values-found most [] j p e known le k f z fe s m a first c g = tt
  values-found most (l ∷ ls) j p e known le k f z fe s m a first c g =
      let here : FindsInPass u now t p l.inst = finds-one u now memory t p f l.inst s.0.row s.0.part (Each-more (λ n. known n ≡ true) (λ n. IsSome (p.held n)) (values_named l.inst) k m.0) in
      let room : j ≤ most = omega (arith, le) in
      let later : j + 1 + length ls ≤ most = omega (arith, le) in (
        Each-more (λ n. known n ≡ true) (FreeValue most (static_from u e (l ∷ ls))) (values_named l.inst) (λ n q d ty i v. static-stays u now memory t (l ∷ ls) e n (z n q most room d ty i v)) m.0,
        values-found most ls (j + 1) (after u now memory t p l) (static_after u now memory t e l) (known_after known l) later (next-held u now memory t l p known k a.0 here g.0)
            (keeps-fit u now memory t p l s.0 f)
            (λ n q i le d ty o v. next n (known n) refl (is_result_name n l.result) refl here q i le d ty o v) (static-line-fits u now memory t (length now) e l s.0 fe) s.1 m.1 a.1 first.1 c.1
            (sigs-more p.held (after u now memory t p l).held ls (λ n h. passes-stay u now memory t l.inst l.result p n h) g.1),
      )
    where
      operands : (k : ℕ) → j ≤ k → Each (FreeValue k e) (values_named l.inst)
      operands k le = Each-more (λ n. known n ≡ true) (FreeValue k e) (values_named l.inst) (λ n q. z n q k le) m.0

      of-result : (n : List ℕ) → is_result_name n l.result ≡ true → FindsInPass u now t p l.inst → (i : ℕ) → j + 1 ≤ i → FreeValue i (static_after u now memory t e l) n
      of-result n q h zero le d ty o v = absurd (omega (arith, le))
      of-result n q h (suc i) le d ty o v = value-result (length now) i l p e f fe s.0 a.0 first.0 c.0 h (operands i (omega (arith, le))) n q d ty o v

      next : (n : List ℕ) (b : Bool) → known n ≡ b → (r : Bool) → is_result_name n l.result ≡ r → FindsInPass u now t p l.inst → (b || r) ≡ true → (i : ℕ) → j + 1 ≤ i
          → FreeValue i (static_after u now memory t e l) n
      next n true x r y h q i le d ty o v = given-stays e l.result n (static_of u e l.inst) (z n x i (omega (arith, le)) d ty o v)
      next n false x true y h q i le d ty o v = of-result n y h i le d ty o v
      next n false x false y h q i le d ty o v = absurd cc
