-- Before the lines of a block what is known is typed, what is there is known, and it is held where the block is entered by the edge that is taken.
use Rattle.std.proofs.Common.{◌≡◌, inl, inr, ℕ, List, [], ◌∷◌, true, Option, Some, None, IsSome, is_some, refl, ap, sym, ◌∙◌, subst}
use Rattle.std.specs.Option.{option_and_then, option_map}
use Rattle.std.proofs.lemmas.Option.{same_Some, none-some}
use Rattle.lh_types.specs.Types.{TypeTree}
use Rattle.lh_types.specs.Values.{Datum}
use Rattle.lh_types.specs.declared.part.Range.{Range}
use Rattle.lh_unit.specs.Contents.{EdgeText, InstText, const_text, phi_text, LineText, BlockText, UnitText, is_result_name}
use Rattle.lh_unit.specs.Hierarchy.{lines_of}
use Rattle.lh_unit.specs.Typing.{value_type, result_type, inst_giving}
use Rattle.lh_eval_laws.proofs.NamedOnce.{IsFirst, giving-lines}
use Rattle.lh_unit.specs.Held.{datum_held, cell_held, part_held, Env, datum_at, with_result}
use Rattle.lh_unit.specs.Activation.{edge_from, result_put, phi_taken, phis_taken}
use Rattle.lh_unit.specs.Within.{Each}
use Rattle.lh_verify_laws.specs.Operands.{IsOf, RowIs}
use Rattle.lh_verify_laws.proofs.EachItem.{edge-is}
use Rattle.lh_eval.specs.Sound.{InstIsSound}
use Rattle.lh_eval_laws.proofs.OperandsFound.{some-of}
use Rattle.lh_term.specs.Tree.{Tree}
use Rattle.lh_term.specs.Mean.{Valuation, IsFitting, mean}
use Rattle.lh_term.specs.declared.part.Part.{Part}
use Rattle.lh_region_def.specs.Known.{Known, known_value, known_cell, known_part, Knowledge, value_known, with_given}
use Rattle.lh_region_def.specs.Joins.{RegionEdge, merged_by, joined, phi_on, with_phi, with_phis, known_at}
use Rattle.lh_region_def.specs.Typed.{Among, KnowsTyped, KnowsThere, IsOfType, PhiKnown, JoinEdge}
use Rattle.lh_region_def.specs.Means.{held_as, KnownIsHeld}
use Rattle.lh_region_def.specs.Right.{PhiGiven, PhisGiven}
use Rattle.lh_region_def.proofs.Sites.{LineGood}
use Rattle.lh_region_def.proofs.MergedValues.{taken}
use Rattle.lh_region_def.proofs.Operations.{datum-shown}
use Rattle.lh_region_def.proofs.KnowledgeChanges.{GivenTyped, given-typed, given-stays, given-known, given-shows, phis-more}
use Rattle.lh_region_def.proofs.PartsNamed.{one-part}
use Rattle.lh_region_def.proofs.JoinedKnowledge.{first-among, GiveEach, given-each, merged-there, merged-of, merged-of-type, merged-by-means, value_on, cell_on, part_on, JoinCase, of_value, of_cell, of_part, join-case, known-by-value, known-by-cell, known-by-part, pointee, join-at, join-conditions, value-type-of, cell-type-of, joined-typed, joined-there}

datum-is : (a b : Datum) → Some (datum_held a) ≡ Some (datum_held b) → a ≡ b
datum-is a b e = cc

cell-is : (a b : Datum) → Some (cell_held a) ≡ Some (cell_held b) → a ≡ b
cell-is a b e = cc

-- the operand of a `phi` on an edge, and its term
record PhiOperand (es : List EdgeText) (e : RegionEdge) (t : Tree) : Type 0 where
  name : List ℕ
  is : edge_from e.from es ≡ Some name
  known : value_known e.known name ≡ Some t

phi-operand : (es : List EdgeText) (e : RegionEdge) (t : Tree) → phi_on es e ≡ Some t → PhiOperand es e t
phi-operand es e t q = by (edge_from e.from es) refl q
  where
    by : (o : Option (List ℕ)) → edge_from e.from es ≡ o → option_and_then (value_known e.known) o ≡ Some t → PhiOperand es e t
    by None p g = absurd (none-some t g)
    by (Some n) p g = record { name = n; is = p; known = g }

-- a line that gives a constant's name is the constant
pub const-line : (u : UnitText) (l : LineText) → IsFirst u.args (lines_of u.blocks) l → (n : List ℕ) (d : Datum) → l.result ≡ Some n → inst_giving n u.blocks ≡ Some (const_text d)
    → l.inst ≡ const_text d
const-line u l f n d r c = same_Some l.inst (const_text d) (sym (giving-lines n u.blocks ∙ (f n r).1) ∙ c)

phi-no-constant : (ty : TypeTree) (es : List EdgeText) (d : Datum) → phi_text ty es ≡ const_text d → ⊥
phi-no-constant ty es d e = cc

module _ (u : UnitText) (b : BlockText) (e0 : RegionEdge) (more : List RegionEdge) (j : Each (JoinEdge u b) (e0 ∷ more)) where
  abbrev es : List RegionEdge
  es = e0 ∷ more

  -- every edge has what the `phi` of these lines ask for
  abbrev pub EachPhi : List LineText → Type 0
  EachPhi ls = (e : RegionEdge) → Among e es → Each (λ (l : LineText). PhiKnown e l.inst) ls

  pub each-phi : EachPhi b.lines
  each-phi e a = (join-at u b e0 more j e a).phis

  phi-term : (ty : TypeTree) (operands : List EdgeText) → ((e : RegionEdge) → Among e es → PhiKnown e (phi_text ty operands)) → (t : Tree) × (merged_by (phi_on operands) es ≡ Some t) × IsOfType ty t
  phi-term ty operands k =
      let m = some-of (merged_by (phi_on operands) es) (merged-there (phi_on operands) e0 more (λ e a. ap is_some (k e a).1)) in
      (m.0, m.1, merged-of-type (phi_on operands) es m.0 ty (join-conditions u b e0 more j) (λ e a t q. subst (IsOfType ty) (same_Some (k e a).0 t (sym (k e a).1 ∙ q)) (k e a).2) m.1)

  record PhisDo (ls : List LineText) (k : Knowledge) : Type 0 where
    typed : KnowsTyped u k
    stays : (n : List ℕ) → IsSome (joined es n) → IsSome (k n)
    phis : PhisGiven k ls

  one-phi : (i : InstText) (l : LineText) → l.inst ≡ i → LineGood u l → ((e : RegionEdge) → Among e es → PhiKnown e i) → (ls : List LineText) (k : Knowledge) → PhisDo ls k
      → KnowsTyped u (with_phi es i l.result k) × ((n : List ℕ) → IsSome (k n) → IsSome (with_phi es i l.result k n)) × PhiGiven (with_phi es i l.result k) i l.result
  one-phi (phi_text ty operands) l q s h ls k d =
      let m = phi-term ty operands h in
      let gives : (n : List ℕ) → l.result ≡ Some n → value_type u n ≡ Some ty = λ n r. s.0.gives n r ∙ ap result_type q in
      let typed : GivenTyped u l.result (known_value m.0) = λ n t r v. (
        (m.2.typed, λ d c. absurd (phi-no-constant ty operands d (sym q ∙ const-line u l s.1 n d r c))),
        m.2.type
            ∙ same_Some ty t (sym (gives n r) ∙ v),
      ) in
      let P : Option Known → Type 0 = λ x. KnowsTyped u (with_given k l.result x) × ((n : List ℕ) → IsSome (k n) → IsSome (with_given k l.result x n))
      × ((n : List ℕ) → is_result_name n l.result ≡ true → IsSome (with_given k l.result x n)) in
      subst P (sym (ap (option_map known_value) m.1)) (
        given-typed u k l.result (known_value m.0) d.typed typed,
        λ n z. given-stays k l.result n (Some (known_value m.0)) z,
        λ n z. given-known k l.result n (known_value m.0) z,
      )
  one-phi _ l q s h ls k d = (d.typed, λ n z. z, tt)

  phis-do : (ls : List LineText) → Each (LineGood u) ls → EachPhi ls → PhisDo ls (with_phis es ls (joined es))
  phis-do [] s h = record { typed = joined-typed u b e0 more j; stays = λ n z. z; phis = tt }
  phis-do (l ∷ ls) s h =
      let d = phis-do ls s.1 (λ e a. (h e a).1) in
      let k = with_phis es ls (joined es) in
      let r = one-phi l.inst l refl s.0 (λ e a. (h e a).0) ls k d in
      record { typed = r.0; stays = λ n z. r.1 n (d.stays n z); phis = (r.2, phis-more k (with_phi es l.inst l.result k) ls r.1 d.phis) }

  module _ (sound : Each (LineGood u) b.lines) where
    all-phis : PhisDo b.lines (known_at es b.lines)
    all-phis = phis-do b.lines sound each-phi

    -- Before the lines of a block what is known is typed.
    pub known-typed-at : KnowsTyped u (known_at es b.lines)
    known-typed-at = all-phis.typed

    pub known-there-at : KnowsThere u b [] (known_at es b.lines)
    known-there-at n t v w h = all-phis.stays n (joined-there u b e0 more j n t v w h)

    pub phis-given-at : PhisGiven (known_at es b.lines) b.lines
    phis-given-at = all-phis.phis

  -- ---- what is held

  module _ (past now : Valuation) (p : IsFitting past) (n : IsFitting now) (r : Part → Range) (from : List ℕ) (held : Env) where
    -- every edge that is taken leaves this block, and what is known on it is held
    abbrev pub TakenShow : Type 0
    TakenShow = (e : RegionEdge) → Among e es → taken past now p n e ≡ true → (e.from ≡ from) × KnownIsHeld u (mean past now) r e.known held

    module _ (x : RegionEdge) (a : Among x es) (t : taken past now p n x ≡ true) (h : TakenShow) where
      value-means : (m : List ℕ) (ty : TypeTree) → value_type u m ≡ Some ty → (e : RegionEdge) → Among e es → taken past now p n e ≡ true → (v : Tree) → value_on m e ≡ Some v
          → held m ≡ Some (datum_held (mean past now v))
      value-means m ty o e b q v g = (h e b q).1 m (known_value v) ty (known-by-value e.known m v g) o

      cell-means : (m : List ℕ) (ty : TypeTree) → value_type u m ≡ Some ty → (e : RegionEdge) → Among e es → taken past now p n e ≡ true → (v : Tree) → cell_on m e ≡ Some v
          → held m ≡ Some (cell_held (mean past now v))
      cell-means m ty o e b q v g = (h e b q).1 m (known_cell v) ty (known-by-cell e.known m v g) o

      -- what x gives among what each gives
      at-edge : {A : Type 0} (f : RegionEdge → Option A) (xs : List RegionEdge) (ys : List A) → GiveEach f xs ys → Among x xs → (y : A) × (f x ≡ Some y)
      at-edge f [] ys g b = absurd b
      at-edge f (z ∷ xs) [] g b = absurd g
      at-edge f (z ∷ xs) (y ∷ ys) g (inl q) = (y, ap f (sym q) ∙ g.0)
      at-edge f (z ∷ xs) (y ∷ ys) g (inr b) = at-edge f xs ys g.1 b

      join-shows-case : (m : List ℕ) (y : Known) (ty : TypeTree) → value_type u m ≡ Some ty → JoinCase es m y → held m ≡ Some (held_as (mean past now) r y)
      join-shows-case m _ ty o (of_value v q) =
          let all = merged-of (value_on m) es v q in
          let z = at-edge (value_on m) es all.trees all.each a in
          let there = value-means m ty o x a t z.0 z.1 in
          let same : mean past now v ≡ mean past now z.0 = merged-by-means past now p n (value_on m) es x a t (join-conditions u b e0 more j) ty (value-type-of u b e0 more j m ty o) (mean past now
          z.0)
          (λ e c g w q. datum-is (mean past now w) (mean past now z.0) (sym (value-means m ty o e c g w q) ∙ there)) v q in
          there ∙ ap (λ d. Some (datum_held d)) (sym same)
      join-shows-case m _ ty o (of_cell v q) =
          let all = merged-of (cell_on m) es v q in
          let z = at-edge (cell_on m) es all.trees all.each a in
          let there = cell-means m ty o x a t z.0 z.1 in
          let same : mean past now v ≡ mean past now z.0 = merged-by-means past now p n (cell_on m) es x a t (join-conditions u b e0 more j) (pointee ty) (cell-type-of u b e0 more j m ty o) (mean past
          now z.0)
          (λ e c g w q. cell-is (mean past now w) (mean past now z.0) (sym (cell-means m ty o e c g w q) ∙ there)) v q in
          there ∙ ap (λ d. Some (cell_held d)) (sym same)
      join-shows-case m _ ty o (of_part y ys q f) =
          let each = given-each (part_on m) es ys q in
          let first = first-among es ys y (part_on m) each f in
          let z = at-edge (part_on m) es ys each a in
          let z-known = known-by-part x.known m z.0 z.1 in
          let y-known = known-by-part first.0.known m y first.2 in
          let same : z.0 ≡ y = one-part u m z.0 y ((join-at u b e0 more j x a).known m (known_part z.0) ty z-known o).0.1 ((join-at u b e0 more j first.0 first.1).known m (known_part y) ty y-known
          o).0.1 in
          (h x a t).1 m (known_part z.0) ty z-known o ∙ ap (λ w. Some (part_held (r w))) same

      joined-shows : KnownIsHeld u (mean past now) r (joined es) held
      joined-shows m y ty q o = join-shows-case m y ty o (join-case es m y q)

      -- the values that the `phi` of some lines take
      record PhisTake (ls : List LineText) (k : Knowledge) : Type 0 where
        to : Env
        is : phis_taken from held ls ≡ Some to
        shows : KnownIsHeld u (mean past now) r k to

      phi-takes : (i : InstText) (l : LineText) → l.inst ≡ i → InstIsSound u l → RowIs u i → ((e : RegionEdge) → Among e es → PhiKnown e i) → (ls : List LineText) (k : Knowledge) → PhisTake ls k
          → (to : Env) × (phi_taken from held i l.result (phis_taken from held ls) ≡ Some to) × KnownIsHeld u (mean past now) r (with_phi es i l.result k) to
      phi-takes (phi_text ty operands) l q s row h' ls k d =
          let m = phi-term ty operands h' in
          let z = h' x a in
          let w = phi-operand operands x z.0 z.1 in
          let o : IsOf u ty w.name = edge-is u ty x.from operands w.name row.1 w.is in
          let value-of : (e : RegionEdge) → Among e es → taken past now p n e ≡ true → (v : Tree) → phi_on operands e ≡ Some v
          → option_and_then (datum_at held) (edge_from from operands) ≡ Some (mean past now v) = λ e c g v k'.
          let y = phi-operand operands e v k' in
          let oy : IsOf u ty y.name = edge-is u ty e.from operands y.name row.1 y.is in
          ap (option_and_then (datum_at held)) (ap (λ f. edge_from f operands) (sym (h e c g).0) ∙ y.is) ∙ datum-shown u (mean past now) r e.known held (h e c g).1 y.name ty v oy y.known in
          let there = value-of x a t z.0 z.1 in
          let same : mean past now m.0 ≡ mean past now z.0 = merged-by-means past now p n (phi_on operands) es x a t (join-conditions u b e0 more j) ty (λ e c v k'. subst (IsOfType ty)
          (same_Some (h' e c).0 v (sym (h' e c).1 ∙ k')) (h' e c).2) (mean past now z.0)
          (λ e c g v k'. same_Some (mean past now v) (mean past now z.0) (sym (value-of e c g v k') ∙ there)) m.0 m.1 in
          let to : Env = with_result d.to l.result (datum_held (mean past now m.0)) in (
            to,
            ap (λ v. result_put l.result v (phis_taken from held ls)) (there ∙ ap Some (sym same)) ∙ ap (result_put l.result (Some (mean past now m.0))) d.is,
            subst (λ y. KnownIsHeld u (mean past now) r (with_given k l.result y) to) (sym (ap (option_map known_value) m.1))
                (given-shows u (mean past now) r k d.to l.result (known_value m.0) d.shows),
          )
      phi-takes _ l q s row h' ls k d = (d.to, d.is, d.shows)

      phis-take : (ls : List LineText) → Each (LineGood u) ls → EachPhi ls → PhisTake ls (with_phis es ls (joined es))
      phis-take [] s g = record { to = held; is = refl; shows = joined-shows }
      phis-take (l ∷ ls) s g =
          let d = phis-take ls s.1 (λ e c. (g e c).1) in
          let z = phi-takes l.inst l refl s.0.0 s.0.0.row (λ e c. (g e c).0) ls (with_phis es ls (joined es)) d in
          record { to = z.0; is = z.1; shows = z.2 }

      -- Where the block is entered by an edge that is taken, what is known before its lines is held.
      pub known-shows-at : Each (LineGood u) b.lines → (to : Env) × (phis_taken from held b.lines ≡ Some to) × KnownIsHeld u (mean past now) r (known_at es b.lines) to
      known-shows-at s = let d = phis-take b.lines s each-phi in (d.to, d.is, d.shows)
