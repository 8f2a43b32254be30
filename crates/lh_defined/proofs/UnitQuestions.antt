-- The questions of a unit, place by place, and what their answers mean.
use Rattle.std.proofs.Common.{◌≡◌, inl, inr, ℕ, ◌+◌, Bool, true, false, not, ◌||◌, if◌then◌else◌, List, [], ◌∷◌, ◌++◌, length, map, Option, Some, None, refl, ap, sym, ◌∙◌}
use Rattle.std.proofs.lemmas.List.{map-append}
use Rattle.lh_types.specs.Types.{TypeTree}
use Rattle.lh_verify_flow.specs.declared.flow.Block.{Block}
use Rattle.lh_unit.specs.Contents.{EdgeText, InstText, phi_text, UnitText}
use Rattle.lh_unit.specs.Named.{label_or}
use Rattle.lh_unit.specs.Places.{InstPlaceText}
use Rattle.lh_unit.specs.WellFormed.{SomeEdgeLacks, SomeValueLacks, LacksIn, values_named, is_phi}
use Rattle.lh_unit.specs.Table.{Table, HasBlocks, is_arg, line_at, insts_at, flat}
use Rattle.lh_unit.specs.Within.{Each}
use Rattle.lh_unit.specs.Naming.{Naming, inst_text, kind_text}
use Rattle.lh_unit.specs.ById.{InstPlace, inst_places, inst_places_in, inst_places_from, values_used}
use Rattle.lh_unit.specs.declared.inst.UnitKind.{UnitKind}
use Rattle.lh_unit.specs.declared.inst.UnitKind.TheVariants as kind
use Rattle.lh_unit.specs.declared.inst.BlockId.{BlockId}
use Rattle.lh_unit.specs.declared.inst.InstId.{InstId}
use Rattle.lh_unit.specs.declared.inst.ValueId.{ValueId}
use Rattle.lh_unit.specs.declared.inst.PhiEdge.{PhiEdge}
use Rattle.lh_unit.specs.declared.inst.Inst.{Inst}
use Rattle.lh_unit.specs.declared.inst.Inst.TheVariants as inst
use Rattle.lh_unit.proofs.Lists.{flat-append}
use Rattle.lh_defined.specs.declared.question.Question.{Question}
use Rattle.lh_defined.specs.Lacking.{IsFirst, IsFirstOnEdges, IsFirstIn, ValueLacks, EdgeLacks}
use Rattle.lh_defined.specs.Asking.{is_plain, question, value_questions, edge_questions, leads_from, inst_questions, block_questions, unit_questions}
use Rattle.lh_defined.proofs.Lists.{First, asked}

-- the questions of a place
abbrev pub place_questions : Bool → Table → List Block → InstPlace → List Question
place_questions k t flow s = inst_questions k (is_plain t s.before) (is_arg t.args) flow s.block s.inst (line_at t s.inst.0).inst

block-places : (k : Bool) (t : Table) (flow : List Block) (n : ℕ) (e : Bool) (b : BlockId) (prior rest : List InstId)
    → block_questions k t flow b prior rest ≡ flat (map (place_questions k t flow) (inst_places_in n e b prior rest))
block-places k t flow n e b prior [] = refl
block-places k t flow n e b prior (i ∷ rest) = ap (λ l. inst_questions k (is_plain t prior) (is_arg t.args) flow b i (line_at t i.0).inst ++ l)
    (block-places k t flow (n + 1) e b (prior ++ i ∷ []) rest)

unit-places : (k : Bool) (t : Table) (flow : List Block) (n : ℕ) (e : Bool) (bs : List BlockId) → unit_questions k t flow bs ≡ flat (map (place_questions k t flow) (inst_places_from t n e bs))
unit-places k t flow n e [] = refl
unit-places k t flow n e (b ∷ bs) =
    let first : block_questions k t flow b [] (insts_at t b.0) ≡ flat (map (place_questions k t flow) (inst_places_in n e b [] (insts_at t b.0))) = block-places k t flow n e b [] (insts_at t b.0) in
    let later : unit_questions k t flow bs ≡ flat (map (place_questions k t flow) (inst_places_from t (n + length (insts_at t b.0)) false bs)) =
    unit-places k t flow (n + length (insts_at t b.0)) false bs in
    (λ i. first i ++ later i)
    ∙ sym (flat-append (map (place_questions k t flow) (inst_places_in n e b [] (insts_at t b.0))) (map (place_questions k t flow) (inst_places_from t (n + length (insts_at t b.0)) false bs)))
    ∙ sym (ap flat (map-append (place_questions k t flow) (inst_places_in n e b [] (insts_at t b.0)) (inst_places_from t (n + length (insts_at t b.0)) false bs)))

pub questions-places : (k : Bool) (t : Table) (flow : List Block) → unit_questions k t flow t.blocks ≡ flat (map (place_questions k t flow) (inst_places t))
questions-places k t flow = unit-places k t flow 1 true t.blocks

-- questions are those of items that are not skipped
pub values-asked : (plain : ℕ → Bool) (b : BlockId) (i : InstId) (vs : List ValueId) → value_questions plain b i vs ≡ asked (λ (v : ValueId). plain v.0) (question i b false) vs
values-asked plain b i [] = refl
values-asked plain b i (v ∷ vs) = ap (λ l. if plain v.0 then l else question i b false v ∷ l) (values-asked plain b i vs)

pub edges-asked : (argument : ℕ → Bool) (flow : List Block) (b : BlockId) (i : InstId) (es : List PhiEdge)
    → edge_questions argument flow b i es ≡ asked (λ (e : PhiEdge). argument e.value.0 || not (leads_from flow e.block.0 b.0)) (λ (e : PhiEdge). question i e.block true e.value) es
edges-asked argument flow b i [] = refl
edges-asked argument flow b i (e ∷ es) = ap (λ l. if argument e.value.0 || not (leads_from flow e.block.0 b.0) then l else question i e.block true e.value ∷ l) (edges-asked argument flow b i es)

-- how an instruction is asked
pub data View (i : Inst) : Type 0 where
  by_edges : (ty : TypeTree) (es : List PhiEdge) → i ≡ inst.Phi ty es → View i
  by_values : ((f : Naming) → is_phi (inst_text f i) ≡ false)
      → ((plain argument : ℕ → Bool) (flow : List Block) (b : BlockId) (k : InstId) → inst_questions true plain argument flow b k i ≡ value_questions plain b k (values_used i)) → View i

pub view : (i : Inst) → View i
view (inst.Phi ty es) = by_edges ty es refl
view (inst.Ret None) = by_values (λ f. refl) (λ p g flow b k. refl)
view (inst.Ret (Some t)) = by_values (λ f. refl) (λ p g flow b k. refl)
view _ = by_values (λ f. refl) (λ p g flow b k. refl)

-- what is lacking in a function or process
module _ (u : UnitText) (p : InstPlaceText) where
  pub from-edges : (k : Option UnitKind) → HasBlocks k → (ty : TypeTree) (es : List EdgeText) → LacksIn (kind_text k) u p (phi_text ty es) → SomeEdgeLacks u (label_or p.block.label) es
  from-edges None h ty es l = absurd h
  from-edges (Some kind.Func) h ty es l = l
  from-edges (Some kind.Proc) h ty es l = l
  from-edges (Some kind.Entity) h ty es l = absurd h

  pub to-edges : (k : Option UnitKind) → HasBlocks k → (ty : TypeTree) (es : List EdgeText) → SomeEdgeLacks u (label_or p.block.label) es → LacksIn (kind_text k) u p (phi_text ty es)
  to-edges None h ty es l = absurd h
  to-edges (Some kind.Func) h ty es l = l
  to-edges (Some kind.Proc) h ty es l = l
  to-edges (Some kind.Entity) h ty es l = absurd h

  pub first-edges : (k : Option UnitKind) → HasBlocks k → (ty : TypeTree) (es : List EdgeText) (n : List ℕ) → IsFirstOnEdges u (label_or p.block.label) es n
      → IsFirstIn (kind_text k) u p (phi_text ty es) n
  first-edges None h ty es n l = absurd h
  first-edges (Some kind.Func) h ty es n l = l
  first-edges (Some kind.Proc) h ty es n l = l
  first-edges (Some kind.Entity) h ty es n l = absurd h

  pub from-values : (k : Option UnitKind) → HasBlocks k → (i : InstText) → is_phi i ≡ false → LacksIn (kind_text k) u p i → SomeValueLacks u p (values_named i)
  from-values None h i e l = absurd h
  from-values (Some kind.Entity) h i e l = absurd h
  from-values (Some kind.Func) h (phi_text ty es) e l = cc
  from-values (Some kind.Func) h _ e l = l
  from-values (Some kind.Proc) h (phi_text ty es) e l = cc
  from-values (Some kind.Proc) h _ e l = l

  pub to-values : (k : Option UnitKind) → HasBlocks k → (i : InstText) → is_phi i ≡ false → SomeValueLacks u p (values_named i) → LacksIn (kind_text k) u p i
  to-values None h i e l = absurd h
  to-values (Some kind.Entity) h i e l = absurd h
  to-values (Some kind.Func) h (phi_text ty es) e l = cc
  to-values (Some kind.Func) h _ e l = l
  to-values (Some kind.Proc) h (phi_text ty es) e l = cc
  to-values (Some kind.Proc) h _ e l = l

  pub first-values : (k : Option UnitKind) → HasBlocks k → (i : InstText) (n : List ℕ) → is_phi i ≡ false → IsFirst (ValueLacks u p) (values_named i) n → IsFirstIn (kind_text k) u p i n
  first-values None h i n e l = absurd h
  first-values (Some kind.Entity) h i n e l = absurd h
  first-values (Some kind.Func) h (phi_text ty es) n e l = cc
  first-values (Some kind.Func) h _ n e l = l
  first-values (Some kind.Proc) h (phi_text ty es) n e l = cc
  first-values (Some kind.Proc) h _ n e l = l

  -- none of them, or the first
  pub no-value : (ns : List (List ℕ)) → Each (λ n. ¬ ValueLacks u p n) ns → SomeValueLacks u p ns → ⊥
  no-value [] w l = l
  no-value (n ∷ ns) w (inl l) = w.0 l
  no-value (n ∷ ns) w (inr l) = no-value ns w.1 l

  pub some-value : (ns : List (List ℕ)) (n : List ℕ) → First (λ m. ¬ ValueLacks u p m) (ValueLacks u p) ns n → SomeValueLacks u p ns
  some-value [] n f = f
  some-value (m ∷ ns) n (inl f) = inl f.1
  some-value (m ∷ ns) n (inr f) = inr (some-value ns n f.1)

  pub no-edge : (to : List ℕ) (es : List EdgeText) → Each (λ e. ¬ EdgeLacks u to e) es → SomeEdgeLacks u to es → ⊥
  no-edge to [] w l = l
  no-edge to (e ∷ es) w (inl l) = w.0 l
  no-edge to (e ∷ es) w (inr l) = no-edge to es w.1 l

  pub some-edge : (to : List ℕ) (es : List EdgeText) (e : EdgeText) → First (λ x. ¬ EdgeLacks u to x) (EdgeLacks u to) es e → SomeEdgeLacks u to es
  some-edge to [] e f = f
  some-edge to (x ∷ es) e (inl f) = inl f.1
  some-edge to (x ∷ es) e (inr f) = inr (some-edge to es e f.1)
