-- What is defined on every path to a place is held there, and each operand is: how this goes on from line to line, and from block to block.
use Rattle.std.proofs.Common.{◌≡◌, ◌⊎◌, inl, inr, ℕ, List, [], ◌∷◌, ◌++◌, Bool, true, false, ◌||◌, if◌then◌else◌, refl, ap, ◌∙◌, Option, Some, None}
use Rattle.std.specs.Option.{option_and_then}
use Rattle.std.proofs.Math.Bool.{or-false}
use Rattle.lh_types.specs.Values.{Datum}
use Rattle.lh_unit.specs.Contents.{EdgeText, InstText, const_text, pure_text, var_text, ld_text, st_text, sig_text, prb_text, drv_text, reg_text, child_text, call_text, phi_text, br_text, branch_text, wait_text, halt_text, ret_text, LineText, BlockText, UnitText, is_result_name, blocks_define, args_define, defines_value}
use Rattle.lh_unit_names.specs.Names.{same_name}
use Rattle.lh_unit.specs.Named.{block_of, label_or}
use Rattle.lh_unit.specs.Held.{Held, datum_held, Env, with_held, datum_at}
use Rattle.lh_unit.specs.Activation.{edge_from, phi_taken, phis_taken}
use Rattle.lh_unit.specs.Places.{InstPlaceText, has_edge}
use Rattle.lh_unit.specs.WellFormed.{Lacks, SomeEdgeLacks, SomeValueLacks}
use Rattle.lh_unit.proofs.Defined.{lines_define-append}

-- a definition that does not stand before a line that gives another value does not stand after it
pub lacks_after : (u : UnitText) (n : List ℕ) (b : BlockText) (before : List LineText) (l : LineText) → is_result_name n l.result ≡ false → Lacks u n b before → Lacks u n b (before ++ l ∷ [])
lacks_after u n b before l e k = record {
  earlier = k.earlier;
  path = k.path;
  not_before = lines_define-append n before (l ∷ []) ∙ ap (λ x. x || (is_result_name n l.result || false)) k.not_before ∙ or-false (is_result_name n l.result) ∙ e;
  not_earlier = k.not_earlier;
}

-- nor at the start of a block to which there is an edge
pub lacks_on_edge : (u : UnitText) (n : List ℕ) (b c : BlockText) → has_edge b (label_or c.label) ≡ true → block_of (label_or c.label) u.blocks ≡ Some c → Lacks u n b b.lines → Lacks u n c []
lacks_on_edge u n b c h e k = record {
  earlier = b ∷ k.earlier;
  path = (h, e, k.path);
  not_before = refl;
  not_earlier = ap (λ x. x || blocks_define n k.earlier) k.not_before ∙ k.not_earlier;
}

-- `fits` is what is asked of what is held under a name
module _ (u : UnitText) (fits : List ℕ → Held → Type 0) (fits_same : (m n : List ℕ) (h : Held) → same_name m n ≡ true → fits m h → fits n h) where
  abbrev pub IsHeld : Env → List ℕ → Type 0
  IsHeld e n = (h : Held) × (e n ≡ Some h) × fits n h

  -- an argument, or defined on every path to the place
  abbrev pub IsDefinedAt : BlockText → List LineText → List ℕ → Type 0
  IsDefinedAt b before n = (args_define n u.args ≡ true) ⊎ (¬ Lacks u n b before)

  abbrev pub HoldsDefined : BlockText → List LineText → Env → Type 0
  HoldsDefined b before e = (n : List ℕ) → defines_value n u ≡ true → IsDefinedAt b before n → IsHeld e n

  -- a value that is put is held, and so is every other
  pub put_held : (e : Env) (r : List ℕ) (h : Held) (n : List ℕ) → fits r h → (same_name r n ≡ false → IsHeld e n) → IsHeld (with_held e r h) n
  put_held e r h n f k = at (same_name r n) refl
    where
      at : (b : Bool) → same_name r n ≡ b → (g : Held) × ((if b then Some h else e n) ≡ Some g) × fits n g
      at true q = (h, refl, fits_same r n h q f)
      at false q = k q

  not_later : (b : BlockText) (before : List LineText) (l : LineText) (n : List ℕ) → is_result_name n l.result ≡ false → IsDefinedAt b (before ++ l ∷ []) n → IsDefinedAt b before n
  not_later b before l n q (inl a) = inl a
  not_later b before l n q (inr d) = inr (λ k. d (lacks_after u n b before l q k))

  -- after a line that gives a value, and after one that gives none
  pub line_keeps : (b : BlockText) (before : List LineText) (l : LineText) (e : Env) (r : List ℕ) (h : Held) → l.result ≡ Some r → fits r h → HoldsDefined b before e
      → HoldsDefined b (before ++ l ∷ []) (with_held e r h)
  line_keeps b before l e r h q f k n v d = put_held e r h n f (λ s. k n v (not_later b before l n (ap (is_result_name n) q ∙ s) d))

  pub bare_keeps : (b : BlockText) (before : List LineText) (l : LineText) (e : Env) → l.result ≡ None → HoldsDefined b before e → HoldsDefined b (before ++ l ∷ []) e
  bare_keeps b before l e q k n v d = k n v (not_later b before l n (ap (is_result_name n) q) d)

  -- over an edge, as long as what `phi` gives fits
  pub edge_keeps : (b c : BlockText) (e : Env) → has_edge b (label_or c.label) ≡ true → block_of (label_or c.label) u.blocks ≡ Some c → HoldsDefined b b.lines e → HoldsDefined c [] e
  edge_keeps b c e h q k n v (inl a) = k n v (inl a)
  edge_keeps b c e h q k n v (inr d) = k n v (inr (λ l. d (lacks_on_edge u n b c h q l)))

  -- the `phi` instructions of these lines find their operands, and what they give fits
  abbrev pub PhiFinds : (from : List ℕ) → Env → InstText → Option (List ℕ) → Type 0
  PhiFinds from before (phi_text ty edges) (Some r) = (d : Datum) × (option_and_then (datum_at before) (edge_from from edges) ≡ Some d) × fits r (datum_held d)
  PhiFinds from before (phi_text ty edges) None = ⊥
  PhiFinds from before i r = Unit {0}

  abbrev pub PhisFind : (from : List ℕ) → Env → List LineText → Type 0
  PhisFind from before [] = Unit {0}
  PhisFind from before (l ∷ more) = PhiFinds from before l.inst l.result × PhisFind from before more

  -- then the edge can be taken, and what was held is held
  pub record Taken (from : List ℕ) (before : Env) (ls : List LineText) : Type 0 where
    pub after : Env
    pub is : phis_taken from before ls ≡ Some after
    pub kept : (n : List ℕ) → IsHeld before n → IsHeld after n

  phi_step : (from : List ℕ) (before : Env) (i : InstText) (r : Option (List ℕ)) (o : Option Env) (after : Env) → o ≡ Some after → ((n : List ℕ) → IsHeld before n → IsHeld after n)
      → PhiFinds from before i r
      → (e : Env) × (phi_taken from before i r o ≡ Some e) × ((n : List ℕ) → IsHeld before n → IsHeld e n)
  phi_step from before (phi_text ty edges) None o after q k f = absurd f
  phi_step from before (phi_text ty edges) (Some r) o after q k f = (with_held after r (datum_held f.0), rw (f.1, q) refl, λ n h. put_held after r (datum_held f.0) n f.2 (λ s. k n h))
  phi_step from before (const_text d) r o after q k f = (after, q, k)
  phi_step from before (pure_text x args) r o after q k f = (after, q, k)
  phi_step from before (var_text x) r o after q k f = (after, q, k)
  phi_step from before (ld_text x) r o after q k f = (after, q, k)
  phi_step from before (st_text to value) r o after q k f = (after, q, k)
  phi_step from before (sig_text x) r o after q k f = (after, q, k)
  phi_step from before (prb_text x) r o after q k f = (after, q, k)
  phi_step from before (drv_text to value later c) r o after q k f = (after, q, k)
  phi_step from before (reg_text to triggers) r o after q k f = (after, q, k)
  phi_step from before (child_text v inputs outputs) r o after q k f = (after, q, k)
  phi_step from before (call_text g ty args) r o after q k f = (after, q, k)
  phi_step from before (br_text to) r o after q k f = (after, q, k)
  phi_step from before (branch_text c first second) r o after q k f = (after, q, k)
  phi_step from before (wait_text to later signals) r o after q k f = (after, q, k)
  phi_step from before halt_text r o after q k f = (after, q, k)
  phi_step from before (ret_text x) r o after q k f = (after, q, k)

  pub phis_are_taken : (from : List ℕ) (before : Env) (ls : List LineText) → PhisFind from before ls → Taken from before ls
  phis_are_taken from before [] f = record { after = before; is = refl; kept = λ n h. h }
  phis_are_taken from before (l ∷ more) f =
      let t : Taken from before more = phis_are_taken from before more f.1 in
      let p = phi_step from before l.inst l.result (phis_taken from before more) t.after t.is t.kept f.0 in
      record { after = p.0; is = p.1; kept = p.2 }

  -- each operand of an instruction without fault 7 is defined at its place
  abbrev pub AllDefined : InstPlaceText → List (List ℕ) → Type 0
  AllDefined p [] = Unit {0}
  AllDefined p (n ∷ more) = IsDefinedAt p.block p.before n × AllDefined p more

  pub uses_are_defined : (p : InstPlaceText) (ns : List (List ℕ)) → ¬ SomeValueLacks u p ns → AllDefined p ns
  uses_are_defined p [] none = tt
  uses_are_defined p (n ∷ more) none = (at (args_define n u.args) refl, uses_are_defined p more (λ k. none (inr k)))
    where
      at : (b : Bool) → args_define n u.args ≡ b → IsDefinedAt p.block p.before n
      at true q = inl q
      at false q = inr (λ l. none (inl (q, l)))

  -- and each operand of a `phi` at the end of its edge's block
  abbrev pub EdgeDefined : (to : List ℕ) → EdgeText → Type 0
  EdgeDefined to e = (last : BlockText) → block_of e.block u.blocks ≡ Some last → has_edge last to ≡ true → IsDefinedAt last last.lines e.value

  abbrev pub AllEdgesDefined : (to : List ℕ) → List EdgeText → Type 0
  AllEdgesDefined to [] = Unit {0}
  AllEdgesDefined to (e ∷ more) = EdgeDefined to e × AllEdgesDefined to more

  pub edges_are_defined : (to : List ℕ) (es : List EdgeText) → ¬ SomeEdgeLacks u to es → AllEdgesDefined to es
  edges_are_defined to [] none = tt
  edges_are_defined to (e ∷ more) none = (λ last named edge. at last named edge (args_define e.value u.args) refl, edges_are_defined to more (λ k. none (inr k)))
    where
      at : (last : BlockText) → block_of e.block u.blocks ≡ Some last → has_edge last to ≡ true → (b : Bool) → args_define e.value u.args ≡ b → IsDefinedAt last last.lines e.value
      at last named edge true q = inl q
      at last named edge false q = inr (λ l. none (inl (q, record { last = last; named = named; edge = edge; lacks = l })))
