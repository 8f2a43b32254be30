-- The one edge that is taken, and leads to a place that is still to come; and the one end whose condition holds.
use Rattle.std.proofs.Common.{◌≡◌, inl, inr, ⊎_elim, ℕ, List, [], ◌∷◌, ◌++◌, Bool, true, false, refl, ap, sym, ◌∙◌, subst}
use Rattle.std.proofs.lemmas.Bool.{false≢true}
use Rattle.lh_types.specs.declared.part.Range.{Range}
use Rattle.lh_unit.specs.Contents.{UnitText}
use Rattle.lh_unit.specs.Held.{Env}
use Rattle.lh_term.specs.Tree.{Tree}
use Rattle.lh_term.specs.Mean.{Valuation, mean}
use Rattle.lh_region_def.specs.Rows.{RegionEnd}
use Rattle.lh_region_def.specs.Joins.{RegionPlace, RegionEdge}
use Rattle.lh_region_def.specs.Typed.{Among}
use Rattle.lh_region_def.specs.Means.{range_in, KnownIsHeld, is_one}
use Rattle.lh_flat_laws.proofs.Members.{among-left, among-right, among-split}

module _ (u : UnitText) (args : List Range) (past now : Valuation) where
  abbrev pub holds : Tree → Bool
  holds t = is_one (mean past now t)

  abbrev pub knows : RegionEdge → Env → Type 0
  knows e held = KnownIsHeld u (mean past now) (range_in args) e.known held

  -- no edge that is taken leads to one of these places
  abbrev pub NoLive : List RegionPlace → List RegionEdge → Type 0
  NoLive ps es = (e : RegionEdge) → Among e es → holds e.cond ≡ true → Among e.to ps → ⊥

  -- an edge is taken, and each that is taken and leads to one of these places is as this one
  pub record OneLive (ps : List RegionPlace) (es : List RegionEdge) (place : RegionPlace) (from : List ℕ) (held : Env) : Type 0 where
    pub edge : RegionEdge
    pub among : Among edge es
    pub taken : holds edge.cond ≡ true
    pub to : edge.to ≡ place
    pub each : (e : RegionEdge) → Among e es → holds e.cond ≡ true → Among e.to ps → (e.to ≡ place) × (e.from ≡ from) × knows e held

  -- no end's condition holds
  abbrev pub NoEnd : List RegionEnd → Type 0
  NoEnd xs = (x : RegionEnd) → Among x xs → holds x.cond ≡ true → ⊥

  -- that of one end holds
  pub record OneEnd (xs : List RegionEnd) (end : RegionEnd) : Type 0 where
    pub among : Among end xs
    pub holds_there : holds end.cond ≡ true
    pub only : (x : RegionEnd) → Among x xs → holds x.cond ≡ true → x ≡ end

  -- no edge of these is taken
  abbrev pub NoneTaken : List RegionEdge → Type 0
  NoneTaken es = (e : RegionEdge) → Among e es → holds e.cond ≡ true → ⊥

  pub no-live-later : (q : RegionPlace) (ps : List RegionPlace) (es : List RegionEdge) → NoLive (q ∷ ps) es → NoLive ps es
  no-live-later q ps es h e a t b = h e a t (inr b)

  pub no-live-more : (ps : List RegionPlace) (es zs : List RegionEdge) → NoLive ps es → NoneTaken zs → NoLive ps (es ++ zs)
  no-live-more ps es zs h g e a t b = ⊎_elim (λ c. h e c t b) (λ c. g e c t) (among-split e es zs a)

  pub one-live-more : (ps : List RegionPlace) (es zs : List RegionEdge) (place : RegionPlace) (from : List ℕ) (held : Env) → OneLive ps es place from held → NoneTaken zs
      → OneLive ps (es ++ zs) place from held
  one-live-more ps es zs place from held o g = record {
    edge = o.edge;
    among = among-left o.edge es zs o.among;
    taken = o.taken;
    to = o.to;
    each = λ e a t b. ⊎_elim (λ c. o.each e c t b) (λ c. absurd (g e c t)) (among-split e es zs a);
  }

  pub one-live-later : (q : RegionPlace) (ps : List RegionPlace) (es : List RegionEdge) (place : RegionPlace) (from : List ℕ) (held : Env) → OneLive (q ∷ ps) es place from held
      → OneLive ps es place from held
  one-live-later q ps es place from held o = record { edge = o.edge; among = o.among; taken = o.taken; to = o.to; each = λ e a t b. o.each e a t (inr b) }

  -- an edge that is taken is added where none was
  pub new-live : (ps : List RegionPlace) (es : List RegionEdge) (e : RegionEdge) (held : Env) → NoLive ps es → holds e.cond ≡ true → knows e held → OneLive ps (es ++ e ∷ []) e.to e.from held
  new-live ps es e held h t k = record {
    edge = e;
    among = among-right e es (e ∷ []) (inl refl);
    taken = t;
    to = refl;
    each = λ x a y b. ⊎_elim (λ c. absurd (h x c y b)) (λ c. same x c) (among-split x es (e ∷ []) a);
  }
    where
      same : (x : RegionEdge) → Among x (e ∷ []) → (x.to ≡ e.to) × (x.from ≡ e.from) × knows x held
      same x (inl q) = (ap (λ (y : RegionEdge). y.to) (sym q), ap (λ (y : RegionEdge). y.from) (sym q), subst (λ (y : RegionEdge). knows y held) q k)
      same x (inr a) = absurd a

  pub untaken-one : (e : RegionEdge) → holds e.cond ≡ false → NoneTaken (e ∷ [])
  untaken-one e q x (inl z) t = false≢true (sym q ∙ ap (λ (y : RegionEdge). holds y.cond) z ∙ t)
  untaken-one e q x (inr a) t = a

  pub no-end-more : (xs : List RegionEnd) (x : RegionEnd) → NoEnd xs → holds x.cond ≡ false → NoEnd (xs ++ x ∷ [])
  no-end-more xs x h q y a t = ⊎_elim (λ c. h y c t) (λ c. other c) (among-split y xs (x ∷ []) a)
    where
      other : Among y (x ∷ []) → ⊥
      other (inl z) = false≢true (sym q ∙ ap (λ (w : RegionEnd). holds w.cond) z ∙ t)
      other (inr a) = a

  pub one-end-more : (xs zs : List RegionEnd) (end : RegionEnd) → OneEnd xs end → NoEnd zs → OneEnd (xs ++ zs) end
  one-end-more xs zs end o g = record {
    among = among-left end xs zs o.among;
    holds_there = o.holds_there;
    only = λ y a t. ⊎_elim (λ c. o.only y c t) (λ c. absurd (g y c t)) (among-split y xs zs a);
  }

  pub no-ends-more : (xs zs : List RegionEnd) → NoEnd xs → NoEnd zs → NoEnd (xs ++ zs)
  no-ends-more xs zs h g y a t = ⊎_elim (λ c. h y c t) (λ c. g y c t) (among-split y xs zs a)

  pub untaken-end : (x : RegionEnd) → holds x.cond ≡ false → NoEnd (x ∷ [])
  untaken-end x q y (inl z) t = false≢true (sym q ∙ ap (λ (w : RegionEnd). holds w.cond) z ∙ t)
  untaken-end x q y (inr a) t = a

  pub new-end : (xs : List RegionEnd) (x : RegionEnd) → NoEnd xs → holds x.cond ≡ true → OneEnd (xs ++ x ∷ []) x
  new-end xs x h t = record {
    among = among-right x xs (x ∷ []) (inl refl);
    holds_there = t;
    only = λ y a q. ⊎_elim (λ c. absurd (h y c q)) (λ c. same y c) (among-split y xs (x ∷ []) a);
  }
    where
      same : (y : RegionEnd) → Among y (x ∷ []) → y ≡ x
      same y (inl z) = sym z
      same y (inr a) = absurd a
