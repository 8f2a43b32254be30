-- A turn and all turns: what each place passes, a turn passes, and what each turn passes, all of them.
use Rattle.std.proofs.Common.{◌≡◌, ◌⊎◌, inl, inr, ℕ, zero, suc, ◌+◌, ◌-◌, ◌<◌, ◌≤◌, List, [], ◌∷◌, length, true, ◌&&◌, refl, sym, ◌∙◌, subst, arith}
use Rattle.std.proofs.lemmas.List.{append-nil}
use Rattle.std.specs.Cmp.{first_so, second_so}
use Rattle.lh_unit_names.specs.declared.name.UnitName.{UnitName}
use Rattle.lh_unit.specs.Naming.{Naming}
use Rattle.lh_term.specs.Arena.{Grows}
use Rattle.lh_term.specs.declared.term.TermNode.{TermNode}
use Rattle.lh_term.proofs.Swaps.{grows_on}
use Rattle.lh_region_joins.proofs.Conditions.{grows-none}
use Rattle.lh_region_def.specs.Joins.{RegionPlace, RegionEdge}
use Rattle.lh_region_def.specs.Regions.{Course, comes_to, edges_to, through_all, max_turns, all_places}
use Rattle.lh_region_walk.specs.declared.walk.Region.{Region}
use Rattle.lh_region_walk.specs.declared.walk.Walk.{Walk}
use Rattle.lh_region.specs.declared.rows.RegionFault.{RegionFault}
use Rattle.lh_region.specs.declared.rows.RegionFault.TheVariants as fault
use Rattle.lh_region.specs.Ahead.{none_led, LeadsNowhere}
use Rattle.lh_region_places.specs.Asked.{Tells}
use Rattle.lh_region.specs.Stands.{AreRows, refusal_of}
use Rattle.lh_region.specs.Walking.{Story, place_of, AreSources}
use Rattle.lh_region_walk.specs.Walked.{region_text, StopsFor}
use Rattle.lh_region_walk.specs.Turns.{places_of, turns_below, IsWalk, IsTurn, CanWalk, CanTurn, Beginning, Passes, Stops, walks_at, turns_at, PassesAll}
use Rattle.lh_region_walk.proofs.PlaceTurns.{ahead-turned, nothing-here, nothing-next, nothing-led, places-more, turns-more, places-none, turns-none, places-stop, turns-stop, passes-on, stops-on}

pub stops-memory : (From : Beginning) (r : Region) (ps : List RegionPlace) (e : RegionFault) → e ≡ fault.OutOfMemory → Stops From r ps e
stops-memory From r ps e q f name s c from = subst (λ x. StopsFor (through_all (region_text f r) ps c) (refusal_of x)) (sym q) tt

-- ---- the places of a turn

-- the first places of a turn are passed
pub record TurnSoFar (ns : List TermNode) (r : Region) (w : Walk) (turns first : ℕ) (ms : List TermNode) (q : Walk) (k : ℕ) : Type 0 where
  pub grows : Grows ns ms
  pub passes : Passes (turns_at ns r w turns first) r (places_of turns k) ms q turns k

pub turn-first : (ns : List TermNode) (r : Region) (w : Walk) (turns first : ℕ) → TurnSoFar ns r w turns first ns w first
turn-first ns r w turns first = record {
  grows = grows-none ns;
  passes = λ f name s c t. (s, c, places-none (region_text f r) turns first c t.none, t.walk);
}

module _ (ns : List TermNode) (r : Region) (w : Walk) (turns first : ℕ) (ms : List TermNode) (q : Walk) (k : ℕ) (h : TurnSoFar ns r w turns first ms q k) where
  pub turn-can : CanTurn ns r w turns first → CanWalk ms r q turns k
  turn-can a = let x = h.passes a.naming a.name a.story a.course a.turn in record { naming = a.naming; name = a.name; story = x.0; course = x.1; walk = x.3 }

  pub turn-next : (os : List TermNode) (z : Walk) (j : ℕ) → j ≡ k + 1 → Grows ms os → Passes (walks_at ms r q turns k) r (place_of turns k ∷ []) os z turns (k + 1) → TurnSoFar ns r w turns first os z j
  turn-next os z j e g p = record {
    grows = grows_on ns ms os h.grows g;
    passes = subst (λ i. Passes (turns_at ns r w turns first) r (places_of turns i) os z turns i) (sym e)
        (subst (λ ps. Passes (turns_at ns r w turns first) r ps os z turns (k + 1)) (sym (places-more turns k))
        (passes-on (turns_at ns r w turns first) r (places_of turns k) ms q turns k h.passes (place_of turns k ∷ []) os z turns (k + 1) p));
  }

  pub turn-stops : (n : ℕ) (e : RegionFault) → k < n → Stops (walks_at ms r q turns k) r (place_of turns k ∷ []) e → Stops (turns_at ns r w turns first) r (places_of turns n) e
  turn-stops n e l p f name s c t =
      let z : (k + 1) + (n - (k + 1)) ≡ n = omega (arith, l) in
      subst (λ i. StopsFor (through_all (region_text f r) (places_of turns i) c) (refusal_of e)) z
      (places-stop (region_text f r) turns (k + 1) (n - (k + 1)) c (refusal_of e)
      (subst (λ ps. StopsFor (through_all (region_text f r) ps c) (refusal_of e)) (sym (places-more turns k))
      (stops-on (turns_at ns r w turns first) r (places_of turns k) ms q turns k h.passes (place_of turns k ∷ []) e p f name s c t)))

  -- all places are treated, and the next turn begins
  pub turn-done : (z : Walk) (n : ℕ) → k ≡ n → z.ahead.here ≡ q.ahead.next → LeadsNowhere (length q.ahead.next.items) z.ahead.next.items → z.places ≡ q.places → z.insts ≡ q.insts → z.rows ≡ q.rows
      → z.sources ≡ q.sources
      → Passes (turns_at ns r w turns first) r (places_of turns n) ms z (turns + 1) 0
  turn-done z n e here next places insts rows sources f name s c t =
      let x = h.passes f name s c t in
      let k0 = x.3.course in
      let sf = k0.so_far in (
        x.0,
        x.1,
        subst (λ i. through_all (region_text f r) (places_of turns i) c ≡ comes_to x.1) e x.2,
        record {
          region = x.3.region;
          course = record {
            so_far = record {
              naming = sf.naming;
              values = sf.values;
              blocks = sf.blocks;
              here_long = (λ i. length (here i).items) ∙ sf.next_long;
              next_long = next.long ∙ sf.next_long;
              ahead = ahead-turned ms x.0 turns k (length q.ahead.next.items) q.ahead z.ahead x.1.edges sf.ahead here next;
              few = sf.few;
              insts = insts ∙ sf.insts;
              rows = subst (λ y. AreRows ms y x.1.rows) (sym rows) sf.rows;
              sources = subst (λ y. AreSources ms x.0 y x.1.rows.ends) (sym sources) sf.sources;
            };
            places = k0.places ∙ sym (λ i. length (places i).items);
            tells = subst (λ y. Tells ms y.items x.0.told) (sym places) k0.tells;
          };
          fine = x.3.fine;
          named = x.3.named;
        },
      )

-- ---- all turns

-- no place of a turn is before its first one
pub turn-of-walk : (ns : List TermNode) (f : Naming) (name : UnitName) (r : Region) (w : Walk) (turns : ℕ) (s : Story) (c : Course) → IsWalk ns f name r w turns 0 s c → IsTurn ns f name r w turns 0 s c
turn-of-walk ns f name r w turns s c h = record { walk = h; none = λ b l. absurd (omega (arith, l)) }

split : (k u : ℕ) → k ≤ u → (k ≡ u) ⊎ ((k + 1 ≡ u) ⊎ (k + 1 < u))
split zero zero l = inl refl
split zero (suc zero) l = inr (inl refl)
split zero (suc (suc u)) l = inr (inr (omega arith))
split (suc k) zero l = absurd (omega (arith, l))
split (suc k) (suc u) l = up (split k u (omega (arith, l)))
  where
    up : (k ≡ u) ⊎ ((k + 1 ≡ u) ⊎ (k + 1 < u)) → (suc k ≡ suc u) ⊎ ((suc k + 1 ≡ suc u) ⊎ (suc k + 1 < suc u))
    up (inl e) = inl (omega (arith, e))
    up (inr (inl e)) = inr (inl (omega (arith, e)))
    up (inr (inr e)) = inr (inr (omega (arith, e)))

-- the first turns are passed
pub record TurnsSoFar (ns : List TermNode) (r : Region) (w : Walk) (first n : ℕ) (ms : List TermNode) (q : Walk) (k : ℕ) : Type 0 where
  pub grows : Grows ns ms
  pub passes : Passes (turns_at ns r w 0 first) r (turns_below n k) ms q k 0

pub turns-first : (ns : List TermNode) (r : Region) (w : Walk) (first n : ℕ) (ms : List TermNode) (q : Walk) → Grows ns ms → Passes (turns_at ns r w 0 first) r (places_of 0 n) ms q 1 0
    → TurnsSoFar ns r w first n ms q 1
turns-first ns r w first n ms q g p = record {
  grows = g;
  passes = subst (λ ps. Passes (turns_at ns r w 0 first) r ps ms q 1 0) (sym (append-nil (places_of 0 n))) p;
}

pub first-stops : (ns : List TermNode) (r : Region) (w : Walk) (first n : ℕ) (e : RegionFault) → Stops (turns_at ns r w 0 first) r (places_of 0 n) e → Stops (turns_at ns r w 0 first) r (all_places n) e
first-stops ns r w first n e h f name s c t =
    turns-stop (region_text f r) n 1 256 c (refusal_of e) (subst (λ ps. StopsFor (through_all (region_text f r) ps c) (refusal_of e)) (sym (append-nil (places_of 0 n))) (h f name s c t))

module _ (ns : List TermNode) (r : Region) (w : Walk) (first n : ℕ) (ms : List TermNode) (q : Walk) (k : ℕ) (h : TurnsSoFar ns r w first n ms q k) where
  pub turns-can : CanTurn ns r w 0 first → CanTurn ms r q k 0
  turns-can a =
      let x = h.passes a.naming a.name a.story a.course a.turn in
      record { naming = a.naming; name = a.name; story = x.0; course = x.1; turn = turn-of-walk ms a.naming a.name r q k x.0 x.1 x.3 }

  pub turns-next : (os : List TermNode) (z : Walk) (j : ℕ) → j ≡ k + 1 → Grows ms os → Passes (turns_at ms r q k 0) r (places_of k n) os z (k + 1) 0 → TurnsSoFar ns r w first n os z j
  turns-next os z j e g p = record {
    grows = grows_on ns ms os h.grows g;
    passes = subst (λ i. Passes (turns_at ns r w 0 first) r (turns_below n i) os z i 0) (sym e)
        (subst (λ ps. Passes (turns_at ns r w 0 first) r ps os z (k + 1) 0) (sym (turns-more n k))
        (passes-on (turns_at ns r w 0 first) r (turns_below n k) ms q k 0 h.passes (places_of k n) os z (k + 1) 0 (λ f name s c x. p f name s c (turn-of-walk ms f name r q k s c x))));
  }

  pub turns-stops : (e : RegionFault) → k ≤ max_turns → Stops (turns_at ms r q k 0) r (places_of k n) e → Stops (turns_at ns r w 0 first) r (all_places n) e
  turns-stops e l p f name s c t =
      let z : (k + 1) + (256 - k) ≡ 257 = omega (arith, l) in
      subst (λ i. StopsFor (through_all (region_text f r) (turns_below n i) c) (refusal_of e)) z
      (turns-stop (region_text f r) n (k + 1) (256 - k) c (refusal_of e)
      (subst (λ ps. StopsFor (through_all (region_text f r) ps c) (refusal_of e)) (sym (turns-more n k))
      (stops-on (turns_at ns r w 0 first) r (turns_below n k) ms q k 0 h.passes (places_of k n) e (λ f name s c x. p f name s c (turn-of-walk ms f name r q k s c x)) f name s c t)))

  -- all turns are passed
  pub turns-done : k ≡ 257 → n ≡ length r.flat.now.blocks → PassesAll (turns_at ns r w 0 first) r ms q
  turns-done e m f name s c t =
      let x = h.passes f name s c t in
      (k, (x.0, x.1, subst (λ i. through_all (region_text f r) (all_places i) c ≡ comes_to x.1) m (subst (λ i. through_all (region_text f r) (turns_below n i) c ≡ comes_to x.1) e x.2), x.3))

  -- no edge leads on: later turns are nothing
  pub turns-end : k ≤ 257 → n ≡ length r.flat.now.blocks → (none_led q.ahead.here.items && none_led q.ahead.next.items) ≡ true → PassesAll (turns_at ns r w 0 first) r ms q
  turns-end l m e f name s c t =
      let x = h.passes f name s c t in
      let a = x.3.course.so_far.ahead in
      let here = nothing-here ms x.0 k q.ahead x.1.edges a (nothing-led q.ahead.here.items (first_so (none_led q.ahead.here.items) (none_led q.ahead.next.items) e)) in
      let next = nothing-next ms x.0 k q.ahead x.1.edges a (nothing-led q.ahead.next.items (second_so (none_led q.ahead.here.items) (none_led q.ahead.next.items) e)) in
      let z : k + (257 - k) ≡ 257 = omega (arith, l) in (
        k,
        (
          x.0,
          x.1,
          subst (λ i. through_all (region_text f r) (all_places i) c ≡ comes_to x.1) m
              (subst (λ i. through_all (region_text f r) (turns_below n i) c ≡ comes_to x.1) z
              (turns-none (region_text f r) n k (257 - k) c x.1 (λ u b y. nowhere x.1.edges here next a.last u b y) x.2)),
          x.3,
        ),
      )
    where
      nowhere : (xs : List RegionEdge) → ((b : ℕ) → edges_to (place_of k b) xs ≡ []) → ((b : ℕ) → edges_to (place_of (k + 1) b) xs ≡ []) → ((u b : ℕ) → k + 1 < u → edges_to (place_of u b) xs ≡ [])
          → (u b : ℕ) → k ≤ u → edges_to (place_of u b) xs ≡ []
      nowhere xs here next last u b y = by (split k u y)
        where
          by : (k ≡ u) ⊎ ((k + 1 ≡ u) ⊎ (k + 1 < u)) → edges_to (place_of u b) xs ≡ []
          by (inl e) = subst (λ i. edges_to (place_of i b) xs ≡ []) e (here b)
          by (inr (inl e)) = subst (λ i. edges_to (place_of i b) xs ≡ []) e (next b)
          by (inr (inr e)) = last u b e
