-- Places one after the other, by the definition and by a walk: what passes some and then others passes all of them.
use Rattle.std.proofs.Common.{◌≡◌, ℕ, zero, suc, ◌+◌, ◌<◌, ◌≤◌, true, nat_eq, List, [], ◌∷◌, ◌++◌, Option, Some, None, refl, ap, sym, ◌∙◌, subst, append_assoc, arith}
use Rattle.std.specs.List.{flat_map}
use Rattle.std.proofs.lemmas.List.{append-nil, map_push}
use Rattle.std.proofs.lemmas.Bool.{cond-false}
use Rattle.std.specs.Cmp.{first_so, second_so}
use Rattle.lh_unit.proofs.Lists.{nat_eq-other}
use Rattle.lh_term.specs.declared.term.TermNode.{TermNode}
use Rattle.lh_region_def.specs.Joins.{RegionPlace, RegionEdge}
use Rattle.lh_region_def.specs.Places.{Region as RegionText}
use Rattle.lh_region_def.specs.Regions.{RegionRefusal, Course, Coursed, stops, comes_to, then_course, edges_to, through_reached, through_all, numbers_below}
use Rattle.lh_region_joins.specs.declared.edge.Edge.{Edge}
use Rattle.lh_region.specs.declared.ahead.Ahead.{Ahead}
use Rattle.lh_region_walk.specs.declared.walk.Region.{Region}
use Rattle.lh_region_walk.specs.declared.walk.Walk.{Walk}
use Rattle.lh_region.specs.declared.rows.RegionFault.{RegionFault}
use Rattle.lh_region.specs.Ahead.{led_to, is_no_edge, none_led, LeadsNowhere, BlockIsReached}
use Rattle.lh_region.specs.Stands.{refusal_of}
use Rattle.lh_region.specs.Walking.{Story, AreEdges, place_of, AreAhead}
use Rattle.lh_region_walk.specs.Walked.{region_text, StopsFor}
use Rattle.lh_region_walk.specs.Turns.{places_of, turns_below, Beginning, Passes, Stops, walks_at}

-- ---- edges one by one

pub no-edges : (ns : List TermNode) (s : Story) (es : List Edge) (xs : List RegionEdge) → es ≡ [] → AreEdges ns s es xs → xs ≡ []
no-edges ns s [] [] e h = refl
no-edges ns s [] (x ∷ xs) e h = absurd h
no-edges ns s (d ∷ es) xs e h = absurd (let z : d ∷ es ≡ [] = e in cc)

pub some-edges : (ns : List TermNode) (s : Story) (es : List Edge) (xs : List RegionEdge) → (es ≡ [] → ⊥) → AreEdges ns s es xs → (x : RegionEdge) × (more : List RegionEdge) × (xs ≡ x ∷ more)
some-edges ns s [] [] n h = absurd (n refl)
some-edges ns s [] (x ∷ xs) n h = absurd h
some-edges ns s (e ∷ es) [] n h = absurd h
some-edges ns s (e ∷ es) (x ∷ xs) n h = (x, xs, refl)

-- ---- edges ahead

-- a place was reached: the edges to later blocks stay
pub ahead-reached : (ns : List TermNode) (s : Story) (turns block : ℕ) (old new : Ahead) (xs : List RegionEdge) → AreAhead ns s turns block old xs → BlockIsReached old.here.items block new.here.items
    → new.next ≡ old.next → AreAhead ns s turns (block + 1) new xs
ahead-reached ns s turns block old new xs h r k = record {
  here = λ b l. subst (λ (es : List Edge). AreEdges ns s es (edges_to (place_of turns b) xs))
      (sym (r.led b ∙ cond-false (nat_eq block b) [] (led_to old.here.items b) (nat_eq-other block b (λ e. less block b l e)))) (h.here b (before block b l));
  next = λ b. subst (λ (es : List Edge). AreEdges ns s es (edges_to (place_of (turns + 1) b) xs)) (λ j. led_to (sym k j).items b) (h.next b);
  last = h.last;
}
  where
    before : (a b : ℕ) → a + 1 ≤ b → a ≤ b
    before a b l = omega (arith, l)

    less : (a b : ℕ) → a + 1 ≤ b → a ≡ b → ⊥
    less a b l e = omega (arith, l, e)

-- all places of a turn were treated
pub ahead-turned : (ns : List TermNode) (s : Story) (turns block n : ℕ) (old new : Ahead) (xs : List RegionEdge) → AreAhead ns s turns block old xs → new.here ≡ old.next → LeadsNowhere n new.next.items
    → AreAhead ns s (turns + 1) 0 new xs
ahead-turned ns s turns block n old new xs h k none = record {
  here = λ b l. subst (λ (es : List Edge). AreEdges ns s es (edges_to (place_of (turns + 1) b) xs)) (λ j. led_to (sym k j).items b) (h.next b);
  next = λ b. subst (λ (es : List Edge). AreEdges ns s es (edges_to (place_of (turns + 1 + 1) b) xs)) (sym (none.none b)) (subst (AreEdges ns s []) (sym (h.last (turns + 1 + 1) b (omega arith))) tt);
  last = λ t b l. h.last t b (omega (arith, l));
}

-- no edge leads to a block of this turn, nor to any later one
module _ (ns : List TermNode) (s : Story) (turns : ℕ) (a : Ahead) (xs : List RegionEdge) (h : AreAhead ns s turns 0 a xs) where
  pub nothing-here : ((b : ℕ) → led_to a.here.items b ≡ []) → (b : ℕ) → edges_to (place_of turns b) xs ≡ []
  nothing-here none b = no-edges ns s (led_to a.here.items b) (edges_to (place_of turns b) xs) (none b) (h.here b (omega arith))

  pub nothing-next : ((b : ℕ) → led_to a.next.items b ≡ []) → (b : ℕ) → edges_to (place_of (turns + 1) b) xs ≡ []
  nothing-next none b = no-edges ns s (led_to a.next.items b) (edges_to (place_of (turns + 1) b) xs) (none b) (h.next b)

no-edge : (es : List Edge) → is_no_edge es ≡ true → es ≡ []
no-edge [] e = refl
no-edge (x ∷ es) e = absurd cc

pub nothing-led : (led : List (List Edge)) → none_led led ≡ true → (b : ℕ) → led_to led b ≡ []
nothing-led [] e b = refl
nothing-led (es ∷ led) e zero = no-edge es (first_so (is_no_edge es) (none_led led) e)
nothing-led (es ∷ led) e (suc b) = nothing-led led (second_so (is_no_edge es) (none_led led) e) b

-- ---- places one after the other

then-then : (x : Coursed) (f g : Course → Coursed) → then_course (then_course x f) g ≡ then_course x (λ c. then_course (f c) g)
then-then (stops r) f g = refl
then-then (comes_to c) f g = refl

pub all-append : (g : RegionText) (ps qs : List RegionPlace) (c : Course) → through_all g (ps ++ qs) c ≡ then_course (through_all g ps c) (through_all g qs)
all-append g [] qs c = refl
all-append g (p ∷ ps) qs c = by (all-append g ps qs) (through_reached g p (edges_to p c.edges) c)
  where
    by : ((d : Course) → through_all g (ps ++ qs) d ≡ then_course (through_all g ps d) (through_all g qs)) → (x : Coursed)
        → then_course x (through_all g (ps ++ qs)) ≡ then_course (then_course x (through_all g ps)) (through_all g qs)
    by go (stops r) = refl
    by go (comes_to d) = go d

pub one-none : (g : RegionText) (p : RegionPlace) (c : Course) → edges_to p c.edges ≡ [] → through_all g (p ∷ []) c ≡ comes_to c
one-none g p c e = ap (λ (es : List RegionEdge). then_course (through_reached g p es c) (through_all g [])) e

pub then-comes : (g : RegionText) (ps qs : List RegionPlace) (c d : Course) → through_all g ps c ≡ comes_to d → through_all g (ps ++ qs) c ≡ through_all g qs d
then-comes g ps qs c d e = all-append g ps qs c ∙ ap (λ (x : Coursed). then_course x (through_all g qs)) e

pub then-stops : (g : RegionText) (ps qs : List RegionPlace) (c : Course) (o : Option RegionRefusal) → StopsFor (through_all g ps c) o → StopsFor (through_all g (ps ++ qs) c) o
then-stops g ps qs c None h = tt
then-stops g ps qs c (Some r) h = all-append g ps qs c ∙ ap (λ (x : Coursed). then_course x (through_all g qs)) h

-- ---- the places of a turn, and of turns

pub places-more : (t n : ℕ) → places_of t (n + 1) ≡ places_of t n ++ place_of t n ∷ []
places-more t n =
    let z : n + 1 ≡ suc n = omega arith in
    ap (places_of t) z ∙ map_push (place_of t) (numbers_below n) n

flat-push : (f : ℕ → List RegionPlace) (xs : List ℕ) (x : ℕ) → flat_map f (xs ++ x ∷ []) ≡ flat_map f xs ++ f x
flat-push f [] x = append-nil (f x)
flat-push f (y ∷ ys) x = ap (λ zs. f y ++ zs) (flat-push f ys x) ∙ sym (append_assoc (f y) (flat_map f ys) (f x))

pub turns-more : (n k : ℕ) → turns_below n (k + 1) ≡ turns_below n k ++ places_of k n
turns-more n k =
    let z : k + 1 ≡ suc k = omega arith in
    ap (turns_below n) z ∙ flat-push (λ t. places_of t n) (numbers_below k) k

-- where nothing leads to the first places of a turn
pub places-none : (g : RegionText) (t n : ℕ) (c : Course) → ((b : ℕ) → b < n → edges_to (place_of t b) c.edges ≡ []) → through_all g (places_of t n) c ≡ comes_to c
places-none g t zero c h = refl
places-none g t (suc n) c h =
    ap (λ (ps : List RegionPlace). through_all g ps c) (map_push (place_of t) (numbers_below n) n)
    ∙ then-comes g (places_of t n) (place_of t n ∷ []) c c (places-none g t n c (λ b l. h b (omega (arith, l))))
    ∙ one-none g (place_of t n) c (h n (omega arith))

-- later turns are nothing where no edge leads there
pub turns-none : (g : RegionText) (n k j : ℕ) (c d : Course) → ((t b : ℕ) → k ≤ t → edges_to (place_of t b) d.edges ≡ []) → through_all g (turns_below n k) c ≡ comes_to d
    → through_all g (turns_below n (k + j)) c ≡ comes_to d
turns-none g n k zero c d none e =
    let z : k + 0 ≡ k = omega arith in
    ap (λ (m : ℕ). through_all g (turns_below n m) c) z ∙ e
turns-none g n k (suc j) c d none e =
    let z : k + suc j ≡ (k + j) + 1 = omega arith in
    ap (λ (m : ℕ). through_all g (turns_below n m) c) z
    ∙ ap (λ (ps : List RegionPlace). through_all g ps c) (turns-more n (k + j))
    ∙ then-comes g (turns_below n (k + j)) (places_of (k + j) n) c d (turns-none g n k j c d none e)
    ∙ places-none g (k + j) n d (λ b l. none (k + j) b (omega arith))

-- where the definition stops at an earlier turn, it stops
pub turns-stop : (g : RegionText) (n k j : ℕ) (c : Course) (o : Option RegionRefusal) → StopsFor (through_all g (turns_below n k) c) o → StopsFor (through_all g (turns_below n (k + j)) c) o
turns-stop g n k zero c o h =
    let z : k ≡ k + 0 = omega arith in
    subst (λ (m : ℕ). StopsFor (through_all g (turns_below n m) c) o) z h
turns-stop g n k (suc j) c o h =
    let z : (k + j) + 1 ≡ k + suc j = omega arith in
    subst (λ (m : ℕ). StopsFor (through_all g (turns_below n m) c) o) z
    (subst (λ (ps : List RegionPlace). StopsFor (through_all g ps c) o) (sym (turns-more n (k + j)))
    (then-stops g (turns_below n (k + j)) (places_of (k + j) n) c o (turns-stop g n k j c o h)))

pub places-stop : (g : RegionText) (t k j : ℕ) (c : Course) (o : Option RegionRefusal) → StopsFor (through_all g (places_of t k) c) o → StopsFor (through_all g (places_of t (k + j)) c) o
places-stop g t k zero c o h =
    let z : k ≡ k + 0 = omega arith in
    subst (λ (m : ℕ). StopsFor (through_all g (places_of t m) c) o) z h
places-stop g t k (suc j) c o h =
    let z : (k + j) + 1 ≡ k + suc j = omega arith in
    subst (λ (m : ℕ). StopsFor (through_all g (places_of t m) c) o) z
    (subst (λ (ps : List RegionPlace). StopsFor (through_all g ps c) o) (sym (places-more t (k + j)))
    (then-stops g (places_of t (k + j)) (place_of t (k + j) ∷ []) c o (places-stop g t k j c o h)))

-- ---- walks

module _ (From : Beginning) (r : Region) (ps : List RegionPlace) (ms : List TermNode) (q : Walk) (t b : ℕ) (h : Passes From r ps ms q t b) where
  -- what passes some places, and from there others, passes all
  pub passes-on : (qs : List RegionPlace) (os : List TermNode) (w : Walk) (u d : ℕ) → Passes (walks_at ms r q t b) r qs os w u d → Passes From r (ps ++ qs) os w u d
  passes-on qs os w u d k f name s c from =
      let x = h f name s c from in
      let y = k f name x.0 x.1 x.3 in
      (y.0, y.1, then-comes (region_text f r) ps qs c x.1 x.2 ∙ y.2, y.3)

  pub stops-on : (qs : List RegionPlace) (e : RegionFault) → Stops (walks_at ms r q t b) r qs e → Stops From r (ps ++ qs) e
  stops-on qs e k f name s c from =
      let x = h f name s c from in
      subst (λ (y : Coursed). StopsFor y (refusal_of e)) (sym (then-comes (region_text f r) ps qs c x.1 x.2)) (k f name x.0 x.1 x.3)
