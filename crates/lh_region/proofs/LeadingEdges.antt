-- One more edge leads on from a place: the edges ahead by ids and those of the definition.
use Rattle.std.proofs.Common.{◌≡◌, ◌≢◌, ℕ, ◌+◌, ◌<◌, ◌≤◌, Bool, true, false, ◌&&◌, nat_eq, if◌then◌else◌, List, [], ◌∷◌, ◌++◌, ap, sym, ◌∙◌, subst, arith, le-leb}
use Rattle.std.proofs.lemmas.Bool.{cond-true, cond-false, lt-leb}
use Rattle.std.proofs.Math.Nat.{ne_of_lt}
use Rattle.lh_unit.proofs.Lists.{Same, same, other, same_or, nat_eq-refl, nat_eq-other}
use Rattle.lh_term.specs.Tree.{Tree}
use Rattle.lh_term.specs.Arena.{Grows}
use Rattle.lh_term.specs.declared.term.TermNode.{TermNode}
use Rattle.lh_term.proofs.Swaps.{stands_grown}
use Rattle.lh_region_def.specs.Joins.{RegionPlace, RegionEdge}
use Rattle.lh_region_def.specs.Places.{Region, Here, Midst, next_place, goes}
use Rattle.lh_region_def.specs.Regions.{is_place, edges_to}
use Rattle.lh_region_joins.specs.declared.edge.Edge.{Edge}
use Rattle.lh_region.specs.declared.ahead.Ahead.{Ahead}
use Rattle.lh_region.specs.Ahead.{led_to, IsLedAlso}
use Rattle.lh_region.specs.Walking.{Story, IsEdge, AreEdges, place_of, AreAhead, LeadsOn}

-- ---- edges one by one

pub edges-grown : (ns ms : List TermNode) (s : Story) (es : List Edge) (xs : List RegionEdge) → Grows ns ms → AreEdges ns s es xs → AreEdges ms s es xs
edges-grown ns ms s [] [] g h = tt
edges-grown ns ms s [] (x ∷ xs) g h = absurd h
edges-grown ns ms s (e ∷ es) [] g h = absurd h
edges-grown ns ms s (e ∷ es) (x ∷ xs) g h = (
  record { within = h.0.within; of_text = h.0.of_text; block = h.0.block; cond = stands_grown ns ms g e.cond x.cond h.0.cond; told = h.0.told },
  edges-grown ns ms s es xs g h.1,
)

pub edges-push : (ns : List TermNode) (s : Story) (es : List Edge) (xs : List RegionEdge) (e : Edge) (x : RegionEdge) → AreEdges ns s es xs → IsEdge ns s e x → AreEdges ns s (es ++ e ∷ []) (xs ++ x ∷ [])
edges-push ns s [] [] e x h i = (i, tt)
edges-push ns s [] (y ∷ ys) e x h i = absurd h
edges-push ns s (d ∷ ds) [] e x h i = absurd h
edges-push ns s (d ∷ ds) (y ∷ ys) e x h i = (h.0, edges-push ns s ds ys e x h.1 i)

pub ahead-grown : (ns ms : List TermNode) (s : Story) (turns block : ℕ) (ahead : Ahead) (xs : List RegionEdge) → Grows ns ms → AreAhead ns s turns block ahead xs → AreAhead ms s turns block ahead xs
ahead-grown ns ms s turns block ahead xs g h = record {
  here = λ b l. edges-grown ns ms s (led_to ahead.here.items b) (edges_to (place_of turns b) xs) g (h.here b l);
  next = λ b. edges-grown ns ms s (led_to ahead.next.items b) (edges_to (place_of (turns + 1) b) xs) g (h.next b);
  last = h.last;
}

-- ---- the edges to a place, with one more edge

to-yes : (p : RegionPlace) (xs : List RegionEdge) (x : RegionEdge) → is_place x.to p ≡ true → edges_to p (xs ++ x ∷ []) ≡ edges_to p xs ++ x ∷ []
to-yes p [] x e = cond-true (is_place x.to p) (x ∷ []) [] e
to-yes p (y ∷ ys) x e = by (is_place y.to p) (to-yes p ys x e)
  where
    by : (b : Bool) → edges_to p (ys ++ x ∷ []) ≡ edges_to p ys ++ x ∷ [] → (if b then y ∷ edges_to p (ys ++ x ∷ []) else edges_to p (ys ++ x ∷ [])) ≡ (if b then y ∷ edges_to p ys else edges_to p ys)
        ++ x ∷ []
    by true h = ap (λ (zs : List RegionEdge). y ∷ zs) h
    by false h = h

to-no : (p : RegionPlace) (xs : List RegionEdge) (x : RegionEdge) → is_place x.to p ≡ false → edges_to p (xs ++ x ∷ []) ≡ edges_to p xs
to-no p [] x e = cond-false (is_place x.to p) (x ∷ []) [] e
to-no p (y ∷ ys) x e = by (is_place y.to p) (to-no p ys x e)
  where
    by : (b : Bool) → edges_to p (ys ++ x ∷ []) ≡ edges_to p ys → (if b then y ∷ edges_to p (ys ++ x ∷ []) else edges_to p (ys ++ x ∷ [])) ≡ (if b then y ∷ edges_to p ys else edges_to p ys)
    by true h = ap (λ (zs : List RegionEdge). y ∷ zs) h
    by false h = h

-- ---- places

other-turn : (t u a b : ℕ) → t ≢ u → is_place (place_of t a) (place_of u b) ≡ false
other-turn t u a b n = ap (λ (k : Bool). k && nat_eq a b) (nat_eq-other t u n)

other-block : (t a b : ℕ) → a ≢ b → is_place (place_of t a) (place_of t b) ≡ false
other-block t a b n = ap (λ (k : Bool). k && nat_eq a b) (nat_eq-refl t) ∙ nat_eq-other a b n

same-place : (t a : ℕ) → is_place (place_of t a) (place_of t a) ≡ true
same-place t a = ap (λ (k : Bool). k && nat_eq a a) (nat_eq-refl t) ∙ nat_eq-refl a

-- the edges to the blocks of a turn, of which one leads to block a
module _ (ns : List TermNode) (s : Story) (t a : ℕ) (old new : List (List Edge)) (xs : List RegionEdge) (e : Edge) (x : RegionEdge) (also : IsLedAlso old a e new) (i : IsEdge ns s e x)
    (to : x.to ≡ place_of t a) where
  led-more : (b : ℕ) → AreEdges ns s (led_to old b) (edges_to (place_of t b) xs) → AreEdges ns s (led_to new b) (edges_to (place_of t b) (xs ++ x ∷ []))
  led-more b h = by (same_or a b)
    where
      here : a ≡ b → AreEdges ns s (led_to new b) (edges_to (place_of t b) (xs ++ x ∷ []))
      here k =
          let q : is_place x.to (place_of t b) ≡ true = ap (λ (p : RegionPlace). is_place p (place_of t b)) to ∙ subst (λ (c : ℕ). is_place (place_of t a) (place_of t c) ≡ true) k (same-place t a) in
          let f : led_to new b ≡ led_to old b ++ e ∷ [] = also.led b ∙ cond-true (nat_eq a b) (led_to old b ++ e ∷ []) (led_to old b) (subst (λ (c : ℕ). nat_eq a c ≡ true) k (nat_eq-refl a)) in
          subst (λ (ys : List Edge). AreEdges ns s ys (edges_to (place_of t b) (xs ++ x ∷ []))) (sym f)
          (subst (AreEdges ns s (led_to old b ++ e ∷ [])) (sym (to-yes (place_of t b) xs x q)) (edges-push ns s (led_to old b) (edges_to (place_of t b) xs) e x h i))

      off : a ≢ b → AreEdges ns s (led_to new b) (edges_to (place_of t b) (xs ++ x ∷ []))
      off n =
          let q : is_place x.to (place_of t b) ≡ false = ap (λ (p : RegionPlace). is_place p (place_of t b)) to ∙ other-block t a b n in
          let f : led_to new b ≡ led_to old b = also.led b ∙ cond-false (nat_eq a b) (led_to old b ++ e ∷ []) (led_to old b) (nat_eq-other a b n) in
          subst (λ (ys : List Edge). AreEdges ns s ys (edges_to (place_of t b) (xs ++ x ∷ []))) (sym f)
          (subst (AreEdges ns s (led_to old b)) (sym (to-no (place_of t b) xs x q)) h)

      by : Same a b → AreEdges ns s (led_to new b) (edges_to (place_of t b) (xs ++ x ∷ []))
      by (same k) = here k
      by (other n) = off n

-- the edges to places of another turn stay
stays : (t u a b : ℕ) (xs : List RegionEdge) (x : RegionEdge) → x.to ≡ place_of t a → t ≢ u → edges_to (place_of u b) (xs ++ x ∷ []) ≡ edges_to (place_of u b) xs
stays t u a b xs x to n = to-no (place_of u b) xs x (ap (λ (p : RegionPlace). is_place p (place_of u b)) to ∙ other-turn t u a b n)

more-other : (a b : ℕ) → b < a → a ≢ b
more-other a b l e = omega (arith, l, e)

module _ (ns : List TermNode) (s : Story) (turns block a : ℕ) (old new : Ahead) (xs : List RegionEdge) (e : Edge) (x : RegionEdge) (i : IsEdge ns s e x) (h : AreAhead ns s turns block old xs) where
  ahead-here : IsLedAlso old.here.items a e new.here.items → new.next ≡ old.next → x.to ≡ place_of turns a → AreAhead ns s turns block new (xs ++ x ∷ [])
  ahead-here also k to = record {
    here = λ b l. led-more ns s turns a old.here.items new.here.items xs e x also i to b (h.here b l);
    next = λ b.
        subst (AreEdges ns s (led_to new.next.items b)) (sym (stays turns (turns + 1) a b xs x to (ne_of_lt {a = turns} {b = turns + 1} (omega arith))))
        (subst (λ (ys : List Edge). AreEdges ns s ys (edges_to (place_of (turns + 1) b) xs)) (λ j. led_to (sym k j).items b) (h.next b));
    last = λ t b l. stays turns t a b xs x to (ne_of_lt {a = turns} {b = t} (omega (arith, l))) ∙ h.last t b l;
  }

  ahead-next : new.here ≡ old.here → IsLedAlso old.next.items a e new.next.items → x.to ≡ place_of (turns + 1) a → AreAhead ns s turns block new (xs ++ x ∷ [])
  ahead-next k also to = record {
    here = λ b l.
        subst (AreEdges ns s (led_to new.here.items b)) (sym (stays (turns + 1) turns a b xs x to (more-other (turns + 1) turns (omega arith))))
        (subst (λ (ys : List Edge). AreEdges ns s ys (edges_to (place_of turns b) xs)) (λ j. led_to (sym k j).items b) (h.here b l));
    next = λ b. led-more ns s (turns + 1) a old.next.items new.next.items xs e x also i to b (h.next b);
    last = λ t b l. stays (turns + 1) t a b xs x to (ne_of_lt {a = turns + 1} {b = t} l) ∙ h.last t b l;
  }

-- ---- where the definition goes

next-here : (p : RegionPlace) (t b a : ℕ) → p ≡ place_of t b → b < a → next_place p a ≡ place_of t a
next-here p t b a e l = ap (λ (q : RegionPlace). next_place q a) e ∙ ap (λ (k : Bool). place_of (if k then t + 1 else t) a) (lt-leb a b l)

next-turn : (p : RegionPlace) (t b a : ℕ) → p ≡ place_of t b → a ≤ b → next_place p a ≡ place_of (t + 1) a
next-turn p t b a e l = ap (λ (q : RegionPlace). next_place q a) e ∙ ap (λ (k : Bool). place_of (if k then t + 1 else t) a) (le-leb a b l)

goes-on : (g : Region) (h : Here) (c : Tree) (m : Midst) (b : ℕ) → (g.ends_at_head && nat_eq b g.head) ≡ false
    → (goes g h c m b).edges ≡ m.edges ++ record { to = next_place h.place b; from = h.label; cond = c; known = m.known } ∷ []
goes-on g h c m b e = ap (λ (x : Midst). x.edges)
    (cond-false (g.ends_at_head && nat_eq b g.head) _ (record m { edges = m.edges ++ record { to = next_place h.place b; from = h.label; cond = c; known = m.known } ∷ [] }) e)

pub leads-here : (old new : Ahead) (turns b : ℕ) (e : Edge) → e.block < b → IsLedAlso old.here.items b e new.here.items → new.next ≡ old.next → LeadsOn old turns b e new
leads-here old new turns b e l also k ns s g h c m p q w o st t n a =
    let x : RegionEdge = record { to = next_place h.place b; from = h.label; cond = c; known = m.known } in
    let i : IsEdge ns s e x = record { within = w; of_text = o; block = sym q; cond = st; told = t } in
    subst (AreAhead ns s turns (e.block + 1) new) (sym (goes-on g h c m b n)) (ahead-here ns s turns (e.block + 1) b old new m.edges e x i a also k (next-here h.place turns e.block b p l))

pub leads-next : (old new : Ahead) (turns b : ℕ) (e : Edge) → b ≤ e.block → new.here ≡ old.here → IsLedAlso old.next.items b e new.next.items → LeadsOn old turns b e new
leads-next old new turns b e l k also ns s g h c m p q w o st t n a =
    let x : RegionEdge = record { to = next_place h.place b; from = h.label; cond = c; known = m.known } in
    let i : IsEdge ns s e x = record { within = w; of_text = o; block = sym q; cond = st; told = t } in
    subst (AreAhead ns s turns (e.block + 1) new) (sym (goes-on g h c m b n)) (ahead-next ns s turns (e.block + 1) b old new m.edges e x i a k also (next-turn h.place turns e.block b p l))
