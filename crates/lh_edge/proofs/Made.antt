-- Triggers as they are made.
use Rattle.std.proofs.Common.{◌≡◌, ℕ, zero, suc, ◌+◌, ◌<◌, ◌≤◌, Bool, true, false, if◌then◌else◌, List, [], ◌∷◌, ◌++◌, length, take, drop, get_or, insert, refl, sym, ap, ◌∙◌, subst, arith, Result, Ok, Err, OnOk, append-nil, append_assoc, drop-cons, drop_of_length-le}
use Rattle.lh_types.specs.Types.{int_type}
use Rattle.lh_term.specs.declared.part.Part.{Part}
use Rattle.lh_term.specs.declared.term.TermId.{TermId}
use Rattle.lh_term.specs.declared.term.TermNode.{TermNode}
use Rattle.lh_term.specs.Tree.{Tree, past_of}
use Rattle.lh_term.specs.Make.{is_bit}
use Rattle.lh_term.specs.Arena.{tree_at, trees, IsIn, Grows, StandsForTree}
use Rattle.lh_term.specs.Subst.{pairs_at, swapped, is_first}
use Rattle.lh_term.proofs.Swaps.{tree_grown, in_grown, grows_on, stands_grown, pairs_grown, pairs_in_grown}
use Rattle.lh_edge.specs.declared.triggers.Trigger.{Trigger}
use Rattle.lh_edge.specs.Triggers.{TriggerTree, gate_of, trigger_at, triggers_at, comes_first, with_part}
use Rattle.lh_edge.specs.Answers.{AreTriggers, AddsTrigger}
use Rattle.lh_edge.specs.Gates.{AllBit, ArePresents, IsPresents, MakesGate}
use Rattle.lh_edge.specs.Steps.{place_in}

-- ---- lists of triggers

triggers_append : (ns : List TermNode) (ts us : List Trigger) (xs ys : List TriggerTree) → AreTriggers ns ts xs → AreTriggers ns us ys → AreTriggers ns (ts ++ us) (xs ++ ys)
triggers_append ns [] us [] ys h k = k
triggers_append ns [] us (x ∷ xs) ys h k = absurd h
triggers_append ns (t ∷ ts) us [] ys h k = absurd h
triggers_append ns (t ∷ ts) us (x ∷ xs) ys h k = (h.0, triggers_append ns ts us xs ys h.1 k)

triggers_grown : (old cur : List TermNode) → Grows old cur → (ts : List Trigger) (xs : List TriggerTree) → AreTriggers old ts xs → AreTriggers cur ts xs
triggers_grown old cur g [] [] h = tt
triggers_grown old cur g [] (x ∷ xs) h = absurd h
triggers_grown old cur g (t ∷ ts) [] h = absurd h
triggers_grown old cur g (t ∷ ts) (x ∷ xs) h = (record { rise = h.0.rise; part = h.0.part; gate = stands_grown old cur g t.gate x.gate h.0.gate }, triggers_grown old cur g ts xs h.1)

at_append : (c : Tree) (ps qs : List Part) → triggers_at c (ps ++ qs) ≡ triggers_at c ps ++ triggers_at c qs
at_append c [] qs = refl
at_append c (p ∷ ps) qs =
    let a = trigger_at c p true in
    let b = trigger_at c p false in
    ap (λ r. a ++ (b ++ r)) (at_append c ps qs)
    ∙ ap (λ r. a ++ r) (sym (append_assoc b (triggers_at c ps) (triggers_at c qs)))
    ∙ sym (append_assoc a (b ++ triggers_at c ps) (triggers_at c qs))

-- ---- one trigger

pub adds_none : (ns : List TermNode) (c : Tree) (p : Part) (rise : Bool) (old : List Trigger) → is_bit 0 (gate_of rise p c) ≡ true → AddsTrigger ns old (trigger_at c p rise) old
adds_none ns c p rise old e = record {
  more = [];
  added = sym (append-nil old);
  are = subst (λ (b : Bool). AreTriggers ns [] (if b then [] else (record { rise = rise; part = p; gate = gate_of rise p c }) ∷ [])) (sym e) tt;
}

pub adds_one : (ns : List TermNode) (c : Tree) (p q : Part) (rise : Bool) (gate : TermId) (old new : List Trigger) → q ≡ p → is_bit 0 (gate_of rise p c) ≡ false → StandsForTree ns gate (gate_of rise p c)
    → new ≡ old ++ (record { rise = rise; part = q; gate = gate }) ∷ []
    → AddsTrigger ns old (trigger_at c p rise) new
adds_one ns c p q rise gate old new f e s m = record {
  more = (record { rise = rise; part = q; gate = gate }) ∷ [];
  added = m;
  are = subst (λ (b : Bool). AreTriggers ns ((record { rise = rise; part = q; gate = gate }) ∷ []) (if b then [] else (record { rise = rise; part = p; gate = gate_of rise p c }) ∷ [])) (sym e)
      (record { rise = refl; part = f; gate = s }, tt);
}

-- the gate as `subst` makes it
pub gate_stands : (old cur new : List TermNode) (rise : Bool) (p : Part) (cond gate : TermId) (swap : List (TermId × TermId)) → Grows old cur → IsIn old cond
    → MakesGate cur rise p (tree_at (trees old) cond) swap
    → StandsForTree new gate (swapped (pairs_at cur swap) (tree_at (trees cur) cond)) → StandsForTree new gate (gate_of rise p (tree_at (trees old) cond))
gate_stands old cur new rise p cond gate swap g i m s = record {
  is_in = s.is_in;
  tree = s.tree ∙ ap (swapped (pairs_at cur swap)) (tree_grown old cur g cond i) ∙ m.gate;
}

-- ---- the triggers so far

pub record MadeSoFar (old cur : List TermNode) (cond : TermId) (parts : List Part) (presents : List (TermId × TermId)) (ts : List Trigger) (k : ℕ) : Type 0 where
  pub grows : Grows old cur
  pub presents_are : IsPresents cur (tree_at (trees cur) cond) presents
  pub done : List Part
  pub split : parts ≡ done ++ drop k parts
  pub are : AreTriggers cur ts (triggers_at (tree_at (trees old) cond) done)

presents_grown : (old cur : List TermNode) → Grows old cur → (c : Tree) (pairs : List (TermId × TermId)) → IsPresents old c pairs → IsPresents cur c pairs
presents_grown old cur g c pairs i =
    let e = pairs_grown old cur g pairs i.pairs_in in
    record {
      pairs_in = pairs_in_grown old cur g pairs i.pairs_in;
      each = subst ArePresents (sym e) i.each;
      whole = λ q h. ap (λ ps. is_first ps (past_of q)) e ∙ i.whole q h;
    }

pub made_start : (old cur : List TermNode) (cond : TermId) (parts : List Part) (presents : List (TermId × TermId)) (ts : List Trigger) → Grows old cur → IsIn old cond
    → IsPresents cur (tree_at (trees old) cond) presents → ts ≡ [] → MadeSoFar old cur cond parts presents ts 0
made_start old cur cond parts presents ts g i p m = subst (λ (us : List Trigger). MadeSoFar old cur cond parts presents us 0) (sym m) (record {
  grows = g;
  presents_are = subst (λ (t : Tree). IsPresents cur t presents) (sym (tree_grown old cur g cond i)) p;
  done = [];
  split = refl;
  are = tt;
})

-- the presents after the arena grew
pub presents_on : (cur new : List TermNode) (cond : TermId) (presents : List (TermId × TermId)) → Grows cur new → IsIn cur cond → IsPresents cur (tree_at (trees cur) cond) presents
    → IsPresents new (tree_at (trees new) cond) presents
presents_on cur new cond presents g i p =
    subst (λ (t : Tree). IsPresents new t presents) (sym (tree_grown cur new g cond i)) (presents_grown cur new g (tree_at (trees cur) cond) presents p)

pub made_next : (old cur mid new : List TermNode) (cond : TermId) (parts : List Part) (presents : List (TermId × TermId)) (ts us vs : List Trigger) (k : ℕ) (p : Part)
    → MadeSoFar old cur cond parts presents ts k → IsIn old cond → k < length parts → p ≡ get_or parts k p
    → Grows cur mid → AddsTrigger mid ts (trigger_at (tree_at (trees cur) cond) p true) us → Grows mid new → AddsTrigger new us (trigger_at (tree_at (trees mid) cond) p false) vs
    → MadeSoFar old new cond parts presents vs (k + 1)
made_next old cur mid new cond parts presents ts us vs k p s i l is g a h b =
    let c = tree_at (trees old) cond in
    let in_cur : IsIn cur cond = in_grown old cur s.grows cond i in
    let gm : Grows cur new = grows_on cur mid new g h in
    let e1 : tree_at (trees cur) cond ≡ c = tree_grown old cur s.grows cond i in
    let e2 : tree_at (trees mid) cond ≡ c = tree_grown cur mid g cond in_cur ∙ e1 in
    let ta : AreTriggers mid a.more (trigger_at c p true) = subst (λ (t : Tree). AreTriggers mid a.more (trigger_at t p true)) e1 a.are in
    let tb : AreTriggers new b.more (trigger_at c p false) = subst (λ (t : Tree). AreTriggers new b.more (trigger_at t p false)) e2 b.are in
    let first : AreTriggers new ts (triggers_at c s.done) = triggers_grown cur new gm ts (triggers_at c s.done) s.are in
    let rise : AreTriggers new a.more (trigger_at c p true) = triggers_grown mid new h a.more (trigger_at c p true) ta in
    let both : AreTriggers new (a.more ++ (b.more ++ [])) (triggers_at c (p ∷ [])) = triggers_append new a.more (b.more ++ []) (trigger_at c p true) (trigger_at c p false ++ []) rise
    (triggers_append new b.more [] (trigger_at c p false) [] tb tt) in
    let all : AreTriggers new (ts ++ (a.more ++ (b.more ++ []))) (triggers_at c s.done ++ triggers_at c (p ∷ [])) = triggers_append new ts (a.more ++ (b.more ++ [])) (triggers_at c s.done)
    (triggers_at c (p ∷ [])) first both in
    let vs_is : vs ≡ ts ++ (a.more ++ (b.more ++ [])) = b.added ∙ ap (λ r. r ++ b.more) a.added ∙ append_assoc ts a.more b.more ∙ ap (λ r. ts ++ (a.more ++ r)) (sym (append-nil b.more)) in
    let up : suc k ≡ k + 1 = omega arith in
    let cut : drop k parts ≡ p ∷ drop (k + 1) parts = drop-cons parts k p l ∙ ap (λ q. q ∷ drop (suc k) parts) (sym is) ∙ ap (λ n. p ∷ drop n parts) up in
    record {
      grows = grows_on old cur new s.grows gm;
      presents_are = presents_on cur new cond presents gm in_cur s.presents_are;
      done = s.done ++ p ∷ [];
      split = s.split ∙ ap (λ r. s.done ++ r) cut ∙ sym (append_assoc s.done (p ∷ []) (drop (k + 1) parts));
      are = subst (λ (xs : List TriggerTree). AreTriggers new vs xs) (sym (at_append c s.done (p ∷ [])))
          (subst (λ (ws : List Trigger). AreTriggers new ws (triggers_at c s.done ++ triggers_at c (p ∷ []))) (sym vs_is) all);
    }

pub made_all : (old cur : List TermNode) (cond : TermId) (parts : List Part) (presents : List (TermId × TermId)) (ts : List Trigger) (k : ℕ) → MadeSoFar old cur cond parts presents ts k → length parts ≤ k
    → AreTriggers cur ts (triggers_at (tree_at (trees old) cond) parts)
made_all old cur cond parts presents ts k s l =
    let e : parts ≡ s.done = s.split ∙ ap (λ r. s.done ++ r) (drop_of_length-le parts l) ∙ append-nil s.done in
    subst (λ (ps : List Part). AreTriggers cur ts (triggers_at (tree_at (trees old) cond) ps)) (sym e) s.are

pub bit_at : (ps : List Part) (k : ℕ) (p : Part) → AllBit ps → k < length ps → p ≡ get_or ps k p → p.ty ≡ int_type 1
bit_at [] k p h l e = absurd (omega arith)
bit_at (q ∷ ps) zero p h l e = ap (λ (r : Part). r.ty) e ∙ h.0
bit_at (q ∷ ps) (suc k) p h l e = bit_at ps k p h.1 (omega arith) e

-- ---- the place of a part

pub place_step : (ps : List Part) (p q : Part) (k : ℕ) → k < length ps → q ≡ get_or ps k q → place_in (drop k ps) p ≡ (if comes_first p q then 0 else place_in (drop (k + 1) ps) p + 1)
place_step ps p q k l e =
    let up : suc k ≡ k + 1 = omega arith in
    ap (λ r. place_in r p) (drop-cons ps k q l)
    ∙ (λ i. if comes_first p (sym e i) then 0 else place_in (drop (suc k) ps) p + 1)
    ∙ ap (λ n. if comes_first p q then 0 else place_in (drop n ps) p + 1) up

pub place_here : (ps : List Part) (p q : Part) (k : ℕ) → k < length ps → q ≡ get_or ps k q → comes_first p q ≡ true → k + place_in (drop k ps) p ≡ place_in ps p → k ≡ place_in ps p
place_here ps p q k l e h s =
    let z : place_in (drop k ps) p ≡ 0 = place_step ps p q k l e ∙ ap (λ (b : Bool). if b then 0 else place_in (drop (k + 1) ps) p + 1) h in
    omega arith

pub place_on : (ps : List Part) (p q : Part) (k : ℕ) → k < length ps → q ≡ get_or ps k q → comes_first p q ≡ false → k + place_in (drop k ps) p ≡ place_in ps p
    → (k + 1) + place_in (drop (k + 1) ps) p ≡ place_in ps p
place_on ps p q k l e h s =
    let z : place_in (drop k ps) p ≡ place_in (drop (k + 1) ps) p + 1 = place_step ps p q k l e ∙ ap (λ (b : Bool). if b then 0 else place_in (drop (k + 1) ps) p + 1) h in
    omega arith

pub place_end : (ps : List Part) (p : Part) (k : ℕ) → length ps ≤ k → k ≤ length ps → k + place_in (drop k ps) p ≡ place_in ps p → length ps ≡ place_in ps p
place_end ps p k l m s =
    let z : place_in (drop k ps) p ≡ 0 = ap (λ r. place_in r p) (drop_of_length-le ps l) in
    omega arith

pub put_at : (ps : List Part) (p : Part) (k : ℕ) → k ≡ place_in ps p → take k ps ++ p ∷ drop k ps ≡ with_part p ps
put_at ps p k e = ap (λ n. take n ps ++ p ∷ drop n ps) e ∙ each ps
  where
    each : (qs : List Part) → take (place_in qs p) qs ++ p ∷ drop (place_in qs p) qs ≡ with_part p qs
    each [] = refl
    each (q ∷ qs) = at (comes_first p q) (each qs)
      where
        at : (b : Bool) → take (place_in qs p) qs ++ p ∷ drop (place_in qs p) qs ≡ with_part p qs
            → take (if b then 0 else place_in qs p + 1) (q ∷ qs) ++ p ∷ drop (if b then 0 else place_in qs p + 1) (q ∷ qs) ≡ (if b then p ∷ q ∷ qs else q ∷ with_part p qs)
        at true r = refl
        at false r = let up : place_in qs p + 1 ≡ suc (place_in qs p) = omega arith in ap (λ n. take n (q ∷ qs) ++ p ∷ drop n (q ∷ qs)) up ∙ ap (λ s. q ∷ s) r

pub put_in_place : {A B : Type 0} (r : Result A B) (old new : List Part) (p : Part) (k : ℕ) → k ≡ place_in old p → OnOk r (new ≡ insert old k p) → OnOk r (new ≡ with_part p old)
put_in_place (Ok x) old new p k e h = h ∙ put_at old p k e
put_in_place (Err x) old new p k e h = tt

pub adds_one_ok : {A B : Type 0} (r : Result A B) (ns : List TermNode) (c : Tree) (p q : Part) (rise : Bool) (gate : TermId) (old new : List Trigger) → q ≡ p → is_bit 0 (gate_of rise p c) ≡ false
    → StandsForTree ns gate (gate_of rise p c)
    → OnOk r (new ≡ old ++ (record { rise = rise; part = q; gate = gate }) ∷ []) → OnOk r (AddsTrigger ns old (trigger_at c p rise) new)
adds_one_ok (Ok x) ns c p q rise gate old new f e s m = adds_one ns c p q rise gate old new f e s m
adds_one_ok (Err x) ns c p q rise gate old new f e s m = tt
