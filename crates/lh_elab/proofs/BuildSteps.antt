-- Signals that are added, and instances that are to be visited.
use Rattle.std.proofs.Common.{◌≡◌, ℕ, zero, suc, ◌+◌, ◌-◌, ◌<◌, ◌≤◌, List, [], ◌∷◌, ◌++◌, length, map, take, drop, get_or, Bool, Option, None, refl, ap, sym, ◌∙◌, subst, arith}
use Rattle.std.proofs.lemmas.List.{append_assoc, append-nil, length-append, length-take-le, map-append, take_more, take_all, take_at, take-append-drop, drop_more}
use Rattle.lh_types.specs.Types.{bit_count}
use Rattle.lh_types.specs.Parts.{bits_with, bits_within}
use Rattle.lh_types.specs.declared.part.Range.{Range}
use Rattle.lh_unit.specs.Contents.{ArgText}
use Rattle.lh_unit.specs.Arena.{Arena}
use Rattle.lh_unit.specs.Hierarchy.{SignalText, zeros}
use Rattle.lh_unit.specs.Design.{carried_type, numbered, initial_bits, signal_ranges, top_signals}
use Rattle.lh_design.specs.declared.Signal.{Signal}
use Rattle.lh_elab.specs.declared.build.Building.{Building}
use Rattle.lh_elab.specs.declared.build.Pending.{Pending}
use Rattle.lh_elab_plan.specs.declared.plan.PlanSignal.{PlanSignal}
use Rattle.lh_elab_plan.specs.declared.plan.PlanChild.{PlanChild}
use Rattle.lh_elab_plan.specs.declared.plan.Low.{Low}
use Rattle.lh_unit.specs.declared.inst.Arg.{Arg}
use Rattle.lh_unit.specs.Naming.{Naming, arg_text}
use Rattle.lh_unit.specs.Table.{ArgsWithin}
use Rattle.lh_elab_plan.specs.Plans.{signal_of, low_at}
use Rattle.lh_elab.specs.Builds.{signal_text, room_of, AddsSignals, KeepsRest, ranges_by, kid, kids}
use Rattle.lh_elab.proofs.SignalNumbers.{room-cons, room-append, numbered-append, ranges-append, initial-append}

-- one after the other
pub adds-more : (old mid new : Building) (i : ℕ) (ss ts : List SignalText) → AddsSignals old mid i ss → AddsSignals mid new i ts → AddsSignals old new i (ss ++ ts)
adds-more old mid new i ss ts p q = record {
  signals =
      q.signals
      ∙ (λ j. p.signals j ++ numbered i (p.lo j) ts)
      ∙ append_assoc (map signal_text old.signals.items) (numbered i old.lo ss) (numbered i (old.lo + room_of ss) ts)
      ∙ ap (λ l. map signal_text old.signals.items ++ l) (sym (numbered-append i old.lo ss ts));
  bits =
      q.bits
      ∙ ap (λ l. l ++ initial_bits ts) p.bits
      ∙ append_assoc (take old.lo old.init) (initial_bits ss) (initial_bits ts)
      ∙ ap (λ l. take old.lo old.init ++ l) (sym (initial-append ss ts));
  lo = let e = room-append ss ts in omega (arith, p.lo, q.lo, e);
  long = q.long ∙ p.long;
}

pub rest-more : (old mid new : Building) → KeepsRest old mid → KeepsRest mid new → KeepsRest old new
rest-more old mid new p q = record { instances = q.instances ∙ p.instances; pending = q.pending ∙ p.pending }

pub ranges-more : (lo next : ℕ) (ss : List SignalText) (s : SignalText) (rs : List Range) (r : Range) → rs ≡ signal_ranges lo ss → next ≡ lo + room_of ss
    → r ≡ record { lo = next; len = bit_count s.ty } → rs ++ r ∷ [] ≡ signal_ranges lo (ss ++ s ∷ [])
ranges-more lo next ss s rs r p q e = (λ j. p j ++ e j ∷ []) ∙ (λ j. let x : Range = record { lo = q j; len = bit_count s.ty } in signal_ranges lo ss ++ x ∷ []) ∙ sym (ranges-append lo ss (s ∷ []))

-- nothing is added
pub adds-none : (b : Building) (i : ℕ) → AddsSignals b b i []
adds-none b i = record { signals = sym (append-nil (map signal_text b.signals.items)); bits = sym (append-nil (take b.lo b.init)); lo = omega arith; long = refl }

-- the bits of one signal
bits-put : (lo : ℕ) (new bs : List Bool) → lo + length new ≤ length bs → take (lo + length new) (bits_with lo (bits_within 0 (length new) new) bs) ≡ take lo bs ++ new
bits-put lo new bs h =
    let e : bits_within 0 (length new) new ≡ new = take_all (length new) new (omega arith) in
    let m : length (take lo bs ++ new) ≡ lo + length new = let x = length-append (take lo bs) new in let y : length (take lo bs) ≡ lo = length-take-le lo bs (omega arith) in omega (arith, x, y) in
    ap (λ n. take (lo + length new) (bits_with lo n bs)) e ∙ take_at (take lo bs ++ new) (drop (lo + length new) bs) (lo + length new) m

pub adds-one : (old new : Building) (i : ℕ) (s : SignalText) (x : Signal) → length s.initial ≡ bit_count s.ty → old.lo + length s.initial ≤ length old.init
    → new.signals.items ≡ old.signals.items ++ x ∷ [] → signal_text x ≡ record { instance = i; name = s.name; ty = s.ty; lo = old.lo }
    → new.init ≡ bits_with old.lo (bits_within 0 (length s.initial) s.initial) old.init → new.lo ≡ old.lo + length s.initial → length new.init ≡ length old.init → AddsSignals old new i (s ∷ [])
adds-one old new i s x f h p e q l long = record {
  signals = ap (map signal_text) p ∙ map-append signal_text old.signals.items (x ∷ []) ∙ ap (λ y. map signal_text old.signals.items ++ y ∷ []) e;
  bits = (λ j. take (l j) (q j)) ∙ bits-put old.lo s.initial old.init h ∙ ap (λ y. take old.lo old.init ++ y) (sym (append-nil s.initial));
  lo = let r = room-cons s [] in omega (arith, l, f, r);
  long = long;
}

-- the next signal, and those before it
pub more-signals : (ps : List PlanSignal) (k : ℕ) (d : PlanSignal) → k < length ps → map signal_of (take (k + 1) ps) ≡ map signal_of (take k ps) ++ signal_of (get_or ps k d) ∷ []
more-signals ps k d h = ap (map signal_of) (take_more ps k d h) ∙ map-append signal_of (take k ps) (get_or ps k d ∷ [])

pub top-append : (xs ys : List ArgText) → top_signals (xs ++ ys) ≡ top_signals xs ++ top_signals ys
top-append [] ys = refl
top-append (x ∷ xs) ys = ap (λ l. record { name = x.name; ty = carried_type x.ty; initial = zeros (carried_type x.ty) } ∷ l) (top-append xs ys)

-- there is room for the next one
pub room-for : (lo next : ℕ) (all : ℕ) (ss ts : List SignalText) (s : SignalText) → lo + room_of ((ss ++ s ∷ []) ++ ts) ≤ all → next ≡ lo + room_of ss → next + bit_count s.ty ≤ all
room-for lo next all ss ts s h e =
    let a = room-append (ss ++ s ∷ []) ts in
    let b = room-append ss (s ∷ []) in
    let c = room-cons s [] in
    omega (arith, h, e, a, b, c)

-- the ranges of arguments, one by one
nothing-at : (i : ℕ) (args sigs : List Range) → let none : List (Option Low) = [] in low_at args sigs (get_or none i None) ≡ 0
nothing-at zero args sigs = refl
nothing-at (suc i) args sigs = refl

length-by : (xs : List Arg) (los : List ℕ) → length (ranges_by xs los) ≡ length xs
length-by [] los = refl
length-by (x ∷ xs) [] = let e = length-by xs [] in omega arith
length-by (x ∷ xs) (l ∷ los) = let e = length-by xs los in omega arith

get-by : (args sigs : List Range) (xs : List Arg) (ls : List (Option Low)) (i : ℕ) (r : Range) (d : Arg) → i < length xs
    → get_or (ranges_by xs (map (low_at args sigs) ls)) i r ≡ record { lo = low_at args sigs (get_or ls i None); len = bit_count (get_or xs i d).ty }
get-by args sigs [] ls i r d h = absurd (omega arith)
get-by args sigs (x ∷ xs) [] zero r d h = refl
get-by args sigs (x ∷ xs) [] (suc i) r d h = get-by args sigs xs [] i r d (omega arith) ∙ (λ j. let y : Range = record { lo = nothing-at i args sigs j; len = bit_count (get_or xs i d).ty } in y)
get-by args sigs (x ∷ xs) (l ∷ ls) zero r d h = refl
get-by args sigs (x ∷ xs) (l ∷ ls) (suc i) r d h = get-by args sigs xs ls i r d (omega arith)

pub by-more : (args sigs : List Range) (xs : List Arg) (ls : List (Option Low)) (i : ℕ) (x : Arg) (rs : List Range) (r : Range) → i < length xs → x ≡ get_or xs i x
    → rs ≡ take i (ranges_by xs (map (low_at args sigs) ls)) → r.lo ≡ low_at args sigs (get_or ls i None) → r.len ≡ bit_count x.ty
    → rs ++ r ∷ [] ≡ take (i + 1) (ranges_by xs (map (low_at args sigs) ls))
by-more args sigs xs ls i x rs r h e p q w =
    let all = ranges_by xs (map (low_at args sigs) ls) in
    let n = length-by xs (map (low_at args sigs) ls) in
    let g : r ≡ get_or all i r = (λ j. let y : Range = record { lo = q j; len = (w ∙ ap (λ (z : Arg). bit_count z.ty) e) j } in y) ∙ sym (get-by args sigs xs ls i r x h) in
    (λ j. p j ++ g j ∷ []) ∙ sym (take_more all i r (omega (arith, n)))

pub by-all : (args sigs : List Range) (xs : List Arg) (ls : List (Option Low)) (i : ℕ) (rs : List Range) → length xs ≤ i → rs ≡ take i (ranges_by xs (map (low_at args sigs) ls))
    → rs ≡ ranges_by xs (map (low_at args sigs) ls)
by-all args sigs xs ls i rs h p = let n = length-by xs (map (low_at args sigs) ls) in p ∙ take_all i (ranges_by xs (map (low_at args sigs) ls)) (omega (arith, n))

-- the instances in an instance, from the last to the first
pub kids-more : (a : Arena) (n k : ℕ) (args sigs : List Range) (cs : List PlanChild) (i : ℕ) (c : PlanChild) (old cur new : List Pending) (x : Pending) → i < length cs
    → c ≡ get_or cs (length cs - 1 - i) c → cur ≡ old ++ kids a n k args sigs (drop (length cs - i) cs) → new ≡ cur ++ x ∷ [] → x ≡ kid a n k args sigs c
    → new ≡ old ++ kids a n k args sigs (drop (length cs - (i + 1)) cs)
kids-more a n k args sigs cs i c old cur new x h e p q w =
    let j = length cs - (i + 1) in
    let f : drop j cs ≡ get_or cs j c ∷ drop (j + 1) cs = drop_more cs j c (omega arith) in
    let g : j + 1 ≡ length cs - i = omega arith in
    let m : length cs - 1 - i ≡ j = omega arith in
    let y : get_or cs j c ≡ c = sym (e ∙ ap (λ t. get_or cs t c) m) in
    let z : drop j cs ≡ c ∷ drop (length cs - i) cs = f ∙ (λ t. y t ∷ drop (g t) cs) in
    q ∙ (λ t. p t ++ w t ∷ []) ∙ append_assoc old (kids a n k args sigs (drop (length cs - i) cs)) (kid a n k args sigs c ∷ []) ∙ ap (λ l. old ++ kids a n k args sigs l) (sym z)

-- room for the rest
pub room-next : (lo next all : ℕ) (xs : List PlanSignal) (k : ℕ) (x : PlanSignal) → k < length xs → x ≡ get_or xs k x → lo + room_of (map signal_of xs) ≤ all
    → next ≡ lo + room_of (map signal_of (take k xs)) → next + bit_count x.ty ≤ all
room-next lo next all xs k x h e r n =
    let a : room_of (map signal_of xs) ≡ room_of (map signal_of (take (k + 1) xs)) + room_of (map signal_of (drop (k + 1) xs)) =
    ap (λ l. room_of (map signal_of l)) (sym (take-append-drop (k + 1) xs)) ∙ ap room_of (map-append signal_of (take (k + 1) xs) (drop (k + 1) xs))
    ∙ room-append (map signal_of (take (k + 1) xs)) (map signal_of (drop (k + 1) xs)) in
    let b : room_of (map signal_of (take (k + 1) xs)) ≡ room_of (map signal_of (take k xs)) + room_of (signal_of x ∷ []) =
    ap room_of (more-signals xs k x h ∙ ap (λ y. map signal_of (take k xs) ++ signal_of y ∷ []) (sym e)) ∙ room-append (map signal_of (take k xs)) (signal_of x ∷ []) in
    let c = room-cons (signal_of x) [] in
    omega (arith, a, b, c, r, n)

abbrev pub top_of : ArgText → SignalText
top_of x = record { name = x.name; ty = carried_type x.ty; initial = zeros (carried_type x.ty) }

pub more-args : (xs : List ArgText) (k : ℕ) (x : ArgText) → k < length xs → x ≡ get_or xs k x → top_signals (take (k + 1) xs) ≡ top_signals (take k xs) ++ top_of x ∷ []
more-args xs k x h e = ap top_signals (take_more xs k x h) ∙ top-append (take k xs) (get_or xs k x ∷ []) ∙ ap (λ y. top_signals (take k xs) ++ top_of y ∷ []) (sym e)

pub room-arg : (lo next all : ℕ) (xs : List ArgText) (k : ℕ) (x : ArgText) → k < length xs → x ≡ get_or xs k x → lo + room_of (top_signals xs) ≤ all → next ≡ lo + room_of (top_signals (take k xs))
    → next + bit_count (carried_type x.ty) ≤ all
room-arg lo next all xs k x h e r n =
    let a : room_of (top_signals xs) ≡ room_of (top_signals (take (k + 1) xs)) + room_of (top_signals (drop (k + 1) xs)) =
    ap (λ l. room_of (top_signals l)) (sym (take-append-drop (k + 1) xs)) ∙ ap room_of (top-append (take (k + 1) xs) (drop (k + 1) xs))
    ∙ room-append (top_signals (take (k + 1) xs)) (top_signals (drop (k + 1) xs)) in
    let b : room_of (top_signals (take (k + 1) xs)) ≡ room_of (top_signals (take k xs)) + room_of (top_of x ∷ []) = ap room_of (more-args xs k x h e)
    ∙ room-append (top_signals (take k xs)) (top_of x ∷ []) in
    let c = room-cons (top_of x) [] in
    omega (arith, a, b, c, r, n)

-- the text of an argument at an index
pub arg-at : (f : Naming) (xs : List Arg) (k : ℕ) (x : Arg) → k < length xs → x ≡ get_or xs k x → arg_text f x ≡ get_or (map (arg_text f) xs) k (arg_text f x)
arg-at f [] k x h e = absurd (omega arith)
arg-at f (y ∷ xs) zero x h e = ap (arg_text f) e
arg-at f (y ∷ xs) (suc k) x h e = arg-at f xs k x (omega arith) e

pub args-in : (n : ℕ) (xs : List Arg) (k : ℕ) (x : Arg) → k < length xs → x ≡ get_or xs k x → ArgsWithin n xs → x.value.0 < n
args-in n [] k x h e w = absurd (omega arith)
args-in n (y ∷ xs) zero x h e w = subst (λ (z : Arg). z.value.0 < n) (sym e) w.0
args-in n (y ∷ xs) (suc k) x h e w = args-in n xs k x (omega arith) e w.1
