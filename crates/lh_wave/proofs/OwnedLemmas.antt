-- Numbers in lists by their owners.
use Rattle.std.proofs.Common.{◌≡◌, ℕ, zero, suc, ◌+◌, ◌<◌, ◌≤◌, Bool, true, false, List, [], ◌∷◌, ◌++◌, length, map, take, get_or, refl, ap, sym, ◌∙◌, subst, if◌then◌else◌, Option, Some, None, vec_len, arith}
use Rattle.std.specs.Prelude.{slice_get, option_map, nat_eq, ◌-◌, codes, Result, Ok, Err, IfOk}
use Rattle.std.specs.Option.{option_map_or}
use Rattle.std.specs.List.{flat_map, join_with_byte}
use Rattle.std.proofs.lemmas.Option.{slice_get-map, slice_get-get_or}
use Rattle.std.specs.declared.vec.Vec.{Vec}
use Rattle.std.specs.Global.{Global}
use Rattle.std.proofs.lemmas.List.{length-take, length-map, get_or-map, take_more, take_all}
use Rattle.lh_unit.specs.Within.{Each}
use Rattle.lh_unit.specs.Arena.{Arena}
use Rattle.lh_unit.specs.Trace.{Shown, ShownSignal, shown_from, shown_signal}
use Rattle.lh_unit.specs.Paths.{shown_in, label_at, path_at, labels_to, labels_by}
use Rattle.lh_eval.specs.declared.instance.Instance.{Instance}
use Rattle.lh_design.specs.declared.Design.{Design}
use Rattle.lh_design.specs.declared.Signal.{Signal}
use Rattle.lh_types.specs.Types.{IsData, bit_count}
use Rattle.lh_design.specs.Filling.{FillFrom}
use Rattle.lh_design.specs.Texts.{design_text, instance_text, signal_text}
use Rattle.lh_wave.specs.HeadText.{is_parent, children_of, variables_of, variable_line, signals_in, scope_line, upscope_line, scope_text, waveform_head}
use Rattle.lh_wave.specs.Owned.{parents, owners, owned_by, numbers_of, with_number, AreOwned, variable_at}
use Rattle.lh_elab.specs.Answer.{IsDesignOf}
use Rattle.lh_text_buffer.specs.Writing.{Written, Writes}
use Rattle.lh_text_buffer.proofs.Parts.{two-written}
use Rattle.lh_wave.proofs.FrameLemmas.{Writing, Writing-next_at}

-- a number in front of a list stays there
in_front : (k n o : ℕ) (x : Option ℕ) (list : List ℕ) → k ∷ with_number x n o list ≡ with_number x n o (k ∷ list)
in_front k n o x list = by (is_parent o x)
  where
    by : (b : Bool) → k ∷ (if b then list ++ n ∷ [] else list) ≡ (if b then (k ∷ list) ++ n ∷ [] else k ∷ list)
    by true = refl
    by false = refl

more_by : (b : Bool) (k : ℕ) (l m : List ℕ) (o n : ℕ) (y : Option ℕ) → l ≡ with_number y n o m → (if b then k ∷ l else l) ≡ with_number y n o (if b then k ∷ m else m)
more_by true k l m o n y e = ap (λ x. k ∷ x) e ∙ in_front k n o y m
more_by false k l m o n y e = e

-- one more that is owned
owned_more : (o k : ℕ) (xs : List (Option ℕ)) (y : Option ℕ) (n : ℕ) → n ≡ k + length xs → owned_by o k (xs ++ y ∷ []) ≡ with_number y n o (owned_by o k xs)
owned_more o k [] y n e = let s : n ≡ k = omega arith in ap (λ m. if is_parent o y then m ∷ [] else []) (sym s)
owned_more o k (x ∷ xs) y n e = more_by (is_parent o x) k (owned_by o (k + 1) (xs ++ y ∷ [])) (owned_by o (k + 1) xs) o n y (owned_more o (k + 1) xs y n (omega arith))

-- lists with the numbers of the first owners, and of one more
pub owned_next : (old new : Vec (Vec ℕ Global) Global) (count i : ℕ) (os : List (Option ℕ)) (o : Option ℕ) → i < length os → o ≡ get_or os i o → vec_len new ≡ vec_len old
    → ((k : ℕ) → k < vec_len old → numbers_of new k ≡ with_number o i k (numbers_of old k)) → AreOwned old count (take i os) → AreOwned new count (take (i + 1) os)
owned_next old new count i os o l e level added a = record {
  level = level ∙ a.level;
  each = λ k h.
      let within : k < vec_len old = omega (arith, a.level) in
      let long : i ≡ 0 + length (take i os) = omega (arith, length-take i os) in
      added k within ∙ ap (with_number o i k) (a.each k h) ∙ sym (owned_more k 0 (take i os) o i long)
      ∙ ap (owned_by k 0) (sym (take_more os i o l ∙ ap (λ x. take i os ++ x ∷ []) (sym e)));
}

-- one more list without a number
none_more : (ls : List (Vec ℕ Global)) (l : Vec ℕ Global) → l.items ≡ [] → ((k : ℕ) → k < length ls → option_map_or (λ (list : Vec ℕ Global). list.items) (slice_get ls k) [] ≡ [])
    → (k : ℕ) → k < length ls + 1 → option_map_or (λ (list : Vec ℕ Global). list.items) (slice_get (ls ++ l ∷ []) k) [] ≡ []
none_more [] l e h zero b = e
none_more [] l e h (suc k) b = absurd (omega arith)
none_more (x ∷ ls) l e h zero b = h 0 (omega arith)
none_more (x ∷ ls) l e h (suc k) b = none_more ls l e (λ j m. h (suc j) (omega arith)) k (omega arith)

pub none_owned : (old new : Vec (Vec ℕ Global) Global) (l : Vec ℕ Global) (count : ℕ) → length old.items ≡ vec_len old → vec_len new ≡ vec_len old + 1 → new.items ≡ old.items ++ l ∷ [] → l.items ≡ []
    → AreOwned old count [] → AreOwned new (count + 1) []
none_owned old new l count o n g e a = record {
  level = omega (arith, n, a.level);
  each = λ k h. ap (λ ls. option_map_or (λ (list : Vec ℕ Global). list.items) (slice_get ls k) []) g
      ∙ none_more old.items l e (λ j m. a.each j (omega (arith, o, a.level))) k (omega (arith, o, a.level));
}

pub owned_end : (lists : Vec (Vec ℕ Global) Global) (count i : ℕ) (os : List (Option ℕ)) → length os ≤ i → AreOwned lists count (take i os) → AreOwned lists count os
owned_end lists count i os l a = subst (AreOwned lists count) (take_all i os l) a

below_by : (b : Bool) (n k : ℕ) (l : List ℕ) → k < n → Each (λ (j : ℕ). j < n) l → Each (λ (j : ℕ). j < n) (if b then k ∷ l else l)
below_by true n k l h e = (h, e)
below_by false n k l h e = e

-- what an owner owns has numbers of what there is
owned_below : (o k n : ℕ) (xs : List (Option ℕ)) → k + length xs ≤ n → Each (λ (j : ℕ). j < n) (owned_by o k xs)
owned_below o k n [] h = tt
owned_below o k n (x ∷ xs) h = below_by (is_parent o x) n k (owned_by o (k + 1) xs) (omega arith) (owned_below o (k + 1) n xs (omega arith))

pub each_at : (P : ℕ → Type 0) (xs : List ℕ) (i : ℕ) → Each P xs → i < length xs → P (get_or xs i 0)
each_at P [] i h l = absurd (omega arith)
each_at P (x ∷ xs) zero h l = h.0
each_at P (x ∷ xs) (suc i) h l = each_at P xs i h.1 (omega arith)

-- the children of an instance, by what each instance is owned by
children_owned : (a : Arena) (i k : ℕ) (is : List Instance) → children_of i k (shown_from k (map (instance_text a) is)) ≡ owned_by i k (map (λ (x : Instance). x.parent) is)
children_owned a i k [] = refl
children_owned a i k (x ∷ is) = ap (λ l. if is_parent i x.parent then k ∷ l else l) (children_owned a i (k + 1) is)

pub children_in : (a : Arena) (d : Design) (lists : Vec (Vec ℕ Global) Global) (i : ℕ) → AreOwned lists (length d.instances.items) (parents d) → i < length d.instances.items
    → numbers_of lists i ≡ children_of i 0 (shown_in (design_text a d))
children_in a d lists i o h = o.each i h ∙ sym (children_owned a i 0 d.instances.items)

pub children_below : (d : Design) (lists : Vec (Vec ℕ Global) Global) (i : ℕ) → AreOwned lists (length d.instances.items) (parents d) → i < length d.instances.items
    → Each (λ (j : ℕ). j < length d.instances.items) (numbers_of lists i)
children_below d lists i o h =
    let few : 0 + length (parents d) ≤ length d.instances.items = omega (arith, length-map d.instances.items (λ (x : Instance). x.parent)) in
    subst (Each (λ (j : ℕ). j < length d.instances.items)) (sym (o.each i h)) (owned_below i 0 (length d.instances.items) (parents d) few)

pub signals_below : (d : Design) (lists : Vec (Vec ℕ Global) Global) (i : ℕ) → AreOwned lists (length d.instances.items) (owners d) → i < length d.instances.items
    → Each (λ (j : ℕ). j < length d.signals.items) (numbers_of lists i)
signals_below d lists i o h =
    let few : 0 + length (owners d) ≤ length d.signals.items = omega (arith, length-map d.signals.items (λ (x : Signal). Some x.instance)) in
    subst (Each (λ (j : ℕ). j < length d.signals.items)) (sym (o.each i h)) (owned_below i 0 (length d.signals.items) (owners d) few)

-- the further signals stand from a number on
abbrev StandsFrom : (n : ℕ) → (all ss : List ShownSignal) → Type 0
StandsFrom n all ss = (j : ℕ) → slice_get all (n + j) ≡ slice_get ss j

variables_by : (b : Bool) (all : List ShownSignal) (n : ℕ) (l line rest : List ℕ) → variable_at all n ≡ line → flat_map (variable_at all) l ≡ rest
    → flat_map (variable_at all) (if b then n ∷ l else l) ≡ (if b then line else []) ++ rest
variables_by true all n l line rest e g = ap (λ x. x ++ flat_map (variable_at all) l) e ∙ ap (λ x. line ++ x) g
variables_by false all n l line rest e g = g

-- the lines of the signals of an instance, by their numbers
variables_owned : (i n : ℕ) (all : List ShownSignal) (ss : List Signal) → StandsFrom n all (map shown_signal (map signal_text ss))
    → flat_map (variable_at all) (owned_by i n (map (λ (s : Signal). Some s.instance) ss)) ≡ variables_of i n (map shown_signal (map signal_text ss))
variables_owned i n all [] st = refl
variables_owned i n all (s ∷ ss) st =
    let z : n ≡ n + 0 = omega arith in
    let here : variable_at all n ≡ variable_line (bit_count s.ty) n s.name =
    ap (λ (o : Option ShownSignal). option_map_or (λ (x : ShownSignal). variable_line (bit_count x.ty) n x.name) o []) (ap (slice_get all) z ∙ st 0) in
    variables_by (nat_eq s.instance i) all n (owned_by i (n + 1) (map (λ (x : Signal). Some x.instance) ss)) (variable_line (bit_count s.ty) n s.name)
    (variables_of i (n + 1) (map shown_signal (map signal_text ss))) here
    (variables_owned i (n + 1) all ss (λ j. let e : n + 1 + j ≡ n + suc j = omega arith in ap (slice_get all) e ∙ st (suc j)))

pub variables_in : (a : Arena) (d : Design) (lists : Vec (Vec ℕ Global) Global) (i : ℕ) → AreOwned lists (length d.instances.items) (owners d) → i < length d.instances.items
    → flat_map (variable_at (signals_in (design_text a d))) (numbers_of lists i) ≡ variables_of i 0 (signals_in (design_text a d))
variables_in a d lists i o h =
    ap (flat_map (variable_at (signals_in (design_text a d)))) (o.each i h)
    ∙ variables_owned i 0 (signals_in (design_text a d)) d.signals.items (λ j. let e : 0 + j ≡ j = omega arith in ap (slice_get (signals_in (design_text a d))) e)

-- the line of a signal that is there
pub variable_here : (a : Arena) (d : Design) (k : ℕ) (s : Signal) → k < length d.signals.items → s ≡ get_or d.signals.items k s
    → variable_at (signals_in (design_text a d)) k ≡ variable_line (bit_count s.ty) k s.name
variable_here a d k s h e =
    let there : slice_get d.signals.items k ≡ Some s = slice_get-get_or d.signals.items k s h ∙ ap Some (sym e) in
    ap (λ (o : Option ShownSignal). option_map_or (λ (x : ShownSignal). variable_line (bit_count x.ty) k x.name) o [])
    (slice_get-map shown_signal (map signal_text d.signals.items) k ∙ ap (option_map shown_signal) (slice_get-map signal_text d.signals.items k ∙ ap (option_map signal_text) there))

-- signals that fill bits are of data types
pub is_data_at : (lo hi k : ℕ) (ss : List Signal) (s : Signal) → FillFrom lo ss hi → k < length ss → s ≡ get_or ss k s → IsData s.ty
is_data_at lo hi k [] s f h e = absurd (omega arith)
is_data_at lo hi zero (x ∷ ss) s f h e = subst (λ (y : Signal). IsData y.ty) (sym e) f.1
is_data_at lo hi (suc k) (x ∷ ss) s f h e = is_data_at (lo + bit_count x.ty) hi k ss s f.2 (omega arith) e

-- where there is no instance there is no path
pub no_path : (a : Arena) (d : Design) (k : ℕ) → length d.instances.items ≤ k → path_at (shown_in (design_text a d)) k ≡ []
unfolding path_at
no_path a d k h = ap (λ (o : Option Shown). join_with_byte 46 (labels_by (labels_to k (shown_in (design_text a d))) o)) (past 0 d.instances.items k h)
  where
    past : (n : ℕ) (is : List Instance) (j : ℕ) → length is ≤ j → slice_get (shown_from n (map (instance_text a) is)) j ≡ None
    past n [] j h = refl
    past n (x ∷ is) zero h = absurd (omega arith)
    past n (x ∷ is) (suc j) h = past (n + 1) is j (omega arith)

length_shown : (a : Arena) (n : ℕ) (is : List Instance) → length (shown_from n (map (instance_text a) is)) ≡ length is
length_shown a n [] = refl
length_shown a n (x ∷ is) = ap suc (length_shown a (n + 1) is)

-- the whole scope of an instance
pub scope_whole : (a : Arena) (d : Design) (children signals : Vec (Vec ℕ Global) Global) (steps i : ℕ) (start one two three now : Written) (numbers kids : List ℕ) → (steps ≡ 0 → ⊥)
    → AreOwned children (length d.instances.items) (parents d) → AreOwned signals (length d.instances.items) (owners d) → i < length d.instances.items → numbers ≡ numbers_of signals i
    → kids ≡ numbers_of children i
    → Writes start one (scope_line (label_at (shown_in (design_text a d)) i)) → Writes one two (flat_map (variable_at (signals_in (design_text a d))) numbers)
    → Writes two three (flat_map (scope_text (steps - 1) (shown_in (design_text a d)) (signals_in (design_text a d))) kids) → Writes three now upscope_line
    → Writes start now (scope_text steps (shown_in (design_text a d)) (signals_in (design_text a d)) i)
scope_whole a d children signals steps i start one two three now numbers kids z oc os h en ek e1 e2 e3 e =
    let all = shown_in (design_text a d) in
    let ss = signals_in (design_text a d) in
    let n : steps ≡ suc (steps - 1) = not_zero steps z in
    let lines : List ℕ = variables_of i 0 ss in
    let below : List ℕ = flat_map (scope_text (steps - 1) all ss) (children_of i 0 all) in
    let label : List ℕ = scope_line (label_at all i) in
    let second : Writes one two lines = subst (Writes one two) (ap (flat_map (variable_at ss)) en ∙ variables_in a d signals i os h) e2 in
    let third : Writes two three below = subst (Writes two three) (ap (flat_map (scope_text (steps - 1) all ss)) (ek ∙ children_in a d children i oc h)) e3 in
    subst (Writes start now) (ap (λ m. scope_text m all ss i) (sym n))
    (two-written start three now ((label ++ lines) ++ below) upscope_line (two-written start two three (label ++ lines) below (two-written start one two label lines e1 second) third) e)
  where
    not_zero : (m : ℕ) → (m ≡ 0 → ⊥) → m ≡ suc (m - 1)
    not_zero zero f = absurd (f refl)
    not_zero (suc m) f = omega arith

-- the whole head
pub head_whole : {E : Type 0} (r : Result (Vec ℕ Global) E) (a : Arena) (d : Design) (steps : ℕ) (start one two now : Written) → steps ≡ length d.instances.items → start.items ≡ []
    → Writes start one (codes "$timescale 1 fs $end\n") → Writes one two (scope_text steps (shown_in (design_text a d)) (signals_in (design_text a d)) 0)
    → Writes two now (codes "$enddefinitions $end\n") → IfOk r (λ text. now.is_whole ≡ true) → IfOk r (λ text. text.items ≡ now.items)
    → IfOk r (λ text. text.items ≡ waveform_head (shown_in (design_text a d)) (signals_in (design_text a d)))
head_whole (Err x) a d steps start one two now n z e1 e2 e3 w t = tt
head_whole (Ok x) a d steps start one two now n z e1 e2 e3 w t =
    let all = shown_in (design_text a d) in
    let ss = signals_in (design_text a d) in
    let count : steps ≡ length all = n ∙ sym (length_shown a 0 d.instances.items) in
    let scopes : List ℕ = scope_text steps all ss 0 in
    let written = two-written start two now (codes "$timescale 1 fs $end\n" ++ scopes) (codes "$enddefinitions $end\n") (two-written start one two (codes "$timescale 1 fs $end\n") scopes e1 e2) e3 w in
    t ∙ written.1 ∙ ap (λ l. l ++ ((codes "$timescale 1 fs $end\n" ++ scopes) ++ codes "$enddefinitions $end\n")) z
    ∙ ap (λ k. (codes "$timescale 1 fs $end\n" ++ scope_text k all ss 0) ++ codes "$enddefinitions $end\n") count

-- the line of one more signal
pub variable_next : (a : Arena) (d : Design) (ss : List Signal) (xs : List ℕ) (start to next : Written) (name : List ℕ) (i : ℕ) (s : Signal)
    → Writing (variable_at (signals_in (design_text a d))) start to xs i
    → i < length xs
    → Each (λ (k : ℕ). k < length d.signals.items) xs → ss ≡ d.signals.items → s ≡ get_or ss (get_or xs i 0) s → name ≡ s.name
    → Writes to next (variable_line (bit_count s.ty) (get_or xs i 0) name)
    → Writing (variable_at (signals_in (design_text a d))) start next xs (i + 1)
variable_next a d ss xs start to next name i s w h below whole is n g =
    let known : get_or xs i 0 < length d.signals.items = each_at (λ (k : ℕ). k < length d.signals.items) xs i below h in
    let here : s ≡ get_or d.signals.items (get_or xs i 0) s = is ∙ ap (λ (l : List Signal). get_or l (get_or xs i 0) s) whole in
    Writing-next_at (variable_at (signals_in (design_text a d))) start to next xs i 0 w h
    (subst (Writes to next) (ap (variable_line (bit_count s.ty) (get_or xs i 0)) n ∙ sym (variable_here a d (get_or xs i 0) s known here)) g)

pub is_data_in : (a : Arena) (d : Design) (ss : List Signal) (xs : List ℕ) (i : ℕ) (s : Signal) → IsDesignOf a d → Each (λ (k : ℕ). k < length d.signals.items) xs → i < length xs
    → ss ≡ d.signals.items
    → s ≡ get_or ss (get_or xs i 0) s → IsData s.ty
is_data_in a d ss xs i s o below h whole is =
    let known : get_or xs i 0 < length d.signals.items = each_at (λ (k : ℕ). k < length d.signals.items) xs i below h in
    is_data_at 0 (length d.init) (get_or xs i 0) d.signals.items s o.fill known (is ∙ ap (λ (l : List Signal). get_or l (get_or xs i 0) s) whole)

pub signals_known : (d : Design) (lists : Vec (Vec ℕ Global) Global) (i : ℕ) (numbers : List ℕ) → numbers ≡ numbers_of lists i → AreOwned lists (length d.instances.items) (owners d)
    → i < length d.instances.items
    → Each (λ (k : ℕ). k < length d.signals.items) numbers
signals_known d lists i numbers e o h = subst (Each (λ (k : ℕ). k < length d.signals.items)) (sym e) (signals_below d lists i o h)

pub child_known : (d : Design) (lists : Vec (Vec ℕ Global) Global) (i j : ℕ) (numbers : List ℕ) → numbers ≡ numbers_of lists i → AreOwned lists (length d.instances.items) (parents d)
    → i < length d.instances.items
    → j < length numbers → get_or numbers j 0 < length d.instances.items
child_known d lists i j numbers e o h l =
    each_at (λ (k : ℕ). k < length d.instances.items) numbers j (subst (Each (λ (k : ℕ). k < length d.instances.items)) (sym e) (children_below d lists i o h)) l

-- the owner of one more
pub owner_next : {X : Type 0} (owner : X → Option ℕ) (old new : Vec (Vec ℕ Global) Global) (count i : ℕ) (xs ys : List X) (x : X) → xs ≡ ys → i < length xs → x ≡ get_or xs i x
    → vec_len new ≡ vec_len old
    → ((k : ℕ) → k < vec_len old → numbers_of new k ≡ with_number (owner x) i k (numbers_of old k)) → AreOwned old count (take i (map owner ys)) → AreOwned new count (take (i + 1) (map owner ys))
owner_next owner old new count i xs ys x whole h e level added a =
    let same : length xs ≡ length ys = ap length whole in
    let within : i < length (map owner ys) = omega (arith, length-map ys owner) in
    let here : i < length ys = omega arith in
    let is : owner x ≡ get_or (map owner ys) i (owner x) = ap owner (e ∙ ap (λ l. get_or l i x) whole) ∙ sym (get_or-map owner ys i x (owner x) here) in
    owned_next old new count i (map owner ys) (owner x) within is level added a
