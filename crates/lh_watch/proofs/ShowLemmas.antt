use Rattle.std.proofs.Common.{◌≡◌, ℕ, suc, ◌+◌, ◌<◌, ◌≤◌, List, [], ◌∷◌, ◌++◌, length, get_or, set, map, filter, refl, ap, sym, ◌∙◌, arith, remove, add-zero, zero-add, subst, Result, Ok, Err, IfOk, OnErr, Option, Some, None, Bool, true, false, not, cond, append_assoc, length-append, inl, inr}
use Rattle.std.specs.Option.{option_or}
use Rattle.std.specs.List.{position_from}
use Rattle.std.proofs.Math.Seq.{map-set_same}
use Rattle.std.proofs.lemmas.List.{append-nil, map-append, length-map}
use Rattle.std.proofs.lemmas.List.Elements.{filter-append}
use Rattle.std.proofs.lemmas.Grind.{flat_map-append}
use Rattle.std.specs.List.Retain.{IsFiltered}
use Rattle.std.proofs.lemmas.Fn.{filter_same}
use Rattle.lh_watch.proofs.Lists.{filter_map_view, map_split_set, map_split_get, map_split_remove}
use Rattle.lh_watch.specs.declared.watcher.Next.{Next}
use Rattle.lh_watch.specs.declared.watcher.Next.TheVariants.{Go, Done, Stop}
use Rattle.lh_types.specs.Pictures.{Picture}
use Rattle.lh_watch.specs.Members.{Member, TookFrame, seen, says, report_of, is_done, is_stop}
use Rattle.lh_watch.specs.Shown.{stays, shown, reports_of, first_stop, IsPartlyShown}

-- a frame shown to the object at the place k, seen through the list of members
pub frame_ok : {X E : Type 0} (r : Result Next E) (f : Picture) (view : X → Member) (xs : List X) (k : ℕ) (old new : X) → old ≡ get_or xs k old → IfOk r (TookFrame f (view old) (view new))
    → IfOk r (λ next. (b a : List Member) (m : Member) → map view xs ≡ b ++ m ∷ a → length b ≡ k → (says f m ≡ next) × (map view (set xs k new) ≡ b ++ seen f m ∷ a))
frame_ok (Ok next) f view xs k old new read a = λ b after m e l.
    let same : view old ≡ m = map_split_get view xs k old b m after e l read in
    (ap (says f) (sym same) ∙ a.said, map_split_set view xs k new b m after e l ∙ ap (λ y. b ++ y ∷ after) (a.kept ∙ ap (seen f) same))
frame_ok (Err e) f view xs k old new read a = tt

pub frame_err : {X E : Type 0} (r : Result Next E) (view : X → Member) (xs : List X) (k : ℕ) (old new : X) → old ≡ get_or xs k old → OnErr r (view new ≡ view old)
    → OnErr r (map view (set xs k new) ≡ map view xs)
frame_err (Ok next) view xs k old new read a = tt
frame_err (Err e) view xs k old new read a = map-set_same view xs k new old (a ∙ ap view read)

pub retire_ok : {X : Type 0} (view : X → Member) (xs ys : List X) (k : ℕ) (x : X) (now before : List ℕ) → x ≡ get_or xs k x → ys ≡ remove xs k → now ≡ before ++ report_of (view x)
    → (b a : List Member) (m : Member) → map view xs ≡ b ++ m ∷ a → length b ≡ k → (now ≡ before ++ report_of m) × (map view ys ≡ b ++ a)
retire_ok view xs ys k x now before read gone text b a m e l =
    (text ∙ ap (λ y. before ++ report_of y) (map_split_get view xs k x b m a e l read), ap (map view) gone ∙ map_split_remove view xs k b m a e l)

position_from_push : {X : Type 0} (t : X → Bool) (i : ℕ) (xs : List X) (x : X) → position_from t i (xs ++ x ∷ []) ≡ option_or (position_from t i xs) (cond (t x) (Some (i + length xs)) None)
position_from_push t i [] x = rw add-zero refl
position_from_push t i (y ∷ xs) x = elim (t y) as
    (λ v. cond v (Some i) (position_from t (i + 1) (xs ++ x ∷ [])) ≡ option_or (cond v (Some i) (position_from t (i + 1) xs)) (cond (t x) (Some (i + suc (length xs))) None))
    [ true ↦ refl | false ↦ position_from_push t (i + 1) xs x ∙ ap (λ n. option_or (position_from t (i + 1) xs) (cond (t x) (Some n) None)) (omega arith) ]

stays_from : (f : Picture) (m : Member) (b : Bool) → is_done (says f m) ≡ b → filter (stays f) (m ∷ []) ≡ cond b [] (m ∷ [])
stays_from f m b h = rw h (elim b as (λ v. cond (not v) (m ∷ []) [] ≡ cond v [] (m ∷ [])) [ true ↦ refl | false ↦ refl ])

shown_stays : (f : Picture) (b : List Member) (m : Member) → is_done (says f m) ≡ false → shown f (b ++ m ∷ []) ≡ shown f b ++ seen f m ∷ []
shown_stays f b m h = rw (filter-append, stays_from f m false h, map-append) refl

shown_done : (f : Picture) (b : List Member) (m : Member) → is_done (says f m) ≡ true → shown f (b ++ m ∷ []) ≡ shown f b
shown_done f b m h = rw (filter-append, stays_from f m true h, append-nil) refl

reports_stays : (f : Picture) (b : List Member) (m : Member) → is_done (says f m) ≡ false → reports_of f (b ++ m ∷ []) ≡ reports_of f b
reports_stays f b m h = rw (filter-append, h, append-nil) refl

reports_done : (f : Picture) (b : List Member) (m : Member) → is_done (says f m) ≡ true → reports_of f (b ++ m ∷ []) ≡ reports_of f b ++ report_of (seen f m)
reports_done f b m h = rw (filter-append, h, flat_map-append, append-nil) refl

stop_stays : (f : Picture) (b : List Member) (m : Member) (s : Bool) → is_done (says f m) ≡ false → is_stop (says f m) ≡ s
    → first_stop f (b ++ m ∷ []) ≡ option_or (first_stop f b) (cond s (Some (length (shown f b))) None)
stop_stays f b m s h t = rw (filter-append, stays_from f m false h, position_from_push, t, zero-add, length-map) refl

stop_done : (f : Picture) (b : List Member) (m : Member) → is_done (says f m) ≡ true → first_stop f (b ++ m ∷ []) ≡ first_stop f b
stop_done f b m h = rw (filter-append, stays_from f m true h, append-nil) refl

option_or_none : {X : Type 0} (o : Option X) → option_or o None ≡ o
option_or_none None = refl
option_or_none (Some x) = refl

-- how far a frame was shown: to the members before, w is the list as it stands
pub record Progress (f : Picture) (old : List Member) (to0 : List ℕ) (w : List Member) (k : ℕ) (to : List ℕ) (stop : Option ℕ) : Type 0 where
  pub before : List Member
  pub after : List Member
  pub split : old ≡ before ++ after
  pub now : w ≡ shown f before ++ after
  pub place : length (shown f before) ≡ k
  pub text : to ≡ to0 ++ reports_of f before
  pub found : stop ≡ first_stop f before

pub Progress-start : (f : Picture) (old : List Member) (to : List ℕ) → Progress f old to old 0 to None
Progress-start f old to = record { before = []; after = old; split = refl; now = refl; place = refl; text = sym (append-nil to); found = refl }

-- what happened to the member at the place k
abbrev pub Took : Picture → List Member → ℕ → Next → List Member → Type 0
Took f w k next w' = (b a : List Member) (m : Member) → w ≡ b ++ m ∷ a → length b ≡ k → (says f m ≡ next) × (w' ≡ b ++ seen f m ∷ a)

append_move : {X : Type 0} (b : List X) (m : X) (a : List X) → b ++ m ∷ a ≡ (b ++ m ∷ []) ++ a
append_move b m a = sym (append_assoc b (m ∷ []) a)

-- the member at k stays, and says stop or not
stay_at : (f : Picture) (old : List Member) (to0 : List ℕ) (w : List Member) (k : ℕ) (to : List ℕ) (stop : Option ℕ) (w' : List Member) (next : Next) (s : Bool) → is_done next ≡ false
    → is_stop next ≡ s
    → (before after : List Member) → old ≡ before ++ after → w ≡ shown f before ++ after → length (shown f before) ≡ k → to ≡ to0 ++ reports_of f before → stop ≡ first_stop f before
    → k < length w → Took f w k next w' → Progress f old to0 w' (k + 1) to (option_or stop (cond s (Some k) None))
stay_at f old to0 w k to stop w' next s d t before [] split now place text found lt took =
    absurd (let e : length w ≡ length (shown f before) + 0 = ap length now ∙ length-append (shown f before) [] in omega arith)
stay_at f old to0 w k to stop w' next s d t before (m ∷ rest) split now place text found lt took =
    let r : (says f m ≡ next) × (w' ≡ shown f before ++ seen f m ∷ rest) = took (shown f before) rest m now place in
    let done : is_done (says f m) ≡ false = ap is_done r.0 ∙ d in
    let stops : is_stop (says f m) ≡ s = ap is_stop r.0 ∙ t in
    let longer : shown f (before ++ m ∷ []) ≡ shown f before ++ seen f m ∷ [] = shown_stays f before m done in
    record {
      before = before ++ m ∷ [];
      after = rest;
      split = split ∙ append_move before m rest;
      now = r.1 ∙ append_move (shown f before) (seen f m) rest ∙ ap (λ u. u ++ rest) (sym longer);
      place = ap length longer ∙ length-append (shown f before) (seen f m ∷ []) ∙ ap (λ n. n + 1) place;
      text = text ∙ ap (λ u. to0 ++ u) (sym (reports_stays f before m done));
      found = ap (λ o. option_or o (cond s (Some k) None)) found ∙ ap (λ n. option_or (first_stop f before) (cond s (Some n) None)) (sym place) ∙ sym (stop_stays f before m s done stops);
    }

pub Progress-go : (f : Picture) (old : List Member) (to0 : List ℕ) (w : List Member) (k : ℕ) (to : List ℕ) (stop : Option ℕ) (w' : List Member) → Progress f old to0 w k to stop → k < length w
    → Took f w k Go w'
    → Progress f old to0 w' (k + 1) to stop
Progress-go f old to0 w k to stop w' p lt took =
    let P : Option ℕ → Type 0 = λ o. Progress f old to0 w' (k + 1) to o in
    subst P (option_or_none stop) (stay_at f old to0 w k to stop w' Go false refl refl p.before p.after p.split p.now p.place p.text p.found lt took)

pub Progress-stop : (f : Picture) (old : List Member) (to0 : List ℕ) (w : List Member) (k : ℕ) (to : List ℕ) (stop : Option ℕ) (w' : List Member) → Progress f old to0 w k to stop → k < length w
    → Took f w k Stop w'
    → Progress f old to0 w' (k + 1) to (option_or stop (Some k))
Progress-stop f old to0 w k to stop w' p lt took =
    stay_at f old to0 w k to stop w' Stop true refl refl p.before p.after p.split p.now p.place p.text p.found lt took

-- the report of the member at k was appended, and it was taken out
abbrev pub Retired : List Member → ℕ → List ℕ → List ℕ → List Member → Type 0
Retired w k to to' w' = (b a : List Member) (m : Member) → w ≡ b ++ m ∷ a → length b ≡ k → (to' ≡ to ++ report_of m) × (w' ≡ b ++ a)

done_at : (f : Picture) (old : List Member) (to0 : List ℕ) (w : List Member) (k : ℕ) (to : List ℕ) (stop : Option ℕ) (w1 w2 : List Member) (to' : List ℕ)
    → (before after : List Member) → old ≡ before ++ after → w ≡ shown f before ++ after → length (shown f before) ≡ k → to ≡ to0 ++ reports_of f before → stop ≡ first_stop f before
    → k < length w → Took f w k Done w1 → Retired w1 k to to' w2 → Progress f old to0 w2 k to' stop
done_at f old to0 w k to stop w1 w2 to' before [] split now place text found lt took gone =
    absurd (let e : length w ≡ length (shown f before) + 0 = ap length now ∙ length-append (shown f before) [] in omega arith)
done_at f old to0 w k to stop w1 w2 to' before (m ∷ rest) split now place text found lt took gone =
    let r : (says f m ≡ Done) × (w1 ≡ shown f before ++ seen f m ∷ rest) = took (shown f before) rest m now place in
    let done : is_done (says f m) ≡ true = ap is_done r.0 in
    let g : (to' ≡ to ++ report_of (seen f m)) × (w2 ≡ shown f before ++ rest) = gone (shown f before) rest (seen f m) r.1 place in
    record {
      before = before ++ m ∷ [];
      after = rest;
      split = split ∙ append_move before m rest;
      now = g.1 ∙ ap (λ u. u ++ rest) (sym (shown_done f before m done));
      place = ap length (shown_done f before m done) ∙ place;
      text = g.0 ∙ ap (λ u. u ++ report_of (seen f m)) text ∙ append_assoc to0 (reports_of f before) (report_of (seen f m)) ∙ ap (λ u. to0 ++ u) (sym (reports_done f before m done));
      found = found ∙ sym (stop_done f before m done);
    }

pub Progress-done : (f : Picture) (old : List Member) (to0 : List ℕ) (w : List Member) (k : ℕ) (to : List ℕ) (stop : Option ℕ) (w1 w2 : List Member) (to' : List ℕ) → Progress f old to0 w k to stop
    → k < length w
    → Took f w k Done w1 → Retired w1 k to to' w2 → Progress f old to0 w2 k to' stop
Progress-done f old to0 w k to stop w1 w2 to' p lt took gone =
    done_at f old to0 w k to stop w1 w2 to' p.before p.after p.split p.now p.place p.text p.found lt took gone

-- the frame was shown to all
pub record AllShown (f : Picture) (old : List Member) (to0 : List ℕ) (w : List Member) (to : List ℕ) (stop : Option ℕ) : Type 0 where
  pub members : w ≡ shown f old
  pub texts : to ≡ to0 ++ reports_of f old
  pub place : stop ≡ first_stop f old

all_at : (f : Picture) (old : List Member) (to0 : List ℕ) (w : List Member) (k : ℕ) (to : List ℕ) (stop : Option ℕ)
    → (before after : List Member) → old ≡ before ++ after → w ≡ shown f before ++ after → length (shown f before) ≡ k → to ≡ to0 ++ reports_of f before → stop ≡ first_stop f before
    → length w ≤ k → AllShown f old to0 w to stop
all_at f old to0 w k to stop before [] split now place text found le =
    let e : before ≡ old = sym (split ∙ append-nil before) in
    record { members = now ∙ append-nil (shown f before) ∙ ap (shown f) e; texts = text ∙ ap (λ u. to0 ++ reports_of f u) e; place = found ∙ ap (first_stop f) e }
all_at f old to0 w k to stop before (m ∷ rest) split now place text found le =
    absurd (let e : length w ≡ length (shown f before) + suc (length rest) = ap length now ∙ length-append (shown f before) (m ∷ rest) in omega arith)

pub Progress-end : (f : Picture) (old : List Member) (to0 : List ℕ) (w : List Member) (k : ℕ) (to : List ℕ) (stop : Option ℕ) → Progress f old to0 w k to stop → length w ≤ k
    → AllShown f old to0 w to stop
Progress-end f old to0 w k to stop p le = all_at f old to0 w k to stop p.before p.after p.split p.now p.place p.text p.found le

partly_here : (f : Picture) (old : List Member) (w : List Member) (k : ℕ) (w' : List Member)
    → (before after : List Member) → old ≡ before ++ after → w ≡ shown f before ++ after → length (shown f before) ≡ k → k < length w → w' ≡ w → IsPartlyShown f old w'
partly_here f old w k w' before [] split now place lt e =
    absurd (let l : length w ≡ length (shown f before) + 0 = ap length now ∙ length-append (shown f before) [] in omega arith)
partly_here f old w k w' before (m ∷ rest) split now place lt e = record { before = before; at = m; behind = rest; split = split; now = inl (e ∙ now) }

pub Progress-partly : (f : Picture) (old : List Member) (to0 : List ℕ) (w : List Member) (k : ℕ) (to : List ℕ) (stop : Option ℕ) (w' : List Member) → Progress f old to0 w k to stop → k < length w
    → w' ≡ w → IsPartlyShown f old w'
Progress-partly f old to0 w k to stop w' p lt e = partly_here f old w k w' p.before p.after p.split p.now p.place lt e

partly_at : (f : Picture) (old : List Member) (w : List Member) (k : ℕ) (w1 w2 : List Member)
    → (before after : List Member) → old ≡ before ++ after → w ≡ shown f before ++ after → length (shown f before) ≡ k
    → k < length w → Took f w k Done w1 → w2 ≡ w1 → IsPartlyShown f old w2
partly_at f old w k w1 w2 before [] split now place lt took e =
    absurd (let e : length w ≡ length (shown f before) + 0 = ap length now ∙ length-append (shown f before) [] in omega arith)
partly_at f old w k w1 w2 before (m ∷ rest) split now place lt took e =
    let r : (says f m ≡ Done) × (w1 ≡ shown f before ++ seen f m ∷ rest) = took (shown f before) rest m now place in
    record { before = before; at = m; behind = rest; split = split; now = inr (r.0, e ∙ r.1) }

pub Progress-partly_done : (f : Picture) (old : List Member) (to0 : List ℕ) (w : List Member) (k : ℕ) (to : List ℕ) (stop : Option ℕ) (w1 w2 : List Member) → Progress f old to0 w k to stop
    → k < length w
    → Took f w k Done w1 → w2 ≡ w1 → IsPartlyShown f old w2
Progress-partly_done f old to0 w k to stop w1 w2 p lt took e = partly_at f old w k w1 w2 p.before p.after p.split p.now p.place lt took e

-- the same, at the objects behind the members
below_map : {X : Type 0} (view : X → Member) (xs : List X) (k : ℕ) → k < length xs → k < length (map view xs)
below_map view xs k h = rw length-map h

took_as : (f : Picture) (w : List Member) (k : ℕ) (next as_next : Next) (w' : List Member) → next ≡ as_next → Took f w k next w' → Took f w k as_next w'
took_as f w k next as_next w' q t = λ b a m e l. let r : (says f m ≡ next) × (w' ≡ b ++ seen f m ∷ a) = t b a m e l in (r.0 ∙ q, r.1)

pub went_on : {X : Type 0} (view : X → Member) (xs ys : List X) (f : Picture) (old : List Member) (to0 : List ℕ) (k : ℕ) (to : List ℕ) (stop : Option ℕ) (next : Next)
    → Progress f old to0 (map view xs) k to stop → k < length xs
    → Took f (map view xs) k next (map view ys) → next ≡ Go → Progress f old to0 (map view ys) (k + 1) to stop
went_on view xs ys f old to0 k to stop next p lt t q = Progress-go f old to0 _ k to stop _ p (below_map view xs k lt) (took_as f _ k next Go _ q t)

pub stopped : {X : Type 0} (view : X → Member) (xs ys : List X) (f : Picture) (old : List Member) (to0 : List ℕ) (k : ℕ) (to : List ℕ) (stop stop' : Option ℕ) (next : Next)
    → Progress f old to0 (map view xs) k to stop → k < length xs
    → Took f (map view xs) k next (map view ys) → next ≡ Stop → stop' ≡ option_or stop (Some k) → Progress f old to0 (map view ys) (k + 1) to stop'
stopped view xs ys f old to0 k to stop stop' next p lt t q r =
    rw r (Progress-stop f old to0 _ k to stop _ p (below_map view xs k lt) (took_as f _ k next Stop _ q t))

pub was_done : {X : Type 0} (view : X → Member) (xs ys zs : List X) (f : Picture) (old : List Member) (to0 : List ℕ) (k : ℕ) (to to' : List ℕ) (stop : Option ℕ) (next : Next)
    → Progress f old to0 (map view xs) k to stop → k < length xs
    → Took f (map view xs) k next (map view ys) → next ≡ Done → Retired (map view ys) k to to' (map view zs) → Progress f old to0 (map view zs) k to' stop
was_done view xs ys zs f old to0 k to to' stop next p lt t q r =
    Progress-done f old to0 _ k to stop _ _ to' p (below_map view xs k lt) (took_as f _ k next Done _ q t) r

pub done_still_there : {X : Type 0} (view : X → Member) (xs ys zs : List X) (f : Picture) (old : List Member) (to0 : List ℕ) (k : ℕ) (to : List ℕ) (stop : Option ℕ) (next : Next)
    → Progress f old to0 (map view xs) k to stop → k < length xs
    → Took f (map view xs) k next (map view ys) → next ≡ Done → map view zs ≡ map view ys → IsPartlyShown f old (map view zs)
done_still_there view xs ys zs f old to0 k to stop next p lt t q r =
    Progress-partly_done f old to0 _ k to stop _ _ p (below_map view xs k lt) (took_as f _ k next Done _ q t) r

pub all_shown : {X : Type 0} (view : X → Member) (xs : List X) (f : Picture) (old : List Member) (to0 : List ℕ) (k : ℕ) (to : List ℕ) (stop : Option ℕ) → Progress f old to0 (map view xs) k to stop
    → length xs ≤ k → AllShown f old to0 (map view xs) to stop
all_shown view xs f old to0 k to stop p le = Progress-end f old to0 _ k to stop p (rw length-map le)

pub not_shown : {X : Type 0} (view : X → Member) (xs ys : List X) (f : Picture) (old : List Member) (to0 : List ℕ) (k : ℕ) (to : List ℕ) (stop : Option ℕ) → Progress f old to0 (map view xs) k to stop
    → k < length xs → map view ys ≡ map view xs → IsPartlyShown f old (map view ys)
not_shown view xs ys f old to0 k to stop p lt e = Progress-partly f old to0 _ k to stop _ p (below_map view xs k lt) e

pub if_err : {T E : Type 0} (r : Result T E) (P : Type 0) → P → OnErr r P
if_err (Ok x) P p = tt
if_err (Err e) P p = p

pub keep_view : {X F : Type 0} (R : F → X → Bool → F → Type 0) (view : X → Member) (p : Member → Bool) (f : F) (xs ys : List X) → IsFiltered R f xs ys
    → ((x : X) (b : Bool) (f' : F) → R f x b f' → (b ≡ p (view x)) × (f' ≡ f)) → map view ys ≡ filter p (map view xs)
keep_view R view p f xs ys e h = ap (map view) (filter_same R (λ x. p (view x)) f h xs ys e) ∙ filter_map_view view p xs
