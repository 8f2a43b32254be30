-- How the steps of a whole read and a whole write add up.
use Rattle.std.proofs.Common.{◌≡◌, ℕ, ◌+◌, ◌<◌, ◌≤◌, List, [], ◌++◌, length, take, drop, refl, ap, sym, ◌∙◌, subst, Option, Some, None, IfSome, arith, append_assoc, length-append, Result, Ok, Err, OnErr}
use Rattle.lh_types.specs.Raised.{raised}
use Rattle.lh_io.specs.Streams.{FillsFront, Appends, AppendsProperPrefix}
use Rattle.lh_io.specs.Whole.{TakesBytes}
use Rattle.std.proofs.lemmas.List.{append-nil, take_at, drop_at, drop_all, take-append-drop}
use Rattle.std.proofs.Math.Seq.{drop-append-add}

-- of the text all but the rest was written
pub record Wrote (was now : Option (List ℕ)) (text rest : List ℕ) : Type 0 where
  pub done : List ℕ
  pub split : text ≡ done ++ rest
  pub told : Appends was now done

pub Wrote-start : (was : Option (List ℕ)) (text : List ℕ) → Wrote was was text text
Wrote-start None text = record { done = []; split = refl; told = tt }
Wrote-start (Some xs) text = record { done = []; split = refl; told = ap Some (sym (append-nil xs)) }

pub Appends-more : (was now next : Option (List ℕ)) (done more : List ℕ) → Appends was now done → Appends now next more → Appends was next (done ++ more)
Appends-more None now next done more h t = tt
Appends-more (Some xs) now next done more h t =
    let P : Option (List ℕ) → Type 0 = λ o. Appends o next more in
    let s : next ≡ Some ((xs ++ done) ++ more) = subst P h t in
    s ∙ ap Some (append_assoc xs done more)

-- a write took the first n bytes of the rest
pub Wrote-more : (was now next : Option (List ℕ)) (text rest : List ℕ) (n : ℕ) → Wrote was now text rest → Appends now next (take n rest) → Wrote was next text (drop n rest)
Wrote-more was now next text rest n w t = record {
  done = w.done ++ take n rest;
  split = w.split ∙ ap (λ r. w.done ++ r) (sym (take-append-drop n rest)) ∙ sym (append_assoc w.done (take n rest) (drop n rest));
  told = Appends-more was now next w.done (take n rest) w.told t;
}

prefix_at : (was now next : Option (List ℕ)) (text rest : List ℕ) → Wrote was now text rest → 0 < length rest → next ≡ now → AppendsProperPrefix was next text
prefix_at was now next text rest w h e = record {
  count = length w.done;
  is_proper = (let l : length text ≡ length w.done + length rest = ap length w.split ∙ length-append w.done rest in omega arith);
  told =
      let Told : List ℕ → Type 0 = λ part. Appends was next part in
      let Of : Option (List ℕ) → Type 0 = λ o. Appends was o w.done in
      subst Told (sym (take_at w.done rest (length w.done) refl) ∙ ap (take (length w.done)) (sym w.split)) (subst Of (sym e) w.told);
}

-- a write that failed left what was written before it
pub Wrote-prefix : {T E : Type 0} (r : Result T E) (was now next : Option (List ℕ)) (text rest : List ℕ) → Wrote was now text rest → 0 < length rest → next ≡ now
    → OnErr r (AppendsProperPrefix was next text)
Wrote-prefix (Ok x) was now next text rest w h e = tt
Wrote-prefix (Err x) was now next text rest w h e = prefix_at was now next text rest w h e

-- what was read so far, and then what is left, is what was left before
abbrev pub ReadSoFar : Option (List ℕ) → Option (List ℕ) → List ℕ → Type 0
ReadSoFar None now v = Unit {0}
ReadSoFar (Some xs) now v = (rest : List ℕ) × (now ≡ Some rest) × (xs ≡ v ++ rest)

pub ReadSoFar-start : (was : Option (List ℕ)) (v : List ℕ) → v ≡ [] → ReadSoFar was was v
ReadSoFar-start None v none = tt
ReadSoFar-start (Some xs) v none = (xs, refl, sym (ap (λ ys. ys ++ xs) none))

-- n bytes were read so far, and a read that failed took none
pub ReadSoFar-told : (was now next : Option (List ℕ)) (v : List ℕ) (n : ℕ) → ReadSoFar was now v → n ≡ length v → next ≡ now → IfSome was (λ bytes. (n ≤ length bytes) × (next ≡ Some (drop n bytes)))
ReadSoFar-told None now next v n read len e = tt
ReadSoFar-told (Some xs) now next v n (rest, now_is, xs_is) len e =
    let all : length xs ≡ length v + length rest = ap length xs_is ∙ length-append v rest in
    (omega arith, e ∙ now_is ∙ ap Some (sym (ap (drop n) xs_is ∙ drop_at v rest n (sym len))))

-- where nothing is left, all was read
pub ReadSoFar-all : (was now next : Option (List ℕ)) (v old_room new_room : List ℕ) (n : ℕ) → ReadSoFar was now v → IfSome now (λ left. FillsFront left next old_room new_room n)
    → IfSome now (λ left. left ≡ []) → IfSome was (λ bytes. (v ≡ bytes) × (next ≡ Some []))
ReadSoFar-all None now next v old_room new_room n read fills none = tt
ReadSoFar-all (Some xs) now next v old_room new_room n (rest, now_is, xs_is) fills none =
    let Fills : Option (List ℕ) → Type 0 = λ o. IfSome o (λ left. FillsFront left next old_room new_room n) in
    let Gone : Option (List ℕ) → Type 0 = λ o. IfSome o (λ left. left ≡ []) in
    let of_rest : FillsFront rest next old_room new_room n = subst Fills now_is fills in
    let empty : rest ≡ [] = subst Gone now_is none in
    (sym (xs_is ∙ ap (λ r. v ++ r) empty ∙ append-nil v), of_rest.rest ∙ ap Some (ap (drop n) empty ∙ drop_all n [] (omega arith)))

pub raised-raised : (c m n : ℕ) → raised (raised c m) n ≡ raised c (m + n)
raised-raised c m n = omega arith

left_after : (was now next : Option (List ℕ)) (v old_room new_room : List ℕ) (n : ℕ) → ReadSoFar was now v → IfSome now (λ left. FillsFront left next old_room new_room n)
    → IfSome was (λ bytes. (length v + n ≤ length bytes) × (next ≡ Some (drop (length v + n) bytes)))
left_after None now next v old_room new_room n read fills = tt
left_after (Some xs) now next v old_room new_room n (rest, now_is, xs_is) fills =
    let Fills : Option (List ℕ) → Type 0 = λ o. IfSome o (λ left. FillsFront left next old_room new_room n) in
    let of_rest : FillsFront rest next old_room new_room n = subst Fills now_is fills in
    let len : length xs ≡ length v + length rest = ap length xs_is ∙ length-append v rest in
    let within : n ≤ length rest = of_rest.within in
    (omega arith, of_rest.rest ∙ ap Some (sym (ap (drop (length v + n)) xs_is ∙ drop-append-add v rest n)))

-- after the k bytes read so far a read took n more
pub TakesBytes-more : (was now next : Option (List ℕ)) (v old_room new_room : List ℕ) (was_taken taken next_taken k n all : ℕ) → ReadSoFar was now v → k ≡ length v → taken ≡ raised was_taken k
    → IfSome now (λ left. FillsFront left next old_room new_room n) → next_taken ≡ raised taken n → k + n ≡ all → TakesBytes was next was_taken next_taken all
TakesBytes-more was now next v old_room new_room was_taken taken next_taken k n all read len counted fills next_counted sum = record {
  counted = next_counted ∙ ap (λ t. raised t n) counted ∙ raised-raised was_taken k n ∙ ap (raised was_taken) sum;
  told =
      let Told : ℕ → Type 0 = λ m. IfSome was (λ bytes. (m ≤ length bytes) × (next ≡ Some (drop m bytes))) in
      subst Told (ap (λ m. m + n) (sym len) ∙ sum) (left_after was now next v old_room new_room n read fills);
}
