-- Texts of a list's items, written one behind the other.
use Rattle.std.proofs.Common.{◌≡◌, ℕ, ◌+◌, ◌<◌, ◌≤◌, List, [], ◌∷◌, ◌++◌, length, get_or, drop, map, ap, sym, ◌∙◌, append_assoc, subst}
use Rattle.std.specs.List.{flat_map}
use Rattle.std.proofs.lemmas.List.{append-nil, drop_all, drop_more}
use Rattle.std.proofs.lemmas.List.Folds.{flat_map-map}
use Rattle.lh_text_buffer.specs.Writing.{Written, Writes, Leaves}
use Rattle.lh_text_buffer.proofs.Parts.{less-left, none-left}

first_text : {X : Type 0} (text : X → List ℕ) (xs : List X) (i : ℕ) (x : X) → i < length xs → x ≡ get_or xs i x → flat_map text (drop i xs) ≡ text x ++ flat_map text (drop (i + 1) xs)
first_text text xs i x h e = ap (flat_map text) (drop_more xs i x h ∙ ap (λ y. y ∷ drop (i + 1) xs) (sym e))

no_text : {X : Type 0} (text : X → List ℕ) (xs : List X) (i : ℕ) → length xs ≤ i → flat_map text (drop i xs) ≡ []
no_text text xs i h = ap (flat_map text) (drop_all i xs h)

-- of the texts of all items, those from this one on are left
abbrev pub Writing : {X : Type 0} → (X → List ℕ) → (start to : Written) → List X → ℕ → Type 0
Writing text start to xs i = Leaves start to (flat_map text (drop i xs)) (flat_map text xs)

pub Writing-next : {X : Type 0} (text : X → List ℕ) (start to next : Written) (xs : List X) (i : ℕ) (x : X) → Writing text start to xs i → i < length xs → x ≡ get_or xs i x → Writes to next (text x)
    → Writing text start next xs (i + 1)
Writing-next text start to next xs i x w h e g =
    less-left start to next (text x) (flat_map text (drop (i + 1) xs)) (flat_map text (drop i xs)) (flat_map text xs) (first_text text xs i x h e) g w

-- the same by the place of the item
pub Writing-next_at : {X : Type 0} (text : X → List ℕ) (start to next : Written) (xs : List X) (i : ℕ) (d : X) → Writing text start to xs i → i < length xs → Writes to next (text (get_or xs i d))
    → Writing text start next xs (i + 1)
Writing-next_at text start to next xs i d w h g =
    less-left start to next (text (get_or xs i d)) (flat_map text (drop (i + 1) xs)) (flat_map text (drop i xs)) (flat_map text xs) (ap (flat_map text) (drop_more xs i d h)) g w

pub Writing-end : {X : Type 0} (text : X → List ℕ) (start to : Written) (xs : List X) (i : ℕ) → Writing text start to xs i → length xs ≤ i → Writes start to (flat_map text xs)
Writing-end text start to xs i w h = none-left start to (flat_map text (drop i xs)) (flat_map text xs) (no_text text xs i h) w

pub Writing-end_map : {X Y : Type 0} (text : Y → List ℕ) (view : X → Y) (start to : Written) (xs : List X) (i : ℕ) → Writing (λ x. text (view x)) start to xs i → length xs ≤ i
    → Writes start to (flat_map text (map view xs))
Writing-end_map text view start to xs i w h = subst (Writes start to) (sym (flat_map-map text view xs)) (Writing-end (λ x. text (view x)) start to xs i w h)

-- the same of a list of bytes: what is put, and what is left to be put, is all
abbrev pub Reporting : {X : Type 0} → (X → List ℕ) → (start to : List ℕ) → List X → ℕ → Type 0
Reporting text start to xs i = to ++ flat_map text (drop i xs) ≡ start ++ flat_map text xs

pub Reporting-next : {X : Type 0} (text : X → List ℕ) (start to next : List ℕ) (xs : List X) (i : ℕ) (x : X) → Reporting text start to xs i → i < length xs → x ≡ get_or xs i x → next ≡ to ++ text x
    → Reporting text start next xs (i + 1)
Reporting-next text start to next xs i x w h e g =
    ap (λ l. l ++ flat_map text (drop (i + 1) xs)) g ∙ append_assoc to (text x) (flat_map text (drop (i + 1) xs)) ∙ ap (λ l. to ++ l) (sym (first_text text xs i x h e)) ∙ w

pub Reporting-end : {X : Type 0} (text : X → List ℕ) (start to : List ℕ) (xs : List X) (i : ℕ) → Reporting text start to xs i → length xs ≤ i → to ≡ start ++ flat_map text xs
Reporting-end text start to xs i w h = sym (append-nil to) ∙ ap (λ l. to ++ l) (sym (no_text text xs i h)) ∙ w
