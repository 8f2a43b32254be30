-- A whole that is written part by part.
use Rattle.std.proofs.Common.{◌≡◌, List, ℕ, [], ◌++◌, append_assoc, ap, sym, ◌∙◌}
use Rattle.std.proofs.lemmas.List.{append-nil}
use Rattle.lh_text_buffer.specs.Writing.{Written, Writes, Leaves}

-- before the first part, all is left
pub all-left : (start : Written) (rest whole : List ℕ) → rest ≡ whole → Leaves start start rest whole
all-left start rest whole e = record { left = λ w. (w, ap (λ l. start.items ++ l) e) }

-- one more part
pub less-left : (start now next : Written) (part rest before whole : List ℕ) → before ≡ part ++ rest → Writes now next part → Leaves start now before whole → Leaves start next rest whole
less-left start now next part rest before whole e p b = record {
  left = λ w.
      let written = p w in
      let left = b.left written.0 in (
        left.0,
        ap (λ l. l ++ rest) written.1 ∙ append_assoc now.items part rest ∙ ap (λ l. now.items ++ l) (sym e) ∙ left.1,
      );
}

-- a part that is passed over
pub still-left : (start now next : Written) (rest before whole : List ℕ) → before ≡ rest → next ≡ now → Leaves start now before whole → Leaves start next rest whole
still-left start now next rest before whole e n b = record {
  left = λ w.
      let left = b.left (ap (λ t. t.is_whole) (sym n) ∙ w) in (
        left.0,
        ap (λ t. t.items ++ rest) n ∙ ap (λ l. now.items ++ l) (sym e) ∙ left.1,
      );
}

-- behind the last part
pub none-left : (start now : Written) (rest whole : List ℕ) → rest ≡ [] → Leaves start now rest whole → Writes start now whole
none-left start now rest whole e b w =
    let left = b.left w in
    (left.0, sym (append-nil now.items) ∙ ap (λ l. now.items ++ l) (sym e) ∙ left.1)

-- two parts
pub two-written : (start now next : Written) (first second : List ℕ) → Writes start now first → Writes now next second → Writes start next (first ++ second)
two-written start now next first second p q w =
    let last = q w in
    let written = p last.0 in (
      written.0,
      last.1 ∙ ap (λ l. l ++ second) written.1 ∙ append_assoc start.items first second,
    )
