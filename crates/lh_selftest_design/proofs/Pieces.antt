-- Pieces of a text, put one behind the other.
use Rattle.std.proofs.Common.{◌≡◌, ℕ, List, ◌++◌, Result, Ok, Err, OnOk, ap, sym, ◌∙◌, append_assoc}
use Rattle.lh_types.proofs.Lists.{append_twice}

three : (start one second now a b d : List ℕ) → one ≡ start ++ a → second ≡ one ++ b → now ≡ second ++ d → now ≡ start ++ (a ++ b ++ d)
three start one second now a b d e g h = append_twice start second now (a ++ b) d (append_twice start one second a b e g) h

four : (start one second third now a b d f : List ℕ) → one ≡ start ++ a → second ≡ one ++ b → third ≡ second ++ d → now ≡ third ++ f → now ≡ start ++ (a ++ b ++ d ++ f)
four start one second third now a b d f e g h k = append_twice start third now (a ++ b ++ d) f (three start one second third a b d e g h) k

pub last-of-four : {T E : Type 0} (r : Result T E) (start one second third now a b d f : List ℕ) → one ≡ start ++ a → second ≡ one ++ b → third ≡ second ++ d → OnOk r (now ≡ third ++ f)
    → OnOk r (now ≡ start ++ (a ++ b ++ d ++ f))
last-of-four (Err x) start one second third now a b d f e g h k = tt
last-of-four (Ok x) start one second third now a b d f e g h k = four start one second third now a b d f e g h k

-- words and a number, words and a number, and words
pub two-numbers : {T E : Type 0} (r : Result T E) (start one second now a m b n d : List ℕ) → one ≡ start ++ (a ++ m) → second ≡ one ++ (b ++ n) → OnOk r (now ≡ second ++ d)
    → OnOk r (now ≡ start ++ (a ++ m ++ b ++ n ++ d))
two-numbers (Err x) start one second now a m b n d e g h = tt
two-numbers (Ok x) start one second now a m b n d e g h =
    three start one second now (a ++ m) (b ++ n) d e g h ∙ ap (λ l. start ++ (l ++ d)) (sym (append_assoc (a ++ m) b n))

-- words and a number three times, and words
pub three-numbers : {T E : Type 0} (r : Result T E) (start one second third now a m b n d k f : List ℕ) → one ≡ start ++ (a ++ m) → second ≡ one ++ (b ++ n) → third ≡ second ++ (d ++ k)
    → OnOk r (now ≡ third ++ f) → OnOk r (now ≡ start ++ (a ++ m ++ b ++ n ++ d ++ k ++ f))
three-numbers (Err x) start one second third now a m b n d k f e g h i = tt
three-numbers (Ok x) start one second third now a m b n d k f e g h i =
    four start one second third now (a ++ m) (b ++ n) (d ++ k) f e g h i
    ∙ ap (λ l. start ++ (l ++ (d ++ k) ++ f)) (sym (append_assoc (a ++ m) b n)) ∙ ap (λ l. start ++ (l ++ f)) (sym (append_assoc (a ++ m ++ b ++ n) d k))
