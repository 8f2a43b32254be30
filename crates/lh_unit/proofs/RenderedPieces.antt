-- The tokens of a written line are its pieces' tokens.
use Rattle.std.proofs.Common.{◌≡◌, ℕ, ◌≤◌, zero, suc, true, false, inl, inr, List, [], ◌∷◌, ◌++◌, length, take, drop, Some, nat_eq, refl, ap, sym, ◌∙◌, subst, arith, append_assoc}
use Rattle.std.proofs.lemmas.Bool.{and_parts, or_cases}
use Rattle.std.proofs.lemmas.List.{take_at, drop_at}
use Rattle.std.proofs.lemmas.Grind.{common_steps}
use Rattle.lh_unit_names.specs.Names.{is_name_byte, all_name_bytes, IsName}
use Rattle.lh_unit.specs.Lexemes.{Lexeme, word, global, local, arrow, minus, punct, lexemes, lexemes_after, front, first_lexeme, run_len, fits_name, is_white, is_comment, is_punct, begins}
use Rattle.lh_unit.specs.Pieces.{Piece, token, space, lexeme_bytes, render, lexemes_in, IsSpaced, begins_with_word}
use Rattle.lh_unit.specs.Canon.{text_of}

-- the bytes of lines joined
pub render-append : (a b : List Piece) → render (a ++ b) ≡ render a ++ render b
render-append [] b = refl
render-append (token t ∷ a) b = ap (λ l. lexeme_bytes t ++ l) (render-append a b) ∙ sym (append_assoc (lexeme_bytes t) (render a) (render b))
render-append (space ∷ a) b = ap (λ l. 32 ∷ l) (render-append a b)

-- the text of lines joined
pub text_of-append : (a b : List (List Piece)) → text_of (a ++ b) ≡ text_of a ++ text_of b
text_of-append [] b = refl
text_of-append (l ∷ a) b = ap (λ t. render l ++ 10 ∷ t) (text_of-append a b) ∙ sym (append_assoc (render l) (10 ∷ text_of a) (text_of b))

-- skipping k bytes
lexemes_after-drop : (k : ℕ) (bs : List ℕ) → lexemes_after k bs ≡ lexemes_after 0 (drop k bs)
lexemes_after-drop zero bs = refl
lexemes_after-drop (suc k) [] = refl
lexemes_after-drop (suc k) (b ∷ bs) = lexemes_after-drop k bs

-- no name byte stands in front
abbrev StopsName : List ℕ → Type 0
StopsName [] = Unit {0}
StopsName (b ∷ bs) = is_name_byte b ≡ false

run_len-stops : (bs : List ℕ) → StopsName bs → run_len bs ≡ 0
run_len-stops [] h = refl
run_len-stops (b ∷ bs) h = rw h refl

run_len-name : (n r : List ℕ) → all_name_bytes n ≡ true → StopsName r → run_len (n ++ r) ≡ length n
run_len-name [] r h s = run_len-stops r s
run_len-name (b ∷ n) r h s = let p = and_parts (is_name_byte b) (all_name_bytes n) h in let e : is_name_byte b ≡ true = p.0 in rw e (omega (arith, run_len-name n r p.1 s))

fits : (k : ℕ) → 1 ≤ k → k ≤ 255 → fits_name k ≡ true
fits k l h = grind (arith, common_steps)

-- the token that is taken first, and what is left
record TakesFirst (t : Lexeme) (bs rest : List ℕ) : Type 0 where
  byte : ℕ
  more : List ℕ
  count : ℕ
  is : bs ≡ byte ∷ more
  not_white : is_white byte ≡ false
  no_comment : is_comment byte more ≡ false
  taken : first_lexeme byte more ≡ Some (t, count)
  left : drop count more ≡ rest

lexemes-first : (t : Lexeme) (bs rest : List ℕ) → TakesFirst t bs rest → lexemes bs ≡ front t (lexemes rest)
lexemes-first t bs rest f =
    let w : is_white f.byte ≡ false = f.not_white in
    let c : is_comment f.byte f.more ≡ false = f.no_comment in
    let k : first_lexeme f.byte f.more ≡ Some (t, f.count) = f.taken in
    let e : lexemes (f.byte ∷ f.more) ≡ front t (lexemes_after f.count f.more) = rw (w, c, k) refl in
    ap lexemes f.is ∙ e ∙ ap (front t) (lexemes_after-drop f.count f.more ∙ ap lexemes f.left)

name_byte-plain : (b : ℕ) (bs : List ℕ) → is_name_byte b ≡ true → (is_white b ≡ false) × (is_comment b bs ≡ false)
name_byte-plain b bs h =
    let e : nat_eq b 59 ≡ false = grind (arith, common_steps) in
    let f : nat_eq b 47 ≡ false = grind (arith, common_steps) in
    (grind (arith, common_steps), rw (e, f) refl)

same_byte : (P : ℕ → Type 0) (b c : ℕ) → nat_eq b c ≡ true → P c → P b
same_byte P b c e p = let q : c ≡ b = grind (arith, common_steps) in subst P q p

-- a mark is one of eleven
by_mark : (P : ℕ → Type 0) → P 40 → P 41 → P 123 → P 125 → P 91 → P 93 → P 44 → P 58 → P 36 → P 42 → P 61 → (b : ℕ) → is_punct b ≡ true → P b
by_mark P p40 p41 p123 p125 p91 p93 p44 p58 p36 p42 p61 b h =
    elim (or_cases _ (nat_eq b 61) h) [
      | inr e ↦ same_byte P b 61 e p61
      | inl h ↦
          elim (or_cases _ (nat_eq b 42) h) [
            | inr e ↦ same_byte P b 42 e p42
            | inl h ↦
                elim (or_cases _ (nat_eq b 36) h) [
                  | inr e ↦ same_byte P b 36 e p36
                  | inl h ↦
                      elim (or_cases _ (nat_eq b 58) h) [
                        | inr e ↦ same_byte P b 58 e p58
                        | inl h ↦
                            elim (or_cases _ (nat_eq b 44) h) [
                              | inr e ↦ same_byte P b 44 e p44
                              | inl h ↦
                                  elim (or_cases _ (nat_eq b 93) h) [
                                    | inr e ↦ same_byte P b 93 e p93
                                    | inl h ↦
                                        elim (or_cases _ (nat_eq b 91) h) [
                                          | inr e ↦ same_byte P b 91 e p91
                                          | inl h ↦
                                              elim (or_cases _ (nat_eq b 125) h) [
                                                | inr e ↦ same_byte P b 125 e p125
                                                | inl h ↦
                                                    elim (or_cases _ (nat_eq b 123) h) [
                                                      | inr e ↦ same_byte P b 123 e p123
                                                      | inl h ↦
                                                          elim (or_cases (nat_eq b 40) (nat_eq b 41) h) [ inr e ↦ same_byte P b 41 e p41 | inl e ↦ same_byte P b 40 e p40 ]
                                                    ]
                                              ]
                                        ]
                                  ]
                            ]
                      ]
                ]
          ]
    ]

takes-punct : (b : ℕ) (r : List ℕ) → is_punct b ≡ true → TakesFirst (punct b) (b ∷ r) r
unfolding first_lexeme
takes-punct b r h = by_mark (λ c. TakesFirst (punct c) (c ∷ r) r) (one 40 refl refl refl) (one 41 refl refl refl) (one 123 refl refl refl) (one 125 refl refl refl) (one 91 refl refl refl)
    (one 93 refl refl refl) (one 44 refl refl refl) (one 58 refl refl refl) (one 36 refl refl refl) (one 42 refl refl refl) (one 61 refl refl refl) b h
  where
    one : (c : ℕ) → is_white c ≡ false → is_comment c r ≡ false → first_lexeme c r ≡ Some (punct c, 0) → TakesFirst (punct c) (c ∷ r) r
    one c w d t = record { byte = c; more = r; count = 0; is = refl; not_white = w; no_comment = d; taken = t; left = refl }

takes-word : (b : ℕ) (w r : List ℕ) → all_name_bytes (b ∷ w) ≡ true → StopsName r → TakesFirst (word (b ∷ w)) (b ∷ (w ++ r)) r
unfolding first_lexeme
takes-word b w r h s =
    let p = and_parts (is_name_byte b) (all_name_bytes w) h in
    let n : is_name_byte b ≡ true = p.0 in
    let e : run_len (w ++ r) ≡ length w = run_len-name w r p.1 s in
    let g : take (length w) (w ++ r) ≡ w = take_at w r (length w) refl in
    record {
      byte = b;
      more = w ++ r;
      count = length w;
      is = refl;
      not_white = (name_byte-plain b (w ++ r) n).0;
      no_comment = (name_byte-plain b (w ++ r) n).1;
      taken = rw (n, e, g) refl;
      left = drop_at w r (length w) refl;
    }

takes-global : (n r : List ℕ) → IsName n → StopsName r → TakesFirst (global n) (64 ∷ (n ++ r)) r
unfolding first_lexeme
takes-global n r h s =
    let e : run_len (n ++ r) ≡ length n = run_len-name n r h.2 s in
    let f : fits_name (length n) ≡ true = fits (length n) h.0 h.1 in
    let g : take (length n) (n ++ r) ≡ n = take_at n r (length n) refl in
    record { byte = 64; more = n ++ r; count = length n; is = refl; not_white = refl; no_comment = refl; taken = rw (e, f, g) refl; left = drop_at n r (length n) refl }

takes-local : (n r : List ℕ) → IsName n → StopsName r → TakesFirst (local n) (37 ∷ (n ++ r)) r
unfolding first_lexeme
takes-local n r h s =
    let e : run_len (n ++ r) ≡ length n = run_len-name n r h.2 s in
    let f : fits_name (length n) ≡ true = fits (length n) h.0 h.1 in
    let g : take (length n) (n ++ r) ≡ n = take_at n r (length n) refl in
    record { byte = 37; more = n ++ r; count = length n; is = refl; not_white = refl; no_comment = refl; taken = rw (e, f, g) refl; left = drop_at n r (length n) refl }

takes-arrow : (r : List ℕ) → TakesFirst arrow (45 ∷ 62 ∷ r) r
unfolding first_lexeme
takes-arrow r = record { byte = 45; more = 62 ∷ r; count = 1; is = refl; not_white = refl; no_comment = refl; taken = refl; left = refl }

takes-minus : (r : List ℕ) → begins 62 r ≡ false → TakesFirst minus (45 ∷ r) r
unfolding first_lexeme
takes-minus r h = record { byte = 45; more = r; count = 0; is = refl; not_white = refl; no_comment = refl; taken = rw h refl; left = refl }

-- what no canonical line begins with
no_arrow_head : (ps : List Piece) → IsSpaced ps → begins 62 (render ps) ≡ false
no_arrow_head [] h = refl
no_arrow_head (space ∷ ps) h = refl
no_arrow_head (token (word []) ∷ ps) h = let l : 1 ≤ 0 = h.0.0 in absurd (omega arith)
no_arrow_head (token (word (b ∷ w)) ∷ ps) h = let n : is_name_byte b ≡ true = (and_parts (is_name_byte b) (all_name_bytes w) h.0.1).0 in grind (arith, common_steps)
no_arrow_head (token (global n) ∷ ps) h = refl
no_arrow_head (token (local n) ∷ ps) h = refl
no_arrow_head (token arrow ∷ ps) h = refl
no_arrow_head (token minus ∷ ps) h = refl
no_arrow_head (token (punct b) ∷ ps) h = by_mark (λ c. nat_eq c 62 ≡ false) refl refl refl refl refl refl refl refl refl refl refl b h.0

stops : (ps : List Piece) → IsSpaced ps → begins_with_word ps ≡ false → StopsName (render ps)
stops [] h e = tt
stops (space ∷ ps) h e = refl
stops (token (word w) ∷ ps) h e = absurd cc
stops (token (global n) ∷ ps) h e = refl
stops (token (local n) ∷ ps) h e = refl
stops (token arrow ∷ ps) h e = refl
stops (token minus ∷ ps) h e = refl
stops (token (punct b) ∷ ps) h e = by_mark (λ c. is_name_byte c ≡ false) refl refl refl refl refl refl refl refl refl refl refl b h.0

takes-first : (t : Lexeme) (ps : List Piece) → IsSpaced (token t ∷ ps) → TakesFirst t (render (token t ∷ ps)) (render ps)
takes-first (word []) ps h = let l : 1 ≤ 0 = h.0.0 in absurd (omega arith)
takes-first (word (b ∷ w)) ps h = takes-word b w (render ps) h.0.1 (stops ps h.2 h.1)
takes-first (global n) ps h = takes-global n (render ps) h.0 (stops ps h.2 h.1)
takes-first (local n) ps h = takes-local n (render ps) h.0 (stops ps h.2 h.1)
takes-first arrow ps h = takes-arrow (render ps)
takes-first minus ps h = takes-minus (render ps) (no_arrow_head ps h.2)
takes-first (punct b) ps h = takes-punct b (render ps) h.0

-- the tokens of a line whose pieces are well spaced are those of its pieces
pub lexemes-render : (ps : List Piece) → IsSpaced ps → lexemes (render ps) ≡ Some (lexemes_in ps)
lexemes-render [] h = refl
lexemes-render (space ∷ ps) h = lexemes-render ps h
lexemes-render (token t ∷ ps) h = lexemes-first t (render (token t ∷ ps)) (render ps) (takes-first t ps h) ∙ ap (front t) (lexemes-render ps h.2)
