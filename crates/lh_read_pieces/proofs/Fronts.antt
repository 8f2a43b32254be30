-- The tokens in front of bytes.
use Rattle.std.proofs.Common.{◌≡◌, ℕ, ◌<◌, Bool, true, false, ◌&&◌, nat_eq, List, [], ◌∷◌, take, Option, Some, None, if◌then◌else◌, refl, ap, sym, ◌∙◌, subst, arith}
use Rattle.std.proofs.lemmas.Grind.{common_steps}
use Rattle.lh_unit_names.specs.Names.{is_name_byte}
use Rattle.lh_unit.specs.Lexemes.{Lexeme, word, global, local, arrow, minus, punct, first_lexeme, run_len, fits_name, is_punct, begins}
use Rattle.lh_lex.specs.Front.{begins_word, begins_local, bad_mark, to_bad_after, lexemes_to_bad, IsSettled}
use Rattle.lh_read_pieces.specs.Pieces.{punct_at, word_at, any_word_at, local_at, arrow_at, minus_at}
use lib.Pointwise.{pointwise}

abbrev token_of : Option (Lexeme × ℕ) → Lexeme
token_of None = global []
token_of (Some p) = p.0

-- what the first token tells of its first byte b, of whether that is a name byte, %, - or a mark, and of the name bytes v behind it, which are few enough or not
abbrev Tells : ℕ → (name percent dash mark few : Bool) → List ℕ → Lexeme → Type 0
Tells b name percent dash mark few v (word w) = (w ≡ b ∷ v) × (name ≡ true)
Tells b name percent dash mark few v (local w) = (percent && few) ≡ true
Tells b name percent dash mark few v arrow = dash ≡ true
Tells b name percent dash mark few v minus = dash ≡ true
Tells b name percent dash mark few v (punct c) = (b ≡ c) × (mark ≡ true)
Tells b name percent dash mark few v _ = Unit {0}

by_tests : (name at percent dash more mark few : Bool) (b n : ℕ) (v : List ℕ)
    → Tells b name percent dash mark few v (token_of (if name then Some (word (b ∷ v), n)
    else if at then (if few then Some (global v, n) else None)
    else if percent then (if few then Some (local v, n) else None)
    else if dash then (if more then Some (arrow, 1) else Some (minus, 0))
    else if mark then Some (punct b, 0) else None))
by_tests true at percent dash more mark few b n v = (refl, refl)
by_tests false true percent dash more mark true b n v = tt
by_tests false true percent dash more mark false b n v = tt
by_tests false false true dash more mark true b n v = refl
by_tests false false true dash more mark false b n v = tt
by_tests false false false true true mark few b n v = refl
by_tests false false false true false mark few b n v = refl
by_tests false false false false more true few b n v = (refl, refl)
by_tests false false false false more false few b n v = tt

told : (b k : ℕ) (bs : List ℕ) (x : Lexeme) → first_lexeme b bs ≡ Some (x, k) → Tells b (is_name_byte b) (nat_eq b 37) (nat_eq b 45) (is_punct b) (fits_name (run_len bs)) (take (run_len bs) bs) x
unfolding first_lexeme
told b k bs x e =
    subst (Tells b (is_name_byte b) (nat_eq b 37) (nat_eq b 45) (is_punct b) (fits_name (run_len bs)) (take (run_len bs) bs)) (ap token_of e)
    (by_tests (is_name_byte b) (nat_eq b 64) (nat_eq b 37) (nat_eq b 45) (begins 62 bs) (is_punct b) (fits_name (run_len bs)) b (run_len bs) (take (run_len bs) bs))

no-mark : (mark b k : ℕ) (bs : List ℕ) (x : Lexeme) (us : List Lexeme) → nat_eq b mark ≡ false → first_lexeme b bs ≡ Some (x, k) → None ≡ punct_at mark (x ∷ us)
no-mark mark b k bs (punct c) us n e = let m : nat_eq c mark ≡ false = ap (λ x. nat_eq x mark) (sym (told b k bs (punct c) e).0) ∙ n in rw m refl
no-mark mark b k bs _ us n e = refl

-- what a test tells apart is not the same
differ : (f : ℕ → Bool) (c m : ℕ) → f c ≡ true → f m ≡ false → nat_eq c m ≡ false
differ f c m p q = grind (arith, common_steps)

no-other : (mark b k : ℕ) (bs : List ℕ) (x : Lexeme) (us : List Lexeme) → is_punct mark ≡ false → first_lexeme b bs ≡ Some (x, k) → None ≡ punct_at mark (x ∷ us)
no-other mark b k bs (punct c) us n e =
    let t = told b k bs (punct c) e in
    let m : nat_eq c mark ≡ false = differ is_punct c mark (ap is_punct (sym t.0) ∙ t.1) n in
    rw m refl
no-other mark b k bs _ us n e = refl

no-word : (c b k : ℕ) (cs bs : List ℕ) (x : Lexeme) (us : List Lexeme) → nat_eq b c ≡ false → first_lexeme b bs ≡ Some (x, k) → None ≡ word_at (c ∷ cs) (x ∷ us)
no-word c b k cs bs (word w) us n e =
    let a : pointwise nat_eq (b ∷ take (run_len bs) bs) (c ∷ cs) ≡ false = rw n refl in
    let m : pointwise nat_eq w (c ∷ cs) ≡ false = ap (λ x. pointwise nat_eq x (c ∷ cs)) (told b k bs (word w) e).0 ∙ a in
    rw m refl
no-word c b k cs bs _ us n e = refl

no-any : (b k : ℕ) (bs : List ℕ) (x : Lexeme) (us : List Lexeme) → is_name_byte b ≡ false → first_lexeme b bs ≡ Some (x, k) → None ≡ any_word_at (x ∷ us)
no-any b k bs (word w) us n e = let t : is_name_byte b ≡ true = (told b k bs (word w) e).1 in absurd cc
no-any b k bs _ us n e = refl

no-local : (b k : ℕ) (bs : List ℕ) (x : Lexeme) (us : List Lexeme) → begins_local (b ∷ bs) ≡ false → first_lexeme b bs ≡ Some (x, k) → None ≡ local_at (x ∷ us)
no-local b k bs (local w) us n e = let t : begins_local (b ∷ bs) ≡ true = told b k bs (local w) e in absurd cc
no-local b k bs _ us n e = refl

no-arrow : (b k : ℕ) (bs : List ℕ) (x : Lexeme) (us : List Lexeme) → nat_eq b 45 ≡ false → first_lexeme b bs ≡ Some (x, k) → None ≡ arrow_at (x ∷ us)
no-arrow b k bs arrow us n e = let t : nat_eq b 45 ≡ true = told b k bs arrow e in absurd cc
no-arrow b k bs _ us n e = refl

no-minus : (b k : ℕ) (bs : List ℕ) (x : Lexeme) (us : List Lexeme) → nat_eq b 45 ≡ false → first_lexeme b bs ≡ Some (x, k) → None ≡ minus_at (x ∷ us)
no-minus b k bs minus us n e = let t : nat_eq b 45 ≡ true = told b k bs minus e in absurd cc
no-minus b k bs _ us n e = refl

by_first : {A : Type 0} (f : List Lexeme → Option A) (o : Option (Lexeme × ℕ)) (r : ℕ → List Lexeme) → ((x : Lexeme) (k : ℕ) (us : List Lexeme) → o ≡ Some (x, k) → None ≡ f (x ∷ us))
    → None ≡ f (bad_mark ∷ []) → None ≡ f (elim o [ None ↦ bad_mark ∷ [] | Some p ↦ p.0 ∷ r p.1 ])
by_first f None r h bad = bad
by_first f (Some p) r h bad = h p.0 p.1 (r p.1) refl

begun : {A : Type 0} (f : List Lexeme → Option A) (b : ℕ) (bs : List ℕ) → IsSettled (b ∷ bs)
    → ((x : Lexeme) (k : ℕ) (us : List Lexeme) → first_lexeme b bs ≡ Some (x, k) → None ≡ f (x ∷ us)) → None ≡ f (bad_mark ∷ []) → None ≡ f (lexemes_to_bad (b ∷ bs))
begun f b bs s h bad = rw (s.0, s.1) (by_first f (first_lexeme b bs) (λ k. to_bad_after k bs) h bad)

no-bad : (mark : ℕ) → mark < 256 → None ≡ punct_at mark (bad_mark ∷ [])
no-bad mark h = let n : nat_eq 256 mark ≡ false = grind (arith, common_steps) in rw n refl

-- where another byte stands in front, the mark does not
pub other-byte : (mark b : ℕ) (bs text : List ℕ) → text ≡ b ∷ bs → IsSettled text → mark < 256 → nat_eq b mark ≡ false → None ≡ punct_at mark (lexemes_to_bad text)
other-byte mark b bs text e s h n = begun (punct_at mark) b bs (subst IsSettled e s) (λ x k us. no-mark mark b k bs x us n) (no-bad mark h) ∙ ap (λ t. punct_at mark (lexemes_to_bad t)) (sym e)

-- where the first byte of a word does not stand in front, the word does not
pub other-word : (c b : ℕ) (cs bs text : List ℕ) → text ≡ b ∷ bs → IsSettled text → nat_eq b c ≡ false → None ≡ word_at (c ∷ cs) (lexemes_to_bad text)
other-word c b cs bs text e s n = begun (word_at (c ∷ cs)) b bs (subst IsSettled e s) (λ x k us. no-word c b k cs bs x us n) refl ∙ ap (λ t. word_at (c ∷ cs) (lexemes_to_bad t)) (sym e)

-- what is no mark is not taken as one
pub no-punct : (mark b : ℕ) (bs text : List ℕ) → text ≡ b ∷ bs → IsSettled text → mark < 256 → is_punct mark ≡ false → None ≡ punct_at mark (lexemes_to_bad text)
no-punct mark b bs text e s h n =
    begun (punct_at mark) b bs (subst IsSettled e s) (λ x k us. no-other mark b k bs x us n) (no-bad mark h) ∙ ap (λ t. punct_at mark (lexemes_to_bad t)) (sym e)

-- where no name byte stands in front, no word does
pub other-any : (text : List ℕ) → IsSettled text → begins_word text ≡ false → None ≡ any_word_at (lexemes_to_bad text)
other-any [] s n = refl
other-any (b ∷ bs) s n = begun any_word_at b bs s (λ x k us. no-any b k bs x us n) refl

-- where % and a name do not stand in front, no name behind it does
pub other-local : (text : List ℕ) → IsSettled text → begins_local text ≡ false → None ≡ local_at (lexemes_to_bad text)
other-local [] s n = refl
other-local (b ∷ bs) s n = begun local_at b bs s (λ x k us. no-local b k bs x us n) refl

-- where - does not stand in front, neither -> nor - does
pub other-arrow : (text : List ℕ) → IsSettled text → begins 45 text ≡ false → None ≡ arrow_at (lexemes_to_bad text)
other-arrow [] s n = refl
other-arrow (b ∷ bs) s n = begun arrow_at b bs s (λ x k us. no-arrow b k bs x us n) refl

pub other-minus : (text : List ℕ) → IsSettled text → begins 45 text ≡ false → None ≡ minus_at (lexemes_to_bad text)
other-minus [] s n = refl
other-minus (b ∷ bs) s n = begun minus_at b bs s (λ x k us. no-minus b k bs x us n) refl

first-mark : (b : ℕ) (bs : List ℕ) → is_punct b ≡ true → first_lexeme b bs ≡ Some (punct b, 0)
unfolding first_lexeme
first-mark b bs h =
    let name : is_name_byte b ≡ false = grind (arith, common_steps) in
    let at : nat_eq b 64 ≡ false = grind (arith, common_steps) in
    let percent : nat_eq b 37 ≡ false = grind (arith, common_steps) in
    let dash : nat_eq b 45 ≡ false = grind (arith, common_steps) in
    rw (name, at, percent, dash, h) refl

-- a mark in front is taken, and what settles behind it is left
pub marked : (mark : ℕ) (bs text us : List ℕ) → text ≡ mark ∷ bs → IsSettled text → is_punct mark ≡ true → lexemes_to_bad us ≡ lexemes_to_bad bs
    → Some (lexemes_to_bad us) ≡ punct_at mark (lexemes_to_bad text)
marked mark bs text us e s p q =
    let z : IsSettled (mark ∷ bs) = subst IsSettled e s in
    let f : lexemes_to_bad (mark ∷ bs) ≡ punct mark ∷ lexemes_to_bad bs = rw (z.0, z.1, first-mark mark bs p) refl in
    let n : nat_eq mark mark ≡ true = grind arith in
    let r : punct_at mark (punct mark ∷ lexemes_to_bad bs) ≡ Some (lexemes_to_bad bs) = rw n refl in
    ap Some q ∙ sym (ap (punct_at mark) (ap lexemes_to_bad e ∙ f) ∙ r)
