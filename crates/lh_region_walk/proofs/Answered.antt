-- What holds of an answer.
use Rattle.std.proofs.Common.{◌≡◌, true, false, Option, Some, None, is_some, Result, Ok, Err, refl, sym}
use Rattle.std.specs.Option.{MatchOption}
use Rattle.std.specs.Result.{OnOk}
use Rattle.std.proofs.lemmas.Bool.{false≢true}

pub ok-both : {A E : Type 0} (r : Result A E) (P Q R : Type 0) → (P → Q → R) → OnOk r P → OnOk r Q → OnOk r R
ok-both (Ok x) P Q R f p q = f p q
ok-both (Err x) P Q R f p q = tt

pub ok-three : {A E : Type 0} (r : Result A E) (P Q R S : Type 0) → (P → Q → R → S) → OnOk r P → OnOk r Q → OnOk r R → OnOk r S
ok-three (Ok x) P Q R S f p q s = f p q s
ok-three (Err x) P Q R S f p q s = tt

pub match-none : {A : Type 0} (o : Option A) (P : Type 0) (Q : A → Type 0) → MatchOption o P Q → is_some o ≡ false → P
match-none None P Q h e = h
match-none (Some x) P Q h e = absurd (false≢true (sym e))

pub match-some : {A : Type 0} (o : Option A) (P : Type 0) (Q : A → Type 0) → MatchOption o P Q → is_some o ≡ true → (x : A) × Q x
match-some None P Q h e = absurd (false≢true e)
match-some (Some x) P Q h e = (x, h)

pub none-of : {A : Type 0} (o : Option A) → ((x : A) → o ≡ Some x → ⊥) → o ≡ None
none-of None h = refl
none-of (Some x) h = absurd (h x refl)
