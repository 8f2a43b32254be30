use Rattle.std.proofs.Common.{◌≡◌, ℕ, refl, length, List, [], ◌∷◌, get_or, sym, ap, ◌∙◌, Bool, IsTrue, arith}
use Rattle.std.specs.Str.{bytes_eq}
use Rattle.std.specs.Cmp.Lexicographic.{same_text, bytes_decides}
use Rattle.lh_args.proofs.command.is_one.Goals as goal

-- one word is a text exactly where the test of the two says so
one_word : (words : List (List ℕ)) (word seen sought text : List ℕ) (test : Bool) → length words ≡ 1 → word ≡ get_or words 0 word → seen ≡ word → sought ≡ text → test ≡ bytes_eq seen sought
    → (IsTrue test → words ≡ text ∷ []) × (words ≡ text ∷ [] → IsTrue test)
one_word [] word seen sought text test one is same of by = absurd (omega arith)
one_word (w ∷ []) word seen sought text test one is same of by = (
  λ e. ap (λ x. x ∷ []) (sym (same ∙ is) ∙ same_text seen sought (sym e ∙ by) ∙ of),
  λ e. let it : w ≡ text = cc in by ∙ (bytes_decides seen sought).1 (same ∙ is ∙ it ∙ sym of),
)
one_word (w ∷ v ∷ more) word seen sought text test one is same of by = absurd (omega arith)

pub returns-then-words-eq1 : goal.returns-then-words-eq1
returns-then-words-eq1 c = one_word _ _ _ _ _ _ c.if-words-eq1.true c.index-words-0.is c.as_slice.ensures refl c.eq.ensures
