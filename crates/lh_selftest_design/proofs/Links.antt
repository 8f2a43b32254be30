-- Texts of links, written one behind the other.
use Rattle.std.proofs.Common.{◌≡◌, ℕ, zero, suc, ◌+◌, List, [], ◌∷◌, ◌++◌, ap, sym, ◌∙◌, arith}
use Rattle.std.specs.List.{flat_map, range_with_len}
use Rattle.std.proofs.lemmas.List.{flat_map_more}

range-more : (a n j : ℕ) → a + n ≡ j → range_with_len a (suc n) ≡ range_with_len a n ++ j ∷ []
range-more a zero j e = ap (λ (k : ℕ). k ∷ []) (omega (arith, e))
range-more a (suc n) j e = ap (λ l. a ∷ l) (range-more (a + 1) n j (omega (arith, e)))

-- the texts of the links before this one are written
abbrev pub Written : (ℕ → List ℕ) → (start to : List ℕ) → ℕ → Type 0
Written text start to i = to ≡ start ++ flat_map text (range_with_len 0 i)

pub Written-next : (text : ℕ → List ℕ) (start to next : List ℕ) (i j : ℕ) → j ≡ i → Written text start to i → next ≡ to ++ text j → Written text start next (i + 1)
Written-next text start to next i j same w g =
    let e : suc i ≡ i + 1 = omega arith in
    let h : 0 + i ≡ i = omega arith in
    g ∙ ap (λ k. to ++ text k) same ∙ ap (λ l. l ++ text i) w ∙ flat_map_more text start (range_with_len 0 i) i
    ∙ ap (λ ns. start ++ flat_map text ns) (sym (range-more 0 i i h)) ∙ ap (λ k. start ++ flat_map text (range_with_len 0 k)) e
