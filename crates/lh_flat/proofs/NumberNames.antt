-- Names of numbers in a row, and a text that is read block by block.
use Rattle.std.proofs.Common.{◌≡◌, ℕ, suc, ◌+◌, List, [], ◌∷◌, ◌++◌, length, map, refl, ap, sym, ◌∙◌, subst, arith}
use Rattle.std.proofs.lemmas.List.{length-append}
use Rattle.lh_unit.specs.Naming.{Naming}
use Rattle.lh_flat.specs.declared.flat.FlatBlock.{FlatBlock}
use Rattle.lh_flat.specs.Flat.{FlatBlockText}
use Rattle.lh_flat.specs.Reads.{flat_block_text, flat_blocks_text}
use Rattle.lh_flat.specs.CopyNames.{NamedFrom}
use Rattle.lh_flat.proofs.CalledFunctions.{zero_first}

pub moved : (name : ℕ → List ℕ) (m n : ℕ) (xs : List (List ℕ)) → m ≡ n → NamedFrom name m xs → NamedFrom name n xs
moved name m n xs e h = subst (λ k. NamedFrom name k xs) e h

one_less : (n k : ℕ) → n + 1 + k ≡ n + suc k
one_less n k = omega arith

pub none_less : (n : ℕ) → n ≡ n + 0
none_less n = omega arith

pub named-left : (name : ℕ → List ℕ) (n : ℕ) (xs ys : List (List ℕ)) → NamedFrom name n (xs ++ ys) → NamedFrom name n xs
named-left name n [] ys h = tt
named-left name n (x ∷ xs) ys h = (h.0, named-left name (n + 1) xs ys h.1)

pub named-right : (name : ℕ → List ℕ) (n : ℕ) (xs ys : List (List ℕ)) → NamedFrom name n (xs ++ ys) → NamedFrom name (n + length xs) ys
named-right name n [] ys h = moved name n (n + 0) ys (none_less n) h
named-right name n (x ∷ xs) ys h = moved name (n + 1 + length xs) (n + suc (length xs)) ys (one_less n (length xs)) (named-right name (n + 1) xs ys h.1)

abbrev pub labels : List FlatBlockText → List (List ℕ)
labels bs = map (λ (b : FlatBlockText). b.label) bs

-- the labels of some blocks, and of those behind them
pub labels-left : (name : ℕ → List ℕ) (n : ℕ) (xs ys : List FlatBlockText) → NamedFrom name n (labels (xs ++ ys)) → NamedFrom name n (labels xs)
labels-left name n [] ys h = tt
labels-left name n (x ∷ xs) ys h = (h.0, labels-left name (n + 1) xs ys h.1)

pub labels-right : (name : ℕ → List ℕ) (n : ℕ) (xs ys : List FlatBlockText) → NamedFrom name n (labels (xs ++ ys)) → NamedFrom name (n + length xs) (labels ys)
labels-right name n [] ys h = moved name n (n + 0) (labels ys) (none_less n) h
labels-right name n (x ∷ xs) ys h = moved name (n + 1 + length xs) (n + suc (length xs)) (labels ys) (one_less n (length xs)) (labels-right name (n + 1) xs ys h.1)

-- what is read of blocks from place k on, and of one more
pub read-push : (g : Naming) (k : ℕ) (xs : List FlatBlock) (b : FlatBlock) → flat_blocks_text g k (xs ++ b ∷ []) ≡ flat_blocks_text g k xs ++ flat_block_text g (k + length xs) b ∷ []
read-push g k [] b = ap (λ n. flat_block_text g n b ∷ []) (none_less k)
read-push g k (x ∷ xs) b = ap (λ more. flat_block_text g k x ∷ more) (read-push g (k + 1) xs b ∙ ap (λ n. flat_blocks_text g (k + 1) xs ++ flat_block_text g n b ∷ []) (one_less k (length xs)))

pub read-long : (g : Naming) (k : ℕ) (xs : List FlatBlock) → length (flat_blocks_text g k xs) ≡ length xs
read-long g k [] = refl
read-long g k (x ∷ xs) = ap suc (read-long g (k + 1) xs)

abbrev pub read : Naming → List FlatBlock → List FlatBlockText
read g xs = flat_blocks_text g 0 xs

pub read-one_more : (g : Naming) (xs : List FlatBlock) (b : FlatBlock) → read g (xs ++ b ∷ []) ≡ read g xs ++ flat_block_text g (length xs) b ∷ []
read-one_more g xs b = read-push g 0 xs b ∙ ap (λ n. read g xs ++ flat_block_text g n b ∷ []) (zero_first (length xs))

-- how many blocks there are where so many were added
pub long-by_text : (g : Naming) (xs ys : List FlatBlock) (more : List FlatBlockText) → read g ys ≡ read g xs ++ more → length ys ≡ length xs + length more
long-by_text g xs ys more e = sym (read-long g 0 ys) ∙ ap length e ∙ length-append (read g xs) more ∙ ap (λ n. n + length more) (read-long g 0 xs)
