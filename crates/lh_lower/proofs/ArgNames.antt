-- The names of the arguments of a unit, one after another.
use Rattle.std.proofs.Common.{◌≡◌, ℕ, ◌+◌, ◌<◌, List, [], ◌∷◌, ◌++◌, length, map, take, get_or, refl, ap, sym, ◌∙◌, subst, add-one}
use Rattle.std.proofs.Math.Seq.{take-suc}
use Rattle.std.proofs.lemmas.List.{map-append}
use Rattle.lh_unit.specs.declared.inst.Arg.{Arg}
use Rattle.lh_unit.specs.Arena.{Arena, IsArena, args_at, unit_count, unit_text_at, value_count, value_name_at, naming}
use Rattle.lh_unit.specs.Contents.{ArgText}
use Rattle.lh_unit.specs.Naming.{arg_text}
use Rattle.lh_unit.specs.Table.{ArgsWithin}
use Rattle.lh_unit.proofs.PlacedIds.{args-item}
use Rattle.lh_term.proofs.Swaps.{take_whole}

-- the names of the first i arguments
abbrev pub names_to : Arena → (u : ℕ) → List Arg → (i : ℕ) → List (List ℕ)
names_to a u xs i = map (λ (x : Arg). value_name_at a u x.value.0) (take i xs)

pub arg-within : (a : Arena) (u : ℕ) (xs : List Arg) (i : ℕ) (x : Arg) → IsArena a → u < unit_count a → xs ≡ args_at a u → i < length xs → x ≡ get_or xs i x → x.value.0 < value_count a u
arg-within a u xs i x o h e l q = args-item (value_count a u) xs i x (subst (ArgsWithin (value_count a u)) (sym e) (o.tables u h).args_within) l q

pub names-next : (a : Arena) (u : ℕ) (xs : List Arg) (i : ℕ) (x : Arg) → i < length xs → x ≡ get_or xs i x → names_to a u xs (i + 1) ≡ names_to a u xs i ++ value_name_at a u x.value.0 ∷ []
names-next a u xs i x h e =
    let f : Arg → List ℕ = λ (y : Arg). value_name_at a u y.value.0 in
    ap (λ (n : ℕ). map f (take n xs)) (add-one i) ∙ ap (map f) (take-suc xs i x h) ∙ map-append f (take i xs) (get_or xs i x ∷ []) ∙ ap (λ (y : Arg). map f (take i xs) ++ f y ∷ []) (sym e)

texts : (a : Arena) (u : ℕ) (xs : List Arg) → map (λ (x : Arg). value_name_at a u x.value.0) xs ≡ map (λ (x : ArgText). x.name) (map (arg_text (naming a u)) xs)
texts a u [] = refl
texts a u (x ∷ xs) = ap (λ (ns : List (List ℕ)). value_name_at a u x.value.0 ∷ ns) (texts a u xs)

pub names-all : (a : Arena) (u : ℕ) (xs : List Arg) (i : ℕ) → xs ≡ args_at a u → i ≡ length xs → names_to a u xs i ≡ map (λ (x : ArgText). x.name) (unit_text_at a u).args
names-all a u xs i e l =
    ap (names_to a u xs) l ∙ ap (map (λ (x : Arg). value_name_at a u x.value.0)) (take_whole xs) ∙ ap (map (λ (x : Arg). value_name_at a u x.value.0)) e ∙ texts a u (args_at a u)
