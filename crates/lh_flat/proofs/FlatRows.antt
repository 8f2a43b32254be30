-- Flat texts, computed from the definition.
use Rattle.std.proofs.Common.{◌≡◌, ℕ, List, [], ◌∷◌, ◌++◌, true, false, Some, None, refl}
use Rattle.std.specs.Prelude.{codes}
use Rattle.lh_types.specs.Types.{int_type}
use Rattle.lh_types.specs.Values.{int_value}
use Rattle.lh_unit.specs.Contents.{EdgeText, LineText, const_text, phi_text, br_text, branch_text, wait_text}
use Rattle.lh_flat.specs.Calls.{recursion_from, nest_deeper, callees}
use Rattle.lh_flat.specs.Flat.{FlatBlockText, refused, flattened, recursive_call, call_too_deep, flat_in, text_of, inst_count}
use Rattle.lh_flat.proofs.Samples.{global, gives, does, edge, recursive, caller_of, chain, or_one, twice}

recursion_is_named : flat_in (recursive ∷ []) (caller_of (codes "f")) ≡ refused (recursive_call (global (codes "f")))
unfolding flat_in
recursion_is_named = refl

nest_64 : nest_deeper 64 (chain 64 0) (callees (caller_of (0 ∷ []))) ≡ false
nest_64 = refl

nest_65 : nest_deeper 64 (chain 65 0) (callees (caller_of (0 ∷ []))) ≡ true
nest_65 = refl

no_recursion_64 : recursion_from 65 (chain 64 0) [] (callees (caller_of (0 ∷ []))) ≡ None
no_recursion_64 = refl

no_recursion_65 : recursion_from 66 (chain 65 0) [] (callees (caller_of (0 ∷ []))) ≡ None
no_recursion_65 = refl

count_64 : inst_count (text_of (chain 64 0) (caller_of (0 ∷ []))).blocks ≡ 129
count_64 = refl

-- 64 nested calls have a flat text, and 65 have none
chain_of_64 : flat_in (chain 64 0) (caller_of (0 ∷ [])) ≡ flattened (text_of (chain 64 0) (caller_of (0 ∷ [])))
unfolding flat_in
chain_of_64 = refl

chain_of_65 : flat_in (chain 65 0) (caller_of (0 ∷ [])) ≡ refused call_too_deep
unfolding flat_in
chain_of_65 = refl

-- The first copy of `g` is that of the call at line 1 of the block `s`, and the second that at line 2. The argument of the second is what the
-- first gives. A `ret` leads to what follows its call, and the `phi` names the last piece of `s`.
abbrev first : List ℕ
first = codes "s" ++ 257 ∷ []

abbrev second : List ℕ
second = codes "s" ++ 258 ∷ []

abbrev plain : List ℕ → List LineText → FlatBlockText
plain label lines = record { label = label; merge = None; lines = lines }

abbrev merged : List ℕ → List ℕ → List EdgeText → List LineText → FlatBlockText
merged label value edges lines = record { label = label; merge = Some (record { value = value; ty = int_type 1; edges = edges }); lines = lines }

-- the blocks of a copy of `g` on an argument
abbrev copy_of_g : List ℕ → (argument : List ℕ) → List FlatBlockText
copy_of_g path a =
    plain (path ++ codes "e") (does (branch_text a (path ++ codes "z") (path ++ codes "n")) ∷ [])
    ∷ plain (path ++ codes "z") (gives (path ++ codes "k") (const_text (int_value 1 1)) ∷ does (br_text path) ∷ [])
    ∷ plain (path ++ codes "n") (does (br_text path) ∷ [])
    ∷ []

called_twice : (text_of (or_one ∷ []) twice).blocks ≡
    plain (codes "s") (gives (codes "x") (const_text (int_value 1 0)) ∷ does (br_text (first ++ codes "e")) ∷ [])
    ∷ (copy_of_g first (codes "x")
    ++ (merged first (codes "y") (edge (first ++ codes "k") (first ++ codes "z") ∷ edge (codes "x") (first ++ codes "n") ∷ []) (does (br_text (second ++ codes "e")) ∷ [])
    ∷ (copy_of_g second (codes "y")
    ++ (merged second (codes "w") (edge (second ++ codes "k") (second ++ codes "z") ∷ edge (codes "y") (second ++ codes "n") ∷ []) (does (br_text (codes "t")) ∷ [])
    ∷ plain (codes "t") (gives (codes "v") (phi_text (int_type 1) (edge (codes "w") second ∷ [])) ∷ does (wait_text (codes "s") None []) ∷ [])
    ∷ []))))
called_twice = refl
