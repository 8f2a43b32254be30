-- The canonical text of the file of a chain.
use Rattle.std.proofs.Common.{◌≡◌, ℕ, ◌+◌, List, [], ◌∷◌, ◌++◌, map, None, decimal, refl, ap, sym, ◌∙◌, append_assoc}
use Rattle.std.proofs.lemmas.List.{append-nil, map-append}
use Rattle.std.specs.Fmt.{digits}
use Rattle.std.specs.List.{flat_map, range_with_len}
use Rattle.std.specs.Prelude.{codes}
use Rattle.lh_unit.specs.declared.inst.UnitKind.TheVariants as kind
use Rattle.lh_unit.specs.Contents.{LineText, unit_text}
use Rattle.lh_unit.specs.Marks.{close_brace}
use Rattle.lh_unit.specs.Pieces.{Piece, render, mark}
use Rattle.lh_unit.specs.Canon.{canon_inst_line, header, item_lines, text_of, canon}
use Rattle.lh_unit.proofs.RenderedPieces.{text_of-append}
use Rattle.lh_selftest_design.specs.Generated.{chain_begins, signals_of, instances_of, chain_ends, chain, register, adder, testbench, generated}
use Rattle.lh_selftest_design.specs.Summary.{chain_name}
use Rattle.lh_selftest_laws.specs.Words.{bit, word, signal, gives, begins_with, instance}
use Rattle.lh_selftest_laws.specs.Chain.{chain_first, link_signals, link_instances, chain_last, chain_lines, chain_unit, register_unit, adder_unit, testbench_unit, chain_file}

-- the text of instructions
abbrev lines_text : List LineText → List ℕ
lines_text ls = text_of (map canon_inst_line ls)

lines-append : (a b : List LineText) → lines_text (a ++ b) ≡ lines_text a ++ lines_text b
lines-append a b = ap text_of (map-append canon_inst_line a b) ∙ text_of-append (map canon_inst_line a) (map canon_inst_line b)

links-text : (f : ℕ → List LineText) (g : ℕ → List ℕ) → ((i : ℕ) → lines_text (f i) ≡ g i) → (is : List ℕ) → lines_text (flat_map f is) ≡ flat_map g is
links-text f g h [] = refl
links-text f g h (i ∷ is) = lines-append (f i) (flat_map f is) ∙ ap (λ t. t ++ lines_text (flat_map f is)) (h i) ∙ ap (λ t. g i ++ t) (links-text f g h is)

-- ---- the lines of a link

-- the parts of two lines, each behind what is joined before it
signals-joined : (a m b c n d : List ℕ) → (a ++ (m ++ b)) ++ 10 ∷ ((c ++ (n ++ d)) ++ 10 ∷ []) ≡ a ++ m ++ (b ++ 10 ∷ []) ++ c ++ n ++ (d ++ 10 ∷ [])
signals-joined a m b c n d = simp append_assoc

instances-joined : (a m b n c d k e l f p g : List ℕ) → (a ++ (m ++ (b ++ (n ++ c)))) ++ 10 ∷ ((d ++ (k ++ (e ++ (l ++ (f ++ (p ++ g)))))) ++ 10 ∷ [])
    ≡ (a ++ m ++ b ++ n ++ (c ++ 10 ∷ [])) ++ (d ++ k ++ e ++ l ++ f ++ p ++ (g ++ 10 ∷ []))
instances-joined a m b n c d k e l f p g = simp append_assoc

signals-text : (d x : List ℕ) → lines_text (gives (100 ∷ d) (begins_with word "z") ∷ gives (120 ∷ x) (begins_with word "z") ∷ []) ≡
    (codes "    %d" ++ (d ++ codes " = sig i32 %z")) ++ 10 ∷ ((codes "    %x" ++ (x ++ codes " = sig i32 %z")) ++ 10 ∷ [])
unfolding digits
signals-text d x = refl

instances-text : (d x y : List ℕ) →
    lines_text (
    instance "ff" (signal bit (codes "clk") ∷ signal word (100 ∷ d) ∷ []) (signal word (120 ∷ y) ∷ [])
    ∷ instance "comb" (signal word (120 ∷ y) ∷ signal word (120 ∷ x) ∷ []) (signal word (100 ∷ d) ∷ []) ∷ []) ≡
    (codes "    inst @ff (i1$ %clk, i32$ %d" ++ (d ++ (codes ") -> (i32$ %x" ++ (y ++ codes ")"))))
    ++ 10 ∷ ((codes "    inst @comb (i32$ %x" ++ (y ++ (codes ", i32$ %x" ++ (x ++ (codes ") -> (i32$ %d" ++ (d ++ codes ")")))))) ++ 10 ∷ [])
unfolding digits
instances-text d x y = refl

link_signals-text : (i : ℕ) → lines_text (link_signals i) ≡ signals_of i
link_signals-text i =
    signals-text (decimal i) (decimal (i + 1))
    ∙ signals-joined (codes "    %d") (decimal i) (codes " = sig i32 %z") (codes "    %x") (decimal (i + 1)) (codes " = sig i32 %z")

link_instances-text : (i : ℕ) → lines_text (link_instances i) ≡ instances_of i
link_instances-text i =
    instances-text (decimal i) (decimal i) (decimal (i + 1))
    ∙ instances-joined (codes "    inst @ff (i1$ %clk, i32$ %d") (decimal i) (codes ") -> (i32$ %x") (decimal (i + 1)) (codes ")")
    (codes "    inst @comb (i32$ %x") (decimal (i + 1)) (codes ", i32$ %x") (decimal i) (codes ") -> (i32$ %d") (decimal i) (codes ")")

-- ---- the chain

-- the first line of the chain
abbrev first_line : List ℕ
first_line = render (header kind.Entity chain_name [] None)

begins-text : first_line ++ 10 ∷ lines_text chain_first ≡ chain_begins
unfolding digits
begins-text = refl

ends-text : lines_text chain_last ++ text_of (mark close_brace ∷ []) ≡ chain_ends
unfolding digits
ends-text = refl

-- the parts of a text in another order of joining
joined : (h f s i e c : List ℕ) → h ++ 10 ∷ (f ++ s ++ i ++ e ++ c) ≡ (h ++ 10 ∷ f) ++ s ++ i ++ (e ++ c)
joined h f s i e c = simp append_assoc

chain_lines-text : (n : ℕ) → lines_text (chain_lines n) ≡ lines_text chain_first ++ flat_map signals_of (range_with_len 0 n) ++ flat_map instances_of (range_with_len 0 n) ++ lines_text chain_last
chain_lines-text n =
    let ss : List LineText = flat_map link_signals (range_with_len 0 n) in
    let is : List LineText = flat_map link_instances (range_with_len 0 n) in
    let s : lines_text ss ≡ flat_map signals_of (range_with_len 0 n) = links-text link_signals signals_of link_signals-text (range_with_len 0 n) in
    let i : lines_text is ≡ flat_map instances_of (range_with_len 0 n) = links-text link_instances instances_of link_instances-text (range_with_len 0 n) in
    lines-append (chain_first ++ ss ++ is) chain_last
    ∙ ap (λ t. t ++ lines_text chain_last) (lines-append (chain_first ++ ss) is ∙ ap (λ t. t ++ lines_text is) (lines-append chain_first ss))
    ∙ ap (λ t. lines_text chain_first ++ t ++ lines_text is ++ lines_text chain_last) s
    ∙ ap (λ t. lines_text chain_first ++ flat_map signals_of (range_with_len 0 n) ++ t ++ lines_text chain_last) i

chain-text : (n : ℕ) → text_of (item_lines (unit_text (chain_unit n))) ≡ chain n
chain-text n =
    let ls : List (List Piece) = map canon_inst_line (chain_lines n) in
    let end : List (List Piece) = mark close_brace ∷ [] in
    let ss : List ℕ = flat_map signals_of (range_with_len 0 n) in
    let is : List ℕ = flat_map instances_of (range_with_len 0 n) in
    ap (λ t. first_line ++ 10 ∷ text_of (t ++ end)) (append-nil ls)
    ∙ ap (λ t. first_line ++ 10 ∷ t) (text_of-append ls end ∙ ap (λ t. t ++ text_of end) (chain_lines-text n))
    ∙ joined first_line (lines_text chain_first) ss is (lines_text chain_last) (text_of end)
    ∙ ap (λ t. t ++ ss ++ is ++ (lines_text chain_last ++ text_of end)) begins-text
    ∙ ap (λ t. chain_begins ++ ss ++ is ++ t) ends-text

-- ---- the other units

register-text : text_of (item_lines (unit_text register_unit)) ≡ register
unfolding digits
register-text = refl

adder-text : text_of (item_lines (unit_text adder_unit)) ≡ adder
unfolding digits
adder-text = refl

testbench-text : text_of (item_lines (unit_text testbench_unit)) ≡ testbench
unfolding digits
testbench-text = refl

four : (a b c d : List (List Piece)) → text_of (a ++ (b ++ (c ++ (d ++ [])))) ≡ text_of a ++ text_of b ++ text_of c ++ text_of d
four a b c d =
    text_of-append a (b ++ (c ++ (d ++ [])))
    ∙ ap (λ t. text_of a ++ t) (text_of-append b (c ++ (d ++ [])) ∙ ap (λ t. text_of b ++ t) (text_of-append c (d ++ []) ∙ ap (λ t. text_of c ++ text_of t) (append-nil d)))
    ∙ sym (append_assoc (text_of a) (text_of b) (text_of c ++ text_of d)) ∙ sym (append_assoc (text_of a ++ text_of b) (text_of c) (text_of d))

-- the canonical text of the file is the text of the chain
pub chain_file-text : (n : ℕ) → canon (chain_file n) ≡ generated n
chain_file-text n =
    four (item_lines (unit_text (chain_unit n))) (item_lines (unit_text register_unit)) (item_lines (unit_text adder_unit)) (item_lines (unit_text testbench_unit))
    ∙ ap (λ t. t ++ text_of (item_lines (unit_text register_unit)) ++ text_of (item_lines (unit_text adder_unit)) ++ text_of (item_lines (unit_text testbench_unit))) (chain-text n)
    ∙ ap (λ t. chain n ++ t ++ text_of (item_lines (unit_text adder_unit)) ++ text_of (item_lines (unit_text testbench_unit))) register-text
    ∙ ap (λ t. chain n ++ register ++ t ++ text_of (item_lines (unit_text testbench_unit))) adder-text
    ∙ ap (λ t. chain n ++ register ++ adder ++ t) testbench-text
