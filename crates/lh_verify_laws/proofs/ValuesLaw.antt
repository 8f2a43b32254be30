-- The type of a value whose name is defined once is that of what its instruction gives.
use Rattle.std.proofs.Common.{◌≡◌, ℕ, ◌+◌, List, [], ◌∷◌, ◌++◌, length, map, Bool, true, false, ◌||◌, if◌then◌else◌, Some, None, refl, ap, ◌∙◌, subst}
use Rattle.std.specs.List.{All}
use Rattle.std.specs.Option.{option_map, option_and_then}
use Rattle.std.proofs.lemmas.List.Elements.{All-nil, All-cons, All-contains}
use Rattle.std.proofs.lemmas.Bool.{false≢true, or_parts, or_left, or_right}
use Rattle.lh_unit.specs.Contents.{InstText, LineText, BlockText, ArgText, UnitText, ItemText, unit_text, declare_text, is_result_name, lines_define, blocks_define, args_define}
use Rattle.lh_unit_names.specs.Names.{same_name}
use Rattle.lh_unit.specs.Typing.{or_else, result_type, line_giving, inst_giving, arg_named}
use Rattle.lh_unit.specs.Places.{InstPlaceText, places_in, places_from}
use Rattle.lh_unit.specs.Within.{Each}
use Rattle.lh_unit.specs.WellFormed.{Site, sites}
use Rattle.lh_verify_laws.specs.Results.{ValuesHaveTypes}
use Rattle.lh_verify_laws.proofs.Sound.{site_in}

-- what an instruction gives is defined in its unit
abbrev IsDefined : Site → Type 0
IsDefined s = (n : List ℕ) → is_result_name n s.place.line.result ≡ true → blocks_define n s.unit.blocks ≡ true

-- of the lines of the rest of a block, where what they define is defined in the unit
lines_defined : (u : UnitText) (k : ℕ) (e : Bool) (b : BlockText) (before rest : List LineText) → ((n : List ℕ) → lines_define n rest ≡ true → blocks_define n u.blocks ≡ true)
    → (more : List Site) → All IsDefined more → All IsDefined (map (site_in u) (places_in k e b before rest) ++ more)
lines_defined u k e b before [] d more a = a
lines_defined u k e b before (l ∷ rest) d more a =
    let p : InstPlaceText = record { number = k; in_entry = e; block = b; before = before; line = l; after = rest } in
    All-cons IsDefined (site_in u p) (map (site_in u) (places_in (k + 1) e b (before ++ l ∷ []) rest) ++ more)
    (λ n h. d n (or_left (is_result_name n l.result) (lines_define n rest) h))
    (lines_defined u (k + 1) e b (before ++ l ∷ []) rest (λ n h. d n (or_right (is_result_name n l.result) (lines_define n rest) h)) more a)

-- sites of places, one list after another
site-append : (u : UnitText) (ps qs : List InstPlaceText) (more : List Site) → map (site_in u) ps ++ (map (site_in u) qs ++ more) ≡ map (site_in u) (ps ++ qs) ++ more
site-append u [] qs more = refl
site-append u (p ∷ ps) qs more = ap (λ l. site_in u p ∷ l) (site-append u ps qs more)

blocks_defined : (u : UnitText) (k : ℕ) (e : Bool) (bs : List BlockText) → ((n : List ℕ) → blocks_define n bs ≡ true → blocks_define n u.blocks ≡ true)
    → (more : List Site) → All IsDefined more → All IsDefined (map (site_in u) (places_from k e bs) ++ more)
blocks_defined u k e [] d more a = a
blocks_defined u k e (b ∷ bs) d more a =
    let P : List Site → Type 0 = λ l. All IsDefined l in
    subst P (site-append u (places_in k e b [] b.lines) (places_from (k + length b.lines) false bs) more)
    (lines_defined u k e b [] b.lines (λ n h. d n (or_left (lines_define n b.lines) (blocks_define n bs) h)) (map (site_in u) (places_from (k + length b.lines) false bs) ++ more)
    (blocks_defined u (k + length b.lines) false bs (λ n h. d n (or_right (lines_define n b.lines) (blocks_define n bs) h)) more a))

sites_defined : (items : List ItemText) → All IsDefined (sites items)
sites_defined [] = All-nil IsDefined
sites_defined (unit_text u ∷ more) = blocks_defined u 1 true u.blocks (λ n h. h) (sites more) (sites_defined more)
sites_defined (declare_text d ∷ more) = sites_defined more

abbrev AllGive : List ℕ → InstText → List LineText → Type 0
AllGive n i ls = Each (λ (l : LineText). is_result_name n l.result ≡ true → l.inst ≡ i) ls

line_none : (n : List ℕ) (ls : List LineText) → lines_define n ls ≡ false → line_giving n ls ≡ None
line_none n [] h = refl
line_none n (l ∷ more) h =
    let b = or_parts (is_result_name n l.result) (lines_define n more) h in
    ap (λ x. if x then Some l.inst else line_giving n more) b.0 ∙ line_none n more b.1

line_some : (n : List ℕ) (i : InstText) (ls : List LineText) → lines_define n ls ≡ true → AllGive n i ls → line_giving n ls ≡ Some i
line_some n i [] h g = absurd (false≢true h)
line_some n i (l ∷ more) h g = at (is_result_name n l.result) refl h (λ d. line_some n i more d g.1)
  where
    at : (x : Bool) → is_result_name n l.result ≡ x → (x || lines_define n more) ≡ true → (lines_define n more ≡ true → line_giving n more ≡ Some i)
        → (if x then Some l.inst else line_giving n more) ≡ Some i
    at true e d r = ap Some (g.0 e)
    at false e d r = r d

inst_some : (n : List ℕ) (i : InstText) (bs : List BlockText) → blocks_define n bs ≡ true → Each (λ (b : BlockText). AllGive n i b.lines) bs → inst_giving n bs ≡ Some i
inst_some n i [] h g = absurd (false≢true h)
inst_some n i (b ∷ more) h g = at (lines_define n b.lines) refl h (λ d. inst_some n i more d g.1)
  where
    at : (x : Bool) → lines_define n b.lines ≡ x → (x || blocks_define n more) ≡ true → (blocks_define n more ≡ true → inst_giving n more ≡ Some i)
        → or_else (line_giving n b.lines) (inst_giving n more) ≡ Some i
    at true e d r = ap (λ o. or_else o (inst_giving n more)) (line_some n i b.lines e g.0)
    at false e d r = ap (λ o. or_else o (inst_giving n more)) (line_none n b.lines e) ∙ r d

pub arg_none : (n : List ℕ) (args : List ArgText) → args_define n args ≡ false → arg_named n args ≡ None
arg_none n [] h = refl
arg_none n (a ∷ more) h =
    let b = or_parts (same_name a.name n) (args_define n more) h in
    ap (λ x. if x then Some a else arg_named n more) b.0 ∙ arg_none n more b.1

pub values_have_types : ValuesHaveTypes
values_have_types items s f c n only =
    let u = s.unit in
    let d = All-contains IsDefined (sites items) s (sites_defined items) c n only.named in
    ap (λ o. or_else (option_map (λ (a : ArgText). a.ty) o) (option_and_then result_type (inst_giving n u.blocks))) (arg_none n u.args only.no_argument)
    ∙ ap (option_and_then result_type) (inst_some n s.place.line.inst u.blocks d only.no_other)
