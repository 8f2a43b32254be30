-- Each operand of an instruction without a fault has a type of its kind.
use Rattle.std.proofs.Common.{◌≡◌, ℕ, ◌+◌, List, [], ◌∷◌, ◌++◌, length, map, Bool, true, false, if◌then◌else◌, Option, Some, None, refl, ap, sym, ◌∙◌, subst}
use Rattle.std.specs.Option.{option_map, option_and_then}
use Rattle.std.proofs.lemmas.Bool.{not-false}
use Rattle.std.proofs.lemmas.Option.{none-some}
use Rattle.lh_types.specs.Types.{TypeTree, signal_type, pointer_type}
use Rattle.lh_unit.specs.Contents.{InstText, var_text, sig_text, LineText, BlockText, ArgText, UnitText, ItemText, is_result_name}
use Rattle.lh_unit_names.specs.Names.{same_name}
use Rattle.lh_unit.specs.Typing.{or_else, result_type, line_giving, inst_giving, arg_named, value_type}
use Rattle.lh_unit.specs.Kinds.{Kind, kind_of, result_kind, Use, uses, takes, value_kind}
use Rattle.lh_unit.specs.TypingRows.{types_fit}
use Rattle.lh_unit.specs.Places.{places_in, places_from, places}
use Rattle.lh_unit.specs.Within.{Each}
use Rattle.lh_unit.specs.WellFormed.{Site, has_paths, NoneHasFault}
use Rattle.lh_verify_laws.specs.Results.{GivesTypeOfRow}
use Rattle.lh_verify_laws.specs.KindsOf.{ArgsHaveKinds, HasTypeOfKind, OperandsHaveTypes}
use Rattle.lh_verify_laws.proofs.Sound.{Sound, site_in, at_site}
use Rattle.lh_verify_laws.proofs.ShapeLaw.{none-places}
use Rattle.lh_verify_laws.proofs.OperandsLaw.{types_right, operands_are_taken}
use Rattle.lh_verify_laws.proofs.RowsLaw.{row_is}
use Rattle.lh_verify_laws.proofs.ResultsLaw.{gives}
use Rattle.lh_unit.proofs.Within.{Each-more}

-- what each line of a unit gives
lines_give : (items : List ItemText) (u : UnitText) → has_paths items u ≡ true → NoneHasFault items (map (site_in u) (places u)) → (k : ℕ) (e : Bool) (b : BlockText) (before rest : List LineText)
    → NoneHasFault items (map (site_in u) (places_in k e b before rest)) → Each (λ (l : LineText). GivesTypeOfRow l.inst) rest
lines_give items u q w k e b before [] n = tt
lines_give items u q w k e b before (l ∷ rest) n =
    let s : Site = site_in u (record { number = k; in_entry = e; block = b; before = before; line = l; after = rest }) in
    let f : Sound items s = record { none = n.0; paths = q; others = w } in
    (gives u l.inst (row_is u l.inst (not-false (types_fit u l.inst) (types_right items s f).1)), lines_give items u q w (k + 1) e b (before ++ l ∷ []) rest n.1)

blocks_give : (items : List ItemText) (u : UnitText) → has_paths items u ≡ true → NoneHasFault items (map (site_in u) (places u)) → (k : ℕ) (e : Bool) (bs : List BlockText)
    → NoneHasFault items (map (site_in u) (places_from k e bs)) → Each (λ (b : BlockText). Each (λ (l : LineText). GivesTypeOfRow l.inst) b.lines) bs
blocks_give items u q w k e [] n = tt
blocks_give items u q w k e (b ∷ more) n =
    let r = none-places items u (places_in k e b [] b.lines) (places_from (k + length b.lines) false more) n in
    (lines_give items u q w k e b [] b.lines r.0, blocks_give items u q w (k + length b.lines) false more r.1)

line_gives : (n : List ℕ) (i : InstText) (ls : List LineText) → Each (λ (l : LineText). GivesTypeOfRow l.inst) ls → line_giving n ls ≡ Some i → GivesTypeOfRow i
line_gives n i [] g h = absurd (none-some i h)
line_gives n i (l ∷ more) g h = at (is_result_name n l.result) (line_gives n i more g.1) h
  where
    at : (x : Bool) → (line_giving n more ≡ Some i → GivesTypeOfRow i) → (if x then Some l.inst else line_giving n more) ≡ Some i → GivesTypeOfRow i
    at true r e = let q : l.inst ≡ i = cc in subst GivesTypeOfRow q g.0
    at false r e = r e

inst_gives : (n : List ℕ) (i : InstText) (bs : List BlockText) → Each (λ (b : BlockText). Each (λ (l : LineText). GivesTypeOfRow l.inst) b.lines) bs → inst_giving n bs ≡ Some i → GivesTypeOfRow i
inst_gives n i [] g h = absurd (none-some i h)
inst_gives n i (b ∷ more) g h = at (line_giving n b.lines) refl (inst_gives n i more g.1) h
  where
    at : (o : Option InstText) → line_giving n b.lines ≡ o → (inst_giving n more ≡ Some i → GivesTypeOfRow i) → or_else o (inst_giving n more) ≡ Some i → GivesTypeOfRow i
    at (Some j) e r q = line_gives n i b.lines g.0 (e ∙ q)
    at None e r q = r q

-- the type of what an instruction gives is of its kind
kind_found : (o : Option TypeTree) (k : Kind) → option_and_then kind_of o ≡ Some k → (t : TypeTree) × (o ≡ Some t) × (kind_of t ≡ Some k)
kind_found None k h = absurd (none-some k h)
kind_found (Some t) k h = (t, refl, h)

typed : (i : InstText) (k : Kind) → GivesTypeOfRow i → result_kind i ≡ Some k → (t : TypeTree) × (result_type i ≡ Some t) × (kind_of t ≡ Some k)
typed (var_text a) k g h = (pointer_type g.0, g.2, h)
typed (sig_text a) k g h = (signal_type g.0, g.2, h)
typed i k g h = kind_found (result_type i) k h

-- and of what is named so
arg_kind : (n : List ℕ) (args : List ArgText) (a : ArgText) → Each (λ (x : ArgText). (k : Kind) × (kind_of x.ty ≡ Some k)) args → arg_named n args ≡ Some a → (k : Kind) × (kind_of a.ty ≡ Some k)
arg_kind n [] a g h = absurd (none-some a h)
arg_kind n (x ∷ more) a g h = at (same_name x.name n) (arg_kind n more a g.1) h
  where
    at : (b : Bool) → (arg_named n more ≡ Some a → (k : Kind) × (kind_of a.ty ≡ Some k)) → (if b then Some x else arg_named n more) ≡ Some a → (k : Kind) × (kind_of a.ty ≡ Some k)
    at true r e = let q : x ≡ a = cc in let P : ArgText → Type 0 = λ z. (k : Kind) × (kind_of z.ty ≡ Some k) in subst P q g.0
    at false r e = r e

value_typed : (u : UnitText) (n : List ℕ) (k : Kind) → ArgsHaveKinds u → Each (λ (b : BlockText). Each (λ (l : LineText). GivesTypeOfRow l.inst) b.lines) u.blocks → value_kind u n ≡ Some k
    → (t : TypeTree) × (value_type u n ≡ Some t) × (kind_of t ≡ Some k)
value_typed u n k args g h = at (arg_named n u.args) refl h
  where
    from : (o : Option InstText) → inst_giving n u.blocks ≡ o → option_and_then result_kind o ≡ Some k → (t : TypeTree) × (option_and_then result_type o ≡ Some t) × (kind_of t ≡ Some k)
    from None e q = absurd (none-some k q)
    from (Some i) e q = typed i k (inst_gives n i u.blocks g e) q

    argument : (a : ArgText) → (j : Kind) × (kind_of a.ty ≡ Some j) → or_else (kind_of a.ty) (option_and_then result_kind (inst_giving n u.blocks)) ≡ Some k → kind_of a.ty ≡ Some k
    argument a j q = j.1 ∙ sym (ap (λ o. or_else o (option_and_then result_kind (inst_giving n u.blocks))) j.1) ∙ q

    at : (o : Option ArgText) → arg_named n u.args ≡ o → or_else (option_and_then (λ (a : ArgText). kind_of a.ty) o) (option_and_then result_kind (inst_giving n u.blocks)) ≡ Some k
        → (t : TypeTree) × (or_else (option_map (λ (a : ArgText). a.ty) o) (option_and_then result_type (inst_giving n u.blocks)) ≡ Some t) × (kind_of t ≡ Some k)
    at (Some a) e q = (a.ty, refl, argument a (arg_kind n u.args a args e) q)
    at None e q = from (inst_giving n u.blocks) refl q

pub operands_have_types : OperandsHaveTypes
operands_have_types items s f c args =
    let u = s.unit in let a = at_site items s f c in
    let g = blocks_give items u a.paths a.others 1 true u.blocks a.others in
    Each-more (λ (x : Use). (k : Kind) × (value_kind u x.value ≡ Some k) × (takes x.need k ≡ true)) (HasTypeOfKind u)
    (uses s.place.line.inst) (λ x h. let v = value_typed u x.value h.0 args g h.1 in (v.0, h.0, v.1, v.2, h.2)) (operands_are_taken items s f c)
