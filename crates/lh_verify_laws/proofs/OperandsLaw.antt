-- The operands of an instruction without a fault are defined, of the right kinds, and fit the row.
use Rattle.std.proofs.Common.{◌≡◌, List, true, false, not, ◌||◌, Option, Some, None, refl}
use Rattle.std.specs.List.{list_any}
use Rattle.std.specs.Option.{option_map_or}
use Rattle.std.proofs.lemmas.Bool.{true≢false, false_from_ne_true, not-false}
use Rattle.lh_unit.specs.Contents.{InstText, ret_text, UnitText, ItemText, defines_value}
use Rattle.lh_unit.specs.Kinds.{Kind, Need, Use, uses, takes, value_kind}
use Rattle.lh_unit.specs.TypingRows.{types_fit}
use Rattle.lh_unit.specs.WellFormed.{undefined, wrong_kind, wrong_type, not_here, Site, is_undefined, is_asked, has_wrong_kind, has_no_kind, names_wrong_unit, probes_for_signal, is_wrong_kind, result_fits, is_wrong_type, is_allowed}
use Rattle.lh_verify_laws.specs.Operands.{OperandsAreDefined, OperandsAreTaken, TypesFit}
use Rattle.lh_verify_laws.proofs.Bools.{none_of_three, asked_not}
use Rattle.lh_verify_laws.proofs.Sound.{Sound, at_site}
use Rattle.lh_verify_laws.proofs.ShapeLaw.{all_found}
use Rattle.lh_unit.proofs.Within.{Each-more}
use Rattle.lh_unit.proofs.Lists.{Each-fails, Each-zip, Each-of-map}

-- where an instruction is allowed, its kinds and types are asked
asked : (u : UnitText) (i : InstText) → is_allowed u.kind i ≡ true → is_asked u i ≡ true
asked u (ret_text o) h = h
asked u _ h = refl

pub is_asked_all : (items : List ItemText) (s : Site) → Sound items s → is_asked s.unit s.place.line.inst ≡ true
is_asked_all items s f = let a = is_allowed s.unit.kind s.place.line.inst in asked s.unit s.place.line.inst (not-false a (false_from_ne_true (not a) (f.none not_here)))

-- the three that make a wrong kind, and those that make a wrong type
pub kinds_right : (items : List ItemText) (s : Site) → Sound items s
    → (list_any (has_wrong_kind s.unit) (uses s.place.line.inst) ≡ false) × (names_wrong_unit items s.place.line.inst ≡ false) × (probes_for_signal s.unit s.place.line.inst ≡ false)
kinds_right items s f =
    let u = s.unit in let i = s.place.line.inst in
    none_of_three (list_any (has_wrong_kind u) (uses i)) (names_wrong_unit items i) (probes_for_signal u i)
    (asked_not (is_asked u i) (list_any (has_wrong_kind u) (uses i) || names_wrong_unit items i || probes_for_signal u i) (is_asked_all items s f)
    (false_from_ne_true (is_wrong_kind items u i) (f.none wrong_kind)))

pub types_right : (items : List ItemText) (s : Site) → Sound items s
    → (list_any (has_no_kind s.unit) (uses s.place.line.inst) ≡ false) × (not (types_fit s.unit s.place.line.inst) ≡ false) × (not (result_fits items s.place.line.inst) ≡ false)
types_right items s f =
    let u = s.unit in let i = s.place.line.inst in
    none_of_three (list_any (has_no_kind u) (uses i)) (not (types_fit u i)) (not (result_fits items i))
    (asked_not (is_asked u i) (list_any (has_no_kind u) (uses i) || not (types_fit u i) || not (result_fits items i)) (is_asked_all items s f)
    (false_from_ne_true (is_wrong_type items u i) (f.none wrong_type)))

pub operands_are_defined : OperandsAreDefined
operands_are_defined items s f c =
    let u = s.unit in let i = s.place.line.inst in
    let r = all_found items u i (false_from_ne_true (is_undefined items u i) ((at_site items s f c).none undefined)) in
    Each-more (λ (x : Use). not (defines_value x.value u) ≡ false) (λ (x : Use). defines_value x.value u ≡ true) (uses i) (λ x g. not-false (defines_value x.value u) g)
    (Each-of-map (λ n. not (defines_value n u) ≡ false) (λ (x : Use). x.value) (uses i) r.0)

taken : (need : Need) (o : Option Kind) → option_map_or (λ k. not (takes need k)) o false ≡ false → option_map_or (λ k. false) o true ≡ false → (k : Kind) × (o ≡ Some k) × (takes need k ≡ true)
taken need None h g = absurd (true≢false g)
taken need (Some k) h g = (k, refl, not-false (takes need k) h)

pub operands_are_taken : OperandsAreTaken
operands_are_taken items s f c =
    let u = s.unit in let i = s.place.line.inst in let a = at_site items s f c in
    Each-zip (λ x. has_wrong_kind u x ≡ false) (λ x. has_no_kind u x ≡ false) (λ (x : Use). (k : Kind) × (value_kind u x.value ≡ Some k) × (takes x.need k ≡ true))
    (λ x g h. taken x.need (value_kind u x.value) g h) (uses i) (Each-fails (has_wrong_kind u) (uses i) (kinds_right items s a).0) (Each-fails (has_no_kind u) (uses i) (types_right items s a).0)

pub types_fit_all : TypesFit
types_fit_all items s f c = not-false (types_fit s.unit s.place.line.inst) (types_right items s (at_site items s f c)).1
