-- The values of the parts that were emitted.
use Rattle.std.specs.Prelude.{◌≡◌, ◌++◌, ◌<◌, ℕ, Bool, true, if◌then◌else◌, List, length, Option, Some, None}
use Rattle.std.specs.Option.{option_map}
use Rattle.std.specs.Cmp.{IsEquivalence}
use Rattle.std.specs.HashMap.{get}
use Rattle.std.specs.Hash as fed
use Rattle.std.proofs.Common.{ap}
use Rattle.std.proofs.lemmas.Cmp.{on_equiv}
use Rattle.lh_unit.specs.Contents.{ArgText}
use Rattle.lh_unit.specs.Naming.{value_text}
use Rattle.lh_unit.specs.Typing.{or_else}
use Rattle.lh_unit.specs.declared.inst.ValueId.{ValueId}
use Rattle.lh_term.specs.Same.{same_part, same_part-is, same_part_equiv}
use Rattle.lh_term.specs.Parts.{extent_of}
use Rattle.lh_term.specs.declared.part.Part.{Part}
use Rattle.lh_emit_def.specs.Emitted.{Emitted, whole_name}
use Rattle.lh_emit_body.specs.Lines.{naming}
use Rattle.lh_emit.specs.declared.parts.PartKey.{PartKey}
use Rattle.lh_emit.specs.declared.parts.Parts.{Parts}

-- ---- parts as keys

abbrev pub same_key : PartKey → PartKey → Bool
same_key j k = same_part j.part k.part

pub same_key_equiv : IsEquivalence same_key
same_key_equiv = on_equiv (λ (k : PartKey). k.part) same_part_equiv

-- what the hash of a part reads
abbrev pub fed_part : Part → List (List ℕ)
fed_part p = (fed.u32 p.arg ++ fed.u32 p.lo) ++ fed.u32 (extent_of p.ty)

-- what the hash of a key reads
abbrev pub fed_key : PartKey → List (List ℕ)
fed_key k = fed_part k.part

pub fed_alike : (j k : PartKey) → same_key j k ≡ true → fed_key j ≡ fed_key k
fed_alike j k e = ap fed_part (same_part-is j.part k.part e)

-- ---- values

-- the value of a part, where it has one
abbrev pub part_in : Parts → Part → Option ValueId
part_in ps p = get same_key ps.values record { part = p }

-- this part has this value, and each other has what it had
abbrev pub KeepsPart : Parts → Part → ValueId → Parts → Type 0
KeepsPart old p v new = (q : Part) → part_in new q ≡ (if same_part p q then Some v else part_in old q)

-- The values are the names of parts; a whole argument has its own.
pub record KnowsParts (args : List ArgText) (names : List (List ℕ)) (ps : Parts) (e : Emitted) : Type 0 where
  pub named : (p : Part) → e.parts p ≡ or_else (whole_name args p) (option_map (value_text (naming names)) (part_in ps p))
  pub within : (p : Part) (v : ValueId) → part_in ps p ≡ Some v → v.0 < length names
