-- What a pass holds after the instructions of an entity so far: under the name of each term its value, under the name of each part its bits.
use Rattle.std.proofs.Common.{◌≡◌, ℕ, ◌+◌, ◌*◌, ◌<◌, ◌≤◌, ◌^◌, Bool, true, false, if◌then◌else◌, List, [], ◌∷◌, ◌++◌, length, map, Option, Some, None, slice_get, refl, ap, sym, ◌∙◌, subst, arith, append_assoc, length-append}
use Rattle.std.specs.Option.{option_and_then, option_map}
use Rattle.std.proofs.Math.Nat.{mul-le-mul_right}
use Rattle.lh_time.specs.declared.Instant.{Instant}
use Rattle.lh_types.specs.Types.{TypeTree, signal_type}
use Rattle.lh_types.specs.Wish.{Wish, no_wish}
use Rattle.lh_types.specs.declared.part.Range.{Range}
use Rattle.lh_unit.specs.Contents.{InstText, LineText, ArgText, UnitText, args_define}
use Rattle.lh_unit_names.specs.Names.{same_name}
use Rattle.lh_unit.specs.Held.{Held, datum_held, part_held, Env, nothing_held, with_held, with_args}
use Rattle.lh_unit.specs.Pass.{Passed, passes, pass_from}
use Rattle.lh_unit.specs.Typing.{value_type, result_type, line_giving, or_else}
use Rattle.lh_unit.proofs.ById.{line_giving-later}
use Rattle.lh_unit_names.proofs.NameLists.{same_name-is, same_name-refl}
use Rattle.lh_term.specs.Tree.{Tree}
use Rattle.lh_term.specs.declared.part.Part.{Part}
use Rattle.lh_emit_def.specs.Names.{value_name, free_number}
use Rattle.lh_emit_def.specs.Emitted.{PartStep, Source, source_of, Emitted}
use Rattle.lh_emit_def.specs.Entities.{entity_with}
use Rattle.lh_emit_def.specs.Reads.{range_in, reads}
use Rattle.lh_emit_def.proofs.ComputedTerms.{value}
use Rattle.lh_emit_def.proofs.ValueNames.{free_from-within, free-free}
use Rattle.lh_verify_laws.proofs.ValuesLaw.{arg_none}

pub pass_from-then : (u : UnitText) (now : List Bool) (memory : Option (List Bool)) (t : Instant) (xs ys : List LineText) (p : Passed) →
    pass_from u now memory t p (xs ++ ys) ≡ pass_from u now memory t (pass_from u now memory t p xs) ys
pass_from-then u now memory t [] ys p = refl
pass_from-then u now memory t (x ∷ xs) ys p = pass_from-then u now memory t xs ys (passes u now memory t x.inst x.result p)

-- an instance of the entity of a unit, in a frame
pub record Frame : Type 0 where
  pub unit : UnitText
  pub steps : Part → List PartStep
  pub args : List Range
  pub now : List Bool
  pub memory : Option (List Bool)
  pub at : Instant

-- the unit has few arguments
abbrev pub HasFewArgs : UnitText → Type 0
HasFewArgs u = length u.args < 2 ^ 32

module _ (f : Frame) (few : HasFewArgs f.unit) where
  abbrev pub source : Source
  source = source_of f.unit f.steps

  -- before the first instruction
  abbrev pub start : Passed
  start = record { held = with_args nothing_held f.unit.args (map part_held f.args); seen = []; wish = no_wish }

  -- after these instructions of an entity
  abbrev pub after : UnitText → List LineText → Passed
  after y ls = pass_from y f.now f.memory f.at start ls

  -- an entity of the unit begins with these lines, and is within its limit
  pub record Begins (y : UnitText) (ls : List LineText) : Type 0 where
    pub more : List LineText
    pub is : y ≡ entity_with f.unit (ls ++ more)
    pub short : length (ls ++ more) ≤ 65536

  -- the bits of the part are held under this name, which has the type of a signal
  pub record HoldsPart (y : UnitText) (e : Env) (n : List ℕ) (p : Part) : Type 0 where
    pub held : e n ≡ Some (part_held (range_in f.args p))
    pub type : value_type y n ≡ Some (signal_type p.ty)

  -- nothing has the name of this number
  pub record IsNew (e : Env) (ls : List LineText) (j : ℕ) : Type 0 where
    pub held : e (value_name j) ≡ None
    pub given : line_giving (value_name j) ls ≡ None

  -- the number's name may be given
  pub record MayName (from j : ℕ) : Type 0 where
    pub later : from ≤ j
    pub short : j < 2 ^ 64
    pub free : args_define (value_name j) f.unit.args ≡ false

  -- what the pass has come to
  pub record Means (w : Wish) (ts : List Bool) (y : UnitText) (e : Emitted) : Type 0 where
    pub wish : (after y e.lines).wish ≡ w
    pub seen : (after y e.lines).seen ≡ ts
    pub terms : (t : Tree) (n : List ℕ) → e.terms t ≡ Some n → (after y e.lines).held n ≡ Some (datum_held (value (reads f.args f.now) t))
    pub parts : (p : Part) (n : List ℕ) → e.parts p ≡ Some n → HoldsPart y (after y e.lines).held n p
    pub args : (k : ℕ) (a : ArgText) (t : TypeTree) → slice_get f.unit.args k ≡ Some a → a.ty ≡ signal_type t → HoldsPart y (after y e.lines).held a.name (record { arg = k; lo = 0; ty = t })
    pub new : (j : ℕ) → MayName e.next j → IsNew (after y e.lines).held e.lines j
    pub room : e.next ≤ length e.lines * (length f.unit.args + 1)

  -- the same, of every entity that begins so
  abbrev pub Inv : Wish → List Bool → Emitted → Type 0
  Inv w seen e = (y : UnitText) → Begins y e.lines → Means w seen y e

  -- ---- one more instruction

  pub begins-before : (y : UnitText) (ls : List LineText) (l : LineText) → Begins y (ls ++ l ∷ []) → Begins y ls
  begins-before y ls l b = record {
    more = l ∷ b.more;
    is = b.is ∙ ap (entity_with f.unit) (append_assoc ls (l ∷ []) b.more);
    short = subst (λ (x : List LineText). length x ≤ 65536) (append_assoc ls (l ∷ []) b.more) b.short;
  }

  begins-short : (y : UnitText) (ls : List LineText) (l : LineText) → Begins y (ls ++ l ∷ []) → length ls < 65536
  begins-short y ls l b = omega (arith, b.short, length-append (ls ++ l ∷ []) b.more, length-append ls (l ∷ []))

  -- the next number may name
  pub next-may : (y : UnitText) (e : Emitted) (l : LineText) → Begins y (e.lines ++ l ∷ []) → e.next ≤ length e.lines * (length f.unit.args + 1) →
      MayName e.next (free_number f.unit.args e.next)
  next-may y e l b r =
      let s : length e.lines < 65536 = begins-short y e.lines l b in
      let g : length f.unit.args < 4294967296 = few in
      let m : length e.lines * (length f.unit.args + 1) ≤ 65536 * (length f.unit.args + 1) = mul-le-mul_right (length f.unit.args + 1) (omega (arith, s)) in
      let w = free_from-within f.unit.args (length f.unit.args) e.next in
      record { later = w.0; short = omega (arith, w.1, m, r, g); free = free-free f.unit.args e.next (omega (arith, m, r, g)) }

  -- what was held stays held under its own name
  pub still-held : (e : Env) (n m : List ℕ) (h x : Held) → e m ≡ None → e n ≡ Some h → with_held e m x n ≡ Some h
  still-held e n m h x q p = at (same_name m n) refl
    where
      at : (b : Bool) → same_name m n ≡ b → with_held e m x n ≡ Some h
      at true s = let d : e n ≡ None = ap e (sym (same_name-is m n s)) ∙ q in absurd cc
      at false s = rw s p

  -- the type of a value that is new
  pub new-type : (y : UnitText) (ls : List LineText) (n : List ℕ) (i : InstText) → Begins y (ls ++ record { result = Some n; inst = i } ∷ []) →
      args_define n f.unit.args ≡ false → line_giving n ls ≡ None → value_type y n ≡ result_type i
  new-type y ls n i b d g =
      let g1 : line_giving n ((ls ++ record { result = Some n; inst = i } ∷ []) ++ b.more) ≡ Some i =
      ap (line_giving n) (append_assoc ls (record { result = Some n; inst = i } ∷ []) b.more)
      ∙ line_giving-later n ls _ g ∙ ap (λ x. if x then Some i else line_giving n b.more) (same_name-refl n) in
      ap (λ x. value_type x n) b.is
      ∙ ap (λ x. or_else (option_map (λ (a : ArgText). a.ty) x) (option_and_then result_type (or_else (line_giving n ((ls ++ record { result = Some n; inst = i } ∷ []) ++ b.more)) None)))
      (arg_none n f.unit.args d)
      ∙ ap (λ x. option_and_then result_type (or_else x None)) g1
