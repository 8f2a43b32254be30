-- The constants of a flat text are those of the process and of the functions, so they can be written.
use Rattle.std.proofs.Common.{◌≡◌, ℕ, zero, suc, ◌+◌, List, [], ◌∷◌, map, Bool, true, false, Option, Some, None, refl, subst}
use Rattle.std.specs.Bool.{if◌then◌else◌}
use Rattle.std.specs.List.{flat_map}
use Rattle.std.specs.Option.{option_map}
use Rattle.std.proofs.lemmas.Option.{same_Some, none-some}
use Rattle.lh_unit_names.specs.declared.name.UnitName.{UnitName}
use Rattle.lh_unit_names.specs.UnitNames.{same_unit_name, is_assert}
use Rattle.lh_unit.specs.Activation.{functions}
use Rattle.lh_unit.specs.Contents.{OperandText, InstText, const_text, call_text, LineText, BlockText, UnitText, ItemText, unit_text, declare_text}
use Rattle.lh_unit.specs.Named.{function_named, is_function, label_or}
use Rattle.lh_unit.specs.Pieces.{lexemes_in}
use Rattle.lh_unit.specs.Spells.{inst_item}
use Rattle.lh_unit.specs.Within.{Each}
use Rattle.lh_unit.specs.Hierarchy.{lines_of}
use Rattle.lh_unit.proofs.Lists.{Each-append, Each-left, Each-right}
use Rattle.lh_text_laws.specs.ItemLines.{item_line}
use Rattle.lh_text_laws.specs.Printable.{HasInstLine, IsPrintable, IsPrintableItem}
use Rattle.lh_flat.specs.Copies.{Copy, top_copy, call_path, copy_at, opened, copied}
use Rattle.lh_flat.specs.Flat.{FlatBlockText, FlatText, Pieces, flattened, flat_of, flat_copy, flat_block, pieces_from, with_line, merge_of, max_nested, text_of}
use Rattle.lh_flat_laws.proofs.FlatActivations.{flat-is}
use Rattle.lh_lower_laws.proofs.Times.{InstFine, LineFine, line-fine}
use Rattle.lh_lower_laws.proofs.WrittenConstants.{BlockFine}

-- the constants of a unit can be written
abbrev pub UnitFine : UnitText → Type 0
UnitFine u = Each (λ (b : BlockText). Each LineFine b.lines) u.blocks

-- ---- units that can be printed

lines-fine : (ls : List LineText) → Each HasInstLine ls → Each LineFine ls
lines-fine [] h = tt
lines-fine (l ∷ ls) h = (line-fine l (lexemes_in (item_line (inst_item l))) h.0.1, lines-fine ls h.1)

blocks-fine : (bs : List BlockText) → Each HasInstLine (lines_of bs) → Each (λ (b : BlockText). Each LineFine b.lines) bs
blocks-fine [] h = tt
blocks-fine (b ∷ bs) h = (lines-fine b.lines (Each-left HasInstLine b.lines (lines_of bs) h), blocks-fine bs (Each-right HasInstLine b.lines (lines_of bs) h))

pub unit-fine : (u : UnitText) → IsPrintable u → UnitFine u
unit-fine u h = blocks-fine u.blocks h.written

pub functions-fine : (items : List ItemText) → Each IsPrintableItem items → Each UnitFine (functions items)
functions-fine [] h = tt
functions-fine (declare_text d ∷ more) h = functions-fine more h.1
functions-fine (unit_text u ∷ more) h = by (is_function u.kind) (functions-fine more h.1)
  where
    by : (b : Bool) → Each UnitFine (functions more) → Each UnitFine (if b then u ∷ functions more else functions more)
    by true k = (unit-fine u h.0, k)
    by false k = k

-- ---- copies

module _ (fs : List UnitText) (fine : Each UnitFine fs) where
  found-fine : (n : UnitName) (us : List UnitText) (v : UnitText) → Each UnitFine us → function_named n us ≡ Some v → UnitFine v
  found-fine n [] v h q = absurd (none-some v q)
  found-fine n (u ∷ us) v h q = by (same_unit_name u.name n) q (found-fine n us v h.1)
    where
      by : (b : Bool) → (if b then Some u else function_named n us) ≡ Some v → (function_named n us ≡ Some v → UnitFine v) → UnitFine v
      by true g go = subst UnitFine (same_Some u v g) h.0
      by false g go = go g

  called-fine : (path : List ℕ) (args : List (List ℕ)) (o : Option UnitText) (d : Copy) → ((v : UnitText) → o ≡ Some v → UnitFine v) → option_map (copy_at path args) o ≡ Some d → UnitFine d.unit
  called-fine path args None d h q = absurd (none-some d q)
  called-fine path args (Some v) d h q = subst (λ (x : Copy). UnitFine x.unit) (same_Some (copy_at path args v) d q) (h v refl)

  call-fine : (b : Bool) (path : List ℕ) (args : List (List ℕ)) (o : Option UnitText) (d : Copy) → ((v : UnitText) → o ≡ Some v → UnitFine v)
      → (if b then None else option_map (copy_at path args) o) ≡ Some d → UnitFine d.unit
  call-fine true path args o d h q = absurd (none-some d q)
  call-fine false path args o d h q = called-fine path args o d h q

  opened-fine : (c : Copy) (path : List ℕ) (i : InstText) (d : Copy) → opened fs c path i ≡ Some d → UnitFine d.unit
  opened-fine c path (call_text f ty os) d q =
      call-fine (is_assert f) path (map (λ (o : OperandText). c.value o.value) os) (function_named f fs) d (λ v g. found-fine f fs v fine g) q
  opened-fine c path i d q = absurd (none-some d q)

  copied-fine : (c : Copy) (i : InstText) → InstFine i → InstFine (copied fs c i)
  copied-fine c (const_text d) h = h
  copied-fine c i h = tt

  record PiecesFine (p : Pieces) : Type 0 where
    rest : Each LineFine p.rest
    more : Each BlockFine p.more

  module _ (copy_of : Copy → List FlatBlockText) (copies : (d : Copy) → UnitFine d.unit → Each BlockFine (copy_of d)) where
    line-pieces : (c : Copy) (l : LineText) (o : Option Copy) (p : Pieces) → LineFine l → ((d : Copy) → o ≡ Some d → UnitFine d.unit) → PiecesFine p → PiecesFine (with_line copy_of fs c l o p)
    line-pieces c l None p w h k = record { rest = (copied-fine c l.inst w, k.rest); more = k.more }
    line-pieces c l (Some d) p w h k =
        let next : FlatBlockText = record { label = d.path; merge = merge_of fs c d l.inst l.result; lines = p.rest } in
        record { rest = (tt, tt); more = Each-append BlockFine (copy_of d) (next ∷ p.more) (copies d (h d refl)) (k.rest, k.more) }

    pieces-fine : (c : Copy) (label : List ℕ) (k : ℕ) (ls : List LineText) → Each LineFine ls → PiecesFine (pieces_from copy_of fs c label k ls)
    pieces-fine c label k [] h = record { rest = tt; more = tt }
    pieces-fine c label k (l ∷ ls) h =
        line-pieces c l (opened fs c (call_path c label k) l.inst) (pieces_from copy_of fs c label (k + 1) ls) h.0 (λ d q. opened-fine c (call_path c label k) l.inst d q)
        (pieces-fine c label (k + 1) ls h.1)

    block-fine : (c : Copy) (b : BlockText) → Each LineFine b.lines → Each BlockFine (flat_block copy_of fs c b)
    block-fine c b h = let p = pieces-fine c (label_or b.label) 0 b.lines h in (p.rest, p.more)

    all-fine : (c : Copy) (bs : List BlockText) → Each (λ (b : BlockText). Each LineFine b.lines) bs → Each BlockFine (flat_map (flat_block copy_of fs c) bs)
    all-fine c [] h = tt
    all-fine c (b ∷ bs) h = Each-append BlockFine (flat_block copy_of fs c b) (flat_map (flat_block copy_of fs c) bs) (block-fine c b h.0) (all-fine c bs h.1)

  copy-fine : (depth : ℕ) (c : Copy) → UnitFine c.unit → Each BlockFine (flat_copy depth fs c)
  copy-fine zero c h = tt
  copy-fine (suc k) c h = all-fine (flat_copy k fs) (λ d w. copy-fine k d w) c c.unit.blocks h

  text-fine : (u : UnitText) → UnitFine u → Each BlockFine (text_of fs u).blocks
  text-fine u h = copy-fine (suc max_nested) (top_copy u) h

-- ---- flat texts

pub flat-fine : (items : List ItemText) (u : UnitText) (t : FlatText) → Each IsPrintableItem items → IsPrintable u → flat_of items u ≡ flattened t → Each BlockFine t.blocks
flat-fine items u t h p e = subst (λ (x : FlatText). Each BlockFine x.blocks) (flat-is (functions items) u t e).same (text-fine (functions items) (functions-fine items h) u (unit-fine u p))
