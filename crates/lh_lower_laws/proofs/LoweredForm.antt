-- The lowered module can be printed and is well formed.
use Rattle.std.proofs.Common.{◌≡◌, ℕ, ◌<◌, List, [], ◌∷◌, ◌++◌, map, Bool, true, false, ◌||◌, Some, refl, ap, sym, ◌∙◌}
use Rattle.lh_unit_names.specs.declared.name.UnitName.{UnitName}
use Rattle.lh_unit.specs.declared.inst.Item.{Item}
use Rattle.lh_unit.specs.declared.inst.Item.TheVariants as item
use Rattle.lh_unit.specs.declared.inst.UnitKind.{UnitKind}
use Rattle.lh_unit.specs.declared.inst.UnitKind.TheVariants as unit_kind
use Rattle.lh_unit.specs.Arena.{Arena, contents, unit_count, kind_at, unit_text_at, item_text_at}
use Rattle.lh_unit.specs.Contents.{UnitText, ItemText, unit_text, declare_text, defines_unit}
use Rattle.lh_unit_names.specs.UnitNames.{same_unit_name}
use Rattle.lh_unit.specs.WellFormed.{IsSpelled}
use Rattle.lh_unit.specs.Within.{Each}
use Rattle.lh_unit.proofs.Within.{Each-more}
use Rattle.lh_text_laws.specs.Printable.{IsPrintable, IsPrintableItem}
use Rattle.lh_text_laws.specs.Laws.{IsSpelledAlone, units_repeat, SpelledApart, SpelledTogether, PrintableIsSpelled, SpelledIsPrintable}
use Rattle.lh_text_laws.proofs.Units.{defines_unit-append}
use Rattle.lh_flat_state_laws.specs.Formed.{FlatTextsAreFormed}
use Rattle.lh_emit_def.specs.Laws.{CombIsRight, EdgeIsRight, OnceIsRight}
use Rattle.lh_lower_def.specs.Lowering.{Outcome, becomes, stays, outcome_in, in_place, lowered_as, lowered_item, lowered}
use Rattle.lh_lower_def.specs.Kept.{NamesStay}
use Rattle.lh_lower_def.specs.declared.report.Kind.{Kind}
use Rattle.lh_entity_laws.specs.Given.{CombIsGiven, EdgeIsGiven, OnceIsGiven}
use Rattle.lh_emit_def.specs.Printed.{CombIsPrintable, EdgeIsPrintable, OnceIsPrintable}
use Rattle.lh_lower_laws.specs.Delays.{DelaysAreWritable}
use Rattle.lh_lower_laws.specs.Same.{LoweredIsPrintable, LoweredIsSpelled, LoweredIsFaultless}
use Rattle.lh_lower_laws.proofs.Outcomes.{ItemPlaced, items-placed, process-kind}
use Rattle.lh_lower_laws.proofs.UnitNames.{unit-like, BecomesRight, none-in-lowered}
use Rattle.lh_lower_laws.proofs.Entities.{ArgsAreFew, becomes-right, becomes-printable}

-- ---- no two units have one name

or-three : (a b c d : Bool) → d ≡ (b || c) → (a || d) ≡ ((a || b) || c)
or-three true b c d e = refl
or-three false b c d e = e

one-more : (n : UnitName) (seen seen' : List ItemText) (i j : ItemText) → defines_unit n seen ≡ defines_unit n seen' → defines_unit n (i ∷ []) ≡ defines_unit n (j ∷ [])
    → defines_unit n (seen ++ i ∷ []) ≡ defines_unit n (seen' ++ j ∷ [])
one-more n seen seen' i j e f =
    defines_unit-append n seen (i ∷ []) ∙ ap (λ b. b || defines_unit n (i ∷ [])) e ∙ ap (λ b. defines_unit n seen' || b) f ∙ sym (defines_unit-append n seen' (j ∷ []))

module _ (items : List ItemText) where
  repeat-same : (seen seen' more : List ItemText) → Each IsPrintableItem more → ((n : UnitName) → defines_unit n seen ≡ defines_unit n seen')
      → units_repeat seen more ≡ units_repeat seen' (map (lowered_item items) more)
  repeat-same seen seen' [] h e = refl
  repeat-same seen seen' (declare_text d ∷ more) h e =
      repeat-same (seen ++ declare_text d ∷ []) (seen' ++ declare_text d ∷ []) more h.1 (λ n. one-more n seen seen' (declare_text d) (declare_text d) (e n) refl)
  repeat-same seen seen' (unit_text u ∷ more) h e =
      let v : UnitText = lowered_as u.kind items u in
      let q : u.name ≡ v.name = sym (unit-like items u u.kind refl h.0).name in
      let first : defines_unit u.name seen ≡ defines_unit v.name seen' = e u.name ∙ ap (λ (n : UnitName). defines_unit n seen') q in
      let rest : units_repeat (seen ++ unit_text u ∷ []) more ≡ units_repeat (seen' ++ unit_text v ∷ []) (map (lowered_item items) more) =
      repeat-same (seen ++ unit_text u ∷ []) (seen' ++ unit_text v ∷ []) more h.1
      (λ n. one-more n seen seen' (unit_text u) (unit_text v) (e n) (ap (λ (m : UnitName). same_unit_name m n || false) q)) in
      ap (λ b. b || units_repeat (seen ++ unit_text u ∷ []) more) first ∙ ap (λ b. defines_unit v.name seen' || b) rest

-- ---- each item

module _ (a : Arena) (items : List ItemText) where
  -- what a process becomes can be printed where the process can
  abbrev BecomesPrintable : Type 0
  BecomesPrintable = (u : ℕ) → u < unit_count a → kind_at a u ≡ Some unit_kind.Proc → (k : Kind) (y : UnitText) → outcome_in items (unit_text_at a u) ≡ becomes k y → IsPrintable (unit_text_at a u)
      → IsPrintable y

  process-printable : BecomesPrintable → (u : ℕ) → u < unit_count a → kind_at a u ≡ Some unit_kind.Proc → IsPrintable (unit_text_at a u) → (o : Outcome) → outcome_in items (unit_text_at a u) ≡ o
      → IsPrintable (in_place (unit_text_at a u) o)
  process-printable f u w p h (stays r) e = h
  process-printable f u w p h (becomes k y) e = f u w p k y e h

  unit-printable : BecomesPrintable → (u : ℕ) → u < unit_count a → IsPrintable (unit_text_at a u) → (k : UnitKind) → (unit_text_at a u).kind ≡ k → IsPrintable (lowered_as k items (unit_text_at a u))
  unit-printable f u w h unit_kind.Func e = h
  unit-printable f u w h unit_kind.Entity e = h
  unit-printable f u w h unit_kind.Proc e = process-printable f u w (process-kind (kind_at a u) e) h (outcome_in items (unit_text_at a u)) refl

  all-printable : BecomesPrintable → (xs : List Item) → Each (ItemPlaced a) xs → Each IsPrintableItem (map (item_text_at a) xs)
      → Each IsPrintableItem (map (lowered_item items) (map (item_text_at a) xs))
  all-printable f [] w h = tt
  all-printable f (item.Declare d ∷ xs) w h = (h.0, all-printable f xs w.1 h.1)
  all-printable f (item.Unit u ∷ xs) w h = (unit-printable f u.0 w.0 h.0 (unit_text_at a u.0).kind refl, all-printable f xs w.1 h.1)

  all-right : ((u : ℕ) → u < unit_count a → BecomesRight items (unit_text (unit_text_at a u))) → (xs : List Item) → Each (ItemPlaced a) xs → Each (BecomesRight items) (map (item_text_at a) xs)
  all-right f [] w = tt
  all-right f (item.Declare d ∷ xs) w = (tt, all-right f xs w.1)
  all-right f (item.Unit u ∷ xs) w = (f u.0 w.0, all-right f xs w.1)

-- ---- the module

module _ (apart : SpelledApart) (printable : SpelledIsPrintable) where
  pub source-printable : (items : List ItemText) → IsSpelled items → Each IsPrintableItem items
  source-printable items h = Each-more IsSpelledAlone IsPrintableItem items printable (apart items h).0

  lowered-spelled : SpelledTogether → PrintableIsSpelled → (items : List ItemText) → IsSpelled items → Each IsPrintableItem (lowered items) → IsSpelled (lowered items)
  lowered-spelled together alone items h p =
      together (lowered items) (Each-more IsPrintableItem IsSpelledAlone (lowered items) alone p)
      (sym (repeat-same items [] [] items (source-printable items h) (λ n. refl)) ∙ (apart items h).1)

  -- where each item can be printed, the canonical text reads as the lowered module
  pub all-spelled : SpelledTogether → PrintableIsSpelled → LoweredIsPrintable → LoweredIsSpelled
  all-spelled together alone p a s = lowered-spelled together alone (contents a) s.formed.0 (p a s)

  module _ (few : ArgsAreFew) (flat-formed : FlatTextsAreFormed) (combs : CombIsGiven) (edges : EdgeIsGiven) (onces : OnceIsGiven) where
    -- each item can be printed
    pub lowered-printable : CombIsPrintable → EdgeIsPrintable → OnceIsPrintable → DelaysAreWritable → LoweredIsPrintable
    lowered-printable c e o delays a s =
        all-printable a (contents a)
        (λ u w p k y q h. becomes-printable few flat-formed combs edges onces a s u w p k y q c e o delays h)
        a.items (items-placed a s.arena) (source-printable (contents a) s.formed.0)

    -- no instruction has a fault
    pub lowered-faultless : NamesStay → CombIsRight → EdgeIsRight → OnceIsRight → LoweredIsFaultless
    lowered-faultless stay c e o a s =
        none-in-lowered stay (contents a) (source-printable (contents a) s.formed.0)
        (all-right a (contents a) (λ u w k y p q. (becomes-right few flat-formed combs edges onces a s u w (process-kind (kind_at a u) p) k y q c e o).no_fault) a.items (items-placed a s.arena))
        s.formed.1
