-- The first fault of a module, from those of its units.
use Rattle.std.proofs.Common.{◌≡◌, ℕ, ◌+◌, ◌<◌, zero, suc, List, [], ◌∷◌, ◌++◌, length, map, take, drop, get_or, Option, Some, None, slice_get, refl, ap, sym, ◌∙◌, subst, append_assoc}
use Rattle.std.proofs.lemmas.List.{map-append}
use Rattle.std.proofs.lemmas.Option.{slice_get_read}
use Rattle.lh_unit.specs.Contents.{UnitText, ItemText, unit_text, declare_text}
use Rattle.lh_unit.specs.WellFormed.{Site, sites, NoneHasFault}
use Rattle.lh_unit.specs.Arena.{Arena, IsArena, contents, item_text_at, unit_text_at, unit_name_at, unit_count}
use Rattle.lh_unit.specs.declared.inst.UnitId.{UnitId}
use Rattle.lh_unit.specs.declared.inst.Item.{Item}
use Rattle.lh_unit.specs.declared.inst.Item.TheVariants as item
use Rattle.lh_verify.specs.declared.unit.InstFault.{InstFault}
use Rattle.lh_verify.specs.declared.verify.Fault.{Fault}
use Rattle.lh_verify.specs.FirstFound.{FindsFault, IsFew, unit_sites}
use Rattle.lh_unit.specs.Placed.{IsItemOf}
use Rattle.lh_verify.specs.Verifying.{NamesFault, UnitFault, FirstFaultOfUnit, FirstFaultOfItem, ItemBegun, named_fault}
use Rattle.lh_verify_values.proofs.KnowingSteps.{take-item}
use Rattle.lh_unit.proofs.Lists.{drop-item}
use Rattle.lh_unit.proofs.PlacedIds.{item-within}

sites-append : (xs ys : List ItemText) → sites (xs ++ ys) ≡ sites xs ++ sites ys
sites-append [] ys = refl
sites-append (unit_text u ∷ xs) ys = ap (λ l. unit_sites u ++ l) (sites-append xs ys) ∙ sym (append_assoc (unit_sites u) (sites xs) (sites ys))
sites-append (declare_text d ∷ xs) ys = sites-append xs ys

none-append : (items : List ItemText) (xs ys : List Site) → NoneHasFault items xs → NoneHasFault items ys → NoneHasFault items (xs ++ ys)
none-append items [] ys n m = m
none-append items (x ∷ xs) ys n m = (n.0, none-append items xs ys n.1 m)

none-in : (a : Arena) (x : Item) → FirstFaultOfItem a x None → NoneHasFault (contents a) (sites (item_text_at a x ∷ []))
none-in a (item.Unit u) n = none-append (contents a) (unit_sites (unit_text_at a u.0)) [] n tt
none-in a (item.Declare d) n = tt

-- one more item without a fault
pub none-more : (a : Arena) (xs : List Item) (i : ℕ) (x : Item) → i < length xs → x ≡ get_or xs i x → NoneHasFault (contents a) (sites (map (item_text_at a) (take i xs))) → FirstFaultOfItem a x None
    → NoneHasFault (contents a) (sites (map (item_text_at a) (take (i + 1) xs)))
none-more a xs i x h e n m =
    subst (NoneHasFault (contents a))
    (sym (sites-append (map (item_text_at a) (take i xs)) (item_text_at a x ∷ [])) ∙ ap sites (sym (map-append (item_text_at a) (take i xs) (x ∷ [])))
    ∙ ap (λ l. sites (map (item_text_at a) l)) (take-item xs i x h e))
    (none-append (contents a) (sites (map (item_text_at a) (take i xs))) (sites (item_text_at a x ∷ [])) n (none-in a x m))

cut : {X : Type 0} → (xs : List X) (i : ℕ) → xs ≡ take i xs ++ drop i xs
cut [] zero = refl
cut [] (suc i) = refl
cut (x ∷ xs) zero = refl
cut (x ∷ xs) (suc i) = ap (λ l. x ∷ l) (cut xs i)

-- the first fault of a unit is that of the module, where no item before it has one
unit-first : (a : Arena) (xs : List Item) (i : ℕ) (u : UnitId) (f : Fault) → a.items ≡ xs → u.0 < unit_count a → i < length xs → item.Unit u ≡ get_or xs i (item.Unit u)
    → NoneHasFault (contents a) (sites (map (item_text_at a) (take i xs))) → UnitFault a u f → NamesFault a f
unit-first a xs i u f w p h e n d =
    let g : item_text_at a (item.Unit u) ≡ unit_text (unit_text_at a u.0) = refl in
    let pre : List Site = sites (map (item_text_at a) (take i xs)) in
    let post : List Site = sites (map (item_text_at a) (drop (i + 1) xs)) in
    let z : sites (contents a) ≡ pre ++ (unit_sites (unit_text_at a u.0) ++ post) =
    ap (λ l. sites (map (item_text_at a) l)) (w ∙ cut xs i ∙ ap (λ l. take i xs ++ l) (drop-item xs i (item.Unit u) h e))
    ∙ ap sites (map-append (item_text_at a) (take i xs) (item.Unit u ∷ drop (i + 1) xs))
    ∙ sites-append (map (item_text_at a) (take i xs)) (map (item_text_at a) (item.Unit u ∷ drop (i + 1) xs)) in
    record {
      within = subst (λ (v : UnitId). v.0 < unit_count a) (sym d.unit) p;
      kind = d.kind;
      number = d.number;
      first = record {
        before = pre ++ d.first.before;
        site = d.site;
        after = d.first.after ++ post;
        all = z ∙ ap (λ l. pre ++ (l ++ post)) d.first.split ∙ ap (λ l. pre ++ l) (append_assoc d.first.before (d.site ∷ d.first.after) post)
            ∙ sym (append_assoc pre d.first.before (d.site ∷ d.first.after ++ post));
        in_unit = ap (λ (t : UnitText). t.name) d.of_unit ∙ ap (λ (v : UnitId). unit_name_at a v.0) (sym d.unit);
        at_inst = d.at;
        has = d.first.has;
        lowest = d.first.lowest;
        none_before = none-append (contents a) pre d.first.before n d.first.none_before;
      };
    }

pub item-first : (a : Arena) (xs : List Item) (i : ℕ) (x : Item) (f : Fault) → a.items ≡ xs → IsItemOf a x → i < length xs → x ≡ get_or xs i x
    → NoneHasFault (contents a) (sites (map (item_text_at a) (take i xs))) → FirstFaultOfItem a x (Some f) → NamesFault a f
item-first a xs i (item.Unit u) f w p h e n d = unit-first a xs i u f w p h e n d
item-first a xs i (item.Declare c) f w p h e n d = absurd cc

-- what is found in a unit is said of it
pub says-found : (a : Arena) (u : UnitId) (found : Option InstFault) → FindsFault (contents a) (unit_text_at a u.0) found → FirstFaultOfUnit a u (named_fault u found)
says-found a u None n = n
says-found a u (Some f) n = record { unit = refl; site = n.site; kind = n.kind; first = n.first; of_unit = n.of_unit; at = n.at; number = n.number }

pub few-found : (a : Arena) (u : UnitId) (found : Option InstFault) → FindsFault (contents a) (unit_text_at a u.0) found → IsFew found
few-found a u None n = tt
few-found a u (Some f) n = n.few

-- the unit of an item is begun
begun : (a : Arena) (i : ℕ) (x : Item) → IsArena a → slice_get a.items i ≡ Some x → ItemBegun a x
begun a i (item.Unit u) o e = o.items_begun i u e
begun a i (item.Declare d) o e = tt

pub item-begun : (a : Arena) (xs : List Item) (i : ℕ) (x : Item) → IsArena a → xs ≡ a.items → i < length xs → x ≡ get_or xs i x → ItemBegun a x
item-begun a xs i x o w h e = begun a i x o (ap (λ l. slice_get l i) (sym w) ∙ slice_get_read xs (length xs) i x refl h e)

pub item-is : (a : Arena) (xs : List Item) (i : ℕ) (x : Item) → IsArena a → xs ≡ a.items → i < length xs → x ≡ get_or xs i x → IsItemOf a x
item-is a xs i x o w h e = item-within a i x o (ap (λ l. slice_get l i) (sym w) ∙ slice_get_read xs (length xs) i x refl h e)
