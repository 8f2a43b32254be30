-- Which units items define.
use Rattle.std.proofs.Common.{◌≡◌, false, ◌||◌, List, [], ◌∷◌, ◌++◌, Option, Some, None, refl, ap, sym, ◌∙◌, subst, append_assoc}
use Rattle.std.proofs.lemmas.List.{append-nil}
use Rattle.std.proofs.lemmas.Bool.{or_parts}
use Rattle.lh_types.specs.Types.{TypeTree}
use Rattle.lh_unit.specs.Contents.{ArgText, UnitText, ItemText, unit_text, declare_text, change_last, defines_unit}
use Rattle.lh_unit_names.specs.UnitNames.{same_unit_name}
use Rattle.lh_unit.specs.Reads.{headed_unit}
use Rattle.lh_unit_names.specs.declared.name.UnitName.{UnitName}
use Rattle.lh_unit.specs.declared.inst.UnitKind.{UnitKind}
use Rattle.lh_unit.specs.declared.inst.UnitKind.TheVariants as kind
use Rattle.lh_unit.specs.declared.inst.Declare.{Declare}
use Rattle.lh_unit.proofs.Lists.{or-assoc, or_false}
use Rattle.lh_text_laws.specs.Laws.{units_repeat}

pub defines_unit-append : (n : UnitName) (a b : List ItemText) → defines_unit n (a ++ b) ≡ (defines_unit n a || defines_unit n b)
defines_unit-append n [] b = refl
defines_unit-append n (unit_text u ∷ a) b = ap (λ q. same_unit_name u.name n || q) (defines_unit-append n a b) ∙ sym (or-assoc (same_unit_name u.name n) (defines_unit n a) (defines_unit n b))
defines_unit-append n (declare_text d ∷ a) b = defines_unit-append n a b

-- a change of the last unit that keeps its name
pub defines_unit-change : (n : UnitName) (f : UnitText → UnitText) → ((u : UnitText) → (f u).name ≡ u.name) → (items : List ItemText) → defines_unit n (change_last f items) ≡ defines_unit n items
defines_unit-change n f k [] = refl
defines_unit-change n f k (unit_text u ∷ []) = ap (λ q. same_unit_name q n || false) (k u)
defines_unit-change n f k (declare_text d ∷ []) = refl
defines_unit-change n f k (unit_text u ∷ j ∷ more) = ap (λ q. same_unit_name u.name n || q) (defines_unit-change n f k (j ∷ more))
defines_unit-change n f k (declare_text d ∷ j ∷ more) = defines_unit-change n f k (j ∷ more)

pub repeat-unit : (seen items : List ItemText) (u : UnitText) → units_repeat seen items ≡ false → defines_unit u.name (seen ++ items) ≡ false → units_repeat seen (items ++ unit_text u ∷ []) ≡ false
repeat-unit seen [] u h k = or_false (defines_unit u.name seen) ∙ subst (λ q. defines_unit u.name q ≡ false) (append-nil seen) k
repeat-unit seen (unit_text v ∷ items) u h k =
    let p = or_parts (defines_unit v.name seen) (units_repeat (seen ++ unit_text v ∷ []) items) h in
    let e : defines_unit v.name seen ≡ false = p.0 in
    rw e (repeat-unit (seen ++ unit_text v ∷ []) items u p.1 (subst (λ q. defines_unit u.name q ≡ false) (sym (append_assoc seen (unit_text v ∷ []) items)) k))
repeat-unit seen (declare_text d ∷ items) u h k =
    repeat-unit (seen ++ declare_text d ∷ []) items u h (subst (λ q. defines_unit u.name q ≡ false) (sym (append_assoc seen (declare_text d ∷ []) items)) k)

pub repeat-declare : (seen items : List ItemText) (d : Declare) → units_repeat seen items ≡ false → units_repeat seen (items ++ declare_text d ∷ []) ≡ false
repeat-declare seen [] d h = refl
repeat-declare seen (unit_text v ∷ items) d h =
    let p = or_parts (defines_unit v.name seen) (units_repeat (seen ++ unit_text v ∷ []) items) h in
    let e : defines_unit v.name seen ≡ false = p.0 in
    rw e (repeat-declare (seen ++ unit_text v ∷ []) items d p.1)
repeat-declare seen (declare_text x ∷ items) d h = repeat-declare (seen ++ declare_text x ∷ []) items d h

-- another unit of the same name in the last place
pub repeat-same : (seen items : List ItemText) (u v : UnitText) → u.name ≡ v.name → units_repeat seen (items ++ unit_text u ∷ []) ≡ units_repeat seen (items ++ unit_text v ∷ [])
repeat-same seen [] u v e = ap (λ q. defines_unit q seen || false) e
repeat-same seen (unit_text w ∷ items) u v e = ap (λ q. defines_unit w.name seen || q) (repeat-same (seen ++ unit_text w ∷ []) items u v e)
repeat-same seen (declare_text d ∷ items) u v e = repeat-same (seen ++ declare_text d ∷ []) items u v e

pub headed-name : (k : UnitKind) (n : UnitName) (args : List ArgText) (r : Option TypeTree) → (headed_unit k n args r).name ≡ n
headed-name kind.Func n args None = refl
headed-name kind.Func n args (Some r) = refl
headed-name kind.Proc n args None = refl
headed-name kind.Proc n args (Some r) = refl
headed-name kind.Entity n args None = refl
headed-name kind.Entity n args (Some r) = refl
