-- What a text reads as: in each function and process the labels of the blocks are different.
use Rattle.std.proofs.Common.{◌≡◌, ℕ, List, [], ◌∷◌, ◌++◌, Bool, true, false, ◌||◌, refl, ap, sym, ◌∙◌, subst, Option, Some, None, ◌⊎◌, inl, inr}
use Rattle.std.specs.Prelude.{if◌then◌else◌}
use Rattle.std.proofs.lemmas.Bool.{or_parts}
use Rattle.lh_types.specs.Types.{TypeTree}
use Rattle.lh_unit.specs.Contents.{ArgText, LineText, BlockText, UnitText, ItemText, unit_text, declare_text, change_last, last_unit, with_block, with_line, line_at_end, is_result_name, defines_label_in}
use Rattle.lh_unit_names.specs.Names.{same_name}
use Rattle.lh_unit.specs.Named.{block_of, label_or}
use Rattle.lh_unit.specs.Spells.{LineItem, empty_item, header_item, declare_item, label_item, inst_item, close_item}
use Rattle.lh_unit.specs.Lines.{lines_of}
use Rattle.lh_unit.specs.Reads.{ReadState, headed_unit, after, label_again, defines_again, Takes, Walk, start, Reads}
use Rattle.lh_unit_names.specs.declared.name.UnitName.{UnitName}
use Rattle.lh_unit.specs.declared.inst.UnitKind.{UnitKind}
use Rattle.lh_unit.specs.declared.inst.UnitKind.TheVariants as kind
use Rattle.lh_unit_names.proofs.NameLists.{same_name-is, same_name-refl}

-- each block has a label, and no two have the same
abbrev pub AllLabelled : List BlockText → Type 0
AllLabelled [] = Unit {0}
AllLabelled (b ∷ more) = (n : List ℕ) × (b.label ≡ Some n) × (defines_label_in n more ≡ false) × AllLabelled more

-- an entity has no labels
abbrev pub Labelled : UnitKind → List BlockText → Type 0
Labelled kind.Entity blocks = Unit {0}
Labelled _ blocks = AllLabelled blocks

abbrev pub EachLabelled : List ItemText → Type 0
EachLabelled [] = Unit {0}
EachLabelled (unit_text u ∷ more) = Labelled u.kind u.blocks × EachLabelled more
EachLabelled (declare_text d ∷ more) = EachLabelled more

-- a part of a list
abbrev pub In : {A : Type 0} → A → List A → Type 0
In x [] = ⊥
In x (y ∷ ys) = (x ≡ y) ⊎ In x ys

-- the labels that stand in blocks with a block more
defines-append : (n : List ℕ) (bs cs : List BlockText) → defines_label_in n bs ≡ false → defines_label_in n cs ≡ false → defines_label_in n (bs ++ cs) ≡ false
defines-append n [] cs p q = q
defines-append n (b ∷ bs) cs p q =
    let o = or_parts (is_result_name n b.label) (defines_label_in n bs) p in
    ap (λ x. x || defines_label_in n (bs ++ cs)) o.0 ∙ defines-append n bs cs o.1 q

other_name : (m n : List ℕ) → same_name m n ≡ false → same_name n m ≡ false
other_name m n p = at (same_name n m) refl
  where
    at : (b : Bool) → same_name n m ≡ b → b ≡ false
    at false q = refl
    at true q = let e : n ≡ m = same_name-is n m q in let f : same_name m n ≡ true = subst (λ x. same_name m x ≡ true) (sym e) (same_name-refl m) in cc

pub block-labelled : (n : List ℕ) (bs : List BlockText) → AllLabelled bs → defines_label_in n bs ≡ false → AllLabelled (bs ++ record { label = Some n; lines = [] } ∷ [])
block-labelled n [] a d = (n, refl, refl, tt)
block-labelled n (b ∷ bs) a d =
    let m : List ℕ = a.0 in
    let o = or_parts (is_result_name n b.label) (defines_label_in n bs) d in
    let f : same_name m n ≡ false = ap (is_result_name n) (sym a.1) ∙ o.0 in
    let g : (same_name n m || false) ≡ false = ap (λ x. x || false) (other_name m n f) in
    (m, a.1, defines-append m bs (record { label = Some n; lines = [] } ∷ []) a.2 g, block-labelled n bs a.3 o.1)

-- a line changes no label
line-defines : (n : List ℕ) (l : LineText) (bs : List BlockText) → defines_label_in n (line_at_end l bs) ≡ defines_label_in n bs
line-defines n l [] = refl
line-defines n l (b ∷ []) = refl
line-defines n l (b ∷ c ∷ bs) = ap (λ x. is_result_name n b.label || x) (line-defines n l (c ∷ bs))

line-labelled : (l : LineText) (bs : List BlockText) → AllLabelled bs → AllLabelled (line_at_end l bs)
line-labelled l [] a = tt
line-labelled l (b ∷ []) a = a
line-labelled l (b ∷ c ∷ bs) a = (a.0, a.1, line-defines a.0 l (c ∷ bs) ∙ a.2, line-labelled l (c ∷ bs) a.3)

block-kind : (k : UnitKind) (n : List ℕ) (bs : List BlockText) → Labelled k bs → defines_label_in n bs ≡ false → Labelled k (bs ++ record { label = Some n; lines = [] } ∷ [])
block-kind kind.Entity n bs a d = tt
block-kind kind.Func n bs a d = block-labelled n bs a d
block-kind kind.Proc n bs a d = block-labelled n bs a d

line-kind : (k : UnitKind) (l : LineText) (bs : List BlockText) → Labelled k bs → Labelled k (line_at_end l bs)
line-kind kind.Entity l bs a = tt
line-kind kind.Func l bs a = line-labelled l bs a
line-kind kind.Proc l bs a = line-labelled l bs a

-- the last unit changed
last-changed : (f : UnitText → UnitText) (items : List ItemText) → ((u : UnitText) → last_unit items ≡ Some u → Labelled u.kind u.blocks → Labelled (f u).kind (f u).blocks) → EachLabelled items
    → EachLabelled (change_last f items)
last-changed f [] k e = tt
last-changed f (unit_text u ∷ []) k e = (k u refl e.0, tt)
last-changed f (declare_text d ∷ []) k e = tt
last-changed f (unit_text u ∷ j ∷ more) k e = (e.0, last-changed f (j ∷ more) k e.1)
last-changed f (declare_text d ∷ j ∷ more) k e = last-changed f (j ∷ more) k e

each-append : (xs ys : List ItemText) → EachLabelled xs → EachLabelled ys → EachLabelled (xs ++ ys)
each-append [] ys a b = b
each-append (unit_text u ∷ xs) ys a b = (a.0, each-append xs ys a.1 b)
each-append (declare_text d ∷ xs) ys a b = each-append xs ys a b

headed : (k : UnitKind) (n : UnitName) (args : List ArgText) (r : Option TypeTree) → Labelled (headed_unit k n args r).kind (headed_unit k n args r).blocks
headed kind.Func n args None = tt
headed kind.Func n args (Some t) = tt
headed kind.Proc n args None = tt
headed kind.Proc n args (Some t) = tt
headed kind.Entity n args None = tt
headed kind.Entity n args (Some t) = tt

again-none : (n : List ℕ) (o : Option UnitText) (u : UnitText) → o ≡ Some u → label_again n o ≡ false → defines_label_in n u.blocks ≡ false
again-none n None u e p = cc
again-none n (Some v) u e p = let f : v ≡ u = cc in subst (λ (x : UnitText). defines_label_in n x.blocks ≡ false) f p

after-labelled : (s : ReadState) (i : LineItem) → defines_again s i ≡ false → EachLabelled s.items → EachLabelled (after s i).items
after-labelled s empty_item p e = e
after-labelled s (header_item k n args r) p e = each-append s.items (unit_text (headed_unit k n args r) ∷ []) e (headed k n args r, tt)
after-labelled s (declare_item d) p e = each-append s.items (declare_text d ∷ []) e tt
after-labelled s (label_item n) p e = last-changed (with_block n) s.items (λ u q a. block-kind u.kind n u.blocks a (again-none n (last_unit s.items) u q p)) e
after-labelled s (inst_item l) p e = last-changed (with_line l) s.items (λ u q a. line-kind u.kind l u.blocks a) e
after-labelled s close_item p e = e

walk-labelled : (ls : List (List ℕ)) (s t : ReadState) → Walk ls s t → EachLabelled s.items → EachLabelled t.items
walk-labelled [] s t w e = subst (λ (x : ReadState). EachLabelled x.items) w e
walk-labelled (l ∷ ls) s t w e =
    let k : Takes s l w.0 = w.1 in
    let a : EachLabelled (after s k.item).items = after-labelled s k.item k.is_new e in
    walk-labelled ls w.0 t w.2 (subst (λ (x : ReadState). EachLabelled x.items) (sym k.becomes) a)

pub read-labelled : (text : List ℕ) (items : List ItemText) → Reads text items → EachLabelled items
read-labelled text items r = walk-labelled (lines_of text) start (record { items = items; inside = false }) r tt

-- a block of a unit is the block of its label
own : (bs : List BlockText) (b : BlockText) → AllLabelled bs → In b bs → (n : List ℕ) × (b.label ≡ Some n) × (defines_label_in n bs ≡ true) × (block_of n bs ≡ Some b)
own [] b a i = absurd i
own (c ∷ bs) b a (inl e) =
    let l : b.label ≡ Some a.0 = ap (λ (x : BlockText). x.label) e ∙ a.1 in
    let m : is_result_name a.0 c.label ≡ true = ap (is_result_name a.0) a.1 ∙ same_name-refl a.0 in
    (a.0, l, rw m refl, rw m (ap Some (sym e)))
own (c ∷ bs) b a (inr i) = at (own bs b a.3 i)
  where
    other : (n : List ℕ) → defines_label_in n bs ≡ true → (x : Bool) → same_name a.0 n ≡ x → x ≡ false
    other n d false q = refl
    other n d true q = let e : a.0 ≡ n = same_name-is a.0 n q in let g : defines_label_in a.0 bs ≡ true = subst (λ m. defines_label_in m bs ≡ true) (sym e) d in
        let f : defines_label_in a.0 bs ≡ false = a.2 in cc

    at : ((n : List ℕ) × (b.label ≡ Some n) × (defines_label_in n bs ≡ true) × (block_of n bs ≡ Some b)) → (n : List ℕ) × (b.label ≡ Some n) × (defines_label_in n (c ∷ bs) ≡ true)
        × (block_of n (c ∷ bs) ≡ Some b)
    at o =
        let f : is_result_name o.0 c.label ≡ false = ap (is_result_name o.0) a.1 ∙ other o.0 o.2 (same_name a.0 o.0) refl in
        (o.0, o.1, ap (λ x. x || defines_label_in o.0 bs) f ∙ o.2, rw f o.3)

pub own_block : (bs : List BlockText) (b : BlockText) → AllLabelled bs → In b bs → block_of (label_or b.label) bs ≡ Some b
own_block bs b a i = let o = own bs b a i in ap (λ x. block_of (label_or x) bs) o.1 ∙ o.3

pub block_of-in : (n : List ℕ) (bs : List BlockText) (b : BlockText) → block_of n bs ≡ Some b → In b bs
block_of-in n [] b e = cc
block_of-in n (c ∷ bs) b e = at (is_result_name n c.label) e (block_of-in n bs b)
  where
    at : (x : Bool) → (if x then Some c else block_of n bs) ≡ Some b → (block_of n bs ≡ Some b → In b bs) → In b (c ∷ bs)
    at true q k = let f : c ≡ b = cc in inl (sym f)
    at false q k = inr (k q)
