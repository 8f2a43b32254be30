-- The places of a unit and of a module, by ids, in file order.
use Rattle.std.proofs.Common.{◌≡◌, ℕ, ◌+◌, ◌<◌, zero, suc, Bool, true, false, nat_eq, List, [], ◌∷◌, ◌++◌, length, map, Some, slice_get, refl, ap, sym, ◌∙◌, subst, arith, append_assoc}
use Rattle.std.proofs.lemmas.List.{map-append, length-map}
use Rattle.lh_unit.specs.Places.{InstPlaceText, places, places_in, places_from}
use Rattle.lh_unit.specs.WellFormed.{Site, sites}
use Rattle.lh_unit.specs.Table.{Table, IsTable, insts_at, flat, ids_from}
use Rattle.lh_unit.specs.Naming.{Naming, block_text}
use Rattle.lh_unit.specs.Arena.{Arena, contents, item_text_at, unit_text_at, naming, table_at}
use Rattle.lh_unit.specs.ById.{InstPlace, inst_places, inst_places_in, inst_places_from, inst_line_text, place_text, site_text, sites_at}
use Rattle.lh_unit.specs.declared.inst.BlockId.{BlockId}
use Rattle.lh_unit.specs.declared.inst.InstId.{InstId}
use Rattle.lh_unit.specs.declared.inst.Item.{Item}
use Rattle.lh_unit.specs.declared.inst.Item.TheVariants as item
use Rattle.lh_unit.specs.declared.table.TableLine.{TableLine}
use Rattle.lh_unit.proofs.Lists.{map-map}

places_in-by_id : (f : Naming) (t : Table) (k : ℕ) (e : Bool) (b : BlockId) (before rest : List InstId)
    → places_in k e (block_text f t b) (map (inst_line_text f t) before) (map (inst_line_text f t) rest) ≡ map (place_text f t) (inst_places_in k e b before rest)
places_in-by_id f t k e b before [] = refl
places_in-by_id f t k e b before (i ∷ rest) =
    ap (λ l. place_text f t (record { number = k; in_entry = e; block = b; before = before; inst = i; after = rest }) ∷ l)
    (ap (λ bs. places_in (k + 1) e (block_text f t b) bs (map (inst_line_text f t) rest)) (sym (map-append (inst_line_text f t) before (i ∷ [])))
    ∙ places_in-by_id f t (k + 1) e b (before ++ i ∷ []) rest)

places_from-by_id : (f : Naming) (t : Table) (k : ℕ) (e : Bool) (bs : List BlockId) → places_from k e (map (block_text f t) bs) ≡ map (place_text f t) (inst_places_from t k e bs)
places_from-by_id f t k e [] = refl
places_from-by_id f t k e (b ∷ bs) =
    let here : places_in k e (block_text f t b) [] (map (inst_line_text f t) (insts_at t b.0)) ≡ map (place_text f t) (inst_places_in k e b [] (insts_at t b.0)) =
    places_in-by_id f t k e b [] (insts_at t b.0) in
    let later : places_from (k + length (map (inst_line_text f t) (insts_at t b.0))) false (map (block_text f t) bs)
    ≡ map (place_text f t) (inst_places_from t (k + length (insts_at t b.0)) false bs) =
    ap (λ n. places_from (k + n) false (map (block_text f t) bs)) (length-map (insts_at t b.0) (inst_line_text f t)) ∙ places_from-by_id f t (k + length (insts_at t b.0)) false bs in
    (λ i. here i ++ later i) ∙ sym (map-append (place_text f t) (inst_places_in k e b [] (insts_at t b.0)) (inst_places_from t (k + length (insts_at t b.0)) false bs))

-- the places of a unit
pub places-by_id : (a : Arena) (u : ℕ) → places (unit_text_at a u) ≡ map (place_text (naming a u) (table_at a u)) (inst_places (table_at a u))
places-by_id a u = places_from-by_id (naming a u) (table_at a u) 1 true (table_at a u).blocks

pub unit_sites-by_id : (a : Arena) (u : ℕ) → map (λ (p : InstPlaceText). record { unit = unit_text_at a u; place = p }) (places (unit_text_at a u)) ≡ map (site_text a u) (inst_places (table_at a u))
unit_sites-by_id a u =
    let f : InstPlaceText → Site = λ (p : InstPlaceText). record { unit = unit_text_at a u; place = p } in
    ap (map f) (places-by_id a u) ∙ map-map f (place_text (naming a u) (table_at a u)) (inst_places (table_at a u))

-- the instructions of a module
pub sites-by_id : (a : Arena) → sites (contents a) ≡ sites_at a a.items
sites-by_id a = by a.items
  where
    by : (items : List Item) → sites (map (item_text_at a) items) ≡ sites_at a items
    by [] = refl
    by (item.Declare d ∷ items) = by items
    by (item.Unit u ∷ items) =
        let here : map (λ (p : InstPlaceText). record { unit = unit_text_at a u.0; place = p }) (places (unit_text_at a u.0)) ≡ map (site_text a u.0) (inst_places (table_at a u.0)) =
        unit_sites-by_id a u.0 in
        let later : sites (map (item_text_at a) items) ≡ sites_at a items = by items in
        λ i. here i ++ later i

-- the places are of the instructions in file order
inst_places_in-insts : (k : ℕ) (e : Bool) (b : BlockId) (before rest : List InstId) → map (λ (s : InstPlace). s.inst) (inst_places_in k e b before rest) ≡ rest
inst_places_in-insts k e b before [] = refl
inst_places_in-insts k e b before (i ∷ rest) = ap (λ l. i ∷ l) (inst_places_in-insts (k + 1) e b (before ++ i ∷ []) rest)

inst_places_from-insts : (t : Table) (k : ℕ) (e : Bool) (bs : List BlockId) → map (λ (s : InstPlace). s.inst) (inst_places_from t k e bs) ≡ flat (map (λ (b : BlockId). insts_at t b.0) bs)
inst_places_from-insts t k e [] = refl
inst_places_from-insts t k e (b ∷ bs) =
    map-append (λ (s : InstPlace). s.inst) (inst_places_in k e b [] (insts_at t b.0)) (inst_places_from t (k + length (insts_at t b.0)) false bs)
    ∙ (λ i. inst_places_in-insts k e b [] (insts_at t b.0) i ++ inst_places_from-insts t (k + length (insts_at t b.0)) false bs i)

pub inst_places-insts : (t : Table) → IsTable t → map (λ (s : InstPlace). s.inst) (inst_places t) ≡ ids_from 0 t.lines
inst_places-insts t o = inst_places_from-insts t 1 true t.blocks ∙ o.in_order

-- and their numbers rise by one
length-inst_places_in : (k : ℕ) (e : Bool) (b : BlockId) (before rest : List InstId) → length (inst_places_in k e b before rest) ≡ length rest
length-inst_places_in k e b before [] = refl
length-inst_places_in k e b before (i ∷ rest) = ap suc (length-inst_places_in (k + 1) e b (before ++ i ∷ []) rest)

-- a place of the block b, whose instructions are all of these
pub record InBlock (e : Bool) (b : BlockId) (all : List InstId) (s : InstPlace) : Type 0 where
  pub entry : s.in_entry ≡ e
  pub block : s.block ≡ b
  pub split : all ≡ s.before ++ s.inst ∷ s.after

-- a place of the unit: of the block with this index in file order
pub record InUnit (t : Table) (s : InstPlace) : Type 0 where
  pub index : ℕ
  pub stands : slice_get t.blocks index ≡ Some s.block
  pub entry : s.in_entry ≡ nat_eq index 0
  pub split : insts_at t s.block.0 ≡ s.before ++ s.inst ∷ s.after

-- what is in two lists, one after the other
data Side {X : Type 0} (xs ys : List X) (i : ℕ) (x : X) : Type 0 where
  left : i < length xs → slice_get xs i ≡ Some x → Side xs ys i x
  right : (j : ℕ) → i ≡ length xs + j → slice_get ys j ≡ Some x → Side xs ys i x

side : {X : Type 0} (xs ys : List X) (i : ℕ) (x : X) → slice_get (xs ++ ys) i ≡ Some x → Side xs ys i x
side [] ys i x p = right i (omega arith) p
side (y ∷ xs) ys zero x p = left (omega arith) p
side (y ∷ xs) ys (suc i) x p = elim (side xs ys i x p) [ left l q ↦ left (omega (arith, l)) q | right j e q ↦ right j (omega (arith, e)) q ]

inst_places_in-at : (all : List InstId) (k : ℕ) (e : Bool) (b : BlockId) (before rest : List InstId) (i : ℕ) (s : InstPlace) → all ≡ before ++ rest
    → slice_get (inst_places_in k e b before rest) i ≡ Some s → (s.number ≡ k + i) × InBlock e b all s
inst_places_in-at all k e b before [] i s w p = cc
inst_places_in-at all k e b before (x ∷ rest) zero s w p =
    let q : record { number = k; in_entry = e; block = b; before = before; inst = x; after = rest }
    ≡ s = some (record { number = k; in_entry = e; block = b; before = before; inst = x; after = rest }) s p in
    subst (λ (y : InstPlace). (y.number ≡ k + 0) × InBlock e b all y) q (omega arith, record { entry = refl; block = refl; split = w })
  where
    some : (y z : InstPlace) → Some y ≡ Some z → y ≡ z
    some y z r = cc
inst_places_in-at all k e b before (x ∷ rest) (suc i) s w p =
    let r : (s.number ≡ (k + 1) + i) × InBlock e b all s = inst_places_in-at all (k + 1) e b (before ++ x ∷ []) rest i s (w ∙ sym (append_assoc before (x ∷ []) rest)) p in
    (omega (arith, r.0), r.1)

-- the blocks from this index on
inst_places_from-at : (t : Table) (all : List BlockId) (n k : ℕ) (e : Bool) (bs : List BlockId) (i : ℕ) (s : InstPlace)
    → ((j : ℕ) (b : BlockId) → slice_get bs j ≡ Some b → slice_get all (n + j) ≡ Some b) → e ≡ nat_eq n 0
    → slice_get (inst_places_from t k e bs) i ≡ Some s
    → (s.number ≡ k + i) × (x : ℕ) × (slice_get all x ≡ Some s.block) × (s.in_entry ≡ nat_eq x 0) × (insts_at t s.block.0 ≡ s.before ++ s.inst ∷ s.after)
inst_places_from-at t all n k e [] i s g d p = cc
inst_places_from-at t all n k e (b ∷ bs) i s g d p = by (side (inst_places_in k e b [] (insts_at t b.0)) (inst_places_from t (k + length (insts_at t b.0)) false bs) i s p) (λ j q.
    inst_places_from-at t all (n + 1) (k + length (insts_at t b.0)) false bs j s (λ x c y. let m : n + suc x ≡ n + 1 + x = omega arith in ap (slice_get all) (sym m) ∙ g (suc x) c y) (none n) q)
  where
    none : (m : ℕ) → false ≡ nat_eq (m + 1) 0
    none m = grind arith

    zero_more : slice_get all (n + 0) ≡ Some b
    zero_more = g 0 b refl

    by : Side (inst_places_in k e b [] (insts_at t b.0)) (inst_places_from t (k + length (insts_at t b.0)) false bs) i s
        → ((j : ℕ) → slice_get (inst_places_from t (k + length (insts_at t b.0)) false bs) j ≡ Some s → (s.number ≡ k + length (insts_at t b.0) + j) × (x : ℕ) × (slice_get all x ≡ Some s.block)
        × (s.in_entry ≡ nat_eq x 0) × (insts_at t s.block.0 ≡ s.before ++ s.inst ∷ s.after))
        → (s.number ≡ k + i) × (x : ℕ) × (slice_get all x ≡ Some s.block) × (s.in_entry ≡ nat_eq x 0) × (insts_at t s.block.0 ≡ s.before ++ s.inst ∷ s.after)
    by (left l q) f =
        let r : (s.number ≡ k + i) × InBlock e b (insts_at t b.0) s = inst_places_in-at (insts_at t b.0) k e b [] (insts_at t b.0) i s refl q in
        let m : n + 0 ≡ n = omega arith in
        (r.0, n, sym (ap (slice_get all) m) ∙ zero_more ∙ ap Some (sym r.1.block), r.1.entry ∙ d, ap (λ (y : BlockId). insts_at t y.0) r.1.block ∙ r.1.split)
    by (right j w q) f =
        let z : length (inst_places_in k e b [] (insts_at t b.0)) ≡ length (insts_at t b.0) = length-inst_places_in k e b [] (insts_at t b.0) in
        let r = f j q in
        (omega (arith, r.0, w, z), r.1, r.2, r.3, r.4)

-- place k is that of the instruction k, with the number k + 1
pub inst_place-at : (t : Table) (k : ℕ) (s : InstPlace) → IsTable t → slice_get (inst_places t) k ≡ Some s → (s.number ≡ k + 1) × (s.inst.0 ≡ k) × InUnit t s
inst_place-at t k s o p =
    let r = inst_places_from-at t t.blocks 0 1 true t.blocks k s (λ j b q. let m : 0 + j ≡ j = omega arith in ap (slice_get t.blocks) m ∙ q) refl p in
    (omega (arith, r.0), number, record { index = r.1; stands = r.2; entry = r.3; split = r.4 })
  where
    mapped : (xs : List InstPlace) (i : ℕ) → slice_get xs i ≡ Some s → slice_get (map (λ (x : InstPlace). x.inst) xs) i ≡ Some s.inst
    mapped [] i q = cc
    mapped (x ∷ xs) zero q = let e : x ≡ s = cc in ap (λ (y : InstPlace). Some y.inst) e
    mapped (x ∷ xs) (suc i) q = mapped xs i q

    from : (n : ℕ) (ls : List TableLine) (i : ℕ) (x : InstId) → slice_get (ids_from n ls) i ≡ Some x → x.0 ≡ n + i
    from n [] i x q = cc
    from n (l ∷ ls) zero x q = let e : record { 0 = n } ≡ x = some (record { 0 = n }) x q in sym (ap (λ (y : InstId). y.0) e) ∙ plus
      where
        plus : n ≡ n + 0
        plus = omega arith

        some : (y z : InstId) → Some y ≡ Some z → y ≡ z
        some y z r = cc
    from n (l ∷ ls) (suc i) x q = let r : x.0 ≡ (n + 1) + i = from (n + 1) ls i x q in omega (arith, r)

    number : s.inst.0 ≡ k
    number = let r : s.inst.0 ≡ 0 + k = from 0 t.lines k s.inst (ap (λ l. slice_get l k) (sym (inst_places-insts t o)) ∙ mapped (inst_places t) k p) in omega (arith, r)
