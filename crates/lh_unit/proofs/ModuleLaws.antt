-- What callers may cite of a module: entries stay, names tell ids apart, what holds of the open unit.
use Rattle.std.proofs.Common.{◌≡◌, ℕ, ◌<◌, suc, List, [], ◌∷◌, ◌++◌, length, Option, Some, None, IsSomeAnd, slice_get, refl, ap, sym, ◌∙◌, subst, arith, inl, inr, get_or}
use Rattle.std.proofs.lemmas.Option.{slice_get-get_or}
use Rattle.std.proofs.lemmas.Bool.{cases_lt}
use Rattle.std.proofs.lemmas.List.{get_or_past}
use Rattle.lh_unit.specs.Contents.{ItemText, UnitText, BlockText, LineText, unit_text, declare_text, last_unit, change_last, line_at_end}
use Rattle.lh_unit.specs.Builders.{HasContents}
use Rattle.lh_unit.specs.Within.{Each, ValueWithin, MaybeWithin, OperandWithin, TriggerWithin, EdgeWithin}
use Rattle.lh_unit.specs.Naming.{value_text, maybe_text, operand_text, trigger_text, edge_text}
use Rattle.lh_unit.specs.Arena.{Arena, IsArena, InstPlaced, OfOpen, KeepsEntries, Grows, contents, naming, sizes, inst_text_at, table_at, blocks_at, block_insts_at, unit_count, value_count, label_count, block_count, inst_count, unit_name_at, value_name_at, label_name_at, no_unit_name}
use Rattle.lh_unit.specs.declared.inst.UnitId.{UnitId}
use Rattle.lh_unit.specs.declared.inst.ValueId.{ValueId}
use Rattle.lh_unit.specs.declared.inst.BlockId.{BlockId}
use Rattle.lh_unit.specs.declared.inst.InstId.{InstId}
use Rattle.lh_unit.specs.declared.inst.Typed.{Typed}
use Rattle.lh_unit.specs.declared.inst.RegTrigger.{RegTrigger}
use Rattle.lh_unit.specs.declared.inst.PhiEdge.{PhiEdge}
use Rattle.lh_unit.specs.declared.inst.Inst.{Inst}
use Rattle.lh_unit.proofs.Tables.{is_block-at, stands-within}
use Rattle.lh_unit.proofs.Within.{InstWithin-more, OperandWithin-more, TriggerWithin-more, EdgeWithin-more, MaybeWithin-more}
use Rattle.lh_unit.proofs.Texts.{Agree, inst-same, operand-same, trigger-same, edge-same, maybe-same, value-same, insts-within}
use Rattle.lh_unit.proofs.ContentsLemmas.{last_unit-push}
use Rattle.lh_unit.proofs.Lists.{Each-at}
use Rattle.lh_unit.specs.Table.{line_at, no_line}

-- entries that stay
pub KeepsEntries-refl : (a : Arena) → KeepsEntries a a
KeepsEntries-refl a = record { units = omega arith; values = λ u. omega arith; labels = λ u. omega arith; unit_names = λ u h. refl; value_names = λ u v h. refl; label_names = λ u b h. refl }

pub KeepsEntries-trans : (a b c : Arena) → KeepsEntries a b → KeepsEntries b c → KeepsEntries a c
KeepsEntries-trans a b c p q = record {
  units = omega (arith, p.units, q.units);
  values = λ u. omega (arith, p.values u, q.values u);
  labels = λ u. omega (arith, p.labels u, q.labels u);
  unit_names = λ u h. q.unit_names u (omega (arith, h, p.units)) ∙ p.unit_names u h;
  value_names = λ u v h. q.value_names u v (omega (arith, h, p.values u)) ∙ p.value_names u v h;
  label_names = λ u v h. q.label_names u v (omega (arith, h, p.labels u)) ∙ p.label_names u v h;
}

pub Grows-refl : (a : Arena) → Grows a a
Grows-refl a = record { entries = KeepsEntries-refl a; open_stays = λ u p. p; says = refl }

pub Grows-trans : (a b c : Arena) → Grows a b → Grows b c → Grows a c
Grows-trans a b c p q = record {
  entries = KeepsEntries-trans a b c p.entries q.entries;
  open_stays = λ u o. q.open_stays u (p.open_stays u o);
  says = q.says ∙ p.says;
}

-- what is in place stays in place
module _ (a b : Arena) (u : ℕ) (k : KeepsEntries a b) where
  pub ValueWithin-keeps : (v : ValueId) → ValueWithin (sizes a u) v → ValueWithin (sizes b u) v
  ValueWithin-keeps v h = omega (arith, h, k.values u)

  pub MaybeWithin-keeps : (v : Option ValueId) → MaybeWithin (sizes a u) v → MaybeWithin (sizes b u) v
  MaybeWithin-keeps v h = MaybeWithin-more (sizes a u) (sizes b u) k.units (k.values u) (k.labels u) v h

  pub OperandWithin-keeps : (t : Typed) → OperandWithin (sizes a u) t → OperandWithin (sizes b u) t
  OperandWithin-keeps t h = OperandWithin-more (sizes a u) (sizes b u) k.units (k.values u) (k.labels u) t h

  pub TriggerWithin-keeps : (t : RegTrigger) → TriggerWithin (sizes a u) t → TriggerWithin (sizes b u) t
  TriggerWithin-keeps t h = TriggerWithin-more (sizes a u) (sizes b u) k.units (k.values u) (k.labels u) t h

  pub EdgeWithin-keeps : (e : PhiEdge) → EdgeWithin (sizes a u) e → EdgeWithin (sizes b u) e
  EdgeWithin-keeps e h = EdgeWithin-more (sizes a u) (sizes b u) k.units (k.values u) (k.labels u) e h

  pub InstPlaced-keeps : (i : Inst) → InstPlaced a u i → InstPlaced b u i
  InstPlaced-keeps i h = InstWithin-more (sizes a u) (sizes b u) i k.units (k.values u) (k.labels u) h

  -- and says the same
  pub naming-agrees : Agree (sizes a u) (naming b u) (naming a u)
  naming-agrees = record { units = k.unit_names; values = k.value_names u; labels = k.label_names u }

  pub value_text-keeps : (v : ValueId) → ValueWithin (sizes a u) v → value_text (naming b u) v ≡ value_text (naming a u) v
  value_text-keeps v h = value-same (sizes a u) (naming b u) (naming a u) naming-agrees v h

  pub maybe_text-keeps : (v : Option ValueId) → MaybeWithin (sizes a u) v → maybe_text (naming b u) v ≡ maybe_text (naming a u) v
  maybe_text-keeps v h = maybe-same (sizes a u) (naming b u) (naming a u) naming-agrees v h

  pub operand_text-keeps : (t : Typed) → OperandWithin (sizes a u) t → operand_text (naming b u) t ≡ operand_text (naming a u) t
  operand_text-keeps t h = operand-same (sizes a u) (naming b u) (naming a u) naming-agrees t h

  pub trigger_text-keeps : (t : RegTrigger) → TriggerWithin (sizes a u) t → trigger_text (naming b u) t ≡ trigger_text (naming a u) t
  trigger_text-keeps t h = trigger-same (sizes a u) (naming b u) (naming a u) naming-agrees t h

  pub edge_text-keeps : (e : PhiEdge) → EdgeWithin (sizes a u) e → edge_text (naming b u) e ≡ edge_text (naming a u) e
  edge_text-keeps e h = edge-same (sizes a u) (naming b u) (naming a u) naming-agrees e h

  pub inst_text_at-keeps : (i : Inst) → InstPlaced a u i → inst_text_at b u i ≡ inst_text_at a u i
  inst_text_at-keeps i h = inst-same (sizes a u) (naming b u) (naming a u) naming-agrees i h

pub InstPlaced-grows : (a b : Arena) (u : ℕ) (i : Inst) → Grows a b → InstPlaced a u i → InstPlaced b u i
InstPlaced-grows a b u i g h = InstPlaced-keeps a b u g.entries i h

pub inst_text_at-grows : (a b : Arena) (u : ℕ) (i : Inst) → Grows a b → InstPlaced a u i → inst_text_at b u i ≡ inst_text_at a u i
inst_text_at-grows a b u i g h = inst_text_at-keeps a b u g.entries i h

-- one more item of a list that is in place
pub Each-push : {X : Type 0} (P : X → Type 0) (xs : List X) (x : X) → Each P xs → P x → Each P (xs ++ x ∷ [])
Each-push P [] x w h = (h, tt)
Each-push P (y ∷ xs) x w h = (w.0, Each-push P xs x w.1 h)

-- names tell ids apart
pub unit-by_name : (a : Arena) (u v : ℕ) → IsArena a → u < unit_count a → v < unit_count a → unit_name_at a u ≡ unit_name_at a v → u ≡ v
unit-by_name a u v o h g e =
    let l : u < length a.names = omega (arith, h, o.long) in
    let m : v < length a.names = omega (arith, g, o.long) in
    o.names_distinct u v (unit_name_at a v) (slice_get-get_or a.names u no_unit_name l ∙ ap Some e) (slice_get-get_or a.names v no_unit_name m)

pub value-by_name : (a : Arena) (u v w : ℕ) → IsArena a → u < unit_count a → v < value_count a u → w < value_count a u → value_name_at a u v ≡ value_name_at a u w → v ≡ w
value-by_name a u v w o h p q e = (o.tables u h).values_distinct v w (value_name_at a u w) (slice_get-get_or (table_at a u).values v [] p ∙ ap Some e) (slice_get-get_or (table_at a u).values w [] q)

pub label-by_name : (a : Arena) (u v w : ℕ) → IsArena a → u < unit_count a → v < label_count a u → w < label_count a u → label_name_at a u v ≡ label_name_at a u w → v ≡ w
label-by_name a u v w o h p q e = (o.tables u h).labels_distinct v w (label_name_at a u w) (slice_get-get_or (table_at a u).labels v [] p ∙ ap Some e) (slice_get-get_or (table_at a u).labels w [] q)

-- what holds of the open unit's text, and what is known of the last unit of the contents
pub OfOpen-is : (a : Arena) (P : UnitText → Type 0) (t : UnitText) → last_unit (contents a) ≡ Some t → OfOpen a P → P t
OfOpen-is a P t e h = subst (λ o. IsSomeAnd o P) e h

pub OfOpen-from : (a : Arena) (P : UnitText → Type 0) (t : UnitText) → last_unit (contents a) ≡ Some t → P t → OfOpen a P
OfOpen-from a P t e h = subst (λ o. IsSomeAnd o P) (sym e) h

-- the ids of a unit's blocks and instructions are within
pub label-is_block : (a : Arena) (u b : ℕ) → IsArena a → u < unit_count a → b < label_count a u → b < block_count a u
label-is_block a u b o h w = omega (arith, w, (o.tables u h).enough_bodies)

pub block-within : (a : Arena) (u i : ℕ) (b : BlockId) → IsArena a → u < unit_count a → slice_get (blocks_at a u) i ≡ Some b → b.0 < block_count a u
block-within a u i b o h p = stands-within (table_at a u) b.0 (o.tables u h) (is_block-at (blocks_at a u) i b p)

pub block_insts-within : (a : Arena) (u i : ℕ) (b : BlockId) → IsArena a → u < unit_count a → slice_get (blocks_at a u) i ≡ Some b
    → Each (λ (x : InstId). x.0 < inst_count a u) (block_insts_at a u b.0)
block_insts-within a u i b o h p = insts-within (table_at a u) (o.tables u h) i b p

-- the last unit of contents that were changed
last_unit-cons : (x : ItemText) (items : List ItemText) (t : UnitText) → last_unit items ≡ Some t → last_unit (x ∷ items) ≡ Some t
last_unit-cons x [] t e = cc
last_unit-cons (unit_text x) (y ∷ items) t e = e
last_unit-cons (declare_text x) (y ∷ items) t e = e

pub last_unit-change_last : (f : UnitText → UnitText) (items : List ItemText) (t : UnitText) → last_unit items ≡ Some t → last_unit (change_last f items) ≡ Some (f t)
last_unit-change_last f [] t e = cc
last_unit-change_last f (unit_text x ∷ []) t e = let q : x ≡ t = cc in ap (λ z. Some (f z)) q
last_unit-change_last f (declare_text d ∷ []) t e = cc
last_unit-change_last f (unit_text x ∷ y ∷ items) t e = last_unit-cons (unit_text x) (change_last f (y ∷ items)) (f t) (last_unit-change_last f (y ∷ items) t e)
last_unit-change_last f (declare_text x ∷ y ∷ items) t e = last_unit-cons (declare_text x) (change_last f (y ∷ items)) (f t) (last_unit-change_last f (y ∷ items) t e)

-- what holds of the open unit after a call
of_some : (o : Option UnitText) (P : UnitText → Type 0) → IsSomeAnd o P → (t : UnitText) × (o ≡ Some t) × P t
of_some None P h = absurd h
of_some (Some t) P h = (t, refl, h)

pub OfOpen-change : (a b : Arena) (u : UnitId) (f : UnitText → UnitText) (P : UnitText → Type 0) → HasContents a b u (change_last f (contents a)) → OfOpen a (λ t. P (f t)) → OfOpen b P
OfOpen-change a b u f P s h =
    let t = of_some (last_unit (contents a)) (λ t. P (f t)) h in
    OfOpen-from b P (f t.0) (ap last_unit s.says ∙ last_unit-change_last f (contents a) t.0 t.1) t.2

pub OfOpen-grows : (a b : Arena) (P : UnitText → Type 0) → Grows a b → OfOpen a P → OfOpen b P
OfOpen-grows a b P g h = subst (λ o. IsSomeAnd o P) (sym (ap last_unit g.says)) h

pub OfOpen-begun : (a b : Arena) (u : UnitId) (t : UnitText) (P : UnitText → Type 0) → HasContents a b u (contents a ++ unit_text t ∷ []) → P t → OfOpen b P
OfOpen-begun a b u t P s h = OfOpen-from b P t (ap last_unit s.says ∙ last_unit-push (contents a) t) h

-- a line adds no block
pub length-line_at_end : (l : LineText) (bs : List BlockText) → length (line_at_end l bs) ≡ length bs
length-line_at_end l [] = refl
length-line_at_end l (b ∷ []) = refl
length-line_at_end l (b ∷ c ∷ bs) = ap suc (length-line_at_end l (c ∷ bs))

pub OfOpen-map : (a : Arena) (P Q : UnitText → Type 0) → ((t : UnitText) → P t → Q t) → OfOpen a P → OfOpen a Q
OfOpen-map a P Q f h = let t = of_some (last_unit (contents a)) P h in OfOpen-from a Q t.0 t.1 (f t.0 t.2)

pub insts-at : (n i : ℕ) (d : InstId) (xs ys : List InstId) → i < length xs → xs ≡ ys → Each (λ (x : InstId). x.0 < n) ys → (get_or xs i d).0 < n
insts-at n i d xs ys l e h = Each-at (λ (x : InstId). x.0 < n) xs i d (subst (Each (λ (x : InstId). x.0 < n)) (sym e) h) l

-- each instruction is placed
pub line-placed : (a : Arena) (u i : ℕ) → IsArena a → InstPlaced a u (line_at (table_at a u) i).inst
line-placed a u i o = elim (cases_lt i (length (table_at a u).lines)) [
  | inl l ↦ o.placed u i (line_at (table_at a u) i) (slice_get-get_or (table_at a u).lines i no_line l)
  | inr l ↦ let e : line_at (table_at a u) i ≡ no_line = get_or_past (table_at a u).lines i no_line l in subst (λ x. InstPlaced a u x.inst) (sym e) tt
]
