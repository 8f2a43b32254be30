-- How many blocks and ids a text has when copies were added, and so what room is left on the way.
use Rattle.std.proofs.Common.{◌≡◌, ℕ, zero, suc, ◌+◌, ◌-◌, ◌^◌, ◌<◌, List, [], ◌∷◌, ◌++◌, length, get_or, drop, Option, Some, None, refl, ap, sym, ◌∙◌, subst, arith}
use Rattle.std.proofs.lemmas.List.{length-append, drop_more}
use Rattle.lh_unit.specs.Table.{insts_at}
use Rattle.lh_unit.specs.Arena.{Arena, table_at, blocks_at, inst_count}
use Rattle.lh_unit.specs.declared.inst.UnitId.{UnitId}
use Rattle.lh_unit.specs.declared.inst.BlockId.{BlockId}
use Rattle.lh_unit.specs.declared.inst.InstId.{InstId}
use Rattle.lh_unit.specs.declared.table.TableLine.{TableLine}
use Rattle.lh_flat.specs.declared.rename.Renaming.{Renaming}
use Rattle.lh_flat.specs.declared.build.FlatBuilder.{FlatBuilder}
use Rattle.lh_flat.specs.Graph.{callee_of}
use Rattle.lh_flat.specs.Building.{line_of, insts_room, block_room, blocks_room, unit_room, call_room, taken, branch_to, entering, call_ids, blocks_give, merge_in, merging, line_added, insts_added, blocks_added, call_added, put}
use Rattle.lh_flat.specs.Room.{blocks_values, inner_values, call_values, HasRoom}
use Rattle.lh_flat.proofs.BuilderRoom.{no_room, flat_room, room-next, call_added-none, call_added-next}

pub no_values : (k : ℕ) (a : Arena) → call_values k a None ≡ 0
unfolding call_values
no_values zero a = refl
no_values (suc k) a = refl

pub flat_values : (a : Arena) (f : UnitId) → call_values 0 a (Some f) ≡ 0
unfolding call_values
flat_values a f = refl

pub values-next : (k : ℕ) (a : Arena) (f : UnitId) → call_values (suc k) a (Some f) ≡ inst_count a f.0 + inner_values (call_values k a) a f.0
unfolding call_values
values-next k a f = refl

summed : (x y z m n : ℕ) → x ≡ y + n → y ≡ z + m → x ≡ z + (m + n)
summed x y z m n e f = omega arith

one_more : (x y z m n : ℕ) → x ≡ y + 1 + n → y ≡ z + m → x ≡ z + (m + 1 + n)
one_more x y z m n e f = omega arith

none_more : (n z : ℕ) → z ≡ 0 → n ≡ n + z
none_more n z e = omega arith

module _ (a : Arena) (called : UnitId → Renaming → TableLine → FlatBuilder → FlatBuilder) (room values : Option UnitId → ℕ) (none : room None ≡ 0) (free : values None ≡ 0)
    (rooms : (f : UnitId) (r : Renaming) (l : TableLine) (t : FlatBuilder) → length (called f r l t).blocks ≡ length t.blocks + room (Some f))
    (takes : (f : UnitId) (r : Renaming) (l : TableLine) (t : FlatBuilder) → (called f r l t).values ≡ t.values + values (Some f)) where
  line-blocks : (r : Renaming) (l : TableLine) (o : Option UnitId) (t : FlatBuilder) → length (line_added called r l o t).blocks ≡ length t.blocks + room o
  line-blocks r l None t = none_more (length t.blocks) (room None) none
  line-blocks r l (Some f) t = rooms f r l t

  line-values : (r : Renaming) (l : TableLine) (o : Option UnitId) (t : FlatBuilder) → (line_added called r l o t).values ≡ t.values + values o
  line-values r l None t = none_more t.values (values None) free
  line-values r l (Some f) t = takes f r l t

  insts-blocks : (u : ℕ) (r : Renaming) (is : List InstId) (t : FlatBuilder) → length (insts_added called a u r is t).blocks ≡ length t.blocks + insts_room room a u is
  insts-blocks u r [] t = none_more (length t.blocks) 0 refl
  insts-blocks u r (i ∷ is) t =
      let s : FlatBuilder = line_added called r (line_of a u i) (callee_of a (line_of a u i).inst) t in
      summed (length (insts_added called a u r is s).blocks) (length s.blocks) (length t.blocks) (room (callee_of a (line_of a u i).inst)) (insts_room room a u is) (insts-blocks u r is s)
      (line-blocks r (line_of a u i) (callee_of a (line_of a u i).inst) t)

  insts-values : (u : ℕ) (r : Renaming) (is : List InstId) (t : FlatBuilder) → (insts_added called a u r is t).values ≡ t.values + insts_room values a u is
  insts-values u r [] t = none_more t.values 0 refl
  insts-values u r (i ∷ is) t =
      let s : FlatBuilder = line_added called r (line_of a u i) (callee_of a (line_of a u i).inst) t in
      summed (insts_added called a u r is s).values s.values t.values (values (callee_of a (line_of a u i).inst)) (insts_room values a u is) (insts-values u r is s)
      (line-values r (line_of a u i) (callee_of a (line_of a u i).inst) t)

  blocks-blocks : (u : ℕ) (r : Renaming) (bs : List BlockId) (t : FlatBuilder) → length (blocks_added called a u r bs t).blocks ≡ length t.blocks + blocks_room room a u bs
  blocks-blocks u r [] t = none_more (length t.blocks) 0 refl
  blocks-blocks u r (b ∷ bs) t =
      let is : List InstId = insts_at (table_at a u) b.0 in
      let s : FlatBuilder = insts_added called a u r is t in
      one_more (length (blocks_added called a u r (b ∷ bs) t).blocks) (length s.blocks) (length t.blocks) (insts_room room a u is) (blocks_room room a u bs)
      (blocks-blocks u r bs (put s) ∙ ap (λ n. n + blocks_room room a u bs) (length-append s.blocks (s.current ∷ []))) (insts-blocks u r is t)

  blocks-values : (u : ℕ) (r : Renaming) (bs : List BlockId) (t : FlatBuilder) → (blocks_added called a u r bs t).values ≡ t.values + blocks_values values a u bs
  blocks-values u r [] t = none_more t.values 0 refl
  blocks-values u r (b ∷ bs) t =
      let is : List InstId = insts_at (table_at a u) b.0 in
      let s : FlatBuilder = insts_added called a u r is t in
      summed (blocks_added called a u r (b ∷ bs) t).values s.values t.values (insts_room values a u is) (blocks_values values a u bs) (blocks-values u r bs (put s))
      (insts-values u r is t)

module _ (a : Arena) where
  entered-blocks : (f : UnitId) (t : FlatBuilder) → length (entering a f t).blocks ≡ length t.blocks + 1
  entered-blocks f t = length-append t.blocks ((taken (branch_to (length t.blocks + 1)) t).current ∷ [])

  -- the copy for a call has as many blocks, and takes as many ids, as were counted
  call-counted : (k : ℕ) (f : UnitId) (r : Renaming) (l : TableLine) (t : FlatBuilder) →
      (length (call_added k a f r l t).blocks ≡ length t.blocks + call_room k a (Some f)) × ((call_added k a f r l t).values ≡ t.values + call_values k a (Some f))
  call-counted zero f r l t = (
    ap (λ (x : FlatBuilder). length x.blocks) (sym (call_added-none 0 a f r l t refl)) ∙ none_more (length t.blocks) (call_room 0 a (Some f)) (flat_room 0 a f refl),
    ap (λ (x : FlatBuilder). x.values) (sym (call_added-none 0 a f r l t refl)) ∙ none_more t.values (call_values 0 a (Some f)) (flat_values a f),
  )
  call-counted (suc k) f r l t =
      let q : Renaming = call_ids (call_room k a) a f r l t in (
        ap (λ (x : FlatBuilder). length x.blocks) (call_added-next k a f r l t)
            ∙ blocks-blocks a (call_added k a) (call_room k a) (call_values k a) (no_room k a) (no_values k a) (λ g p m v. (call-counted k g p m v).0) (λ g p m v. (call-counted k g p m v).1) f.0 q
            (blocks_at a f.0) (entering a f t)
            ∙ more_blocks (length (entering a f t).blocks) (length t.blocks) (unit_room (call_room k a) a f.0) (call_room (suc k) a (Some f)) (entered-blocks f t) (room-next k a f),
        ap (λ (x : FlatBuilder). x.values) (call_added-next k a f r l t)
            ∙ blocks-values a (call_added k a) (call_room k a) (call_values k a) (no_room k a) (no_values k a) (λ g p m v. (call-counted k g p m v).0) (λ g p m v. (call-counted k g p m v).1) f.0 q
            (blocks_at a f.0) (entering a f t)
            ∙ more_values t.values (inst_count a f.0) (inner_values (call_values k a) a f.0) (call_values (suc k) a (Some f)) (values-next k a f),
      )
    where
      more_blocks : (x y m n : ℕ) → x ≡ y + 1 → n ≡ m + 1 → x + m ≡ y + n
      more_blocks x y m n e g = omega arith

      more_values : (y i m n : ℕ) → n ≡ i + m → y + i + m ≡ y + n
      more_values y i m n e = omega arith

  module _ (depth u : ℕ) (r : Renaming) where
    -- what is left for the rest of what is to be added
    blocks-left : (xs ys : List BlockId) (s t : FlatBuilder) → blocks_added (call_added depth a) a u r xs s ≡ blocks_added (call_added depth a) a u r ys t →
        (length s.blocks + blocks_room (call_room depth a) a u xs ≡ length t.blocks + blocks_room (call_room depth a) a u ys)
        × (s.values + blocks_values (call_values depth a) a u xs ≡ t.values + blocks_values (call_values depth a) a u ys)
    blocks-left xs ys s t e = (
      sym (blocks-blocks a (call_added depth a) (call_room depth a) (call_values depth a) (no_room depth a) (no_values depth a) (λ g p m v. (call-counted depth g p m v).0) (λ g p m v. (call-counted depth g p m v).1) u r xs s)
          ∙ ap (λ (x : FlatBuilder). length x.blocks) e
          ∙ blocks-blocks a (call_added depth a) (call_room depth a) (call_values depth a) (no_room depth a) (no_values depth a) (λ g p m v. (call-counted depth g p m v).0) (λ g p m v. (call-counted depth g p m v).1) u r ys t,
      sym (blocks-values a (call_added depth a) (call_room depth a) (call_values depth a) (no_room depth a) (no_values depth a) (λ g p m v. (call-counted depth g p m v).0) (λ g p m v. (call-counted depth g p m v).1) u r xs s)
          ∙ ap (λ (x : FlatBuilder). x.values) e
          ∙ blocks-values a (call_added depth a) (call_room depth a) (call_values depth a) (no_room depth a) (no_values depth a) (λ g p m v. (call-counted depth g p m v).0) (λ g p m v. (call-counted depth g p m v).1) u r ys t,
    )

    insts-left : (xs ys : List InstId) (s t : FlatBuilder) → insts_added (call_added depth a) a u r xs s ≡ insts_added (call_added depth a) a u r ys t →
        (length s.blocks + insts_room (call_room depth a) a u xs ≡ length t.blocks + insts_room (call_room depth a) a u ys)
        × (s.values + insts_room (call_values depth a) a u xs ≡ t.values + insts_room (call_values depth a) a u ys)
    insts-left xs ys s t e = (
      sym (insts-blocks a (call_added depth a) (call_room depth a) (call_values depth a) (no_room depth a) (no_values depth a) (λ g p m v. (call-counted depth g p m v).0) (λ g p m v. (call-counted depth g p m v).1) u r xs s)
          ∙ ap (λ (x : FlatBuilder). length x.blocks) e
          ∙ insts-blocks a (call_added depth a) (call_room depth a) (call_values depth a) (no_room depth a) (no_values depth a) (λ g p m v. (call-counted depth g p m v).0) (λ g p m v. (call-counted depth g p m v).1) u r ys t,
      sym (insts-values a (call_added depth a) (call_room depth a) (call_values depth a) (no_room depth a) (no_values depth a) (λ g p m v. (call-counted depth g p m v).0) (λ g p m v. (call-counted depth g p m v).1) u r xs s)
          ∙ ap (λ (x : FlatBuilder). x.values) e
          ∙ insts-values a (call_added depth a) (call_room depth a) (call_values depth a) (no_room depth a) (no_values depth a) (λ g p m v. (call-counted depth g p m v).0) (λ g p m v. (call-counted depth g p m v).1) u r ys t,
    )

    first_left : (x m n y z : ℕ) → x + (m + n) ≡ y + z → y + z < 2 ^ 32 → x + m < 2 ^ 32
    first_left x m n y z e l = omega arith

    first_inst : (x m n y z : ℕ) → x + (m + n) ≡ y + z → y + (z + 1) < 2 ^ 32 → x + m < 2 ^ 32
    first_inst x m n y z e l = omega arith

    -- room for the next block
    pub room-block : (bs : List BlockId) (i : ℕ) (d : BlockId) (all : List BlockId) (s t : FlatBuilder) → i < length bs → HasRoom t (blocks_room (call_room depth a) a u all) (blocks_values (call_values depth a) a u all)
        → blocks_added (call_added depth a) a u r (drop i bs) s ≡ blocks_added (call_added depth a) a u r all t →
        HasRoom s (block_room (call_room depth a) a u (get_or bs i d)) (insts_room (call_values depth a) a u (insts_at (table_at a u) (get_or bs i d).0))
    room-block bs i d all s t l h e =
        let b : BlockId = get_or bs i d in
        let w = blocks-left (b ∷ drop (i + 1) bs) all s t (ap (λ xs. blocks_added (call_added depth a) a u r xs s) (sym (drop_more bs i d l)) ∙ e) in
        record {
          blocks = first_left (length s.blocks) (block_room (call_room depth a) a u b) (blocks_room (call_room depth a) a u (drop (i + 1) bs)) (length t.blocks) (blocks_room (call_room depth a) a u all) w.0
              h.blocks;
          values = first_left s.values (insts_room (call_values depth a) a u (insts_at (table_at a u) b.0)) (blocks_values (call_values depth a) a u (drop (i + 1) bs)) t.values
              (blocks_values (call_values depth a) a u all) w.1 h.values;
        }

    -- room for the next instruction
    pub room-inst : (is : List InstId) (i : ℕ) (d : InstId) (all : List InstId) (s t : FlatBuilder) → i < length is
        → HasRoom t (insts_room (call_room depth a) a u all + 1) (insts_room (call_values depth a) a u all)
        → insts_added (call_added depth a) a u r (drop i is) s ≡ insts_added (call_added depth a) a u r all t →
        HasRoom s (call_room depth a (callee_of a (line_of a u (get_or is i d)).inst)) (call_values depth a (callee_of a (line_of a u (get_or is i d)).inst))
    room-inst is i d all s t l h e =
        let x : InstId = get_or is i d in
        let w = insts-left (x ∷ drop (i + 1) is) all s t (ap (λ xs. insts_added (call_added depth a) a u r xs s) (sym (drop_more is i d l)) ∙ e) in
        record {
          blocks = first_inst (length s.blocks) (call_room depth a (callee_of a (line_of a u x).inst)) (insts_room (call_room depth a) a u (drop (i + 1) is)) (length t.blocks)
              (insts_room (call_room depth a) a u all) w.0 h.blocks;
          values = first_left s.values (call_values depth a (callee_of a (line_of a u x).inst)) (insts_room (call_values depth a) a u (drop (i + 1) is)) t.values (insts_room (call_values depth a) a u all) w.1
              h.values;
        }

less_one : (k : ℕ) → k ≡ suc k - 1
less_one k = omega arith

-- room for a call is room for the copy of the function
pub room-call : (k : ℕ) (a b : Arena) (f g : UnitId) (t : FlatBuilder) → (k ≡ 0 → ⊥) → b ≡ a → g ≡ f → HasRoom t (call_room k a (Some f)) (call_values k a (Some f))
    → HasRoom t (unit_room (call_room (k - 1) b) b g.0 + 1) (inst_count b g.0 + inner_values (call_values (k - 1) b) b g.0)
room-call zero a b f g t n e q h = absurd (n refl)
room-call (suc j) a b f g t n e q h =
    subst (λ x. HasRoom t (unit_room (call_room (suc j - 1) x) x g.0 + 1) (inst_count x g.0 + inner_values (call_values (suc j - 1) x) x g.0)) (sym e)
    (subst (λ (x : UnitId). HasRoom t (unit_room (call_room (suc j - 1) a) a x.0 + 1) (inst_count a x.0 + inner_values (call_values (suc j - 1) a) a x.0)) (sym q)
    (subst (λ i. HasRoom t (unit_room (call_room i a) a f.0 + 1) (inst_count a f.0 + inner_values (call_values i a) a f.0)) (less_one j)
    record { blocks = subst (λ m. length t.blocks + m < 2 ^ 32) (room-next j a f) h.blocks; values = subst (λ m. t.values + m < 2 ^ 32) (values-next j a f) h.values }))

-- with less to come there is room too
pub room-less : (t : FlatBuilder) (m v w : ℕ) → HasRoom t m (v + w) → HasRoom t m v
room-less t m v w h = record { blocks = h.blocks; values = less t.values v w h.values }
  where
    less : (x y z : ℕ) → x + (y + z) < 2 ^ 32 → x + y < 2 ^ 32
    less x y z l = omega arith

-- behind the entry there is room for the rest
pub room-entered : (a : Arena) (f : UnitId) (s t : FlatBuilder) (m n : ℕ) → s ≡ entering a f t → HasRoom t (m + 1) (inst_count a f.0 + n) → HasRoom s m n
room-entered a f s t m n e h = subst (λ x. HasRoom x m n) (sym e) record {
  blocks = behind (length (entering a f t).blocks) (length t.blocks) m (entered-blocks a f t) h.blocks;
  values = taken-more t.values (inst_count a f.0) n h.values;
}
  where
    behind : (x y z : ℕ) → x ≡ y + 1 → y + (z + 1) < 2 ^ 32 → x + z < 2 ^ 32
    behind x y z q l = omega arith

    taken-more : (x y z : ℕ) → x + (y + z) < 2 ^ 32 → x + y + z < 2 ^ 32
    taken-more x y z l = omega arith
