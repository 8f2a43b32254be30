-- A copy that is built reads as the copy of the unit's text, whatever is copied into it.
use Rattle.std.proofs.Common.{◌≡◌, ℕ, zero, suc, ◌+◌, ◌<◌, inl, true, false, Bool, ◌||◌, nat_eq, if◌then◌else◌, List, [], ◌∷◌, ◌++◌, length, get_or, replicate, map, Option, Some, None, refl, ap, sym, ◌∙◌, subst, append_assoc, add_assoc}
use Rattle.std.specs.List.{list_any, flat_map}
use Rattle.std.specs.Option.{option_map, option_map_or}
use Rattle.std.proofs.lemmas.List.{append-nil, map-append, length-replicate, length-append}
use Rattle.lh_unit_names.specs.declared.name.UnitName.{UnitName}
use Rattle.lh_unit.specs.ById.{maybe_id}
use Rattle.lh_unit.specs.Contents.{br_text, LineText, BlockText, UnitText}
use Rattle.lh_unit.specs.Named.{is_function, block_of}
use Rattle.lh_unit.specs.Naming.{Naming, value_text, maybe_text, inst_text, block_text, arg_text, kind_text}
use Rattle.lh_unit.specs.Table.{is_block, HasBlocks, BlocksWithin}
use Rattle.lh_unit.specs.Within.{Each, MaybeWithin}
use Rattle.lh_unit.specs.Arena.{Arena, IsArena, table_at, naming, blocks_at, args_at, unit_count, value_count, inst_count, label_count, unit_name_at, value_name_at, label_name_at, unit_text_at, kind_at}
use Rattle.lh_unit.specs.declared.inst.UnitId.{UnitId}
use Rattle.lh_unit.specs.declared.inst.BlockId.{BlockId}
use Rattle.lh_unit.specs.declared.inst.InstId.{InstId}
use Rattle.lh_unit.specs.declared.inst.ValueId.{ValueId}
use Rattle.lh_unit.specs.declared.inst.Inst.{Inst}
use Rattle.lh_unit.specs.declared.inst.Inst.TheVariants as inst
use Rattle.lh_unit.specs.declared.table.TableLine.{TableLine}
use Rattle.lh_unit.proofs.Lists.{Same, same, other, same_or, nat_eq-refl, nat_eq-other, or_true}
use Rattle.lh_unit.proofs.Defined.{blocks-within}
use Rattle.lh_unit.proofs.ById.{block_of-by_id}
use Rattle.lh_unit.proofs.ModuleLaws.{line-placed}
use Rattle.lh_flat.specs.declared.rename.Renaming.{Renaming}
use Rattle.lh_flat.specs.declared.build.FlatBuilder.{FlatBuilder}
use Rattle.lh_flat.specs.Calls.{callees, callees_of, nest_deeper}
use Rattle.lh_flat.specs.Copies.{Copy, copy_at, argument_or, first_piece, last_piece, last_piece_of}
use Rattle.lh_flat.specs.Flat.{FlatBlockText, merge_of, given_in, given_by, first_label, branch_into, flat_block, flat_copy}
use Rattle.lh_flat.specs.Reads.{merge_edge_text, merge_text, flat_line_text}
use Rattle.lh_flat.specs.Renames.{no_span, last_in, sizes_in}
use Rattle.lh_flat.specs.Agrees.{IsOneOfBlocks, IsKnown}
use Rattle.lh_flat.specs.Building.{line_of, unit_room, call_room, spans_of, new_ids, ids_for, call_args, call_ids, blocks_give, merge_in, taken, branch_to, entering, blocks_added, call_added}
use Rattle.lh_flat.specs.CopyNames.{unit_results, blocks_names, copy_names, NamedFrom, is_known, IsCallable, UnitsAreRight}
use Rattle.lh_flat.proofs.BuilderRoom.{no_room, room-next, length-new_ids, length-spans_of, maybe-within, call_added-next}
use Rattle.lh_flat.proofs.CopiedIds.{result-known}
use Rattle.lh_flat.proofs.NumberNames.{named-left, named-right, labels, moved, read, read-one_more, long-by_text, none_less}
use Rattle.lh_flat.proofs.BlockCopies.{line_text_of, arg_names, CopyIs, CallReads, BlocksRead, CallsRead, blocks-read}
use Rattle.lh_flat.proofs.CopyIds.{RoomIs, SpanIsRight, blocks-room, spans-right}
use Rattle.lh_flat.proofs.CopyValues.{values-named, call_args-named, call_args-long, blocks-given}
use Rattle.lh_flat.proofs.ResultNames.{length-results}

-- whether more calls nest below a function
abbrev pub nests_below : (depth : ℕ) → List UnitText → UnitName → Bool
nests_below zero fs f = true
nests_below (suc k) fs f = nest_deeper k fs (callees_of fs f)

pub below-any : (depth : ℕ) (fs : List UnitText) (calls : List UnitName) → nest_deeper depth fs calls ≡ list_any (nests_below depth fs) calls
below-any zero fs calls = refl
below-any (suc k) fs calls = refl

-- the functions that a callable one calls
callees-named : (a : Arena) (fs : List UnitText) (f : UnitId) → IsCallable a fs f → callees_of fs (unit_name_at a f.0) ≡ callees (unit_text_at a f.0)
callees-named a fs f k = ap (λ o. option_map_or callees o []) k.named

nests-named : (a : Arena) (fs : List UnitText) (depth : ℕ) (f : UnitId) → IsCallable a fs f → nests_below (suc depth) fs (unit_name_at a f.0) ≡ false
    → list_any (nests_below depth fs) (callees (unit_text_at a f.0)) ≡ false
nests-named a fs depth f k e = sym (below-any depth fs (callees (unit_text_at a f.0))) ∙ ap (nest_deeper depth fs) (sym (callees-named a fs f k)) ∙ e

-- each block of a unit is one of its blocks
pub is_block-head : (b : BlockId) (bs : List BlockId) → is_block (b ∷ bs) b.0 ≡ true
is_block-head b bs = ap (λ x. x || is_block bs b.0) (nat_eq-refl b.0)

each-block : (P : BlockId → Type 0) (all bs : List BlockId) → ((b : BlockId) → is_block all b.0 ≡ true → P b) → ((b : BlockId) → is_block bs b.0 ≡ true → is_block all b.0 ≡ true) → Each P bs
each-block P all [] h s = tt
each-block P all (b ∷ bs) h s = (h b (s b (is_block-head b bs)), each-block P all bs h (λ c q. s c (ap (λ x. nat_eq b.0 c.0 || x) q ∙ or_true (nat_eq b.0 c.0))))

-- a block of a function or a process has a label
pub block-in : (n : ℕ) (bs : List BlockId) (b : BlockId) → BlocksWithin n bs → is_block bs b.0 ≡ true → b.0 < n
block-in n [] b w e = cc
block-in n (x ∷ bs) b w e = by (same_or x.0 b.0) (λ q. block-in n bs b w.1 q)
  where
    by : Same x.0 b.0 → (is_block bs b.0 ≡ true → b.0 < n) → b.0 < n
    by (same q) f = subst (λ m. m < n) q w.0
    by (other q) f = f (sym (ap (λ y. y || is_block bs b.0) (nat_eq-other x.0 b.0 q)) ∙ e)

-- What must hold for the copy of a unit whose first block stands at place `at`: names for its blocks, and for the block to which it goes back.
pub record CopyStarts (a : Arena) (fs : List UnitText) (g : Naming) (depth u : ℕ) (c : Copy) (at : ℕ) : Type 0 where
  pub within : u < unit_count a
  pub blocks : HasBlocks (kind_at a u)
  pub unit : c.unit ≡ unit_text_at a u
  pub nests : list_any (nests_below depth fs) (callees (unit_text_at a u)) ≡ false
  pub labels : NamedFrom g.label_name at (labels (flat_copy (suc depth) fs c))
  pub back : is_function (kind_text (kind_at a u)) ≡ true → g.label_name (at + length (flat_copy (suc depth) fs c)) ≡ c.path

pub copy_names-none : (a : Arena) (f : UnitId) (path : List ℕ) → copy_names 0 a f path ≡ []
unfolding copy_names
copy_names-none a f path = refl

pub copy_names-next : (j : ℕ) (a : Arena) (f : UnitId) (path : List ℕ) → copy_names (suc j) a f path ≡ unit_results a f.0 path ++ blocks_names (copy_names j a) a f.0 path (blocks_at a f.0)
unfolding copy_names
copy_names-next j a f path = refl

abbrev branched : List ℕ → LineText
branched x = record { result = None; inst = br_text x }

module _ (a : Arena) (o : IsArena a) (fs : List UnitText) (formed : UnitsAreRight a fs) (g : Naming) (units : g.unit_name ≡ unit_name_at a) where
  -- a copy takes as many blocks as were counted
  pub room-is : (depth : ℕ) → RoomIs a fs (flat_copy depth fs) (call_room depth a) (nests_below depth fs)
  room-is zero f path args k e = cc
  room-is (suc j) f path args k e =
      ap (λ n. n + 1)
      (blocks-room a fs (flat_copy j fs) (call_room j a) (nests_below j fs) (no_room j a) (room-is j) f.0 (copy_at path args (unit_text_at a f.0)) (blocks_at a f.0) k.blocks
      (formed f.0 k.within k.blocks) (nests-named a fs j f k e))
      ∙ sym (room-next j a f)

  -- how many blocks a copy has
  pub unit-room-is : (depth u : ℕ) (c : Copy) → u < unit_count a → HasBlocks (kind_at a u) → c.unit ≡ unit_text_at a u → list_any (nests_below depth fs) (callees (unit_text_at a u)) ≡ false
      → length (flat_copy (suc depth) fs c) ≡ unit_room (call_room depth a) a u
  unit-room-is depth u c l k e n =
      ap (λ (x : UnitText). length (flat_map (flat_block (flat_copy depth fs) fs c) x.blocks)) e
      ∙ blocks-room a fs (flat_copy depth fs) (call_room depth a) (nests_below depth fs) (no_room depth a) (room-is depth) u c (blocks_at a u) k (formed u l k) n

  -- the pieces of each block have their labels
  pieces-named : (depth u : ℕ) (c : Copy) (at : ℕ) → CopyStarts a fs g depth u c at → (b : BlockId) → IsOneOfBlocks (blocks_at a u) b
      → SpanIsRight a fs g u c (spans_of (call_room depth a) a u at) b
  pieces-named depth u c at s b h =
      spans-right a fs (flat_copy depth fs) (call_room depth a) (nests_below depth fs) (no_room depth a) (room-is depth) g u c b s.blocks
      (block-in (label_count a u) (blocks_at a u) b (blocks-within (kind_at a u) (table_at a u) s.blocks (o.tables u s.within).fits_kind) h)
      (blocks_at a u) (formed u s.within s.blocks) s.nests at (replicate (label_count a u) no_span) (length-replicate (label_count a u) no_span)
      (subst (λ (x : UnitText). NamedFrom g.label_name at (labels (flat_map (flat_block (flat_copy depth fs) fs c) x.blocks))) s.unit s.labels) (inl h)

  -- the last piece of a block by its label
  last-named : (u : ℕ) (c : Copy) (b : BlockId) → u < unit_count a → HasBlocks (kind_at a u) → c.unit ≡ unit_text_at a u → IsOneOfBlocks (blocks_at a u) b
      → last_piece fs c (block_text (naming a u) (table_at a u) b) ≡ last_piece_of fs c (label_name_at a u b.0)
  last-named u c b l k e h =
      let found : block_of (label_name_at a u b.0) (unit_text_at a u).blocks ≡ Some (block_text (naming a u) (table_at a u) b) =
      block_of-by_id a u o l b.0 k (block-in (label_count a u) (blocks_at a u) b (blocks-within (kind_at a u) (table_at a u) k (o.tables u l).fits_kind) h)
      ∙ ap (λ x. if x then Some (block_text (naming a u) (table_at a u) b) else None) h in
      sym (ap (λ (x : UnitText). option_map_or (last_piece fs c) (block_of (label_name_at a u b.0) x.blocks) (first_piece c (label_name_at a u b.0))) e
      ∙ ap (λ x. option_map_or (last_piece fs c) x (first_piece c (label_name_at a u b.0))) found)

  -- the ids of a copy agree with its names where those of its values do
  pub copy-is : (depth u : ℕ) (c : Copy) (at back : ℕ) (values : List ValueId) → CopyStarts a fs g depth u c at
      → (is_function (kind_text (kind_at a u)) ≡ true → back ≡ at + unit_room (call_room depth a) a u) → length values ≡ value_count a u →
      ((v : ValueId) → v.0 < value_count a u → IsKnown (is_known a u) v → value_text g (get_or values v.0 v) ≡ c.value (value_name_at a u v.0)) →
      CopyIs a fs g u c (ids_for (call_room depth a) a u values at back)
  copy-is depth u c at back values s e long h = record {
    within = s.within;
    blocks = s.blocks;
    unit = s.unit;
    fits = record { values = long; labels = length-spans_of (call_room depth a) a u at };
    agrees = record {
      units = units;
      values = λ v l n. h v (subst (λ m. v.0 < m) long l) n;
      firsts = λ b k. (pieces-named depth u c at s b k).0;
      lasts = λ b k. (pieces-named depth u c at s b k).1 ∙ last-named u c b s.within s.blocks s.unit k;
      back = λ y. ap g.label_name (e y ∙ ap (λ n. at + n) (sym (unit-room-is depth u c s.within s.blocks s.unit s.nests))) ∙ s.back y;
    };
  }

  -- a merge of what a copy gives back
  merge-named : (u : ℕ) (c d : Copy) (r q : Renaming) (f : ℕ) (i : InstId) → CopyIs a fs g u c r → CopyIs a fs g f d q
      → Each (λ (b : BlockId). g.label_name (last_in q b).0 ≡ last_piece fs d (block_text (naming a f) (table_at a f) b)) (blocks_at a f) →
      option_map (merge_text g) (merge_in r (blocks_give a f q (blocks_at a f)) (line_of a u i).inst (line_of a u i).result) ≡ merge_of fs c d (line_text_of a u i).inst (line_text_of a u i).result
  merge-named u c d r q f i k m w =
      by (line_of a u i).inst (line_of a u i).result (maybe-within a o u k.within r k.fits 0 i.0 (line_of a u i).result refl) (result-known a u o k.within i.0 (line_of a u i).result refl)
      (blocks-given a o fs g f d q m (blocks_at a f) w (formed f m.within m.blocks) ∙ ap (λ (x : UnitText). flat_map (λ b. given_in d (last_piece fs d b) b.lines) x.blocks) (sym m.unit))
    where
      by : (j : Inst) (v : Option ValueId) → MaybeWithin (sizes_in 0 r) v → Each (IsKnown (is_known a u)) (maybe_id v) → map (merge_edge_text g) (blocks_give a f q (blocks_at a f)) ≡ given_by fs d →
          option_map (merge_text g) (merge_in r (blocks_give a f q (blocks_at a f)) j v) ≡ merge_of fs c d (inst_text (naming a u) j) (maybe_text (naming a u) v)
      by (inst.Call h ty args) (Some v) l n e = ap Some (cc (k.agrees.values v l n.0, e))
      by (inst.Call h ty args) None l n e = refl
      by (inst.Ret None) v l n e = refl
      by (inst.Ret (Some t)) v l n e = refl
      by _ v l n e = refl

  -- the entry of a copy
  entry-named : (depth u : ℕ) (c : Copy) (at : ℕ) → CopyStarts a fs g depth u c at → g.label_name (at + length (flat_copy (suc depth) fs c)) ≡ c.path
      → g.label_name at ≡ first_piece c (first_label c.unit.blocks)
  entry-named depth u c at s hb = by c.unit.blocks s.labels hb
    where
      by : (bs : List BlockText) → NamedFrom g.label_name at (labels (flat_map (flat_block (flat_copy depth fs) fs c) bs))
          → g.label_name (at + length (flat_map (flat_block (flat_copy depth fs) fs c) bs)) ≡ c.path → g.label_name at ≡ first_piece c (first_label bs)
      by [] h e = ap g.label_name (none_less at) ∙ e ∙ sym (append-nil c.path)
      by (b ∷ bs) h e = h.0

  -- what is built for a call reads as its copy
  pub calls-read : (depth : ℕ) → CallsRead a fs g (call_added depth a) (flat_copy depth fs) (copy_names depth a) (nests_below depth fs)
  calls-read zero u c r i f path t k e right n hl hb hv = cc
  calls-read (suc j) u c r i f path t k e right n hl hb hv =
      let ok : IsCallable a fs f = right.called f e in
      let l : TableLine = line_of a u i in
      let d : Copy = copy_at path (arg_names c (line_text_of a u i).inst) (unit_text_at a f.0) in
      let copies : List FlatBlockText = flat_copy (suc j) fs d in
      let q : Renaming = call_ids (call_room j a) a f r l t in
      let own : List (List ℕ) = unit_results a f.0 path in
      let inner : List (List ℕ) = blocks_names (copy_names j a) a f.0 path (blocks_at a f.0) in
      let names : NamedFrom g.value_name t.values (own ++ inner) = subst (λ ns. NamedFrom g.value_name t.values ns) (copy_names-next j a f path) hv in
      let starts : CopyStarts a fs g j f.0 d (length t.blocks + 1) = record {
        within = ok.within;
        blocks = ok.blocks;
        unit = refl;
        nests = nests-named a fs j f ok n;
        labels = hl;
        back = λ y. hb;
      } in
      let m : CopyIs a fs g f.0 d q = copy-is j f.0 d (length t.blocks + 1) (length t.blocks + 1 + unit_room (call_room j a) a f.0) (new_ids (table_at a f.0) (call_args r l.inst) t.values) starts (λ y. refl)
      (length-new_ids (table_at a f.0) (call_args r l.inst) t.values)
      (λ v w y. values-named a o f.0 ok.within g path t.values (call_args r l.inst) v (call_args-long a r l.inst f e (right.args f e)) (named-left g.value_name t.values own inner names) w y
      ∙ ap (λ xs. argument_or (map (arg_text (naming a f.0)) (args_at a f.0)) xs (path ++ value_name_at a f.0 v.0) (value_name_at a f.0 v.0)) (call_args-named a fs g u c r k l.inst
      (line-placed a u i.0 o) right.values)) in
      let s : FlatBuilder = entering a f t in
      let B : FlatBlockText = record {
        label = g.label_name (length t.blocks);
        merge = option_map (merge_text g) t.current.merge;
        lines = map (flat_line_text g) t.current.insts ++ branch_into d
            ∷ [];
      } in
      let entered : read g s.blocks ≡ read g t.blocks ++ B ∷ [] = read-one_more g t.blocks (taken (branch_to (length t.blocks + 1)) t).current
      ∙ ap (λ (xs : List LineText). read g t.blocks ++ record { label = g.label_name (length t.blocks); merge = option_map (merge_text g) t.current.merge; lines = xs } ∷ [])
      (map-append (flat_line_text g) t.current.insts (branch_to (length t.blocks + 1) ∷ [])
      ∙ ap (λ x. map (flat_line_text g) t.current.insts ++ branched x ∷ []) (entry-named j f.0 d (length t.blocks + 1) starts hb)) in
      let long : length s.blocks ≡ length t.blocks + 1 = long-by_text g t.blocks s.blocks (B ∷ []) entered in
      let inside : BlocksRead g copies inner s (blocks_added (call_added j a) a f.0 q (blocks_at a f.0) s) =
      blocks-read a o fs g (call_added j a) (flat_copy j fs) (copy_names j a) (nests_below j fs) (calls-read j) f.0 d q m (blocks_at a f.0) (formed f.0 ok.within ok.blocks) starts.nests s refl
      (moved g.label_name (length t.blocks + 1) (length s.blocks) (labels copies) (sym long) hl)
      (moved g.value_name (t.values + length own) s.values inner (ap (λ x. t.values + x) (length-results (value_name_at a f.0) path 0 (table_at a f.0).lines)) (named-right g.value_name t.values own inner names)) in
      let z : FlatBuilder = blocks_added (call_added j a) a f.0 q (blocks_at a f.0) s in
      subst (λ x. CallReads fs g c d (line_text_of a u i) copies (copy_names (suc j) a f path) t x) (sym (call_added-next j a f r l t)) record {
        blocks = inside.blocks ∙ ap (λ xs. xs ++ copies) entered ∙ append_assoc (read g t.blocks) (B ∷ []) copies;
        merge = merge-named u c d r q f.0 i k m (each-block (λ b. g.label_name (last_in q b).0 ≡ last_piece fs d (block_text (naming a f.0) (table_at a f.0) b)) (blocks_at a f.0) (blocks_at a f.0)
            (λ b w. m.agrees.lasts b w ∙ sym (last-named f.0 d b ok.within ok.blocks refl w)) (λ b w. w));
        insts = ap (λ b. b.insts) inside.current;
        values = inside.values ∙ add_assoc t.values (inst_count a f.0) (length inner)
            ∙ ap (λ x. t.values + (x + length inner)) (sym (length-results (value_name_at a f.0) path 0 (table_at a f.0).lines))
            ∙ ap (λ x. t.values + x) (sym (length-append own inner) ∙ sym (ap length (copy_names-next j a f path)));
      }
