-- Things that are added to the open unit one after another.
use Rattle.std.proofs.Common.{◌≡◌, ◌⊎◌, inl, inr, ℕ, ◌+◌, ◌<◌, List, [], ◌∷◌, length, map, drop, get_or, false, Option, Some, None, slice_get, Result, Ok, Err, IfOk, refl, ap, sym, ◌∙◌, subst, arith}
use Rattle.std.proofs.lemmas.Option.{slice_get-get_or}
use Rattle.lh_types.specs.Types.{TypeTree}
use Rattle.lh_unit.specs.Contents.{UnitText, LineText, ArgText, with_arg, with_line, with_block, defines_value, defines_label}
use Rattle.lh_unit.specs.Table.{HasBlocks, ArgsWithin, ResultWithin, line_at, no_line}
use Rattle.lh_unit.specs.Within.{Each, MaybeWithin}
use Rattle.lh_unit.specs.Naming.{arg_text, maybe_text, inst_text, line_text, label_text}
use Rattle.lh_unit.specs.Arena.{Arena, IsArena, IsOpen, InstPlaced, naming, sizes, table_at, kind_at, args_at, blocks_at, block_insts_at, inst_at, result_at, inst_count, unit_text_at, unit_count, value_count, label_count, value_name_at, label_name_at}
use Rattle.lh_unit.specs.Builders.{HasLabels, HasRoom, line_text_at}
use Rattle.lh_unit.specs.declared.inst.UnitId.{UnitId}
use Rattle.lh_unit.specs.declared.inst.UnitKind.{UnitKind}
use Rattle.lh_unit.specs.declared.inst.UnitKind.TheVariants as kind
use Rattle.lh_unit.specs.declared.inst.ValueId.{ValueId}
use Rattle.lh_unit.specs.declared.inst.BlockId.{BlockId}
use Rattle.lh_unit.specs.declared.inst.InstId.{InstId}
use Rattle.lh_unit.specs.declared.inst.Arg.{Arg}
use Rattle.lh_unit.specs.declared.inst.Inst.{Inst}
use Rattle.std.proofs.lemmas.List.{drop_more}
use Rattle.lh_types.specs.declared.memory.NoMemory.{NoMemory}
use Rattle.lh_unit.proofs.Lists.{drop-item, Each-at}
use Rattle.lh_unit.proofs.ById.{result-within}
use Rattle.lh_unit.proofs.ModuleLaws.{block_insts-within, block-within}
use Rattle.lh_unit.proofs.Tables.{BlocksWithin-at}
use Rattle.lh_unit.proofs.Defined.{label_text-named, blocks-within}
use Rattle.lh_unit.proofs.Texts.{Agree, inst-same, maybe-same}
use Rattle.lh_unit.proofs.Within.{InstWithin-more}
use Rattle.lh_unit.proofs.PlacedIds.{args-item}
use Rattle.lh_lower_copy.specs.Changing.{Becomes, with_args, with_lines, with_labelled, with_blocks}
use Rattle.lh_lower_copy.specs.Fitting.{ArgsFit, LinesFit, LabelFits, BlocksFit}
use Rattle.lh_lower_copy.specs.Named.{SameNames}
use Rattle.lh_lower_copy.specs.Kept.{StandsIn, block_at, TypeFits}
use Rattle.lh_lower_copy.proofs.Opened.{becomes-refl, becomes-trans}

-- These things are still to be added; they fit, and with them the unit is `all`.
pub record Left {X : Type 0} (Fits : UnitText → List X → Type 0) (add : List X → UnitText → UnitText) (old now : Arena) (u : UnitId) (rest : List X) (all : UnitText) : Type 0 where
  pub so_far : Becomes old now u (unit_text_at now u.0)
  pub fit : Fits (unit_text_at now u.0) rest
  pub gives : add rest (unit_text_at now u.0) ≡ all

module _ {X : Type 0} (Fits : UnitText → List X → Type 0) (add : List X → UnitText → UnitText) where
  pub left-start : (a : Arena) (u : UnitId) (xs : List X) → IsOpen a u → Fits (unit_text_at a u.0) xs → Left Fits add a a u xs (add xs (unit_text_at a u.0))
  left-start a u xs p f = record { so_far = becomes-refl a u p; fit = f; gives = refl }

  -- the unit becomes t, to which the others are added
  pub left-next : (old now new : Arena) (u : UnitId) (rest more : List X) (all t : UnitText) → IsOpen old u → Left Fits add old now u rest all → Becomes now new u t
      → (Fits (unit_text_at now u.0) rest → Fits t more) → add rest (unit_text_at now u.0) ≡ add more t
      → Left Fits add old new u more all
  left-next old now new u rest more all t o l b f e = record {
    so_far = subst (Becomes old new u) (sym b.text) (becomes-trans old now new u (unit_text_at now u.0) t o l.so_far b);
    fit = subst (λ s. Fits s more) (sym b.text) (f l.fit);
    gives = ap (add more) b.text ∙ sym e ∙ l.gives;
  }

  pub left-done : (old now : Arena) (u : UnitId) (rest : List X) (all : UnitText) → ((t : UnitText) → add [] t ≡ t) → rest ≡ [] → Left Fits add old now u rest all → Becomes old now u all
  left-done old now u rest all z e l = subst (Becomes old now u) (sym (z (unit_text_at now u.0)) ∙ ap (λ xs. add xs (unit_text_at now u.0)) (sym e) ∙ l.gives) l.so_far

-- ---- names that stay

pub same-becomes : (a b c : Arena) (u : UnitId) (t : UnitText) → SameNames a b u.0 → Becomes b c u t → SameNames a c u.0
same-becomes a b c u t s p = let k = p.entries in record {
  units = record {
    units = omega (arith, k.units, p.no_more.more_units, s.units.units);
    names = λ w h. k.unit_names w (omega (arith, h, s.units.units)) ∙ s.units.names w h;
  };
  values = record {
    count = omega (arith, k.values u.0, p.no_more.more_values u.0, s.values.count);
    names = λ v h. k.value_names u.0 v (omega (arith, h, s.values.count)) ∙ s.values.names v h;
  };
  labels = record {
    count = omega (arith, k.labels u.0, p.no_more.more_labels u.0, s.labels.count);
    names = λ v h. k.label_names u.0 v (omega (arith, h, s.labels.count)) ∙ s.labels.names v h;
  };
}

-- what holds by the names of a unit
module _ (a b : Arena) (u : ℕ) (s : SameNames a b u) where
  pub agree : Agree (sizes a u) (naming b u) (naming a u)
  agree = record { units = s.units.names; values = s.values.names; labels = s.labels.names }

  pub maybe-within : (v : Option ValueId) → ResultWithin (value_count a u) v → MaybeWithin (sizes a u) v
  maybe-within None h = tt
  maybe-within (Some v) h = h

  pub result-placed : (v : Option ValueId) → ResultWithin (value_count a u) v → MaybeWithin (sizes b u) v
  result-placed None h = tt
  result-placed (Some v) h = omega (arith, h, s.values.count)

  pub inst-placed : (i : Inst) → InstPlaced a u i → InstPlaced b u i
  inst-placed i h = InstWithin-more (sizes a u) (sizes b u) i (omega (arith, s.units.units)) (omega (arith, s.values.count)) (omega (arith, s.labels.count)) h

  pub line-is : (v : Option ValueId) (i j : Inst) → ResultWithin (value_count a u) v → InstPlaced a u i → j ≡ i → line_text_at b u v j ≡ line_text (naming a u) (record { result = v; inst = i })
  line-is v i j h p e =
      let r : maybe_text (naming b u) v ≡ maybe_text (naming a u) v = maybe-same (sizes a u) (naming b u) (naming a u) agree v (maybe-within v h) in
      let n : inst_text (naming b u) j ≡ inst_text (naming a u) i = ap (inst_text (naming b u)) e ∙ inst-same (sizes a u) (naming b u) (naming a u) agree i p in
      λ k. record { result = r k; inst = n k }

  pub arg-is : (x : Arg) (ty : TypeTree) → x.value.0 < value_count a u → ty ≡ x.ty → arg_text (naming b u) (record { value = x.value; ty = ty; output = x.output }) ≡ arg_text (naming a u) x
  arg-is x ty h e = let n = s.values.names x.value.0 h in λ k. record { name = n k; ty = e k; output = x.output }

-- ---- arguments

-- these arguments of a unit are still to be added
abbrev pub ArgsLeft : (a old now : Arena) → UnitId → List Arg → Type 0
ArgsLeft a old now u xs = SameNames a now u.0 × Left ArgsFit with_args old now u (map (arg_text (naming a u.0)) xs) (with_args (unit_text_at a u.0).args (unit_text_at old u.0))

pub args-start : (a old : Arena) (u : UnitId) (xs : List Arg) → xs ≡ args_at a u.0 → SameNames a old u.0 → IsOpen old u → ArgsFit (unit_text_at old u.0) (unit_text_at a u.0).args
    → ArgsLeft a old old u xs
args-start a old u xs e s o f = (
  s,
  subst (λ ys. Left ArgsFit with_args old old u (map (arg_text (naming a u.0)) ys) (with_args (unit_text_at a u.0).args (unit_text_at old u.0))) (sym e)
      (left-start ArgsFit with_args old u (unit_text_at a u.0).args o f),
)

pub arg-placed : (a old now : Arena) (u : UnitId) (xs rest : List Arg) (i : ℕ) (x : Arg) → IsArena a → u.0 < unit_count a → xs ≡ args_at a u.0 → ArgsLeft a old now u rest → i < length xs
    → x ≡ get_or xs i x → x.value.0 < value_count now u.0
arg-placed a old now u xs rest i x o h e l w q =
    let p : x.value.0 < value_count a u.0 = args-item (value_count a u.0) xs i x (subst (ArgsWithin (value_count a u.0)) (sym e) (o.tables u.0 h).args_within) w q in
    omega (arith, p, l.0.values.count)

module _ (a old now : Arena) (u : UnitId) (xs : List Arg) (i : ℕ) (x : Arg) (o : IsArena a) (h : u.0 < unit_count a) (e : xs ≡ args_at a u.0) (l : ArgsLeft a old now u (drop i xs)) (w : i < length xs)
    (q : x ≡ get_or xs i x) where
  args_now : Left ArgsFit with_args old now u (arg_text (naming a u.0) x ∷ map (arg_text (naming a u.0)) (drop (i + 1) xs)) (with_args (unit_text_at a u.0).args (unit_text_at old u.0))
  args_now = subst (λ ys. Left ArgsFit with_args old now u (map (arg_text (naming a u.0)) ys) (with_args (unit_text_at a u.0).args (unit_text_at old u.0))) (drop-item xs i x w q) l.1

  there : x.value.0 < value_count a u.0
  there = args-item (value_count a u.0) xs i x (subst (ArgsWithin (value_count a u.0)) (sym e) (o.tables u.0 h).args_within) w q

  pub arg-new : defines_value (value_name_at now u.0 x.value.0) (unit_text_at now u.0) ≡ false
  arg-new = ap (λ n. defines_value n (unit_text_at now u.0)) (l.0.values.names x.value.0 there) ∙ args_now.fit.0

  pub args-next : (new : Arena) (ty : TypeTree) → IsOpen old u → ty ≡ x.ty
      → Becomes now new u (with_arg (arg_text (naming now u.0) (record { value = x.value; ty = ty; output = x.output })) (unit_text_at now u.0)) → ArgsLeft a old new u (drop (i + 1) xs)
  args-next new ty p r b =
      let y : ArgText = arg_text (naming a u.0) x in
      let t = with_arg y (unit_text_at now u.0) in
      let c : Becomes now new u t = subst (λ z. Becomes now new u (with_arg z (unit_text_at now u.0))) (arg-is a now u.0 l.0 x ty there r) b in (
        same-becomes a now new u t l.0 c,
        left-next ArgsFit with_args old now new u (y ∷ map (arg_text (naming a u.0)) (drop (i + 1) xs)) (map (arg_text (naming a u.0)) (drop (i + 1) xs))
            (with_args (unit_text_at a u.0).args (unit_text_at old u.0)) t p args_now c (λ g. g.1) refl,
      )

pub args-done : (a old now : Arena) (u : UnitId) (rest : List Arg) → rest ≡ [] → ArgsLeft a old now u rest → Becomes old now u (with_args (unit_text_at a u.0).args (unit_text_at old u.0))
args-done a old now u rest e l = left-done ArgsFit with_args old now u (map (arg_text (naming a u.0)) rest) (with_args (unit_text_at a u.0).args (unit_text_at old u.0)) (λ t. refl)
    (ap (map (arg_text (naming a u.0))) e) l.1

-- ---- instructions

-- the line of an instruction
abbrev pub line_of : Arena → ℕ → InstId → LineText
line_of a u i = line_text (naming a u) (line_at (table_at a u) i.0)

-- these instructions of a block are still to be added
abbrev pub LinesLeft : (a old now : Arena) → UnitId → BlockId → List InstId → Type 0
LinesLeft a old now u b is = SameNames a now u.0 × Left LinesFit with_lines old now u (map (line_of a u.0) is) (with_lines (block_at a u.0 b).lines (unit_text_at old u.0))

pub lines-start : (a old : Arena) (u : UnitId) (b : BlockId) (is : List InstId) → is ≡ block_insts_at a u.0 b.0 → SameNames a old u.0 → IsOpen old u
    → LinesFit (unit_text_at old u.0) (block_at a u.0 b).lines → LinesLeft a old old u b is
lines-start a old u b is e s o f = (
  s,
  subst (λ ys. Left LinesFit with_lines old old u (map (line_of a u.0) ys) (with_lines (block_at a u.0 b).lines (unit_text_at old u.0))) (sym e)
      (left-start LinesFit with_lines old u (block_at a u.0 b).lines o f),
)

-- an instruction of the block has an entry
pub inst-there : (a : Arena) (u : ℕ) (b : BlockId) (is : List InstId) (i : ℕ) (d : InstId) → IsArena a → u < unit_count a → StandsIn a u b → is ≡ block_insts_at a u b.0 → i < length is
    → (get_or is i d).0 < inst_count a u
inst-there a u b is i d o h s e w = Each-at (λ (x : InstId). x.0 < inst_count a u) is i d (subst (Each (λ (x : InstId). x.0 < inst_count a u)) (sym e) (block_insts-within a u s.place b o h s.is)) w

-- what is asked of an instruction that is added
pub record LineNew (now : Arena) (u : ℕ) (v : Option ValueId) (i : Inst) (l : LineText) : Type 0 where
  pub begun : 0 < length (unit_text_at now u).blocks
  pub within : MaybeWithin (sizes now u) v
  pub placed : InstPlaced now u i
  pub line : line_text_at now u v i ≡ l
  pub room : HasRoom (line_text_at now u v i) (unit_text_at now u)

module _ (a old now : Arena) (u : UnitId) (b : BlockId) (is : List InstId) (i : ℕ) (d : InstId) (o : IsArena a) (h : u.0 < unit_count a) (s : StandsIn a u.0 b) (e : is ≡ block_insts_at a u.0 b.0)
    (l : LinesLeft a old now u b (drop i is)) (w : i < length is) where
  lines_now : Left LinesFit with_lines old now u (line_of a u.0 (get_or is i d) ∷ map (line_of a u.0) (drop (i + 1) is)) (with_lines (block_at a u.0 b).lines (unit_text_at old u.0))
  lines_now = subst (λ ys. Left LinesFit with_lines old now u (map (line_of a u.0) ys) (with_lines (block_at a u.0 b).lines (unit_text_at old u.0))) (drop_more is i d w) l.1

  pub line-new : (v : Option ValueId) (j : Inst) → v ≡ result_at a u.0 (get_or is i d).0 → j ≡ inst_at a u.0 (get_or is i d).0 → LineNew now u.0 v j (line_of a u.0 (get_or is i d))
  line-new v j p q =
      let r = result_at a u.0 (get_or is i d).0 in
      let k = inst_at a u.0 (get_or is i d).0 in
      let within : ResultWithin (value_count a u.0) r = result-within a u.0 o h (get_or is i d).0 in
      let g : (get_or is i d).0 < inst_count a u.0 = inst-there a u.0 b is i d o h s e w in
      let placed : InstPlaced a u.0 k = o.placed u.0 (get_or is i d).0 (line_at (table_at a u.0) (get_or is i d).0) (slice_get-get_or (table_at a u.0).lines (get_or is i d).0 no_line g) in
      let line : line_text_at now u.0 v j ≡ line_of a u.0 (get_or is i d) = ap (λ z. line_text_at now u.0 z j) p ∙ line-is a now u.0 l.0 r k j within placed q in
      record {
        begun = lines_now.fit.0;
        within = subst (MaybeWithin (sizes now u.0)) (sym p) (result-placed a now u.0 l.0 r within);
        placed = subst (InstPlaced now u.0) (sym q) (inst-placed a now u.0 l.0 k placed);
        line = line;
        room = subst (λ z. HasRoom z (unit_text_at now u.0)) (sym line) lines_now.fit.1;
      }

  pub lines-next : (new : Arena) (v : Option ValueId) (j : Inst) → IsOpen old u → v ≡ result_at a u.0 (get_or is i d).0 → j ≡ inst_at a u.0 (get_or is i d).0
      → Becomes now new u (with_line (line_text_at now u.0 v j) (unit_text_at now u.0)) → LinesLeft a old new u b (drop (i + 1) is)
  lines-next new v j p q r c =
      let y = line_of a u.0 (get_or is i d) in
      let t = with_line y (unit_text_at now u.0) in
      let m : Becomes now new u t = subst (λ z. Becomes now new u (with_line z (unit_text_at now u.0))) (line-new v j q r).line c in (
        same-becomes a now new u t l.0 m,
        left-next LinesFit with_lines old now new u (y ∷ map (line_of a u.0) (drop (i + 1) is)) (map (line_of a u.0) (drop (i + 1) is)) (with_lines (block_at a u.0 b).lines (unit_text_at old u.0)) t p
            lines_now m (λ g. g.2) refl,
      )

pub lines-done : (a old now : Arena) (u : UnitId) (b : BlockId) (rest : List InstId) → rest ≡ [] → LinesLeft a old now u b rest
    → Becomes old now u (with_lines (block_at a u.0 b).lines (unit_text_at old u.0))
lines-done a old now u b rest e l = left-done LinesFit with_lines old now u (map (line_of a u.0) rest) (with_lines (block_at a u.0 b).lines (unit_text_at old u.0)) (λ t. refl)
    (ap (map (line_of a u.0)) e) l.1

-- ---- blocks

-- an entity's block has no label
pub unlabelled : (a m : Arena) (u : UnitId) (b : BlockId) (k : UnitKind) → kind_at a u.0 ≡ Some k → k ≡ kind.Entity → IsOpen m u
    → Becomes m m u (with_labelled (block_at a u.0 b).label (unit_text_at m u.0))
unlabelled a m u b k e f o =
    let l : (block_at a u.0 b).label ≡ None = ap (λ q. label_text (naming a u.0) q b) (e ∙ ap Some f) in
    subst (λ q. Becomes m m u (with_labelled q (unit_text_at m u.0))) (sym l) (becomes-refl m u o)

-- the label of a block of a function or a process
pub labelled : (a : Arena) (u : ℕ) (b : BlockId) → HasBlocks (kind_at a u) → (block_at a u b).label ≡ Some (label_name_at a u b.0)
labelled a u b h = label_text-named (naming a u) (kind_at a u) b h

pub has-blocks : (a : Arena) (u : ℕ) (k : UnitKind) → kind_at a u ≡ Some k → (k ≡ kind.Func) ⊎ (k ≡ kind.Proc) → HasBlocks (kind_at a u)
has-blocks a u k e h = elim h [ inl f ↦ subst HasBlocks (sym (e ∙ ap Some f)) tt | inr f ↦ subst HasBlocks (sym (e ∙ ap Some f)) tt ]

-- what is asked of a label that is added
pub record LabelNew (a m : Arena) (u : ℕ) (b : BlockId) : Type 0 where
  pub labels : HasLabels (unit_text_at m u).kind
  pub within : b.0 < label_count m u
  pub undefined : defines_label (label_name_at m u b.0) (unit_text_at m u) ≡ false
  pub gives : with_block (label_name_at m u b.0) (unit_text_at m u) ≡ with_labelled (block_at a u b).label (unit_text_at m u)

pub label-new : (a m : Arena) (u : ℕ) (b : BlockId) → IsArena a → u < unit_count a → HasBlocks (kind_at a u) → SameNames a m u → StandsIn a u b → LabelFits (unit_text_at m u) (block_at a u b).label
    → LabelNew a m u b
label-new a m u b o h k s w f =
    let n = label_name_at a u b.0 in
    let g : LabelFits (unit_text_at m u) (Some n) = subst (LabelFits (unit_text_at m u)) (labelled a u b k) f in
    let t = o.tables u h in
    let i : b.0 < label_count a u = BlocksWithin-at (label_count a u) (blocks_at a u) w.place b w.is (blocks-within (kind_at a u) (table_at a u) k t.fits_kind) in
    let e : label_name_at m u b.0 ≡ n = s.labels.names b.0 i in
    record {
      labels = g.0;
      within = omega (arith, i, s.labels.count);
      undefined = ap (λ q. defines_label q (unit_text_at m u)) e ∙ g.1;
      gives = ap (λ q. with_block q (unit_text_at m u)) e ∙ ap (λ q. with_labelled q (unit_text_at m u)) (sym (labelled a u b k));
    }

-- these blocks of a unit are still to be added
abbrev pub BlocksLeft : (a old now : Arena) → UnitId → List BlockId → Type 0
BlocksLeft a old now u bs = SameNames a now u.0 × Left BlocksFit with_blocks old now u (map (block_at a u.0) bs) (with_blocks (unit_text_at a u.0).blocks (unit_text_at old u.0))

pub blocks-start : (a old : Arena) (u : UnitId) (bs : List BlockId) → bs ≡ blocks_at a u.0 → SameNames a old u.0 → IsOpen old u → BlocksFit (unit_text_at old u.0) (unit_text_at a u.0).blocks
    → BlocksLeft a old old u bs
blocks-start a old u bs e s o f = (
  s,
  subst (λ ys. Left BlocksFit with_blocks old old u (map (block_at a u.0) ys) (with_blocks (unit_text_at a u.0).blocks (unit_text_at old u.0))) (sym e)
      (left-start BlocksFit with_blocks old u (unit_text_at a u.0).blocks o f),
)

module _ (a old now : Arena) (u : UnitId) (bs : List BlockId) (i : ℕ) (d : BlockId) (o : IsArena a) (h : u.0 < unit_count a) (e : bs ≡ blocks_at a u.0) (l : BlocksLeft a old now u (drop i bs))
    (w : i < length bs) where
  pub block-stands : StandsIn a u.0 (get_or bs i d)
  block-stands =
      let g : slice_get (blocks_at a u.0) i ≡ Some (get_or bs i d) = ap (λ z. slice_get z i) (sym e) ∙ slice_get-get_or bs i d w in
      record { place = i; is = g; within = block-within a u.0 i (get_or bs i d) o h g }

  pub block-next : Left BlocksFit with_blocks old now u (block_at a u.0 (get_or bs i d) ∷ map (block_at a u.0) (drop (i + 1) bs)) (with_blocks (unit_text_at a u.0).blocks (unit_text_at old u.0))
  block-next = subst (λ ys. Left BlocksFit with_blocks old now u (map (block_at a u.0) ys) (with_blocks (unit_text_at a u.0).blocks (unit_text_at old u.0))) (drop_more bs i d w) l.1

  pub blocks-next : (new : Arena) → IsOpen old u → Becomes now new u (with_lines (block_at a u.0 (get_or bs i d)).lines (with_labelled (block_at a u.0 (get_or bs i d)).label (unit_text_at now u.0)))
      → BlocksLeft a old new u (drop (i + 1) bs)
  blocks-next new p c =
      let y = block_at a u.0 (get_or bs i d) in
      let t = with_lines y.lines (with_labelled y.label (unit_text_at now u.0)) in (
        same-becomes a now new u t l.0 c,
        left-next BlocksFit with_blocks old now new u (y ∷ map (block_at a u.0) (drop (i + 1) bs)) (map (block_at a u.0) (drop (i + 1) bs))
            (with_blocks (unit_text_at a u.0).blocks (unit_text_at old u.0)) t p block-next c (λ g. g.2) refl,
      )

pub blocks-done : (a old now : Arena) (u : UnitId) (rest : List BlockId) → rest ≡ [] → BlocksLeft a old now u rest → Becomes old now u (with_blocks (unit_text_at a u.0).blocks (unit_text_at old u.0))
blocks-done a old now u rest e l = left-done BlocksFit with_blocks old now u (map (block_at a u.0) rest) (with_blocks (unit_text_at a u.0).blocks (unit_text_at old u.0)) (λ t. refl)
    (ap (map (block_at a u.0)) e) l.1

-- ---- one change after another

pub then-becomes : (r : Result (Unit {0}) NoMemory) (a b c : Arena) (u : UnitId) (s : UnitText) (f : UnitText → UnitText) → IsOpen a u → Becomes a b u s
    → IfOk r (λ x. Becomes b c u (f (unit_text_at b u.0))) → IfOk r (λ x. Becomes a c u (f s))
then-becomes (Ok x) a b c u s f o p q = subst (λ t. Becomes a c u (f t)) p.text (becomes-trans a b c u s (f (unit_text_at b u.0)) o p q)
then-becomes (Err e) a b c u s f o p q = tt

-- only a function has a result type
pub type-fits : (t : UnitText) (r : Option TypeTree) (ty : TypeTree) → r ≡ Some ty → TypeFits t r → t.kind ≡ kind.Func
type-fits t r ty e f = subst (TypeFits t) e f
