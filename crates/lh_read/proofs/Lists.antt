-- Parts of an instruction that are given ids one after another.
use Rattle.std.proofs.Common.{◌≡◌, ℕ, ◌+◌, ◌<◌, List, [], ◌∷◌, ◌++◌, length, map, take, get_or, Option, Result, Ok, Err, IfOk, refl, ap, sym, ◌∙◌, subst, append_assoc, append-nil, flat_map, arith, add-one}
use Rattle.std.proofs.Math.Seq.{take-suc}
use Rattle.std.proofs.lemmas.List.{map-append}
use Rattle.lh_unit.specs.Naming.{Naming, value_text, maybe_text, operand_text, trigger_text, edge_text}
use Rattle.lh_unit.specs.Within.{Sizes, Each, ValueWithin, MaybeWithin, OperandWithin, TriggerWithin, EdgeWithin}
use Rattle.lh_unit.specs.Arena.{Arena, KeepsEntries, Grows, naming, sizes, value_count, value_name_at}
use Rattle.lh_unit.specs.Contents.{OperandText, TriggerText, st_text, drv_text, reg_text, child_text, call_text, branch_text, wait_text}
use Rattle.lh_unit.specs.Builders.{FindsUnit, FindsValue, FindsLabel}
use Rattle.lh_unit_names.specs.declared.name.UnitName.{UnitName}
use Rattle.lh_types.specs.Types.{TypeTree}
use Rattle.lh_types.specs.declared.memory.NoMemory.{NoMemory}
use Rattle.lh_unit.specs.declared.inst.UnitId.{UnitId}
use Rattle.lh_unit.specs.declared.inst.BlockId.{BlockId}
use Rattle.lh_unit.specs.declared.inst.ValueId.{ValueId}
use Rattle.lh_unit.specs.declared.inst.Mode.{Mode}
use Rattle.lh_unit.specs.declared.inst.RegTrigger.{RegTrigger}
use Rattle.lh_unit.specs.declared.inst.Typed.{Typed}
use Rattle.lh_unit.specs.declared.inst.Inst.TheVariants as inst
use Rattle.lh_unit.proofs.ModuleLaws.{KeepsEntries-trans, Grows-refl, Grows-trans, Each-push, ValueWithin-keeps, MaybeWithin-keeps, OperandWithin-keeps, TriggerWithin-keeps, EdgeWithin-keeps, value_text-keeps, maybe_text-keeps, operand_text-keeps, trigger_text-keeps, edge_text-keeps}
use Rattle.lh_read_phrases.specs.declared.syntax.Operand.{Operand}
use Rattle.lh_read_phrases.specs.SyntaxOf.{operand_of, operands_of}
use Rattle.lh_read.specs.Placing.{LabelWithin, label_said, Placed, LabelPlaced, ValuePlaced, MaybePlaced, OperandPlaced, TriggerPlaced, EdgePlaced, AllPlaced, OperandsPlaced, TriggersPlaced, SignalsPlaced, InstPlacedAs}
use Rattle.lh_read.specs.Mentions.{Mention, names_unit, one_value, one_label, maybe_value, operand_mentions, operands_mention, trigger_mentions, EntersOnly}
use Rattle.lh_read.proofs.EntryLaws.{flat_map-push, enters-none, enters-both, enters-unit, enters-value, enters-label}
use Rattle.lh_unit.proofs.Within.{Each-more}

-- what is in place stays in place and says the same as entries are added
pub record Keeps {X T : Type 0} (W : Sizes → X → Type 0) (text : Naming → X → T) : Type 0 where
  pub within : (a b : Arena) (u : ℕ) (k : KeepsEntries a b) (x : X) → W (sizes a u) x → W (sizes b u) x
  pub says : (a b : Arena) (u : ℕ) (k : KeepsEntries a b) (x : X) → W (sizes a u) x → text (naming b u) x ≡ text (naming a u) x

pub values-keep : Keeps ValueWithin value_text
values-keep = record { within = ValueWithin-keeps; says = value_text-keeps }

maybes-keep : Keeps MaybeWithin maybe_text
maybes-keep = record { within = MaybeWithin-keeps; says = maybe_text-keeps }

labels-keep : Keeps LabelWithin label_said
labels-keep = record { within = λ a b u k x h. omega (arith, h, k.labels u); says = λ a b u k x h. k.label_names u x.0 h }

pub operands-keep : Keeps OperandWithin operand_text
operands-keep = record { within = OperandWithin-keeps; says = operand_text-keeps }

pub triggers-keep : Keeps TriggerWithin trigger_text
triggers-keep = record { within = TriggerWithin-keeps; says = trigger_text-keeps }

pub edges-keep : Keeps EdgeWithin edge_text
edges-keep = record { within = EdgeWithin-keeps; says = edge_text-keeps }

-- the list up to the next item
pub next_item : {Y : Type 0} (ys : List Y) (i : ℕ) (y : Y) → i < length ys → y ≡ get_or ys i y → take (i + 1) ys ≡ take i ys ++ y ∷ []
next_item ys i y h e = ap (λ n. take n ys) (add-one i) ∙ take-suc ys i y h ∙ ap (λ z. take i ys ++ z ∷ []) (sym e)

pub next_said : {T Y : Type 0} (said : Y → T) (ys : List Y) (i : ℕ) (y : Y) → i < length ys → y ≡ get_or ys i y → map said (take (i + 1) ys) ≡ map said (take i ys) ++ said y ∷ []
next_said said ys i y h e = ap (map said) (next_item ys i y h e) ∙ map-append said (take i ys) (y ∷ [])

-- a part is in place and says what was said, whatever else is entered
pub record Stands {X T : Type 0} (W : Sizes → X → Type 0) (text : Naming → X → T) (old new : Arena) (u : UnitId) (x : X) (said : T) : Type 0 where
  pub grows : Grows old new
  pub within : W (sizes new u.0) x
  pub says : text (naming new u.0) x ≡ said

module _ {X T : Type 0} {W : Sizes → X → Type 0} {text : Naming → X → T} (keeps : Keeps W text) where
  still : (a b : Arena) (u : ℕ) (xs : List X) → KeepsEntries a b → Each (W (sizes a u)) xs → map (text (naming b u)) xs ≡ map (text (naming a u)) xs
  still a b u [] k h = refl
  still a b u (x ∷ xs) k h = λ i. keeps.says a b u k x h.0 i ∷ still a b u xs k h.1 i

module _ {X T : Type 0} {W : Sizes → X → Type 0} {text : Naming → X → T} {names : T → List Mention} (keeps : Keeps W text) where
  -- a part that is in place, once there are more entries
  later : (a b c : Arena) (u : UnitId) (x : X) (t : T) → Placed W text names a b u x t → Grows b c → Stands W text a c u x t
  later a b c u x t p g = record {
    grows = Grows-trans a b c p.grows g;
    within = keeps.within b c u.0 g.entries x p.within;
    says = keeps.says b c u.0 g.entries x p.within ∙ p.says;
  }

  -- one part more
  pub next-placed : (a b c : Arena) (u : UnitId) (xs zs : List X) (x : X) (ts us : List T) (t : T) → AllPlaced W text names a b u xs ts → Placed W text names b c u x t → zs ≡ xs ++ x ∷ []
      → us ≡ ts ++ t ∷ [] → AllPlaced W text names a c u zs us
  next-placed a b c u xs zs x ts us t p q z e =
      let k = q.grows.entries in
      record {
        grows = Grows-trans a b c p.grows q.grows;
        within = subst (Each (W (sizes c u.0))) (sym z) (Each-push (W (sizes c u.0)) xs x (Each-more (W (sizes b u.0)) (W (sizes c u.0)) xs (keeps.within b c u.0 k) p.within) q.within);
        says = ap (map (text (naming c u.0))) z ∙ map-append (text (naming c u.0)) xs (x ∷ [])
            ∙ (λ j. (still keeps b c u.0 xs k p.within ∙ p.says) j ++ q.says j ∷ []) ∙ sym e;
        only = subst (λ ms. EntersOnly ms a c u.0) (sym (ap (flat_map names) e ∙ flat_map-push names ts t)) (enters-both (flat_map names ts) (names t) a b c u.0 p.only q.only k);
      }

  -- one part more, of those that are left
  pub next-taken : {Y : Type 0} (said : Y → T) (a b c : Arena) (u : UnitId) (xs zs : List X) (x : X) (y : Y) (ys rest from : List Y)
      → ((ts : List T) × AllPlaced W text names a b u xs ts × (ts ++ map said ys ≡ map said from)) → ys ≡ y ∷ rest → Placed W text names b c u x (said y) → zs ≡ xs ++ x ∷ []
      → ((ts : List T) × AllPlaced W text names a c u zs ts × (ts ++ map said rest ≡ map said from))
  next-taken said a b c u xs zs x y ys rest from p f q z = (
    p.0 ++ said y ∷ [],
    next-placed a b c u xs zs x p.0 _ (said y) p.1 q z refl,
    append_assoc p.0 (said y ∷ []) (map said rest) ∙ ap (λ l. p.0 ++ map said l) (sym f) ∙ p.2,
  )

  -- two parts, of which the second is placed after the first
  pub two-placed : (a b c : Arena) (u : UnitId) (x y : X) (s t : T) → Placed W text names a b u x s → Placed W text names b c u y t → AllPlaced W text names a c u (x ∷ y ∷ []) (s ∷ t ∷ [])
  two-placed a b c u x y s t p q =
      let o = later a b c u x s p q.grows in
      record {
        grows = o.grows;
        within = (o.within, (q.within, tt));
        says = λ i. o.says i ∷ q.says i ∷ [];
        only = subst (λ ms. EntersOnly (names s ++ ms) a c u.0) (sym (append-nil (names t))) (enters-both (names s) (names t) a b c u.0 p.only q.only q.grows.entries);
      }

-- a list of two is its first and its second
pub pair : {X : Type 0} (xs : List X) (x y : X) → length xs ≡ 2 → xs ≡ get_or xs 0 x ∷ get_or xs 1 y ∷ []
pair [] x y n = absurd (omega (arith, n))
pair (a ∷ []) x y n = absurd (omega (arith, n))
pair (a ∷ b ∷ []) x y n = refl
pair (a ∷ b ∷ c ∷ cs) x y n = absurd (omega (arith, n))

-- two operands, of which the second is read after the first
pub two-read : (a b c : Arena) (u : UnitId) (x y : Typed) (list : List Typed) (from : List Operand) (f g : Operand) → OperandPlaced a b u x (operand_of f) → OperandPlaced b c u y (operand_of g)
    → list ≡ x ∷ y ∷ [] → from ≡ f ∷ g ∷ [] → OperandsPlaced a c u list (operands_of from)
two-read a b c u x y list from f g p q e h =
    let both = two-placed operands-keep a b c u x y (operand_of f) (operand_of g) p q in
    subst (λ (l : List Typed). OperandsPlaced a c u l (operands_of from)) (sym e) (subst (λ (os : List Operand). OperandsPlaced a c u (x ∷ y ∷ []) (operands_of os)) (sym h) both)

-- an `inst`, whose unit is found before its operands
pub child-placed : (a b c d : Arena) (u f : UnitId) (ins outs : List Typed) (n : UnitName) (ss rs : List OperandText) → FindsUnit (Ok f) a b n → OperandsPlaced b c u ins ss
    → OperandsPlaced c d u outs rs
    → InstPlacedAs a d u (inst.Child f ins outs) (child_text n ss rs)
child-placed a b c d u f ins outs n ss rs p q r =
    let k = KeepsEntries-trans b c d q.grows.entries r.grows.entries in
    record {
      grows = Grows-trans a b d p.0.grows (Grows-trans b c d q.grows r.grows);
      within = (
        omega (arith, p.1, k.units),
        Each-more (OperandWithin (sizes c u.0)) (OperandWithin (sizes d u.0)) ins (operands-keep.within c d u.0 r.grows.entries) q.within,
        r.within,
      );
      says = λ i. child_text ((k.unit_names f.0 p.1 ∙ p.2) i) ((still operands-keep c d u.0 ins r.grows.entries q.within ∙ q.says) i) (r.says i);
      only = enters-both (names_unit n ∷ []) (operands_mention ss ++ operands_mention rs) a b d u.0 (enters-unit a b f u.0 n p)
          (enters-both (operands_mention ss) (operands_mention rs) b c d u.0 q.only r.only r.grows.entries) k;
    }

-- a `call`, whose unit is found before its operands
pub call-placed : (a b c : Arena) (u f : UnitId) (ty : TypeTree) (args : List Typed) (n : UnitName) (ss : List OperandText) → FindsUnit (Ok f) a b n → OperandsPlaced b c u args ss
    → InstPlacedAs a c u (inst.Call f ty args) (call_text n ty ss)
call-placed a b c u f ty args n ss p q =
    let k = q.grows.entries in
    record {
      grows = Grows-trans a b c p.0.grows q.grows;
      within = (omega (arith, p.1, k.units), q.within);
      says = λ i. call_text ((k.unit_names f.0 p.1 ∙ p.2) i) ty (q.says i);
      only = enters-both (names_unit n ∷ []) (operands_mention ss) a b c u.0 (enters-unit a b f u.0 n p) q.only k;
    }

-- the other parts and instructions of more than one part
pub st-placed : (a b c : Arena) (u : UnitId) (to : Typed) (v : ValueId) (x : OperandText) (y : List ℕ) → OperandPlaced a b u to x → ValuePlaced b c u v y
    → InstPlacedAs a c u (inst.St to v) (st_text x y)
st-placed a b c u to v x y p q =
    let o = later operands-keep a b c u to x p q.grows in
    record {
      grows = o.grows;
      within = (o.within, q.within);
      says = λ i. st_text (o.says i) (q.says i);
      only = enters-both (operand_mentions x) (one_value y) a b c u.0 p.only q.only q.grows.entries;
    }

pub drv-placed : (a b c d e : Arena) (u : UnitId) (to : Typed) (v after : ValueId) (cond : Option ValueId) (x : OperandText) (y z : List ℕ) (w : Option (List ℕ)) → OperandPlaced a b u to x
    → ValuePlaced b c u v y → ValuePlaced c d u after z → MaybePlaced d e u cond w → InstPlacedAs a e u (inst.Drv to v after cond) (drv_text x y z w)
drv-placed a b c d e u to v after cond x y z w p q r s =
    let g = Grows-trans c d e r.grows s.grows in
    let o = later operands-keep a b e u to x p (Grows-trans b c e q.grows g) in
    let m = later values-keep b c e u v y q g in
    let n = later values-keep c d e u after z r s.grows in
    record {
      grows = o.grows;
      within = (o.within, m.within, n.within, s.within);
      says = λ i. drv_text (o.says i) (m.says i) (n.says i) (s.says i);
      only = enters-both (operand_mentions x) (one_value y ++ one_value z ++ maybe_value w) a b e u.0 p.only
          (enters-both (one_value y) (one_value z ++ maybe_value w) b c e u.0 q.only (enters-both (one_value z) (maybe_value w) c d e u.0 r.only s.only s.grows.entries) g.entries)
          (Grows-trans b c e q.grows g).entries;
    }

pub reg-placed : (a b c : Arena) (u : UnitId) (to : Typed) (by : List RegTrigger) (x : OperandText) (ys : List TriggerText) → OperandPlaced a b u to x → TriggersPlaced b c u by ys
    → InstPlacedAs a c u (inst.Reg to by) (reg_text x ys)
reg-placed a b c u to by x ys p q =
    let o = later operands-keep a b c u to x p q.grows in
    record {
      grows = o.grows;
      within = (o.within, q.within);
      says = λ i. reg_text (o.says i) (q.says i);
      only = enters-both (operand_mentions x) (flat_map trigger_mentions ys) a b c u.0 p.only q.only q.grows.entries;
    }

pub branch-placed : (a b c d : Arena) (u : UnitId) (cond : ValueId) (zero one : BlockId) (x y z : List ℕ) → ValuePlaced a b u cond x → LabelPlaced b c u zero y → LabelPlaced c d u one z
    → InstPlacedAs a d u (inst.Branch cond zero one) (branch_text x y z)
branch-placed a b c d u cond zero one x y z p q r =
    let o = later values-keep a b d u cond x p (Grows-trans b c d q.grows r.grows) in
    let m = later labels-keep b c d u zero y q r.grows in
    record {
      grows = o.grows;
      within = (o.within, m.within, r.within);
      says = λ i. branch_text (o.says i) (m.says i) (r.says i);
      only = enters-both (one_value x) (one_label y ++ one_label z) a b d u.0 p.only (enters-both (one_label y) (one_label z) b c d u.0 q.only r.only r.grows.entries)
          (Grows-trans b c d q.grows r.grows).entries;
    }

pub wait-placed : (a b c d : Arena) (u : UnitId) (to : BlockId) (after : Option ValueId) (signals : List ValueId) (x : List ℕ) (y : Option (List ℕ)) (zs : List (List ℕ)) → LabelPlaced a b u to x
    → MaybePlaced b c u after y → SignalsPlaced c d u signals zs → InstPlacedAs a d u (inst.Wait to after signals) (wait_text x y zs)
wait-placed a b c d u to after signals x y zs p q r =
    let o = later labels-keep a b d u to x p (Grows-trans b c d q.grows r.grows) in
    let m = later maybes-keep b c d u after y q r.grows in
    record {
      grows = o.grows;
      within = (o.within, m.within, r.within);
      says = λ i. wait_text (o.says i) (m.says i) (r.says i);
      only = enters-both (one_label x) (maybe_value y ++ flat_map one_value zs) a b d u.0 p.only
          (enters-both (maybe_value y) (flat_map one_value zs) b c d u.0 q.only r.only r.grows.entries) (Grows-trans b c d q.grows r.grows).entries;
    }

pub edge-placed : (a b c : Arena) (u : UnitId) (v : ValueId) (block : BlockId) (x y : List ℕ) → ValuePlaced a b u v x → LabelPlaced b c u block y
    → EdgePlaced a c u (record { value = v; block = block }) (record { value = x; block = y })
edge-placed a b c u v block x y p q =
    let o = later values-keep a b c u v x p q.grows in
    record {
      grows = o.grows;
      within = (o.within, q.within);
      says = λ i. record { value = o.says i; block = q.says i };
      only = enters-both (one_value x) (one_label y) a b c u.0 p.only q.only q.grows.entries;
    }

pub trigger-placed : (a b c d e : Arena) (u : UnitId) (v : ValueId) (mode : Mode) (on : ValueId) (gate after : Option ValueId) (x y : List ℕ) (z w : Option (List ℕ)) → ValuePlaced a b u v x
    → ValuePlaced b c u on y → MaybePlaced c d u gate z → MaybePlaced d e u after w
    → TriggerPlaced a e u (record { value = v; mode = mode; trigger = on; gate = gate; after = after }) (record { value = x; mode = mode; trigger = y; gate = z; after = w })
trigger-placed a b c d e u v mode on gate after x y z w p q r s =
    let g = Grows-trans c d e r.grows s.grows in
    let o = later values-keep a b e u v x p (Grows-trans b c e q.grows g) in
    let m = later values-keep b c e u on y q g in
    let n = later maybes-keep c d e u gate z r s.grows in
    record {
      grows = o.grows;
      within = (o.within, m.within, n.within, s.within);
      says = λ i. record { value = o.says i; mode = mode; trigger = m.says i; gate = n.says i; after = s.says i };
      only = enters-both (one_value x) (one_value y ++ maybe_value z ++ maybe_value w) a b e u.0 p.only
          (enters-both (one_value y) (maybe_value z ++ maybe_value w) b c e u.0 q.only (enters-both (maybe_value z) (maybe_value w) c d e u.0 r.only s.only s.grows.entries) g.entries)
          (Grows-trans b c e q.grows g).entries;
    }

-- a label or a value whose entry is found or made, and one that is at hand
pub label-found : (r : Result BlockId NoMemory) (a b : Arena) (u : UnitId) (n : List ℕ) → FindsLabel r a b u n → IfOk r (λ v. LabelPlaced a b u v n)
label-found (Ok v) a b u n f = record { grows = f.0.grows; within = f.1; says = f.2; only = enters-label a b u v n f }
label-found (Err e) a b u n f = tt

pub value-found : (a b : Arena) (u : UnitId) (v : ValueId) (n : List ℕ) → FindsValue (Ok v) a b u n → ValuePlaced a b u v n
value-found a b u v n f = record { grows = f.0.grows; within = f.1; says = f.2; only = enters-value a b u v n f }

pub value-known : (a : Arena) (u : UnitId) (v : ValueId) (n : List ℕ) → v.0 < value_count a u.0 → value_name_at a u.0 v.0 ≡ n → ValuePlaced a a u v n
value-known a u v n h e = record { grows = Grows-refl a; within = h; says = e; only = enters-none (one_value n) a u.0 }
