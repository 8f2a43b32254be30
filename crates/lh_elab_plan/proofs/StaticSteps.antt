-- What an entity begins with, and one constant or operation after the other, for all its instances.
use Rattle.std.proofs.Common.{◌≡◌, ℕ, zero, suc, ◌+◌, ◌<◌, ◌≤◌, List, [], ◌∷◌, length, map, get_or, drop, Bool, true, false, if◌then◌else◌, Option, Some, None, refl, ap, sym, ◌∙◌, subst, arith, lit<}
use Rattle.std.proofs.lemmas.List.{length-set, drop_more, drop_all}
use Rattle.lh_types.specs.Types.{TypeTree, signal_type, bit_count}
use Rattle.lh_types.specs.Values.{Datum}
use Rattle.lh_types.specs.declared.op.Op.{Op}
use Rattle.lh_types.specs.declared.part.Range.{Range}
use Rattle.std.specs.Option.{option_map}
use Rattle.lh_types.specs.Apply.{apply}
use Rattle.lh_types.specs.declared.op.Op.TheVariants as op
use Rattle.lh_unit.specs.Contents.{OperandText, ArgText, InstText, const_text, pure_text, LineText, UnitText}
use Rattle.lh_unit_names.specs.Names.{same_name}
use Rattle.lh_unit_names.proofs.NameLists.{same_name-refl}
use Rattle.lh_unit.specs.Held.{Held, datum_held, part_held, Env, nothing_held, with_held, with_result, with_args, data_at, part_at}
use Rattle.lh_unit.specs.Effects.{operated, signal_part, stepped, step_of}
use Rattle.lh_unit.specs.Hierarchy.{if_held, static_of, static_from, with_parts, signal_names, name_if_signal, parts_of, lines_of, type_or_void}
use Rattle.lh_unit.specs.Typing.{value_type, result_type, operation_type, or_else}
use Rattle.lh_unit.specs.Naming.{arg_text, operand_text, inst_text, maybe_text, value_text}
use Rattle.lh_unit.specs.Table.{ArgsWithin, ResultWithin, line_at}
use Rattle.lh_unit.specs.Arena.{Arena, IsArena, InstPlaced, unit_count, value_count, naming, table_at, unit_text_at}
use Rattle.lh_unit.specs.ById.{inst_line_text}
use Rattle.lh_unit.specs.declared.inst.Arg.{Arg}
use Rattle.lh_unit.specs.declared.inst.InstId.{InstId}
use Rattle.lh_unit.specs.declared.inst.ValueId.{ValueId}
use Rattle.lh_unit.specs.declared.inst.Typed.{Typed}
use Rattle.lh_unit.specs.declared.inst.Inst.{Inst}
use Rattle.lh_unit.specs.declared.inst.Inst.TheVariants as inst
use Rattle.lh_unit.specs.Within.{Each}
use Rattle.lh_unit.proofs.ById.{result-within}
use Rattle.lh_verify_laws.specs.Operands.{RowIs}
use Rattle.lh_verify_laws.specs.Parts.{HasPart}
use Rattle.lh_eval.specs.Holding.{Holds, MaybeIn}
use Rattle.lh_eval.specs.Fitting.{FitsHeld, Fits, OperandsFit}
use Rattle.lh_eval_laws.proofs.SlotsFit.{operation-has}
use Rattle.lh_eval.specs.Sound.{InstIsSound, IsWrittenRight}
use Rattle.lh_eval.proofs.GivesFit.{constants-fit, operations-fit, held-still-fits}
use Rattle.lh_eval.proofs.BeginSteps.{maybe-in}
use Rattle.lh_eval_laws.specs.Ranges.{arg_types, signal_types, type_if_signal}
use Rattle.lh_elab_plan.specs.declared.statics.Base.{Base}
use Rattle.lh_elab_plan.specs.declared.statics.Base.TheVariants as base
use Rattle.lh_elab_plan.specs.declared.statics.Statics.{Statics}
use Rattle.lh_elab_plan.specs.Statics.{StaticsById, by_of, HasSlots, held_by, given_by, from_zero, args_begun, sig_begun, sigs_begun, base_of, no_range, base_lo, moved, StaticsFollow, IsSmall, FitsSomething}
use Rattle.lh_elab_plan.specs.Plans.{AreWide}
use Rattle.lh_elab_plan.proofs.MovedParts.{slots-stay, operated-moved, follows-held, follows-given}

-- the first of what is left, and what is left after it
pub first-left : {X : Type 0} (xs : List X) (k : ℕ) (d x : X) (more : List X) → drop k xs ≡ x ∷ more → get_or xs k d ≡ x
first-left [] zero d x more e = cc
first-left [] (suc k) d x more e = cc
first-left (y ∷ xs) zero d x more e = cc
first-left (y ∷ xs) (suc k) d x more e = first-left xs k d x more e

pub rest-left : {X : Type 0} (xs : List X) (k : ℕ) (x : X) (more : List X) → drop k xs ≡ x ∷ more → drop (k + 1) xs ≡ more
rest-left [] zero x more e = cc
rest-left [] (suc k) x more e = cc
rest-left (y ∷ xs) zero x more e = let f : xs ≡ more = cc in f
rest-left (y ∷ xs) (suc k) x more e = let f : drop (suc (k + 1)) (y ∷ xs) ≡ more = rest-left xs k x more e in let g : suc (k + 1) ≡ suc k + 1 = omega arith in
    subst (λ (n : ℕ). drop n (y ∷ xs) ≡ more) g f

zero-lows : (b : Base) → base_lo [] [] b ≡ 0
zero-lows (base.Arg zero) = refl
zero-lows (base.Arg (suc k)) = refl
zero-lows (base.Sig zero) = refl
zero-lows (base.Sig (suc k)) = refl

-- what is held fits after a constant or an operation
static-fits : (u : UnitText) (w : ℕ) (e : Env) → Fits u w e → (i : InstText) (r : Option (List ℕ)) → RowIs u i → HasPart u i → IsWrittenRight i
    → ((n : List ℕ) → r ≡ Some n → value_type u n ≡ result_type i) → Fits u w (if_held e r (static_of u e i))
static-fits u w e f (const_text d) r row part written gives = held-still-fits u w e r (Some (datum_held d)) f (λ n p x s g q. constants-fit w d written x s g (sym (gives n p) ∙ q))
static-fits u w e f (pure_text o os) r row part written gives = held-still-fits u w e r (operated u e o os) f (λ n p x s g q. operations-fit u w e o os f row part written x s g (sym (gives n p) ∙ q))
static-fits u w e f _ r row part written gives = f

pub static-keeps : (u : UnitText) (w : ℕ) (e : Env) (l : LineText) → InstIsSound u l → Fits u w e → Fits u w (if_held e l.result (static_of u e l.inst))
static-keeps u w e l s f = static-fits u w e f l.inst l.result s.row s.part s.written s.gives

-- parts begin at most at bit 65536 of their argument or `sig`
part-bounded : (w : ℕ) (r : Range) (t : TypeTree) → FitsHeld w (part_held r) t → r.lo ≤ w
part-bounded w r (signal_type t) h = omega (arith, h.2)
part-bounded w r _ h = absurd h

stepped-none : (ty : Option TypeTree) (p : Option Range) → stepped ty p None ≡ None
stepped-none None p = refl
stepped-none (Some (signal_type t)) None = refl
stepped-none (Some (signal_type t)) (Some r) = refl
stepped-none (Some _) p = refl

taken-typed : (u : UnitText) (e : Env) (o : Op) (x : OperandText) (r : Range) → RowIs u (pure_text o (x ∷ [])) → stepped (value_type u x.value) (part_at e x.value) (step_of o) ≡ Some (part_held r)
    → (t : TypeTree) × (operation_type o (x ∷ []) ≡ Some t)
taken-typed u e (op.Extf k) x r row h = (row.0, row.1)
taken-typed u e (op.Exts at len) x r row h = (row.0, row.1)
taken-typed u e _ x r row h = let n = stepped-none (value_type u x.value) (part_at e x.value) in absurd cc

signal-typed : (u : UnitText) (e : Env) (o : Op) (args : List OperandText) (r : Range) → RowIs u (pure_text o args) → signal_part u e o args ≡ Some (part_held r) → (t : TypeTree)
    × (operation_type o args ≡ Some t)
signal-typed u e o [] r row h = absurd cc
signal-typed u e o (x ∷ []) r row h = taken-typed u e o x r row h
signal-typed u e o (x ∷ y ∷ more) r row h = absurd cc

part-typed : (u : UnitText) (e : Env) (i : InstText) (r : Range) → RowIs u i → static_of u e i ≡ Some (part_held r) → (t : TypeTree) × (result_type i ≡ Some t)
part-typed u e (const_text d) r row h = absurd cc
part-typed u e (pure_text o args) r row h = by (data_at e args) h
  where
    by : (ds : Option (List Datum)) → or_else (option_map (λ xs. datum_held (apply o xs)) ds) (signal_part u e o args) ≡ Some (part_held r) → (t : TypeTree) × (operation_type o args ≡ Some t)
    by (Some xs) q = absurd cc
    by None q = signal-typed u e o args r row q
part-typed u e _ r row h = absurd cc

pub static-small : (u : UnitText) (e : Env) (l : LineText) → InstIsSound u l → Fits u 65536 e → IsSmall e → IsSmall (if_held e l.result (static_of u e l.inst))
static-small u e l s f k = by l.result (static_of u e l.inst) refl refl
  where
    by : (m : Option (List ℕ)) (h : Option Held) → l.result ≡ m → static_of u e l.inst ≡ h → IsSmall (if_held e m h)
    by m None p q = k
    by None (Some h) p q = k
    by (Some m) (Some h) p q = λ n r x. cases n r (same_name m n) refl x
      where
        cases : (n : List ℕ) (r : Range) (b : Bool) → same_name m n ≡ b → (if b then Some h else e n) ≡ Some (part_held r) → r.lo ≤ 65536
        cases n r false g x = k n r x
        cases n r true g x =
            let y : static_of u e l.inst ≡ Some (part_held r) = q ∙ x in
            let t = part-typed u e l.inst r s.row y in
            let z : if_held e l.result (static_of u e l.inst) m ≡ Some (part_held r) = (λ j. if_held e (p j) (y j) m) ∙ ap (λ c. if c then Some (part_held r) else e m) (same_name-refl m) in
            part-bounded 65536 r t.0 (static-keeps u 65536 e l s f m (part_held r) t.0 z (s.gives m p ∙ t.1))

-- so do those with which an entity begins
small-with : (e : Env) (m : Option (List ℕ)) (r : Range) → r.lo ≤ 65536 → IsSmall e → IsSmall (with_result e m (part_held r))
small-with e None r l k = k
small-with e (Some m) r l k = λ n q x. by n q (same_name m n) x
  where
    by : (n : List ℕ) (q : Range) (b : Bool) → (if b then Some (part_held r) else e n) ≡ Some (part_held q) → q.lo ≤ 65536
    by n q false x = k n q x
    by n q true x = let y : r ≡ q = cc in subst (λ (z : Range). z.lo ≤ 65536) y l

abbrev pub LowRanges : List Range → Type 0
LowRanges rs = Each (λ (r : Range). r.lo ≤ 65536) rs

small-args : (xs : List ArgText) (rs : List Range) (e : Env) → LowRanges rs → IsSmall e → IsSmall (with_args e xs (map part_held rs))
small-args [] rs e l k = k
small-args (x ∷ xs) [] e l k = k
small-args (x ∷ xs) (r ∷ rs) e l k = small-args xs rs (with_held e x.name (part_held r)) l.1 (small-with e (Some x.name) r l.0 k)

small-parts : (ns : List (Option (List ℕ))) (rs : List Range) (e : Env) → LowRanges rs → IsSmall e → IsSmall (with_parts e ns rs)
small-parts [] rs e l k = k
small-parts (n ∷ ns) [] e l k = k
small-parts (n ∷ ns) (r ∷ rs) e l k = small-parts ns rs (with_result e n (part_held r)) l.1 (small-with e n r l.0 k)

pub nothing-small : IsSmall nothing_held
nothing-small n r x = absurd cc

pub begins-small : (u : UnitText) (args sigs : List Range) → LowRanges args → LowRanges sigs → IsSmall (parts_of u args sigs)
begins-small u args sigs l k = small-parts (signal_names (lines_of u.blocks)) sigs (with_args nothing_held u.args (map part_held args)) k (small-args u.args args nothing_held l nothing-small)

module _ (a : Arena) (u : ℕ) where
  -- what is held where nothing moves
  pub lifted : (s : Statics) (e : Env) → HasSlots s → Holds a u s.slots e → StaticsFollow a u [] [] (by_of s) e
  lifted s e k d = record { long = k; holds = subst (λ (l : List (Option Held)). Holds a u l e) (sym (slots-stay [] [] zero-lows s.bases.items s.slots k)) d }

  pub plain : (s : Statics) (e : Env) → StaticsFollow a u [] [] (by_of s) e → Holds a u s.slots e
  plain s e f = subst (λ (l : List (Option Held)). Holds a u l e) (slots-stay [] [] zero-lows s.bases.items s.slots f.long) f.holds

  abbrev pub line_in : InstId → LineText
  line_in i = inst_line_text (naming a u) (table_at a u) i

  -- one instruction more
  pub more-fit : (s t : Statics) (l : LineText) → HasSlots s → InstIsSound (unit_text_at a u) l → FitsSomething a u s
      → ((args sigs : List Range) (e : Env) → StaticsFollow a u args sigs (by_of s) e → StaticsFollow a u args sigs (by_of t) (if_held e l.result (static_of (unit_text_at a u) e l.inst)))
      → FitsSomething a u t
  more-fit s t l k x f go = record {
    held = if_held f.held l.result (static_of (unit_text_at a u) f.held l.inst);
    holds = plain t (if_held f.held l.result (static_of (unit_text_at a u) f.held l.inst)) (go [] [] f.held (lifted s f.held k f.holds));
    fits = static-keeps (unit_text_at a u) 65536 f.held l x f.fits;
    small = static-small (unit_text_at a u) f.held l x f.fits f.small;
  }

-- so far this is held, and the rest of the instructions lead from it to this
pub record Leads (a : Arena) (u : ℕ) (args sigs : List Range) (s : StaticsById) (rest : List LineText) (to : Env) : Type 0 where
  pub held : Env
  pub follows : StaticsFollow a u args sigs s held
  pub same : static_from (unit_text_at a u) held rest ≡ to

module _ (a : Arena) (u : ℕ) (args sigs : List Range) where
  pub goes-on : (s t : StaticsById) (f : InstId → LineText) (is : List InstId) (k : ℕ) (d : InstId) (to : Env) → k < length is
      → ((e : Env) → StaticsFollow a u args sigs s e → StaticsFollow a u args sigs t (if_held e (f (get_or is k d)).result (static_of (unit_text_at a u) e (f (get_or is k d)).inst)))
      → Leads a u args sigs s (map f (drop k is)) to → Leads a u args sigs t (map f (drop (k + 1) is)) to
  goes-on s t f is k d to h go l = record {
    held = if_held l.held (f (get_or is k d)).result (static_of (unit_text_at a u) l.held (f (get_or is k d)).inst);
    follows = go l.held l.follows;
    same = sym (ap (λ ys. static_from (unit_text_at a u) l.held (map f ys)) (drop_more is k d h)) ∙ l.same;
  }

  pub ends : (s : StaticsById) (f : InstId → LineText) (is : List InstId) (k : ℕ) (to : Env) → length is ≤ k → Leads a u args sigs s (map f (drop k is)) to → StaticsFollow a u args sigs s to
  ends s f is k to h l = subst (StaticsFollow a u args sigs s) (sym (ap (λ ys. static_from (unit_text_at a u) l.held (map f ys)) (drop_all k is h)) ∙ l.same) l.follows

  module _ (o : IsArena a) (h : u < unit_count a) where
    -- a part as it lies in the instance
    placed : (b : Base) (r : Range) (len : ℕ) → base_lo args sigs b ≡ r.lo → r.len ≡ len → moved args sigs b (from_zero len) ≡ part_held r
    placed b r len p q =
        let lo : base_lo args sigs b + 0 ≡ r.lo = omega arith in
        λ i. let x : Range = record { lo = lo i; len = sym q i } in part_held x

    pub args-follow : (k : ℕ) (xs : List Arg) (rs : List Range) (s : StaticsById) (e : Env) → drop k args ≡ rs → AreWide rs (arg_types (map (arg_text (naming a u)) xs))
        → ArgsWithin (value_count a u) xs → length s.slots ≡ value_count a u → StaticsFollow a u args sigs s e
        → StaticsFollow a u args sigs (args_begun k xs s) (with_args e (map (arg_text (naming a u)) xs) (map part_held rs))
    args-follow k [] rs s e d w l n f = f
    args-follow k (x ∷ xs) [] s e d w l n f = absurd w
    args-follow k (x ∷ xs) (r ∷ rs) s e d w l n f =
        let at : base_lo args sigs (base.Arg k) ≡ r.lo = ap (λ (q : Range). q.lo) (first-left args k no_range r rs d) in
        let t : StaticsById = held_by s x.value (base.Arg k) (from_zero (bit_count x.ty)) in
        let m : length t.slots ≡ value_count a u = length-set s.slots x.value.0 (Some (from_zero (bit_count x.ty))) ∙ n in
        args-follow (k + 1) xs rs t (with_held e (value_text (naming a u) x.value) (part_held r)) (rest-left args k r rs d) w.1 l.1 m
        (subst (λ (y : Held). StaticsFollow a u args sigs t (with_held e (value_text (naming a u) x.value) y)) (placed (base.Arg k) r (bit_count x.ty) at w.0)
        (follows-held args sigs a u o h s e x.value (base.Arg k) (from_zero (bit_count x.ty)) (omega (arith, l.0, n)) f))

    one-signal : (names : List (Option (List ℕ))) (types : List TypeTree) (others : ℕ → StaticsById → StaticsById)
        (go : (k : ℕ) (rs : List Range) (s : StaticsById) (e : Env) → drop k sigs ≡ rs → AreWide rs types → length s.slots ≡ value_count a u → StaticsFollow a u args sigs s e
        → StaticsFollow a u args sigs (others k s) (with_parts e names rs))
        (i : Inst) (n : Option ValueId) (k : ℕ) (rs : List Range) (s : StaticsById) (e : Env) → drop k sigs ≡ rs → AreWide rs (type_if_signal (inst_text (naming a u) i) types)
        → ResultWithin (value_count a u) n → length s.slots ≡ value_count a u → StaticsFollow a u args sigs s e
        → StaticsFollow a u args sigs (sig_begun i n k s others) (with_parts e (name_if_signal (inst_text (naming a u) i) (maybe_text (naming a u) n) names) rs)
    one-signal names types others go (inst.Sig x) n k [] s e d w l q f = absurd w
    one-signal names types others go (inst.Sig x) n k (r ∷ rs) s e d w l q f =
        let at : base_lo args sigs (base.Sig k) ≡ r.lo = ap (λ (y : Range). y.lo) (first-left sigs k no_range r rs d) in
        let len = bit_count (type_or_void x.ty) in
        let t : StaticsById = given_by s n (base.Sig k) (Some (from_zero len)) in
        let m : length t.slots ≡ value_count a u = long-given n in
        go (k + 1) rs t (with_result e (maybe_text (naming a u) n) (part_held r)) (rest-left sigs k r rs d) w.1 m
        (subst (λ (y : Held). StaticsFollow a u args sigs t (with_result e (maybe_text (naming a u) n) y)) (placed (base.Sig k) r len at w.0)
        (follows-given args sigs a u o h s e n (base.Sig k) (Some (from_zero len)) (maybe-in (value_count a u) s.slots n q l) f))
      where
        long-given : (v : Option ValueId) → length (given_by s v (base.Sig k) (Some (from_zero (bit_count (type_or_void x.ty))))).slots ≡ value_count a u
        long-given None = q
        long-given (Some v) = length-set s.slots v.0 (Some (from_zero (bit_count (type_or_void x.ty)))) ∙ q
    one-signal names types others go (inst.Ret None) n k rs s e d w l q f = go k rs s e d w q f
    one-signal names types others go (inst.Ret (Some t)) n k rs s e d w l q f = go k rs s e d w q f
    one-signal names types others go _ n k rs s e d w l q f = go k rs s e d w q f

    pub signals-follow : (is : List InstId) (k : ℕ) (rs : List Range) (s : StaticsById) (e : Env) → drop k sigs ≡ rs → AreWide rs (signal_types (map (inst_line_text (naming a u) (table_at a u)) is))
        → length s.slots ≡ value_count a u → StaticsFollow a u args sigs s e
        → StaticsFollow a u args sigs (sigs_begun (table_at a u) k is s) (with_parts e (signal_names (map (inst_line_text (naming a u) (table_at a u)) is)) rs)
    signals-follow [] k rs s e d w q f = f
    signals-follow (i ∷ is) k rs s e d w q f =
        one-signal (signal_names (map (inst_line_text (naming a u) (table_at a u)) is)) (signal_types (map (inst_line_text (naming a u) (table_at a u)) is)) (λ j x. sigs_begun (table_at a u) j is x)
        (signals-follow is)
        (line_at (table_at a u) i.0).inst (line_at (table_at a u) i.0).result k rs s e d w (result-within a u o h i.0) q f

module _ (a : Arena) (u : ℕ) (o : IsArena a) (h : u < unit_count a) (s : Statics) where
  same-line : (name : Option ValueId) (i j : Inst) → i ≡ j → InstIsSound (unit_text_at a u) (record { result = maybe_text (naming a u) name; inst = inst_text (naming a u) i })
      → InstIsSound (unit_text_at a u) (record { result = maybe_text (naming a u) name; inst = inst_text (naming a u) j })
  same-line name i j e x = subst (λ (y : Inst). InstIsSound (unit_text_at a u) (record { result = maybe_text (naming a u) name; inst = inst_text (naming a u) y })) e x

  pub args-in : FitsSomething a u s → (i : Inst) (op : Op) (args xs : List Typed) → i ≡ inst.Pure op args → xs ≡ args → InstPlaced a u i → Each (λ (x : Typed). x.value.0 < length s.slots) xs
  args-in f i op args xs e g p =
      let p' : Each (λ (x : Typed). x.value.0 < value_count a u) args = subst (InstPlaced a u) e p in
      subst (Each (λ (x : Typed). x.value.0 < length s.slots)) (sym g) (subst (λ (n : ℕ). Each (λ (x : Typed). x.value.0 < n) args) (sym f.holds.long) p')

  pub pure-fits : FitsSomething a u s → (name : Option ValueId) (i : Inst) (op : Op) (args xs : List Typed) → i ≡ inst.Pure op args → xs ≡ args
      → InstIsSound (unit_text_at a u) (record { result = maybe_text (naming a u) name; inst = inst_text (naming a u) i }) → InstPlaced a u i → OperandsFit a u s.slots op xs
  pure-fits f name i op args xs e g x p =
      let x' = same-line name i (inst.Pure op args) e x in
      let p' = subst (InstPlaced a u) e p in
      subst (OperandsFit a u s.slots op) (sym g) (operation-has a u 65536 s.slots f.held f.holds f.fits (lit< tt) op args p' x'.row x'.written)

  module _ (args sigs : List Range) (e : Env) (f : StaticsFollow a u args sigs (by_of s) e) (t : Statics) (name : Option ValueId) (w : MaybeIn s.slots name) (i : Inst) where
    done : (b : Base) (x y : Option Held) → by_of t ≡ given_by (by_of s) name b x → option_map (moved args sigs b) x ≡ y → static_of (unit_text_at a u) e (inst_text (naming a u) i) ≡ y
        → StaticsFollow a u args sigs (by_of t) (if_held e (maybe_text (naming a u) name) (static_of (unit_text_at a u) e (inst_text (naming a u) i)))
    done b x y p q r =
        let z = follows-given args sigs a u o h (by_of s) e name b x w f in
        let z' : StaticsFollow a u args sigs (by_of t) (if_held e (maybe_text (naming a u) name) (option_map (moved args sigs b) x)) = subst
        (λ (k : StaticsById). StaticsFollow a u args sigs k (if_held e (maybe_text (naming a u) name) (option_map (moved args sigs b) x))) (sym p) z in
        subst (λ (k : Option Held). StaticsFollow a u args sigs (by_of t) (if_held e (maybe_text (naming a u) name) k)) (q ∙ sym r) z'

    pub const-done : (v : Datum) (d : Datum) → i ≡ inst.Const v → by_of t ≡ given_by (by_of s) name (base.Arg 0) (Some (datum_held d)) → d ≡ v
        → StaticsFollow a u args sigs (by_of t) (if_held e (maybe_text (naming a u) name) (static_of (unit_text_at a u) e (inst_text (naming a u) i)))
    const-done v d g p q = done (base.Arg 0) (Some (datum_held d)) (Some (datum_held v)) p (ap (λ y. Some (datum_held y)) q)
        (ap (λ y. static_of (unit_text_at a u) e (inst_text (naming a u) y)) g)

    pub pure-done : FitsSomething a u s → (op : Op) (os xs : List Typed) (b : Base) (x : Option Held) → i ≡ inst.Pure op os → xs ≡ os → InstPlaced a u i → by_of t ≡ given_by (by_of s) name b x
        → b ≡ base_of s.bases.items xs
        → ((e0 : Env) → Holds a u s.slots e0 → x ≡ operated (unit_text_at a u) e0 op (map (operand_text (naming a u)) xs))
        → StaticsFollow a u args sigs (by_of t) (if_held e (maybe_text (naming a u) name) (static_of (unit_text_at a u) e (inst_text (naming a u) i)))
    pure-done k op os xs b x g g' l p q r =
        let y = operated (unit_text_at a u) e op (map (operand_text (naming a u)) xs) in
        done b x y p
        (ap (option_map (moved args sigs b)) (r k.held k.holds) ∙ ap (λ c. option_map (moved args sigs c) (operated (unit_text_at a u) k.held op (map (operand_text (naming a u)) xs))) q
        ∙ sym (operated-moved args sigs a u (by_of s) e k.held f k.holds op xs (args-in k i op os xs g g' l)))
        (ap (λ z. static_of (unit_text_at a u) e (inst_text (naming a u) z)) g ∙ ap (λ z. operated (unit_text_at a u) e op (map (operand_text (naming a u)) z)) (sym g'))
