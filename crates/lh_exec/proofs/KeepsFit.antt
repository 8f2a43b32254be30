-- What fits before an instruction fits after it.
use Rattle.std.proofs.Common.{◌≡◌, ℕ, nat_lt, List, [], ◌∷◌, ◌++◌, length, map, Bool, true, false, if◌then◌else◌, Option, Some, None, IsSome, unwrap_or, inl, inr, ◌⊎◌, refl, ap, sym, ◌∙◌, subst, append_assoc}
use Rattle.std.specs.Option.{option_and_then, option_map}
use Rattle.std.proofs.lemmas.Option.{same_Some, none-some}
use Rattle.lh_time.specs.declared.Instant.{Instant}
use Rattle.lh_types.specs.Types.{TypeTree, pointer_type}
use Rattle.lh_types.specs.Values.{Datum}
use Rattle.lh_types.specs.Wish.{Wish}
use Rattle.lh_unit_names.specs.declared.name.UnitName.{UnitName}
use Rattle.lh_unit_names.specs.UnitNames.{same_unit_name, is_assert}
use Rattle.lh_unit.specs.Contents.{OperandText, EdgeText, InstText, const_text, pure_text, var_text, ld_text, st_text, sig_text, prb_text, drv_text, reg_text, child_text, call_text, phi_text, br_text, branch_text, wait_text, halt_text, ret_text, LineText, BlockText, ArgText, UnitText, ItemText, unit_text, declare_text, is_result_name}
use Rattle.lh_unit.specs.Named.{block_of, label_or, function_named, unit_named, is_function}
use Rattle.lh_unit.specs.Held.{Held, datum_held, cell_held, Env, nothing_held, with_held, with_args, datum_at, cell_at, data_at, front, test_at, parts_at, with_result}
use Rattle.lh_unit.specs.Effects.{operated, probed, driven}
use Rattle.lh_unit.specs.Typing.{value_type, result_type, pointer_to, pointed}
use Rattle.lh_unit.specs.Activation.{Scene, Stand, halted, Control, Caller, Point, Next, goes, ends, no_step, edge_from, result_put, phi_taken, phis_taken, entered, at_first, entry, gives, jumps, wishes, tells, stores, opens, asserted, called, given_back, goes_back, returns, chosen, ends_at, wake_at, waiting, executes, steps_by, step, functions}
use Rattle.lh_unit.specs.Within.{Each}
use Rattle.lh_unit_names.proofs.NameLists.{same_name-refl}
use Rattle.lh_verify_laws.specs.Operands.{IsOf, RowIs, ReturnIs}
use Rattle.lh_verify_laws.specs.Calls.{ArgumentsAre, FunctionIsRight, AssertIsRight}
use Rattle.lh_eval.specs.Fitting.{FitsHeld, Fits}
use Rattle.lh_eval.specs.ResultsFit.{GivenFits}
use Rattle.lh_eval.specs.Wishing.{WishWithin}
use Rattle.lh_eval.proofs.ValuesFit.{datum-held}
use Rattle.lh_eval.proofs.GivesFit.{constants-fit, operations-fit, probes-fit, held-still-fits, cell-held}
use Rattle.lh_eval.proofs.DriveWishes.{driven-within}
use Rattle.lh_eval_laws.specs.Units.{HasItsType}
use Rattle.lh_verify_laws.proofs.EachItem.{each-split, edge-is}
use Rattle.lh_exec.specs.Sound.{LineRight, UnitRight, FunctionsRight, ControlFits, GivesResult, ResultFits, CallersFit, lowest, PointFits, StandFits, DoneFits}
use Rattle.lh_exec.proofs.WaitTargets.{waiting-fits}

-- what an instruction of the unit v leads to fits; an activation ends in the unit in which it began
abbrev pub NextFits : List ItemText → (width : ℕ) → Instant → (began at : UnitText) → Next → Type 0
NextFits items w t u v (goes p) = PointFits items w u p
NextFits items w t u v (ends d) = DoneFits w t u d × (v ≡ u)
NextFits items w t u v no_step = Unit {0}

-- ---- names

pub block-has : (P : BlockText → Type 0) (n : List ℕ) (bs : List BlockText) (b : BlockText) → Each P bs → block_of n bs ≡ Some b → P b
block-has P n [] b e h = absurd (none-some b h)
block-has P n (c ∷ bs) b e h = by (block-has P n bs b e.1) (is_result_name n c.label) h
  where
    by : (block_of n bs ≡ Some b → P b) → (x : Bool) → (if x then Some c else block_of n bs) ≡ Some b → P b
    by go true q = subst P (same_Some c b q) e.0
    by go false q = go q

-- the function of a name is the unit of it
pub function-is : (n : UnitName) (items : List ItemText) (f : UnitText) → unit_named n items ≡ Some f → is_function f.kind ≡ true → function_named n (functions items) ≡ Some f
function-is n [] f e k = absurd (none-some f e)
function-is n (declare_text d ∷ items) f e k = function-is n items f e k
function-is n (unit_text u ∷ items) f e k = by (same_unit_name u.name n) refl (is_function u.kind) refl (λ q. function-is n items f q k)
  where
    rest : (b : Bool) → same_unit_name u.name n ≡ false → function_named n (functions items) ≡ Some f → function_named n (if b then u ∷ functions items else functions items) ≡ Some f
    rest true s q = ap (λ x. if x then Some u else function_named n (functions items)) s ∙ q
    rest false s q = q

    by : (s : Bool) → same_unit_name u.name n ≡ s → (b : Bool) → is_function u.kind ≡ b → (unit_named n items ≡ Some f → function_named n (functions items) ≡ Some f)
        → function_named n (if is_function u.kind then u ∷ functions items else functions items) ≡ Some f
    by true s b g go =
        let same : u ≡ f = same_Some u f (sym (ap (λ x. if x then Some u else unit_named n items) s) ∙ e) in
        ap (λ x. function_named n (if x then u ∷ functions items else functions items)) (ap (λ (x : UnitText). is_function x.kind) same ∙ k)
        ∙ ap (λ x. if x then Some u else function_named n (functions items)) s ∙ ap Some same
    by false s b g go = rest (is_function u.kind) s (go (sym (ap (λ x. if x then Some u else unit_named n items) s) ∙ e))

-- ---- what is held

as-held : (w : ℕ) (x y : Held) (t s : TypeTree) → FitsHeld w x t → Some x ≡ Some y → Some t ≡ Some s → FitsHeld w y s
as-held w x y t s f p q = subst (λ (z : Held). FitsHeld w z s) (same_Some x y p) (subst (FitsHeld w x) (same_Some t s q) f)

module _ (u : UnitText) (w : ℕ) (e : Env) (f : Fits u w e) where
  datum-fits : (n : List ℕ) (d : Datum) (t : TypeTree) → datum_at e n ≡ Some d → IsOf u t n → FitsHeld w (datum_held d) t
  datum-fits n d t p q = f n (datum_held d) t (datum-held (e n) d p) q

  new-cell-fits : (a : OperandText) (ty : Option TypeTree) → RowIs u (var_text a) → ty ≡ option_and_then pointer_to a.ty → GivenFits w (option_map cell_held (datum_at e a.value)) ty
  new-cell-fits a ty row g x t h q = by (datum_at e a.value) refl h
    where
      made : ty ≡ Some (pointer_type row.0)
      made = g ∙ ap (option_and_then pointer_to) row.2.0 ∙ ap (λ b. if b then Some (pointer_type row.0) else None) row.1

      by : (o : Option Datum) → datum_at e a.value ≡ o → option_map cell_held o ≡ Some x → FitsHeld w x t
      by None p c = absurd (none-some x c)
      by (Some d) p c = as-held w (cell_held d) x (pointer_type row.0) t (datum-fits a.value d row.0 p row.2.1) c (sym made ∙ q)

  stored-fits : (a : OperandText) (ty : Option TypeTree) → RowIs u (ld_text a) → ty ≡ option_and_then pointed a.ty → GivenFits w (option_map datum_held (cell_at e a.value)) ty
  stored-fits a ty row g x t h q = by (cell_at e a.value) refl h
    where
      by : (o : Option Datum) → cell_at e a.value ≡ o → option_map datum_held o ≡ Some x → FitsHeld w x t
      by None p c = absurd (none-some x c)
      by (Some d) p c = as-held w (datum_held d) x row.0 t (f a.value (cell_held d) (pointer_type row.0) (cell-held (e a.value) d p) row.1.1) c (sym (g ∙ ap (option_and_then pointed) row.1.0) ∙ q)

-- ---- the `phi` of a block

abbrev MaybeFits : UnitText → ℕ → Option Env → Type 0
MaybeFits u w None = Unit {0}
MaybeFits u w (Some e) = Fits u w e

module _ (items : List ItemText) (u : UnitText) (w : ℕ) (from : List ℕ) (e : Env) (f : Fits u w e) where
  phi-fits : (ty : TypeTree) (es : List EdgeText) (r : Option (List ℕ)) → RowIs u (phi_text ty es) → ((n : List ℕ) → r ≡ Some n → value_type u n ≡ Some ty) → (acc : Option Env) → MaybeFits u w acc
      → MaybeFits u w (result_put r (option_and_then (datum_at e) (edge_from from es)) acc)
  phi-fits ty es r row g acc m = by (edge_from from es) refl
    where
      put : (n : List ℕ) → edge_from from es ≡ Some n → (v : Option Datum) → datum_at e n ≡ v → (a : Option Env) → MaybeFits u w a → MaybeFits u w (result_put r v a)
      put n q None p a k = tt
      put n q (Some d) p None k = tt
      put n q (Some d) p (Some a) k = held-still-fits u w a r (Some (datum_held d)) k
          (λ x y z t h c. as-held w (datum_held d) z ty t (datum-fits u w e f n d ty p (edge-is u ty from es n row.1 q)) h (sym (g x y) ∙ c))

      by : (o : Option (List ℕ)) → edge_from from es ≡ o → MaybeFits u w (result_put r (option_and_then (datum_at e) o) acc)
      by None q = tt
      by (Some n) q = put n q (datum_at e n) refl acc m

  one-phi : (i : InstText) (r : Option (List ℕ)) (acc : Option Env) → RowIs u i → ((n : List ℕ) → r ≡ Some n → value_type u n ≡ result_type i) → MaybeFits u w acc
      → MaybeFits u w (phi_taken from e i r acc)
  one-phi (phi_text ty es) r acc row g m = phi-fits ty es r row g acc m
  one-phi _ r acc row g m = m

  phis-fit : (ls : List LineText) → Each (LineRight items u) ls → MaybeFits u w (phis_taken from e ls)
  phis-fit [] k = f
  phis-fit (l ∷ ls) k = one-phi l.inst l.result (phis_taken from e ls) k.0.sound.row k.0.sound.gives (phis-fit ls k.1)

-- ---- places of control

-- the place where a block of the unit v is entered
abbrev pub at-block : UnitText → List ℕ → List LineText → Env → Control
at-block v to ls e = record { unit = v; block = to; rest = ls; held = e }

module _ (items : List ItemText) (w : ℕ) where
  -- a place in the unit v
  abbrev pub Placed : UnitText → Control → Type 0
  Placed v c = ControlFits items w c × (c.unit ≡ v)

  pub entered-fits : (v : UnitText) (e : Env) (from to : List ℕ) (k : Control) → UnitRight items v → Fits v w e → entered v e from to ≡ Some k → Placed v k
  entered-fits v e from to k r f h = by (block_of to v.blocks) refl h
    where
      by : (o : Option BlockText) → block_of to v.blocks ≡ o → option_and_then (λ b. option_map (at-block v to b.lines) (phis_taken from e b.lines)) o ≡ Some k → Placed v k
      by None p c = absurd (none-some k c)
      by (Some b) p c = at (phis_taken from e b.lines) (phis-fit items v w from e f b.lines (block-has (λ (x : BlockText). Each (LineRight items v) x.lines) to v.blocks b r.lines p)) c
        where
          at : (o : Option Env) → MaybeFits v w o → option_map (at-block v to b.lines) o ≡ Some k → Placed v k
          at None m d = absurd (none-some k d)
          at (Some e') m d =
              let here : Placed v (at-block v to b.lines e') = (record { right = r; text = b; block = p; before = []; split = refl; fits = m }, refl) in
              subst (Placed v) (same_Some (at-block v to b.lines e') k d) here

  pub entry-fits : (v : UnitText) (e : Env) (k : Control) → UnitRight items v → Fits v w e → entry v e ≡ Some k → Placed v k
  entry-fits v e k r f h = by v.blocks refl h
    where
      by : (bs : List BlockText) → v.blocks ≡ bs → at_first v e bs ≡ Some k → Placed v k
      by [] p c = absurd (none-some k c)
      by (b ∷ more) p c =
          let labelled = subst (Each (λ (x : BlockText). x.label ≡ Some (label_or x.label))) p r.labelled in
          let named : is_result_name (label_or b.label) b.label ≡ true = ap (is_result_name (label_or b.label)) labelled.0 ∙ same_name-refl (label_or b.label) in
          let stands : block_of (label_or b.label) v.blocks ≡ Some b = ap (block_of (label_or b.label)) p ∙ ap (λ x. if x then Some b else block_of (label_or b.label) more) named in
          let here : Placed v (at-block v (label_or b.label) b.lines e) = (record { right = r; text = b; block = stands; before = []; split = refl; fits = f }, refl) in
          subst (Placed v) (same_Some (at-block v (label_or b.label) b.lines e) k c) here

  -- the arguments of a function
  front-some : (x : Option Datum) (xs : Option (List Datum)) (ds : List Datum) → front x xs ≡ Some ds → (d : Datum) × (more : List Datum) × (x ≡ Some d) × (xs ≡ Some more) × (d ∷ more ≡ ds)
  front-some None xs ds h = absurd (none-some ds h)
  front-some (Some d) None ds h = absurd (none-some ds h)
  front-some (Some d) (Some more) ds h = (d, more, refl, refl, same_Some (d ∷ more) ds h)

  args-fit : (v g : UnitText) (e : Env) → Fits v w e → (xs : List ArgText) (os : List OperandText) (ds : List Datum) (to : Env) → Each (HasItsType g) xs → ArgumentsAre v os xs → data_at e os ≡ Some ds
      → Fits g w to → Fits g w (with_args to xs (map datum_held ds))
  args-fit v g e f [] os ds to t are h k = k
  args-fit v g e f (x ∷ xs) [] ds to t are h k = absurd are
  args-fit v g e f (x ∷ xs) (o ∷ os) ds to t are h k =
      let q = front-some (datum_at e o.value) (data_at e os) ds h in
      let next : Fits g w (with_held to x.name (datum_held q.0)) =
      held-still-fits g w to (Some x.name) (Some (datum_held q.0)) k
      (λ n m y z p c. as-held w (datum_held q.0) y x.ty z (datum-fits v w e f o.value q.0 x.ty q.2 are.0) p (sym t.0 ∙ ap (value_type g) (same_Some x.name n m) ∙ c)) in
      subst (λ (l : List Datum). Fits g w (with_args to (x ∷ xs) (map datum_held l))) q.4
      (args-fit v g e f xs os q.1 (with_held to x.name (datum_held q.0)) t.1 are.1 q.3 next)

  nothing-fits : (v : UnitText) → Fits v w nothing_held
  nothing-fits v n h t p q = absurd (none-some h p)

  called-fits : (v g : UnitText) (e : Env) (os : List OperandText) (k : Control) → UnitRight items g → Fits v w e → ArgumentsAre v os g.args → called (Some g) (data_at e os) ≡ Some k → Placed g k
  called-fits v g e os k r f are h = by (data_at e os) refl h
    where
      by : (o : Option (List Datum)) → data_at e os ≡ o → called (Some g) o ≡ Some k → Placed g k
      by None p c = absurd (none-some k c)
      by (Some ds) p c = entry-fits g (with_args nothing_held g.args (map datum_held ds)) k r (args-fit v g e f g.args os ds nothing_held r.args are p (nothing-fits g)) c

  -- ---- points

  lowest-same : (c d : Control) (cs : List Caller) → c.unit ≡ d.unit → lowest c cs ≡ lowest d cs
  lowest-same c d [] e = e
  lowest-same c d (x ∷ cs) e = refl

  module _ (u : UnitText) (p : Point) (f : PointFits items w u p) where
    goes-in : (c : Control) → Placed p.control.unit c → PointFits items w u (record p { control = c })
    goes-in c k = record {
      control = k.0;
      callers = subst (λ (v : UnitText). CallersFit items w v p.callers) (sym k.1) f.callers;
      began = lowest-same c p.control p.callers k.1 ∙ f.began;
      wish = f.wish;
    }

    holds-more : (e : Env) → Fits p.control.unit w e → PointFits items w u (record p { control = record p.control { held = e } })
    holds-more e k = goes-in (record p.control { held = e })
        (record { right = f.control.right; text = f.control.text; block = f.control.block; before = f.control.before; split = f.control.split; fits = k }, refl)

  module _ (time : Instant) (u : UnitText) (p : Point) (f : PointFits items w u p) where
    gives-fit : (r : Option (List ℕ)) (h : Option Held) → ((n : List ℕ) → r ≡ Some n → GivenFits w h (value_type p.control.unit n)) → NextFits items w time u p.control.unit (gives p r h)
    gives-fit r None g = tt
    gives-fit r (Some h) g = holds-more u p f (with_result p.control.held r h) (held-still-fits p.control.unit w p.control.held r (Some h) f.control.fits g)

    jumps-fit : (o : Option Control) → ((c : Control) → o ≡ Some c → Placed p.control.unit c) → NextFits items w time u p.control.unit (jumps p o)
    jumps-fit None g = tt
    jumps-fit (Some c) g = goes-in u p f c (g c refl)

    enters-fit : (to : List ℕ) → NextFits items w time u p.control.unit (jumps p (entered p.control.unit p.control.held p.control.block to))
    enters-fit to = jumps-fit (entered p.control.unit p.control.held p.control.block to) (λ c. entered-fits p.control.unit p.control.held p.control.block to c f.control.right f.control.fits)

    branch-fits : (o : Option (List ℕ)) → NextFits items w time u p.control.unit (jumps p (option_and_then (entered p.control.unit p.control.held p.control.block) o))
    branch-fits None = tt
    branch-fits (Some to) = enters-fit to

    wishes-fit : (o : Option Wish) → WishWithin w (unwrap_or o p.wish) → NextFits items w time u p.control.unit (wishes p o)
    wishes-fit None k = tt
    wishes-fit (Some x) k = record { control = f.control; callers = f.callers; began = f.began; wish = k }

    tells-fit : (o : Option Bool) → NextFits items w time u p.control.unit (tells p o)
    tells-fit None = tt
    tells-fit (Some b) = record { control = f.control; callers = f.callers; began = f.began; wish = f.wish }

    stores-fit : (to value : List ℕ) (t : TypeTree) → IsOf p.control.unit (pointer_type t) to → IsOf p.control.unit t value
        → NextFits items w time u p.control.unit (stores p to (cell_at p.control.held to) (datum_at p.control.held value))
    stores-fit to value t a b = by (cell_at p.control.held to) (datum_at p.control.held value) refl
      where
        by : (x y : Option Datum) → datum_at p.control.held value ≡ y → NextFits items w time u p.control.unit (stores p to x y)
        by None y e = tt
        by (Some x) None e = tt
        by (Some x) (Some d) e =
            let k : FitsHeld w (cell_held d) (pointer_type t) = datum-fits p.control.unit w p.control.held f.control.fits value d t e b in
            holds-more u p f (with_held p.control.held to (cell_held d))
            (held-still-fits p.control.unit w p.control.held (Some to) (Some (cell_held d)) f.control.fits
            (λ n m y s h c. as-held w (cell_held d) y (pointer_type t) s k h (sym a ∙ ap (value_type p.control.unit) (same_Some to n m) ∙ c)))

    opens-fit : (r : Option (List ℕ)) (o : Option Control) → ((c : Control) → o ≡ Some c → ControlFits items w c × ResultFits c.unit (record { control = p.control; result = r }))
        → NextFits items w time u p.control.unit (opens p r o)
    opens-fit r None g = tt
    opens-fit r (Some c) g = by (nat_lt (length p.callers) 256)
      where
        by : (b : Bool) → NextFits items w time u p.control.unit (if b then goes (record p { control = c; callers = record { control = p.control; result = r } ∷ p.callers }) else no_step)
        by false = tt
        by true = let k = g c refl in record { control = k.0; callers = (f.control, k.1, f.callers); began = f.began; wish = f.wish }

    back-fits : (o : Option OperandText) (c : Caller) (more : List Caller) (e : Env) → p.callers ≡ c ∷ more → Fits c.control.unit w e
        → PointFits items w u (record p { control = record c.control { held = e }; callers = more })
    back-fits o c more e q k =
        let cs = subst (CallersFit items w p.control.unit) q f.callers in
        let b : lowest c.control more ≡ u = sym (ap (lowest p.control) q) ∙ f.began in
        record {
          control = record { right = cs.0.right; text = cs.0.text; block = cs.0.block; before = cs.0.before; split = cs.0.split; fits = k };
          callers = cs.2;
          began = lowest-same (record c.control { held = e }) c.control more refl ∙ b;
          wish = f.wish;
        }

    returned-fits : (a : OperandText) (c : Caller) → ReturnIs p.control.unit p.control.unit.result (Some a) → IsSome p.control.unit.result → GivesResult p.control.unit c → (n : List ℕ)
        → c.result ≡ Some n → (d : Datum) → datum_at p.control.held a.value ≡ Some d → GivenFits w (Some (datum_held d)) (value_type c.control.unit n)
    returned-fits a c row some g n m d h y s q z = by p.control.unit.result refl row some
      where
        by : (o : Option TypeTree) → p.control.unit.result ≡ o → ReturnIs p.control.unit o (Some a) → IsSome o → FitsHeld w y s
        by None e r i = absurd cc
        by (Some t) e r i = as-held w (datum_held d) y t s (datum-fits p.control.unit w p.control.held f.control.fits a.value d t h r.1.1) q (sym (g n t m e) ∙ z)

    returns-fit : (o : Option OperandText) → ReturnIs p.control.unit p.control.unit.result o → ((c : Caller) (more : List Caller) → p.callers ≡ c ∷ more → IsSome p.control.unit.result)
        → NextFits items w time u p.control.unit (returns p o p.callers)
    returns-fit o row some = by p.callers refl
      where
        with_value : (c : Caller) (more : List Caller) → p.callers ≡ c ∷ more → (a : OperandText) → ReturnIs p.control.unit p.control.unit.result (Some a) → (v : Option Datum)
            → datum_at p.control.held a.value ≡ v → NextFits items w time u p.control.unit (goes_back p c more (option_map (λ x. with_result c.control.held c.result (datum_held x)) v))
        with_value c more q a r None h = tt
        with_value c more q a r (Some d) h =
            let cs = subst (CallersFit items w p.control.unit) q f.callers in
            back-fits (Some a) c more (with_result c.control.held c.result (datum_held d)) q
            (held-still-fits c.control.unit w c.control.held c.result (Some (datum_held d)) cs.0.fits (λ n m. returned-fits a c r (some c more q) cs.1.1 n m d h))

        goes-back : (c : Caller) (more : List Caller) → p.callers ≡ c ∷ more → (x : Option OperandText) → ReturnIs p.control.unit p.control.unit.result x
            → NextFits items w time u p.control.unit (goes_back p c more (given_back p.control.held x c))
        goes-back c more q None r = back-fits None c more c.control.held q (subst (CallersFit items w p.control.unit) q f.callers).0.fits
        goes-back c more q (Some a) r = with_value c more q a r (datum_at p.control.held a.value) refl

        by : (cs : List Caller) → p.callers ≡ cs → NextFits items w time u p.control.unit (returns p o cs)
        by [] q = tt
        by (c ∷ more) q = goes-back c more q o row

    ends-fit : (o : Option Stand) → ((s : Stand) → o ≡ Some s → StandFits w time p.control.unit s) → NextFits items w time u p.control.unit (ends_at p p.callers o)
    ends-fit o g = by p.callers f.began o g
      where
        by : (cs : List Caller) → lowest p.control cs ≡ u → (x : Option Stand) → ((s : Stand) → x ≡ Some s → StandFits w time p.control.unit s)
            → NextFits items w time u p.control.unit (ends_at p cs x)
        by [] b None k = tt
        by [] b (Some s) k = (
          record { stand = subst (λ (v : UnitText). StandFits w time v s) b (k s refl); held = subst (λ (v : UnitText). Fits v w p.control.held) b f.control.fits; wish = f.wish },
          b,
        )
        by (c ∷ cs) b None k = tt
        by (c ∷ cs) b (Some s) k = tt

-- ---- instructions

-- a point past an instruction, which stands in its block
pub record Past (items : List ItemText) (w : ℕ) (u : UnitText) (l : LineText) (p : Point) : Type 0 where
  pub fits : PointFits items w u p
  pub right : LineRight items p.control.unit l
  pub text : BlockText
  pub block : block_of p.control.block p.control.unit.blocks ≡ Some text
  pub before : List LineText
  pub after : List LineText
  pub split : text.lines ≡ before ++ l ∷ after
  pub some : (c : Caller) (more : List Caller) → p.callers ≡ c ∷ more → IsSome p.control.unit.result

-- past the next instruction
pub past-of : (items : List ItemText) (w : ℕ) (u : UnitText) (p : Point) (l : LineText) (rest : List LineText) → PointFits items w u p → p.control.rest ≡ l ∷ rest
    → Past items w u l (record p { control = record p.control { rest = rest } })
past-of items w u p l rest f e =
    let here : f.control.text.lines ≡ f.control.before ++ l ∷ rest = f.control.split ∙ ap (λ ls. f.control.before ++ ls) e in
    let right = block-has (λ (b : BlockText). Each (LineRight items p.control.unit) b.lines) p.control.block p.control.unit.blocks f.control.text f.control.right.lines f.control.block in
    let all = each-split (LineRight items p.control.unit) f.control.before (l ∷ rest) (subst (Each (LineRight items p.control.unit)) here right) in
    record {
      fits = goes-in items w u p f (record p.control { rest = rest }) (
        record {
          right = f.control.right;
          text = f.control.text;
          block = f.control.block;
          before = f.control.before ++ l ∷ [];
          split = here ∙ sym (append_assoc f.control.before (l ∷ []) rest);
          fits = f.control.fits;
        },
        refl,
      );
      right = all.1.0;
      text = f.control.text;
      block = f.control.block;
      before = f.control.before;
      after = rest;
      split = here;
      some = λ c more q. (subst (CallersFit items w p.control.unit) q f.callers).1.0;
    }

halted-fits : (w : ℕ) (t : Instant) (v : UnitText) (x : Stand) → Some halted ≡ Some x → StandFits w t v x
halted-fits w t v x h = subst (StandFits w t v) (same_Some halted x h) tt

module _ (items : List ItemText) (now : List Bool) (t : Instant) (fs : FunctionsRight items) (u : UnitText) where
  abbrev s : Scene
  s = record { functions = functions items; now = now; at = t }

  -- a call, or an assertion
  call-fits : (p : Point) (f : UnitName) (ty : TypeTree) (os : List OperandText) (r : Option (List ℕ)) → PointFits items (length now) u p
      → ((n : List ℕ) → r ≡ Some n → value_type p.control.unit n ≡ Some ty)
      → ((is_assert f ≡ true) × AssertIsRight p.control.unit ty os) ⊎ ((is_assert f ≡ false) × FunctionIsRight items p.control.unit f ty os)
      → NextFits items (length now) t u p.control.unit (executes s (call_text f ty os) r p)
  call-fits p f ty os r k g (inl a) =
      subst (λ (b : Bool). NextFits items (length now) t u p.control.unit
      (if b then tells p (asserted p.control.held os) else opens p r (called (function_named f (functions items)) (data_at p.control.held os)))) (sym a.0)
      (tells-fit items (length now) t u p k (asserted p.control.held os))
  call-fits p f ty os r k g (inr a) =
      let named : function_named f (functions items) ≡ Some a.1.of = function-is f items a.1.of a.1.named a.1.function in
      let right = fs f a.1.of named in
      let opened : NextFits items (length now) t u p.control.unit (opens p r (called (Some a.1.of) (data_at p.control.held os))) =
      opens-fit items (length now) t u p k r (called (Some a.1.of) (data_at p.control.held os))
      (λ c e.
      let z = called-fits items (length now) p.control.unit a.1.of p.control.held os c right.0 k.control.fits a.1.args_are e in
      (z.0, (subst (λ (v : UnitText). IsSome v.result) (sym z.1) right.1, λ n y q h. g n q ∙ ap Some (a.1.gives y (sym (ap (λ (v : UnitText). v.result) z.1) ∙ h))))) in
      subst (λ (b : Bool). NextFits items (length now) t u p.control.unit
      (if b then tells p (asserted p.control.held os) else opens p r (called (function_named f (functions items)) (data_at p.control.held os)))) (sym a.0)
      (subst (λ (o : Option UnitText). NextFits items (length now) t u p.control.unit (opens p r (called o (data_at p.control.held os)))) (sym named) opened)

  exec-fits : (i : InstText) (r : Option (List ℕ)) (p : Point) → Past items (length now) u (record { result = r; inst = i }) p → NextFits items (length now) t u p.control.unit (executes s i r p)
  exec-fits (const_text d) r p k = gives-fit items (length now) t u p k.fits r (Some (datum_held d))
      (λ n e x y g q. constants-fit (length now) d k.right.sound.written x y g (sym (k.right.sound.gives n e) ∙ q))
  exec-fits (pure_text o os) r p k =
      gives-fit items (length now) t u p k.fits r (operated p.control.unit p.control.held o os)
      (λ n e x y g q. operations-fit p.control.unit (length now) p.control.held o os k.fits.control.fits k.right.sound.row k.right.sound.part k.right.sound.written x y g
      (sym (k.right.sound.gives n e) ∙ q))
  exec-fits (var_text a) r p k = gives-fit items (length now) t u p k.fits r (option_map cell_held (datum_at p.control.held a.value))
      (λ n e. new-cell-fits p.control.unit (length now) p.control.held k.fits.control.fits a (value_type p.control.unit n) k.right.sound.row (k.right.sound.gives n e))
  exec-fits (ld_text a) r p k = gives-fit items (length now) t u p k.fits r (option_map datum_held (cell_at p.control.held a.value))
      (λ n e. stored-fits p.control.unit (length now) p.control.held k.fits.control.fits a (value_type p.control.unit n) k.right.sound.row (k.right.sound.gives n e))
  exec-fits (st_text to value) r p k = stores-fit items (length now) t u p k.fits to.value value k.right.sound.row.0 k.right.sound.row.1.1 k.right.sound.row.2
  exec-fits (prb_text a) r p k = gives-fit items (length now) t u p k.fits r (probed now p.control.held a)
      (λ n e x y g q. probes-fit p.control.unit now p.control.held a k.fits.control.fits k.right.sound.row x y g (sym (k.right.sound.gives n e) ∙ q))
  exec-fits (drv_text to value after cond) r p k =
      wishes-fit items (length now) t u p k.fits (driven t p.control.held p.wish to value after cond)
      (driven-within p.control.unit (length now) p.control.held t p.wish to value after cond k.fits.control.fits k.right.sound.row k.fits.wish)
  exec-fits (call_text f ty os) r p k = call-fits p f ty os r k.fits k.right.sound.gives k.right.named
  exec-fits (phi_text ty es) r p k = k.fits
  exec-fits (br_text to) r p k = enters-fit items (length now) t u p k.fits to
  exec-fits (branch_text cond first second) r p k = branch-fits items (length now) t u p k.fits (chosen (test_at p.control.held cond) first second)
  exec-fits (wait_text to after on) r p k =
      ends-fit items (length now) t u p k.fits (waiting p.control.block to (parts_at p.control.held on) (wake_at t p.control.held after))
      (λ x. waiting-fits (length now) t p.control.unit p.control.held k.fits.control.fits p.control.block to after on x k.right.kinds
      (record { text = k.text; stands = k.block; before = k.before; after = k.after; name = r; delay = after; signals = on; split = k.split }))
  exec-fits halt_text r p k = ends-fit items (length now) t u p k.fits (Some halted) (halted-fits (length now) t p.control.unit)
  exec-fits (ret_text o) r p k = returns-fit items (length now) t u p k.fits o k.right.sound.row k.some
  exec-fits (sig_text a) r p k = tt
  exec-fits (reg_text to gs) r p k = tt
  exec-fits (child_text v is os) r p k = tt

  -- what fits before the next instruction fits after it
  pub step-fits : (p : Point) → PointFits items (length now) u p → NextFits items (length now) t u p.control.unit (step s p)
  step-fits p f = by p.control.rest refl
    where
      by : (ls : List LineText) → p.control.rest ≡ ls → NextFits items (length now) t u p.control.unit (steps_by s p ls)
      by [] e = tt
      by (l ∷ rest) e = exec-fits l.inst l.result (record p { control = record p.control { rest = rest } }) (past-of items (length now) u p l rest f e)
