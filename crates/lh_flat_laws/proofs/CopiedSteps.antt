-- An instruction of a process and its copy lead to points that are alike, but for calls of functions and returns.
use Rattle.std.proofs.Common.{◌≡◌, ℕ, inl, Bool, true, false, if◌then◌else◌, List, [], ◌∷◌, ◌++◌, map, Option, Some, None, refl, ap, sym, ◌∙◌, subst}
use Rattle.std.specs.Option.{option_map, option_and_then}
use Rattle.std.proofs.lemmas.Option.{same_Some, none-some}
use Rattle.lh_time.specs.declared.Instant.{Instant}
use Rattle.lh_types.specs.Types.{TypeTree, signal_type}
use Rattle.lh_types.specs.Values.{Datum}
use Rattle.lh_types.specs.Apply.{apply}
use Rattle.lh_types.specs.Bits.{value_from_bits}
use Rattle.lh_types.specs.declared.op.Op.{Op}
use Rattle.lh_types.specs.declared.part.Step.{Step}
use Rattle.lh_types.specs.declared.part.Range.{Range}
use Rattle.lh_unit_names.specs.declared.name.UnitName.{UnitName}
use Rattle.lh_unit.specs.Contents.{OperandText, InstText, const_text, pure_text, var_text, ld_text, st_text, sig_text, prb_text, drv_text, reg_text, child_text, call_text, phi_text, br_text, branch_text, wait_text, halt_text, ret_text, UnitText}
use Rattle.lh_unit.specs.Named.{function_named}
use Rattle.lh_unit_names.specs.UnitNames.{is_assert}
use Rattle.lh_unit.specs.Places.{is_terminator}
use Rattle.lh_unit.specs.Typing.{value_type, carried, or_else}
use Rattle.lh_unit.specs.Held.{Held, datum_held, cell_held, part_held, Env, with_held, as_datum, as_part, datum_at, cell_at, part_at, data_at, parts_at, test_at, front, bits_in}
use Rattle.lh_unit.specs.Effects.{operated, signal_part, stepped, step_of, probed, read_bits, driven}
use Rattle.lh_unit.specs.Activation.{Scene, Stand, waits, halted, Control, Point, Next, stores, tells, jumps, chosen, entered, waiting, wake_at, ends_at, asserted, opens, called, executes}
use Rattle.lh_flat.specs.Copies.{Copy, top_copy, first_piece, last_piece_of, copied_operand, copied}
use Rattle.lh_flat.specs.Marks.{IsPlain}
use Rattle.lh_flat_laws.specs.Tidy.{ResultIsNew, UnitTidy, FunctionsTidy}
use Rattle.lh_flat_laws.specs.Activates.{flat_stand, StandIsPlain}
use Rattle.lh_flat_laws.proofs.HeldValues.{Keeps, keeps-same, keeps-map, Holds, Holds-put, Below-put, keeps-datum, keeps-cell, keeps-test, keeps-data, keeps-parts, keeps-probed, keeps-driven, keeps-asserted, keeps-wake}
use Rattle.lh_flat_laws.proofs.TopTypes.{type-same}
use Rattle.lh_flat_laws.proofs.Alike.{flat, InPlace, Alike, label-plain}
use Rattle.lh_flat_laws.proofs.CopyPoints.{Follows, Enters, enters, gives-follows, jump-follows, wish-follows, tell-follows, ends-follows, alike-held, runs-end}
use Rattle.lh_eval.proofs.GivesFit.{cell-held, part-held}

datum_no_part : (d : Datum) (r : Range) → datum_held d ≡ part_held r → ⊥
datum_no_part d r e = cc

cell_no_part : (d : Datum) (r : Range) → cell_held d ≡ part_held r → ⊥
cell_no_part d r e = cc

-- a probe, a variable and what is read of one are no parts
map-no_part : (g : Datum → Held) (x : Option Datum) (h : Held) (r : Range) → ((d : Datum) → g d ≡ part_held r → ⊥) → option_map g x ≡ Some h → h ≡ part_held r → ⊥
map-no_part g None h r n e q = none-some h e
map-no_part g (Some d) h r n e q = n d (same_Some (g d) h e ∙ q)

probed-no_part : (now : List Bool) (e : Env) (a : OperandText) (h : Held) (r : Range) → probed now e a ≡ Some h → h ≡ part_held r → ⊥
probed-no_part now e a h r q z = by (option_and_then carried a.ty) (part_at e a.value) q
  where
    by : (t : Option TypeTree) (x : Option Range) → read_bits now t x ≡ Some h → ⊥
    by None x y = none-some h y
    by (Some t) None y = none-some h y
    by (Some t) (Some x) y = no (same_Some _ h y ∙ z)
      where
        no : datum_held (value_from_bits t (bits_in now x)) ≡ part_held r → ⊥
        no v = cc

-- what a step into a signal needs
record Step-of (t : Option TypeTree) (x : Option Range) : Type 0 where
  pub part : Range
  pub is : x ≡ Some part

stepped-part : (t : Option TypeTree) (x : Option Range) (o : Option Step) (h : Held) → stepped t x o ≡ Some h → Step-of t x
stepped-part None x o h e = absurd (none-some h e)
stepped-part (Some t) None o h e = absurd (none t o e)
  where
    none : (t : TypeTree) (o : Option Step) → stepped (Some t) None o ≡ Some h → ⊥
    none (signal_type t) o q = none-some h q
    none _ o q = none-some h q
stepped-part (Some t) (Some r) o h e = record { part = r; is = refl }

module _ (s : Scene) (u : UnitText) (name : UnitName) (top : ℕ) (w : FunctionsTidy s.functions) where
  -- ---- operations

  -- a part of a signal stands in the process alone
  part-top : (c : Copy) (e f : Env) (o : Op) (args : List OperandText) (h : Held) → Holds u c e f → signal_part c.unit e o args ≡ Some h → (x : OperandText) × (r : Range) × (args ≡ x ∷ [])
      × (e x.value ≡ Some (part_held r))
  part-top c e f o [] h k q = absurd (none-some h q)
  part-top c e f o (x ∷ []) h k q = let r = stepped-part (value_type c.unit x.value) (part_at e x.value) (step_of o) h q in (x, r.part, refl, part-held (e x.value) r.part r.is)
  part-top c e f o (x ∷ y ∷ more) h k q = absurd (none-some h q)

  -- where it is read, the flat text reads it too
  part-same : (e f : Env) (o : Op) (x : OperandText) (r : Range) (h : Held) → UnitTidy s.functions u → Holds u (top_copy u) e f → e x.value ≡ Some (part_held r) → signal_part u e o (x ∷ []) ≡ Some h
      → operated (flat s u name top w) f o (x ∷ []) ≡ Some h
  part-same e f o x r h t k z q =
      let there : f x.value ≡ Some (part_held r) = k.same x.value (part_held r) z in
      ap (λ v. or_else (option_map (λ ds. datum_held (apply o ds)) (front (option_and_then as_datum v) (Some []))) (signal_part (flat s u name top w) f o (x ∷ []))) there
      ∙ ap (λ v. stepped v (part_at f x.value) (step_of o)) (type-same s.functions w x.value (k.plain x.value (part_held r) z) top u name t)
      ∙ ap (λ v. stepped (value_type u x.value) (option_and_then as_part v) (step_of o)) (there ∙ sym z)
      ∙ q

  keeps-operated : (left : ℕ) (c : Copy) (e f : Env) (o : Op) (args : List OperandText) → InPlace s u name top w left c → Holds u c e f
      → Keeps (operated c.unit e o args) (operated (flat s u name top w) f o (map (copied_operand c) args))
  keeps-operated left c e f o args p k h q = by (data_at e args) refl q
    where
      parted : (x : OperandText) (r : Range) → args ≡ x ∷ [] → e x.value ≡ Some (part_held r) → signal_part c.unit e o args ≡ Some h → (d : Copy) → d ≡ c
          → (d ≡ top_copy u → UnitTidy s.functions u → Holds u d e f → signal_part d.unit e o (x ∷ []) ≡ Some h → operated (flat s u name top w) f o (map (copied_operand d) (x ∷ [])) ≡ Some h)
          → operated (flat s u name top w) f o (map (copied_operand c) args) ≡ Some h
      parted x r a z y d i go =
          let t : c ≡ top_copy u = k.parts x.value r z in
          let tidy : UnitTidy s.functions u = subst (λ (v : Copy). UnitTidy s.functions v.unit) t p.tidy in
          ap (λ v. operated (flat s u name top w) f o (map (copied_operand c) v)) a
          ∙ ap (λ (v : Copy). operated (flat s u name top w) f o (map (copied_operand v) (x ∷ []))) (sym i)
          ∙ go (i ∙ t) tidy (subst (λ (v : Copy). Holds u v e f) (sym i) k) (subst (λ (v : Copy). signal_part v.unit e o (x ∷ []) ≡ Some h) (sym i) (ap (signal_part c.unit e o) (sym a) ∙ y))

      at-top : (x : OperandText) (r : Range) → e x.value ≡ Some (part_held r) → (d : Copy) → d ≡ top_copy u → UnitTidy s.functions u → Holds u d e f → signal_part d.unit e o (x ∷ []) ≡ Some h
          → operated (flat s u name top w) f o (map (copied_operand d) (x ∷ [])) ≡ Some h
      at-top x r z d i t m y =
          ap (λ (v : Copy). operated (flat s u name top w) f o (map (copied_operand v) (x ∷ []))) i
          ∙ part-same e f o x r h t (subst (λ (v : Copy). Holds u v e f) i m) z (subst (λ (v : Copy). signal_part v.unit e o (x ∷ []) ≡ Some h) i y)

      by : (v : Option (List Datum)) → data_at e args ≡ v → or_else (option_map (λ ds. datum_held (apply o ds)) v) (signal_part c.unit e o args) ≡ Some h
          → operated (flat s u name top w) f o (map (copied_operand c) args) ≡ Some h
      by (Some ds) d y = ap (λ v. or_else (option_map (λ xs. datum_held (apply o xs)) v) (signal_part (flat s u name top w) f o (map (copied_operand c) args))) (keeps-data u c e f k args ds d) ∙ y
      by None d y = let m = part-top c e f o args h k y in parted m.0 m.1 m.2 m.3 y c refl (at-top m.0 m.1 m.3 c)

  operated-part : (c : Copy) (e f : Env) (o : Op) (args : List OperandText) → Holds u c e f → (h : Held) (r : Range) → operated c.unit e o args ≡ Some h → h ≡ part_held r → c ≡ top_copy u
  operated-part c e f o args k h r q z = by (data_at e args) q
    where
      by : (v : Option (List Datum)) → or_else (option_map (λ ds. datum_held (apply o ds)) v) (signal_part c.unit e o args) ≡ Some h → c ≡ top_copy u
      by (Some ds) y = absurd (datum_no_part (apply o ds) r (same_Some (datum_held (apply o ds)) h y ∙ z))
      by None y = let m = part-top c e f o args h k y in k.parts m.0.value m.1 m.3

  -- ---- stores

  store-follows : (p f : Point) (a : Alike s u name top w p f) (n : List ℕ) (x : Option Datum) (y : Option Datum) (v z : Option Datum) → cell_at p.control.held n ≡ x → Keeps x y → Keeps v z
      → Follows s u name top w (stores p n x v) (stores f (a.copy.value n) y z)
  store-follows p f a n None y v z e k l = tt
  store-follows p f a n (Some old) y None z e k l = tt
  store-follows p f a n (Some old) y (Some d) z e k l =
      let h : p.control.held n ≡ Some (cell_held old) = cell-held (p.control.held n) old e in
      let own : a.copy.value n ≡ a.copy.path ++ n = a.holds.cells n old h in
      subst (λ i. Follows s u name top w (stores p n (Some old) (Some d)) (stores f (a.copy.value n) i z)) (sym (k old refl))
      (subst (λ i. Follows s u name top w (stores p n (Some old) (Some d)) (stores f (a.copy.value n) (Some old) i)) (sym (l d refl))
      (inl (alike-held s u name top w p f a (with_held p.control.held n (cell_held d)) (with_held f.control.held (a.copy.value n) (cell_held d)) record {
        holds = Holds-put u a.copy p.control.held f.control.held n (cell_held d) a.place.fits a.holds (a.holds.plain n (cell_held old) h) own (λ r q. absurd (cell_no_part d r q));
        below = Below-put a.copy f.control.held n (cell_held d) own;
      })))

  -- ---- branches

  plain-block : (p f : Point) (a : Alike s u name top w p f) → IsPlain p.control.block
  plain-block p f a = label-plain s u name top w a.left a.copy p.control.block a.runs.text a.place a.runs.stands

  at-end : (p f : Point) (a : Alike s u name top w p f) → p.control.rest ≡ [] → f.control.block ≡ last_piece_of s.functions a.copy p.control.block
  at-end p f a e = runs-end s u name top w a.left a.copy p.control f.control.block f.control.rest a.runs e

  into : (p f : Point) (a : Alike s u name top w p f) (to : List ℕ) (k : Control) → p.control.rest ≡ [] → entered p.control.unit p.control.held p.control.block to ≡ Some k
      → Enters s u name top w a.left a.copy k f.control.held (entered f.control.unit f.control.held f.control.block (first_piece a.copy to))
  into p f a to k e q =
      subst (λ v. Enters s u name top w a.left a.copy k f.control.held (entered v f.control.held f.control.block (first_piece a.copy to))) (sym a.unit)
      (subst (λ v. Enters s u name top w a.left a.copy k f.control.held (entered (flat s u name top w) f.control.held v (first_piece a.copy to))) (sym (at-end p f a e))
      (enters s u name top w a.left a.copy p.control.held f.control.held p.control.block to k a.place a.holds (plain-block p f a)
      (ap (λ v. entered v p.control.held p.control.block to) (sym a.runs.unit) ∙ q)))

  br-follows : (p f : Point) (a : Alike s u name top w p f) (to : List ℕ) → p.control.rest ≡ []
      → Follows s u name top w (jumps p (entered p.control.unit p.control.held p.control.block to)) (jumps f (entered f.control.unit f.control.held f.control.block (first_piece a.copy to)))
  br-follows p f a to e = jump-follows s u name top w p f a (entered p.control.unit p.control.held p.control.block to) (entered f.control.unit f.control.held f.control.block (first_piece a.copy to))
      (λ k q. into p f a to k e q)

  branch-follows : (p f : Point) (a : Alike s u name top w p f) (first second : List ℕ) (x y : Option Bool) → p.control.rest ≡ [] → Keeps x y
      → Follows s u name top w (jumps p (option_and_then (entered p.control.unit p.control.held p.control.block) (chosen x first second))) (jumps f
      (option_and_then (entered f.control.unit f.control.held f.control.block) (chosen y (first_piece a.copy first) (first_piece a.copy second))))
  branch-follows p f a first second None y e k = tt
  branch-follows p f a first second (Some false) y e k =
      subst (λ z. Follows s u name top w (jumps p (entered p.control.unit p.control.held p.control.block first))
      (jumps f (option_and_then (entered f.control.unit f.control.held f.control.block) (chosen z (first_piece a.copy first) (first_piece a.copy second))))) (sym (k false refl))
      (br-follows p f a first e)
  branch-follows p f a first second (Some true) y e k =
      subst (λ z. Follows s u name top w (jumps p (entered p.control.unit p.control.held p.control.block second))
      (jumps f (option_and_then (entered f.control.unit f.control.held f.control.block) (chosen z (first_piece a.copy first) (first_piece a.copy second))))) (sym (k true refl))
      (br-follows p f a second e)

  -- ---- ends

  end-follows : (p f : Point) (a : Alike s u name top w p f) (x y : Option Stand) → (a.copy ≡ top_copy u → (v : Stand) → x ≡ Some v → (y ≡ Some (flat_stand s.functions u v)) × StandIsPlain v)
      → Follows s u name top w (ends_at p p.callers x) (ends_at f f.callers y)
  end-follows p f a x y h = subst (λ cs. Follows s u name top w (ends_at p p.callers x) (ends_at f cs y)) (sym a.none) (ends-follows s u name top w p f a p.callers x y a.callers h)

  waits-same : (c : Copy) (block here to : List ℕ) (on on' : Option (List Range)) (wake wake' : Option (Option Instant)) → IsPlain block → here ≡ last_piece_of s.functions c block → Keeps on on'
      → Keeps wake wake' → c ≡ top_copy u → (v : Stand) → waiting block to on wake ≡ Some v
      → (waiting here (first_piece c to) on' wake' ≡ Some (flat_stand s.functions u v)) × StandIsPlain v
  waits-same c block here to None on' wake wake' p e k l t v q = absurd (none-some v q)
  waits-same c block here to (Some x) on' None wake' p e k l t v q = absurd (none-some v q)
  waits-same c block here to (Some x) on' (Some y) wake' p e k l t v q = (
    ap (λ o. waiting here (first_piece c to) o wake') (k x refl)
        ∙ ap (λ o. waiting here (first_piece c to) (Some x) o) (l y refl)
        ∙ ap (λ n. Some (waits n (first_piece c to) x y)) (e ∙ ap (λ (d : Copy). last_piece_of s.functions d block) t)
        ∙ ap (λ (d : Copy). Some (waits (last_piece_of s.functions (top_copy u) block) (first_piece d to) x y)) t
        ∙ ap (λ z. Some (flat_stand s.functions u z)) (same_Some (waits block to x y) v q),
    subst StandIsPlain (same_Some (waits block to x y) v q) p,
  )

  halts-same : (v : Stand) → Some halted ≡ Some v → (Some halted ≡ Some (flat_stand s.functions u v)) × StandIsPlain v
  halts-same v e = (ap (λ z. Some (flat_stand s.functions u z)) (same_Some halted v e), subst StandIsPlain (same_Some halted v e) tt)

  first-follows : (b : Bool) (x y z v : Next) → b ≡ true → Follows s u name top w x z → Follows s u name top w (if b then x else y) (if b then z else v)
  first-follows true x y z v e h = h
  first-follows false x y z v e h = absurd cc

  -- ---- an instruction, of which control is past in both; no function is called, and none returns

  abbrev pub Simple : InstText → Type 0
  Simple (call_text f ty args) = is_assert f ≡ true
  Simple (ret_text o) = ⊥
  Simple _ = Unit {0}

  pub executes-follow : (p f : Point) (a : Alike s u name top w p f) (i : InstText) (r : Option (List ℕ)) → ResultIsNew a.copy.unit r → Simple i → (is_terminator i ≡ true → p.control.rest ≡ [])
      → Follows s u name top w (executes s i r p) (executes s (copied s.functions a.copy i) (option_map a.copy.value r) f)
  executes-follow p f a (const_text d) r t m e = gives-follows s u name top w p f a r (Some (datum_held d)) (Some (datum_held d)) t (keeps-same (Some (datum_held d)))
      (λ h x q z. absurd (datum_no_part d x (same_Some (datum_held d) h q ∙ z)))
  executes-follow p f a (pure_text o args) r t m e =
      gives-follows s u name top w p f a r (operated p.control.unit p.control.held o args) (operated f.control.unit f.control.held o (map (copied_operand a.copy) args)) t
      (λ h q. ap (λ v. operated v f.control.held o (map (copied_operand a.copy) args)) a.unit
      ∙ keeps-operated a.left a.copy p.control.held f.control.held o args a.place a.holds h (ap (λ v. operated v p.control.held o args) (sym a.runs.unit) ∙ q))
      (λ h x q z. operated-part a.copy p.control.held f.control.held o args a.holds h x (ap (λ v. operated v p.control.held o args) (sym a.runs.unit) ∙ q) z)
  executes-follow p f a (var_text x) r t m e =
      gives-follows s u name top w p f a r (option_map cell_held (datum_at p.control.held x.value)) (option_map cell_held (datum_at f.control.held (a.copy.value x.value))) t
      (keeps-map cell_held (datum_at p.control.held x.value) (datum_at f.control.held (a.copy.value x.value)) (keeps-datum u a.copy p.control.held f.control.held a.holds x.value))
      (λ h y q z. absurd (map-no_part cell_held (datum_at p.control.held x.value) h y (λ d. cell_no_part d y) q z))
  executes-follow p f a (ld_text x) r t m e =
      gives-follows s u name top w p f a r (option_map datum_held (cell_at p.control.held x.value)) (option_map datum_held (cell_at f.control.held (a.copy.value x.value))) t
      (keeps-map datum_held (cell_at p.control.held x.value) (cell_at f.control.held (a.copy.value x.value)) (keeps-cell u a.copy p.control.held f.control.held a.holds x.value))
      (λ h y q z. absurd (map-no_part datum_held (cell_at p.control.held x.value) h y (λ d. datum_no_part d y) q z))
  executes-follow p f a (st_text to value) r t m e =
      store-follows p f a to.value (cell_at p.control.held to.value) (cell_at f.control.held (a.copy.value to.value)) (datum_at p.control.held value) (datum_at f.control.held (a.copy.value value))
      refl
      (keeps-cell u a.copy p.control.held f.control.held a.holds to.value) (keeps-datum u a.copy p.control.held f.control.held a.holds value)
  executes-follow p f a (prb_text x) r t m e =
      gives-follows s u name top w p f a r (probed s.now p.control.held x) (probed s.now f.control.held (copied_operand a.copy x)) t
      (keeps-probed u a.copy p.control.held f.control.held a.holds s.now x)
      (λ h y q z. absurd (probed-no_part s.now p.control.held x h y q z))
  executes-follow p f a (drv_text to value after cond) r t m e =
      wish-follows s u name top w p f a (driven s.at p.control.held p.wish to value after cond)
      (driven s.at f.control.held f.wish (copied_operand a.copy to) (a.copy.value value) (a.copy.value after) (option_map a.copy.value cond))
      (λ v q. ap (λ x. driven s.at f.control.held x (copied_operand a.copy to) (a.copy.value value) (a.copy.value after) (option_map a.copy.value cond)) a.wish
      ∙ keeps-driven u a.copy p.control.held f.control.held a.holds s.at p.wish to value after cond v q)
  executes-follow p f a (call_text g ty args) r t m e =
      first-follows (is_assert g) (tells p (asserted p.control.held args)) (opens p r (called (function_named g s.functions) (data_at p.control.held args)))
      (tells f (asserted f.control.held (map (copied_operand a.copy) args)))
      (opens f (option_map a.copy.value r) (called (function_named g s.functions) (data_at f.control.held (map (copied_operand a.copy) args)))) m
      (tell-follows s u name top w p f a (asserted p.control.held args) (asserted f.control.held (map (copied_operand a.copy) args))
      (keeps-asserted u a.copy p.control.held f.control.held a.holds args))
  executes-follow p f a (phi_text ty edges) r t m e = inl a
  executes-follow p f a (br_text to) r t m e = br-follows p f a to (e refl)
  executes-follow p f a (branch_text cond first second) r t m e =
      branch-follows p f a first second (test_at p.control.held cond) (test_at f.control.held (a.copy.value cond)) (e refl) (keeps-test u a.copy p.control.held f.control.held a.holds cond)
  executes-follow p f a (wait_text to after signals) r t m e =
      end-follows p f a (waiting p.control.block to (parts_at p.control.held signals) (wake_at s.at p.control.held after))
      (waiting f.control.block (first_piece a.copy to) (parts_at f.control.held (map a.copy.value signals)) (wake_at s.at f.control.held (option_map a.copy.value after)))
      (waits-same a.copy p.control.block f.control.block to (parts_at p.control.held signals) (parts_at f.control.held (map a.copy.value signals)) (wake_at s.at p.control.held after)
      (wake_at s.at f.control.held (option_map a.copy.value after)) (plain-block p f a) (at-end p f a (e refl))
      (keeps-parts u a.copy p.control.held f.control.held a.holds signals) (keeps-wake u a.copy p.control.held f.control.held a.holds s.at after))
  executes-follow p f a halt_text r t m e = end-follows p f a (Some halted) (Some halted) (λ c. halts-same)
  executes-follow p f a (ret_text o) r t m e = absurd m
  executes-follow p f a (sig_text x) r t m e = tt
  executes-follow p f a (reg_text to triggers) r t m e = tt
  executes-follow p f a (child_text v inputs outputs) r t m e = tt
