-- A point of an activation of a process and one of its flat text that are alike, and how both enter a block.
use Rattle.std.proofs.Common.{◌≡◌, ℕ, suc, ◌+◌, ◌≤◌, Bool, true, false, List, [], ◌∷◌, ◌++◌, length, map, Option, Some, None, refl, ap, sym, ◌∙◌, subst, arith}
use Rattle.std.specs.Option.{option_map, option_and_then}
use Rattle.std.proofs.lemmas.Option.{same_Some, none-some}
use Rattle.lh_types.specs.Types.{TypeTree}
use Rattle.lh_types.specs.Values.{Datum}
use Rattle.lh_types.specs.declared.part.Range.{Range}
use Rattle.lh_unit_names.specs.declared.name.UnitName.{UnitName}
use Rattle.lh_unit.specs.Contents.{EdgeText, InstText, const_text, pure_text, var_text, ld_text, st_text, sig_text, prb_text, drv_text, reg_text, child_text, call_text, phi_text, br_text, branch_text, wait_text, halt_text, ret_text, LineText, BlockText, UnitText}
use Rattle.lh_unit.specs.Named.{block_of}
use Rattle.lh_unit.specs.WellFormed.{is_phi}
use Rattle.lh_unit.specs.Held.{Held, datum_held, part_held, Env, with_result, datum_at}
use Rattle.lh_unit.specs.Activation.{Scene, Control, Caller, Point, edge_from, result_put, phi_taken, phis_taken}
use Rattle.lh_unit.specs.Within.{Each}
use Rattle.lh_flat.specs.Calls.{callees, nest_deeper}
use Rattle.lh_flat.specs.Copies.{Copy, top_copy, call_path, opened, first_piece, last_from, last_piece_of, copied, copied_edge}
use Rattle.lh_flat.specs.Flat.{FlatBlockText, with_line, pieces_from, flat_copy, flat_unit}
use Rattle.lh_flat.specs.Marks.{marks, IsPlain}
use Rattle.lh_flat_laws.specs.Tidy.{Either, EdgesArePlain, ResultIsNew, LineTidy, BlockTidy, UnitTidy, FunctionsTidy, NoPhis, PhisFirst}
use Rattle.lh_flat_laws.proofs.BlocksFound.{IsLabelled, UnitLabelled, AllLabelled, opens-is, opens-path, BlocksAreFound}
use Rattle.lh_flat_laws.proofs.HeldValues.{CopyFits, Holds, Holds-put, Holds-below, Below, Below-put, Below-same, Below-then, keeps-datum}
use Rattle.lh_flat_laws.proofs.LastPieces.{block-each, edge-copied}
use Rattle.lh_flat_laws.proofs.TopTypes.{path-marks}
use Rattle.lh_flat_laws.proofs.Facts.{label-found}

-- labels of tidy units
pub tidy-labelled : (fs : List UnitText) (u : UnitText) → UnitTidy fs u → UnitLabelled u
tidy-labelled fs u t = by u.blocks t.blocks
  where
    by : (bs : List BlockText) → Each (BlockTidy fs u) bs → Each IsLabelled bs
    by [] e = tt
    by (b ∷ bs) e = (record { some = e.0.labelled; plain = e.0.plain }, by bs e.1)

pub functions-labelled : (fs : List UnitText) → FunctionsTidy fs → AllLabelled fs
functions-labelled fs w n f e = tidy-labelled fs f (w n f e)

pub Below-less : (j k : ℕ) (f g : Env) → j ≤ k → Below k f g → Below j f g
Below-less j k f g l b = record { keeps = λ n h. b.keeps n (omega (arith, l, h)) }

-- what an instruction gives is held in both
pub record GivesInBoth (u : UnitText) (c : Copy) (e f g : Env) : Type 0 where
  pub holds : Holds u c e g
  pub below : Below (marks c.path) f g

pub gives-result : (u : UnitText) (c : Copy) (e f : Env) (r : Option (List ℕ)) (h : Held) → CopyFits c → Holds u c e f → ResultIsNew c.unit r → ((x : Range) → h ≡ part_held x → c ≡ top_copy u)
    → GivesInBoth u c (with_result e r h) f (with_result f (option_map c.value r) h)
gives-result u c e f None h o k t p = record { holds = k; below = Below-same (marks c.path) f }
gives-result u c e f (Some n) h o k t p = record { holds = Holds-put u c e f n h o k t.0 (o.own n t.1) p; below = Below-put c f n h (o.own n t.1) }

module _ (s : Scene) (u : UnitText) (name : UnitName) (top : ℕ) (w : FunctionsTidy s.functions) where
  abbrev pub fs : List UnitText
  fs = s.functions

  -- the flat text
  abbrev pub all : List FlatBlockText
  all = flat_copy (suc top) s.functions (top_copy u)

  abbrev pub flat : UnitText
  flat = flat_unit name (record { args = u.args; blocks = flat_copy (suc top) s.functions (top_copy u) })

  -- a copy in the flat text, in which no more than so many calls nest
  pub record InPlace (left : ℕ) (c : Copy) : Type 0 where
    pub tidy : UnitTidy s.functions c.unit
    pub stands : BlocksAreFound s.functions (functions-labelled s.functions w) all (suc left) c
    pub nests : nest_deeper left s.functions (callees c.unit) ≡ false
    pub fits : CopyFits c

  -- control stands in a block of a unit, and in the piece of it with this label, of which this rest is to come
  pub record Runs (left : ℕ) (c : Copy) (at : Control) (block : List ℕ) (rest : List LineText) : Type 0 where
    pub text : BlockText
    pub before : List LineText
    pub unit : at.unit ≡ c.unit
    pub stands : block_of at.block c.unit.blocks ≡ Some text
    pub split : text.lines ≡ before ++ at.rest
    pub here : block ≡ last_from s.functions c at.block (first_piece c at.block) 0 before
    pub next : rest ≡ (pieces_from (flat_copy left s.functions) s.functions c at.block (length before) at.rest).rest

  -- an open call in the copy c, by which the copy d runs
  pub record CallAt (left : ℕ) (c : Copy) (x : Caller) (d : Copy) (f : Env) : Type 0 where
    pub place : InPlace (suc left) c
    pub text : BlockText
    pub before : List LineText
    pub line : LineText
    pub unit : x.control.unit ≡ c.unit
    pub stands : block_of x.control.block c.unit.blocks ≡ Some text
    pub split : text.lines ≡ before ++ line ∷ x.control.rest
    pub opens : opened s.functions c (call_path c x.control.block (length before)) line.inst ≡ Some d
    pub result : x.result ≡ line.result
    pub holds : Holds u c x.control.held f

  -- the open calls, the last one first, down to the process
  abbrev pub Callers : List Caller → (left : ℕ) → Copy → Env → Type 0
  Callers [] left d f = d ≡ top_copy u
  Callers (x ∷ more) left d f = (c : Copy) × CallAt left c x d f × Callers more (suc left) c f

  -- the flat text has no open call, holds what each copy holds, and has given the same
  pub record Alike (p f : Point) : Type 0 where
    pub copy : Copy
    pub left : ℕ
    pub place : InPlace left copy
    pub runs : Runs left copy p.control f.control.block f.control.rest
    pub unit : f.control.unit ≡ flat
    pub holds : Holds u copy p.control.held f.control.held
    pub callers : Callers p.callers left copy f.control.held
    pub none : f.callers ≡ []
    pub count : length p.callers + left ≡ top
    pub wish : f.wish ≡ p.wish
    pub outcomes : f.outcomes ≡ p.outcomes

  -- a label of a copy is of bytes
  pub block-tidy : (left : ℕ) (c : Copy) (label : List ℕ) (b : BlockText) → InPlace left c → block_of label c.unit.blocks ≡ Some b → BlockTidy s.functions c.unit b
  block-tidy left c label b o e = block-each (BlockTidy s.functions c.unit) label c.unit.blocks b e o.tidy.blocks

  pub label-plain : (left : ℕ) (c : Copy) (label : List ℕ) (b : BlockText) → InPlace left c → block_of label c.unit.blocks ≡ Some b → IsPlain label
  label-plain left c label b o e = subst IsPlain (label-found label c.unit.blocks b e) (block-tidy left c label b o e).plain

  -- open calls hold what they held
  pub callers-below : (xs : List Caller) (left : ℕ) (d : Copy) (f g : Env) → Callers xs left d f → Below (marks d.path) f g → Callers xs left d g
  callers-below [] left d f g k b = k
  callers-below (x ∷ xs) left d f g (c, o, k) b =
      let e : marks d.path ≡ suc (marks c.path) =
      ap marks (opens-path s.functions c (call_path c x.control.block (length o.before)) o.line.inst d (opens-is s.functions c (call_path c x.control.block (length o.before)) o.line.inst d o.opens))
      ∙ path-marks c x.control.block (length o.before) (label-plain (suc left) c x.control.block o.text o.place o.stands) in (
        c,
        record {
          place = o.place;
          text = o.text;
          before = o.before;
          line = o.line;
          unit = o.unit;
          stands = o.stands;
          split = o.split;
          opens = o.opens;
          result = o.result;
          holds = Holds-below u c x.control.held f g (marks d.path) o.place.fits o.holds (omega (arith, e)) b;
        },
        callers-below xs (suc left) c f g k (Below-less (marks c.path) (marks d.path) f g (omega (arith, e)) b),
      )

  -- ---- the `phi` of a block

  -- so they are taken in both
  pub record Taken (c : Copy) (e f : Env) (x : Option Env) : Type 0 where
    pub after : Env
    pub taken : x ≡ Some after
    pub gives : GivesInBoth u c e f after

  no_phi-taken : (from : List ℕ) (e : Env) (i : InstText) (r : Option (List ℕ)) (x : Option Env) → is_phi i ≡ false → phi_taken from e i r x ≡ x
  no_phi-taken from e (phi_text ty edges) r x q = absurd cc
  no_phi-taken from e (const_text d) r x q = refl
  no_phi-taken from e (pure_text op args) r x q = refl
  no_phi-taken from e (var_text a) r x q = refl
  no_phi-taken from e (ld_text a) r x q = refl
  no_phi-taken from e (st_text to value) r x q = refl
  no_phi-taken from e (sig_text a) r x q = refl
  no_phi-taken from e (prb_text a) r x q = refl
  no_phi-taken from e (drv_text to value after cond) r x q = refl
  no_phi-taken from e (reg_text to triggers) r x q = refl
  no_phi-taken from e (child_text v inputs outputs) r x q = refl
  no_phi-taken from e (call_text f ty args) r x q = refl
  no_phi-taken from e (br_text to) r x q = refl
  no_phi-taken from e (branch_text cond first second) r x q = refl
  no_phi-taken from e (wait_text to after signals) r x q = refl
  no_phi-taken from e halt_text r x q = refl
  no_phi-taken from e (ret_text o) r x q = refl

  pub no_phis-taken : (from : List ℕ) (e : Env) (ls : List LineText) → NoPhis ls → phis_taken from e ls ≡ Some e
  no_phis-taken from e [] h = refl
  no_phis-taken from e (l ∷ ls) h = no_phi-taken from e l.inst l.result (phis_taken from e ls) h.0 ∙ no_phis-taken from e ls h.1

  copied-phi : (c : Copy) (i : InstText) → is_phi (copied s.functions c i) ≡ is_phi i
  copied-phi c (const_text d) = refl
  copied-phi c (pure_text op args) = refl
  copied-phi c (var_text a) = refl
  copied-phi c (ld_text q) = refl
  copied-phi c (st_text to value) = refl
  copied-phi c (sig_text a) = refl
  copied-phi c (prb_text a) = refl
  copied-phi c (drv_text to value after cond) = refl
  copied-phi c (reg_text to triggers) = refl
  copied-phi c (child_text v inputs outputs) = refl
  copied-phi c (call_text f result args) = refl
  copied-phi c (phi_text ty edges) = refl
  copied-phi c (br_text to) = refl
  copied-phi c (branch_text cond first second) = refl
  copied-phi c (wait_text to after signals) = refl
  copied-phi c halt_text = refl
  copied-phi c (ret_text o) = refl

  -- nor is there one in the piece
  pub no_phis-copied : (copy_of : Copy → List FlatBlockText) (c : Copy) (label : List ℕ) (k : ℕ) (ls : List LineText) → NoPhis ls → NoPhis (pieces_from copy_of s.functions c label k ls).rest
  no_phis-copied copy_of c label k [] h = tt
  no_phis-copied copy_of c label k (l ∷ ls) h = by (opened s.functions c (call_path c label k) l.inst) (no_phis-copied copy_of c label (k + 1) ls h.1)
    where
      by : (o : Option Copy) → NoPhis (pieces_from copy_of s.functions c label (k + 1) ls).rest → NoPhis (with_line copy_of s.functions c l o (pieces_from copy_of s.functions c label (k + 1) ls)).rest
      by None q = (copied-phi c l.inst ∙ h.0, q)
      by (Some d) q = (refl, tt)

  phi-is : (i : InstText) → is_phi i ≡ true → (ty : TypeTree) × (edges : List EdgeText) × (i ≡ phi_text ty edges)
  phi-is (phi_text ty edges) q = (ty, edges, refl)
  phi-is _ q = absurd cc

  -- one `phi`
  one-taken : (c : Copy) (e f e' x : Env) (from : List ℕ) (ty : TypeTree) (edges : List EdgeText) (r : Option (List ℕ)) (y : Option Env) → CopyFits c → Holds u c e f → ResultIsNew c.unit r
      → IsPlain from → Each (λ (g : EdgeText). IsPlain g.block) edges
      → y ≡ Some x → phi_taken from e (phi_text ty edges) r y ≡ Some e' → (z : Option Env) → Taken c x f z
      → Taken c e' f (phi_taken (last_piece_of s.functions c from) f (phi_text ty (map (copied_edge s.functions c) edges)) (option_map c.value r) z)
  one-taken c e f e' x from ty edges r y o k t p g a q z m = by (edge_from from edges) refl (sym (ap (λ v. result_put r (option_and_then (datum_at e) (edge_from from edges)) v) a) ∙ q)
    where
      none : (n : Option (List ℕ)) (b : Option Env) → result_put n None b ≡ None
      none None b = refl
      none (Some n) b = refl

      at : (n : List ℕ) (v : Option Datum) → datum_at e n ≡ v → edge_from from edges ≡ Some n → result_put r v (Some x) ≡ Some e'
          → Taken c e' f (result_put (option_map c.value r) (option_and_then (datum_at f) (edge_from (last_piece_of s.functions c from) (map (copied_edge s.functions c) edges))) z)
      at n None b d h = absurd (none-some e' (sym (none r (Some x)) ∙ h))
      at n (Some v) b d h =
          let there : option_and_then (datum_at f) (edge_from (last_piece_of s.functions c from) (map (copied_edge s.functions c) edges)) ≡ Some v =
          ap (option_and_then (datum_at f)) (edge-copied s.functions c from edges p g ∙ ap (option_map c.value) d) ∙ keeps-datum u c e f k n v b in
          let put : with_result x r (datum_held v) ≡ e' = same_Some (with_result x r (datum_held v)) e' h in
          let both = gives-result u c x m.after r (datum_held v) o m.gives.holds t (λ y q. absurd (no_part y q)) in
          record {
            after = with_result m.after (option_map c.value r) (datum_held v);
            taken = ap (λ i. result_put (option_map c.value r) i z) there ∙ ap (result_put (option_map c.value r) (Some v)) m.taken;
            gives = subst (λ i. GivesInBoth u c i f (with_result m.after (option_map c.value r) (datum_held v))) put
                (record { holds = both.holds; below = Below-then (marks c.path) f m.after (with_result m.after (option_map c.value r) (datum_held v)) m.gives.below both.below });
          }
        where
          no_part : (y : Range) → datum_held v ≡ part_held y → ⊥
          no_part y q = cc

      by : (n : Option (List ℕ)) → edge_from from edges ≡ n → result_put r (option_and_then (datum_at e) (edge_from from edges)) (Some x) ≡ Some e'
          → Taken c e' f (result_put (option_map c.value r) (option_and_then (datum_at f) (edge_from (last_piece_of s.functions c from) (map (copied_edge s.functions c) edges))) z)
      by None d h = absurd (none-some e' (sym (ap (λ v. result_put r (option_and_then (datum_at e) v) (Some x)) d ∙ none r (Some x)) ∙ h))
      by (Some n) d h = at n (datum_at e n) refl d (sym (ap (λ v. result_put r (option_and_then (datum_at e) v) (Some x)) d) ∙ h)

  pub phis-copied : (copy_of : Copy → List FlatBlockText) (c : Copy) (e f e' : Env) (from label : List ℕ) (k : ℕ) (ls : List LineText) → CopyFits c → Holds u c e f → IsPlain from
      → Each (LineTidy s.functions c.unit) ls → PhisFirst ls
      → phis_taken from e ls ≡ Some e' → Taken c e' f (phis_taken (last_piece_of s.functions c from) f (pieces_from copy_of s.functions c label k ls).rest)
  phis-copied copy_of c e f e' from label k [] o h p t g q = record
      { after = f; taken = refl; gives = record { holds = subst (λ i. Holds u c i f) (same_Some e e' q) h; below = Below-same (marks c.path) f } }
  phis-copied copy_of c e f e' from label k (l ∷ ls) o h p t g q = by (is_phi l.inst) refl (λ x m i. phis-copied copy_of c e f x from label (k + 1) ls o h p t.1 i m) g q
    where
      rest-none : NoPhis ls → is_phi l.inst ≡ false → phi_taken from e l.inst l.result (phis_taken from e ls) ≡ Some e'
          → Taken c e' f (phis_taken (last_piece_of s.functions c from) f (pieces_from copy_of s.functions c label k (l ∷ ls)).rest)
      rest-none n z y = record {
        after = f;
        taken = no_phis-taken (last_piece_of s.functions c from) f (pieces_from copy_of s.functions c label k (l ∷ ls)).rest (no_phis-copied copy_of c label k (l ∷ ls) (z, n));
        gives = record { holds = subst (λ i. Holds u c i f) (same_Some e e' (sym (no_phis-taken from e (l ∷ ls) (z, n)) ∙ y)) h; below = Below-same (marks c.path) f };
      }

      phi-not-call : (ty : TypeTree) (edges : List EdgeText) → l.inst ≡ phi_text ty edges → opened s.functions c (call_path c label k) l.inst ≡ None
      phi-not-call ty edges i = ap (opened s.functions c (call_path c label k)) i

      with-phi : (ty : TypeTree) (edges : List EdgeText) → l.inst ≡ phi_text ty edges → (y : Option Env) → phis_taken from e ls ≡ y
          → ((x : Env) → phis_taken from e ls ≡ Some x → PhisFirst ls → Taken c x f (phis_taken (last_piece_of s.functions c from) f (pieces_from copy_of s.functions c label (k + 1) ls).rest))
          → PhisFirst ls → phi_taken from e l.inst l.result (phis_taken from e ls) ≡ Some e'
          → Taken c e' f (phis_taken (last_piece_of s.functions c from) f (pieces_from copy_of s.functions c label k (l ∷ ls)).rest)
      with-phi ty edges i None y go a b = absurd
          (none-some e' (sym (none l.result (option_and_then (datum_at e) (edge_from from edges))) ∙ sym (ap (λ v. phi_taken from e (phi_text ty edges) l.result v) y)
          ∙ sym (ap (λ j. phi_taken from e j l.result (phis_taken from e ls)) i) ∙ b))
        where
          none : (n : Option (List ℕ)) (v : Option Datum) → result_put n v None ≡ None
          none None None = refl
          none None (Some v) = refl
          none (Some n) None = refl
          none (Some n) (Some v) = refl
      with-phi ty edges i (Some x) y go a b =
          let m = go x y a in
          let tidy = subst (λ j. EdgesArePlain j) i t.0.edges in
          let r = one-taken c e f e' x from ty edges l.result (phis_taken from e ls) o h t.0.result p tidy y (sym (ap (λ j. phi_taken from e j l.result (phis_taken from e ls)) i) ∙ b)
          (phis_taken (last_piece_of s.functions c from) f (pieces_from copy_of s.functions c label (k + 1) ls).rest) m in
          subst (λ z. Taken c e' f (phis_taken (last_piece_of s.functions c from) f (with_line copy_of s.functions c l z (pieces_from copy_of s.functions c label (k + 1) ls)).rest))
          (sym (phi-not-call ty edges i))
          (subst (λ j. Taken c e' f (phi_taken (last_piece_of s.functions c from) f (copied s.functions c j) (option_map c.value l.result)
          (phis_taken (last_piece_of s.functions c from) f (pieces_from copy_of s.functions c label (k + 1) ls).rest))) (sym i) r)

      by : (b : Bool) → is_phi l.inst ≡ b → ((x : Env) → phis_taken from e ls ≡ Some x → PhisFirst ls
          → Taken c x f (phis_taken (last_piece_of s.functions c from) f (pieces_from copy_of s.functions c label (k + 1) ls).rest))
          → Either (is_phi l.inst) (PhisFirst ls) (NoPhis ls) → phi_taken from e l.inst l.result (phis_taken from e ls) ≡ Some e'
          → Taken c e' f (phis_taken (last_piece_of s.functions c from) f (pieces_from copy_of s.functions c label k (l ∷ ls)).rest)
      by false d go a z = rest-none (subst (λ x. Either x (PhisFirst ls) (NoPhis ls)) d a) d z
      by true d go a z = let x = phi-is l.inst d in with-phi x.0 x.1 x.2 (phis_taken from e ls) refl go (subst (λ x. Either x (PhisFirst ls) (NoPhis ls)) d a) z
