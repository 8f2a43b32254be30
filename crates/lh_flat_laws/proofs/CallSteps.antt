-- A call of a function leads to points that are alike, and so does a return.
use Rattle.std.proofs.Common.{◌≡◌, ℕ, zero, suc, ◌+◌, ◌<◌, ◌≤◌, inl, ◌⊎◌, Bool, true, false, nat_lt, if◌then◌else◌, List, [], ◌∷◌, ◌++◌, length, map, Option, Some, None, refl, ap, sym, ◌∙◌, subst, arith}
use Rattle.std.specs.Option.{option_map, option_map_or, option_and_then}
use Rattle.std.proofs.lemmas.Option.{none-some}
use Rattle.lh_types.specs.Values.{Datum}
use Rattle.lh_types.specs.declared.part.Range.{Range}
use Rattle.lh_unit_names.specs.declared.name.UnitName.{UnitName}
use Rattle.lh_unit.specs.Contents.{OperandText, InstText, LineText, BlockText, UnitText, is_result_name}
use Rattle.lh_unit.specs.Named.{block_of, function_named, label_or}
use Rattle.lh_unit.specs.Held.{Held, datum_held, cell_held, part_held, Env, nothing_held, with_args, datum_at, data_at, front}
use Rattle.lh_unit.specs.Activation.{Scene, Control, Point, Next, goes, no_step, tells, asserted, phis_taken, entered, at_first, max_calls, opens, called, jumps, executes, steps_by, step}
use Rattle.lh_unit.specs.Within.{Each}
use Rattle.lh_flat.specs.Calls.{callees, callees_of, nest_deeper}
use Rattle.lh_flat.specs.Copies.{Copy, call_path, opened, first_piece}
use Rattle.lh_flat.specs.Flat.{first_label, branch_into, with_line, pieces_from, flat_copy}
use Rattle.lh_flat.specs.Marks.{marks}
use Rattle.lh_flat_laws.specs.Tidy.{BlockTidy, UnitTidy, FunctionsTidy, NoPhis, EntryHasNoPhi}
use Rattle.lh_flat.proofs.Marks.{is_same}
use Rattle.lh_flat_laws.proofs.BlocksFound.{Opens, opens-is, IsLabelled, call-stands}
use Rattle.lh_flat_laws.proofs.HeldValues.{CopyFits, Holds, name-marks, Given, begins-given, low-name}
use Rattle.lh_flat_laws.proofs.LastPieces.{none-called}
use Rattle.lh_flat_laws.proofs.TopTypes.{path-marks, opens-own}
use Rattle.lh_flat_laws.proofs.Alike.{tidy-labelled, functions-labelled, flat, all, InPlace, Callers, Alike, label-plain, no_phis-taken, no_phis-copied}
use Rattle.lh_flat_laws.proofs.CopyPoints.{Follows, first-block, first-runs, past}
use Rattle.lh_flat_laws.proofs.Facts.{label-found}
use Rattle.lh_eval.proofs.ValuesFit.{datum-held}

-- what the operands of a call name has no more marks than the path of the copy
args-low : (u : UnitText) (c : Copy) (e f : Env) (args : List OperandText) (ds : List Datum) → CopyFits c → Holds u c e f → data_at e args ≡ Some ds
    → Each (λ (n : List ℕ). marks n ≤ marks c.path) (map (λ (o : OperandText). c.value o.value) args)
args-low u c e f [] ds o k q = tt
args-low u c e f (x ∷ args) ds o k q = by (datum_at e x.value) refl (data_at e args) refl q (λ xs y. args-low u c e f args xs o k y)
  where
    by : (v : Option Datum) → datum_at e x.value ≡ v → (vs : Option (List Datum)) → data_at e args ≡ vs → front v vs ≡ Some ds
        → ((xs : List Datum) → data_at e args ≡ Some xs → Each (λ (n : List ℕ). marks n ≤ marks c.path) (map (λ (o : OperandText). c.value o.value) args))
        → Each (λ (n : List ℕ). marks n ≤ marks c.path) (map (λ (o : OperandText). c.value o.value) (x ∷ args))
    by None a vs b r go = absurd (none-some ds r)
    by (Some v) a None b r go = absurd (none-some ds r)
    by (Some v) a (Some vs) b r go = (name-marks c x.value o (k.plain x.value (datum_held v) (datum-held (e x.value) v a)), go vs b)

each-below : (m n : ℕ) (xs : List (List ℕ)) → n ≡ suc m → Each (λ (x : List ℕ). marks x ≤ m) xs → Each (λ (x : List ℕ). marks x < n) xs
each-below m n [] e h = tt
each-below m n (x ∷ xs) e h = (let l = h.0 in omega (arith, l, e), each-below m n xs e h.1)

-- the first block of a unit is found by its label
pub first-named : (b : BlockText) (more : List BlockText) → IsLabelled b → block_of (label_or b.label) (b ∷ more) ≡ Some b
first-named b more o = by b.label refl
  where
    by : (n : Option (List ℕ)) → b.label ≡ n → block_of (label_or b.label) (b ∷ more) ≡ Some b
    by None e = absurd (o.some (ap label_or e))
    by (Some m) e = ap (λ c. if c then Some b else block_of (label_or b.label) more) (ap (is_result_name (label_or b.label)) e ∙ is_same m (label_or b.label) (sym (ap label_or e)))

module _ (s : Scene) (u : UnitText) (name : UnitName) (top : ℕ) (w : FunctionsTidy s.functions) where
  -- ---- a call

  not_zero : true ≡ false → ⊥
  not_zero e = cc

  -- a function that is called is in place
  called-place : (left : ℕ) (c d : Copy) (label : List ℕ) (text : BlockText) (before rest : List LineText) (l : LineText) → InPlace s u name top w left c → block_of label c.unit.blocks ≡ Some text
      → text.lines ≡ before ++ l ∷ rest
      → opened s.functions c (call_path c label (length before)) l.inst ≡ Some d → (o : Opens s.functions c (call_path c label (length before)) l.inst d)
      → Each (λ (n : List ℕ). marks n ≤ marks c.path) (map (λ (x : OperandText). c.value x.value) o.args)
      → (below : ℕ) × (left ≡ suc below) × InPlace s u name top w below d
  called-place zero c d label text before rest l p b y q o h = absurd (not_zero (none-called (λ f. true) c.unit.blocks label text before rest l o.callee o.ty o.args p.nests b y o.inst o.no_assert))
  called-place (suc left) c d label text before rest l p b y q o h = (
    left,
    refl,
    record {
      tidy = w o.callee d.unit o.named;
      stands = call-stands s.functions (functions-labelled s.functions w) (all s u name top w) (suc left) c p.stands (tidy-labelled s.functions c.unit p.tidy) label text b
          (label-plain s u name top w (suc left) c label text p b) (sym (label-found label c.unit.blocks text b)) before rest l d y q;
      nests = ap (λ g. nest_deeper left s.functions (option_map_or callees g [])) (sym o.named)
          ∙ none-called (λ f. nest_deeper left s.functions (callees_of s.functions f)) c.unit.blocks label text before rest l o.callee o.ty o.args p.nests b y o.inst o.no_assert;
      fits = record {
        own = opens-own s.functions c (call_path c label (length before)) l.inst d o;
        low = λ n. subst (λ (x : Copy). (x.value n ≡ x.path ++ n) ⊎ (marks (x.value n) < marks x.path)) o.copy
            (low-name (marks (call_path c label (length before))) d.unit.args (map (λ (x : OperandText). c.value x.value) o.args) (call_path c label (length before) ++ n) n
            (each-below (marks c.path) (marks (call_path c label (length before))) (map (λ (x : OperandText). c.value x.value) o.args)
            (path-marks c label (length before) (label-plain s u name top w (suc left) c label text p b)) h));
      };
    },
  )

  no_cell : (v d : Datum) → datum_held v ≡ cell_held d → ⊥
  no_cell v d e = cc

  no_part : (v : Datum) (r : Range) → datum_held v ≡ part_held r → ⊥
  no_part v r e = cc

  -- it begins with its arguments
  called-holds : (c d : Copy) (path : List ℕ) (i : InstText) (e f : Env) (ds : List Datum) (o : Opens s.functions c path i d) → Holds u c e f → UnitTidy s.functions d.unit → data_at e o.args ≡ Some ds
      → Holds u d (with_args nothing_held d.unit.args (map datum_held ds)) f
  called-holds c d path i e f ds o k t q = record {
    plain = λ n h z. (given n h z).plain;
    same = λ n h z. (given n h z).same;
    cells = λ n v z. let g = given n (cell_held v) z in absurd (no_cell g.value v (sym g.is));
    parts = λ n r z. let g = given n (part_held r) z in absurd (no_part g.value r (sym g.is));
  }
    where
      given : (n : List ℕ) (h : Held) → with_args nothing_held d.unit.args (map datum_held ds) n ≡ Some h → Given f (d.value n) n h
      given n h z = subst (λ (x : Copy). Given f (x.value n) n h) o.copy (begins-given u c e f k d.unit.args o.args ds nothing_held (path ++ n) n h t.args q refl z)

  moved : (m n t : ℕ) → m + suc n ≡ t → suc m + n ≡ t
  moved m n t e = omega arith

  pub call-follows : (p f : Point) (a : Alike s u name top w p f) (l : LineText) (rest : List LineText) (d : Copy) → p.control.rest ≡ l ∷ rest
      → opened s.functions a.copy (call_path a.copy p.control.block (length a.runs.before)) l.inst ≡ Some d
      → Follows s u name top w (executes s l.inst l.result (past s u name top w p rest)) (step s f)
  call-follows p f a l rest d e q =
      subst (λ i. Follows s u name top w (executes s i l.result (past s u name top w p rest)) (step s f)) (sym o.inst)
      (subst (λ b. Follows s u name top w (if b then tells (past s u name top w p rest) (asserted p.control.held o.args) else opens (past s u name top w p rest) l.result
      (called (function_named o.callee s.functions) (data_at p.control.held o.args))) (step s f)) (sym o.no_assert)
      (subst (λ g. Follows s u name top w (opens (past s u name top w p rest) l.result (called g (data_at p.control.held o.args))) (step s f)) (sym o.named)
      (by-data (data_at p.control.held o.args) refl)))
    where
      o : Opens s.functions a.copy (call_path a.copy p.control.block (length a.runs.before)) l.inst d
      o = opens-is s.functions a.copy (call_path a.copy p.control.block (length a.runs.before)) l.inst d q

      split : a.runs.text.lines ≡ a.runs.before ++ l ∷ rest
      split = a.runs.split ∙ ap (λ ls. a.runs.before ++ ls) e

      -- the flat text branches to the copy
      branches : f.control.rest ≡ branch_into d ∷ []
      branches =
          a.runs.next
          ∙ ap (λ ls. (pieces_from (flat_copy a.left s.functions) s.functions a.copy p.control.block (length a.runs.before) ls).rest) e
          ∙ ap (λ x. (with_line (flat_copy a.left s.functions) s.functions a.copy l x
          (pieces_from (flat_copy a.left s.functions) s.functions a.copy p.control.block (length a.runs.before + 1) rest)).rest) q

      stepped : (x : Option Control) → entered f.control.unit f.control.held f.control.block (first_piece d (first_label d.unit.blocks)) ≡ x → step s f ≡ jumps (past s u name top w f []) x
      stepped x z = ap (steps_by s f) branches ∙ ap (jumps (past s u name top w f [])) z

      alike : (ds : List Datum) → data_at p.control.held o.args ≡ Some ds → (b : BlockText) (more : List BlockText) → d.unit.blocks ≡ b ∷ more
          → Follows s u name top w (goes (record p {
            control = record { unit = d.unit; block = label_or b.label; rest = b.lines; held = with_args nothing_held d.unit.args (map datum_held ds) };
            callers = record { control = record p.control { rest = rest }; result = l.result } ∷ p.callers;
          })) (step s f)
      alike ds h b more z =
          subst (Follows s u name top w (goes (record p {
            control = record { unit = d.unit; block = label_or b.label; rest = b.lines; held = with_args nothing_held d.unit.args (map datum_held ds) };
            callers = record { control = record p.control { rest = rest }; result = l.result } ∷ p.callers;
          })))
          (sym (stepped (Some there) into))
          (inl record {
            copy = d;
            left = below.0;
            place = below.2;
            runs = first-runs s u name top w below.0 d (label_or b.label) b (with_args nothing_held d.unit.args (map datum_held ds)) found-b;
            unit = refl;
            holds = called-holds a.copy d (call_path a.copy p.control.block (length a.runs.before)) l.inst p.control.held f.control.held ds o a.holds below.2.tidy h;
            callers = (
              a.copy,
              record {
                place = subst (λ n. InPlace s u name top w n a.copy) below.1 a.place;
                text = a.runs.text;
                before = a.runs.before;
                line = l;
                unit = a.runs.unit;
                stands = a.runs.stands;
                split = split;
                opens = q;
                result = refl;
                holds = a.holds;
              },
              subst (λ n. Callers s u name top w p.callers n a.copy f.control.held) below.1 a.callers,
            );
            none = a.none;
            count = moved (length p.callers) below.0 top (ap (λ n. length p.callers + n) (sym below.1) ∙ a.count);
            wish = a.wish;
            outcomes = a.outcomes;
          })
        where
          below : (n : ℕ) × (a.left ≡ suc n) × InPlace s u name top w n d
          below = called-place a.left a.copy d p.control.block a.runs.text a.runs.before rest l a.place a.runs.stands split q o
              (args-low u a.copy p.control.held f.control.held o.args ds a.place.fits a.holds h)

          tidy-b : BlockTidy s.functions d.unit b
          tidy-b = (subst (Each (BlockTidy s.functions d.unit)) z below.2.tidy.blocks).0

          found-b : block_of (label_or b.label) d.unit.blocks ≡ Some b
          found-b = ap (block_of (label_or b.label)) z ∙ first-named b more record { some = tidy-b.labelled; plain = tidy-b.plain }

          none-phi : NoPhis b.lines
          none-phi = subst EntryHasNoPhi z below.2.tidy.entry

          there : Control
          there = record {
            unit = flat s u name top w;
            block = first_piece d (label_or b.label);
            rest = (pieces_from (flat_copy below.0 s.functions) s.functions d (label_or b.label) 0 b.lines).rest;
            held = f.control.held;
          }

          into : entered f.control.unit f.control.held f.control.block (first_piece d (first_label d.unit.blocks)) ≡ Some there
          into =
              ap (λ v. entered v f.control.held f.control.block (first_piece d (first_label d.unit.blocks))) a.unit
              ∙ ap (λ bs. entered (flat s u name top w) f.control.held f.control.block (first_piece d (first_label bs))) z
              ∙ ap (option_and_then (λ (x : BlockText). option_map (λ (v : Env). record { unit = flat s u name top w; block = first_piece d (label_or b.label); rest = x.lines; held = v })
              (phis_taken f.control.block f.control.held x.lines))) (first-block s u name top w below.0 d (label_or b.label) b below.2 found-b)
              ∙ ap (option_map (λ (v : Env). record {
                unit = flat s u name top w;
                block = first_piece d (label_or b.label);
                rest = (pieces_from (flat_copy below.0 s.functions) s.functions d (label_or b.label) 0 b.lines).rest;
                held = v;
              }))
              (no_phis-taken s u name top w f.control.block f.control.held (pieces_from (flat_copy below.0 s.functions) s.functions d (label_or b.label) 0 b.lines).rest
              (no_phis-copied s u name top w (flat_copy below.0 s.functions) d (label_or b.label) 0 b.lines none-phi))

      by-room : (t : Bool) (x y : Next) → Follows s u name top w x y → Follows s u name top w (if t then x else no_step) y
      by-room true x y h = h
      by-room false x y h = tt

      by-blocks : (ds : List Datum) → data_at p.control.held o.args ≡ Some ds → (bs : List BlockText) → d.unit.blocks ≡ bs
          → Follows s u name top w (opens (past s u name top w p rest) l.result (at_first d.unit (with_args nothing_held d.unit.args (map datum_held ds)) bs)) (step s f)
      by-blocks ds h [] z = tt
      by-blocks ds h (b ∷ more) z =
          by-room (nat_lt (length p.callers) max_calls)
          (goes (record p {
            control = record { unit = d.unit; block = label_or b.label; rest = b.lines; held = with_args nothing_held d.unit.args (map datum_held ds) };
            callers = record { control = record p.control { rest = rest }; result = l.result } ∷ p.callers;
          })) (step s f) (alike ds h b more z)

      by-data : (x : Option (List Datum)) → data_at p.control.held o.args ≡ x → Follows s u name top w (opens (past s u name top w p rest) l.result (called (Some d.unit) x)) (step s f)
      by-data None h = tt
      by-data (Some ds) h = by-blocks ds h d.unit.blocks refl
