-- A return leads to points that are alike: behind the call, with its result.
use Rattle.std.proofs.Common.{◌≡◌, ℕ, suc, ◌+◌, inl, inr, false, List, [], ◌∷◌, ◌++◌, length, Option, Some, None, refl, ap, sym, ◌∙◌, subst, arith}
use Rattle.std.specs.Option.{option_map, option_map_or, option_and_then}
use Rattle.lh_types.specs.Types.{TypeTree}
use Rattle.lh_types.specs.Values.{Datum}
use Rattle.lh_types.specs.declared.part.Range.{Range}
use Rattle.lh_unit_names.specs.declared.name.UnitName.{UnitName}
use Rattle.lh_unit.specs.Contents.{OperandText, call_text, phi_text, ret_text, LineText, BlockText, UnitText}
use Rattle.lh_unit.specs.Named.{block_of}
use Rattle.lh_unit.specs.Places.{is_terminator}
use Rattle.lh_unit.specs.WellFormed.{is_phi}
use Rattle.lh_unit.specs.Held.{datum_held, part_held, Env, with_result, datum_at}
use Rattle.lh_unit.specs.Activation.{Scene, Control, Caller, Point, goes, edge_from, result_put, phis_taken, entered, jumps, given_back, goes_back, returns, executes, steps_by, step}
use Rattle.lh_unit.specs.Within.{Each}
use Rattle.lh_verify_laws.specs.Shape.{EndsOnce}
use Rattle.lh_flat.specs.Copies.{Copy, call_path, opened, first_piece, last_from, last_piece, copied, copied_line}
use Rattle.lh_flat.specs.Flat.{merge_of, given_by, with_merge, with_line, pieces_from, flat_copy, as_block}
use Rattle.lh_flat.specs.Marks.{marks}
use Rattle.lh_flat_laws.specs.Tidy.{ResultIsNew, CallGives, AlwaysGives, LineTidy, BlockTidy, FunctionsTidy, NoPhis, PhisFirst}
use Rattle.lh_flat_laws.proofs.BlocksFound.{found-block, Opens, opens-is, next_of, next-found}
use Rattle.lh_flat_laws.proofs.HeldValues.{Holds, Below-same, keeps-datum}
use Rattle.lh_flat_laws.proofs.LastPieces.{each-middle, block-each, ends-last, no_phi-behind, edge-given}
use Rattle.lh_flat_laws.proofs.Alike.{tidy-labelled, functions-labelled, GivesInBoth, gives-result, flat, all, Runs, CallAt, Callers, Alike, block-tidy, label-plain, callers-below, no_phis-taken, no_phis-copied}
use Rattle.lh_flat_laws.proofs.CopyPoints.{Follows, past, runs-past, runs-end}
use Rattle.lh_flat_laws.proofs.Facts.{label-found}

module _ (s : Scene) (u : UnitText) (name : UnitName) (top : ℕ) (w : FunctionsTidy s.functions) where
  abbrev Calls : (left : ℕ) → Copy → Caller → Copy → Env → Type 0
  Calls left c x d f = CallAt s u name top w left c x d f

  -- the lines behind a call
  abbrev behind : (left : ℕ) (c : Copy) (x : Caller) (d : Copy) (f : Env) → Calls left c x d f → List LineText
  behind left c x d f k = (pieces_from (flat_copy (suc left) s.functions) s.functions c x.control.block (length k.before + 1) x.control.rest).rest

  -- with the merge before them
  abbrev merged : (left : ℕ) (c : Copy) (x : Caller) (d : Copy) (f : Env) → Calls left c x d f → List LineText
  merged left c x d f k = with_merge (merge_of s.functions c d k.line.inst k.line.result) (behind left c x d f k)

  module _ (left : ℕ) (c d : Copy) (x : Caller) (f : Env) (k : Calls left c x d f) where
    opens : Opens s.functions c (call_path c x.control.block (length k.before)) k.line.inst d
    opens = opens-is s.functions c (call_path c x.control.block (length k.before)) k.line.inst d k.opens

    tidy-text : BlockTidy s.functions c.unit k.text
    tidy-text = block-tidy s u name top w (suc left) c x.control.block k.text k.place k.stands

    tidy-line : LineTidy s.functions c.unit k.line
    tidy-line = each-middle (LineTidy s.functions c.unit) k.before x.control.rest k.line k.text.lines k.split tidy-text.lines

    -- the piece behind the call
    next-block : block_of d.path (flat s u name top w).blocks
        ≡ Some (as_block (next_of s.functions (functions-labelled s.functions w) (suc left) c d x.control.block (length k.before) k.line x.control.rest))
    next-block =
        found-block d.path (all s u name top w)
        ∙ ap (option_map as_block)
        (next-found s.functions (functions-labelled s.functions w) (all s u name top w) (suc left) c k.place.stands (tidy-labelled s.functions c.unit k.place.tidy) x.control.block k.text k.stands
        (label-plain s u name top w (suc left) c x.control.block k.text k.place k.stands) (sym (label-found x.control.block c.unit.blocks k.text k.stands)) k.before x.control.rest k.line d k.split
        k.opens)

    call-no_phi : is_phi k.line.inst ≡ false
    call-no_phi = ap is_phi opens.inst

    none-phi : NoPhis (behind left c x d f k)
    none-phi =
        no_phis-copied s u name top w (flat_copy (suc left) s.functions) c x.control.block (length k.before + 1) x.control.rest
        (no_phi-behind k.before x.control.rest k.line call-no_phi (subst PhisFirst k.split tidy-text.phis))

    -- the control there
    abbrev there : List LineText → Env → Control
    there ls g = record { unit = flat s u name top w; block = d.path; rest = ls; held = g }

    enters-next : (from : List ℕ) (g : Env) → phis_taken from f (merged left c x d f k) ≡ Some g → entered (flat s u name top w) f from d.path ≡ Some (there (merged left c x d f k) g)
    enters-next from g e =
        ap (option_and_then (λ (b : BlockText). option_map (λ (v : Env). record { unit = flat s u name top w; block = d.path; rest = b.lines; held = v }) (phis_taken from f b.lines))) next-block
        ∙ ap (option_map (there (merged left c x d f k))) e

    -- the process goes on behind the call too
    runs-next : (g : Env) → Runs s u name top w (suc left) c (record x.control { held = g }) d.path (behind left c x d f k)
    runs-next g =
        runs-past s u name top w (suc left) c (record x.control { held = g }) (last_from s.functions c x.control.block (first_piece c x.control.block) 0 k.before) d.path x.control.rest
        (behind left c x d f k) k.line k.text k.before k.unit k.stands k.split refl
        (sym (ap (λ o. option_map_or (λ (y : Copy). y.path) o (last_from s.functions c x.control.block (first_piece c x.control.block) 0 k.before)) k.opens)) refl

    no_part : (v : Datum) (r : Range) → datum_held v ≡ part_held r → ⊥
    no_part v r e = cc

    -- a merge is one `phi` more
    merge-is : (n : List ℕ) → k.line.result ≡ Some n → (ty : TypeTree)
        × (merge_of s.functions c d k.line.inst k.line.result ≡ Some (record { value = c.value n; ty = ty; edges = given_by s.functions d }))
    merge-is n e = (opens.ty, ap (λ i. merge_of s.functions c d i k.line.result) opens.inst ∙ ap (merge_of s.functions c d (call_text opens.callee opens.ty opens.args)) e)

    no-merge : k.line.result ≡ None → merge_of s.functions c d k.line.inst k.line.result ≡ None
    no-merge e = ap (λ i. merge_of s.functions c d i k.line.result) opens.inst ∙ ap (merge_of s.functions c d (call_text opens.callee opens.ty opens.args)) e

    always-gives : (n : List ℕ) → k.line.result ≡ Some n → AlwaysGives d.unit
    always-gives n e = subst (CallGives s.functions (call_text opens.callee opens.ty opens.args)) e (subst (λ i. CallGives s.functions i k.line.result) opens.inst tidy-line.gives) opens.no_assert
        d.unit opens.named

  moved : (m n t : ℕ) → suc m + n ≡ t → m + suc n ≡ t
  moved m n t e = omega arith

  -- the point behind the call
  back-alike : (p f : Point) (a : Alike s u name top w p f) (c : Copy) (x : Caller) (more : List Caller) (k : Calls a.left c x a.copy f.control.held)
      → Callers s u name top w more (suc a.left) c f.control.held → length (x ∷ more) + a.left ≡ top → (e g : Env) → GivesInBoth u c e f.control.held g → (rest : List LineText)
      → Alike s u name top w (record (past s u name top w p rest) { control = record x.control { held = e }; callers = more }) (record f
      { control = there a.left c a.copy x f.control.held k (behind a.left c x a.copy f.control.held k) g })
  back-alike p f a c x more k cs n e g h rest = record {
    copy = c;
    left = suc a.left;
    place = k.place;
    runs = runs-next a.left c a.copy x f.control.held k e;
    unit = refl;
    holds = h.holds;
    callers = callers-below s u name top w more (suc a.left) c f.control.held g cs h.below;
    none = a.none;
    count = moved (length more) a.left top n;
    wish = a.wish;
    outcomes = a.outcomes;
  }

  module _ (p f : Point) (a : Alike s u name top w p f) (l : LineText) (rest : List LineText) (o : Option OperandText) (e : p.control.rest ≡ l ∷ rest) (i : l.inst ≡ ret_text o) where
    split : a.runs.text.lines ≡ a.runs.before ++ l ∷ rest
    split = a.runs.split ∙ ap (λ ls. a.runs.before ++ ls) e

    tidy : BlockTidy s.functions a.copy.unit a.runs.text
    tidy = block-tidy s u name top w a.left a.copy p.control.block a.runs.text a.place a.runs.stands

    last : rest ≡ []
    last = ends-last a.runs.before rest l (subst EndsOnce split tidy.ends) (ap is_terminator i)

    closed : a.runs.text.lines ≡ a.runs.before ++ l ∷ []
    closed = split ∙ ap (λ ls. a.runs.before ++ l ∷ ls) last

    -- control is in the last piece
    here : f.control.block ≡ last_piece s.functions a.copy a.runs.text
    here =
        runs-end s u name top w a.left a.copy (record p.control { rest = [] }) f.control.block []
        (runs-past s u name top w a.left a.copy p.control f.control.block f.control.block [] [] l a.runs.text a.runs.before a.runs.unit a.runs.stands closed a.runs.here
        (sym (ap (λ j. option_map_or (λ (y : Copy). y.path) (opened s.functions a.copy (call_path a.copy p.control.block (length a.runs.before)) j) f.control.block) i)) refl) refl
        ∙ ap (λ b. option_map_or (last_piece s.functions a.copy) b (first_piece a.copy p.control.block)) a.runs.stands

    -- the flat text branches behind the call
    branches : f.control.rest ≡ copied_line s.functions a.copy l ∷ (pieces_from (flat_copy a.left s.functions) s.functions a.copy p.control.block (length a.runs.before + 1) rest).rest
    branches =
        a.runs.next
        ∙ ap (λ ls. (pieces_from (flat_copy a.left s.functions) s.functions a.copy p.control.block (length a.runs.before) ls).rest) e
        ∙ ap (λ z. (with_line (flat_copy a.left s.functions) s.functions a.copy l z
        (pieces_from (flat_copy a.left s.functions) s.functions a.copy p.control.block (length a.runs.before + 1) rest)).rest)
        (ap (opened s.functions a.copy (call_path a.copy p.control.block (length a.runs.before))) i)

    abbrev after : List LineText
    after = (pieces_from (flat_copy a.left s.functions) s.functions a.copy p.control.block (length a.runs.before + 1) rest).rest

    stepped : (z : Option Control) → entered (flat s u name top w) f.control.held f.control.block a.copy.path ≡ z → step s f ≡ jumps (past s u name top w f after) z
    stepped z y =
        ap (steps_by s f) branches
        ∙ ap (λ j. executes s (copied s.functions a.copy j) (option_map a.copy.value l.result) (past s u name top w f after)) i
        ∙ ap (λ v. jumps (past s u name top w f after) (entered v f.control.held f.control.block a.copy.path)) a.unit
        ∙ ap (jumps (past s u name top w f after)) y

    -- from an open call
    module _ (c : Copy) (x : Caller) (more : List Caller) (k : Calls a.left c x a.copy f.control.held) (cs : Callers s u name top w more (suc a.left) c f.control.held)
        (n : length (x ∷ more) + a.left ≡ top) where
      abbrev lines : List LineText
      lines = behind a.left c x a.copy f.control.held k

      -- without a result
      plain-back : x.result ≡ None → (v : Option Env) → v ≡ given_back p.control.held o x → (g : Env) → v ≡ Some g → g ≡ x.control.held
          → Follows s u name top w (goes_back (past s u name top w p rest) x more v) (step s f)
      plain-back r v y g q z =
          let m : merge_of s.functions c a.copy k.line.inst k.line.result ≡ None = no-merge a.left c a.copy x f.control.held k (sym k.result ∙ r) in
          let t : phis_taken f.control.block f.control.held (merged a.left c x a.copy f.control.held k) ≡ Some f.control.held =
          ap (λ j. phis_taken f.control.block f.control.held (with_merge j lines)) m
          ∙ no_phis-taken s u name top w f.control.block f.control.held lines (none-phi a.left c a.copy x f.control.held k) in
          let into : step s f ≡ goes (record f { control = there a.left c a.copy x f.control.held k lines f.control.held }) =
          stepped (Some (there a.left c a.copy x f.control.held k (merged a.left c x a.copy f.control.held k) f.control.held))
          (enters-next a.left c a.copy x f.control.held k f.control.block f.control.held t)
          ∙ ap (λ j. goes (record f { control = there a.left c a.copy x f.control.held k (with_merge j lines) f.control.held })) m in
          subst (λ j. Follows s u name top w (goes_back (past s u name top w p rest) x more j) (step s f)) (sym q)
          (subst (Follows s u name top w (goes (record (past s u name top w p rest) { control = record x.control { held = g }; callers = more }))) (sym into)
          (inl (back-alike p f a c x more k cs n g f.control.held (record { holds = subst (λ j. Holds u c j f.control.held) (sym z) k.holds; below = Below-same (marks c.path) f.control.held }) rest)))

      -- with a result
      result-back : (m : List ℕ) → x.result ≡ Some m → (b : OperandText) → o ≡ Some b → (v : Datum) → datum_at p.control.held b.value ≡ Some v
          → Follows s u name top w (goes_back (past s u name top w p rest) x more (Some (with_result x.control.held x.result (datum_held v)))) (step s f)
      result-back m r b z v d =
          let y = merge-is a.left c a.copy x f.control.held k m (sym k.result ∙ r) in
          let edge : edge_from f.control.block (given_by s.functions a.copy) ≡ Some (a.copy.value b.value) =
          ap (λ j. edge_from j (given_by s.functions a.copy)) here
          ∙ edge-given s.functions a.copy p.control.block a.runs.text a.runs.before l b (tidy-labelled s.functions a.copy.unit a.place.tidy)
          (label-plain s u name top w a.left a.copy p.control.block a.runs.text a.place a.runs.stands) a.runs.stands closed tidy.ends (i ∙ ap ret_text z) in
          let g : Env = with_result f.control.held (Some (c.value m)) (datum_held v) in
          let phi : LineText = record { result = Some (c.value m); inst = phi_text y.0 (given_by s.functions a.copy) } in
          let t : phis_taken f.control.block f.control.held (merged a.left c x a.copy f.control.held k) ≡ Some g =
          ap (λ j. phis_taken f.control.block f.control.held (with_merge j lines)) y.1
          ∙ ap (result_put (Some (c.value m)) (option_and_then (datum_at f.control.held) (edge_from f.control.block (given_by s.functions a.copy)))) (no_phis-taken s u name top w f.control.block
          f.control.held lines (none-phi a.left c a.copy x f.control.held k))
          ∙ ap (λ j. result_put (Some (c.value m)) (option_and_then (datum_at f.control.held) j) (Some f.control.held)) edge
          ∙ ap (λ j. result_put (Some (c.value m)) j (Some f.control.held)) (keeps-datum u a.copy p.control.held f.control.held a.holds b.value v d) in
          let into : step s f ≡ goes (record f { control = there a.left c a.copy x f.control.held k (phi ∷ lines) g }) =
          stepped (Some (there a.left c a.copy x f.control.held k (merged a.left c x a.copy f.control.held k) g)) (enters-next a.left c a.copy x f.control.held k f.control.block g t)
          ∙ ap (λ j. goes (record f { control = there a.left c a.copy x f.control.held k (with_merge j lines) g })) y.1 in
          let new : ResultIsNew c.unit (Some m) = subst (ResultIsNew c.unit) (sym k.result ∙ r) (tidy-line a.left c a.copy x f.control.held k).result in
          let both = gives-result u c x.control.held f.control.held (Some m) (datum_held v) k.place.fits k.holds new (λ q h. absurd (no_part a.left c a.copy x f.control.held k v q h)) in
          subst (Follows s u name top w (goes_back (past s u name top w p rest) x more (Some (with_result x.control.held x.result (datum_held v))))) (sym into)
          (inr (
            record f { control = there a.left c a.copy x f.control.held k lines g },
            refl,
            back-alike p f a c x more k cs n (with_result x.control.held x.result (datum_held v)) g
                (subst (λ j. GivesInBoth u c (with_result x.control.held j (datum_held v)) f.control.held g) (sym r) both) rest,
          ))

      -- a function that always gives has no other `ret`
      gives-none : (m : List ℕ) → x.result ≡ Some m → o ≡ None → ⊥
      gives-none m r z =
          let all-lines = block-each (λ (b : BlockText). Each (λ (y : LineText). y.inst ≡ ret_text None → ⊥) b.lines) p.control.block a.copy.unit.blocks a.runs.text a.runs.stands
          (always-gives a.left c a.copy x f.control.held k m (sym k.result ∙ r)) in
          each-middle (λ (y : LineText). y.inst ≡ ret_text None → ⊥) a.runs.before rest l a.runs.text.lines split all-lines (i ∙ ap ret_text z)

      back-follows : (r : Option (List ℕ)) → x.result ≡ r → (b : Option OperandText) → o ≡ b
          → Follows s u name top w (goes_back (past s u name top w p rest) x more (given_back p.control.held b x)) (step s f)
      back-follows None r None z = plain-back r (Some x.control.held) (sym (ap (λ j. given_back p.control.held j x) z)) x.control.held refl refl
      back-follows None r (Some b) z = by (datum_at p.control.held b.value) refl
        where
          by : (v : Option Datum) → datum_at p.control.held b.value ≡ v
              → Follows s u name top w (goes_back (past s u name top w p rest) x more (option_map (λ y. with_result x.control.held x.result (datum_held y)) v)) (step s f)
          by None d = tt
          by (Some v) d =
              plain-back r (Some (with_result x.control.held x.result (datum_held v)))
              (sym (ap (λ j. given_back p.control.held j x) z ∙ ap (option_map (λ y. with_result x.control.held x.result (datum_held y))) d)) (with_result x.control.held x.result (datum_held v))
              refl
              (ap (λ j. with_result x.control.held j (datum_held v)) r)
      back-follows (Some m) r None z = absurd (gives-none m r z)
      back-follows (Some m) r (Some b) z = by (datum_at p.control.held b.value) refl
        where
          by : (v : Option Datum) → datum_at p.control.held b.value ≡ v
              → Follows s u name top w (goes_back (past s u name top w p rest) x more (option_map (λ y. with_result x.control.held x.result (datum_held y)) v)) (step s f)
          by None d = tt
          by (Some v) d = result-back m r b z v d

    pub ret-follows : Follows s u name top w (returns (past s u name top w p rest) o p.callers) (step s f)
    ret-follows = by p.callers a.callers a.count
      where
        by : (xs : List Caller) → Callers s u name top w xs a.left a.copy f.control.held → length xs + a.left ≡ top → Follows s u name top w (returns (past s u name top w p rest) o xs) (step s f)
        by [] c n = tt
        by (x ∷ more) (c, k, cs) n = back-follows c x more k cs n x.result refl o refl
