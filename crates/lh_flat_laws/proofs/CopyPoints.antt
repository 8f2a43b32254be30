-- How a process and its flat text go on alike: with more held, in another block, and at an end.
use Rattle.std.proofs.Common.{◌≡◌, ℕ, suc, ◌+◌, inl, ◌⊎◌, Bool, List, [], ◌∷◌, ◌++◌, length, Option, Some, None, refl, ap, sym, ◌∙◌, subst, arith}
use Rattle.std.specs.Option.{option_map, option_map_or, option_and_then}
use Rattle.std.proofs.lemmas.List.{append-nil, append_assoc}
use Rattle.std.proofs.lemmas.Option.{same_Some, none-some}
use Rattle.lh_types.specs.declared.part.Range.{Range}
use Rattle.lh_types.specs.Wish.{Wish}
use Rattle.lh_unit_names.specs.declared.name.UnitName.{UnitName}
use Rattle.lh_unit.specs.Contents.{LineText, BlockText, UnitText}
use Rattle.lh_unit.specs.Named.{block_of, label_or}
use Rattle.lh_unit.specs.Held.{Held, part_held, Env, with_result}
use Rattle.lh_unit.specs.Activation.{Scene, Stand, Control, Caller, Point, Next, goes, ends, no_step, phis_taken, entered, gives, jumps, wishes, tells, ends_at, step}
use Rattle.lh_flat.specs.Copies.{Copy, top_copy, call_path, opened, first_piece, last_from, last_piece, last_piece_of}
use Rattle.lh_flat.specs.Flat.{pieces_from, flat_copy, as_block}
use Rattle.lh_flat.specs.Marks.{IsPlain}
use Rattle.lh_flat_laws.specs.Tidy.{ResultIsNew, FunctionsTidy}
use Rattle.lh_flat_laws.specs.Activates.{flat_stand, StandIsPlain, EndsAlike}
use Rattle.lh_flat_laws.proofs.BlocksFound.{found-block, first_of, first-found}
use Rattle.lh_flat_laws.proofs.HeldValues.{Keeps, Holds}
use Rattle.lh_flat_laws.proofs.LastPieces.{last-append}
use Rattle.lh_flat_laws.proofs.Alike.{functions-labelled, tidy-labelled, GivesInBoth, gives-result, flat, all, InPlace, Runs, Callers, Alike, block-tidy, label-plain, callers-below, phis-copied}
use Rattle.lh_flat_laws.proofs.Facts.{label-found}

module _ (s : Scene) (u : UnitText) (name : UnitName) (top : ℕ) (w : FunctionsTidy s.functions) where
  -- a copy's block is found in the flat text by the label of its first piece
  pub first-block : (left : ℕ) (c : Copy) (label : List ℕ) (b : BlockText) → InPlace s u name top w left c → block_of label c.unit.blocks ≡ Some b
      → block_of (first_piece c label) (flat s u name top w).blocks ≡ Some (as_block (first_of s.functions (functions-labelled s.functions w) left c b))
  first-block left c label b o e =
      found-block (first_piece c label) (all s u name top w)
      ∙ ap (option_map as_block)
      (first-found s.functions (functions-labelled s.functions w) (all s u name top w) left c o.stands (tidy-labelled s.functions c.unit o.tidy) label b e
      (label-plain s u name top w left c label b o e) (sym (label-found label c.unit.blocks b e)))

  -- ---- into a block

  -- the flat text enters the block too
  pub record Enters (left : ℕ) (c : Copy) (k : Control) (f : Env) (y : Option Control) : Type 0 where
    pub control : Control
    pub enters : y ≡ Some control
    pub unit : control.unit ≡ flat s u name top w
    pub runs : Runs s u name top w left c k control.block control.rest
    pub gives : GivesInBoth u c k.held f control.held

  -- the control at the first piece of a block
  pub first-runs : (left : ℕ) (c : Copy) (label : List ℕ) (b : BlockText) (e : Env) → block_of label c.unit.blocks ≡ Some b
      → Runs s u name top w left c (record { unit = c.unit; block = label; rest = b.lines; held = e }) (first_piece c label) (pieces_from (flat_copy left s.functions) s.functions c (label_or b.label)
      0 b.lines).rest
  first-runs left c label b e z = record {
    text = b;
    before = [];
    unit = refl;
    stands = z;
    split = refl;
    here = refl;
    next = ap (λ n. (pieces_from (flat_copy left s.functions) s.functions c n 0 b.lines).rest) (label-found label c.unit.blocks b z);
  }

  pub enters : (left : ℕ) (c : Copy) (e f : Env) (from to : List ℕ) (k : Control) → InPlace s u name top w left c → Holds u c e f → IsPlain from → entered c.unit e from to ≡ Some k
      → Enters left c k f (entered (flat s u name top w) f (last_piece_of s.functions c from) (first_piece c to))
  enters left c e f from to k o h p q = by (block_of to c.unit.blocks) refl q
    where
      at : (b : BlockText) → block_of to c.unit.blocks ≡ Some b → (x : Option Env) → phis_taken from e b.lines ≡ x
          → option_map (λ e'. record { unit = c.unit; block = to; rest = b.lines; held = e' }) x ≡ Some k
          → Enters left c k f (entered (flat s u name top w) f (last_piece_of s.functions c from) (first_piece c to))
      at b z None y g = absurd (none-some k g)
      at b z (Some e') y g =
          let tidy = block-tidy s u name top w left c to b o z in
          let m = phis-copied s u name top w (flat_copy left s.functions) c e f e' from (label_or b.label) 0 b.lines o.fits h p tidy.lines tidy.phis y in
          let i : record { unit = c.unit; block = to; rest = b.lines; held = e' } ≡ k = same_Some (record { unit = c.unit; block = to; rest = b.lines; held = e' }) k g in
          subst (λ j. Enters left c j f (entered (flat s u name top w) f (last_piece_of s.functions c from) (first_piece c to))) i record {
            control = record {
              unit = flat s u name top w;
              block = first_piece c to;
              rest = (pieces_from (flat_copy left s.functions) s.functions c (label_or b.label) 0 b.lines).rest;
              held = m.after;
            };
            enters =
                ap (option_and_then (λ (x : BlockText). option_map (λ (v : Env). record { unit = flat s u name top w; block = first_piece c to; rest = x.lines; held = v })
                (phis_taken (last_piece_of s.functions c from) f x.lines))) (first-block left c to b o z)
                ∙ ap (option_map (λ (v : Env). record {
                  unit = flat s u name top w;
                  block = first_piece c to;
                  rest = (pieces_from (flat_copy left s.functions) s.functions c (label_or b.label) 0 b.lines).rest;
                  held = v;
                })) m.taken;
            unit = refl;
            runs = first-runs left c to b e' z;
            gives = m.gives;
          }

      by : (b : Option BlockText) → block_of to c.unit.blocks ≡ b
          → option_and_then (λ (x : BlockText). option_map (λ (v : Env). record { unit = c.unit; block = to; rest = x.lines; held = v }) (phis_taken from e x.lines)) b ≡ Some k
          → Enters left c k f (entered (flat s u name top w) f (last_piece_of s.functions c from) (first_piece c to))
      by None z g = absurd (none-some k g)
      by (Some b) z g = at b z (phis_taken from e b.lines) refl g

  -- ---- what one instruction leads to

  -- alike at once, or after the `phi` of a merge
  abbrev pub Meets : Point → Point → Type 0
  Meets q g = Alike s u name top w q g ⊎ ((h : Point) × (step s g ≡ goes h) × Alike s u name top w q h)

  abbrev pub Follows : Next → Next → Type 0
  Follows no_step y = Unit {0}
  Follows (goes q) (goes g) = Meets q g
  Follows (ends d) (ends done) = EndsAlike s.functions u d done
  Follows _ _ = ⊥

  -- with more held
  pub alike-held : (p f : Point) (a : Alike s u name top w p f) (e g : Env) → GivesInBoth u a.copy e f.control.held g
      → Alike s u name top w (record p { control = record p.control { held = e } }) (record f { control = record f.control { held = g } })
  alike-held p f a e g h = record {
    copy = a.copy;
    left = a.left;
    place = a.place;
    runs = record { text = a.runs.text; before = a.runs.before; unit = a.runs.unit; stands = a.runs.stands; split = a.runs.split; here = a.runs.here; next = a.runs.next };
    unit = a.unit;
    holds = h.holds;
    callers = callers-below s u name top w p.callers a.left a.copy f.control.held g a.callers h.below;
    none = a.none;
    count = a.count;
    wish = a.wish;
    outcomes = a.outcomes;
  }

  pub gives-follows : (p f : Point) (a : Alike s u name top w p f) (r : Option (List ℕ)) (x y : Option Held) → ResultIsNew a.copy.unit r → Keeps x y
      → ((h : Held) (m : Range) → x ≡ Some h → h ≡ part_held m → a.copy ≡ top_copy u)
      → Follows (gives p r x) (gives f (option_map a.copy.value r) y)
  gives-follows p f a r None y t k m = tt
  gives-follows p f a r (Some h) y t k m =
      subst (λ z. Follows (gives p r (Some h)) (gives f (option_map a.copy.value r) z)) (sym (k h refl))
      (inl (alike-held p f a (with_result p.control.held r h) (with_result f.control.held (option_map a.copy.value r) h)
      (gives-result u a.copy p.control.held f.control.held r h a.place.fits a.holds t (λ n e. m h n refl e))))

  -- another control in the same copy
  pub alike-control : (p f : Point) (a : Alike s u name top w p f) (k g : Control) → g.unit ≡ flat s u name top w → Runs s u name top w a.left a.copy k g.block g.rest
      → GivesInBoth u a.copy k.held f.control.held g.held
      → Alike s u name top w (record p { control = k }) (record f { control = g })
  alike-control p f a k g x r h = record {
    copy = a.copy;
    left = a.left;
    place = a.place;
    runs = r;
    unit = x;
    holds = h.holds;
    callers = callers-below s u name top w p.callers a.left a.copy f.control.held g.held a.callers h.below;
    none = a.none;
    count = a.count;
    wish = a.wish;
    outcomes = a.outcomes;
  }

  pub jump-follows : (p f : Point) (a : Alike s u name top w p f) (x y : Option Control) → ((k : Control) → x ≡ Some k → Enters a.left a.copy k f.control.held y) → Follows (jumps p x) (jumps f y)
  jump-follows p f a None y h = tt
  jump-follows p f a (Some k) y h =
      let m = h k refl in
      subst (λ z. Follows (jumps p (Some k)) (jumps f z)) (sym m.enters) (inl (alike-control p f a k m.control m.unit m.runs m.gives))

  pub wish-follows : (p f : Point) (a : Alike s u name top w p f) (x y : Option Wish) → Keeps x y → Follows (wishes p x) (wishes f y)
  wish-follows p f a None y k = tt
  wish-follows p f a (Some v) y k = subst (λ z. Follows (wishes p (Some v)) (wishes f z)) (sym (k v refl))
      (inl (record {
        copy = a.copy;
        left = a.left;
        place = a.place;
        runs = a.runs;
        unit = a.unit;
        holds = a.holds;
        callers = a.callers;
        none = a.none;
        count = a.count;
        wish = refl;
        outcomes = a.outcomes;
      }))

  pub tell-follows : (p f : Point) (a : Alike s u name top w p f) (x y : Option Bool) → Keeps x y → Follows (tells p x) (tells f y)
  tell-follows p f a None y k = tt
  tell-follows p f a (Some v) y k =
      subst (λ z. Follows (tells p (Some v)) (tells f z)) (sym (k v refl))
      (inl (record {
        copy = a.copy;
        left = a.left;
        place = a.place;
        runs = a.runs;
        unit = a.unit;
        holds = a.holds;
        callers = a.callers;
        none = a.none;
        count = a.count;
        wish = a.wish;
        outcomes = ap (λ l. l ++ v ∷ []) a.outcomes;
      }))

  -- at an end no call is open
  pub ends-follows : (p f : Point) (a : Alike s u name top w p f) (xs : List Caller) (x y : Option Stand) → Callers s u name top w xs a.left a.copy f.control.held
      → (a.copy ≡ top_copy u → (v : Stand) → x ≡ Some v → (y ≡ Some (flat_stand s.functions u v)) × StandIsPlain v) → Follows (ends_at p xs x) (ends_at f [] y)
  ends-follows p f a [] None y c h = tt
  ends-follows p f a (k ∷ more) x y c h = tt
  ends-follows p f a [] (Some v) y c h =
      let r = h c v refl in
      subst (λ z. Follows (ends_at p [] (Some v)) (ends_at f [] z)) (sym r.0)
      record {
        state = record { stand = refl; plain = r.1; held = λ n g e. (a.holds.plain n g e, subst (λ (d : Copy). f.control.held (d.value n) ≡ Some g) c (a.holds.same n g e)) };
        wish = a.wish;
        outcomes = a.outcomes;
      }

  -- ---- past a line

  abbrev pub past : Point → List LineText → Point
  past p rest = record p { control = record p.control { rest = rest } }

  zero_first : (n : ℕ) → 0 + n ≡ n
  zero_first n = omega arith

  pub length-next : (xs : List LineText) (l : LineText) → length (xs ++ l ∷ []) ≡ length xs + 1
  length-next [] l = refl
  length-next (x ∷ xs) l = ap suc (length-next xs l) ∙ next (length xs)
    where
      next : (n : ℕ) → suc (n + 1) ≡ suc n + 1
      next n = omega arith

  -- what runs goes on behind a line, in the same piece or in the one that follows
  pub runs-past : (left : ℕ) (c : Copy) (at : Control) (block here : List ℕ) (rest lines : List LineText) (l : LineText) (text : BlockText) (before : List LineText) → at.unit ≡ c.unit
      → block_of at.block c.unit.blocks ≡ Some text → text.lines ≡ before ++ l ∷ rest
      → block ≡ last_from s.functions c at.block (first_piece c at.block) 0 before
      → here ≡ option_map_or (λ (d : Copy). d.path) (opened s.functions c (call_path c at.block (length before)) l.inst) block
      → lines ≡ (pieces_from (flat_copy left s.functions) s.functions c at.block (length before + 1) rest).rest
      → Runs s u name top w left c (record at { rest = rest }) here lines
  runs-past left c at block here rest lines l text before q z y g h m = record {
    text = text;
    before = before ++ l ∷ [];
    unit = q;
    stands = z;
    split = y ∙ sym (append_assoc before (l ∷ []) rest);
    here = h
        ∙ ap (option_map_or (λ (d : Copy). d.path) (opened s.functions c (call_path c at.block (length before)) l.inst)) g
        ∙ ap (λ n. option_map_or (λ (d : Copy). d.path) (opened s.functions c (call_path c at.block n) l.inst) (last_from s.functions c at.block (first_piece c at.block) 0 before)) (sym
        (zero_first (length before)))
        ∙ sym (last-append s.functions c at.block (first_piece c at.block) 0 before (l ∷ []));
    next = m ∙ ap (λ n. (pieces_from (flat_copy left s.functions) s.functions c at.block n rest).rest) (sym (length-next before l));
  }

  -- at the end of a block control is in its last piece
  pub runs-end : (left : ℕ) (c : Copy) (at : Control) (block : List ℕ) (rest : List LineText) → Runs s u name top w left c at block rest → at.rest ≡ [] → block ≡ last_piece_of s.functions c at.block
  runs-end left c at block rest r e =
      r.here
      ∙ ap (last_from s.functions c at.block (first_piece c at.block) 0) (sym (r.split ∙ ap (λ l. r.before ++ l) e ∙ append-nil r.before))
      ∙ ap (λ n. last_from s.functions c n (first_piece c n) 0 r.text.lines) (sym (label-found at.block c.unit.blocks r.text r.stands))
      ∙ ap (λ o. option_map_or (last_piece s.functions c) o (first_piece c at.block)) (sym r.stands)
