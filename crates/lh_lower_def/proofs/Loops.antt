-- The loop of which each turn adds to a sum, turn by turn.
use Rattle.std.proofs.Common.{◌≡◌, ◌≤◌, ◌<◌, ℕ, zero, suc, ◌+◌, ◌*◌, ◌^◌, Bool, true, false, List, [], ◌∷◌, ◌++◌, Some, None, refl, ap, sym, ◌∙◌, subst, arith}
use Rattle.std.specs.Prelude.{nat_eq, nat_lt, codes}
use Rattle.std.proofs.Math.Nat.{mod-eq_of_lt}
use Rattle.std.proofs.lemmas.Bool.Decides.{nat_tests}
use Rattle.std.proofs.lemmas.List.Folds.{list_any-append}
use Rattle.lh_types.specs.Values.{Datum, int_value, time_value}
use Rattle.lh_types.specs.Apply.{apply, bit_value}
use Rattle.lh_types.specs.ApplyInt.{integer_row, row_width}
use Rattle.lh_types.specs.declared.op.Op.TheVariants.{Add, Ult}
use Rattle.lh_unit.specs.Contents.{LineText}
use Rattle.lh_term.specs.Tree.{Tree, constant, now_of, operation_on}
use Rattle.lh_term.specs.Make.{bit_of, make_operation}
use Rattle.lh_flat.specs.Flat.{FlatBlockText, FlatText}
use Rattle.lh_region_def.specs.Known.{known_value, known_cell, known_part, Knowledge, with_known}
use Rattle.lh_region_def.specs.Rows.{Drive, waits, RegionEnd, Rows}
use Rattle.lh_region_def.specs.Joins.{RegionEdge, any_taken, joined}
use Rattle.lh_region_def.specs.Places.{Region, Here, Midst, branches, takes_all}
use Rattle.lh_region_def.specs.Regions.{Course, stops, comes_to, then_course, too_many_turns, no_course, max_turns, max_insts, turns_too_often, after_lines, through, edges_to, through_reached, through_all, edge_into, known_first, region_from, first_region}
use Rattle.lh_lower_def.specs.Modules.{lp_args, lp_entry, lp_body, lp_done}
use Rattle.lh_lower_def.specs.Loops.{whole, sum_of}
use Rattle.lh_lower_def.proofs.Turns.{joined-one, known-already, place, turn, turns, edges-more, other-turn, other-block, reached, passed, turns-step, three, then-stops, NoneFrom, rest-passed}

abbrev flat_block : List ℕ → List LineText → FlatBlockText
flat_block n ls = record { label = n; merge = None; lines = ls }

abbrev pub loop_text : (n : ℕ) → FlatText
loop_text n = record { args = lp_args; blocks = flat_block (codes "entry") (lp_entry n) ∷ flat_block (codes "loop") lp_body ∷ flat_block (codes "done") lp_done ∷ [] }

abbrev loop_region : (n : ℕ) → Region
loop_region n = record { blocks = (loop_text n).blocks; head = 0; probe = now_of; ends_at_head = false }

abbrev integer : ℕ → Datum
integer k = int_value 32 k

-- ---- what is known

-- under the names that a turn looks at, where the loop's variables hold these
abbrev known_loop : (n : ℕ) → (i s : Tree) → Knowledge → Knowledge
known_loop n i s k =
    with_known (with_known (with_known (with_known (with_known (with_known (with_known (with_known k
    (codes "one") (known_value (constant (integer 1))))
    (codes "n") (known_value (constant (integer n))))
    (codes "t") (known_value (constant (time_value (record { fs = 0; delta = 1; eps = 0 })))))
    (codes "ap") (known_value (now_of (whole 0))))
    (codes "a") (known_part (whole 0)))
    (codes "q") (known_part (whole 1)))
    (codes "i") (known_cell i))
    (codes "s") (known_cell s)

pub record KnowsLoop (n : ℕ) (i s : Tree) (k : Knowledge) : Type 0 where
  pub one : k (codes "one") ≡ Some (known_value (constant (integer 1)))
  pub bound : k (codes "n") ≡ Some (known_value (constant (integer n)))
  pub delay : k (codes "t") ≡ Some (known_value (constant (time_value (record { fs = 0; delta = 1; eps = 0 }))))
  pub read : k (codes "ap") ≡ Some (known_value (now_of (whole 0)))
  pub input : k (codes "a") ≡ Some (known_part (whole 0))
  pub output : k (codes "q") ≡ Some (known_part (whole 1))
  pub count : k (codes "i") ≡ Some (known_cell i)
  pub sum : k (codes "s") ≡ Some (known_cell s)

knows-loop : (n : ℕ) (i s : Tree) (k : Knowledge) → KnowsLoop n i s k → k ≡ known_loop n i s k
knows-loop n i s k h =
    let one = known_value (constant (integer 1)) in
    let bound = known_value (constant (integer n)) in
    let delay = known_value (constant (time_value (record { fs = 0; delta = 1; eps = 0 }))) in
    let a : with_known k (codes "one") one ≡ k = known-already k (codes "one") one h.one in
    let b : with_known (with_known k (codes "one") one) (codes "n") bound ≡ k = ap (λ x. with_known x (codes "n") bound) a ∙ known-already k (codes "n") bound h.bound in
    let c = ap (λ x. with_known x (codes "t") delay) b ∙ known-already k (codes "t") delay h.delay in
    let d = ap (λ x. with_known x (codes "ap") (known_value (now_of (whole 0)))) c ∙ known-already k (codes "ap") (known_value (now_of (whole 0))) h.read in
    let e = ap (λ x. with_known x (codes "a") (known_part (whole 0))) d ∙ known-already k (codes "a") (known_part (whole 0)) h.input in
    let f = ap (λ x. with_known x (codes "q") (known_part (whole 1))) e ∙ known-already k (codes "q") (known_part (whole 1)) h.output in
    let g = ap (λ x. with_known x (codes "i") (known_cell i)) f ∙ known-already k (codes "i") (known_cell i) h.count in
    let z : known_loop n i s k ≡ k = ap (λ x. with_known x (codes "s") (known_cell s)) g ∙ known-already k (codes "s") (known_cell s) h.sum in
    sym z

-- ---- the body

-- one more than what a datum says, and whether that is below n
abbrev counted : Datum → Datum
counted x = apply Add (x ∷ integer 1 ∷ [])

abbrev compared : (n : ℕ) → Datum → Datum
compared n x = apply Ult (counted x ∷ integer n ∷ [])

abbrev added : Tree → Tree
added s = make_operation Add (s ∷ now_of (whole 0) ∷ [])

-- after the body
abbrev known_after : (n : ℕ) → Datum → Tree → Knowledge → Knowledge
known_after n x s k =
    with_known (with_known (with_known (with_known (with_known (with_known (with_known (known_loop n (constant x) s k)
    (codes "sp") (known_value s))
    (codes "sn") (known_value (added s)))
    (codes "s") (known_cell (added s)))
    (codes "ip") (known_value (constant x)))
    (codes "in") (known_value (constant (counted x))))
    (codes "i") (known_cell (constant (counted x))))
    (codes "c") (known_value (constant (compared n x)))

abbrev in_body : (t : ℕ) → Here
in_body t = record { place = place t 1; label = codes "loop"; cond = bit_of true }

module _ (n t : ℕ) (x : Datum) (s : Tree) (k : Knowledge) (es : List RegionEdge) (rows : Rows) where
  -- up to its branch
  pub body-taken : takes_all (loop_region n) (in_body t) lp_body (record { known = known_loop n (constant x) s k; edges = es; rows = rows })
      ≡ branches (loop_region n) (in_body t) (Some (constant (compared n x))) (codes "done") (codes "loop") (record { known = known_after n x s k; edges = es; rows = rows })
  body-taken = refl

counted-is : (j : ℕ) → j ≤ 257 → counted (integer j) ≡ integer (j + 1)
unfolding apply integer_row row_width
counted-is j h = let l : j + 1 < 2 ^ 32 = omega (arith, h) in ap integer (mod-eq_of_lt l)

compared-is : (n j : ℕ) → counted (integer j) ≡ integer (j + 1) → compared n (integer j) ≡ bit_value (nat_lt (j + 1) n)
unfolding apply integer_row row_width
compared-is n j h = ap (λ y. apply Ult (y ∷ integer n ∷ [])) h

-- an edge of the loop
abbrev edge_on : (t b : ℕ) → (from : List ℕ) → Knowledge → RegionEdge
edge_on t b from k = record { to = place t b; from = from; cond = bit_of true; known = k }

branch-on : (n t : ℕ) (m : Midst) → branches (loop_region n) (in_body t) (Some (bit_of true)) (codes "done") (codes "loop") m
    ≡ record { known = m.known; edges = m.edges ++ edge_on (t + 1) 1 (codes "loop") m.known ∷ []; rows = m.rows }
unfolding apply integer_row row_width
branch-on n t m = refl

branch-out : (n t : ℕ) (m : Midst) → branches (loop_region n) (in_body t) (Some (bit_of false)) (codes "done") (codes "loop") m
    ≡ record { known = m.known; edges = m.edges ++ edge_on t 2 (codes "loop") m.known ∷ []; rows = m.rows }
unfolding apply integer_row row_width
branch-out n t m = refl

one-taken : (e : RegionEdge) → e.cond ≡ bit_of true → any_taken (e ∷ []) ≡ bit_of true
unfolding apply integer_row row_width
one-taken e h = rw h refl

-- ---- one turn

-- before the turn j: one edge leads to its body, and none to other places from there on
pub record Turned (n j : ℕ) (s : Tree) (c : Course) : Type 0 where
  pub insts : c.insts ≡ 8 * j + 8
  pub rows : c.rows ≡ record { probes = whole 0 ∷ []; drives = []; asserts = []; ends = [] }
  pub few : turns_too_often c.edges ≡ false
  pub known : Knowledge
  pub from : List ℕ
  pub next : edges_to (place j 1) c.edges ≡ edge_on j 1 from (known_loop n (constant (integer j)) s known) ∷ []
  pub later : (t b : ℕ) → j < t → edges_to (place t b) c.edges ≡ []
  pub beside : (b : ℕ) → nat_eq 1 b ≡ false → edges_to (place j b) c.edges ≡ []

abbrev with_edge : Course → (insts : ℕ) → RegionEdge → Course
with_edge c k e = record { insts = c.insts + k; edges = c.edges ++ e ∷ []; rows = c.rows }

-- turns stay few with one edge more
few-more : (es : List RegionEdge) (e : RegionEdge) → turns_too_often es ≡ false → nat_lt 256 e.to.turns ≡ false → turns_too_often (es ++ e ∷ []) ≡ false
few-more es e h k = list_any-append (λ (x : RegionEdge). nat_lt max_turns x.to.turns) es (e ∷ []) ∙ rw (h, k) refl

too-many : (es : List RegionEdge) (e : RegionEdge) → turns_too_often es ≡ false → nat_lt 256 e.to.turns ≡ true → turns_too_often (es ++ e ∷ []) ≡ true
too-many es e h k = list_any-append (λ (x : RegionEdge). nat_lt max_turns x.to.turns) es (e ∷ []) ∙ rw (h, k) refl

fits-more : (j k : ℕ) → j ≤ 256 → k ≤ 16 → nat_lt 65536 (8 * j + 8 + k) ≡ false
fits-more j k h l = grind (arith, nat_tests)

module _ (n j : ℕ) (s : Tree) (c : Course) (h : Turned n j s c) (l : j ≤ 256) where
  abbrev after : Knowledge
  after = known_after n (integer j) s h.known

  -- what the body leaves, by the condition of its branch
  body-comes : (b : Bool) → nat_lt (j + 1) n ≡ b → (m : Midst)
      → branches (loop_region n) (in_body j) (Some (bit_of b)) (codes "done") (codes "loop") (record { known = after; edges = c.edges; rows = c.rows }) ≡ m
      → reached (loop_region n) (place j 1) c ≡ after_lines (c.insts + 8) m
  body-comes b w m e =
      let g = loop_region n in
      let x : RegionEdge = edge_on j 1 h.from (known_loop n (constant (integer j)) s h.known) in
      let a : reached g (place j 1) c ≡ through g (place j 1) (any_taken (x ∷ [])) (x ∷ []) c = ap (λ es. through_reached g (place j 1) es c) h.next in
      let q : any_taken (x ∷ []) ≡ bit_of true = one-taken x refl in
      let d : through g (place j 1) (any_taken (x ∷ [])) (x ∷ []) c ≡ through g (place j 1) (bit_of true) (x ∷ []) c = ap (λ z. through g (place j 1) z (x ∷ []) c) q in
      let fits : nat_lt max_insts (c.insts + 8) ≡ false = ap (λ z. nat_lt max_insts (z + 8)) h.insts ∙ fits-more j 8 l (omega arith) in
      let f : through g (place j 1) (bit_of true) (x ∷ []) c ≡ after_lines (c.insts + 8) (takes_all g (in_body j) lp_body (record { known = joined (x ∷ []); edges = c.edges; rows = c.rows })) =
      rw fits refl in
      let k = ap (λ z. after_lines (c.insts + 8) (takes_all g (in_body j) lp_body (record { known = z; edges = c.edges; rows = c.rows }))) (joined-one x) in
      let y : compared n (integer j) ≡ bit_value b = compared-is n j (counted-is j (omega (arith, l))) ∙ ap bit_value w in
      let p = ap (λ z. after_lines (c.insts + 8) (branches g (in_body j) (Some (constant z)) (codes "done") (codes "loop") (record { known = after; edges = c.edges; rows = c.rows }))) y in
      a ∙ d ∙ f ∙ k ∙ ap (after_lines (c.insts + 8)) (body-taken n j (integer j) s h.known c.edges c.rows) ∙ p ∙ ap (after_lines (c.insts + 8)) e

  first-passed : reached (loop_region n) (place j 0) c ≡ comes_to c
  first-passed = passed (loop_region n) (place j 0) c (h.beside 0 refl)

  -- ---- a turn that is not the last

  module _ (w : nat_lt (j + 1) n ≡ true) where
    abbrev on : RegionEdge
    on = edge_on (j + 1) 1 (codes "loop") after

    body-on : reached (loop_region n) (place j 1) c ≡ after_lines (c.insts + 8) (record { known = after; edges = c.edges ++ on ∷ []; rows = c.rows })
    body-on = body-comes true w (record { known = after; edges = c.edges ++ on ∷ []; rows = c.rows }) (branch-on n j (record { known = after; edges = c.edges; rows = c.rows }))

    on-elsewhere : (t b : ℕ) → nat_eq (j + 1) t ≡ false → edges_to (place t b) c.edges ≡ [] → edges_to (place t b) (c.edges ++ on ∷ []) ≡ []
    on-elsewhere t b d e = edges-more (place t b) c.edges on ∙ rw e (other-turn on t b d)

    knows-after : KnowsLoop n (constant (integer (j + 1))) (added s) after
    knows-after = record {
      one = refl;
      bound = refl;
      delay = refl;
      read = refl;
      input = refl;
      output = refl;
      count = ap (λ y. Some (known_cell (constant y))) (counted-is j (omega (arith, l)));
      sum = refl;
    }

    on-there : edges_to (place (j + 1) 1) (c.edges ++ on ∷ []) ≡ edge_on (j + 1) 1 (codes "loop") (known_loop n (constant (integer (j + 1))) (added s) after) ∷ []
    on-there =
        let e : nat_eq (j + 1) (j + 1) ≡ true = grind (arith, nat_tests) in
        let f : edges_to (place (j + 1) 1) (on ∷ []) ≡ on ∷ [] = rw e refl in
        edges-more (place (j + 1) 1) c.edges on
        ∙ ap (λ xs. xs ++ edges_to (place (j + 1) 1) (on ∷ [])) (h.later (j + 1) 1 (omega arith))
        ∙ f
        ∙ ap (λ k. edge_on (j + 1) 1 (codes "loop") k ∷ []) (knows-loop n (constant (integer (j + 1))) (added s) after knows-after)

    module _ (less : j + 1 ≤ 256) where
      few-on : turns_too_often (c.edges ++ on ∷ []) ≡ false
      few-on = few-more c.edges on h.few (grind (arith, nat_tests))

      body-goes-on : reached (loop_region n) (place j 1) c ≡ comes_to (with_edge c 8 on)
      body-goes-on = body-on ∙ rw few-on refl

      pub turn-on : through_all (loop_region n) (turn 3 j) c ≡ comes_to (with_edge c 8 on)
      turn-on =
          let beyond : edges_to (place j 2) (c.edges ++ on ∷ []) ≡ [] = on-elsewhere j 2 (grind (arith, nat_tests)) (h.beside 2 refl) in
          three (loop_region n) (place j 0) (place j 1) (place j 2) c c (with_edge c 8 on) (with_edge c 8 on) first-passed body-goes-on
          (passed (loop_region n) (place j 2) (with_edge c 8 on) beyond)

      pub turned-on : Turned n (j + 1) (added s) (with_edge c 8 on)
      turned-on = record {
        insts = let e : c.insts ≡ 8 * j + 8 = h.insts in omega (arith, e);
        rows = h.rows;
        few = few-on;
        known = after;
        from = codes "loop";
        next = on-there;
        later = λ t b k. on-elsewhere t b (grind (arith, nat_tests)) (h.later t b (omega (arith, k)));
        beside = λ b d. edges-more (place (j + 1) b) c.edges on ∙ rw (h.later (j + 1) b (omega arith)) (other-block on (j + 1) b d);
      }

    -- a turn too many
    module _ (last : j ≡ 256) where
      pub turn-stops : through_all (loop_region n) (turn 3 j) c ≡ stops too_many_turns
      turn-stops =
          let o : turns_too_often (c.edges ++ on ∷ []) ≡ true = too-many c.edges on h.few (let e : nat_lt 256 (j + 1) ≡ true = grind (arith, nat_tests) in e) in
          let s : reached (loop_region n) (place j 1) c ≡ stops too_many_turns = body-on ∙ rw o refl in
          then-stops (loop_region n) (place j 0) (place j 1) (place j 2) c c (stops too_many_turns) first-passed s

  -- ---- the last turn

  module _ (w : nat_lt (j + 1) n ≡ false) where
    abbrev out : RegionEdge
    out = edge_on j 2 (codes "loop") after

    few-out : turns_too_often (c.edges ++ out ∷ []) ≡ false
    few-out = few-more c.edges out h.few (grind (arith, nat_tests))

    body-out : reached (loop_region n) (place j 1) c ≡ comes_to (with_edge c 8 out)
    body-out =
        body-comes false w (record { known = after; edges = c.edges ++ out ∷ []; rows = c.rows }) (branch-out n j (record { known = after; edges = c.edges; rows = c.rows }))
        ∙ rw few-out refl

    abbrev drive_row : Drive
    drive_row = record { cond = bit_of true; part = whole 1; value = added s; delay = constant (time_value (record { fs = 0; delta = 1; eps = 0 })) }

    abbrev end_row : Knowledge → RegionEnd
    end_row k = record { cond = bit_of true; way = waits 0 true (whole 0 ∷ []) false; from = codes "done"; known = k }

    abbrev rows_out : Rows → Rows
    rows_out r = record { probes = r.probes; drives = r.drives ++ drive_row ∷ []; asserts = r.asserts; ends = r.ends ++ end_row (with_known after (codes "r") (known_value (added s))) ∷ [] }

    abbrev in_done : Here
    in_done = record { place = place j 2; label = codes "done"; cond = bit_of true }

    done-taken : (es : List RegionEdge) (r : Rows) → takes_all (loop_region n) in_done lp_done (record { known = after; edges = es; rows = r })
        ≡ record { known = with_known after (codes "r") (known_value (added s)); edges = es; rows = rows_out r }
    done-taken es r = refl

    abbrev pub finished : Course
    finished = record { insts = c.insts + 8 + 3; edges = c.edges ++ out ∷ []; rows = rows_out c.rows }

    out-there : edges_to (place j 2) (c.edges ++ out ∷ []) ≡ out ∷ []
    out-there =
        let e : nat_eq j j ≡ true = grind (arith, nat_tests) in
        let f : edges_to (place j 2) (out ∷ []) ≡ out ∷ [] = rw e refl in
        edges-more (place j 2) c.edges out ∙ ap (λ xs. xs ++ edges_to (place j 2) (out ∷ [])) (h.beside 2 refl) ∙ f

    done-comes : reached (loop_region n) (place j 2) (with_edge c 8 out) ≡ comes_to finished
    done-comes =
        let g = loop_region n in
        let d = with_edge c 8 out in
        let a : reached g (place j 2) d ≡ through g (place j 2) (any_taken (out ∷ [])) (out ∷ []) d = ap (λ es. through_reached g (place j 2) es d) out-there in
        let q = ap (λ z. through g (place j 2) z (out ∷ []) d) (one-taken out refl) in
        let fits : nat_lt max_insts (c.insts + 8 + 3) ≡ false =
        ap (λ z. nat_lt max_insts (z + 8 + 3)) h.insts ∙ (let e : nat_lt 65536 (8 * j + 8 + 8 + 3) ≡ false = grind (arith, nat_tests) in e) in
        let f : through g (place j 2) (bit_of true) (out ∷ []) d ≡ after_lines (c.insts + 8 + 3) (takes_all g in_done lp_done (record { known = joined (out ∷ []); edges = d.edges; rows = c.rows })) =
        rw fits refl in
        let k = ap (λ z. after_lines (c.insts + 8 + 3) (takes_all g in_done lp_done (record { known = z; edges = d.edges; rows = c.rows }))) (joined-one out) in
        let y : after_lines (c.insts + 8 + 3) (takes_all g in_done lp_done (record { known = after; edges = d.edges; rows = c.rows })) ≡ comes_to finished =
        ap (after_lines (c.insts + 8 + 3)) (done-taken d.edges c.rows) ∙ rw few-out refl in
        a ∙ q ∙ f ∙ k ∙ y

    pub turn-out : through_all (loop_region n) (turn 3 j) c ≡ comes_to finished
    turn-out = three (loop_region n) (place j 0) (place j 1) (place j 2) c c (with_edge c 8 out) finished first-passed body-out done-comes

    pub none-after : NoneFrom (loop_region n) (j + 1) finished
    none-after t b k =
        edges-more (place t b) c.edges out
        ∙ rw (h.later t b (omega (arith, k))) (other-turn out t b (let e : nat_eq j t ≡ false = grind (arith, nat_tests) in e))

-- ---- from the head

abbrev head_edge : (n : ℕ) → RegionEdge
head_edge n = edge_into 0 [] (bit_of true) (known_first (loop_text n))

-- after the entry
abbrev known_entered : (n : ℕ) → Knowledge
known_entered n =
    with_known (with_known (with_known (with_known (with_known (with_known (with_known (joined (head_edge n ∷ []))
    (codes "z") (known_value (constant (integer 0))))
    (codes "one") (known_value (constant (integer 1))))
    (codes "n") (known_value (constant (integer n))))
    (codes "t") (known_value (constant (time_value (record { fs = 0; delta = 1; eps = 0 })))))
    (codes "ap") (known_value (now_of (whole 0))))
    (codes "i") (known_cell (constant (integer 0))))
    (codes "s") (known_cell (constant (integer 0)))

abbrev pub entered : (n : ℕ) → Course
entered n = record {
  insts = 8;
  edges = edge_on 0 1 (codes "entry") (known_entered n) ∷ [];
  rows = record { probes = whole 0 ∷ []; drives = []; asserts = []; ends = [] };
}

entry-through : (n : ℕ) → through (loop_region n) (place 0 0) (bit_of true) (head_edge n ∷ []) no_course ≡ comes_to (entered n)
entry-through n = refl

knows-entered : (n : ℕ) → KnowsLoop n (constant (integer 0)) (constant (integer 0)) (known_entered n)
knows-entered n = record { one = refl; bound = refl; delay = refl; read = refl; input = refl; output = refl; count = refl; sum = refl }

pub starts : (n : ℕ) → Turned n 0 (constant (integer 0)) (entered n)
starts n = record {
  insts = refl;
  rows = refl;
  few = refl;
  known = known_entered n;
  from = codes "entry";
  next = ap (λ k. edge_on 0 1 (codes "entry") k ∷ []) (knows-loop n (constant (integer 0)) (constant (integer 0)) (known_entered n) (knows-entered n));
  later = λ t b h. other-turn (edge_on 0 1 (codes "entry") (known_entered n)) t b (grind (arith, nat_tests));
  beside = λ b h. other-block (edge_on 0 1 (codes "entry") (known_entered n)) 0 b h;
}

pub first-region : (n : ℕ) → first_region (loop_text n) now_of ≡ through_all (loop_region n) (turns 3 257) (entered n)
unfolding region_from
first-region n = ap (λ x. then_course x (through_all (loop_region n) (turns 3 257))) (entry-through n)

-- ---- all turns

-- the sum as it is made
added-is : (s : Tree) → added s ≡ operation_on Add (s ∷ now_of (whole 0) ∷ [])
added-is (constant v) = refl
added-is _ = refl

-- the turns before j are behind
pub record Behind (n j : ℕ) : Type 0 where
  pub course : Course
  pub is : through_all (loop_region n) (turns 3 j) (entered n) ≡ comes_to course
  pub turned : Turned n j (sum_of j) course

pub behind : (n j : ℕ) → j ≤ 256 → ((i : ℕ) → i < j → nat_lt (i + 1) n ≡ true) → Behind n j
behind n zero l h = record { course = entered n; is = refl; turned = starts n }
behind n (suc j) l h =
    let p : Behind n j = behind n j (omega (arith, l)) (λ i k. h i (omega (arith, k))) in
    let w : nat_lt (j + 1) n ≡ true = h j (omega arith) in
    let e : j + 1 ≡ suc j = omega arith in
    let t = turned-on n j (sum_of j) p.course p.turned (omega (arith, l)) w (omega (arith, l)) in
    record {
      course = with_edge p.course 8 (edge_on (j + 1) 1 (codes "loop") (known_after n (integer j) (sum_of j) p.turned.known));
      is = turns-step (loop_region n) 3 j (entered n) p.course p.is ∙ turn-on n j (sum_of j) p.course p.turned (omega (arith, l)) w (omega (arith, l));
      turned = subst (λ x. Turned n x (sum_of (suc j)) (with_edge p.course 8 (edge_on (j + 1) 1 (codes "loop") (known_after n (integer j) (sum_of j) p.turned.known)))) e
          (subst (λ x. Turned n (j + 1) x (with_edge p.course 8 (edge_on (j + 1) 1 (codes "loop") (known_after n (integer j) (sum_of j) p.turned.known)))) (added-is (sum_of j)) t);
    }

-- ---- to the end

abbrev pub loop_rows : (value : Tree) → Knowledge → Rows
loop_rows v k = record {
  probes = whole 0 ∷ [];
  drives = record { cond = bit_of true; part = whole 1; value = v; delay = constant (time_value (record { fs = 0; delta = 1; eps = 0 })) } ∷ [];
  asserts = [];
  ends = record { cond = bit_of true; way = waits 0 true (whole 0 ∷ []) false; from = codes "done"; known = k } ∷ [];
}

-- where the body is executed once more than k times
pub record Finished (k : ℕ) : Type 0 where
  pub course : Course
  pub is : first_region (loop_text (suc k)) now_of ≡ comes_to course
  pub known : Knowledge
  pub rows : course.rows ≡ loop_rows (sum_of (suc k)) known

pub finish : (k : ℕ) → k ≤ 256 → Finished k
finish k l =
    let g = loop_region (suc k) in
    let p : Behind (suc k) k = behind (suc k) k l (λ i h. grind (arith, nat_tests)) in
    let w : nat_lt (k + 1) (suc k) ≡ false = grind (arith, nat_tests) in
    let c : Course = finished (suc k) k (sum_of k) p.course p.turned l w in
    let t : through_all g (turns 3 (suc k)) (entered (suc k)) ≡ comes_to c =
    turns-step g 3 k (entered (suc k)) p.course p.is ∙ turn-out (suc k) k (sum_of k) p.course p.turned l w in
    let next : k + 1 ≡ suc k = omega arith in
    let none : NoneFrom g (suc k) c = subst (λ x. NoneFrom g x c) next (none-after (suc k) k (sum_of k) p.course p.turned l w) in
    let a : through_all g (turns 3 257) (entered (suc k)) ≡ comes_to c = rest-passed g 3 (suc k) (entered (suc k)) c t none 257 (omega (arith, l)) in
    let known : Knowledge = with_known (known_after (suc k) (integer k) (sum_of k) p.turned.known) (codes "r") (known_value (added (sum_of k))) in
    let r : c.rows ≡ loop_rows (added (sum_of k)) (with_known (known_after (suc k) (integer k) (sum_of k) p.turned.known) (codes "r") (known_value (added (sum_of k)))) =
    ap (rows_out (suc k) k (sum_of k) p.course p.turned l w) p.turned.rows in
    record {
      course = c;
      is = first-region (suc k) ∙ a;
      known = known;
      rows = r ∙ ap (λ v. loop_rows v known) (added-is (sum_of k));
    }

-- a body that is executed more than 257 times
pub goes-on : (n : ℕ) → 258 ≤ n → first_region (loop_text n) now_of ≡ stops too_many_turns
goes-on n l =
    let p : Behind n 256 = behind n 256 (omega arith) (λ i h. grind (arith, nat_tests, l)) in
    let w : nat_lt (256 + 1) n ≡ true = grind (arith, nat_tests, l) in
    first-region n
    ∙ turns-step (loop_region n) 3 256 (entered n) p.course p.is
    ∙ turn-stops n 256 (sum_of 256) p.course p.turned (omega arith) w refl
