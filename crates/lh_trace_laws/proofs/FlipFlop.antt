-- That an entity with a register may stand for a process that looks for an edge: a flip-flop.
use Rattle.std.proofs.Common.{◌≡◌, ◌≤◌, ℕ, zero, suc, List, [], ◌∷◌, map, take, drop, Bool, true, false, not, ◌&&◌, ◌||◌, nat_eq, if◌then◌else◌, refl, ap, ◌∙◌, Option, Some, None, arith, inr}
use Rattle.std.specs.Prelude.{codes}
use Rattle.std.proofs.Math.Bool.{and-true}
use Rattle.std.proofs.lemmas.Bool.{or_right}
use Rattle.lh_time.specs.declared.Instant.{Instant}
use Rattle.lh_time.specs.Due.{due_of}
use Rattle.lh_types.specs.Values.{Datum, int_value}
use Rattle.lh_types.specs.Bits.{bits_number, value_bits, value_from_bits}
use Rattle.lh_types.specs.Apply.{apply}
use Rattle.lh_types.specs.ApplyInt.{integer_row, row_width}
use Rattle.lh_types.specs.Wish.{Wish, no_wish, with_drive}
use Rattle.lh_types.specs.declared.part.Range.{Range}
use Rattle.lh_types.specs.declared.op.Op.TheVariants as op
use Rattle.lh_unit.specs.declared.inst.UnitKind.TheVariants as kind
use Rattle.lh_unit.specs.declared.inst.Mode.TheVariants.{Rise}
use Rattle.lh_unit.specs.Contents.{OperandText, const_text, pure_text, prb_text, drv_text, reg_text, br_text, branch_text, wait_text, LineText, ArgText, UnitText, unit_text}
use Rattle.lh_unit.specs.Held.{datum_held, part_held, Env, nothing_held, with_held, with_args, bits_in}
use Rattle.lh_unit.specs.Activation.{Activated, Control, start_point, run, activate}
use Rattle.lh_unit.specs.Hierarchy.{Instance}
use Rattle.lh_unit.specs.Pass.{pass, probes}
use Rattle.lh_unit.specs.World.{Rules, rules_of, bit_at, bit_numbers}
use Rattle.lh_unit.specs.Trace.{SameTrace}
use Rattle.lh_trace_laws.specs.Replacing.{MayStand}
use Rattle.lh_trace_laws.proofs.Samples.{global, gives, does, typed, bit, bit_signal, input, output, block, delay}
use Rattle.lh_trace_laws.proofs.ActivationsLaw.{run_enough}
use Rattle.lh_trace_laws.proofs.BitSets.{SameSet, bits_read}
use Rattle.lh_trace_laws.proofs.StandsFor.{scene, fresh, waiting_at, EndsAt, EdgeFor}
use Rattle.lh_trace_laws.proofs.MayStandLaw.{edge_may_stand}
use Rattle.lh_trace_laws.proofs.ReplacingLaw.{replaced_same_trace}

abbrev args : List ArgText
args = input (codes "clk") bit_signal ∷ input (codes "d") bit_signal ∷ output (codes "q") bit_signal ∷ []

abbrev binary : OperandText → List ℕ → List OperandText
binary x y = x ∷ record { value = y; ty = None } ∷ []

abbrev init_lines : List LineText
init_lines =
    gives (codes "clk0") (prb_text (typed bit_signal (codes "clk")))
    ∷ does (wait_text (codes "check") None (codes "clk" ∷ []))
    ∷ []

abbrev check_lines : List LineText
check_lines =
    gives (codes "clk1") (prb_text (typed bit_signal (codes "clk")))
    ∷ gives (codes "chg") (pure_text op.Neq (binary (typed bit (codes "clk0")) (codes "clk1")))
    ∷ gives (codes "posedge") (pure_text op.And (binary (typed bit (codes "chg")) (codes "clk1")))
    ∷ does (branch_text (codes "posedge") (codes "init") (codes "event"))
    ∷ []

abbrev event_lines : List LineText
event_lines =
    gives (codes "dp") (prb_text (typed bit_signal (codes "d")))
    ∷ gives (codes "delay") (const_text (delay 0 1 0))
    ∷ does (drv_text (typed bit_signal (codes "q")) (codes "dp") (codes "delay") None)
    ∷ does (br_text (codes "init"))
    ∷ []

abbrev as_process : UnitText
as_process = record {
  kind = kind.Proc;
  name = global (codes "ff");
  args = args;
  result = None;
  blocks = block (codes "init") init_lines ∷ block (codes "check") check_lines ∷ block (codes "event") event_lines ∷ [];
}

abbrev as_entity : UnitText
as_entity = record {
  kind = kind.Entity;
  name = global (codes "ff");
  args = args;
  result = None;
  blocks = record {
    label = None;
    lines =
        gives (codes "v0") (prb_text (typed bit_signal (codes "d")))
        ∷ gives (codes "v1") (prb_text (typed bit_signal (codes "clk")))
        ∷ gives (codes "v2") (const_text (delay 0 1 0))
        ∷ does (reg_text (typed bit_signal (codes "q")) (record { value = codes "v0"; mode = Rise; trigger = codes "v1"; gate = None; after = Some (codes "v2") } ∷ []))
        ∷ [];
  } ∷ [];
}

abbrev number : Bool → ℕ
number b = if b then 1 else 0

-- the number of one bit
number_at : (bits : List Bool) (k : ℕ) → bits_number (take 1 (take 1 (drop k bits))) ≡ number (bit_at bits k)
number_at [] zero = refl
number_at [] (suc k) = refl
number_at (true ∷ bs) zero = refl
number_at (false ∷ bs) zero = refl
number_at (b ∷ bs) (suc k) = number_at bs k

number_in : (bits : List Bool) (r : Range) → r.len ≡ 1 → bits_number (take 1 (bits_in bits r)) ≡ number (bit_at bits r.lo)
number_in bits r e = ap (λ n. bits_number (take 1 (take n (drop r.lo bits)))) e ∙ number_at bits r.lo

abbrev value_in : List Bool → Range → Datum
value_in bits r = value_from_bits bit (bits_in bits r)

abbrev the_drive : Range → Range → List Bool → Instant → Wish
the_drive k o now t = with_drive no_wish (due_of t (record { fs = 0; delta = 1; eps = 0 })) o.lo (value_bits (value_in now k))

abbrev rose : Bool → Bool → Bool
rose p n = not p && n

-- it holds its arguments, and the clock at the last activation
record Stands (c k o : Range) (past : List Bool) (e : Env) : Type 0 where
  clk : e (codes "clk") ≡ Some (part_held c)
  d : e (codes "d") ≡ Some (part_held k)
  q : e (codes "q") ≡ Some (part_held o)
  clk0 : e (codes "clk0") ≡ Some (datum_held (int_value 1 (number (bit_at past c.lo))))

abbrev at_init : Env → Control
at_init e = record { unit = as_process; block = codes "init"; rest = init_lines; held = e }

abbrev at_check : Env → Control
at_check e = record { unit = as_process; block = codes "check"; rest = check_lines; held = e }

module _ (r : Rules) (enough : 10 ≤ r.bound) (c k o : Range) (c1 : c.len ≡ 1) where
  -- what is held after the check, and after the event
  abbrev checked : List Bool → Env → (p n : Bool) → Env
  checked now e p n = with_held (with_held (with_held e (codes "clk1") (datum_held (int_value 1 (number n)))) (codes "chg") (datum_held (int_value 1 (number (rose p n || (p && not n))))))
      (codes "posedge") (datum_held (int_value 1 (number (rose p n))))

  abbrev through : List Bool → Env → (p n : Bool) → Env
  through now e p n = if rose p n then with_held (with_held (checked now e p n) (codes "dp") (datum_held (value_in now k))) (codes "delay") (datum_held (delay 0 1 0)) else checked now e p n

  abbrev ended : (on : List Range) → Wish → Env → (n : Bool) → Option Activated
  ended on w e n = Some (record { state = waiting_at (codes "init") (codes "check") on (with_held e (codes "clk0") (datum_held (int_value 1 (number n)))); wish = w; outcomes = [] })

  from_init : (now : List Bool) (t : Instant) (e : Env) (n : Bool) → e (codes "clk") ≡ Some (part_held c) → bits_number (take 1 (bits_in now c)) ≡ number n
      → run 2 (scene r now t) (start_point (at_init e)) ≡ ended (c ∷ []) no_wish e n
  from_init now t e n h m = rw h (rw h (rw m refl))

  from_check : (now : List Bool) (t : Instant) (e : Env) (p n : Bool) → e (codes "clk") ≡ Some (part_held c) → e (codes "d") ≡ Some (part_held k) → e (codes "q") ≡ Some (part_held o)
      → e (codes "clk0") ≡ Some (datum_held (int_value 1 (number p))) → bits_number (take 1 (bits_in now c)) ≡ number n
      → run 10 (scene r now t) (start_point (at_check e)) ≡ ended (c ∷ []) (if rose p n then the_drive k o now t else no_wish) (through now e p n) n
  unfolding apply integer_row row_width
  from_check now t e true true h d q z m = rw (h, z) (rw m (rw h (rw h (rw m refl))))
  from_check now t e true false h d q z m = rw (h, z) (rw m (rw h (rw h (rw m refl))))
  from_check now t e false true h d q z m = rw (h, z) (rw m (rw d (rw q (rw h (rw h (rw m refl))))))
  from_check now t e false false h d q z m = rw (h, z) (rw m (rw h (rw h (rw m refl))))

  runs_from : (now : List Bool) (t : Instant) (steps : ℕ) (from : Control) (done : Activated) → steps ≤ 10 → run steps (scene r now t) (start_point from) ≡ Some done
      → run r.bound (scene r now t) (start_point from) ≡ Some done
  runs_from now t steps from done l h = run_enough (scene r now t) steps r.bound (start_point from) done (omega (arith, enough, l)) h

  -- what is held then stands for the present bits
  stands_then : (now : List Bool) (e : Env) (p : Bool) (past : List Bool) → Stands c k o past e
      → Stands c k o now (with_held (through now e p (bit_at now c.lo)) (codes "clk0") (datum_held (int_value 1 (number (bit_at now c.lo)))))
  stands_then now e p past s = record { clk = clk_of p (bit_at now c.lo); d = d_of p (bit_at now c.lo); q = q_of p (bit_at now c.lo); clk0 = refl }
    where
      clk_of : (p n : Bool) → through now e p n (codes "clk") ≡ Some (part_held c)
      clk_of true n = s.clk
      clk_of false true = s.clk
      clk_of false false = s.clk

      d_of : (p n : Bool) → through now e p n (codes "d") ≡ Some (part_held k)
      d_of true n = s.d
      d_of false true = s.d
      d_of false false = s.d

      q_of : (p n : Bool) → through now e p n (codes "q") ≡ Some (part_held o)
      q_of true n = s.q
      q_of false true = s.q
      q_of false false = s.q

  abbrev rows : (past now : List Bool) → Instant → Wish
  rows past now t = if rose (bit_at past c.lo) (bit_at now c.lo) then the_drive k o now t else no_wish

  one_part : SameSet (bit_numbers (c ∷ [])) (c.lo ∷ [])
  one_part = rw c1 (λ a. refl)

  test_of : (n : Bool) → not (nat_eq (number n) 0) ≡ n
  test_of true = refl
  test_of false = refl

  clock_now : (now : List Bool) → not (nat_eq (bits_number (take 1 (bits_in now c))) 0) ≡ bit_at now c.lo
  clock_now now = ap (λ n. not (nat_eq n 0)) (number_in now c c1) ∙ test_of (bit_at now c.lo)

  wish_if : (w : Wish) (p b n : Bool) → b ≡ n → (if (not p && b) && true then w else no_wish) ≡ (if rose p n then w else no_wish)
  wish_if w p b n e = ap (λ x. if (not p && x) && true then w else no_wish) e ∙ ap (λ x. if x then w else no_wish) (and-true (not p && n))

  pass_wish : (past now : List Bool) (t : Instant) (sigs : List Range) → (pass as_entity (c ∷ k ∷ o ∷ []) sigs now (Some (bits_read past (c.lo ∷ []))) t).wish ≡ rows past now t
  unfolding pass
  pass_wish past now t sigs = wish_if (the_drive k o now t) (bit_at past c.lo) _ (bit_at now c.lo) (clock_now now)

  pass_seen : (now : List Bool) (t : Instant) (sigs : List Range) (memory : Option (List Bool)) → (pass as_entity (c ∷ k ∷ o ∷ []) sigs now memory t).seen ≡ bits_read now (c.lo ∷ [])
  unfolding pass
  pass_seen now t sigs memory = ap (λ b. b ∷ []) (clock_now now)

  pass_first : (now : List Bool) (t : Instant) (sigs : List Range) → (pass as_entity (c ∷ k ∷ o ∷ []) sigs now None t).wish ≡ no_wish
  unfolding pass
  pass_first now t sigs = refl

  senses_both : (sigs : List Range) → probes as_entity (c ∷ k ∷ o ∷ []) sigs ≡ k ∷ c ∷ []
  unfolding probes
  senses_both sigs = refl

  rows_if : (w : Wish) (p n : Bool) → (((p && not n) || (not p && n)) || false) ≡ false → (if rose p n then w else no_wish) ≡ no_wish
  rows_if w true n h = refl
  rows_if w false true h = cc
  rows_if w false false h = refl

  -- what it holds at first
  abbrev given : Env
  given = with_args nothing_held args (part_held c ∷ part_held k ∷ part_held o ∷ [])

  first_ends : (now : List Bool) (t : Instant) (i : Instance) → i.args ≡ c ∷ k ∷ o ∷ []
      → EndsAt (λ b. Stands c k o now) (codes "check") (c.lo ∷ []) no_wish (activate r.bound (scene r now t) as_process (fresh as_process i))
  unfolding activate
  first_ends now t i e = rw e (record {
    block = codes "init";
    held = with_held given (codes "clk0") (datum_held (int_value 1 (number (bit_at now c.lo))));
    parts = c ∷ [];
    known = record { clk = refl; d = refl; q = refl; clk0 = refl };
    same_parts = one_part;
    is = runs_from now t 2 (at_init given) _ (omega arith) (from_init now t given (bit_at now c.lo) refl (number_in now c c1));
  })

  later_ends : (past now : List Bool) (t : Instant) (b : List ℕ) (e : Env) (parts : List Range) → Stands c k o past e
      → EndsAt (λ b. Stands c k o now) (codes "check") (c.lo ∷ []) (rows past now t) (activate r.bound (scene r now t) as_process (waiting_at b (codes "check") parts e))
  unfolding activate
  later_ends past now t b e parts s = record {
    block = codes "init";
    held = with_held (through now e (bit_at past c.lo) (bit_at now c.lo)) (codes "clk0") (datum_held (int_value 1 (number (bit_at now c.lo))));
    parts = c ∷ [];
    known = stands_then now e (bit_at past c.lo) past s;
    same_parts = one_part;
    is = runs_from now t 10 (at_check e) _ (omega arith) (from_check now t e (bit_at past c.lo) (bit_at now c.lo) s.clk s.d s.q s.clk0 (number_in now c c1));
  }

  flip_flop_for : (i : Instance) → i.args ≡ c ∷ k ∷ o ∷ [] → k.len ≡ 1 → EdgeFor r as_process as_entity i
  flip_flop_for i e k1 = record {
    is_process = refl;
    is_entity = refl;
    to = codes "check";
    on = c.lo ∷ [];
    triggers = c.lo ∷ [];
    rows = rows;
    stands = λ past b. Stands c k o past;
    remembers = λ bits memory. memory ≡ bits;
    first = λ now t. first_ends now t i e;
    later = later_ends;
    waited = λ a h. h;
    probed = rw (e, senses_both i.sigs, k1, c1) (λ a h. or_right _ _ h);
    rows_rest = λ past now t h. rows_if (the_drive k o now t) (bit_at past c.lo) (bit_at now c.lo) h;
    keeps = λ now t memory. rw e (pass_seen now t i.sigs memory);
    first_rests = λ now t. rw e (pass_first now t i.sigs);
    fires = λ past now memory t m h. rw (m, e) (pass_wish past now t i.sigs);
    rests = λ past now memory t m h. rw (m, e) (pass_wish past now t i.sigs ∙ rows_if (the_drive k o now t) (bit_at past c.lo) (bit_at now c.lo) h);
  }

-- an instance has three arguments of one bit
three_args : (r : Rules) (i : Instance) → 10 ≤ r.bound → (rs : List Range) → i.args ≡ rs → map (λ (a : Range). a.len) rs ≡ 1 ∷ 1 ∷ 1 ∷ [] → EdgeFor r as_process as_entity i
three_args r i b (c ∷ k ∷ o ∷ []) e w = let c1 : c.len ≡ 1 = cc in let k1 : k.len ≡ 1 = cc in flip_flop_for r b c k o c1 i e k1
three_args r i b [] e w = absurd cc
three_args r i b (c ∷ []) e w = absurd cc
three_args r i b (c ∷ k ∷ []) e w = absurd cc
three_args r i b (c ∷ k ∷ o ∷ z ∷ more) e w = absurd cc

-- The entity may stand for the process, in every module and every instance.
pub flip_flop_stands : (r : Rules) → 10 ≤ r.bound → MayStand r as_process as_entity
flip_flop_stands r b = edge_may_stand r as_process as_entity refl refl refl refl (refl, (refl, (refl, (refl, tt)))) (λ i w. three_args r i b i.args refl w.args)

-- and so a file has the same trace with either
pub flip_flop_same_trace : SameTrace (unit_text as_process ∷ []) (unit_text as_entity ∷ [])
flip_flop_same_trace = replaced_same_trace 1000000 (unit_text as_process ∷ []) (unit_text as_entity ∷ []) (inr (flip_flop_stands (rules_of 1000000 (unit_text as_process ∷ [])) (omega arith)), tt)
