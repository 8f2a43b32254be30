-- An entity whose registers give at every edge what a process gives may stand for it.
use Rattle.std.proofs.Common.{◌≡◌, ℕ, List, [], Bool, true, false, not, ◌&&◌, ◌||◌, if◌then◌else◌, refl, ap, sym, ◌∙◌, subst, Option, Some, None}
use Rattle.std.specs.List.{list_any}
use Rattle.std.proofs.Math.Bool.{or-false}
use Rattle.lh_time.specs.declared.Instant.{Instant}
use Rattle.lh_types.specs.Wish.{Wish, no_wish}
use Rattle.lh_types.specs.declared.part.Range.{Range}
use Rattle.lh_unit.specs.Contents.{UnitText}
use Rattle.lh_unit.specs.Held.{Env}
use Rattle.lh_unit.specs.Activation.{activate}
use Rattle.lh_unit.specs.Hierarchy.{Instance}
use Rattle.lh_unit.specs.Pass.{pass}
use Rattle.lh_unit.specs.World.{State, of_process, of_entity, start_by, Act, runs, if_woken, act, bit_numbers, bit_at, bit_differs, Rules}
use Rattle.lh_trace_laws.specs.Replacing.{answer_of}
use Rattle.lh_trace_laws.proofs.BitSets.{has, SameSet, IsWithin, bits_read, same_any, any_within, any_agree, read_agree, none_of, not_differ}
use Rattle.lh_trace_laws.proofs.StandsFor.{scene, fresh, waiting_at, EndsAt, sensed, EdgeFor}
use Rattle.lh_trace_laws.proofs.Simulation.{Matches, SimulationRelation}

module _ (r : Rules) (x y : UnitText) (i : Instance) (c : EdgeFor r x y i) where
  -- The process waits at the start of its second region. It holds what an activation at `past` leaves, and on the waited bits these are the values of the last frame.
  record Waits (past old : List Bool) (a : State) : Type 0 where
    block : List ℕ
    held : Env
    parts : List Range
    stands : c.stands past block held
    same_parts : SameSet (bit_numbers parts) c.on
    same_bits : (k : ℕ) → has c.on k ≡ true → bit_at past k ≡ bit_at old k
    is : a ≡ of_process (waiting_at block c.to parts held)

  -- the entity remembers the triggers' bits of the last frame
  record Remembers (old : List Bool) (b : State) : Type 0 where
    memory : List Bool
    remembers : c.remembers (bits_read old c.triggers) memory
    is_so : b ≡ of_entity (Some memory)

  -- what an instance does in a frame shows this wish alone
  record Does (R : State → Type 0) (a : Act) (wish : Wish) : Type 0 where
    answer : answer_of a ≡ record { wish = wish; outcomes = []; ran_away = false; wake = None }
    after : R a.after

  record Both (old : List Bool) (a b : State) : Type 0 where
    past : List Bool
    process : Waits past old a
    entity : Remembers old b

  -- the wish of the frame: that of the rows where a trigger changed, and else none
  abbrev if_any : Bool → Wish → Wish
  if_any b w = if b then w else no_wish

  abbrev wish_at : (past now : List Bool) → Instant → Wish
  wish_at past now t = if_any (list_any (bit_differs past now) c.triggers) (c.rows past now t)

  rows_are : (past now : List Bool) (t : Instant) (b : Bool) → list_any (bit_differs past now) c.triggers ≡ b → c.rows past now t ≡ if_any b (c.rows past now t)
  rows_are past now t true e = refl
  rows_are past now t false e = c.rows_rest past now t e

  pass_is : (past now memory : List Bool) (t : Instant) → c.remembers (bits_read past c.triggers) memory → (b : Bool) → list_any (bit_differs past now) c.triggers ≡ b
      → (pass y i.args i.sigs now (Some memory) t).wish ≡ if_any b (c.rows past now t)
  pass_is past now memory t m true e = c.fires past now memory t m e
  pass_is past now memory t m false e = c.rests past now memory t m e

  none_is : (past now : List Bool) (t : Instant) (b : Bool) → b ≡ false → no_wish ≡ if_any b (c.rows past now t)
  none_is past now t true e = cc
  none_is past now t false e = refl

  not_within : (b w : Bool) → (b ≡ true → w ≡ true) → w ≡ false → b ≡ false
  not_within true w f e = sym (f refl) ∙ e
  not_within false w f e = refl

  module _ (past old now : List Bool) (t : Instant) (same : (k : ℕ) → has c.on k ≡ true → bit_at past k ≡ bit_at old k) where
    -- a trigger changed since the last activation exactly where it changed since the last frame
    triggers_same : list_any (bit_differs past now) c.triggers ≡ list_any (bit_differs old now) c.triggers
    triggers_same = any_agree (bit_differs past now) (bit_differs old now) c.triggers
        (λ k h. ap (λ v. (v && not (bit_at now k)) || (not v && bit_at now k)) (same k (c.waited k h)))

    memory_same : bits_read old c.triggers ≡ bits_read past c.triggers
    memory_same = read_agree old past c.triggers (λ k h. sym (same k (c.waited k h)))

    -- no trigger changed where nothing did in a list that has them
    no_trigger : (ks : List ℕ) → IsWithin c.triggers ks → list_any (bit_differs old now) ks ≡ false → list_any (bit_differs old now) c.triggers ≡ false
    no_trigger ks w e = not_within (list_any (bit_differs old now) c.triggers) (list_any (bit_differs old now) ks) (any_within (bit_differs old now) c.triggers ks w) e

    process_does : (block : List ℕ) (e : Env) (parts : List Range) → c.stands past block e → SameSet (bit_numbers parts) c.on → (w : Bool) → list_any (bit_differs old now) c.on ≡ w
        → Does (λ a. (p : List Bool) × Waits p now a) (if_woken w (runs r now t x i (of_process (waiting_at block c.to parts e))) (of_process (waiting_at block c.to parts e))) (wish_at past now t)
    process_does block e parts k h true f =
        let d : EndsAt (c.stands now) c.to c.on (c.rows past now t) (activate r.bound (scene r now t) x (waiting_at block c.to parts e)) = c.later past now t block e parts k in
        rw d.is (record {
          answer = ap (λ w. record { wish = w; outcomes = []; ran_away = false; wake = None }) (rows_are past now t (list_any (bit_differs past now) c.triggers) refl);
          after = (now, record { block = d.block; held = d.held; parts = d.parts; stands = d.known; same_parts = d.same_parts; same_bits = λ n q. refl; is = refl });
        })
    process_does block e parts k h false f = record {
      answer = ap (λ w. record { wish = w; outcomes = []; ran_away = false; wake = None })
          (none_is past now t (list_any (bit_differs past now) c.triggers) (triggers_same ∙ no_trigger c.on c.waited f));
      after = (
        past,
        record {
          block = block;
          held = e;
          parts = parts;
          stands = k;
          same_parts = h;
          same_bits = λ n q. same n q ∙ not_differ old now n (none_of (bit_differs old now) c.on f n q);
          is = refl;
        },
      );
    }

    entity_does : (memory : List Bool) → c.remembers (bits_read old c.triggers) memory → (w : Bool) → list_any (bit_differs old now) (sensed y i) ≡ w
        → Does (Remembers now) (if_woken w (runs r now t y i (of_entity (Some memory))) (of_entity (Some memory))) (wish_at past now t)
    entity_does memory m true f = record {
      answer = ap (λ w. record { wish = w; outcomes = []; ran_away = false; wake = None })
          (pass_is past now memory t (subst (λ bits. c.remembers bits memory) memory_same m) (list_any (bit_differs past now) c.triggers) refl);
      after = record { memory = (pass y i.args i.sigs now (Some memory) t).seen; remembers = c.keeps now t (Some memory); is_so = refl };
    }
    entity_does memory m false f = record {
      answer = ap (λ w. record { wish = w; outcomes = []; ran_away = false; wake = None })
          (none_is past now t (list_any (bit_differs past now) c.triggers) (triggers_same ∙ no_trigger (sensed y i) c.probed f));
      after = record {
        memory = memory;
        remembers = subst (λ bits. c.remembers bits memory)
            (read_agree old now c.triggers (λ n h. not_differ old now n (none_of (bit_differs old now) c.triggers (no_trigger (sensed y i) c.probed f) n h))) m;
        is_so = refl;
      };
    }

  abbrev EdgeRelated : (before : Option (List Bool)) → State → State → Type 0
  EdgeRelated None a b = (a ≡ of_process (fresh x i)) × (b ≡ of_entity None)
  EdgeRelated (Some old) a b = Both old a b

  joined : (now : List Bool) (a b : Act) (wish : Wish) → Does (λ s. (p : List Bool) × Waits p now s) a wish → Does (Remembers now) b wish → Matches (Both now) a b
  joined now a b wish f g = record {
    answer = f.answer ∙ sym g.answer;
    after = record { past = f.after.0; process = f.after.1; entity = g.after };
  }

  first_frame : (now : List Bool) (t : Instant) → Matches (Both now) (runs r now t x i (of_process (fresh x i))) (runs r now t y i (of_entity None))
  first_frame now t =
      let d = c.first now t in
      rw (d.is, c.first_rests now t) (record {
        answer = refl;
        after = record {
          past = now;
          process = record { block = d.block; held = d.held; parts = d.parts; stands = d.known; same_parts = d.same_parts; same_bits = λ n q. refl; is = refl };
          entity = record { memory = (pass y i.args i.sigs now None t).seen; remembers = c.keeps now t None; is_so = refl };
        };
      })

  edge_keeps : (before : Option (List Bool)) (now : List Bool) (t : Instant) (a b : State) → EdgeRelated before a b
      → Matches (Both now) (act r (record { before = before; now = now; at = t }) x i a) (act r (record { before = before; now = now; at = t }) y i b)
  edge_keeps None now t a b h = rw (h.0, h.1) (first_frame now t)
  edge_keeps (Some old) now t a b h =
      rw (
        h.process.is,
        h.entity.is_so,
        or-false (list_any (bit_differs old now) (bit_numbers h.process.parts)),
        or-false (list_any (bit_differs old now) (sensed y i)),
        same_any (bit_differs old now) (bit_numbers h.process.parts) c.on h.process.same_parts,
      )
      (joined now _ _ (wish_at h.past now t)
      (process_does h.past old now t h.process.same_bits h.process.block h.process.held h.process.parts h.process.stands h.process.same_parts (list_any (bit_differs old now) c.on) refl)
      (entity_does h.past old now t h.process.same_bits h.entity.memory h.entity.remembers (list_any (bit_differs old now) (sensed y i)) refl))

  pub edge_simulation : SimulationRelation r x y i
  edge_simulation = record {
    R = EdgeRelated;
    start_of = (ap (λ k. start_by k x i) c.is_process, ap (λ k. start_by k y i) c.is_entity);
    keeps = λ m a b h. edge_keeps m.before m.now m.at a b h;
  }
