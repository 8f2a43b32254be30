-- An instruction that gives a value: what is held after it.
use Rattle.std.proofs.Common.{◌≡◌, ℕ, ◌+◌, ◌*◌, ◌≤◌, Bool, true, false, if◌then◌else◌, List, [], ◌∷◌, ◌++◌, length, Some, None, refl, ap, ◌∙◌, subst, arith, length-append}
use Rattle.lh_types.specs.Wish.{Wish}
use Rattle.lh_unit.specs.Contents.{InstText, LineText, UnitText}
use Rattle.lh_unit_names.specs.Names.{same_name}
use Rattle.lh_unit.specs.Held.{Held, datum_held, with_held}
use Rattle.lh_unit.specs.Pass.{Passed, passes}
use Rattle.lh_unit.specs.Typing.{result_type, value_type}
use Rattle.lh_unit_names.proofs.NameLists.{same_name-refl}
use Rattle.lh_unit.proofs.Lists.{some_inj}
use Rattle.lh_unit.proofs.ById.{line_giving-later}
use Rattle.lh_term.specs.Tree.{Tree}
use Rattle.lh_term.specs.SameTree.{same_tree, same_tree-is}
use Rattle.lh_term.specs.Same.{same_part, same_part-is}
use Rattle.lh_term.specs.declared.part.Part.{Part}
use Rattle.lh_emit_def.specs.Names.{value_name, free_number}
use Rattle.lh_emit_def.specs.Emitted.{Emitted, gives, gives_term, next_name, with_term, with_part}
use Rattle.lh_emit_def.specs.Reads.{reads}
use Rattle.lh_emit_def.proofs.ComputedTerms.{value}
use Rattle.lh_emit_def.proofs.ValueNames.{names_differ, free_from-within}
use Rattle.lh_emit_def.proofs.PassState.{Frame, HasFewArgs, source, start, after, Begins, HoldsPart, IsNew, MayName, Means, next-may, still-held, new-type, pass_from-then}

module _ (f : Frame) (few : HasFewArgs f.unit) (w : Wish) (ts : List Bool) (y : UnitText) where
  -- the instruction gives this under every name
  abbrev pub GivesHeld : InstText → Held → Passed → Type 0
  GivesHeld i h p = (n : List ℕ) → passes y f.now f.memory f.at i (Some n) p ≡ record p { held = with_held p.held n h }

  module _ (e : Emitted) (i : InstText) (h : Held) (b : Begins f few y (gives (source f few) i e).lines) (m : Means f few w ts y e) (g : GivesHeld i h (after f few y e.lines)) where
    abbrev name : List ℕ
    name = next_name (source f few) e

    abbrev number : ℕ
    number = free_number f.unit.args e.next

    abbrev line : LineText
    line = record { result = Some name; inst = i }

    abbrev before : Passed
    before = after f few y e.lines

    passed : after f few y (e.lines ++ line ∷ []) ≡ record before { held = with_held before.held name h }
    passed = pass_from-then y f.now f.memory f.at e.lines (line ∷ []) (start f few) ∙ g name

    may : MayName f few e.next number
    may = next-may f few y e line b m.room

    new-now : IsNew f few before.held e.lines number
    new-now = m.new number may

    -- what was held is held
    pub held-on : (n : List ℕ) (x : Held) → before.held n ≡ Some x → (after f few y (e.lines ++ line ∷ [])).held n ≡ Some x
    held-on n x p = ap (λ (q : Passed). q.held n) passed ∙ still-held f few before.held n name x h new-now.held p

    pub part-on : (n : List ℕ) (p : Part) → HoldsPart f few y before.held n p → HoldsPart f few y (after f few y (e.lines ++ line ∷ [])).held n p
    part-on n p x = record { held = held-on n _ x.held; type = x.type }

    -- what is given is held
    pub held-new : (after f few y (e.lines ++ line ∷ [])).held name ≡ Some h
    held-new = ap (λ (q : Passed). q.held name) passed ∙ ap (λ x. if x then Some h else before.held name) (same_name-refl name)

    -- its type is that of the instruction
    pub type-new : value_type y name ≡ result_type i
    type-new = new-type f few y e.lines name i b may.free new-now.given

    later-new : (j : ℕ) → MayName f few (number + 1) j → IsNew f few (after f few y (e.lines ++ line ∷ [])).held (e.lines ++ line ∷ []) j
    later-new j a =
        let l : e.next ≤ number = may.later in
        let d : same_name name (value_name j) ≡ false = names_differ number j may.short a.short (λ q. omega (arith, a.later, q)) in
        let o : IsNew f few before.held e.lines j = m.new j (record { later = omega (arith, l, a.later); short = a.short; free = a.free }) in
        record {
          held = ap (λ (q : Passed). q.held (value_name j)) passed ∙ ap (λ x. if x then Some h else before.held (value_name j)) d ∙ o.held;
          given = line_giving-later (value_name j) e.lines (line ∷ []) o.given ∙ ap (λ x. if x then Some i else None) d;
        }

    room-on : number + 1 ≤ length (e.lines ++ line ∷ []) * (length f.unit.args + 1)
    room-on =
        let q : length (e.lines ++ line ∷ []) ≡ length e.lines + 1 = length-append e.lines (line ∷ []) in
        let k = free_from-within f.unit.args (length f.unit.args) e.next in
        rw q (omega (arith, k.1, m.room))

    pub gives-means : Means f few w ts y (gives (source f few) i e)
    gives-means = record {
      wish = ap (λ (q : Passed). q.wish) passed ∙ m.wish;
      seen = ap (λ (q : Passed). q.seen) passed ∙ m.seen;
      terms = λ t n p. held-on n _ (m.terms t n p);
      parts = λ p n q. part-on n p (m.parts p n q);
      args = λ k a t p q. part-on a.name _ (m.args k a t p q);
      new = later-new;
      room = room-on;
    }

  -- a term that is held has a name
  pub names-term : (e : Emitted) (t : Tree) (n : List ℕ) → Means f few w ts y e → (after f few y e.lines).held n ≡ Some (datum_held (value (reads f.args f.now) t)) →
      Means f few w ts y (record e { terms = with_term e.terms t n })
  names-term e t n m h = record { wish = m.wish; seen = m.seen; terms = λ x k p. at x k p (same_tree t x) refl; parts = m.parts; args = m.args; new = m.new; room = m.room }
    where
      at : (x : Tree) (k : List ℕ) → (if same_tree t x then Some n else e.terms x) ≡ Some k → (b : Bool) → same_tree t x ≡ b →
          (after f few y e.lines).held k ≡ Some (datum_held (value (reads f.args f.now) x))
      at x k p true q =
          let a : n ≡ k = some_inj n k (rw q at p) in
          subst (λ (z : Tree). (after f few y e.lines).held k ≡ Some (datum_held (value (reads f.args f.now) z))) (same_tree-is t x q)
          (subst (λ (z : List ℕ). (after f few y e.lines).held z ≡ Some (datum_held (value (reads f.args f.now) t))) a h)
      at x k p false q = m.terms x k (rw q at p)

  -- so has a part
  pub names-part : (e : Emitted) (p : Part) (n : List ℕ) → Means f few w ts y e → HoldsPart f few y (after f few y e.lines).held n p →
      Means f few w ts y (record e { parts = with_part e.parts p n })
  names-part e p n m h = record { wish = m.wish; seen = m.seen; terms = m.terms; parts = λ x k q. at x k q (same_part p x) refl; args = m.args; new = m.new; room = m.room }
    where
      at : (x : Part) (k : List ℕ) → (if same_part p x then Some n else e.parts x) ≡ Some k → (b : Bool) → same_part p x ≡ b → HoldsPart f few y (after f few y e.lines).held k x
      at x k q true r =
          let a : n ≡ k = some_inj n k (rw r at q) in
          subst (λ (z : Part). HoldsPart f few y (after f few y e.lines).held k z) (same_part-is p x r)
          (subst (λ (z : List ℕ). HoldsPart f few y (after f few y e.lines).held z p) a h)
      at x k q false r = m.parts x k (rw r at q)

  -- an instruction that gives the value of a term
  pub term-means : (e : Emitted) (t : Tree) (i : InstText) → Begins f few y (gives (source f few) i e).lines → Means f few w ts y e →
      GivesHeld i (datum_held (value (reads f.args f.now) t)) (after f few y e.lines) → Means f few w ts y (gives_term (source f few) t i e)
  term-means e t i b m g = names-term (gives (source f few) i e) t (next_name (source f few) e) (gives-means e i _ b m g) (held-new e i _ b m g)
