-- The registers of a process, and of an entity that agrees with it: at which parts they look, and where they rest.
use Rattle.std.proofs.Common.{◌≡◌, List, [], ◌∷◌, map, fold, Bool, true, false, ◌&&◌, ◌||◌, Option, Some, None, unwrap_or, refl, ap, sym, ◌∙◌, subst}
use Rattle.std.specs.Bool.{if◌then◌else◌}
use Rattle.std.specs.List.{list_any, list_all, flat_map}
use Rattle.std.proofs.lemmas.Bool.{false≢true}
use Rattle.std.proofs.lemmas.List.Folds.{list_all-append}
use Rattle.lh_time.specs.declared.Instant.{Instant}
use Rattle.lh_types.specs.Bits.{value_bits}
use Rattle.lh_types.specs.Same.{and_both}
use Rattle.lh_types.specs.Wish.{Wish, with_drive}
use Rattle.lh_types.specs.declared.part.Range.{Range}
use Rattle.lh_unit.specs.declared.inst.Mode.{Mode}
use Rattle.lh_unit.specs.declared.inst.Mode.TheVariants.{Rise, Fall, Both, High, Low}
use Rattle.lh_unit.specs.Held.{as_test}
use Rattle.lh_unit.specs.Pass.{mode_holds}
use Rattle.lh_unit.specs.Within.{Each}
use Rattle.lh_unit.proofs.Lists.{Each-append, Each-left, Each-right}
use Rattle.lh_term.specs.Tree.{Tree, constant, past_of, now_of, operation, choice_of}
use Rattle.lh_term.specs.Leaves.{AllParts}
use Rattle.lh_term.specs.Mean.{Valuation, IsFitting}
use Rattle.lh_term.specs.SameTree.{same_tree, same_tree-is}
use Rattle.lh_term.specs.declared.part.Part.{Part}
use Rattle.lh_edge.specs.Triggers.{TriggerTree, EdgeRowTree}
use Rattle.lh_region_def.specs.Means.{range_in, due_by}
use Rattle.lh_region_def.specs.Typed.{Among}
use Rattle.lh_flat_laws.proofs.Members.{in-each, each-among}
use Rattle.lh_emit_def.specs.Emitted.{Source}
use Rattle.lh_emit_def.specs.Entities.{mode_of}
use Rattle.lh_emit_def.specs.Registers as emitted
use Rattle.lh_emit_def.specs.Registers.{register_made, register_drives}
use Rattle.lh_emit_def.specs.Laws.{row_parts}
use Rattle.lh_emit_def.specs.Ways.{TriggerIsGiven, RowIsGiven}
use Rattle.lh_cert_terms.specs.Laws.{RebuiltKeepsMeaning}
use Rattle.lh_cert_agree.specs.Agreeing.{agree}
use Rattle.lh_cert_rows.specs.Rows.{TriggerRow}
use Rattle.lh_cert_rows.specs.Means.{sees, fires, first_fired, stored}
use Rattle.lh_cert_rows.specs.Passing.{TriggerTyped, TriggerReads}
use Rattle.lh_cert_def.specs.KeptRows.{trigger_of, register_of, kept_registers}
use Rattle.lh_cert_def.specs.RowsAgree.{same_mode, is_change, is_now, is_edge, is_match, register_agrees, registers_agree}
use Rattle.lh_cert_laws.proofs.EntityRows.{Register, made, RegisterTyped}
use Rattle.lh_cert_laws.proofs.KeptRegisters.{AllHave, registers-have}
use Rattle.lh_cert_laws.proofs.AgreedRegisters.{agreed-of}

-- ---- the registers of a process

module _ (rebuilds : RebuiltKeepsMeaning) (s : Source) where
  trigger-typed : (r : EdgeRowTree) → RowIsGiven s r → (g : TriggerTree) → TriggerIsGiven s g → TriggerTyped r.part.ty (trigger_of r g)
  trigger-typed r h g k =
      let c = rebuilds g.gate k.gate.typed in
      let x = rebuilds r.value h.value.typed in
      let l = rebuilds r.delay h.delay.typed in
      record {
        operand = record { typed = k.is_data; type = k.is_bit };
        gate = record { typed = c.typed; type = c.type ∙ k.is_gate };
        value = record { typed = x.typed; type = x.type ∙ h.is_value };
        delay = record { typed = l.typed; type = l.type ∙ h.is_delay };
      }

  triggers-typed : (r : EdgeRowTree) → RowIsGiven s r → (gs : List TriggerTree) → Each (TriggerIsGiven s) gs → Each (TriggerTyped r.part.ty) (map (trigger_of r) gs)
  triggers-typed r h [] k = tt
  triggers-typed r h (g ∷ gs) k = (trigger-typed r h g k.0, triggers-typed r h gs k.1)

  pub process-typed : (rs : List EdgeRowTree) → Each (RowIsGiven s) rs → Each RegisterTyped (map register_of rs)
  process-typed [] h = tt
  process-typed (r ∷ rs) h = (triggers-typed r h.0 r.triggers h.0.triggers, process-typed rs h.1)

  module _ (past now : Valuation) (fit : IsFitting now) (args : List Range) (t : Instant) where
    trigger-fires : (r : EdgeRowTree) (g : TriggerTree) → TriggerIsGiven s g → fires (Some past) now (trigger_of r g) ≡ emitted.fires (Some (emitted.sees past g.part)) now g
    trigger-fires r g k =
        ap (λ d. mode_holds (mode_of g.rise) (Some (emitted.sees past g.part)) (emitted.sees now g.part) && unwrap_or (as_test d) false) ((rebuilds g.gate k.gate.typed).mean now fit)

    trigger-drives : (w : Wish) (r : EdgeRowTree) → RowIsGiven s r → (g : TriggerTree) → stored now args t r.part w (Some (trigger_of r g)) ≡ register_drives now args t w r
    trigger-drives w r h g =
        let value = (rebuilds r.value h.value.typed).mean now fit in
        let delay = (rebuilds r.delay h.delay.typed).mean now fit in
        λ i. with_drive w (due_by t (delay i)) (range_in args r.part).lo (value_bits (value i))

    -- some trigger of the process fires
    abbrev some_fires : List TriggerTree → Bool
    some_fires gs = list_any (λ (g : TriggerTree). emitted.fires (Some (emitted.sees past g.part)) now g) gs

    row-made : (w : Wish) (r : EdgeRowTree) → RowIsGiven s r → (gs : List TriggerTree) → Each (TriggerIsGiven s) gs
        → stored now args t r.part w (first_fired (Some past) now (map (trigger_of r) gs))
        ≡ (if some_fires gs then register_drives now args t w r else w)
    row-made w r h [] k = refl
    row-made w r h (g ∷ gs) k =
        ap (λ b. stored now args t r.part w (if b then Some (trigger_of r g) else first_fired (Some past) now (map (trigger_of r) gs))) (trigger-fires r g k.0)
        ∙ by (emitted.fires (Some (emitted.sees past g.part)) now g) (row-made w r h gs k.1)
      where
        by : (b : Bool) → stored now args t r.part w (first_fired (Some past) now (map (trigger_of r) gs)) ≡ (if some_fires gs then register_drives now args t w r else w)
            → stored now args t r.part w (if b then Some (trigger_of r g) else first_fired (Some past) now (map (trigger_of r) gs))
            ≡ (if b || some_fires gs then register_drives now args t w r else w)
        by true e = trigger-drives w r h g
        by false e = e

    -- its registers drive what its rows do
    pub process-made : (w : Wish) (rs : List EdgeRowTree) → Each (RowIsGiven s) rs → fold (made (Some past) now args t) w (map register_of rs) ≡ fold (register_made past now args t) w rs
    process-made w [] h = refl
    process-made w (r ∷ rs) h =
        ap (λ x. fold (made (Some past) now args t) x (map register_of rs)) (row-made w r h.0 r.triggers h.0.triggers) ∙ process-made (register_made past now args t w r) rs h.1

-- ---- the parts of triggers

abbrev pub operand_parts : Tree → List Part
operand_parts (now_of p) = p ∷ []
operand_parts _ = []

abbrev pub trigger_parts : TriggerRow → List Part
trigger_parts g = operand_parts g.operand

abbrev pub register_parts : Register → List Part
register_parts r = flat_map trigger_parts r.1

abbrev pub parts_of : List Register → List Part
parts_of rs = flat_map register_parts rs

module _ (P : Part → Type 0) where
  -- each part of a trigger has this
  abbrev PartsHave : Part → TriggerRow → Type 0
  PartsHave p g = Each P (trigger_parts g)

  each-parts : (gs : List TriggerRow) → Each (λ g. Each P (trigger_parts g)) gs → Each P (flat_map trigger_parts gs)
  each-parts [] h = tt
  each-parts (g ∷ gs) h = Each-append P (trigger_parts g) (flat_map trigger_parts gs) h.0 (each-parts gs h.1)

  pub all-parts : (rs : List Register) → Each (AllHave PartsHave) rs → Each P (parts_of rs)
  all-parts [] h = tt
  all-parts (r ∷ rs) h = Each-append P (register_parts r) (parts_of rs) (each-parts r.1 h.0) (all-parts rs h.1)

  pub kept-parts : (rs : List Register) → Each (AllHave PartsHave) rs → Each P (parts_of (kept_registers rs))
  kept-parts rs h = all-parts (kept_registers rs) (registers-have PartsHave (λ p g m k. k) rs h)

  process-triggers : (r : EdgeRowTree) (gs : List TriggerTree) → Each P (map (λ (g : TriggerTree). g.part) gs) → Each (PartsHave r.part) (map (trigger_of r) gs)
  process-triggers r [] h = tt
  process-triggers r (g ∷ gs) h = ((h.0, tt), process-triggers r gs h.1)

  process-have : (rs : List EdgeRowTree) → Each P (flat_map row_parts rs) → Each (AllHave PartsHave) (map register_of rs)
  process-have [] h = tt
  process-have (r ∷ rs) h = (process-triggers r r.triggers (Each-left P (row_parts r) (flat_map row_parts rs) h), process-have rs (Each-right P (row_parts r) (flat_map row_parts rs) h))

  -- what holds of the parts of a process's triggers, holds of those of its kept registers
  pub process-parts : (rs : List EdgeRowTree) → Each P (flat_map row_parts rs) → Each P (parts_of (kept_registers (map register_of rs)))
  process-parts rs h = kept-parts (map register_of rs) (process-have rs h)

-- each is a part of a trigger of the process
pub process-among : (rs : List EdgeRowTree) → Each (λ p. Among p (flat_map row_parts rs)) (parts_of (kept_registers (map register_of rs)))
process-among rs = process-parts (λ p. Among p (flat_map row_parts rs)) rs (each-among (λ p. Among p (flat_map row_parts rs)) (flat_map row_parts rs) (λ p i. i))

-- ---- rises and falls of parts

abbrev pub AreEdges : Register → Type 0
AreEdges r = list_all is_edge r.1 ≡ true

pub first-edges : (rs ss : List Register) → registers_agree rs ss ≡ true → Each AreEdges rs
first-edges [] ss e = tt
first-edges (r ∷ rs) [] e = absurd (false≢true e)
first-edges (r ∷ rs) (s ∷ ss) e =
    let z = and_both (register_agrees r s) (registers_agree rs ss) e in
    let a = agreed-of r.0 s.0 r.1 s.1 z.0 in
    ((and_both (list_all is_edge r.1) (list_all is_edge s.1) (sym (list_all-append is_edge r.1 s.1) ∙ a.edges)).0, first-edges rs ss z.1)

pub second-edges : (rs ss : List Register) → registers_agree rs ss ≡ true → Each AreEdges ss
second-edges rs [] e = tt
second-edges [] (s ∷ ss) e = absurd (false≢true e)
second-edges (r ∷ rs) (s ∷ ss) e =
    let z = and_both (register_agrees r s) (registers_agree rs ss) e in
    let a = agreed-of r.0 s.0 r.1 s.1 z.0 in
    ((and_both (list_all is_edge r.1) (list_all is_edge s.1) (sym (list_all-append is_edge r.1 s.1) ∙ a.edges)).1, second-edges rs ss z.1)

-- the part of which a trigger looks for a rise or a fall
pub record IsEdge (g : TriggerRow) : Type 0 where
  pub part : Part
  pub operand : g.operand ≡ now_of part
  pub change : is_change g.mode ≡ true

pub edge-of : (g : TriggerRow) → is_edge g ≡ true → IsEdge g
edge-of g e = let z = and_both (is_change g.mode) (is_now g.operand) e in by g.operand refl z.1 z.0
  where
    by : (t : Tree) → g.operand ≡ t → is_now t ≡ true → is_change g.mode ≡ true → IsEdge g
    by (now_of p) q n c = record { part = p; operand = q; change = c }
    by (constant d) q n c = absurd (false≢true n)
    by (past_of p) q n c = absurd (false≢true n)
    by (operation o ts) q n c = absurd (false≢true n)
    by (choice_of a f t) q n c = absurd (false≢true n)

-- a change does not hold without a value before
first-rests : (m : Mode) (b : Bool) → is_change m ≡ true → mode_holds m None b ≡ false
first-rests Rise b e = refl
first-rests Fall b e = refl
first-rests Both b e = absurd (false≢true e)
first-rests High b e = absurd (false≢true e)
first-rests Low b e = absurd (false≢true e)

-- nor where the value is that of before
same-rests : (m : Mode) (b : Bool) → is_change m ≡ true → mode_holds m (Some b) b ≡ false
same-rests Rise true e = refl
same-rests Rise false e = refl
same-rests Fall true e = refl
same-rests Fall false e = refl
same-rests Both b e = absurd (false≢true e)
same-rests High b e = absurd (false≢true e)
same-rests Low b e = absurd (false≢true e)

none-made : (past : Option Valuation) (now : Valuation) (gs : List TriggerRow) → Each (λ g. fires past now g ≡ false) gs → first_fired past now gs ≡ None
none-made past now [] h = refl
none-made past now (g ∷ gs) h = ap (λ b. if b then Some g else first_fired past now gs) h.0 ∙ none-made past now gs h.1

module _ (now : Valuation) (args : List Range) (t : Instant) where
  -- registers none of whose triggers fires drive nothing
  all-rest : (past : Option Valuation) (w : Wish) (rs : List Register) → Each (λ (r : Register). Each (λ g. fires past now g ≡ false) r.1) rs → fold (made past now args t) w rs ≡ w
  all-rest past w [] h = refl
  all-rest past w (r ∷ rs) h =
      ap (λ o. fold (made past now args t) (stored now args t r.0 w o) rs) (none-made past now r.1 h.0) ∙ all-rest past w rs h.1

  -- in the first run
  edges-first : (gs : List TriggerRow) → list_all is_edge gs ≡ true → Each (λ g. fires None now g ≡ false) gs
  edges-first [] e = tt
  edges-first (g ∷ gs) e =
      let z = and_both (is_edge g) (list_all is_edge gs) e in
      let k = edge-of g z.0 in
      (ap (λ b. b && sees now g.gate) (first-rests g.mode (sees now g.operand) k.change), edges-first gs z.1)

  each-first : (rs : List Register) → Each AreEdges rs → Each (λ (r : Register). Each (λ g. fires None now g ≡ false) r.1) rs
  each-first [] h = tt
  each-first (r ∷ rs) h = (edges-first r.1 h.0, each-first rs h.1)

  pub first-run : (w : Wish) (rs : List Register) → Each AreEdges rs → fold (made None now args t) w rs ≡ w
  first-run w rs h = all-rest None w rs (each-first rs h)

  -- two valuations of before that are one at the parts of the triggers
  module _ (before past : Valuation) where
    trigger-alike : (g : TriggerRow) → is_edge g ≡ true → Each (λ p. before p ≡ past p) (trigger_parts g) → fires (Some before) now g ≡ fires (Some past) now g
    trigger-alike g e h =
        let k = edge-of g e in
        let one : Each (λ p. before p ≡ past p) (k.part ∷ []) = subst (λ x. Each (λ p. before p ≡ past p) (operand_parts x)) k.operand h in
        let same : sees before g.operand ≡ sees past g.operand = ap (sees before) k.operand ∙ ap (λ d. unwrap_or (as_test d) false) one.0 ∙ sym (ap (sees past) k.operand) in
        ap (λ b. mode_holds g.mode (Some b) (sees now g.operand) && sees now g.gate) same

    triggers-alike : (gs : List TriggerRow) → list_all is_edge gs ≡ true → Each (λ p. before p ≡ past p) (flat_map trigger_parts gs) → first_fired (Some before) now gs ≡ first_fired (Some past) now gs
    triggers-alike [] e h = refl
    triggers-alike (g ∷ gs) e h =
        let z = and_both (is_edge g) (list_all is_edge gs) e in
        let here = trigger-alike g z.0 (Each-left (λ p. before p ≡ past p) (trigger_parts g) (flat_map trigger_parts gs) h) in
        let rest = triggers-alike gs z.1 (Each-right (λ p. before p ≡ past p) (trigger_parts g) (flat_map trigger_parts gs) h) in
        λ i. if here i then Some g else rest i

    pub registers-alike : (w : Wish) (rs : List Register) → Each AreEdges rs → Each (λ p. before p ≡ past p) (parts_of rs)
        → fold (made (Some before) now args t) w rs ≡ fold (made (Some past) now args t) w rs
    registers-alike w [] e h = refl
    registers-alike w (r ∷ rs) e h =
        ap (λ o. fold (made (Some before) now args t) (stored now args t r.0 w o) rs) (triggers-alike r.1 e.0 (Each-left (λ p. before p ≡ past p) (register_parts r) (parts_of rs) h))
        ∙ registers-alike (made (Some past) now args t w r) rs e.1 (Each-right (λ p. before p ≡ past p) (register_parts r) (parts_of rs) h)

  -- where the values are those of before
  edges-rest : (gs : List TriggerRow) → list_all is_edge gs ≡ true → Each (λ g. fires (Some now) now g ≡ false) gs
  edges-rest [] e = tt
  edges-rest (g ∷ gs) e =
      let z = and_both (is_edge g) (list_all is_edge gs) e in
      let k = edge-of g z.0 in
      (ap (λ b. b && sees now g.gate) (same-rests g.mode (sees now g.operand) k.change), edges-rest gs z.1)

  each-rest : (rs : List Register) → Each AreEdges rs → Each (λ (r : Register). Each (λ g. fires (Some now) now g ≡ false) r.1) rs
  each-rest [] h = tt
  each-rest (r ∷ rs) h = (edges-rest r.1 h.0, each-rest rs h.1)

  pub registers-rest : (past : Valuation) (w : Wish) (rs : List Register) → Each AreEdges rs → Each (λ p. past p ≡ now p) (parts_of rs) → fold (made (Some past) now args t) w rs ≡ w
  registers-rest past w rs e h = registers-alike past now w rs e h ∙ all-rest (Some now) w rs (each-rest rs e)

-- ---- what the entity probes

module _ (P : Part → Type 0) where
  -- a part at which a trigger looks is read by its match
  match-part : (g h : TriggerRow) → is_match g h ≡ true → TriggerReads P h → Each P (trigger_parts g)
  match-part g h e k =
      let a = and_both (same_mode g.mode h.mode) (same_tree g.operand h.operand && agree g.gate h.gate) e in
      let b = and_both (same_tree g.operand h.operand) (agree g.gate h.gate) a.1 in
      subst (λ x. Each P (operand_parts x)) (sym (same_tree-is g.operand h.operand b.0)) (by h.operand k.operand)
    where
      by : (t : Tree) → AllParts P t → Each P (operand_parts t)
      by (now_of p) i = (i, tt)
      by (constant d) i = tt
      by (past_of p) i = tt
      by (operation o ts) i = tt
      by (choice_of c f t) i = tt

  pub matched-parts : (rs ss : List Register) → registers_agree rs ss ≡ true → Each (λ (s : Register). Each (TriggerReads P) s.1) ss → Each P (parts_of rs)
  matched-parts [] ss e h = tt
  matched-parts (r ∷ rs) [] e h = absurd (false≢true e)
  matched-parts (r ∷ rs) (s ∷ ss) e h =
      let z = and_both (register_agrees r s) (registers_agree rs ss) e in
      let a = agreed-of r.0 s.0 r.1 s.1 z.0 in
      let here : Each (λ g. Each P (trigger_parts g)) r.1 = each-among (λ g. Each P (trigger_parts g)) r.1 (λ g i. let m = a.there g i in match-part g m.0 m.2 (in-each (TriggerReads P) s.1 m.0 h.0 m.1)) in
      Each-append P (register_parts r) (parts_of rs) (each-parts P r.1 here) (matched-parts rs ss z.1 h.1)

-- what is kept of registers reads no more
pub kept-reads : (P : Part → Type 0) (rs : List Register) → Each (λ (s : Register). Each (TriggerReads P) s.1) rs → Each (λ (s : Register). Each (TriggerReads P) s.1) (kept_registers rs)
kept-reads P rs h = registers-have (λ p g. TriggerReads P g) (λ p g m k. record { operand = k.operand; gate = k.gate; value = k.value; delay = k.delay }) rs h
