-- Triggers that are found one after the other, and triggers that rest one after the other.
use Rattle.std.proofs.Common.{◌≡◌, ℕ, ◌+◌, ◌<◌, ◌≤◌, List, [], ◌∷◌, ◌++◌, length, get_or, take, map, Bool, Option, Some, None, refl, ap, sym, ◌∙◌, subst, arith}
use Rattle.std.specs.Prelude.{slice_get, Result, Ok, Err, IfOk, IsTrue}
use Rattle.std.proofs.lemmas.List.{append_assoc, append-nil, map-append, length-take-le, take_more, take_all}
use Rattle.lh_types.specs.declared.part.Range.{Range}
use Rattle.lh_unit.specs.Arena.{Arena, IsArena, unit_count, kind_at, naming, inst_at, unit_text_at, block_insts_at}
use Rattle.lh_unit.specs.Hierarchy.{lines_of}
use Rattle.lh_unit.specs.declared.inst.UnitKind.TheVariants as kind
use Rattle.lh_eval.proofs.BeginSteps.{entity-lines}
use Rattle.lh_unit.specs.Contents.{TriggerText, LineText, UnitText}
use Rattle.lh_unit.specs.Naming.{inst_text, trigger_text}
use Rattle.lh_unit.specs.Within.{Each}
use Rattle.lh_unit.proofs.Lists.{Each-append}
use Rattle.lh_unit.specs.declared.inst.InstId.{InstId}
use Rattle.lh_unit.specs.declared.inst.Inst.{Inst}
use Rattle.lh_unit.specs.declared.inst.Inst.TheVariants as inst
use Rattle.lh_unit.specs.declared.inst.Typed.{Typed}
use Rattle.lh_unit.specs.declared.inst.ValueId.{ValueId}
use Rattle.lh_unit.specs.declared.inst.RegTrigger.{RegTrigger}
use Rattle.lh_react.specs.Standing.{line_in}
use Rattle.lh_react.specs.declared.triggers.TriggerBit.{TriggerBit}
use Rattle.lh_react.specs.TriggerBits.{IsTriggerBit, AreTriggerBits, triggers_by, triggers_of, IsNoDrive, AddsTriggers, HasTriggers}
use Rattle.lh_react.specs.Resting.{IsHeld, past_at, Rests, NoneFires, IsQuiet}
use Rattle.lh_react.specs.State.{EntityState, values_of, state_of}
use Rattle.lh_react.specs.declared.state.Known.{Known}

-- one more that rests
rests-next : (now : List Bool) (memory : Option (List Bool)) (n : ℕ) (bits : List TriggerBit) (values : List Bool) (b : TriggerBit) (v : Bool)
    → NoneFires now memory n bits values → Rests now memory (n + length bits) b v → NoneFires now memory n (bits ++ b ∷ []) (values ++ v ∷ [])
rests-next now memory n [] [] b v all is = (subst (λ (m : ℕ). Rests now memory m b v) (omega arith) is, tt)
rests-next now memory n [] (w ∷ values) b v all is = absurd all
rests-next now memory n (c ∷ bits) [] b v all is = absurd all
rests-next now memory n (c ∷ bits) (w ∷ values) b v all is =
    (all.0, rests-next now memory (n + 1) bits values b v all.1 (subst (λ (m : ℕ). Rests now memory m b v) (omega arith) is))

rests-long : (now : List Bool) (memory : Option (List Bool)) (n : ℕ) (bits : List TriggerBit) (values : List Bool) → NoneFires now memory n bits values
    → length bits ≡ length values
rests-long now memory n [] [] all = refl
rests-long now memory n [] (w ∷ values) all = absurd all
rests-long now memory n (c ∷ bits) [] all = absurd all
rests-long now memory n (c ∷ bits) (w ∷ values) all = let more = rests-long now memory (n + 1) bits values all.1 in omega arith

pub rests-more : (now : List Bool) (memory : Option (List Bool)) (all : List TriggerBit) (i : ℕ) (d : TriggerBit) (seen new : List Bool) (n : ℕ) (v : Bool)
    (past : Option Bool) → i < length all → NoneFires now memory 0 (take i all) seen → n ≡ length seen → slice_get now (get_or all i d).at ≡ Some v
    → past ≡ past_at memory n → IsHeld now past v (get_or all i d) → new ≡ seen ++ v ∷ [] → NoneFires now memory 0 (take (i + 1) all) new
rests-more now memory all i d seen new n v past l rest long is was held more =
    let b : TriggerBit = get_or all i d in
    let first : Rests now memory n b v = record { is = is; held = subst (λ (o : Option Bool). IsHeld now o v b) was held } in
    let here : Rests now memory (0 + length (take i all)) b v = subst (λ (m : ℕ). Rests now memory m b v)
    (omega (arith, long, rests-long now memory 0 (take i all) seen rest)) first in
    let next : NoneFires now memory 0 (take i all ++ b ∷ []) (seen ++ v ∷ []) = rests-next now memory 0 (take i all) seen b v rest here in
    subst (λ (bs : List TriggerBit). NoneFires now memory 0 bs new) (sym (take_more all i d l))
    (subst (λ (vs : List Bool). NoneFires now memory 0 (take i all ++ b ∷ []) vs) (sym more) next)

-- the same of one trigger more, which has the next of these values
pub rests-both : (now last : List Bool) (all : List TriggerBit) (values : List Bool) (i : ℕ) (d : TriggerBit) (v : Bool) (past : Option Bool) → i < length all
    → i < length values → past ≡ slice_get last i → slice_get now (get_or all i d).at ≡ Some (get_or values i v)
    → IsHeld now past (get_or values i v) (get_or all i d)
    → NoneFires now (Some last) 0 (take i all) (take i values) → NoneFires now (Some last) 0 (take (i + 1) all) (take (i + 1) values)
rests-both now last all values i d v past l k is-past is held rest =
    rests-more now (Some last) all i d (take i values) (take (i + 1) values) i (get_or values i v) past l rest
    (sym (length-take-le i values (omega (arith, k)))) is is-past held (take_more values i v k)

-- where these values rest that are known, a pass is quiet
pub quiet-known : (now : List Bool) (old new : EntityState) (k : Known) (s t : Bool) (bits : List TriggerBit) (last values : List Bool) → old ≡ state_of k s
    → new ≡ state_of k t → k.triggers ≡ Some bits → last ≡ values_of k s → values ≡ values_of k t → NoneFires now (Some last) 0 bits values
    → IsQuiet now old new
quiet-known now old new k s t bits last values o n is l v rest = record {
  bits = bits;
  values = values;
  known = ap (λ (x : EntityState). x.triggers) o ∙ is;
  kept = ap (λ (x : EntityState). x.triggers) n ∙ sym (ap (λ (x : EntityState). x.triggers) o);
  seen = ap (λ (x : EntityState). x.memory) n ∙ ap Some (sym v);
  rest = subst (λ (m : Option (List Bool)). NoneFires now m 0 bits values) (ap Some l ∙ sym (ap (λ (x : EntityState). x.memory) o)) rest;
}

module _ (u : UnitText) (args : List Range) where
  are-next : (gs : List TriggerText) (bits : List TriggerBit) (g : TriggerText) (b : TriggerBit) → AreTriggerBits u args gs bits → IsTriggerBit u args g b
      → AreTriggerBits u args (gs ++ g ∷ []) (bits ++ b ∷ [])
  are-next [] [] g b are is = (is, tt)
  are-next [] (c ∷ bits) g b are is = absurd are
  are-next (x ∷ gs) [] g b are is = absurd are
  are-next (x ∷ gs) (c ∷ bits) g b are is = (are.0, are-next gs bits g b are.1 is)

  -- one more trigger of a register
  pub adds-next : (f : RegTrigger → TriggerText) (before : List TriggerText) (all : List RegTrigger) (i : ℕ) (d : RegTrigger) (bits new : List TriggerBit)
      (b : TriggerBit) → i < length all → AreTriggerBits u args (before ++ map f (take i all)) bits → IsTriggerBit u args (f (get_or all i d)) b
      → new ≡ bits ++ b ∷ [] → AreTriggerBits u args (before ++ map f (take (i + 1) all)) new
  adds-next f before all i d bits new b l are is more =
      let g : TriggerText = f (get_or all i d) in
      let next : AreTriggerBits u args ((before ++ map f (take i all)) ++ g ∷ []) (bits ++ b ∷ []) = are-next (before ++ map f (take i all)) bits g b are is in
      let same : before ++ map f (take (i + 1) all) ≡ (before ++ map f (take i all)) ++ g ∷ [] =
      ap (λ (xs : List RegTrigger). before ++ map f xs) (take_more all i d l)
      ∙ ap (λ (ys : List TriggerText). before ++ ys) (map-append f (take i all) (get_or all i d ∷ []))
      ∙ sym (append_assoc before (map f (take i all)) (g ∷ [])) in
      subst (λ (gs : List TriggerText). AreTriggerBits u args gs new) (sym same)
      (subst (λ (bs : List TriggerBit). AreTriggerBits u args ((before ++ map f (take i all)) ++ g ∷ []) bs) (sym more) next)

  triggers-append : (ls ms : List LineText) → triggers_of (ls ++ ms) ≡ triggers_of ls ++ triggers_of ms
  triggers-append [] ms = refl
  triggers-append (l ∷ ls) ms = ap (λ (gs : List TriggerText). triggers_by l.inst ++ gs) (triggers-append ls ms)
      ∙ sym (append_assoc (triggers_by l.inst) (triggers_of ls) (triggers_of ms))

  -- the triggers of some instructions have been found, and none is a drive
  pub record Found (ls : List LineText) (bits : List TriggerBit) : Type 0 where
    pub no_drive : Each (λ (l : LineText). IsNoDrive l.inst) ls
    pub all : AreTriggerBits u args (triggers_of ls) bits

  -- those of one more
  pub found-next : (f : InstId → LineText) (all : List InstId) (i : ℕ) (d : InstId) (bits new : List TriggerBit) → i < length all
      → Found (map f (take i all)) bits → AddsTriggers u args (f (get_or all i d)).inst bits new → Found (map f (take (i + 1) all)) new
  found-next f all i d bits new l found adds =
      let x : LineText = f (get_or all i d) in
      let same : map f (take (i + 1) all) ≡ map f (take i all) ++ x ∷ [] = ap (map f) (take_more all i d l) ∙ map-append f (take i all) (get_or all i d ∷ []) in
      let triggers : triggers_of (map f (take i all) ++ x ∷ []) ≡ triggers_of (map f (take i all)) ++ triggers_by x.inst =
      triggers-append (map f (take i all)) (x ∷ []) ∙ ap (λ (gs : List TriggerText). triggers_of (map f (take i all)) ++ gs)
      (append-nil (triggers_by x.inst)) in
      let next : Found (map f (take i all) ++ x ∷ []) new = record {
        no_drive = Each-append (λ (y : LineText). IsNoDrive y.inst) (map f (take i all)) (x ∷ []) found.no_drive (adds.no_drive, tt);
        all = subst (λ (gs : List TriggerText). AreTriggerBits u args gs new) (sym triggers) (adds.more (triggers_of (map f (take i all))) found.all);
      } in
      subst (λ (ls : List LineText). Found ls new) (sym same) next

-- an instruction that is no drive and no register has no triggers
no-triggers : (a : Arena) (u : ℕ) (y : Inst) → ((to : Typed) (value after : ValueId) (cond : Option ValueId) → y ≡ inst.Drv to value after cond → ⊥)
    → ((to : Typed) (gs : List RegTrigger) → y ≡ inst.Reg to gs → ⊥)
    → IsNoDrive (inst_text (naming a u) y) × (triggers_by (inst_text (naming a u) y) ≡ [])
no-triggers a u (inst.Drv to value after cond) drv reg = absurd (drv to value after cond refl)
no-triggers a u (inst.Reg to gs) drv reg = absurd (reg to gs refl)
no-triggers a u (inst.Ret None) drv reg = (tt, refl)
no-triggers a u (inst.Ret (Some x)) drv reg = (tt, refl)
no-triggers a u _ drv reg = (tt, refl)

-- all instructions of an entity
pub found-all : (a : Arena) (u : ℕ) (args : List Range) → IsArena a → u < unit_count a → kind_at a u ≡ Some kind.Entity
    → (insts : List InstId) (i : ℕ) (bits : List TriggerBit) → insts ≡ block_insts_at a u 0 → length insts ≤ i
    → Found (unit_text_at a u) args (map (line_in a u) (take i insts)) bits
    → HasTriggers (unit_text_at a u) args bits
found-all a u args o h k insts i bits is l found =
    let lines : map (line_in a u) (take i insts) ≡ lines_of (unit_text_at a u).blocks = ap (map (line_in a u)) (take_all i insts l ∙ is)
    ∙ sym (entity-lines a u o h k) in
    let all = subst (λ (ls : List LineText). Found (unit_text_at a u) args ls bits) lines found in
    record { no_drive = all.no_drive; all = all.all }

module _ (a : Arena) (u : ℕ) (args : List Range) where
  abbrev text : UnitText
  text = unit_text_at a u

  pub adds-none : (x : InstId) (y : Inst) (bits : List TriggerBit) → inst_at a u x.0 ≡ y
      → ((to : Typed) (value after : ValueId) (cond : Option ValueId) → y ≡ inst.Drv to value after cond → ⊥)
      → ((to : Typed) (gs : List RegTrigger) → y ≡ inst.Reg to gs → ⊥)
      → AddsTriggers text args (line_in a u x).inst bits bits
  adds-none x y bits is drv reg =
      let none = no-triggers a u y drv reg in
      let here : AddsTriggers text args (inst_text (naming a u) y) bits bits = record {
        no_drive = none.0;
        more = λ before are. subst (λ (gs : List TriggerText). AreTriggerBits text args gs bits)
            (sym (append-nil before) ∙ ap (λ (gs : List TriggerText). before ++ gs) (sym none.1)) are;
      } in
      subst (λ (i : Inst). AddsTriggers text args (inst_text (naming a u) i) bits bits) (sym is) here

  pub adds-register : {E : Type 0} (r : Result Bool E) (x : InstId) (to : Typed) (gs shown : List RegTrigger) (old new : List TriggerBit)
      → inst_at a u x.0 ≡ inst.Reg to gs → shown ≡ gs
      → IfOk r (λ found. IsTrue found → (before : List TriggerText) → AreTriggerBits text args before old
      → AreTriggerBits text args (before ++ map (trigger_text (naming a u)) shown) new)
      → IfOk r (λ found. IsTrue found → AddsTriggers text args (line_in a u x).inst old new)
  adds-register (Ok b) x to gs shown old new is same h = λ t.
      let here : AddsTriggers text args (inst_text (naming a u) (inst.Reg to gs)) old new = record {
        no_drive = tt;
        more = λ before are. subst (λ (l : List RegTrigger). AreTriggerBits text args (before ++ map (trigger_text (naming a u)) l) new) same (h t before are);
      } in
      subst (λ (i : Inst). AddsTriggers text args (inst_text (naming a u) i) old new) (sym is) here
  adds-register (Err e) x to gs shown old new is same h = tt
