-- What each instruction of an entity keeps, its drives and registers keep.
use Rattle.std.proofs.Common.{◌≡◌, Bool, true, false, ◌&&◌, if◌then◌else◌, List, [], ◌∷◌, refl, ap, sym, ◌∙◌, subst}
use Rattle.std.specs.Prelude.{fold}
use Rattle.std.specs.List.{list_all}
use Rattle.lh_types.specs.Types.{int_type, time_type, IsData}
use Rattle.lh_types.specs.Same.{and_both}
use Rattle.lh_unit.specs.Contents.{InstText}
use Rattle.lh_unit.specs.Within.{Each}
use Rattle.lh_term.specs.Tree.{Tree, now_of}
use Rattle.lh_term.specs.Types.{IsTyped, type_of}
use Rattle.lh_term.specs.Make.{is_bit}
use Rattle.lh_term.specs.declared.part.Part.{Part}
use Rattle.lh_emit_def.specs.Given.{Drive, TriggerTree, EdgeRowTree}
use Rattle.lh_emit_def.specs.Emitted.{Source, Emitted, puts, need_part}
use Rattle.lh_emit_def.specs.Needs.{need}
use Rattle.lh_emit_def.specs.Entities.{need_cond, put_drive, emit_drive, emit_drives, emit_probes, need_trigger, need_register, put_register, emit_register_by, emit_register, choices_fit, drive_fits, row_fits}
use Rattle.lh_term.specs.Leaves.{AllParts}
use Rattle.lh_emit_def.specs.Ways.{IsReached}
use Rattle.lh_emit_def.proofs.Induction.{IsNamed, IsNamedPart, Kept, kept-same, kept-then}
use Rattle.lh_emit_def.proofs.NeedLaws.{Keeps, Needed, need-needed, part-needed}
use Rattle.lh_emit_def.proofs.DrivePasses.{CondNamed}
use Rattle.lh_emit_def.proofs.RegisterPasses.{TriggerNamed, trigger-kept, triggers-kept}

-- a typed term whose parts have this
pub record Has (Good : Part → Type 0) (t : Tree) : Type 0 where
  pub typed : IsTyped t
  pub parts : AllParts Good t

-- the terms of a drive
pub record DriveHas (Good : Part → Type 0) (s : Source) (d : Drive) : Type 0 where
  pub cond : Has Good d.cond
  pub value : Has Good d.value
  pub delay : Has Good d.delay
  pub is_condition : type_of d.cond ≡ int_type 1
  pub is_value : type_of d.value ≡ d.part.ty
  pub is_delay : type_of d.delay ≡ time_type
  pub carries : IsData d.part.ty
  pub part : IsReached s d.part

-- those of a trigger
pub record TriggerHas (Good : Part → Type 0) (g : TriggerTree) : Type 0 where
  pub is_data : IsData g.part.ty
  pub is_bit : g.part.ty ≡ int_type 1
  pub is_gate : type_of g.gate ≡ int_type 1
  pub part : Good g.part
  pub gate : Has Good g.gate

-- those of a row of registers
pub record RowHas (Good : Part → Type 0) (s : Source) (r : EdgeRowTree) : Type 0 where
  pub value : Has Good r.value
  pub delay : Has Good r.delay
  pub is_value : type_of r.value ≡ r.part.ty
  pub is_delay : type_of r.delay ≡ time_type
  pub carries : IsData r.part.ty
  pub part : IsReached s r.part
  pub triggers : Each (TriggerHas Good) r.triggers

-- what a drive needs has names
pub record DriveNamed (e : Emitted) (d : Drive) : Type 0 where
  pub value : IsNamed e d.value
  pub delay : IsNamed e d.delay
  pub cond : CondNamed e d.cond
  pub part : IsNamedPart e d.part

-- what a row of registers needs has names
pub record RowNamed (e : Emitted) (r : EdgeRowTree) : Type 0 where
  pub value : IsNamed e r.value
  pub delay : IsNamed e r.delay
  pub part : IsNamedPart e r.part
  pub triggers : Each (TriggerNamed e) r.triggers

puts-kept : (i : InstText) (e : Emitted) → Kept e (puts i e)
puts-kept i e = record { terms = λ t h. record { name = h.name; is = h.is }; parts = λ p h. record { name = h.name; is = h.is } }

-- what drives and registers keep too
pub record KeepsRows (s : Source) (Good : Part → Type 0) (Inv : Emitted → Type 0) : Type 0 where
  pub keeps : Keeps s Good Inv
  pub drive : (d : Drive) (e : Emitted) → DriveHas Good s d → DriveNamed e d → Inv e → Inv (put_drive d e)
  pub register : (r : EdgeRowTree) (e : Emitted) → RowHas Good s r → RowNamed e r → Inv e → Inv (put_register r e)

module _ (s : Source) (Good : Part → Type 0) (reached : (p : Part) → Good p → IsReached s p) (Inv : Emitted → Type 0) (k : KeepsRows s Good Inv) where
  needed : (t : Tree) → Has Good t → choices_fit t ≡ true → (e : Emitted) → Inv e → Needed Inv e (need s t e) t
  needed t h c e i = need-needed s Good reached Inv k.keeps t h.typed c h.parts e i

  record CondNeeded (e x : Emitted) (c : Tree) : Type 0 where
    inv : Inv x
    named : CondNamed x c
    kept : Kept e x

  cond-needed : (c : Tree) → Has Good c → choices_fit c ≡ true → (e : Emitted) → Inv e → CondNeeded e (need_cond s c e) c
  cond-needed c h w e i = at (is_bit 1 c) refl
    where
      at : (b : Bool) → is_bit 1 c ≡ b → CondNeeded e (if b then e else need s c e) c
      at true q = record { inv = i; named = λ n. let z : true ≡ false = sym q ∙ n in absurd cc; kept = kept-same e }
      at false q = let n = needed c h w e i in record { inv = n.inv; named = λ z. n.named; kept = n.kept }

  -- after drives or registers
  pub record RowsEmitted (e x : Emitted) : Type 0 where
    pub inv : Inv x
    pub kept : Kept e x

  drive-kept : (d : Drive) → DriveHas Good s d → drive_fits d ≡ true → (e : Emitted) → Inv e → RowsEmitted e (emit_drive s e d)
  drive-kept d h w e i =
      let b = and_both (choices_fit d.value) (choices_fit d.delay && choices_fit d.cond) w in
      let c = and_both (choices_fit d.delay) (choices_fit d.cond) b.1 in
      let e1 = need s d.value e in
      let n1 = needed d.value h.value b.0 e i in
      let e2 = need s d.delay e1 in
      let n2 = needed d.delay h.delay c.0 e1 n1.inv in
      let e3 = need_cond s d.cond e2 in
      let n3 = cond-needed d.cond h.cond c.1 e2 n2.inv in
      let e4 = need_part s d.part e3 in
      let n4 = part-needed s Good reached Inv k.keeps d.part h.part e3 n3.inv in
      record {
        inv = k.drive d e4 h
            (record {
              value = n4.kept.terms d.value (n3.kept.terms d.value (n2.kept.terms d.value n1.named));
              delay = n4.kept.terms d.delay (n3.kept.terms d.delay n2.named);
              cond = λ z. n4.kept.terms d.cond (n3.named z);
              part = n4.named;
            })
            n4.inv;
        kept = kept-then e e4 _ (kept-then e e1 e4 n1.kept (kept-then e1 e2 e4 n2.kept (kept-then e2 e3 e4 n3.kept n4.kept))) (puts-kept _ e4);
      }

  pub drives-kept : (ds : List Drive) → Each (DriveHas Good s) ds → list_all drive_fits ds ≡ true → (e : Emitted) → Inv e → RowsEmitted e (emit_drives s ds e)
  drives-kept [] h w e i = record { inv = i; kept = kept-same e }
  drives-kept (d ∷ ds) h w e i =
      let b = and_both (drive_fits d) (list_all drive_fits ds) w in
      let x = emit_drive s e d in
      let n = drive-kept d h.0 b.0 e i in
      let l = drives-kept ds h.1 b.1 x n.inv in
      record { inv = l.inv; kept = kept-then e x _ n.kept l.kept }

  -- probes, each of which has a name then
  pub record ProbesNeeded (e x : Emitted) (ps : List Part) : Type 0 where
    pub inv : Inv x
    pub named : Each (λ p. IsNamed x (now_of p)) ps
    pub kept : Kept e x

  all-named : (e x : Emitted) (ps : List Part) → Kept e x → Each (λ p. IsNamed e (now_of p)) ps → Each (λ p. IsNamed x (now_of p)) ps
  all-named e x [] k h = tt
  all-named e x (p ∷ ps) k h = (k.terms (now_of p) h.0, all-named e x ps k h.1)

  pub probes-kept : (ps : List Part) → Each (λ (p : Part). IsData p.ty × Good p) ps → (e : Emitted) → Inv e → ProbesNeeded e (emit_probes s ps e) ps
  probes-kept [] h e i = record { inv = i; named = tt; kept = kept-same e }
  probes-kept (p ∷ ps) h e i =
      let x = need s (now_of p) e in
      let n = needed (now_of p) (record { typed = h.0.0; parts = h.0.1 }) refl e i in
      let l = probes-kept ps h.1 x n.inv in
      record { inv = l.inv; named = (l.kept.terms (now_of p) n.named, l.named); kept = kept-then e x _ n.kept l.kept }

  -- ---- registers

  record FirstNeeded (r : EdgeRowTree) (e x : Emitted) (g : TriggerTree) : Type 0 where
    inv : Inv x
    value : IsNamed x r.value
    delay : IsNamed x r.delay
    named : TriggerNamed x g
    kept : Kept e x

  record TriggersNeeded (e x : Emitted) (gs : List TriggerTree) : Type 0 where
    inv : Inv x
    named : Each (TriggerNamed x) gs
    kept : Kept e x

  module _ (r : EdgeRowTree) (h : RowHas Good s r) (value_fits : choices_fit r.value ≡ true) (delay_fits : choices_fit r.delay ≡ true) where
    trigger-needed : (g : TriggerTree) → TriggerHas Good g → choices_fit g.gate ≡ true → (e : Emitted) → Inv e → FirstNeeded r e (need_trigger s r e g) g
    trigger-needed g t c e i =
        let e1 = need s r.value e in
        let n1 = needed r.value h.value value_fits e i in
        let e2 = need s (now_of g.part) e1 in
        let n2 = needed (now_of g.part) (record { typed = t.is_data; parts = t.part }) refl e1 n1.inv in
        let e3 = need_cond s g.gate e2 in
        let n3 = cond-needed g.gate t.gate c e2 n2.inv in
        let n4 = needed r.delay h.delay delay_fits e3 n3.inv in
        record {
          inv = n4.inv;
          value = n4.kept.terms r.value (n3.kept.terms r.value (n2.kept.terms r.value n1.named));
          delay = n4.named;
          named = record { now = n4.kept.terms (now_of g.part) (n3.kept.terms (now_of g.part) n2.named); gate = λ q. n4.kept.terms g.gate (n3.named q) };
          kept = kept-then e e1 _ n1.kept (kept-then e1 e2 _ n2.kept (kept-then e2 e3 _ n3.kept n4.kept));
        }

    triggers-needed : (gs : List TriggerTree) → Each (TriggerHas Good) gs → list_all (λ (g : TriggerTree). choices_fit g.gate) gs ≡ true → (e : Emitted) → Inv e →
        TriggersNeeded e (fold (need_trigger s r) e gs) gs
    triggers-needed [] t c e i = record { inv = i; named = tt; kept = kept-same e }
    triggers-needed (g ∷ gs) t c e i =
        let b = and_both (choices_fit g.gate) (list_all (λ (g : TriggerTree). choices_fit g.gate) gs) c in
        let x = need_trigger s r e g in
        let n = trigger-needed g t.0 b.0 e i in
        let l = triggers-needed gs t.1 b.1 x n.inv in
        record { inv = l.inv; named = (trigger-kept x _ g l.kept n.named, l.named); kept = kept-then e x _ n.kept l.kept }

    -- after the register of a row
    record RowEmitted (e x : Emitted) : Type 0 where
      inv : Inv x
      named : Each (TriggerNamed x) r.triggers
      kept : Kept e x

    register-kept : (g : TriggerTree) (gs : List TriggerTree) → r.triggers ≡ g ∷ gs → list_all (λ (g : TriggerTree). choices_fit g.gate) (g ∷ gs) ≡ true → (e : Emitted) → Inv e →
        RowEmitted e (put_register r (need_register s r e))
    register-kept g gs q c e i =
        let t : Each (TriggerHas Good) (g ∷ gs) = subst (Each (TriggerHas Good)) q h.triggers in
        let b = and_both (choices_fit g.gate) (list_all (λ (g : TriggerTree). choices_fit g.gate) gs) c in
        let e1 = need_trigger s r e g in
        let n1 = trigger-needed g t.0 b.0 e i in
        let e2 = fold (need_trigger s r) e1 gs in
        let n2 = triggers-needed gs t.1 b.1 e1 n1.inv in
        let e3 = need_part s r.part e2 in
        let n3 = part-needed s Good reached Inv k.keeps r.part h.part e2 n2.inv in
        let m = kept-then e1 e2 e3 n2.kept n3.kept in
        let all : Each (TriggerNamed e3) (g ∷ gs) = (trigger-kept e1 e3 g m n1.named, triggers-kept e2 e3 gs n3.kept n2.named) in
        let same : e3 ≡ need_register s r e = ap (λ (l : List TriggerTree). need_part s r.part (fold (need_trigger s r) e l)) (sym q) in
        let named : RowNamed e3 r = record { value = m.terms r.value n1.value; delay = m.terms r.delay n1.delay; part = n3.named; triggers = subst (Each (TriggerNamed e3)) (sym q) all } in
        let p = puts-kept _ e3 in
        subst (λ (x : Emitted). RowEmitted e (put_register r x)) same
        (record { inv = k.register r e3 h named n3.inv; named = triggers-kept e3 _ r.triggers p named.triggers; kept = kept-then e e3 _ (kept-then e e1 e3 n1.kept m) p })

  -- after the registers of rows
  pub record RegistersEmitted (e x : Emitted) (rs : List EdgeRowTree) : Type 0 where
    pub inv : Inv x
    pub named : Each (λ (r : EdgeRowTree). Each (TriggerNamed x) r.triggers) rs
    pub kept : Kept e x

  row-kept : (r : EdgeRowTree) → RowHas Good s r → row_fits r ≡ true → (e : Emitted) → Inv e → RegistersEmitted e (emit_register s e r) (r ∷ [])
  row-kept r h w e i = at r.triggers refl
    where
      at : (l : List TriggerTree) → r.triggers ≡ l → RegistersEmitted e (emit_register_by s r l e) (r ∷ [])
      at [] q = record { inv = i; named = (subst (Each (TriggerNamed e)) (sym q) tt, tt); kept = kept-same e }
      at (g ∷ gs) q =
          let d : (choices_fit r.value && (choices_fit r.delay && list_all (λ (g : TriggerTree). choices_fit g.gate) (g ∷ gs))) ≡ true = (rw q at w) in
          let b = and_both (choices_fit r.value) (choices_fit r.delay && list_all (λ (g : TriggerTree). choices_fit g.gate) (g ∷ gs)) d in
          let c = and_both (choices_fit r.delay) (list_all (λ (g : TriggerTree). choices_fit g.gate) (g ∷ gs)) b.1 in
          let n = register-kept r h b.0 c.0 g gs q c.1 e i in
          record { inv = n.inv; named = (n.named, tt); kept = n.kept }

  pub rows-kept : (rs : List EdgeRowTree) → Each (RowHas Good s) rs → list_all row_fits rs ≡ true → (e : Emitted) → Inv e → RegistersEmitted e (fold (emit_register s) e rs) rs
  rows-kept [] h w e i = record { inv = i; named = tt; kept = kept-same e }
  rows-kept (r ∷ rs) h w e i =
      let b = and_both (row_fits r) (list_all row_fits rs) w in
      let x = emit_register s e r in
      let n = row-kept r h.0 b.0 e i in
      let l = rows-kept rs h.1 b.1 x n.inv in
      record { inv = l.inv; named = (triggers-kept x _ r.triggers l.kept n.named.0, l.named); kept = kept-then e x _ n.kept l.kept }
