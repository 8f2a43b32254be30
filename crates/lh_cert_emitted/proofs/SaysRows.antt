-- The drives and registers of an entity say the rows that they are emitted from.
use Rattle.std.proofs.Common.{◌≡◌, ℕ, ◌+◌, Bool, true, false, not, ◌&&◌, if◌then◌else◌, List, [], ◌∷◌, ◌++◌, map, Option, Some, None, refl, ap, sym, ◌∙◌, subst, append_assoc, append-nil}
use Rattle.std.specs.Prelude.{fold, filter}
use Rattle.std.specs.List.{list_all}
use Rattle.std.specs.Option.{option_and_then}
use Rattle.lh_types.specs.Types.{IsData}
use Rattle.lh_types.specs.Same.{and_both}
use Rattle.lh_unit.specs.Contents.{InstText, TriggerText, drv_text, reg_text, UnitText}
use Rattle.lh_unit.specs.Held.{front}
use Rattle.lh_unit.specs.Within.{Each}
use Rattle.lh_term.specs.Tree.{Tree, now_of}
use Rattle.lh_term.specs.Make.{is_bit, bit_of}
use Rattle.lh_term.specs.declared.part.Part.{Part}
use Rattle.lh_edge.specs.Triggers.{TriggerTree, EdgeRowTree}
use Rattle.lh_region_def.specs.Known.{as_part, part_known, value_known}
use Rattle.lh_region_def.specs.Rows.{Drive}
use Rattle.lh_emit_def.specs.Emitted.{PartStep, source_of, Emitted, puts, term_name, part_name, signal, need_part}
use Rattle.lh_emit_def.specs.Needs.{need}
use Rattle.lh_emit_def.specs.Entities.{need_cond, cond_name, need_drive, emit_drive, emit_drives, emit_probes, need_trigger, mode_of, trigger_text, need_register, put_register, emit_register_by, emit_register, choices_fit, drive_fits, row_fits}
use Rattle.lh_emit_def.specs.Ways.{IsReached}
use Rattle.lh_emit_def.proofs.DrivePasses.{one-is, CondNamed}
use Rattle.lh_emit_def.proofs.Induction.{IsNamed, IsNamedPart, Kept, kept-same, kept-then}
use Rattle.lh_emit_def.proofs.KeptByRows.{Has, DriveHas, TriggerHas, RowHas}
use Rattle.lh_emit_def.proofs.NeedLaws.{Needed, need-needed, part-needed}
use Rattle.lh_emit_def.proofs.PassState.{HasFewArgs, begins-before}
use Rattle.lh_emit_def.proofs.RegisterPasses.{TriggerNamed, trigger-kept, triggers-kept}
use Rattle.lh_cert_terms.specs.Rebuilding.{rebuilt}
use Rattle.lh_cert_rows.specs.Rows.{TriggerRow, EntityRow, driven_by, registered}
use Rattle.lh_cert_rows.specs.Reading.{EntityText, with_row, condition_known, delay_known, drive_row, trigger_row, trigger_known, triggers_known, register_row}
use Rattle.lh_cert_def.specs.KeptRows.{rebuilt_drive, trigger_of, register_of, has_triggers}
use Rattle.lh_cert_emitted.specs.Laws.{drive_said, register_said, registers_said}
use Rattle.lh_cert_emitted.proofs.SaysState.{frame, said, Says, Inv, puts-says}
use Rattle.lh_cert_emitted.proofs.SaysNeeds.{keeps, term-known, part-known}

module _ (u : UnitText) (steps : Part → List PartStep) (few : HasFewArgs u) (Good : Part → Type 0) (reached : (p : Part) → Good p → IsReached (source_of u steps) p) where
  abbrev Says-of : List EntityRow → Emitted → Type 0
  Says-of rows e = Inv u steps few Good rows e

  needed : (rows : List EntityRow) (t : Tree) → Has Good t → choices_fit t ≡ true → (e : Emitted) → Says-of rows e → Needed (Says-of rows) e (need (source_of u steps) t e) t
  needed rows t h c e i = need-needed (source_of u steps) Good reached (Says-of rows) (keeps u steps few Good rows reached) t h.typed c h.parts e i

  record CondNeeded (rows : List EntityRow) (e x : Emitted) (c : Tree) : Type 0 where
    inv : Says-of rows x
    named : CondNamed x c
    kept : Kept e x

  cond-needed : (rows : List EntityRow) (c : Tree) → Has Good c → choices_fit c ≡ true → (e : Emitted) → Says-of rows e → CondNeeded rows e (need_cond (source_of u steps) c e) c
  cond-needed rows c h w e i = at (is_bit 1 c) refl
    where
      at : (b : Bool) → is_bit 1 c ≡ b → CondNeeded rows e (if b then e else need (source_of u steps) c e) c
      at true q = record { inv = i; named = λ n. let z : true ≡ false = sym q ∙ n in absurd cc; kept = kept-same e }
      at false q = let n = needed rows c h w e i in record { inv = n.inv; named = λ z. n.named; kept = n.kept }

  module _ (rows : List EntityRow) (e : Emitted) (m : Says u steps few Good rows e) where
    abbrev text : EntityText
    text = said u steps few Good e.lines

    cond-known : (c : Tree) → CondNamed e c → condition_known text.known (cond_name e c) ≡ Some (rebuilt c)
    cond-known c n = at (is_bit 1 c) refl
      where
        at : (b : Bool) → is_bit 1 c ≡ b → condition_known text.known (cond_name e c) ≡ Some (rebuilt c)
        at true q = rw q (sym (ap (λ z. Some (rebuilt z)) (one-is c q)))
        at false q = rw q (term-known u steps few Good rows e m c (n q))

    part-is : (p : Part) → IsNamedPart e p → part_known text.known (part_name e p) ≡ Some p
    part-is p n = ap (option_and_then as_part) (part-known u steps few Good rows e m p n)

    -- a `drv` says its drive
    drive-says : (d : Drive) → IsNamed e d.value → IsNamed e d.delay → CondNamed e d.cond → IsNamedPart e d.part →
        with_row text (drive_row (condition_known text.known (cond_name e d.cond)) (part_known text.known (part_name e d.part)) (value_known text.known (term_name e d.value)) (value_known text.known (term_name e d.delay)))
        ≡ record { known = text.known; probes = text.probes; rows = rows ++ drive_said d ∷ [] }
    drive-says d v l c p =
        let a = part-is d.part p in
        let b = term-known u steps few Good rows e m d.value v in
        let g = term-known u steps few Good rows e m d.delay l in
        let h = cond-known d.cond c in
        let r = m.rows_are in
        (λ i. with_row text (drive_row (h i) (a i) (b i) (g i))) ∙ (λ i. record { known = text.known; probes = text.probes; rows = r i ++ drive_said d ∷ [] })

    -- a trigger of a `reg` says its trigger
    trigger-says : (r : EdgeRowTree) (g : TriggerTree) → IsNamed e r.value → IsNamed e r.delay → TriggerNamed e g → trigger_known text.known (trigger_text r e g) ≡ Some (trigger_of r g)
    trigger-says r g v l n =
        let a = term-known u steps few Good rows e m (now_of g.part) n.now in
        let b = cond-known g.gate n.gate in
        let c = term-known u steps few Good rows e m r.value v in
        let d = term-known u steps few Good rows e m r.delay l in
        λ i. trigger_row (mode_of g.rise) (a i) (b i) (c i) (d i)

    triggers-say : (r : EdgeRowTree) (gs : List TriggerTree) → IsNamed e r.value → IsNamed e r.delay → Each (TriggerNamed e) gs →
        triggers_known text.known (map (trigger_text r e) gs) ≡ Some (map (trigger_of r) gs)
    triggers-say r [] v l n = refl
    triggers-say r (g ∷ gs) v l n = let a = trigger-says r g v l n.0 in let b = triggers-say r gs v l n.1 in λ i. front (a i) (b i)

    register-says : (r : EdgeRowTree) (gs : List TriggerTree) → IsNamed e r.value → IsNamed e r.delay → IsNamedPart e r.part → Each (TriggerNamed e) gs →
        with_row text (register_row (part_known text.known (part_name e r.part)) (triggers_known text.known (map (trigger_text r e) gs)))
        ≡ record { known = text.known; probes = text.probes; rows = rows ++ registered r.part (map (trigger_of r) gs) ∷ [] }
    register-says r gs v l p n =
        let a = part-is r.part p in
        let b = triggers-say r gs v l n in
        let z = m.rows_are in
        (λ i. with_row text (register_row (a i) (b i))) ∙ (λ i. record { known = text.known; probes = text.probes; rows = z i ++ registered r.part (map (trigger_of r) gs) ∷ [] })

  -- ---- drives

  pub record Emits (rows : List EntityRow) (e x : Emitted) : Type 0 where
    pub inv : Inv u steps few Good rows x
    pub kept : Kept e x

  puts-kept : (i : InstText) (e : Emitted) → Kept e (puts i e)
  puts-kept i e = record { terms = λ t h. record { name = h.name; is = h.is }; parts = λ p h. record { name = h.name; is = h.is } }

  drive-emitted : (rows : List EntityRow) (d : Drive) → DriveHas Good (source_of u steps) d → drive_fits d ≡ true → (e : Emitted) → Says-of rows e →
      Emits (rows ++ drive_said d ∷ []) e (emit_drive (source_of u steps) e d)
  drive-emitted rows d h w e i =
      let s = source_of u steps in
      let b = and_both (choices_fit d.value) (choices_fit d.delay && choices_fit d.cond) w in
      let c = and_both (choices_fit d.delay) (choices_fit d.cond) b.1 in
      let e1 = need s d.value e in
      let n1 = needed rows d.value h.value b.0 e i in
      let e2 = need s d.delay e1 in
      let n2 = needed rows d.delay h.delay c.0 e1 n1.inv in
      let e3 = need_cond s d.cond e2 in
      let n3 = cond-needed rows d.cond h.cond c.1 e2 n2.inv in
      let e4 = need_part s d.part e3 in
      let n4 = part-needed s Good reached (Says-of rows) (keeps u steps few Good rows reached) d.part h.part e3 n3.inv in
      let v : IsNamed e4 d.value = n4.kept.terms d.value (n3.kept.terms d.value (n2.kept.terms d.value n1.named)) in
      let l : IsNamed e4 d.delay = n4.kept.terms d.delay (n3.kept.terms d.delay n2.named) in
      let q : CondNamed e4 d.cond = λ z. n4.kept.terms d.cond (n3.named z) in
      record {
        inv = λ y a.
            let m = n4.inv y (begins-before (frame u steps few Good) few y e4.lines _ a) in
            puts-says u steps few Good rows (drive_said d) e4 _ m (drive-says rows e4 m d v l q n4.named) refl refl refl;
        kept = kept-then e e4 _ (kept-then e e1 e4 n1.kept (kept-then e1 e2 e4 n2.kept (kept-then e2 e3 e4 n3.kept n4.kept))) (puts-kept _ e4);
      }

  pub drives-emitted : (rows : List EntityRow) (ds : List Drive) → Each (DriveHas Good (source_of u steps)) ds → list_all drive_fits ds ≡ true → (e : Emitted) → Says-of rows e →
      Emits (rows ++ map drive_said ds) e (emit_drives (source_of u steps) ds e)
  drives-emitted rows [] h w e i = record { inv = subst (λ z. Says-of z e) (sym (append-nil rows)) i; kept = kept-same e }
  drives-emitted rows (d ∷ ds) h w e i =
      let b = and_both (drive_fits d) (list_all drive_fits ds) w in
      let x = emit_drive (source_of u steps) e d in
      let n = drive-emitted rows d h.0 b.0 e i in
      let l = drives-emitted (rows ++ drive_said d ∷ []) ds h.1 b.1 x n.inv in
      record {
        inv = subst (λ z. Says-of z (emit_drives (source_of u steps) ds x)) (append_assoc rows (drive_said d ∷ []) (map drive_said ds)) l.inv;
        kept = kept-then e x _ n.kept l.kept;
      }

  -- ---- registers

  module _ (rows : List EntityRow) (r : EdgeRowTree) (h : RowHas Good (source_of u steps) r) (value_fits : choices_fit r.value ≡ true) (delay_fits : choices_fit r.delay ≡ true) where
    record FirstNeeded (e x : Emitted) (g : TriggerTree) : Type 0 where
      inv : Says-of rows x
      value : IsNamed x r.value
      delay : IsNamed x r.delay
      named : TriggerNamed x g
      kept : Kept e x

    record TriggersNeeded (e x : Emitted) (gs : List TriggerTree) : Type 0 where
      inv : Says-of rows x
      named : Each (TriggerNamed x) gs
      kept : Kept e x

    trigger-needed : (g : TriggerTree) → TriggerHas Good g → choices_fit g.gate ≡ true → (e : Emitted) → Says-of rows e → FirstNeeded e (need_trigger (source_of u steps) r e g) g
    trigger-needed g t c e i =
        let s = source_of u steps in
        let e1 = need s r.value e in
        let n1 = needed rows r.value h.value value_fits e i in
        let e2 = need s (now_of g.part) e1 in
        let n2 = needed rows (now_of g.part) (record { typed = t.is_data; parts = t.part }) refl e1 n1.inv in
        let e3 = need_cond s g.gate e2 in
        let n3 = cond-needed rows g.gate t.gate c e2 n2.inv in
        let n4 = needed rows r.delay h.delay delay_fits e3 n3.inv in
        record {
          inv = n4.inv;
          value = n4.kept.terms r.value (n3.kept.terms r.value (n2.kept.terms r.value n1.named));
          delay = n4.named;
          named = record { now = n4.kept.terms (now_of g.part) (n3.kept.terms (now_of g.part) n2.named); gate = λ q. n4.kept.terms g.gate (n3.named q) };
          kept = kept-then e e1 _ n1.kept (kept-then e1 e2 _ n2.kept (kept-then e2 e3 _ n3.kept n4.kept));
        }

    triggers-needed : (gs : List TriggerTree) → Each (TriggerHas Good) gs → list_all (λ (g : TriggerTree). choices_fit g.gate) gs ≡ true → (e : Emitted) → Says-of rows e →
        TriggersNeeded e (fold (need_trigger (source_of u steps) r) e gs) gs
    triggers-needed [] t c e i = record { inv = i; named = tt; kept = kept-same e }
    triggers-needed (g ∷ gs) t c e i =
        let b = and_both (choices_fit g.gate) (list_all (λ (g : TriggerTree). choices_fit g.gate) gs) c in
        let x = need_trigger (source_of u steps) r e g in
        let n = trigger-needed g t.0 b.0 e i in
        let l = triggers-needed gs t.1 b.1 x n.inv in
        record { inv = l.inv; named = (trigger-kept x _ g l.kept n.named, l.named); kept = kept-then e x _ n.kept l.kept }

    register-emitted : (g : TriggerTree) (gs : List TriggerTree) → r.triggers ≡ g ∷ gs → list_all (λ (g : TriggerTree). choices_fit g.gate) (g ∷ gs) ≡ true → (e : Emitted) → Says-of rows e →
        Says-of (rows ++ register_said (register_of r) ∷ []) (put_register r (need_register (source_of u steps) r e))
    register-emitted g gs q c e i =
        let s = source_of u steps in
        let t : Each (TriggerHas Good) (g ∷ gs) = subst (Each (TriggerHas Good)) q h.triggers in
        let b = and_both (choices_fit g.gate) (list_all (λ (g : TriggerTree). choices_fit g.gate) gs) c in
        let e1 = need_trigger s r e g in
        let n1 = trigger-needed g t.0 b.0 e i in
        let e2 = fold (need_trigger s r) e1 gs in
        let n2 = triggers-needed gs t.1 b.1 e1 n1.inv in
        let e3 = need_part s r.part e2 in
        let n3 = part-needed s Good reached (Says-of rows) (keeps u steps few Good rows reached) r.part h.part e2 n2.inv in
        let k = kept-then e1 e2 e3 n2.kept n3.kept in
        let all : Each (TriggerNamed e3) (g ∷ gs) = (trigger-kept e1 e3 g k n1.named, triggers-kept e2 e3 gs n3.kept n2.named) in
        let put : Says-of (rows ++ registered r.part (map (trigger_of r) (g ∷ gs)) ∷ []) (puts (reg_text (signal e3 r.part) (map (trigger_text r e3) (g ∷ gs))) e3) =
        λ y a.
        let m = n3.inv y (begins-before (frame u steps few Good) few y e3.lines _ a) in
        puts-says u steps few Good rows (registered r.part (map (trigger_of r) (g ∷ gs))) e3 _ m
        (register-says rows e3 m r (g ∷ gs) (k.terms r.value n1.value) (k.terms r.delay n1.delay) n3.named all) refl refl refl in
        subst (λ (l : List TriggerTree). Says-of (rows ++ registered r.part (map (trigger_of r) l) ∷ [])
        (let x = need_part s r.part (fold (need_trigger s r) e l) in puts (reg_text (signal x r.part) (map (trigger_text r x) l)) x)) (sym q) put

  row-emitted : (rows : List EntityRow) (r : EdgeRowTree) → RowHas Good (source_of u steps) r → row_fits r ≡ true → (e : Emitted) → Says-of rows e →
      Says-of (rows ++ registers_said (r ∷ [])) (emit_register (source_of u steps) e r)
  row-emitted rows r h w e i = at r.triggers refl
    where
      at : (l : List TriggerTree) → r.triggers ≡ l → Says-of (rows ++ registers_said (r ∷ [])) (emit_register_by (source_of u steps) r l e)
      at [] q =
          let none : registers_said (r ∷ []) ≡ [] = ap (λ (l : List TriggerTree). map register_said (filter has_triggers ((r.part, map (trigger_of r) l) ∷ []))) q in
          subst (λ z. Says-of z e) (sym (ap (λ z. rows ++ z) none ∙ append-nil rows)) i
      at (g ∷ gs) q =
          let one : registers_said (r ∷ []) ≡ register_said (register_of r) ∷ [] =
          ap (λ (l : List TriggerTree). map register_said (filter has_triggers ((r.part, map (trigger_of r) l) ∷ []))) q
          ∙ sym (ap (λ (l : List TriggerTree). register_said (r.part, map (trigger_of r) l) ∷ []) q) in
          let d : (choices_fit r.value && (choices_fit r.delay && list_all (λ (g : TriggerTree). choices_fit g.gate) (g ∷ gs))) ≡ true = (rw q at w) in
          let b = and_both (choices_fit r.value) (choices_fit r.delay && list_all (λ (g : TriggerTree). choices_fit g.gate) (g ∷ gs)) d in
          let c = and_both (choices_fit r.delay) (list_all (λ (g : TriggerTree). choices_fit g.gate) (g ∷ gs)) b.1 in
          subst (λ z. Says-of (rows ++ z) (put_register r (need_register (source_of u steps) r e))) (sym one) (register-emitted rows r h b.0 c.0 g gs q c.1 e i)

  -- those of one more row
  said-more : (r : EdgeRowTree) (rs : List EdgeRowTree) → registers_said (r ∷ rs) ≡ registers_said (r ∷ []) ++ registers_said rs
  said-more r rs = at (has_triggers (register_of r)) refl
    where
      at : (b : Bool) → has_triggers (register_of r) ≡ b → registers_said (r ∷ rs) ≡ registers_said (r ∷ []) ++ registers_said rs
      at true q = rw q refl
      at false q = rw q refl

  pub rows-emitted : (rows : List EntityRow) (rs : List EdgeRowTree) → Each (RowHas Good (source_of u steps)) rs → list_all row_fits rs ≡ true → (e : Emitted) → Says-of rows e →
      Says-of (rows ++ registers_said rs) (fold (emit_register (source_of u steps)) e rs)
  rows-emitted rows [] h w e i = subst (λ z. Says-of z e) (sym (append-nil rows)) i
  rows-emitted rows (r ∷ rs) h w e i =
      let b = and_both (row_fits r) (list_all row_fits rs) w in
      let x = emit_register (source_of u steps) e r in
      let l = rows-emitted (rows ++ registers_said (r ∷ [])) rs h.1 b.1 x (row-emitted rows r h.0 b.0 e i) in
      let q : (rows ++ registers_said (r ∷ [])) ++ registers_said rs ≡ rows ++ registers_said (r ∷ rs) = append_assoc rows (registers_said (r ∷ [])) (registers_said rs) ∙ ap (λ z. rows ++ z) (sym (said-more r rs)) in
      subst (λ z. Says-of z (fold (emit_register (source_of u steps)) x rs)) q l

  -- ---- probes

  pub record Probed (rows : List EntityRow) (e x : Emitted) (ps : List Part) : Type 0 where
    pub inv : Inv u steps few Good rows x
    pub named : Each (λ p. IsNamed x (now_of p)) ps
    pub kept : Kept e x

  pub probes-emitted : (rows : List EntityRow) (ps : List Part) → Each (λ (p : Part). IsData p.ty × Good p) ps → (e : Emitted) → Says-of rows e → Probed rows e (emit_probes (source_of u steps) ps e) ps
  probes-emitted rows [] h e i = record { inv = i; named = tt; kept = kept-same e }
  probes-emitted rows (p ∷ ps) h e i =
      let x = need (source_of u steps) (now_of p) e in
      let n = needed rows (now_of p) (record { typed = h.0.0; parts = h.0.1 }) refl e i in
      let l = probes-emitted rows ps h.1 x n.inv in
      record { inv = l.inv; named = (l.kept.terms (now_of p) n.named, l.named); kept = kept-then e x _ n.kept l.kept }
