-- What terminators do at a place, and all the lines of a block: each edge, end and drive that is added is right.
use Rattle.std.proofs.Common.{◌≡◌, ℕ, List, [], ◌∷◌, ◌++◌, true, nat_eq, Option, Some, None, is_some, refl, ap, sym, ◌∙◌, subst, append_assoc}
use Rattle.std.specs.List.{list_any}
use Rattle.std.proofs.lemmas.Option.{none-some}
use Rattle.lh_types.specs.Types.{TypeTree}
use Rattle.lh_types.specs.declared.op.Op.TheVariants.{Not}
use Rattle.lh_unit.specs.Contents.{InstText, const_text, pure_text, var_text, ld_text, st_text, sig_text, prb_text, drv_text, reg_text, child_text, call_text, phi_text, br_text, branch_text, wait_text, halt_text, ret_text, LineText, BlockText, UnitText}
use Rattle.lh_unit_names.specs.Names.{same_name}
use Rattle.lh_unit.specs.Named.{block_of}
use Rattle.lh_unit.specs.Places.{is_terminator, leads_to}
use Rattle.lh_unit.specs.Typing.{result_type}
use Rattle.lh_unit.specs.WellFormed.{labels_named}
use Rattle.lh_unit.specs.Within.{Each}
use Rattle.lh_unit.specs.declared.inst.UnitKind.TheVariants as kind
use Rattle.lh_verify_laws.specs.Defined.{OperandsThere}
use Rattle.lh_verify_laws.specs.Operands.{RowIs}
use Rattle.lh_verify_laws.specs.Parts.{HasPart}
use Rattle.lh_verify_laws.proofs.There.{first-name, second-name}
use Rattle.lh_verify_laws.proofs.AtPlaces.{place-at}
use Rattle.lh_eval.specs.Sound.{IsWrittenRight}
use Rattle.lh_flat_laws.specs.Formed.{IsWithoutCalls}
use Rattle.lh_flat.specs.Flat.{FlatBlockText, with_merge, as_block}
use Rattle.lh_term.specs.Tree.{Tree}
use Rattle.lh_term.specs.Make.{make_operation}
use Rattle.lh_term.specs.declared.part.Part.{Part}
use Rattle.lh_region_def.specs.Known.{Knowledge, value_known, parts_known}
use Rattle.lh_region_def.specs.Rows.{halts, waits}
use Rattle.lh_region_def.specs.Places.{Region, Here, Midst, both, ends, leads, branches, wait_way, ends_if, takes, takes_all}
use Rattle.lh_region_def.specs.Typed.{KnowsTyped, KnowsThere, IsCondition}
use Rattle.lh_region_def.specs.Right.{BlockAt, PhiGiven, PhisGiven, JoinsAt}
use Rattle.lh_region_def.proofs.Sites.{Site, site-at}
use Rattle.lh_region_def.proofs.MergedValues.{and-condition, not-condition}
use Rattle.lh_region_def.proofs.KnowledgeChanges.{phis-more}
use Rattle.lh_region_def.proofs.Steps.{More, no-more, one-more, more-more, RegionOf, Under, EdgeRight, EndRight, DriveRight, Target, target, text-at, joins-at, Led, led_never, led_edge, led_head, leads-led}
use Rattle.lh_region_def.proofs.LineEffects

module _ (u : UnitText) (g : Region) (r : RegionOf u g) (i : ℕ) (b : FlatBlockText) (bat : BlockAt g.blocks i b) (h : Here) (hl : h.label ≡ b.label) (hc : IsCondition h.cond) where
  abbrev Took : List LineText → LineText → Midst → Midst → Type 0
  Took = LineEffects.Took u g r i b bat h hl hc

  -- ---- edges and ends are added, and no more
  pub record Leads (m m' : Midst) : Type 0 where
    pub known : m'.known ≡ m.known
    pub edges : More (EdgeRight u g h) m.edges m'.edges
    pub drives : m'.rows.drives ≡ m.rows.drives
    pub ends : More (EndRight u g h) m.rows.ends m'.rows.ends
    pub asserts : m'.rows.asserts ≡ m.rows.asserts

  leads-both : (x y z : Midst) → Leads x y → Leads y z → Leads x z
  leads-both x y z a b = record {
    known = b.known ∙ a.known;
    edges = more-more (EdgeRight u g h) x.edges y.edges z.edges a.edges b.edges;
    drives = b.drives ∙ a.drives;
    ends = more-more (EndRight u g h) x.rows.ends y.rows.ends z.rows.ends a.ends b.ends;
    asserts = b.asserts ∙ a.asserts;
  }

  module _ (before : List LineText) (l : LineText) (after : List LineText) (split : with_merge b.merge b.lines ≡ before ++ l ∷ after) (s : Site u (as_block b) before l after)
      (last : is_terminator l.inst ≡ true)
      (k : Knowledge) (typed : KnowsTyped u k) (there : KnowsThere u (as_block b) before k) where
    pub ends-here : with_merge b.merge b.lines ≡ before ++ l ∷ []
    ends-here = split ∙ ap (λ ls. before ++ l ∷ ls) (s.last last)

    abbrev pub LedHere : Tree → Midst → ℕ → Midst → Type 0
    LedHere = Led u g r i b bat h hl before l ends-here last k typed there

    pub joins-here : (to : List ℕ) → list_any (λ m. same_name m to) (leads_to l.inst) ≡ true → (t : Target u g r i b bat h hl to) → JoinsAt u g t.number h.label k
    joins-here = joins-at u g r i b bat h hl before l ends-here last k typed there

    led-leads : (c : Tree) → IsCondition c → Under h.cond c → (m : Midst) → m.known ≡ k → (to : List ℕ) → list_any (λ m. same_name m to) (leads_to l.inst) ≡ true → (t : Target u g r i b bat h hl to)
        → (m' : Midst) → LedHere c m t.number m' → Leads m m'
    led-leads c ic uc m e to named t _ (led_never z) = record { known = refl; edges = no-more (EdgeRight u g h) m.edges; drives = refl; ends = no-more (EndRight u g h) m.rows.ends; asserts = refl }
    led-leads c ic uc m e to named t _ led_edge =
        let j = joins-here to named t in
        record {
          known = refl;
          edges = one-more (EdgeRight u g h) m.edges _ (record { cond = ic; under = uc; from = refl; place = refl; joins = subst (JoinsAt u g t.number h.label) (sym e) j });
          drives = refl;
          ends = no-more (EndRight u g h) m.rows.ends;
          asserts = refl;
        }
    led-leads c ic uc m e to named t _ (led_head w q) =
        let j = joins-here to named t in
        record {
          known = refl;
          edges = no-more (EdgeRight u g h) m.edges;
          drives = refl;
          ends = one-more (EndRight u g h) m.rows.ends _
              (record {
                cond = ic;
                under = uc;
                from = refl;
                known = subst (KnowsTyped u) (sym e) typed;
                way = subst (λ x. JoinsAt u g x h.label m.known) q
                    (subst (JoinsAt u g t.number h.label) (sym e) j);
              });
          asserts = refl;
        }

    pub leads-right : (c : Tree) → IsCondition c → Under h.cond c → (m : Midst) → m.known ≡ k → (to : List ℕ) → list_any (λ m. same_name m to) (leads_to l.inst) ≡ true
        → (x : (c : BlockText) × (block_of to u.blocks ≡ Some c)) → Leads m (leads g h c to m)
    leads-right c ic uc m e to named x =
        let t = target u g r i b bat h hl to x in
        led-leads c ic uc m e to named t (leads g h c to m) (leads-led u g r i b bat h hl before l ends-here last k typed there c m to t)

  module _ (before : List LineText) (l : LineText) (after : List LineText) (split : with_merge b.merge b.lines ≡ before ++ l ∷ after) (s : Site u (as_block b) before l after) (m : Midst)
      (typed : KnowsTyped u m.known) (there : KnowsThere u (as_block b) before m.known) where
    abbrev Operands : InstText → Type 0
    Operands j = OperandsThere kind.Proc u (place-at s.number s.entry (as_block b) before l after) j

    abbrev Labels : InstText → Type 0
    Labels j = Each (λ n. (c : BlockText) × (block_of n u.blocks ≡ Some c)) (labels_named j)

    leads-took : (m1 : Midst) → is_terminator l.inst ≡ true → ((t : TypeTree) → result_type l.inst ≡ Some t → ⊥) → Leads m m1 → Took before l m m1
    leads-took m1 last none d = LineEffects.same-took u g r i b bat h hl hc before l after s m typed there m1 d.known (λ t w q. none t q) d.edges
        (subst (More (DriveRight h) m.rows.drives) (sym d.drives) (no-more (DriveRight h) m.rows.drives)) d.ends
        (subst (More (λ (t : Tree). Unit {0}) m.rows.asserts) (sym d.asserts) (no-more (λ (t : Tree). Unit {0}) m.rows.asserts))

    abbrev LeadsRight : (last : is_terminator l.inst ≡ true) → (c : Tree) → IsCondition c → Under h.cond c → (m1 : Midst) → m1.known ≡ m.known → (to : List ℕ)
        → list_any (λ m. same_name m to) (leads_to l.inst) ≡ true → (x : (c : BlockText) × (block_of to u.blocks ≡ Some c)) → Leads m1 (leads g h c to m1)
    LeadsRight last = leads-right before l after split s last m.known typed there

    br-took : (to : List ℕ) → l.inst ≡ br_text to → Labels (br_text to) → Took before l m (takes g h (br_text to) l.result m)
    br-took to e x =
        let last : is_terminator l.inst ≡ true = ap is_terminator e in
        leads-took (leads g h h.cond to m) last (λ t q. none-some t (sym (ap result_type e) ∙ q))
        (LeadsRight last h.cond hc (LineEffects.under-self h.cond) m refl to (ap (λ j. list_any (λ m. same_name m to) (leads_to j)) e ∙ first-name to []) x.0)

    -- the condition of a branch
    pub branch-known : (c first second : List ℕ) → RowIs u (branch_text c first second) → Operands (branch_text c first second) → (t : Tree) × (value_known m.known c ≡ Some t) × IsCondition t
    branch-known c first second row k = LineEffects.bit-known u g r i b bat h hl hc before l after s m typed there c row k.0

    branch-took : (c first second : List ℕ) → l.inst ≡ branch_text c first second → RowIs u (branch_text c first second) → Operands (branch_text c first second) → Labels (branch_text c first second)
        → Took before l m (takes g h (branch_text c first second) l.result m)
    branch-took c first second e row k x =
        let last : is_terminator l.inst ≡ true = ap is_terminator e in
        let t = branch-known c first second row k in
        let n = not-condition t.0 t.2 in
        let q0 : Tree = both h.cond (make_operation Not (t.0 ∷ [])) in
        let m1 : Midst = leads g h q0 first m in
        let a = LeadsRight last q0 (and-condition h.cond (make_operation Not (t.0 ∷ [])) hc n) (LineEffects.under-both h.cond (make_operation Not (t.0 ∷ [])) hc n) m refl first
        (ap (λ j. list_any (λ m. same_name m first) (leads_to j)) e ∙ first-name first (second ∷ [])) x.0 in
        let b = LeadsRight last (both h.cond t.0) (and-condition h.cond t.0 hc t.2) (LineEffects.under-both h.cond t.0 hc t.2) m1 a.known second
        (ap (λ j. list_any (λ m. same_name m second) (leads_to j)) e ∙ second-name first second) x.1.0 in
        subst (λ o. Took before l m (branches g h o first second m)) (sym t.1)
        (leads-took (leads g h (both h.cond t.0) second m1) last (λ t q. none-some t (sym (ap result_type e) ∙ q)) (leads-both m m1 (leads g h (both h.cond t.0) second m1) a b))

    halt-took : l.inst ≡ halt_text → Took before l m (takes g h halt_text l.result m)
    halt-took e =
        let last : is_terminator l.inst ≡ true = ap is_terminator e in
        leads-took (ends h h.cond m halts) last (λ t q. none-some t (sym (ap result_type e) ∙ q))
        (record {
          known = refl;
          edges = no-more (EdgeRight u g h) m.edges;
          drives = refl;
          ends = one-more (EndRight u g h) m.rows.ends _ (record { cond = hc; under = LineEffects.under-self h.cond; from = refl; known = typed; way = tt });
          asserts = refl;
        })

    wait-took : (to : List ℕ) (after' : Option (List ℕ)) (on : List (List ℕ)) → l.inst ≡ wait_text to after' on → Labels (wait_text to after' on)
        → Took before l m (takes g h (wait_text to after' on) l.result m)
    wait-took to after' on e x =
        let last : is_terminator l.inst ≡ true = ap is_terminator e in
        let t = target u g r i b bat h hl to x.0 in
        let j = joins-here before l after split s last m.known typed there to (ap (λ j. list_any (λ m. same_name m to) (leads_to j)) e ∙ first-name to []) t in
        subst (λ o. Took before l m (ends_if h m (wait_way g (is_some after') o (parts_known m.known on)))) (sym t.is)
        (by last t.number (parts_known m.known on) j)
      where
        by : (last : is_terminator l.inst ≡ true) (k : ℕ) (o : Option (List Part)) → JoinsAt u g k h.label m.known → Took before l m (ends_if h m (wait_way g (is_some after') (Some k) o))
        by last k None j = leads-took m last (λ t q. none-some t (sym (ap result_type e) ∙ q))
            (record { known = refl; edges = no-more (EdgeRight u g h) m.edges; drives = refl; ends = no-more (EndRight u g h) m.rows.ends; asserts = refl })
        by last k (Some ps) j = leads-took (ends h h.cond m (waits k (nat_eq k g.head) ps (is_some after'))) last (λ t q. none-some t (sym (ap result_type e) ∙ q))
            (record {
              known = refl;
              edges = no-more (EdgeRight u g h) m.edges;
              drives = refl;
              ends = one-more (EndRight u g h) m.rows.ends _ (record { cond = hc; under = LineEffects.under-self h.cond; from = refl; known = typed; way = j });
              asserts = refl;
            })

    -- What an instruction does is right.
    pub takes-took : PhiGiven m.known l.inst l.result → Took before l m (takes g h l.inst l.result m)
    takes-took p = by l.inst refl s.sound.row s.sound.part s.sound.written s.calls s.there s.leads p
      where
        by : (j : InstText) → l.inst ≡ j → RowIs u j → HasPart u j → IsWrittenRight j → IsWithoutCalls u j → Operands j → Labels j → PhiGiven m.known j l.result
            → Took before l m (takes g h j l.result m)
        by (const_text d) e row part w c k x p = LineEffects.const-took u g r i b bat h hl hc before l after s m typed there d e w
        by (pure_text o os) e row part w c k x p = LineEffects.pure-took u g r i b bat h hl hc before l after s m typed there o os e row part w k
        by (var_text a) e row part w c k x p = LineEffects.var-took u g r i b bat h hl hc before l after s m typed there a e row k
        by (ld_text a) e row part w c k x p = LineEffects.ld-took u g r i b bat h hl hc before l after s m typed there a e row k
        by (st_text to value) e row part w c k x p = LineEffects.st-took u g r i b bat h hl hc before l after s m typed there to value e row k
        by (prb_text a) e row part w c k x p = LineEffects.prb-took u g r i b bat h hl hc before l after s m typed there a e row k
        by (drv_text to value after' cond) e row part w c k x p = LineEffects.drv-took u g r i b bat h hl hc before l after s m typed there to value after' cond e row k
        by (call_text f ty os) e row part w c k x p = LineEffects.call-took u g r i b bat h hl hc before l after s m typed there f ty os e c
        by (phi_text ty es) e row part w c k x p = LineEffects.phi-took u g r i b bat h hl hc before l after s m typed there ty es e p
        by (br_text to) e row part w c k x p = br-took to e x
        by (branch_text c first second) e row part w d k x p = branch-took c first second e row k x
        by (wait_text to after' on) e row part w c k x p = wait-took to after' on e x
        by halt_text e row part w c k x p = halt-took e
        by (ret_text o) e row part w c k x p = absurd c
        by (sig_text a) e row part w c k x p = absurd c
        by (reg_text to gs) e row part w c k x p = absurd c
        by (child_text v is os) e row part w c k x p = absurd c

  -- ---- all lines

  -- what the lines of a block from some point on add
  pub record Adds (m m' : Midst) : Type 0 where
    pub edges : More (EdgeRight u g h) m.edges m'.edges
    pub drives : More (DriveRight h) m.rows.drives m'.rows.drives
    pub ends : More (EndRight u g h) m.rows.ends m'.rows.ends
    pub asserts : More (λ (t : Tree). Unit {0}) m.rows.asserts m'.rows.asserts

  pub lines-add : (before ls : List LineText) → with_merge b.merge b.lines ≡ before ++ ls → (m : Midst) → KnowsTyped u m.known → KnowsThere u (as_block b) before m.known → PhisGiven m.known ls
      → Adds m (takes_all g h ls m)
  lines-add before [] split m typed there p = record {
    edges = no-more (EdgeRight u g h) m.edges;
    drives = no-more (DriveRight h) m.rows.drives;
    ends = no-more (EndRight u g h) m.rows.ends;
    asserts = no-more (λ (t : Tree). Unit {0}) m.rows.asserts;
  }
  lines-add before (l ∷ ls) split m typed there p =
      let s = site-at u r.formed i (as_block b) before l ls (text-at u g r i b bat h hl i b bat) split in
      let m1 : Midst = takes g h l.inst l.result m in
      let t = takes-took before l ls split s m typed there p.0 in
      let d = lines-add (before ++ l ∷ []) ls (split ∙ sym (append_assoc before (l ∷ []) ls)) m1 t.typed t.there (phis-more m.known m1.known ls t.stays p.1) in
      let m2 : Midst = takes_all g h ls m1 in
      record {
        edges = more-more (EdgeRight u g h) m.edges m1.edges m2.edges t.edges d.edges;
        drives = more-more (DriveRight h) m.rows.drives m1.rows.drives m2.rows.drives t.drives d.drives;
        ends = more-more (EndRight u g h) m.rows.ends m1.rows.ends m2.rows.ends t.ends d.ends;
        asserts = more-more (λ (t : Tree). Unit {0}) m.rows.asserts m1.rows.asserts m2.rows.asserts t.asserts d.asserts;
      }
