-- The rows that are made of what is found.
use Rattle.std.proofs.Common.{◌≡◌, ℕ, ◌<◌, List, length, map, Option, sym, ◌∙◌, subst}
use Rattle.lh_unit.specs.Arena.{Arena, naming}
use Rattle.lh_unit.specs.Naming.{value_text, trigger_text}
use Rattle.lh_unit.specs.declared.inst.RegTrigger.{RegTrigger}
use Rattle.lh_unit.specs.declared.inst.ValueId.{ValueId}
use Rattle.lh_term.specs.Tree.{Tree}
use Rattle.lh_term.specs.Arena.{Grows}
use Rattle.lh_term.specs.declared.part.Part.{Part}
use Rattle.lh_term.specs.declared.term.TermId.{TermId}
use Rattle.lh_term.specs.declared.term.TermNode.{TermNode}
use Rattle.lh_region_def.specs.Known.{Knowledge, value_known, part_known}
use Rattle.lh_cert_rows.specs.Reading.{drive_row, register_row, triggers_known}
use Rattle.lh_cert_read.specs.Known.{term_at, part_at, Knows}
use Rattle.lh_cert_read.specs.Lines.{MaybeTerm, MaybeTriggers, drive_by, register_by}
use Rattle.lh_cert_read.specs.declared.known.Known.{Known}
use Rattle.lh_cert_read.specs.declared.rows.RegisterTrigger.{RegisterTrigger}
use Rattle.lh_cert_read.proofs.Found.{term-found, part-found}
use Rattle.lh_cert_read.proofs.Triggers.{term-grown}
use Rattle.lh_cert_read.proofs.Steps.{MaybeDrive, drive-made, MaybeRegister, register-made}

module _ (a : Arena) (u : ℕ) (ns ms : List TermNode) (grows : Grows ns ms) (values : List (Option Known)) (k : Knowledge) (h : Knows a u ns values k) where
  found-term : (v : ValueId) → v.0 < length values → (o : Option TermId) → o ≡ term_at values v → MaybeTerm ms o (value_known k (value_text (naming a u) v))
  found-term v w o e =
      subst (λ x. MaybeTerm ms x (value_known k (value_text (naming a u) v))) (sym e)
      (term-grown ns ms grows (term_at values v) (value_known k (value_text (naming a u) v)) (term-found a u ns values k h v w))

  pub drive-found : (to value after : ValueId) → to.0 < length values → value.0 < length values → after.0 < length values → (oc : Option TermId) (c : Option Tree) (op : Option Part) (ov od : Option TermId)
      → MaybeTerm ms oc c → op ≡ part_at values to → ov ≡ term_at values value → od ≡ term_at values after
      → MaybeDrive ms (drive_by oc op ov od) (drive_row c (part_known k (value_text (naming a u) to)) (value_known k (value_text (naming a u) value)) (value_known k (value_text (naming a u) after)))
  drive-found to value after wt wv wa oc c op ov od mc ep ev ed =
      drive-made ms oc op ov od c (part_known k (value_text (naming a u) to)) (value_known k (value_text (naming a u) value)) (value_known k (value_text (naming a u) after)) mc
      (ep ∙ part-found a u ns values k h to wt) (found-term value wv ov ev) (found-term after wa od ed)

  pub register-found : (to : ValueId) (gs : List RegTrigger) → to.0 < length values → (op : Option Part) (og : Option (List RegisterTrigger)) → op ≡ part_at values to
      → MaybeTriggers ms og (triggers_known k (map (trigger_text (naming a u)) gs))
      → MaybeRegister ms (register_by op og) (register_row (part_known k (value_text (naming a u) to)) (triggers_known k (map (trigger_text (naming a u)) gs)))
  register-found to gs wt op og ep mg =
      register-made ms op og (part_known k (value_text (naming a u) to)) (triggers_known k (map (trigger_text (naming a u)) gs)) (ep ∙ part-found a u ns values k h to wt) mg
