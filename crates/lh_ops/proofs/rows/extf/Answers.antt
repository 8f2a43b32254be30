use Rattle.std.proofs.Common.{◌≡◌, ◌∙◌, ap, Result, Ok, Err}
use Rattle.std.specs.Prelude.{IfOk}
use Rattle.lh_types.specs.ValueOf.{datum_of}
use Rattle.lh_types.specs.declared.val.Val.{Val}
use Rattle.lh_types.specs.declared.memory.NoMemory.{NoMemory}
use Rattle.lh_types.specs.Values.{Datum}
use Rattle.lh_ops.proofs.ArgLemmas.{extf_within, extf_is}
use Rattle.lh_ops.proofs.rows.extf.Goals as goal

pub bounds-parts-k : goal.bounds-parts-k
bounds-parts-k c = extf_within _ _ _ _ c.requires c.index-args-0.is c.parts.ensures

-- a copy of a value stands for what the value stands for
copied : (r : Result Val NoMemory) (x : Val) (d : Datum) → IfOk r (λ v. v ≡ x) → datum_of x ≡ d → IfOk r (λ v. datum_of v ≡ d)
copied (Ok v) x d e p = ap datum_of e ∙ p
copied (Err e) x d h p = h

pub returns : goal.returns
returns c = copied _ _ _ c.copy.ensures (extf_is _ _ _ _ c.requires c.index-args-0.is c.parts.ensures _ c.index-parts-k.is)
