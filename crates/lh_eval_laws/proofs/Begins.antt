-- What an instance begins with fits.
use Rattle.std.proofs.Common.{◌≡◌, ℕ, ◌+◌, ◌≤◌, List, [], ◌∷◌, map, if◌then◌else◌, Option, Some, None, ap, sym, ◌∙◌, subst}
use Rattle.std.specs.Option.{option_and_then}
use Rattle.std.proofs.lemmas.Option.{same_Some}
use Rattle.lh_types.specs.Types.{TypeTree, signal_type, IsData, bit_count}
use Rattle.lh_types.specs.declared.part.Range.{Range}
use Rattle.lh_unit.specs.Contents.{InstText, sig_text, LineText, ArgText, UnitText}
use Rattle.lh_unit.specs.Held.{Held, part_held, Env, nothing_held, with_held, with_result, with_args}
use Rattle.lh_unit.specs.Hierarchy.{lines_of, signal_names, name_if_signal, with_parts, parts_of, type_or_void}
use Rattle.lh_unit.specs.Typing.{value_type, result_type, signal_of}
use Rattle.lh_unit.specs.Within.{Each}
use Rattle.lh_unit.specs.declared.inst.UnitKind.{UnitKind}
use Rattle.lh_unit.specs.declared.inst.UnitKind.TheVariants as kind
use Rattle.lh_verify_laws.specs.Operands.{RowIs}
use Rattle.lh_eval.specs.Fitting.{FitsHeld, Fits}
use Rattle.lh_eval.specs.Sound.{InstIsSound}
use Rattle.lh_eval.proofs.GivesFit.{held-still-fits}
use Rattle.lh_eval_laws.specs.Ranges.{RangesFit, arg_types, signal_types, type_if_signal, InstanceFits}
use Rattle.lh_eval_laws.specs.Units.{HasItsType, IsPort, HasPorts, SigWritesData, WritesData, UnitIsSound}

module _ (u : UnitText) (w : ℕ) where
  -- a part under a name whose type is a signal's
  part-more : (e : Env) (name : Option (List ℕ)) (r : Range) (t : TypeTree) → Fits u w e → IsData t → (r.len ≡ bit_count t) × (r.lo + r.len ≤ w)
      → ((n : List ℕ) → name ≡ Some n → value_type u n ≡ Some (signal_type t)) → Fits u w (with_result e name (part_held r))
  part-more e name r t f d k ty = held-still-fits u w e name (Some (part_held r)) f (λ n g x s p q.
      let held : part_held r ≡ x = same_Some (part_held r) x p in
      let same : signal_type t ≡ s = same_Some (signal_type t) s (sym (ty n g) ∙ q) in
      let fits : FitsHeld w (part_held r) (signal_type t) = (d, k.0, k.1) in
      subst (λ (y : Held). FitsHeld w y s) held (subst (FitsHeld w (part_held r)) same fits))

  args-fit : (xs : List ArgText) (rs : List Range) (e : Env) → Each (HasItsType u) xs → Each IsPort xs → RangesFit w rs (arg_types xs) → Fits u w e → Fits u w (with_args e xs (map part_held rs))
  args-fit [] rs e a b c f = f
  args-fit (x ∷ xs) [] e a b c f = f
  args-fit (x ∷ xs) (r ∷ rs) e a b c f =
      let len : r.len ≡ bit_count b.0.0 = c.0 ∙ ap bit_count b.0.1 in
      args-fit xs rs (with_held e x.name (part_held r)) a.1 b.1 c.2
      (part-more e (Some x.name) r b.0.0 f b.0.2 (len, c.1) (λ n g. sym (ap (value_type u) (same_Some x.name n g)) ∙ a.0 ∙ ap Some b.0.1))

  signal-fits : (i : InstText) (result : Option (List ℕ)) (names : List (Option (List ℕ))) (types : List TypeTree) → RowIs u i → SigWritesData result i
      → ((n : List ℕ) → result ≡ Some n → value_type u n ≡ result_type i)
      → ((rs : List Range) (e : Env) → RangesFit w rs types → Fits u w e → Fits u w (with_parts e names rs))
      → (rs : List Range) (e : Env) → RangesFit w rs (type_if_signal i types) → Fits u w e → Fits u w (with_parts e (name_if_signal i result names) rs)
  signal-fits (sig_text a) result names types row wr ty go [] e c f = f
  signal-fits (sig_text a) result names types row wr ty go (r ∷ rs) e c f =
      let len : r.len ≡ bit_count row.0 = c.0 ∙ ap (λ o. bit_count (type_or_void o)) row.2.0 in
      let same : wr.0 ≡ row.0 = same_Some wr.0 row.0 (sym wr.1 ∙ row.2.0) in
      let made : option_and_then signal_of a.ty ≡ Some (signal_type row.0) = ap (option_and_then signal_of) row.2.0 ∙ ap (λ b. if b then Some (signal_type row.0) else None) row.1 in
      go rs (with_result e result (part_held r)) c.2 (part-more e result r row.0 f (subst IsData same wr.2) (len, c.1) (λ n g. ty n g ∙ made))
  signal-fits _ result names types row wr ty go rs e c f = go rs e c f

  signals-fit : (ls : List LineText) → Each (InstIsSound u) ls → Each WritesData ls → (rs : List Range) (e : Env) → RangesFit w rs (signal_types ls) → Fits u w e
      → Fits u w (with_parts e (signal_names ls) rs)
  signals-fit [] a b rs e c f = f
  signals-fit (l ∷ ls) a b rs e c f = signal-fits l.inst l.result (signal_names ls) (signal_types ls) a.0.row b.0 a.0.gives (signals-fit ls a.1 b.1) rs e c f

-- where nothing is held, it fits
pub nothing-fits : (u : UnitText) (w : ℕ) → Fits u w nothing_held
nothing-fits u w n h t p q = cc

-- What a process begins with fits.
pub process-fits : (u : UnitText) (w : ℕ) → u.kind ≡ kind.Proc → UnitIsSound u → (args : List Range) → RangesFit w args (arg_types u.args)
    → Fits u w (with_args nothing_held u.args (map part_held args))
process-fits u w k s args c =
    args-fit u w u.args args nothing_held s.args (subst (λ (x : UnitKind). HasPorts x u.args) k s.ports) c (nothing-fits u w)

-- What an entity begins with fits.
pub entity-fits : (u : UnitText) (w : ℕ) → u.kind ≡ kind.Entity → UnitIsSound u → (args sigs : List Range) → InstanceFits u args sigs w → Fits u w (parts_of u args sigs)
entity-fits u w k s args sigs i =
    signals-fit u w (lines_of u.blocks) s.lines s.signals sigs (with_args nothing_held u.args (map part_held args)) i.of_signals
    (args-fit u w u.args args nothing_held s.args (subst (λ (x : UnitKind). HasPorts x u.args) k s.ports) i.of_args (nothing-fits u w))
