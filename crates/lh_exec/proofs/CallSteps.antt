-- What a function holds where it is called.
use Rattle.std.proofs.Common.{◌≡◌, ℕ, ◌<◌, List, [], ◌∷◌, length, map, set, replicate, Option, Some, None, sym, subst, arith}
use Rattle.std.specs.Option.{option_map}
use Rattle.std.proofs.lemmas.Option.{same_Some, none-some}
use Rattle.lh_types.specs.Values.{Datum}
use Rattle.lh_unit.specs.Activation.{called, entry}
use Rattle.lh_unit.specs.Arena.{Arena, IsArena, naming, args_at, unit_count, value_count, unit_text_at}
use Rattle.lh_unit.specs.Held.{Held, Env, datum_held, nothing_held, with_args, data_at}
use Rattle.lh_unit.specs.Naming.{arg_text, operand_text}
use Rattle.lh_unit.specs.Table.{ArgsWithin}
use Rattle.lh_unit.specs.declared.inst.Arg.{Arg}
use Rattle.lh_unit.specs.declared.inst.Typed.{Typed}
use Rattle.lh_unit.specs.Within.{Each}
use Rattle.lh_eval.specs.Holding.{Holds, data_in}
use Rattle.lh_eval.proofs.HeldByIds.{same-held, holds-more, holds-nothing}
use Rattle.lh_exec.specs.declared.machine.UnitFrame.{UnitFrame}
use Rattle.lh_exec.specs.Standing.{MaybeFrame}
use Rattle.lh_exec.specs.Taking.{data_given, operands_given}

module _ (a : Arena) (u : ℕ) (o : IsArena a) (h : u < unit_count a) where
  data-held : (xs : List Arg) (hs : List Held) (slots : List (Option Held)) (e : Env) → ArgsWithin (value_count a u) xs → Holds a u slots e
      → Holds a u (data_given xs hs slots) (with_args e (map (arg_text (naming a u)) xs) hs)
  data-held [] hs slots e w d = d
  data-held (x ∷ xs) [] slots e w d = d
  data-held (x ∷ xs) (y ∷ hs) slots e w d = data-held xs hs (set slots x.value.0 (Some y)) _ w.1 (holds-more a u slots e x.value y o h d (omega (arith, w.0, d.long)))

  pub called-holds : (ds : List Datum) (slots : List (Option Held)) → slots ≡ data_given (args_at a u) (map datum_held ds) (replicate (value_count a u) None)
      → Holds a u slots (with_args nothing_held (unit_text_at a u).args (map datum_held ds))
  called-holds ds slots e =
      subst (λ (s : List (Option Held)). Holds a u s (with_args nothing_held (unit_text_at a u).args (map datum_held ds))) (sym e)
      (data-held (args_at a u) (map datum_held ds) (replicate (value_count a u) None) nothing_held (o.tables u h).args_within (holds-nothing a u))

  -- the frame of a call
  module _ (v : ℕ) (from : List (Option Held)) (e : Env) (os : List Typed) (d : Holds a v from e) (w : Each (λ (x : Typed). x.value.0 < length from) os) where
    abbrev none_held : List (Option Held)
    none_held = replicate (value_count a u) None

    as-held : (r : Option UnitFrame) → MaybeFrame a r (called (Some (unit_text_at a u)) (data_in from os))
        → MaybeFrame a r (called (Some (unit_text_at a u)) (data_at e (map (operand_text (naming a v)) os)))
    as-held r k = subst (λ (x : Option (List Datum)). MaybeFrame a r (called (Some (unit_text_at a u)) x)) ((same-held a v from e d).values os w) k

    pub called-frame : (new : List (Option Held)) (r : Option UnitFrame) → operands_given (args_at a u) os from none_held ≡ Some new
        → ((f : Env) → Holds a u new f → MaybeFrame a r (entry (unit_text_at a u) f))
        → MaybeFrame a r (called (Some (unit_text_at a u)) (data_at e (map (operand_text (naming a v)) os)))
    called-frame new r q k = as-held r (by (data_in from os) q)
      where
        by : (z : Option (List Datum)) → option_map (λ ds. data_given (args_at a u) (map datum_held ds) none_held) z ≡ Some new → MaybeFrame a r (called (Some (unit_text_at a u)) z)
        by None p = absurd (none-some new p)
        by (Some ds) p = k (with_args nothing_held (unit_text_at a u).args (map datum_held ds)) (called-holds ds new (sym (same_Some _ new p)))

    pub called-none : operands_given (args_at a u) os from none_held ≡ None → MaybeFrame a None (called (Some (unit_text_at a u)) (data_at e (map (operand_text (naming a v)) os)))
    called-none q = as-held None (by (data_in from os) q)
      where
        by : (z : Option (List Datum)) → option_map (λ ds. data_given (args_at a u) (map datum_held ds) none_held) z ≡ None → MaybeFrame a None (called (Some (unit_text_at a u)) z)
        by None p = tt
        by (Some ds) p = absurd (none-some _ (sym p))

-- no operand is left
pub operands-done : (xs : List Arg) (from to : List (Option Held)) (z : Option (List (Option Held))) → operands_given xs [] from to ≡ z → z ≡ Some to
operands-done [] from to z h = sym h
operands-done (x ∷ xs) from to z h = sym h
