-- The arguments of an entity, of which each is known as a part.
use Rattle.std.proofs.Common.{◌≡◌, ℕ, ◌+◌, ◌<◌, ◌^◌, List, [], ◌∷◌, length, map, set, Option, Some, None, refl, ap, sym, subst, arith}
use Rattle.std.specs.Option.{option_map}
use Rattle.std.proofs.lemmas.List.{length-set}
use Rattle.std.proofs.lemmas.Option.{same_Some, none-some}
use Rattle.lh_types.specs.Types.{TypeTree, IsData, bit_count}
use Rattle.lh_types.proofs.Limits.{bit_count-le}
use Rattle.lh_unit.specs.Arena.{Arena, IsArena, naming, unit_count}
use Rattle.lh_unit.specs.Naming.{arg_text, value_text}
use Rattle.lh_unit.specs.Table.{ArgsWithin}
use Rattle.lh_unit.specs.Typing.{carried}
use Rattle.lh_unit.specs.Within.{Each}
use Rattle.lh_unit.specs.declared.inst.Arg.{Arg}
use Rattle.lh_unit.specs.declared.inst.ValueId.{ValueId}
use Rattle.lh_eval_laws.specs.Units.{IsPort}
use Rattle.lh_term.specs.Parts.{whole_argument}
use Rattle.lh_term.specs.declared.term.TermNode.{TermNode}
use Rattle.lh_region_def.specs.Known.{known_part, Knowledge, with_known, with_given, with_arguments}
use Rattle.lh_cert_read.specs.Known.{given, args_given, Knows}
use Rattle.lh_cert_read.specs.declared.known.Known.{Known}
use Rattle.lh_cert_read.specs.declared.known.Known.TheVariants as known
use Rattle.lh_cert_read.proofs.Found.{knows-more}

pub given-long : (values : List (Option Known)) (name : Option ValueId) (x : Option Known) → length (given values name x) ≡ length values
given-long values (Some v) (Some x) = length-set values v.0 (Some x)
given-long values (Some v) None = refl
given-long values None x = refl

small : (t : TypeTree) → IsData t → 0 + bit_count t < 2 ^ 32
small t d = let w = bit_count-le t d in omega (arith, w)

pub args-known : (a : Arena) (u : ℕ) → IsArena a → u < unit_count a → (ns : List TermNode) (xs : List Arg) (i : ℕ) (values : List (Option Known)) (k : Knowledge) → Knows a u ns values k
    → ArgsWithin (length values) xs → Each IsPort (map (arg_text (naming a u)) xs) → Knows a u ns (args_given values i xs) (with_arguments k i (map (arg_text (naming a u)) xs))
args-known a u o h ns [] i values k d w p = d
args-known a u o h ns (x ∷ xs) i values k d w p =
    by (λ t e m. args-known a u o h ns xs (i + 1) (set values x.value.0 (Some (known.Part (whole_argument i t)))) _ m
    (subst (λ n. ArgsWithin n xs) (sym (length-set values x.value.0 (Some (known.Part (whole_argument i t))))) w.1) p.1) (carried x.ty) (ap carried p.0.1)
  where
    by : ((t : TypeTree) → IsData t → Knows a u ns (set values x.value.0 (Some (known.Part (whole_argument i t)))) (with_known k (value_text (naming a u) x.value) (known_part (whole_argument i t)))
        → Knows a u ns (args_given (set values x.value.0 (Some (known.Part (whole_argument i t)))) (i + 1) xs)
        (with_arguments (with_known k (value_text (naming a u) x.value) (known_part (whole_argument i t))) (i + 1) (map (arg_text (naming a u)) xs)))
        → (c : Option TypeTree) → c ≡ Some p.0.0
        → Knows a u ns (args_given (given values (Some x.value) (option_map (λ t. known.Part (whole_argument i t)) c)) (i + 1) xs)
        (with_arguments (with_given k (Some (value_text (naming a u) x.value)) (option_map (λ t. known_part (whole_argument i t)) c)) (i + 1) (map (arg_text (naming a u)) xs))
    by go None e = absurd (none-some p.0.0 e)
    by go (Some t) e =
        let carries : IsData t = subst IsData (sym (same_Some t p.0.0 e)) p.0.2 in
        go t carries (knows-more a u o h ns values k x.value (known.Part (whole_argument i t)) (known_part (whole_argument i t)) d w.0 (refl, small t carries))
