-- Arguments, one after another.
use Rattle.std.proofs.Common.{◌≡◌, ℕ, ◌+◌, ◌<◌, Bool, true, false, ◌||◌, List, [], ◌∷◌, ◌++◌, length, map, take, drop, get_or, Option, Some, None, Result, Ok, Err, IsSomeAnd, IsErrAnd, refl, ap, sym, ◌∙◌, subst, inr, arith, add-one}
use Rattle.std.specs.Prelude.{⊤}
use Rattle.std.proofs.Math.Seq.{take-suc}
use Rattle.std.proofs.lemmas.List.{map-append, take-append-drop}
use Rattle.std.proofs.Math.Bool.{or-true}
use Rattle.lh_types.specs.Types.{TypeTree}
use Rattle.lh_types.proofs.Tests.{some_once}
use Rattle.lh_unit.specs.Contents.{ArgText, UnitText, ItemText, unit_text, new_unit, last_unit, change_last, with_arg, with_result, defines_unit, defines_value}
use Rattle.lh_unit.specs.Spells.{TypedName}
use Rattle.lh_unit.specs.Arena.{Arena, Grows, OfOpen, IsOpen, contents, unit_count, unit_name_at, unit_text_at}
use Rattle.lh_unit.specs.Builders.{HasContents, FindsUnit, BeginsUnit, AddsArg, SetsResult}
use Rattle.lh_unit.specs.Reads.{headed_unit, args_repeat}
use Rattle.lh_unit.specs.declared.inst.UnitId.{UnitId}
use Rattle.lh_unit.specs.declared.inst.ValueId.{ValueId}
use Rattle.lh_unit_names.specs.declared.name.UnitName.{UnitName}
use Rattle.lh_unit.specs.declared.inst.UnitKind.{UnitKind}
use Rattle.lh_unit.specs.declared.inst.UnitKind.TheVariants as kind
use Rattle.lh_unit.specs.declared.inst.UnitFault.{UnitFault}
use Rattle.lh_unit.specs.declared.inst.UnitFault.TheVariants as fault
use Rattle.lh_read.specs.declared.faults.LineFault.{LineFault}
use Rattle.lh_read.specs.declared.faults.LineFault.TheVariants as line
use Rattle.lh_read.specs.FaultOf.{fault_of}
use Rattle.lh_read.specs.Mentions.{one_value, EachNamed, EntersOnly}
use Rattle.lh_read.specs.Placing.{ValuePlaced}
use Rattle.lh_read.specs.Building.{arg_of, UnitBegunOrFault, AddsArgs, Heads, with_args, args_again}
use Rattle.lh_read.proofs.NamedEntries.{named-changed, named-still, named-begun, with_arg-extends, with_result-extends, with_arg-names}
use Rattle.lh_read.proofs.LastUnit.{last_unit-is, last_unit-has, change_last-twice, change_last-none, with_args-none, with_args-push, with_args-both, args_again-push, args_again-both, args_again-repeat}
use Rattle.lh_unit.proofs.ContentsLemmas.{last_unit-push, change_last-push, new_unit-blocks, new_unit-args}
use Rattle.lh_unit.proofs.ModuleLaws.{last_unit-change_last}

-- the arguments so far are added
pub record At (old now : Arena) (u : UnitId) (done : List ArgText) : Type 0 where
  pub within : u.0 < unit_count now
  pub is_open : IsOpen now u
  pub says : contents now ≡ change_last (with_args done) (contents old)
  pub fresh : OfOpen old (λ t. args_again t done ≡ false)

pub At-start : (old : Arena) (u : UnitId) → u.0 < unit_count old → IsOpen old u → OfOpen old (λ _. ⊤) → At old old u []
At-start old u w o b =
    let t = last_unit-is (last_unit (contents old)) b in
    record {
      within = w;
      is_open = o;
      says = sym (change_last-none (with_args []) (contents old) t.0 t.1 (with_args-none t.0));
      fresh = last_unit-has (λ x. args_again x [] ≡ false) (last_unit (contents old)) t.0 t.1 refl;
    }

-- the unit to which the next argument is added
next_unit : (old now : Arena) (u : UnitId) (done : List ArgText) (P : UnitText → Type 0) → At old now u done → OfOpen now P → (t : UnitText) × (last_unit (contents old) ≡ Some t)
    × P (with_args done t) × (args_again t done ≡ false)
next_unit old now u done P a h =
    let t = last_unit-is (last_unit (contents old)) a.fresh in
    let e : last_unit (contents now) ≡ Some (with_args done t.0) = ap last_unit a.says ∙ last_unit-change_last (with_args done) (contents old) t.0 t.1 in
    (t.0, t.1, subst (λ o. IsSomeAnd o P) e h, t.2)

-- nothing but entries is new in mid
pub At-grown : (old now mid : Arena) (u : UnitId) (done : List ArgText) → At old now u done → Grows now mid → At old mid u done
At-grown old now mid u done a f = record {
  within = omega (arith, a.within, f.entries.units);
  is_open = f.open_stays u a.is_open;
  says = f.says ∙ a.says;
  fresh = a.fresh;
}

pub At-next : (old now new : Arena) (u : UnitId) (done : List ArgText) (a : ArgText) → At old now u done → OfOpen now (λ t. defines_value a.name t ≡ false)
    → HasContents now new u (change_last (with_arg a) (contents now))
    → At old new u (done ++ a ∷ [])
At-next old now new u done a w h s =
    let t = next_unit old now u done (λ t. defines_value a.name t ≡ false) w h in
    record {
      within = omega (arith, w.within, s.entries.units);
      is_open = s.is_open;
      says = s.says ∙ ap (change_last (with_arg a)) w.says ∙ change_last-twice (with_args done) (with_arg a) (with_args (done ++ a ∷ [])) (contents old) t.0 t.1 (with_args-push done a t.0);
      fresh = last_unit-has (λ x. args_again x (done ++ a ∷ []) ≡ false) (last_unit (contents old)) t.0 t.1
          (args_again-push done a t.0 ∙ ap (λ b. b || defines_value a.name (with_args done t.0)) t.3 ∙ t.2);
    }

-- an argument that is refused
pub At-again : (old now : Arena) (u : UnitId) (done : List ArgText) (a : ArgText) (more : List ArgText) → At old now u done → OfOpen now (λ t. defines_value a.name t ≡ true)
    → OfOpen old (λ t. args_again t ((done ++ a ∷ []) ++ more) ≡ true)
At-again old now u done a more w h =
    let t = next_unit old now u done (λ t. defines_value a.name t ≡ true) w h in
    last_unit-has (λ x. args_again x ((done ++ a ∷ []) ++ more) ≡ true) (last_unit (contents old)) t.0 t.1
    (args_again-both (done ++ a ∷ []) more t.0
    ∙ ap (λ b. b || args_again (with_args (done ++ a ∷ []) t.0) more) (args_again-push done a t.0 ∙ ap (λ b. args_again t.0 done || b) t.2 ∙ or-true (args_again t.0 done)))

-- the parameters up to the next one
pub done_next : (output : Bool) (ps : List TypedName) (i : ℕ) (p : TypedName) → i < length ps → p ≡ get_or ps i p → map (arg_of output) (take (i + 1) ps) ≡ map (arg_of output) (take i ps)
    ++ arg_of output p ∷ []
done_next output ps i p h e =
    ap (λ n. map (arg_of output) (take n ps)) (add-one i) ∙ ap (map (arg_of output)) (take-suc ps i p h) ∙ map-append (arg_of output) (take i ps) (get_or ps i p ∷ [])
    ∙ ap (λ q. map (arg_of output) (take i ps) ++ arg_of output q ∷ []) (sym e)

-- all parameters, as those up to the next one and the others
pub done_rest : (output : Bool) (ps : List TypedName) (i : ℕ) → map (arg_of output) ps ≡ map (arg_of output) (take i ps) ++ map (arg_of output) (drop i ps)
done_rest output ps i = ap (map (arg_of output)) (sym (take-append-drop i ps)) ∙ map-append (arg_of output) (take i ps) (drop i ps)

pub args-refused : (old mid new : Arena) (u : UnitId) (done : List ArgText) (a b : ArgText) (all more : List ArgText) (f : UnitFault) → At old mid u done → b ≡ a → all ≡ (done ++ a ∷ []) ++ more
    → AddsArg (Err f) mid new u b
    → AddsArgs (Err (fault_of f)) old new u all
args-refused old mid new u done a b all more fault.UnitTooLarge w e l h = absurd h
args-refused old mid new u done a b all more fault.DuplicateName w e l h =
    subst (λ xs. OfOpen old (λ t. args_again t xs ≡ true)) (sym l) (At-again old mid u done a more w (subst (λ x. OfOpen mid (λ t. defines_value x.name t ≡ true)) e h.0))
args-refused old mid new u done a b all more fault.OutOfMemory w e l h = tt

-- a fault that is passed on
pub adds-err : (r : Result (Unit {0}) LineFault) (f : LineFault) (old new : Arena) (u : UnitId) (args : List ArgText) → IsErrAnd r (λ e. e ≡ f) → AddsArgs (Err f) old new u args
    → AddsArgs r old new u args
adds-err (Ok x) f old new u args h w = absurd h
adds-err (Err e) f old new u args h w = subst (λ x. AddsArgs (Err x) old new u args) (sym h) w

-- arguments, and then more of them
pub adds-both : (r : Result (Unit {0}) LineFault) (old mid new : Arena) (u : UnitId) (xs ys : List ArgText) → AddsArgs (Ok tt) old mid u xs → AddsArgs r mid new u ys → AddsArgs r old new u (xs ++ ys)
adds-both (Ok _) old mid new u xs ys a b =
    let t = last_unit-is (last_unit (contents old)) a.0 in
    let v = last_unit-is (last_unit (contents mid)) b.0 in
    let e : last_unit (contents mid) ≡ Some (with_args xs t.0) = ap last_unit a.1 ∙ last_unit-change_last (with_args xs) (contents old) t.0 t.1 in
    let same : v.0 ≡ with_args xs t.0 = some_once (last_unit (contents mid)) v.0 (with_args xs t.0) v.1 e in (
      last_unit-has (λ x. args_again x (xs ++ ys) ≡ false) (last_unit (contents old)) t.0 t.1
          (args_again-both xs ys t.0 ∙ ap (λ b. b || args_again (with_args xs t.0) ys) t.2 ∙ ap (λ x. args_again x ys) (sym same) ∙ v.2),
      b.1 ∙ ap (change_last (with_args ys)) a.1 ∙ change_last-twice (with_args xs) (with_args ys) (with_args (xs ++ ys)) (contents old) t.0 t.1 (with_args-both xs ys t.0),
      b.2,
      b.3,
      λ e. b.4 (a.4 e),
    )
adds-both (Err line.DuplicateName) old mid new u xs ys a b =
    let t = last_unit-is (last_unit (contents old)) a.0 in
    let v = last_unit-is (last_unit (contents mid)) b in
    let e : last_unit (contents mid) ≡ Some (with_args xs t.0) = ap last_unit a.1 ∙ last_unit-change_last (with_args xs) (contents old) t.0 t.1 in
    let same : v.0 ≡ with_args xs t.0 = some_once (last_unit (contents mid)) v.0 (with_args xs t.0) v.1 e in
    last_unit-has (λ x. args_again x (xs ++ ys) ≡ true) (last_unit (contents old)) t.0 t.1
    (args_again-both xs ys t.0 ∙ ap (λ b. args_again t.0 xs || b) (ap (λ x. args_again x ys) (sym same) ∙ v.2) ∙ or-true (args_again t.0 xs))
adds-both (Err line.OutOfMemory) old mid new u xs ys a b = tt
adds-both (Err line.UnitTooLarge) old mid new u xs ys a b = absurd b
adds-both (Err line.Syntax) old mid new u xs ys a b = absurd b

pub adds-first : (e : LineFault) (old new : Arena) (u : UnitId) (xs ys : List ArgText) → AddsArgs (Err e) old new u xs → AddsArgs (Err e) old new u (xs ++ ys)
adds-first line.DuplicateName old new u xs ys a =
    let t = last_unit-is (last_unit (contents old)) a in
    last_unit-has (λ x. args_again x (xs ++ ys) ≡ true) (last_unit (contents old)) t.0 t.1 (args_again-both xs ys t.0 ∙ ap (λ b. b || args_again (with_args xs t.0) ys) t.2)
adds-first line.OutOfMemory old new u xs ys a = tt
adds-first line.UnitTooLarge old new u xs ys a = absurd a
adds-first line.Syntax old new u xs ys a = absurd a

-- there is still an open unit
pub adds-begun : (old new : Arena) (u : UnitId) (xs : List ArgText) → AddsArgs (Ok tt) old new u xs → OfOpen new (λ _. ⊤)
adds-begun old new u xs a =
    let t = last_unit-is (last_unit (contents old)) a.0 in
    last_unit-has (λ _. ⊤) (last_unit (contents new)) (with_args xs t.0) (ap last_unit a.1 ∙ last_unit-change_last (with_args xs) (contents old) t.0 t.1) tt

-- one more argument names what was entered for it
pub arg-named : (now mid new : Arena) (u : UnitId) (v : ValueId) (n : List ℕ) (g : ArgText) → g.name ≡ n → EachNamed now → ValuePlaced now mid u v n → IsOpen mid u
    → HasContents mid new u (change_last (with_arg g) (contents mid)) → EachNamed new
arg-named now mid new u v n g e named q o s =
    named-changed now mid new u (one_value g.name) (with_arg g) (with_arg-extends g) named q.grows (subst (λ x. EntersOnly (one_value x) now mid u.0) (sym e) q.only) o s
    (λ m h. with_arg-names g (unit_text_at mid u.0) m h)

-- a unit whose entry was found or made is begun
pub unit-begun : (old now new : Arena) (u : UnitId) (n : UnitName) (k : UnitKind) → FindsUnit (Ok u) old now n → BeginsUnit (Ok tt) now new u k → UnitBegunOrFault (Ok u) old new n k
unit-begun old now new u n k f h = (
  ap (defines_unit n) (sym f.0.grows.says) ∙ ap (λ x. defines_unit x (contents now)) (sym f.2) ∙ h.0,
  h.1.says ∙ ap (λ items. items ++ unit_text (new_unit (unit_name_at now u.0) k) ∷ []) f.0.grows.says ∙ ap (λ x. contents old ++ unit_text (new_unit x k) ∷ []) f.2,
  h.1.is_open,
  omega (arith, f.1, h.1.entries.units),
  named-begun old now new u n k f h.1,
)

-- the unit that was just begun
begun_unit : (items : List ItemText) (x t : UnitText) → last_unit (items ++ unit_text x ∷ []) ≡ Some t → t ≡ x
begun_unit items x t e = some_once (last_unit (items ++ unit_text x ∷ [])) t x e (last_unit-push items x)

pub begun-open : (u : UnitId) (old new : Arena) (n : UnitName) (k : UnitKind) → UnitBegunOrFault (Ok u) old new n k → OfOpen new (λ _. ⊤)
begun-open u old new n k b = last_unit-has (λ _. ⊤) (last_unit (contents new)) (new_unit n k) (ap last_unit b.1 ∙ last_unit-push (contents old) (new_unit n k)) tt

-- what holds of the unit that was just begun
of_begun : (u : UnitId) (old mid : Arena) (n : UnitName) (k : UnitKind) (P : UnitText → Type 0) → UnitBegunOrFault (Ok u) old mid n k → OfOpen mid P → P (new_unit n k)
of_begun u old mid n k P b h =
    let t = last_unit-is (last_unit (contents mid)) h in
    subst P (begun_unit (contents old) (new_unit n k) t.0 (ap last_unit (sym b.1) ∙ t.1)) t.2

repeats : (n : UnitName) (k : UnitKind) (args : List ArgText) → args_again (new_unit n k) args ≡ args_repeat [] args
repeats n k args = args_again-repeat args (new_unit n k) (new_unit-blocks n k) ∙ ap (λ seen. args_repeat seen args) (new_unit-args n k)

headed : (n : UnitName) (k : UnitKind) (args : List ArgText) → with_args args (new_unit n k) ≡ headed_unit k n args None
headed n kind.Func args = refl
headed n kind.Proc args = refl
headed n kind.Entity args = refl

-- what is said once the arguments are added
args_said : (u : UnitId) (old mid new : Arena) (n : UnitName) (k : UnitKind) (args : List ArgText) → UnitBegunOrFault (Ok u) old mid n k → AddsArgs (Ok tt) mid new u args
    → contents new ≡ contents old ++ unit_text (with_args args (new_unit n k)) ∷ []
args_said u old mid new n k args b a = a.1 ∙ ap (change_last (with_args args)) b.1 ∙ change_last-push (with_args args) (contents old) (new_unit n k)

fresh_args : (u : UnitId) (old mid new : Arena) (n : UnitName) (k : UnitKind) (args : List ArgText) → UnitBegunOrFault (Ok u) old mid n k → AddsArgs (Ok tt) mid new u args
    → args_repeat [] args ≡ false
fresh_args u old mid new n k args b a = sym (repeats n k args) ∙ of_begun u old mid n k (λ t. args_again t args ≡ false) b a.0

pub heads-ok : (u : UnitId) (old mid new : Arena) (n : UnitName) (k : UnitKind) (args : List ArgText) → UnitBegunOrFault (Ok u) old mid n k → AddsArgs (Ok tt) mid new u args
    → Heads (Ok u) old new n k args None
heads-ok u old mid new n k args b a = (
  b.0,
  fresh_args u old mid new n k args b a,
  args_said u old mid new n k args b a ∙ ap (λ t. contents old ++ unit_text t ∷ []) (headed n k args),
  a.2,
  a.3,
  λ e. a.4 (b.4 e),
)

-- a function has its result from then on
pub is_function : (u : UnitId) (old mid new : Arena) (n : UnitName) (args : List ArgText) → UnitBegunOrFault (Ok u) old mid n kind.Func → AddsArgs (Ok tt) mid new u args
    → OfOpen new (λ t. t.kind ≡ kind.Func)
is_function u old mid new n args b a =
    last_unit-has (λ t. t.kind ≡ kind.Func) (last_unit (contents new)) (with_args args (new_unit n kind.Func))
    (ap last_unit (args_said u old mid new n kind.Func args b a) ∙ last_unit-push (contents old) (with_args args (new_unit n kind.Func))) refl

pub heads-function : (u : UnitId) (old mid now new : Arena) (n : UnitName) (args : List ArgText) (ty : TypeTree) → UnitBegunOrFault (Ok u) old mid n kind.Func → AddsArgs (Ok tt) mid now u args
    → SetsResult now new u ty
    → Heads (Ok u) old new n kind.Func args (Some ty)
heads-function u old mid now new n args ty b a s = (
  b.0,
  fresh_args u old mid now n kind.Func args b a,
  s.says ∙ ap (change_last (with_result ty)) (args_said u old mid now n kind.Func args b a) ∙ change_last-push (with_result ty) (contents old) (with_args args (new_unit n kind.Func)),
  s.is_open,
  omega (arith, a.3, s.entries.units),
  λ e. named-still now new u (with_result ty) (with_result-extends ty) a.2 s (a.4 (b.4 e)),
)

pub heads-err : (e : LineFault) (u : UnitId) (old mid new after : Arena) (n : UnitName) (k : UnitKind) (args : List ArgText) (r : Option TypeTree) → UnitBegunOrFault (Ok u) old mid n k
    → AddsArgs (Err e) mid new u args
    → Heads (Err e) old after n k args r
heads-err line.DuplicateName u old mid new after n k args r b a = inr (sym (repeats n k args) ∙ of_begun u old mid n k (λ t. args_again t args ≡ true) b a)
heads-err line.OutOfMemory u old mid new after n k args r b a = tt
heads-err line.UnitTooLarge u old mid new after n k args r b a = absurd a
heads-err line.Syntax u old mid new after n k args r b a = absurd a

pub heads-passed : (o : Result UnitId LineFault) (e : LineFault) (old new : Arena) (n : UnitName) (k : UnitKind) (args : List ArgText) (r : Option TypeTree) → IsErrAnd o (λ x. x ≡ e)
    → Heads (Err e) old new n k args r → Heads o old new n k args r
heads-passed (Ok x) e old new n k args r h w = absurd h
heads-passed (Err x) e old new n k args r h w = subst (λ y. Heads (Err y) old new n k args r) (sym h) w
