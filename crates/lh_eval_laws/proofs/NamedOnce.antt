-- Where no name stands twice, the type of a value is that of its argument or of its instruction.
use Rattle.std.proofs.Common.{◌≡◌, ℕ, List, [], ◌∷◌, ◌++◌, true, false, if◌then◌else◌, Some, refl, ap, sym, ◌∙◌, append_assoc}
use Rattle.std.specs.Option.{option_and_then, option_map}
use Rattle.std.proofs.lemmas.Bool.{or_parts}
use Rattle.lh_unit.specs.Contents.{LineText, BlockText, ArgText, UnitText, is_result_name, lines_define, args_define}
use Rattle.lh_unit_names.specs.Names.{same_name}
use Rattle.lh_unit.specs.Hierarchy.{lines_of}
use Rattle.lh_unit.specs.Reads.{args_repeat}
use Rattle.lh_unit.specs.Typing.{or_else, result_type, line_giving, inst_giving, arg_named, value_type}
use Rattle.lh_unit.specs.Within.{Each}
use Rattle.lh_unit.proofs.ById.{line_giving-append}
use Rattle.lh_unit_names.proofs.NameLists.{same_name-refl}
use Rattle.lh_verify_laws.proofs.ValuesLaw.{arg_none}
use Rattle.lh_text_laws.specs.Printable.{result_repeats, results_repeat}
use Rattle.lh_eval_laws.specs.Units.{HasItsType}

-- lines that do not define the name give nothing under it
past-lines : (n : List ℕ) (seen more : List LineText) → lines_define n seen ≡ false → line_giving n (seen ++ more) ≡ line_giving n more
past-lines n [] more h = refl
past-lines n (l ∷ seen) more h =
    let b = or_parts (is_result_name n l.result) (lines_define n seen) h in
    ap (λ x. if x then Some l.inst else line_giving n (seen ++ more)) b.0 ∙ past-lines n seen more b.1

past-args : (n : List ℕ) (seen more : List ArgText) → args_define n seen ≡ false → arg_named n (seen ++ more) ≡ arg_named n more
past-args n [] more h = refl
past-args n (a ∷ seen) more h =
    let b = or_parts (same_name a.name n) (args_define n seen) h in
    ap (λ x. if x then Some a else arg_named n (seen ++ more)) b.0 ∙ past-args n seen more b.1

-- the instruction that gives a value among the blocks, and among their lines
pub giving-lines : (n : List ℕ) (bs : List BlockText) → inst_giving n bs ≡ line_giving n (lines_of bs)
giving-lines n [] = refl
giving-lines n (b ∷ more) = ap (or_else (line_giving n b.lines)) (giving-lines n more) ∙ sym (line_giving-append n b.lines (lines_of more))

-- what a line gives under its name, where neither an argument nor an earlier line has it
abbrev pub IsFirst : List ArgText → (all : List LineText) → LineText → Type 0
IsFirst args all l = (n : List ℕ) → l.result ≡ Some n → (args_define n args ≡ false) × (line_giving n all ≡ Some l.inst)

pub each-first : (args : List ArgText) (all seen ls : List LineText) → all ≡ seen ++ ls → results_repeat args seen ls ≡ false → Each (IsFirst args all) ls
each-first args all seen [] e h = tt
each-first args all seen (l ∷ ls) e h =
    let b = or_parts (result_repeats args seen l.result) (results_repeat args (seen ++ l ∷ []) ls) h in (
      λ n r.
          let q = or_parts (args_define n args) (lines_define n seen) (sym (ap (result_repeats args seen) r) ∙ b.0) in
          let named : is_result_name n l.result ≡ true = ap (is_result_name n) r ∙ same_name-refl n in
          (q.0, ap (line_giving n) e ∙ past-lines n seen (l ∷ ls) q.1 ∙ ap (λ x. if x then Some l.inst else line_giving n ls) named),
      each-first args all (seen ++ l ∷ []) ls (e ∙ sym (append_assoc seen (l ∷ []) ls)) b.1,
    )

-- the type of the value that a line gives
abbrev pub GivesItsType : UnitText → LineText → Type 0
GivesItsType u l = (n : List ℕ) → l.result ≡ Some n → value_type u n ≡ result_type l.inst

typed-lines : (u : UnitText) (ls : List LineText) → Each (IsFirst u.args (lines_of u.blocks)) ls → Each (GivesItsType u) ls
typed-lines u [] e = tt
typed-lines u (l ∷ ls) e = (
  λ n r.
      let k = e.0 n r in
      ap (λ o. or_else (option_map (λ (a : ArgText). a.ty) o) (option_and_then result_type (inst_giving n u.blocks))) (arg_none n u.args k.0)
      ∙ ap (option_and_then result_type) (giving-lines n u.blocks ∙ k.1),
  typed-lines u ls e.1,
)

pub lines-typed : (u : UnitText) → results_repeat u.args [] (lines_of u.blocks) ≡ false → Each (GivesItsType u) (lines_of u.blocks)
lines-typed u h = typed-lines u (lines_of u.blocks) (each-first u.args (lines_of u.blocks) [] (lines_of u.blocks) refl h)

each-arg : (u : UnitText) (seen xs : List ArgText) → u.args ≡ seen ++ xs → args_repeat seen xs ≡ false → Each (HasItsType u) xs
each-arg u seen [] e h = tt
each-arg u seen (a ∷ xs) e h =
    let b = or_parts (args_define a.name seen) (args_repeat (seen ++ a ∷ []) xs) h in
    let found : arg_named a.name u.args ≡ Some a = ap (arg_named a.name) e ∙ past-args a.name seen (a ∷ xs) b.0 ∙ ap (λ x. if x then Some a else arg_named a.name xs) (same_name-refl a.name) in (
      ap (λ o. or_else (option_map (λ (x : ArgText). x.ty) o) (option_and_then result_type (inst_giving a.name u.blocks))) found,
      each-arg u (seen ++ a ∷ []) xs (e ∙ sym (append_assoc seen (a ∷ []) xs)) b.1,
    )

pub args-typed : (u : UnitText) → args_repeat [] u.args ≡ false → Each (HasItsType u) u.args
args-typed u h = each-arg u [] u.args refl h
