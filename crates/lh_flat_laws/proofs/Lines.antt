-- Lines of pieces: what they define and where the last of them leads.
use Rattle.std.proofs.Common.{◌≡◌, ◌⊎◌, ◌||◌, ℕ, List, [], ◌∷◌, ◌++◌, map, true, false, Option, Some, None, option_map, refl, ap, sym, ◌∙◌, inl, inr}
use Rattle.std.specs.List.{list_any}
use Rattle.std.proofs.lemmas.Bool.{or_cases, or_left, or_right}
use Rattle.lh_unit.specs.Contents.{OperandText, InstText, const_text, pure_text, var_text, ld_text, st_text, sig_text, prb_text, drv_text, reg_text, child_text, call_text, phi_text, br_text, branch_text, wait_text, halt_text, ret_text, LineText, UnitText, is_result_name, lines_define}
use Rattle.lh_unit_names.specs.Names.{same_name}
use Rattle.lh_unit.specs.Places.{leads_to, last_leads_to}
use Rattle.lh_unit_names.proofs.NameLists.{same_name-is, same_name-refl}
use Rattle.lh_verify_laws.proofs.There.{last-leads}
use Rattle.lh_flat.specs.Copies.{Copy, first_piece, copied, copied_line}
use Rattle.lh_flat.specs.Flat.{MergeText, with_merge}
use Rattle.lh_flat_laws.specs.Members.{Among}

-- ---- what lines define

pub define-parts : (n : List ℕ) (xs ys : List LineText) → lines_define n (xs ++ ys) ≡ true → (lines_define n xs ≡ true) ⊎ (lines_define n ys ≡ true)
define-parts n [] ys h = inr h
define-parts n (x ∷ xs) ys h = first-or (or_cases (is_result_name n x.result) (lines_define n (xs ++ ys)) h) (define-parts n xs ys)
  where
    first-or : ((is_result_name n x.result ≡ true) ⊎ (lines_define n (xs ++ ys) ≡ true)) → (lines_define n (xs ++ ys) ≡ true → (lines_define n xs ≡ true) ⊎ (lines_define n ys ≡ true))
        → (lines_define n (x ∷ xs) ≡ true) ⊎ (lines_define n ys ≡ true)
    first-or (inl e) more = inl (or_left (is_result_name n x.result) (lines_define n xs) e)
    first-or (inr e) more = later (more e)
      where
        later : ((lines_define n xs ≡ true) ⊎ (lines_define n ys ≡ true)) → (lines_define n (x ∷ xs) ≡ true) ⊎ (lines_define n ys ≡ true)
        later (inl f) = inl (or_right (is_result_name n x.result) (lines_define n xs) f)
        later (inr f) = inr f

pub define-right : (n : List ℕ) (xs ys : List LineText) → lines_define n ys ≡ true → lines_define n (xs ++ ys) ≡ true
define-right n [] ys h = h
define-right n (x ∷ xs) ys h = or_right (is_result_name n x.result) (lines_define n (xs ++ ys)) (define-right n xs ys h)

-- a result of a line is that of its copy under the new name
pub result-copied : (c : Copy) (n : List ℕ) (r : Option (List ℕ)) → is_result_name n r ≡ true → is_result_name (c.value n) (option_map c.value r) ≡ true
result-copied c n (Some r) h = let e : r ≡ n = same_name-is r n h in ap (λ m. same_name (c.value r) (c.value m)) (sym e) ∙ same_name-refl (c.value r)
result-copied c n None h = cc

pub define-copied : (fs : List UnitText) (c : Copy) (n : List ℕ) (ls : List LineText) → lines_define n ls ≡ true → lines_define (c.value n) (map (copied_line fs c) ls) ≡ true
define-copied fs c n [] h = cc
define-copied fs c n (l ∷ more) h = by (or_cases (is_result_name n l.result) (lines_define n more) h) (define-copied fs c n more)
  where
    by : ((is_result_name n l.result ≡ true) ⊎ (lines_define n more ≡ true)) → (lines_define n more ≡ true → lines_define (c.value n) (map (copied_line fs c) more) ≡ true)
        → is_result_name (c.value n) (option_map c.value l.result) || lines_define (c.value n) (map (copied_line fs c) more) ≡ true
    by (inl e) rest = or_left (is_result_name (c.value n) (option_map c.value l.result)) (lines_define (c.value n) (map (copied_line fs c) more)) (result-copied c n l.result e)
    by (inr e) rest = or_right (is_result_name (c.value n) (option_map c.value l.result)) (lines_define (c.value n) (map (copied_line fs c) more)) (rest e)

-- what a merge or the lines define, the lines with it do
pub merge-defines : (n : List ℕ) (m : Option MergeText) (ls : List LineText) → lines_define n (with_merge m []) ≡ true → lines_define n (with_merge m ls) ≡ true
merge-defines n None ls h = cc
merge-defines n (Some m) ls h = pass (or_cases (is_result_name n (Some m.value)) false h)
  where
    pass : ((is_result_name n (Some m.value) ≡ true) ⊎ (false ≡ true)) → is_result_name n (Some m.value) || lines_define n ls ≡ true
    pass (inl e) = or_left (is_result_name n (Some m.value)) (lines_define n ls) e
    pass (inr e) = cc

pub lines-define : (n : List ℕ) (m : Option MergeText) (ls : List LineText) → lines_define n ls ≡ true → lines_define n (with_merge m ls) ≡ true
lines-define n None ls h = h
lines-define n (Some m) ls h = or_right (is_result_name n (Some m.value)) (lines_define n ls) h

-- ---- where the last line leads

pub merge-leads : (m : Option MergeText) (xs : List LineText) (l : LineText) → last_leads_to (with_merge m (xs ++ l ∷ [])) ≡ leads_to l.inst
merge-leads None xs l = last-leads xs l
merge-leads (Some m) xs l = last-leads (record { result = Some m.value; inst = phi_text m.ty m.edges } ∷ xs) l

pub merge-ends : (m : Option MergeText) → last_leads_to (with_merge m []) ≡ []
merge-ends None = refl
merge-ends (Some m) = refl

-- lines are none, or some and a last one
pub data LastOf : List LineText → Type 0 where
  no_last : LastOf []
  last_is : (xs : List LineText) (l : LineText) → LastOf (xs ++ l ∷ [])

pub last-of : (ls : List LineText) → LastOf ls
last-of [] = no_last
last-of (l ∷ more) = behind (last-of more)
  where
    behind : {ls : List LineText} → LastOf ls → LastOf (l ∷ ls)
    behind no_last = last_is [] l
    behind (last_is xs k) = last_is (l ∷ xs) k

-- an instruction of a copy leads to the first piece of a block to which the original leads, or goes back behind the call
pub data Leads (c : Copy) (i : InstText) (m : List ℕ) : Type 0 where
  within : (to : List ℕ) → Among to (leads_to i) → m ≡ first_piece c to → Leads c i m
  back : (o : Option OperandText) → i ≡ ret_text o → m ≡ c.path → Leads c i m

pub leads-copied : (fs : List UnitText) (c : Copy) (i : InstText) (m : List ℕ) → list_any (λ x. same_name x m) (leads_to (copied fs c i)) ≡ true → Leads c i m
leads-copied fs c (br_text to) m h = one (or_cases (same_name (first_piece c to) m) false h)
  where
    one : ((same_name (first_piece c to) m ≡ true) ⊎ (false ≡ true)) → Leads c (br_text to) m
    one (inl e) = within to (inl refl) (sym (same_name-is (first_piece c to) m e))
    one (inr e) = cc
leads-copied fs c (branch_text cond x y) m h = two (or_cases (same_name (first_piece c x) m) (same_name (first_piece c y) m || false) h)
  where
    two : ((same_name (first_piece c x) m ≡ true) ⊎ (same_name (first_piece c y) m || false ≡ true)) → Leads c (branch_text cond x y) m
    two (inl e) = within x (inl refl) (sym (same_name-is (first_piece c x) m e))
    two (inr e) = second (or_cases (same_name (first_piece c y) m) false e)
      where
        second : ((same_name (first_piece c y) m ≡ true) ⊎ (false ≡ true)) → Leads c (branch_text cond x y) m
        second (inl f) = within y (inr (inl refl)) (sym (same_name-is (first_piece c y) m f))
        second (inr f) = cc
leads-copied fs c (wait_text to after signals) m h = one (or_cases (same_name (first_piece c to) m) false h)
  where
    one : ((same_name (first_piece c to) m ≡ true) ⊎ (false ≡ true)) → Leads c (wait_text to after signals) m
    one (inl e) = within to (inl refl) (sym (same_name-is (first_piece c to) m e))
    one (inr e) = cc
leads-copied fs c (ret_text o) m h = one (or_cases (same_name c.path m) false h)
  where
    one : ((same_name c.path m ≡ true) ⊎ (false ≡ true)) → Leads c (ret_text o) m
    one (inl e) = back o refl (sym (same_name-is c.path m e))
    one (inr e) = cc
leads-copied fs c (const_text d) m h = cc
leads-copied fs c (pure_text op args) m h = cc
leads-copied fs c (var_text a) m h = cc
leads-copied fs c (ld_text p) m h = cc
leads-copied fs c (st_text to value) m h = cc
leads-copied fs c (sig_text a) m h = cc
leads-copied fs c (prb_text s) m h = cc
leads-copied fs c (drv_text to value after cond) m h = cc
leads-copied fs c (reg_text to triggers) m h = cc
leads-copied fs c (child_text u inputs outputs) m h = cc
leads-copied fs c (call_text f result args) m h = cc
leads-copied fs c (phi_text ty edges) m h = cc
leads-copied fs c halt_text m h = cc
