-- What is defined by names is what is defined by ids.
use Rattle.std.proofs.Common.{◌≡◌, ℕ, ◌+◌, ◌<◌, suc, ◌||◌, nat_eq, List, [], ◌∷◌, ◌++◌, length, map, get_or, Option, Some, None, refl, ap, sym, ◌∙◌, arith, length-append}
use Rattle.std.proofs.lemmas.List.{length-map}
use Rattle.std.proofs.lemmas.Option.{slice_get-get_or}
use Rattle.lh_unit.specs.Contents.{LineText, BlockText, is_result_name, lines_define, blocks_define, args_define, defines_value, defines_label_in, defines_label, line_count}
use Rattle.lh_unit_names.specs.Names.{same_name}
use Rattle.lh_unit.specs.Table.{Table, IsTable, FitsKind, HasBlocks, ArgsWithin, BlocksWithin, ResultWithin, ResultsWithin, is_arg, is_result, is_made, is_defined, is_block, result_defined, line_at, no_line, insts_at, flat, ids_from}
use Rattle.lh_unit_names.specs.Distinct.{AllDistinct}
use Rattle.lh_unit.specs.Naming.{Naming, naming_of, maybe_text, line_text, arg_text, label_text, block_text, table_text}
use Rattle.lh_unit.specs.Builders.{defines_result}
use Rattle.lh_unit_names.specs.declared.name.UnitName.{UnitName}
use Rattle.lh_unit.specs.declared.inst.UnitKind.{UnitKind}
use Rattle.lh_unit.specs.declared.inst.UnitKind.TheVariants as kind
use Rattle.lh_unit.specs.declared.inst.BlockId.{BlockId}
use Rattle.lh_unit.specs.declared.inst.InstId.{InstId}
use Rattle.lh_unit.specs.declared.inst.ValueId.{ValueId}
use Rattle.lh_unit.specs.declared.inst.Arg.{Arg}
use Rattle.lh_unit.specs.declared.table.TableLine.{TableLine}
use Rattle.lh_unit.proofs.Lists.{Same, same, other, same_or, nat_eq-refl, nat_eq-other, or-assoc, not_true, map-map, map-flat}
use Rattle.lh_unit_names.proofs.NameLists.{same_name-is, same_name-refl}

-- where no name stands twice, two ids are one exactly where their names are
pub same_name-ids : (ns : List (List ℕ)) (i j : ℕ) → AllDistinct ns → i < length ns → j < length ns → same_name (get_or ns i []) (get_or ns j []) ≡ nat_eq i j
same_name-ids ns i j d h g = by (same_or i j)
  where
    by : Same i j → same_name (get_or ns i []) (get_or ns j []) ≡ nat_eq i j
    by (same e) = ap (λ k. same_name (get_or ns k []) (get_or ns j [])) e ∙ same_name-refl (get_or ns j []) ∙ sym (ap (λ k. nat_eq k j) e ∙ nat_eq-refl j)
    by (other e) = not_true (same_name (get_or ns i []) (get_or ns j [])) (λ p. e (d i j (get_or ns j [])
        (slice_get-get_or ns i [] h ∙ ap Some (same_name-is (get_or ns i []) (get_or ns j []) p)) (slice_get-get_or ns j [] g))) ∙ sym (nat_eq-other i j e)

module _ (units : ℕ → UnitName) (t : Table) (o : IsTable t) where
  names : Naming
  names = naming_of units t

  name : ℕ → List ℕ
  name v = get_or t.values v []

  pub arg-ids : (v : ℕ) (xs : List Arg) → v < length t.values → ArgsWithin (length t.values) xs → args_define (get_or t.values v []) (map (arg_text (naming_of units t)) xs) ≡ is_arg xs v
  arg-ids v [] h w = refl
  arg-ids v (a ∷ xs) h w =
      let p : same_name (get_or t.values a.value.0 []) (get_or t.values v []) ≡ nat_eq a.value.0 v = same_name-ids t.values a.value.0 v o.values_distinct w.0 h in
      let r : args_define (get_or t.values v []) (map (arg_text (naming_of units t)) xs) ≡ is_arg xs v = arg-ids v xs h w.1 in λ i. p i || r i

  pub result-ids : (v : ℕ) (r : Option ValueId) → v < length t.values → ResultWithin (length t.values) r → is_result_name (get_or t.values v []) (maybe_text (naming_of units t) r) ≡ is_result r v
  result-ids v None h w = refl
  result-ids v (Some x) h w = same_name-ids t.values x.0 v o.values_distinct w h

  pub line-ids : (v : ℕ) (ls : List TableLine) → v < length t.values → ResultsWithin (length t.values) ls → lines_define (get_or t.values v []) (map (line_text (naming_of units t)) ls) ≡ is_made ls v
  line-ids v [] h w = refl
  line-ids v (l ∷ ls) h w =
      let p : is_result_name (get_or t.values v []) (maybe_text (naming_of units t) l.result) ≡ is_result l.result v = result-ids v l.result h w.0 in
      let r : lines_define (get_or t.values v []) (map (line_text (naming_of units t)) ls) ≡ is_made ls v = line-ids v ls h w.1 in λ i. p i || r i

-- the lines of a unit's blocks are its instructions in file order
lines_by_id : {Y : Type 0} (g : TableLine → Y) (all : List TableLine) (k : ℕ) (ls : List TableLine) → ((j : ℕ) → j < length ls → get_or all (k + j) no_line ≡ get_or ls j no_line)
    → map (λ (i : InstId). g (get_or all i.0 no_line)) (ids_from k ls) ≡ map g ls
lines_by_id g all k [] h = refl
lines_by_id g all k (l ∷ ls) h =
    let n : k ≡ k + 0 = omega arith in
    let p : get_or all k no_line ≡ l = ap (λ m. get_or all m no_line) n ∙ h 0 (omega arith) in
    let r : map (λ (i : InstId). g (get_or all i.0 no_line)) (ids_from (k + 1) ls) ≡ map g ls =
    lines_by_id g all (k + 1) ls (λ j w. let m : k + 1 + j ≡ k + suc j = omega arith in ap (λ x. get_or all x no_line) m ∙ h (suc j) (omega (arith, w))) in
    λ i. g (p i) ∷ r i

pub flat_lines : (f : Naming) (t : Table) → IsTable t → flat (map (λ (b : BlockText). b.lines) (map (block_text f t) t.blocks)) ≡ map (line_text f) t.lines
flat_lines f t o =
    ap flat (map-map (λ (b : BlockText). b.lines) (block_text f t) t.blocks)
    ∙ ap flat (sym (map-map (map (λ (i : InstId). line_text f (line_at t i.0))) (λ (b : BlockId). insts_at t b.0) t.blocks))
    ∙ sym (map-flat (λ (i : InstId). line_text f (line_at t i.0)) (map (λ (b : BlockId). insts_at t b.0) t.blocks))
    ∙ ap (map (λ (i : InstId). line_text f (line_at t i.0))) o.in_order
    ∙ lines_by_id (line_text f) t.lines 0 t.lines (λ j w. let m : 0 + j ≡ j = omega arith in ap (λ x. get_or t.lines x no_line) m)

pub lines_define-append : (n : List ℕ) (xs ys : List LineText) → lines_define n (xs ++ ys) ≡ (lines_define n xs || lines_define n ys)
lines_define-append n [] ys = refl
lines_define-append n (x ∷ xs) ys = ap (λ b. is_result_name n x.result || b) (lines_define-append n xs ys) ∙ sym (or-assoc (is_result_name n x.result) (lines_define n xs) (lines_define n ys))

pub blocks_define-flat : (n : List ℕ) (bs : List BlockText) → blocks_define n bs ≡ lines_define n (flat (map (λ (b : BlockText). b.lines) bs))
blocks_define-flat n [] = refl
blocks_define-flat n (b ∷ bs) = ap (λ c. lines_define n b.lines || c) (blocks_define-flat n bs) ∙ sym (lines_define-append n b.lines (flat (map (λ (x : BlockText). x.lines) bs)))

line_count-flat : (bs : List BlockText) → line_count bs ≡ length (flat (map (λ (b : BlockText). b.lines) bs))
line_count-flat [] = refl
line_count-flat (b ∷ bs) = ap (λ c. length b.lines + c) (line_count-flat bs) ∙ sym (length-append b.lines (flat (map (λ (x : BlockText). x.lines) bs)))

-- the instructions of a unit by its text
pub line_count-ids : (f : Naming) (n : UnitName) (t : Table) → IsTable t → line_count (table_text f n t).blocks ≡ length t.lines
line_count-ids f n t o = line_count-flat (map (block_text f t) t.blocks) ∙ ap (λ l. length l) (flat_lines f t o) ∙ length-map t.lines (line_text f)

-- a value that the text defines
pub defines_value-ids : (units : ℕ → UnitName) (n : UnitName) (t : Table) (v : ℕ) → IsTable t → v < length t.values → defines_value (get_or t.values v []) (table_text (naming_of units t) n t)
    ≡ is_defined t v
defines_value-ids units n t v o h =
    let p : args_define (get_or t.values v []) (map (arg_text (naming_of units t)) t.args) ≡ is_arg t.args v = arg-ids units t o v t.args h o.args_within in
    let q : blocks_define (get_or t.values v []) (map (block_text (naming_of units t) t) t.blocks) ≡ is_made t.lines v =
    blocks_define-flat (get_or t.values v []) (map (block_text (naming_of units t) t) t.blocks) ∙ ap (lines_define (get_or t.values v [])) (flat_lines (naming_of units t) t o)
    ∙ line-ids units t o v t.lines h o.results_within in
    λ i. p i || q i

pub defines_result-ids : (units : ℕ → UnitName) (n : UnitName) (t : Table) (r : Option ValueId) → IsTable t → ResultWithin (length t.values) r
    → defines_result (maybe_text (naming_of units t) r) (table_text (naming_of units t) n t) ≡ result_defined t r
defines_result-ids units n t None o h = refl
defines_result-ids units n t (Some v) o h = defines_value-ids units n t v.0 o h

-- a label that the text defines
pub label_text-named : (f : Naming) (k : Option UnitKind) (b : BlockId) → HasBlocks k → label_text f k b ≡ Some (f.label_name b.0)
label_text-named f None b h = absurd h
label_text-named f (Some kind.Func) b h = refl
label_text-named f (Some kind.Proc) b h = refl
label_text-named f (Some kind.Entity) b h = absurd h

pub blocks-within : (k : Option UnitKind) (t : Table) → HasBlocks k → FitsKind k t → BlocksWithin (length t.labels) t.blocks
blocks-within None t h f = absurd h
blocks-within (Some kind.Func) t h f = f.1
blocks-within (Some kind.Proc) t h f = f.1
blocks-within (Some kind.Entity) t h f = absurd h

pub defines_label-ids : (units : ℕ → UnitName) (n : UnitName) (t : Table) (b : ℕ) → IsTable t → HasBlocks t.kind → b < length t.labels
    → defines_label (get_or t.labels b []) (table_text (naming_of units t) n t) ≡ is_block t.blocks b
defines_label-ids units n t b o h w = by t.blocks (blocks-within t.kind t h o.fits_kind)
  where
    f : Naming
    f = naming_of units t

    by : (bs : List BlockId) → BlocksWithin (length t.labels) bs → defines_label_in (get_or t.labels b []) (map (block_text (naming_of units t) t) bs) ≡ is_block bs b
    by [] v = refl
    by (x ∷ bs) v =
        let p : is_result_name (get_or t.labels b []) (label_text (naming_of units t) t.kind x) ≡ nat_eq x.0 b =
        ap (is_result_name (get_or t.labels b [])) (label_text-named (naming_of units t) t.kind x h) ∙ same_name-ids t.labels x.0 b o.labels_distinct v.0 w in
        let r : defines_label_in (get_or t.labels b []) (map (block_text (naming_of units t) t) bs) ≡ is_block bs b = by bs v.1 in λ i. p i || r i
