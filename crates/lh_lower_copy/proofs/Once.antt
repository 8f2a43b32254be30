-- Where no name stands twice, the parts of a unit can be added one after another, and give the unit.
use Rattle.std.proofs.Common.{◌≡◌, ℕ, ◌+◌, ◌<◌, ◌≤◌, false, ◌||◌, List, [], ◌∷◌, ◌++◌, length, Option, Some, None, IsSome, refl, ap, sym, ◌∙◌, subst, arith, length-append, append_assoc, append-nil}
use Rattle.std.proofs.lemmas.Bool.{or_parts}
use Rattle.lh_types.specs.Types.{TypeTree}
use Rattle.lh_unit.specs.Contents.{UnitText, BlockText, LineText, ArgText, new_unit, with_arg, with_line, with_block, line_at_end, line_count, args_define, blocks_define}
use Rattle.lh_unit.specs.Builders.{HasLabels, defines_result}
use Rattle.lh_unit.specs.Reads.{args_repeat}
use Rattle.lh_unit.specs.Within.{Each}
use Rattle.lh_unit.specs.Hierarchy.{lines_of}
use Rattle.lh_unit_names.specs.declared.name.UnitName.{UnitName}
use Rattle.lh_unit.specs.declared.inst.UnitKind.{UnitKind}
use Rattle.lh_unit.specs.declared.inst.UnitKind.TheVariants as kind
use Rattle.lh_unit.proofs.ModuleLaws.{length-line_at_end}
use Rattle.lh_unit.proofs.ContentsLemmas.{new_unit-blocks, new_unit-args, line_at_end-push}
use Rattle.lh_text_laws.specs.Printable.{result_repeats, results_repeat, label_repeats, labels_repeat}
use Rattle.lh_text_laws.proofs.PrintableUnits.{blocks_define-lines, lines_of-last, line_count-last, results-split}
use Rattle.lh_lower_copy.specs.Changing.{with_args, with_lines, with_blocks, with_type}
use Rattle.lh_lower_copy.specs.Fitting.{ArgsFit, LinesFit, LabelFits, BlocksFit}
use Rattle.lh_lower_copy.specs.Kept.{TypeFits}
use Rattle.lh_lower_copy.specs.Copying.{IsOnce, headed}

-- ---- arguments

args-fit : (t : UnitText) (xs : List ArgText) → ((n : List ℕ) → blocks_define n t.blocks ≡ false) → args_repeat t.args xs ≡ false → ArgsFit t xs
args-fit t [] h e = tt
args-fit t (a ∷ xs) h e =
    let p = or_parts (args_define a.name t.args) (args_repeat (t.args ++ a ∷ []) xs) e in
    (ap (λ b. b || blocks_define a.name t.blocks) p.0 ∙ h a.name, args-fit (with_arg a t) xs h p.1)

with_args-is : (xs : List ArgText) (t : UnitText) → with_args xs t ≡ record t { args = t.args ++ xs }
with_args-is [] t = sym (λ i. record t { args = append-nil t.args i })
with_args-is (a ∷ xs) t = with_args-is xs (with_arg a t) ∙ (λ i. record t { args = append_assoc t.args (a ∷ []) xs i })

pub new-args : (n : UnitName) (k : UnitKind) (xs : List ArgText) → args_repeat [] xs ≡ false → ArgsFit (new_unit n k) xs
new-args n k xs e = args-fit (new_unit n k) xs (new_unit-blocks n k) (ap (λ seen. args_repeat seen xs) (new_unit-args n k) ∙ e)

-- ---- instructions

lines_of-end : (l : LineText) (bs : List BlockText) → 0 < length bs → lines_of (line_at_end l bs) ≡ lines_of bs ++ l ∷ []
lines_of-end l [] h = absurd (omega arith)
lines_of-end l (b ∷ []) h = append-nil (b.lines ++ l ∷ []) ∙ ap (λ q. q ++ l ∷ []) (sym (append-nil b.lines))
lines_of-end l (b ∷ c ∷ bs) h = ap (λ q. b.lines ++ q) (lines_of-end l (c ∷ bs) (omega arith)) ∙ sym (append_assoc b.lines (lines_of (c ∷ bs)) (l ∷ []))

line_count-end : (l : LineText) (bs : List BlockText) → 0 < length bs → line_count (line_at_end l bs) ≡ line_count bs + 1
line_count-end l [] h = absurd (omega arith)
line_count-end l (b ∷ []) h = omega (arith, length-append b.lines (l ∷ []))
line_count-end l (b ∷ c ∷ bs) h = let e : line_count (line_at_end l (c ∷ bs)) ≡ line_count (c ∷ bs) + 1 = line_count-end l (c ∷ bs) (omega arith) in omega (arith, e)

new-result : (t : UnitText) (r : Option (List ℕ)) → result_repeats t.args (lines_of t.blocks) r ≡ false → defines_result r t ≡ false
new-result t None h = refl
new-result t (Some n) h = ap (λ q. args_define n t.args || q) (blocks_define-lines n t.blocks) ∙ h

lines-fit : (t : UnitText) (ls : List LineText) → 0 < length t.blocks → results_repeat t.args (lines_of t.blocks) ls ≡ false → line_count t.blocks + length ls ≤ 65536 → LinesFit t ls
lines-fit t [] b e f = tt
lines-fit t (l ∷ ls) b e f =
    let p = or_parts (result_repeats t.args (lines_of t.blocks) l.result) (results_repeat t.args (lines_of t.blocks ++ l ∷ []) ls) e in
    let n : 0 < length (line_at_end l t.blocks) = omega (arith, b, length-line_at_end l t.blocks) in
    let c : line_count (line_at_end l t.blocks) ≡ line_count t.blocks + 1 = line_count-end l t.blocks b in (
      b,
      record { small = omega (arith, f); undefined = new-result t l.result p.0 },
      lines-fit (with_line l t) ls n (subst (λ q. results_repeat t.args q ls ≡ false) (sym (lines_of-end l t.blocks b)) p.1) (omega (arith, c, f)),
    )

-- lines at the end of blocks
abbrev ends : List LineText → List BlockText → List BlockText
ends [] bs = bs
ends (l ∷ ls) bs = ends ls (line_at_end l bs)

with_lines-is : (ls : List LineText) (t : UnitText) → with_lines ls t ≡ record t { blocks = ends ls t.blocks }
with_lines-is [] t = refl
with_lines-is (l ∷ ls) t = with_lines-is ls (with_line l t)

ends-push : (ls : List LineText) (bs : List BlockText) (b : BlockText) → ends ls (bs ++ b ∷ []) ≡ bs ++ record b { lines = b.lines ++ ls } ∷ []
ends-push [] bs b = sym (λ i. bs ++ record b { lines = append-nil b.lines i } ∷ [])
ends-push (l ∷ ls) bs b =
    ap (ends ls) (line_at_end-push l bs b) ∙ ends-push ls bs (record b { lines = b.lines ++ l ∷ [] }) ∙ (λ i. bs ++ record b { lines = append_assoc b.lines (l ∷ []) ls i } ∷ [])

-- ---- blocks

block : List ℕ → List LineText → BlockText
block n ls = record { label = Some n; lines = ls }

-- these blocks fit, and with them the unit has them at its end
pub record Ends (t : UnitText) (bs : List BlockText) : Type 0 where
  pub fit : BlocksFit t bs
  pub gives : with_blocks bs t ≡ record t { blocks = t.blocks ++ bs }

label-fits : (t : UnitText) (n : List ℕ) (b : BlockText) (more : List BlockText) → b.label ≡ Some n → HasLabels t.kind → labels_repeat t.blocks (b ∷ more) ≡ false → (LabelFits t (Some n))
    × (labels_repeat (t.blocks ++ b ∷ []) more ≡ false)
label-fits t n b more e k h =
    let p = or_parts (label_repeats t.blocks b.label) (labels_repeat (t.blocks ++ b ∷ []) more) h in
    let q : label_repeats t.blocks (Some n) ≡ false = ap (label_repeats t.blocks) (sym e) ∙ p.0 in
    ((k, q), p.1)

-- a block is added
block-added : (t : UnitText) (n : List ℕ) (ls : List LineText) → with_lines ls (with_block n t) ≡ record t { blocks = t.blocks ++ block n ls ∷ [] }
unfolding block
block-added t n ls = with_lines-is ls (with_block n t) ∙ (λ i. record t { blocks = ends-push ls t.blocks (record { label = Some n; lines = [] }) i })

block-fits : (t : UnitText) (n : List ℕ) (ls : List LineText) → results_repeat t.args (lines_of t.blocks) ls ≡ false → line_count t.blocks + length ls ≤ 65536 → LinesFit (with_block n t) ls
block-fits t n ls r f =
    let e : BlockText = record { label = Some n; lines = [] } in
    let b : 0 < length (t.blocks ++ e ∷ []) = omega (arith, length-append t.blocks (e ∷ [])) in
    let a : lines_of (t.blocks ++ e ∷ []) ≡ lines_of t.blocks = lines_of-last t.blocks e ∙ append-nil (lines_of t.blocks) in
    let c : line_count (t.blocks ++ e ∷ []) ≡ line_count t.blocks + 0 = line_count-last t.blocks e in
    lines-fit (with_block n t) ls b (subst (λ q. results_repeat t.args q ls ≡ false) (sym a) r) (omega (arith, c, f))

abbrev pub Labelled : BlockText → Type 0
Labelled b = (n : List ℕ) × (b.label ≡ Some n)

-- One block and then more of them. The names of blocks are apart from their lines, so that the block is `block n ls`.
ends-next : (t : UnitText) (n : List ℕ) (ls : List LineText) (more : List BlockText) → LabelFits t (Some n) → results_repeat t.args (lines_of t.blocks) ls ≡ false
    → line_count t.blocks + length ls ≤ 65536
    → Ends (record t { blocks = t.blocks ++ block n ls ∷ [] }) more → Ends t (block n ls ∷ more)
unfolding block
ends-next t n ls more l r f e =
    let a : with_lines ls (with_block n t) ≡ record t { blocks = t.blocks ++ block n ls ∷ [] } = block-added t n ls in
    record {
      fit = (l, block-fits t n ls r f, subst (λ s. BlocksFit s more) (sym a) e.fit);
      gives = ap (with_blocks more) a ∙ e.gives ∙ (λ i. record t { blocks = append_assoc t.blocks (block n ls ∷ []) more i });
    }

blocks-end : (t : UnitText) (bs : List BlockText) → HasLabels t.kind → Each Labelled bs → labels_repeat t.blocks bs ≡ false → results_repeat t.args (lines_of t.blocks) (lines_of bs) ≡ false
    → line_count t.blocks + line_count bs ≤ 65536 → Ends t bs
unfolding block
blocks-end t [] k w l r f = record { fit = tt; gives = sym (λ i. record t { blocks = append-nil t.blocks i }) }
blocks-end t (b ∷ more) k w l r f =
    let n = w.0.0 in
    let same : b ≡ block n b.lines = λ i. record { label = w.0.1 i; lines = b.lines } in
    let p = label-fits t n b more w.0.1 k l in
    let q = results-split t.args (lines_of t.blocks) b.lines (lines_of more) r in
    let now : List BlockText = t.blocks ++ block n b.lines ∷ [] in
    let a : lines_of now ≡ lines_of t.blocks ++ b.lines = lines_of-last t.blocks (block n b.lines) in
    let c : line_count now ≡ line_count t.blocks + length b.lines = line_count-last t.blocks (block n b.lines) in
    let rest = blocks-end (record t { blocks = now }) more k w.1 (subst (λ x. labels_repeat (t.blocks ++ x ∷ []) more ≡ false) same p.1)
    (subst (λ x. results_repeat t.args x (lines_of more) ≡ false) (sym a) q.1) (omega (arith, c, f)) in
    subst (λ x. Ends t (x ∷ more)) (sym same) (ends-next t n b.lines more p.0 q.0 (omega (arith, f)) rest)

-- ---- a whole unit

-- the blocks of a kind of unit
abbrev pub BlocksOf : UnitKind → List BlockText → Type 0
BlocksOf kind.Func bs = Each Labelled bs
BlocksOf kind.Proc bs = Each Labelled bs
BlocksOf kind.Entity bs = (b : BlockText) × (bs ≡ b ∷ []) × (b.label ≡ None)

-- the result type of a kind of unit
abbrev pub TypeOf : UnitKind → Option TypeTree → Type 0
TypeOf kind.Func r = IsSome r
TypeOf kind.Proc r = r ≡ None
TypeOf kind.Entity r = r ≡ None

func-headed : (n : UnitName) (args : List ArgText) (r : Option TypeTree) → IsSome r
    → with_type r (with_args args (new_unit n kind.Func)) ≡ record { kind = kind.Func; name = n; args = args; result = r; blocks = [] }
func-headed n args None h = cc
func-headed n args (Some ty) h = ap (with_type (Some ty)) (with_args-is args (new_unit n kind.Func))

pub headed-by : (k : UnitKind) (n : UnitName) (args : List ArgText) (r : Option TypeTree) → TypeOf k r
    → with_type r (with_args args (new_unit n k)) ≡ record { kind = k; name = n; args = args; result = r; blocks = (new_unit n k).blocks }
headed-by kind.Func n args r h = func-headed n args r h
headed-by kind.Proc n args r h = ap (λ q. with_type q (with_args args (new_unit n kind.Proc))) h ∙ with_args-is args (new_unit n kind.Proc)
    ∙ (λ i. record { kind = kind.Proc; name = n; args = args; result = sym h i; blocks = [] })
headed-by kind.Entity n args r h =
    ap (λ q. with_type q (with_args args (new_unit n kind.Entity))) h ∙ with_args-is args (new_unit n kind.Entity)
    ∙ (λ i. record { kind = kind.Entity; name = n; args = args; result = sym h i; blocks = record { label = None; lines = [] } ∷ [] })

-- the blocks of a unit that has its header can be added, and give the unit
pub record Whole (t : UnitText) : Type 0 where
  pub fit : BlocksFit (headed t) t.blocks
  pub gives : with_blocks t.blocks (headed t) ≡ t

labelled-whole : (t : UnitText) → HasLabels t.kind → (new_unit t.name t.kind).blocks ≡ [] → Each Labelled t.blocks → IsOnce t → Whole t
labelled-whole t k e w o =
    let h : headed t ≡ record t { blocks = [] } = λ i. record t { blocks = e i } in
    let x = blocks-end (record t { blocks = [] }) t.blocks k w o.labels o.results (omega (arith, o.few)) in
    record { fit = subst (λ s. BlocksFit s t.blocks) (sym h) x.fit; gives = ap (with_blocks t.blocks) h ∙ x.gives }

-- an entity of these lines
abbrev pub entity : UnitName → List ArgText → Option TypeTree → List LineText → UnitText
entity n args r ls = record { kind = kind.Entity; name = n; args = args; result = r; blocks = record { label = None; lines = ls } ∷ [] }

pub entity-whole : (n : UnitName) (args : List ArgText) (r : Option TypeTree) (ls : List LineText) → results_repeat args [] ls ≡ false → length ls ≤ 65536 → Whole (entity n args r ls)
entity-whole n args r ls v f =
    let e = entity n args r [] in
    record {
      fit = (tt, lines-fit e ls (omega arith) v (omega (arith, f)), tt);
      gives = with_lines-is ls e ∙ (λ i. record { kind = kind.Entity; name = n; args = args; result = r; blocks = ends-push ls [] (record { label = None; lines = [] }) i });
    }

-- the text of the arguments alone has no effect on the kind
args-kind : (xs : List ArgText) (t : UnitText) → (with_args xs t).kind ≡ t.kind
args-kind xs t = ap (λ (s : UnitText). s.kind) (with_args-is xs t)

none-fits : (t : UnitText) (r : Option TypeTree) → r ≡ None → TypeFits t r
none-fits t r h = subst (TypeFits t) (sym h) tt

pub type-fits-by : (k : UnitKind) (n : UnitName) (args : List ArgText) (r : Option TypeTree) (t : UnitText) → TypeOf k r → t ≡ with_args args (new_unit n k) → TypeFits t r
type-fits-by kind.Func n args None t h e = tt
type-fits-by kind.Func n args (Some ty) t h e = ap (λ (s : UnitText). s.kind) e ∙ args-kind args (new_unit n kind.Func)
type-fits-by kind.Proc n args r t h e = none-fits t r h
type-fits-by kind.Entity n args r t h e = none-fits t r h

pub entity-by : (t : UnitText) (b : BlockText) → t.kind ≡ kind.Entity → t.blocks ≡ b ∷ [] → b.label ≡ None → results_repeat t.args [] b.lines ≡ false → length b.lines ≤ 65536 → Whole t
entity-by t b k e l v f =
    let x : b ≡ record { label = None; lines = b.lines } = λ i. record { label = l i; lines = b.lines } in
    let y : t.blocks ≡ record { label = None; lines = b.lines } ∷ [] = e ∙ ap (λ z. z ∷ []) x in
    let same : t ≡ entity t.name t.args t.result b.lines = λ i. record { kind = k i; name = t.name; args = t.args; result = t.result; blocks = y i } in
    subst Whole (sym same) (entity-whole t.name t.args t.result b.lines v f)

pub whole-by : (k : UnitKind) (t : UnitText) → t.kind ≡ k → BlocksOf k t.blocks → IsOnce t → Whole t
whole-by kind.Func t e w o = labelled-whole t (subst HasLabels (sym e) tt) (ap (λ k. (new_unit t.name k).blocks) e) w o
whole-by kind.Proc t e w o = labelled-whole t (subst HasLabels (sym e) tt) (ap (λ k. (new_unit t.name k).blocks) e) w o
whole-by kind.Entity t e w o =
    let b = w.0 in
    let ls : lines_of t.blocks ≡ b.lines = ap lines_of w.1 ∙ append-nil b.lines in
    let n : line_count t.blocks ≡ length b.lines + 0 = ap line_count w.1 in
    entity-by t b e w.1 w.2 (ap (results_repeat t.args []) (sym ls) ∙ o.results) (omega (arith, n, o.few))
