-- What is found in the tokens of a line is spelled so, and what is spelled so is found: so a line spells at most one item.
use Rattle.std.proofs.Common.{◌≡◌, ℕ, Bool, true, false, List, [], ◌∷◌, Option, Some, None, nat_eq, refl, ap, sym, ◌∙◌, subst, arith, inl, inr}
use Rattle.std.specs.Prelude.{if◌then◌else◌, Result, Ok, Err, IfOk}
use Rattle.std.proofs.lemmas.Grind.{common_steps}
use Rattle.std.proofs.lemmas.Option.{cond_some, same_Some}
use Rattle.lh_unit.specs.Contents.{InstText}
use Rattle.lh_unit.specs.Lexemes.{Lexeme, word, local, punct}
use Rattle.lh_unit.specs.SpellsInst.{gives_value, may_stand_alone, SpellsLine}
use Rattle.lh_unit.specs.Spells.{LineItem, empty_item, header_item, declare_item, label_item, inst_item, close_item, Spells, SpellsLabel}
use Rattle.lh_read_pieces.specs.Found.{FindsAs}
use Rattle.lh_read_pieces.specs.declared.fault.ScanFault.{ScanFault}
use Rattle.lh_read_pieces.specs.declared.fault.ScanFault.TheVariants.{NotSpelled, OutOfMemory}
use Rattle.lh_read_pieces.specs.Pieces.{◌>>=◌, name_at, punct_at, end_at}
use Rattle.lh_read_pieces.specs.Shorter.{bind_some}
use Rattle.lh_read_pieces.proofs.Pieces.{name_at-inv, name_at-again, punct_at-inv, end_at-inv}
use Rattle.lh_read_lines.specs.SpelledBy.{SpelledBy}
use Rattle.lh_read_phrases.specs.SyntaxOf.{item_of}
use Rattle.lh_read_phrases.specs.Words.{head_of}
use Rattle.lh_read_lines.specs.Insts.{worded_at, inst_at}
use Rattle.lh_read_lines.specs.Headers.{item_when}
use Rattle.lh_read_lines.specs.Items.{label_at, word_label_at, assigned_at, alone_at, head_or, local_or, word_or, close_at, item_at}
use Rattle.lh_read_phrases.specs.declared.words.Head.{Head}
use Rattle.lh_read_phrases.specs.declared.syntax.LineSyntax.{LineSyntax}
use Rattle.lh_read_lines.proofs.SpelledInsts.{worded_at-sound, inst_at-sound}
use Rattle.lh_read_lines.proofs.InstsAgain.{stands_alone, inst_at-again}
use Rattle.lh_read_lines.proofs.SpelledHeaders.{head_at-sound, IsHead, header-again, declared-again}

-- a label
label-inv : (n : List ℕ) (ts : List Lexeme) (i : LineItem) → label_at n ts ≡ Some i → (ts ≡ []) × (label_item n ≡ i)
unfolding label_at
label-inv n ts i p = let a = bind_some (end_at ts) _ i p in (end_at-inv ts a.0 a.1, same_Some (label_item n) i a.2)

local_label-sound : (n : List ℕ) (ts us : List Lexeme) (i : LineItem) → ts ≡ punct 58 ∷ us → label_at n us ≡ Some i → Spells (local n ∷ ts) i
local_label-sound n ts us i e p =
    let a = label-inv n us i p in
    let q : Spells (local n ∷ ts) (label_item n) = inr (ap (λ l. local n ∷ l) (e ∙ ap (λ l. punct 58 ∷ l) a.0)) in
    subst (Spells (local n ∷ ts)) a.1 q

word_label-sound : (w : List ℕ) (ts us : List Lexeme) (i : LineItem) → ts ≡ punct 58 ∷ us → word_label_at (word w ∷ ts) us ≡ Some i → Spells (word w ∷ ts) i
unfolding word_label_at
word_label-sound w ts us i e p =
    let r = bind_some (name_at (word w ∷ ts)) _ i p in
    let n = name_at-inv (word w ∷ ts) r.0 r.1 in
    let a = label-inv r.0.0 us i r.2 in
    let f : ts ≡ r.0.1 = cc (n.0) in
    let q : Spells (word w ∷ ts) (label_item r.0.0) = inl (n.0 ∙ ap (λ l. word r.0.0 ∷ l) (sym f ∙ e ∙ ap (λ l. punct 58 ∷ l) a.0), n.1) in
    subst (Spells (word w ∷ ts)) a.1 q

-- instructions
assigned-sound : (r : List ℕ) (ts : List Lexeme) (i : LineItem) → assigned_at r ts ≡ Some i → Spells (local r ∷ ts) i
unfolding assigned_at
assigned-sound r ts i p =
    let a = bind_some (punct_at 61 ts) _ i p in
    let b = bind_some (inst_at a.0) _ i a.2 in
    let g = cond_some (gives_value b.0) (inst_item (record { result = Some r; inst = b.0 })) i b.2 in
    let q : Spells (local r ∷ ts) (inst_item (record { result = Some r; inst = b.0 })) = (a.0, ap (λ l. local r ∷ l) (punct_at-inv 61 ts a.0 a.1), g.0, inst_at-sound a.0 b.0 b.1) in
    subst (Spells (local r ∷ ts)) g.1 q

alone-sound : (w : List ℕ) (ts : List Lexeme) (i : LineItem) → alone_at w ts ≡ Some i → Spells (word w ∷ ts) i
unfolding alone_at
alone-sound w ts i p =
    let a = bind_some (worded_at w ts) _ i p in
    let g = cond_some (may_stand_alone a.0) (inst_item (record { result = None; inst = a.0 })) i a.2 in
    let q : Spells (word w ∷ ts) (inst_item (record { result = None; inst = a.0 })) = (g.0, worded_at-sound w ts a.0 a.1) in
    subst (Spells (word w ∷ ts)) g.1 q

behind_word-sound : (w : List ℕ) (ts : List Lexeme) (i : LineItem) → word_or w (word w ∷ ts) ts (punct_at 58 ts) ≡ Some i → Spells (word w ∷ ts) i
behind_word-sound w ts i p = by (punct_at 58 ts) refl p
  where
    headed : (o : Option Head) → head_of w ≡ o → head_or w ts o ≡ Some i → Spells (word w ∷ ts) i
    headed (Some h) e q = head_at-sound w h ts i e q
    headed None e q = alone-sound w ts i q

    by : (o : Option (List Lexeme)) → punct_at 58 ts ≡ o → word_or w (word w ∷ ts) ts o ≡ Some i → Spells (word w ∷ ts) i
    by (Some us) e q = word_label-sound w ts us i (punct_at-inv 58 ts us e) q
    by None e q = headed (head_of w) refl q

behind_local-sound : (r : List ℕ) (ts : List Lexeme) (i : LineItem) → local_or r ts (punct_at 58 ts) ≡ Some i → Spells (local r ∷ ts) i
behind_local-sound r ts i p = by (punct_at 58 ts) refl p
  where
    by : (o : Option (List Lexeme)) → punct_at 58 ts ≡ o → local_or r ts o ≡ Some i → Spells (local r ∷ ts) i
    by (Some us) e q = local_label-sound r ts us i (punct_at-inv 58 ts us e) q
    by None e q = assigned-sound r ts i q

close-sound : (b : ℕ) (ts : List Lexeme) (i : LineItem) → close_at b ts ≡ Some i → Spells (punct b ∷ ts) i
unfolding close_at
close-sound b ts i p = by (nat_eq b 125) refl p
  where
    is : (x y : ℕ) → nat_eq x y ≡ true → x ≡ y
    is x y e = grind (arith, common_steps)

    by : (c : Bool) → nat_eq b 125 ≡ c → (if c then (end_at ts >>= λ _. Some close_item) else None) ≡ Some i → Spells (punct b ∷ ts) i
    by true e q =
        let a = bind_some (end_at ts) _ i q in let f = is b 125 e in let g = end_at-inv ts a.0 a.1 in
        let s : Spells (punct b ∷ ts) close_item = λ j. punct (f j) ∷ g j in
        subst (Spells (punct b ∷ ts)) (same_Some close_item i a.2) s
    by false e q = cc

pub item_at-sound : (ts : List Lexeme) (i : LineItem) → item_at ts ≡ Some i → Spells ts i
unfolding item_at
item_at-sound [] i p = subst (Spells []) (same_Some empty_item i p) refl
item_at-sound (local r ∷ ts) i p = behind_local-sound r ts i p
item_at-sound (word w ∷ ts) i p = behind_word-sound w ts i p
item_at-sound (punct b ∷ ts) i p = close-sound b ts i p
item_at-sound _ i p = cc

-- what is spelled so is found
head-again : (i : LineItem) (ts : List Lexeme) → IsHead i ts → item_at ts ≡ Some i
unfolding item_at
head-again i ts h =
    ap item_at h.is
    ∙ ap (word_or h.keyword (word h.keyword ∷ h.rest) h.rest) h.no_colon
    ∙ ap (head_or h.keyword h.rest) h.known
    ∙ h.found

line-again : (r : Option (List ℕ)) (i : InstText) (ts : List Lexeme) → SpellsLine r i ts → item_at ts ≡ Some (inst_item (record { result = r; inst = i }))
unfolding item_at assigned_at alone_at
line-again None i ts s =
    let a = stands_alone i ts s.0 s.1 in
    ap item_at a.is
    ∙ ap (word_or a.keyword (word a.keyword ∷ a.rest) a.rest) a.no_colon
    ∙ ap (head_or a.keyword a.rest) a.no_head
    ∙ ap (λ o. o >>= λ x. item_when (may_stand_alone x) (inst_item (record { result = None; inst = x }))) a.found
    ∙ ap (λ b. item_when b (inst_item (record { result = None; inst = i }))) s.0
line-again (Some r) i ts s =
    ap item_at s.1
    ∙ ap (λ o. o >>= λ x. item_when (gives_value x) (inst_item (record { result = Some r; inst = x }))) (inst_at-again i s.0 s.3)
    ∙ ap (λ b. item_when b (inst_item (record { result = Some r; inst = i }))) s.2

label-again : (n : List ℕ) (ts : List Lexeme) → SpellsLabel n ts → item_at ts ≡ Some (label_item n)
unfolding item_at label_at word_label_at
label-again n ts s = elim s [
  | inl p ↦ ap item_at p.0 ∙ ap (λ o. o >>= λ x. label_at x.0 []) (name_at-again n (punct 58 ∷ []) p.1)
  | inr p ↦ ap item_at p
]

pub item_at-again : (ts : List Lexeme) (i : LineItem) → Spells ts i → item_at ts ≡ Some i
unfolding item_at close_at
item_at-again ts empty_item s = ap item_at s
item_at-again ts (header_item k n args r) s = head-again (header_item k n args r) ts (header-again k n args r ts s)
item_at-again ts (declare_item d) s = head-again (declare_item d) ts (declared-again d ts s)
item_at-again ts (label_item n) s = label-again n ts s
item_at-again ts (inst_item l) s = line-again l.result l.inst ts s
item_at-again ts close_item s = ap item_at s

-- what is found is spelled by the tokens, and it alone
pub spelled_by : (ts : List Lexeme) (o : Option LineItem) → o ≡ item_at ts → SpelledBy ts o
spelled_by ts None e = λ j s. let f : None ≡ Some j = e ∙ item_at-again ts j s in cc
spelled_by ts (Some i) e = (item_at-sound ts i (sym e), λ j s. same_Some j i (sym (item_at-again ts j s) ∙ sym e))

pub line_said : (ts : List Lexeme) (r : Result LineSyntax ScanFault) → FindsAs item_of r (item_at ts) → IfOk r (λ i. SpelledBy ts (Some (item_of i)))
line_said ts (Ok i) h = spelled_by ts (Some (item_of i)) h
line_said ts (Err e) h = tt

pub line_nothing : (ts : List Lexeme) (r : Result LineSyntax ScanFault) → FindsAs item_of r (item_at ts) → r ≡ Err NotSpelled → SpelledBy ts None
line_nothing ts (Ok i) h e = cc
line_nothing ts (Err NotSpelled) h e = spelled_by ts None h
line_nothing ts (Err OutOfMemory) h e = cc
