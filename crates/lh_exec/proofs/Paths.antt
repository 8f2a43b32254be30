-- What is held along the edges of blocks: each value that is given on every path to a place.
use Rattle.std.proofs.Common.{◌≡◌, ◌⊎◌, ⊎_elim, ℕ, ◌+◌, List, [], ◌∷◌, ◌++◌, length, Bool, true, false, cond, ◌||◌, if◌then◌else◌, Option, Some, None, IsSome, refl, ap, sym, ◌∙◌, subst, append_assoc, arith}
use Rattle.std.specs.List.{list_any}
use Rattle.std.specs.Option.{option_and_then, option_map}
use Rattle.std.proofs.lemmas.Bool.{false≢true}
use Rattle.std.proofs.lemmas.List.Sums.{sum_by-cons}
use Rattle.std.proofs.lemmas.Option.{same_Some, none-some}
use Rattle.lh_types.specs.Types.{TypeTree}
use Rattle.lh_types.specs.Values.{Datum}
use Rattle.lh_unit.specs.Contents.{EdgeText, InstText, phi_text, br_text, branch_text, wait_text, halt_text, ret_text, LineText, BlockText, ArgText, UnitText, ItemText, is_result_name, args_define, defines_value}
use Rattle.lh_unit_names.specs.Names.{same_name}
use Rattle.lh_unit.specs.Named.{block_of, label_or}
use Rattle.lh_unit.specs.Held.{Held, datum_held, Env, with_held, with_result, with_args, datum_at}
use Rattle.lh_unit.specs.Activation.{Control, edge_from, result_put, phi_taken, phis_taken, entered, entry, at_first}
use Rattle.lh_unit.specs.Kinds.{Use, used, uses, data_or_time_needed}
use Rattle.lh_unit.specs.Places.{entry_of, leads_to, last_leads_to, is_terminator, has_edge, IsPath}
use Rattle.lh_unit.specs.SpellsInst.{gives_value}
use Rattle.lh_unit.specs.Typing.{is_value_type}
use Rattle.lh_unit.specs.WellFormed.{is_phi, edges_naming}
use Rattle.lh_unit.specs.Within.{Each}
use Rattle.lh_unit.proofs.Lists.{Each-zip, Each-of-map}
use Rattle.lh_unit_names.proofs.NameLists.{same_name-is, same_name-refl}
use Rattle.lh_verify_laws.specs.Defined.{IsThere, IsThereOnEdge, OperandsThere}
use Rattle.lh_verify_laws.specs.Shape.{PhiIsRight}
use Rattle.lh_verify_laws.specs.Operands.{IsOf, RowIs}
use Rattle.lh_unit.specs.declared.inst.UnitKind.TheVariants as kind
use Rattle.lh_eval.specs.Fitting.{Fits}
use Rattle.lh_verify_laws.proofs.EachItem.{each-split}
use Rattle.lh_verify_laws.proofs.AtPlaces.{place-at}
use Rattle.lh_verify_laws.proofs.There.{there-before, there-after, last-leads}
use Rattle.lh_eval_laws.proofs.OperandsFound.{value-at}
use Rattle.lh_eval_laws.proofs.FindingStatic.{result-is}
use Rattle.lh_eval_laws.proofs.FindingPass.{result-stays, args-stay, named-held}
use Rattle.lh_exec.specs.States.{HoldsThere}
use Rattle.lh_exec.specs.Sound.{LineRight, UnitRight}
use Rattle.lh_exec.proofs.KeepsFit.{block-has, at-block}
use Rattle.lh_exec.proofs.Placed.{UnitSteady, GivesNamed, NotNil, place-of, entry-no-phi}

-- ---- what is held stays held

-- each argument is held, where they are as many
pub args-held : (e : Env) (xs : List ArgText) (hs : List Held) → length hs ≡ length xs → (n : List ℕ) → args_define n xs ≡ true → IsSome (with_args e xs hs n)
args-held e [] hs c n d = absurd cc
args-held e (x ∷ xs) [] c n d = absurd cc
args-held e (x ∷ xs) (h ∷ hs) c n d = at (same_name x.name n) refl d (args-held (with_held e x.name h) xs hs (omega (arith, c)) n)
  where
    at : (b : Bool) → same_name x.name n ≡ b → (b || args_define n xs) ≡ true → (args_define n xs ≡ true → IsSome (with_args (with_held e x.name h) xs hs n))
        → IsSome (with_args (with_held e x.name h) xs hs n)
    at true q k go = args-stay (with_held e x.name h) xs hs n (named-held e (Some x.name) n h q)
    at false q k go = go k

-- ---- the end of a block

pub unnamed : (l : LineText) → GivesNamed l → gives_value l.inst ≡ false → (n : List ℕ) → is_result_name n l.result ≡ false
unnamed l g f n = at l.result (g n)
  where
    at : (r : Option (List ℕ)) → (r ≡ Some n → gives_value l.inst ≡ true) → is_result_name n r ≡ false
    at None k = refl
    at (Some m) k = by (same_name m n) refl
      where
        by : (b : Bool) → same_name m n ≡ b → b ≡ false
        by false q = refl
        by true q = let e : gives_value l.inst ≡ true = k (ap Some (same_name-is m n q)) in cc

terminator-gives : (i : InstText) → is_terminator i ≡ true → gives_value i ≡ false
terminator-gives (br_text to) e = refl
terminator-gives (branch_text cond first second) e = refl
terminator-gives (wait_text to after signals) e = refl
terminator-gives halt_text e = refl
terminator-gives (ret_text o) e = refl
terminator-gives _ e = absurd cc

-- ---- the names of blocks

pub block-named : (n : List ℕ) (bs : List BlockText) (b : BlockText) → block_of n bs ≡ Some b → b.label ≡ Some n
block-named n [] b h = absurd (none-some b h)
block-named n (c ∷ bs) b h = at (is_result_name n c.label) refl h (block-named n bs b)
  where
    at : (x : Bool) → is_result_name n c.label ≡ x → (if x then Some c else block_of n bs) ≡ Some b → (block_of n bs ≡ Some b → b.label ≡ Some n) → b.label ≡ Some n
    at true q k go = ap (λ (y : BlockText). y.label) (sym (same_Some c b k)) ∙ result-is c.label n q
    at false q k go = go k

-- ---- the `phi` of a block

-- the value of a `phi` is there
abbrev PhiFound : List ℕ → Env → InstText → Type 0
PhiFound from e (phi_text ty es) = (d : Datum) × (option_and_then (datum_at e) (edge_from from es) ≡ Some d)
PhiFound from e _ = Unit {0}

-- the result of a `phi` is held
abbrev pub PhiHeld : Env → InstText → Option (List ℕ) → Type 0
PhiHeld e (phi_text ty es) r = (n : List ℕ) → is_result_name n r ≡ true → IsSome (e n)
PhiHeld e _ r = Unit {0}

abbrev pub PhisHeld : Env → List LineText → Type 0
PhisHeld e ls = Each (λ (l : LineText). PhiHeld e l.inst l.result) ls

phi-more : (e f : Env) (i : InstText) (r : Option (List ℕ)) → ((n : List ℕ) → IsSome (e n) → IsSome (f n)) → PhiHeld e i r → PhiHeld f i r
phi-more e f (phi_text ty es) r m h = λ n q. m n (h n q)
phi-more e f _ r m h = tt

pub phis-more : (e f : Env) (ls : List LineText) → ((n : List ℕ) → IsSome (e n) → IsSome (f n)) → PhisHeld e ls → PhisHeld f ls
phis-more e f [] m h = tt
phis-more e f (l ∷ ls) m h = (phi-more e f l.inst l.result m h.0, phis-more e f ls m h.1)

pub no-phis : (e : Env) (ls : List LineText) → Each (λ (l : LineText). is_phi l.inst ≡ false) ls → PhisHeld e ls
no-phis e [] h = tt
no-phis e (l ∷ ls) h = (at l.inst h.0, no-phis e ls h.1)
  where
    at : (i : InstText) → is_phi i ≡ false → PhiHeld e i l.result
    at (phi_text ty es) q = absurd cc
    at _ q = tt

-- what the `phi` of these lines leave
record Taken (from : List ℕ) (e : Env) (ls : List LineText) (o : Option Env) : Type 0 where
  to : Env
  is : o ≡ Some to
  stays : (n : List ℕ) → IsSome (e n) → IsSome (to n)
  phis : PhisHeld to ls

one-taken : (from : List ℕ) (e : Env) (i : InstText) (r : Option (List ℕ)) (ls : List LineText) (o : Option Env) → PhiFound from e i → Taken from e ls o
    → (to : Env) × (phi_taken from e i r o ≡ Some to) × ((n : List ℕ) → IsSome (e n) → IsSome (to n)) × PhiHeld to i r × PhisHeld to ls
one-taken from e (phi_text ty es) r ls o d k = (
  with_result k.to r (datum_held d.0),
  ap (λ v. result_put r v o) d.1 ∙ ap (result_put r (Some d.0)) k.is,
  λ n s. result-stays k.to r n (datum_held d.0) (k.stays n s),
  λ n q. named-held k.to r n (datum_held d.0) q,
  phis-more k.to (with_result k.to r (datum_held d.0)) ls (λ n s. result-stays k.to r n (datum_held d.0) s) k.phis,
)
one-taken from e _ r ls o d k = (k.to, k.is, k.stays, tt, k.phis)

all-taken : (from : List ℕ) (e : Env) (ls : List LineText) → Each (λ (l : LineText). PhiFound from e l.inst) ls → Taken from e ls (phis_taken from e ls)
all-taken from e [] h = record { to = e; is = refl; stays = λ n s. s; phis = tt }
all-taken from e (l ∷ ls) h =
    let z = one-taken from e l.inst l.result ls (phis_taken from e ls) h.0 (all-taken from e ls h.1) in
    record { to = z.0; is = z.1; stays = z.2; phis = (z.3, z.4) }

-- an edge that is named once is found
edge-found : (P : EdgeText → Type 0) (from : List ℕ) (es : List EdgeText) → Each P es → edges_naming from es ≡ 1 → (x : EdgeText) × P x × (x.block ≡ from) × (edge_from from es ≡ Some x.value)
edge-found P from [] h c = let z : 0 ≡ 1 = c in absurd (omega (arith, z))
edge-found P from (x ∷ es) h c = at (same_name x.block from) refl (sym (sum_by-cons (λ (y : EdgeText). cond (same_name y.block from) 1 0) x es) ∙ c) (edge-found P from es h.1)
  where
    at : (b : Bool) → same_name x.block from ≡ b → cond b 1 0 + edges_naming from es ≡ 1 → (edges_naming from es ≡ 1 → (y : EdgeText) × P y × (y.block ≡ from) × (edge_from from es ≡ Some y.value))
        → (y : EdgeText) × P y × (y.block ≡ from) × ((if b then Some x.value else edge_from from es) ≡ Some y.value)
    at true q k go = (x, h.0, same_name-is x.block from q, refl)
    at false q k go = go (omega (arith, k))

-- ---- places of control

-- At a place of a block each value is held that is there, and so are the results of the `phi` that are to come.
pub record ControlHolds (c : Control) : Type 0 where
  pub steady : UnitSteady c.unit
  pub text : BlockText
  pub block : block_of c.block c.unit.blocks ≡ Some text
  pub before : List LineText
  pub split : text.lines ≡ before ++ c.rest
  pub there : HoldsThere c.unit text before c.held
  pub phis : PhisHeld c.held c.rest
  pub more : NotNil c.rest

-- the entry of a unit, whose arguments are held
pub entry-holds : (u : UnitText) (items : List ItemText) → UnitSteady u → UnitRight items u → (e : Env) → ((n : List ℕ) → args_define n u.args ≡ true → IsSome (e n)) → (c : Control)
    × (entry u e ≡ Some c) × (c.unit ≡ u) × ControlHolds c
entry-holds u items s r e k =
    let b = s.first in
    let labelled = subst (Each (λ (x : BlockText). x.label ≡ Some (label_or x.label))) s.blocks r.labelled in
    let named : is_result_name (label_or b.label) b.label ≡ true = ap (is_result_name (label_or b.label)) labelled.0 ∙ same_name-refl (label_or b.label) in
    let stands : block_of (label_or b.label) u.blocks ≡ Some b = ap (block_of (label_or b.label)) s.blocks ∙ ap (λ x. if x then Some b else block_of (label_or b.label) s.more) named in
    let shaped = subst (Each (λ (x : BlockText). NotNil x.lines)) s.blocks s.shaped in
    let path : IsPath u (b ∷ []) = ap entry_of s.blocks in (
      at-block u (label_or b.label) b.lines e,
      ap (at_first u e) s.blocks,
      refl,
      record {
        steady = s;
        text = b;
        block = stands;
        before = [];
        split = refl;
        there = λ n d h. ⊎_elim (k n) (λ g. ⊎_elim (λ q. absurd (false≢true q)) (λ q. absurd (false≢true q)) (g [] path)) h;
        phis = no-phis e b.lines (entry-no-phi u s);
        more = shaped.0;
      },
    )

-- a line of a block, by what stands before it
pub line-in : (items : List ItemText) (u : UnitText) → UnitRight items u → (n : List ℕ) (b : BlockText) → block_of n u.blocks ≡ Some b → (before : List LineText) (l : LineText) (after : List LineText)
    → b.lines ≡ before ++ l ∷ after → LineRight items u l
line-in items u r n b q before l after e =
    (each-split (LineRight items u) before (l ∷ after) (subst (Each (LineRight items u)) e (block-has (λ (x : BlockText). Each (LineRight items u) x.lines) n u.blocks b r.lines q))).1.0

-- The end of a block: a terminator, and what is held there.
module _ (items : List ItemText) (w : ℕ) (u : UnitText) (s : UnitSteady u) (r : UnitRight items u) (e : Env) (f : Fits u w e) (from : List ℕ) (text : BlockText)
    (q : block_of from u.blocks ≡ Some text)
    (before : List LineText) (l : LineText) (after : List LineText) (split : text.lines ≡ before ++ l ∷ after) (ends : is_terminator l.inst ≡ true) (there : HoldsThere u text before e) where
  last-line : text.lines ≡ before ++ l ∷ []
  last-line =
      let z = place-of u s from text before l after q split in
      split ∙ ap (λ ls. before ++ l ∷ ls) ((z.2.ends s.runs).ends_last ends)

  line-given : GivesNamed l
  line-given =
      (each-split GivesNamed before (l ∷ after) (subst (Each GivesNamed) split (block-has (λ (x : BlockText). Each GivesNamed x.lines) from u.blocks text s.given q))).1.0

  -- at the end of the block each value is held that is there
  end-holds : HoldsThere u text text.lines e
  end-holds n d h =
      there n d (there-before u text before l n (unnamed l line-given (terminator-gives l.inst ends) n) (subst (λ (ls : List LineText). IsThere u text ls n) last-line h))

  module _ (to : List ℕ) (b : BlockText) (t : block_of to u.blocks ≡ Some b) (named : list_any (λ m. same_name m to) (leads_to l.inst) ≡ true) where
    label-is : label_or b.label ≡ to
    label-is = ap label_or (block-named to u.blocks b t)

    edge : has_edge text (label_or b.label) ≡ true
    edge = ap (has_edge text) label-is ∙ ap (list_any (λ m. same_name m to)) (ap last_leads_to last-line ∙ last-leads before l) ∙ named

    -- an edge of a `phi` has its value
    abbrev EdgeGood : TypeTree → EdgeText → Type 0
    EdgeGood ty x = (IsThereOnEdge u (label_or b.label) x × IsOf u ty x.value) × (defines_value x.value u ≡ true)

    edge-value : (ty : TypeTree) → is_value_type ty ≡ true → (x : EdgeText) → EdgeGood ty x → x.block ≡ from → (d : Datum) × (datum_at e x.value ≡ Some d)
    edge-value ty v x g n =
        let at-end : IsThere u text text.lines x.value = g.0.0 text (ap (λ y. block_of y u.blocks) n ∙ q) edge in
        let d = value-at u w e f x.value ty g.0.1 v (end-holds x.value g.1 at-end) in
        (d.0, d.1)

    -- so each `phi` has its value
    phi-found : (seen : List LineText) (x : LineText) (more : List LineText) → b.lines ≡ seen ++ x ∷ more → PhiFound from e x.inst
    phi-found seen x more z = at x.inst (place-of u s to b seen x more t z).2.phi ((place-of u s to b seen x more t z).2.there s.runs) (place-of u s to b seen x more t z).2.defined
        (line-in items u r to b t seen x more z).sound.row
      where
        at : (i : InstText) → PhiIsRight u (place-at (place-of u s to b seen x more t z).0 (place-of u s to b seen x more t z).1 b seen x more) i
            → OperandsThere kind.Proc u (place-at (place-of u s to b seen x more t z).0 (place-of u s to b seen x more t z).1 b seen x more) i
            → Each (λ (y : Use). defines_value y.value u ≡ true) (uses i) → RowIs u i → PhiFound from e i
        at (phi_text ty es) p o k row =
            let once : edges_naming from es ≡ 1 = ap (λ y. edges_naming y es) (sym (ap label_or (block-named from u.blocks text q))) ∙ block-has' p.2 in
            let both = Each-zip (IsThereOnEdge u (label_or b.label)) (λ (y : EdgeText). IsOf u ty y.value) (λ (y : EdgeText). IsThereOnEdge u (label_or b.label) y × IsOf u ty y.value)
            (λ y a c. (a, c)) es o row.1 in
            let all = Each-zip (λ (y : EdgeText). IsThereOnEdge u (label_or b.label) y × IsOf u ty y.value) (λ (y : EdgeText). defines_value y.value u ≡ true) (EdgeGood ty) (λ y a c. (a, c)) es both
            (Each-of-map (λ (y : Use). defines_value y.value u ≡ true) (λ (y : EdgeText). used data_or_time_needed y.value) es k) in
            let x = edge-found (EdgeGood ty) from es all once in
            let d = edge-value ty row.0 x.0 x.1 x.2 in
            (d.0, ap (option_and_then (datum_at e)) x.3 ∙ d.1)
          where
            block-has' : Each (λ (y : BlockText). has_edge y (label_or b.label) ≡ true → edges_naming (label_or y.label) es ≡ 1) u.blocks → edges_naming (label_or text.label) es ≡ 1
            block-has' h = block-has (λ (y : BlockText). has_edge y (label_or b.label) ≡ true → edges_naming (label_or y.label) es ≡ 1) from u.blocks text h q edge
        at _ p o k row = tt

    phis-found : (seen ls : List LineText) → b.lines ≡ seen ++ ls → Each (λ (x : LineText). PhiFound from e x.inst) ls
    phis-found seen [] z = tt
    phis-found seen (x ∷ ls) z = (phi-found seen x ls z, phis-found (seen ++ x ∷ []) ls (z ∙ sym (append_assoc seen (x ∷ []) ls)))

    -- the edge leads to the block, where each value is held that is there
    pub edge-holds : (c : Control) × (entered u e from to ≡ Some c) × (c.unit ≡ u) × ControlHolds c
    edge-holds =
        let k = all-taken from e b.lines (phis-found [] b.lines refl) in (
          at-block u to b.lines k.to,
          ap (option_and_then (λ (x : BlockText). option_map (at-block u to x.lines) (phis_taken from e x.lines))) t ∙ ap (option_map (at-block u to b.lines)) k.is,
          refl,
          record {
            steady = s;
            text = b;
            block = t;
            before = [];
            split = refl;
            there = λ n d h. k.stays n (end-holds n d (there-after u text b edge (ap (λ y. block_of y u.blocks) label-is ∙ t) n h));
            phis = k.phis;
            more = block-has (λ (x : BlockText). NotNil x.lines) to u.blocks b s.shaped t;
          },
        )
