-- The calls that merge drives.
use Rattle.std.proofs.Common.{◌≡◌, List, [], ◌∷◌, ◌++◌, Bool, true, false, not, refl, ap, sym, ◌∙◌, subst, append_assoc}
use Rattle.std.specs.Bool.{if◌then◌else◌}
use Rattle.std.specs.List.{list_any, filter}
use Rattle.std.proofs.Math.Bool.{and-true}
use Rattle.lh_unit.specs.Within.{Each}
use Rattle.lh_types.specs.Types.{int_type}
use Rattle.lh_types.specs.declared.op.Op.TheVariants.{Or}
use Rattle.lh_term.specs.Tree.{Tree}
use Rattle.lh_term.specs.Types.{type_of, Chooses}
use Rattle.lh_term.specs.SameTree.{same_tree}
use Rattle.lh_term.specs.Make.{make_operation, make_choice}
use Rattle.lh_term.specs.Conjuncts.{conjuncts_of}
use Rattle.lh_term.specs.Arena.{trees, tree_at, trees_at, AreIn, StandsForTree, Grows}
use Rattle.lh_term.specs.declared.part.Part.{Part}
use Rattle.lh_term.specs.declared.term.TermNode.{TermNode}
use Rattle.lh_term.specs.declared.term.TermId.{TermId}
use Rattle.lh_term.proofs.Swaps.{tree_grown, in_grown, stands_grown, grows_on}
use Rattle.lh_region_def.specs.Rows as text
use Rattle.lh_region_def.specs.Typed.{IsOfType}
use Rattle.lh_region_def.specs.Joins.{in_each}
use Rattle.lh_region_def.specs.Adjacent.{beyond, drive_merged}
use Rattle.lh_term.proofs.Conditions.{AllBits, conjuncts_are_bits, filter-bits}
use Rattle.lh_region_def.proofs.MergedValues.{or-condition, made-choice, beyond-condition}
use Rattle.lh_region_joins.specs.Joins.{IsConditionAt, edge_on}
use Rattle.lh_region_joins.proofs.Conditions.{condition-grown, stands-condition, grows-none}
use Rattle.lh_region_joins.proofs.Selectors.{bits-conditions}
use Rattle.lh_region.specs.Stands.{IsDrive, AreDrives}
use Rattle.lh_region.specs.declared.rows.DriveRow.{DriveRow}
use Rattle.lh_region.proofs.RowLists.{drives-grown, drives-push}
use Rattle.lh_shape.specs.Merging.{are_alike, merged_from}
use Rattle.lh_shape.specs.Merged.{MergesDriveIf, MergesDrive}
use Rattle.lh_shape.specs.ByIds.{drive_at, drives_at, DriveRowFits, DrivesFit}
use Rattle.lh_shape.proofs.MergedDriveLaws.{part-alike}
use Rattle.lh_shape.proofs.Alike.{drive-is}

-- ---- drives as an arena grows

pub drive-grown : (old new : List TermNode) (d : DriveRow) → Grows old new → DriveRowFits old d → drive_at new d ≡ drive_at old d
drive-grown old new d g f =
    let a = tree_grown old new g d.cond f.cond.is_in in
    let b = tree_grown old new g d.value f.value_in in
    let c = tree_grown old new g d.delay f.delay_in in
    λ i. record { cond = a i; part = d.part; value = b i; delay = c i }

pub fits-grown : (old new : List TermNode) (d : DriveRow) → Grows old new → DriveRowFits old d → DriveRowFits new d
fits-grown old new d g f = record {
  cond = condition-grown old new d.cond g f.cond;
  value_in = in_grown old new g d.value f.value_in;
  value = subst (λ (t : Tree). IsOfType d.part.ty t) (sym (tree_grown old new g d.value f.value_in)) f.value;
  delay_in = in_grown old new g d.delay f.delay_in;
}

pub drives-fit-grown : (old new : List TermNode) (ds : List DriveRow) → Grows old new → DrivesFit old ds → DrivesFit new ds
drives-fit-grown old new [] g f = tt
drives-fit-grown old new (d ∷ ds) g f = (fits-grown old new d g f.0, drives-fit-grown old new ds g f.1)

pub drives-at-grown : (old new : List TermNode) (ds : List DriveRow) → Grows old new → DrivesFit old ds → drives_at new ds ≡ drives_at old ds
drives-at-grown old new [] g f = refl
drives-at-grown old new (d ∷ ds) g f = let a = drive-grown old new d g f.0 in let b = drives-at-grown old new ds g f.1 in λ i. a i ∷ b i

pub is-grown : (old new : List TermNode) (d : DriveRow) (x : text.Drive) → Grows old new → IsDrive old d x → IsDrive new d x
is-grown old new d x g h = record {
  cond = stands_grown old new g d.cond x.cond h.cond;
  part = h.part;
  value = stands_grown old new g d.value x.value h.value;
  delay = stands_grown old new g d.delay x.delay h.delay;
}

pub is-itself : (ns : List TermNode) (d : DriveRow) → DriveRowFits ns d → IsDrive ns d (drive_at ns d)
is-itself ns d f = record {
  cond = record { is_in = f.cond.is_in; tree = refl };
  part = refl;
  value = record { is_in = f.value_in; tree = refl };
  delay = record { is_in = f.delay_in; tree = refl };
}

-- one drive for two is of the arena
merged-fits : (now new : List TermNode) (a b next : DriveRow) → DriveRowFits now a → DriveRowFits now b → b.part ≡ a.part → IsDrive new next (drive_merged (drive_at now a) (drive_at now b)) → DriveRowFits new next
merged-fits now new a b next f g e h =
    let ca : Tree = tree_at (trees now) a.cond in
    let cb : Tree = tree_at (trees now) b.cond in
    let va : Tree = tree_at (trees now) a.value in
    let vb : Tree = tree_at (trees now) b.value in
    let second : IsOfType a.part.ty vb = subst (λ (p : Part). IsOfType p.ty vb) e g.value in
    let made : IsOfType a.part.ty (make_choice (beyond ca cb) va vb) = made-choice (beyond ca cb) va vb a.part.ty (beyond-condition ca cb g.cond.cond) f.value second in
    let here : IsOfType a.part.ty (tree_at (trees new) next.value) = subst (λ (t : Tree). IsOfType a.part.ty t) (sym h.value.tree) made in
    record {
      cond = stands-condition new next.cond (make_operation Or (ca ∷ cb ∷ [])) h.cond (or-condition ca cb f.cond.cond g.cond.cond);
      value_in = h.value.is_in;
      value = subst (λ (p : Part). IsOfType p.ty (tree_at (trees new) next.value)) (sym h.part) here;
      delay_in = h.delay.is_in;
    }

-- ---- `take`

pub takes-both : (old new : List TermNode) (merged : List DriveRow) (last drive : DriveRow) (more : List DriveRow) (next : DriveRow) →
    true ≡ are_alike (drive_at old last) (drive_at old drive) → more ≡ merged → IsDrive new next (drive_merged (drive_at old last) (drive_at old drive))
    → MergesDrive old new merged last drive more next
takes-both old new merged last drive more next e m h = subst (λ (b : Bool). MergesDriveIf b old new merged last drive more next) e (m, h)

pub takes-one : (old new : List TermNode) (merged : List DriveRow) (last drive : DriveRow) (more : List DriveRow) (next : DriveRow) →
    false ≡ are_alike (drive_at old last) (drive_at old drive) → more ≡ merged ++ last ∷ [] → next ≡ drive → MergesDrive old new merged last drive more next
takes-one old new merged last drive more next e m h = subst (λ (b : Bool). MergesDriveIf b old new merged last drive more next) e (m, h)

-- ---- the loop

-- the drives before the last one were put to the others
pub record MergedSoFar (old now : List TermNode) (all : List text.Drive) (merged : List DriveRow) (last : DriveRow) (rest : List DriveRow) : Type 0 where
  pub grows : Grows old now
  pub done : List text.Drive
  pub are : AreDrives now merged done
  pub fits : DriveRowFits now last
  pub rest_fit : DrivesFit old rest
  pub so_far : done ++ merged_from (drive_at now last) (drives_at old rest) ≡ all

pub merged-none : (old : List TermNode) (first last : DriveRow) (merged rest : List DriveRow) → merged ≡ [] → last ≡ first → DriveRowFits old first → DrivesFit old rest →
    MergedSoFar old old (merged_from (drive_at old first) (drives_at old rest)) merged last rest
merged-none old first last merged rest m e f g = record {
  grows = grows-none old;
  done = [];
  are = subst (λ (ds : List DriveRow). AreDrives old ds []) (sym m) tt;
  fits = subst (DriveRowFits old) (sym e) f;
  rest_fit = g;
  so_far = ap (λ (d : DriveRow). merged_from (drive_at old d) (drives_at old rest)) e;
}

module _ (old now new : List TermNode) (all : List text.Drive) (merged more : List DriveRow) (last d next : DriveRow) (rest left : List DriveRow) (split : rest ≡ d ∷ left)
    (h : MergedSoFar old now all merged last rest) where
  rests : DrivesFit old (d ∷ left)
  rests = subst (DrivesFit old) split h.rest_fit

  pub next-fits : DriveRowFits now d
  next-fits = fits-grown old now d h.grows rests.0

  same : drive_at now d ≡ drive_at old d
  same = drive-grown old now d h.grows rests.0

  step : h.done ++ merged_from (drive_at now last) (drives_at old (d ∷ left)) ≡ all
  step = ap (λ (ds : List DriveRow). h.done ++ merged_from (drive_at now last) (drives_at old ds)) (sym split) ∙ h.so_far

  pub merged-next : Grows now new → MergesDrive now new merged last d more next → MergedSoFar old new all more next left
  merged-next g t = at (are_alike (drive_at now last) (drive_at now d)) refl t
    where
      at : (b : Bool) → are_alike (drive_at now last) (drive_at now d) ≡ b → MergesDriveIf b now new merged last d more next → MergedSoFar old new all more next left
      at true e t = record {
        grows = grows_on old now new h.grows g;
        done = h.done;
        are = subst (λ (ds : List DriveRow). AreDrives new ds h.done) (sym t.0) (drives-grown now new merged h.done g h.are);
        fits = merged-fits now new last d next h.fits next-fits (part-alike (drive_at now last) (drive_at now d) e) t.1;
        rest_fit = rests.1;
        so_far =
            ap (λ (x : text.Drive). h.done ++ merged_from x (drives_at old left)) (drive-is new next (drive_merged (drive_at now last) (drive_at now d)) t.1)
            ∙ ap (λ (x : text.Drive). h.done ++ merged_from (drive_merged (drive_at now last) x) (drives_at old left)) same
            ∙ ap (λ (b : Bool). h.done ++ (if b then merged_from (drive_merged (drive_at now last) (drive_at old d)) (drives_at old left) else drive_at now last
            ∷ merged_from (drive_at old d) (drives_at old left))) (sym (ap (are_alike (drive_at now last)) (sym same) ∙ e))
            ∙ step;
      }
      at false e t = record {
        grows = grows_on old now new h.grows g;
        done = h.done ++ drive_at now last ∷ [];
        are = subst (λ (ds : List DriveRow). AreDrives new ds (h.done ++ drive_at now last ∷ [])) (sym t.0)
            (drives-grown now new (merged ++ last ∷ []) (h.done ++ drive_at now last ∷ []) g (drives-push now merged h.done last (drive_at now last) h.are (is-itself now last h.fits)));
        fits = subst (DriveRowFits new) (sym t.1) (fits-grown now new d g next-fits);
        rest_fit = rests.1;
        so_far =
            ap (λ (x : DriveRow). (h.done ++ drive_at now last ∷ []) ++ merged_from (drive_at new x) (drives_at old left)) t.1
            ∙ ap (λ (x : text.Drive). (h.done ++ drive_at now last ∷ []) ++ merged_from x (drives_at old left)) (drive-grown now new d g next-fits ∙ same)
            ∙ append_assoc h.done (drive_at now last ∷ []) (merged_from (drive_at old d) (drives_at old left))
            ∙ ap (λ (b : Bool). h.done ++ (if b then merged_from (drive_merged (drive_at now last) (drive_at old d)) (drives_at old left) else drive_at now last
            ∷ merged_from (drive_at old d) (drives_at old left))) (sym (ap (are_alike (drive_at now last)) (sym same) ∙ e))
            ∙ step;
      }

pub merged-end : (old now : List TermNode) (all : List text.Drive) (merged more : List DriveRow) (last : DriveRow) (rest : List DriveRow) → rest ≡ [] → more ≡ merged ++ last ∷ []
    → MergedSoFar old now all merged last rest → AreDrives now more all
merged-end old now all merged more last rest e m h =
    let whole : h.done ++ drive_at now last ∷ [] ≡ all = ap (λ (ds : List DriveRow). h.done ++ merged_from (drive_at now last) (drives_at old ds)) (sym e) ∙ h.so_far in
    subst (AreDrives now more) whole (subst (λ (ds : List DriveRow). AreDrives now ds (h.done ++ drive_at now last ∷ [])) (sym m)
    (drives-push now merged h.done last (drive_at now last) h.are (is-itself now last h.fits)))

-- ---- `selector`

filter-alike : (f g : Tree → Bool) → ((t : Tree) → f t ≡ g t) → (ts : List Tree) → filter f ts ≡ filter g ts
filter-alike f g e [] = refl
filter-alike f g e (t ∷ ts) = let a = e t in let b = filter-alike f g e ts in λ i. if a i then t ∷ b i else b i

abbrev pub beyond-all : (c d : Tree) → List Tree
beyond-all c d = filter (λ k. not (list_any (same_tree k) (conjuncts_of c))) (conjuncts_of d)

-- the conjuncts that one edge lacks
pub one-edge : (c : Tree) (ts : List Tree) → filter (λ k. not (in_each (edge_on c ∷ []) k)) ts ≡ filter (λ k. not (list_any (same_tree k) (conjuncts_of c))) ts
one-edge c ts = filter-alike (λ k. not (in_each (edge_on c ∷ []) k)) (λ k. not (list_any (same_tree k) (conjuncts_of c))) (λ k. ap not (and-true (list_any (same_tree k) (conjuncts_of c)))) ts

-- the conjuncts of a condition beyond those of another are conditions
pub beyond-conditions : (ns : List TermNode) (c d : TermId) (ts : List TermId) → IsConditionAt ns d → AreIn ns ts → trees_at ns ts ≡ beyond-all (tree_at (trees ns) c) (tree_at (trees ns) d)
    → Each (IsConditionAt ns) ts
beyond-conditions ns c d ts i w e =
    let x : Tree = tree_at (trees ns) d in
    let bits : AllBits (conjuncts_of x) = conjuncts_are_bits x i.cond.typed i.cond.type in
    bits-conditions ns ts w (subst AllBits (sym e) (filter-bits (λ k. not (list_any (same_tree k) (conjuncts_of (tree_at (trees ns) c)))) (conjuncts_of x) bits))

-- ---- `join`

-- the choice between the values of two drives
pub join-chooses : (old new : List TermNode) (a b : DriveRow) (t : TermId) → Grows old new → DriveRowFits old a → DriveRowFits old b → b.part ≡ a.part
    → StandsForTree new t (beyond (tree_at (trees old) a.cond) (tree_at (trees old) b.cond)) →
    Chooses (type_of (tree_at (trees new) t)) (type_of (tree_at (trees new) a.value)) (type_of (tree_at (trees new) b.value))
join-chooses old new a b t g f k e h =
    let ca : Tree = tree_at (trees old) a.cond in
    let cb : Tree = tree_at (trees old) b.cond in
    let one : type_of (tree_at (trees new) t) ≡ int_type 1 = ap type_of h.tree ∙ (beyond-condition ca cb k.cond.cond).type in
    let va : type_of (tree_at (trees new) a.value) ≡ a.part.ty = ap type_of (tree_grown old new g a.value f.value_in) ∙ f.value.type in
    let vb : type_of (tree_at (trees new) b.value) ≡ b.part.ty = ap type_of (tree_grown old new g b.value k.value_in) ∙ k.value.type in
    (one, va ∙ ap (λ (p : Part). p.ty) (sym e) ∙ sym vb)

-- what was made is the drive of both
pub join-is : (old one two new : List TermNode) (a b : DriveRow) (t value cond : TermId) → Grows old one → Grows one two → Grows two new → DriveRowFits old a → DriveRowFits old b →
    StandsForTree one t (beyond (tree_at (trees old) a.cond) (tree_at (trees old) b.cond)) →
    StandsForTree two value (make_choice (tree_at (trees one) t) (tree_at (trees one) a.value) (tree_at (trees one) b.value)) →
    StandsForTree new cond (make_operation Or (tree_at (trees two) a.cond ∷ tree_at (trees two) b.cond ∷ [])) →
    IsDrive new (record { cond = cond; part = a.part; value = value; delay = a.delay }) (drive_merged (drive_at old a) (drive_at old b))
join-is old one two new a b t value cond g1 g2 g3 f k s v c =
    let g12 = grows_on old one two g1 g2 in
    let g123 = grows_on old two new g12 g3 in
    let ca = tree_grown old two g12 a.cond f.cond.is_in in
    let cb = tree_grown old two g12 b.cond k.cond.is_in in
    let va = tree_grown old one g1 a.value f.value_in in
    let vb = tree_grown old one g1 b.value k.value_in in
    let st = s.tree in
    let whole : make_choice (tree_at (trees one) t) (tree_at (trees one) a.value) (tree_at (trees one) b.value)
    ≡ make_choice (beyond (tree_at (trees old) a.cond) (tree_at (trees old) b.cond)) (tree_at (trees old) a.value) (tree_at (trees old) b.value) = λ i. make_choice (st i) (va i) (vb i) in
    let v2 = stands_grown two new g3 value (make_choice (tree_at (trees one) t) (tree_at (trees one) a.value) (tree_at (trees one) b.value)) v in
    record {
      cond = record { is_in = c.is_in; tree = c.tree ∙ (λ i. make_operation Or (ca i ∷ cb i ∷ [])) };
      part = refl;
      value = record { is_in = v2.is_in; tree = v2.tree ∙ whole };
      delay = record { is_in = in_grown old new g123 a.delay f.delay_in; tree = tree_grown old new g123 a.delay f.delay_in };
    }
