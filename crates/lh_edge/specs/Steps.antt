-- What the calls compute on the way.
use Rattle.std.specs.Prelude.{◌≡◌, ℕ, ◌+◌, ◌/◌, ◌%◌, ◌^◌, ◌<◌, ◌≤◌, Bool, true, false, not, ◌&&◌, ◌||◌, nat_eq, bit_and, ◌*◌, if◌then◌else◌, List, [], ◌∷◌, ◌++◌, length, slice_get, slice_index_or, Option, Some, None}
use Rattle.std.specs.List.{list_any}
use Rattle.std.proofs.Common.{Vec}
use Rattle.std.proofs.Common.{zero, suc}
use Rattle.lh_term.specs.declared.part.Part.{Part}
use Rattle.lh_term.specs.declared.term.TermId.{TermId}
use Rattle.lh_term.specs.declared.term.TermNode.{TermNode}
use Rattle.lh_term.specs.Tree.{Tree, past_of, now_of}
use Rattle.lh_term.specs.SameTree.{same_tree}
use Rattle.lh_term.specs.Arena.{tree_at, trees, trees_at, IsIn, AreIn}
use Rattle.lh_edge.specs.Atoms.{contains_past, has}
use Rattle.lh_edge.specs.Valuations.{differ, holds}
use Rattle.lh_edge.specs.Shown.{can_show}
use Rattle.lh_edge.specs.Triggers.{comes_first, with_part}
use Rattle.lh_edge.specs.Reached.{is_atom, TellsPassed}
use Rattle.lh_edge.specs.declared.shown.Sight.{Sight}

-- ---- values before

-- each flag tells whether a value before is in the term of its number
abbrev pub TellPasts : List TermNode → List Bool → Type 0
TellPasts ns flags = (i : ℕ) → i < length flags → slice_get flags i ≡ Some (contains_past (tree_at (trees ns) (record { 0 = i })))

-- ---- atoms

-- no term stands twice
abbrev pub AreDistinct : List Tree → Type 0
AreDistinct [] = Unit {0}
AreDistinct (t ∷ ts) = (has ts t ≡ false) × AreDistinct ts

-- ids of terms of a list, no two alike
pub record AreIdsOf (ns : List TermNode) (ts : List Tree) (ids : List TermId) : Type 0 where
  pub are_in : AreIn ns ids
  pub distinct : AreDistinct (trees_at ns ids)
  pub sound : (t : Tree) → has (trees_at ns ids) t ≡ true → has ts t ≡ true

-- of all terms of the list, which are at most twelve
pub record AreAllIdsOf (ns : List TermNode) (ts : List Tree) (ids : List TermId) : Type 0 where
  pub are : AreIdsOf ns ts ids
  pub few : length ids ≤ 12
  pub whole : (t : Tree) → has ts t ≡ true → has (trees_at ns ids) t ≡ true

-- the ids of the terms of a list, or more than twelve of them
abbrev pub FindsThe : List TermNode → List Tree → Option (List TermId) → Type 0
FindsThe ns ts (Some ids) = AreAllIdsOf ns ts ids
FindsThe ns ts None = (ids : List TermId) × AreIdsOf ns ts ids × (12 < length ids)

abbrev pub found_items : {A : Type 0} → Option (Vec TermId A) → Option (List TermId)
found_items (Some v) = Some v.items
found_items None = None

-- ---- valuations by number: bit j is that of atom j

abbrev pub is_odd : ℕ → Bool
is_odd k = nat_eq (k % 2) 1

abbrev pub numbered : List Tree → ℕ → Tree → Bool
numbered [] k t = false
numbered (a ∷ more) k t = if same_tree a t then is_odd k else numbered more (k / 2) t

-- whether the term contains a value before and is not this one
abbrev pub is_other : Tree → Tree → Bool
is_other b t = contains_past t && not (same_tree b t)

-- whether two numbers have the same bits at all atoms but the values before other than b
abbrev pub agree : Tree → List Tree → ℕ → ℕ → Bool
agree b [] k j = true
agree b (a ∷ more) k j = (is_other b a || nat_eq (k % 2) (j % 2)) && agree b more (k / 2) (j / 2)

-- whether the term holds at the n valuations from number k on
abbrev pub table_from : List Tree → Tree → ℕ → ℕ → List Bool
table_from atoms e k zero = []
table_from atoms e k (suc n) = holds (numbered atoms k) e ∷ table_from atoms e (k + 1) n

-- whether the table, from number j on, is true at each number that agrees with k
abbrev pub stays_from : Tree → List Tree → ℕ → ℕ → List Bool → Bool
stays_from b atoms k j [] = true
stays_from b atoms k j (h ∷ hs) = (h || not (agree b atoms k j)) && stays_from b atoms k (j + 1) hs

-- whether a part shows the valuation of number k
abbrev pub shows_at : List Bool → List Tree → ℕ → Part → Bool
shows_at table atoms k p = differ (numbered atoms k (past_of p)) (numbered atoms k (now_of p)) && stays_from (past_of p) atoms k 0 table

-- whether each valuation from number k on at which the table is true is shown by a part
abbrev pub shown_from : List Bool → List Tree → List Part → ℕ → List Bool → Bool
shown_from table atoms parts k [] = true
shown_from table atoms parts k (h ∷ hs) = (not h || list_any (shows_at table atoms k) parts) && shown_from table atoms parts (k + 1) hs

-- ---- what a part shows, by bits of numbers

-- whether a number has one of these bits
abbrev pub has_bit : ℕ → ℕ → Bool
has_bit k bit = not (nat_eq (bit_and k bit) 0)

-- the bit of the first atom that is this term, or 0
abbrev pub bit_of_atom : List Tree → Tree → ℕ
bit_of_atom [] t = 0
bit_of_atom (a ∷ more) t = if same_tree a t then 1 else 2 * bit_of_atom more t

-- the bits of all atoms but the values before other than b
abbrev pub kept_bits : Tree → List Tree → ℕ
kept_bits b [] = 0
kept_bits b (a ∷ more) = if is_other b a then 2 * kept_bits b more else 1 + 2 * kept_bits b more

-- whether the table, from number j on, is true at each number that has, of the bits that are kept, those of c
abbrev pub holds_where : (kept c j : ℕ) → List Bool → Bool
holds_where kept c j [] = true
holds_where kept c j (h ∷ hs) = (h || not (nat_eq c (bit_and j kept))) && holds_where kept c (j + 1) hs

-- each flag tells it of its number
pub record HoldsBy (table : List Bool) (kept : ℕ) (flags : List Bool) : Type 0 where
  pub length_is : length flags ≡ length table
  pub each : (c : ℕ) → c < length table → slice_index_or flags c false ≡ holds_where kept c 0 table

-- how a part shows valuations
pub record IsSight (table : List Bool) (atoms : List Tree) (p : Part) (s : Sight) : Type 0 where
  pub before : s.before ≡ bit_of_atom atoms (past_of p)
  pub after : s.after ≡ bit_of_atom atoms (now_of p)
  pub kept : s.kept ≡ kept_bits (past_of p) atoms
  pub holds : HoldsBy table s.kept s.holds.items

-- the valuations that a part shows were marked
pub record AddsShown (table : List Bool) (atoms : List Tree) (p : Part) (old new : List Bool) : Type 0 where
  pub length_is : length new ≡ length old
  pub each : (k : ℕ) → k < length table → slice_index_or new k false ≡ (slice_index_or old k false || shows_at table atoms k p)

-- a valuation is marked where one of the parts shows it
pub record AreMarks (table : List Bool) (atoms : List Tree) (parts : List Part) (shown : List Bool) : Type 0 where
  pub length_is : length shown ≡ length table
  pub each : (k : ℕ) → k < length table → slice_index_or shown k false ≡ list_any (shows_at table atoms k) parts

-- the values of terms by their ids
abbrev pub values_at : (ℕ → Bool) → List TermId → List Bool
values_at values [] = []
values_at values (a ∷ more) = values a.0 ∷ values_at values more

-- what the check of all valuations knows of its atoms
pub record IsKnown (ns : List TermNode) (atoms : List TermId) (pasts : ℕ → Bool) : Type 0 where
  pub are_in : AreIn ns atoms
  pub tells : TellsPassed ns contains_past pasts atoms

-- the part of one bit, waited on, whose value before a term is
abbrev pub showing_of : List Part → Tree → Option Part
showing_of waited (past_of p) = if can_show waited p then Some p else None
showing_of waited t = None

-- ids with one more, unless its term is there
abbrev pub with_missing : List TermNode → List TermId → TermId → List TermId
with_missing ns ids x = if has (trees_at ns ids) (tree_at (trees ns) x) then ids else ids ++ x ∷ []

-- the same, unless its term is a connective
abbrev pub with_atom : List TermNode → List TermId → TermId → List TermId
with_atom ns ids x = if is_atom (tree_at (trees ns) x) then with_missing ns ids x else ids

-- the value now of the part whose value before the term is, if it is one
abbrev pub present_tree : Tree → Option Tree
present_tree (past_of p) = Some (now_of p)
present_tree t = None

abbrev pub IsPresent : List TermNode → Tree → Option TermId → Type 0
IsPresent ns t None = present_tree t ≡ None
IsPresent ns t (Some y) = IsIn ns y × (present_tree t ≡ Some (tree_at (trees ns) y))

-- ids with one more, if there is one
abbrev pub with_some : List TermNode → List TermId → Option TermId → List TermId
with_some ns ids None = ids
with_some ns ids (Some y) = with_missing ns ids y

-- the value now was added to ids for the one at place k
pub record AddsPresent (old new : List TermNode) (ids : List TermId) (k : ℕ) (more : List TermId) : Type 0 where
  pub found : Option TermId
  pub made : IsPresent new (tree_at (trees old) (slice_index_or ids k (record { 0 = 0 }))) found
  pub added : more ≡ with_some new ids found

-- the parts with one more, if there is one, in its place
abbrev pub with_showing : Option Part → List Part → List Part
with_showing (Some p) ps = with_part p ps
with_showing None ps = ps

-- how many come before the place of a part
abbrev pub place_in : List Part → Part → ℕ
place_in [] p = 0
place_in (q ∷ qs) p = if comes_first p q then 0 else place_in qs p + 1

-- whether there is a value before, and each valuation of the atoms is shown
abbrev pub is_checked : Tree → Tree → List Tree → List Part → Bool
is_checked c e atoms parts = contains_past c && shown_from (table_from atoms e 0 (2 ^ length atoms)) atoms parts 0 (table_from atoms e 0 (2 ^ length atoms))
