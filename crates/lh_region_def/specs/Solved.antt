-- A region as equations: each place has the condition and the knowledge that the edges give which lead to it, and the edges and rows of the
-- region are those that its places give so.
use Rattle.std.specs.Prelude.{◌≡◌, ℕ, List, [], ◌∷◌, ◌++◌, length, map, true, slice_get}
use Rattle.std.specs.List.{flat_map}
use Rattle.std.specs.Option.{option_map_or}
use Rattle.lh_term.specs.Tree.{Tree}
use Rattle.lh_term.specs.Make.{bit_of}
use Rattle.lh_flat.specs.Flat.{FlatBlockText, with_merge}
use Rattle.lh_region_def.specs.Known.{nothing_known}
use Rattle.lh_region_def.specs.Rows.{Rows, no_rows}
use Rattle.lh_region_def.specs.Joins.{RegionPlace, RegionEdge, any_taken, known_at}
use Rattle.lh_region_def.specs.Places.{Region, Midst, takes_all}
use Rattle.lh_region_def.specs.Regions.{Course, comes_to, edges_to, all_places, region_from}

-- the edges and rows of nothing
abbrev pub gives_nothing : Midst
gives_nothing = record { known = nothing_known; edges = []; rows = no_rows }

-- what the lines of a block give at a place, with this condition and what is known where these edges join: the edges that leave it, and its rows
abbrev pub block_gives : Region → RegionPlace → Tree → List RegionEdge → FlatBlockText → Midst
block_gives g p q es b =
    takes_all g (record { place = p; label = b.label; cond = q }) b.lines
    (record { known = known_at es (with_merge b.merge b.lines); edges = []; rows = no_rows })

-- the same, if the block is there
abbrev pub place_gives : Region → RegionPlace → Tree → List RegionEdge → Midst
place_gives g p q es = option_map_or (block_gives g p q es) (slice_get g.blocks p.block) gives_nothing

-- what a place gives to which these edges lead: control is there where one of them is taken, and never where there is none
abbrev pub reached_gives : Region → RegionPlace → List RegionEdge → Midst
reached_gives g p [] = gives_nothing
reached_gives g p (e ∷ more) = place_gives g p (any_taken (e ∷ more)) (e ∷ more)

-- rows, and others behind them
abbrev pub rows_behind : Rows → Rows → Rows
rows_behind r s = record { probes = r.probes ++ s.probes; drives = r.drives ++ s.drives; asserts = r.asserts ++ s.asserts; ends = r.ends ++ s.ends }

abbrev pub rows_of : List Rows → Rows
rows_of [] = no_rows
rows_of (r ∷ more) = rows_behind r (rows_of more)

-- what the block gives at which a region starts, where these edges lead into it
abbrev pub start_gives : Region → (start : ℕ) → List RegionEdge → Midst
start_gives g b es = place_gives g (record { turns = 0; block = b }) (bit_of true) es

-- The edges of a region are those that its start and its places give, each place by those of these very edges that lead to it; and so are its rows.
pub record IsSolved (g : Region) (b : ℕ) (es : List RegionEdge) (c : Course) : Type 0 where
  pub edges : c.edges ≡ (start_gives g b es).edges ++ flat_map (λ p. (reached_gives g p (edges_to p c.edges)).edges) (all_places (length g.blocks))
  pub rows : c.rows ≡ rows_behind (start_gives g b es).rows (rows_of (map (λ p. (reached_gives g p (edges_to p c.edges)).rows) (all_places (length g.blocks))))

abbrev pub RegionIsSolved : Type 0
RegionIsSolved = (g : Region) (b : ℕ) (es : List RegionEdge) (c : Course) → region_from g b es ≡ comes_to c → IsSolved g b es c
