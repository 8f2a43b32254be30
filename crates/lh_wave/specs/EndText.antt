-- How the text of a trace ends.
use Rattle.std.specs.Prelude.{ℕ, List, [], ◌++◌, slice_get, codes, decimal}
use Rattle.std.specs.Option.{option_map_or}
use Rattle.lh_watch.specs.Members.{Member}
use Rattle.lh_wave.specs.declared.ending.End.{End}
use Rattle.lh_wave.specs.declared.ending.End.TheVariants.{Quiet, Steps, Runaway, Stop}

-- the title of the member at a place
abbrev pub title_at : List Member → ℕ → List ℕ
title_at ms place = option_map_or (λ (m : Member). m.rule.title) (slice_get ms place) []

-- the last line: why there is no further frame; a stop is told by the title of the member that said it
abbrev pub end_line : List Member → End → List ℕ
end_line ms Quiet = codes "end quiet\n"
end_line ms Steps = codes "end steps\n"
end_line ms (Runaway instance) = codes "end runaway " ++ decimal instance ++ codes "\n"
end_line ms (Stop place) = codes "end stop " ++ title_at ms place ++ codes "\n"
