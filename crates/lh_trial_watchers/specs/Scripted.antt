-- The rule of the trials' own watcher, which says its word at one frame.
use Rattle.std.specs.Prelude.{ℕ, List, [], ◌∷◌, ◌++◌, nat_eq, if◌then◌else◌, codes, decimal, slice_index}
use Rattle.lh_types.specs.Raised.{raised}
use Rattle.lh_watch.specs.declared.watcher.Next.{Next}
use Rattle.lh_watch.specs.declared.watcher.Next.TheVariants.{Go}
use Rattle.lh_watch.specs.Members.{Rule}
use Rattle.lh_trial_watchers.specs.declared.speaker.Title.{Title}
use Rattle.lh_trial_watchers.specs.declared.speaker.Title.TheVariants.{A, B, C}

-- the title of each
abbrev pub title_of : Title → List ℕ
title_of A = codes "A"
title_of B = codes "B"
title_of C = codes "C"

-- It counts the frames that it has seen, and says go at each but frame `turn`, counted from 1.
abbrev pub scripted : Title → (turn : ℕ) → (word : Next) → Rule
scripted title turn word =
    record {
      title = title_of title;
      next = λ ns f. let seen = raised (slice_index ns 0) 1 in (seen ∷ [], if nat_eq seen turn then word else Go);
      text = λ ns. title_of title ++ decimal (slice_index ns 0);
    }
