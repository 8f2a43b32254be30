-- The rule of the tests' own watcher, which says its word at one frame.
use Rattle.std.specs.Prelude.{ℕ, [], ◌∷◌, nat_eq, if◌then◌else◌, codes, decimal, slice_index}
use Rattle.lh_types.specs.Raised.{raised}
use Rattle.lh_watch.specs.declared.watcher.Next.{Next}
use Rattle.lh_watch.specs.declared.watcher.Next.TheVariants.{Go}
use Rattle.lh_watch.specs.Members.{Rule}

-- It counts the frames that it has seen, and says go at each but frame `turn`, counted from 1.
abbrev pub scripted : (name turn : ℕ) → (word : Next) → Rule
scripted name turn word =
    record {
      title = codes "scripted";
      next = λ ns f. let seen = raised (slice_index ns 0) 1 in (seen ∷ [], if nat_eq seen turn then word else Go);
      text = λ ns. name ∷ decimal (slice_index ns 0);
    }
