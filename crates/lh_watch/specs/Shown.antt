-- A frame shown to a list of members.
use Rattle.std.specs.Prelude.{◌≡◌, ◌⊎◌, ℕ, List, ◌∷◌, ◌++◌, Option, Bool, not, map, filter}
use Rattle.std.specs.List.{flat_map, position_from, list_any}
use Rattle.std.specs.Str.{bytes_eq}
use Rattle.lh_types.specs.Pictures.{Picture}
use Rattle.lh_watch.specs.declared.watcher.Next.TheVariants.{Done}
use Rattle.lh_watch.specs.Members.{Member, seen, says, is_done, is_stop, report_of}

-- whether the frame leaves it in the list
abbrev pub stays : Picture → Member → Bool
stays f m = not (is_done (says f m))

-- the members after the frame: each has seen it, and those that are done are gone
abbrev pub shown : Picture → List Member → List Member
shown f ms = map (seen f) (filter (stays f) ms)

-- the reports of those that are done, in order
abbrev pub reports_of : Picture → List Member → List ℕ
reports_of f ms = flat_map (λ m. report_of (seen f m)) (filter (λ m. is_done (says f m)) ms)

-- the place, among those that stay, of the first that says stop
abbrev pub first_stop : Picture → List Member → Option ℕ
first_stop f ms = position_from (λ m. is_stop (says f m)) 0 (filter (stays f) ms)

-- Memory ran out at one member: the frame was shown to all before it and to none behind it. The member itself is as it was,
-- or it is done, has seen the frame, and is still there.
pub record IsPartlyShown (f : Picture) (old new : List Member) : Type 0 where
  pub before : List Member
  pub at : Member
  pub behind : List Member
  pub split : old ≡ before ++ at ∷ behind
  pub now : (new ≡ shown f before ++ at ∷ behind) ⊎ ((says f at ≡ Done) × (new ≡ shown f before ++ seen f at ∷ behind))

-- whether its title is one of these
abbrev pub is_asked : List (List ℕ) → Member → Bool
is_asked titles m = list_any (λ t. bytes_eq t m.rule.title) titles

-- the members whose titles are among these, in order
abbrev pub kept : List (List ℕ) → List Member → List Member
kept titles ms = filter (is_asked titles) ms
