use Rattle.lh_flat_parts.proofs.StepPaths.{follow-found, follow-within, follow-follows}
use Rattle.lh_flat_parts.proofs.resolve.Resolver.follow.Goals as goal

pub go_forth-requires-clause-found : goal.go_forth-requires-clause-found
go_forth-requires-clause-found c = follow-found _ _ _ _ c.go_back.ensures.steps c.go_back.ensures.parts c.requires.found

pub go_forth-requires-clause-within : goal.go_forth-requires-clause-within
go_forth-requires-clause-within c = follow-within _ _ c.args.value.0 _ _ _ _ c.go_back.ensures.steps c.requires.in_place c.requires.is_in c.in_ok-go_back.ensures.back

pub returns-clause-follows : goal.returns-clause-follows
returns-clause-follows c =
    follow-follows _ _ c.args.value.0 _ _ _ _ _ _ _ c.go_back.ensures.steps c.requires.in_place c.requires.is_in c.in_ok-go_back.ensures.back c.go_back.ensures.parts c.in_ok-go_forth.ensures.parts
    c.in_ok-go_forth.ensures.met
