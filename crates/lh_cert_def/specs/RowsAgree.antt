-- When the rows of two lists agree: place by place, in one order.
use Rattle.std.specs.Prelude.{List, [], ◌∷◌, ◌++◌, Bool, true, false, ◌&&◌}
use Rattle.std.specs.List.{list_any, list_all}
use Rattle.lh_unit.specs.declared.inst.Mode.{Mode}
use Rattle.lh_unit.specs.declared.inst.Mode.TheVariants.{Rise, Fall, Both, High, Low}
use Rattle.lh_term.specs.Tree.{Tree, now_of}
use Rattle.lh_term.specs.Same.{same_part}
use Rattle.lh_term.specs.SameTree.{same_tree}
use Rattle.lh_term.specs.declared.part.Part.{Part}
use Rattle.lh_region_def.specs.Rows.{Drive}
use Rattle.lh_cert_agree.specs.Agreeing.{agree}
use Rattle.lh_cert_rows.specs.Rows.{TriggerRow}

-- the lists are equally long, and the test holds of each and its partner
abbrev pub each_with_partner : {A : Type 0} → (A → A → Bool) → List A → List A → Bool
each_with_partner test [] [] = true
each_with_partner test (a ∷ more) (b ∷ others) = test a b && each_with_partner test more others
each_with_partner test _ _ = false

-- ---- drives

-- Two drives agree: one part, one delay, and a condition and a value that agree.
abbrev pub drive_agrees : Drive → Drive → Bool
drive_agrees a b = same_part a.part b.part && (same_tree a.delay b.delay && (agree a.cond b.cond && agree a.value b.value))

abbrev pub drives_agree : List Drive → List Drive → Bool
drives_agree ds es = each_with_partner drive_agrees ds es

-- ---- registers

abbrev pub same_mode : Mode → Mode → Bool
same_mode Rise Rise = true
same_mode Fall Fall = true
same_mode Both Both = true
same_mode High High = true
same_mode Low Low = true
same_mode _ _ = false

abbrev pub is_change : Mode → Bool
is_change Rise = true
is_change Fall = true
is_change _ = false

abbrev pub is_now : Tree → Bool
is_now (now_of p) = true
is_now _ = false

-- a rise or a fall of a part
abbrev pub is_edge : TriggerRow → Bool
is_edge g = is_change g.mode && is_now g.operand

-- both look for one change of one part, with gates that agree
abbrev pub is_match : TriggerRow → TriggerRow → Bool
is_match g h = same_mode g.mode h.mode && (same_tree g.operand h.operand && agree g.gate h.gate)

-- some trigger of the list is a match for this one
abbrev pub matched : List TriggerRow → TriggerRow → Bool
matched hs g = list_any (is_match g) hs

-- both drive one value after one delay
abbrev pub drive_same : TriggerRow → TriggerRow → Bool
drive_same g h = agree g.value h.value && same_tree g.delay h.delay

-- Two registers agree: they drive one part; each trigger of both is a rise or a fall of a part; each of the one drives the value of each of the
-- other after its delay; and each has a match in the other register.
abbrev pub register_agrees : Part × List TriggerRow → Part × List TriggerRow → Bool
register_agrees (p, gs) (q, hs) =
    same_part p q && (list_all is_edge (gs ++ hs) && (list_all (λ g. list_all (drive_same g) hs) gs && (list_all (matched hs) gs && list_all (matched gs) hs)))

abbrev pub registers_agree : List (Part × List TriggerRow) → List (Part × List TriggerRow) → Bool
registers_agree rs ss = each_with_partner register_agrees rs ss
