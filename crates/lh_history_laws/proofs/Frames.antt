-- The entries of the wishes of one frame.
use Rattle.std.proofs.Common.{◌≡◌, ℕ, ◌+◌, List, [], ◌∷◌, ◌++◌, map, Bool, refl, ap, sym, ◌∙◌, append_assoc}
use Rattle.std.proofs.lemmas.List.{append-nil}
use Rattle.lh_time.specs.declared.Instant.{Instant}
use Rattle.lh_types.specs.Wish.{Wish, bits_due, writes_wish}
use Rattle.lh_types.specs.History.{claims_of, claims, entries_of, kept, made_from}
use Rattle.lh_history_laws.specs.Frames.{due_entries, frame_entries, WishesSplit, HistoriesJoin, FramesSplit}

claims_of-append : (made : Instant) (i : ℕ) (v w : Wish) → claims_of made i (v ++ w) ≡ claims_of made i v ++ claims_of made i w
claims_of-append made i [] w = refl
claims_of-append made i (e ∷ v) w = ap (λ cs. record { due = e.0.due; made = made; instance = i; bit = e.0.bit; value = e.1 } ∷ cs) (claims_of-append made i v w)

claims_of-bits_due : (due made : Instant) (i : ℕ) (ws : List (ℕ × Bool)) → claims_of made i (bits_due due ws) ≡ entries_of due made i ws
claims_of-bits_due due made i [] = refl
claims_of-bits_due due made i (w ∷ ws) = ap (λ cs. record { due = due; made = made; instance = i; bit = w.0; value = w.1 } ∷ cs) (claims_of-bits_due due made i ws)

pub wishes_split : WishesSplit
wishes_split made i [] = refl
wishes_split made i (d ∷ more) =
    claims_of-append made i (bits_due d.0 d.1) (writes_wish more)
    ∙ ap (λ cs. cs ++ claims_of made i (writes_wish more)) (claims_of-bits_due d.0 made i d.1)
    ∙ ap (λ cs. entries_of d.0 made i d.1 ++ cs) (wishes_split made i more)

pub histories_join : HistoriesJoin
histories_join [] more = refl
histories_join (m ∷ before) more =
    ap (λ cs. claims_of m.made m.instance m.wish ++ cs) (histories_join before more)
    ∙ sym (append_assoc (claims_of m.made m.instance m.wish) (claims before) (claims more))

pub claims-kept : (made : Instant) (i : ℕ) (w : Wish) → claims (kept made i w) ≡ claims_of made i w
claims-kept made i [] = refl
claims-kept made i (e ∷ more) = append-nil (claims_of made i (e ∷ more))

claims-made_from : (made : Instant) (i : ℕ) (wishes : List (List (Instant × List (ℕ × Bool)))) → claims (made_from made i (map writes_wish wishes)) ≡ frame_entries made i wishes
claims-made_from made i [] = refl
claims-made_from made i (ds ∷ more) =
    histories_join (kept made i (writes_wish ds)) (made_from made (i + 1) (map writes_wish more))
    ∙ ap (λ cs. cs ++ claims (made_from made (i + 1) (map writes_wish more))) (claims-kept made i (writes_wish ds) ∙ wishes_split made i ds)
    ∙ ap (λ cs. due_entries made i ds ++ cs) (claims-made_from made (i + 1) more)

pub frames_split : FramesSplit
frames_split history made wishes =
    histories_join history (made_from made 0 (map writes_wish wishes)) ∙ ap (λ cs. claims history ++ cs) (claims-made_from made 0 wishes)
