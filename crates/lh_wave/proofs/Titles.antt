-- The titles of members.
use Rattle.std.proofs.Common.{◌≡◌, ℕ, zero, suc, ◌<◌, ◌≤◌, List, [], ◌∷◌, length, get_or, map, refl, ap, arith}
use Rattle.lh_watch.specs.Members.{Member}
use Rattle.lh_wave.specs.EndText.{title_at}

pub title_there : {X : Type 0} (member : X → Member) (ws : List X) (place : ℕ) (w : X) → place < length ws → w ≡ get_or ws place w → (member w).rule.title ≡ title_at (map member ws) place
title_there member [] place w l e = absurd (omega arith)
title_there {X} member (x ∷ ws) zero w l e = ap (λ (v : X). (member v).rule.title) e
title_there member (x ∷ ws) (suc place) w l e = title_there member ws place w (omega arith) e

pub title_past : {X : Type 0} (member : X → Member) (ws : List X) (place : ℕ) → length ws ≤ place → [] ≡ title_at (map member ws) place
title_past member [] place l = refl
title_past member (x ∷ ws) zero l = absurd (omega arith)
title_past member (x ∷ ws) (suc place) l = title_past member ws place (omega arith)
