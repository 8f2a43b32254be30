-- One wish over another.
use Rattle.std.proofs.Common.{◌≡◌, ℕ, ◌+◌, List, [], ◌∷◌, ◌++◌, Bool, refl, ap, sym, ◌∙◌, subst, append_assoc}
use Rattle.std.proofs.lemmas.List.{append-nil}
use Rattle.std.specs.declared.cmp.Ordering.{Ordering}
use Rattle.std.specs.declared.cmp.Ordering.TheVariants.{Less, Equal, Greater}
use Rattle.std.specs.Ordering.{ordering_reverse, match_ordering}
use Rattle.std.specs.BTreeMap.{insert_entry}
use Rattle.lh_time.specs.declared.Instant.{Instant}
use Rattle.lh_types.specs.Wish.{DueBit, Wish, due_bit, due_bit_cmp, with_bit, with_bits, IsBelow, IsInOrder}
use Rattle.lh_eval_wishes.specs.Over.{over, stacked_on, stacked}
use Rattle.lh_eval_wishes.specs.Runs.{row_wish}
use Rattle.lh_history_laws.proofs.DueBits.{due_bit_total, due_bit_self, due_bit_one, below_trans, in_order-insert, in_order-bit}

abbrev put : Wish → DueBit → Bool → Wish
put w k b = insert_entry due_bit_cmp w k b

-- what is below another is that one's other side
less-greater : (a b : DueBit) → due_bit_cmp a b ≡ Less → due_bit_cmp b a ≡ Greater
less-greater a b h = due_bit_total.antisymm b a ∙ ap ordering_reverse h

-- an entry at a key that has one already
put-twice : (w : Wish) (k : DueBit) (b c : Bool) → put (put w k b) k c ≡ put w k c
put-twice [] k b c = rw (due_bit_self k) refl
put-twice (e ∷ es) k b c = at (due_bit_cmp k e.0) refl (put-twice es k b c)
  where
    at : (o : Ordering) → due_bit_cmp k e.0 ≡ o → put (put es k b) k c ≡ put es k c
        → put (match_ordering o ((k, b) ∷ e ∷ es) ((e.0, b) ∷ es) (e ∷ put es k b)) k c ≡ match_ordering o ((k, c) ∷ e ∷ es) ((e.0, c) ∷ es) (e ∷ put es k c)
    at Less p ih = rw (due_bit_self k) refl
    at Equal p ih = rw p refl
    at Greater p ih = rw p (ap (λ w. e ∷ w) ih)

-- entries at two keys, in either order
put-swapped : (w : Wish) (k j : DueBit) (b c : Bool) → due_bit_cmp k j ≡ Less → put (put w k b) j c ≡ put (put w j c) k b
put-swapped [] k j b c h = rw (h, less-greater k j h) refl
put-swapped (e ∷ es) k j b c h = at (due_bit_cmp k e.0) (due_bit_cmp j e.0) refl refl (put-swapped es k j b c h)
  where
    later : due_bit_cmp j k ≡ Greater
    later = less-greater k j h

    at : (o p : Ordering) → due_bit_cmp k e.0 ≡ o → due_bit_cmp j e.0 ≡ p → put (put es k b) j c ≡ put (put es j c) k b
        → put (match_ordering o ((k, b) ∷ e ∷ es) ((e.0, b) ∷ es) (e ∷ put es k b)) j c ≡ put (match_ordering p ((j, c) ∷ e ∷ es) ((e.0, c) ∷ es) (e ∷ put es j c)) k b
    at Less Less x y ih = rw (later, h, y) refl
    at Less Equal x y ih = rw (later, y, x) refl
    at Less Greater x y ih = rw (later, y, x) refl
    at Equal Less x y ih = absurd (gone (due_bit_one k e.0 x))
      where
        gone : k ≡ e.0 → ⊥
        gone q = let z : due_bit_cmp j k ≡ Less = ap (due_bit_cmp j) q ∙ y in cc (later, z)
    at Equal Equal x y ih = absurd (gone (due_bit_one k e.0 x))
      where
        gone : k ≡ e.0 → ⊥
        gone q = let z : due_bit_cmp j k ≡ Equal = ap (due_bit_cmp j) q ∙ y in cc (later, z)
    at Equal Greater x y ih = rw (y, x) refl
    at Greater Less x y ih = absurd (gone (due_bit_total.trans k j e.0 h y))
      where
        gone : due_bit_cmp k e.0 ≡ Less → ⊥
        gone z = cc (x, z)
    at Greater Equal x y ih = absurd (gone (due_bit_one j e.0 y))
      where
        gone : j ≡ e.0 → ⊥
        gone q = let z : due_bit_cmp k e.0 ≡ Less = ap (due_bit_cmp k) (sym q) ∙ h in cc (x, z)
    at Greater Greater x y ih = rw (y, x) (ap (λ w. e ∷ w) ih)

-- what is put below entries may be put after them
over-late : (v w : Wish) (k : DueBit) (b : Bool) → IsBelow k v → over (put w k b) v ≡ put (over w v) k b
over-late [] w k b h = refl
over-late (e ∷ es) w k b h = ap (λ u. over u es) (put-swapped w k e.0 b e.1 h.0) ∙ over-late es (put w e.0 e.1) k b h.1

-- one more entry of what lies over another
pub over-put : (v w : Wish) (k : DueBit) (b : Bool) → IsInOrder v → over w (put v k b) ≡ put (over w v) k b
over-put [] w k b h = refl
over-put (e ∷ es) w k b h = at (due_bit_cmp k e.0) refl (over-put es (put w e.0 e.1) k b h.1)
  where
    at : (o : Ordering) → due_bit_cmp k e.0 ≡ o → over (put w e.0 e.1) (put es k b) ≡ put (over (put w e.0 e.1) es) k b
        → over w (match_ordering o ((k, b) ∷ e ∷ es) ((e.0, b) ∷ es) (e ∷ put es k b)) ≡ put (over (put w e.0 e.1) es) k b
    at Less p ih = over-late (e ∷ es) w k b (p, below_trans k e.0 es p h.0)
    at Equal p ih =
        let q : e.0 ≡ k = sym (due_bit_one k e.0 p) in
        ap (λ (j : DueBit). over (put w j b) es) q ∙ ap (λ u. over u es) (sym (put-twice w k e.1 b)) ∙ ap (λ (j : DueBit). over (put (put w j e.1) k b) es) (sym q)
        ∙ over-late es (put w e.0 e.1) k b (subst (λ (j : DueBit). IsBelow j es) q h.0)
    at Greater p ih = ih

-- a drive of what lies over another
pub over-bits : (bs : List Bool) (v w : Wish) (t : Instant) (lo : ℕ) → IsInOrder v → over w (with_bits v t lo bs) ≡ with_bits (over w v) t lo bs
over-bits [] v w t lo h = refl
over-bits (b ∷ bs) v w t lo h = over-bits bs (with_bit v t lo b) w t (lo + 1) (in_order-bit v t lo b h) ∙ ap (λ u. with_bits u t (lo + 1) bs) (over-put v w (due_bit t lo) b h)

-- over what lies over another
pub over-over : (b a w : Wish) → IsInOrder a → over w (over a b) ≡ over (over w a) b
over-over [] a w h = refl
over-over (e ∷ es) a w h = over-over es (put a e.0 e.1) w (in_order-insert e.0 e.1 a h) ∙ ap (λ u. over u es) (over-put a w e.0 e.1 h)

pub over-append : (a b w : Wish) → over w (a ++ b) ≡ over (over w a) b
over-append [] b w = refl
over-append (e ∷ es) b w = over-append es b (put w e.0 e.1)

pub over-row : (bs : List Bool) (w : Wish) (t : Instant) (lo : ℕ) → over w (row_wish t lo bs) ≡ with_bits w t lo bs
over-row [] w t lo = refl
over-row (b ∷ bs) w t lo = over-row bs (with_bit w t lo b) t (lo + 1)

-- an entry behind all others
put-last : (p : Wish) (e : DueBit × Bool) (v : Wish) → IsInOrder (p ++ e ∷ v) → put p e.0 e.1 ≡ p ++ e ∷ []
put-last [] e v h = refl
put-last (x ∷ p) e v h = rw (less-greater x.0 e.0 (met p h.0)) (ap (λ w. x ∷ w) (put-last p e v h.1))
  where
    met : (q : Wish) → IsBelow x.0 (q ++ e ∷ v) → due_bit_cmp x.0 e.0 ≡ Less
    met [] g = g.0
    met (y ∷ q) g = met q g.1

pub over-behind : (v p : Wish) → IsInOrder (p ++ v) → over p v ≡ p ++ v
over-behind [] p h = sym (append-nil p)
over-behind (e ∷ es) p h =
    ap (λ w. over w es) (put-last p e es h) ∙ over-behind es (p ++ e ∷ []) (subst IsInOrder (sym (append_assoc p (e ∷ []) es)) h) ∙ append_assoc p (e ∷ []) es

-- one more on top
pub stacked-push : (ws : List Wish) (v : Wish) → stacked (ws ++ v ∷ []) ≡ over (stacked ws) v
stacked-push ws v = on ws []
  where
    on : (ws : List Wish) (w : Wish) → stacked_on w (ws ++ v ∷ []) ≡ over (stacked_on w ws) v
    on [] w = refl
    on (x ∷ ws) w = on ws (over w x)

pub over-ordered : (v w : Wish) → IsInOrder w → IsInOrder (over w v)
over-ordered [] w h = h
over-ordered (e ∷ es) w h = over-ordered es (put w e.0 e.1) (in_order-insert e.0 e.1 w h)

-- a layer is joined with the one below it
pub joined-layers : (ws us : List Wish) (below top both a : Wish) → ws ≡ us ++ below ∷ [] → ((w : Wish) → over (over w below) top ≡ over w both) → over (stacked ws) top ≡ a
    → over (stacked us) both ≡ a
joined-layers ws us below top both a e f h = sym (f (stacked us)) ∙ ap (λ w. over w top) (sym (stacked-push us below) ∙ ap stacked (sym e)) ∙ h

-- nothing lies below
pub over-none : (ws : List Wish) (v : Wish) → ws ≡ [] → IsInOrder v → v ≡ over (stacked ws) v
over-none ws v e h = sym (ap (λ (x : List Wish). over (stacked x) v) e ∙ over-behind v [] h)

pub over-top : (ws : List Wish) (v a : Wish) → ws ≡ [] → over (stacked ws) v ≡ a → over [] v ≡ a
over-top ws v a e h = ap (λ (x : List Wish). over (stacked x) v) (sym e) ∙ h
