use Rattle.std.proofs.Common.{◌≡◌, List, ℕ, suc, Bool, length, ap, sym, subst, arith}
use Rattle.std.proofs.lemmas.List.{nil_from_length}
use Rattle.lh_time.specs.declared.Instant.{Instant}
use Rattle.lh_kernel.specs.Puts.{wishes_by}
use Rattle.lh_kernel.proofs.PutWishes.{AreToBePut, puts_start, puts_on, puts_end}
use Rattle.lh_kernel.proofs.puts.put_many.Goals as goal

pub loop-wish-init : goal.loop-wish-init
loop-wish-init c =
    let h : c.into_iter-wish-iterator.result.rest.items ≡ c.args.wishes.items = c.into_iter-wish-iterator.ensures.into_iter_gives.0 in
    let P : List (Instant × List (ℕ × Bool)) → Type 0 = λ ds.
    AreToBePut c.args.queue.now.held (wishes_by c.args.at c.args.instance c.args.wishes.items) c.args.queue.now.held
    (wishes_by c.args.at c.args.instance ds) in
    let n : length c.into_iter-wish-iterator.result.rest.items ≡ length c.args.wishes.items = ap length h in
    (tt, tt, subst P (sym h) (puts_start c.args.queue.now.held (wishes_by c.args.at c.args.instance c.args.wishes.items) c.requires.can), omega (arith, n, c.requires.room), omega (arith, n))

pub put_wish-requires-clause-room : goal.put_wish-requires-clause-room
put_wish-requires-clause-room c =
    let n : length c.loop-wish.wish-iterator.rest.items ≡ suc (length c.next.new.self.rest.items) = ap length c.in-Some.ensures.steps.0 in
    omega (arith, n, c.loop-wish.invariant.3)

pub put_wish-requires-clause-apart : goal.put_wish-requires-clause-apart
put_wish-requires-clause-apart c =
    let P : List (Instant × List (ℕ × Bool)) → Type 0 = λ ds.
    AreToBePut c.args.queue.now.held (wishes_by c.args.at c.args.instance c.args.wishes.items) c.loop-wish.queue.held
    (wishes_by c.args.at c.args.instance ds) in
    (subst P c.in-Some.ensures.steps.0 c.loop-wish.invariant.2).can.0

pub put_wish-requires-clause-once : goal.put_wish-requires-clause-once
put_wish-requires-clause-once c =
    let P : List (Instant × List (ℕ × Bool)) → Type 0 = λ ds.
    AreToBePut c.args.queue.now.held (wishes_by c.args.at c.args.instance c.args.wishes.items) c.loop-wish.queue.held
    (wishes_by c.args.at c.args.instance ds) in
    (subst P c.in-Some.ensures.steps.0 c.loop-wish.invariant.2).can.1

pub loop-wish-preserved : goal.loop-wish-preserved
loop-wish-preserved c =
    let P : List (Instant × List (ℕ × Bool)) → Type 0 = λ ds.
    AreToBePut c.args.queue.now.held (wishes_by c.args.at c.args.instance c.args.wishes.items) c.loop-wish.queue.held
    (wishes_by c.args.at c.args.instance ds) in
    let n : length c.loop-wish.wish-iterator.rest.items ≡ suc (length c.next.new.self.rest.items) = ap length c.in-Some.ensures.steps.0 in (
      tt,
      tt,
      puts_on c.args.queue.now.held (wishes_by c.args.at c.args.instance c.args.wishes.items) c.loop-wish.queue.held _ (wishes_by c.args.at c.args.instance c.next.new.self.rest.items) c.put_wish.new.queue.held
          (subst P c.in-Some.ensures.steps.0 c.loop-wish.invariant.2) c.put_wish.ensures.put,
      omega (arith, n, c.loop-wish.invariant.3, c.put_wish.ensures.spare),
      omega (arith, n, c.loop-wish.invariant.4, c.put_wish.ensures.spare),
    )

pub returns-clause-put : goal.returns-clause-put
returns-clause-put c =
    let P : List (Instant × List (ℕ × Bool)) → Type 0 = λ ds.
    AreToBePut c.args.queue.now.held (wishes_by c.args.at c.args.instance c.args.wishes.items) c.loop-wish.queue.held
    (wishes_by c.args.at c.args.instance ds) in
    puts_end c.args.queue.now.held (wishes_by c.args.at c.args.instance c.args.wishes.items) c.loop-wish.queue.held
    (subst P (nil_from_length c.loop-wish.wish-iterator.rest.items (omega (arith, c.in-None.ensures.steps.0, c.loop-wish.wish-iterator.rest.ok)))
    c.loop-wish.invariant.2)

pub returns-clause-spare : goal.returns-clause-spare
returns-clause-spare c = omega (arith, c.loop-wish.invariant.4)
