use Rattle.std.proofs.Common.{rules, arith, ◌≡◌, ◌≤◌, ◌+◌, ◌-◌, [], ◌∷◌, ◌++◌, length, take, drop, false, ap, ◌∙◌, sym}
use Rattle.std.proofs.lemmas.List.{take_rest}
use Rattle.std.proofs.lemmas.Grind.{common_steps}
use Rattle.lh_unit.specs.Lexemes.{is_white, is_comment}
use Rattle.lh_unit.specs.Tokens.{tokens_after}
use Rattle.lh_lex.proofs.Joined.{joined, joined-token}
use Rattle.lh_lex.proofs.scan.Goals as goal

pub loop-b-preserved : goal.loop-b-preserved
loop-b-preserved c =
    let e : c.loop-b.rest.now ≡ c.in-Some.b.now ∷ c.in-Some.more.now = search rules in
    let p : c.push.new.self ≡ c.loop-b.found ++ record { kind = c.in-Ok.kind; from = c.loop-b.at; to = c.loop-b.at + 1 + c.in-Ok.len } ∷ [] = search rules in
    let w : is_white c.in-Some.b.now ≡ false = search rules in
    let x : is_comment c.in-Some.b.now c.in-Some.more.now ≡ false = search rules in
    let left : take (length c.in-Some.more.now - c.in-Ok.len) (drop c.in-Ok.len c.in-Some.more.now) ≡ drop c.in-Ok.len c.in-Some.more.now = take_rest c.in-Some.more.now c.in-Ok.len in
    let h : c.in-Ok.len ≤ length c.in-Some.more.now = c.in-Ok.ensures.within in
    record {
      found_first =
          ap (λ l. joined c.push.new.self (tokens_after (c.loop-b.at + 1 + c.in-Ok.len) 0 l)) left
          ∙ ap (λ ts. joined ts (tokens_after (c.loop-b.at + 1 + c.in-Ok.len) 0 (drop c.in-Ok.len c.in-Some.more.now))) p
          ∙ joined-token c.loop-b.found c.loop-b.at c.in-Some.b.now c.in-Some.more.now c.in-Ok.kind c.in-Ok.len w x c.in-Ok.ensures.token
          ∙ ap (λ l. joined c.loop-b.found (tokens_after c.loop-b.at 0 l)) (sym e)
          ∙ c.loop-b.invariant.found_first;
      place = let q : length c.loop-b.rest.now ≡ length c.in-Some.more.now + 1 = grind (arith, common_steps, ap length e) in
          let z : c.loop-b.at + length c.loop-b.rest.now ≡ length c.args.text.now = c.loop-b.invariant.place in
          ap (λ n. c.loop-b.at + 1 + c.in-Ok.len + n) (ap length left) ∙ grind (arith, common_steps);
    }
