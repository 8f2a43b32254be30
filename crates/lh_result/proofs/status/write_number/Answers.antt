use Rattle.std.proofs.Common.{◌≡◌, decimal, ◌∙◌}
use Rattle.lh_result.proofs.status.write_number.Goals as goal

pub returns-clause-puts : goal.returns-clause-puts
returns-clause-puts g c =
    let digits : c.as_bytes.result.now ≡ decimal c.args.number = c.as_bytes.ensures.value ∙ c.format.ensures.text in
    rw digits at c.write_three.ensures.puts
