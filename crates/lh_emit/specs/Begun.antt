-- Arguments, before the first instruction.
use Rattle.std.specs.Prelude.{◌≡◌, ℕ, List}
use Rattle.lh_unit.specs.Contents.{ArgText}
use Rattle.lh_emit_body.specs.Lines.{arg_names, LinesHaveRoom, BeginsWith}
use Rattle.lh_emit_body.specs.declared.lines.Lines.{Lines}

-- the arguments are there
pub record HasArgs (names : List (List ℕ)) (ls : Lines) : Type 0 where
  pub room : LinesHaveRoom ls
  pub begins : (args : List ArgText) → arg_names args ≡ names → BeginsWith args ls
