-- The laws of terms that are read again.
use Rattle.std.specs.Prelude.{◌≡◌, List}
use Rattle.lh_types.specs.declared.op.Op.{Op}
use Rattle.lh_term.specs.Tree.{Tree, operation_on}
use Rattle.lh_term.specs.Types.{IsTyped, type_of}
use Rattle.lh_term.specs.Mean.{Valuation, IsFitting, mean}
use Rattle.lh_term.specs.Laws.{MeansSame}
use Rattle.lh_cert_terms.specs.Rebuilding.{read_operation, rebuilt}

-- An operation as read means what the operation does, and has its type.
abbrev pub ReadOperationsKeepMeaning : Type 0
ReadOperationsKeepMeaning = (op : Op) (ts : List Tree) → IsTyped (operation_on op ts) → MeansSame (read_operation op ts) (operation_on op ts)

-- x is typed, has the type of t, and means what t does where each part has one value before and now
pub record MeansNow (x t : Tree) : Type 0 where
  pub typed : IsTyped x
  pub type : type_of x ≡ type_of t
  pub mean : (v : Valuation) → IsFitting v → mean v v x ≡ mean v v t

-- A term read again means the same where the values before are those now.
abbrev pub RebuiltKeepsMeaning : Type 0
RebuiltKeepsMeaning = (t : Tree) → IsTyped t → MeansNow (rebuilt t) t
