-- The law of terms that agree.
use Rattle.std.specs.Prelude.{◌≡◌, true}
use Rattle.lh_term.specs.Tree.{Tree}
use Rattle.lh_term.specs.Types.{IsTyped, type_of}
use Rattle.lh_term.specs.Mean.{Valuation, IsFitting, mean}
use Rattle.lh_cert_agree.specs.Agreeing.{agree}

-- the terms have one type and one meaning, whatever values the parts have
pub record MeansOne (a b : Tree) : Type 0 where
  pub type : type_of a ≡ type_of b
  pub mean : (past now : Valuation) → IsFitting past → IsFitting now → mean past now a ≡ mean past now b

-- Terms that agree have one type and mean the same.
abbrev pub AgreedTermsMeanSame : Type 0
AgreedTermsMeanSame = (a b : Tree) → IsTyped a → IsTyped b → agree a b ≡ true → MeansOne a b
