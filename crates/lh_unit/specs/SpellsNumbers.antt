-- How whole numbers, integer constants and times are spelled.
use Rattle.std.specs.Prelude.{◌≡◌, ℕ, ◌-◌, ◌*◌, ◌%◌, ◌^◌, ◌<◌, ◌≤◌, List, [], ◌∷◌, ◌++◌, length, Option, Some, None, if◌then◌else◌, codes, ◌⊎◌}
use Rattle.lh_time.specs.declared.Delay.{Delay}
use Rattle.lh_unit_names.specs.Names.{same_bytes}
use Rattle.lh_unit.specs.Lexemes.{Lexeme, word, minus}
use Rattle.lh_unit.specs.Numerals.{number_of}

-- the tokens spell a number below 2^32, and the tokens `more` follow
abbrev pub SpellsNumber : ℕ → List Lexeme → List Lexeme → Type 0
SpellsNumber n ts more = (w : List ℕ) × (ts ≡ word w ∷ more) × (number_of w ≡ Some n) × (n < 2 ^ 32)

-- the constant k of n bits, from -2^(n-1) to 2^n - 1, which ends the line; a negative one stands for 2^n + k
abbrev pub SpellsInteger : ℕ → ℕ → List Lexeme → Type 0
SpellsInteger n bits ts =
    ((w : List ℕ) × (ts ≡ word w ∷ []) × (number_of w ≡ Some bits) × (bits < 2 ^ n))
    ⊎ ((w : List ℕ) × (k : ℕ) × (ts ≡ minus ∷ word w ∷ []) × (number_of w ≡ Some k) × (k ≤ 2 ^ (n - 1)) × (bits ≡ (2 ^ n - k) % (2 ^ n)))

-- how many femtoseconds a unit of time has
abbrev pub unit_scale : List ℕ → Option ℕ
unit_scale u =
    if same_bytes u (codes "s") then Some (10 ^ 15)
    else if same_bytes u (codes "ms") then Some (10 ^ 12)
    else if same_bytes u (codes "us") then Some (10 ^ 9)
    else if same_bytes u (codes "ns") then Some (10 ^ 6)
    else if same_bytes u (codes "ps") then Some (10 ^ 3)
    else if same_bytes u (codes "fs") then Some 1 else None

-- digits, or digits on both sides of one point: all of them together say n, and so many of them stand behind the point
abbrev pub SpellsDecimal : (n places : ℕ) → List ℕ → Type 0
SpellsDecimal n places w =
    ((number_of w ≡ Some n) × (places ≡ 0))
    ⊎ ((whole : List ℕ) × (part : List ℕ) × (w ≡ whole ++ 46 ∷ part) × (number_of (whole ++ part) ≡ Some n) × (1 ≤ length whole) × (1 ≤ length part) × (places ≡ length part))

-- a number and a unit in one word: a whole number of femtoseconds below 2^63
pub record SpellsFemtoseconds (fs : ℕ) (w : List ℕ) : Type 0 where
  pub numeral : List ℕ
  pub unit : List ℕ
  pub together : w ≡ numeral ++ unit
  pub n : ℕ
  pub places : ℕ
  pub says : SpellsDecimal n places numeral
  pub scale : ℕ
  pub known : unit_scale unit ≡ Some scale
  pub whole : n * scale ≡ fs * 10 ^ places
  pub below : fs < 2 ^ 63

-- a count of steps below 2^31 and its letter in one word, or nothing for no step
abbrev pub SpellsSteps : (letter : ℕ) → ℕ → List Lexeme → List Lexeme → Type 0
SpellsSteps letter n ts more = ((n ≡ 0) × (ts ≡ more)) ⊎ ((w : List ℕ) × (ts ≡ word (w ++ letter ∷ []) ∷ more) × (number_of w ≡ Some n) × (n < 2 ^ 31))

-- a time, then `Nd` and `Ne` or not, which end the line
abbrev pub SpellsTime : Delay → List Lexeme → Type 0
SpellsTime d ts = (w : List ℕ) × (us : List Lexeme) × (vs : List Lexeme) × (ts ≡ word w ∷ us) × SpellsFemtoseconds d.fs w × SpellsSteps 100 d.delta us vs × SpellsSteps 101 d.eps vs []
