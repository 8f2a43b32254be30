-- What the spelling of an instruction and of an entity's head tells.
use Rattle.std.proofs.Common.{◌≡◌, ℕ, ◌-◌, List, [], ◌∷◌, map, Option, Some, None, IsSome, refl, sym, subst, arith}
use Rattle.lh_types.specs.Types.{TypeTree, signal_type, IsData, IsLimited}
use Rattle.lh_types.specs.Values.{int_value}
use Rattle.lh_types.specs.declared.op.Op.{Op}
use Rattle.lh_types.specs.declared.op.OpClass.{OpClass}
use Rattle.lh_types.specs.declared.op.OpClass.TheVariants as class
use Rattle.lh_types.specs.Classes.{class_of}
use Rattle.lh_unit.specs.Contents.{OperandText, ArgText, InstText, const_text, pure_text, sig_text, LineText}
use Rattle.lh_unit.specs.Lexemes.{Lexeme, local}
use Rattle.lh_unit.specs.Pieces.{lexemes_in}
use Rattle.lh_unit.specs.SpellsTypes.{SpellsSignalType}
use Rattle.lh_unit.specs.SpellsParts.{SpellsParts, SpellsList}
use Rattle.lh_unit.specs.SpellsInst.{Column, typed, bare, columns, class_columns, SpellsColumns, SpellsOfClass, SpellsPure, SpellsInst, SpellsLine}
use Rattle.lh_unit.specs.Spells.{inst_item, TypedName, SpellsPort, input_of, output_of, SpellsPorts, SpellsHeader}
use Rattle.lh_unit.specs.Within.{Each}
use Rattle.lh_unit_names.specs.declared.name.UnitName.{UnitName}
use Rattle.lh_unit.specs.declared.inst.UnitKind.{UnitKind}
use Rattle.lh_unit.specs.declared.inst.UnitKind.TheVariants as kind
use Rattle.lh_unit.proofs.Lists.{Each-append}
use Rattle.lh_text_laws.specs.ItemLines.{item_line}
use Rattle.lh_text_laws.specs.Printable.{HasInstLine}
use Rattle.lh_text_laws.proofs.Numbers.{integer-below}
use Rattle.lh_eval.specs.Sound.{ClassHasOperands, HasOperands, IsWrittenRight}
use Rattle.lh_eval_laws.specs.Units.{IsPort, HasPorts}

-- one operand, and two
one-column : (c : Column) (os : List OperandText) (ts more : List Lexeme) → SpellsColumns (c ∷ []) os ts more → (x : OperandText) × (os ≡ x ∷ [])
one-column c [] ts more h = absurd h
one-column c (x ∷ []) ts more h = (x, refl)
one-column c (x ∷ y ∷ os) ts more h = absurd h

two-columns : (c d : Column) (os : List OperandText) (ts more : List Lexeme) → SpellsColumns (c ∷ d ∷ []) os ts more → (x y : OperandText) × (os ≡ x ∷ y ∷ [])
two-columns c d [] ts more h = absurd h
two-columns c d (x ∷ []) ts more h = absurd h
two-columns c d (x ∷ y ∷ []) ts more h = (x, y, refl)
two-columns c d (x ∷ y ∷ z ∷ os) ts more h = absurd h.2

-- the operands of an operation that has a word
columns-of : (o : Op) (c : OpClass) (os : List OperandText) (ts more : List Lexeme) → class_of o ≡ c → SpellsColumns (columns o) os ts more → SpellsColumns (class_columns c) os ts more
columns-of o c os ts more e h = subst (λ k. SpellsColumns (class_columns k) os ts more) e h

class-written : (o : Op) (c : OpClass) (os : List OperandText) (ts : List Lexeme) → class_of o ≡ c → SpellsOfClass c o os ts → ClassHasOperands c os
class-written o class.Unary os ts e h = one-column typed os h.1 h.2 (columns-of o class.Unary os h.1 h.2 e h.5)
class-written o class.Binary os ts e h = two-columns typed bare os h.1 h.2 (columns-of o class.Binary os h.1 h.2 e h.5)
class-written o class.Relation os ts e h = two-columns typed bare os h.1 h.2 (columns-of o class.Relation os h.1 h.2 e h.5)
class-written o class.Equality os ts e h = two-columns typed bare os h.1 h.2 (columns-of o class.Equality os h.1 h.2 e h.5)
class-written o class.Shift os ts e h = tt
class-written o class.Select os ts e h = tt
class-written o (class.TakePart s) os ts e h = tt
class-written o (class.PutPart s) os ts e h = tt
class-written o class.Array os ts e h = tt
class-written o (class.Repeat n) [] ts e h = absurd h
class-written o (class.Repeat n) (x ∷ []) ts e h = ((x, refl), omega (arith, h.7.1))
class-written o (class.Repeat n) (x ∷ y ∷ os) ts e h = absurd h
class-written o class.Tuple os ts e h = tt

operands-written : (o : Op) (os : List OperandText) (ts : List Lexeme) → SpellsPure o os ts → HasOperands o os
operands-written o os ts h = class-written o (class_of o) os ts refl h

inst-written : (i : InstText) (ts : List Lexeme) → SpellsInst i ts → IsWrittenRight i
inst-written (const_text (int_value n bits)) ts h = integer-below n bits h.1 h.4
inst-written (const_text _) ts h = tt
inst-written (pure_text o os) ts h = operands-written o os ts h
inst-written _ ts h = tt

-- a `sig` writes a type within its limits
abbrev pub SignalWritten : InstText → Type 0
SignalWritten (sig_text a) = (t : TypeTree) × (a.ty ≡ Some t) × IsLimited t
SignalWritten _ = Unit {0}

signal-spelled : (i : InstText) (ts : List Lexeme) → SpellsInst i ts → SignalWritten i
signal-spelled (sig_text a) ts h = (h.2.0, h.2.1, h.2.2.1)
signal-spelled _ ts h = tt

of-line : (P : InstText → Type 0) → ((i : InstText) (ts : List Lexeme) → SpellsInst i ts → P i) → (r : Option (List ℕ)) (i : InstText) (ts : List Lexeme) → SpellsLine r i ts → P i
of-line P go None i ts h = go i ts h.1
of-line P go (Some r) i ts h = go i h.0 h.3

pub line-written : (l : LineText) → HasInstLine l → IsWrittenRight l.inst
line-written l h = of-line IsWrittenRight inst-written l.result l.inst (lexemes_in (item_line (inst_item l))) h.1

-- a `sig` has a result
abbrev pub SignalNamed : Option (List ℕ) → InstText → Type 0
SignalNamed r (sig_text a) = IsSome r
SignalNamed r _ = Unit {0}

named-by-line : (r : Option (List ℕ)) (i : InstText) (ts : List Lexeme) → SpellsLine r i ts → SignalNamed r i
named-by-line (Some r) (sig_text a) ts h = refl
named-by-line None (sig_text a) ts h = absurd cc
named-by-line r _ ts h = tt

pub signal-named : (l : LineText) → HasInstLine l → SignalNamed l.result l.inst
signal-named l h = named-by-line l.result l.inst (lexemes_in (item_line (inst_item l))) h.1

pub signal-written : (l : LineText) → HasInstLine l → SignalWritten l.inst
signal-written l h = of-line SignalWritten signal-spelled l.result l.inst (lexemes_in (item_line (inst_item l))) h.1

-- what holds of each part of a list that is spelled
parts-each : {A : Type 0} (P : A → List Lexeme → List Lexeme → Type 0) (Q : A → Type 0) → ((x : A) (ts more : List Lexeme) → P x ts more → Q x) → (xs : List A) (ts more : List Lexeme)
    → SpellsParts P xs ts more → Each Q xs
parts-each P Q go [] ts more h = tt
parts-each P Q go (x ∷ []) ts more h = (go x ts more h, tt)
parts-each P Q go (x ∷ y ∷ xs) ts more h = (go x ts _ h.1, parts-each P Q go (y ∷ xs) h.0 more h.2)

list-each : {A : Type 0} (P : A → List Lexeme → List Lexeme → Type 0) (Q : A → Type 0) → ((x : A) (ts more : List Lexeme) → P x ts more → Q x) → (xs : List A) (ts more : List Lexeme)
    → SpellsList P xs ts more → Each Q xs
list-each P Q go [] ts more h = tt
list-each P Q go (x ∷ xs) ts more h = parts-each P Q go (x ∷ xs) ts more h

abbrev CarriesData : TypedName → Type 0
CarriesData x = (t : TypeTree) × (x.ty ≡ signal_type t) × IsData t

port-carries : (ty : TypeTree) (ts more : List Lexeme) → SpellsSignalType ty ts more → (t : TypeTree) × (ty ≡ signal_type t) × IsData t
port-carries (signal_type t) ts more h = (t, refl, h.1.1)
port-carries _ ts more h = absurd h.0

port-is : (x : TypedName) (ts more : List Lexeme) → SpellsPort x ts more → CarriesData x
port-is x ts more h = port-carries x.ty ts (local x.name ∷ more) h

map-each : {A B : Type 0} (P : A → Type 0) (Q : B → Type 0) (f : A → B) → ((x : A) → P x → Q (f x)) → (xs : List A) → Each P xs → Each Q (map f xs)
map-each P Q f go [] e = tt
map-each P Q f go (x ∷ xs) e = (go x e.0, map-each P Q f go xs e.1)

ports-carry : (args : List ArgText) (ts : List Lexeme) → SpellsPorts args ts → Each IsPort args
ports-carry args ts p =
    let x = map-each CarriesData IsPort input_of (λ y k. k) p.inputs (list-each SpellsPort CarriesData port-is p.inputs p.first _ p.spelled_inputs) in
    let y = map-each CarriesData IsPort output_of (λ y k. k) p.outputs (list-each SpellsPort CarriesData port-is p.outputs p.second _ p.spelled_outputs) in
    subst (Each IsPort) (sym p.together) (Each-append IsPort (map input_of p.inputs) (map output_of p.outputs) x y)

-- the arguments of a process or an entity whose head is spelled are signals
pub header-ports : (k : UnitKind) (n : UnitName) (args : List ArgText) (r : Option TypeTree) (ts : List Lexeme) → SpellsHeader k n args r ts → HasPorts k args
header-ports kind.Func n args r ts h = tt
header-ports kind.Proc n args (Some r) ts h = absurd h
header-ports kind.Proc n args None ts h = ports-carry args h.1 h.4
header-ports kind.Entity n args (Some r) ts h = absurd h
header-ports kind.Entity n args None ts h = ports-carry args h.1 h.4
