-- Lines of the file of a chain, and what spells them.
use Rattle.std.proofs.Common.{◌≡◌, ℕ, ◌<◌, ◌^◌, inl, Bool, true, ◌&&◌, List, [], ◌∷◌, length, nat_le, Some, None, refl, arith}
use Rattle.std.specs.Prelude.{codes}
use Rattle.std.proofs.lemmas.Bool.{and_parts}
use Rattle.std.proofs.lemmas.Grind.{common_steps}
use Rattle.lh_time.specs.declared.Delay.{Delay}
use Rattle.lh_types.specs.Types.{int_type, signal_type, pointer_type, void_type, IsData}
use Rattle.lh_types.specs.Values.{time_value}
use Rattle.lh_types.specs.declared.op.Op.{Op}
use Rattle.lh_unit_names.specs.declared.name.UnitName.{UnitName}
use Rattle.lh_unit_names.specs.Names.{all_name_bytes, IsName}
use Rattle.lh_unit.specs.Numerals.{number_of}
use Rattle.lh_unit.specs.Contents.{OperandText, const_text, pure_text, var_text, ld_text, st_text, sig_text, prb_text, drv_text, child_text, call_text, br_text, branch_text, wait_text, halt_text}
use Rattle.lh_unit.specs.Lexemes.{Lexeme, word, global, local, arrow}
use Rattle.lh_unit.specs.Marks.{open_paren, close_paren, comma, dollar, star, equals}
use Rattle.lh_unit.specs.Pieces.{IsLexeme}
use Rattle.lh_unit.specs.CanonWords.{op_word, op_numbers}
use Rattle.lh_unit.specs.Within.{Each}
use Rattle.lh_unit.specs.SpellsTypes.{SpellsType}
use Rattle.lh_unit.specs.SpellsNumbers.{SpellsNumber, SpellsTime}
use Rattle.lh_unit.specs.SpellsParts.{SpellsBehind, SpellsOperand}
use Rattle.lh_unit.specs.SpellsInst.{typed as typed_column, bare as bare_column, SpellsColumns, columns, IsOpWord, SpellsWordOp, SpellsInst}
use Rattle.lh_text_laws.specs.Printable.{HasInstLine}
use Rattle.lh_text_laws.proofs.SpacedLines.{word-lexeme}
use Rattle.lh_text_laws.proofs.Insts.{line-has}
use Rattle.lh_selftest_laws.specs.Words.{typed, plain, signal, gives, does, number}

-- ---- names and types

abbrev pub is_name : List ℕ → Bool
is_name n = nat_le 1 (length n) && (nat_le (length n) 255 && all_name_bytes n)

-- a name that the test takes
abbrev pub IsNamed : List ℕ → Type 0
IsNamed n = is_name n ≡ true

pub name : (n : List ℕ) → is_name n ≡ true → IsName n
name n h =
    let p = and_parts (nat_le 1 (length n)) (nat_le (length n) 255 && all_name_bytes n) h in
    let q = and_parts (nat_le (length n) 255) (all_name_bytes n) p.1 in
    let a : nat_le 1 (length n) ≡ true = p.0 in
    let b : nat_le (length n) 255 ≡ true = q.0 in
    (grind (arith, common_steps), grind (arith, common_steps), q.1)

-- how a width of integers is written
pub record Width (n : ℕ) : Type 0 where
  pub digits : List ℕ
  pub written : IsLexeme (word (105 ∷ digits))
  pub says : number_of digits ≡ Some n
  pub fits : IsData (int_type n)

pub one : Width 1
one = record { digits = codes "1"; written = word-lexeme (codes "i1") refl; says = refl; fits = (omega arith, omega arith) }

pub whole : Width 32
whole = record { digits = codes "32"; written = word-lexeme (codes "i32") refl; says = refl; fits = (omega arith, omega arith) }

-- the token of a type of integers
abbrev pub type_token : (n : ℕ) → Width n → Lexeme
type_token n w = word (105 ∷ w.digits)

pub type-said : (n : ℕ) (w : Width n) (more : List Lexeme) → SpellsType (int_type n) (type_token n w ∷ more) more
type-said n w more = ((w.digits, refl, w.says), w.fits)

pub signal-said : (n : ℕ) (w : Width n) (more : List Lexeme) → SpellsType (signal_type (int_type n)) (type_token n w ∷ dollar ∷ more) more
signal-said n w more = ((w.digits, refl, w.says), w.fits)

pointer-said : (n : ℕ) (w : Width n) (more : List Lexeme) → SpellsType (pointer_type (int_type n)) (type_token n w ∷ star ∷ more) more
pointer-said n w more = ((w.digits, refl, w.says), w.fits)

-- ---- lines

pub time-line : (r : List ℕ) (d : Delay) (ts : List Lexeme) → IsNamed r → Each IsLexeme ts → SpellsTime d ts → HasInstLine (gives r (const_text (time_value d)))
time-line r d ts ir w h =
    let us : List Lexeme = word (codes "const") ∷ word (codes "time") ∷ ts in
    line-has (Some r) (const_text (time_value d)) (local r ∷ equals ∷ us) (name r ir, (refl, (word-lexeme (codes "const") refl, (word-lexeme (codes "time") refl, w)))) (us, refl, refl, (ts, refl, h))

module _ (n : ℕ) (w : Width n) where
  pub const-line : (r : List ℕ) (b : ℕ) (ds : List ℕ) → IsNamed r → (nat_le 1 (length ds) && all_name_bytes ds) ≡ true → number_of ds ≡ Some b → b < 2 ^ n → HasInstLine (gives r (number n b))
  const-line r b ds ir id says l =
      let vs : List Lexeme = word ds ∷ [] in
      let us : List Lexeme = word (codes "const") ∷ type_token n w ∷ vs in
      line-has (Some r) (number n b) (local r ∷ equals ∷ us) (name r ir, (refl, (word-lexeme (codes "const") refl, (w.written, (word-lexeme ds id, tt)))))
      (us, refl, refl, (type_token n w ∷ vs, vs, refl, type-said n w vs, inl (ds, refl, says, l)))

  pub sig-line : (r a : List ℕ) → IsNamed r → IsNamed a → HasInstLine (gives r (sig_text (typed (int_type n) a)))
  sig-line r a ir ia =
      let vs : List Lexeme = type_token n w ∷ local a ∷ [] in
      let us : List Lexeme = word (codes "sig") ∷ vs in
      line-has (Some r) (sig_text (typed (int_type n) a)) (local r ∷ equals ∷ us) (name r ir, (refl, (word-lexeme (codes "sig") refl, (w.written, (name a ia, tt)))))
      (us, refl, refl, (vs, refl, (int_type n, refl, type-said n w (local a ∷ []))))

  pub var-line : (r a : List ℕ) → IsNamed r → IsNamed a → HasInstLine (gives r (var_text (typed (int_type n) a)))
  var-line r a ir ia =
      let vs : List Lexeme = type_token n w ∷ local a ∷ [] in
      let us : List Lexeme = word (codes "var") ∷ vs in
      line-has (Some r) (var_text (typed (int_type n) a)) (local r ∷ equals ∷ us) (name r ir, (refl, (word-lexeme (codes "var") refl, (w.written, (name a ia, tt)))))
      (us, refl, refl, (vs, refl, (int_type n, refl, type-said n w (local a ∷ []))))

  pub ld-line : (r p : List ℕ) → IsNamed r → IsNamed p → HasInstLine (gives r (ld_text (typed (pointer_type (int_type n)) p)))
  ld-line r p ir ip =
      let vs : List Lexeme = type_token n w ∷ star ∷ local p ∷ [] in
      let us : List Lexeme = word (codes "ld") ∷ vs in
      line-has (Some r) (ld_text (typed (pointer_type (int_type n)) p)) (local r ∷ equals ∷ us) (name r ir, (refl, (word-lexeme (codes "ld") refl, (w.written, (refl, (name p ip, tt))))))
      (us, refl, refl, (vs, refl, (pointer_type (int_type n), refl, pointer-said n w (local p ∷ []))))

  pub st-line : (p v : List ℕ) → IsNamed p → IsNamed v → HasInstLine (does (st_text (typed (pointer_type (int_type n)) p) v))
  st-line p v ip iv =
      let vs : List Lexeme = type_token n w ∷ star ∷ local p ∷ comma ∷ local v ∷ [] in
      line-has None (st_text (typed (pointer_type (int_type n)) p) v) (word (codes "st") ∷ vs) (word-lexeme (codes "st") refl, (w.written, (refl, (name p ip, (refl, (name v iv, tt))))))
      (refl, (vs, refl, (pointer_type (int_type n), refl, pointer-said n w (local p ∷ comma ∷ local v ∷ []))))

  pub probe-line : (r s : List ℕ) → IsNamed r → IsNamed s → HasInstLine (gives r (prb_text (signal (int_type n) s)))
  probe-line r s ir is =
      let vs : List Lexeme = type_token n w ∷ dollar ∷ local s ∷ [] in
      let us : List Lexeme = word (codes "prb") ∷ vs in
      line-has (Some r) (prb_text (signal (int_type n) s)) (local r ∷ equals ∷ us) (name r ir, (refl, (word-lexeme (codes "prb") refl, (w.written, (refl, (name s is, tt))))))
      (us, refl, refl, (vs, refl, (signal_type (int_type n), refl, signal-said n w (local s ∷ []))))

  pub drive-line : (s v d : List ℕ) → IsNamed s → IsNamed v → IsNamed d → HasInstLine (does (drv_text (signal (int_type n) s) v d None))
  drive-line s v d is iv id =
      let us : List Lexeme = word (codes "after") ∷ local d ∷ [] in
      let vs : List Lexeme = type_token n w ∷ dollar ∷ local s ∷ comma ∷ local v ∷ us in
      line-has None (drv_text (signal (int_type n) s) v d None) (word (codes "drv") ∷ vs)
      (word-lexeme (codes "drv") refl, (w.written, (refl, (name s is, (refl, (name v iv, (word-lexeme (codes "after") refl, (name d id, tt))))))))
      (refl, (us, (vs, refl, (signal_type (int_type n), refl, signal-said n w (local s ∷ comma ∷ local v ∷ us))), inl ([], refl, refl)))

  -- an operation that has a word, and no numbers behind its two operands
  module _ (o : Op) (r a b : List ℕ) (is_word : IsLexeme (word (op_word o))) (spelt : IsOpWord o (op_word o)) where
    abbrev args : List OperandText
    args = typed (int_type n) a ∷ plain b ∷ []

    pub two-line : ((ts : List Lexeme) → SpellsWordOp o args ts → SpellsInst (pure_text o args) ts)
        → ((ts : List Lexeme) → SpellsColumns (typed_column ∷ bare_column ∷ []) args ts [] → SpellsColumns (columns o) args ts []) →
        SpellsBehind SpellsNumber (op_numbers o) [] [] → IsNamed r → IsNamed a → IsNamed b → HasInstLine (gives r (pure_text o args))
    two-line inst columned none ir ia ib =
        let vs : List Lexeme = type_token n w ∷ local a ∷ comma ∷ local b ∷ [] in
        let us : List Lexeme = word (op_word o) ∷ vs in
        line-has (Some r) (pure_text o args) (local r ∷ equals ∷ us) (name r ir, (refl, (is_word, (w.written, (name a ia, (refl, (name b ib, tt)))))))
        (us, refl, refl, inst us (op_word o, vs, [], refl, spelt, columned vs (local b ∷ [], (int_type n, refl, type-said n w (local a ∷ comma ∷ local b ∷ [])), (refl, refl)), none))

pub br-line : (b : List ℕ) → IsNamed b → HasInstLine (does (br_text b))
br-line b ib = line-has None (br_text b) (word (codes "br") ∷ local b ∷ []) (word-lexeme (codes "br") refl, (name b ib, tt)) (refl, refl)

pub branch-line : (c f t : List ℕ) → IsNamed c → IsNamed f → IsNamed t → HasInstLine (does (branch_text c f t))
branch-line c f t ic jf it =
    line-has None (branch_text c f t) (word (codes "br") ∷ local c ∷ comma ∷ local f ∷ comma ∷ local t ∷ []) (word-lexeme (codes "br") refl, (name c ic, (refl, (name f jf, (refl, (name t it, tt))))))
    (refl, refl)

pub halt-line : HasInstLine (does halt_text)
halt-line = line-has None halt_text (word (codes "halt") ∷ []) (word-lexeme (codes "halt") refl, tt) (refl, refl)

-- a wait for a time
pub wait-line : (b d : List ℕ) → IsNamed b → IsNamed d → HasInstLine (does (wait_text b (Some d) []))
wait-line b d ib id =
    let us : List Lexeme = word (codes "for") ∷ local d ∷ [] in
    line-has None (wait_text b (Some d) []) (word (codes "wait") ∷ local b ∷ us) (word-lexeme (codes "wait") refl, (name b ib, (word-lexeme (codes "for") refl, (name d id, tt))))
    (refl, (us, [], refl, refl, refl))

-- a wait for a change of one signal, and of one of two
pub wait_one-line : (b s : List ℕ) → IsNamed b → IsNamed s → HasInstLine (does (wait_text b None (s ∷ [])))
wait_one-line b s ib is =
    let vs : List Lexeme = local s ∷ [] in
    line-has None (wait_text b None (s ∷ [])) (word (codes "wait") ∷ local b ∷ comma ∷ vs) (word-lexeme (codes "wait") refl, (name b ib, (refl, (name s is, tt))))
    (refl, (comma ∷ vs, comma ∷ vs, refl, refl, (vs, refl, refl)))

pub wait_two-line : (b s t : List ℕ) → IsNamed b → IsNamed s → IsNamed t → HasInstLine (does (wait_text b None (s ∷ t ∷ [])))
wait_two-line b s t ib is it =
    let ws : List Lexeme = local t ∷ [] in
    let vs : List Lexeme = local s ∷ comma ∷ ws in
    line-has None (wait_text b None (s ∷ t ∷ [])) (word (codes "wait") ∷ local b ∷ comma ∷ vs) (word-lexeme (codes "wait") refl, (name b ib, (refl, (name s is, (refl, (name t it, tt))))))
    (refl, (comma ∷ vs, comma ∷ vs, refl, refl, (vs, refl, (ws, refl, refl))))

-- a call without a result, of one operand
pub call-line : (f : List ℕ) (n : ℕ) (w : Width n) (a : List ℕ) → IsNamed f → IsNamed a → HasInstLine (does (call_text (record { sigil = 64; name = f }) void_type (typed (int_type n) a ∷ [])))
call-line f n w a ig ia =
    let u : UnitName = record { sigil = 64; name = f } in
    let ws : List Lexeme = type_token n w ∷ local a ∷ close_paren ∷ [] in
    let vs : List Lexeme = word (codes "void") ∷ global f ∷ open_paren ∷ ws in
    line-has None (call_text u void_type (typed (int_type n) a ∷ [])) (word (codes "call") ∷ vs)
    (word-lexeme (codes "call") refl, (word-lexeme (codes "void") refl, (name f ig, (refl, (w.written, (name a ia, (refl, tt)))))))
    (refl, (global f, vs, ws, refl, (refl, tt), inl (refl, refl), type-said n w (local a ∷ close_paren ∷ [])))

-- the operands of an instance: signals of integers
pub record Port : Type 0 where
  pub n : ℕ
  pub width : Width n
  pub name : List ℕ
  pub named : IsNamed name

abbrev pub port : Port → OperandText
port p = signal (int_type p.n) p.name

port-said : (p : Port) (more : List Lexeme) → SpellsOperand (port p) (type_token p.n p.width ∷ dollar ∷ local p.name ∷ more) more
port-said p more = signal-said p.n p.width (local p.name ∷ more)

abbrev pub port_tokens : Port → List Lexeme → List Lexeme
port_tokens p more = type_token p.n p.width ∷ dollar ∷ local p.name ∷ more

-- an instance with one input and one output, and with two inputs
pub instance-line : (f : List ℕ) (a b : Port) → IsNamed f → HasInstLine (does (child_text (record { sigil = 64; name = f }) (port a ∷ []) (port b ∷ [])))
instance-line f a b ig =
    let u : UnitName = record { sigil = 64; name = f } in
    let ws : List Lexeme = port_tokens b (close_paren ∷ []) in
    let vs : List Lexeme = port_tokens a (close_paren ∷ arrow ∷ open_paren ∷ ws) in
    line-has None (child_text u (port a ∷ []) (port b ∷ [])) (word (codes "inst") ∷ global f ∷ open_paren ∷ vs)
    (word-lexeme (codes "inst") refl, (name f ig, (refl, (a.width.written, (refl, (name a.name a.named, (refl, (tt, (refl, (b.width.written, (refl, (name b.name b.named, (refl, tt)))))))))))))
    (refl, (global f, vs, ws, refl, inl (refl, refl), port-said a (close_paren ∷ arrow ∷ open_paren ∷ ws), port-said b (close_paren ∷ [])))

pub instance_two-line : (f : List ℕ) (a b c : Port) → IsNamed f → HasInstLine (does (child_text (record { sigil = 64; name = f }) (port a ∷ port b ∷ []) (port c ∷ [])))
instance_two-line f a b c ig =
    let u : UnitName = record { sigil = 64; name = f } in
    let ws : List Lexeme = port_tokens c (close_paren ∷ []) in
    let rs : List Lexeme = port_tokens b (close_paren ∷ arrow ∷ open_paren ∷ ws) in
    let vs : List Lexeme = port_tokens a (comma ∷ rs) in
    line-has None (child_text u (port a ∷ port b ∷ []) (port c ∷ [])) (word (codes "inst") ∷ global f ∷ open_paren ∷ vs) (
      word-lexeme (codes "inst") refl,
      (
        name f ig,
        (
          refl,
          (
            a.width.written,
            (
              refl,
              (
                name a.name a.named,
                (refl, (b.width.written, (refl, (name b.name b.named, (refl, (tt, (refl, (c.width.written, (refl, (name c.name c.named, (refl, tt))))))))))),
              ),
            ),
          ),
        ),
      ),
    )
    (refl, (global f, vs, ws, refl, inl (refl, refl), (rs, port-said a (comma ∷ rs), port-said b (close_paren ∷ arrow ∷ open_paren ∷ ws)), port-said c (close_paren ∷ [])))
