-- What spells the instructions of an entity: tokens that can be written.
use Rattle.std.proofs.Common.{◌≡◌, ℕ, ◌*◌, ◌<◌, ◌≤◌, ◌^◌, inl, inr, true, List, [], ◌∷◌, ◌++◌, map, length, Option, Some, None, decimal, refl, ap, sym, ◌∙◌, subst, arith, append_assoc, append-nil, length-append}
use Rattle.std.specs.Prelude.{codes}
use Rattle.lh_time.specs.declared.Delay.{Delay}
use Rattle.lh_types.specs.Types.{TypeTree, int_type, signal_type, IsData, IsLimited}
use Rattle.lh_types.specs.Values.{int_value, time_value}
use Rattle.lh_unit_names.specs.Names.{IsName, all_name_bytes}
use Rattle.lh_unit.specs.Contents.{OperandText, InstText, TriggerText, const_text, prb_text, drv_text, reg_text}
use Rattle.lh_unit.specs.Lexemes.{Lexeme, word, local}
use Rattle.lh_unit.specs.Marks.{open_bracket, close_bracket, comma, equals}
use Rattle.lh_unit.specs.Pieces.{Piece, token, space, IsLexeme, IsSpaced, lexemes_in}
use Rattle.lh_unit.specs.CanonTypes.{type_pieces}
use Rattle.lh_unit.specs.CanonWords.{mode_word}
use Rattle.lh_unit.specs.Within.{Each}
use Rattle.lh_unit.specs.SpellsTypes.{SpellsType}
use Rattle.lh_unit.specs.SpellsNumbers.{SpellsNumber, SpellsFemtoseconds, SpellsTime}
use Rattle.lh_unit.specs.SpellsParts.{SpellsParts, SpellsBehind, SpellsOperand, SpellsBare, SpellsWithType, SpellsMaybe, SpellsTrigger}
use Rattle.lh_unit.specs.SpellsInst.{SpellsWordTyped, SpellsInst, gives_value, may_stand_alone}
use Rattle.lh_unit.specs.declared.inst.Mode.{Mode}
use Rattle.lh_unit.specs.declared.inst.Mode.TheVariants as mode
use Rattle.lh_text_laws.specs.Printable.{HasInstLine}
use Rattle.lh_text_laws.proofs.Numerals.{number_of-decimal, decimal-named, decimal-some, all_name_bytes-append}
use Rattle.lh_text_laws.proofs.SpacedLines.{word-lexeme}
use Rattle.lh_text_laws.proofs.Types.{number-lexeme, type-stands}
use Rattle.lh_text_laws.proofs.Insts.{line-has}
use Rattle.lh_emit_def.specs.Emitted.{typed, bare}
pub use Rattle.lh_unit.proofs.Lists.{Each-append as each-append}

pub spaced-written : (ps : List Piece) → IsSpaced ps → Each IsLexeme (lexemes_in ps)
spaced-written [] h = tt
spaced-written (token t ∷ ps) h = (h.0, spaced-written ps h.2)
spaced-written (space ∷ ps) h = spaced-written ps h

lexemes_in-append : (a b : List Piece) → lexemes_in (a ++ b) ≡ lexemes_in a ++ lexemes_in b
lexemes_in-append [] b = refl
lexemes_in-append (token t ∷ a) b = ap (λ q. t ∷ q) (lexemes_in-append a b)
lexemes_in-append (space ∷ a) b = lexemes_in-append a b

lexemes_in-tokens : (ts : List Lexeme) → lexemes_in (map token ts) ≡ ts
lexemes_in-tokens [] = refl
lexemes_in-tokens (t ∷ ts) = ap (λ q. t ∷ q) (lexemes_in-tokens ts)

-- tokens that can be written and spell what S says, whatever follows them
pub record SpeltInFront (S : List Lexeme → List Lexeme → Type 0) : Type 0 where
  pub toks : List Lexeme
  pub written : Each IsLexeme toks
  pub spelled : (more : List Lexeme) → S (toks ++ more) more

-- tokens that spell what S says, to the end of the line
pub record Spelt (S : List Lexeme → Type 0) : Type 0 where
  pub toks : List Lexeme
  pub written : Each IsLexeme toks
  pub spelled : S toks

-- ---- parts of a line

pub type-says : (t : TypeTree) → IsLimited t → SpeltInFront (SpellsType t)
type-says t d =
    let s = type-stands t d in
    record {
      toks = lexemes_in (type_pieces t);
      written = spaced-written (type_pieces t) s.spaced;
      spelled = λ more.
          let ps : List Piece = map token more in
          let a : lexemes_in ps ≡ more = lexemes_in-tokens more in
          let b : lexemes_in (type_pieces t ++ ps) ≡ lexemes_in (type_pieces t) ++ more = lexemes_in-append (type_pieces t) ps ∙ ap (λ z. lexemes_in (type_pieces t) ++ z) a in
          let h : SpellsType t (lexemes_in (type_pieces t ++ ps)) (lexemes_in ps) = s.spelled ps in
          let k : SpellsType t (lexemes_in (type_pieces t ++ ps)) more = subst (λ z. SpellsType t (lexemes_in (type_pieces t ++ ps)) z) a h in
          subst (λ z. SpellsType t z more) b k;
    }

-- a type and a name
pub operand-says : (n : List ℕ) (t : TypeTree) → IsName n → IsLimited t → SpeltInFront (λ ts more. SpellsType t ts (local n ∷ more))
operand-says n t i d =
    let s = type-says t d in
    record {
      toks = s.toks ++ local n ∷ [];
      written = each-append IsLexeme s.toks (local n ∷ []) s.written (i, tt);
      spelled = λ more. subst (λ z. SpellsType t z (local n ∷ more)) (sym (append_assoc s.toks (local n ∷ []) more)) (s.spelled (local n ∷ more));
    }

pub typed-says : (n : List ℕ) (t : TypeTree) → IsName n → IsLimited t → SpeltInFront (SpellsWithType (typed n t))
typed-says n t i d = let s = operand-says n t i d in record { toks = s.toks; written = s.written; spelled = λ more. (t, refl, s.spelled more) }

pub free-says : (n : List ℕ) (t : TypeTree) → IsName n → IsLimited t → SpeltInFront (SpellsOperand (typed n t))
free-says n t i d = let s = operand-says n t i d in record { toks = s.toks; written = s.written; spelled = λ more. s.spelled more }

pub bare-says : (n : List ℕ) → IsName n → SpeltInFront (SpellsBare (bare n))
bare-says n i = record { toks = local n ∷ []; written = (i, tt); spelled = λ more. (refl, refl) }

pub number-says : (n : ℕ) → n < 2 ^ 32 → SpeltInFront (SpellsNumber n)
number-says n b =
    let s : n < 10 ^ 64 = omega arith in
    record { toks = word (decimal n) ∷ []; written = (number-lexeme n s, tt); spelled = λ more. (decimal n, refl, number_of-decimal n s, b) }

-- a name, where there is one
abbrev pub MaybeName : Option (List ℕ) → Type 0
MaybeName None = Unit {0}
MaybeName (Some n) = IsName n

pub maybe-says : (w : List ℕ) (o : Option (List ℕ)) → IsLexeme (word w) → MaybeName o → SpeltInFront (SpellsMaybe w o)
maybe-says w None i h = record { toks = []; written = tt; spelled = λ more. refl }
maybe-says w (Some n) i h = record { toks = word w ∷ local n ∷ []; written = (i, (h, tt)); spelled = λ more. refl }

-- one after another, with a comma between them
pub comma-says : (S T : List Lexeme → List Lexeme → Type 0) → SpeltInFront S → SpeltInFront T → SpeltInFront (λ ts more. (us : List Lexeme) × S ts (comma ∷ us) × T us more)
comma-says S T a b = record {
  toks = a.toks ++ comma ∷ b.toks;
  written = each-append IsLexeme a.toks (comma ∷ b.toks) a.written (refl, b.written);
  spelled = λ more. (
    b.toks ++ more,
    subst (λ z. S z (comma ∷ (b.toks ++ more))) (sym (append_assoc a.toks (comma ∷ b.toks) more)) (a.spelled (comma ∷ (b.toks ++ more))),
    b.spelled more,
  );
}

module _ {A : Type 0} (P : A → List Lexeme → List Lexeme → Type 0) where
  pub parts-says : (a : A) (xs : List A) → SpeltInFront (P a) → Each (λ x. SpeltInFront (P x)) xs → SpeltInFront (SpellsParts P (a ∷ xs))
  parts-says a [] h k = record { toks = h.toks; written = h.written; spelled = λ more. h.spelled more }
  parts-says a (b ∷ xs) h k =
      let r = parts-says b xs k.0 k.1 in
      let s = comma-says (P a) (SpellsParts P (b ∷ xs)) h r in
      record { toks = s.toks; written = s.written; spelled = λ more. s.spelled more }

  pub behind-says : (xs : List A) → Each (λ x. SpeltInFront (P x)) xs → SpeltInFront (SpellsBehind P xs)
  behind-says [] k = record { toks = []; written = tt; spelled = λ more. refl }
  behind-says (a ∷ xs) k =
      let r = parts-says a xs k.0 k.1 in
      record { toks = comma ∷ r.toks; written = (refl, r.written); spelled = λ more. (r.toks ++ more, refl, r.spelled more) }

-- ---- lines

-- an instruction that gives a value of this name
pub given-line : (n : List ℕ) (i : InstText) → IsName n → gives_value i ≡ true → Spelt (SpellsInst i) → HasInstLine (record { result = Some n; inst = i })
given-line n i m g s = line-has (Some n) i (local n ∷ equals ∷ s.toks) (m, (refl, s.written)) (s.toks, refl, g, s.spelled)

-- one that gives none
pub plain-line : (i : InstText) → may_stand_alone i ≡ true → Spelt (SpellsInst i) → HasInstLine (record { result = None; inst = i })
plain-line i g s = line-has None i s.toks s.written (g, s.spelled)

-- ---- constants

pub int-spelt : (n b : ℕ) → IsData (int_type n) → b < 2 ^ n → b < 10 ^ 64 → Spelt (SpellsInst (const_text (int_value n b)))
int-spelt n b d l s =
    let t = type-says (int_type n) d in
    let vs : List Lexeme = word (decimal b) ∷ [] in
    record {
      toks = word (codes "const") ∷ (t.toks ++ vs);
      written = (word-lexeme (codes "const") refl, each-append IsLexeme t.toks vs t.written (number-lexeme b s, tt));
      spelled = (t.toks ++ vs, vs, refl, t.spelled vs, inl (decimal b, refl, number_of-decimal b s, l));
    }

-- a number with letters behind it
numbered : (n : ℕ) (u : List ℕ) → n < 10 ^ 64 → all_name_bytes u ≡ true → IsLexeme (word (decimal n ++ u))
numbered n u s a =
    let f : 1 ≤ length (decimal n) = decimal-some n s in
    (omega (arith, length-append (decimal n) u, f), all_name_bytes-append (decimal n) u (decimal-named n s) a)

femtoseconds : (n : ℕ) → n < 2 ^ 63 → SpellsFemtoseconds n (decimal n ++ codes "fs")
femtoseconds n b =
    let s : n < 10 ^ 64 = omega arith in
    let w : n * 1 ≡ n * 10 ^ 0 = omega arith in
    record { numeral = decimal n; unit = codes "fs"; together = refl; n = n; places = 0; says = inl (number_of-decimal n s, refl); scale = 1; known = refl; whole = w; below = b }

pub time-spelt : (d : Delay) → d.fs < 2 ^ 63 → d.delta < 2 ^ 31 → d.eps < 2 ^ 31 → Spelt (SpellsInst (const_text (time_value d)))
time-spelt d a b c =
    let sa : d.fs < 10 ^ 64 = omega arith in
    let sb : d.delta < 10 ^ 64 = omega arith in
    let sc : d.eps < 10 ^ 64 = omega arith in
    let vs : List Lexeme = word (decimal d.eps ++ 101 ∷ []) ∷ [] in
    let us : List Lexeme = word (decimal d.delta ++ 100 ∷ []) ∷ vs in
    let ts : List Lexeme = word (decimal d.fs ++ codes "fs") ∷ us in
    let h : SpellsTime d ts = (
      decimal d.fs ++ codes "fs",
      us,
      vs,
      refl,
      femtoseconds d.fs a,
      inr (decimal d.delta, refl, number_of-decimal d.delta sb, b),
      inr (decimal d.eps, refl, number_of-decimal d.eps sc, c),
    ) in
    record {
      toks = word (codes "const") ∷ word (codes "time") ∷ ts;
      written = (
        word-lexeme (codes "const") refl,
        (word-lexeme (codes "time") refl, (numbered d.fs (codes "fs") sa refl, (numbered d.delta (100 ∷ []) sb refl, (numbered d.eps (101 ∷ []) sc refl, tt)))),
      );
      spelled = (ts, refl, h);
    }

-- ---- parts of signals

worded : (w : List ℕ) (o : OperandText) → IsLexeme (word w) → SpeltInFront (SpellsWithType o) → SpeltInFront (SpellsWordTyped w o)
worded w o i s = record { toks = word w ∷ s.toks; written = (i, s.written); spelled = λ more. (s.toks ++ more, refl, s.spelled more) }

pub probe-spelt : (n : List ℕ) (t : TypeTree) → IsName n → IsData t → Spelt (SpellsInst (prb_text (typed n (signal_type t))))
probe-spelt n t i d =
    let s = worded (codes "prb") (typed n (signal_type t)) (word-lexeme (codes "prb") refl) (typed-says n (signal_type t) i d) in
    record { toks = s.toks; written = s.written; spelled = subst (λ z. SpellsWordTyped (codes "prb") (typed n (signal_type t)) z []) (append-nil s.toks) (s.spelled []) }

pub drive-spelt : (n : List ℕ) (t : TypeTree) (v d : List ℕ) (c : Option (List ℕ)) → IsName n → IsData t → IsName v → IsName d → MaybeName c
    → Spelt (SpellsInst (drv_text (typed n (signal_type t)) v d c))
drive-spelt n t v d c i k iv id ic =
    let o : OperandText = typed n (signal_type t) in
    let s = worded (codes "drv") o (word-lexeme (codes "drv") refl) (typed-says n (signal_type t) i k) in
    let m = maybe-says (codes "if") c (word-lexeme (codes "if") refl) ic in
    let us : List Lexeme = word (codes "after") ∷ local d ∷ m.toks in
    record {
      toks = s.toks ++ comma ∷ local v ∷ us;
      written = each-append IsLexeme s.toks (comma ∷ local v ∷ us) s.written (refl, (iv, (word-lexeme (codes "after") refl, (id, m.written))));
      spelled = (us, s.spelled (comma ∷ local v ∷ us), inl (m.toks, refl, subst (λ z. SpellsMaybe (codes "if") c z []) (append-nil m.toks) (m.spelled [])));
    }

mode-lexeme : (m : Mode) → IsLexeme (word (mode_word m))
mode-lexeme mode.Rise = word-lexeme (codes "rise") refl
mode-lexeme mode.Fall = word-lexeme (codes "fall") refl
mode-lexeme mode.Both = word-lexeme (codes "both") refl
mode-lexeme mode.High = word-lexeme (codes "high") refl
mode-lexeme mode.Low = word-lexeme (codes "low") refl

-- the names in a trigger
pub record TriggerWritten (g : TriggerText) : Type 0 where
  pub value : IsName g.value
  pub trigger : IsName g.trigger
  pub gate : MaybeName g.gate
  pub after : MaybeName g.after

pub trigger-says : (g : TriggerText) → TriggerWritten g → SpeltInFront (SpellsTrigger g)
trigger-says g h =
    let a = maybe-says (codes "if") g.gate (word-lexeme (codes "if") refl) h.gate in
    let b = maybe-says (codes "after") g.after (word-lexeme (codes "after") refl) h.after in
    let end : List Lexeme = close_bracket ∷ [] in
    let us : List Lexeme = a.toks ++ (b.toks ++ end) in
    record {
      toks = open_bracket ∷ local g.value ∷ comma ∷ word (mode_word g.mode) ∷ local g.trigger ∷ us;
      written = (
        refl,
        (h.value, (refl, (mode-lexeme g.mode, (h.trigger, each-append IsLexeme a.toks (b.toks ++ end) a.written (each-append IsLexeme b.toks end b.written (refl, tt)))))),
      );
      spelled = λ more.
          let q : us ++ more ≡ a.toks ++ (b.toks ++ close_bracket ∷ more) = append_assoc a.toks (b.toks ++ end) more ∙ ap (λ z. a.toks ++ z) (append_assoc b.toks end more) in (
            us ++ more,
            b.toks ++ close_bracket ∷ more,
            refl,
            subst (λ z. SpellsMaybe (codes "if") g.gate z (b.toks ++ close_bracket ∷ more)) (sym q) (a.spelled (b.toks ++ close_bracket ∷ more)),
            b.spelled (close_bracket ∷ more),
          );
    }

pub register-spelt : (n : List ℕ) (t : TypeTree) (g : TriggerText) (gs : List TriggerText) → IsName n → IsData t → TriggerWritten g → Each TriggerWritten gs →
    Spelt (SpellsInst (reg_text (typed n (signal_type t)) (g ∷ gs)))
register-spelt n t g gs i d h hs =
    let o : OperandText = typed n (signal_type t) in
    let s = worded (codes "reg") o (word-lexeme (codes "reg") refl) (typed-says n (signal_type t) i d) in
    let p = parts-says SpellsTrigger g gs (trigger-says g h) (all gs hs) in
    record {
      toks = s.toks ++ comma ∷ p.toks;
      written = each-append IsLexeme s.toks (comma ∷ p.toks) s.written (refl, p.written);
      spelled = (p.toks, s.spelled (comma ∷ p.toks), subst (λ z. SpellsParts SpellsTrigger (g ∷ gs) z []) (append-nil p.toks) (p.spelled []));
    }
  where
    all : (gs : List TriggerText) → Each TriggerWritten gs → Each (λ x. SpeltInFront (SpellsTrigger x)) gs
    all [] hs = tt
    all (g ∷ gs) hs = (trigger-says g hs.0, all gs hs.1)
