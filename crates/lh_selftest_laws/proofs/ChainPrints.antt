-- Each item of the file of a chain can be printed.
use Rattle.std.proofs.Common.{ℕ, ◌^◌, inl, inr, Bool, true, false, List, [], ◌∷◌, ◌++◌, Option, None, refl, arith}
use Rattle.std.specs.Prelude.{codes}
use Rattle.lh_types.specs.Types.{TypeTree, int_type, signal_type}
use Rattle.lh_types.specs.declared.op.Op.TheVariants as op
use Rattle.lh_unit.specs.declared.inst.UnitKind.{UnitKind}
use Rattle.lh_unit.specs.declared.inst.UnitKind.TheVariants as kind
use Rattle.lh_unit_names.specs.declared.name.UnitName.{UnitName}
use Rattle.lh_unit.specs.Contents.{ArgText}
use Rattle.lh_unit.specs.Lexemes.{Lexeme, word, global, local, arrow}
use Rattle.lh_unit.specs.Marks.{open_paren, close_paren, open_brace, comma}
use Rattle.lh_unit.specs.Pieces.{IsLexeme}
use Rattle.lh_unit.specs.Within.{Each}
use Rattle.lh_unit.specs.Spells.{TypedName, SpellsPort, header_item, label_item, SpellsHeader}
use Rattle.lh_unit.specs.SpellsNumbers.{SpellsFemtoseconds}
use Rattle.lh_text_laws.specs.Printable.{HasLine, HasInstLine, IsPrintable}
use Rattle.lh_text_laws.proofs.SpacedLines.{word-lexeme}
use Rattle.lh_text_laws.proofs.Headers.{header-again}
use Rattle.lh_selftest_design.specs.Summary.{chain_name}
use Rattle.lh_selftest_laws.specs.Words.{gives, delay}
use Rattle.lh_unit.proofs.Lists.{Each-append as each-append}
use Rattle.lh_selftest_laws.specs.Chain.{register_unit, adder_unit, testbench_entry, testbench_loop, testbench_next, testbench_done, testbench_unit}
use Rattle.lh_selftest_laws.proofs.Lines.{name, IsNamed, one, whole, signal-said, time-line, const-line, var-line, ld-line, st-line, probe-line, drive-line, two-line, br-line, branch-line, halt-line, wait-line, wait_one-line, wait_two-line, call-line, Port, port_tokens}

-- ---- headers and labels

header-has : (k : UnitKind) (n : UnitName) (args : List ArgText) (r : Option TypeTree) (ts : List Lexeme) → Each IsLexeme ts → SpellsHeader k n args r ts → HasLine (header_item k n args r)
header-has k n args r ts w h = let a = header-again k n args r ts w h in (a.spaced, a.spelled)

pub chain-header : HasLine (header_item kind.Entity chain_name [] None)
chain-header =
    let end : List Lexeme = close_paren ∷ open_brace ∷ [] in
    let us : List Lexeme = close_paren ∷ arrow ∷ open_paren ∷ end in
    header-has kind.Entity chain_name [] None (word (codes "entity") ∷ global (codes "chain") ∷ open_paren ∷ us)
    (word-lexeme (codes "entity") refl, (name (codes "chain") refl, (refl, (refl, (tt, (refl, (refl, (refl, tt)))))))) (
      global (codes "chain"),
      open_paren ∷ us,
      refl,
      inl (refl, refl),
      record { inputs = []; outputs = []; together = refl; first = us; second = end; opened = refl; spelled_inputs = refl; spelled_outputs = refl },
    )

abbrev typed_name : Port → TypedName
typed_name p = record { ty = signal_type (int_type p.n); name = p.name }

port-said : (p : Port) (more : List Lexeme) → SpellsPort (typed_name p) (port_tokens p more) more
port-said p more = (tt, signal-said p.n p.width (local p.name ∷ more))

abbrev argument_of : Bool → Port → ArgText
argument_of output p = record { name = p.name; ty = signal_type (int_type p.n); output = output }

-- processes with one input and one output, and with two inputs
process-header : (f : List ℕ) (a b : Port) → IsNamed f → HasLine (header_item kind.Proc (record { sigil = 64; name = f }) (argument_of false a ∷ argument_of true b ∷ []) None)
process-header f a b i =
    let end : List Lexeme = port_tokens b (close_paren ∷ open_brace ∷ []) in
    let us : List Lexeme = port_tokens a (close_paren ∷ arrow ∷ open_paren ∷ end) in
    header-has kind.Proc (record { sigil = 64; name = f }) (argument_of false a ∷ argument_of true b ∷ []) None (word (codes "proc") ∷ global f ∷ open_paren ∷ us)
    (word-lexeme (codes "proc") refl, (name f i, (refl, (a.width.written, (refl, (name a.name a.named, (refl, (tt, (refl, (b.width.written, (refl, (name b.name b.named, (refl, (refl, tt)))))))))))))) (
      global f,
      open_paren ∷ us,
      refl,
      inl (refl, refl),
      record {
        inputs = typed_name a ∷ [];
        outputs = typed_name b ∷ [];
        together = refl;
        first = us;
        second = end;
        opened = refl;
        spelled_inputs = port-said a (close_paren ∷ arrow ∷ open_paren ∷ end);
        spelled_outputs = port-said b (close_paren ∷ open_brace ∷ []);
      },
    )

process_two-header : (f : List ℕ) (a b c : Port) → IsNamed f
    → HasLine (header_item kind.Proc (record { sigil = 64; name = f }) (argument_of false a ∷ argument_of false b ∷ argument_of true c ∷ []) None)
process_two-header f a b c i =
    let end : List Lexeme = port_tokens c (close_paren ∷ open_brace ∷ []) in
    let vs : List Lexeme = port_tokens b (close_paren ∷ arrow ∷ open_paren ∷ end) in
    let us : List Lexeme = port_tokens a (comma ∷ vs) in
    header-has kind.Proc (record { sigil = 64; name = f }) (argument_of false a ∷ argument_of false b ∷ argument_of true c ∷ []) None (word (codes "proc") ∷ global f ∷ open_paren ∷ us) (
      word-lexeme (codes "proc") refl,
      (
        name f i,
        (
          refl,
          (
            a.width.written,
            (
              refl,
              (
                name a.name a.named,
                (refl, (b.width.written, (refl, (name b.name b.named, (refl, (tt, (refl, (c.width.written, (refl, (name c.name c.named, (refl, (refl, tt)))))))))))),
              ),
            ),
          ),
        ),
      ),
    ) (
      global f,
      open_paren ∷ us,
      refl,
      inl (refl, refl),
      record {
        inputs = typed_name a ∷ typed_name b ∷ [];
        outputs = typed_name c ∷ [];
        together = refl;
        first = us;
        second = end;
        opened = refl;
        spelled_inputs = (vs, port-said a (comma ∷ vs), port-said b (close_paren ∷ arrow ∷ open_paren ∷ end));
        spelled_outputs = port-said c (close_paren ∷ open_brace ∷ []);
      },
    )

label : (n : List ℕ) → IsNamed n → HasLine (label_item n)
label n h = let i = name n h in (((i.0, i.2), refl, (refl, refl, tt)), inl (refl, i.1))

-- ---- times

one_delta : (r : List ℕ) → IsNamed r → HasInstLine (gives r (delay 0 1))
one_delta r h =
    let n : SpellsFemtoseconds 0 (codes "0s") = record {
      numeral = codes "0";
      unit = codes "s";
      together = refl;
      n = 0;
      places = 0;
      says = inl (refl, refl);
      scale = 10 ^ 15;
      known = refl;
      whole = refl;
      below = omega arith;
    } in
    time-line r (record { fs = 0; delta = 1; eps = 0 }) (word (codes "0s") ∷ word (codes "1d") ∷ []) h (word-lexeme (codes "0s") refl, (word-lexeme (codes "1d") refl, tt))
    (codes "0s", word (codes "1d") ∷ [], [], refl, n, inr (codes "1", refl, refl, omega arith), inl (refl, refl))

nanoseconds : (r : List ℕ) (fs : ℕ) (ds : List ℕ) → SpellsFemtoseconds fs (ds ++ codes "ns") → IsLexeme (word (ds ++ codes "ns")) → IsNamed r → HasInstLine (gives r (delay fs 0))
nanoseconds r fs ds s w h =
    time-line r (record { fs = fs; delta = 0; eps = 0 }) (word (ds ++ codes "ns") ∷ []) h (w, tt) (ds ++ codes "ns", [], [], refl, s, inl (refl, refl), inl (refl, refl))

one_nanosecond : SpellsFemtoseconds 1000000 (codes "1ns")
one_nanosecond = record { numeral = codes "1"; unit = codes "ns"; together = refl; n = 1; places = 0; says = inl (refl, refl); scale = 10 ^ 6; known = refl; whole = refl; below = omega arith }

two_nanoseconds : SpellsFemtoseconds 2000000 (codes "2ns")
two_nanoseconds = record { numeral = codes "2"; unit = codes "ns"; together = refl; n = 2; places = 0; says = inl (refl, refl); scale = 10 ^ 6; known = refl; whole = refl; below = omega arith }

-- ---- the units

pub register-printable : IsPrintable register_unit
register-printable = record {
  headed = process_two-header (codes "ff") (record { n = 1; width = one; name = codes "clk"; named = refl }) (record { n = 32; width = whole; name = codes "d"; named = refl })
      (record { n = 32; width = whole; name = codes "q"; named = refl }) refl;
  shaped = ((label (codes "init") refl, refl), ((label (codes "check") refl, refl), ((label (codes "event") refl, refl), tt)));
  written = (
    probe-line 1 one (codes "clk0") (codes "clk") refl refl,
    (
      wait_one-line (codes "check") (codes "clk") refl refl,
      (
        probe-line 1 one (codes "clk1") (codes "clk") refl refl,
        (
          two-line 1 one op.Neq (codes "chg") (codes "clk0") (codes "clk1") (word-lexeme (codes "neq") refl) refl (λ ts h. h) (λ ts h. h) refl refl refl refl,
          (
            two-line 1 one op.And (codes "posedge") (codes "chg") (codes "clk1") (word-lexeme (codes "and") refl) refl (λ ts h. h) (λ ts h. h) refl refl refl refl,
            (
              branch-line (codes "posedge") (codes "init") (codes "event") refl refl refl,
              (
                probe-line 32 whole (codes "dp") (codes "d") refl refl,
                (one_delta (codes "delay") refl, (drive-line 32 whole (codes "q") (codes "dp") (codes "delay") refl refl refl, (br-line (codes "init") refl, tt))),
              ),
            ),
          ),
        ),
      ),
    ),
  );
  no_assert = refl;
  new_args = refl;
  new_labels = refl;
  new_results = refl;
  fits = omega arith;
}

pub adder-printable : IsPrintable adder_unit
adder-printable = record {
  headed = process_two-header (codes "comb") (record { n = 32; width = whole; name = codes "q"; named = refl }) (record { n = 32; width = whole; name = codes "x"; named = refl })
      (record { n = 32; width = whole; name = codes "d"; named = refl }) refl;
  shaped = ((label (codes "entry") refl, refl), tt);
  written = (
    probe-line 32 whole (codes "qp") (codes "q") refl refl,
    (
      probe-line 32 whole (codes "xp") (codes "x") refl refl,
      (
        two-line 32 whole op.Add (codes "s") (codes "qp") (codes "xp") (word-lexeme (codes "add") refl) refl (λ ts h. h) (λ ts h. h) refl refl refl refl,
        (one_delta (codes "t") refl, (drive-line 32 whole (codes "d") (codes "s") (codes "t") refl refl refl, (wait_two-line (codes "entry") (codes "q") (codes "x") refl refl refl, tt))),
      ),
    ),
  );
  no_assert = refl;
  new_args = refl;
  new_labels = refl;
  new_results = refl;
  fits = omega arith;
}

testbench-written-entry : Each HasInstLine testbench_entry.lines
testbench-written-entry = (
  const-line 32 whole (codes "z") 0 (codes "0") refl refl refl (omega arith),
  (
    const-line 32 whole (codes "one") 1 (codes "1") refl refl refl (omega arith),
    (
      const-line 32 whole (codes "eight") 8 (codes "8") refl refl refl (omega arith),
      (
        const-line 1 one (codes "b0") 0 (codes "0") refl refl refl (omega arith),
        (
          const-line 1 one (codes "b1") 1 (codes "1") refl refl refl (omega arith),
          (
            nanoseconds (codes "t1") 1000000 (codes "1") one_nanosecond (word-lexeme (codes "1ns") refl) refl,
            (
              nanoseconds (codes "t2") 2000000 (codes "2") two_nanoseconds (word-lexeme (codes "2ns") refl) refl,
              (var-line 32 whole (codes "n") (codes "z") refl refl, (br-line (codes "loop") refl, tt)),
            ),
          ),
        ),
      ),
    ),
  ),
)

testbench-written-loop : Each HasInstLine testbench_loop.lines
testbench-written-loop = (
  drive-line 1 one (codes "clk") (codes "b1") (codes "t1") refl refl refl,
  (drive-line 1 one (codes "clk") (codes "b0") (codes "t2") refl refl refl, (wait-line (codes "next") (codes "t2") refl refl, tt)),
)

testbench-written-next : Each HasInstLine testbench_next.lines
testbench-written-next = (
  ld-line 32 whole (codes "i") (codes "n") refl refl,
  (
    two-line 32 whole op.Add (codes "i1") (codes "i") (codes "one") (word-lexeme (codes "add") refl) refl (λ ts h. h) (λ ts h. h) refl refl refl refl,
    (
      st-line 32 whole (codes "n") (codes "i1") refl refl,
      (
        probe-line 32 whole (codes "qp") (codes "q") refl refl,
        (
          two-line 32 whole op.Eq (codes "ok") (codes "qp") (codes "i1") (word-lexeme (codes "eq") refl) refl (λ ts h. h) (λ ts h. h) refl refl refl refl,
          (
            call-line (codes "llhd.assert") 1 one (codes "ok") refl refl,
            (
              two-line 32 whole op.Ult (codes "c") (codes "i1") (codes "eight") (word-lexeme (codes "ult") refl) refl (λ ts h. h) (λ ts h. h) refl refl refl refl,
              (branch-line (codes "c") (codes "done") (codes "loop") refl refl refl, tt),
            ),
          ),
        ),
      ),
    ),
  ),
)

pub testbench-printable : IsPrintable testbench_unit
testbench-printable = record {
  headed = process-header (codes "tb") (record { n = 32; width = whole; name = codes "q"; named = refl }) (record { n = 1; width = one; name = codes "clk"; named = refl }) refl;
  shaped = ((label (codes "entry") refl, refl), ((label (codes "loop") refl, refl), ((label (codes "next") refl, refl), ((label (codes "done") refl, refl), tt))));
  written = each-append HasInstLine testbench_entry.lines (testbench_loop.lines ++ (testbench_next.lines ++ testbench_done.lines)) testbench-written-entry
      (each-append HasInstLine testbench_loop.lines (testbench_next.lines ++ testbench_done.lines) testbench-written-loop
      (each-append HasInstLine testbench_next.lines testbench_done.lines testbench-written-next (halt-line, tt)));
  no_assert = refl;
  new_args = refl;
  new_labels = refl;
  new_results = refl;
  fits = omega arith;
}
