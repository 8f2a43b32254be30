-- The rows of some processes, computed.
use Rattle.std.specs.Prelude.{◌≡◌, ℕ, List, [], ◌∷◌, map, true, false, Option, Some, None, codes, refl}
use Rattle.lh_types.specs.Types.{TypeTree, int_type, signal_type}
use Rattle.lh_types.specs.Values.{Datum, int_value}
use Rattle.lh_types.specs.declared.op.Op.TheVariants as op
use Rattle.lh_types.specs.Apply.{apply}
use Rattle.lh_types.specs.ApplyInt.{integer_row, row_width}
use Rattle.lh_unit.specs.Contents.{const_text, pure_text, prb_text, drv_text, phi_text, br_text, branch_text, wait_text, LineText, ArgText}
use Rattle.lh_unit.specs.Worded.{bit, word, typed, plain, gives, does, time}
use Rattle.lh_flat.specs.Flat.{FlatBlockText, FlatText}
use Rattle.lh_term.specs.Tree.{Tree, constant, now_of, past_of, operation_on, choice_of}
use Rattle.lh_term.specs.Make.{bit_of}
use Rattle.lh_term.specs.declared.part.Part.{Part}
use Rattle.std.specs.Option.{option_map}
use Rattle.lh_region_def.specs.Rows.{Drive, Way, enters_head, waits, RegionEnd, Rows}
use Rattle.lh_region_def.specs.Regions.{Coursed, stops, comes_to, head_phi, Regioned, no_regions, has_regions, region_from, first_region, regions_of, head_of}

-- ---- writing texts

abbrev block : List ℕ → List LineText → FlatBlockText
block n ls = record { label = n; merge = None; lines = ls }

abbrev input : List ℕ → TypeTree → ArgText
input n t = record { name = n; ty = signal_type t; output = false }

abbrev delta : Datum
delta = time 0 1

abbrev part : ℕ → TypeTree → Part
part i t = record { arg = i; lo = 0; ty = t }

-- ---- what is looked at

abbrev drives_in : Coursed → List Drive
drives_in (stops r) = []
drives_in (comes_to c) = c.rows.drives

-- the condition of an end, and how it ends
abbrev ends_in : Coursed → List (Tree × Way)
ends_in (stops r) = []
ends_in (comes_to c) = map (λ (e : RegionEnd). (e.cond, e.way)) c.rows.ends

-- ---- the logic of an accumulator: a default, and an override where it is enabled

abbrev acc_comb : FlatText
acc_comb = record {
  args = input (codes "q") word ∷ input (codes "x") word ∷ input (codes "en") bit ∷ input (codes "d") word ∷ [];
  blocks = block (codes "entry") (
      gives (codes "qp") (prb_text (typed (signal_type word) (codes "q"))) ∷ gives (codes "enp") (prb_text (typed (signal_type bit) (codes "en"))) ∷ gives (codes "delay") (const_text delta)
      ∷ does (drv_text (typed (signal_type word) (codes "d")) (codes "qp") (codes "delay") None) ∷ does (branch_text (codes "enp") (codes "final") (codes "enabled")) ∷ [])
      ∷ block (codes "enabled") (gives (codes "xp") (prb_text (typed (signal_type word) (codes "x"))) ∷ gives (codes "sum") (pure_text op.Add (typed word (codes "qp") ∷ plain (codes "xp") ∷ []))
      ∷ does (drv_text (typed (signal_type word) (codes "d")) (codes "sum") (codes "delay") None) ∷ does (br_text (codes "final")) ∷ [])
      ∷ block (codes "final") (does (wait_text (codes "entry") None (codes "q" ∷ codes "x" ∷ codes "en" ∷ [])) ∷ [])
      ∷ [];
}

abbrev q_now : Tree
q_now = now_of (part 0 word)

abbrev en_now : Tree
en_now = now_of (part 2 bit)

comb_drives : drives_in (first_region acc_comb now_of) ≡
    record { cond = bit_of true; part = part 3 word; value = q_now; delay = constant delta }
    ∷ record { cond = en_now; part = part 3 word; value = operation_on op.Add (q_now ∷ now_of (part 1 word) ∷ []); delay = constant delta } ∷ []
unfolding region_from
comb_drives = refl

-- both edges to the last block: one of them is taken always
comb_ends : ends_in (first_region acc_comb now_of) ≡ (bit_of true, waits 0 true (part 0 word ∷ part 1 word ∷ part 2 bit ∷ []) false) ∷ []
unfolding region_from
comb_ends = refl

-- ---- a register that is loaded at a rising edge

abbrev acc_ff : FlatText
acc_ff = record {
  args = input (codes "clk") bit ∷ input (codes "d") word ∷ input (codes "q") word ∷ [];
  blocks = block (codes "init") (gives (codes "clk0") (prb_text (typed (signal_type bit) (codes "clk"))) ∷ does (wait_text (codes "check") None (codes "clk" ∷ [])) ∷ [])
      ∷ block (codes "check") (
      gives (codes "clk1") (prb_text (typed (signal_type bit) (codes "clk"))) ∷ gives (codes "chg") (pure_text op.Neq (typed bit (codes "clk0") ∷ plain (codes "clk1") ∷ []))
      ∷ gives (codes "posedge") (pure_text op.And (typed bit (codes "chg") ∷ plain (codes "clk1") ∷ [])) ∷ does (branch_text (codes "posedge") (codes "init") (codes "event")) ∷ [])
      ∷ block (codes "event") (
      gives (codes "dp") (prb_text (typed (signal_type word) (codes "d"))) ∷ gives (codes "delay") (const_text delta)
      ∷ does (drv_text (typed (signal_type word) (codes "q")) (codes "dp") (codes "delay") None) ∷ does (br_text (codes "init")) ∷ [])
      ∷ [];
}

abbrev clk : Part
clk = part 0 bit

-- the clock is not what it was, and is 1
abbrev rises : Tree
rises = operation_on op.And (operation_on op.Neq (past_of clk ∷ now_of clk ∷ []) ∷ now_of clk ∷ [])

abbrev rows_of_second : Regioned → Option (List Drive × List (Tree × Way))
rows_of_second (no_regions r) = None
rows_of_second (has_regions g) = option_map (λ (r : Rows). (r.drives, map (λ (e : RegionEnd). (e.cond, e.way)) r.ends)) g.second

ff_first : ends_in (first_region acc_ff now_of) ≡ (bit_of true, waits 1 false (clk ∷ []) false) ∷ []
unfolding region_from
ff_first = refl

-- what the first region probed is the value before in the second
ff_second : rows_of_second (regions_of acc_ff) ≡ Some (
  record { cond = rises; part = part 2 word; value = now_of (part 1 word); delay = constant delta } ∷ [],
  (operation_on op.Not (rises ∷ []), enters_head) ∷ (rises, enters_head) ∷ [],
)
unfolding region_from
ff_second = refl

-- ---- a loop of three turns

abbrev looped : FlatText
looped = record {
  args = input (codes "a") bit ∷ input (codes "o") word ∷ [];
  blocks = block (codes "entry") (
      gives (codes "zero") (const_text (int_value 32 0)) ∷ gives (codes "one") (const_text (int_value 32 1)) ∷ gives (codes "two") (const_text (int_value 32 2)) ∷ gives (codes "t") (const_text delta)
      ∷ does (drv_text (typed (signal_type word) (codes "o")) (codes "zero") (codes "t") None) ∷ does (br_text (codes "loop")) ∷ [])
      ∷ block (codes "loop") (
      gives (codes "i") (phi_text word (record { value = codes "zero"; block = codes "entry" } ∷ record { value = codes "next"; block = codes "loop" } ∷ []))
      ∷ gives (codes "next") (pure_text op.Add (typed word (codes "i") ∷ plain (codes "one") ∷ []))
      ∷ does (drv_text (typed (signal_type word) (codes "o")) (codes "i") (codes "t") None)
      ∷ gives (codes "more") (pure_text op.Ult (typed word (codes "i") ∷ plain (codes "two") ∷ [])) ∷ does (branch_text (codes "more") (codes "done") (codes "loop")) ∷ [])
      ∷ block (codes "done") (does (wait_text (codes "entry") None (codes "a" ∷ [])) ∷ [])
      ∷ [];
}

abbrev put : ℕ → Drive
put k = record { cond = bit_of true; part = part 1 word; value = constant (int_value 32 k); delay = constant delta }

looped_drives : drives_in (first_region looped now_of) ≡ put 0 ∷ put 0 ∷ put 1 ∷ put 2 ∷ []
unfolding region_from apply integer_row row_width
looped_drives = refl

looped_ends : ends_in (first_region looped now_of) ≡ (bit_of true, waits 0 true (part 0 bit ∷ []) false) ∷ []
unfolding region_from apply integer_row row_width
looped_ends = refl

-- ---- values that are merged, a part of a signal, and conditions that two arms share

abbrev merged_text : FlatText
merged_text = record {
  args = input (codes "c") bit ∷ input (codes "d") bit ∷ input (codes "o") word ∷ [];
  blocks = block (codes "entry") (
      gives (codes "cp") (prb_text (typed (signal_type bit) (codes "c"))) ∷ gives (codes "dp") (prb_text (typed (signal_type bit) (codes "d"))) ∷ gives (codes "t") (const_text delta)
      ∷ gives (codes "low") (pure_text (op.Exts 0 8) (typed (signal_type (int_type 8)) (codes "o") ∷ [])) ∷ does (branch_text (codes "cp") (codes "end") (codes "on")) ∷ [])
      ∷ block (codes "on") (does (branch_text (codes "dp") (codes "no") (codes "yes")) ∷ [])
      ∷ block (codes "no") (gives (codes "k1") (const_text (int_value 8 1)) ∷ does (br_text (codes "join")) ∷ [])
      ∷ block (codes "yes") (gives (codes "k2") (const_text (int_value 8 2)) ∷ does (br_text (codes "join")) ∷ [])
      ∷ block (codes "join") (
      gives (codes "v") (phi_text (int_type 8) (record { value = codes "k1"; block = codes "no" } ∷ record { value = codes "k2"; block = codes "yes" } ∷ []))
      ∷ does (drv_text (typed (signal_type (int_type 8)) (codes "low")) (codes "v") (codes "t") None) ∷ does (br_text (codes "end")) ∷ [])
      ∷ block (codes "end") (does (wait_text (codes "entry") None (codes "c" ∷ codes "d" ∷ [])) ∷ [])
      ∷ [];
}

-- The arms' conditions `c and not d` and `c and d` join as c, and what tells the second from the first is d alone.
merged_drives : drives_in (first_region merged_text now_of) ≡
    record { cond = now_of (part 0 bit); part = part 2 (int_type 8); value = choice_of (now_of (part 1 bit)) (constant (int_value 8 1)) (constant (int_value 8 2)); delay = constant delta } ∷ []
unfolding region_from
merged_drives = refl

-- ---- a head that begins with a `phi`

abbrev head_with_phi : FlatText
head_with_phi = record {
  args = [];
  blocks = block (codes "entry") (gives (codes "k") (const_text (int_value 1 0)) ∷ does (br_text (codes "head")) ∷ [])
      ∷ block (codes "head") (gives (codes "p") (phi_text bit (record { value = codes "k"; block = codes "entry" } ∷ record { value = codes "k"; block = codes "head" } ∷ []))
      ∷ does (wait_text (codes "head") None []) ∷ [])
      ∷ [];
}

head_is_second : head_of head_with_phi.blocks ≡ 1
head_is_second = refl

head_refused : regions_of head_with_phi ≡ no_regions head_phi
head_refused = refl
