-- What the entities of the three shapes sense.
use Rattle.std.proofs.Common.{◌≡◌, ◌+◌, List, [], ◌∷◌, ◌++◌, length, None, refl, ap, ◌∙◌, arith, length-append, append-nil}
use Rattle.lh_types.specs.declared.part.Range.{Range}
use Rattle.lh_unit.specs.Contents.{InstText, LineText, UnitText}
use Rattle.lh_unit.specs.Held.{Env}
use Rattle.lh_unit.specs.Hierarchy.{static_of, part_if_probe, probed_parts, static_from}
use Rattle.lh_unit.specs.Pass.{probes}
use Rattle.lh_unit.proofs.ById.{line_giving-later}
use Rattle.lh_term.specs.declared.part.Part.{Part}
use Rattle.lh_emit_def.specs.Names.{value_name}
use Rattle.lh_emit_def.specs.Emitted.{Emitted, puts, nothing_emitted}
use Rattle.lh_emit_def.proofs.PassState.{Frame, HasFewArgs, source, begins-before}
use Rattle.lh_emit_def.proofs.FirstHeld.{ArgsFit, begins}
use Rattle.lh_emit_def.proofs.SensedParts.{first, static, Senses, Probes, probes-kept, static-then, probed-then}
use Rattle.lh_emit_def.proofs.KeptByRows.{KeepsRows}

module _ (f : Frame) (few : HasFewArgs f.unit) (Good : Part → Type 0) where
  -- an instruction that gives nothing and probes nothing
  puts-probes : (i : InstText) → ((y : UnitText) (x : Env) → static_of y x i ≡ None) → ((x : Env) (ps : List Range) → part_if_probe x i ps ≡ ps) → (e : Emitted) → Probes f few Good e
      → Probes f few Good (puts i e)
  puts-probes i none probes e h = record {
    parts = h.parts;
    good = h.good;
    all = λ p n. h.all p (record { name = n.name; is = n.is });
    probed = λ x w. probed-then x e.lines _ ∙ ap (λ z. probed_parts x e.lines ++ z) (probes x []) ∙ append-nil (probed_parts x e.lines) ∙ h.probed x w;
    senses = λ y b.
        let line : LineText = record { result = None; inst = i } in
        let m : Senses f few h.parts y e = h.senses y (begins-before f few y e.lines line b) in
        let same : static f few y (e.lines ++ line ∷ []) ≡ static f few y e.lines = static-then y e.lines (line ∷ []) (first f few) ∙ nothing y (static f few y e.lines) in
        let q : length (e.lines ++ line ∷ []) ≡ length e.lines + 1 = length-append e.lines (line ∷ []) in
        record {
          parts = λ p n k. let z = m.parts p n k in record { held = ap (λ (x : Env). x n) same ∙ z.held; type = z.type };
          args = λ k a t p s. let z = m.args k a t p s in record { held = ap (λ (x : Env). x a.name) same ∙ z.held; type = z.type };
          new = λ j a. let z = m.new j a in record { held = ap (λ (x : Env). x (value_name j)) same ∙ z.held; given = line_giving-later (value_name j) e.lines (line ∷ []) z.given };
          room = rw q (omega (arith, m.room));
        };
  }
    where
      nothing : (y : UnitText) (x : Env) → static_from y x (record { result = None; inst = i } ∷ []) ≡ x
      nothing y x = rw (none y x) refl

  pub rows-probe : KeepsRows (source f few) Good (Probes f few Good)
  rows-probe = record {
    keeps = probes-kept f few Good;
    drive = λ d e h n p. puts-probes _ (λ y x. refl) (λ x ps. refl) e p;
    register = λ r e h n p. puts-probes _ (λ y x. refl) (λ x ps. refl) e p;
  }

module _ (f : Frame) (fit : ArgsFit f) (Good : Part → Type 0) where
  -- nothing is probed before the first instruction
  pub none-probed : Probes f fit.few Good (nothing_emitted (source f fit.few))
  none-probed = record {
    parts = [];
    good = tt;
    all = λ p n. absurd (let z = n.is in cc);
    probed = λ x w. refl;
    senses = λ y b.
        let m = begins f fit y b in
        record { parts = m.parts; args = m.args; new = m.new; room = m.room };
  }
