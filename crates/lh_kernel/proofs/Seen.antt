-- What contracts see of a simulation.
use Rattle.std.proofs.Common.{◌≡◌, ◌<◌, ◌+◌, ◌≤◌, ℕ, zero, suc, List, [], ◌∷◌, map, drop, Bool, length, slice_get, get_or, Option, Some, None, Result, IfOk, arith, ap, sym, ◌∙◌, subst}
use Rattle.std.specs.Prelude.{◌↔◌}
use Rattle.std.specs.Option.{IsSomeAnd}
use Rattle.std.proofs.lemmas.Result.{IfOk-weaker}
use Rattle.lh_types.specs.Types.{IsData, bit_count}
use Rattle.lh_types.specs.ValueOf.{datum_of}
use Rattle.lh_types.specs.Bits.{value_from_bits}
use Rattle.lh_types.specs.declared.val.Val.{Val}
use Rattle.lh_types.specs.declared.memory.NoMemory.{NoMemory}
use Rattle.lh_unit.specs.Design as text
use Rattle.lh_unit.specs.Trace.{signal_value}
use Rattle.lh_kernel_wakes.specs.Rising.{IsOneOf}
use Rattle.lh_kernel_wakes.specs.Sensed.{sensed_by}
use Rattle.lh_design.specs.declared.Signal.{Signal}
use Rattle.lh_design.specs.Texts.{signal_text}
use Rattle.lh_kernel_changes.proofs.Filled.{there, fits_there}
use Rattle.lh_kernel_changes.proofs.Shows.{read_value}
use Rattle.lh_kernel.specs.declared.machine.SimState.{SimState}
use Rattle.lh_kernel.specs.States.{SensesSignal}
use Rattle.lh_kernel.specs.Kept.{IsKept}
use Rattle.lh_kernel.specs.Simulation.{Simulation, simulation_of}
use Rattle.lh_kernel.specs.Stepped.{signal_of}

-- who senses a signal
pub seen_senses : (x : SimState) (ended : Bool) (s : Simulation) (signal : ℕ) (ks : List ℕ) → simulation_of x ended ≡ s → IsKept x → ks ≡ sensed_by x.noted.index signal →
    (k : ℕ) → IsOneOf k ks ↔ SensesSignal s.arena s.design.instances.items s.design.signals.items s.states signal k
seen_senses x ended s signal ks v kept e =
    subst (λ (z : Simulation). (k : ℕ) → IsOneOf k ks ↔ SensesSignal z.arena z.design.instances.items z.design.signals.items z.states signal k) v
    (λ k. (λ h. (kept.noted.senses signal k).0 (subst (IsOneOf k) e h), λ h. subst (IsOneOf k) (sym e) ((kept.noted.senses signal k).1 h)))

known_seen : (x : SimState) (ended : Bool) (s : Simulation) (signal : ℕ) → simulation_of x ended ≡ s → signal < length s.design.signals.items → signal < length x.design.signals.items
known_seen x ended s signal v h = subst (λ (n : ℕ). signal < n) (sym (ap (λ (z : Simulation). length z.design.signals.items) v)) h

-- a signal of the design lies within the bits
pub seen_fits : (x : SimState) (ended : Bool) (s : Simulation) (signal : ℕ) (xs : List Signal) (g : Signal) → simulation_of x ended ≡ s → IsKept x →
    signal < length s.design.signals.items → xs ≡ x.design.signals.items → g ≡ get_or xs signal g →
    IsData g.ty × (g.lo + bit_count g.ty ≤ length x.bits)
seen_fits x ended s signal xs g v kept h e i =
    let f = fits_there (length x.design.init) x.design.signals.items xs signal g kept.design.fill e (known_seen x ended s signal v h) i in
    (f.0, omega (arith, f.1, kept.width))

got_map : (xs : List Signal) (k : ℕ) (g : Signal) → slice_get xs k ≡ Some g → slice_get (map signal_text xs) k ≡ Some (signal_text g)
got_map [] k g e = absurd (nothing e)
  where
    nothing : None ≡ Some g → ⊥
    nothing z = cc
got_map (y ∷ ys) zero g e = ap (λ (z : Signal). Some (signal_text z)) (same e)
  where
    same : Some y ≡ Some g → y ≡ g
    same z = cc
got_map (y ∷ ys) (suc k) g e = got_map ys k g e

-- the value of a signal
pub seen_value : (x : SimState) (ended : Bool) (s : Simulation) (signal : ℕ) (xs : List Signal) (g : Signal) (r : Result Val NoMemory) →
    simulation_of x ended ≡ s → IsKept x → signal < length s.design.signals.items →
    xs ≡ x.design.signals.items → g ≡ get_or xs signal g → IfOk r (λ (v : Val). datum_of v ≡ value_from_bits g.ty (drop g.lo x.bits)) →
    IfOk r (λ (v : Val). IsSomeAnd (signal_of s signal) (λ (t : text.Signal). datum_of v ≡ signal_value s.bits t))
seen_value x ended s signal xs g r v kept h e i o =
    subst (λ (z : Simulation). IfOk r (λ (d : Val). IsSomeAnd (signal_of z signal) (λ (t : text.Signal). datum_of d ≡ signal_value z.bits t))) v
    (IfOk-weaker r (λ (d : Val). datum_of d ≡ value_from_bits g.ty (drop g.lo x.bits))
    (λ (d : Val). IsSomeAnd (signal_of (simulation_of x ended) signal) (λ (t : text.Signal). datum_of d ≡ signal_value x.bits t))
    (λ d p. subst (λ (q : Option text.Signal). IsSomeAnd q (λ (t : text.Signal). datum_of d ≡ signal_value x.bits t))
    (sym (got_map x.design.signals.items signal g (there x.design.signals.items xs signal g e (known_seen x ended s signal v h) i)))
    (p ∙ read_value g x.bits (seen_fits x ended s signal xs g v kept h e i).0 (seen_fits x ended s signal xs g v kept h e i).1))
    o)
