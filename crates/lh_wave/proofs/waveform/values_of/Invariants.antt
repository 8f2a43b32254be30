use Rattle.std.proofs.Common.{◌≡◌, map, take}
use Rattle.lh_types.specs.ValueOf.{datum_of}
use Rattle.lh_wave.proofs.waveform.values_of.Given as goal

abbrev pub invariant-loop-c : goal.invariant-loop-c
invariant-loop-c l = map datum_of l.values.items ≡ map (λ c. datum_of c.value) (take l.c-index l.changes)
