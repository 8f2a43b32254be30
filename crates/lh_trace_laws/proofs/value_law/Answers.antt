use Rattle.lh_trace_laws.proofs.ValuesLaw.{value_computes, one_value, value_of_due, bits_of_due, bits_have_values, as_many_bits}
use Rattle.lh_trace_laws.proofs.value_law.Goals as goal

pub returns : goal.returns
returns c = record { computes = value_computes; one = one_value; due = value_of_due; bits_of_due = bits_of_due; bits = bits_have_values; as_many = as_many_bits }
