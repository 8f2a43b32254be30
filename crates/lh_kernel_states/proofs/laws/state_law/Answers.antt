use Rattle.lh_kernel_states.proofs.InstanceStates.{fitting-stand, senses-alike, wakes-alike, senses-within, unit-is_named}
use Rattle.lh_kernel_states.proofs.laws.state_law.Goals as goal

pub returns-clause-stand : goal.returns-clause-stand
returns-clause-stand c = fitting-stand

pub returns-clause-senses : goal.returns-clause-senses
returns-clause-senses c = senses-alike

pub returns-clause-wakes : goal.returns-clause-wakes
returns-clause-wakes c = wakes-alike

pub returns-clause-within : goal.returns-clause-within
returns-clause-within c = senses-within

pub returns-clause-named : goal.returns-clause-named
returns-clause-named c = unit-is_named
