mod FlatActivations
mod ActivationEnds
mod Formed
mod StateRelation
mod ZeroPadding
