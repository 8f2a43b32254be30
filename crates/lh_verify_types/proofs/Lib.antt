pub mod TypeParts
