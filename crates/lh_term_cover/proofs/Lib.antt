pub mod MergedRanges
pub mod Within
pub mod Sets
