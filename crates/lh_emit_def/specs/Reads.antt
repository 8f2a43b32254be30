-- What the parts of a process read where its arguments have these bits, and the wish of its drives.
pub use Rattle.lh_region_def.specs.Means.{lowest_bit, range_in, reads, is_one, is_true, due_by, with_row, with_rows}
