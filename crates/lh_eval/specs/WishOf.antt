-- The entries of a wish that is kept as writes by instants.
pub use Rattle.lh_types.specs.Wish.{bits_due, writes_wish}
