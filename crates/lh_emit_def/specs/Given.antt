-- The rows that an entity is emitted from.
pub use Rattle.lh_region_def.specs.Rows.{Drive}
pub use Rattle.lh_edge.specs.Triggers.{TriggerTree, EdgeRowTree}
