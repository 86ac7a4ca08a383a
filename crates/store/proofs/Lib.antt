-- Facts as they are held.
pub mod InstanceRows
pub mod InstanceFacts
pub mod Totals
