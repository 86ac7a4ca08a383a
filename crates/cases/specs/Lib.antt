-- Worked cases: M1 to M12, and further ones.
pub mod Written
pub mod Samples
pub mod Further
pub mod FurtherRuns
pub mod Clearing
pub mod Refuted
pub mod Boxes
pub mod OneRelation
pub mod Tried
