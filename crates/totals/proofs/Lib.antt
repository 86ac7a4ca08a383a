-- The claims proved, and laws for the code.
pub mod Joining
pub mod Sums
pub mod Counts
pub mod Bounds
pub mod Answers
pub mod Enough
pub mod Loops
pub mod Apart
pub mod Tallied
pub mod Reported
pub mod Walks
pub mod Files
pub mod Calls
