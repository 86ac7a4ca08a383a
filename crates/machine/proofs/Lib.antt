-- Laws of the step's close.
pub mod NextKept
pub mod HeldBytes
pub mod RunRows
pub mod TopWeights
pub mod Closing
pub mod Resting
