-- What a step leaves, as the code computes it; what a reader must believe of it is verdict/Machine.
pub mod Held
