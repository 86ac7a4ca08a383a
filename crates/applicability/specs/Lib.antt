-- What a step asks, as the code tells it; what a reader must believe of it is verdict/Machine and run_semantics/Play.
pub mod Held
