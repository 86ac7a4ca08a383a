-- The step's close, as the code holds it; what a reader must believe of it is run_semantics/Play.
pub mod Held
