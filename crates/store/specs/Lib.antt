-- How the code holds facts: rows, and the index by which they are found; what a reader must believe of facts is verdict/Machine.
pub mod Held
