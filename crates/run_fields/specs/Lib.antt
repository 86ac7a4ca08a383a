-- The fields of a run file's records, by the bytes that the code compares; what a reader must believe of them is run_semantics/RunFile.
pub mod Held
pub mod Kinds
