-- How the code reads a domain file; what a reader must believe of it is literals/Decode.
pub mod Held
pub mod Kinds
