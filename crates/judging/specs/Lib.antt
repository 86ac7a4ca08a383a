-- How the code judges a file; what a reader must believe of it is verdict/Judged and verdict/Claims.
pub mod Held
