-- The bytes of a witness, as the code makes them; what a reader must believe of them is verdict/Decision and verdict/Judged.
pub mod Held
