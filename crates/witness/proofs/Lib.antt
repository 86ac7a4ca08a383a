-- Laws of the bytes of a witness.
pub mod Facts
pub mod Shown
