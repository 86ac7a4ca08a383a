-- Laws of conditions and of interference.
pub mod Asked
pub mod Forbidden
pub mod Clashes
pub mod Words
pub mod Interferes
