-- The claims proved, and laws of the code.
pub mod Further
pub mod Engine
pub mod Written
pub mod Sets
pub mod Plainly
pub mod Conditions
pub mod Abouts
pub mod Answering
pub mod Loops
