-- Laws of reading: what a record adds to head and table, and the loop over the file.
pub mod Takes
pub mod Written
pub mod Turns
pub mod Domains
