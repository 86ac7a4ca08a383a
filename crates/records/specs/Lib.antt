-- What a reader must believe of every file and memory: the record form of a file, lent memory, and the tests on lists that all crates use.
pub mod Lists
pub mod Memory
pub mod Record
