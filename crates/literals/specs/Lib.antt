-- A reader must believe Domain (a domain without its bytes), Matching (matching, key tuples, moments) and Decode (how a file is read).
-- Faults gives the code's faults their numbers. Held is how the code holds a domain.
pub mod Domain
pub mod Matching
pub mod Decode
pub mod Faults
pub mod Held
