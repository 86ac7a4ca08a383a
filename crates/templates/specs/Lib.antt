-- A reader must believe Templates (the one-relation templates of a domain, and the list's bytes) and Claims (what is claimed of them). Held
-- is how the code lists them.
pub mod Templates
pub mod Claims
pub mod Held
