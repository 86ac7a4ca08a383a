-- A reader must believe Called: of which file a part comes back, and from where. Held is where the player stands and how it answers, as the
-- code holds it.
pub mod Called
pub mod Held
