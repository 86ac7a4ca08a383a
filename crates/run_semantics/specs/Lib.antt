-- A reader must believe RunFile (what a run file holds), Play (the player), Track (playing with an instance), Numbers (the number of what
-- stops a run) and Claims (what is claimed of them).
pub mod RunFile
pub mod Play
pub mod Claims
pub mod Track
pub mod Numbers
