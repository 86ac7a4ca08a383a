-- How the code marks the journeys of an action; what a reader must believe of them is classes/Classes.
pub mod Held
