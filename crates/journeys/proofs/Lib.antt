-- Laws of marks: the journeys of an open entry that belong to an instance.
pub mod Belonging
