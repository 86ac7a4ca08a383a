-- What a reader must believe of every service on one file.
pub mod Service
