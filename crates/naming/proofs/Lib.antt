-- Laws of naming.
pub mod NamedRows
