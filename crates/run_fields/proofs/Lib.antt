-- Laws of the fields of a run file's records.
pub mod WaitingRows
pub mod RunFields
pub mod PutRows
