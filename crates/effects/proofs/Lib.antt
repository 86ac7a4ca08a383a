-- Laws of the facts that a step leaves.
pub mod Joins
pub mod FilledRows
pub mod IndexedRows
pub mod KeptRuns
pub mod EffectRows
pub mod StepFacts
