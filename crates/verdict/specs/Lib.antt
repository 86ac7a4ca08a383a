-- A reader must believe Binding (bindings and their facts), Decision (the report's rows, the decision, the witness), Judged (the answer),
-- Machine (states, events, steps, weights) and Claims (what is claimed of them). Summaries tells the decision a second way, as it can be
-- read off an action at a time, and is proved to tell the same. Held is how the code holds rows, answers and bound literals.
pub mod Binding
pub mod Decision
pub mod Judged
pub mod Summaries
pub mod Machine
pub mod Claims
pub mod Held
