-- What the player does is what its definitions say.
pub mod Sound
pub mod PlayTurns
pub mod Readied
pub mod PlayLoop
pub mod PlayCalls
pub mod NotedTurns
pub mod TrackCalls
