-- The host's calls as one, over the whole state, the claims that their order does not matter, in one phase and in several, what is still held
-- after policy calls, and that a refused call may be struck.
pub mod Calls
pub mod CounterWord
pub mod Steps
pub mod Builds
pub mod OrderIndependence
pub mod Struck
pub mod StillHeld
pub mod Phases
pub mod AnyCalls
