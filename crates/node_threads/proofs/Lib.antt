pub mod Going
pub mod Reading
pub mod Wires
pub mod Linking
pub mod Told
pub mod Turning
pub mod Replying
