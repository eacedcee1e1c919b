pub mod Timers
