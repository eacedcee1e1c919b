pub mod Turning
pub mod Lasting
pub mod Beginning
pub mod Ending
