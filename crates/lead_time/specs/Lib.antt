pub mod Lease
