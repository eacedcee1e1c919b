mod Counting
mod Found
mod Listing
mod Naming
mod Nearer
mod Piling
