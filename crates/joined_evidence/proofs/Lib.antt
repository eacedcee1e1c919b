mod Searching
mod Onward
mod Listed
mod Truth
