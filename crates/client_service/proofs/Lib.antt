pub mod Within
pub mod Orders
pub mod Messages
pub mod Books
pub mod Offers
pub mod ToldAgain
pub mod Early
