mod Answers
mod Requests
mod Summing
