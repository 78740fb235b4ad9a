-- Laws of the calls' answers as numbers.
pub mod Written
