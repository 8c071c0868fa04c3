-- What the functions' proofs use and no one function owns, and the laws about the root.
mod Whole
pub mod Words
pub mod Squares
pub mod Doubles
pub mod Nearest
pub mod Worked
pub mod Folds
pub mod Order
pub mod Swap
pub mod Overflow
pub mod Rounding
pub mod Parts
pub mod Sums
pub mod Products
pub mod Quotients
pub mod Lists
pub mod Fractions
