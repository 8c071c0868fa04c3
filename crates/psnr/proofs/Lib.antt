pub mod Squares
mod Parts
pub mod Walks
pub mod Whole
pub mod Records
pub mod Rising
pub mod Accept
mod Answered
pub mod Fold
pub mod Laws
pub mod Room
pub mod Totals
pub mod Taken
pub mod Given
pub mod Numbers
pub mod Said
