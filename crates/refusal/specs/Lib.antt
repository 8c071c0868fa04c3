pub mod Numbers
pub mod First
