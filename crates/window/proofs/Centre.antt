pub mod Separable
pub mod Cauchy
pub mod Places
