pub mod Nco
pub mod Lent
