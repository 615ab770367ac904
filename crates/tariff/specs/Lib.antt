pub mod Tariff
pub mod Hours
