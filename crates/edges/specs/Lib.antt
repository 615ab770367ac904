pub mod Icon
