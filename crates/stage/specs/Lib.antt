pub mod Stage
pub mod Enter
pub mod Next
