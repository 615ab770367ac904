-- 01, "The AT processor", in its order.
pub mod Processor
pub mod Answer
pub mod Command
pub mod Escape
pub mod Carrier
pub mod At
pub mod Before
