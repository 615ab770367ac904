-- Laws on buffers.
pub mod Front
