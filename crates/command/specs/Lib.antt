-- The command line, and the commands.
pub mod Line
pub mod Command
