pub mod ToolCall
pub mod ToolAnswer
pub mod ToolEnded
pub mod RunMessages
pub mod UsageMessages
