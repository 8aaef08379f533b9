pub mod Stop
pub mod Window
