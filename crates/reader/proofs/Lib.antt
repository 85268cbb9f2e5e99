pub mod Claimed
pub mod Files
pub mod Finding
pub mod Opening
pub mod Reading
pub mod Stepping
pub mod Tests
