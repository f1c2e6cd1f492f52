pub mod Refusing
pub mod Given
pub mod Replies
pub mod Served
pub mod Answering
