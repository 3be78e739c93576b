pub mod Meetings
pub mod Moments
