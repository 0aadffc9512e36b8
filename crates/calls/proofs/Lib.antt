pub mod Places
pub mod Steps
pub mod Trends
pub mod Lawful
pub mod OneBook
pub mod KeptSound
pub mod Sending
pub mod Pages
