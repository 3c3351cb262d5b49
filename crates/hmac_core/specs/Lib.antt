pub mod Hmac
pub mod State
