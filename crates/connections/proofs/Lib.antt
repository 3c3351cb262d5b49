pub mod Framed
pub mod Talking
pub mod Written
pub mod Requests
pub mod Piecing
pub mod Serving
pub mod Completing
