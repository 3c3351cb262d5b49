pub mod Numbered
pub mod Depths
pub mod ReplyBack
pub mod FreeTexts
