mod ByteLists
mod Numbers
mod StateLemmas
mod Undoing
mod InPlace
mod Turns
mod Opening
