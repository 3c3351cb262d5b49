mod Beginning
mod Numbers
mod Crossing
