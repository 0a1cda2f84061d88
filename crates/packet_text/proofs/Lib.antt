mod Taken
mod Numbered
mod Held
