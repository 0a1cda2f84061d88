mod Taken
mod Numbered
