mod Numbered
mod Readings
