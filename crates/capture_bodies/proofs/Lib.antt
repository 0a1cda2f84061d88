mod Staying
mod Places
mod Between
