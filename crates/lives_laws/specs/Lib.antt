pub mod TextLives
