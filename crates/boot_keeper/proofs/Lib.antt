pub mod Tears
pub mod Found
pub mod Written
pub mod Within
pub mod Greatest
pub mod Rising
