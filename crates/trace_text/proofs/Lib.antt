pub mod Decimals
pub mod PairDigits
pub mod HexText
pub mod Folding
