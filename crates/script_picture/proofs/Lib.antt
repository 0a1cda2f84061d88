mod FirstLine
mod LinesLeft
mod Stepped
mod Going
mod OfText
