mod Behind
mod Few
mod Going
