pub mod MayMove
pub mod PlainMoves
