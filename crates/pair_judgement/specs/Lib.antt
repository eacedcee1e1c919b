pub mod Judgements
pub mod Carrying
pub mod PairJudgements
pub mod Clocked
pub mod Ties
