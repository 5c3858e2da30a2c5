pub mod AdjustedLaws
pub mod BankLaws
pub mod LineLaws
pub mod PairLaws
pub mod PathLaws
pub mod StageLaws
pub mod Turns
