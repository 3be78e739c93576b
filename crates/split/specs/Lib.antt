pub mod Rules
pub mod Situations
pub mod SharedCellRuleLemmas
pub mod FirstCells
