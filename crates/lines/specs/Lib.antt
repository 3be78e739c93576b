pub mod Plans
pub mod Reports
