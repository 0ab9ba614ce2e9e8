-- From what is lent to the evaluator's answer, and what its verdict tells.
pub mod LentFault
pub mod Evaluating
pub mod MadeLaws
pub mod SettingFault
pub mod Positions
pub mod Computes
