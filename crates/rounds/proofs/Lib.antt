-- The theory behind the rounds, and laws of their loops.
pub mod FoundedKept
pub mod NextStage
pub mod AfterRounds
pub mod RoundStep
pub mod SettingLaws
pub mod RoundLaws
