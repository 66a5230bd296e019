pub mod BackLaws
pub mod GateLaws
pub mod ReplayLaws
pub mod RoundLaws
pub mod SleepLaws
pub mod StepLaws
