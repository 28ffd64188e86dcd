pub mod Jobs
pub mod OnJob
