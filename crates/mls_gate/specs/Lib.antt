pub mod Requests
pub mod Phases
pub mod Answers
pub mod GateReport
pub mod GateReports
pub mod GateRuns
pub mod GateSteps
