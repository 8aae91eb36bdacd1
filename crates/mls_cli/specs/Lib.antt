pub mod Execution
pub mod GroupStarts
pub mod PackagesExecution
pub mod ProgramCheckers
pub mod ProgramCheckersInternal
pub mod CheckerFaults
pub mod Program
