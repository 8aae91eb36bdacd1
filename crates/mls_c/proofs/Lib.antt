mod HandleValues
mod Moving
mod Judging
mod AddingRules
mod UnacceptedRecords
mod PuttingParts
