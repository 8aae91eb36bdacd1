use Rattle.mls_follow.proofs.StartAgreement.{decide_starts, decide_faults}
use Rattle.mls_follow.proofs.laws.signatures_determine_start.Goals as goal

pub returns : goal.returns
returns c = record { starts = decide_starts; faults = decide_faults }
