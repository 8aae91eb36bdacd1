use Rattle.mls_follow.proofs.Resumable.{followers_resumable}
use Rattle.mls_follow.proofs.ResumableStays.{resumable_stays}
use Rattle.mls_follow.proofs.StoredRuns.{resumable_resumes, followers_resume}
use Rattle.mls_follow.proofs.laws.stored_states_resume.Goals as goal

pub returns : goal.returns
returns c = record { resumable = followers_resumable; stays = resumable_stays; resumes = resumable_resumes; always = followers_resume }
