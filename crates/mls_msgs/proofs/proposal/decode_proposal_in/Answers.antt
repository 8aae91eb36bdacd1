use Rattle.std.proofs.Common.{◌≡◌, true, sym}
use Rattle.mls_msgs.specs.MembersReading.{passes}
use Rattle.mls_msgs.specs.Parsing.{proposal_at}
use Rattle.mls_msgs.specs.Profile.{is_members_proposal}
use Rattle.mls_msgs.proofs.MembersRead.{found, proposal_is_in}
use Rattle.mls_msgs.proofs.Profiles.{proposal_foreign}
use Rattle.mls_msgs.proofs.proposal.decode_proposal_in.Goals as goal

pub returns-else-has_proposal : goal.returns-else-has_proposal
returns-else-has_proposal c = record { decoded = proposal_foreign c.args.profile c.in-Ok.proposal c.args.bytes.now c.fault_found.result c.in-Ok.ensures (sym c.if-has_proposal.ensures) }

pub fault_found-requires : goal.fault_found-requires
fault_found-requires c =
    found c.check_proposal.result (passes is_members_proposal (proposal_at c.new.result) ≡ true) c.check_proposal.ensures
    (λ h. proposal_is_in c.args.profile c.in-Ok.proposal c.args.bytes.now c.in-Ok.ensures (rw c.new.ensures at h) (sym c.if-has_proposal.ensures))
