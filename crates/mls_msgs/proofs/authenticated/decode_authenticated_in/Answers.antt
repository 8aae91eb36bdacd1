use Rattle.std.proofs.Common.{◌≡◌, true, sym}
use Rattle.mls_wire.specs.Input.{at}
use Rattle.mls_msgs.specs.FrameParsing.{authenticated_content_at}
use Rattle.mls_msgs.specs.MembersReading.{passes}
use Rattle.mls_msgs.specs.Profile.{is_members_authenticated}
use Rattle.mls_msgs.proofs.MembersRead.{found, authenticated_is_in}
use Rattle.mls_msgs.proofs.Profiles.{authenticated_foreign}
use Rattle.mls_msgs.proofs.authenticated.decode_authenticated_in.Goals as goal

pub returns-else-has_authenticated : goal.returns-else-has_authenticated
returns-else-has_authenticated c = record { decoded = authenticated_foreign c.args.profile c.in-Ok.auth c.args.bytes.now c.fault_found.result c.in-Ok.ensures (sym c.if-has_authenticated.ensures) }

pub fault_found-requires : goal.fault_found-requires
fault_found-requires c =
    found c.check_authenticated.result (passes is_members_authenticated (authenticated_content_at (at 0 c.args.bytes.now)) ≡ true) c.check_authenticated.ensures
    (λ h. authenticated_is_in c.args.profile c.in-Ok.auth c.args.bytes.now c.in-Ok.ensures h (sym c.if-has_authenticated.ensures))
