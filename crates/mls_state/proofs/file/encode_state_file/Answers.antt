use Rattle.std.proofs.Common.{◌≡◌, Ok, rules, sym, subst}
use Rattle.mls_state.specs.Layout.{follower_state}
use Rattle.mls_state.specs.StateFileInternal.{MakesChecksum}
use Rattle.mls_state.proofs.Files.{file_made}
use Rattle.mls_state.proofs.file.encode_state_file.Goals as goal

pub returns : goal.returns
returns c =
    let copied : c.in_ok-checksum-2.checksum ≡ c.in_ok-checksum.checksum = c.in_ok-checksum-2.ensures.short (search rules) in
    let made = subst (λ digest. MakesChecksum (follower_state c.args.state) (Ok digest)) (sym copied) c.in_ok-checksum.ensures in
    file_made (record { checksum = c.in_ok-checksum-2.checksum; state = c.args.state }) _ made c.bytes_of.ensures
