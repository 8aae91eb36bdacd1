use Rattle.std.proofs.Common.{rules, ◌≡◌, ◌∙◌, ℕ, Some, sym, ap}
use Rattle.std.specs.Str.{bytes_eq}
use Rattle.mls_hash.specs.SuiteHash.{hash_of}
use Rattle.mls_apply.specs.Transcript.{interim_hash}
use Rattle.mls_follow.specs.FollowerModel.{state_of}
use Rattle.mls_follow.specs.Start.{info_interim}
use Rattle.mls_examine.specs.CurrentInfos.{has_bytes}
use Rattle.mls_examine.proofs.current_infos.leads_to_interim.Goals as goal

pub returns : goal.returns
returns g c =
    let s = state_of c.args.follower.now in
    let info = c.args.info.now in
    let hashed = rw c.as_slice-confirmed.ensures.bytes at c.in_ok-interim.ensures in
    let is : info_interim info ≡ Some c.in_ok-interim.interim =
    ap (λ (n : ℕ). interim_hash (hash_of n) info.context.confirmed (Some info.confirmation_tag)) (c.requires ∙ sym c.suite.ensures) ∙ hashed in
    let same : c.eq.result ≡ bytes_eq c.in_ok-interim.interim s.interim = search rules in
    same ∙ sym (ap (λ o. has_bytes o s.interim) is)
