use Rattle.std.proofs.Common.{◌≡◌, Some, subst}
use Rattle.mls_msgs.specs.Message.{message}
use Rattle.mls_msgs.specs.declared.profile.Profile.TheVariants.{Full}
use Rattle.mls_follow.proofs.ReadInProfile.{encodes}
use Rattle.mls_rows.proofs.codec_calls.of_message.Goals as goal

pub content_tbs_in-requires : goal.content_tbs_in-requires
content_tbs_in-requires c =
    let encodes_it = encodes Full c.in_ok-message.message c.args.input.now c.in_ok-message.ensures.decoded in
    record {
      encoding = subst (λ m. message m ≡ Some c.args.input.now) c.in-Public.is encodes_it.encoded;
    }
