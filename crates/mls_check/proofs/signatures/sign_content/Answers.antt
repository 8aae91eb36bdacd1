use Rattle.std.proofs.Common.{◌∙◌}
use Rattle.mls_wire.specs.Encoding.{vector}
use Rattle.mls_wire.specs.WriteSequences.{after_then}
use Rattle.mls_nodes.proofs.Drafted.{drafted}
use Rattle.mls_check.specs.Signatures.{sign_content}
use Rattle.mls_check.proofs.signatures.sign_content.Goals as goal

pub returns : goal.returns
unfolding sign_content
returns c =
    let label = c.in_ok-put_vec.ensures in
    let content = c.in_ok-put_vec-2.ensures in
    let both = after_then c.new-draft.result.more (vector c.as_bytes.result.now) (vector c.args.content.now) c.put_vec.new.self.more label.0 ∙ content.0 in
    let whole = drafted _ c.new-draft.result c.put_vec-2.new.self c.finish.result.items c.new-draft.ensures.kept c.new-draft.ensures.more (both, content.1 ∙ label.1) c.finish.ensures in
    rw c.as_bytes.ensures.value at whole
