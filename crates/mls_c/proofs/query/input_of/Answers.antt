use Rattle.std.proofs.Common.{◌∙◌}
use Rattle.std.specs.Int.{w16}
use Rattle.mls_wire.specs.Encoding.{◌⊕◌, number, vector}
use Rattle.mls_wire.specs.WriteSequences.{after_then}
use Rattle.mls_nodes.proofs.Drafted.{drafted}
use Rattle.mls_check.specs.Receipts.{receipt_input}
use Rattle.mls_c.proofs.query.input_of.Goals as goal

pub returns : goal.returns
unfolding receipt_input
returns c =
    let suite = c.in_ok-put_u16.ensures in
    let key = c.in_ok-put_vec.ensures in
    let content = c.in_ok-put_vec-2.ensures in
    let signature = c.in_ok-put_vec-3.ensures in
    let S = vector c.as_slice-3.result.now in
    let C = vector c.as_slice-2.result.now in
    let K = vector c.as_slice.result.now in
    let all =
    after_then c.new-draft.result.more (number w16 c.args.needed.now.suite) (K ⊕ (C ⊕ S)) c.put_u16.new.self.more suite.0
    ∙ after_then c.put_u16.new.self.more K (C ⊕ S) c.put_vec.new.self.more key.0
    ∙ after_then c.put_vec.new.self.more C S c.put_vec-2.new.self.more content.0 ∙ signature.0 in
    let whole = drafted _ c.new-draft.result c.put_vec-3.new.self c.finish.result.items c.new-draft.ensures.kept c.new-draft.ensures.more (all, signature.1 ∙ content.1 ∙ key.1 ∙ suite.1) c.finish.ensures in
    rw (c.as_slice.ensures.bytes, c.as_slice-2.ensures, c.as_slice-3.ensures.bytes) at whole
