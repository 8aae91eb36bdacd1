-- Signatures that are made one at a time. `s` is the state of the follower whose leaves they are. Used by contracts.
use Rattle.std.specs.Prelude.{ℕ, zero, suc, ◌+◌, ◌-◌, List, [], ◌++◌, drop}
use Rattle.mls_tree.specs.Tree.{leaf_count, leaf_at}
use Rattle.mls_signatures.specs.SignaturesToVerify.{non_blank_leaf_signatures}
use Rattle.mls_signatures.specs.declared.signature_to_verify.SignatureToVerify.{SignatureToVerify}
use Rattle.mls_follow.specs.State.{State}
use Rattle.mls_start.specs.declared.signatures_left.SignaturesLeft.{SignaturesLeft}
use Rattle.mls_start.specs.declared.signatures_left.SignaturesLeft.TheVariants as left

-- `signatures_of_leaf s n` is the signature of the leaf at leaf index n (RFC 9420, 7.2). Empty if the leaf is blank.
abbrev pub signatures_of_leaf : State → ℕ → List SignatureToVerify
signatures_of_leaf s n =
    non_blank_leaf_signatures s.context.cipher_suite s.context.group_id n (leaf_at 0 s.tree n)

-- `signatures_of_leaves count s n` is the signatures of `count` leaves, from leaf index n on.
abbrev pub signatures_of_leaves : ℕ → State → ℕ → List SignatureToVerify
signatures_of_leaves zero s n = []
signatures_of_leaves (suc count) s n = signatures_of_leaf s n ++ signatures_of_leaves count s (n + 1)

-- `signatures_left s left` is the signatures that are still to be made, in their order.
abbrev pub signatures_left : State → SignaturesLeft → List SignatureToVerify
signatures_left s (left.Start made leaf) = made.items ++ signatures_of_leaves (leaf_count s.tree - leaf) s leaf
signatures_left s (left.Listed list next) = drop next list
