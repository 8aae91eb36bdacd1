use Rattle.std.proofs.Common.{arith}
use Rattle.mls_check.specs.LeafValidation.{supports_own_extensions}
use Rattle.mls_check.proofs.Leaves.{all_leaves-below}
use Rattle.mls_check.proofs.Plain.{plain_extensions}
use Rattle.mls_check.proofs.plain_leaves.first_unlisted_extension.Goals as goal

pub returns : goal.returns
returns c = all_leaves-below (λ _ x. supports_own_extensions x) c.args.tree.now.tree c.loop-index.index c.loop-index.invariant (omega (arith, c.leaf_count-index-end.ensures, c.loop-index-test.false))

pub returns-then-are_plain : goal.returns-then-are_plain
returns-then-are_plain c = plain_extensions c.args.tree.now.tree (c.requires c.if-are_plain.true)
