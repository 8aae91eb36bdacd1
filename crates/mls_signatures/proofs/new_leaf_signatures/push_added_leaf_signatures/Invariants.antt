use Rattle.std.proofs.Common.{◌≡◌, take}
use Rattle.mls_signatures.specs.AddedLeaves.{AreOfValues, AppendsSignatures, IsListed, added_signatures}
use Rattle.mls_signatures.proofs.new_leaf_signatures.push_added_leaf_signatures.Given as goal

abbrev pub invariant-loop-leaf : goal.invariant-loop-leaf
invariant-loop-leaf l = record {
  at : l.position ≡ l.leaf-index;
  walked : AreOfValues (IsListed l.context l.initial.list) l.leaves
      → AppendsSignatures l.initial.list (added_signatures l.context.cipher_suite l.context.group_id (take l.leaf-index l.leaves)) l.list;
}
