use Rattle.std.proofs.Common.{rules, ◌≡◌, ◌∙◌, ◌-◌, ◌++◌, ◌+◌, ◌∷◌, [], List, sym, ap}
use Rattle.mls_signatures.specs.declared.signature_to_verify.SignatureToVerify.{SignatureToVerify}
use Rattle.mls_tree.specs.Tree.{leaf_count}
use Rattle.mls_follow.specs.FollowerModel.{state_of}
use Rattle.mls_start.specs.SignaturesLeft.{signatures_of_leaf, signatures_of_leaves}
use Rattle.mls_start.proofs.LeavesLeft.{leaf_made, none_left, nothing, first_made}
use Rattle.mls_start.proofs.signatures_left.next_of_start.Goals as goal

pub leaves-preserved : goal.leaves-preserved
leaves-preserved g c =
    let s = state_of c.args.follower.now in
    let made_is : c.in_ok-made.field-0.items ≡ signatures_of_leaf s c.leaves.leaf = search rules in
    let none : c.leaves.made.items ≡ [] = nothing c.leaves.made.items (search rules) in (
      c.leaves.invariant.0,
      ap (λ (ws : List SignatureToVerify). ws ++ signatures_of_leaves (leaf_count s.tree - (c.leaves.leaf + 1)) s (c.leaves.leaf + 1)) made_is
          ∙ leaf_made s c.leaves.made.items (leaf_count s.tree) c.leaves.leaf none (search rules)
          ∙ c.leaves.invariant.1,
    )

pub returns-then-is_empty-clause-next : goal.returns-then-is_empty-clause-next
returns-then-is_empty-clause-next g c = sym c.leaves.invariant.1

pub returns-then-is_empty-clause-end : goal.returns-then-is_empty-clause-end
returns-then-is_empty-clause-end g c =
    let s = state_of c.args.follower.now in
    λ e. sym c.leaves.invariant.1 ∙ none_left s c.leaves.made.items (leaf_count s.tree) c.leaves.leaf (nothing c.leaves.made.items (search rules)) (search rules)

pub returns-else-is_empty-clause-next : goal.returns-else-is_empty-clause-next
returns-else-is_empty-clause-next g c =
    let s = state_of c.args.follower.now in
    let first : c.leaves.made.items ≡ c.remove.result ∷ c.remove.new.self.items =
    first_made c.leaves.made.items c.remove.result (search rules) c.remove.ensures.value ∙ ap (λ (ws : List SignatureToVerify). c.remove.result ∷ ws) (sym c.remove.ensures.items) in
    sym c.leaves.invariant.1 ∙ ap (λ (ws : List SignatureToVerify). ws ++ signatures_of_leaves (leaf_count s.tree - c.leaves.leaf) s c.leaves.leaf) first
