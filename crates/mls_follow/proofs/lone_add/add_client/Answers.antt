use Rattle.std.proofs.Common.{◌∙◌, sym, refl}
use Rattle.mls_msgs.specs.declared.framed_content.Sender.TheVariants.{NewMemberProposal}
use Rattle.mls_follow.proofs.Committing.{no_outcome}
use Rattle.mls_follow.proofs.LoneAdding.{lone_outcome}
use Rattle.mls_follow.proofs.lone_add.add_client.Goals as goal

pub returns-in-Ok-clause-applied : goal.returns-in-Ok-clause-applied
returns-in-Ok-clause-applied c =
    let applied = rw (c.new-2.ensures, c.in_ok-new.ensures, c.in_ok-copy_of.ensures) at c.in-Ok.ensures.applied in
    (c.in-Ok.field-0, sym (lone_outcome NewMemberProposal c.args.key_package.now c.args.tree.now.tree) ∙ applied)

pub returns-in-Err-NoSuchLeaf-clause-refused : goal.returns-in-Err-NoSuchLeaf-clause-refused
returns-in-Err-NoSuchLeaf-clause-refused c =
    let blank = rw c.in-Err-NoSuchLeaf.field-0-is at c.in-Err-NoSuchLeaf.ensures.no_such_leaf in
    let none = rw (c.new-2.ensures, c.in_ok-new.ensures, c.in_ok-copy_of.ensures) at (no_outcome _ c.args.tree.now.tree (blank refl)) in
    λ _. (refl, sym (lone_outcome NewMemberProposal c.args.key_package.now c.args.tree.now.tree) ∙ none)

pub returns-in-Err-TooManyLeaves-clause-refused : goal.returns-in-Err-TooManyLeaves-clause-refused
returns-in-Err-TooManyLeaves-clause-refused c =
    let full = rw c.in-Err-TooManyLeaves.field-0-is at c.in-Err-TooManyLeaves.ensures.too_many_leaves in
    let none = rw (c.new-2.ensures, c.in_ok-new.ensures, c.in_ok-copy_of.ensures) at ((full refl).1) in
    λ _. (refl, sym (lone_outcome NewMemberProposal c.args.key_package.now c.args.tree.now.tree) ∙ none)
