use Rattle.std.proofs.Common.{◌+◌, take, ap, arith, inl, inr, refl, sym, subst}
use Rattle.mls_signatures.specs.AddedLeaves.{AppendsSignatures, IsByValue, IsRepeat, added_signatures}
use Rattle.mls_signatures.proofs.AddedLeaves.{of_leaf, added-push, added-value, added-skip, added-all}
use Rattle.mls_signatures.proofs.Repeats.{extends-none}
use Rattle.mls_signatures.proofs.new_leaf_signatures.push_added_leaf_signatures.Goals.{then-not-is_listed+in_ok-push_leaf_signature, else-not-is_listed}
use Rattle.mls_signatures.proofs.new_leaf_signatures.push_added_leaf_signatures.Goals as goal

pub loop-leaf-init : goal.loop-leaf-init
loop-leaf-init c = record { at = refl; walked = λ values. extends-none c.args.list.now }

pub is_listed-requires : goal.is_listed-requires
is_listed-requires c = omega (arith, c.loop-leaf.invariant.at, c.loop-leaf-test.true)

pub loop-leaf-preserved : goal.loop-leaf-preserved
loop-leaf-preserved c =
    let context = c.args.context.now in
    let suite = context.cipher_suite in
    let old = c.args.list.now in
    let xs = c.args.leaves.now in
    let i = c.loop-leaf.leaf-index in
    let known = c.loop-leaf.invariant.walked in
    let x = c.leaf-item.result in
    elim c.if-not-is_listed.branch [
      | then-not-is_listed+in_ok-push_leaf_signature w ↦ record {
        at = ap (λ n. n + 1) c.loop-leaf.invariant.at;
        walked = λ values.
            added-push suite context.group_id old xs i c.loop-leaf.list (known values) x c.loop-leaf-test.true c.leaf-item.is
            c.if-not-is_listed.list (subst (λ l. AppendsSignatures c.loop-leaf.list (of_leaf suite context.group_id x) l) (sym w.list-is) w.in_ok-push_leaf_signature.ensures);
      }
      | else-not-is_listed w ↦ record {
        at = ap (λ n. n + 1) c.loop-leaf.invariant.at;
        walked = λ values.
            subst (λ l. AppendsSignatures old (added_signatures suite context.group_id (take (i + 1) xs)) l) (sym w.list-is)
            (elim (c.is_listed.ensures w.if-not-is_listed.false) [
              | inl v ↦
                  added-value suite context.group_id old xs i c.loop-leaf.list (known values) x c.loop-leaf-test.true c.leaf-item.is values
                  (subst (λ n. IsByValue xs n) c.loop-leaf.invariant.at v)
              | inr r ↦
                  added-skip suite context.group_id old xs i c.loop-leaf.list (known values) x c.loop-leaf-test.true c.leaf-item.is c.requires
                  (subst (λ n. IsRepeat xs n) c.loop-leaf.invariant.at r)
            ]);
      }
    ]

pub returns : goal.returns
returns c = λ values.
    added-all c.args.context.now.cipher_suite c.args.context.now.group_id c.args.list.now c.args.leaves.now c.loop-leaf.leaf-index c.loop-leaf.list
    (c.loop-leaf.invariant.walked values) c.loop-leaf-test.false
