use Rattle.std.proofs.Common.{◌∙◌, ◌+◌, ◌++◌, [], Some, take, drop, filter_map, subst, ap, sym}
use Rattle.std.specs.List.{cons_option}
use Rattle.std.proofs.lemmas.List.{take_all, append-nil}
use Rattle.mls_nodes.specs.Fingerprints.{fingerprint}
use Rattle.mls_check.specs.DistinctKeys.{are_distinct}
use Rattle.mls_apply.specs.AddedKeys.{added_encryption_key, have_distinct_added_keys}
use Rattle.mls_apply.proofs.PskSets.{chosen_next, chosen_parted}
use Rattle.mls_apply.proofs.KeySets.{Entry, HasFingerprint, IsWalked, walk-start, walk-next, walk-met}
use Rattle.mls_apply.proofs.added_keys.have_distinct_added_keys.Goals.{in-Some+in_ok-insert+else-not-branch, in_default}
use Rattle.mls_apply.proofs.added_keys.have_distinct_added_keys.Goals as goal

pub loop-item-init : goal.loop-item-init
loop-item-init c = walk-start c.new-met.result c.new-met.ensures.empty

pub loop-item-preserved : goal.loop-item-preserved
loop-item-preserved c =
    let items = c.args.items.now in
    let i = c.loop-item.item-index in
    let x = c.item-item.result in
    let before = filter_map added_encryption_key (take i items) in
    let next = chosen_next added_encryption_key items i x c.loop-item-test.true c.item-item.is in
    elim c.match-added_leaf.branch [
      | in-Some+in_ok-insert+else-not-branch w ↦
          let e : Entry = (w.encryption_fingerprint-number.result, w.encryption_key-key.result) in
          let keyed = w.encryption_key-key.ensures in
          let number : HasFingerprint e = w.encryption_fingerprint-number.ensures ∙ ap fingerprint (sym keyed) in
          let more = walk-next before c.loop-item.met c.loop-item.invariant e number w.insert.new.self _ w.in_ok-insert.ensures.added w.if-not-branch.false w.in_ok-insert.ensures.updates.0 in
          subst (λ set. IsWalked (filter_map added_encryption_key (take (i + 1) items)) set) (sym w.met-is)
          (subst (λ keys. IsWalked keys w.insert.new.self) (sym (next ∙ ap (λ o. before ++ cons_option o []) (sym w.in-Some.ensures ∙ ap Some (sym keyed)))) more)
      | in_default w ↦
          subst (λ set. IsWalked (filter_map added_encryption_key (take (i + 1) items)) set) (sym w.met-is)
          (subst (λ keys. IsWalked keys c.loop-item.met) (sym (next ∙ ap (λ o. before ++ cons_option o []) (sym w.in_default.ensures) ∙ append-nil before)) c.loop-item.invariant)
    ]

pub returns-then-not-branch : goal.returns-then-not-branch
unfolding have_distinct_added_keys
returns-then-not-branch c =
    let items = c.args.items.now in
    let i = c.loop-item.item-index in
    let x = c.item-item.result in
    let before = filter_map added_encryption_key (take i items) in
    let rest = filter_map added_encryption_key (drop (i + 1) items) in
    let e : Entry = (c.encryption_fingerprint-number.result, c.encryption_key-key.result) in
    let keyed = c.encryption_key-key.ensures in
    let number : HasFingerprint e = c.encryption_fingerprint-number.ensures ∙ ap fingerprint (sym keyed) in
    sym
    (ap are_distinct (chosen_parted added_encryption_key items i x c.loop-item-test.true c.item-item.is ∙ ap (λ o. before ++ cons_option o rest) (sym c.in-Some.ensures ∙ ap Some (sym keyed)))
    ∙ walk-met before c.loop-item.met c.loop-item.invariant e number _ c.in_ok-insert.ensures.added c.if-not-branch.true rest)

pub returns : goal.returns
unfolding have_distinct_added_keys
returns c =
    sym (ap (λ xs. are_distinct (filter_map added_encryption_key xs)) (sym (take_all c.loop-item.item-index c.args.items.now c.loop-item-test.false)) ∙ c.loop-item.invariant.distinct)
