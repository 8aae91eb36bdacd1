use Rattle.std.proofs.Common.{◌∙◌, ◌+◌, ◌++◌, [], take, drop, filter_map, subst, ap, sym}
use Rattle.std.specs.List.{cons_option}
use Rattle.std.proofs.lemmas.List.{take_all, append-nil}
use Rattle.mls_apply.specs.PskProposals.{psk_of, are_distinct_psks, have_distinct_psks}
use Rattle.mls_apply.proofs.PskSets.{IsWalked, HasParts, Parts, id_of_proposal, walk-start, walk-next, walk-met, chosen_next, chosen_parted}
use Rattle.mls_apply.proofs.psk_list.have_distinct_psks.Goals.{in-Some+in_ok-insert+else-not-branch, in_default}
use Rattle.mls_apply.proofs.psk_list.have_distinct_psks.Goals as goal

pub loop-item-init : goal.loop-item-init
loop-item-init c = walk-start c.new-met.result c.new-met.ensures.empty

pub loop-item-preserved : goal.loop-item-preserved
loop-item-preserved c =
    let items = c.args.items.now in
    let i = c.loop-item.item-index in
    let x = c.item-item.result in
    let before = filter_map psk_of (take i items) in
    let next = chosen_next psk_of items i x c.loop-item-test.true c.item-item.is in
    elim c.match-psk_of.branch [
      | in-Some+in_ok-insert+else-not-branch w ↦
          let id = w.in-Some.id.now in
          let print = w.psk_fingerprint-fingerprint.ensures ∙ id_of_proposal x.proposal id (sym w.in-Some.ensures) in
          let p : Parts = (w.psk_fingerprint-fingerprint.result, w.kind_number-number.result, w.kind_epoch-epoch.result, w.kind_bytes-bytes.result, w.as_slice-nonce.result) in
          let parts : HasParts p id = record { print = print; number = w.kind_number-number.ensures; bytes = w.kind_bytes-bytes.ensures; epoch = w.kind_epoch-epoch.ensures; nonce = w.as_slice-nonce.ensures.bytes } in
          let more = walk-next before c.loop-item.met c.loop-item.invariant id p parts w.insert.new.self _ w.in_ok-insert.ensures.added w.if-not-branch.false w.in_ok-insert.ensures.updates.0 in
          subst (λ set. IsWalked (filter_map psk_of (take (i + 1) items)) set) (sym w.met-is)
          (subst (λ ids. IsWalked ids w.insert.new.self) (sym (next ∙ ap (λ o. before ++ cons_option o []) (sym w.in-Some.ensures))) more)
      | in_default w ↦
          subst (λ set. IsWalked (filter_map psk_of (take (i + 1) items)) set) (sym w.met-is)
          (subst (λ ids. IsWalked ids c.loop-item.met) (sym (next ∙ ap (λ o. before ++ cons_option o []) (sym w.in_default.ensures) ∙ append-nil before)) c.loop-item.invariant)
    ]

pub returns-then-not-branch : goal.returns-then-not-branch
unfolding have_distinct_psks
returns-then-not-branch c =
    let items = c.args.items.now in
    let i = c.loop-item.item-index in
    let x = c.item-item.result in
    let before = filter_map psk_of (take i items) in
    let rest = filter_map psk_of (drop (i + 1) items) in
    let id = c.in-Some.id.now in
    let print = c.psk_fingerprint-fingerprint.ensures ∙ id_of_proposal x.proposal id (sym c.in-Some.ensures) in
    let p : Parts = (c.psk_fingerprint-fingerprint.result, c.kind_number-number.result, c.kind_epoch-epoch.result, c.kind_bytes-bytes.result, c.as_slice-nonce.result) in
    let parts : HasParts p id = record { print = print; number = c.kind_number-number.ensures; bytes = c.kind_bytes-bytes.ensures; epoch = c.kind_epoch-epoch.ensures; nonce = c.as_slice-nonce.ensures.bytes } in
    sym
    (ap are_distinct_psks (chosen_parted psk_of items i x c.loop-item-test.true c.item-item.is ∙ ap (λ o. before ++ cons_option o rest) (sym c.in-Some.ensures))
    ∙ walk-met before c.loop-item.met c.loop-item.invariant id p parts _ c.in_ok-insert.ensures.added c.if-not-branch.true rest)

pub returns : goal.returns
unfolding have_distinct_psks
returns c =
    sym (ap (λ xs. are_distinct_psks (filter_map psk_of xs)) (sym (take_all c.loop-item.item-index c.args.items.now c.loop-item-test.false)) ∙ c.loop-item.invariant.distinct)
