use Rattle.std.proofs.Common.{take, filter_map}
use Rattle.mls_apply.specs.PskProposals.{psk_of}
use Rattle.mls_apply.proofs.PskSets.{IsWalked}
use Rattle.mls_apply.proofs.psk_list.have_distinct_psks.Given as goal

abbrev pub invariant-loop-item : goal.invariant-loop-item
invariant-loop-item l = IsWalked (filter_map psk_of (take l.item-index l.items)) l.met
