-- Which of the proposals that a commit includes by value are valid, type by type (RFC 9420, 12.1 and 12.4). G is the
-- verification function of the checker, `t` the ratchet tree. Internal: no public contract uses this.
use Rattle.std.specs.Prelude.{◌&&◌, List, [], ◌∷◌, true, false}
use Rattle.mls_nodes.specs.declared.context.GroupContext.{GroupContext}
use Rattle.mls_tree.specs.Tree.{Tree}
use Rattle.mls_check.specs.Signatures.{VerifyFn}
use Rattle.mls_msgs.specs.declared.framed_content.Sender.{Sender}
use Rattle.mls_msgs.specs.declared.proposal.ProposalOrRef.{ProposalOrRef}
use Rattle.mls_apply.specs.ProposalRules.{valid_if_add, valid_if_update, valid_if_remove, valid_if_extensions, valid_if_psk, valid_if_reinit, is_no_external_init, holds_if_by_value, all_inline}
use Rattle.mls_apply.specs.RuleLists.{Rule, rule}
use Rattle.mls_apply.specs.declared.refusal.Refusal.{Refusal}
use Rattle.mls_apply.specs.declared.refusal.Refusal.TheVariants.{AddInvalid, UpdateInvalid, RemoveInvalid, ContextExtensionsInvalid, PskInvalid, ReInitInvalid, ExternalInitMisplaced}
use Rattle.mls_follow.specs.declared.proposals_by_value.Validity.{Validity}

-- `all_valid`: all are valid.
abbrev pub all_valid : Validity
all_valid = record {
  adds = true;
  updates = true;
  removes = true;
  extensions = true;
  psks = true;
  reinits = true;
  external_inits = true;
}

-- `both_valid a b`: those are valid that are so in `a` and in `b`.
abbrev pub both_valid : Validity → Validity → Validity
both_valid a b = record {
  adds = a.adds && b.adds;
  updates = a.updates && b.updates;
  removes = a.removes && b.removes;
  extensions = a.extensions && b.extensions;
  psks = a.psks && b.psks;
  reinits = a.reinits && b.reinits;
  external_inits = a.external_inits && b.external_inits;
}

-- `entry_validity G context t committer e`: of the proposal of an entry, if the entry is one by value.
abbrev pub entry_validity : VerifyFn → GroupContext → Tree → Sender → ProposalOrRef → Validity
entry_validity G context t committer e = record {
  adds = holds_if_by_value (valid_if_add G context) e;
  updates = holds_if_by_value (valid_if_update G context t committer) e;
  removes = holds_if_by_value (valid_if_remove t) e;
  extensions = holds_if_by_value valid_if_extensions e;
  psks = holds_if_by_value (valid_if_psk context committer) e;
  reinits = holds_if_by_value (valid_if_reinit context) e;
  external_inits = holds_if_by_value is_no_external_init e;
}

-- `list_validity G context t committer es`: of the proposals of all entries.
abbrev pub list_validity : VerifyFn → GroupContext → Tree → Sender → List ProposalOrRef → Validity
list_validity G context t committer es = record {
  adds = all_inline (valid_if_add G context) es;
  updates = all_inline (valid_if_update G context t committer) es;
  removes = all_inline (valid_if_remove t) es;
  extensions = all_inline valid_if_extensions es;
  psks = all_inline (valid_if_psk context committer) es;
  reinits = all_inline (valid_if_reinit context) es;
  external_inits = all_inline is_no_external_init es;
}

-- `invalid_by e`: all are valid but those that are refused by this rule.
abbrev pub invalid_by : Refusal → Validity
invalid_by AddInvalid = record all_valid { adds = false }
invalid_by UpdateInvalid = record all_valid { updates = false }
invalid_by RemoveInvalid = record all_valid { removes = false }
invalid_by ContextExtensionsInvalid = record all_valid { extensions = false }
invalid_by PskInvalid = record all_valid { psks = false }
invalid_by ReInitInvalid = record all_valid { reinits = false }
invalid_by ExternalInitMisplaced = record all_valid { external_inits = false }
invalid_by _ = all_valid

-- `validity_rules v` is the rules for the proposals by value, by which of them are valid.
abbrev pub validity_rules : Validity → List (Rule Refusal)
validity_rules v =
    rule AddInvalid v.adds ∷
    rule UpdateInvalid v.updates ∷
    rule RemoveInvalid v.removes ∷
    rule ContextExtensionsInvalid v.extensions ∷
    rule PskInvalid v.psks ∷
    rule ReInitInvalid v.reinits ∷
    rule ExternalInitMisplaced v.external_inits ∷ []
