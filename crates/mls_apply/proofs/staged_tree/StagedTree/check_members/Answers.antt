use Rattle.std.proofs.Common.{Some, None}
use Rattle.mls_check.proofs.Rules.{extensions_hold, requirements_hold, credentials_hold, keys_hold, signatures_hold, extensions_fail, requirements_fail, credentials_fail, keys_fail, signatures_fail}
use Rattle.mls_index.proofs.Changed.{members-requirements, members-keys}
use Rattle.mls_apply.proofs.Staging.{extensions_kept, signatures_kept, extensions_found, signatures_found}
use Rattle.mls_apply.proofs.staged_tree.StagedTree.check_members.Goals as goal

pub first_failing-requires-clause-rules_hold : goal.first_failing-requires-clause-rules_hold
first_failing-requires-clause-rules_hold g c = extensions_kept _ _ _ _ _ c.requires.rules_hold

pub first_unmet-requires-clause-rules_hold : goal.first_unmet-requires-clause-rules_hold
first_unmet-requires-clause-rules_hold g c = members-requirements _ _ _ _ _ c.requires.rules_hold

pub first_repeated-requires-clause-rules_hold : goal.first_repeated-requires-clause-rules_hold
first_repeated-requires-clause-rules_hold g c = members-keys _ _ _ _ _ c.requires.rules_hold

pub first_failing-requires-2-clause-rules_hold : goal.first_failing-requires-2-clause-rules_hold
first_failing-requires-2-clause-rules_hold g c = signatures_kept _ _ _ _ _ c.requires.rules_hold

-- ---- the rules one after the other

pub returns-in-Some-clause-fault : goal.returns-in-Some-clause-fault
returns-in-Some-clause-fault g c =
    let G = g.C.SignatureCheck.meaning c.args.rules.now.checker.now in
    let x = c.args.rules.now.context.now in
    let r = c.args.rules.now.required.now in
    let t = c.args.self.now.tree in
    extensions_fail G x.cipher_suite x.group_id r t c.in-Some.leaf (extensions_found G x r t (Some c.in-Some.leaf) (rw c.in-Some.is at c.in_ok-leaf.ensures))

pub returns-in-Some-2-clause-fault : goal.returns-in-Some-2-clause-fault
returns-in-Some-2-clause-fault g c =
    let G = g.C.SignatureCheck.meaning c.args.rules.now.checker.now in
    let x = c.args.rules.now.context.now in
    let r = c.args.rules.now.required.now in
    let t = c.args.self.now.tree in
    let two = extensions_hold G x.cipher_suite x.group_id r t (extensions_found G x r t None (rw c.in_default.is at c.in_ok-leaf.ensures)) in
    requirements_fail G x.cipher_suite x.group_id r t c.in-Some-2.leaf two (rw c.in-Some-2.is at c.in_ok-leaf-2.ensures)

pub returns-in-Some-first_unsupported-clause-fault : goal.returns-in-Some-first_unsupported-clause-fault
returns-in-Some-first_unsupported-clause-fault g c =
    let G = g.C.SignatureCheck.meaning c.args.rules.now.checker.now in
    let x = c.args.rules.now.context.now in
    let r = c.args.rules.now.required.now in
    let t = c.args.self.now.tree in
    let two = extensions_hold G x.cipher_suite x.group_id r t (extensions_found G x r t None (rw c.in_default.is at c.in_ok-leaf.ensures)) in
    let three = requirements_hold G x.cipher_suite x.group_id r t two (rw c.in_default-2.is at c.in_ok-leaf-2.ensures) in
    credentials_fail G x.cipher_suite x.group_id r t c.in-Some-first_unsupported.leaf three c.in-Some-first_unsupported.ensures

pub returns-in-Some-first_repeated-clause-fault : goal.returns-in-Some-first_repeated-clause-fault
returns-in-Some-first_repeated-clause-fault g c =
    let G = g.C.SignatureCheck.meaning c.args.rules.now.checker.now in
    let x = c.args.rules.now.context.now in
    let r = c.args.rules.now.required.now in
    let t = c.args.self.now.tree in
    let two = extensions_hold G x.cipher_suite x.group_id r t (extensions_found G x r t None (rw c.in_default.is at c.in_ok-leaf.ensures)) in
    let three = requirements_hold G x.cipher_suite x.group_id r t two (rw c.in_default-2.is at c.in_ok-leaf-2.ensures) in
    let four = credentials_hold G x.cipher_suite x.group_id r t three c.in_default-first_unsupported.ensures in
    keys_fail G x.cipher_suite x.group_id r t c.in-Some-first_repeated.leaf four c.in-Some-first_repeated.ensures

pub returns-in-Some-3-clause-fault : goal.returns-in-Some-3-clause-fault
returns-in-Some-3-clause-fault g c =
    let G = g.C.SignatureCheck.meaning c.args.rules.now.checker.now in
    let x = c.args.rules.now.context.now in
    let r = c.args.rules.now.required.now in
    let t = c.args.self.now.tree in
    let two = extensions_hold G x.cipher_suite x.group_id r t (extensions_found G x r t None (rw c.in_default.is at c.in_ok-leaf.ensures)) in
    let three = requirements_hold G x.cipher_suite x.group_id r t two (rw c.in_default-2.is at c.in_ok-leaf-2.ensures) in
    let four = credentials_hold G x.cipher_suite x.group_id r t three c.in_default-first_unsupported.ensures in
    let five = keys_hold G x.cipher_suite x.group_id r t four c.in_default-first_repeated.ensures in
    signatures_fail G x.cipher_suite x.group_id r t c.in-Some-3.leaf five (signatures_found G x r t (Some c.in-Some-3.leaf) (rw c.in-Some-3.is at c.in_ok-leaf-3.ensures))

pub returns-clause-members : goal.returns-clause-members
returns-clause-members g c =
    let G = g.C.SignatureCheck.meaning c.args.rules.now.checker.now in
    let x = c.args.rules.now.context.now in
    let r = c.args.rules.now.required.now in
    let t = c.args.self.now.tree in
    let two = extensions_hold G x.cipher_suite x.group_id r t (extensions_found G x r t None (rw c.in_default.is at c.in_ok-leaf.ensures)) in
    let three = requirements_hold G x.cipher_suite x.group_id r t two (rw c.in_default-2.is at c.in_ok-leaf-2.ensures) in
    let four = credentials_hold G x.cipher_suite x.group_id r t three c.in_default-first_unsupported.ensures in
    let five = keys_hold G x.cipher_suite x.group_id r t four c.in_default-first_repeated.ensures in
    signatures_hold G x.cipher_suite x.group_id r t five (signatures_found G x r t None (rw c.in_default-3.is at c.in_ok-leaf-3.ensures))
