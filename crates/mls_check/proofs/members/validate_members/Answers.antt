use Rattle.mls_check.proofs.Rules.{extensions_hold, requirements_hold, credentials_hold, keys_hold, signatures_hold, extensions_fail, requirements_fail, credentials_fail, keys_fail, signatures_fail}
use Rattle.mls_check.proofs.members.validate_members.Goals as goal

pub returns-in-Some-clause-fault : goal.returns-in-Some-clause-fault
returns-in-Some-clause-fault g c =
    extensions_fail _ _ _ _ _ c.in-Some.leaf (rw c.in-Some.is at c.in_ok-leaf.ensures)

pub returns-in-Some-2-clause-fault : goal.returns-in-Some-2-clause-fault
returns-in-Some-2-clause-fault g c =
    requirements_fail _ _ _ _ _ c.in-Some-2.leaf (extensions_hold _ _ _ _ _ (rw c.in_default.is at c.in_ok-leaf.ensures))
    (rw c.in-Some-2.is at c.in_ok-leaf-2.ensures)

pub returns-in-Some-first_unsupported-clause-fault : goal.returns-in-Some-first_unsupported-clause-fault
returns-in-Some-first_unsupported-clause-fault g c =
    credentials_fail _ _ _ _ _ c.in-Some-first_unsupported.leaf
    (requirements_hold _ _ _ _ _ (extensions_hold _ _ _ _ _ (rw c.in_default.is at c.in_ok-leaf.ensures)) (rw c.in_default-2.is at c.in_ok-leaf-2.ensures))
    c.in-Some-first_unsupported.ensures

pub returns-in-Some-3-clause-fault : goal.returns-in-Some-3-clause-fault
returns-in-Some-3-clause-fault g c =
    keys_fail _ _ _ _ _ c.in-Some-3.leaf
    (credentials_hold _ _ _ _ _ (requirements_hold _ _ _ _ _ (extensions_hold _ _ _ _ _ (rw c.in_default.is at c.in_ok-leaf.ensures)) (rw c.in_default-2.is at c.in_ok-leaf-2.ensures)) c.in_default-first_unsupported.ensures)
    (rw c.in-Some-3.is at c.in_ok-leaf-3.ensures)

pub returns-in-Some-first_unsigned_leaf-clause-fault : goal.returns-in-Some-first_unsigned_leaf-clause-fault
returns-in-Some-first_unsigned_leaf-clause-fault g c =
    signatures_fail _ _ _ _ _ c.in-Some-first_unsigned_leaf.leaf
    (keys_hold _ _ _ _ _ (credentials_hold _ _ _ _ _ (requirements_hold _ _ _ _ _ (extensions_hold _ _ _ _ _ (rw c.in_default.is at c.in_ok-leaf.ensures)) (rw c.in_default-2.is at c.in_ok-leaf-2.ensures)) c.in_default-first_unsupported.ensures) (rw c.in_default-3.is at c.in_ok-leaf-3.ensures))
    c.in-Some-first_unsigned_leaf.ensures

pub returns-clause-members : goal.returns-clause-members
returns-clause-members g c =
    signatures_hold _ _ _ _ _
    (keys_hold _ _ _ _ _ (credentials_hold _ _ _ _ _ (requirements_hold _ _ _ _ _ (extensions_hold _ _ _ _ _ (rw c.in_default.is at c.in_ok-leaf.ensures)) (rw c.in_default-2.is at c.in_ok-leaf-2.ensures)) c.in_default-first_unsupported.ensures) (rw c.in_default-3.is at c.in_ok-leaf-3.ensures))
    c.in_default-first_unsigned_leaf.ensures
