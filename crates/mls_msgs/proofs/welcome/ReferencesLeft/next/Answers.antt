use Rattle.std.proofs.Common.{◌∙◌, sym}
use Rattle.mls_msgs.proofs.SecretsInInput.{none_left, always_reference, always_secrets, first_taken}
use Rattle.mls_msgs.proofs.welcome.ReferencesLeft.next.Goals as goal

pub returns-then-at_end : goal.returns-then-at_end
returns-then-at_end c =
    let none = sym c.self.view_is ∙ none_left c.self.inside.left (c.at_end.ensures.0 c.if-at_end.true) in
    (none, none)

pub unreachable-requires : goal.unreachable-requires
unreachable-requires c =
    let fault = rw c.in_default.is at c.read_vec.ensures in
    let t = c.if-at_end.ensures in
    always_reference c.self.inside.left c.read_vec.new.self c.in_default.field-0 (λ e. let bad = t.1 e in absurd cc) c.self.invariant fault

pub unreachable-requires-in_default-skip : goal.unreachable-requires-in_default-skip
unreachable-requires-in_default-skip c =
    let reference = rw c.in-Ok.is at c.read_vec.ensures in
    let none = rw c.in_default-skip.is at c.skip.ensures in
    let t = c.if-at_end.ensures in
    always_secrets c.self.inside.left c.read_vec.new.self c.in-Ok.reference.now (λ e. let bad = t.1 e in absurd cc) c.self.invariant reference none

pub invariant_of-self : goal.invariant_of-self
invariant_of-self c =
    let reference = rw c.in-Ok.is at c.read_vec.ensures in
    let skipped = rw c.in-Ok-skip.is at c.skip.ensures in
    let t = c.if-at_end.ensures in
    (first_taken c.self.inside.left c.read_vec.new.self c.skip.new.reader c.in-Ok.reference.now skipped.0 (λ e. let bad = t.1 e in absurd cc) c.self.invariant reference skipped.1).0

pub returns : goal.returns
returns c =
    let reference = rw c.in-Ok.is at c.read_vec.ensures in
    let skipped = rw c.in-Ok-skip.is at c.skip.ensures in
    let t = c.if-at_end.ensures in
    sym c.self.view_is ∙ (first_taken c.self.inside.left c.read_vec.new.self c.skip.new.reader c.in-Ok.reference.now skipped.0 (λ e. let bad = t.1 e in absurd cc) c.self.invariant reference skipped.1).1
