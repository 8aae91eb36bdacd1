use Rattle.std.proofs.Common.{◌∙◌, sym}
use Rattle.mls_nodes.proofs.ExtensionsInInput.{none_left, always_kind, always_body, first_taken}
use Rattle.mls_nodes.proofs.extension.ExtensionsLeft.next.Goals as goal

pub returns-then-at_end : goal.returns-then-at_end
returns-then-at_end c =
    let none = sym c.self.view_is ∙ none_left c.self.inside.left (c.at_end.ensures.0 c.if-at_end.true) in
    (none, none)

pub unreachable-requires : goal.unreachable-requires
unreachable-requires c =
    let fault = rw c.in_default.is at c.read_u16.ensures in
    let t = c.if-at_end.ensures in
    always_kind c.self.inside.left c.read_u16.new.self c.in_default.field-0 (λ e. let bad = t.1 e in absurd cc) c.self.invariant fault

pub unreachable-requires-in_default-read_vec : goal.unreachable-requires-in_default-read_vec
unreachable-requires-in_default-read_vec c =
    let fault = rw c.in_default-read_vec.is at c.read_vec.ensures in
    let kind = rw c.in-Ok.is at c.read_u16.ensures in
    let t = c.if-at_end.ensures in
    always_body c.self.inside.left c.read_u16.new.self c.read_vec.new.self c.in-Ok.kind c.in_default-read_vec.field-0 (λ e. let bad = t.1 e in absurd cc) c.self.invariant kind fault

pub invariant_of-self : goal.invariant_of-self
invariant_of-self c =
    let body = rw c.in-Ok-read_vec.is at c.read_vec.ensures in
    let kind = rw c.in-Ok.is at c.read_u16.ensures in
    let t = c.if-at_end.ensures in
    (first_taken c.self.inside.left c.read_u16.new.self c.read_vec.new.self c.in-Ok.kind c.in-Ok-read_vec.body.now (λ e. let bad = t.1 e in absurd cc) c.self.invariant kind body).0

pub returns : goal.returns
returns c =
    let body = rw c.in-Ok-read_vec.is at c.read_vec.ensures in
    let kind = rw c.in-Ok.is at c.read_u16.ensures in
    let t = c.if-at_end.ensures in
    sym c.self.view_is ∙ (first_taken c.self.inside.left c.read_u16.new.self c.read_vec.new.self c.in-Ok.kind c.in-Ok-read_vec.body.now (λ e. let bad = t.1 e in absurd cc) c.self.invariant kind body).1
