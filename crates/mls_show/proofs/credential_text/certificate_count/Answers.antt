use Rattle.std.proofs.Common.{refl}
use Rattle.mls_show.proofs.Certificates.{one_more, one_fewer, always_one, all_are_counted}
use Rattle.mls_show.proofs.credential_text.certificate_count.Goals as goal

pub unreachable-requires : goal.unreachable-requires
unreachable-requires c =
    let t = c.certificates-test.ensures in
    let none = rw c.in_default.is at c.skip.ensures in
    always_one _ c.certificates.left c.certificates.count c.args.chain.now c.reader-left.ensures.items (λ e. let bad = t.1 e in absurd cc) none c.certificates.invariant

pub certificates-preserved : goal.certificates-preserved
certificates-preserved c =
    let t = c.certificates-test.ensures in
    let one = rw c.in-Ok.is at c.skip.ensures in
    one_more _ c.certificates.left c.skip.new.reader c.certificates.count one.0 (λ e. let bad = t.1 e in absurd cc) one.1 c.certificates.invariant

pub certificates-smaller : goal.certificates-smaller
certificates-smaller c =
    let one = rw c.in-Ok.is at c.skip.ensures in
    one_fewer c.certificates.left c.skip.new.reader one.0 one.1

pub returns : goal.returns
returns c =
    let t = c.certificates-test.ensures in
    all_are_counted _ c.certificates.left c.certificates.count c.args.chain.now c.reader-left.ensures.items (t.0 refl) c.certificates.invariant
