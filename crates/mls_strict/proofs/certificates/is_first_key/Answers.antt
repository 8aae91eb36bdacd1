use Rattle.std.proofs.Common.{◌∙◌, sym, ap}
use Rattle.mls_strict.specs.Certificates.{certificate_key, is_key}
use Rattle.mls_strict.proofs.CertificateChains.{certifies-first, certifies-none}
use Rattle.mls_strict.proofs.certificates.is_first_key.Goals as goal

pub returns-in-Ok : goal.returns-in-Ok
returns-in-Ok c =
    c.is_key.ensures ∙ ap (λ b. is_key c.args.key.now (certificate_key b)) c.as_slice.ensures
    ∙ sym (certifies-first c.args.key.now c.reader.result c.args.chain.now c.reader.ensures.items c.parse.new.reader _ c.in-Ok.ensures)

pub returns-in-Err : goal.returns-in-Err
returns-in-Err c = sym (certifies-none c.args.key.now c.reader.result c.args.chain.now c.reader.ensures.items c.in-Err.ensures)
