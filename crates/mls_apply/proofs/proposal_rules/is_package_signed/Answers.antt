use Rattle.mls_apply.proofs.Pieces.{package_signed}
use Rattle.mls_apply.proofs.proposal_rules.is_package_signed.Goals as goal

pub returns : goal.returns
returns g c =
    let k = c.args.key_package.now in
    let key_len = rw c.as_slice-init_key.ensures.bytes at c.of-init_key_len.ensures in
    let leaf_is = rw c.deref.ensures at c.encoding.ensures.encoding in
    let signed = package_signed (g.C.SignatureCheck.meaning c.args.checker.now) c.args.suite k c.of-init_key_len.result c.encoding.result.now
    c.encoded-extensions.result.now c.of-extensions_len.result (search) (search) key_len leaf_is c.encoded-extensions.ensures.encoded c.of-extensions_len.ensures in
    let answer = rw (c.to_be_bytes-version.ensures, c.to_be_bytes-cipher_suite.ensures, c.as_slice.ensures, c.as_slice-2.ensures, c.as_slice-init_key.ensures.bytes, c.signature_key-key.ensures, c.deref-2.ensures, c.as_slice-signature.ensures.bytes) at c.signed_in_pieces.ensures in
    rw signed at answer
