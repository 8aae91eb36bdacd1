use Rattle.std.proofs.Common.{refl}
use Rattle.std.proofs.lemmas.Result.{err_from_is_err_and}
use Rattle.mls_wire.specs.Parsing.{vector_at}
use Rattle.mls_msgs.specs.Parsing.{key_package_at}
use Rattle.mls_msgs.proofs.PartLemmas.{refused}
use Rattle.mls_msgs.proofs.key_package.KeyPackageDecode.read.Goals as goal

pub returns-in_err-signature : goal.returns-in_err-signature
unfolding key_package_at
returns-in_err-signature c =
    let f = c.from_residual-in_err-signature in
    let p = err_from_is_err_and f.result f.ensures.1 in
    rw (p.1, p.2) (refused key_package_at vector_at c.args.reader.now _ _ _ c.in_err-signature.ensures
    (λ none. rw (← c.fork-ahead.ensures, c.in_ok-version.ensures, c.in_ok-cipher_suite.ensures, c.in_ok-init_key.ensures, c.in_ok-leaf_node.ensures, c.in_ok-extensions.ensures, none) refl))
