use Rattle.std.proofs.Common.{◌∙◌, ◌++◌, length, drop, replicate, ap}
use Rattle.mls_nodes.proofs.KeyPrefixes.{key_prefix-long, key_prefix-short}
use Rattle.mls_nodes.proofs.key_prefixes.key_prefix.Goals as goal

pub returns-in-Some : goal.returns-in-Some
returns-in-Some c =
    let key = c.args.key.now in
    let is = c.in-Some.ensures.cases in
    c.from_be_bytes.ensures ∙ key_prefix-long key c.in-Some.front.now is.enough is.same

pub returns : goal.returns
returns c =
    let key = c.args.key.now in
    let zeros = drop (length key) (replicate 8 0) in
    let copied = ap (λ bytes. bytes ++ zeros) c.copy_from_slice.ensures.after in
    let bytes = c.copy_from_slice.new.self ++ zeros in
    c.from_be_bytes-2.ensures ∙ key_prefix-short key bytes c.in_default.ensures.cases copied
