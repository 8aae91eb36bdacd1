use Rattle.std.proofs.Common.{◌++◌, codes}
use Rattle.mls_show.specs.ValueTexts.{hex_text}
use Rattle.mls_show.proofs.Appended.{with_before_on_ok}
use Rattle.mls_show.proofs.key_package_text.put_key_lines.Goals as goal

pub returns : goal.returns
returns c =
    let r = c.put_text.result in
    let leaf = c.args.leaf.now in
    let out0 = c.args.out.now.items in
    let out1 = c.put_bytes.new.out.items in
    let out2 = c.put_bytes-2.new.out.items in
    let out3 = c.put_text.new.out.items in
    let first = codes "encryption-key " ++ hex_text leaf.encryption_key in
    let second = codes "\nsignature-key " ++ hex_text leaf.signature_key in
    with_before_on_ok r out0 out1 out3 first (second ++ codes "\n") (rw c.as_slice.ensures at c.in_ok-put_bytes.ensures)
    (with_before_on_ok r out1 out2 out3 second (codes "\n") (rw c.as_slice-2.ensures at c.in_ok-put_bytes-2.ensures) c.put_text.ensures)
