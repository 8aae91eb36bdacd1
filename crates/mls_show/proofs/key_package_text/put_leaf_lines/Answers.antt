use Rattle.std.proofs.Common.{◌++◌, codes}
use Rattle.mls_show.specs.ExtensionsText.{extensions_text}
use Rattle.mls_show.specs.KeyPackageText.{key_lines, origin_lines, protocol_text, types_line}
use Rattle.mls_show.proofs.Appended.{with_before_on_ok}
use Rattle.mls_show.proofs.key_package_text.put_leaf_lines.Goals as goal

pub returns : goal.returns
returns c =
    let r = c.put_extensions_line.result in
    let leaf = c.args.leaf.now in
    let out0 = c.args.out.now.items in
    let out1 = c.put_key_lines.new.out.items in
    let out2 = c.put_origin_lines.new.out.items in
    let out3 = c.put_protocol.new.out.items in
    let out4 = c.put_types.new.out.items in
    let out5 = c.put_extensions_line.new.out.items in
    let keys = key_lines leaf in
    let origin = origin_lines leaf in
    let protocol = protocol_text leaf.capabilities in
    let types = types_line leaf.capabilities in
    let extensions = codes "leaf-extensions " ++ (extensions_text leaf.extensions ++ codes "\n") in
    with_before_on_ok r out0 out1 out5 keys (origin ++ (protocol ++ (types ++ extensions))) c.in_ok-put_key_lines.ensures
    (with_before_on_ok r out1 out2 out5 origin (protocol ++ (types ++ extensions)) c.in_ok-put_origin_lines.ensures
    (with_before_on_ok r out2 out3 out5 protocol (types ++ extensions) c.in_ok-put_protocol.ensures
    (with_before_on_ok r out3 out4 out5 types extensions c.in_ok-put_types.ensures (rw c.of_borrowed-extensions.ensures at c.put_extensions_line.ensures))))
