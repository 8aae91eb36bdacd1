use Rattle.std.proofs.Common.{[], ◌++◌, ◌∙◌, codes}
use Rattle.mls_show.specs.ExtensionsText.{extensions_text}
use Rattle.mls_show.specs.KeyPackageText.{suite_lines, leaf_lines}
use Rattle.mls_show.proofs.Appended.{with_before}
use Rattle.mls_show.proofs.key_package_text.key_package_text.Goals as goal

pub returns : goal.returns
returns c =
    let k = c.args.key_package.now in
    let out1 = c.put_suite_lines.new.out.items in
    let out2 = c.put_leaf_lines.new.out.items in
    let out3 = c.put_extensions_line.new.out.items in
    let suite = suite_lines k in
    let leaf = leaf_lines k.leaf_node in
    let extensions = codes "extensions " ++ (extensions_text k.extensions ++ codes "\n") in
    with_before [] out1 out3 suite (leaf ++ extensions) (rw c.new-out.ensures.items at c.in_ok-put_suite_lines.ensures)
    (with_before out1 out2 out3 leaf extensions (rw (c.fields.ensures ∙ c.deref.ensures) at c.in_ok-put_leaf_lines.ensures) (rw c.of-extensions.ensures at c.in_ok-put_extensions_line.ensures))
