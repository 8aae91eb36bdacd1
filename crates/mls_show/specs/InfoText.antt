-- The lines of `show info` (RFC 9420, 8.1 and 12.4.3). Used by contracts.
use Rattle.std.specs.Prelude.{ℕ, List, ◌++◌, map, codes}
use Rattle.std.specs.Fmt.{decimal}
use Rattle.mls_nodes.specs.declared.context.GroupContext.{GroupContext}
use Rattle.mls_nodes.specs.declared.extension.Extension.{Extension}
use Rattle.mls_msgs.specs.declared.group_info.GroupInfo.{GroupInfo}
use Rattle.mls_show.specs.ValueTexts.{hex_text, numbers_text}

-- `types_text extensions` is the types of extensions, in the order of their list (RFC 9420, 13).
abbrev pub types_text : List Extension → List ℕ
types_text extensions = numbers_text (map (λ e. e.kind) extensions)

-- `group_lines c` is the cipher suite, the group id and the epoch (RFC 9420, 8.1).
abbrev pub group_lines : GroupContext → List ℕ
group_lines c =
    codes "suite " ++ (decimal c.cipher_suite
    ++ (codes "\ngroup " ++ (hex_text c.group_id
    ++ (codes "\nepoch " ++ (decimal c.epoch ++ codes "\n")))))

-- `hash_lines c` is the tree hash and the confirmed transcript hash (RFC 9420, 8.1).
abbrev pub hash_lines : GroupContext → List ℕ
hash_lines c =
    codes "tree " ++ (hex_text c.tree_hash
    ++ (codes "\nconfirmed " ++ (hex_text c.confirmed ++ codes "\n")))

-- `extension_lines g` is the extension types of the GroupContext and of the GroupInfo (RFC 9420, 12.4.3).
abbrev pub extension_lines : GroupInfo → List ℕ
extension_lines g =
    codes "extensions " ++ (types_text g.context.extensions
    ++ (codes "\ninfo-extensions " ++ (types_text g.extensions ++ codes "\n")))

-- `signer_lines g` is the confirmation tag, and the leaf index of the signer (RFC 9420, 12.4.3).
abbrev pub signer_lines : GroupInfo → List ℕ
signer_lines g =
    codes "confirmation " ++ (hex_text g.confirmation_tag
    ++ (codes "\nsigner " ++ (decimal g.signer ++ codes "\n")))

-- `info_text g` is the report of a GroupInfo: nine lines.
abbrev pub info_text : GroupInfo → List ℕ
info_text g =
    group_lines g.context ++ (hash_lines g.context ++ (extension_lines g ++ signer_lines g))
