-- When the signatures of a start have no duplicates (RFC 9420, 7.3, 12.4.3.1). Used by contracts.
use Rattle.std.specs.Prelude.{◌≡◌, true}
use Rattle.mls_tree.specs.Tree.{Tree}
use Rattle.mls_check.specs.LeafValidation.{all_leaves, has_unique_signature_key}
use Rattle.mls_msgs.specs.declared.group_info.GroupInfo.{GroupInfo}
use Rattle.mls_signatures.specs.SignaturesToVerify.{all_start_signatures, start_signatures}

-- ---- theorems

-- if no two leaves have one signature key (RFC 9420, 7.3), no two signatures of a start are equal: they are the
-- GroupInfo's, then each leaf's
abbrev pub StartSignaturesAreDistinct : Type 0
StartSignaturesAreDistinct =
    (info : GroupInfo) (t : Tree) → all_leaves (has_unique_signature_key t) 0 t ≡ true
    → start_signatures info t ≡ all_start_signatures info t
