-- The pieces of a GroupContext (RFC 9420, 8.1). Internal: no public contract uses this.
use Rattle.std.specs.Prelude.{ℕ, List, ◌++◌, length, Option, Some, ◌≡◌}
use Rattle.std.specs.Int.{w16, w64}
use Rattle.mls_wire.specs.Encoding.{number, length_form, vector, list}
use Rattle.mls_nodes.specs.Extension.{extension}
use Rattle.mls_nodes.specs.declared.context.GroupContext.{GroupContext}

-- `ArePieces context version ..`: the encodings of the numbers and lengths in a GroupContext, and of its extensions.
pub record ArePieces (context : GroupContext) (version cipher_suite group_id_len epoch tree_hash_len confirmed_len extensions
    extensions_len : List ℕ) : Type 0 where
  pub version_is : number w16 context.version ≡ Some version
  pub suite_is : number w16 context.cipher_suite ≡ Some cipher_suite
  pub group_id_fits : length_form (length context.group_id) ≡ Some group_id_len
  pub epoch_is : number w64 context.epoch ≡ Some epoch
  pub tree_hash_fits : length_form (length context.tree_hash) ≡ Some tree_hash_len
  pub confirmed_fits : length_form (length context.confirmed) ≡ Some confirmed_len
  pub extensions_are : list extension context.extensions ≡ vector extensions
  pub extensions_fit : length_form (length extensions) ≡ Some extensions_len

-- `AddsPieces text old new`: the bytes `new` are `old`, and then an encoding.
pub record AddsPieces (text : Option (List ℕ)) (old new : List ℕ) : Type 0 where
  pub added : List ℕ
  pub added_is : text ≡ Some added
  pub new_is : new ≡ old ++ added
