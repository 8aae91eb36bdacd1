-- Own hashes as they are stored (RFC 9420, 7.9): a mark for each index, `true` if its hash is known, and a list of hashes
-- that is empty until the first of them is stored. Internal: no public contract uses this.
use Rattle.std.specs.Prelude.{◌≡◌, ℕ, ◌<◌, ◌^◌, ◌⊎◌, Bool, false, if◌then◌else◌, List, [], ◌∷◌, length, replicate, Option, Some, None}

-- `marked_hashes marks hashes` has an entry for each mark: its hash, or `None` if the mark is `false` or there is no hash.
abbrev pub marked_hashes : List Bool → List (List ℕ) → List (Option (List ℕ))
marked_hashes [] hashes = []
marked_hashes (is_known ∷ rest) [] = None ∷ marked_hashes rest []
marked_hashes (is_known ∷ rest) (hash ∷ hashes) = (if is_known then Some hash else None) ∷ marked_hashes rest hashes

-- `AreUnused marks hashes`: there is no hash, and no mark is `true`.
pub record AreUnused (marks : List Bool) (hashes : List (List ℕ)) : Type 0 where
  pub no_hash : hashes ≡ []
  pub no_mark : marks ≡ replicate (length marks) false

-- `AreStored marks hashes`: each mark has a hash, or the list of hashes is not in use yet.
pub record AreStored (marks : List Bool) (hashes : List (List ℕ)) : Type 0 where
  pub count : length marks < 2 ^ 32
  pub listed : (length hashes ≡ length marks) ⊎ AreUnused marks hashes
