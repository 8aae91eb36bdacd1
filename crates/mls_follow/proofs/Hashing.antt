-- The step after a commit.
use Rattle.std.proofs.Common.{◌≡◌, ℕ, List, Some, refl}
use Rattle.mls_tree.specs.Tree.{Tree}
use Rattle.mls_tree.specs.TreeHash.{tree_hash}
use Rattle.mls_hash.specs.SuiteHash.{hash_of}
use Rattle.mls_msgs.specs.declared.authenticated.AuthenticatedParts.{AuthenticatedParts}
use Rattle.mls_follow.specs.State.{State}
use Rattle.mls_apply.specs.Transcript.{confirmed_hash, interim_hash}
use Rattle.mls_follow.specs.NextState.{after_tree, committed}

-- the step after a commit that leads to a tree, by its hashes
pub stepped : (s : State) (a : AuthenticatedParts) (t : Tree) (hash confirmed interim : List ℕ) → tree_hash (hash_of s.context.cipher_suite) 0 t ≡ Some hash
    → confirmed_hash (hash_of s.context.cipher_suite) s.interim a ≡ Some confirmed → interim_hash (hash_of s.context.cipher_suite) confirmed a.confirmation_tag ≡ Some interim
    → after_tree s a t ≡ Some (committed s t hash confirmed interim)
stepped s a t hash confirmed interim p q r = rw (p, q, r) refl
