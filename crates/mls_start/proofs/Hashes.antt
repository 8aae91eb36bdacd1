-- The tree hash of a valid tree is short.
use Rattle.std.proofs.Common.{ℕ, ◌≤◌, List, length, arith}
use Rattle.mls_tree.specs.Tree.{Tree}
use Rattle.mls_hash.specs.SuiteHash.{hash_of}
use Rattle.mls_hash.proofs.Lengths.{length-tree_hash, hash_length-limit}
use Rattle.mls_check.specs.Signatures.{VerifyFn}
use Rattle.mls_check.specs.ValidTree.{Valid}
use Rattle.mls_follow.specs.State.{State}
use Rattle.mls_follow.specs.Validity.{IsValidState}
use Rattle.mls_start.proofs.FirstStates.{first_valid}
use Rattle.mls_start.specs.Inputs.{Inputs}
use Rattle.mls_start.specs.StartFindings.{IsFirstState}

pub length_valid : (suite : ℕ) (hash : List ℕ) (t : Tree) → Valid (hash_of suite) hash t → length hash ≤ 64
length_valid suite hash t v = omega (arith, length-tree_hash suite 0 t hash v.hashed, hash_length-limit suite)

-- the same of a valid state
length_in : (G : VerifyFn) (s : State) → IsValidState G s → length s.context.tree_hash ≤ 64
length_in G s v = length_valid s.context.cipher_suite s.context.tree_hash s.tree v.valid

-- so of the state in which a follower starts or resumes
pub length_first : (G : VerifyFn) (i : Inputs) (s : State) → IsFirstState G i s → length s.context.tree_hash ≤ 64
length_first G i s h = length_in G s (first_valid G i s h)
