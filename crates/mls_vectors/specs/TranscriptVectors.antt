-- Vectors of the kind `transcript`: the transcript hashes before and after a commit (RFC 9420, 8.2). `d` is a vector.
-- Used by contracts.
use Rattle.std.specs.Prelude.{ℕ, List, [], ◌∷◌, codes, Some, true, ◌≡◌, ◌⊎◌}
use Rattle.serde_json.specs.Data.{Data}
use Rattle.mls_hash.specs.SuiteHash.{hash_of}
use Rattle.mls_msgs.specs.Layout.{is_commit}
use Rattle.mls_msgs.specs.Profile.{authenticated_in}
use Rattle.mls_msgs.specs.declared.profile.Profile.TheVariants.{Members}
use Rattle.mls_msgs.specs.declared.authenticated.AuthenticatedParts.{AuthenticatedParts}
use Rattle.mls_apply.specs.Transcript.{confirmed_hash, interim_hash}
use Rattle.mls_vectors.specs.VectorResults.{Check, check, VectorResult, IsVectorResult, IsEarlyFailure}
use Rattle.mls_vectors.specs.TreeValidation.{HasSuite}
use Rattle.mls_vectors.specs.VectorFile.{bytes_under}

-- `HasCommit d a`: the AuthenticatedContent of the vector can be read in the members' profile, and is that of a commit
-- (RFC 9420, 6).
pub record HasCommit (d : Data) (a : AuthenticatedParts) : Type 0 where
  pub bytes : List ℕ
  pub found : bytes_under (codes "authenticated_content") d ≡ Some bytes
  pub encoded : authenticated_in Members a ≡ Some bytes
  pub commits : is_commit a.content.content ≡ true

-- `HasInterimBefore d hash`: the vector has this interim transcript hash before the commit.
abbrev pub HasInterimBefore : Data → List ℕ → Type 0
HasInterimBefore d interim = bytes_under (codes "interim_transcript_hash_before") d ≡ Some interim

-- `commit_checks d` is the first checks: what the vector has can be read.
abbrev pub commit_checks : Data → List Check
commit_checks d =
    check (codes "cipher_suite") ((suite : ℕ) × HasSuite d suite)
    ∷ check (codes "authenticated_content") ((a : AuthenticatedParts) × HasCommit d a)
    ∷ check (codes "interim_transcript_hash_before") ((interim : List ℕ) × HasInterimBefore d interim)
    ∷ []

-- `HasConfirmed H interim a d`: the vector has the confirmed transcript hash after the commit (RFC 9420, 8.2).
pub record HasConfirmed (H : List ℕ → List ℕ) (interim : List ℕ) (a : AuthenticatedParts)
    (d : Data) : Type 0 where
  pub confirmed : List ℕ
  pub hashed : confirmed_hash H interim a ≡ Some confirmed
  pub found : bytes_under (codes "confirmed_transcript_hash_after") d ≡ Some confirmed

-- `HasInterimAfter H interim a d`: the vector has the interim transcript hash after the commit (RFC 9420, 8.2).
pub record HasInterimAfter (H : List ℕ → List ℕ) (interim : List ℕ) (a : AuthenticatedParts)
    (d : Data) : Type 0 where
  pub confirmed : List ℕ
  pub hashed : confirmed_hash H interim a ≡ Some confirmed
  pub after : List ℕ
  pub hashed_after : interim_hash H confirmed a.confirmation_tag ≡ Some after
  pub found : bytes_under (codes "interim_transcript_hash_after") d ≡ Some after

-- `hash_checks H interim a d` is the further checks.
abbrev pub hash_checks : (List ℕ → List ℕ) → List ℕ → AuthenticatedParts → Data → List Check
hash_checks H interim a d =
    check (codes "confirmed_transcript_hash_after") (HasConfirmed H interim a d)
    ∷ check (codes "interim_transcript_hash_after") (HasInterimAfter H interim a d)
    ∷ []

-- `IsHashOutcome d o`: the result of a vector that can be read.
pub record IsHashOutcome (d : Data) (o : VectorResult) : Type 0 where
  pub suite : ℕ
  pub has_suite : HasSuite d suite
  pub sent : AuthenticatedParts
  pub has_commit : HasCommit d sent
  pub interim : List ℕ
  pub has_interim : HasInterimBefore d interim
  pub outcome : IsVectorResult (hash_checks (hash_of suite) interim sent d) o

-- `IsTranscript d o`: the result of a vector that is not skipped.
abbrev pub IsTranscript : Data → VectorResult → Type 0
IsTranscript d o = IsEarlyFailure (commit_checks d) o ⊎ IsHashOutcome d o
