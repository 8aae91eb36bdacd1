-- Transcript hashes (RFC 9420, 8.2). H is the hash function of the cipher suite. Used by contracts.
use Rattle.std.specs.Prelude.{ℕ, List, ◌++◌, Option, Some, None, option_map}
use Rattle.mls_wire.specs.Encoding.{vector}
use Rattle.mls_msgs.specs.Tbs.{confirmed_input}
use Rattle.mls_msgs.specs.declared.authenticated.AuthenticatedParts.{AuthenticatedParts}

-- `confirmed_hash H interim a` is the confirmed transcript hash after a commit: the hash of the interim one before it,
-- followed by ConfirmedTranscriptHashInput (RFC 9420, 8.2).
unfoldable pub confirmed_hash : (List ℕ → List ℕ) → List ℕ → AuthenticatedParts → Option (List ℕ)
confirmed_hash H interim a = option_map (λ input. H (interim ++ input)) (confirmed_input a)

-- `interim_hash H confirmed tag` is the interim transcript hash: the hash of the confirmed one, followed by the
-- confirmation tag (RFC 9420, 8.2). `None` without a tag.
unfoldable pub interim_hash : (List ℕ → List ℕ) → List ℕ → Option (List ℕ) → Option (List ℕ)
interim_hash H confirmed None = None
interim_hash H confirmed (Some tag) = option_map (λ input. H (confirmed ++ input)) (vector tag)
