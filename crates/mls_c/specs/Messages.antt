-- What the calls of a follower return. `f` and `g` are the follower before and after; `old` and `new` are what a buffer
-- holds before and after. Used by contracts.
use Rattle.std.specs.Prelude.{ℕ, ◌≡◌, ◌≤◌, ◌<◌, List, length, Option, Some, None, Result, Ok, Err}
use Rattle.mls_wire.specs.Limits.{input_limit}
use Rattle.mls_signatures.specs.declared.signature_to_verify.SignatureToVerify.{SignatureToVerify}
use Rattle.mls_follow.specs.Acceptance.{EncodesNoMessage}
use Rattle.mls_follow.specs.MessageHeader.{HasNoHeader, IsUnreadMessage}
use Rattle.mls_follow.specs.MessageSignatures.{AreSignaturesOf}
use Rattle.mls_follow.specs.StoredState.{EncodesState, HasNoFile}
use Rattle.mls_follow.specs.TimedAcceptance.{IsTransitionAt}
use Rattle.mls_apply.specs.declared.refusal.Refusal.{Refusal}
use Rattle.mls_apply.specs.declared.refusal.Refusal.TheVariants as refusals
use Rattle.mls_follow.specs.declared.taken.Taken.{Taken}
use Rattle.mls_follow.specs.declared.taken.Taken.TheVariants.{Proposal, Commit}
use Rattle.mls_start.specs.ReceiptBytes.{with_receipts, having_learnt}
use Rattle.mls_c.specs.declared.group_follower.GroupFollower.{GroupFollower}
use Rattle.mls_c.specs.declared.judgement.Judgement.{Judgement}
use Rattle.mls_c.specs.Buffers.{put, IsPut}
use Rattle.mls_c.specs.Followers.{state_in, meaning_in, AreWhole}
use Rattle.mls_c.specs.Numbers.{judgement_of, not_judged, out_of_memory, buffer_too_small, bad_receipts, too_long}
use Rattle.mls_c.specs.Queries.{query_records}

-- `Moves held new P`: a handle with a follower `f` has a follower `g` afterwards, and `P f g` holds. A handle without one
-- has none.
abbrev pub Moves : Option GroupFollower → Option GroupFollower → (GroupFollower → GroupFollower → Type 0) → Type 0
Moves None new P = new ≡ None
Moves (Some f) new P = (g : GroupFollower) × (new ≡ Some g) × P f g

-- ---- a query

-- `PutsQuery f message old new needed number`: the records of the signatures of the message that are not known to be
-- good were put into the buffer; or the bytes are no message, with the number of that refusal.
pub data PutsQuery (f : GroupFollower) (message old new : List ℕ) (needed number : ℕ) : Type 0 where
  runs_out : number ≡ out_of_memory → new ≡ old → needed ≡ 0 → PutsQuery f message old new needed number
  malformed : EncodesNoMessage (state_in f).profile message → number ≡ 1 → new ≡ old → needed ≡ 0
      → PutsQuery f message old new needed number
  lists : (signatures : List SignatureToVerify) → AreSignaturesOf (state_in f) message signatures
      → IsPut (query_records (meaning_in f) signatures) old new needed number
      → PutsQuery f message old new needed number

-- ---- learning

-- `Learns f g receipts number`: the follower has learnt the receipts, and its state is unchanged. If an allocation failed,
-- it has learnt the first ones.
pub data Learns (f g : GroupFollower) (receipts : List ℕ) (number : ℕ) : Type 0 where
  not_whole : (AreWhole receipts → ⊥) → number ≡ bad_receipts → g ≡ f → Learns f g receipts number
  runs_out : (count : ℕ) → AreWhole receipts → number ≡ out_of_memory
      → meaning_in g ≡ with_receipts count (meaning_in f) receipts → state_in g ≡ state_in f
      → Learns f g receipts number
  learns : AreWhole receipts → number ≡ 0 → meaning_in g ≡ having_learnt (meaning_in f) receipts
      → state_in g ≡ state_in f → Learns f g receipts number

-- ---- judging

-- `reference_size` is the size of a buffer for each reference of a proposal: the longest hash of a cipher suite has 64
-- bytes (RFC 9420, 5.2 and 17.1).
abbrev pub reference_size : ℕ
reference_size = 64

-- `put_reference answer old` is the buffer `old` with the reference of a proposal that was accepted at its front.
abbrev pub put_reference : Result Taken Refusal → List ℕ → List ℕ
put_reference (Ok (Proposal reference)) old = put reference old
put_reference (Ok (Commit epoch)) old = old
put_reference (Err e) old = old

-- `ProcessesMessage now f g message answer`: the follower processed the message at the time `now`, if one is passed, with
-- this result (`Follower::take_at`). Bytes that are too long or have no header of a message, and messages that are not read,
-- are refused even without memory.
pub record ProcessesMessage (now : Option ℕ) (f g : GroupFollower) (message : List ℕ) (answer : Result Taken Refusal)
    : Type 0 where
  pub takes : IsTransitionAt now (meaning_in f) (state_in f) message answer (state_in g)
  pub meaning : meaning_in g ≡ meaning_in f
  pub limit : input_limit < length message → answer ≡ Err refusals.Malformed
  pub header : HasNoHeader message → answer ≡ Err refusals.Malformed
  pub unread : IsUnreadMessage message → answer ≡ Err refusals.NotPublic

-- `Judges now f g message old new j`: the follower processed the message at the time `now`, if one is passed, and the
-- judgement is its answer. If the buffer is too small for a reference, the message was not processed.
pub data Judges (now : Option ℕ) (f g : GroupFollower) (message old new : List ℕ) (j : Judgement) : Type 0 where
  too_small : length old < reference_size → j ≡ not_judged buffer_too_small → g ≡ f → new ≡ old
      → Judges now f g message old new j
  judges : (answer : Result Taken Refusal) → reference_size ≤ length old → ProcessesMessage now f g message answer
      → j ≡ judgement_of answer → new ≡ put_reference answer old → Judges now f g message old new j

-- ---- the state

-- `PutsStateFile f old new needed number`: the file of the state was put into the buffer, or the state has none.
pub data PutsStateFile (f : GroupFollower) (old new : List ℕ) (needed number : ℕ) : Type 0 where
  runs_out : number ≡ out_of_memory → new ≡ old → needed ≡ 0 → PutsStateFile f old new needed number
  over : HasNoFile (state_in f) → number ≡ too_long → new ≡ old → needed ≡ 0 → PutsStateFile f old new needed number
  stores : (bytes : List ℕ) → EncodesState (state_in f) bytes → IsPut bytes old new needed number
      → PutsStateFile f old new needed number
