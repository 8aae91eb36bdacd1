-- What the inputs of a start lead to: one first state or one finding, and one of the two there is.
use Rattle.std.proofs.Common.{◌≡◌, ◌∙◌, ℕ, List, [], true, false, Option, refl, sym, ap, subst, inl, inr}
use Rattle.std.specs.Prelude.{◌⊎◌, not}
use Rattle.std.proofs.lemmas.Bool.{false≢true}
use Rattle.mls_check.specs.Signatures.{VerifyFn}
use Rattle.mls_msgs.specs.Rules.{has_rule}
use Rattle.mls_msgs.specs.declared.message.Message.TheVariants as messages
use Rattle.mls_msgs.specs.declared.profile.Profile.{Profile}
use Rattle.mls_msgs.specs.declared.rules.Rules.{Rules}
use Rattle.mls_signatures.specs.SignaturesToVerify.{start_signatures, resumption_signatures}
use Rattle.mls_signatures.specs.declared.signature_to_verify.SignatureToVerify.{SignatureToVerify}
use Rattle.mls_follow.specs.CoveredLogs.{all_good}
use Rattle.mls_follow.specs.Resumption.{IsResumed, IsResumeFault}
use Rattle.mls_follow.specs.State.{State}
use Rattle.mls_follow.specs.StoredRuns.{IsResumable, is_unreadable}
use Rattle.mls_follow.specs.declared.resume_fault.ResumeFault.{ResumeFault}
use Rattle.mls_follow.specs.declared.resume_fault.ResumeFault.TheVariants as resumes
use Rattle.mls_follow.proofs.Answering.{one_message}
use Rattle.mls_follow.proofs.Holding.{IsSteady, start_steady}
use Rattle.mls_follow.proofs.Resumable.{followers_resumable, resumed_resumable}
use Rattle.mls_follow.proofs.StoredRuns.{resumed_steady, resumption_valid}
use Rattle.mls_follow.proofs.StrictnessKept.{starts_strict}
use Rattle.mls_follow.proofs.Validity.{start_valid}
use Rattle.mls_start.specs.Finding.{is_valid}
use Rattle.mls_start.specs.FindingLaws.{AreAlike, FindingIsUnique, FindingExists, FirstStateIsUnique, FirstStateOrFindingExists, FirstStatesAreStrict, FirstStatesAreValid}
use Rattle.mls_start.specs.Inputs.{Inputs, OfInfo, OfState}
use Rattle.mls_start.specs.StartFindings.{IsStarted, IsFirstState, IsStartFinding, IsStateFinding, IsFindingOf, Declines, Refuses, is_refusal, started_of}
use Rattle.mls_start.specs.StartSignatures.{StartsWithSignatures, StartsWith}
use Rattle.mls_start.specs.declared.finding.Finding.{Finding}
use Rattle.mls_start.specs.declared.finding.Finding.TheVariants.{ContextUnreadable, InfoUnreadable, NotGroupInfo, TreeUnreadable, UnsupportedVersion, UnsupportedSuite, RequirementsUnreadable, TreeRefused, MembersRefused, TreeNotStrict, StartRefused, StateRefused, StateNotStrict, TreeValid, Starts}
use Rattle.mls_start.specs.declared.finding.Started.{Started}
use Rattle.mls_start.proofs.AddedRules.{added_valid, added_steady, added_resumable, added_asked}
use Rattle.mls_start.proofs.FindingsExist.{begun}
use Rattle.mls_start.proofs.FindingsOnce.{one_info, one_start_finding, one_started, not_supplied}
use Rattle.mls_start.proofs.ResumedWith.{one_resumed_with, one_state_finding, resumed_with_or_not, resumed_with_strict}

-- ---- one state or one finding

pub one_first : FirstStateIsUnique
one_first G (OfInfo asked profile info tree) s t a b = one_started asked profile G info tree s t a b
one_first G (OfState asked bytes) s t a b = one_resumed_with asked G bytes s t a b

pub one_finding : FindingIsUnique
one_finding G (OfInfo asked profile info tree) f g a b = one_start_finding asked profile G info tree f g a b
one_finding G (OfState asked bytes) f g a b = one_state_finding asked G bytes f g a b

pub alike_declines : (G : VerifyFn) (i : Inputs) (f g : Finding) → Declines G i f → Declines G i g → AreAlike f g
alike_declines G i f g a b = one_finding G i f g a.found b.found

-- the finding of a state in which a follower starts or resumes
starts_found : (G : VerifyFn) (i : Inputs) (s : State) → IsFirstState G i s → IsFindingOf G i (Starts (started_of s))
starts_found G (OfInfo asked profile info tree) s h = (s, h, refl)
starts_found G (OfState asked bytes) s h = (s, h, refl)

alike_starts : (f : Finding) (k : Started) → AreAlike f (Starts k) → is_valid f ≡ true
alike_starts (Starts x) k h = refl
alike_starts (TreeValid x) k h = refl
alike_starts (ContextUnreadable x) k h = absurd cc
alike_starts (InfoUnreadable x) k h = absurd cc
alike_starts NotGroupInfo k h = absurd cc
alike_starts (TreeUnreadable x) k h = absurd cc
alike_starts UnsupportedVersion k h = absurd cc
alike_starts UnsupportedSuite k h = absurd cc
alike_starts RequirementsUnreadable k h = absurd cc
alike_starts (TreeRefused x) k h = absurd cc
alike_starts (MembersRefused x) k h = absurd cc
alike_starts (TreeNotStrict x) k h = absurd cc
alike_starts (StartRefused x) k h = absurd cc
alike_starts (StateRefused x) k h = absurd cc
alike_starts (StateNotStrict x) k h = absurd cc

pub first_or_declines : (G : VerifyFn) (i : Inputs) (f : Finding) (s : State) → Declines G i f → IsFirstState G i s → ⊥
first_or_declines G i f s d h =
    false≢true (sym d.not_valid ∙ alike_starts f (started_of s) (one_finding G i f (Starts (started_of s)) d.found (starts_found G i s h)))

pub first_or_declined : FirstStateOrFindingExists
first_or_declined G (OfInfo asked profile info tree) =
    elim (begun asked profile G info tree) [
      | inl s ↦ inl (s.0, s.1)
      | inr f ↦ inr (f.0, record { found = f.1; not_valid = f.2 })
    ]
first_or_declined G (OfState asked bytes) =
    elim (resumed_with_or_not asked G bytes) [
      | inl s ↦ inl (s.0, s.1)
      | inr f ↦ inr (f.0, record { found = f.1; not_valid = f.2 })
    ]

pub some_finding : FindingExists
some_finding G i =
    elim (first_or_declined G i) [
      | inl s ↦ (Starts (started_of s.0), starts_found G i s.0 s.1)
      | inr f ↦ (f.0, f.1.found)
    ]

-- ---- inputs from which a follower starts or resumes, each signature being good

-- a file from which a follower resumes can be read
readable-fault : (bytes : List ℕ) (s : State) → IsResumed all_good bytes s → (G : VerifyFn) (fault : ResumeFault) → IsResumeFault G bytes fault
    → is_unreadable fault ≡ false
readable-fault bytes s h G (resumes.Unreadable cause) f =
    absurd (f h.intact.file.file h.tree (record {
      encoded = h.intact.file.encoded;
      bounded = h.intact.bounded;
      tree = rw h.intact.file.state h.intact.tree;
    }))
readable-fault bytes s h G resumes.ChecksumDiffers f = refl
readable-fault bytes s h G resumes.UnsupportedVersion f = refl
readable-fault bytes s h G resumes.UnsupportedSuite f = refl
readable-fault bytes s h G resumes.RequirementsUnreadable f = refl
readable-fault bytes s h G (resumes.Tree fault) f = refl
readable-fault bytes s h G (resumes.Member fault) f = refl
readable-fault bytes s h G resumes.InterimLength f = refl
readable-fault bytes s h G (resumes.KnownInvalid n) f = refl
readable-fault bytes s h G (resumes.AddedInvalid n) f = refl
readable-fault bytes s h G (resumes.Strict fault) f = refl
readable-fault bytes s h G (resumes.KnownStrict n) f = refl
readable-fault bytes s h G resumes.OutOfMemory f = refl

-- of what can be read only that a start is refused
start-refusal : (asked : Rules) (profile : Profile) (info : List ℕ) (tree : Option (List ℕ)) (s : State) → IsStarted asked profile all_good info tree s
    → (G : VerifyFn) (f : Finding) → IsStartFinding asked profile G info tree f → is_valid f ≡ false → is_refusal f ≡ true
start-refusal asked profile info tree s h G (StartRefused fault) found other = refl
start-refusal asked profile info tree s h G (InfoUnreadable fault) found other = absurd (found (messages.GroupInfo h.info) h.is_read.is_info)
start-refusal asked profile info tree s h G NotGroupInfo found not =
    absurd (found.2 h.info (one_message found.0 (messages.GroupInfo h.info) info found.1 h.is_read.is_info))
start-refusal asked profile info tree s h G (TreeUnreadable fault) found other = absurd (not_supplied tree h.supplied found.2 h.is_read.is_supplied)
start-refusal asked profile info tree s h G (Starts started) found other = absurd (false≢true (sym other))
start-refusal asked profile info tree s h G _ found other = absurd found

-- of a file that can be read only that a resumption is refused, or the strict rules
state-refusal : (asked : Rules) (bytes : List ℕ) (s : State) → IsResumed all_good bytes s → (G : VerifyFn) (f : Finding) → IsStateFinding asked G bytes f
    → is_valid f ≡ false → is_refusal f ≡ true
state-refusal asked bytes s h G (StateRefused fault) found other = ap not (readable-fault bytes s h G fault found.1)
state-refusal asked bytes s h G (StateNotStrict refused) found other = refl
state-refusal asked bytes s h G (Starts started) found other = absurd (false≢true (sym other))
state-refusal asked bytes s h G _ found other = absurd found

pub declines-refuses : (G : VerifyFn) (i : Inputs) (s : State) (f : Finding) → IsFirstState all_good i s → Declines G i f → Refuses G i f
declines-refuses G (OfInfo asked profile info tree) s f h d =
    record { found = d.found; refuses = start-refusal asked profile info tree s h G f d.found d.not_valid }
declines-refuses G (OfState asked bytes) s f h d =
    record { found = d.found; refuses = state-refusal asked bytes h.resumed h.is_resumed G f d.found d.not_valid }

pub first_or_refused : (G : VerifyFn) (i : Inputs) (s : State) → IsFirstState all_good i s
    → ((t : State) × IsFirstState G i t) ⊎ ((f : Finding) × Refuses G i f)
first_or_refused G i s h =
    elim (first_or_declined G i) [
      | inl t ↦ inl t
      | inr f ↦ inr (f.0, declines-refuses G i s f.0 h f.1)
    ]

refusal-not_valid : (f : Finding) → is_refusal f ≡ true → is_valid f ≡ false
refusal-not_valid (TreeValid hash) h = absurd (false≢true h)
refusal-not_valid (Starts started) h = absurd (false≢true h)
refusal-not_valid _ h = refl

pub first_or_refuses : (G : VerifyFn) (i : Inputs) (s : State) (f : Finding) → IsFirstState G i s → Refuses G i f → ⊥
first_or_refuses G i s f a b =
    first_or_declines G i f s (record { found = b.found; not_valid = refusal-not_valid f b.refuses }) a

-- a refusal is of an input that can be read, so of two that are alike
alike_refusals : (f g : Finding) → AreAlike f g → is_refusal f ≡ true → f ≡ g
alike_refusals (ContextUnreadable x) (ContextUnreadable y) h r = absurd (false≢true r)
alike_refusals (InfoUnreadable x) (InfoUnreadable y) h r = absurd (false≢true r)
alike_refusals (TreeUnreadable x) (TreeUnreadable y) h r = absurd (false≢true r)
alike_refusals (StateRefused x) (StateRefused y) (inl same) r = ap StateRefused same
alike_refusals (StateRefused x) (StateRefused y) (inr unreadable) r = absurd (false≢true (sym (ap not unreadable.0) ∙ r))
alike_refusals f g h r = h

pub one_refusal : (G : VerifyFn) (i : Inputs) (f g : Finding) → Refuses G i f → Refuses G i g → f ≡ g
one_refusal G i f g a b = alike_refusals f g (one_finding G i f g a.found b.found) a.refuses

-- ---- the signatures of a start

started-with : (asked : Rules) (profile : Profile) (info : List ℕ) (tree : Option (List ℕ)) (s : State) (ws : List SignatureToVerify)
    → StartsWithSignatures asked profile info tree s ws → IsStarted asked profile all_good info tree s
started-with asked profile info tree s ws h = record { info = h.info; supplied = h.supplied; is_read = h.is_read; start = h.has_signatures.start }

pub starts_first : (i : Inputs) (s : State) (ws : List SignatureToVerify) → StartsWith i s ws → IsFirstState all_good i s
starts_first (OfInfo asked profile info tree) s ws h = started-with asked profile info tree s ws h
starts_first (OfState asked bytes) s ws h = h.resumed

pub one_list : (i : Inputs) (s t : State) (ws vs : List SignatureToVerify) → StartsWith i s ws → StartsWith i t vs → ws ≡ vs
one_list (OfInfo asked profile info tree) s t ws vs a b =
    let one = one_info profile info a.info b.info a.is_read.is_info b.is_read.is_info in
    let state =
    one_started asked profile all_good info tree s t (started-with asked profile info tree s ws a) (started-with asked profile info tree t vs b) in
    a.has_signatures.needed_is ∙ (λ k. start_signatures (one k) (state k).tree) ∙ sym b.has_signatures.needed_is
one_list (OfState asked bytes) s t ws vs a b =
    let state = one_resumed_with asked all_good bytes s t a.resumed b.resumed in
    a.signatures_are ∙ ap (λ (u : State). resumption_signatures u.context u.tree u.known) state ∙ sym b.signatures_are

pub first_starts : (i : Inputs) (s : State) → IsFirstState all_good i s → (ws : List SignatureToVerify) × StartsWith i s ws
first_starts (OfInfo asked profile info tree) s h = (
  start_signatures h.info s.tree,
  record { info = h.info; supplied = h.supplied; is_read = h.is_read; has_signatures = record { start = h.start; needed_is = refl } },
)
first_starts (OfState asked bytes) s h = (resumption_signatures s.context s.tree s.known, record { resumed = h; signatures_are = refl })

-- ---- what holds of a first state

pub first_valid : FirstStatesAreValid
first_valid G (OfInfo asked profile info tree) s h = start_valid asked profile G h.info h.supplied s h.start
first_valid G (OfState asked bytes) s h = added_valid asked h.resumed s h.is_added G (resumption_valid G bytes h.resumed h.is_resumed)

pub first_steady : (G : VerifyFn) (i : Inputs) (s : State) → IsFirstState G i s → IsSteady s
first_steady G (OfInfo asked profile info tree) s h = start_steady asked profile G h.info h.supplied s h.start
first_steady G (OfState asked bytes) s h = added_steady asked h.resumed s h.is_added (resumed_steady G bytes h.resumed h.is_resumed)

pub first_resumable : (G : VerifyFn) (i : Inputs) (s : State) → IsFirstState G i s → IsResumable G s
first_resumable G (OfInfo asked profile info tree) s h = followers_resumable G s s [] (inl (asked, profile, h.info, h.supplied, h.start)) refl
first_resumable G (OfState asked bytes) s h = added_resumable asked h.resumed s h.is_added G (resumed_resumable G bytes h.resumed h.is_resumed)

pub first_strict : FirstStatesAreStrict
first_strict G (OfInfo asked profile info tree) s h = (
  λ n has. ap (λ (t : State). has_rule t.rules n) h.start.state ∙ has,
  starts_strict asked profile G h.info h.supplied s h.start,
)
first_strict G (OfState asked bytes) s h = (added_asked asked h.resumed s h.is_added, resumed_with_strict asked G bytes s h)

-- that a follower starts or resumes in the state is what is found
pub first_found : (G : VerifyFn) (i : Inputs) (s : State) (found : Finding) → IsFirstState G i s → found ≡ Starts (started_of s) → IsFindingOf G i found
first_found G (OfInfo asked profile info tree) s found h e = subst (IsStartFinding asked profile G info tree) (sym e) (s, h, refl)
first_found G (OfState asked bytes) s found h e = subst (IsStateFinding asked G bytes) (sym e) (s, h, refl)
