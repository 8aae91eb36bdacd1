-- A checker that accepts the signatures that a start and a log want answers them as one that accepts every signature.
use Rattle.std.proofs.Common.{◌≡◌, ◌∙◌, ℕ, ◌+◌, List, [], ◌∷◌, ◌++◌, true, Option, Some, None, Result, Ok, Err, refl, sym, ap, subst, inl, inr}
use Rattle.std.specs.Prelude.{map, codes, option_map}
use Rattle.std.proofs.lemmas.List.Elements.{All-nil, All-cons, All-head, All-tail}
use Rattle.std.proofs.lemmas.Option.{none-some, same_Some}
use Rattle.sha2.specs.Sha256.{sha256}
use Rattle.mls_check.specs.Receipts.{receipt_input, is_listed, listed}
use Rattle.mls_check.specs.ReceiptSets.{has_digest}
use Rattle.mls_nodes.specs.declared.leaf.LeafNode.{LeafNode}
use Rattle.mls_nodes.specs.declared.required_capabilities.RequiredCapabilities.{RequiredCapabilities}
use Rattle.mls_nodes.specs.LeafNodeTBS.{leaf_tbs}
use Rattle.mls_tree.specs.RatchetTree.{RatchetTree}
use Rattle.mls_tree.specs.Tree.{Tree, leaf, branch, leaf_count}
use Rattle.mls_check.specs.LeafValidation.{member_rule, is_leaf_signed, all_leaves}
use Rattle.mls_check.specs.Signatures.{VerifyFn, sign_content, is_good, is_signed_text}
use Rattle.mls_check.proofs.Elements.{and-left, and-right}
use Rattle.mls_msgs.specs.declared.group_info.GroupInfo.{GroupInfo}
use Rattle.mls_msgs.specs.declared.message.Message.{Message}
use Rattle.mls_apply.specs.RuleLists.{first_failing}
use Rattle.mls_apply.specs.declared.refusal.Refusal.{Refusal}
use Rattle.mls_follow.specs.State.{State, EncodesMessage}
use Rattle.mls_follow.specs.StrictRules.{all_rules}
use Rattle.mls_follow.specs.Acceptance.{IsFirstRefusal}
use Rattle.mls_follow.specs.Start.{IsStart}
use Rattle.mls_follow.specs.Runs.{Call, IsTransition, IsAnswer}
use Rattle.mls_follow.specs.Validity.{IsValidState}
use Rattle.mls_signatures.specs.Agreement.{Agrees, AgreeOn}
use Rattle.mls_signatures.specs.SignaturesToVerify.{sign_content_signatures, labeled_signatures, leaf_signatures, tree_signatures, start_signatures}
use Rattle.mls_follow.specs.MessageSignatures.{AgreeOnStart, message_signatures_in_state, state_signatures}
use Rattle.mls_follow.specs.CoveredLogs.{all_good, Covers, CoversStart, CoversMessage, CoversLog, IsAnsweredRun, CoveredStartsAreTrusted, CoveredFaultsAreTrusted, CoveredAnswersAreTrusted, CoveredRunsAreTrusted, CoveredLogsAreTrusted, ReceiptsCover, AnsweredRunsAreOne}
use Rattle.mls_follow.specs.declared.taken.Taken.{Taken}
use Rattle.mls_signatures.specs.declared.signature_to_verify.SignatureToVerify.{SignatureToVerify}
use Rattle.mls_follow.proofs.Answering.{only_answer}
use Rattle.mls_follow.proofs.Validity.{run_valid, start_valid}
use Rattle.mls_follow.proofs.MessageAgreement.{decide_refusals}
use Rattle.mls_follow.proofs.StartAgreement.{decide_starts, decide_faults}

-- ---- meanings that answer a list alike

flipped : (G K : VerifyFn) (qs : List SignatureToVerify) → AgreeOn G K qs → AgreeOn K G qs
flipped G K [] h = All-nil (Agrees K G)
flipped G K (q ∷ qs) h =
    All-cons (Agrees K G) q qs (sym (All-head (Agrees G K) q qs h)) (flipped G K qs (All-tail (Agrees G K) q qs h))

joined : (G K : VerifyFn) (xs ys : List SignatureToVerify) → AgreeOn G K xs → AgreeOn G K ys → AgreeOn G K (xs ++ ys)
joined G K [] ys a b = b
joined G K (x ∷ xs) ys a b =
    All-cons (Agrees G K) x (xs ++ ys) (All-head (Agrees G K) x xs a) (joined G K xs ys (All-tail (Agrees G K) x xs a) b)

-- what is good by R is so where every signature is
covered : (R : VerifyFn) (qs : List SignatureToVerify) → Covers R qs → AgreeOn R all_good qs
covered R qs h = h

-- ---- the leaves of a tree whose leaves are members

module _ (R : VerifyFn) where
  good_content : (suite : ℕ) (key signature : List ℕ) (o : Option (List ℕ)) → is_good R suite key signature o ≡ true
      → AgreeOn R all_good (sign_content_signatures suite key signature o)
  good_content suite key signature None e = All-nil (Agrees R all_good)
  good_content suite key signature (Some content) e =
      All-cons (Agrees R all_good) (record { suite = suite; key = key; content = content; signature = signature }) [] e (All-nil (Agrees R all_good))

  good_text : (suite : ℕ) (key label : List ℕ) (o : Option (List ℕ)) (signature : List ℕ) → is_signed_text R suite key label o signature ≡ true
      → AgreeOn R all_good (labeled_signatures suite key label o signature)
  good_text suite key label None signature e = All-nil (Agrees R all_good)
  good_text suite key label (Some tbs) signature e = good_content suite key signature (sign_content label tbs) e

  module _ (suite : ℕ) (group_id : List ℕ) where
    good_leaf : (i : ℕ) (x : LeafNode) → is_leaf_signed R suite group_id i x ≡ true → AgreeOn R all_good (leaf_signatures suite group_id i x)
    unfolding is_leaf_signed
    good_leaf i x e = good_text suite x.signature_key (codes "MLS 1.0 LeafNodeTBS") (leaf_tbs x group_id i) x.signature e

    good_tree : (required : RequiredCapabilities) (whole : Tree) (first : ℕ) (t : Tree)
        → all_leaves (member_rule R suite group_id required whole 5) first t ≡ true
        → AgreeOn R all_good (tree_signatures suite group_id first t)
    unfolding member_rule
    good_tree required whole first (leaf None) e = All-nil (Agrees R all_good)
    good_tree required whole first (leaf (Some x)) e = good_leaf first x e
    good_tree required whole first (branch l n r) e =
        let test = member_rule R suite group_id required whole 5 in
        let left = all_leaves test first l in
        let right = all_leaves test (first + leaf_count l) r in
        joined R all_good (tree_signatures suite group_id first l) (tree_signatures suite group_id (first + leaf_count l) r)
        (good_tree required whole first l (and-left left right e)) (good_tree required whole (first + leaf_count l) r (and-right left right e))

-- the leaves of a valid state's tree are signed, and so each of their signatures that a rule can ask about is good
state_covered : (R : VerifyFn) (s : State) → IsValidState R s → AgreeOn R all_good (state_signatures s)
state_covered R s v = good_tree R s.context.cipher_suite s.context.group_id v.required s.tree 0 s.tree (v.members.rules 5)

-- ---- messages

module _ (G K : VerifyFn) (s : State) (bytes : List ℕ)
    (same : (required : RequiredCapabilities) (m : Message) → EncodesMessage s.profile m bytes → first_failing (all_rules G s required m) ≡ first_failing (all_rules K s required m)) where
  refused_alike : (e : Refusal) → IsFirstRefusal G s bytes e → IsFirstRefusal K s bytes e
  refused_alike e (inl none) = inl none
  refused_alike e (inr f) =
      inr (record {
        message = f.message;
        encoded = f.encoded;
        required = f.required;
        requires = f.requires;
        fails = sym (same f.required f.message f.encoded) ∙ f.fails;
      })

  takes_alike : (answer : Result Taken Refusal) (new : State) → IsTransition G s bytes answer new → IsTransition K s bytes answer new
  takes_alike (Ok taken) new h = (
    record {
      message = h.0.message;
      encoded = h.0.encoded;
      required = h.0.required;
      requires = h.0.requires;
      rules_hold = sym (same h.0.required h.0.message h.0.encoded) ∙ h.0.rules_hold;
    },
    h.1,
  )
  takes_alike (Err e) new h = (h.0, λ own. refused_alike e (h.1 own))

  answers_alike : (answer : Result Taken Refusal) (new : State) → IsAnswer G s bytes answer new → IsAnswer K s bytes answer new
  answers_alike answer new h = record { takes = takes_alike answer new h.takes; memory = h.memory }

module _ (R : VerifyFn) (s : State) (bytes : List ℕ) (v : IsValidState R s) (covers : CoversMessage R s bytes) where
  pub refusals_alike : (required : RequiredCapabilities) (m : Message) → EncodesMessage s.profile m bytes
      → first_failing (all_rules R s required m) ≡ first_failing (all_rules all_good s required m)
  refusals_alike required m encoded =
      decide_refusals R all_good s required m
      (covered R (message_signatures_in_state s m) (covers (message_signatures_in_state s m) (record { message = m; encoded = encoded; same = refl }))) (state_covered R s v)

  to_trusted : (answer : Result Taken Refusal) (new : State) → IsAnswer R s bytes answer new → IsAnswer all_good s bytes answer new
  to_trusted = answers_alike R all_good s bytes refusals_alike

  from_trusted : (answer : Result Taken Refusal) (new : State) → IsAnswer all_good s bytes answer new → IsAnswer R s bytes answer new
  from_trusted = answers_alike all_good R s bytes (λ required m encoded. sym (refusals_alike required m encoded))

pub covered_answers : CoveredAnswersAreTrusted
covered_answers R s bytes answer new v covers = (to_trusted R s bytes v covers answer new, from_trusted R s bytes v covers answer new)

-- ---- runs

still_valid : (R : VerifyFn) (s mid : State) (call : Call) → IsValidState R s → IsAnswer R s call.bytes call.answer mid → IsValidState R mid
still_valid R s mid call v h = run_valid R s (call ∷ []) mid v (mid, h.takes, refl)

run_to_trusted : (R : VerifyFn) (s : State) (calls : List Call) (new : State) → IsValidState R s → CoversLog R s (map (λ call. call.bytes) calls)
    → IsAnsweredRun R s calls new → IsAnsweredRun all_good s calls new
run_to_trusted R s [] new v covers h = h
run_to_trusted R s (call ∷ calls) new v covers h =
    let trusted = to_trusted R s call.bytes v covers.0 call.answer h.0 h.1 in
    (h.0, trusted, run_to_trusted R h.0 calls new (still_valid R s h.0 call v h.1) (covers.1 call.answer h.0 trusted) h.2)

run_from_trusted : (R : VerifyFn) (s : State) (calls : List Call) (new : State) → IsValidState R s → CoversLog R s (map (λ call. call.bytes) calls)
    → IsAnsweredRun all_good s calls new → IsAnsweredRun R s calls new
run_from_trusted R s [] new v covers h = h
run_from_trusted R s (call ∷ calls) new v covers h =
    let answer = from_trusted R s call.bytes v covers.0 call.answer h.0 h.1 in
    (h.0, answer, run_from_trusted R h.0 calls new (still_valid R s h.0 call v answer) (covers.1 call.answer h.0 h.1) h.2)

pub covered_runs : CoveredRunsAreTrusted
covered_runs R s calls new v covers = (run_to_trusted R s calls new v covers, run_from_trusted R s calls new v covers)

-- ---- starts

start_covered : (R : VerifyFn) (info : GroupInfo) (supplied : Option RatchetTree) → CoversStart R info supplied → AgreeOnStart R all_good info supplied
start_covered R info supplied covers t uses = covered R (start_signatures info t.tree) (covers t uses)

start_flipped : (R : VerifyFn) (info : GroupInfo) (supplied : Option RatchetTree) → CoversStart R info supplied → AgreeOnStart all_good R info supplied
start_flipped R info supplied covers t uses = flipped R all_good (start_signatures info t.tree) (covered R (start_signatures info t.tree) (covers t uses))

pub covered_starts : CoveredStartsAreTrusted
covered_starts asked profile R info supplied s covers = (
  decide_starts asked profile R all_good info supplied s (start_covered R info supplied covers),
  decide_starts asked profile all_good R info supplied s (start_flipped R info supplied covers),
)

pub covered_faults : CoveredFaultsAreTrusted
covered_faults asked R info supplied fault covers = (
  decide_faults asked R all_good info supplied fault (start_covered R info supplied covers),
  decide_faults asked all_good R info supplied fault (start_flipped R info supplied covers),
)

-- ---- both

pub covered_logs : CoveredLogsAreTrusted
covered_logs asked profile R info supplied first last calls start log =
    let starts = covered_starts asked profile R info supplied first start in
    let valid : IsStart asked profile R info supplied first → IsValidState R first = start_valid asked profile R info supplied first in (
      λ h. (starts.0 h.0, run_to_trusted R first calls last (valid h.0) log h.1),
      λ h. (let s = starts.1 h.0 in (s, run_from_trusted R first calls last (valid s) log h.1)),
    )

-- ---- receipts

receipt_covers : (digests : List (List ℕ)) (digest : List ℕ) (o : Option (List ℕ)) → option_map sha256 o ≡ Some digest → has_digest digests digest ≡ true
    → is_listed digests o ≡ true
receipt_covers digests digest None e h = absurd (none-some digest e)
receipt_covers digests digest (Some input) e h =
    ap (has_digest digests) (same_Some (sha256 input) digest e) ∙ h

pub receipts_cover : ReceiptsCover
receipts_cover digests [] h = All-nil (λ (q : SignatureToVerify). listed digests q.suite q.key q.content q.signature ≡ true)
receipts_cover digests (q ∷ qs) h =
    let P : SignatureToVerify → Type 0 = λ q. (digest : List ℕ)
    × (option_map sha256 (receipt_input q.suite q.key q.content q.signature) ≡ Some digest)
    × (has_digest digests digest ≡ true) in
    let here = All-head P q qs h in
    All-cons (λ (q : SignatureToVerify). listed digests q.suite q.key q.content q.signature ≡ true) q qs
    (receipt_covers digests here.0 (receipt_input q.suite q.key q.content q.signature) here.1 here.2)
    (receipts_cover digests qs (All-tail P q qs h))

-- ---- one run

no_more : (bytes : List ℕ) (rest : List (List ℕ)) → ◌≡◌ {A = List (List ℕ)} [] (bytes ∷ rest) → ⊥
no_more bytes rest e = absurd cc

first_bytes : (a b : List ℕ) (xs ys : List (List ℕ)) → ◌≡◌ {A = List (List ℕ)} (a ∷ xs) (b ∷ ys) → (a ≡ b) × (xs ≡ ys)
first_bytes a b xs ys e = (cc, cc)

pub one_run : AnsweredRunsAreOne
one_run G s [] [] new other e h k = (refl, h ∙ sym k)
one_run G s [] (b ∷ calls) new other e h k = absurd (no_more b.bytes (map (λ call. call.bytes) calls) e)
one_run G s (a ∷ others) [] new other e h k = absurd (no_more a.bytes (map (λ call. call.bytes) others) (sym e))
one_run G s (a ∷ others) (b ∷ calls) new other e h k =
    let same = first_bytes a.bytes b.bytes (map (λ call. call.bytes) others) (map (λ call. call.bytes) calls) e in
    let here = only_answer G s b.bytes a.answer b.answer h.0 k.0 (subst (λ (bytes : List ℕ). IsAnswer G s bytes a.answer h.0) same.0 h.1) k.1 in
    let rest = one_run G k.0 others calls new other same.1 (subst (λ (t : State). IsAnsweredRun G t others new) here.1 h.2) k.2 in
    (λ i. record { bytes = same.0 i; answer = here.0 i } ∷ rest.0 i, rest.1)
