-- Whether the signature of a GroupInfo and those of a start are good, by those that a checker does not accept.
use Rattle.std.proofs.Common.{◌≡◌, ℕ, List, [], ◌∷◌, Bool, true, false, Option, Some, None, refl, subst, inl, inr}
use Rattle.std.specs.Prelude.{not, is_some, option_and_then, if◌then◌else◌}
use Rattle.std.proofs.lemmas.Bool.{cases_Bool}
use Rattle.std.proofs.lemmas.List.Elements.{All-cons, All-head, All-tail, All-nil}
use Rattle.mls_nodes.specs.declared.leaf.LeafNode.{LeafNode}
use Rattle.mls_check.specs.Signatures.{Extends, VerifyFn, is_good, is_signed_text, sign_content}
use Rattle.mls_msgs.specs.Tbs.{info_label, info_tbs}
use Rattle.mls_msgs.specs.declared.group_info.GroupInfo.{GroupInfo}
use Rattle.mls_signatures.specs.SignaturesToVerify.{info_signatures, labeled_signatures, sign_content_signatures}
use Rattle.mls_signatures.specs.declared.signature_to_verify.SignatureToVerify.{SignatureToVerify}
use Rattle.mls_follow.specs.Start.{is_info_signed}
use Rattle.mls_examine.specs.CurrentInfos.{has_content, is_signed_by}
use Rattle.mls_examine.specs.GroupInfos.{unaccepted}
use Rattle.mls_examine.specs.PackageLaws.{AcceptsEach}
use Rattle.mls_examine.specs.Packages.{is_accepted}
use Rattle.mls_examine.proofs.Accepting.{text_stays}

-- ---- lists

module _ (G : VerifyFn) where
  abbrev Accepted : SignatureToVerify → Type 0
  Accepted q = is_accepted G q ≡ true

  pub all_if_none : (qs : List SignatureToVerify) → unaccepted G qs ≡ [] → AcceptsEach G qs
  all_if_none [] h = All-nil Accepted
  all_if_none (q ∷ qs) h =
      elim (cases_Bool (is_accepted G q)) [
        | inl holds ↦ All-cons Accepted q qs holds (all_if_none qs (subst (λ (b : Bool). (if not b then q ∷ unaccepted G qs else unaccepted G qs) ≡ []) holds h))
        | inr fails ↦ let bad = rw fails at h in absurd cc
      ]

  pub none_if_all : (qs : List SignatureToVerify) → AcceptsEach G qs → unaccepted G qs ≡ []
  none_if_all [] h = refl
  none_if_all (q ∷ qs) h = rw (All-head Accepted q qs h) (none_if_all qs (All-tail Accepted q qs h))

-- what is accepted stays accepted
module _ (G K : VerifyFn) (more : Extends G K) where
  each_stays : (qs : List SignatureToVerify) → AcceptsEach G qs → AcceptsEach K qs
  each_stays [] h = All-nil (λ q. is_accepted K q ≡ true)
  each_stays (q ∷ qs) h =
      All-cons (λ p. is_accepted K p ≡ true) q qs (more q.suite q.key q.content q.signature (All-head (λ p. is_accepted G p ≡ true) q qs h))
      (each_stays qs (All-tail (λ p. is_accepted G p ≡ true) q qs h))

  pub none_stays : (qs : List SignatureToVerify) → unaccepted G qs ≡ [] → unaccepted K qs ≡ []
  none_stays qs h = none_if_all K qs (each_stays qs (all_if_none G qs h))

  -- what it accepts besides those that the other one does not
  pub covered_each : (qs : List SignatureToVerify) → AcceptsEach K (unaccepted G qs) → AcceptsEach K qs
  covered_each [] h = h
  covered_each (q ∷ qs) h =
      elim (cases_Bool (is_accepted G q)) [
        | inl holds ↦
            All-cons (λ p. is_accepted K p ≡ true) q qs (more q.suite q.key q.content q.signature holds)
            (covered_each qs (subst (λ (b : Bool). AcceptsEach K (if not b then q ∷ unaccepted G qs else unaccepted G qs)) holds h))
        | inr fails ↦
            let listed = subst (λ (b : Bool). AcceptsEach K (if not b then q ∷ unaccepted G qs else unaccepted G qs)) fails h in
            All-cons (λ p. is_accepted K p ≡ true) q qs (All-head (λ p. is_accepted K p ≡ true) q (unaccepted G qs) listed)
            (covered_each qs (All-tail (λ p. is_accepted K p ≡ true) q (unaccepted G qs) listed))
      ]

  pub signed_by_stays : (info : GroupInfo) (o : Option LeafNode) → is_signed_by G info o ≡ true → is_signed_by K info o ≡ true
  unfolding is_info_signed
  signed_by_stays info None h = h
  signed_by_stays info (Some x) h =
      text_stays G K more info.context.cipher_suite x.signature_key info_label (info_tbs info) info.signature h

-- ---- one signature

module _ (G : VerifyFn) where
  good_if_all : (suite : ℕ) (key signature : List ℕ) (c : Option (List ℕ)) → is_some c ≡ true
      → AcceptsEach G (sign_content_signatures suite key signature c) → is_good G suite key signature c ≡ true
  good_if_all suite key signature None some h = absurd cc
  good_if_all suite key signature (Some content) some h =
      All-head (λ q. is_accepted G q ≡ true) (record { suite = suite; key = key; content = content; signature = signature }) [] h

  all_if_good : (suite : ℕ) (key signature : List ℕ) (c : Option (List ℕ)) → is_good G suite key signature c ≡ true
      → AcceptsEach G (sign_content_signatures suite key signature c)
  all_if_good suite key signature None h = absurd cc
  all_if_good suite key signature (Some content) h =
      All-cons (λ q. is_accepted G q ≡ true) (record { suite = suite; key = key; content = content; signature = signature }) [] h (All-nil (λ q. is_accepted G q ≡ true))

  text_if_all : (suite : ℕ) (key label : List ℕ) (o : Option (List ℕ)) (signature : List ℕ) → is_some (option_and_then (sign_content label) o) ≡ true
      → AcceptsEach G (labeled_signatures suite key label o signature) → is_signed_text G suite key label o signature ≡ true
  text_if_all suite key label None signature some h = absurd cc
  text_if_all suite key label (Some tbs) signature some h = good_if_all suite key signature (sign_content label tbs) some h

  pub all_if_text : (suite : ℕ) (key label : List ℕ) (o : Option (List ℕ)) (signature : List ℕ) → is_signed_text G suite key label o signature ≡ true
      → AcceptsEach G (labeled_signatures suite key label o signature)
  all_if_text suite key label None signature h = absurd cc
  all_if_text suite key label (Some tbs) signature h = all_if_good suite key signature (sign_content label tbs) h

  pub signed_by_if_all : (info : GroupInfo) (o : Option LeafNode) → is_some o ≡ true → has_content info ≡ true → AcceptsEach G (info_signatures info o)
      → is_signed_by G info o ≡ true
  unfolding is_info_signed
  signed_by_if_all info None set content h = absurd cc
  signed_by_if_all info (Some x) set content h =
      text_if_all info.context.cipher_suite x.signature_key info_label (info_tbs info) info.signature content h

  pub all_if_signed_by : (info : GroupInfo) (o : Option LeafNode) → is_signed_by G info o ≡ true → AcceptsEach G (info_signatures info o)
  unfolding is_info_signed
  all_if_signed_by info None h = absurd cc
  all_if_signed_by info (Some x) h = all_if_text info.context.cipher_suite x.signature_key info_label (info_tbs info) info.signature h

  -- with some that are not accepted, it is not good
  pub unsigned_by_if_some : (info : GroupInfo) (o : Option LeafNode) → (unaccepted G (info_signatures info o) ≡ [] → ⊥) → is_signed_by G info o ≡ false
  unsigned_by_if_some info o some =
      elim (cases_Bool (is_signed_by G info o)) [
        | inl holds ↦ absurd (some (none_if_all G (info_signatures info o) (all_if_signed_by info o holds)))
        | inr fails ↦ fails
      ]

-- a signature that is listed has a content, and a content is listed
text_listed : (suite : ℕ) (key label : List ℕ) (o : Option (List ℕ)) (signature : List ℕ) → (labeled_signatures suite key label o signature ≡ [] → ⊥)
    → is_some (option_and_then (sign_content label) o) ≡ true
text_listed suite key label None signature some = absurd (some refl)
text_listed suite key label (Some tbs) signature some = go (sign_content label tbs) some
  where
    go : (c : Option (List ℕ)) → (sign_content_signatures suite key signature c ≡ [] → ⊥) → is_some c ≡ true
    go None h = absurd (h refl)
    go (Some content) h = refl

text_unlisted : (suite : ℕ) (key label : List ℕ) (o : Option (List ℕ)) (signature : List ℕ) → labeled_signatures suite key label o signature ≡ []
    → is_some (option_and_then (sign_content label) o) ≡ false
text_unlisted suite key label None signature none = refl
text_unlisted suite key label (Some tbs) signature none = go (sign_content label tbs) none
  where
    go : (c : Option (List ℕ)) → sign_content_signatures suite key signature c ≡ [] → is_some c ≡ false
    go None h = refl
    go (Some content) h = absurd cc

pub has_content_if_some : (info : GroupInfo) (o : Option LeafNode) → (info_signatures info o ≡ [] → ⊥) → has_content info ≡ true
has_content_if_some info None some = absurd (some refl)
has_content_if_some info (Some x) some = text_listed info.context.cipher_suite x.signature_key info_label (info_tbs info) info.signature some

pub no_content_if_none : (info : GroupInfo) (o : Option LeafNode) → is_some o ≡ true → info_signatures info o ≡ [] → has_content info ≡ false
no_content_if_none info None set none = absurd cc
no_content_if_none info (Some x) set none = text_unlisted info.context.cipher_suite x.signature_key info_label (info_tbs info) info.signature none

-- who has signed it has signed a content
text_content : (G : VerifyFn) (suite : ℕ) (key label : List ℕ) (o : Option (List ℕ)) (signature : List ℕ) → is_signed_text G suite key label o signature ≡ true
    → is_some (option_and_then (sign_content label) o) ≡ true
text_content G suite key label None signature h = absurd cc
text_content G suite key label (Some tbs) signature h = go (sign_content label tbs) h
  where
    go : (c : Option (List ℕ)) → is_good G suite key signature c ≡ true → is_some c ≡ true
    go None h = absurd cc
    go (Some content) h = refl

pub content_if_signed_by : (G : VerifyFn) (info : GroupInfo) (o : Option LeafNode) → is_signed_by G info o ≡ true → has_content info ≡ true
unfolding is_info_signed
content_if_signed_by G info None h = absurd cc
content_if_signed_by G info (Some x) h = text_content G info.context.cipher_suite x.signature_key info_label (info_tbs info) info.signature h
