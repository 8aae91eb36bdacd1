-- A commit of one Add is acceptable if and only if the group can add the client.
use Rattle.std.proofs.Common.{◌≡◌, ◌∙◌, ℕ, List, [], ◌∷◌, ◌++◌, Bool, true, false, Option, Some, None, refl, sym, ap, inl, inr}
use Rattle.std.specs.Prelude.{◌||◌, not, option_map, option_and_then, is_some}
use Rattle.std.proofs.lemmas.Option.{none-some}
use Rattle.mls_nodes.proofs.RequiredOnce.{Requires-one}
use Rattle.mls_hash.specs.SuiteHash.{hash_of}
use Rattle.mls_check.specs.Signatures.{VerifyFn}
use Rattle.mls_msgs.specs.Message.{message}
use Rattle.mls_msgs.specs.Rules.{has_rule}
use Rattle.mls_msgs.specs.declared.framed_content.Content.{Content}
use Rattle.mls_msgs.specs.declared.framed_content.Content.TheVariants as contents
use Rattle.mls_msgs.specs.declared.framed_content.Sender.{Sender}
use Rattle.mls_msgs.specs.declared.framed_content.Sender.TheVariants as senders
use Rattle.mls_msgs.specs.declared.key_package.KeyPackage.{KeyPackage}
use Rattle.mls_msgs.specs.declared.message.Message.{Message}
use Rattle.mls_msgs.specs.declared.message.Message.TheVariants as messages
use Rattle.mls_msgs.specs.declared.strict_rule.StrictRule.{StrictRule}
use Rattle.mls_msgs.specs.declared.strict_rule.StrictRule.TheVariants as rules
use Rattle.mls_strict.specs.ContentForms.{content_refusal, package_refusal}
use Rattle.mls_strict.specs.LeafForms.{supports_all}
use Rattle.mls_apply.specs.AppliedList.{AppliedTree}
use Rattle.mls_apply.specs.PackageRefs.{package_ref}
use Rattle.mls_apply.specs.RuleLists.{Rule, rule, first_failing}
use Rattle.mls_apply.specs.declared.refusal.Refusal.{Refusal}
use Rattle.mls_apply.specs.declared.refusal.Refusal.TheVariants as refusals
use Rattle.mls_apply.proofs.Encodings.{put_back}
use Rattle.mls_apply.proofs.RuleLists.{AreKept, first_failing-left, first_failing-right, passed_both}
use Rattle.mls_follow.specs.Acceptance.{FailsRule, IsAcceptable}
use Rattle.mls_follow.specs.LoneAdd.{lone_add_rules, with_client}
use Rattle.mls_follow.specs.MessageRules.{changed_tree, message_rules}
use Rattle.mls_follow.specs.NextState.{after_content, after_sender, after_tree, next, with_list}
use Rattle.mls_follow.specs.Runs.{IsWellFormed}
use Rattle.mls_follow.specs.State.{State}
use Rattle.mls_follow.specs.StrictRules as follow
use Rattle.mls_follow.specs.StrictRulesInternal.{late_refusal}
use Rattle.mls_follow.specs.Validity.{IsValidState}
use Rattle.mls_follow.proofs.Advancing.{Leads, next_there}
use Rattle.mls_follow.proofs.Answering.{one_message}
use Rattle.mls_follow.proofs.Encoded.{commit_encoded}
use Rattle.mls_follow.proofs.LoneAdding.{lone_outcome}
use Rattle.mls_follow.proofs.StrictLists.{content_unmet, plain_failed, plain_kept, strict_word}
use Rattle.mls_examine.specs.AddablePackages.{IsAddable, IsUnaddable, addable_fault, fit_rules, form_rules_in, group_package_refusal, unfit_add_rules}
use Rattle.mls_examine.specs.GroupInternal.{with_support}
use Rattle.mls_examine.specs.OneAddCommits.{AddableIsAcceptable, CommitsOneAdd, SupportsTypes, UnaddableIsRefused, UnsignedIsRefused, commit_refusal_of, unsigned_refusal}
use Rattle.mls_examine.specs.Packages.{is_signed, strict_rules}
use Rattle.mls_examine.specs.declared.unfit.Unfit.{Unfit}
use Rattle.mls_examine.specs.declared.unfit.Unfit.TheVariants as unfit
use Rattle.mls_examine.proofs.AddableParts.{FitTree, fit_tree}
use Rattle.mls_examine.proofs.ExaminedPackages.{each_reading, reason_is_in}
use Rattle.mls_examine.proofs.GroupStrict.{refusal_in_group}
use Rattle.mls_examine.proofs.OneAddLeaves.{supported_by_client}
use Rattle.mls_examine.proofs.OneAddRules.{accepted_add, is_referenced, item, profile_alike, refused_add, signed_if_valid}
use Rattle.mls_examine.proofs.OneAddStrict.{asked_alike, content_is_package, late_is_supported, lone_commit, step_supports}

-- ---- lists of rules

-- the reasons of two lists, one after the other
joined_alike : (xs ys : List (Rule Refusal)) (us vs : List (Rule Unfit)) → first_failing xs ≡ option_map commit_refusal_of (first_failing us)
    → (first_failing us ≡ None → first_failing ys ≡ option_map commit_refusal_of (first_failing vs))
    → first_failing (xs ++ ys) ≡ option_map commit_refusal_of (first_failing (us ++ vs))
joined_alike xs ys us vs first later = go (first_failing us) refl
  where
    go : (o : Option Unfit) → first_failing us ≡ o → first_failing (xs ++ ys) ≡ option_map commit_refusal_of (first_failing (us ++ vs))
    go None e =
        first_failing-right xs ys (first ∙ ap (option_map commit_refusal_of) e) ∙ later e ∙ ap (option_map commit_refusal_of) (sym (first_failing-right us vs e))
    go (Some u) e =
        first_failing-left xs ys (commit_refusal_of u) (first ∙ ap (option_map commit_refusal_of) e)
        ∙ ap (option_map commit_refusal_of) (sym (first_failing-left us vs u e))

last_alike : (o : Option StrictRule) (b : Bool) → b ≡ true
    → option_map refusals.Strict o ≡ option_map commit_refusal_of (first_failing (strict_rules o ++ rule unfit.Malformed b ∷ []))
last_alike None true e = refl
last_alike None false e = absurd cc
last_alike (Some r) b e = refl

asked_if : (asked b : Bool) → (asked ≡ true → b ≡ true) → (not asked || b) ≡ true
asked_if true b h = h refl
asked_if false b h = refl

-- ---- the commit

-- with a signature that is not good
module _ (G : VerifyFn) (s : State) (bytes : List ℕ) (k : KeyPackage) (valid : IsValidState G s) (c : CommitsOneAdd G s bytes k) (unsigned : is_signed G k ≡ false) where
  is_refused : FailsRule G s bytes (unsigned_refusal s)
  is_refused =
      let list : c.commit ≡ lone_commit k = λ i. record { proposals = c.list i; path = c.no_path i } in
      record {
        message = messages.Public c.parts;
        encoded = c.encoded;
        required = valid.required;
        requires = valid.requires;
        fails =
            plain_failed G s valid.required (messages.Public c.parts) (unsigned_refusal s)
            (refused_add G s valid.required k c.parts.auth c.committer c.leaf c.sender_is (c.content_is ∙ ap contents.Commit list) c.group c.epoch c.member c.signed unsigned);
      }

module _ (G : VerifyFn) (s : State) (bytes : List ℕ) (k : KeyPackage) (held : IsWellFormed s) (valid : IsValidState G s) (supports : SupportsTypes s) (c : CommitsOneAdd G s bytes k) where
  lone : c.commit ≡ lone_commit k
  lone = λ i. record { proposals = c.list i; path = c.no_path i }

  content_is : c.parts.auth.content.content ≡ contents.Commit (lone_commit k)
  content_is = c.content_is ∙ ap contents.Commit lone

  abbrev own : Message
  own = messages.Public c.parts

  referenced : is_some (package_ref k) ≡ true
  referenced = is_referenced k (commit_encoded c.parts (lone_commit k) (put_back (message own) bytes c.encoded.encoded) content_is)

  abbrev client_rules : List (Rule Unfit)
  client_rules = fit_rules s k ++ unfit_add_rules (lone_add_rules s valid.required (with_client s k))

  -- if no rule of the profile fails, the next state has the tree after the Add
  module _ (none : first_failing client_rules ≡ None) (kept : first_failing (message_rules G s valid.required own) ≡ None) where
    fit : FitTree s valid.required k
    fit =
        let all : AreKept client_rules = record { none = none } in
        fit_tree s valid.required k (with_client s k) refl (passed_both (fit_rules s k) (unfit_add_rules (lone_add_rules s valid.required (with_client s k))) all).1

    after_is : next s own ≡ after_tree (with_list s (Some (item G s valid.required k c.committer ∷ []))) c.parts.auth fit.tree.tree
    after_is =
        ap (λ (sender : Sender). after_sender s c.parts.auth sender) c.sender_is
        ∙ ap (λ (content : Content). after_content s c.parts.auth c.committer content) content_is
        ∙ ap (λ (o : Option AppliedTree). option_and_then (after_tree (with_list s (Some (item G s valid.required k c.committer ∷ []))) c.parts.auth)
        (changed_tree (hash_of s.context.cipher_suite) (senders.Member c.committer) None o))
        (lone_outcome (senders.Member c.committer) k s.tree ∙ fit.is)

    leads : Leads s held (next s own)
    leads = next_there s held G valid.required valid.requires own (bytes, c.encoded) kept

    client_supports : has_rule s.rules 51 ≡ true → follow.supports_next (next s own) ≡ supports_all s.context.extensions k.leaf_node
    client_supports has =
        ap follow.supports_next leads.is
        ∙ step_supports (with_list s (Some (item G s valid.required k c.committer ∷ []))) c.parts.auth fit.tree.tree leads.step (sym after_is ∙ leads.is)
        ∙ supported_by_client k.leaf_node s.tree fit.tree fit.is s.context.extensions (supports has)

    tags_meet : (not (has_rule s.rules 40) || follow.strict_meets s rules.TagLength c.parts) ≡ true
    tags_meet = asked_if (has_rule s.rules 40) (follow.strict_meets s rules.TagLength c.parts) c.tags

    strict_alike : first_failing (follow.strict_rules s own) ≡ option_map refusals.Strict (group_package_refusal s.rules s.context k)
    strict_alike =
        let by_itself = package_refusal s.rules s.context.cipher_suite s.context.version k in
        strict_word s c.parts
        ∙ ap (λ (o : Option StrictRule). late_refusal s.rules (option_map refusals.Strict o) (next s own))
        (content_unmet s c.parts tags_meet ∙ ap (content_refusal s.rules s.context) content_is ∙ content_is_package s.rules s.context k)
        ∙ late_is_supported s.rules (follow.supports_next (next s own)) by_itself
        ∙ ap (λ (b : Bool). option_map refusals.Strict (with_support by_itself b))
        (asked_alike (has_rule s.rules 51) (follow.supports_next (next s own)) (supports_all s.context.extensions k.leaf_node) client_supports)
        ∙ ap (option_map refusals.Strict) (sym (refusal_in_group s.rules s.context k))

  -- the first rule that fails is that of the reason
  module _ (signed : is_signed G k ≡ true) where
    profile : first_failing (message_rules G s valid.required own) ≡ option_map commit_refusal_of (first_failing client_rules)
    profile =
        profile_alike G s valid.required k c.parts.auth c.committer c.leaf c.sender_is content_is c.group c.epoch c.member c.signed valid.members signed

    refusal_is : first_failing (follow.all_rules G s valid.required own) ≡ option_map commit_refusal_of (addable_fault s valid.required k)
    unfolding addable_fault
    refusal_is =
        joined_alike (message_rules G s valid.required own) (follow.strict_rules s own) client_rules (form_rules_in s k) profile
        (λ none. strict_alike none (profile ∙ ap (option_map commit_refusal_of) none)
        ∙ last_alike (group_package_refusal s.rules s.context k) (is_some (package_ref k)) referenced)

    -- no reason is no refusal, and the other way round
    accepted_if : addable_fault s valid.required k ≡ None → IsAcceptable G s bytes
    accepted_if none = record {
      message = own;
      encoded = c.encoded;
      required = valid.required;
      requires = valid.requires;
      rules_hold = refusal_is ∙ ap (option_map commit_refusal_of) none;
    }

    faultless_if : first_failing (follow.all_rules G s valid.required own) ≡ None → addable_fault s valid.required k ≡ None
    faultless_if h = go (addable_fault s valid.required k) (sym refusal_is ∙ h)
      where
        go : (o : Option Unfit) → option_map commit_refusal_of o ≡ None → o ≡ None
        go None e = refl
        go (Some u) e = absurd (none-some (commit_refusal_of u) (sym e))

  -- what is acceptable keeps the rules under what the group requires
  rules_kept : IsAcceptable G s bytes → first_failing (follow.all_rules G s valid.required own) ≡ None
  rules_kept a =
      (λ i. first_failing (follow.all_rules G s (Requires-one s.context valid.required a.required valid.requires a.requires i)
      (one_message own a.message bytes c.encoded a.encoded i))) ∙ a.rules_hold

  signed_if : IsAcceptable G s bytes → is_signed G k ≡ true
  signed_if a =
      signed_if_valid G s k (accepted_add G s valid.required k c.parts.auth c.committer c.leaf c.sender_is content_is c.group c.epoch c.member c.signed
      (plain_kept G s valid.required own (rules_kept a)))

  addable_if : IsAcceptable G s bytes → IsAddable G s k
  addable_if a = record {
    required = valid.required;
    requires = valid.requires;
    no_fault = faultless_if (signed_if a) (rules_kept a);
    signed = signed_if a;
  }

  acceptable_if : IsAddable G s k → IsAcceptable G s bytes
  acceptable_if a = accepted_if a.signed (each_reading s k a.required a.requires None a.no_fault valid.required valid.requires)

  refused_if : (e : Unfit) → is_signed G k ≡ true → IsUnaddable G s k e → FailsRule G s bytes (commit_refusal_of e)
  refused_if e signed h =
      elim (reason_is_in G s k e h) [
        | inl fault ↦ record {
          message = own;
          encoded = c.encoded;
          required = valid.required;
          requires = valid.requires;
          fails = refusal_is signed ∙ ap (option_map commit_refusal_of) (fault valid.required valid.requires);
        }
        | inr bad ↦ let both = sym signed ∙ bad.0.not_signed in absurd cc
      ]

pub addable_is_acceptable : AddableIsAcceptable
addable_is_acceptable G s bytes k held valid supports c = (addable_if G s bytes k held valid supports c, acceptable_if G s bytes k held valid supports c)

pub unaddable_is_refused : UnaddableIsRefused
unaddable_is_refused G s bytes k e held valid supports c signed h = refused_if G s bytes k held valid supports c e signed h

pub unsigned_is_refused : UnsignedIsRefused
unsigned_is_refused G s bytes k valid c unsigned = is_refused G s bytes k valid c unsigned
