-- Something is found of any bytes.
use Rattle.std.proofs.Common.{◌≡◌, ◌≢◌, ◌∙◌, ap, ℕ, List, length, Option, Some, None, refl, sym, subst, inl, inr}
use Rattle.std.specs.Prelude.{◌⊎◌, ◌≤◌, Bool, false, if◌then◌else◌}
use Rattle.mls_wire.specs.Limits.{input_limit}
use Rattle.mls_nodes.specs.NodesExact.{group_context_exact}
use Rattle.mls_nodes.specs.Layout.{group_context}
use Rattle.mls_nodes.specs.ParsingInternal.{group_context_at}
use Rattle.mls_nodes.specs.declared.context.GroupContext.{GroupContext}
use Rattle.mls_nodes.specs.declared.fault.NodeFault.TheVariants.{EmptyTree}
use Rattle.mls_nodes.specs.declared.required_capabilities.RequiredCapabilities.{RequiredCapabilities}
use Rattle.mls_tree.specs.RatchetTree.{RatchetTree}
use Rattle.mls_tree.specs.TreeDecoding.{IsTreeOf}
use Rattle.mls_check.proofs.GroupTreeAnswers.{group_tree_or_fault}
use Rattle.mls_check.proofs.GroupTrees.{members_too, requirements_too, invalid_too, strangers_too}
use Rattle.mls_check.specs.GroupTree.{IsSupportedContext, HasMembers, IsGroupTreeFault}
use Rattle.mls_check.specs.Signatures.{VerifyFn}
use Rattle.mls_check.specs.declared.group_tree.GroupTreeFault.{GroupTreeFault}
use Rattle.mls_check.specs.declared.group_tree.GroupTreeFault.TheVariants as groups
use Rattle.mls_msgs.specs.Message.{message}
use Rattle.mls_msgs.specs.Profile.{message_in}
use Rattle.mls_msgs.specs.declared.profile.Profile.{Profile}
use Rattle.mls_msgs.specs.declared.rules.Rules.{Rules}
use Rattle.mls_msgs.proofs.Profiles.{encoded_in, message_or_none}
use Rattle.mls_msgs.specs.declared.group_info.GroupInfo.{GroupInfo}
use Rattle.mls_msgs.specs.declared.message.Message.{Message}
use Rattle.mls_msgs.specs.declared.message.Message.TheVariants as messages
use Rattle.mls_strict.proofs.FirstFaults.{strict_or_fault}
use Rattle.mls_follow.specs.Acceptance.{EncodesNoMessage}
use Rattle.mls_follow.specs.State.{State, EncodesMessage}
use Rattle.mls_hash.proofs.Suites.{supported_or_not}
use Rattle.mls_follow.proofs.Readings.{some_fault, read_or_not, fits_or_not, tree_or_not, same_or_not}
use Rattle.mls_start.proofs.StartsExist.{interim_of, starts_or_not}
use Rattle.mls_start.specs.Finding.{is_valid}
use Rattle.mls_start.specs.FindingLaws.{TreeFindingExists}
use Rattle.mls_start.specs.StartFindings.{IsInfo, IsSupplied, IsSuppliedUnread, IsReadAs, IsStarted, IsStartFinding}
use Rattle.mls_start.specs.TreeFinding.{IsContext, IsNoContext, IsTreeFinding}
use Rattle.mls_start.specs.declared.finding.Finding.{Finding}
use Rattle.mls_start.specs.declared.finding.Finding.TheVariants.{ContextUnreadable, InfoUnreadable, NotGroupInfo, TreeUnreadable, UnsupportedVersion, UnsupportedSuite, RequirementsUnreadable, TreeRefused, MembersRefused, TreeNotStrict, StartRefused, TreeValid}

-- ---- a context and a tree

-- the bytes spell a context, or none
context_or_not : (bytes : List ℕ) → ((c : GroupContext) × IsContext bytes c) ⊎ IsNoContext bytes
context_or_not bytes = go (read_or_not group_context group_context_at group_context_exact bytes) (fits_or_not bytes)
  where
    go : ((c : GroupContext) × (group_context c ≡ Some bytes)) ⊎ ((c : GroupContext) → group_context c ≡ Some bytes → ⊥)
        → (length bytes ≤ input_limit) ⊎ (length bytes ≤ input_limit → ⊥) → ((c : GroupContext) × IsContext bytes c) ⊎ IsNoContext bytes
    go (inr none) fits = inr (λ c h. none c h.encoded)
    go (inl c) (inr over) = inr (λ d h. over h.bounded)
    go (inl c) (inl le) = inl (c.0, record { encoded = c.1; bounded = le })

module _ (asked : Rules) (G : VerifyFn) (context_bytes tree_bytes : List ℕ) where
  abbrev Found : Type 0
  Found = (finding : Finding) × IsTreeFinding asked G context_bytes tree_bytes finding

  module _ (c : GroupContext) (t : RatchetTree) (context : IsContext context_bytes c) (is_tree : IsTreeOf tree_bytes t) where
    abbrev Own : RatchetTree → Type 0
    Own u = u ≡ t

    too : (u : RatchetTree) → Own u → IsTreeOf tree_bytes u
    too u e = subst (IsTreeOf tree_bytes) (sym e) is_tree

    by_fault : (fault : GroupTreeFault) → fault ≢ groups.OutOfMemory → IsGroupTreeFault G c Own fault → Found
    by_fault groups.RequirementsUnreadable own f = (RequirementsUnreadable, (c, context, requirements_too G c Own (IsTreeOf tree_bytes) too f))
    by_fault (groups.Tree fault) own f = (TreeRefused fault, (c, context, invalid_too G c Own (IsTreeOf tree_bytes) too fault f))
    by_fault (groups.Member fault) own f = (MembersRefused fault, (c, context, strangers_too G c Own (IsTreeOf tree_bytes) too fault f))
    by_fault groups.OutOfMemory own f = absurd (own refl)

    by_rules : (required : RequiredCapabilities) → HasMembers G c (IsTreeOf tree_bytes) t required → Found
    by_rules required members =
        elim (strict_or_fault asked c t.tree) [
          | inl strict ↦ (TreeValid c.tree_hash, (c, t, required, context, members, strict, refl))
          | inr f ↦ (TreeNotStrict f.0, (c, t, required, context, members, f.1))
        ]

    by_tree : IsSupportedContext c → Found
    by_tree followed =
        elim (group_tree_or_fault G c t followed) [
          | inl m ↦ by_rules m.0 (members_too G c Own (IsTreeOf tree_bytes) too t m.0 m.1)
          | inr f ↦ by_fault f.0 f.1 f.2
        ]

  by_use : (c : GroupContext) → IsContext context_bytes c → IsSupportedContext c → Found
  by_use c context h =
      elim (tree_or_not tree_bytes) [
        | inl t ↦ by_tree c t.0 context t.1 h
        | inr none ↦ (TreeUnreadable EmptyTree, (c, context, h, none, λ own. cc))
      ]

  by_suite : (c : GroupContext) → IsContext context_bytes c → c.version ≡ 1 → Found
  by_suite c h version =
      elim (supported_or_not c.cipher_suite) [
        | inl suite ↦ by_use c h (record { version = version; suite = suite })
        | inr none ↦ (UnsupportedSuite, (c, h, record { version = version; unsupported = none }))
      ]

  by_context : (c : GroupContext) → IsContext context_bytes c → Found
  by_context c h = elim (same_or_not c.version 1) [ inl version ↦ by_suite c h version | inr other ↦ (UnsupportedVersion, (c, h, other)) ]

pub some_tree_finding : TreeFindingExists
some_tree_finding asked G context_bytes tree_bytes =
    elim (context_or_not context_bytes) [
      | inl c ↦ by_context asked G context_bytes tree_bytes c.0 c.1
      | inr none ↦ (ContextUnreadable some_fault, none)
    ]

-- ---- a group info, and a tree where one is passed

message_within : (profile : Profile) (m : Message) (bytes : List ℕ) → EncodesMessage profile m bytes → message_in profile m ≡ Some bytes
unfolding message_in
message_within profile m bytes h = ap (λ (b : Bool). if b then message m else None) h.allowed ∙ h.encoded

-- the bytes are the encoding of a message in the profile, or of none
message_or_not : (profile : Profile) (bytes : List ℕ) → ((m : Message) × EncodesMessage profile m bytes) ⊎ EncodesNoMessage profile bytes
message_or_not profile bytes = go (message_or_none profile bytes) (fits_or_not bytes)
  where
    go : ((m : Message) × (message_in profile m ≡ Some bytes)) ⊎ ((m : Message) → message_in profile m ≡ Some bytes → ⊥) → (length bytes ≤ input_limit) ⊎ (length bytes ≤ input_limit → ⊥)
        → ((m : Message) × EncodesMessage profile m bytes) ⊎ EncodesNoMessage profile bytes
    go (inr none) fits = inr (λ m h. none m (message_within profile m bytes h))
    go (inl m) (inr over) = inr (λ n h. over h.bounded)
    go (inl m) (inl le) =
        let h = encoded_in profile m.0 bytes m.1 in
        inl (m.0, record { encoded = h.1; allowed = h.0; bounded = le })

-- the tree that is passed can be read, or not
supplied_or_not : (bytes : Option (List ℕ)) → ((t : Option RatchetTree) × IsSupplied bytes t) ⊎ IsSuppliedUnread bytes
supplied_or_not None = inl (None, tt)
supplied_or_not (Some bytes) = elim (tree_or_not bytes) [ inl t ↦ inl (Some t.0, t.1) | inr none ↦ inr none ]

module _ (asked : Rules) (profile : Profile) (G : VerifyFn) (info_bytes : List ℕ) (tree_bytes : Option (List ℕ)) where
  -- a follower starts, or something is found for which none does
  abbrev pub Begun : Type 0
  Begun = ((s : State) × IsStarted asked profile G info_bytes tree_bytes s)
      ⊎ ((finding : Finding) × IsStartFinding asked profile G info_bytes tree_bytes finding × (is_valid finding ≡ false))

  by_inputs : (info : GroupInfo) (supplied : Option RatchetTree) → IsReadAs profile info_bytes tree_bytes info supplied → Begun
  by_inputs info supplied h =
      let interim = interim_of info info_bytes h.is_info.encoded in
      elim (starts_or_not asked profile G info supplied interim.0 interim.1) [
        | inl s ↦ inl (s.0, record { info = info; supplied = supplied; is_read = h; start = s.1 })
        | inr f ↦ inr (StartRefused f.0, (info, supplied, h, f.1, f.2), refl)
      ]

  by_info : (info : GroupInfo) → IsInfo profile info_bytes info → Begun
  by_info info h =
      elim (supplied_or_not tree_bytes) [
        | inl t ↦ by_inputs info t.0 (record { is_info = h; is_supplied = t.1 })
        | inr none ↦ inr (TreeUnreadable EmptyTree, (info, h, none, λ own. cc), refl)
      ]

  by_message : (m : Message) → EncodesMessage profile m info_bytes → Begun
  by_message (messages.GroupInfo info) h = by_info info h
  by_message (messages.Public p) h = inr (NotGroupInfo, (messages.Public p, h, λ info e. cc), refl)
  by_message (messages.Unread format body) h = inr (NotGroupInfo, (messages.Unread format body, h, λ info e. cc), refl)
  by_message (messages.KeyPackage k) h = inr (NotGroupInfo, (messages.KeyPackage k, h, λ info e. cc), refl)

  pub begun : Begun
  begun = elim (message_or_not profile info_bytes) [ inl m ↦ by_message m.0 m.1 | inr none ↦ inr (InfoUnreadable some_fault, none, refl) ]
