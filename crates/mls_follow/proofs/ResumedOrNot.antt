-- From any bytes a follower resumes, or there is a fault.
use Rattle.std.proofs.Common.{◌≡◌, ◌≢◌, ◌∙◌, ℕ, ◌≤◌, List, length, Bool, true, false, Option, Some, None, IsSome, refl, sym, ap, subst, inl, inr}
use Rattle.std.specs.Prelude.{◌⊎◌}
use Rattle.std.specs.Str.{bytes_eq}
use Rattle.std.proofs.lemmas.Bool.{false≢true}
use Rattle.std.proofs.lemmas.Option.{none-some, same_Some}
use Rattle.std.proofs.lemmas.Slice.Eq.{bytes_eq-Decides}
use Rattle.sha2.specs.Sha256.{sha256}
use Rattle.mls_wire.specs.Limits.{input_limit}
use Rattle.mls_wire.specs.Encoding.{vector}
use Rattle.mls_wire.specs.ExactTheorems.{one_value}
use Rattle.mls_nodes.specs.declared.fault.NodeFault.TheVariants as nodes
use Rattle.mls_nodes.specs.declared.required_capabilities.RequiredCapabilities.{RequiredCapabilities}
use Rattle.mls_tree.specs.RatchetTree.{RatchetTree}
use Rattle.mls_tree.specs.TreeDecoding.{IsTree}
use Rattle.mls_hash.specs.SuiteHash.{hash_length, hash_of}
use Rattle.mls_check.proofs.GroupTreeAnswers.{group_tree_or_fault}
use Rattle.mls_check.specs.GroupTree.{IsSupportedContext, HasMembers, IsGroupTreeFault}
use Rattle.mls_check.specs.Signatures.{VerifyFn}
use Rattle.mls_check.specs.declared.group_tree.GroupTreeFault.{GroupTreeFault}
use Rattle.mls_check.specs.declared.group_tree.GroupTreeFault.TheVariants as groups
use Rattle.mls_state.proofs.Files.{state_encoded}
use Rattle.mls_state.specs.Layout.{follower_state, state_file}
use Rattle.mls_state.specs.Parsing.{state_file_at}
use Rattle.mls_state.specs.StateExact.{state_file_exact}
use Rattle.mls_state.specs.StateFile.{HasChecksum}
use Rattle.mls_state.specs.declared.file.StateFile.{StateFile}
use Rattle.mls_state.specs.declared.state.FollowerState.{FollowerState}
use Rattle.mls_follow.specs.State.{State}
use Rattle.mls_follow.specs.StoredState.{IsTreeBody, IsIntact}
use Rattle.mls_follow.specs.AddedRules.{IsStrictRefused}
use Rattle.mls_follow.specs.Resumption.{IsReadableFile, HasInterim, HoldEntries, IsPlainStateOf, added_misfit, IsStateOf, IsContentFault, IsResumed, IsUnreadableFile, IsResumeFault, base_state}
use Rattle.mls_follow.specs.ResumptionParts.{HasNoTree}
use Rattle.mls_follow.specs.StoredRuns.{ResumptionOrFault}
use Rattle.mls_follow.specs.declared.resume_fault.ResumeFault.{ResumeFault}
use Rattle.mls_follow.specs.declared.resume_fault.ResumeFault.TheVariants.{Unreadable, ChecksumDiffers, UnsupportedVersion, UnsupportedSuite, RequirementsUnreadable, Tree, Member, InterimLength, KnownInvalid, AddedInvalid, Strict, KnownStrict, OutOfMemory}
use Rattle.mls_follow.specs.declared.added_rules.StrictRefused.{StrictRefused}
use Rattle.mls_follow.specs.declared.added_rules.StrictRefused.TheVariants as refused
use Rattle.std.proofs.lemmas.List.Elements.{All-nil}
use Rattle.mls_msgs.specs.Layout.{proposal}
use Rattle.mls_tree.specs.TreeHash.{tree_hash}
use Rattle.mls_apply.proofs.Encodings.{put_back}
use Rattle.mls_follow.proofs.AddedOnce.{added_or_refused}
use Rattle.mls_follow.proofs.Holding.{IsSteady}
use Rattle.mls_follow.proofs.Pending.{held_or_not}
use Rattle.mls_hash.proofs.Suites.{supported_or_not}
use Rattle.mls_follow.proofs.Readings.{read_or_not, fits_or_not, tree_or_not, same_or_not}

-- ---- a content

module _ (G : VerifyFn) (c : FollowerState) (t : RatchetTree) where
  abbrev pub StateOrFault : Type 0
  StateOrFault = ((s : State) × IsStateOf G c t s) ⊎ ((f : ResumeFault) × (f ≢ OutOfMemory) × IsContentFault G c t f)

  -- the strict rules of the file
  by_strict : (u : State) → IsPlainStateOf G c t u → StateOrFault
  by_strict u h =
      elim (added_or_refused c.rules u) [
        | inl made ↦ inl (made.0, record { without_rules = u; is_plain = h; made_strict = made.1 })
        | inr fails ↦ go fails.0 fails.1 fails.2
      ]
    where
      go : (e : StrictRefused) → e ≢ refused.OutOfMemory → IsStrictRefused c.rules u e → StateOrFault
      go (refused.Group fault) own f = inr (Strict fault, (λ e. cc), record { without_rules = u; is_plain = h; fails = f })
      go (refused.Known n) own f = inr (KnownStrict n, (λ e. cc), record { without_rules = u; is_plain = h; fails = f })
      go refused.OutOfMemory own f = absurd (own refl)

  -- the references of those that the last commit added
  by_added : HasInterim G c t → (u : State) → HoldEntries G (base_state c t) c.known u → (o : Option ℕ) → added_misfit c.context.cipher_suite t.tree c.added ≡ o → StateOrFault
  by_added h u held None fit =
      by_strict (record u { added = c.added }) (record { has_interim = h; with_pending = u; held = held; added_fit = fit; state = refl })
  by_added h u held (Some n) misfit = inr (AddedInvalid n, (λ e. cc), record { has_interim = h; with_pending = u; held = held; misfit = misfit })

  -- the state without its pending proposals
  pub base_steady : HasInterim G c t → IsSteady (base_state c t)
  base_steady h = record {
    held = record {
      shape = t.shape;
      tree = put_back (tree_hash (hash_of c.context.cipher_suite) 0 t.tree) c.context.tree_hash h.has_members.valid_tree.valid.hashed;
      known = All-nil (λ k. IsSome (proposal k.proposal));
    };
    required = h.required;
    requires = h.has_members.valid_tree.readable.requires;
  }

  by_known : HasInterim G c t → StateOrFault
  by_known h =
      elim (held_or_not G (base_state c t) (base_steady h) c.known) [
        | inl held ↦ by_added h held.0 held.1 (added_misfit c.context.cipher_suite t.tree c.added) refl
        | inr fails ↦ inr (KnownInvalid fails.0, (λ e. cc), record { has_interim = h; fails = fails.1 })
      ]

  by_interim : (required : RequiredCapabilities) → HasMembers G c.context (λ u. u ≡ t) t required → StateOrFault
  by_interim required h =
      elim (same_or_not (length c.interim) (hash_length c.context.cipher_suite)) [
        | inl same ↦ by_known (record { required = required; has_members = h; hashed = same })
        | inr other ↦ inr (InterimLength, (λ e. cc), record { required = required; has_members = h; other = other })
      ]

  of_tree : (g : GroupTreeFault) → g ≢ groups.OutOfMemory → IsGroupTreeFault G c.context (λ u. u ≡ t) g → StateOrFault
  of_tree groups.RequirementsUnreadable own h = inr (RequirementsUnreadable, (λ e. cc), h)
  of_tree (groups.Tree f) own h = inr (Tree f, (λ e. cc), h)
  of_tree (groups.Member f) own h = inr (Member f, (λ e. cc), h)
  of_tree groups.OutOfMemory own h = absurd (own refl)

  by_tree : IsSupportedContext c.context → StateOrFault
  by_tree followed =
      elim (group_tree_or_fault G c.context t followed) [
        | inl members ↦ by_interim members.0 members.1
        | inr fault ↦ of_tree fault.0 fault.1 fault.2
      ]

  pub state_or_fault : StateOrFault
  state_or_fault =
      elim (same_or_not c.context.version 1) [
        | inr other ↦ inr (UnsupportedVersion, (λ e. cc), other)
        | inl version ↦ elim (supported_or_not c.context.cipher_suite) [
          | inl suite ↦ by_tree (record { version = version; suite = suite })
          | inr none ↦ inr (UnsupportedSuite, (λ e. cc), record { version = version; unsupported = none })
        ]
      ]

-- ---- a body

in_vector : (body : List ℕ) (o : Option (List ℕ)) → vector body ≡ o → ((t : RatchetTree) × IsTreeBody body t) ⊎ HasNoTree body
in_vector body None e = inr (λ t h. none-some h.bytes (sym e ∙ h.encoded))
in_vector body (Some bytes) e =
    elim (tree_or_not bytes) [
      | inl t ↦ inl (t.0, record { bytes = bytes; encoded = e; tree = t.1 })
      | inr none ↦ inr (λ t h. none h.tree.nodes (subst (λ (b : List ℕ). IsTree b h.tree.nodes) (same_Some h.bytes bytes (sym h.encoded ∙ e)) h.tree.is_tree))
    ]

body_or_not : (body : List ℕ) → ((t : RatchetTree) × IsTreeBody body t) ⊎ HasNoTree body
body_or_not body = in_vector body (vector body) refl

-- ---- bytes

module _ (G : VerifyFn) (bytes : List ℕ) where
  abbrev ResumedOrFault : Type 0
  ResumedOrFault = ((s : State) × IsResumed G bytes s) ⊎ ((f : ResumeFault) × (f ≢ OutOfMemory) × IsResumeFault G bytes f)

  in_file : (c : FollowerState) (t : RatchetTree) → IsIntact bytes c t → (f : ResumeFault) → f ≢ OutOfMemory → IsContentFault G c t f → ResumedOrFault
  in_file c t h (Unreadable cause) own e = absurd e
  in_file c t h ChecksumDiffers own e = absurd e
  in_file c t h UnsupportedVersion own e = inr (UnsupportedVersion, own, (c, t, h, e))
  in_file c t h UnsupportedSuite own e = inr (UnsupportedSuite, own, (c, t, h, e))
  in_file c t h RequirementsUnreadable own e = inr (RequirementsUnreadable, own, (c, t, h, e))
  in_file c t h (Tree f) own e = inr (Tree f, own, (c, t, h, e))
  in_file c t h (Member f) own e = inr (Member f, own, (c, t, h, e))
  in_file c t h InterimLength own e = inr (InterimLength, own, (c, t, h, e))
  in_file c t h (KnownInvalid n) own e = inr (KnownInvalid n, own, (c, t, h, e))
  in_file c t h (AddedInvalid n) own e = inr (AddedInvalid n, own, (c, t, h, e))
  in_file c t h (Strict fault) own e = inr (Strict fault, own, (c, t, h, e))
  in_file c t h (KnownStrict n) own e = inr (KnownStrict n, own, (c, t, h, e))
  in_file c t h OutOfMemory own e = absurd (own refl)

  by_content : (c : FollowerState) (t : RatchetTree) → IsIntact bytes c t → ResumedOrFault
  by_content c t h =
      elim (state_or_fault G c t) [
        | inl s ↦ inl (s.0, record { content = c; tree = t; intact = h; state = s.1 })
        | inr f ↦ in_file c t h f.0 f.1 f.2
      ]

  checksum_or_not : (file : StateFile) → state_file file ≡ Some bytes → HasChecksum file ⊎ (HasChecksum file → ⊥)
  checksum_or_not file e =
      let body = state_encoded file bytes e in
      go body.0 body.1 (bytes_eq file.checksum (sha256 body.0)) refl
    where
      go : (body : List ℕ) → follower_state file.state ≡ Some body → (b : Bool) → bytes_eq file.checksum (sha256 body) ≡ b → HasChecksum file ⊎ (HasChecksum file → ⊥)
      go body is true same = inl (record { body = body; encoded = is; digest = (bytes_eq-Decides file.checksum (sha256 body)).0 same })
      go body is false other =
          inr (λ h. false≢true (sym other ∙ (bytes_eq-Decides file.checksum (sha256 body)).1
          (h.digest ∙ ap sha256 (same_Some h.body body (sym h.encoded ∙ is)))))

  by_checksum : (file : StateFile) (t : RatchetTree) → IsReadableFile bytes file t → ResumedOrFault
  by_checksum file t h =
      elim (checksum_or_not file h.encoded) [
        | inl checked ↦ by_content file.state t (record {
          file = record { file = file; state = refl; checked = checked; encoded = h.encoded };
          bounded = h.bounded;
          tree = h.tree;
        })
        | inr other ↦ inr (ChecksumDiffers, (λ e. cc), (file, t, h, other))
      ]

  unreadable : IsUnreadableFile bytes → ResumedOrFault
  unreadable none = inr (Unreadable nodes.LastBlank, (λ e. cc), none)

  by_body : (file : StateFile) → state_file file ≡ Some bytes → length bytes ≤ input_limit → ResumedOrFault
  by_body file e le =
      elim (body_or_not file.state.tree) [
        | inl t ↦ by_checksum file t.0 (record { encoded = e; bounded = le; tree = t.1 })
        | inr none ↦ unreadable (λ other t h. none t
            (subst (λ (f : StateFile). IsTreeBody f.state.tree t) (one_value state_file state_file_at state_file_exact other file bytes h.encoded e) h.tree))
      ]

  resumed_or_fault : ResumedOrFault
  resumed_or_fault =
      elim (read_or_not state_file state_file_at state_file_exact bytes) [
        | inr none ↦ unreadable (λ file t h. none file h.encoded)
        | inl file ↦ elim (fits_or_not bytes) [
          | inl le ↦ by_body file.0 file.1 le
          | inr long ↦ unreadable (λ other t h. long h.bounded)
        ]
      ]

pub some_resumption : ResumptionOrFault
some_resumption G bytes = resumed_or_fault G bytes
