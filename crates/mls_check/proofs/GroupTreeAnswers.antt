-- Of a group that is followed and a tree there is an answer: the tree is the group's and its leaves are members, or one fault is there.
use Rattle.std.proofs.Common.{◌≡◌, ◌≢◌, ◌∙◌, Option, Some, None, inl, inr, refl, sym, ap, subst}
use Rattle.std.specs.Prelude.{◌⊎◌}
use Rattle.std.proofs.lemmas.Option.{same_Some, none-some}
use Rattle.mls_nodes.proofs.RequiredOnce.{Requires-one, required_by-determines, required_by-determined}
use Rattle.mls_nodes.specs.Requirements.{Requires, required_by}
use Rattle.mls_nodes.specs.declared.context.GroupContext.{GroupContext}
use Rattle.mls_nodes.specs.declared.required_capabilities.RequiredCapabilities.{RequiredCapabilities}
use Rattle.mls_tree.specs.RatchetTree.{RatchetTree}
use Rattle.mls_hash.specs.SuiteHash.{hash_of}
use Rattle.mls_check.specs.GroupTree.{IsSupportedContext, HasMembers, FailsValid, FailsMembers, IsGroupTreeFault}
use Rattle.mls_check.specs.LeafValidation.{member_fault, IsMemberFault}
use Rattle.mls_check.specs.Signatures.{VerifyFn}
use Rattle.mls_check.specs.ValidTree.{Valid, IsFirstTreeFault}
use Rattle.mls_check.specs.declared.group_tree.GroupTreeFault.{GroupTreeFault}
use Rattle.mls_check.specs.declared.group_tree.GroupTreeFault.TheVariants.{RequirementsUnreadable, Tree, Member, OutOfMemory}
use Rattle.mls_check.specs.declared.members.MemberFault.{MemberFault}
use Rattle.mls_check.specs.declared.tree_validation.TreeFault.{TreeFault}
use Rattle.mls_check.proofs.Faulted.{valid_or_fault, fault-not_valid, fault-unique}
use Rattle.mls_check.proofs.FirstFault.{LeavesAreValid-or_determined, fault-first, members-faultless}
use Rattle.mls_check.proofs.GroupTrees.{requirements_fail, invalid, strangers, all_members}

module _ (G : VerifyFn) (c : GroupContext) (t : RatchetTree) where
  abbrev Own : RatchetTree → Type 0
  Own u = u ≡ t

  abbrev CheckedTrees : Type 0
  CheckedTrees =
      ((required : RequiredCapabilities) × HasMembers G c Own t required)
      ⊎ ((fault : GroupTreeFault) × (fault ≢ OutOfMemory) × IsGroupTreeFault G c Own fault)

  -- ---- there is an answer

  module _ (followed : IsSupportedContext c) where
    module _ (required : RequiredCapabilities) (requires : Requires c required) where
      check_members : Valid (hash_of c.cipher_suite) c.tree_hash t.tree → CheckedTrees
      check_members valid =
          elim (LeavesAreValid-or_determined G c.cipher_suite c.group_id required t.tree) [
            | inl members ↦ inl (required, all_members G c t followed required requires valid members)
            | inr determined ↦ inr (Member determined.0, (λ e. cc), strangers G c t followed required requires valid determined.0 determined.1 determined.2)
          ]

      check_valid : CheckedTrees
      check_valid =
          elim (valid_or_fault (hash_of c.cipher_suite) c.tree_hash t.tree) [
            | inl valid ↦ check_members valid
            | inr determined ↦ inr (Tree determined.0, (λ e. cc), invalid G c t followed required requires determined.0 determined.1 determined.2)
          ]

    check_read : (o : Option RequiredCapabilities) → required_by c.extensions ≡ o → CheckedTrees
    check_read None e =
        inr (
          RequirementsUnreadable,
          (λ f. cc),
          requirements_fail G c t followed
              (λ r h. none-some r (sym e ∙ required_by-determined c.extensions r h)),
        )
    check_read (Some required) e = check_valid required (required_by-determines c.extensions required e)

    pub group_tree_or_fault : CheckedTrees
    group_tree_or_fault = check_read (required_by c.extensions) refl

  -- ---- what a fault says, of this tree

  first_of_tree : (fault : TreeFault) → FailsValid c Own fault → IsFirstTreeFault (hash_of c.cipher_suite) c.tree_hash t.tree fault
  first_of_tree fault f =
      subst (λ (u : RatchetTree). IsFirstTreeFault (hash_of c.cipher_suite) c.tree_hash u.tree fault) f.readable.has_tree.uses f.first

  module _ (fault : MemberFault) (f : FailsMembers G c Own fault) where
    valid_there : Valid (hash_of c.cipher_suite) c.tree_hash t.tree
    valid_there =
        subst (λ (u : RatchetTree). Valid (hash_of c.cipher_suite) c.tree_hash u.tree)
        f.valid_tree.readable.has_tree.uses f.valid_tree.valid

    first_of_members : IsMemberFault G c.cipher_suite c.group_id f.required t.tree fault
    first_of_members =
        subst (λ (u : RatchetTree). IsMemberFault G c.cipher_suite c.group_id f.required u.tree fault)
        f.valid_tree.readable.has_tree.uses f.first

    -- it is the one that is computed by what the group requires
    determined_by : (required : RequiredCapabilities) → Requires c required
        → member_fault G c.cipher_suite c.group_id required t.tree ≡ Some fault
    determined_by required requires =
        ap (λ (r : RequiredCapabilities). member_fault G c.cipher_suite c.group_id r t.tree)
        (Requires-one c required f.required requires f.valid_tree.readable.requires)
        ∙ (fault-first G c.cipher_suite c.group_id f.required t.tree fault f.not_out_of_memory).0 first_of_members

  -- ---- not both

  pub fault-no_members : (required : RequiredCapabilities) (fault : GroupTreeFault)
      → HasMembers G c Own t required → IsGroupTreeFault G c Own fault → fault ≢ OutOfMemory → ⊥
  fault-no_members required RequirementsUnreadable h f own = f.none required h.valid_tree.readable.requires
  fault-no_members required (Tree fault) h f own =
      fault-not_valid (hash_of c.cipher_suite) c.tree_hash t.tree fault f.not_out_of_memory (first_of_tree fault f) h.valid_tree.valid
  fault-no_members required (Member fault) h f own =
      none-some fault (sym ((members-faultless G c.cipher_suite c.group_id required t.tree).0 h.members)
      ∙ determined_by fault f required h.valid_tree.readable.requires)
  fault-no_members required OutOfMemory h f own = own refl

  -- ---- and only one fault

  valid-no_fault : (fault : TreeFault) (other : MemberFault) → FailsValid c Own fault → FailsMembers G c Own other → ⊥
  valid-no_fault fault other f g =
      fault-not_valid (hash_of c.cipher_suite) c.tree_hash t.tree fault f.not_out_of_memory (first_of_tree fault f) (valid_there other g)

  pub group_tree_fault-unique : (fault other : GroupTreeFault) → fault ≢ OutOfMemory → other ≢ OutOfMemory
      → IsGroupTreeFault G c Own fault → IsGroupTreeFault G c Own other → fault ≡ other
  group_tree_fault-unique OutOfMemory other m n f g = absurd (m refl)
  group_tree_fault-unique RequirementsUnreadable OutOfMemory m n f g = absurd (n refl)
  group_tree_fault-unique RequirementsUnreadable RequirementsUnreadable m n f g = refl
  group_tree_fault-unique RequirementsUnreadable (Tree other) m n f g = absurd (f.none g.required g.readable.requires)
  group_tree_fault-unique RequirementsUnreadable (Member other) m n f g = absurd (f.none g.required g.valid_tree.readable.requires)
  group_tree_fault-unique (Tree fault) OutOfMemory m n f g = absurd (n refl)
  group_tree_fault-unique (Tree fault) RequirementsUnreadable m n f g = absurd (g.none f.required f.readable.requires)
  group_tree_fault-unique (Tree fault) (Tree other) m n f g =
      ap Tree (fault-unique (hash_of c.cipher_suite) c.tree_hash t.tree fault other f.not_out_of_memory g.not_out_of_memory
      (first_of_tree fault f) (first_of_tree other g))
  group_tree_fault-unique (Tree fault) (Member other) m n f g = absurd (valid-no_fault fault other f g)
  group_tree_fault-unique (Member fault) OutOfMemory m n f g = absurd (n refl)
  group_tree_fault-unique (Member fault) RequirementsUnreadable m n f g = absurd (g.none f.required f.valid_tree.readable.requires)
  group_tree_fault-unique (Member fault) (Tree other) m n f g = absurd (valid-no_fault other fault g f)
  group_tree_fault-unique (Member fault) (Member other) m n f g =
      ap Member (same_Some fault other
      (sym (determined_by fault f f.required f.valid_tree.readable.requires) ∙ determined_by other g f.required f.valid_tree.readable.requires))
