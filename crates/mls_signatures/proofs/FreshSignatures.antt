-- What a checker that accepts the signatures of the pending proposals does not accept of a message's is among those that no
-- pending proposal has.
use Rattle.std.proofs.Common.{◌≡◌, ◌≢◌, ◌∙◌, ℕ, List, [], ◌∷◌, ◌++◌, length, Bool, true, false, cond, not, Option, Some, None, refl, sym, ap, subst, append_assoc, inl, inr}
use Rattle.std.specs.Prelude.{◌⊎◌, ◌==◌, ◌&&◌, ◌||◌, ◌+◌, nat_le, if◌then◌else◌, is_some, filter, option_map, ⊤}
use Rattle.std.specs.Str.{bytes_eq}
use Rattle.std.proofs.lemmas.Bool.{cases_eq, eqb-true, false≢true, or_cases}
use Rattle.std.proofs.lemmas.List.Folds.{list_any-append}
use Rattle.std.proofs.lemmas.Option.{none-some, same_Some, option_and_then_some, cond_some}
use Rattle.mls_check.specs.Signatures.{VerifyFn}
use Rattle.mls_check.proofs.Elements.{and-left, and-right}
use Rattle.mls_nodes.specs.Limits.{leaf_limit}
use Rattle.mls_nodes.specs.declared.context.GroupContext.{GroupContext}
use Rattle.mls_nodes.specs.declared.leaf.LeafNode.{LeafNode}
use Rattle.mls_tree.specs.Tree.{Tree, leaf_at, member_count}
use Rattle.mls_tree.specs.TreeOperations.{update}
use Rattle.mls_msgs.specs.declared.authenticated.AuthenticatedParts.{AuthenticatedParts}
use Rattle.mls_msgs.specs.declared.commit.Commit.{Commit}
use Rattle.mls_msgs.specs.declared.framed_content.Content.{Content}
use Rattle.mls_msgs.specs.declared.framed_content.Content.TheVariants as contents
use Rattle.mls_msgs.specs.declared.framed_content.Sender.{Sender}
use Rattle.mls_msgs.specs.declared.framed_content.Sender.TheVariants as senders
use Rattle.mls_msgs.specs.declared.message.Message.{Message}
use Rattle.mls_msgs.specs.declared.message.Message.TheVariants as messages
use Rattle.mls_msgs.specs.declared.profile.Profile.{Profile}
use Rattle.mls_msgs.specs.declared.proposal.Proposal.{Proposal}
use Rattle.mls_msgs.specs.declared.proposal.Proposal.TheVariants as proposals
use Rattle.mls_msgs.specs.declared.proposal.ProposalOrRef.{ProposalOrRef}
use Rattle.mls_msgs.specs.declared.proposal.ProposalOrRef.TheVariants as entries
use Rattle.mls_apply.specs.AppliedList.{AppliedTree, added_to, after_adds, after_removes, after_update, after_updates, new_members, outcome, updated_at, with_members, without_adds}
use Rattle.mls_apply.specs.ListRules.{replaced_leaf}
use Rattle.mls_apply.specs.OutlineInternal.{AreAt}
use Rattle.mls_apply.specs.ProposalRules.{is_from_key_package}
use Rattle.mls_apply.specs.ResolvedList.{entry_item, find_known, item_of, resolved, with_first}
use Rattle.mls_apply.specs.Senders.{member_index}
use Rattle.mls_apply.specs.declared.list_item.KnownProposal.{KnownProposal}
use Rattle.mls_apply.specs.declared.list_item.ListItem.{ListItem}
use Rattle.mls_apply.proofs.AddedLeaves.{leaf_outside, outcome_members}
use Rattle.mls_apply.proofs.Leaves.{kept_beside, put_there}
use Rattle.mls_apply.proofs.SoundOutcomes.{where_so}
use Rattle.mls_signatures.specs.AcceptedSignatures.{FreshSignaturesSuffice, are_accepted, are_pending_accepted, unaccepted}
use Rattle.mls_signatures.specs.SignaturesToVerify.{all_message_signatures, applied_list_signatures, commit_signatures, content_signatures, deduplicated, depends_on_index, entries_signatures, entry_signatures, framed_content_signatures, fresh_commit_signatures, fresh_leaves, index_before, is_fresh_leaf, leaf_signatures, list_signatures, member_signatures, new_leaves, non_blank_leaf_signatures, package_signatures, path_signatures, proposal_signatures, replaced_leaves, sender_signatures, signatures_at, update_signatures}
use Rattle.mls_signatures.specs.declared.signature_to_verify.SignatureToVerify.{SignatureToVerify}
use Rattle.mls_signatures.proofs.AcceptedSignatures.{all_kept, none_left, unaccepted_both, unaccepted_deduplicated, unaccepted_three}
use Rattle.mls_signatures.proofs.AddedLeaves.{no_index, of_index}
use Rattle.mls_signatures.proofs.ListedIndices.{AllIn, all_in_itself, apart_from, is_in}
use Rattle.mls_signatures.proofs.RemovedLeaves.{Stood, removes}
use Rattle.mls_signatures.proofs.Repeats.{AllMet, all_behind, all_front, all_itself, all-left, all-right, deduplicated-behind, deduplicated-met}

is_not : (b : Bool) → not b ≡ false → b ≡ true
is_not true e = refl
is_not false e = absurd (false≢true (sym e))

module _ (G : VerifyFn) where
  -- ---- leaves that are left out of a list

  module _ (suite : ℕ) (group_id : List ℕ) (t : Tree) (p : ℕ → Bool) where
    -- those of each leaf that is left out are met
    abbrev Covered : List SignatureToVerify → List ℕ → Type 0
    Covered ws [] = ⊤
    Covered ws (j ∷ js) = (p j ≡ false → AllMet ws (unaccepted G (of_index suite group_id t j))) × Covered ws js

    covered_front : (ws rest : List SignatureToVerify) (js : List ℕ) → Covered ws js → Covered (ws ++ rest) js
    covered_front ws rest [] c = tt
    covered_front ws rest (j ∷ js) c =
        (λ e. all_front ws rest (unaccepted G (of_index suite group_id t j)) (c.0 e), covered_front ws rest js c.1)

    abbrev left : List ℕ → List SignatureToVerify
    left js = unaccepted G (signatures_at suite group_id t js)

    split : (ws : List SignatureToVerify) (j : ℕ) (js : List ℕ) → deduplicated (ws ++ left (j ∷ js)) ≡ deduplicated ((ws ++ unaccepted G (of_index suite group_id t j)) ++ left js)
    split ws j js =
        let own = of_index suite group_id t j in
        ap (λ (vs : List SignatureToVerify). deduplicated (ws ++ vs)) (unaccepted_both G own (signatures_at suite group_id t js))
        ∙ ap deduplicated (sym (append_assoc ws (unaccepted G own) (left js)))

    left_one : (ws : List SignatureToVerify) (j : ℕ) (js : List ℕ) → (p j ≡ false → AllMet ws (unaccepted G (of_index suite group_id t j)))
        → deduplicated ((ws ++ unaccepted G (of_index suite group_id t j)) ++ left js) ≡ deduplicated ((ws ++ unaccepted G (of_index suite group_id t j)) ++ left (filter p js))
        → deduplicated (ws ++ left js) ≡ deduplicated (ws ++ left (filter p js)) → (b : Bool) → p j ≡ b
        → deduplicated (ws ++ left (j ∷ js)) ≡ deduplicated (ws ++ left (cond b (j ∷ filter p js) (filter p js)))
    left_one ws j js met more rest true e = split ws j js ∙ more ∙ sym (split ws j (filter p js))
    left_one ws j js met more rest false e =
        let own = unaccepted G (of_index suite group_id t j) in
        split ws j js ∙ deduplicated-behind (ws ++ own) ws (left js) (deduplicated-met ws own (met e)) ∙ rest

    left_out : (ws : List SignatureToVerify) (js : List ℕ) → Covered ws js → deduplicated (ws ++ left js) ≡ deduplicated (ws ++ left (filter p js))
    left_out ws [] c = refl
    left_out ws (j ∷ js) c =
        let own = unaccepted G (of_index suite group_id t j) in
        left_one ws j js c.0 (left_out (ws ++ own) js (covered_front ws own js c.1)) (left_out ws js c.1) (p j) refl

  -- ---- the proposals of a list

  module _ (context : GroupContext) (committer : Sender) (known : List KnownProposal) (accepted : are_pending_accepted G context known ≡ true) (ws : List SignatureToVerify) where
    abbrev suite : ℕ
    suite = context.cipher_suite

    abbrev group_id : List ℕ
    group_id = context.group_id

    abbrev Met : List SignatureToVerify → Type 0
    Met qs = AllMet (unaccepted G ws) (unaccepted G qs)

    -- those of an item are in the list, or accepted
    abbrev ItemMet : ListItem → Type 0
    ItemMet x = Met (proposal_signatures context x.sender x.proposal)

    abbrev ItemsMet : List ListItem → Type 0
    ItemsMet [] = ⊤
    ItemsMet (x ∷ xs) = ItemMet x × ItemsMet xs

    pending_one : (y : KnownProposal) (o : Option KnownProposal) (k : KnownProposal) → are_accepted G (proposal_signatures context y.sender y.proposal) ≡ true
        → (o ≡ Some k → are_accepted G (proposal_signatures context k.sender k.proposal) ≡ true)
        → (b : Bool) → (if b then Some y else o) ≡ Some k → are_accepted G (proposal_signatures context k.sender k.proposal) ≡ true
    pending_one y o k own later true f =
        subst (λ (z : KnownProposal). are_accepted G (proposal_signatures context z.sender z.proposal) ≡ true) (same_Some y k f) own
    pending_one y o k own later false f = later f

    pending_found : (ks : List KnownProposal) (r : List ℕ) (k : KnownProposal) → are_pending_accepted G context ks ≡ true → find_known ks r ≡ Some k
        → are_accepted G (proposal_signatures context k.sender k.proposal) ≡ true
    pending_found [] r k e is = absurd (none-some k is)
    pending_found (y ∷ ys) r k e is =
        let own = are_accepted G (proposal_signatures context y.sender y.proposal) in
        pending_one y (find_known ys r) k (and-left own (are_pending_accepted G context ys) e)
        (λ f. pending_found ys r k (and-right own (are_pending_accepted G context ys) e) f) (bytes_eq y.reference r) is

    pending_met : (o : Option KnownProposal) (it : ListItem)
        → ((k : KnownProposal) → o ≡ Some k → are_accepted G (proposal_signatures context k.sender k.proposal) ≡ true)
        → option_map item_of o ≡ Some it → ItemMet it
    pending_met None it f is = absurd (none-some it is)
    pending_met (Some k) it f is =
        subst ItemMet (same_Some (item_of k) it is)
        (subst (AllMet (unaccepted G ws)) (sym (none_left G (proposal_signatures context k.sender k.proposal) (f k refl))) tt)

    entry_met : (y : ProposalOrRef) (it : ListItem) → AllMet ws (entry_signatures context committer y) → entry_item committer known y ≡ Some it → ItemMet it
    entry_met (entries.Proposal p) it m is =
        subst ItemMet (same_Some (record { sender = committer; proposal = p }) it is) (all_kept G ws (proposal_signatures context committer p) m)
    entry_met (entries.Reference r) it m is = pending_met (find_known known r) it (λ k found. pending_found known r k accepted found) is

    items_first : (items : List ListItem) (o : Option ListItem) (rest : Option (List ListItem)) → ((it : ListItem) → o ≡ Some it → ItemMet it)
        → ((more : List ListItem) → rest ≡ Some more → ItemsMet more) → with_first o rest ≡ Some items → ItemsMet items
    items_first items None rest f g e = absurd (none-some items e)
    items_first items (Some it) None f g e = absurd (none-some items e)
    items_first items (Some it) (Some more) f g e = subst ItemsMet (same_Some (it ∷ more) items e) (f it refl, g more refl)

    items_met : (es : List ProposalOrRef) (items : List ListItem) → AllMet ws (entries_signatures context committer es) → resolved committer known es ≡ Some items → ItemsMet items
    items_met [] items m e = subst ItemsMet (same_Some [] items e) tt
    items_met (y ∷ ys) items m e =
        let own = entry_signatures context committer y in
        let others = entries_signatures context committer ys in
        items_first items (entry_item committer known y) (resolved committer known ys) (λ it is. entry_met y it (all-left ws own others m) is)
        (λ more is. items_met ys more (all-right ws own others m) is) e

    -- ---- a leaf that an Update replaces

    module _ (j : ℕ) where
      -- the signature of the leaf, if it is set
      abbrev Fine : Tree → Type 0
      Fine t = (x : LeafNode) → Stood j x t → Met (leaf_signatures suite group_id j x)

      fine_same : (t u : Tree) → t ≡ u → Fine t → Fine u
      fine_same t u e f = subst Fine e f

      -- the leaf is replaced, or it was fine before
      abbrev Sets : Option ℕ → Tree → Type 0
      Sets o t = (o ≡ Some j) ⊎ Fine t

      no_leaf : (t : Tree) → Sets None t → Fine t
      no_leaf t (inl e) = absurd (none-some j e)
      no_leaf t (inr f) = f

      before : (i : ℕ) (t : Tree) → j ≢ i → Sets (Some i) t → Fine t
      before i t away (inl e) = absurd (away (sym (same_Some i j e)))
      before i t away (inr f) = f

      replaced_by : (o : Option ℕ) (y : LeafNode) (t u : Tree) → Met (update_signatures context o y) → updated_at o y t ≡ Some u → Sets o t → Fine u
      replaced_by None y t u m e s = absurd (none-some u e)
      replaced_by (Some i) y t u m e s =
          let parts = cond_some (is_some (leaf_at 0 t i)) (update t i y) u e in
          fine_same (update t i y) u parts.1
          (elim (cases_eq j i) [
            | inl same ↦ λ x set.
                let is : y ≡ x = same_Some y x (sym (put_there t i j (Some y) parts.0 same) ∙ set) in
                subst (λ (k : ℕ). Met (leaf_signatures suite group_id k x)) (sym same) (subst (λ (z : LeafNode). Met (leaf_signatures suite group_id i z)) is m)
            | inr away ↦ λ x set. before i t away s x (sym (kept_beside t i j (Some y) parts.0 away) ∙ set)
          ])

      after_one : (sender : Sender) (p : Proposal) (t u : Tree) → Met (proposal_signatures context sender p) → after_update sender p t ≡ Some u → Sets (replaced_leaf sender p) t → Fine u
      after_one sender (proposals.Add k) t u m e s = fine_same t u (same_Some t u e) (no_leaf t s)
      after_one sender (proposals.Remove k) t u m e s = fine_same t u (same_Some t u e) (no_leaf t s)
      after_one sender (proposals.ContextExtensions es) t u m e s = fine_same t u (same_Some t u e) (no_leaf t s)
      after_one sender (proposals.PreSharedKey es) t u m e s = fine_same t u (same_Some t u e) (no_leaf t s)
      after_one sender (proposals.ReInit es) t u m e s = fine_same t u (same_Some t u e) (no_leaf t s)
      after_one sender (proposals.ExternalInit es) t u m e s = fine_same t u (same_Some t u e) (no_leaf t s)
      after_one sender (proposals.Update y) t u m e s = replaced_by (member_index sender) y t u m e s

      -- one of some indices, or fine before
      abbrev Among : List ℕ → Tree → Type 0
      Among js t = (is_in js j ≡ true) ⊎ Fine t

      first_or_later : (o : Option ℕ) (js : List ℕ) (t u : Tree) → (Sets o t → Fine u) → Among (index_before o js) t → Among js u
      first_or_later None js t u one (inl e) = inl e
      first_or_later None js t u one (inr f) = inr (one (inr f))
      first_or_later (Some k) js t u one (inl e) =
          elim (or_cases (k == j) (is_in js j) e) [
            | inl here ↦ inr (one (inl (ap Some (eqb-true k j here))))
            | inr later ↦ inl later
          ]
      first_or_later (Some k) js t u one (inr f) = inr (one (inr f))

      none_among : (t : Tree) → Among [] t → Fine t
      none_among t (inl e) = absurd (false≢true e)
      none_among t (inr f) = f

      updates_fine : (items : List ListItem) (t u : Tree) → ItemsMet items → after_updates items t ≡ Some u → Among (replaced_leaves items) t → Fine u
      unfolding after_updates
      updates_fine [] t u m e s = fine_same t u (same_Some t u e) (none_among t s)
      updates_fine (y ∷ ys) t u m e s =
          option_and_then_some (after_updates ys) (after_update y.sender y.proposal t) u e
          (λ v a b. updates_fine ys v u m.1 b
          (first_or_later (replaced_leaf y.sender y.proposal) (replaced_leaves ys) t v (after_one y.sender y.proposal t v m.0 a) s))

    -- ---- a leaf that is added

    abbrev MembersMet : List LeafNode → Type 0
    MembersMet [] = ⊤
    MembersMet (x ∷ xs) = Met (leaf_signatures suite group_id 0 x) × MembersMet xs

    member_met : (sender : Sender) (p : Proposal) (xs : List LeafNode) → Met (proposal_signatures context sender p) → MembersMet xs → MembersMet (added_to p xs)
    member_met sender (proposals.Add k) xs m rest =
        let own = leaf_signatures suite group_id 0 k.leaf_node in
        let whole = package_signatures suite k in
        (all-left (unaccepted G ws) (unaccepted G own) (unaccepted G whole) (subst (AllMet (unaccepted G ws)) (unaccepted_both G own whole) m), rest)
    member_met sender (proposals.Update y) xs m rest = rest
    member_met sender (proposals.Remove k) xs m rest = rest
    member_met sender (proposals.ContextExtensions es) xs m rest = rest
    member_met sender (proposals.PreSharedKey es) xs m rest = rest
    member_met sender (proposals.ReInit es) xs m rest = rest
    member_met sender (proposals.ExternalInit es) xs m rest = rest

    members_met : (items : List ListItem) → ItemsMet items → MembersMet (new_members items)
    unfolding new_members
    members_met [] m = tt
    members_met (y ∷ ys) m = member_met y.sender y.proposal (new_members ys) m.0 (members_met ys m.1)

    added_met : (t : Tree) (xs : List LeafNode) (js : List ℕ) → AreAt t xs js → MembersMet xs → (j : ℕ) → is_in js j ≡ true → (x : LeafNode) → leaf_at 0 t j ≡ Some x
        → Met (leaf_signatures suite group_id 0 x)
    added_met t [] [] a m j e x set = absurd (false≢true e)
    added_met t [] (k ∷ ks) a m j e x set = absurd a
    added_met t (y ∷ ys) [] a m j e x set = absurd a
    added_met t (y ∷ ys) (k ∷ ks) a m j e x set =
        elim (or_cases (k == j) (is_in ks j) e) [
          | inl here ↦
              (let is : y ≡ x = same_Some y x (sym a.0 ∙ ap (λ i. leaf_at 0 t i) (eqb-true k j here) ∙ set) in
              subst (λ (z : LeafNode). Met (leaf_signatures suite group_id 0 z)) is m.0)
          | inr later ↦ added_met t ys ks a.1 m.1 j later x set
        ]

    -- ---- the leaves of the tree after the list

    module _ (items : List ListItem) (t : Tree) (g : AppliedTree) (e : outcome items t ≡ Some g) (met : ItemsMet items) where
      -- one that is not added
      other_fine : (j : ℕ) → is_in g.added j ≡ false → is_in (replaced_leaves items) j ≡ true → Fine j g.tree
      unfolding outcome with_members
      other_fine j not_added replaced =
          option_and_then_some (with_members (new_members items)) (without_adds items t) g e
          (λ w a b. option_and_then_some (after_removes items) (after_updates items t) w a
          (λ v c d.
          let adds = where_so (nat_le (member_count w + length (new_members items)) leaf_limit) (after_adds (new_members items) w) g b in
          let outside = leaf_outside (new_members items) w g j adds (apart_from g.added j not_added) in
          λ x set. updates_fine j items t v met c (inl replaced) x (removes j x items v w d (sym outside ∙ set))))

      leaf_met : (j : ℕ) (b : Bool) → is_in g.added j ≡ b → is_in (new_leaves items g) j ≡ true → (b && depends_on_index (leaf_at 0 g.tree j)) ≡ false
          → (o : Option LeafNode) → leaf_at 0 g.tree j ≡ o → Met (non_blank_leaf_signatures suite group_id j o)
      leaf_met j b here is f None at = tt
      leaf_met j true here is f (Some x) at =
          let source : is_from_key_package x.source ≡ true = is_not (is_from_key_package x.source) (sym (ap depends_on_index at) ∙ f) in
          subst Met (no_index suite group_id x 0 j source)
          (added_met g.tree (new_members items) g.added (outcome_members items t g e) (members_met items met) j here x at)
      leaf_met j false here is f (Some x) at =
          let either : (is_in (replaced_leaves items) j || is_in g.added j) ≡ true = sym (list_any-append (λ k. k == j) (replaced_leaves items) g.added) ∙ is in
          elim (or_cases (is_in (replaced_leaves items) j) (is_in g.added j) either) [
            | inl replaced ↦ other_fine j here replaced x at
            | inr there ↦ absurd (false≢true (sym here ∙ there))
          ]

      covered : (js : List ℕ) → AllIn (new_leaves items g) js
          → Covered suite group_id g.tree (is_fresh_leaf g.added g.tree) (unaccepted G ws) js
      covered [] m = tt
      covered (j ∷ js) m = (λ f. leaf_met j (is_in g.added j) refl m.0 f (leaf_at 0 g.tree j) refl, covered js m.1)

      pub fresh_alike : deduplicated (unaccepted G ws ++ unaccepted G (signatures_at suite group_id g.tree (new_leaves items g)))
          ≡ deduplicated (unaccepted G ws ++ unaccepted G (signatures_at suite group_id g.tree (fresh_leaves items g)))
      fresh_alike =
          left_out suite group_id g.tree (is_fresh_leaf g.added g.tree) (unaccepted G ws) (new_leaves items g) (covered (new_leaves items g) (all_in_itself (new_leaves items g)))

  -- ---- messages

  -- what is left of two lists is alike
  abbrev Alike : List SignatureToVerify → List SignatureToVerify → Type 0
  Alike xs ys = deduplicated (unaccepted G xs) ≡ deduplicated (unaccepted G ys)

  module _ (context : GroupContext) (known : List KnownProposal) (accepted : are_pending_accepted G context known ≡ true) (t : Tree) where
    -- the signatures of a list behind those of its frame, those of its entries, and before that of a path
    applied_alike : (i : ℕ) (c : Commit) (items : List ListItem) (frame : List SignatureToVerify) → resolved (senders.Member i) known c.proposals ≡ Some items
        → (o : Option AppliedTree) → outcome items t ≡ o
        → Alike (frame ++ (entries_signatures context (senders.Member i) c.proposals ++ applied_list_signatures new_leaves context i c.path items o))
        (frame ++ (entries_signatures context (senders.Member i) c.proposals ++ applied_list_signatures fresh_leaves context i c.path items o))
    applied_alike i c items frame is None e = refl
    applied_alike i c items frame is (Some g) e =
        let values = entries_signatures context (senders.Member i) c.proposals in
        let front = frame ++ values in
        let path = path_signatures context i c.path in
        let leaves = signatures_at context.cipher_suite context.group_id g.tree in
        let met = items_met context (senders.Member i) known accepted front c.proposals items (all_behind frame values values (all_itself values)) is in
        let parts : (js : List ℕ) → unaccepted G (frame ++ (values ++ (leaves js ++ path))) ≡ (unaccepted G front ++ unaccepted G (leaves js)) ++ unaccepted G path =
        λ js. ap (unaccepted G) (sym (append_assoc frame values (leaves js ++ path))) ∙ unaccepted_three G front (leaves js) path in
        ap deduplicated (parts (new_leaves items g))
        ∙ deduplicated-behind (unaccepted G front ++ unaccepted G (leaves (new_leaves items g))) (unaccepted G front ++ unaccepted G (leaves (fresh_leaves items g))) (unaccepted G path)
        (fresh_alike context (senders.Member i) known accepted front items t g e met)
        ∙ sym (ap deduplicated (parts (fresh_leaves items g)))

    commit_alike : (i : ℕ) (c : Commit) (frame : List SignatureToVerify) (o : Option (List ListItem)) → resolved (senders.Member i) known c.proposals ≡ o
        → Alike (frame ++ list_signatures new_leaves context t i c o) (frame ++ list_signatures fresh_leaves context t i c o)
    commit_alike i c frame None is = refl
    commit_alike i c frame (Some items) is = applied_alike i c items frame is (outcome items t) refl

    module _ (a : AuthenticatedParts) where
      content_alike : (i : ℕ) (x : LeafNode) (content : Content)
          → Alike (content_signatures commit_signatures context known t a i x content) (content_signatures fresh_commit_signatures context known t a i x content)
      content_alike i x (contents.Application sent) = refl
      content_alike i x (contents.Proposal p) = refl
      content_alike i x (contents.Commit c) =
          commit_alike i c (framed_content_signatures context x.signature_key a) (resolved (senders.Member i) known c.proposals) refl

      member_alike : (i : ℕ) (o : Option LeafNode)
          → Alike (member_signatures commit_signatures context known t a i o) (member_signatures fresh_commit_signatures context known t a i o)
      member_alike i None = refl
      member_alike i (Some x) = content_alike i x a.content.content

      sender_alike : (profile : Profile) (sender : Sender)
          → Alike (sender_signatures commit_signatures profile context known t a sender) (sender_signatures fresh_commit_signatures profile context known t a sender)
      sender_alike profile (senders.Member i) = member_alike i (leaf_at 0 t i)
      sender_alike profile (senders.External k) = refl
      sender_alike profile senders.NewMemberProposal = refl
      sender_alike profile senders.NewMemberCommit = refl

    given_alike : (b : Bool) (xs ys : List SignatureToVerify) → Alike xs ys → Alike (if b then xs else []) (if b then ys else [])
    given_alike true xs ys h = h
    given_alike false xs ys h = refl

    message_alike : (profile : Profile) (m : Message)
        → Alike (all_message_signatures commit_signatures profile context known t m) (all_message_signatures fresh_commit_signatures profile context known t m)
    message_alike profile (messages.Public m) =
        given_alike (bytes_eq m.auth.content.group_id context.group_id && m.auth.content.epoch == context.epoch)
        (sender_signatures commit_signatures profile context known t m.auth m.auth.content.sender)
        (sender_signatures fresh_commit_signatures profile context known t m.auth m.auth.content.sender)
        (sender_alike m.auth profile m.auth.content.sender)
    message_alike profile (messages.Unread w b) = refl
    message_alike profile (messages.GroupInfo g) = refl
    message_alike profile (messages.KeyPackage k) = refl

pub fresh_signatures_suffice : FreshSignaturesSuffice
fresh_signatures_suffice G profile context known t m accepted =
    unaccepted_deduplicated G (all_message_signatures commit_signatures profile context known t m)
    ∙ message_alike G context known accepted t profile m
    ∙ sym (unaccepted_deduplicated G (all_message_signatures fresh_commit_signatures profile context known t m))
