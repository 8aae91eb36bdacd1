-- To any arguments there is an answer that is no want of memory.
use Rattle.std.proofs.Common.{◌≡◌, ◌⊎◌, ℕ, List, [], ◌∷◌, length, Bool, true, false, Option, Some, None, IsSome, refl, ap, ◌∙◌, inl, inr, arith}
use Rattle.std.specs.Prelude.{◌==◌, nat_lt, All, reverse}
use Rattle.std.proofs.lemmas.Bool.Decides.{nat_tests}
use Rattle.std.proofs.lemmas.List.{length-reverse}
use Rattle.mls_wire.specs.EncodedSizes.{vector_some}
use Rattle.mls_wire.specs.Encoding.{vector}
use Rattle.mls_msgs.specs.declared.commit.UpdatePath.{UpdatePath}
use Rattle.mls_tree.specs.Tree.{Tree, leaf_count}
use Rattle.mls_tree.specs.TreeHash.{tree_hash}
use Rattle.mls_apply.specs.declared.fault.ApplyFault.{ApplyFault}
use Rattle.mls_apply.specs.declared.fault.ApplyFault.TheVariants.{TooManyLeaves, NoSuchLeaf}
use Rattle.mls_apply.specs.declared.list_item.ListItem.{ListItem}
use Rattle.mls_apply.specs.declared.refusal.Refusal.{Refusal}
use Rattle.mls_apply.specs.declared.refusal.Refusal.TheVariants.{UnknownReference, SenderNotMember, PathLength, OutOfMemory}
use Rattle.mls_apply.specs.ResultsExist.{HasResult, ItemsExists, ListAnswerExists, ProposalAnswerExists, FailsList, OutcomeExists, HashesExists, MergeExists}
use Rattle.mls_apply.specs.ResolvedList.{resolved}
use Rattle.mls_apply.specs.ListRules.{list_rules, list_refusal}
use Rattle.mls_apply.specs.MergePath.{expected_hashes, merged}
use Rattle.mls_apply.specs.AppliedList.{AppliedTree, without_adds, outcome}
use Rattle.mls_apply.specs.PathRules.{keys_refusal, path_length, path_refusal, path_rules, node_keys}
use Rattle.mls_apply.specs.ProposalRules.{checked_rules, checked_refusal}
use Rattle.mls_apply.specs.RuleLists.{Rule, rule, first_failing}
use Rattle.mls_apply.proofs.Expected.{hashes_there, path_merged}
use Rattle.mls_apply.proofs.Making.{All-reverse}
use Rattle.mls_apply.proofs.Refusals.{outside, keys-no_leaf, keys-other_length, keys-kept}
use Rattle.mls_apply.proofs.RuleLists.{AreKept, passed, AreOthers, no_rules, one_more}
use Rattle.mls_apply.proofs.Encodings.{taken_out, put_back}

-- an answer by rules of which none is named want of memory
checked : {A : Type 0} (Right : A → Type 0) (rs : List (Rule Refusal)) → AreOthers OutOfMemory rs → (first_failing rs ≡ None → (x : A) × Right x)
    → HasResult Right (λ e. first_failing rs ≡ Some e)
checked {A} Right rs others right = go (first_failing rs) refl
  where
    go : (o : Option Refusal) → first_failing rs ≡ o → HasResult Right (λ e. first_failing rs ≡ Some e)
    go None e = inl (right e)
    go (Some refusal) e = inr (refusal, λ memory. others.never (e ∙ ap Some memory), e)

pub some_items : ItemsExists
some_items committer known entries = go (resolved committer known entries) refl
  where
    go : (o : Option (List ListItem)) → resolved committer known entries ≡ o
        → HasResult (λ items. resolved committer known entries ≡ Some items) (λ e. (e ≡ UnknownReference) × (resolved committer known entries ≡ None))
    go None e = inr (UnknownReference, λ h. absurd cc, (refl, e))
    go (Some items) e = inl (items, e)

pub some_list_answer : ListAnswerExists
unfolding list_refusal
some_list_answer committer items has_path =
    checked (λ _. list_refusal committer items has_path ≡ None) (list_rules committer items has_path)
    (one_more (λ e. cc) (one_more (λ e. cc) (one_more (λ e. cc) (one_more (λ e. cc) (one_more (λ e. cc) (one_more (λ e. cc) (one_more (λ e. cc) no_rules)))))))
    (λ kept. (tt, kept))

pub some_proposal_answer : ProposalAnswerExists
unfolding checked_refusal
some_proposal_answer G context t sender p =
    checked (λ _. checked_refusal G context t sender p ≡ None) (checked_rules G context t sender p)
    (one_more (λ e. cc) (one_more (λ e. cc) (one_more (λ e. cc) (one_more (λ e. cc) (one_more (λ e. cc) (one_more (λ e. cc) (one_more (λ e. cc)
    (one_more (λ e. cc) no_rules)))))))) (λ kept. (tt, kept))

pub some_outcome : OutcomeExists
some_outcome items t = go (without_adds items t) refl (outcome items t) refl
  where
    go : (o : Option Tree) → without_adds items t ≡ o → (p : Option AppliedTree) → outcome items t ≡ p
        → ((g : AppliedTree) × (outcome items t ≡ Some g)) ⊎ ((e : ApplyFault) × FailsList items t e)
    go o e (Some g) f = inl (g, f)
    go None e None f = inr (NoSuchLeaf, inl (refl, e))
    go (Some u) e None f = inr (TooManyLeaves, inr (refl, put_back (without_adds items t) u e, f))

-- ---- paths

module _ (H : List ℕ → List ℕ) (t : Tree) (committer : ℕ) (keys : List (List ℕ)) (short : (m : List ℕ) → IsSome (vector (H m))) (there : IsSome (tree_hash H 0 t))
    (written : All (λ k. IsSome (vector k)) keys) where
  expected : length keys ≡ path_length t committer → IsSome (expected_hashes H t committer keys)
  expected long =
      hashes_there H short (leaf_count t) committer 0 t [] (reverse keys) there (vector_some [] (omega arith)) (All-reverse (λ k. IsSome (vector k)) keys written) (length-reverse keys ∙ long)

  hashes : (b : Bool) → nat_lt committer (leaf_count t) ≡ b → (c : Bool) → (length keys == path_length t committer) ≡ c
      → HasResult (λ hashes. (keys_refusal t committer keys ≡ None) × (expected_hashes H t committer keys ≡ Some hashes)) (λ e. keys_refusal t committer keys ≡ Some e)
  hashes false e c f = inr (SenderNotMember, λ h. absurd cc, keys-no_leaf t committer keys (outside committer (leaf_count t) e))
  hashes true e false f =
      inr (PathLength, λ h. absurd cc, keys-other_length t committer keys e (λ (same : length keys ≡ path_length t committer). absurd (grind (arith, nat_tests))))
  hashes true e true f =
      let same : length keys ≡ path_length t committer = grind (arith, nat_tests) in
      let found = taken_out (expected_hashes H t committer keys) (expected same) in
      inl (found.0, (keys-kept t committer keys e same, found.1))

pub some_hashes : HashesExists
some_hashes H t committer keys short there written =
    hashes H t committer keys short there written (nat_lt committer (leaf_count t)) refl (length keys == path_length t committer) refl

path_merge : (H : List ℕ → List ℕ) (g : AppliedTree) (committer : ℕ) (path : UpdatePath) → path_refusal H g committer path ≡ None
    → IsSome (merged H g.tree committer path.leaf_node (node_keys path))
unfolding path_refusal
path_merge H g committer path kept =
    let a : AreKept (rule SenderNotMember (nat_lt committer (leaf_count g.tree)) ∷ path_rules H g committer path) = record { none = kept } in
    let b = passed a in
    let c = passed b.1 in
    let d = passed c.1 in
    let e = passed d.1 in
    let f = passed e.1 in
    let h = passed f.1 in
    path_merged H path g.tree committer h.0

pub some_merge : MergeExists
unfolding path_refusal
some_merge H g committer path =
    checked (λ new. (path_refusal H g committer path ≡ None) × (merged H g.tree committer path.leaf_node (node_keys path) ≡ Some new))
    (rule SenderNotMember (nat_lt committer (leaf_count g.tree)) ∷ path_rules H g committer path)
    (one_more (λ e. cc) (one_more (λ e. cc) (one_more (λ e. cc) (one_more (λ e. cc) (one_more (λ e. cc) (one_more (λ e. cc) no_rules))))))
    (λ kept. let new = taken_out (merged H g.tree committer path.leaf_node (node_keys path)) (path_merge H g committer path kept) in (new.0, (kept, new.1)))
