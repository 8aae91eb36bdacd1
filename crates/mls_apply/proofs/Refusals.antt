-- The first rule that fails, of those for the keys of a path and of those for a path.
use Rattle.std.proofs.Common.{◌≡◌, ◌≢◌, ◌↔◌, ℕ, List, [], ◌∷◌, length, Some, None, Result, Ok, Err, Bool, true, false, refl, sym, ap, ◌∙◌, arith}
use Rattle.std.specs.Prelude.{◌==◌, ◌≤◌, nat_lt, map, option_map, reverse}
use Rattle.std.proofs.lemmas.Bool.{false≢true}
use Rattle.std.proofs.lemmas.Bool.Decides.{nat_tests}
use Rattle.std.proofs.lemmas.Option.{none-some}
use Rattle.mls_msgs.specs.declared.commit.PathNode.{PathNode}
use Rattle.mls_msgs.specs.declared.commit.UpdatePath.{UpdatePath}
use Rattle.mls_tree.specs.Tree.{Tree, leaf_count}
use Rattle.mls_tree.specs.Paths.{filtered_direct_path}
use Rattle.mls_tree.proofs.Choices.{not_less}
use Rattle.mls_apply.specs.declared.refusal.Refusal.{Refusal}
use Rattle.mls_apply.specs.declared.refusal.Refusal.TheVariants.{SenderNotMember, PathLength, PathSource, PathKeyUsed, CiphertextCount, PathParentHash}
use Rattle.mls_apply.specs.AppliedList.{AppliedTree}
use Rattle.mls_apply.specs.RuleLists.{rule}
use Rattle.mls_apply.specs.PathRules.{keys_refusal, path_refusal, path_rules, path_length, has_path_length, has_new_keys, has_ciphertexts, has_expected_hash, has_first_parent_hash, node_keys}
use Rattle.mls_apply.specs.ProposalRules.{is_from_commit}
use Rattle.mls_apply.specs.PathParents.{Change, PathParents, carried, parents_of_path}
use Rattle.mls_apply.specs.PathModel.{hash_refusal}
use Rattle.mls_apply.proofs.Routes.{expected-path_parents}
use Rattle.mls_apply.proofs.RuleLists.{no_rules, one_more, it_fails}

same_number : (a b : ℕ) → a ≡ b → (a == b) ≡ true
same_number a b e = grind (arith, nat_tests)

other_number : (a b : ℕ) → a ≢ b → (a == b) ≡ false
other_number a b e = grind (arith, nat_tests)

-- a path with a node for each place is as long as it has to be
pub path-long : (t : Tree) (i count : ℕ) (nodes all : List PathNode) (node_indices : List ℕ) → nodes ≡ all → node_indices ≡ filtered_direct_path (leaf_count t) 0 t i → length node_indices ≡ count
    → length nodes ≡ count → length all ≡ path_length t i
path-long t i count nodes all node_indices n p a b = let d = ap length n in let e = ap length p in omega arith

pub outside : (i n : ℕ) → nat_lt i n ≡ false → n ≤ i
outside i n e = grind (arith, nat_tests)

-- an error of one call is that of another
same_error : {A B : Type 0} (e f g : Refusal) → e ≡ f → ◌≡◌ {A = Result A Refusal} (Err e) (Err g) → ◌≡◌ {A = Result B Refusal} (Err f) (Err g)
same_error e f g same h = let h' : e ≡ g = cc in ap Err (sym same ∙ h')

module _ (t : Tree) (i : ℕ) (keys : List (List ℕ)) where
  -- of these refusals only the first rule's is named so
  pub keys-mapped : keys_refusal t i keys ≡ Some SenderNotMember → leaf_count t ≤ i
  unfolding keys_refusal
  keys-mapped h =
      outside i (leaf_count t)
      (it_fails SenderNotMember (nat_lt i (leaf_count t)) (rule PathLength (length keys == path_length t i) ∷ []) (one_more (λ e. cc) no_rules) h)

  pub keys-no_leaf : leaf_count t ≤ i → keys_refusal t i keys ≡ Some SenderNotMember
  unfolding keys_refusal
  keys-no_leaf e = rw (not_less i (leaf_count t) e) refl

  pub keys-other_length : nat_lt i (leaf_count t) ≡ true → length keys ≢ path_length t i → keys_refusal t i keys ≡ Some PathLength
  unfolding keys_refusal
  keys-other_length set other = let e = other_number (length keys) (path_length t i) other in rw (set, e) refl

  pub keys-kept : nat_lt i (leaf_count t) ≡ true → length keys ≡ path_length t i → keys_refusal t i keys ≡ None
  unfolding keys_refusal
  keys-kept set same = let e = same_number (length keys) (path_length t i) same in rw (set, e) refl

  -- a leaf of the tree isn't refused so
  pub keys-set : {A : Type 0} (r : Result A Refusal) → (r ≡ Err SenderNotMember → ⊥) → nat_lt i (leaf_count t) ≡ true
      → (r ≡ Err SenderNotMember) ↔ (keys_refusal t i keys ≡ Some SenderNotMember)
  keys-set r other set =
      (λ h. absurd (other h), λ h. absurd (false≢true (sym (not_less i (leaf_count t) (keys-mapped h)) ∙ set)))

  -- what a call said of the leaf is said of the keys
  pub keys-by_leaf : {A B : Type 0} (e f : Refusal) → f ≡ e → ◌≡◌ {A = Result A Refusal} (Err e) (Err SenderNotMember) ↔ (leaf_count t ≤ i)
      → ◌≡◌ {A = Result B Refusal} (Err f) (Err SenderNotMember) ↔ (keys_refusal t i keys ≡ Some SenderNotMember)
  keys-by_leaf {A} {B} e f same of_leaf =
      (λ h. keys-no_leaf (of_leaf.0 (same_error {A = B} {B = A} f e SenderNotMember same h)), λ h. same_error {A = A} {B = B} e f SenderNotMember (sym same) (of_leaf.1 (keys-mapped h)))

-- of two faults with what they hand back
pub same_fault : {A C : Type 0} (e f : Refusal) (b c : C) → ◌≡◌ {A = Result A (Refusal × C)} (Err (e, b)) (Err (f, c)) → e ≡ f
same_fault {C = C} e f b c h = let both : ◌≡◌ {A = Refusal × C} (e, b) (f, c) = cc in ap (λ (x : Refusal × C). x.0) both

module _ (g : AppliedTree) (i : ℕ) (path : UpdatePath) (H : List ℕ → List ℕ) where
  -- of these refusals only the first rule's is named so
  pub path-mapped : path_refusal H g i path ≡ Some SenderNotMember → leaf_count g.tree ≤ i
  unfolding path_refusal
  path-mapped h =
      outside i (leaf_count g.tree)
      (it_fails SenderNotMember (nat_lt i (leaf_count g.tree)) (path_rules H g i path)
      (one_more (λ e. cc) (one_more (λ e. cc) (one_more (λ e. cc) (one_more (λ e. cc) (one_more (λ e. cc) no_rules))))) h)

  pub path-no_leaf : leaf_count g.tree ≤ i → path_refusal H g i path ≡ Some SenderNotMember
  unfolding path_refusal
  path-no_leaf e = rw (not_less i (leaf_count g.tree) e) refl

  -- what a call said of the leaf is said of the path, with what it hands back
  pub path-by_leaf : {A B C : Type 0} (e : Refusal) (back : C) → ◌≡◌ {A = Result A Refusal} (Err e) (Err SenderNotMember) ↔ (leaf_count g.tree ≤ i)
      → ◌≡◌ {A = Result B (Refusal × C)} (Err (e, back)) (Err (SenderNotMember, back)) ↔ (path_refusal H g i path ≡ Some SenderNotMember)
  path-by_leaf {C = C} e back of_leaf =
      (λ h. let both : ◌≡◌ {A = Refusal × C} (e, back) (SenderNotMember, back) = cc in path-no_leaf (of_leaf.0 (λ i. Err (both i).0)), λ h. let mapped = of_leaf.1 (path-mapped h) in let same : e ≡ SenderNotMember = cc in ap (λ f. Err (f, back)) same)

  -- the same, where nothing is handed back
  pub path-by_fault : {A B : Type 0} (e f : Refusal) → f ≡ e → ◌≡◌ {A = Result A Refusal} (Err e) (Err SenderNotMember) ↔ (leaf_count g.tree ≤ i)
      → ◌≡◌ {A = Result B Refusal} (Err f) (Err SenderNotMember) ↔ (path_refusal H g i path ≡ Some SenderNotMember)
  path-by_fault {A} {B} e f same of_leaf =
      (λ h. path-no_leaf (of_leaf.0 (same_error {A = B} {B = A} f e SenderNotMember same h)), λ h. same_error {A = A} {B = B} e f SenderNotMember (sym same) (of_leaf.1 (path-mapped h)))

  -- where the tree has the leaf neither is said
  pub path-set : {P : Type 0} → (P → leaf_count g.tree ≤ i) → nat_lt i (leaf_count g.tree) ≡ true → P ↔ (path_refusal H g i path ≡ Some SenderNotMember)
  path-set none set =
      let there : leaf_count g.tree ≤ i → ⊥ = λ e. false≢true (sym (not_less i (leaf_count g.tree) e) ∙ set) in
      (λ h. absurd (there (none h)), λ h. absurd (there (path-mapped h)))

  -- a path that keeps the rules isn't refused so
  pub path-kept : {A : Type 0} (r : Result A Refusal) → (r ≡ Err SenderNotMember → ⊥) → path_refusal H g i path ≡ None
      → (r ≡ Err SenderNotMember) ↔ (path_refusal H g i path ≡ Some SenderNotMember)
  path-kept r other kept = (λ h. absurd (other h), λ h. absurd (none-some SenderNotMember (sym kept ∙ h)))

  pub path-done : {A : Type 0} (x : A) → path_refusal H g i path ≡ None → ◌≡◌ {A = Result A Refusal} (Ok x) (Err SenderNotMember) ↔ (path_refusal H g i path ≡ Some SenderNotMember)
  path-done {A} x kept = path-kept {A = A} (Ok x) (λ e. cc) kept

  module _ (set : nat_lt i (leaf_count g.tree) ≡ true) where
    pub path-other_length : length path.nodes ≢ path_length g.tree i → path_refusal H g i path ≡ Some PathLength
    unfolding path_refusal has_path_length
    path-other_length other = let e = other_number (length path.nodes) (path_length g.tree i) other in rw (set, e) refl

    module _ (long : length path.nodes ≡ path_length g.tree i) where
      pub path-no_commit : is_from_commit path.leaf_node.source ≡ false → path_refusal H g i path ≡ Some PathSource
      unfolding path_refusal has_path_length
      path-no_commit e = let l = same_number (length path.nodes) (path_length g.tree i) long in rw (set, l, e) refl

      module _ (commit : is_from_commit path.leaf_node.source ≡ true) where
        pub path-old_key : has_new_keys path g.tree ≡ false → path_refusal H g i path ≡ Some PathKeyUsed
        unfolding path_refusal has_path_length
        path-old_key e = let l = same_number (length path.nodes) (path_length g.tree i) long in rw (set, l, commit, e) refl

        module _ (new : has_new_keys path g.tree ≡ true) where
          pub path-other_count : has_ciphertexts path g i ≡ false → path_refusal H g i path ≡ Some CiphertextCount
          unfolding path_refusal has_path_length
          path-other_count e = let l = same_number (length path.nodes) (path_length g.tree i) long in rw (set, l, commit, new, e) refl

          -- all that is left is the parent hash
          pub path-checked : has_ciphertexts path g i ≡ true → path_refusal H g i path ≡ hash_refusal H path g.tree i
          unfolding path_refusal has_path_length
          path-checked e = let l = same_number (length path.nodes) (path_length g.tree i) long in rw (set, l, commit, new, e) refl

-- ---- the parent hash

-- whether a path carries the hash that comes down to its leaf
pub has_expected_hash-path_parents : (H : List ℕ → List ℕ) (path : UpdatePath) (t : Tree) (i : ℕ) (r : PathParents) (b : Bool) → parents_of_path H t i (node_keys path) ≡ Some r
    → ((hashes : List (List ℕ)) → b ≡ has_first_parent_hash path.leaf_node.source (Some (r.hash ∷ hashes))) → has_expected_hash H path t i ≡ b
unfolding has_expected_hash
has_expected_hash-path_parents H path t i r b made e =
    ap (has_first_parent_hash path.leaf_node.source) (expected-path_parents H t i (node_keys path) ∙ ap (option_map carried) made)
    ∙ sym (e (reverse (map (λ (c : Change). c.parent.parent_hash) r.changes)))

pub hash-refused : (H : List ℕ → List ℕ) (path : UpdatePath) (t : Tree) (i : ℕ) → has_expected_hash H path t i ≡ false → hash_refusal H path t i ≡ Some PathParentHash
hash-refused H path t i e = rw e refl

pub hash-kept : (H : List ℕ → List ℕ) (path : UpdatePath) (t : Tree) (i : ℕ) → has_expected_hash H path t i ≡ true → hash_refusal H path t i ≡ None
hash-kept H path t i e = rw e refl
