-- The fault of the leaves of a tree, as it is computed.
use Rattle.std.proofs.Common.{◌≡◌, ◌≢◌, ◌↔◌, ℕ, zero, suc, ◌+◌, ◌<◌, ◌≤◌, Bool, true, false, List, [], ◌∷◌, Option, Some, None, inl, inr, refl, sym, ap, subst, ◌∙◌, arith}
use Rattle.std.specs.Prelude.{◌⊎◌, if◌then◌else◌, option_map}
use Rattle.std.proofs.lemmas.Bool.{cases_lt, and_parts, false≢true}
use Rattle.std.proofs.lemmas.Option.{same_Some, none-some}
use Rattle.mls_nodes.specs.declared.leaf.LeafNode.{LeafNode}
use Rattle.mls_nodes.specs.declared.required_capabilities.RequiredCapabilities.{RequiredCapabilities}
use Rattle.mls_tree.specs.Tree.{Tree, leaf, branch, leaf_count, leaf_at}
use Rattle.mls_tree.specs.BlankLeaves.{first_of}
use Rattle.mls_check.specs.Signatures.{VerifyFn}
use Rattle.mls_check.specs.LeafValidation.{all_leaves, member_rule, first_failing_leaf, first_fault, member_fault, LeavesAreValid, FailsFirst, FailsLeafRule, IsMemberFault}
use Rattle.mls_check.specs.declared.members.MemberFault.{MemberFault}
use Rattle.mls_check.specs.declared.members.MemberFault.TheVariants.{ExtensionUnlisted, RequirementUnmet, CredentialUnsupported, SignatureKeyRepeated, LeafSignature, OutOfMemory}
use Rattle.mls_check.proofs.Leaves.{leaf_at-leaf, leaf_at-left, leaf_at-right, all_leaves-from}
use Rattle.mls_check.proofs.Rules.{no_rule, no_rule_zero}
use Rattle.mls_check.proofs.CheckedTrees.{LeavesAreValid-checked}

module _ (test : ℕ → LeafNode → Bool) where
  -- where a test holds of all leaves, none fails
  pub first_failing_leaf-none : (first : ℕ) (t : Tree) → all_leaves test first t ≡ true → first_failing_leaf test first t ≡ None
  first_failing_leaf-none first (leaf None) e = refl
  first_failing_leaf-none first (leaf (Some x)) e = ap (λ (b : Bool). if b then None else Some first) e
  first_failing_leaf-none first (branch l n r) e =
      let children = and_parts (all_leaves test first l) (all_leaves test (first + leaf_count l) r) e in
      let a = first_failing_leaf-none first l children.0 in
      let b = first_failing_leaf-none (first + leaf_count l) r children.1 in
      λ i. first_of (a i) (b i)

  failing_leaf : (first : ℕ) (y : Option LeafNode) (x : LeafNode) → y ≡ Some x → test first x ≡ false → first_failing_leaf test first (leaf y) ≡ Some first
  failing_leaf first None x e f = absurd (none-some x e)
  failing_leaf first (Some z) x e f =
      let same = same_Some z x e in ap (λ (b : Bool). if b then None else Some first) (ap (test first) same ∙ f)

  -- where it fails first at one, that is the one
  found : (first : ℕ) (t : Tree) (i : ℕ) (x : LeafNode) → leaf_at first t i ≡ Some x → test i x ≡ false
      → ((j : ℕ) (y : LeafNode) → first ≤ j → j < i → leaf_at first t j ≡ Some y → test j y ≡ true) → first_failing_leaf test first t ≡ Some i
  found first (leaf y) i x e f smaller =
      let at = leaf_at-leaf first y i x e in
      failing_leaf first y x at.1 (ap (λ k. test k x) (sym at.0) ∙ f) ∙ ap (λ k. Some k) (sym at.0)
  found first (branch l n r) i x e f smaller =
      elim (cases_lt i (first + leaf_count l)) [
        | inl low ↦
            (let a = found first l i x (sym (leaf_at-left first l n r i low) ∙ e) f (λ j y from before set. smaller j y from before (leaf_at-left first l n r j (omega arith) ∙ set)) in
            ap (λ o. first_of o (first_failing_leaf test (first + leaf_count l) r)) a)
        | inr ge ↦
            (let passes = all_leaves-from test first l (λ j y from inside set. smaller j y from (omega arith) (leaf_at-left first l n r j inside ∙ set)) in
            let a = first_failing_leaf-none first l passes in
            let b = found (first + leaf_count l) r i x (sym (leaf_at-right first l n r i ge) ∙ e) f
            (λ j y from before set. smaller j y (omega arith) before (leaf_at-right first l n r j from ∙ set)) in
            λ k. first_of (a k) (b k))
      ]

  pub first_failing_leaf-found : (t : Tree) (i : ℕ) → FailsFirst test t i → first_failing_leaf test 0 t ≡ Some i
  first_failing_leaf-found t i f = found 0 t i f.node f.set f.fails (λ j y from before set. f.smaller j y before set)

module _ (G : VerifyFn) (suite : ℕ) (group_id : List ℕ) (required : RequiredCapabilities) (t : Tree) where
  abbrev failing : ℕ → Option ℕ
  failing k = first_failing_leaf (member_rule G suite group_id required t k) 0 t

  abbrev computed : Option MemberFault
  computed = member_fault G suite group_id required t

  abbrev Fails : ℕ → ℕ → Type 0
  Fails k i = FailsLeafRule G suite group_id required t k i

  none : (k l i : ℕ) → Fails k i → l < k → failing l ≡ None
  none k l i f low = first_failing_leaf-none (member_rule G suite group_id required t l) 0 t (f.earlier l low)

  one : (k i : ℕ) → Fails k i → failing k ≡ Some i
  one k i f = first_failing_leaf-found (member_rule G suite group_id required t k) t i f.first

  abbrev list : Option ℕ → Option ℕ → Option ℕ → Option ℕ → Option ℕ → Option MemberFault
  list a b c d e = first_fault (option_map ExtensionUnlisted a ∷ option_map RequirementUnmet b ∷ option_map CredentialUnsupported c ∷ option_map SignatureKeyRepeated d ∷ option_map LeafSignature e ∷ [])

  opened : computed ≡ list (failing 1) (failing 2) (failing 3) (failing 4) (failing 5)
  unfolding member_fault
  opened = refl

  fault_1 : (i : ℕ) → Fails 1 i → computed ≡ Some (ExtensionUnlisted i)
  fault_1 i f = let a = one 1 i f in opened ∙ (λ j. list (a j) (failing 2) (failing 3) (failing 4) (failing 5))

  fault_2 : (i : ℕ) → Fails 2 i → computed ≡ Some (RequirementUnmet i)
  fault_2 i f = let a = none 2 1 i f (omega arith) in let b = one 2 i f in opened ∙ (λ j. list (a j) (b j) (failing 3) (failing 4) (failing 5))

  fault_3 : (i : ℕ) → Fails 3 i → computed ≡ Some (CredentialUnsupported i)
  fault_3 i f =
      let a = none 3 1 i f (omega arith) in let b = none 3 2 i f (omega arith) in let c = one 3 i f in
      opened ∙ (λ j. list (a j) (b j) (c j) (failing 4) (failing 5))

  fault_4 : (i : ℕ) → Fails 4 i → computed ≡ Some (SignatureKeyRepeated i)
  fault_4 i f =
      let a = none 4 1 i f (omega arith) in let b = none 4 2 i f (omega arith) in let c = none 4 3 i f (omega arith) in let d = one 4 i f in
      opened ∙ (λ j. list (a j) (b j) (c j) (d j) (failing 5))

  fault_5 : (i : ℕ) → Fails 5 i → computed ≡ Some (LeafSignature i)
  fault_5 i f =
      let a = none 5 1 i f (omega arith) in let b = none 5 2 i f (omega arith) in let c = none 5 3 i f (omega arith) in let d = none 5 4 i f (omega arith) in
      let e = one 5 i f in
      opened ∙ (λ j. list (a j) (b j) (c j) (d j) (e j))

  faultless : LeavesAreValid G suite group_id required t → computed ≡ None
  faultless m =
      let a = first_failing_leaf-none (member_rule G suite group_id required t 1) 0 t (m.rules 1) in
      let b = first_failing_leaf-none (member_rule G suite group_id required t 2) 0 t (m.rules 2) in
      let c = first_failing_leaf-none (member_rule G suite group_id required t 3) 0 t (m.rules 3) in
      let d = first_failing_leaf-none (member_rule G suite group_id required t 4) 0 t (m.rules 4) in
      let e = first_failing_leaf-none (member_rule G suite group_id required t 5) 0 t (m.rules 5) in
      opened ∙ (λ j. list (a j) (b j) (c j) (d j) (e j))

  -- the fault that is told is the one that is computed
  determined : (f : MemberFault) → f ≢ OutOfMemory → IsMemberFault G suite group_id required t f → computed ≡ Some f
  determined (ExtensionUnlisted i) own h = fault_1 i h
  determined (RequirementUnmet i) own h = fault_2 i h
  determined (CredentialUnsupported i) own h = fault_3 i h
  determined (SignatureKeyRepeated i) own h = fault_4 i h
  determined (LeafSignature i) own h = fault_5 i h
  determined OutOfMemory own h = absurd (own refl)

  abbrev Known : Type 0
  Known = (f : MemberFault) × (f ≢ OutOfMemory) × (computed ≡ Some f) × IsMemberFault G suite group_id required t f

  passed : (k i : ℕ) → Fails k i → ((x : LeafNode) → member_rule G suite group_id required t k i x ≡ true) → ⊥
  passed k i f passes = false≢true (sym f.first.fails ∙ passes f.first.node)

  -- a rule that fails first is one of the five
  known : (k i : ℕ) → Fails k i → Known
  known zero i f = absurd (passed 0 i f (λ x. no_rule_zero G suite group_id required t i x))
  known (suc zero) i f = (ExtensionUnlisted i, (λ e. cc), fault_1 i f, f)
  known (suc (suc zero)) i f = (RequirementUnmet i, (λ e. cc), fault_2 i f, f)
  known (suc (suc (suc zero))) i f = (CredentialUnsupported i, (λ e. cc), fault_3 i f, f)
  known (suc (suc (suc (suc zero)))) i f = (SignatureKeyRepeated i, (λ e. cc), fault_4 i f, f)
  known (suc (suc (suc (suc (suc zero))))) i f = (LeafSignature i, (λ e. cc), fault_5 i f, f)
  known (suc (suc (suc (suc (suc (suc k)))))) i f =
      absurd (passed (suc (suc (suc (suc (suc (suc k)))))) i f (λ x. no_rule G suite group_id required t (suc (suc (suc (suc (suc (suc k)))))) i x (omega arith)))

  computed-determined : (f : MemberFault) → computed ≡ Some f → IsMemberFault G suite group_id required t f
  computed-determined f e =
      elim (LeavesAreValid-checked G suite group_id required t) [
        | inl members ↦ absurd (none-some f (sym (faultless members) ∙ e))
        | inr fails ↦
            (let there = known fails.0 fails.1 fails.2 in
            subst (λ (g : MemberFault). IsMemberFault G suite group_id required t g) (same_Some there.0 f (sym there.2 ∙ e)) there.3)
      ]

  computed-none : computed ≡ None → LeavesAreValid G suite group_id required t
  computed-none e =
      elim (LeavesAreValid-checked G suite group_id required t) [
        | inl members ↦ members
        | inr fails ↦ (let there = known fails.0 fails.1 fails.2 in absurd (none-some there.0 (sym e ∙ there.2)))
      ]

  -- the leaves are members, or some fault is told of them
  pub LeavesAreValid-or_determined : LeavesAreValid G suite group_id required t
      ⊎ ((f : MemberFault) × (f ≢ OutOfMemory) × IsMemberFault G suite group_id required t f)
  LeavesAreValid-or_determined =
      elim (LeavesAreValid-checked G suite group_id required t) [
        | inl members ↦ inl members
        | inr fails ↦ (let there = known fails.0 fails.1 fails.2 in inr (there.0, there.1, there.3))
      ]

pub fault-first : (G : VerifyFn) (suite : ℕ) (group_id : List ℕ) (required : RequiredCapabilities) (t : Tree) (f : MemberFault)
    → f ≢ OutOfMemory → IsMemberFault G suite group_id required t f ↔ (member_fault G suite group_id required t ≡ Some f)
fault-first G suite group_id required t f own = (determined G suite group_id required t f own, computed-determined G suite group_id required t f)

pub members-faultless : (G : VerifyFn) (suite : ℕ) (group_id : List ℕ) (required : RequiredCapabilities) (t : Tree)
    → LeavesAreValid G suite group_id required t ↔ (member_fault G suite group_id required t ≡ None)
members-faultless G suite group_id required t = (faultless G suite group_id required t, computed-none G suite group_id required t)
