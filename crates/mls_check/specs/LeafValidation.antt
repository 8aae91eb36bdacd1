-- Leaf node validation (RFC 9420, 7.3): five rules for each non-blank leaf of a tree. G is the verification function of
-- a checker. Used by contracts.
use Rattle.std.specs.Prelude.{◌≡◌, ◌≢◌, ◌↔◌, ℕ, ◌+◌, ◌<◌, ◌==◌, Bool, true, false, ◌&&◌, ◌||◌, not, nat_le, nat_lt, if◌then◌else◌, List, [], ◌∷◌, Option, Some, None, option_map, codes, ◌⊎◌}
use Rattle.std.specs.List.{list_all, list_any}
use Rattle.std.specs.Str.{bytes_eq}
use Rattle.mls_nodes.specs.declared.credential.Credential.{Credential}
use Rattle.mls_nodes.specs.declared.credential.Credential.TheVariants.{Basic, X509}
use Rattle.mls_nodes.specs.declared.leaf.LeafNode.{LeafNode}
use Rattle.mls_nodes.specs.declared.required_capabilities.RequiredCapabilities.{RequiredCapabilities}
use Rattle.mls_nodes.specs.LeafNodeTBS.{leaf_tbs}
use Rattle.mls_tree.specs.Tree.{Tree, leaf, branch, leaf_count, leaf_at}
use Rattle.mls_tree.specs.BlankLeaves.{first_of}
use Rattle.mls_check.specs.Signatures.{VerifyFn, is_signed_text}
use Rattle.mls_check.specs.declared.members.MemberFault.{MemberFault}
use Rattle.mls_check.specs.declared.members.MemberFault.TheVariants.{ExtensionUnlisted, RequirementUnmet, CredentialUnsupported, SignatureKeyRepeated, LeafSignature, OutOfMemory}

-- `all_leaves test first t`: the test holds of each non-blank leaf and its leaf index, in a tree whose first leaf is
-- `first`.
abbrev pub all_leaves : (ℕ → LeafNode → Bool) → ℕ → Tree → Bool
all_leaves test first (leaf None) = true
all_leaves test first (leaf (Some x)) = test first x
all_leaves test first (branch l _ r) = all_leaves test first l && all_leaves test (first + leaf_count l) r

-- `contains_code listed code`: the code is in the list.
abbrev pub contains_code : List ℕ → ℕ → Bool
contains_code listed code = list_any (λ x. x == code) listed

-- `is_default_extension kind`: it is one of the extension types 1 to 5, which need not be listed (RFC 9420, 7.2).
abbrev pub is_default_extension : ℕ → Bool
is_default_extension kind = nat_lt 0 kind && nat_le kind 5

-- `is_default_proposal kind`: it is one of the proposal types 1 to 7, which need not be listed (RFC 9420, 7.2).
abbrev pub is_default_proposal : ℕ → Bool
is_default_proposal kind = nat_lt 0 kind && nat_le kind 7

-- `supports_extension x kind`: the leaf supports the extension type, by default or by its capabilities (RFC 9420, 7.2).
abbrev pub supports_extension : LeafNode → ℕ → Bool
supports_extension x kind = is_default_extension kind || contains_code x.capabilities.extensions kind

-- `supports_proposal x kind`: the leaf supports the proposal type, by default or by its capabilities (RFC 9420, 7.2).
abbrev pub supports_proposal : LeafNode → ℕ → Bool
supports_proposal x kind = is_default_proposal kind || contains_code x.capabilities.proposals kind

-- `supports_credential x kind`: the leaf's capabilities list the credential type (RFC 9420, 7.2).
abbrev pub supports_credential : LeafNode → ℕ → Bool
supports_credential x kind = contains_code x.capabilities.credentials kind

-- Rule 1: the leaf supports the type of each of its extensions (RFC 9420, 7.3).
unfoldable pub supports_own_extensions : LeafNode → Bool
supports_own_extensions x = list_all (λ e. supports_extension x e.kind) x.extensions

-- Rule 2: the leaf supports each extension, proposal and credential type that the group requires (RFC 9420, 7.3 and
-- 11.1).
unfoldable pub supports_required : RequiredCapabilities → LeafNode → Bool
supports_required required x =
    list_all (supports_extension x) required.extensions && list_all (supports_proposal x) required.proposals && list_all (supports_credential x) required.credentials

-- `credential_type c` is the type of a credential (RFC 9420, 5.3).
abbrev pub credential_type : Credential → ℕ
credential_type (Basic _) = 1
credential_type (X509 _) = 2

-- Rule 3: the leaf supports the credential type of each non-blank leaf (RFC 9420, 7.3).
unfoldable pub supports_used_credentials : Tree → LeafNode → Bool
supports_used_credentials t x = all_leaves (λ _ other. supports_credential x (credential_type other.credential)) 0 t

-- Rule 4: no other non-blank leaf has the signature key of leaf i (RFC 9420, 7.3).
unfoldable pub has_unique_signature_key : Tree → ℕ → LeafNode → Bool
has_unique_signature_key t i x = all_leaves (λ j other. j == i || not (bytes_eq other.signature_key x.signature_key)) 0 t

-- Rule 5: the signature of leaf i over its LeafNodeTBS is good (RFC 9420, 7.2 and 7.3).
unfoldable pub is_leaf_signed : VerifyFn → ℕ → List ℕ → ℕ → LeafNode → Bool
is_leaf_signed G suite group_id i x = is_signed_text G suite x.signature_key (codes "MLS 1.0 LeafNodeTBS") (leaf_tbs x group_id i) x.signature

-- `member_rule G suite group_id required t k i x`: rule k holds of the leaf `x` with leaf index i (RFC 9420, 7.3).
-- `required` is what the group requires.
unfoldable pub member_rule : VerifyFn → ℕ → List ℕ → RequiredCapabilities → Tree → ℕ → ℕ → LeafNode → Bool
member_rule G suite group_id required t k i x =
    if k == 1 then supports_own_extensions x
    else if k == 2 then supports_required required x
    else if k == 3 then supports_used_credentials t x
    else if k == 4 then has_unique_signature_key t i x
    else if k == 5 then is_leaf_signed G suite group_id i x
    else true

-- `LeavesAreValid G suite group_id required t`: every rule holds of every non-blank leaf (RFC 9420, 7.3).
pub record LeavesAreValid (G : VerifyFn) (suite : ℕ) (group_id : List ℕ) (required : RequiredCapabilities) (t : Tree) : Type 0 where
  pub rules : (k : ℕ) → all_leaves (member_rule G suite group_id required t k) 0 t ≡ true

-- `FailsFirst test t i`: the test fails at leaf i, and at no non-blank leaf with a smaller index.
pub record FailsFirst (test : ℕ → LeafNode → Bool) (t : Tree) (i : ℕ) : Type 0 where
  pub node : LeafNode
  pub set : leaf_at 0 t i ≡ Some node
  pub fails : test i node ≡ false
  pub smaller : (j : ℕ) (other : LeafNode) → j < i → leaf_at 0 t j ≡ Some other → test j other ≡ true

-- `FailsLeafRule G suite group_id required t k i`: rule k fails at leaf i and at no smaller one, and the rules before
-- it hold of every leaf.
pub record FailsLeafRule (G : VerifyFn) (suite : ℕ) (group_id : List ℕ) (required : RequiredCapabilities) (t : Tree) (k i : ℕ) : Type 0 where
  pub first : FailsFirst (member_rule G suite group_id required t k) t i
  pub earlier : (j : ℕ) → j < k → all_leaves (member_rule G suite group_id required t j) 0 t ≡ true

-- `IsMemberFault G suite group_id required t fault`: the fault names the first rule that fails, and the smallest leaf
-- index at which it does. `OutOfMemory` says nothing.
abbrev pub IsMemberFault : VerifyFn → ℕ → List ℕ → RequiredCapabilities → Tree → MemberFault → Type 0
IsMemberFault G suite group_id required t (ExtensionUnlisted i) = FailsLeafRule G suite group_id required t 1 i
IsMemberFault G suite group_id required t (RequirementUnmet i) = FailsLeafRule G suite group_id required t 2 i
IsMemberFault G suite group_id required t (CredentialUnsupported i) = FailsLeafRule G suite group_id required t 3 i
IsMemberFault G suite group_id required t (SignatureKeyRepeated i) = FailsLeafRule G suite group_id required t 4 i
IsMemberFault G suite group_id required t (LeafSignature i) = FailsLeafRule G suite group_id required t 5 i
IsMemberFault G suite group_id required t OutOfMemory = Unit {0}

-- `member_number fault` is the number of the rule that fails; 0 for OutOfMemory.
abbrev pub member_number : MemberFault → ℕ
member_number (ExtensionUnlisted i) = 1
member_number (RequirementUnmet i) = 2
member_number (CredentialUnsupported i) = 3
member_number (SignatureKeyRepeated i) = 4
member_number (LeafSignature i) = 5
member_number OutOfMemory = 0

-- Each leaf node of a tree is valid, or some rule fails first at some leaf.
abbrev pub MembersOrFault : Type 0
MembersOrFault = (G : VerifyFn) (suite : ℕ) (group_id : List ℕ) (required : RequiredCapabilities) (t : Tree)
    → LeavesAreValid G suite group_id required t ⊎ ((k i : ℕ) × FailsLeafRule G suite group_id required t k i)

-- Valid leaf nodes and a failing rule exclude each other.
abbrev pub NoFaultOfMembers : Type 0
NoFaultOfMembers = (G : VerifyFn) (suite : ℕ) (group_id : List ℕ) (required : RequiredCapabilities) (t : Tree) (k i : ℕ)
    → FailsLeafRule G suite group_id required t k i → ¬ (LeavesAreValid G suite group_id required t)

-- At most one rule fails first, at one leaf.
abbrev pub MemberFaultIsUnique : Type 0
MemberFaultIsUnique = (G : VerifyFn) (suite : ℕ) (group_id : List ℕ) (required : RequiredCapabilities) (t : Tree) (k i l j : ℕ)
    → FailsLeafRule G suite group_id required t k i → FailsLeafRule G suite group_id required t l j → (k ≡ l) × (i ≡ j)

-- `first_failing_leaf test first t` is the smallest leaf index at which a test fails, in a tree whose first leaf is
-- `first`.
abbrev pub first_failing_leaf : (ℕ → LeafNode → Bool) → ℕ → Tree → Option ℕ
first_failing_leaf test first (leaf None) = None
first_failing_leaf test first (leaf (Some x)) = if test first x then None else Some first
first_failing_leaf test first (branch l _ r) = first_of (first_failing_leaf test first l) (first_failing_leaf test (first + leaf_count l) r)

-- `first_fault faults` is the first fault in a list.
abbrev pub first_fault : List (Option MemberFault) → Option MemberFault
first_fault [] = None
first_fault (None ∷ faults) = first_fault faults
first_fault (Some f ∷ faults) = Some f

-- `member_fault G suite group_id required t` is the fault of the leaf nodes of a tree, if there is one: the first rule
-- that fails anywhere, and the smallest leaf index at which it does (RFC 9420, 7.3).
unfoldable pub member_fault : VerifyFn → ℕ → List ℕ → RequiredCapabilities → Tree → Option MemberFault
member_fault G suite group_id required t = first_fault (
    option_map ExtensionUnlisted (first_failing_leaf (member_rule G suite group_id required t 1) 0 t) ∷
    option_map RequirementUnmet (first_failing_leaf (member_rule G suite group_id required t 2) 0 t) ∷
    option_map CredentialUnsupported (first_failing_leaf (member_rule G suite group_id required t 3) 0 t) ∷
    option_map SignatureKeyRepeated (first_failing_leaf (member_rule G suite group_id required t 4) 0 t) ∷
    option_map LeafSignature (first_failing_leaf (member_rule G suite group_id required t 5) 0 t) ∷ [])

-- `member_fault` is the fault of `IsMemberFault`.
abbrev pub FaultIsFirst : Type 0
FaultIsFirst = (G : VerifyFn) (suite : ℕ) (group_id : List ℕ) (required : RequiredCapabilities) (t : Tree) (f : MemberFault)
    → f ≢ OutOfMemory → IsMemberFault G suite group_id required t f ↔ (member_fault G suite group_id required t ≡ Some f)

-- `member_fault` is `None` if and only if every leaf node is valid.
abbrev pub MembersAreFaultless : Type 0
MembersAreFaultless = (G : VerifyFn) (suite : ℕ) (group_id : List ℕ) (required : RequiredCapabilities) (t : Tree)
    → LeavesAreValid G suite group_id required t ↔ (member_fault G suite group_id required t ≡ None)

-- `FindsFailing test t o`: `o` is the smallest leaf index at which the test fails, or `None` if it holds of each leaf.
abbrev pub FindsFailing : (ℕ → LeafNode → Bool) → Tree → Option ℕ → Type 0
FindsFailing test t None = all_leaves test 0 t ≡ true
FindsFailing test t (Some i) = FailsFirst test t i
