-- The KeyPackageRefs of KeyPackages (RFC 9420, 5.2), and of the Adds of a proposal list (12.4.3.1). `items` is the list, with
-- the sender of each proposal. `hash_of` names a hash function for each number: for a suite other than 1 to 7 it is that of 3
-- if the number is 0, and that of 7 if it is greater. Used by contracts.
use Rattle.std.specs.Prelude.{ℕ, List, [], ◌∷◌, ◌++◌, Option, Some, None, option_map, option_and_then, codes}
use Rattle.mls_hash.specs.SuiteHash.{hash_of, ref_hash_input}
use Rattle.mls_msgs.specs.Layout.{key_package}
use Rattle.mls_msgs.specs.declared.key_package.KeyPackage.{KeyPackage}
use Rattle.mls_msgs.specs.declared.proposal.Proposal.{Proposal}
use Rattle.mls_msgs.specs.declared.proposal.Proposal.TheVariants.{Add, Update, Remove, ContextExtensions, PreSharedKey, ReInit, ExternalInit}
use Rattle.mls_apply.specs.declared.list_item.ListItem.{ListItem}

-- The label of a KeyPackageRef, which is the hash of the KeyPackage (RFC 9420, 5.2).
abbrev pub package_reference_label : List ℕ
package_reference_label = codes "MLS 1.0 KeyPackage Reference"

-- `package_ref k` is the KeyPackageRef of the KeyPackage `k` (RFC 9420, 5.2), by the hash function of its own cipher suite.
-- `None` if it has no encoding (or its RefHashInput has none).
abbrev pub package_ref : KeyPackage → Option (List ℕ)
package_ref k =
    option_and_then
    (λ value. option_map (hash_of k.cipher_suite) (ref_hash_input package_reference_label value))
    (key_package k)

-- `reference_list reference` is the list of a KeyPackageRef, empty if there is none.
abbrev pub reference_list : Option (List ℕ) → List (List ℕ)
reference_list None = []
reference_list (Some reference) = reference ∷ []

-- `item_references p` is the KeyPackageRef of the KeyPackage of a proposal, if it is an Add and its KeyPackage has one. Else
-- it is empty.
abbrev pub item_references : Proposal → List (List ℕ)
item_references (Add k) = reference_list (package_ref k)
item_references (Update _) = []
item_references (Remove _) = []
item_references (ContextExtensions _) = []
item_references (PreSharedKey _) = []
item_references (ReInit _) = []
item_references (ExternalInit _) = []

-- `added_references items` is the KeyPackageRefs of the Adds of a proposal list, in its order (RFC 9420, 12.4.3.1). An Add
-- whose KeyPackage has no encoding has none.
abbrev pub added_references : List ListItem → List (List ℕ)
added_references [] = []
added_references (x ∷ xs) = item_references x.proposal ++ added_references xs
