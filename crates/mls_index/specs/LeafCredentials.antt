-- What the leaves of a tree say of credential types (RFC 9420, 5.3 and 7.2), by leaf index. Used by contracts.
use Rattle.std.specs.Prelude.{◌≡◌, ℕ, ◌==◌, false, not, List, [], ◌∷◌, Option, Some, None, slice_index_or, slice_set}
use Rattle.mls_nodes.specs.declared.leaf.LeafNode.{LeafNode}
use Rattle.mls_tree.specs.Tree.{Tree, leaf_at}
use Rattle.mls_check.specs.LeafValidation.{credential_type, supports_credential}
pub use Rattle.mls_index.specs.declared.leaf_credentials.LeafClass.{LeafClass}

-- `blank_class` is the class of a blank leaf.
abbrev pub blank_class : LeafClass
blank_class = record { has_basic = false; has_x509 = false; lacks_basic = false; lacks_x509 = false }

-- `class_of x` is the class of a leaf: which credential type it has, and which it does not support.
abbrev pub class_of : Option LeafNode → LeafClass
class_of None = blank_class
class_of (Some x) = record {
  has_basic = credential_type x.credential == 1;
  has_x509 = credential_type x.credential == 2;
  lacks_basic = not (supports_credential x 1);
  lacks_x509 = not (supports_credential x 2);
}

-- `class_at classes i` is the class in a list for leaf i. After the end of the list leaves are blank.
abbrev pub class_at : List LeafClass → ℕ → LeafClass
class_at classes i = slice_index_or classes i blank_class

-- `AreClassesOf t classes`: the list has the classes of the leaves of the tree.
pub record AreClassesOf (t : Tree) (classes : List LeafClass) : Type 0 where
  pub at : (i : ℕ) → class_at classes i ≡ class_of (leaf_at 0 t i)

-- `classes_before replaced classes` is the list before some replacements, each an index and the previous class. The
-- last one is undone first.
abbrev pub classes_before : List (ℕ × LeafClass) → List LeafClass → List LeafClass
classes_before [] classes = classes
classes_before (e ∷ replaced) classes = slice_set (classes_before replaced classes) e.0 e.1
