-- What the strict rules demand of a GroupContext and a ratchet tree (RFC 9420, 7.2 and 8.1). Used by contracts.
use Rattle.std.specs.Prelude.{◌≡◌, ℕ, ◌<◌, ◌⊎◌, Bool, true, false, Option, Some, None}
use Rattle.mls_nodes.specs.NodeModel.{NodeValue, leaf_node, parent_node}
use Rattle.mls_nodes.specs.declared.context.GroupContext.{GroupContext}
use Rattle.mls_tree.specs.Tree.{Tree, node_at}
use Rattle.mls_msgs.specs.Rules.{has_rule}
use Rattle.mls_msgs.specs.StrictRules.{strict_number}
use Rattle.mls_msgs.specs.declared.rules.Rules.{Rules}
use Rattle.mls_msgs.specs.declared.strict_rule.StrictRule.{StrictRule}
use Rattle.mls_msgs.specs.declared.strict_rule.StrictRule.TheVariants as rules
use Rattle.mls_strict.specs.KeyForms.{is_hpke_key, is_suite_point}
use Rattle.mls_strict.specs.LeafForms.{leaf_meets, supports_all}
use Rattle.mls_strict.specs.ContentForms.{extensions_meet}
use Rattle.mls_strict.specs.declared.strict_fault.StrictFault.{StrictFault}
use Rattle.mls_strict.specs.declared.strict_fault.StrictTreeFault.{StrictTreeFault}
use Rattle.mls_strict.specs.declared.strict_fault.StrictTreeFault.TheVariants.{Strict, OutOfMemory}

-- `tree_node_meets context r n`: the non-blank node meets the strict rule. A leaf node also supports the types of the
-- GroupContext's extensions (RFC 9420, 13.4).
abbrev pub tree_node_meets : GroupContext → StrictRule → NodeValue → Bool
tree_node_meets context rules.GroupExtensionUnsupported (leaf_node x) = supports_all context.extensions x
tree_node_meets context r (leaf_node x) = leaf_meets context.version context.cipher_suite r x
tree_node_meets context rules.KeyForm (parent_node p) = is_hpke_key context.cipher_suite p.encryption_key
tree_node_meets context rules.PointOffCurve (parent_node p) = is_suite_point context.cipher_suite p.encryption_key
tree_node_meets context r (parent_node p) = true

-- `NodesMeet context t r`: each non-blank node of the tree meets the strict rule.
abbrev pub NodesMeet : GroupContext → Tree → StrictRule → Type 0
NodesMeet context t r = (p : ℕ) (n : NodeValue) → node_at t p ≡ Some n → tree_node_meets context r n ≡ true

-- `Meets context t r`: the GroupContext's extensions and each node meet the strict rule.
pub record Meets (context : GroupContext) (t : Tree) (r : StrictRule) : Type 0 where
  pub extensions : extensions_meet r context.extensions ≡ true
  pub nodes : NodesMeet context t r

-- `IsStrict asked context t`: each strict rule of the set is met.
abbrev pub IsStrict : Rules → GroupContext → Tree → Type 0
IsStrict asked context t = (r : StrictRule) → has_rule asked (strict_number r) ≡ true → Meets context t r

-- `FailsAt context t r place`: the strict rule is not met: by the GroupContext, where there is no place; else by the node
-- with this node index, but by the GroupContext and by each node with a smaller index.
abbrev pub FailsAt : GroupContext → Tree → StrictRule → Option ℕ → Type 0
FailsAt context t r None = extensions_meet r context.extensions ≡ false
FailsAt context t r (Some place) =
    (extensions_meet r context.extensions ≡ true)
    × ((p : ℕ) (n : NodeValue) → p < place → node_at t p ≡ Some n → tree_node_meets context r n ≡ true)
    × ((n : NodeValue) × (node_at t place ≡ Some n) × (tree_node_meets context r n ≡ false))

-- `IsStrictFault asked context t fault`: the fault is the first strict rule of the set, by number, that is not met, and the
-- place where it is not.
pub record IsStrictFault (asked : Rules) (context : GroupContext) (t : Tree) (fault : StrictFault) : Type 0 where
  pub is_asked : has_rule asked (strict_number fault.rule) ≡ true
  pub fails : FailsAt context t fault.rule fault.place
  pub earlier : (r : StrictRule) → strict_number r < strict_number fault.rule → has_rule asked (strict_number r) ≡ true
      → Meets context t r

-- `IsStrictTreeFault asked context t e`: the error names that fault. `OutOfMemory` says nothing.
abbrev pub IsStrictTreeFault : Rules → GroupContext → Tree → StrictTreeFault → Type 0
IsStrictTreeFault asked context t (Strict fault) = IsStrictFault asked context t fault
IsStrictTreeFault asked context t OutOfMemory = Unit {0}

-- ---- theorems

-- A context and a tree meet the strict rules of a set, or there is a fault: never both.
abbrev pub StrictOrFault : Type 0
StrictOrFault = (asked : Rules) (context : GroupContext) (t : Tree)
    → IsStrict asked context t ⊎ ((fault : StrictFault) × IsStrictFault asked context t fault)

abbrev pub NoFaultOfStrict : Type 0
NoFaultOfStrict = (asked : Rules) (context : GroupContext) (t : Tree) (fault : StrictFault)
    → IsStrict asked context t → IsStrictFault asked context t fault → ⊥

-- A context and a tree have at most one fault by the strict rules of a set.
abbrev pub StrictFaultIsUnique : Type 0
StrictFaultIsUnique = (asked : Rules) (context : GroupContext) (t : Tree) (one other : StrictFault)
    → IsStrictFault asked context t one → IsStrictFault asked context t other → one ≡ other
