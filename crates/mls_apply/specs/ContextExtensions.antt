-- GroupContextExtensions proposals in a proposal list (RFC 9420, 12.1.7 and 12.3). Used by contracts.
use Rattle.std.specs.Prelude.{if◌then◌else◌, not, is_some, List, [], ◌∷◌, Bool, true, Option, Some, None, unwrap_or}
use Rattle.std.specs.List.{list_any}
use Rattle.mls_nodes.specs.declared.extension.Extension.{Extension}
use Rattle.mls_msgs.specs.declared.proposal.Proposal.{Proposal}
use Rattle.mls_msgs.specs.declared.proposal.Proposal.TheVariants.{Add, Update, Remove, ContextExtensions, PreSharedKey, ReInit, ExternalInit}
use Rattle.mls_apply.specs.declared.list_item.ListItem.{ListItem}

-- `extensions_of p` is the extensions of a GroupContextExtensions proposal (RFC 9420, 12.1.7).
abbrev pub extensions_of : Proposal → Option (List Extension)
extensions_of (Add _) = None
extensions_of (Update _) = None
extensions_of (Remove _) = None
extensions_of (ContextExtensions extensions) = Some extensions
extensions_of (PreSharedKey extensions) = None
extensions_of (ReInit extensions) = None
extensions_of (ExternalInit extensions) = None

-- `is_context_extensions x`: the item is a GroupContextExtensions proposal.
abbrev pub is_context_extensions : ListItem → Bool
is_context_extensions x = is_some (extensions_of x.proposal)

-- `has_one_context_extensions items`: the list has at most one GroupContextExtensions proposal (RFC 9420, 12.2).
abbrev pub has_one_context_extensions : List ListItem → Bool
has_one_context_extensions [] = true
has_one_context_extensions (x ∷ xs) = if is_context_extensions x then not (list_any is_context_extensions xs) else has_one_context_extensions xs

-- `first_some x rest` is `x`, or `rest` if `x` is `None`.
abbrev pub first_some : Option (List Extension) → Option (List Extension) → Option (List Extension)
first_some (Some extensions) rest = Some extensions
first_some None rest = rest

-- `proposed_extensions items` is the extensions of the first GroupContextExtensions proposal of the list.
abbrev pub proposed_extensions : List ListItem → Option (List Extension)
proposed_extensions [] = None
proposed_extensions (x ∷ xs) = first_some (extensions_of x.proposal) (proposed_extensions xs)

-- `new_extensions present items` is the extensions of the next GroupContext: those that the list proposes, else the
-- current ones (RFC 9420, 12.1.7).
abbrev pub new_extensions : List Extension → List ListItem → List Extension
new_extensions present items = unwrap_or (proposed_extensions items) present
