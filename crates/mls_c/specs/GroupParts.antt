-- What a follower has of its group, in buffers: encodings, members and pending proposals (RFC 9420, 5.2, 5.3, 7.2, 8.1, 12.4 and
-- 12.4.3.3). `old` and `new` are what a buffer holds before and after. Used by contracts.
use Rattle.std.specs.Prelude.{◌≡◌, ℕ, List, Option, Some, None}
use Rattle.mls_nodes.specs.Layout.{credential}
use Rattle.mls_nodes.specs.RatchetTreeEncoding.{ratchet_tree, trimmed}
use Rattle.mls_nodes.specs.declared.fault.NodeFault.{NodeFault}
use Rattle.mls_nodes.specs.declared.fault.NodeFault.TheVariants as faults
use Rattle.mls_nodes.specs.declared.leaf.LeafNode.{LeafNode}
use Rattle.mls_tree.specs.Tree.{Tree, listing}
use Rattle.mls_apply.specs.declared.list_item.KnownProposal.{KnownProposal}
use Rattle.mls_c.specs.Buffers.{IsPut, ArePut}
use Rattle.mls_c.specs.Numbers.{out_of_memory, too_long, no_member, no_proposal}

-- `encoded_tree t` is the encoding of a ratchet tree: its nodes up to the last non-blank one (12.4.3.3).
abbrev pub encoded_tree : Tree → Option (List ℕ)
encoded_tree t = ratchet_tree (trimmed (listing t))

-- `tree_fault_number fault` is the number of a tree that is not encoded for this fault.
abbrev pub tree_fault_number : NodeFault → ℕ
tree_fault_number (faults.Wire _) = too_long
tree_fault_number (faults.WrongNodeKind _) = too_long
tree_fault_number faults.LastBlank = too_long
tree_fault_number faults.EmptyTree = too_long
tree_fault_number faults.TooManyLeaves = too_long
tree_fault_number faults.OutOfMemory = out_of_memory

-- `PutsEncoding encoding old new needed number`: the encoding was put into the buffer; or there is none, and nothing was written.
pub data PutsEncoding (encoding : Option (List ℕ)) (old new : List ℕ) (needed number : ℕ) : Type 0 where
  runs_out : number ≡ out_of_memory → new ≡ old → needed ≡ 0 → PutsEncoding encoding old new needed number
  over : encoding ≡ None → number ≡ too_long → new ≡ old → needed ≡ 0 → PutsEncoding encoding old new needed number
  puts : (bytes : List ℕ) → encoding ≡ Some bytes → IsPut bytes old new needed number
      → PutsEncoding encoding old new needed number

-- `PutsMember o c_old c_new c_needed k_old k_new k_needed number`: the encoded credential (5.3) and the signature key of the leaf
-- node `o` (7.2) were put into two buffers; or there is no leaf node, and nothing was written.
abbrev pub PutsMember : Option LeafNode → List ℕ → List ℕ → ℕ → List ℕ → List ℕ → ℕ → ℕ → Type 0
PutsMember None c_old c_new c_needed k_old k_new k_needed number =
    (number ≡ no_member) × (c_new ≡ c_old) × (c_needed ≡ 0) × (k_new ≡ k_old) × (k_needed ≡ 0)
PutsMember (Some x) c_old c_new c_needed k_old k_new k_needed number =
    (bytes : List ℕ) × (credential x.credential ≡ Some bytes)
    × ArePut bytes c_old c_new c_needed x.signature_key k_old k_new k_needed number

-- `PutsReference o old new needed number`: the reference of the pending proposal `o` (5.2) was put into the buffer; or there is no
-- such proposal, and nothing was written.
abbrev pub PutsReference : Option KnownProposal → List ℕ → List ℕ → ℕ → ℕ → Type 0
PutsReference None old new needed number = (number ≡ no_proposal) × (new ≡ old) × (needed ≡ 0)
PutsReference (Some k) old new needed number = IsPut k.reference old new needed number
