-- What a follower has of its group, put into buffers.
use Rattle.std.proofs.Common.{◌≡◌, ℕ, List, Option, Some, None, Err, subst}
use Rattle.mls_nodes.specs.Layout.{credential}
use Rattle.mls_nodes.specs.RatchetTreeContracts.{EncodesTree}
use Rattle.mls_nodes.specs.declared.fault.NodeFault.{NodeFault}
use Rattle.mls_nodes.specs.declared.fault.NodeFault.TheVariants as faults
use Rattle.mls_nodes.specs.declared.leaf.LeafNode.{LeafNode}
use Rattle.mls_tree.specs.Tree.{Tree, listing}
use Rattle.mls_apply.specs.declared.list_item.KnownProposal.{KnownProposal}
use Rattle.mls_c.specs.Buffers.{IsPut, ArePut}
use Rattle.mls_c.specs.GroupParts.{encoded_tree, tree_fault_number, PutsEncoding, PutsMember, PutsReference}
use Rattle.mls_c.specs.Numbers.{no_member, no_proposal}

-- a tree that is not encoded
pub not_encoded : (t : Tree) (e : NodeFault) (old new : List ℕ) (needed number : ℕ) → EncodesTree (listing t) (Err e) → number ≡ tree_fault_number e → new ≡ old → needed ≡ 0
    → PutsEncoding (encoded_tree t) old new needed number
not_encoded t (faults.Wire f) old new needed number none is same zero = PutsEncoding.over none is same zero
not_encoded t (faults.WrongNodeKind i) old new needed number none is same zero = PutsEncoding.over none is same zero
not_encoded t faults.LastBlank old new needed number none is same zero = PutsEncoding.over none is same zero
not_encoded t faults.EmptyTree old new needed number none is same zero = PutsEncoding.over none is same zero
not_encoded t faults.TooManyLeaves old new needed number none is same zero = PutsEncoding.over none is same zero
not_encoded t faults.OutOfMemory old new needed number some is same zero = PutsEncoding.runs_out is same zero

-- a leaf node, and none
pub member : (o : Option LeafNode) (x : LeafNode) (bytes c_old c_new : List ℕ) (c_needed : ℕ) (k_old k_new : List ℕ) (k_needed number : ℕ) → Some x ≡ o → credential x.credential ≡ Some bytes
    → ArePut bytes c_old c_new c_needed x.signature_key k_old k_new k_needed number → PutsMember o c_old c_new c_needed k_old k_new k_needed number
member o x bytes c_old c_new c_needed k_old k_new k_needed number is encoded put =
    subst (λ (p : Option LeafNode). PutsMember p c_old c_new c_needed k_old k_new k_needed number) is (bytes, encoded, put)

pub no_leaf : (o : Option LeafNode) (c_old c_new : List ℕ) (c_needed : ℕ) (k_old k_new : List ℕ) (k_needed number : ℕ) → None ≡ o → number ≡ no_member → c_new ≡ c_old → c_needed ≡ 0 → k_new ≡ k_old
    → k_needed ≡ 0 → PutsMember o c_old c_new c_needed k_old k_new k_needed number
no_leaf o c_old c_new c_needed k_old k_new k_needed number is a b c d e =
    subst (λ (p : Option LeafNode). PutsMember p c_old c_new c_needed k_old k_new k_needed number) is (a, b, c, d, e)

-- a pending proposal, and none
pub pending : (o : Option KnownProposal) (k : KnownProposal) (old new : List ℕ) (needed number : ℕ) → Some k ≡ o → IsPut k.reference old new needed number → PutsReference o old new needed number
pending o k old new needed number is put = subst (λ (p : Option KnownProposal). PutsReference p old new needed number) is put

pub no_pending : (o : Option KnownProposal) (old new : List ℕ) (needed number : ℕ) → None ≡ o → number ≡ no_proposal → new ≡ old → needed ≡ 0 → PutsReference o old new needed number
no_pending o old new needed number is a b c = subst (λ (p : Option KnownProposal). PutsReference p old new needed number) is (a, b, c)
