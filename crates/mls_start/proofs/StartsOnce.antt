-- Where a follower starts, if it does, is determined: of the eight conditions and the strict rules after them each is met by
-- what comes to a later one, and by nothing for which it fails.
use Rattle.std.proofs.Common.{◌≡◌, ◌≢◌, ◌∙◌, ℕ, ◌<◌, List, true, Option, Some, None, refl, sym, ap, subst, arith, below_none, below_more}
use Rattle.std.proofs.lemmas.Bool.{false≢true}
use Rattle.std.proofs.lemmas.Option.{none-some, same_Some}
use Rattle.mls_nodes.proofs.RequiredOnce.{Requires-one}
use Rattle.mls_nodes.proofs.Trimming.{ratchet_tree_unambiguous}
use Rattle.mls_nodes.specs.Requirements.{Requires, extension_of}
use Rattle.mls_nodes.specs.RatchetTreeEncoding.{filled}
use Rattle.mls_nodes.specs.declared.context.GroupContext.{GroupContext}
use Rattle.mls_nodes.specs.declared.extension.Extension.{Extension}
use Rattle.mls_nodes.specs.declared.leaf.LeafNode.{LeafNode}
use Rattle.mls_nodes.specs.declared.required_capabilities.RequiredCapabilities.{RequiredCapabilities}
use Rattle.mls_tree.proofs.SameListings.{RatchetTree-listing}
use Rattle.mls_tree.specs.TreeDecoding.{IsTreeOf}
use Rattle.mls_tree.specs.RatchetTree.{RatchetTree}
use Rattle.mls_tree.specs.Tree.{leaf_at}
use Rattle.mls_hash.specs.SuiteHash.{hash_of}
use Rattle.mls_hash.specs.Suites.{IsSupported}
use Rattle.mls_check.proofs.Faulted.{fault-not_valid, fault-unique}
use Rattle.mls_check.proofs.FirstFault.{fault-first, members-faultless}
use Rattle.mls_check.specs.GroupTree.{IsSupportedContext, HasTree, HasReadableRequirements, HasValidTree, HasMembers}
use Rattle.mls_check.specs.LeafValidation.{LeavesAreValid, IsMemberFault, member_fault}
use Rattle.mls_check.specs.Signatures.{VerifyFn}
use Rattle.mls_check.specs.ValidTree.{Valid, IsFirstTreeFault}
use Rattle.mls_check.specs.declared.members.MemberFault.{MemberFault}
use Rattle.mls_check.specs.declared.members.MemberFault.TheVariants as members
use Rattle.mls_msgs.specs.declared.group_info.GroupInfo.{GroupInfo}
use Rattle.mls_msgs.specs.declared.rules.Rules.{Rules}
use Rattle.mls_follow.specs.State.{State}
use Rattle.mls_follow.specs.Start.{UsesTree, IsTreeIn, HasSigner, is_info_signed, initial_state, IsStart, IsStartFault, IsStrictStartFault}
use Rattle.mls_follow.specs.declared.start_fault.StartFault.{StartFault}
use Rattle.mls_follow.specs.declared.start_fault.StartFault.TheVariants.{UnsupportedVersion, UnsupportedSuite, NoTree, RequirementsUnreadable, Tree, Member, SignerNotMember, InfoSignature, Strict, OutOfMemory}
use Rattle.mls_start.proofs.InOrder.{first_then, no_more, MetBefore, one_position, other_place}
use Rattle.mls_start.proofs.StrictStarts.{MeetsStrict, no_strict_fails, one_strict_fails}
use Rattle.mls_msgs.specs.declared.profile.Profile.{Profile}

-- ---- what is read is one

pub one_tree_of : (bytes : List ℕ) (t u : RatchetTree) → IsTreeOf bytes t → IsTreeOf bytes u → t ≡ u
one_tree_of bytes t u a b =
    let same : a.nodes ≡ b.nodes = ratchet_tree_unambiguous.once a.nodes b.nodes bytes a.is_tree.encoded b.is_tree.encoded in
    RatchetTree-listing t u (a.full ∙ ap filled same ∙ sym b.full)

one_tree_in : (body : Option (List ℕ)) (t u : RatchetTree) → IsTreeIn body t → IsTreeIn body u → t ≡ u
one_tree_in None t u a b = absurd a
one_tree_in (Some body) t u a b = one_tree_of body t u a b

pub one_tree : (supplied : Option RatchetTree) (extensions : List Extension) (t u : RatchetTree) → UsesTree supplied extensions t → UsesTree supplied extensions u → t ≡ u
one_tree (Some h) extensions t u a b = a ∙ sym b
one_tree None extensions t u a b = one_tree_in (extension_of 2 extensions) t u a b

-- ---- the rule of members that fails first is one

pub one_members_fault : (G : VerifyFn) (c d : GroupContext) (r s : RequiredCapabilities) (t u : RatchetTree) (f g : MemberFault) → c ≡ d → r ≡ s → t ≡ u
    → f ≢ members.OutOfMemory → g ≢ members.OutOfMemory → IsMemberFault G c.cipher_suite c.group_id r t.tree f → IsMemberFault G d.cipher_suite d.group_id s u.tree g → f ≡ g
one_members_fault G c d r s t u f g ec er et of og a b =
    same_Some f g (sym ((fault-first G c.cipher_suite c.group_id r t.tree f of).0 a)
    ∙ (λ i. member_fault G (ec i).cipher_suite (ec i).group_id (er i) (et i).tree)
    ∙ (fault-first G d.cipher_suite d.group_id s u.tree g og).0 b)

-- and where the leaves are members, none fails
pub no_members_fault : (G : VerifyFn) (c d : GroupContext) (r s : RequiredCapabilities) (t u : RatchetTree) (f : MemberFault) → c ≡ d → r ≡ s → t ≡ u
    → f ≢ members.OutOfMemory → IsMemberFault G c.cipher_suite c.group_id r t.tree f → LeavesAreValid G d.cipher_suite d.group_id s u.tree → ⊥
no_members_fault G c d r s t u f ec er et of a m =
    none-some f (sym ((members-faultless G d.cipher_suite d.group_id s u.tree).0 m)
    ∙ (λ i. member_fault G (sym ec i).cipher_suite (sym ec i).group_id (sym er i) (sym et i).tree)
    ∙ (fault-first G c.cipher_suite c.group_id r t.tree f of).0 a)

-- ---- the conditions

abbrev position : StartFault → ℕ
position UnsupportedVersion = 0
position UnsupportedSuite = 1
position NoTree = 2
position RequirementsUnreadable = 3
position (Tree fault) = 4
position (Member fault) = 5
position SignerNotMember = 6
position InfoSignature = 7
position (Strict fault) = 8
position OutOfMemory = 9

module _ (asked : Rules) (G : VerifyFn) (info : GroupInfo) (supplied : Option RatchetTree) where
  abbrev H : List ℕ → List ℕ
  H = hash_of info.context.cipher_suite

  abbrev Uses : RatchetTree → Type 0
  Uses t = UsesTree supplied info.extensions t

  abbrev HasLeaf : RatchetTree → LeafNode → Type 0
  HasLeaf t x = leaf_at 0 t.tree info.signer ≡ Some x

  -- this fails first, for no want of memory
  abbrev Refuses : StartFault → Type 0
  Refuses f = (f ≢ OutOfMemory) × IsStartFault asked G info supplied f

  same_tree : (t u : RatchetTree) → Uses t → Uses u → t ≡ u
  same_tree t u a b = one_tree supplied info.extensions t u a b

  same_leaf : (t u : RatchetTree) (x y : LeafNode) → Uses t → Uses u → HasLeaf t x → HasLeaf u y → x ≡ y
  same_leaf t u x y a b p q = same_Some x y (sym p ∙ ap (λ (v : RatchetTree). leaf_at 0 v.tree info.signer) (same_tree t u a b) ∙ q)

  -- the conditions, in their order
  abbrev Met : ℕ → Type 0
  Met =
      first_then (info.context.version ≡ 1)
      (first_then (IsSupported info.context.cipher_suite)
      (first_then ((t : RatchetTree) × Uses t)
      (first_then ((r : RequiredCapabilities) × Requires info.context r)
      (first_then ((t : RatchetTree) × Uses t × Valid H info.context.tree_hash t.tree)
      (first_then ((t : RatchetTree) × (r : RequiredCapabilities) × Uses t × Requires info.context r × LeavesAreValid G info.context.cipher_suite info.context.group_id r t.tree)
      (first_then ((t : RatchetTree) × (x : LeafNode) × Uses t × HasLeaf t x)
      (first_then ((t : RatchetTree) × (x : LeafNode) × Uses t × HasLeaf t x × (is_info_signed G info x ≡ true))
      (first_then ((t : RatchetTree) × Uses t × MeetsStrict asked info t)
      no_more))))))))

  -- a condition that fails is not met
  fails : (f : StartFault) → Refuses f → Met (position f) → ⊥
  fails UnsupportedVersion (own, a) m = a m
  fails UnsupportedSuite (own, a) m = a.unsupported m
  fails NoTree (own, a) m = a.none m.0 m.1
  fails RequirementsUnreadable (own, a) m = a.none m.0 m.1
  fails (Tree f) (own, a) m =
      let e = same_tree m.0 a.tree m.1 a.readable.has_tree.uses in
      fault-not_valid H info.context.tree_hash a.tree.tree f a.not_out_of_memory a.first (subst (λ (v : RatchetTree). Valid H info.context.tree_hash v.tree) e m.2)
  fails (Member f) (own, a) m =
      no_members_fault G info.context info.context a.required m.1 a.tree m.0 f refl
      (Requires-one info.context a.required m.1 a.valid_tree.readable.requires m.3)
      (same_tree a.tree m.0 a.valid_tree.readable.has_tree.uses m.2) a.not_out_of_memory a.first m.4
  fails SignerNotMember (own, a) m =
      none-some m.1 (sym a.blank ∙ ap (λ (v : RatchetTree). leaf_at 0 v.tree info.signer) (same_tree a.tree m.0 a.has_members.valid_tree.readable.has_tree.uses m.2) ∙ m.3)
  fails InfoSignature (own, a) m =
      let e = same_leaf a.tree m.0 a.signer m.1 a.has_signer.has_members.valid_tree.readable.has_tree.uses m.2 a.has_signer.set m.3 in
      false≢true (sym a.unsigned ∙ ap (is_info_signed G info) e ∙ m.4)
  fails (Strict f) (own, a) m =
      let e = same_tree a.tree m.0 a.has_signer.has_members.valid_tree.readable.has_tree.uses m.1 in
      no_strict_fails asked info m.0 f m.2 (subst (λ (v : RatchetTree). IsStrictStartFault asked info v f) e a.fails)
  fails OutOfMemory (own, a) m = own refl

  -- what comes to a condition meets those before it

  met_version : info.context.version ≡ 1 → MetBefore Met 1
  met_version h = below_more Met 0 (below_none Met) h

  met_followed : IsSupportedContext info.context → MetBefore Met 2
  met_followed h = below_more Met 1 (met_version h.version) h.suite

  met_tree : (t : RatchetTree) → HasTree info.context (UsesTree supplied info.extensions) t → MetBefore Met 3
  met_tree t h = below_more Met 2 (met_followed h.supported) (t, h.uses)

  met_readable : (t : RatchetTree) (r : RequiredCapabilities) → HasReadableRequirements info.context (UsesTree supplied info.extensions) t r → MetBefore Met 4
  met_readable t r h = below_more Met 3 (met_tree t h.has_tree) (r, h.requires)

  met_valid : (t : RatchetTree) (r : RequiredCapabilities) → HasValidTree info.context (UsesTree supplied info.extensions) t r → MetBefore Met 5
  met_valid t r h = below_more Met 4 (met_readable t r h.readable) (t, h.readable.has_tree.uses, h.valid)

  met_members : (t : RatchetTree) (r : RequiredCapabilities) → HasMembers G info.context (UsesTree supplied info.extensions) t r → MetBefore Met 6
  met_members t r h =
      below_more Met 5 (met_valid t r h.valid_tree) (t, r, h.valid_tree.readable.has_tree.uses, h.valid_tree.readable.requires, h.members)

  met_signer : (t : RatchetTree) (x : LeafNode) → HasSigner G info supplied t x → MetBefore Met 7
  met_signer t x h =
      below_more Met 6 (met_members t h.required h.has_members) (t, x, h.has_members.valid_tree.readable.has_tree.uses, h.set)

  met_signed : (t : RatchetTree) (x : LeafNode) → HasSigner G info supplied t x → is_info_signed G info x ≡ true → MetBefore Met 8
  met_signed t x h signed =
      below_more Met 7 (met_signer t x h) (t, x, h.has_members.valid_tree.readable.has_tree.uses, h.set, signed)

  -- where a follower starts, all are met
  met_start : (profile : Profile) (s : State) → IsStart asked profile G info supplied s → MetBefore Met 9
  met_start profile s a =
      below_more Met 8 (met_signed a.tree a.signer a.has_signer a.signed)
      (a.tree, a.has_signer.has_members.valid_tree.readable.has_tree.uses, record { of_info = a.strict_info; of_tree = a.strict })

  met_before : (f : StartFault) → Refuses f → MetBefore Met (position f)
  met_before UnsupportedVersion (own, a) = below_none Met
  met_before UnsupportedSuite (own, a) = met_version a.version
  met_before NoTree (own, a) = met_followed a.supported
  met_before RequirementsUnreadable (own, a) = met_tree a.tree a.has_tree
  met_before (Tree x) (own, a) = met_readable a.tree a.required a.readable
  met_before (Member x) (own, a) = met_valid a.tree a.required a.valid_tree
  met_before SignerNotMember (own, a) = met_members a.tree a.required a.has_members
  met_before InfoSignature (own, a) = met_signer a.tree a.signer a.has_signer
  met_before (Strict x) (own, a) = met_signed a.tree a.signer a.has_signer a.signed
  met_before OutOfMemory (own, a) = absurd (own refl)

  own_position : (f : StartFault) → f ≢ OutOfMemory → position f < 9
  own_position OutOfMemory own = absurd (own refl)
  own_position _ own = omega arith

  no_fault : (profile : Profile) (s : State) (f : StartFault) → Refuses f → IsStart asked profile G info supplied s → ⊥
  no_fault profile s f a start = fails f a (met_start profile s start (position f) (own_position f a.0))

  -- two faults of one condition
  same_fault : (f g : StartFault) → position f ≡ position g → Refuses f → Refuses g → f ≡ g
  same_fault UnsupportedVersion UnsupportedVersion e a b = refl
  same_fault UnsupportedSuite UnsupportedSuite e a b = refl
  same_fault NoTree NoTree e a b = refl
  same_fault RequirementsUnreadable RequirementsUnreadable e a b = refl
  same_fault (Tree x) (Tree y) e (_, a) (_, b) =
      ap Tree (fault-unique H info.context.tree_hash a.tree.tree x y a.not_out_of_memory b.not_out_of_memory a.first
      (subst (λ (v : RatchetTree). IsFirstTreeFault H info.context.tree_hash v.tree y) (same_tree b.tree a.tree b.readable.has_tree.uses a.readable.has_tree.uses) b.first))
  same_fault (Member x) (Member y) e (_, a) (_, b) =
      ap Member (one_members_fault G info.context info.context a.required b.required a.tree b.tree x y refl
      (Requires-one info.context a.required b.required a.valid_tree.readable.requires b.valid_tree.readable.requires)
      (same_tree a.tree b.tree a.valid_tree.readable.has_tree.uses b.valid_tree.readable.has_tree.uses) a.not_out_of_memory b.not_out_of_memory a.first b.first)
  same_fault SignerNotMember SignerNotMember e a b = refl
  same_fault InfoSignature InfoSignature e a b = refl
  same_fault (Strict x) (Strict y) e (_, a) (_, b) =
      ap Strict (one_strict_fails asked info a.tree x y a.fails
      (subst (λ (v : RatchetTree). IsStrictStartFault asked info v y)
      (same_tree b.tree a.tree b.has_signer.has_members.valid_tree.readable.has_tree.uses a.has_signer.has_members.valid_tree.readable.has_tree.uses) b.fails))
  same_fault OutOfMemory OutOfMemory e a b = refl
  same_fault f g e a b = absurd (other_place (position f) (position g) refl e)

  one_fault : (f g : StartFault) → Refuses f → Refuses g → f ≡ g
  one_fault f g a b = same_fault f g (one_position position Met Refuses met_before fails f g a b) a b

  one_state : (profile : Profile) (s u : State) → IsStart asked profile G info supplied s → IsStart asked profile G info supplied u → s ≡ u
  one_state profile s u a b =
      let et = same_tree a.tree b.tree a.has_signer.has_members.valid_tree.readable.has_tree.uses b.has_signer.has_members.valid_tree.readable.has_tree.uses in
      let ei = same_Some a.interim b.interim (sym a.hashed ∙ b.hashed) in
      a.state ∙ (λ i. initial_state asked profile info (et i) (ei i)) ∙ sym b.state

pub one_start : (asked : Rules) (profile : Profile) (G : VerifyFn) (info : GroupInfo) (supplied : Option RatchetTree) (s u : State) → IsStart asked profile G info supplied s
    → IsStart asked profile G info supplied u → s ≡ u
one_start asked profile G info supplied = one_state asked G info supplied profile

pub no_fault_of_start : (asked : Rules) (profile : Profile) (G : VerifyFn) (info : GroupInfo) (supplied : Option RatchetTree) (s : State) (fault : StartFault) → fault ≢ OutOfMemory
    → IsStart asked profile G info supplied s → IsStartFault asked G info supplied fault → ⊥
no_fault_of_start asked profile G info supplied s f own start fails = no_fault asked G info supplied profile s f (own, fails) start

pub one_start_fault : (asked : Rules) (G : VerifyFn) (info : GroupInfo) (supplied : Option RatchetTree) (fault other : StartFault) → fault ≢ OutOfMemory → other ≢ OutOfMemory
    → IsStartFault asked G info supplied fault → IsStartFault asked G info supplied other → fault ≡ other
one_start_fault asked G info supplied f g own other a b = one_fault asked G info supplied f g (own, a) (other, b)
