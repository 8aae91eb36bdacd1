-- What is found of the inputs of a report is determined: of the conditions each is met by what comes to a later one, and by nothing
-- for which it fails.
use Rattle.std.proofs.Common.{◌≡◌, ◌≢◌, ◌∙◌, ℕ, List, Option, Some, None, refl, sym, ap, subst, below_none, below_more}
use Rattle.mls_wire.specs.ExactTheorems.{one_value}
use Rattle.mls_nodes.proofs.RequiredOnce.{Requires-one}
use Rattle.mls_nodes.specs.Requirements.{Requires}
use Rattle.mls_nodes.specs.Layout.{group_context}
use Rattle.mls_nodes.specs.ParsingInternal.{group_context_at}
use Rattle.mls_nodes.specs.NodesExact.{group_context_exact}
use Rattle.mls_nodes.specs.declared.context.GroupContext.{GroupContext}
use Rattle.mls_nodes.specs.declared.required_capabilities.RequiredCapabilities.{RequiredCapabilities}
use Rattle.mls_tree.specs.TreeDecoding.{IsTreeOf}
use Rattle.mls_tree.specs.RatchetTree.{RatchetTree}
use Rattle.mls_hash.specs.SuiteHash.{hash_of}
use Rattle.mls_hash.specs.Suites.{IsSupported}
use Rattle.mls_check.proofs.Faulted.{fault-not_valid, fault-unique}
use Rattle.mls_check.specs.GroupTree.{IsSupportedContext, HasTree, HasReadableRequirements, HasValidTree, HasMembers}
use Rattle.mls_check.specs.LeafValidation.{LeavesAreValid}
use Rattle.mls_check.specs.Signatures.{VerifyFn}
use Rattle.mls_check.specs.ValidTree.{Valid, IsFirstTreeFault}
use Rattle.mls_msgs.specs.declared.profile.Profile.{Profile}
use Rattle.mls_msgs.specs.declared.rules.Rules.{Rules}
use Rattle.mls_msgs.specs.declared.group_info.GroupInfo.{GroupInfo}
use Rattle.mls_msgs.specs.declared.message.Message.{Message}
use Rattle.mls_msgs.specs.declared.message.Message.TheVariants as messages
use Rattle.mls_strict.proofs.FirstFaults.{no_fault_of_strict, fault_is_unique}
use Rattle.mls_strict.specs.StrictTrees.{IsStrict, IsStrictFault}
use Rattle.mls_follow.specs.Start.{IsStart, IsStartFault}
use Rattle.mls_follow.proofs.Answering.{one_message}
use Rattle.mls_follow.specs.State.{State, EncodesMessage}
use Rattle.mls_start.proofs.InOrder.{first_then, no_more, MetBefore, one_position, other_place}
use Rattle.mls_start.proofs.StartsOnce.{one_tree_of, one_members_fault, no_members_fault, one_start, no_fault_of_start, one_start_fault}
use Rattle.mls_start.specs.FindingLaws.{AreAlike, TreeFindingIsUnique}
use Rattle.mls_start.specs.StartFindings.{IsInfo, IsSupplied, IsSuppliedUnread, IsReadAs, IsStarted, IsStartFinding, started_of}
use Rattle.mls_start.specs.TreeFinding.{IsContext, IsTreeFinding}
use Rattle.mls_start.specs.declared.finding.Finding.{Finding}
use Rattle.mls_start.specs.declared.finding.Finding.TheVariants.{ContextUnreadable, InfoUnreadable, NotGroupInfo, TreeUnreadable, UnsupportedVersion, UnsupportedSuite, RequirementsUnreadable, TreeRefused, MembersRefused, TreeNotStrict, StartRefused, StateRefused, StateNotStrict, TreeValid, Starts}

-- ---- what is read is one

one_context : (bytes : List ℕ) (c d : GroupContext) → IsContext bytes c → IsContext bytes d → c ≡ d
one_context bytes c d a b = one_value group_context group_context_at group_context_exact c d bytes a.encoded b.encoded

info_in : (x y : GroupInfo) → messages.GroupInfo x ≡ messages.GroupInfo y → x ≡ y
info_in x y e = cc

pub one_info : (profile : Profile) (bytes : List ℕ) (x y : GroupInfo) → IsInfo profile bytes x → IsInfo profile bytes y → x ≡ y
one_info profile bytes x y a b = info_in x y (one_message (messages.GroupInfo x) (messages.GroupInfo y) bytes a b)

pub one_supplied : (bytes : Option (List ℕ)) (t u : Option RatchetTree) → IsSupplied bytes t → IsSupplied bytes u → t ≡ u
one_supplied None None None a b = refl
one_supplied None (Some t) u a b = absurd a
one_supplied None None (Some u) a b = absurd b
one_supplied (Some bytes) None u a b = absurd a
one_supplied (Some bytes) (Some t) None a b = absurd b
one_supplied (Some bytes) (Some t) (Some u) a b = ap (λ (x : RatchetTree). Some x) (one_tree_of bytes t u a b)

pub not_supplied : (bytes : Option (List ℕ)) (t : Option RatchetTree) → IsSuppliedUnread bytes → IsSupplied bytes t → ⊥
not_supplied None t a b = absurd a
not_supplied (Some bytes) None a b = absurd b
not_supplied (Some bytes) (Some t) a b = a b.nodes b.is_tree

-- ---- a context and a tree

abbrev tree_position : Finding → ℕ
tree_position (ContextUnreadable x) = 0
tree_position UnsupportedVersion = 1
tree_position UnsupportedSuite = 2
tree_position (TreeUnreadable x) = 3
tree_position RequirementsUnreadable = 4
tree_position (TreeRefused x) = 5
tree_position (MembersRefused x) = 6
tree_position (TreeNotStrict x) = 7
tree_position (TreeValid x) = 8
tree_position _ = 9

module _ (asked : Rules) (G : VerifyFn) (context_bytes tree_bytes : List ℕ) where
  abbrev Found : Finding → Type 0
  Found finding = IsTreeFinding asked G context_bytes tree_bytes finding

  abbrev IsGiven : GroupContext → Type 0
  IsGiven c = IsContext context_bytes c

  abbrev Uses : RatchetTree → Type 0
  Uses t = IsTreeOf tree_bytes t

  abbrev IsValid : GroupContext → RatchetTree → Type 0
  IsValid c t = Valid (hash_of c.cipher_suite) c.tree_hash t.tree

  abbrev AreMembers : GroupContext → RequiredCapabilities → RatchetTree → Type 0
  AreMembers c r t = LeavesAreValid G c.cipher_suite c.group_id r t.tree

  same_context : (c d : GroupContext) → IsGiven c → IsGiven d → c ≡ d
  same_context c d a b = one_context context_bytes c d a b

  same_tree : (t u : RatchetTree) → Uses t → Uses u → t ≡ u
  same_tree t u a b = one_tree_of tree_bytes t u a b

  same_required : (c d : GroupContext) (r s : RequiredCapabilities) → c ≡ d → Requires c r → Requires d s → r ≡ s
  same_required c d r s e a b = Requires-one d r s (subst (λ (x : GroupContext). Requires x r) e a) b

  -- the conditions, in their order
  abbrev Met : ℕ → Type 0
  Met =
      first_then ((c : GroupContext) × IsGiven c)
      (first_then ((c : GroupContext) × IsGiven c × (c.version ≡ 1))
      (first_then ((c : GroupContext) × IsGiven c × IsSupported c.cipher_suite)
      (first_then ((t : RatchetTree) × Uses t)
      (first_then ((c : GroupContext) × (r : RequiredCapabilities) × IsGiven c × Requires c r)
      (first_then ((c : GroupContext) × (t : RatchetTree) × IsGiven c × Uses t × IsValid c t)
      (first_then ((c : GroupContext) × (t : RatchetTree) × (r : RequiredCapabilities) × IsGiven c × Uses t × Requires c r × AreMembers c r t)
      (first_then ((c : GroupContext) × (t : RatchetTree) × IsGiven c × Uses t × IsStrict asked c t.tree)
      no_more)))))))

  -- a condition that fails is not met
  fails : (f : Finding) → Found f → Met (tree_position f) → ⊥
  fails (ContextUnreadable x) a m = a m.0 m.1
  fails UnsupportedVersion a m = a.2 (ap (λ (c : GroupContext). c.version) (same_context a.0 m.0 a.1 m.1) ∙ m.2)
  fails UnsupportedSuite a m = a.2.unsupported (subst (λ (c : GroupContext). IsSupported c.cipher_suite) (same_context m.0 a.0 m.1 a.1) m.2)
  fails (TreeUnreadable x) a m = a.3 m.1.nodes m.1.is_tree
  fails RequirementsUnreadable a m = a.2.none m.1 (subst (λ (c : GroupContext). Requires c m.1) (same_context m.0 a.0 m.2 a.1) m.3)
  fails (TreeRefused x) a m =
      let ec = same_context m.0 a.0 m.2 a.1 in
      let et = same_tree m.1 a.2.tree m.3 a.2.readable.has_tree.uses in
      fault-not_valid (hash_of a.0.cipher_suite) a.0.tree_hash a.2.tree.tree x a.2.not_out_of_memory a.2.first
      (subst (λ (t : RatchetTree). IsValid a.0 t) et (subst (λ (c : GroupContext). IsValid c m.1) ec m.4))
  fails (MembersRefused x) a m =
      let ec = same_context a.0 m.0 a.1 m.3 in
      let h = a.2.valid_tree.readable in
      no_members_fault G a.0 m.0 a.2.required m.2 a.2.tree m.1 x ec (same_required a.0 m.0 a.2.required m.2 ec h.requires m.5)
      (same_tree a.2.tree m.1 h.has_tree.uses m.4) a.2.not_out_of_memory a.2.first m.6
  fails (TreeNotStrict x) a m =
      let ec = same_context m.0 a.0 m.2 a.3 in
      let et = same_tree m.1 a.1 m.3 a.4.valid_tree.readable.has_tree.uses in
      no_fault_of_strict asked a.0 a.1.tree x
      (subst (λ (t : RatchetTree). IsStrict asked a.0 t.tree) et (subst (λ (c : GroupContext). IsStrict asked c m.1.tree) ec m.4)) a.5
  fails (TreeValid x) a m = absurd m
  fails _ a m = absurd a

  -- what comes to a condition meets those before it

  met_version : (c : GroupContext) → IsGiven c → MetBefore Met 1
  met_version c h = below_more Met 0 (below_none Met) (c, h)

  met_suite : (c : GroupContext) → IsGiven c → c.version ≡ 1 → MetBefore Met 2
  met_suite c h one = below_more Met 1 (met_version c h) (c, h, one)

  met_followed : (c : GroupContext) → IsGiven c → IsSupportedContext c → MetBefore Met 3
  met_followed c h followed = below_more Met 2 (met_suite c h followed.version) (c, h, followed.suite)

  met_tree : (c : GroupContext) (t : RatchetTree) → IsGiven c → HasTree c (IsTreeOf tree_bytes) t → MetBefore Met 4
  met_tree c t h x = below_more Met 3 (met_followed c h x.supported) (t, x.uses)

  met_readable : (c : GroupContext) (t : RatchetTree) (r : RequiredCapabilities) → IsGiven c → HasReadableRequirements c (IsTreeOf tree_bytes) t r → MetBefore Met 5
  met_readable c t r h x = below_more Met 4 (met_tree c t h x.has_tree) (c, r, h, x.requires)

  met_valid : (c : GroupContext) (t : RatchetTree) (r : RequiredCapabilities) → IsGiven c → HasValidTree c (IsTreeOf tree_bytes) t r → MetBefore Met 6
  met_valid c t r h x = below_more Met 5 (met_readable c t r h x.readable) (c, t, h, x.readable.has_tree.uses, x.valid)

  met_members : (c : GroupContext) (t : RatchetTree) (r : RequiredCapabilities) → IsGiven c → HasMembers G c (IsTreeOf tree_bytes) t r → MetBefore Met 7
  met_members c t r h x =
      let readable = x.valid_tree.readable in
      below_more Met 6 (met_valid c t r h x.valid_tree) (c, t, r, h, readable.has_tree.uses, readable.requires, x.members)

  met_before : (f : Finding) → Found f → MetBefore Met (tree_position f)
  met_before (ContextUnreadable x) a = below_none Met
  met_before UnsupportedVersion a = met_version a.0 a.1
  met_before UnsupportedSuite a = met_suite a.0 a.1 a.2.version
  met_before (TreeUnreadable x) a = met_followed a.0 a.1 a.2
  met_before RequirementsUnreadable a = met_tree a.0 a.2.tree a.1 a.2.has_tree
  met_before (TreeRefused x) a = met_readable a.0 a.2.tree a.2.required a.1 a.2.readable
  met_before (MembersRefused x) a = met_valid a.0 a.2.tree a.2.required a.1 a.2.valid_tree
  met_before (TreeNotStrict x) a = met_members a.0 a.1 a.2 a.3 a.4
  met_before (TreeValid x) a =
      below_more Met 7 (met_members a.0 a.1 a.2 a.3 a.4) (a.0, a.1, a.3, a.4.valid_tree.readable.has_tree.uses, a.5)
  met_before _ a = absurd a

  -- two findings of one condition
  alike : (f g : Finding) → tree_position f ≡ tree_position g → Found f → Found g → AreAlike f g
  alike (ContextUnreadable x) (ContextUnreadable y) e a b = tt
  alike UnsupportedVersion UnsupportedVersion e a b = refl
  alike UnsupportedSuite UnsupportedSuite e a b = refl
  alike (TreeUnreadable x) (TreeUnreadable y) e a b = tt
  alike RequirementsUnreadable RequirementsUnreadable e a b = refl
  alike (TreeRefused x) (TreeRefused y) e a b =
      let ec = same_context a.0 b.0 a.1 b.1 in
      let et = same_tree a.2.tree b.2.tree a.2.readable.has_tree.uses b.2.readable.has_tree.uses in
      ap TreeRefused (fault-unique (hash_of b.0.cipher_suite) b.0.tree_hash b.2.tree.tree x y a.2.not_out_of_memory b.2.not_out_of_memory
      (subst (λ (t : RatchetTree). IsFirstTreeFault (hash_of b.0.cipher_suite) b.0.tree_hash t.tree x) et
      (subst (λ (c : GroupContext). IsFirstTreeFault (hash_of c.cipher_suite) c.tree_hash a.2.tree.tree x) ec a.2.first)) b.2.first)
  alike (MembersRefused x) (MembersRefused y) e a b =
      let ec = same_context a.0 b.0 a.1 b.1 in
      let h = a.2.valid_tree.readable in
      let k = b.2.valid_tree.readable in
      ap MembersRefused (one_members_fault G a.0 b.0 a.2.required b.2.required a.2.tree b.2.tree x y ec
      (same_required a.0 b.0 a.2.required b.2.required ec h.requires k.requires)
      (same_tree a.2.tree b.2.tree h.has_tree.uses k.has_tree.uses) a.2.not_out_of_memory b.2.not_out_of_memory a.2.first b.2.first)
  alike (TreeNotStrict x) (TreeNotStrict y) e a b =
      let ec = same_context a.0 b.0 a.3 b.3 in
      let et = same_tree a.1 b.1 a.4.valid_tree.readable.has_tree.uses b.4.valid_tree.readable.has_tree.uses in
      ap TreeNotStrict (fault_is_unique asked b.0 b.1.tree x y
      (subst (λ (t : RatchetTree). IsStrictFault asked b.0 t.tree x) et
      (subst (λ (c : GroupContext). IsStrictFault asked c a.1.tree x) ec a.5)) b.5)
  alike (TreeValid x) (TreeValid y) e a b =
      let ec = same_context a.0 b.0 a.3 b.3 in
      ap TreeValid (a.6 ∙ ap (λ (c : GroupContext). c.tree_hash) ec ∙ sym b.6)
  alike (InfoUnreadable x) g e a b = absurd a
  alike NotGroupInfo g e a b = absurd a
  alike (StartRefused x) g e a b = absurd a
  alike (StateRefused x) g e a b = absurd a
  alike (StateNotStrict x) g e a b = absurd a
  alike (Starts x) g e a b = absurd a
  alike f g e a b = absurd (other_place (tree_position f) (tree_position g) refl e)

pub one_tree_finding : TreeFindingIsUnique
one_tree_finding asked G context_bytes tree_bytes f g a b =
    alike asked G context_bytes tree_bytes f g
    (one_position tree_position (Met asked G context_bytes tree_bytes) (Found asked G context_bytes tree_bytes)
    (met_before asked G context_bytes tree_bytes) (fails asked G context_bytes tree_bytes) f g a b) a b

-- ---- a group info and a tree

abbrev start_position : Finding → ℕ
start_position (InfoUnreadable x) = 0
start_position NotGroupInfo = 1
start_position (TreeUnreadable x) = 2
start_position (StartRefused x) = 3
start_position (Starts x) = 4
start_position _ = 5

module _ (asked : Rules) (profile : Profile) (G : VerifyFn) (info_bytes : List ℕ) (tree_bytes : Option (List ℕ)) where
  abbrev Begins : Finding → Type 0
  Begins finding = IsStartFinding asked profile G info_bytes tree_bytes finding

  -- two readings are of one group info and one tree
  moved : (P : GroupInfo → Option RatchetTree → Type 0) (x y : GroupInfo) (t u : Option RatchetTree) → IsReadAs profile info_bytes tree_bytes x t
      → IsReadAs profile info_bytes tree_bytes y u → P x t → P y u
  moved P x y t u a b p =
      subst (λ (h : Option RatchetTree). P y h) (one_supplied tree_bytes t u a.is_supplied b.is_supplied)
      (subst (λ (z : GroupInfo). P z t) (one_info profile info_bytes x y a.is_info b.is_info) p)

  -- the start is one
  same_start : (s u : State) → IsStarted asked profile G info_bytes tree_bytes s → IsStarted asked profile G info_bytes tree_bytes u → s ≡ u
  same_start s u a b =
      one_start asked profile G b.info b.supplied s u
      (moved (λ (x : GroupInfo) (h : Option RatchetTree). IsStart asked profile G x h s) a.info b.info a.supplied b.supplied a.is_read b.is_read a.start) b.start

  -- another message is no group info
  no_other : (m : Message) (x : GroupInfo) → EncodesMessage profile m info_bytes → ((info : GroupInfo) → m ≢ messages.GroupInfo info) → IsInfo profile info_bytes x → ⊥
  no_other m x a none b = none x (one_message m (messages.GroupInfo x) info_bytes a b)

  -- the conditions, in their order
  abbrev Ready : ℕ → Type 0
  Ready =
      first_then ((m : Message) × EncodesMessage profile m info_bytes)
      (first_then ((info : GroupInfo) × IsInfo profile info_bytes info)
      (first_then ((supplied : Option RatchetTree) × IsSupplied tree_bytes supplied)
      (first_then ((s : State) × IsStarted asked profile G info_bytes tree_bytes s)
      no_more)))

  -- a condition that fails is not met
  not_ready : (f : Finding) → Begins f → Ready (start_position f) → ⊥
  not_ready (InfoUnreadable x) a m = a m.0 m.1
  not_ready NotGroupInfo a m = no_other a.0 m.0 a.1 a.2 m.1
  not_ready (TreeUnreadable x) a m = not_supplied tree_bytes m.0 a.2 m.1
  not_ready (StartRefused x) a m =
      no_fault_of_start asked profile G a.0 a.1 m.0 x a.3
      (moved (λ (z : GroupInfo) (h : Option RatchetTree). IsStart asked profile G z h m.0) m.1.info a.0 m.1.supplied a.1 m.1.is_read a.2 m.1.start) a.4
  not_ready (Starts x) a m = absurd m
  not_ready _ a m = absurd a

  -- what comes to a condition meets those before it

  ready_info : (info : GroupInfo) → IsInfo profile info_bytes info → MetBefore Ready 2
  ready_info info h = below_more Ready 1 (below_more Ready 0 (below_none Ready) (messages.GroupInfo info, h)) (info, h)

  ready_both : (info : GroupInfo) (supplied : Option RatchetTree) → IsReadAs profile info_bytes tree_bytes info supplied → MetBefore Ready 3
  ready_both info supplied h = below_more Ready 2 (ready_info info h.is_info) (supplied, h.is_supplied)

  ready_before : (f : Finding) → Begins f → MetBefore Ready (start_position f)
  ready_before (InfoUnreadable x) a = below_none Ready
  ready_before NotGroupInfo a = below_more Ready 0 (below_none Ready) (a.0, a.1)
  ready_before (TreeUnreadable x) a = ready_info a.0 a.1
  ready_before (StartRefused x) a = ready_both a.0 a.1 a.2
  ready_before (Starts x) a = below_more Ready 3 (ready_both a.1.info a.1.supplied a.1.is_read) (a.0, a.1)
  ready_before _ a = absurd a

  -- two findings of one condition
  alike_start : (f g : Finding) → start_position f ≡ start_position g → Begins f → Begins g → AreAlike f g
  alike_start (InfoUnreadable x) (InfoUnreadable y) e a b = tt
  alike_start NotGroupInfo NotGroupInfo e a b = refl
  alike_start (TreeUnreadable x) (TreeUnreadable y) e a b = tt
  alike_start (StartRefused x) (StartRefused y) e a b =
      ap StartRefused (one_start_fault asked G b.0 b.1 x y a.3 b.3
      (moved (λ (z : GroupInfo) (h : Option RatchetTree). IsStartFault asked G z h x) a.0 b.0 a.1 b.1 a.2 b.2 a.4) b.4)
  alike_start (Starts x) (Starts y) e a b = ap Starts (a.2 ∙ ap started_of (same_start a.0 b.0 a.1 b.1) ∙ sym b.2)
  alike_start (InfoUnreadable x) g e a b = absurd (other_place 0 (start_position g) refl e)
  alike_start NotGroupInfo g e a b = absurd (other_place 1 (start_position g) refl e)
  alike_start (TreeUnreadable x) g e a b = absurd (other_place 2 (start_position g) refl e)
  alike_start (StartRefused x) g e a b = absurd (other_place 3 (start_position g) refl e)
  alike_start (Starts x) g e a b = absurd (other_place 4 (start_position g) refl e)
  alike_start _ g e a b = absurd a

pub one_start_finding : (asked : Rules) (profile : Profile) (G : VerifyFn) (info_bytes : List ℕ) (tree_bytes : Option (List ℕ)) (f g : Finding)
    → IsStartFinding asked profile G info_bytes tree_bytes f → IsStartFinding asked profile G info_bytes tree_bytes g → AreAlike f g
one_start_finding asked profile G info_bytes tree_bytes f g a b =
    alike_start asked profile G info_bytes tree_bytes f g
    (one_position start_position (Ready asked profile G info_bytes tree_bytes) (Begins asked profile G info_bytes tree_bytes)
    (ready_before asked profile G info_bytes tree_bytes) (not_ready asked profile G info_bytes tree_bytes) f g a b) a b

pub one_started : (asked : Rules) (profile : Profile) (G : VerifyFn) (info_bytes : List ℕ) (tree_bytes : Option (List ℕ)) (s u : State)
    → IsStarted asked profile G info_bytes tree_bytes s → IsStarted asked profile G info_bytes tree_bytes u → s ≡ u
one_started asked profile G info_bytes tree_bytes = same_start asked profile G info_bytes tree_bytes
