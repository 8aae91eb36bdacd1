-- What the calls that resume a follower say of the whole file.
use Rattle.std.proofs.Common.{◌≡◌, ◌≢◌, ◌∙◌, ℕ, suc, ◌+◌, ◌≤◌, List, [], ◌∷◌, length, Bool, true, false, Option, Some, None, Result, Ok, Err, IfOk, IfErr, refl, sym, ap, subst, arith}
use Rattle.std.specs.Bool.{OnTrue, OnFalse}
use Rattle.mls_wire.specs.Limits.{input_limit}
use Rattle.mls_wire.specs.ExactTheorems.{one_value}
use Rattle.mls_nodes.specs.declared.fault.NodeFault.{NodeFault}
use Rattle.mls_nodes.specs.declared.fault.NodeFault.TheVariants as nodes
use Rattle.mls_nodes.specs.declared.context.GroupContext.{GroupContext}
use Rattle.mls_nodes.specs.declared.required_capabilities.RequiredCapabilities.{RequiredCapabilities}
use Rattle.mls_tree.specs.RatchetTree.{RatchetTree}
use Rattle.mls_tree.specs.Tree as trees
use Rattle.mls_check.specs.GroupTree.{HasMembers, IsGroupTreeFault}
use Rattle.mls_check.specs.Signatures.{VerifyFn}
use Rattle.mls_check.specs.declared.group_tree.GroupTreeFault.{GroupTreeFault}
use Rattle.mls_check.specs.declared.group_tree.GroupTreeFault.TheVariants as groups
use Rattle.mls_state.specs.Layout.{state_file}
use Rattle.mls_state.specs.Parsing.{state_file_at}
use Rattle.mls_state.specs.StateExact.{state_file_exact}
use Rattle.mls_state.specs.StateFile.{HasChecksum, IsFileOf}
use Rattle.mls_state.specs.declared.file.StateFile.{StateFile}
use Rattle.mls_msgs.specs.declared.authenticated.AuthenticatedParts.{AuthenticatedParts}
use Rattle.mls_state.specs.declared.state.FollowerState.{FollowerState}
use Rattle.mls_follow.specs.GroupModel.{group_state}
use Rattle.mls_follow.specs.State.{State}
use Rattle.mls_follow.specs.AddedRules.{HasAddedRules, IsStrictRefused}
use Rattle.mls_follow.specs.declared.added_rules.StrictRefused.{StrictRefused}
use Rattle.mls_follow.specs.declared.added_rules.StrictRefused.TheVariants as refusals
use Rattle.mls_follow.specs.StoredState.{IsTreeBody, IsIntact}
use Rattle.mls_follow.specs.Resumption.{is_over, profile_of_mode, added_misfit, HoldEntries, Holds, FailsEntry, FailsStrict, HasInterim, IsPlainStateOf, IsStateOf, IsContentFault, IsUnreadableFile, HasOtherChecksum, IsResumed, IsResumeFault, base_state}
use Rattle.mls_follow.specs.ResumptionParts.{FailsStrictFrom, HasNoTree, IsKnownFault, ReadsReferences, ReadsTreeBody, resume_fault_of, resume_fault_of_strict, unreadable, IsStateFault, MakesState, state_without_pending, without_tree}
use Rattle.mls_follow.specs.declared.group.Group.{Group}
use Rattle.mls_follow.specs.declared.taken.Taken.TheVariants as takens
use Rattle.mls_follow.specs.FollowerInvariant.{HasUniqueKeysAndValidLeaves}
use Rattle.mls_follow.proofs.InvariantLemmas.{taken_checked, strict_checked}
use Rattle.mls_follow.proofs.Resumable.{entries_same}
use Rattle.mls_follow.proofs.StrictnessKept.{plain_strict}
use Rattle.mls_follow.specs.Validity.{IsValidState}
use Rattle.mls_follow.specs.declared.resume_fault.ResumeFault.{ResumeFault}
use Rattle.mls_follow.specs.declared.resume_fault.ResumeFault.TheVariants.{Unreadable, ChecksumDiffers, UnsupportedVersion, UnsupportedSuite, RequirementsUnreadable, Tree, Member, InterimLength, KnownInvalid, AddedInvalid, Strict, KnownStrict, OutOfMemory}
use Rattle.mls_msgs.specs.Rules.{plain_rules}

-- ---- entries

-- what is left of the entries decides for all
pub record Continues (G : VerifyFn) (s : State) (es : List AuthenticatedParts) (t : State) (rest : List AuthenticatedParts) (n : ℕ) : Type 0 where
  pub held : (new : State) → HoldEntries G t rest new → HoldEntries G s es new
  pub fails : (m : ℕ) → FailsEntry G t rest m → FailsEntry G s es (n + m)
  pub count : n + length rest ≡ length es
  pub checked : HasUniqueKeysAndValidLeaves G s → HasUniqueKeysAndValidLeaves G t

pub continues_first : (G : VerifyFn) (s : State) (es : List AuthenticatedParts) → Continues G s es s es 0
continues_first G s es = record {
  held = λ new h. h;
  fails = λ m h. subst (λ (k : ℕ). FailsEntry G s es k) (let e : m ≡ 0 + m = omega arith in e) h;
  count = omega arith;
  checked = λ own. own;
}

module _ (G : VerifyFn) (s : State) (es : List AuthenticatedParts) (t : State) (rest : List AuthenticatedParts) (n : ℕ) (h : Continues G s es t rest n) where
  pub continues_more : (u : State) (e : AuthenticatedParts) (tail : List AuthenticatedParts) → rest ≡ e ∷ tail → Holds G t e u → Continues G s es u tail (n + 1)
  continues_more u e tail first held = record {
    held = λ new later. h.held new (subst (λ (xs : List AuthenticatedParts). HoldEntries G t xs new) (sym first) (u, held, later));
    fails = λ m later. subst (λ (j : ℕ). FailsEntry G s es j) (let e : n + suc m ≡ n + 1 + m = omega arith in e)
        (h.fails (suc m) (subst (λ (xs : List AuthenticatedParts). FailsEntry G t xs (suc m)) (sym first) (u, held, later)));
    count = omega (arith, h.count, ap length first);
    checked = λ own. taken_checked G t held.accepts.bytes (Ok (takens.Proposal held.accepts.reference)) u held.accepts.accepted (h.checked own);
  }

  pub fails_here : (e : AuthenticatedParts) (tail : List AuthenticatedParts) → rest ≡ e ∷ tail → ((u : State) → Holds G t e u → ⊥) → FailsEntry G s es n
  fails_here e tail first none =
      subst (λ (j : ℕ). FailsEntry G s es j) (let e : n + 0 ≡ n = omega arith in e)
      (h.fails 0 (subst (λ (xs : List AuthenticatedParts). FailsEntry G t xs 0) (sym first) none))

  pub holds_all : rest ≡ [] → HoldEntries G s es t
  holds_all none = h.held t (subst (λ (xs : List AuthenticatedParts). HoldEntries G t xs t) (sym none) refl)

-- ---- trees

pub tree_content : (G : VerifyFn) (c : FollowerState) (t : RatchetTree) (g : GroupTreeFault) → IsGroupTreeFault G c.context (λ u. u ≡ t) g → IsContentFault G c t (resume_fault_of g)
tree_content G c t groups.RequirementsUnreadable h = h
tree_content G c t (groups.Tree f) h = h
tree_content G c t (groups.Member f) h = h
tree_content G c t groups.OutOfMemory h = tt

-- a fault in a tree that is equal, of a context that is equal
pub tree_fault_again : (G : VerifyFn) (context : GroupContext) (t u : RatchetTree) (g : GroupTreeFault) → t ≡ u → IsGroupTreeFault G context (λ v. v ≡ t) g
    → (c : FollowerState) → c.context ≡ context → IsContentFault G c u (resume_fault_of g)
tree_fault_again G context t u g e h c same =
    tree_content G c u g
    (subst (λ (d : GroupContext). IsGroupTreeFault G d (λ v. v ≡ u) g) (sym same)
    (subst (λ (w : RatchetTree). IsGroupTreeFault G context (λ v. v ≡ w) g) e h))

pub members_again : (G : VerifyFn) (context : GroupContext) (t u : RatchetTree) (required : RequiredCapabilities) → t ≡ u → HasMembers G context (λ v. v ≡ t) t required
    → HasMembers G context (λ v. v ≡ u) u required
members_again G context t u required e h = subst (λ (w : RatchetTree). HasMembers G context (λ v. v ≡ w) w required) e h

-- ---- files

pub damaged : (bytes : List ℕ) (f g : StateFile) (t : RatchetTree) → state_file f ≡ Some bytes → (HasChecksum f → ⊥) → state_file g ≡ Some bytes → length bytes ≤ input_limit
    → IsTreeBody g.state.tree t → HasOtherChecksum bytes
damaged bytes f g t e other d le body = (
  g,
  t,
  record { encoded = d; bounded = le; tree = body },
  λ checked. other (subst HasChecksum (one_value state_file state_file_at state_file_exact g f bytes d e) checked),
)

-- a file whose tree can't be read
pub treeless : (bytes : List ℕ) (f : StateFile) → state_file f ≡ Some bytes → HasNoTree f.state.tree → IsUnreadableFile bytes
treeless bytes f e none other t h =
    none t (subst (λ (g : StateFile). IsTreeBody g.state.tree t) (one_value state_file state_file_at state_file_exact other f bytes h.encoded e) h.tree)

-- bytes that are no file
pub fileless : (bytes : List ℕ) → ((f : StateFile) → state_file f ≡ Some bytes → length bytes ≤ input_limit → ⊥) → IsUnreadableFile bytes
fileless bytes none f t h = none f h.encoded h.bounded

-- a fault of a body is one of the bytes
pub unreadable_fault : (G : VerifyFn) (bytes : List ℕ) (fault : NodeFault) → (fault ≢ nodes.OutOfMemory → IsUnreadableFile bytes) → IsResumeFault G bytes (unreadable fault)
unreadable_fault G bytes (nodes.Wire f) h = h (λ e. cc)
unreadable_fault G bytes (nodes.WrongNodeKind node_index) h = h (λ e. cc)
unreadable_fault G bytes nodes.LastBlank h = h (λ e. cc)
unreadable_fault G bytes nodes.EmptyTree h = h (λ e. cc)
unreadable_fault G bytes nodes.TooManyLeaves h = h (λ e. cc)
unreadable_fault G bytes nodes.OutOfMemory h = tt

-- ---- contents

-- a fault of what follows the interim transcript hash is one of the content
pub later_content : (G : VerifyFn) (c : FollowerState) (t : RatchetTree) (f : ResumeFault) → HasInterim G c t → IsStateFault G (base_state c t) c f → IsContentFault G c t f
later_content G c t (Unreadable cause) based h = absurd h
later_content G c t ChecksumDiffers based h = absurd h
later_content G c t UnsupportedVersion based h = absurd h
later_content G c t UnsupportedSuite based h = absurd h
later_content G c t RequirementsUnreadable based h = absurd h
later_content G c t (Tree fault) based h = absurd h
later_content G c t (Member fault) based h = absurd h
later_content G c t InterimLength based h = absurd h
later_content G c t (KnownInvalid n) based h = record { has_interim = based; fails = h }
later_content G c t (AddedInvalid n) based h = record { has_interim = based; with_pending = h.with_pending; held = h.held; misfit = h.misfit }
later_content G c t (Strict fault) based h = record {
  without_rules = record h.with_pending { added = c.added };
  is_plain = record { has_interim = based; with_pending = h.with_pending; held = h.held; added_fit = h.added_fit; state = refl };
  fails = h.fails;
}
later_content G c t (KnownStrict n) based h = record {
  without_rules = record h.with_pending { added = c.added };
  is_plain = record { has_interim = based; with_pending = h.with_pending; held = h.held; added_fit = h.added_fit; state = refl };
  fails = h.fails;
}
later_content G c t OutOfMemory based h = tt

-- a fault of an entry is one of what follows the interim transcript hash
entries_state_fault : (G : VerifyFn) (base : State) (c : FollowerState) (f : ResumeFault) → IsKnownFault G base c.known f → IsStateFault G base c f
entries_state_fault G base c (Unreadable cause) h = h
entries_state_fault G base c ChecksumDiffers h = h
entries_state_fault G base c UnsupportedVersion h = h
entries_state_fault G base c UnsupportedSuite h = h
entries_state_fault G base c RequirementsUnreadable h = h
entries_state_fault G base c (Tree fault) h = h
entries_state_fault G base c (Member fault) h = h
entries_state_fault G base c InterimLength h = h
entries_state_fault G base c (KnownInvalid n) h = h
entries_state_fault G base c (AddedInvalid n) h = absurd h
entries_state_fault G base c (Strict fault) h = absurd h
entries_state_fault G base c (KnownStrict n) h = absurd h
entries_state_fault G base c OutOfMemory h = h

pub entries_fault : (G : VerifyFn) (s base : State) (es : List AuthenticatedParts) (c : FollowerState) (f : ResumeFault) → s ≡ base → es ≡ c.known
    → IsKnownFault G s es f → IsStateFault G base c f
entries_fault G s base es c f first same h =
    entries_state_fault G base c f
    (subst (λ (xs : List AuthenticatedParts). IsKnownFault G base xs f) same (subst (λ (u : State). IsKnownFault G u es f) first h))

-- the entries are held
module _ (G : VerifyFn) (s base : State) (es : List AuthenticatedParts) (c : FollowerState) (first : s ≡ base) (same : es ≡ c.known) (new : State) (held : HoldEntries G s es new) where
  held_base : HoldEntries G base c.known new
  held_base = subst (λ (xs : List AuthenticatedParts). HoldEntries G base xs new) same (subst (λ (u : State). HoldEntries G u es new) first held)

  -- the context and the tree are as before
  misfit_base : added_misfit new.context.cipher_suite new.tree c.added ≡ added_misfit base.context.cipher_suite base.tree c.added
  misfit_base =
      let kept = entries_same G base c.known new held_base in
      λ i. added_misfit ((kept.0 i).cipher_suite) (kept.1 i) c.added

  references_state_fault : (f : ResumeFault) → ReadsReferences new.context.cipher_suite new.tree c.added (Err f) → IsStateFault G base c f
  references_state_fault (Unreadable cause) h = absurd h
  references_state_fault ChecksumDiffers h = absurd h
  references_state_fault UnsupportedVersion h = absurd h
  references_state_fault UnsupportedSuite h = absurd h
  references_state_fault RequirementsUnreadable h = absurd h
  references_state_fault (Tree fault) h = absurd h
  references_state_fault (Member fault) h = absurd h
  references_state_fault InterimLength h = absurd h
  references_state_fault (KnownInvalid n) h = absurd h
  references_state_fault (AddedInvalid n) h = record { with_pending = new; held = held_base; misfit = sym misfit_base ∙ h }
  references_state_fault (Strict fault) h = absurd h
  references_state_fault (KnownStrict n) h = absurd h
  references_state_fault OutOfMemory h = tt

  pub references_fault : (f : ResumeFault) → ReadsReferences new.context.cipher_suite new.tree c.added (Err f) → IsStateFault G base c f
  references_fault f h = references_state_fault f h

  -- the references fit
  module _ (references : Option (List (List ℕ))) (read : ReadsReferences new.context.cipher_suite new.tree c.added (Ok references)) where
    with_added : record new { added = references } ≡ record new { added = c.added }
    with_added = ap (λ (added : Option (List (List ℕ))). record new { added = added }) read.1

    fits : added_misfit base.context.cipher_suite base.tree c.added ≡ None
    fits = sym misfit_base ∙ read.0

    from_strict : (e : StrictRefused) → IsStrictRefused c.rules (record new { added = references }) e → FailsStrictFrom G base c e
    from_strict e h = record {
      with_pending = new;
      held = held_base;
      added_fit = fits;
      fails = subst (λ (u : State). IsStrictRefused c.rules u e) with_added h;
    }

    pub strict_fault : (e : StrictRefused) → IsStrictRefused c.rules (record new { added = references }) e → IsStateFault G base c (resume_fault_of_strict e)
    strict_fault (refusals.Group fault) h = from_strict (refusals.Group fault) h
    strict_fault (refusals.Known n) h = from_strict (refusals.Known n) h
    strict_fault refusals.OutOfMemory h = tt

    pub made_state : (last : State) → HasAddedRules c.rules (record new { added = references }) last → MakesState G base c last
    made_state last h = record {
      with_pending = new;
      held = held_base;
      added_fit = fits;
      made_strict = subst (λ (u : State). HasAddedRules c.rules u last) with_added h;
    }

-- a fault of the content is one of the bytes
pub content_bytes : (G : VerifyFn) (bytes : List ℕ) (c : FollowerState) (t : RatchetTree) (f : ResumeFault) → IsIntact bytes c t → IsContentFault G c t f → IsResumeFault G bytes f
content_bytes G bytes c t (Unreadable cause) i h = absurd h
content_bytes G bytes c t ChecksumDiffers i h = absurd h
content_bytes G bytes c t UnsupportedVersion i h = (c, t, i, h)
content_bytes G bytes c t UnsupportedSuite i h = (c, t, i, h)
content_bytes G bytes c t RequirementsUnreadable i h = (c, t, i, h)
content_bytes G bytes c t (Tree fault) i h = (c, t, i, h)
content_bytes G bytes c t (Member fault) i h = (c, t, i, h)
content_bytes G bytes c t InterimLength i h = (c, t, i, h)
content_bytes G bytes c t (KnownInvalid n) i h = (c, t, i, h)
content_bytes G bytes c t (AddedInvalid n) i h = (c, t, i, h)
content_bytes G bytes c t (Strict fault) i h = (c, t, i, h)
content_bytes G bytes c t (KnownStrict n) i h = (c, t, i, h)
content_bytes G bytes c t OutOfMemory i h = tt

-- ---- results

pub known_true : {P : Type 0} (b : Bool) → b ≡ true → OnTrue b P → P
known_true true e h = h
known_true false e h = absurd (cc)

pub known_false : {P : Type 0} (b : Bool) → b ≡ false → OnFalse b P → P
known_false true e h = absurd (cc)
known_false false e h = h

-- a body that can't be read has no tree
pub no_tree_read : (body : List ℕ) (e : NodeFault) → ReadsTreeBody body (Err e) → e ≢ nodes.OutOfMemory → HasNoTree body
no_tree_read body (nodes.Wire f) h own = h
no_tree_read body (nodes.WrongNodeKind node_index) h own = h
no_tree_read body nodes.LastBlank h own = h
no_tree_read body nodes.EmptyTree h own = h
no_tree_read body nodes.TooManyLeaves h own = h
no_tree_read body nodes.OutOfMemory h own = absurd (own refl)

pub treeless_content : (bytes : List ℕ) (c : FollowerState) → IsFileOf bytes c → HasNoTree c.tree → IsUnreadableFile bytes
treeless_content bytes c h none = treeless bytes h.file h.encoded (λ t body. none t (subst (λ (d : FollowerState). IsTreeBody d.tree t) h.state body))

-- the tree and its leaf nodes were validated
checked_base : (G : VerifyFn) (c : FollowerState) (t : RatchetTree) → HasInterim G c t → HasUniqueKeysAndValidLeaves G (base_state c t)
checked_base G c t h =
    let members = h.has_members in
    let valid : IsValidState G (base_state c t) = record {
      valid = members.valid_tree.valid;
      required = h.required;
      requires = members.valid_tree.readable.requires;
      members = members.members;
    } in
    strict_checked G (base_state c t) valid (plain_strict (base_state c t) refl)

module _ (G : VerifyFn) (c : FollowerState) (t : RatchetTree) (u : trees.Tree) (interim : List ℕ) (same : u ≡ t.tree) (equal : interim ≡ c.interim) (based : HasInterim G c t) where
  pub same_base : state_without_pending c.mode c.context u interim ≡ base_state c t
  same_base = λ i. record {
    profile = profile_of_mode c.mode;
    rules = plain_rules;
    context = c.context;
    tree = same i;
    interim = equal i;
    known = [];
    ended = is_over c.mode;
    added = None;
  }

  pub base_checked : HasUniqueKeysAndValidLeaves G (state_without_pending c.mode c.context u interim)
  base_checked = subst (HasUniqueKeysAndValidLeaves G) (sym same_base) (checked_base G c t based)

  pub state_of_content : (r : Result Group ResumeFault) → IfOk r (λ g. MakesState G (state_without_pending c.mode c.context u interim) c (group_state g))
      → IfOk r (λ g. IsStateOf G c t (group_state g))
  state_of_content (Ok g) h =
      let made : MakesState G (base_state c t) c (group_state g) = subst (λ (s : State). MakesState G s c (group_state g)) same_base h in
      record {
        without_rules = record made.with_pending { added = c.added };
        is_plain = record { has_interim = based; with_pending = made.with_pending; held = made.held; added_fit = made.added_fit; state = refl };
        made_strict = made.made_strict;
      }
  state_of_content (Err f) h = h

  pub fault_of_content : (r : Result Group ResumeFault) → IfErr r (IsStateFault G (state_without_pending c.mode c.context u interim) c)
      → IfErr r (IsContentFault G c t)
  fault_of_content (Ok g) h = h
  fault_of_content (Err f) h = later_content G c t f based (subst (λ (s : State). IsStateFault G s c f) same_base h)

-- the conditions ask nothing of the body of the tree
module _ (G : VerifyFn) (c : FollowerState) (t : RatchetTree) where
  interim_with_tree : HasInterim G (without_tree c) t → HasInterim G c t
  interim_with_tree h = record { required = h.required; has_members = h.has_members; hashed = h.hashed }

  plain_with_tree : (s : State) → IsPlainStateOf G (without_tree c) t s → IsPlainStateOf G c t s
  plain_with_tree s h = record { has_interim = interim_with_tree h.has_interim; with_pending = h.with_pending; held = h.held; added_fit = h.added_fit; state = h.state }

  state_with_tree : (s : State) → IsStateOf G (without_tree c) t s → IsStateOf G c t s
  state_with_tree s h = record { without_rules = h.without_rules; is_plain = plain_with_tree h.without_rules h.is_plain; made_strict = h.made_strict }

  strict_with_tree : (e : StrictRefused) → FailsStrict G (without_tree c) t e → FailsStrict G c t e
  strict_with_tree e h = record { without_rules = h.without_rules; is_plain = plain_with_tree h.without_rules h.is_plain; fails = h.fails }

  fault_with_tree : (f : ResumeFault) → IsContentFault G (without_tree c) t f → IsContentFault G c t f
  fault_with_tree (Unreadable cause) h = h
  fault_with_tree ChecksumDiffers h = h
  fault_with_tree UnsupportedVersion h = h
  fault_with_tree UnsupportedSuite h = h
  fault_with_tree RequirementsUnreadable h = h
  fault_with_tree (Tree fault) h = h
  fault_with_tree (Member fault) h = h
  fault_with_tree InterimLength h = record { required = h.required; has_members = h.has_members; other = h.other }
  fault_with_tree (KnownInvalid n) h = record { has_interim = interim_with_tree h.has_interim; fails = h.fails }
  fault_with_tree (AddedInvalid n) h = record { has_interim = interim_with_tree h.has_interim; with_pending = h.with_pending; held = h.held; misfit = h.misfit }
  fault_with_tree (Strict fault) h = strict_with_tree (refusals.Group fault) h
  fault_with_tree (KnownStrict n) h = strict_with_tree (refusals.Known n) h
  fault_with_tree OutOfMemory h = h

-- a fault of bytes that are equal
pub fault_again : (a b : List ℕ) (f : ResumeFault) → a ≡ b → ((G : VerifyFn) → IsResumeFault G a f) → (G : VerifyFn) → IsResumeFault G b f
fault_again a b f e h G = subst (λ (bytes : List ℕ). IsResumeFault G bytes f) e (h G)

module _ (G : VerifyFn) (bytes : List ℕ) (c d : FollowerState) (t : RatchetTree) (intact : IsIntact bytes c t) (rest : d ≡ without_tree c) where
  pub state_of_bytes : (r : Result Group ResumeFault) → IfOk r (λ g. IsStateOf G d t (group_state g)) → IfOk r (λ g. IsResumed G bytes (group_state g))
  state_of_bytes (Ok g) h =
      let own : IsStateOf G (without_tree c) t (group_state g) = subst (λ (e : FollowerState). IsStateOf G e t (group_state g)) rest h in
      record { content = c; tree = t; intact = intact; state = state_with_tree G c t (group_state g) own }
  state_of_bytes (Err f) h = h

  pub fault_of_bytes : (r : Result Group ResumeFault) → IfErr r (IsContentFault G d t) → IfErr r (IsResumeFault G bytes)
  fault_of_bytes (Ok g) h = h
  fault_of_bytes (Err f) h =
      content_bytes G bytes c t f intact (fault_with_tree G c t f (subst (λ (e : FollowerState). IsContentFault G e t f) rest h))
