-- A state has one file, and bytes are the file of one state.
use Rattle.std.proofs.Common.{◌≡◌, ◌∙◌, ℕ, ◌≤◌, Bool, true, false, Some, None, List, [], ◌∷◌, length, map, refl, sym, ap, subst}
use Rattle.mls_wire.specs.Limits.{input_limit}
use Rattle.mls_tree.specs.RatchetTree.{RatchetTree}
use Rattle.mls_tree.specs.RatchetTreeInternal.{RatchetTree-same}
use Rattle.std.proofs.lemmas.Option.{none-some, same_Some}
use Rattle.mls_nodes.specs.declared.context.GroupContext.{GroupContext}
use Rattle.mls_msgs.specs.declared.authenticated.AuthenticatedParts.{AuthenticatedParts}
use Rattle.mls_msgs.specs.declared.framed_content.Content.TheVariants as contents
use Rattle.mls_msgs.specs.declared.profile.Profile.{Profile}
use Rattle.mls_msgs.specs.declared.profile.Profile.TheVariants as profiles
use Rattle.mls_state.proofs.Files.{state_is_unique, file_is_unique}
use Rattle.mls_state.specs.StateFile.{IsFileOf}
use Rattle.mls_state.specs.declared.state.FollowerState.{FollowerState}
use Rattle.mls_state.specs.declared.state.GroupMode.{GroupMode}
use Rattle.mls_state.specs.declared.state.GroupMode.TheVariants.{Members, Full, Ended}
use Rattle.mls_apply.specs.declared.list_item.KnownProposal.{KnownProposal}
use Rattle.mls_apply.specs.PendingContent.{authenticated_of}
use Rattle.mls_follow.specs.State.{State}
use Rattle.mls_follow.specs.MessageRules.{reference_of}
use Rattle.mls_follow.specs.StoredState.{IsTreeBody, IsIntact, Stores, EncodesState, HasNoFile, AreReferenced, computed_references, stored_mode}
use Rattle.mls_follow.specs.StoredRuns.{StoredFileIsUnique, StoredStateIsUnique}
use Rattle.mls_follow.proofs.StoredTrees.{one_tree, one_body}

-- ---- pending proposals

module _ (context : GroupContext) where
  -- what was signed of a pending proposal determines it
  one_pending : (k l : KnownProposal) → authenticated_of context k ≡ authenticated_of context l
      → reference_of context (authenticated_of context k) ≡ Some k.reference → reference_of context (authenticated_of context l) ≡ Some l.reference → k ≡ l
  one_pending k l e p q =
      let sender : k.sender ≡ l.sender = ap (λ (a : AuthenticatedParts). a.content.sender) e in
      let body : contents.Proposal k.proposal ≡ contents.Proposal l.proposal = ap (λ (a : AuthenticatedParts). a.content.content) e in
      let proposal : k.proposal ≡ l.proposal = cc in
      let authenticated : k.authenticated_data ≡ l.authenticated_data = ap (λ (a : AuthenticatedParts). a.content.authenticated) e in
      let signature : k.signature ≡ l.signature = ap (λ (a : AuthenticatedParts). a.signature) e in
      let reference : k.reference ≡ l.reference = same_Some k.reference l.reference (sym p ∙ ap (reference_of context) e ∙ q) in
      λ i. record {
        reference = reference i;
        sender = sender i;
        proposal = proposal i;
        authenticated_data = authenticated i;
        signature = signature i;
      }

  first_alike : {A : Type 0} (x y : A) (xs ys : List A) → ◌≡◌ {A = List A} (x ∷ xs) (y ∷ ys) → x ≡ y
  first_alike x y xs ys e = cc

  others_alike : {A : Type 0} (x y : A) (xs ys : List A) → ◌≡◌ {A = List A} (x ∷ xs) (y ∷ ys) → xs ≡ ys
  others_alike x y xs ys e = cc

  one_list : (ks ls : List KnownProposal) → map (authenticated_of context) ks ≡ map (authenticated_of context) ls
      → AreReferenced context ks → AreReferenced context ls → ks ≡ ls
  one_list [] [] e p q = refl
  one_list [] (l ∷ ls) e p q = absurd (cc)
  one_list (k ∷ ks) [] e p q = absurd (cc)
  one_list (k ∷ ks) (l ∷ ls) e p q =
      let contents_of = map (authenticated_of context) in
      let first : k ≡ l =
      one_pending k l (first_alike (authenticated_of context k) (authenticated_of context l) (contents_of ks) (contents_of ls) e)
      (first_alike (reference_of context (authenticated_of context k)) (Some k.reference) (computed_references context ks) (map (λ (j : KnownProposal). Some j.reference) ks) p)
      (first_alike (reference_of context (authenticated_of context l)) (Some l.reference) (computed_references context ls) (map (λ (j : KnownProposal). Some j.reference) ls) q) in
      let rest : ks ≡ ls =
      one_list ks ls (others_alike (authenticated_of context k) (authenticated_of context l) (contents_of ks) (contents_of ls) e)
      (others_alike (reference_of context (authenticated_of context k)) (Some k.reference) (computed_references context ks) (map (λ (j : KnownProposal). Some j.reference) ks) p)
      (others_alike (reference_of context (authenticated_of context l)) (Some l.reference) (computed_references context ls) (map (λ (j : KnownProposal). Some j.reference) ls) q) in
      λ i. first i ∷ rest i

-- ---- contents

-- a state is stored by one content
pub one_content : (c d : FollowerState) (t u : RatchetTree) (s : State) → IsTreeBody c.tree t → IsTreeBody d.tree u → Stores c t s → Stores d u s → c ≡ d
one_content c d t u s a b p q =
    let trees : t ≡ u = RatchetTree-same t u (p.tree ∙ sym q.tree) in
    let body : c.tree ≡ d.tree = one_body c.tree d.tree u (subst (IsTreeBody c.tree) trees a) b in
    let mode : c.mode ≡ d.mode = same_Some c.mode d.mode (sym p.mode ∙ q.mode) in
    let context = p.context ∙ sym q.context in
    let interim = p.interim ∙ sym q.interim in
    let known = p.known ∙ sym q.known in
    let asked = p.rules ∙ sym q.rules in
    let added = p.added ∙ sym q.added in
    λ i. record {
      mode = mode i;
      rules = asked i;
      context = context i;
      interim = interim i;
      tree = body i;
      known = known i;
      added = added i;
    }

-- a mode is that of one profile, and of a group that is over or not
one_mode : (a b : Profile) (x y : Bool) (m : GroupMode) → stored_mode a x ≡ Some m → stored_mode b y ≡ Some m → (a ≡ b) × (x ≡ y)
one_mode profiles.Members profiles.Members false false m p q = (refl, refl)
one_mode profiles.Members profiles.Members x true m p q = absurd (none-some m q)
one_mode profiles.Members profiles.Members true y m p q = absurd (none-some m p)
one_mode profiles.Members profiles.Full true y m p q = absurd (none-some m p)
one_mode profiles.Members profiles.Full false false m p q = let bad : Some Members ≡ Some Full = p ∙ sym q in absurd (cc)
one_mode profiles.Members profiles.Full false true m p q = let bad : Some Members ≡ Some Ended = p ∙ sym q in absurd (cc)
one_mode profiles.Full profiles.Members x true m p q = absurd (none-some m q)
one_mode profiles.Full profiles.Members false false m p q = let bad : Some Full ≡ Some Members = p ∙ sym q in absurd (cc)
one_mode profiles.Full profiles.Members true false m p q = let bad : Some Ended ≡ Some Members = p ∙ sym q in absurd (cc)
one_mode profiles.Full profiles.Full false false m p q = (refl, refl)
one_mode profiles.Full profiles.Full true true m p q = (refl, refl)
one_mode profiles.Full profiles.Full false true m p q = let bad : Some Full ≡ Some Ended = p ∙ sym q in absurd (cc)
one_mode profiles.Full profiles.Full true false m p q = let bad : Some Ended ≡ Some Full = p ∙ sym q in absurd (cc)

-- a content stores one state
pub one_state : (c : FollowerState) (t : RatchetTree) (r s : State) → Stores c t r → Stores c t s → r ≡ s
one_state c t r s p q =
    let context = sym p.context ∙ q.context in
    let tree = sym p.tree ∙ q.tree in
    let interim = sym p.interim ∙ q.interim in
    let alike : map (authenticated_of s.context) r.known ≡ map (authenticated_of s.context) s.known =
    ap (λ (d : GroupContext). map (authenticated_of d) r.known) (sym context) ∙ sym p.known ∙ q.known in
    let known = one_list s.context r.known s.known alike (subst (λ (d : GroupContext). AreReferenced d r.known) context p.referenced) q.referenced in
    let mode = one_mode r.profile s.profile r.ended s.ended c.mode p.mode q.mode in
    let asked = sym p.rules ∙ q.rules in
    let added = sym p.added ∙ q.added in
    λ i. record {
      profile = mode.0 i;
      rules = asked i;
      context = context i;
      tree = tree i;
      interim = interim i;
      known = known i;
      ended = mode.1 i;
      added = added i;
    }

-- ---- files

pub one_file : StoredFileIsUnique
one_file s a b p q =
    let same = one_content p.content q.content p.tree q.tree s p.intact.tree q.intact.tree p.stores q.stores in
    file_is_unique a b q.content (subst (IsFileOf a) same p.intact.file) q.intact.file

pub same_content : (bytes : List ℕ) (c d : FollowerState) (t u : RatchetTree) → IsIntact bytes c t → IsIntact bytes d u → c ≡ d
same_content bytes c d t u a b = state_is_unique bytes c d a.file b.file

pub same_tree : (bytes : List ℕ) (c d : FollowerState) (t u : RatchetTree) → IsIntact bytes c t → IsIntact bytes d u → t ≡ u
same_tree bytes c d t u a b =
    one_tree d.tree t u (subst (λ (e : FollowerState). IsTreeBody e.tree t) (same_content bytes c d t u a b) a.tree) b.tree

pub file_of_one : StoredStateIsUnique
file_of_one bytes s r p q =
    let same = same_content bytes p.content q.content p.tree q.tree p.intact q.intact in
    let trees = same_tree bytes p.content q.content p.tree q.tree p.intact q.intact in
    one_state q.content q.tree s r (subst (λ (t : RatchetTree). Stores q.content t s) trees (subst (λ (c : FollowerState). Stores c p.tree s) same p.stores)) q.stores

-- ---- what is written

module _ (s : State) (c : FollowerState) (t : RatchetTree) (body : IsTreeBody c.tree t) (stores : Stores c t s) where
  pub made_file : (bytes : List ℕ) → IsFileOf bytes c → length bytes ≤ input_limit → EncodesState s bytes
  made_file bytes file le = record { content = c; tree = t; intact = record { file = file; bounded = le; tree = body }; stores = stores }

  own_file : (bytes : List ℕ) → EncodesState s bytes → IsFileOf bytes c
  own_file bytes h = subst (IsFileOf bytes) (one_content h.content c h.tree t s h.intact.tree body h.stores stores) h.intact.file

  pub no_file : ((bytes : List ℕ) → IsFileOf bytes c → ⊥) → HasNoFile s
  no_file none bytes h = none bytes (own_file bytes h)

  pub long_file : (bytes : List ℕ) → IsFileOf bytes c → (length bytes ≤ input_limit → ⊥) → HasNoFile s
  long_file bytes file long other h =
      long (subst (λ (b : List ℕ). length b ≤ input_limit) (file_is_unique other bytes c (own_file other h) file) h.intact.bounded)

-- a state without a mode has no file
pub no_mode_no_file : (s : State) → stored_mode s.profile s.ended ≡ None → HasNoFile s
no_mode_no_file s none bytes h = none-some h.content.mode (sym none ∙ h.stores.mode)

-- nor has one with a pending proposal whose reference is that of another content
pub unreferenced_no_file : (s : State) → (AreReferenced s.context s.known → ⊥) → HasNoFile s
unreferenced_no_file s none bytes h = none h.stores.referenced

-- without a body there is no content

pub no_tree_no_file : (s : State) (t : RatchetTree) → t.tree ≡ s.tree → ((body : List ℕ) → IsTreeBody body t → ⊥) → HasNoFile s
no_tree_no_file s t e none bytes h =
    none h.content.tree (subst (IsTreeBody h.content.tree) (RatchetTree-same h.tree t (h.stores.tree ∙ sym e)) h.intact.tree)
