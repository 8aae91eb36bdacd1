-- A GroupInfo of a later epoch, and where a follower starts from it.
use Rattle.std.proofs.Common.{◌≡◌, ◌∙◌, ℕ, ◌+◌, ◌≤◌, List, [], Bool, true, false, Option, Some, None, refl, sym, subst, arith}
use Rattle.std.specs.Prelude.{not, if◌then◌else◌, codes}
use Rattle.std.proofs.lemmas.Bool.{and_parts, eq-eqb, le-leb}
use Rattle.std.proofs.lemmas.Bool.Decides.{Decides-eqb}
use Rattle.std.proofs.lemmas.List.Elements.{All-append, All-nil, All-weaker}
use Rattle.std.proofs.lemmas.Slice.Eq.{bytes_eq-Decides}
use Rattle.mls_nodes.specs.declared.leaf.LeafNode.{LeafNode}
use Rattle.mls_nodes.specs.declared.required_capabilities.RequiredCapabilities.{RequiredCapabilities}
use Rattle.mls_nodes.specs.LeafNodeTBS.{leaf_tbs}
use Rattle.mls_tree.specs.RatchetTree.{RatchetTree}
use Rattle.mls_tree.specs.Tree.{Tree, leaf, branch, leaf_at, leaf_count}
use Rattle.mls_check.specs.GroupTree.{IsSupportedContext}
use Rattle.mls_check.specs.LeafValidation.{all_leaves, is_leaf_signed, member_rule}
use Rattle.mls_check.specs.Signatures.{VerifyFn}
use Rattle.mls_msgs.specs.declared.group_info.GroupInfo.{GroupInfo}
use Rattle.mls_msgs.specs.declared.profile.Profile.{Profile}
use Rattle.mls_msgs.specs.declared.rules.Rules.{Rules}
use Rattle.mls_apply.specs.RuleLists.{first_failing}
use Rattle.mls_apply.proofs.RuleLists.{AreKept, passed}
use Rattle.mls_signatures.specs.Agreement.{AgreeOn, Agrees}
use Rattle.mls_signatures.specs.SignaturesToVerify.{all_start_signatures, info_signatures, is_supported_info, leaf_signatures, start_signatures, tree_signatures}
use Rattle.mls_signatures.specs.declared.signature_to_verify.SignatureToVerify.{SignatureToVerify}
use Rattle.mls_signatures.proofs.Agreement.{to_deduplicated}
use Rattle.mls_follow.specs.CoveredLogs.{all_good}
use Rattle.mls_follow.specs.Start.{IsStart}
use Rattle.mls_follow.specs.State.{State}
use Rattle.mls_follow.proofs.AcceptancesStay.{start_stays}
use Rattle.mls_follow.proofs.StartAgreement.{decide_starts}
use Rattle.mls_start.proofs.StartsOnce.{one_tree}
use Rattle.mls_examine.specs.GroupInfos.{has_usable_external_pub, info_rules}
use Rattle.mls_examine.specs.GroupLaws.{LaterInfosStart, StartsLater}
use Rattle.mls_examine.specs.LaterInfos.{IsLater, is_known_signer, later_rules}
use Rattle.mls_examine.specs.PackageLaws.{AcceptsEach}
use Rattle.mls_examine.specs.Packages.{is_accepted}
use Rattle.mls_examine.proofs.GroupAccepting.{all_if_none, all_if_signed_by, all_if_text, none_if_all}

-- ---- to accept each signature is to agree with who accepts all

agree_if_all : (G : VerifyFn) (qs : List SignatureToVerify) → AcceptsEach G qs → AgreeOn all_good G qs
agree_if_all G qs h = All-weaker (λ q. is_accepted G q ≡ true) (Agrees all_good G) (λ q e. sym e) qs h

all_if_agree : (G : VerifyFn) (qs : List SignatureToVerify) → AgreeOn all_good G qs → AcceptsEach G qs
all_if_agree G qs h = All-weaker (Agrees all_good G) (λ q. is_accepted G q ≡ true) (λ q e. sym e) qs h

-- ---- the signatures of a start that are good

module _ (G : VerifyFn) (suite : ℕ) (group_id : List ℕ) where
  leaf_accepted : (i : ℕ) (x : LeafNode) → is_leaf_signed G suite group_id i x ≡ true → AcceptsEach G (leaf_signatures suite group_id i x)
  unfolding is_leaf_signed
  leaf_accepted i x h = all_if_text G suite x.signature_key (codes "MLS 1.0 LeafNodeTBS") (leaf_tbs x group_id i) x.signature h

  leaves_accepted : (test : ℕ → LeafNode → Bool) → ((i : ℕ) (x : LeafNode) → test i x ≡ true → is_leaf_signed G suite group_id i x ≡ true)
      → (first : ℕ) (t : Tree) → all_leaves test first t ≡ true → AcceptsEach G (tree_signatures suite group_id first t)
  leaves_accepted test says first (leaf None) h = All-nil (λ q. is_accepted G q ≡ true)
  leaves_accepted test says first (leaf (Some x)) h = leaf_accepted first x (says first x h)
  leaves_accepted test says first (branch l n r) h =
      let both = and_parts (all_leaves test first l) (all_leaves test (first + leaf_count l) r) h in
      All-append (λ q. is_accepted G q ≡ true) (tree_signatures suite group_id first l) (tree_signatures suite group_id (first + leaf_count l) r)
      (leaves_accepted test says first l both.0) (leaves_accepted test says (first + leaf_count l) r both.1)

fifth_rule : (G : VerifyFn) (suite : ℕ) (group_id : List ℕ) (required : RequiredCapabilities) (t : Tree) (i : ℕ) (x : LeafNode)
    → member_rule G suite group_id required t 5 i x ≡ true → is_leaf_signed G suite group_id i x ≡ true
unfolding member_rule
fifth_rule G suite group_id required t i x h = h

if_supported : (b : Bool) (qs : List SignatureToVerify) (G : VerifyFn) → AcceptsEach G qs → AcceptsEach G (if b then qs else [])
if_supported true qs G h = h
if_supported false qs G h = All-nil (λ q. is_accepted G q ≡ true)

module _ (asked : Rules) (profile : Profile) (G : VerifyFn) (info : GroupInfo) (supplied : Option RatchetTree) (new : State) (h : IsStart asked profile G info supplied new) where
  accepted_of_tree : AcceptsEach G (start_signatures info h.tree.tree)
  accepted_of_tree =
      let t = h.tree.tree in
      let suite = info.context.cipher_suite in
      let m = h.has_signer.has_members in
      let of_info = subst (λ (o : Option LeafNode). AcceptsEach G (info_signatures info o)) (sym h.has_signer.set) (all_if_signed_by G info (Some h.signer) h.signed) in
      let of_tree = leaves_accepted G suite info.context.group_id (member_rule G suite info.context.group_id h.has_signer.required t 5)
      (fifth_rule G suite info.context.group_id h.has_signer.required t) 0 t (m.members.rules 5) in
      let all = All-append (λ q. is_accepted G q ≡ true) (info_signatures info (leaf_at 0 t info.signer)) (tree_signatures suite info.context.group_id 0 t) of_info of_tree in
      all_if_agree G (start_signatures info t)
      (to_deduplicated all_good G (all_start_signatures info t) (agree_if_all G (all_start_signatures info t) (if_supported (is_supported_info info) _ G all)))

  pub start_accepted : AcceptsEach G (start_signatures info new.tree)
  start_accepted = subst (λ (n : State). AcceptsEach G (start_signatures info n.tree)) (sym h.state) accepted_of_tree

-- a start that is trusted is one by who accepts its signatures
pub trusted_start : (asked : Rules) (profile : Profile) (G : VerifyFn) (info : GroupInfo) (new : State) → IsStart asked profile all_good info None new
    → AcceptsEach G (start_signatures info new.tree) → IsStart asked profile G info None new
trusted_start asked profile G info new h each =
    decide_starts asked profile all_good G info None new
    (λ t uses.
    (let same = one_tree None info.extensions h.tree t h.has_signer.has_members.valid_tree.readable.has_tree.uses uses in
    let listed = subst (λ (n : State). AcceptsEach G (start_signatures info n.tree)) h.state each in
    subst (λ (u : RatchetTree). AgreeOn all_good G (start_signatures info u.tree)) same (agree_if_all G (start_signatures info h.tree.tree) listed))) h

-- ---- the rules

module _ (s : State) (info : GroupInfo) where
  pub record FitsGroup : Type 0 where
    pub group : info.context.group_id ≡ s.context.group_id
    pub version : info.context.version ≡ s.context.version
    pub suite : info.context.cipher_suite ≡ s.context.cipher_suite
    pub goes_on : s.ended ≡ false

  pub fits_group : first_failing (info_rules s info) ≡ None → FitsGroup
  fits_group h =
      let kept : AreKept (info_rules s info) = record { none = h } in
      let group = passed kept in
      let version = passed group.1 in
      let suite = passed version.1 in
      let epoch = passed suite.1 in
      let over = passed epoch.1 in
      record {
        group = (bytes_eq-Decides info.context.group_id s.context.group_id).0 group.0;
        version = (Decides-eqb info.context.version s.context.version).0 version.0;
        suite = (Decides-eqb info.context.cipher_suite s.context.cipher_suite).0 suite.0;
        goes_on = not_over s.ended over.0;
      }
    where
      not_over : (b : Bool) → not b ≡ true → b ≡ false
      not_over true e = absurd cc
      not_over false e = refl

  pub group_fits : FitsGroup → s.context.epoch ≤ info.context.epoch → first_failing (info_rules s info) ≡ None
  group_fits h le =
      rw (
        (bytes_eq-Decides info.context.group_id s.context.group_id).1 h.group,
        eq-eqb info.context.version s.context.version h.version,
        eq-eqb info.context.cipher_suite s.context.cipher_suite h.suite,
        le-leb s.context.epoch info.context.epoch le,
        h.goes_on,
      ) refl

  pub later_parts : (t : Tree) → first_failing (later_rules s info t) ≡ None
      → (is_known_signer s.tree (leaf_at 0 t info.signer) ≡ true) × (has_usable_external_pub s info ≡ true)
  later_parts t h =
      let kept : AreKept (later_rules s info t) = record { none = h } in
      let known = passed kept in
      (known.0, (passed known.1).0)

-- ---- the law

module _ (G : VerifyFn) (s : State) (info : GroupInfo) where
  starts_later : IsLater G s info → StartsLater G s info
  starts_later a =
      let fits = fits_group s info a.fits in
      let parts = later_parts s info a.new.tree a.no_fault in
      record {
        new = a.new;
        starts = trusted_start s.rules s.profile G info a.new a.starts (all_if_none G (start_signatures info a.new.tree) a.signed);
        group = fits.group;
        suite = fits.suite;
        later = a.later;
        goes_on = fits.goes_on;
        external_pub = parts.1;
        known = parts.0;
      }

  is_later : IsSupportedContext s.context → StartsLater G s info → IsLater G s info
  is_later supported b =
      let later = b.later in
      let version = b.starts.has_signer.has_members.valid_tree.readable.has_tree.supported.version in
      let fits : FitsGroup s info = record { group = b.group; version = version ∙ sym supported.version; suite = b.suite; goes_on = b.goes_on } in
      record {
        fits = group_fits s info fits (omega (arith, later));
        later = b.later;
        new = b.new;
        starts = start_stays s.rules s.profile G all_good info None b.new (λ _ _ _ _ _. refl) b.starts;
        no_fault = rw (b.known, b.external_pub) refl;
        signed = none_if_all G (start_signatures info b.new.tree) (start_accepted s.rules s.profile G info None b.new b.starts);
      }

pub later_infos_start : LaterInfosStart
later_infos_start G s info supported = (starts_later G s info, is_later G s info supported)
