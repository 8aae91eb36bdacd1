-- A GroupInfo of the present epoch, and where a follower starts from it.
use Rattle.std.proofs.Common.{◌≡◌, ◌∙◌, ℕ, List, [], length, Bool, true, false, Option, Some, None, refl, sym, ap, subst, arith}
use Rattle.std.specs.Prelude.{◌==◌, ◌&&◌, ◌||◌, nat_le, not, is_some}
use Rattle.std.specs.Str.{bytes_eq}
use Rattle.std.proofs.lemmas.Bool.{and_parts, eq-eqb, leb-true}
use Rattle.std.proofs.lemmas.Bool.Decides.{Decides-eqb}
use Rattle.std.proofs.lemmas.Slice.Eq.{bytes_eq-Decides}
use Rattle.mls_wire.specs.Limits.{input_limit}
use Rattle.mls_nodes.specs.Requirements.{Requires, extension_of}
use Rattle.mls_nodes.specs.RatchetTreeEncoding.{full_size, ratchet_tree, trimmed}
use Rattle.mls_nodes.specs.declared.context.GroupContext.{GroupContext}
use Rattle.mls_nodes.specs.declared.extension.Extension.{Extension}
use Rattle.mls_nodes.specs.declared.leaf.LeafNode.{LeafNode}
use Rattle.mls_tree.specs.RatchetTree.{RatchetTree}
use Rattle.mls_tree.specs.Tree.{Tree, leaf_at, listing}
use Rattle.mls_tree.specs.TreeDecoding.{IsTreeOf}
use Rattle.mls_hash.specs.SuiteHash.{hash_length, hash_of}
use Rattle.mls_check.specs.GroupTree.{HasMembers, IsSupportedContext}
use Rattle.mls_check.specs.LeafValidation.{LeavesAreValid}
use Rattle.mls_check.specs.Signatures.{VerifyFn}
use Rattle.mls_check.specs.ValidTree.{Valid}
use Rattle.mls_msgs.specs.Rules.{has_rule}
use Rattle.mls_msgs.specs.declared.group_info.GroupInfo.{GroupInfo}
use Rattle.mls_strict.specs.ExtensionLists.{has_each_once, if_there}
use Rattle.mls_strict.specs.StrictTrees.{IsStrict}
use Rattle.mls_apply.proofs.RuleLists.{passed}
use Rattle.mls_follow.specs.Start.{InfoMeets, IsStart, UsesTree, info_interim, is_info_signed}
use Rattle.mls_follow.specs.State.{State}
use Rattle.mls_follow.specs.Validity.{IsValidState}
use Rattle.mls_follow.proofs.Storing.{is_same}
use Rattle.mls_examine.specs.CurrentInfos.{IsCurrent, current_fault, each_once_met, encodes_tree, has_bytes, has_content, have_same_extensions, is_signed_by, tag_length_met}
use Rattle.mls_examine.specs.GroupInfos.{has_usable_external_pub}
use Rattle.mls_examine.specs.GroupLaws.{CurrentInfosRestart, CurrentInfosStartAlone, Restarts, restarted}
use Rattle.mls_examine.proofs.CurrentRules.{kept_rules}
use Rattle.mls_examine.proofs.GroupAccepting.{content_if_signed_by}
use Rattle.mls_examine.proofs.EqualExtensions.{extensions_same, same_extensions}
use Rattle.mls_examine.proofs.LaterStarts.{FitsGroup, fits_group, group_fits}

-- ---- equal bytes

pub bytes_are : (o : Option (List ℕ)) (bytes : List ℕ) → has_bytes o bytes ≡ true → o ≡ Some bytes
bytes_are None bytes h = absurd cc
bytes_are (Some x) bytes h = ap (λ (y : List ℕ). Some y) ((bytes_eq-Decides x bytes).0 h)

bytes_same : (x : List ℕ) → bytes_eq x x ≡ true
bytes_same x = (bytes_eq-Decides x x).1 refl

pub has_some_bytes : (o : Option (List ℕ)) (bytes : List ℕ) → o ≡ Some bytes → has_bytes o bytes ≡ true
has_some_bytes o bytes e = rw e (bytes_same bytes)

-- bytes that encode a tree are the body of it
pub tree_of_body : (t : RatchetTree) (body : List ℕ) → encodes_tree t.tree body ≡ true → IsTreeOf body t
unfolding encodes_tree
tree_of_body t body h =
    let nodes = trimmed (listing t.tree) in
    let first = and_parts (has_bytes (ratchet_tree nodes) body && full_size (length nodes) == length (listing t.tree)) (nat_le (length body) input_limit) h in
    let second = and_parts (has_bytes (ratchet_tree nodes) body) (full_size (length nodes) == length (listing t.tree)) first.0 in
    is_same body t (bytes_are (ratchet_tree nodes) body second.0) (leb-true (length body) input_limit first.1)
    ((Decides-eqb (full_size (length nodes)) (length (listing t.tree))).0 second.1)

-- a rule of a set
if_asked : (asked b : Bool) → (not asked || b) ≡ true → asked ≡ true → b ≡ true
if_asked true b h has = h
if_asked false b h has = absurd cc

asked_if : (asked b : Bool) → (asked ≡ true → b ≡ true) → (not asked || b) ≡ true
asked_if true b h = h refl
asked_if false b h = refl

-- ---- what the rules of the present epoch say

pub record CurrentParts (s : State) (info : GroupInfo) : Type 0 where
  pub tree_hash : info.context.tree_hash ≡ s.context.tree_hash
  pub confirmed : info.context.confirmed ≡ s.context.confirmed
  pub extensions : info.context.extensions ≡ s.context.extensions
  pub interim : info_interim info ≡ Some s.interim
  pub tree : if_there (encodes_tree s.tree) (extension_of 2 info.extensions) ≡ true
  pub external_pub : has_usable_external_pub s info ≡ true
  pub meets : InfoMeets s.rules info

module _ (s : State) (info : GroupInfo) where
  pub current_parts : current_fault s info ≡ None → CurrentParts s info
  current_parts none =
      let kept = kept_rules s info none in
      let tree_hash = passed kept.context in
      let confirmed = passed tree_hash.1 in
      let extensions = passed confirmed.1 in
      let tag = passed kept.epoch in
      let signer = passed tag.1 in
      let tree = passed signer.1 in
      let external_pub = passed kept.parts in
      let tag_length = passed external_pub.1 in
      let each_once = passed tag_length.1 in
      record {
        tree_hash = (bytes_eq-Decides info.context.tree_hash s.context.tree_hash).0 tree_hash.0;
        confirmed = (bytes_eq-Decides info.context.confirmed s.context.confirmed).0 confirmed.0;
        extensions = same_extensions info.context.extensions s.context.extensions extensions.0;
        interim = bytes_are (info_interim info) s.interim tag.0;
        tree = tree.0;
        external_pub = external_pub.0;
        meets = record {
          tag = λ has.
              (Decides-eqb (length info.confirmation_tag) (hash_length info.context.cipher_suite)).0
              (if_asked (has_rule s.rules 40) (length info.confirmation_tag == hash_length info.context.cipher_suite) tag_length.0 has);
          extensions = λ has. if_asked (has_rule s.rules 41) (has_each_once info.extensions) each_once.0 has;
        };
      }

  -- the other way round
  pub parts_current : CurrentParts s info → is_some (leaf_at 0 s.tree info.signer) ≡ true → has_content info ≡ true → current_fault s info ≡ None
  unfolding current_fault
  parts_current p signer content =
      rw (
        (bytes_eq-Decides info.context.tree_hash s.context.tree_hash).1 p.tree_hash,
        (bytes_eq-Decides info.context.confirmed s.context.confirmed).1 p.confirmed,
        extensions_are,
        has_some_bytes (info_interim info) s.interim p.interim,
        signer,
        p.tree,
        p.external_pub,
        tag_met,
        each_met,
        content,
      ) refl
    where
      extensions_are : have_same_extensions info.context.extensions s.context.extensions ≡ true
      extensions_are = subst (λ (es : List Extension). have_same_extensions info.context.extensions es ≡ true) p.extensions (extensions_same info.context.extensions)

      tag_met : tag_length_met s.rules info ≡ true
      tag_met =
          asked_if (has_rule s.rules 40) (length info.confirmation_tag == hash_length info.context.cipher_suite)
          (λ has. eq-eqb (length info.confirmation_tag) (hash_length info.context.cipher_suite) (p.meets.tag has))

      each_met : each_once_met s.rules info ≡ true
      each_met = asked_if (has_rule s.rules 41) (has_each_once info.extensions) p.meets.extensions

  -- the GroupContext is that of the state
  pub same_context : FitsGroup s info → info.context.epoch ≡ s.context.epoch → CurrentParts s info → info.context ≡ s.context
  same_context fits present p = λ i. record {
    version = fits.version i;
    cipher_suite = fits.suite i;
    group_id = fits.group i;
    epoch = present i;
    tree_hash = p.tree_hash i;
    confirmed = p.confirmed i;
    extensions = p.extensions i;
  }

-- ---- from a GroupInfo of the present epoch a follower starts

-- the leaf of who has signed
signer_of : (G : VerifyFn) (info : GroupInfo) (o : Option LeafNode) → is_signed_by G info o ≡ true → (x : LeafNode) × (o ≡ Some x) × (is_info_signed G info x ≡ true)
signer_of G info None h = absurd cc
signer_of G info (Some x) h = (x, refl, h)

module _ (G : VerifyFn) (s : State) (t : RatchetTree) (info : GroupInfo) (same_tree : t.tree ≡ s.tree) (supported : IsSupportedContext s.context) (valid : IsValidState G s)
    (strict : IsStrict s.rules s.context s.tree) where
  module _ (a : IsCurrent G s info) where
    parts : CurrentParts s info
    parts = current_parts s info a.no_fault

    context_is : info.context ≡ s.context
    context_is = same_context s info (fits_group s info a.fits) a.present parts

    module _ (supplied : Option RatchetTree) (uses : UsesTree supplied info.extensions t) where
      members_there : HasMembers G info.context (UsesTree supplied info.extensions) t valid.required
      members_there = record {
        valid_tree = record {
          readable = record {
            has_tree = record { supported = subst IsSupportedContext (sym context_is) supported; uses = uses };
            requires = subst (λ (c : GroupContext). Requires c valid.required) (sym context_is) valid.requires;
          };
          valid =
              subst (λ (u : Tree). Valid (hash_of info.context.cipher_suite) info.context.tree_hash u) (sym same_tree)
              (subst (λ (c : GroupContext). Valid (hash_of c.cipher_suite) c.tree_hash s.tree) (sym context_is) valid.valid);
        };
        members =
            subst (λ (u : Tree). LeavesAreValid G info.context.cipher_suite info.context.group_id valid.required u) (sym same_tree)
            (subst (λ (c : GroupContext). LeavesAreValid G c.cipher_suite c.group_id valid.required s.tree) (sym context_is) valid.members);
      }

      started : IsStart s.rules s.profile G info supplied (restarted s)
      started =
          let signer = signer_of G info (leaf_at 0 s.tree info.signer) a.signed in
          record {
            tree = t;
            signer = signer.0;
            has_signer = record {
              required = valid.required;
              has_members = members_there;
              set = subst (λ (u : Tree). leaf_at 0 u info.signer ≡ Some signer.0) (sym same_tree) signer.1;
            };
            signed = signer.2;
            strict_info = parts.meets;
            strict =
                subst (λ (u : Tree). IsStrict s.rules info.context u) (sym same_tree)
                (subst (λ (c : GroupContext). IsStrict s.rules c s.tree) (sym context_is) strict);
            interim = s.interim;
            hashed = parts.interim;
            state = λ i. record {
              profile = s.profile;
              rules = s.rules;
              context = sym context_is i;
              tree = sym same_tree i;
              interim = s.interim;
              known = [];
              ended = false;
              added = None;
            };
          }

    restarts : Restarts G s t info
    restarts = record {
      goes_on = (fits_group s info a.fits).goes_on;
      tree = parts.tree;
      external_pub = parts.external_pub;
      starts = started (Some t) refl;
    }

    body_uses : (body : List ℕ) → extension_of 2 info.extensions ≡ Some body → UsesTree None info.extensions t
    body_uses body e =
        rw e (tree_of_body t body (subst (λ (u : Tree). encodes_tree u body ≡ true) (sym same_tree)
        (subst (λ (o : Option (List ℕ)). if_there (encodes_tree s.tree) o ≡ true) e parts.tree)))

  -- ---- the other way round

  module _ (r : Restarts G s t info) where
    restart_context : s.context ≡ info.context
    restart_context = ap (λ (n : State). n.context) r.starts.state

    restart_tree : s.tree ≡ r.starts.tree.tree
    restart_tree = ap (λ (n : State). n.tree) r.starts.state

    restart_interim : s.interim ≡ r.starts.interim
    restart_interim = ap (λ (n : State). n.interim) r.starts.state

    signed_there : is_signed_by G info (leaf_at 0 s.tree info.signer) ≡ true
    signed_there =
        subst (λ (o : Option LeafNode). is_signed_by G info o ≡ true)
        (sym r.starts.has_signer.set ∙ sym (ap (λ (u : Tree). leaf_at 0 u info.signer) restart_tree)) r.starts.signed

    current_again : IsCurrent G s info
    current_again =
        let c = sym restart_context in
        let fits : FitsGroup s info = record {
          group = ap (λ (d : GroupContext). d.group_id) c;
          version = ap (λ (d : GroupContext). d.version) c;
          suite = ap (λ (d : GroupContext). d.cipher_suite) c;
          goes_on = r.goes_on;
        } in
        let present : info.context.epoch ≡ s.context.epoch = ap (λ (d : GroupContext). d.epoch) c in
        let again : CurrentParts s info = record {
          tree_hash = ap (λ (d : GroupContext). d.tree_hash) c;
          confirmed = ap (λ (d : GroupContext). d.confirmed) c;
          extensions = ap (λ (d : GroupContext). d.extensions) c;
          interim = r.starts.hashed ∙ ap (λ (x : List ℕ). Some x) (sym restart_interim);
          tree = r.tree;
          external_pub = r.external_pub;
          meets = r.starts.strict_info;
        } in
        let known = signer_of G info (leaf_at 0 s.tree info.signer) signed_there in
        record {
          fits = group_fits s info fits (omega (arith, present));
          present = present;
          no_fault = parts_current s info again (ap is_some known.1) (content_if_signed_by G info (leaf_at 0 s.tree info.signer) signed_there);
          signed = signed_there;
        }

pub current_infos_restart : CurrentInfosRestart
current_infos_restart G s t info same supported valid strict = (restarts G s t info same supported valid strict, current_again G s t info same supported valid strict)

pub current_infos_start_alone : CurrentInfosStartAlone
current_infos_start_alone G s t info body same supported valid strict a e =
    started G s t info same supported valid strict a None (body_uses G s t info same supported valid strict a body e)
