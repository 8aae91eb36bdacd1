-- What has a KeyPackageRef can be signed: its leaf node and its own content fit into a SignContent.
use Rattle.std.proofs.Common.{◌≡◌, ◌∙◌, ℕ, ◌≤◌, true, List, [], ◌∷◌, ◌++◌, length, Bool, ◌&&◌, Option, Some, None, refl, ap, arith, length-append}
use Rattle.std.specs.Prelude.{option_map, option_and_then, is_some, IsSome, codes}
use Rattle.mls_wire.specs.Limits.{vector_limit}
use Rattle.mls_wire.specs.Encoding.{◌⊕◌, number, vector}
use Rattle.mls_wire.specs.EncodingConcat.{joined, join}
use Rattle.mls_wire.specs.EncodedSizes.{vector_some}
use Rattle.mls_wire.specs.VectorsExact.{vector_within}
use Rattle.std.specs.Int.{w16}
use Rattle.mls_nodes.specs.declared.leaf.LeafNode.{LeafNode}
use Rattle.mls_nodes.specs.declared.leaf_source.LeafSource.{LeafSource}
use Rattle.mls_nodes.specs.declared.leaf_source.LeafSource.TheVariants as sources
use Rattle.mls_nodes.specs.Layout.{leaf, unsigned_leaf}
use Rattle.mls_nodes.specs.LeafNodeTBS.{tbs_suffix, leaf_tbs}
use Rattle.mls_nodes.specs.NodesExact.{leaf_signed}
use Rattle.mls_hash.specs.SuiteHash.{hash_of, ref_hash_input}
use Rattle.mls_check.specs.LeafValidation.{is_leaf_signed}
use Rattle.mls_check.specs.Signatures.{VerifyFn, is_signed_text, sign_content}
use Rattle.mls_msgs.specs.Layout.{key_package}
use Rattle.mls_msgs.specs.Tbs.{package_label, package_tbs}
use Rattle.mls_msgs.specs.declared.key_package.KeyPackage.{KeyPackage}
use Rattle.mls_msgs.proofs.Unsigned.{package_signed}
use Rattle.mls_apply.specs.PackageRefs.{package_ref, package_reference_label}
use Rattle.mls_apply.specs.ProposalRules.{is_from_key_package, is_package_signed}
use Rattle.mls_signatures.specs.SignaturesToVerify.{key_package_signatures, labeled_signatures}
use Rattle.mls_signatures.specs.declared.signature_to_verify.SignatureToVerify.{SignatureToVerify}
use Rattle.mls_examine.specs.Packages.{is_accepted, is_signed}

-- an encoding that fits into a vector
pub record IsWithin (o : Option (List ℕ)) : Type 0 where
  pub bytes : List ℕ
  pub is : o ≡ Some bytes
  pub within : length bytes ≤ vector_limit

pub within_left : (a b : Option (List ℕ)) → IsWithin (a ⊕ b) → IsWithin a
within_left a b h =
    let j = joined a b h.bytes h.is in
    record { bytes = j.0; is = j.2; within = omega (arith, length-append j.0 j.1, ap length j.4, h.within) }

pub within_right : (a b : Option (List ℕ)) → IsWithin (a ⊕ b) → IsWithin b
within_right a b h =
    let j = joined a b h.bytes h.is in
    record { bytes = j.1; is = j.3; within = omega (arith, length-append j.0 j.1, ap length j.4, h.within) }

-- ---- a KeyPackage with a KeyPackageRef

mapped : (f : List ℕ → List ℕ) (o : Option (List ℕ)) → is_some (option_map f o) ≡ true → (t : List ℕ) × (o ≡ Some t)
mapped f None e = absurd cc
mapped f (Some t) e = (t, refl)

value_within : (f : List ℕ → List ℕ) (label : List ℕ) (o : Option (List ℕ))
    → is_some (option_and_then (λ value. option_map f (ref_hash_input label value)) o) ≡ true → IsWithin o
value_within f label None e = absurd cc
value_within f label (Some value) e =
    let input = mapped f (ref_hash_input label value) e in
    let j = joined (vector label) (vector value) input.0 input.1 in
    record { bytes = value; is = refl; within = vector_within value j.1 j.3 }

package_within : (k : KeyPackage) → is_some (package_ref k) ≡ true → IsWithin (key_package k)
package_within k e = value_within (hash_of k.cipher_suite) package_reference_label (key_package k) e

own_within : (k : KeyPackage) → IsWithin (key_package k) → IsWithin (package_tbs k)
own_within k h = within_left (package_tbs k) (vector k.signature) (rw (package_signed k) at h)

leaf_within : (k : KeyPackage) → IsWithin (key_package k) → IsWithin (leaf k.leaf_node)
unfolding key_package
leaf_within k h =
    within_left (leaf k.leaf_node) _
    (within_right (vector k.init_key) _ (within_right (number w16 k.cipher_suite) _ (within_right (number w16 k.version) _ h)))

-- ---- its leaf node

-- nothing of the group is signed with it
pub suffix_is_empty : (s : LeafSource) (group_id : List ℕ) (i : ℕ) → is_from_key_package s ≡ true → tbs_suffix s group_id i ≡ Some []
unfolding tbs_suffix
suffix_is_empty (sources.KeyPackage lifetime) group_id i e = refl
suffix_is_empty sources.Update group_id i e = absurd cc
suffix_is_empty (sources.Commit parent_hash) group_id i e = absurd cc

leaf_tbs_within : (x : LeafNode) → is_from_key_package x.source ≡ true → IsWithin (leaf x) → IsWithin (leaf_tbs x [] 0)
unfolding leaf_tbs
leaf_tbs_within x source h =
    let front = within_left (unsigned_leaf x) (vector x.signature) (rw (leaf_signed x) at h) in
    record {
      bytes = front.bytes ++ [];
      is = join (unsigned_leaf x) (tbs_suffix x.source [] 0) front.bytes [] front.is (suffix_is_empty x.source [] 0 source);
      within = omega (arith, length-append front.bytes [], front.within);
    }

-- ---- its signatures

-- a signature over an encoding, and when it is good
record HasSignature (suite : ℕ) (key label : List ℕ) (o : Option (List ℕ)) (signature : List ℕ) : Type 0 where
  pub it : SignatureToVerify
  pub list : labeled_signatures suite key label o signature ≡ it ∷ []
  pub good : (G : VerifyFn) → is_signed_text G suite key label o signature ≡ is_accepted G it

some_bytes : (o : Option (List ℕ)) → IsSome o → (t : List ℕ) × (o ≡ Some t)
some_bytes None h = absurd cc
some_bytes (Some t) h = (t, refl)

signed_bytes : (suite : ℕ) (key label tbs signature content : List ℕ) → sign_content label tbs ≡ Some content
    → HasSignature suite key label (Some tbs) signature
signed_bytes suite key label tbs signature content is =
    record {
      it = record { suite = suite; key = key; content = content; signature = signature };
      list = rw is refl;
      good = λ G. rw is refl;
    }

content_of : (label tbs : List ℕ) → length label ≤ vector_limit → length tbs ≤ vector_limit → (content : List ℕ) × (sign_content label tbs ≡ Some content)
unfolding sign_content
content_of label tbs low le =
    let front = some_bytes (vector label) (vector_some label low) in
    let back = some_bytes (vector tbs) (vector_some tbs le) in
    (front.0 ++ back.0, join (vector label) (vector tbs) front.0 back.0 front.1 back.1)

has_signature : (suite : ℕ) (key label : List ℕ) (o : Option (List ℕ)) (signature : List ℕ) → length label ≤ vector_limit → IsWithin o
    → HasSignature suite key label o signature
has_signature suite key label o signature low h =
    let content = content_of label h.bytes low h.within in
    rw (h.is) (signed_bytes suite key label h.bytes signature content.0 content.1)

-- the two signatures of a KeyPackage, and that both are asked
pub record HasTwoSignatures (k : KeyPackage) : Type 0 where
  pub of_leaf : SignatureToVerify
  pub own : SignatureToVerify
  pub list : key_package_signatures k ≡ of_leaf ∷ own ∷ []
  pub good : (G : VerifyFn) → is_signed G k ≡ (is_accepted G of_leaf && is_accepted G own)

pub has_two_signatures : (k : KeyPackage) → is_from_key_package k.leaf_node.source ≡ true → is_some (package_ref k) ≡ true → HasTwoSignatures k
unfolding is_leaf_signed is_package_signed
has_two_signatures k source has_ref =
    let h = package_within k has_ref in
    let x = k.leaf_node in
    let a = has_signature k.cipher_suite x.signature_key (codes "MLS 1.0 LeafNodeTBS") (leaf_tbs x [] 0) x.signature
    (omega arith) (leaf_tbs_within x source (leaf_within k h)) in
    let b = has_signature k.cipher_suite x.signature_key package_label (package_tbs k) k.signature
    (omega arith) (own_within k h) in
    record {
      of_leaf = a.it;
      own = b.it;
      list = ap (λ (qs : List SignatureToVerify). qs ++ labeled_signatures k.cipher_suite x.signature_key package_label (package_tbs k) k.signature) a.list
          ∙ ap (λ (qs : List SignatureToVerify). a.it ∷ qs) b.list;
      good = λ G. ap (λ (v : Bool). v && is_package_signed G k.cipher_suite k) (a.good G) ∙ ap (λ (v : Bool). is_accepted G a.it && v) (b.good G);
    }
