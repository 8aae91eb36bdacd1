-- What the strict rules demand of a leaf node by itself, for a group's protocol version and cipher suite (RFC 9420, 7.2).
-- Used by contracts.
use Rattle.std.specs.Prelude.{ℕ, nat_le, Bool, true, ◌&&◌, not, List, [], map}
use Rattle.std.specs.List.{list_all, list_any}
use Rattle.mls_nodes.specs.declared.extension.Extension.{Extension}
use Rattle.mls_nodes.specs.declared.leaf.LeafNode.{LeafNode}
use Rattle.mls_nodes.specs.declared.leaf_source.LeafSource.{LeafSource}
use Rattle.mls_nodes.specs.declared.leaf_source.LeafSource.TheVariants as sources
use Rattle.mls_nodes.specs.declared.required_capabilities.RequiredCapabilities.{RequiredCapabilities}
use Rattle.mls_check.specs.LeafValidation.{contains_code, is_default_extension, is_default_proposal, supports_extension}
use Rattle.mls_msgs.specs.declared.strict_rule.StrictRule.{StrictRule}
use Rattle.mls_msgs.specs.declared.strict_rule.StrictRule.TheVariants as rules
use Rattle.mls_strict.specs.ExtensionLists.{has_each_once, has_no_group_type, has_readable_id}
use Rattle.mls_strict.specs.Certificates.{certifies}
use Rattle.mls_strict.specs.KeyForms.{is_hpke_key, is_signature_key, is_suite_point}

-- `has_key_forms suite x`: its two keys have the forms of the suite (RFC 9420, 5.1.1).
unfoldable pub has_key_forms : ℕ → LeafNode → Bool
has_key_forms suite x = is_hpke_key suite x.encryption_key && is_signature_key suite x.signature_key

-- `lists_group version suite x`: its capabilities list the version and the suite (RFC 9420, 7.2 and 11.1).
unfoldable pub lists_group : ℕ → ℕ → LeafNode → Bool
lists_group version suite x =
    contains_code x.capabilities.versions version && contains_code x.capabilities.cipher_suites suite

-- `lists_no_default x`: its capabilities list no default type: no extension type from 1 to 5, and no proposal type from 1 to
-- 7 (RFC 9420, 7.2).
unfoldable pub lists_no_default : LeafNode → Bool
lists_no_default x =
    not (list_any is_default_extension x.capabilities.extensions) && not (list_any is_default_proposal x.capabilities.proposals)

-- `has_lifetime s`: the lifetime of a KeyPackage's leaf node does not end before it begins (RFC 9420, 7.2).
abbrev pub has_lifetime : LeafSource → Bool
has_lifetime (sources.KeyPackage lifetime) = nat_le lifetime.not_before lifetime.not_after
has_lifetime sources.Update = true
has_lifetime (sources.Commit _) = true

-- `supports_all es x`: it supports the type of each extension, by default or by its capabilities (RFC 9420, 12.1.7 and 13.4).
unfoldable pub supports_all : List Extension → LeafNode → Bool
supports_all es x = list_all (λ e. supports_extension x e.kind) es

-- `requires_types es` requires that a member supports the types of these extensions, and nothing else (RFC 9420, 13.4).
abbrev pub requires_types : List Extension → RequiredCapabilities
requires_types es = record { extensions = map (λ e. e.kind) es; proposals = []; credentials = [] }

-- `leaf_meets version suite r x`: the leaf node meets the strict rule, as far as it concerns one leaf node by itself.
abbrev pub leaf_meets : ℕ → ℕ → StrictRule → LeafNode → Bool
leaf_meets version suite rules.ExtensionRepeated x = has_each_once x.extensions
leaf_meets version suite rules.ExtensionMisplaced x = has_no_group_type x.extensions
leaf_meets version suite rules.ExtensionUnreadable x = has_readable_id x.extensions
leaf_meets version suite rules.KeyForm x = has_key_forms suite x
leaf_meets version suite rules.GroupUnlisted x = lists_group version suite x
leaf_meets version suite rules.DefaultListed x = lists_no_default x
leaf_meets version suite rules.LifetimeEmpty x = has_lifetime x.source
leaf_meets version suite rules.TagLength x = true
leaf_meets version suite rules.CiphertextForm x = true
leaf_meets version suite rules.CertificateKey x = certifies x.signature_key x.credential
leaf_meets version suite rules.PskAhead x = true
leaf_meets version suite rules.GroupExtensionUnsupported x = true
leaf_meets version suite rules.PointOffCurve x = is_suite_point suite x.encryption_key
