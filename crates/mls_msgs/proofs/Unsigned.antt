-- A signature stands behind the fields that it covers.
use Rattle.std.proofs.Common.{◌≡◌, ℕ, List, Option, Some, None, refl, sym, ap, append_assoc}
use Rattle.mls_wire.specs.Encoding.{◌⊕◌, vector}
use Rattle.mls_msgs.specs.Layout.{key_package, group_info}
use Rattle.mls_msgs.specs.Tbs.{package_tbs, info_tbs}
use Rattle.mls_msgs.specs.declared.key_package.KeyPackage.{KeyPackage}
use Rattle.mls_msgs.specs.declared.group_info.GroupInfo.{GroupInfo}

both_assoc : (a b c : Option (List ℕ)) → (a ⊕ b) ⊕ c ≡ a ⊕ (b ⊕ c)
unfolding ◌⊕◌
both_assoc None b c = refl
both_assoc (Some x) None c = refl
both_assoc (Some x) (Some y) None = refl
both_assoc (Some x) (Some y) (Some z) = ap (λ (s : List ℕ). Some s) (append_assoc x y z)

-- a key package
pub package_signed : (k : KeyPackage) → key_package k ≡ package_tbs k ⊕ vector k.signature
unfolding key_package package_tbs
package_signed k = sym (simp both_assoc)

-- a group info
pub info_signed : (g : GroupInfo) → group_info g ≡ info_tbs g ⊕ vector g.signature
unfolding group_info info_tbs
info_signed g = sym (simp both_assoc)
