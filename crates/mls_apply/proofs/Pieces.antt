-- The pieces of an encoding, one after the other.
use Rattle.std.proofs.Common.{◌≡◌, ◌∙◌, ◌^◌, ◌<◌, ℕ, List, [], ◌++◌, length, append_assoc, Option, Some, sym, ap}
use Rattle.std.specs.Int.{Width, to_be_bytes, w16}
use mir.Val.{bits}
use Rattle.std.proofs.lemmas.List.{append-nil}
use Rattle.mls_wire.specs.Encoding.{◌⊕◌, number, length_form, vector, list}
use Rattle.mls_wire.specs.EncodingConcat.{join}
use Rattle.mls_wire.specs.IntegersExact.{number_made}
use Rattle.mls_nodes.specs.Extension.{extension}
use Rattle.mls_nodes.specs.Layout.{leaf}
use Rattle.mls_check.specs.Signatures.{VerifyFn, is_signed, is_signed_text}
use Rattle.mls_check.proofs.Inputs.{vector-some}
use Rattle.mls_msgs.specs.Tbs.{package_label, package_tbs}
use Rattle.mls_msgs.specs.declared.key_package.KeyPackage.{KeyPackage}
use Rattle.mls_apply.specs.ProposalRules.{is_package_signed}

-- a number, before more
pub number_then : (w : Width) (n : ℕ) (more : Option (List ℕ)) (rest : List ℕ) → n < 2 ^ bits w → more ≡ Some rest
    → number w n ⊕ more ≡ Some (to_be_bytes w n ++ rest)
number_then w n more rest lt e = join (number w n) more (to_be_bytes w n) rest (number_made w n lt) e

-- a vector, before more
pub vector_then : (body front : List ℕ) (more : Option (List ℕ)) (rest : List ℕ) → length_form (length body) ≡ Some front → more ≡ Some rest
    → vector body ⊕ more ≡ Some (front ++ (body ++ rest))
vector_then body front more rest len e =
    join (vector body) more (front ++ body) rest (vector-some body front len) e
    ∙ ap (λ (t : List ℕ). Some t) (append_assoc front body rest)

-- a vector, before nothing
pub vector_last : (body front : List ℕ) → length_form (length body) ≡ Some front → vector body ≡ Some (front ++ (body ++ []))
vector_last body front len = vector-some body front len ∙ ap (λ (t : List ℕ). Some (front ++ t)) (sym (append-nil body))

-- a list whose items have an encoding as one body, before more
pub list_then : (listed : Option (List ℕ)) (body front : List ℕ) (more : Option (List ℕ)) (rest : List ℕ) → listed ≡ vector body
    → length_form (length body) ≡ Some front → more ≡ Some rest → listed ⊕ more ≡ Some (front ++ (body ++ rest))
list_then listed body front more rest is len e = ap (λ (o : Option (List ℕ)). o ⊕ more) is ∙ vector_then body front more rest len e

-- a number, before nothing
pub number_last : (w : Width) (n : ℕ) → n < 2 ^ bits w → number w n ≡ Some (to_be_bytes w n ++ [])
number_last w n lt = number_made w n lt ∙ ap (λ (t : List ℕ). Some t) (sym (append-nil (to_be_bytes w n)))

-- the KeyPackageTBS of a KeyPackage whose extensions have the encoding `extensions`
package_pieces : (k : KeyPackage) (init_key_len encoded extensions extensions_len : List ℕ) → k.version < 2 ^ 16 → k.cipher_suite < 2 ^ 16
    → length_form (length k.init_key) ≡ Some init_key_len → leaf k.leaf_node ≡ Some encoded → list extension k.extensions ≡ vector extensions
    → length_form (length extensions) ≡ Some extensions_len
    → package_tbs k ≡ Some (to_be_bytes w16 k.version ++ (to_be_bytes w16 k.cipher_suite ++ (init_key_len ++ (k.init_key
    ++ (encoded ++ (extensions_len ++ (extensions ++ [])))))))
unfolding package_tbs
package_pieces k init_key_len encoded extensions extensions_len version suite key_len leaf_is listed list_len =
    let last = listed ∙ vector_last extensions extensions_len list_len in
    let ends = join (leaf k.leaf_node) (list extension k.extensions) encoded (extensions_len ++ (extensions ++ [])) leaf_is last in
    number_then w16 k.version _ _ version (number_then w16 k.cipher_suite _ _ suite (vector_then k.init_key init_key_len _ _ key_len ends))

-- what the checker says of its pieces
pub package_signed : (G : VerifyFn) (suite : ℕ) (k : KeyPackage) (init_key_len encoded extensions extensions_len : List ℕ)
    → k.version < 2 ^ 16 → k.cipher_suite < 2 ^ 16
    → length_form (length k.init_key) ≡ Some init_key_len → leaf k.leaf_node ≡ Some encoded → list extension k.extensions ≡ vector extensions
    → length_form (length extensions) ≡ Some extensions_len
    → is_signed G suite k.leaf_node.signature_key package_label (to_be_bytes w16 k.version ++ (to_be_bytes w16 k.cipher_suite ++ (init_key_len
    ++ (k.init_key ++ (encoded ++ (extensions_len ++ (extensions ++ []))))))) k.signature ≡ is_package_signed G suite k
unfolding is_package_signed
package_signed G suite k init_key_len encoded extensions extensions_len version cipher_suite key_len leaf_is listed list_len =
    sym (ap (λ o. is_signed_text G suite k.leaf_node.signature_key package_label o k.signature)
    (package_pieces k init_key_len encoded extensions extensions_len version cipher_suite key_len leaf_is listed list_len))
