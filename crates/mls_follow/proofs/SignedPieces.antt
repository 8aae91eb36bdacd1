-- What is signed of a GroupInfo and of a message, in pieces.
use Rattle.std.proofs.Common.{◌≡◌, ◌∙◌, ◌^◌, ◌<◌, ℕ, List, [], ◌++◌, length, flat_map, Option, Some, None, Ok, Err, refl, sym, ap}
use Rattle.std.specs.Prelude.{Result, OnOk, is_ok, if◌then◌else◌}
use Rattle.std.specs.Int.{w16, w32, w64, to_be_bytes}
use Rattle.std.proofs.lemmas.Grind.{flat_map-append}
use Rattle.std.proofs.lemmas.List.{append-nil}
use Rattle.mls_wire.specs.Encoding.{◌⊕◌, number, length_form, vector, list}
use Rattle.mls_wire.specs.EncodingConcat.{join, regrouped}
use Rattle.mls_nodes.specs.Extension.{extension}
use Rattle.mls_nodes.specs.Layout.{group_context}
use Rattle.mls_nodes.specs.declared.context.GroupContext.{GroupContext}
use Rattle.mls_nodes.specs.declared.leaf.LeafNode.{LeafNode}
use Rattle.mls_check.specs.Signatures.{VerifyFn, is_signed, is_signed_text}
use Rattle.mls_msgs.specs.Layout.{framed_content}
use Rattle.mls_msgs.specs.Tbs.{content_label, content_tbs, given_context, info_label, info_tbs}
use Rattle.mls_msgs.specs.declared.authenticated.AuthenticatedParts.{AuthenticatedParts}
use Rattle.mls_msgs.specs.declared.group_info.GroupInfo.{GroupInfo}
use Rattle.mls_apply.proofs.Pieces.{number_last, vector_then, vector_last, list_then}
use Rattle.mls_signatures.specs.SigningKeys.{signed_context}
use Rattle.mls_follow.specs.ContextPiecesInternal.{ArePieces, AddsPieces}
use Rattle.mls_follow.specs.MessageRules.{is_frame_signed}
use Rattle.mls_follow.specs.Start.{is_info_signed}

-- the bytes of pieces that were added to others
pub both_added : {X : Type 0} (bytes : X → List ℕ) (old more new : List X) → new ≡ old ++ more
    → flat_map bytes new ≡ flat_map bytes old ++ flat_map bytes more
both_added bytes old more new e = ap (flat_map bytes) e ∙ flat_map-append bytes old more

-- as a result says that it added them
pub pieces_added : {X E : Type 0} (bytes : X → List ℕ) (r : Result (Unit {0}) E) (text : Option (List ℕ)) (old more new : List X)
    → new ≡ (if is_ok r then old ++ more else old) → text ≡ Some (flat_map bytes more)
    → OnOk r (AddsPieces text (flat_map bytes old) (flat_map bytes new))
pieces_added bytes (Ok u) text old more new e t =
    record { added = flat_map bytes more; added_is = t; new_is = both_added bytes old more new e }
pieces_added bytes (Err x) text old more new e t = tt

-- the pieces of a GroupContext
pub context_pieces : (x : GroupContext) (version suite id_len epoch hash_len confirmed_len extensions extensions_len : List ℕ)
    → ArePieces x version suite id_len epoch hash_len confirmed_len extensions extensions_len
    → group_context x ≡ Some (version ++ (suite ++ (id_len ++ (x.group_id ++ (epoch ++ (hash_len ++ (x.tree_hash
    ++ (confirmed_len ++ (x.confirmed ++ (extensions_len ++ (extensions ++ [])))))))))))
unfolding group_context
context_pieces x version suite id_len epoch hash_len confirmed_len extensions extensions_len are =
    let last = are.extensions_are ∙ vector_last extensions extensions_len are.extensions_fit in
    let hashes = vector_then x.tree_hash hash_len _ _ are.tree_hash_fits (vector_then x.confirmed confirmed_len _ _ are.confirmed_fits last) in
    let from_id = vector_then x.group_id id_len _ _ are.group_id_fits (join (number w64 x.epoch) _ epoch _ are.epoch_is hashes) in
    join (number w16 x.version) _ version _ are.version_is (join (number w16 x.cipher_suite) _ suite _ are.suite_is from_id)

-- those of a GroupInfoTBS, after its GroupContext
info_pieces : (g : GroupInfo) (context extensions extensions_len tag_len : List ℕ) → group_context g.context ≡ Some context
    → list extension g.extensions ≡ vector extensions → length_form (length extensions) ≡ Some extensions_len
    → length_form (length g.confirmation_tag) ≡ Some tag_len → g.signer < 2 ^ 32
    → info_tbs g ≡ Some (context ++ (extensions_len ++ (extensions ++ (tag_len ++ (g.confirmation_tag ++ (to_be_bytes w32 g.signer ++ []))))))
unfolding info_tbs
info_pieces g context extensions extensions_len tag_len context_is listed list_len tag_fits signer =
    let last = vector_then g.confirmation_tag tag_len _ _ tag_fits (number_last w32 g.signer signer) in
    join (group_context g.context) _ context _ context_is (list_then (list extension g.extensions) extensions extensions_len _ _ listed list_len last)

pub info_signed : (G : VerifyFn) (g : GroupInfo) (x : LeafNode) (context extensions extensions_len tag_len : List ℕ)
    → group_context g.context ≡ Some context
    → list extension g.extensions ≡ vector extensions → length_form (length extensions) ≡ Some extensions_len
    → length_form (length g.confirmation_tag) ≡ Some tag_len → g.signer < 2 ^ 32
    → is_signed G g.context.cipher_suite x.signature_key info_label
    (context ++ (extensions_len ++ (extensions ++ (tag_len ++ (g.confirmation_tag ++ (to_be_bytes w32 g.signer ++ [])))))) g.signature
    ≡ is_info_signed G g x
unfolding is_info_signed
info_signed G g x context extensions extensions_len tag_len context_is listed list_len tag_fits signer =
    sym (ap (λ o. is_signed_text G g.context.cipher_suite x.signature_key info_label o g.signature)
    (info_pieces g context extensions extensions_len tag_len context_is listed list_len tag_fits signer))

nothing_first : (o : Option (List ℕ)) → Some [] ⊕ o ≡ o
unfolding ◌⊕◌
nothing_first None = refl
nothing_first (Some t) = refl

-- a FramedContentTBS with a GroupContext, by the one without
with_context : (a : AuthenticatedParts) (x : GroupContext) → content_tbs a None ⊕ group_context x ≡ content_tbs a (Some x)
unfolding content_tbs given_context
with_context a x =
    let format = number w16 a.wire_format in
    let content = framed_content a.content in
    regrouped (number w16 1) (format ⊕ (content ⊕ Some [])) (group_context x)
    ∙ ap (λ o. number w16 1 ⊕ o) (regrouped format (content ⊕ Some []) (group_context x)
    ∙ ap (λ o. format ⊕ o) (regrouped content (Some []) (group_context x) ∙ ap (λ o. content ⊕ o) (nothing_first (group_context x))))

pub frame_signed_with : (G : VerifyFn) (context : GroupContext) (key : List ℕ) (a : AuthenticatedParts) (x : GroupContext) (front added : List ℕ)
    → signed_context context a.content.sender ≡ Some x → content_tbs a None ≡ Some front → group_context x ≡ Some added
    → is_signed G context.cipher_suite key content_label ((front ++ []) ++ added) a.signature ≡ is_frame_signed G context key a
unfolding is_frame_signed
frame_signed_with G context key a x front added over front_is added_is =
    let whole = sym (with_context a x) ∙ join (content_tbs a None) (group_context x) front added front_is added_is in
    ap (λ (t : List ℕ). is_signed G context.cipher_suite key content_label (t ++ added) a.signature) (append-nil front)
    ∙ sym (ap (λ o. is_signed_text G context.cipher_suite key content_label (content_tbs a o) a.signature) over
    ∙ ap (λ o. is_signed_text G context.cipher_suite key content_label o a.signature) whole)

pub frame_signed_alone : (G : VerifyFn) (context : GroupContext) (key : List ℕ) (a : AuthenticatedParts) (front : List ℕ)
    → signed_context context a.content.sender ≡ None → content_tbs a None ≡ Some front
    → is_signed G context.cipher_suite key content_label front a.signature ≡ is_frame_signed G context key a
unfolding is_frame_signed
frame_signed_alone G context key a front over front_is =
    sym (ap (λ o. is_signed_text G context.cipher_suite key content_label (content_tbs a o) a.signature) over
    ∙ ap (λ o. is_signed_text G context.cipher_suite key content_label o a.signature) front_is)
