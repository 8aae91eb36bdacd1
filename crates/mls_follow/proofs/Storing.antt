-- What the calls that store a state say of its file.
use Rattle.std.proofs.Common.{◌≡◌, ◌≢◌, ◌∙◌, ℕ, ◌≤◌, ◌<◌, List, length, Bool, true, false, Some, Result, Ok, Err, IfOk, IfErr, refl, sym, ap, subst, arith}
use Rattle.std.specs.Bool.{OnTrue, OnFalse}
use Rattle.std.proofs.lemmas.Bool.{false≢true}
use Rattle.std.proofs.lemmas.Option.{none-some, same_Some}
use Rattle.mls_wire.specs.Encoding.{vector}
use Rattle.mls_wire.specs.Faults.{too_long_at}
use Rattle.mls_wire.specs.ReadContracts.{DecodesInput, seen}
use Rattle.mls_wire.specs.declared.fault.CodecFault.{CodecFault}
use Rattle.mls_wire.specs.declared.fault.CodecFault.TheVariants as codec
use Rattle.mls_nodes.specs.RatchetTreeContracts.{EncodesTree}
use Rattle.mls_nodes.specs.RatchetTreeEncoding.{full_size, ratchet_tree, trimmed}
use Rattle.mls_nodes.specs.declared.fault.NodeFault.{NodeFault}
use Rattle.mls_nodes.specs.declared.fault.NodeFault.TheVariants as nodes
use Rattle.mls_tree.specs.RatchetTree.{RatchetTree}
use Rattle.mls_tree.specs.Tree.{listing}
use Rattle.mls_tree.specs.TreeDecoding.{IsTreeOf}
use Rattle.mls_state.proofs.Files.{file_is_unique}
use Rattle.mls_state.specs.StateFile.{IsFileOf}
use Rattle.mls_state.specs.declared.state.FollowerState.{FollowerState}
use Rattle.mls_follow.specs.State.{State}
use Rattle.mls_follow.specs.StoredState.{IsTreeBody, Stores, EncodesState, HasNoFile}
use Rattle.mls_follow.specs.StoringParts.{HasNoTreeBody, MakesShortFile, storing_fault}
use Rattle.mls_follow.proofs.StoredStates.{made_file, one_content}
use Rattle.mls_follow.proofs.StoredTrees.{encoded_tree, filled-trimmed, filled-full}

module _ (bytes : List ℕ) (t : RatchetTree) (e : ratchet_tree (trimmed (listing t.tree)) ≡ Some bytes) where
  -- a body of the tree has these bytes
  pub own_bytes : (body : List ℕ) → IsTreeBody body t → (vector body ≡ Some bytes) × IsTreeOf bytes t
  own_bytes body h =
      let same : h.bytes ≡ bytes = same_Some h.bytes bytes (sym (encoded_tree h.bytes t h.tree) ∙ e) in
      (h.encoded ∙ ap Some same, subst (λ (b : List ℕ). IsTreeOf b t) same h.tree)

  pub no_body : (IsTreeOf bytes t → ⊥) → (body : List ℕ) → IsTreeBody body t → ⊥
  no_body none body h = none (own_bytes body h).1

  -- the bytes encode the tree exactly if they are within the limit and its entries fill it
  pub is_same : length bytes ≤ 268435456 → full_size (length (trimmed (listing t.tree))) ≡ length (listing t.tree) → IsTreeOf bytes t
  is_same short full = record {
    nodes = trimmed (listing t.tree);
    is_tree = record { encoded = e; bounded = short };
    full = filled-trimmed (listing t.tree) full;
  }

  pub same_when : (b : Bool) → length bytes ≤ 268435456 → (b ≡ true → full_size (length (trimmed (listing t.tree))) ≡ length (listing t.tree)) → OnTrue b (IsTreeOf bytes t)
  same_when true short full = is_same short (full refl)
  same_when false short full = tt

  pub other_when : (b : Bool) → (full_size (length (trimmed (listing t.tree))) ≡ length (listing t.tree) → b ≡ true) → OnFalse b (IsTreeOf bytes t → ⊥)
  other_when true full = tt
  other_when false full = λ h. false≢true (full (filled-full bytes t h))

  module _ (is_tree : IsTreeOf bytes t) where
    pub body_read : (r : Result (List ℕ) CodecFault) → DecodesInput vector bytes r → IfOk r (λ body. IsTreeBody body t)
    body_read (Ok body) h = record { bytes = bytes; encoded = h.0; tree = is_tree }
    body_read (Err f) h = tt

    pub body_unread : (r : Result (List ℕ) CodecFault) → DecodesInput vector bytes r → IfErr r (λ f. f ≢ codec.OutOfMemory → (body : List ℕ) → IsTreeBody body t → ⊥)
    body_unread (Ok body) h = tt
    body_unread (Err (codec.Wire f)) h = λ own body i. h body (own_bytes body i).0 is_tree.is_tree.bounded
    body_unread (Err codec.OutOfMemory) h = λ own body i. absurd (own refl)

-- entries that have no encoding are those of no tree with a body
pub unencoded_tree : (t : RatchetTree) (f : NodeFault) → EncodesTree (listing t.tree) (Err f) → f ≢ nodes.OutOfMemory → (body : List ℕ) → IsTreeBody body t → ⊥
unencoded_tree t (nodes.Wire f) h own body i = none-some i.bytes (sym h ∙ encoded_tree i.bytes t i.tree)
unencoded_tree t (nodes.WrongNodeKind node_index) h own body i = none-some i.bytes (sym h ∙ encoded_tree i.bytes t i.tree)
unencoded_tree t nodes.LastBlank h own body i = none-some i.bytes (sym h ∙ encoded_tree i.bytes t i.tree)
unencoded_tree t nodes.EmptyTree h own body i = none-some i.bytes (sym h ∙ encoded_tree i.bytes t i.tree)
unencoded_tree t nodes.TooManyLeaves h own body i = none-some i.bytes (sym h ∙ encoded_tree i.bytes t i.tree)
unencoded_tree t nodes.OutOfMemory h own body i = own refl

-- ---- faults

pub unstorable_tree : (t : RatchetTree) (f : NodeFault) → EncodesTree (listing t.tree) (Err f) → storing_fault f ≢ codec.OutOfMemory → HasNoTreeBody t
unstorable_tree t (nodes.Wire f) h own = unencoded_tree t (nodes.Wire f) h (λ e. cc)
unstorable_tree t (nodes.WrongNodeKind node_index) h own = unencoded_tree t (nodes.WrongNodeKind node_index) h (λ e. cc)
unstorable_tree t nodes.LastBlank h own = unencoded_tree t nodes.LastBlank h (λ e. cc)
unstorable_tree t nodes.EmptyTree h own = unencoded_tree t nodes.EmptyTree h (λ e. cc)
unstorable_tree t nodes.TooManyLeaves h own = unencoded_tree t nodes.TooManyLeaves h (λ e. cc)
unstorable_tree t nodes.OutOfMemory h own = absurd (own refl)

-- ---- files

-- a content whose file is over the limit
pub over_limit : (c : FollowerState) (bytes : List ℕ) → IsFileOf bytes c → 268435456 < length bytes
    → MakesShortFile c (Err (codec.Wire (too_long_at 0)))
over_limit c bytes file long = (
  refl,
  λ other is le. (let same : length other ≡ length bytes = ap length (file_is_unique other bytes c is file) in absurd (omega (arith, same, long, le))),
)

-- a content that has no file
pub no_short_file : (c : FollowerState) → ((bytes : List ℕ) → IsFileOf bytes c → ⊥) → MakesShortFile c (Err (codec.Wire (too_long_at 0)))
no_short_file c none = (refl, λ bytes is le. none bytes is)

module _ (s : State) (c : FollowerState) (t : RatchetTree) (body : IsTreeBody c.tree t) (stores : Stores c t s) where
  pub file_made : {V : Type 0} (items : V → List ℕ) (r : Result V CodecFault) → MakesShortFile c (seen items r) → IfOk r (λ v. EncodesState s (items v))
  file_made items (Ok v) h = made_file s c t body stores (items v) h.0 h.1
  file_made items (Err f) h = tt

  pub file_unmade : {V : Type 0} (items : V → List ℕ) (r : Result V CodecFault) → MakesShortFile c (seen items r)
      → IfErr r (λ f. f ≢ codec.OutOfMemory → (f ≡ codec.Wire (too_long_at 0)) × HasNoFile s)
  file_unmade items (Ok v) h = tt
  file_unmade items (Err (codec.Wire f)) h = λ own. (
    ap codec.Wire h.0,
    λ bytes e. h.1 bytes (subst (IsFileOf bytes) (one_content e.content c e.tree t s e.intact.tree body e.stores stores) e.intact.file) e.intact.bounded,
  )
  file_unmade items (Err codec.OutOfMemory) h = λ own. absurd (own refl)
