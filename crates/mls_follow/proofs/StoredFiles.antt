-- A state has a file, or no bytes are its file.
use Rattle.std.proofs.Common.{◌≡◌, ◌∙◌, ℕ, Bool, true, false, List, [], ◌∷◌, length, map, Option, Some, None, refl, sym, ap, subst, inl, inr}
use Rattle.std.specs.Prelude.{◌⊎◌}
use Rattle.std.specs.Str.{bytes_eq}
use Rattle.std.proofs.lemmas.Bool.{false≢true}
use Rattle.std.proofs.lemmas.Option.{none-some, same_Some}
use Rattle.std.proofs.lemmas.Slice.Eq.{bytes_eq-Decides}
use Rattle.mls_apply.specs.declared.list_item.KnownProposal.{KnownProposal}
use Rattle.sha2.specs.Sha256.{sha256}
use Rattle.mls_wire.specs.Encoding.{vector}
use Rattle.mls_wire.specs.Parsing.{vector_at}
use Rattle.mls_wire.specs.VectorsExact.{vector_exact}
use Rattle.mls_nodes.specs.RatchetTreeEncoding.{full_size, ratchet_tree, trimmed}
use Rattle.mls_tree.specs.RatchetTree.{HasShape, RatchetTree}
use Rattle.mls_tree.specs.Tree.{Tree, leaf, branch, height, IsPerfect, listing}
use Rattle.mls_tree.specs.TreeDecoding.{IsTreeOf}
use Rattle.mls_state.specs.Layout.{follower_state, state_file}
use Rattle.mls_state.specs.StateFile.{IsFileOf}
use Rattle.mls_state.specs.declared.state.FollowerState.{FollowerState}
use Rattle.mls_state.specs.declared.state.GroupMode.{GroupMode}
use Rattle.mls_follow.specs.State.{State}
use Rattle.mls_follow.specs.StoredState.{IsTreeBody, Stores, EncodesState, HasNoFile, AreReferenced, computed_references, pending_contents, stored_mode}
use Rattle.mls_follow.specs.StoredRuns.{StoredFileOrNone}
use Rattle.mls_follow.proofs.Readings.{read_or_not, fits_or_not, same_or_not, le_or_not}
use Rattle.mls_follow.proofs.StoredStates.{made_file, no_file, long_file, no_tree_no_file, no_mode_no_file, unreferenced_no_file}
use Rattle.mls_follow.proofs.StoredTrees.{encoded_tree, filled-full}
use Rattle.mls_follow.proofs.Storing.{own_bytes, no_body, is_same}

-- ---- shapes

perfect_or_not : (t : Tree) → IsPerfect t ⊎ (IsPerfect t → ⊥)
perfect_or_not (leaf x) = inl tt
perfect_or_not (branch l n r) =
    elim (same_or_not (height l) (height r)) [
      | inr other ↦ inr (λ h. other h.0)
      | inl same ↦ elim (perfect_or_not l) [
        | inr none ↦ inr (λ h. none h.1)
        | inl left ↦ elim (perfect_or_not r) [
          | inr none ↦ inr (λ h. none h.2)
          | inl right ↦ inl (same, left, right)
        ]
      ]
    ]

shape_or_not : (t : Tree) → HasShape t ⊎ (HasShape t → ⊥)
shape_or_not t =
    elim (perfect_or_not t) [
      | inr none ↦ inr (λ h. none h.perfect)
      | inl perfect ↦ elim (le_or_not (height t) 20) [
        | inr high ↦ inr (λ h. high h.low)
        | inl low ↦ inl (record { perfect = perfect; low = low })
      ]
    ]

-- ---- references

abbrev AlikeOrNot : Option (List ℕ) → Option (List ℕ) → Type 0
AlikeOrNot x y = (x ≡ y) ⊎ (x ≡ y → ⊥)

reference_or_not : (x y : Option (List ℕ)) → AlikeOrNot x y
reference_or_not None None = inl refl
reference_or_not None (Some y) = inr (λ e. none-some y e)
reference_or_not (Some x) None = inr (λ e. none-some x (sym e))
reference_or_not (Some x) (Some y) = go (bytes_eq x y) refl
  where
    go : (b : Bool) → bytes_eq x y ≡ b → AlikeOrNot (Some x) (Some y)
    go true same = inl (ap Some ((bytes_eq-Decides x y).0 same))
    go false other = inr (λ e. false≢true (sym other ∙ (bytes_eq-Decides x y).1 (same_Some x y e)))

references_or_not : (xs ys : List (Option (List ℕ))) → (xs ≡ ys) ⊎ (xs ≡ ys → ⊥)
references_or_not [] [] = inl refl
references_or_not [] (y ∷ ys) = inr (λ e. cc)
references_or_not (x ∷ xs) [] = inr (λ e. cc)
references_or_not (x ∷ xs) (y ∷ ys) =
    elim (reference_or_not x y) [
      | inr other ↦ inr (λ e. other (cc))
      | inl first ↦ elim (references_or_not xs ys) [
        | inr other ↦ inr (λ e. other (cc))
        | inl rest ↦ inl (λ i. first i ∷ rest i)
      ]
    ]

-- ---- bodies

module _ (t : RatchetTree) where
  abbrev BodyOrNone : Type 0
  BodyOrNone = ((body : List ℕ) × IsTreeBody body t) ⊎ ((body : List ℕ) → IsTreeBody body t → ⊥)

  by_vector : (bytes : List ℕ) → ratchet_tree (trimmed (listing t.tree)) ≡ Some bytes → IsTreeOf bytes t → BodyOrNone
  by_vector bytes e is =
      elim (read_or_not vector vector_at vector_exact bytes) [
        | inl body ↦ inl (body.0, record { bytes = bytes; encoded = body.1; tree = is })
        | inr none ↦ inr (λ body h. none body (own_bytes bytes t e body h).0)
      ]

  by_bytes : (o : Option (List ℕ)) → ratchet_tree (trimmed (listing t.tree)) ≡ o → BodyOrNone
  by_bytes None e = inr (λ body h. none-some h.bytes (sym e ∙ encoded_tree h.bytes t h.tree))
  by_bytes (Some bytes) e =
      elim (fits_or_not bytes) [
        | inr long ↦ inr (no_body bytes t e (λ h. long h.is_tree.bounded))
        | inl short ↦ elim (same_or_not (full_size (length (trimmed (listing t.tree)))) (length (listing t.tree))) [
          | inr other ↦ inr (no_body bytes t e (λ h. other (filled-full bytes t h)))
          | inl full ↦ by_vector bytes e (is_same bytes t e short full)
        ]
      ]

  body_or_none : BodyOrNone
  body_or_none = by_bytes (ratchet_tree (trimmed (listing t.tree))) refl

-- ---- files

module _ (s : State) where
  abbrev FileOrNone : Type 0
  FileOrNone = ((bytes : List ℕ) × EncodesState s bytes) ⊎ HasNoFile s

  module _ (c : FollowerState) (t : RatchetTree) (body : IsTreeBody c.tree t) (stores : Stores c t s) where
    -- a file of the content has the digest of its encoding
    the_file : (encoded bytes : List ℕ) → follower_state c ≡ Some encoded → (h : IsFileOf bytes c) → h.file ≡ record { checksum = sha256 encoded; state = c }
    the_file encoded bytes e h =
        let same : h.checked.body ≡ encoded =
        same_Some h.checked.body encoded (sym h.checked.encoded ∙ ap follower_state h.state ∙ e) in
        let digest = h.checked.digest ∙ ap sha256 same in
        λ i. record { checksum = digest i; state = h.state i }

    by_length : (bytes : List ℕ) → IsFileOf bytes c → FileOrNone
    by_length bytes file =
        elim (fits_or_not bytes) [
          | inl le ↦ inl (bytes, made_file s c t body stores bytes file le)
          | inr long ↦ inr (long_file s c t body stores bytes file long)
        ]

    by_file : (encoded : List ℕ) → follower_state c ≡ Some encoded → (o : Option (List ℕ))
        → state_file (record { checksum = sha256 encoded; state = c }) ≡ o → FileOrNone
    by_file encoded e None f =
        inr (no_file s c t body stores (λ bytes h. none-some bytes (sym f ∙ ap state_file (sym (the_file encoded bytes e h)) ∙ h.encoded)))
    by_file encoded e (Some bytes) f =
        by_length bytes (record {
          file = record { checksum = sha256 encoded; state = c };
          state = refl;
          checked = record { body = encoded; encoded = e; digest = refl };
          encoded = f;
        })

    by_state : (o : Option (List ℕ)) → follower_state c ≡ o → FileOrNone
    by_state None e =
        inr (no_file s c t body stores (λ bytes h. none-some h.checked.body (sym e ∙ ap follower_state (sym h.state) ∙ h.checked.encoded)))
    by_state (Some encoded) e = by_file encoded e (state_file (record { checksum = sha256 encoded; state = c })) refl

    by_content : FileOrNone
    by_content = by_state (follower_state c) refl

  by_mode : AreReferenced s.context s.known → (mode : GroupMode) → stored_mode s.profile s.ended ≡ Some mode → HasShape s.tree → FileOrNone
  by_mode referenced mode e shape =
      let t : RatchetTree = record { tree = s.tree; shape = shape } in
      elim (body_or_none t) [
        | inr none ↦ inr (no_tree_no_file s t refl none)
        | inl body ↦
            (let c : FollowerState = record {
              mode = mode;
              rules = s.rules;
              context = s.context;
              interim = s.interim;
              tree = body.0;
              known = pending_contents s;
              added = s.added;
            } in
            by_content c t body.1 (record {
              mode = e;
              rules = refl;
              context = refl;
              tree = refl;
              interim = refl;
              known = refl;
              referenced = referenced;
              added = refl;
            }))
      ]

  by_shape : AreReferenced s.context s.known → (o : Option GroupMode) → stored_mode s.profile s.ended ≡ o → HasShape s.tree → FileOrNone
  by_shape referenced None e shape = inr (no_mode_no_file s e)
  by_shape referenced (Some mode) e shape = by_mode referenced mode e shape

  by_references : HasShape s.tree → FileOrNone
  by_references shape =
      elim (references_or_not (computed_references s.context s.known) (map (λ (k : KnownProposal). Some k.reference) s.known)) [
        | inl referenced ↦ by_shape referenced (stored_mode s.profile s.ended) refl shape
        | inr other ↦ inr (unreferenced_no_file s other)
      ]

pub some_file : StoredFileOrNone
some_file s =
    elim (shape_or_not s.tree) [
      | inl shape ↦ by_references s shape
      | inr none ↦ inr (λ bytes e. none (subst HasShape e.stores.tree e.tree.shape))
    ]
