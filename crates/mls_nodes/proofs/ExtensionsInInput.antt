-- The extensions in an input, one after the other.
use Rattle.std.proofs.Common.{◌≡◌, ◌∙◌, ℕ, List, [], ◌∷◌, Some, None, Result, Ok, Err, refl, sym, subst}
use Rattle.std.specs.Prelude.{IsSome}
use Rattle.std.specs.Int.{w16}
use Rattle.mls_wire.specs.declared.fault.WireFault.{WireFault}
use Rattle.mls_wire.specs.Input.{Input}
use Rattle.mls_wire.specs.Encoding.{number, vector}
use Rattle.mls_wire.specs.EncodedItems.{Skips}
use Rattle.mls_wire.specs.ReadContracts.{Reads, IsEncodedAt}
use Rattle.mls_wire.specs.Parsing.{number_at, vector_at}
use Rattle.mls_wire.specs.IntegersExact.{wide16, number_exact}
use Rattle.mls_wire.specs.VectorsExact.{vector_exact}
use Rattle.mls_wire.specs.ExactReads.{Gives-reads}
use Rattle.mls_wire.specs.OptionBind.{some_is}
use Rattle.mls_wire.specs.StoredItems.{first_of, none_left_of}
use Rattle.mls_nodes.specs.Extension.{extension}
use Rattle.mls_nodes.specs.NodesExact.{extension_exact, extension_long}
use Rattle.mls_nodes.specs.LeafParsing.{extension_at}
use Rattle.mls_nodes.specs.ExtensionsLeft.{extensions_left, extensions_in}
use Rattle.mls_nodes.specs.declared.extension.Extension.{Extension}

-- ---- one extension

pub both_skipped : {B : Type 0} (i j k : Input) (kind : ℕ) (r : Result B WireFault) → number_at w16 i ≡ Some (kind, j) → Skips vector_at j k r → Skips extension_at i k r
unfolding extension_at
both_skipped i j k kind (Ok done) e h = (record { kind = kind; body = h.0 }, rw (e, h.1) refl)
both_skipped i j k kind (Err fault) e h = rw (e, h) refl

no_kind : (i j : Input) (e : WireFault) → Reads (number w16) i j (Err e) → extension_at i ≡ None
unfolding extension_at
no_kind i j e h = let a = (Gives-reads (number w16) (number_at w16) (number_exact w16 wide16) i j (Err e) h).0 in rw a refl

no_body : (i j k : Input) (kind : ℕ) (e : WireFault) → IsEncodedAt (number w16) kind i j → Reads vector j k (Err e) → extension_at i ≡ None
unfolding extension_at
no_body i j k kind e h g =
    let a : number_at w16 i ≡ Some (kind, j) = Gives-reads (number w16) (number_at w16) (number_exact w16 wide16) i j (Ok kind) h in
    let b = (Gives-reads vector vector_at vector_exact j k (Err e) g).0 in
    rw (a, b) refl

both : (i j k : Input) (kind : ℕ) (body : List ℕ) → IsEncodedAt (number w16) kind i j → IsEncodedAt vector body j k
    → extension_at i ≡ Some (record { kind = kind; body = body }, k)
unfolding extension_at
both i j k kind body h g =
    let a : number_at w16 i ≡ Some (kind, j) = Gives-reads (number w16) (number_at w16) (number_exact w16 wide16) i j (Ok kind) h in
    let b : vector_at j ≡ Some (body, k) = Gives-reads vector vector_at vector_exact j k (Ok body) g in
    rw (a, b) refl

-- ---- those that are left

first_left : (i : Input) → (i.left ≡ [] → ⊥) → IsSome (extensions_left i)
    → (x : Extension) × (j : Input) × (extension_at i ≡ Some (x, j)) × IsSome (extensions_left j) × (extensions_in i ≡ x ∷ extensions_in j)
first_left i some h = first_of extension extension_at extension_exact extension_long i some h

pub none_left : (i : Input) → i.left ≡ [] → extensions_in i ≡ []
none_left i e = none_left_of extension extension_at extension_exact extension_long i e

pub always_kind : (i j : Input) (e : WireFault) → (i.left ≡ [] → ⊥) → IsSome (extensions_left i) → Reads (number w16) i j (Err e) → ⊥
always_kind i j e some h r = let bad = sym (no_kind i j e r) ∙ (first_left i some h).2 in absurd cc

pub always_body : (i j k : Input) (kind : ℕ) (e : WireFault) → (i.left ≡ [] → ⊥) → IsSome (extensions_left i) → IsEncodedAt (number w16) kind i j → Reads vector j k (Err e) → ⊥
always_body i j k kind e some h r s = let bad = sym (no_body i j k kind e r s) ∙ (first_left i some h).2 in absurd cc

pub first_taken : (i j k : Input) (kind : ℕ) (body : List ℕ) → (i.left ≡ [] → ⊥) → IsSome (extensions_left i) → IsEncodedAt (number w16) kind i j → IsEncodedAt vector body j k
    → IsSome (extensions_left k) × (extensions_in i ≡ record { kind = kind; body = body } ∷ extensions_in k)
first_taken i j k kind body some h r s =
    let first = first_left i some h in
    let same = some_is _ _ (sym first.2 ∙ both i j k kind body r s) in
    subst (λ (p : Extension × Input). IsSome (extensions_left p.1) × (extensions_in i ≡ p.0 ∷ extensions_in p.1)) same (first.3, first.4)
