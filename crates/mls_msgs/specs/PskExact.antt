-- What is read as a PreSharedKeyID or as a ReInit is encoded so, and what is encoded so is read. Internal: no public
-- contract uses this.
use Rattle.std.proofs.Common.{◌≡◌, ◌≢◌, ℕ, List, [], Option, Some, refl, sym, ◌∙◌, arith}
use Rattle.std.specs.Int.{w8, w16, w64}
use Rattle.mls_wire.specs.Input.{Input}
use Rattle.mls_wire.specs.Encoding.{◌⊕◌, number, vector, list}
use Rattle.mls_wire.specs.Parsing.{number_at, vector_at, list_at}
use Rattle.mls_wire.specs.ExactParsers.{Exact, IsExact, IsLong, Any, field_then, made_of, tag_is, known, never, encoded_as}
use Rattle.mls_wire.specs.IntegersExact.{wide8, wide16, wide64, number_exact, number_long}
use Rattle.mls_wire.specs.VectorsExact.{vector_exact, vector_long}
use Rattle.mls_wire.specs.EncodingConcat.{long_left}
use Rattle.mls_nodes.specs.Extension.{extension}
use Rattle.mls_nodes.specs.LeafParsing.{extension_at}
use Rattle.mls_nodes.specs.NodesExact.{extensions_exact}
use Rattle.mls_msgs.specs.Layout.{psk_usage, psk_kind, psk_id, reinit}
use Rattle.mls_msgs.specs.Parsing.{psk_usage_at, resumption_at, psk_kind_at, psk_id_at, reinit_at}
use Rattle.mls_msgs.specs.declared.pre_shared_key.PskUsage.{PskUsage}
use Rattle.mls_msgs.specs.declared.pre_shared_key.PskUsage.TheVariants.{Application, ReInit, Branch}
use Rattle.mls_msgs.specs.declared.pre_shared_key.PskKind.{PskKind}
use Rattle.mls_msgs.specs.declared.pre_shared_key.PskKind.TheVariants.{External, Resumption}

-- ---- usages

-- The type of a usage.
abbrev usage_kind : PskUsage → ℕ
usage_kind Application = 1
usage_kind ReInit = 2
usage_kind Branch = 3

-- What follows the type.
abbrev usage_body : PskUsage → Option (List ℕ)
usage_body usage = Some []

usage_parts : (u : PskUsage) → number w8 (usage_kind u) ⊕ usage_body u ≡ psk_usage u
unfolding psk_usage number ◌⊕◌
usage_parts Application = refl
usage_parts ReInit = refl
usage_parts Branch = refl

is_application_usage_by_kind : (u : PskUsage) → Unit {0} × (usage_kind u ≡ 1) → Application ≡ u
is_application_usage_by_kind Application p = refl
is_application_usage_by_kind ReInit p = absurd (omega arith)
is_application_usage_by_kind Branch p = absurd (omega arith)

is_reinit_usage_by_kind : (u : PskUsage) → Unit {0} × (usage_kind u ≡ 2) → ReInit ≡ u
is_reinit_usage_by_kind Application p = absurd (omega arith)
is_reinit_usage_by_kind ReInit p = refl
is_reinit_usage_by_kind Branch p = absurd (omega arith)

is_branch_usage_by_kind : (u : PskUsage) → Unit {0} × (usage_kind u ≡ 3) → Branch ≡ u
is_branch_usage_by_kind Application p = absurd (omega arith)
is_branch_usage_by_kind ReInit p = absurd (omega arith)
is_branch_usage_by_kind Branch p = refl

no_usage : (n : ℕ) → n ≢ 1 → n ≢ 2 → n ≢ 3 → (u : PskUsage) → Unit {0} × (usage_kind u ≡ n) → ⊥
no_usage n x y z Application p = x (sym p.1)
no_usage n x y z ReInit p = y (sym p.1)
no_usage n x y z Branch p = z (sym p.1)

pub psk_usage_exact : IsExact psk_usage psk_usage_at
unfolding psk_usage_at
psk_usage_exact = encoded_as Any psk_usage _ psk_usage_at usage_parts
    (field_then Any usage_kind (number w8) usage_body (number_at w8) _ (number_exact w8 wide8)
    (λ n. tag_is usage_kind _ _ _ n 1 (known _ _ Application (tt, refl) refl is_application_usage_by_kind)
    (λ x. tag_is usage_kind _ _ _ n 2 (known _ _ ReInit (tt, refl) refl is_reinit_usage_by_kind)
    (λ y. tag_is usage_kind _ _ _ n 3 (known _ _ Branch (tt, refl) refl is_branch_usage_by_kind)
    (λ z. never _ _ (no_usage n x y z))))))

pub psk_usage_long : IsLong psk_usage
unfolding psk_usage
psk_usage_long Application front h = number_long w8 wide8 1 front h
psk_usage_long ReInit front h = number_long w8 wide8 2 front h
psk_usage_long Branch front h = number_long w8 wide8 3 front h

-- ---- where a key comes from

-- The type of a pre-shared key.
abbrev psk_type : PskKind → ℕ
psk_type (External id) = 1
psk_type (Resumption usage group_id epoch) = 2

-- What follows the type.
abbrev psk_body : PskKind → Option (List ℕ)
psk_body (External id) = vector id
psk_body (Resumption usage group_id epoch) = psk_usage usage ⊕ vector group_id ⊕ number w64 epoch

psk_parts : (p : PskKind) → number w8 (psk_type p) ⊕ psk_body p ≡ psk_kind p
unfolding psk_kind
psk_parts (External id) = refl
psk_parts (Resumption usage group_id epoch) = refl

is_external_psk_by_kind : (p : PskKind) → Unit {0} × (psk_type p ≡ 1) → (x : List ℕ) × (External x ≡ p)
is_external_psk_by_kind (External x) p = (x, refl)
is_external_psk_by_kind (Resumption u g e) p = absurd (omega arith)

-- The fields of a resumption PSK. For another kind, any values.
abbrev usage_of : PskKind → PskUsage
usage_of (External id) = Application
usage_of (Resumption usage group_id epoch) = usage

abbrev group_of : PskKind → List ℕ
group_of (External id) = []
group_of (Resumption usage group_id epoch) = group_id

abbrev epoch_of : PskKind → ℕ
epoch_of (External id) = 0
epoch_of (Resumption usage group_id epoch) = epoch

is_resumption_psk_by_kind : (p : PskKind) → Unit {0} × (psk_type p ≡ 2) → Resumption (usage_of p) (group_of p) (epoch_of p) ≡ p
is_resumption_psk_by_kind (External x) p = absurd (omega arith)
is_resumption_psk_by_kind (Resumption u g e) p = refl

-- A resumption PSK is made of its fields.
made : (u : PskUsage) (g : List ℕ) (p : PskKind) → ((Unit {0} × (psk_type p ≡ 2)) × (usage_of p ≡ u)) × (group_of p ≡ g) → (e : ℕ) × (Resumption u g e ≡ p)
made u g p h = (epoch_of p, rw (← h.0.1, ← h.1) (is_resumption_psk_by_kind p h.0.0))

-- What follows its type.
resumption_parts : (p : PskKind) → Unit {0} × (psk_type p ≡ 2) → psk_usage (usage_of p) ⊕ (vector (group_of p) ⊕ number w64 (epoch_of p)) ≡ psk_body p
resumption_parts (External x) p = absurd (omega arith)
resumption_parts (Resumption u g e) p = refl

module _ {R : Type 0} (P : R → Type 0) (s t : R → Option (List ℕ)) (f : Input → Option (R × Input)) where
  -- Two encodings that agree on the values that satisfy P.
  alike : ((r : R) → P r → s r ≡ t r) → Exact P s f → Exact P t f
  alike same h = record {
    takes = λ i r j e. let b = h.takes i r j e in (b.0, (b.1.0, sym (same r b.0) ∙ b.1.1, b.1.2, b.1.3));
    again = λ r front rest offset p e. h.again r front rest offset p (same r p ∙ e);
  }

resumption_exact : Exact (λ p. Unit {0} × (psk_type p ≡ 2)) psk_body resumption_at
unfolding resumption_at
resumption_exact = alike _ (λ p. psk_usage (usage_of p) ⊕ (vector (group_of p) ⊕ number w64 (epoch_of p))) psk_body _ resumption_parts
    (field_then _ usage_of psk_usage _ psk_usage_at _ psk_usage_exact
    (λ u. field_then _ group_of vector _ vector_at _ vector_exact
    (λ g. made_of _ (λ e. Resumption u g e) (number w64) (λ p. number w64 (epoch_of p)) (number_at w64) (number_exact w64 wide64)
    (λ e. (((tt, refl), refl), refl)) (λ e. refl) (made u g))))

no_kind : (n : ℕ) → n ≢ 1 → n ≢ 2 → (p : PskKind) → Unit {0} × (psk_type p ≡ n) → ⊥
no_kind n x y (External _) p = x (sym p.1)
no_kind n x y (Resumption _ _ _) p = y (sym p.1)

pub psk_kind_exact : IsExact psk_kind psk_kind_at
unfolding psk_kind_at
psk_kind_exact = encoded_as Any psk_kind _ psk_kind_at psk_parts
    (field_then Any psk_type (number w8) psk_body (number_at w8) _ (number_exact w8 wide8)
    (λ n. tag_is psk_type _ _ _ n 1 (made_of _ External vector _ vector_at vector_exact (λ x. (tt, refl)) (λ x. refl) is_external_psk_by_kind)
    (λ x. tag_is psk_type _ _ _ n 2 resumption_exact
    (λ y. never _ _ (no_kind n x y)))))

pub psk_kind_long : IsLong psk_kind
unfolding psk_kind
psk_kind_long (External id) front h = long_left (number w8 1) _ front (number_long w8 wide8 1) h
psk_kind_long (Resumption usage group_id epoch) front h = long_left (number w8 2) _ front (number_long w8 wide8 2) h

-- ---- names of keys

pub psk_id_exact : IsExact psk_id psk_id_at
unfolding psk_id psk_id_at
psk_id_exact =
    field_then Any (λ p. p.kind) psk_kind _ psk_kind_at _ psk_kind_exact
    (λ a. made_of _ (λ x. record { kind = a; nonce = x }) vector _ vector_at vector_exact
    (λ x. (tt, refl)) (λ x. refl) (λ p h. (p.nonce, rw (← h.1) refl)))

pub psk_id_long : IsLong psk_id
unfolding psk_id
psk_id_long p front h = long_left (psk_kind p.kind) _ front (psk_kind_long p.kind) h

-- ---- what a group is to be replaced by

pub reinit_exact : IsExact reinit reinit_at
unfolding reinit reinit_at
reinit_exact =
    field_then Any (λ r. r.group_id) vector _ vector_at _ vector_exact
    (λ a. field_then _ (λ r. r.version) (number w16) _ (number_at w16) _ (number_exact w16 wide16)
    (λ b. field_then _ (λ r. r.cipher_suite) (number w16) _ (number_at w16) _ (number_exact w16 wide16)
    (λ c. made_of _ (λ x. record { group_id = a; version = b; cipher_suite = c; extensions = x }) (list extension) _ (list_at extension_at) extensions_exact
    (λ x. (((tt, refl), refl), refl)) (λ x. refl)
    (λ r p. (r.extensions, rw (← p.0.0.1, ← p.0.1, ← p.1) refl)))))

pub reinit_long : IsLong reinit
unfolding reinit
reinit_long r front h = long_left (vector r.group_id) _ front (vector_long r.group_id) h
