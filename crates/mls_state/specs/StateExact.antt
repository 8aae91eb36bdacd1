-- What is read of a state file is encoded so, and what is encoded so is read. Internal: no public contract uses this, but
-- that of `Decode`.
use Rattle.std.proofs.Common.{◌≡◌, ◌≢◌, ◌^◌, ◌<◌, ℕ, Bool, true, false, List, [], Option, Some, None, cond, eqb, refl, sym, ap, subst, arith}
use Rattle.std.specs.Prelude.{nat_lt}
use Rattle.std.specs.Coded.{le_prop}
use Rattle.std.proofs.lemmas.Bool.{eqb-true, eqb-false, ltb-false}
use mathlib.Core.HLevel.{is_prop→PathP}
use Rattle.std.specs.Int.{w8, w16}
use Rattle.mls_wire.specs.Input.{Input}
use Rattle.mls_wire.specs.Encoding.{◌⊕◌, number, vector, list, optional}
use Rattle.mls_wire.specs.Parsing.{◌>>=◌, number_at, vector_at, list_at}
use Rattle.mls_wire.specs.ParsingInternal.{optional_at}
use Rattle.mls_wire.specs.ReadContracts.{IsEncodedAt}
use Rattle.mls_wire.specs.OptionBind.{bind_some, some_is}
use Rattle.mls_wire.specs.ExactParsers.{Exact, IsExact, IsLong, Any, field_then, made_of, chosen, tag_is, known, never, encoded_as}
use Rattle.mls_wire.specs.IntegersExact.{wide8, wide16, number_exact, number_long}
use Rattle.mls_wire.specs.VectorsExact.{vector_exact, vector_long}
use Rattle.mls_wire.specs.ListsExact.{list_exact}
use Rattle.mls_wire.specs.OptionalsExact.{optional_exact}
use Rattle.mls_wire.specs.EncodingConcat.{long_left}
use Rattle.mls_nodes.specs.Layout.{group_context}
use Rattle.mls_nodes.specs.ParsingInternal.{group_context_at}
use Rattle.mls_nodes.specs.NodesExact.{group_context_exact}
use Rattle.mls_msgs.specs.Authenticated.{authenticated_content}
use Rattle.mls_msgs.specs.FrameParsing.{authenticated_content_at}
use Rattle.mls_msgs.specs.AuthenticatedExact.{authenticated_content_exact, authenticated_content_long}
use Rattle.mls_msgs.specs.Rules.{rule_bits}
use Rattle.mls_msgs.specs.declared.rules.Rules.{Rules}
use Rattle.mls_state.specs.Layout.{group_mode, rule_set, follower_state, state_file}
use Rattle.mls_state.specs.Parsing.{members_phase_at, full_phase_at, group_mode_at, rules_if, rules_of, rule_set_at, follower_state_at, state_file_at}
use Rattle.mls_state.specs.declared.state.GroupMode.{GroupMode}
use Rattle.mls_state.specs.declared.state.GroupMode.TheVariants.{Members, Full, Ended}
use Rattle.mls_state.specs.declared.file.StateFile.{StateFile}

-- ---- the profile, and whether the group is over

-- the tag of the profile
abbrev profile_tag : GroupMode → ℕ
profile_tag Members = 1
profile_tag Full = 2
profile_tag Ended = 2

-- the tag of whether the group is over
abbrev phase_tag : GroupMode → ℕ
phase_tag Members = 0
phase_tag Full = 0
phase_tag Ended = 1

-- what follows both
abbrev no_body : {A : Type 0} → A → Option (List ℕ)
no_body x = Some []

-- what follows the tag of the profile
abbrev phase_body : GroupMode → Option (List ℕ)
phase_body m = number w8 (phase_tag m) ⊕ no_body m

mode_parts : (m : GroupMode) → number w8 (profile_tag m) ⊕ phase_body m ≡ group_mode m
unfolding group_mode number ◌⊕◌
mode_parts Members = refl
mode_parts Full = refl
mode_parts Ended = refl

-- a mode of the profile with this tag
abbrev HasProfile : ℕ → GroupMode → Type 0
HasProfile n m = Unit {0} × (profile_tag m ≡ n)

is_members : (m : GroupMode) → HasProfile 1 m × (phase_tag m ≡ 0) → Members ≡ m
is_members Members h = refl
is_members Full h = absurd (omega (arith, h.0.1))
is_members Ended h = absurd (omega (arith, h.0.1))

is_full : (m : GroupMode) → HasProfile 2 m × (phase_tag m ≡ 0) → Full ≡ m
is_full Members h = absurd (omega (arith, h.0.1))
is_full Full h = refl
is_full Ended h = absurd (omega (arith, h.1))

is_ended : (m : GroupMode) → HasProfile 2 m × (phase_tag m ≡ 1) → Ended ≡ m
is_ended Members h = absurd (omega (arith, h.0.1))
is_ended Full h = absurd (omega (arith, h.1))
is_ended Ended h = refl

no_mode : (n : ℕ) → n ≢ 1 → n ≢ 2 → (m : GroupMode) → HasProfile n m → ⊥
no_mode n x y Members h = x (sym h.1)
no_mode n x y Full h = y (sym h.1)
no_mode n x y Ended h = y (sym h.1)

no_members_phase : (n : ℕ) → n ≢ 0 → (m : GroupMode) → HasProfile 1 m × (phase_tag m ≡ n) → ⊥
no_members_phase n x Members h = x (sym h.1)
no_members_phase n x Full h = absurd (omega (arith, h.0.1))
no_members_phase n x Ended h = absurd (omega (arith, h.0.1))

no_full_phase : (n : ℕ) → n ≢ 0 → n ≢ 1 → (m : GroupMode) → HasProfile 2 m × (phase_tag m ≡ n) → ⊥
no_full_phase n x y Members h = absurd (omega (arith, h.0.1))
no_full_phase n x y Full h = x (sym h.1)
no_full_phase n x y Ended h = y (sym h.1)

module _ (P : GroupMode → Type 0) (t : GroupMode → Option (List ℕ)) (f g : Input → Option (GroupMode × Input)) where
  -- the modes with one tag of whether the group is over, and those with others, among those that satisfy P
  phase_is : (n k : ℕ) → Exact (λ m. P m × (phase_tag m ≡ k)) t f → ((n ≢ k) → Exact (λ m. P m × (phase_tag m ≡ n)) t g)
      → Exact (λ m. P m × (phase_tag m ≡ n)) t (λ i. cond (eqb n k) (f i) (g i))
  phase_is n k here others =
      chosen (λ m. P m × (phase_tag m ≡ n)) t f g (eqb n k)
      (λ e. subst (λ (j : ℕ). Exact (λ m. P m × (phase_tag m ≡ j)) t f) (sym (eqb-true n k e)) here)
      (λ e. others (λ d. eqb-false n k e d))

members_phase_exact : Exact (HasProfile 1) phase_body members_phase_at
unfolding members_phase_at
members_phase_exact =
    field_then _ phase_tag (number w8) no_body (number_at w8) _ (number_exact w8 wide8)
    (λ n. phase_is _ _ _ _ n 0 (known _ _ Members ((tt, refl), refl) refl is_members) (λ x. never _ _ (no_members_phase n x)))

full_phase_exact : Exact (HasProfile 2) phase_body full_phase_at
unfolding full_phase_at
full_phase_exact =
    field_then _ phase_tag (number w8) no_body (number_at w8) _ (number_exact w8 wide8)
    (λ n. phase_is _ _ _ _ n 0 (known _ _ Full ((tt, refl), refl) refl is_full)
    (λ x. phase_is _ _ _ _ n 1 (known _ _ Ended ((tt, refl), refl) refl is_ended)
    (λ y. never _ _ (no_full_phase n x y))))

pub group_mode_exact : IsExact group_mode group_mode_at
unfolding group_mode_at
group_mode_exact = encoded_as Any group_mode _ group_mode_at mode_parts
    (field_then Any profile_tag (number w8) phase_body (number_at w8) _ (number_exact w8 wide8)
    (λ n. tag_is profile_tag _ _ _ n 1 members_phase_exact
    (λ x. tag_is profile_tag _ _ _ n 2 full_phase_exact (λ y. never _ _ (no_mode n x y)))))

pub group_mode_long : IsLong group_mode
unfolding group_mode
group_mode_long Members front h = long_left (number w8 1) _ front (number_long w8 wide8 1) h
group_mode_long Full front h = long_left (number w8 2) _ front (number_long w8 wide8 2) h
group_mode_long Ended front h = long_left (number w8 2) _ front (number_long w8 wide8 2) h

-- ---- the set of strict rules

-- a set is determined by its number
rule_bits-determine : (r s : Rules) → rule_bits r ≡ rule_bits s → r ≡ s
rule_bits-determine r s e = λ i. record { members = e i; fits = is_prop→PathP (λ j. e j < 2 ^ 13) (λ j. le_prop) r.fits s.fits i }

rules_if-bits : (n : ℕ) (fits : Bool) (e : nat_lt n (2 ^ 13) ≡ fits) (r : Rules) → rules_if n fits e ≡ Some r → rule_bits r ≡ n
rules_if-bits n true e r h = sym (ap rule_bits (some_is _ _ h))
rules_if-bits n false e r h = absurd cc

rules_if-none : (n : ℕ) (fits : Bool) (e : nat_lt n (2 ^ 13) ≡ fits) → fits ≡ false → rules_if n fits e ≡ None
rules_if-none n true e h = absurd cc
rules_if-none n false e h = refl

rules_if-encoded : (r : Rules) (fits : Bool) (e : nat_lt (rule_bits r) (2 ^ 13) ≡ fits) → rules_if (rule_bits r) fits e ≡ Some r
rules_if-encoded r true e = ap Some (rule_bits-determine _ r refl)
rules_if-encoded r false e = let fits = r.fits in absurd (omega (arith, ltb-false (rule_bits r) (2 ^ 13) e))

-- the set that a number encodes has this number
pub rules_of-bits : (n : ℕ) (r : Rules) → rules_of n ≡ Some r → rule_bits r ≡ n
unfolding rules_of
rules_of-bits n r h = rules_if-bits n (nat_lt n (2 ^ 13)) refl r h

-- the number of a set encodes the set
pub rules_of-encoded : (r : Rules) → rules_of (rule_bits r) ≡ Some r
unfolding rules_of
rules_of-encoded r = rules_if-encoded r (nat_lt (rule_bits r) (2 ^ 13)) refl

-- a number with a bit above bit 12 encodes no set
pub rules_of-none : (n : ℕ) → nat_lt n (2 ^ 13) ≡ false → rules_of n ≡ None
unfolding rules_of
rules_of-none n h = rules_if-none n (nat_lt n (2 ^ 13)) refl h

pub rule_set_exact : IsExact rule_set rule_set_at
unfolding rule_set rule_set_at
rule_set_exact = record {
  takes = λ i r j e.
      let b = bind_some (number_at w16 i) (λ n. rules_of n.0 >>= λ s. Some (s, n.1)) (r, j) e in
      let c = bind_some (rules_of b.0.0) (λ s. Some (s, b.0.1)) (r, j) b.2 in
      let bits : IsEncodedAt (number w16) b.0.0 i b.0.1 = ((number_exact w16 wide16).takes i b.0.0 b.0.1 b.1).1 in
      let encoded : IsEncodedAt rule_set c.0 i b.0.1 =
      subst (λ (n : ℕ). IsEncodedAt (number w16) n i b.0.1) (sym (rules_of-bits b.0.0 c.0 c.1)) bits in
      (tt, subst (λ (x : Rules × Input). IsEncodedAt rule_set x.0 i x.1) (some_is (c.0, b.0.1) (r, j) c.2) encoded);
  again = λ r front rest offset p e.
      let one = (number_exact w16 wide16).again (rule_bits r) front rest offset tt e in
      rw one (rw (rules_of-encoded r) refl);
}

pub rule_set_long : IsLong rule_set
unfolding rule_set
rule_set_long r front h = number_long w16 wide16 (rule_bits r) front h

-- ---- states

known_exact : IsExact (list authenticated_content) (list_at authenticated_content_at)
known_exact = list_exact authenticated_content authenticated_content_at authenticated_content_exact authenticated_content_long

added_exact : IsExact (optional (list vector)) (optional_at (list_at vector_at))
added_exact = optional_exact (list vector) (list_at vector_at) (list_exact vector vector_at vector_exact vector_long)

pub follower_state_exact : IsExact follower_state follower_state_at
unfolding follower_state follower_state_at
follower_state_exact =
    field_then Any (λ s. s.mode) group_mode _ group_mode_at _ group_mode_exact
    (λ b. field_then _ (λ s. s.rules) rule_set _ rule_set_at _ rule_set_exact
    (λ r. field_then _ (λ s. s.context) group_context _ group_context_at _ group_context_exact
    (λ c. field_then _ (λ s. s.interim) vector _ vector_at _ vector_exact
    (λ d. field_then _ (λ s. s.tree) vector _ vector_at _ vector_exact
    (λ e. field_then _ (λ s. s.known) (list authenticated_content) _ (list_at authenticated_content_at) _ known_exact
    (λ k. made_of _ (λ x. record { mode = b; rules = r; context = c; interim = d; tree = e; known = k; added = x })
    (optional (list vector)) _ (optional_at (list_at vector_at)) added_exact
    (λ x. ((((((tt, refl), refl), refl), refl), refl), refl)) (λ x. refl)
    (λ s p. (s.added, rw (← p.0.0.0.0.0.1, ← p.0.0.0.0.1, ← p.0.0.0.1, ← p.0.0.1, ← p.0.1, ← p.1) refl))))))))

pub follower_state_long : IsLong follower_state
unfolding follower_state
follower_state_long s front h = long_left (group_mode s.mode) _ front (group_mode_long s.mode) h

-- ---- files

-- the version of each file
abbrev version_of : StateFile → ℕ
version_of f = 2

no_file : (n : ℕ) → n ≢ 2 → (f : StateFile) → Unit {0} × (version_of f ≡ n) → ⊥
no_file n x f h = x (sym h.1)

pub state_file_exact : IsExact state_file state_file_at
unfolding state_file state_file_at
state_file_exact =
    field_then Any version_of (number w16) _ (number_at w16) _ (number_exact w16 wide16)
    (λ n. tag_is version_of _ _ _ n 2
    (field_then _ (λ f. f.checksum) vector _ vector_at _ vector_exact
    (λ a. made_of _ (λ x. record { checksum = a; state = x }) follower_state _ follower_state_at follower_state_exact
    (λ x. ((tt, refl), refl)) (λ x. refl) (λ f p. (f.state, rw (← p.1) refl))))
    (λ x. never _ _ (no_file n x)))

pub state_file_long : IsLong state_file
unfolding state_file
state_file_long f front h = long_left (number w16 2) _ front (number_long w16 wide16 2) h
