-- PreSharedKeyIDs in a set, for a walk along a list that has them.
use Rattle.std.proofs.Common.{◌≡◌, ◌∙◌, ℕ, ◌+◌, ◌<◌, List, [], ◌∷◌, ◌++◌, take, drop, filter_map, length, get_or, Option, Some, None, Bool, true, false, cond, not, Bor, refl, sym, ap}
use Rattle.std.specs.Prelude.{◌==◌, ◌&&◌, ◌||◌}
use Rattle.std.specs.List.{list_any, cons_option}
use Rattle.std.specs.Str.{bytes_eq}
use Rattle.std.specs.declared.cmp.Ordering.{Ordering}
use Rattle.std.specs.declared.cmp.Ordering.TheVariants as orders
use Rattle.std.specs.Ordering.{nat_cmp, is_eq, ordering_then}
use Rattle.std.specs.Cmp.{unsigned_ties, nat_eq_equiv}
use Rattle.std.specs.Cmp.Lexicographic.{slice_cmp, bytes_decides}
use Rattle.std.specs.BTreeMap.{is_at}
use Rattle.std.specs.BTreeSet.{BTreeSet, contains, IsEmpty}
use Rattle.std.proofs.lemmas.Bool.{false≢true}
use Rattle.std.proofs.lemmas.List.{take_more, drop_more, take-append-drop}
use Rattle.std.proofs.lemmas.Map.Text.{is_eq-slice_cmp}
use Rattle.std.proofs.lemmas.Option.{same_Some}
use Rattle.mls_nodes.specs.Fingerprints.{fingerprint}
use Rattle.mls_msgs.specs.declared.pre_shared_key.PreSharedKeyId.{PreSharedKeyId}
use Rattle.mls_msgs.specs.declared.pre_shared_key.PskKind.{PskKind}
use Rattle.mls_msgs.specs.declared.pre_shared_key.PskKind.TheVariants as kinds
use Rattle.mls_msgs.specs.declared.pre_shared_key.PskUsage.{PskUsage}
use Rattle.mls_msgs.specs.declared.pre_shared_key.PskUsage.TheVariants as usages
use Rattle.mls_msgs.specs.declared.proposal.Proposal.{Proposal}
use Rattle.mls_msgs.specs.declared.proposal.Proposal.TheVariants as proposals
use Rattle.mls_apply.specs.PskKeys.{kind_number, kind_bytes, kind_epoch}
use Rattle.mls_apply.specs.PskFingerprints.{id_fingerprint, psk_fingerprint}
use Rattle.mls_apply.specs.PskProposals.{is_same_kind, is_same_psk, psk_in, are_distinct_psks}

-- the fingerprint and the parts of one, as a set holds them
abbrev pub Parts : Type 0
Parts = ℕ × ℕ × ℕ × Bor (List ℕ) × Bor (List ℕ)

-- their order
abbrev pub by_parts : Parts → Parts → Ordering
by_parts a b =
    ordering_then (ordering_then (ordering_then (ordering_then (nat_cmp a.0 b.0) (nat_cmp a.1 b.1)) (nat_cmp a.2 b.2))
    (slice_cmp nat_cmp a.3.now b.3.now)) (slice_cmp nat_cmp a.4.now b.4.now)

-- the fingerprint and the parts are those of one
pub record HasParts (p : Parts) (id : PreSharedKeyId) : Type 0 where
  pub print : p.0 ≡ id_fingerprint id
  pub number : p.1 ≡ kind_number id.kind
  pub epoch : p.2 ≡ kind_epoch id.kind
  pub bytes : p.3.now ≡ kind_bytes id.kind
  pub nonce : p.4.now ≡ id.nonce

-- the fingerprint of a proposal is that of the PreSharedKeyID that it has
pub id_of_proposal : (p : Proposal) (id : PreSharedKeyId) → psk_in p ≡ Some id → psk_fingerprint p ≡ id_fingerprint id
id_of_proposal (proposals.Add _) id e = absurd (cc)
id_of_proposal (proposals.Update _) id e = absurd (cc)
id_of_proposal (proposals.Remove _) id e = absurd (cc)
id_of_proposal (proposals.ContextExtensions _) id e = absurd (cc)
id_of_proposal (proposals.PreSharedKey x) id e = ap id_fingerprint (same_Some x id e)
id_of_proposal (proposals.ReInit _) id e = absurd (cc)
id_of_proposal (proposals.ExternalInit _) id e = absurd (cc)

pub is_eq-then : (a b : Ordering) → is_eq (ordering_then a b) ≡ (is_eq a && is_eq b)
is_eq-then orders.Less b = refl
is_eq-then orders.Equal b = refl
is_eq-then orders.Greater b = refl

pub and_false : (b : Bool) → (b && false) ≡ false
and_false true = refl
and_false false = refl

and_comm : (a b : Bool) → (a && b) ≡ (b && a)
and_comm true true = refl
and_comm true false = refl
and_comm false true = refl
and_comm false false = refl

-- whether the fields of two origins are equal
abbrev same_fields : PskKind → PskKind → Bool
same_fields k l = ((kind_number k == kind_number l) && (kind_epoch k == kind_epoch l)) && bytes_eq (kind_bytes k) (kind_bytes l)

usages_same : (u v : PskUsage) (g h : List ℕ) (e f : ℕ) → same_fields (kinds.Resumption u g e) (kinds.Resumption v h f) ≡ is_same_kind (kinds.Resumption u g e) (kinds.Resumption v h f)
usages_same usages.Application usages.Application g h e f = and_comm (e == f) (bytes_eq g h)
usages_same usages.Application usages.ReInit g h e f = refl
usages_same usages.Application usages.Branch g h e f = refl
usages_same usages.ReInit usages.Application g h e f = refl
usages_same usages.ReInit usages.ReInit g h e f = and_comm (e == f) (bytes_eq g h)
usages_same usages.ReInit usages.Branch g h e f = refl
usages_same usages.Branch usages.Application g h e f = refl
usages_same usages.Branch usages.ReInit g h e f = refl
usages_same usages.Branch usages.Branch g h e f = and_comm (e == f) (bytes_eq g h)

left_other : (u : PskUsage) (id g : List ℕ) (e : ℕ) → same_fields (kinds.External id) (kinds.Resumption u g e) ≡ false
left_other usages.Application id g e = refl
left_other usages.ReInit id g e = refl
left_other usages.Branch id g e = refl

right_other : (u : PskUsage) (id g : List ℕ) (e : ℕ) → same_fields (kinds.Resumption u g e) (kinds.External id) ≡ false
right_other usages.Application id g e = refl
right_other usages.ReInit id g e = refl
right_other usages.Branch id g e = refl

kinds_same : (k l : PskKind) → same_fields k l ≡ is_same_kind k l
kinds_same (kinds.External a) (kinds.External b) = refl
kinds_same (kinds.External a) (kinds.Resumption u g e) = left_other u a g e
kinds_same (kinds.Resumption u g e) (kinds.External b) = right_other u b g e
kinds_same (kinds.Resumption u g e) (kinds.Resumption v h f) = usages_same u v g h e f

numbers_same : (m n : ℕ) → is_eq (nat_cmp m n) ≡ (m == n)
numbers_same m n = sym (unsigned_ties m n)

both_same : (a b : Ordering) (p q : Bool) → is_eq a ≡ p → is_eq b ≡ q → is_eq (ordering_then a b) ≡ (p && q)
both_same a b p q e f = is_eq-then a b ∙ (λ i. e i && f i)

parts_same : (a b : Parts) → is_eq (by_parts a b) ≡ (((((a.0 == b.0) && (a.1 == b.1)) && (a.2 == b.2)) && bytes_eq a.3.now b.3.now) && bytes_eq a.4.now b.4.now)
parts_same a b =
    both_same _ _ _ _
    (both_same _ _ _ _
    (both_same _ _ _ _
    (both_same _ _ _ _ (numbers_same a.0 b.0) (numbers_same a.1 b.1))
    (numbers_same a.2 b.2))
    (is_eq-slice_cmp a.3.now b.3.now))
    (is_eq-slice_cmp a.4.now b.4.now)

-- equal parts have equal fingerprints
prints_same : (k l m n : List ℕ) → bytes_eq k l ≡ true → bytes_eq m n ≡ true → (fingerprint (k ++ m) == fingerprint (l ++ n)) ≡ true
prints_same k l m n e f =
    (λ i. fingerprint (k ++ m) == fingerprint (sym ((bytes_decides k l).0 e) i ++ sym ((bytes_decides m n).0 f) i))
    ∙ nat_eq_equiv.refl (fingerprint (k ++ m))

-- a test that two others imply may be left out
implied : (f n e b c : Bool) → (b ≡ true → c ≡ true → f ≡ true) → ((((f && n) && e) && b) && c) ≡ (((n && e) && b) && c)
implied f n e true true h = λ i. (((h refl refl i && n) && e) && true) && true
implied f n e true false h = and_false (((f && n) && e) && true) ∙ sym (and_false ((n && e) && true))
implied f n e false c h = ap (λ t. t && c) (and_false ((f && n) && e) ∙ sym (and_false (n && e)))

-- the parts of two are equal where they are the same
pub by_parts-same : (a b : Parts) (x y : PreSharedKeyId) → HasParts a x → HasParts b y → is_eq (by_parts a b) ≡ is_same_psk x y
by_parts-same a b x y p q =
    parts_same a b
    ∙ (λ i. ((((p.print i == q.print i) && (p.number i == q.number i)) && (p.epoch i == q.epoch i)) && bytes_eq (p.bytes i) (q.bytes i)) && bytes_eq (p.nonce i) (q.nonce i))
    ∙ implied (id_fingerprint x == id_fingerprint y) (kind_number x.kind == kind_number y.kind) (kind_epoch x.kind == kind_epoch y.kind)
    (bytes_eq (kind_bytes x.kind) (kind_bytes y.kind)) (bytes_eq x.nonce y.nonce)
    (prints_same (kind_bytes x.kind) (kind_bytes y.kind) x.nonce y.nonce)
    ∙ ap (λ c. c && bytes_eq x.nonce y.nonce) (kinds_same x.kind y.kind)

-- ---- lists with one more

-- whether one is the same as one of the list
abbrev pub is_met : List PreSharedKeyId → PreSharedKeyId → Bool
is_met ids id = list_any (λ x. is_same_psk x id) ids

any_more : (f : PreSharedKeyId → Bool) (xs : List PreSharedKeyId) (y : PreSharedKeyId) → list_any f (xs ++ y ∷ []) ≡ (f y || list_any f xs)
any_more f [] y = refl
any_more f (x ∷ xs) y = ap (λ b. f x || b) (any_more f xs y) ∙ swapped (f x) (f y) (list_any f xs)
  where
    swapped : (a b c : Bool) → (a || (b || c)) ≡ (b || (a || c))
    swapped true true c = refl
    swapped true false c = refl
    swapped false b c = refl

any_there : (f : PreSharedKeyId → Bool) (xs : List PreSharedKeyId) (y : PreSharedKeyId) (rest : List PreSharedKeyId) → f y ≡ true → list_any f (xs ++ y ∷ rest) ≡ true
any_there f [] y rest e = ap (λ b. b || list_any f rest) e
any_there f (x ∷ xs) y rest e = ap (λ b. f x || b) (any_there f xs y rest e) ∙ or_true (f x)
  where
    or_true : (b : Bool) → (b || true) ≡ true
    or_true true = refl
    or_true false = refl

either : (b c : Bool) → (b || c) ≡ cond b true c
either true c = refl
either false c = refl

met_more : (xs : List PreSharedKeyId) (y q : PreSharedKeyId) → is_met (xs ++ y ∷ []) q ≡ cond (is_same_psk y q) true (is_met xs q)
met_more xs y q = any_more (λ x. is_same_psk x q) xs y ∙ either (is_same_psk y q) (is_met xs q)

-- none is there twice where the last one isn't there before
distinct_more : (xs : List PreSharedKeyId) (y : PreSharedKeyId) → are_distinct_psks xs ≡ true → is_met xs y ≡ false → are_distinct_psks (xs ++ y ∷ []) ≡ true
distinct_more [] y d m = refl
distinct_more (x ∷ xs) y d m =
    let first = none_of (is_same_psk x y) (is_met xs y) m in
    let parts = both (not (list_any (is_same_psk x) xs)) (are_distinct_psks xs) d in
    ap (λ b. not b && are_distinct_psks (xs ++ y ∷ [])) (any_more (is_same_psk x) xs y)
    ∙ ap (λ b. not (b || list_any (is_same_psk x) xs) && are_distinct_psks (xs ++ y ∷ [])) first.0
    ∙ ap (λ b. b && are_distinct_psks (xs ++ y ∷ [])) parts.0
    ∙ distinct_more xs y parts.1 first.1
  where
    none_of : (a b : Bool) → (a || b) ≡ false → (a ≡ false) × (b ≡ false)
    none_of true b e = absurd (false≢true (sym e))
    none_of false b e = (refl, e)

    both : (a b : Bool) → (a && b) ≡ true → (a ≡ true) × (b ≡ true)
    both true b e = (refl, e)
    both false b e = absurd (false≢true e)

-- one is there twice where it is there before
pub not_distinct : (xs : List PreSharedKeyId) (y : PreSharedKeyId) (rest : List PreSharedKeyId) → is_met xs y ≡ true → are_distinct_psks (xs ++ y ∷ rest) ≡ false
not_distinct [] y rest m = absurd (false≢true m)
not_distinct (x ∷ xs) y rest m = go (is_same_psk x y) refl (not_distinct xs y rest)
  where
    go : (b : Bool) → is_same_psk x y ≡ b → (is_met xs y ≡ true → are_distinct_psks (xs ++ y ∷ rest) ≡ false)
        → (not (list_any (is_same_psk x) (xs ++ y ∷ rest)) && are_distinct_psks (xs ++ y ∷ rest)) ≡ false
    go true e below = ap (λ b. not b && are_distinct_psks (xs ++ y ∷ rest)) (any_there (is_same_psk x) xs y rest e)
    go false e below =
        ap (λ b. not (list_any (is_same_psk x) (xs ++ y ∷ rest)) && b) (below (sym (ap (λ b. b || is_met xs y) e) ∙ m))
        ∙ and_false (not (list_any (is_same_psk x) (xs ++ y ∷ rest)))

-- ---- a walk along the list

-- those of the list before are distinct, and the set has them
pub record IsWalked (before : List PreSharedKeyId) (set : BTreeSet Parts) : Type 0 where
  pub distinct : are_distinct_psks before ≡ true
  pub all : (p : Parts) (id : PreSharedKeyId) → HasParts p id → contains by_parts set p ≡ is_met before id

pub walk-start : (set : BTreeSet Parts) → IsEmpty set → IsWalked [] set
walk-start set empty = record {
  distinct = refl;
  all = λ p id h. ap (λ (ps : List Parts). list_any (is_at (by_parts p)) ps) empty;
}

opposite : (a b : Bool) → a ≡ not b → a ≡ true → b ≡ false
opposite a true e f = absurd (false≢true (sym e ∙ f))
opposite a false e f = refl

same_way : (a b : Bool) → a ≡ not b → a ≡ false → b ≡ true
same_way a true e f = refl
same_way a false e f = absurd (false≢true (sym f ∙ e))

module _ (before : List PreSharedKeyId) (set : BTreeSet Parts) (known : IsWalked before set) (id : PreSharedKeyId) (p : Parts) (parts : HasParts p id) where
  -- one more, which the set has not
  pub walk-next : (new : BTreeSet Parts) (b : Bool) → b ≡ not (contains by_parts set p) → b ≡ true
      → ((q : Parts) → contains by_parts new q ≡ cond (is_at (by_parts p) q) true (contains by_parts set q)) → IsWalked (before ++ id ∷ []) new
  walk-next new b e f added = record {
    distinct = distinct_more before id known.distinct (sym (known.all p id parts) ∙ opposite b (contains by_parts set p) e f);
    all = λ q other h.
        added q
        ∙ (λ i. cond (by_parts-same p q id other parts h i) true (known.all q other h i))
        ∙ sym (met_more before id other);
  }

  -- one that the set has
  pub walk-met : (b : Bool) → b ≡ not (contains by_parts set p) → b ≡ false → (rest : List PreSharedKeyId) → are_distinct_psks (before ++ id ∷ rest) ≡ false
  walk-met b e f rest = not_distinct before id rest (sym (known.all p id parts) ∙ same_way b (contains by_parts set p) e f)

-- ---- the list of those that items have

pub chosen_more : {X Y : Type 0} (h : X → Option Y) (xs : List X) (x : X) (rest : List X) → filter_map h (xs ++ x ∷ rest) ≡ filter_map h xs ++ cons_option (h x) (filter_map h rest)
chosen_more h [] x rest = refl
chosen_more {Y = Y} h (w ∷ xs) x rest = go (h w) (chosen_more h xs x rest)
  where
    go : (o : Option Y) → filter_map h (xs ++ x ∷ rest) ≡ filter_map h xs ++ cons_option (h x) (filter_map h rest)
        → cons_option o (filter_map h (xs ++ x ∷ rest)) ≡ cons_option o (filter_map h xs) ++ cons_option (h x) (filter_map h rest)
    go None below = below
    go (Some y) below = ap (λ ys. y ∷ ys) below

-- up to the next item
pub chosen_next : {X Y : Type 0} (h : X → Option Y) (xs : List X) (i : ℕ) (x : X) → i < length xs → x ≡ get_or xs i x → filter_map h (take (i + 1) xs) ≡ filter_map h (take i xs) ++ cons_option (h x) []
chosen_next h xs i x lt is = ap (filter_map h) (take_more xs i x lt ∙ ap (λ y. take i xs ++ y ∷ []) (sym is)) ∙ chosen_more h (take i xs) x []

-- the whole list, parted at an item
pub chosen_parted : {X Y : Type 0} (h : X → Option Y) (xs : List X) (i : ℕ) (x : X) → i < length xs → x ≡ get_or xs i x
    → filter_map h xs ≡ filter_map h (take i xs) ++ cons_option (h x) (filter_map h (drop (i + 1) xs))
chosen_parted h xs i x lt is =
    ap (filter_map h) (sym (take-append-drop i xs) ∙ ap (λ ys. take i xs ++ ys) (drop_more xs i x lt ∙ ap (λ y. y ∷ drop (i + 1) xs) (sym is)))
    ∙ chosen_more h (take i xs) x (drop (i + 1) xs)
