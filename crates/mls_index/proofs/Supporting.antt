-- What counts of classes say of a tree: whether each leaf supports the types of all credentials.
use Rattle.std.proofs.Common.{◌≡◌, ◌∙◌, ◌⊎◌, ℕ, zero, suc, ◌+◌, ◌<◌, ◌≤◌, List, [], ◌∷◌, length, Bool, true, false, not, cond, ◌||◌, ◌&&◌, Option, Some, None, eqb, inl, inr, refl, sym, ap, subst, arith}
use Rattle.std.specs.Prelude.{IsTrue, ◌↔◌, count_by}
use Rattle.std.proofs.lemmas.Bool.{cases_Bool, cases_lt, false≢true, and_parts}
use Rattle.std.proofs.lemmas.Bool.Decides.{nat_tests}
use Rattle.std.proofs.lemmas.List.{get_or_past}
use Rattle.std.proofs.lemmas.List.Sums.{sum_by-cons}
use Rattle.mls_nodes.specs.declared.credential.Credential.{Credential}
use Rattle.mls_nodes.specs.declared.credential.Credential.TheVariants.{Basic, X509}
use Rattle.mls_nodes.specs.declared.leaf.LeafNode.{LeafNode}
use Rattle.mls_tree.specs.Tree.{Tree, leaf_at}
use Rattle.mls_check.specs.LeafValidation.{FindsFailing, credential_type, supports_credential, supports_used_credentials}
use Rattle.mls_check.proofs.Leaves.{all_leaves-from, all_leaves-at}
use Rattle.mls_index.specs.IncrementalCheck.{SupportCredentials}
use Rattle.mls_index.specs.LeafCredentials.{LeafClass, blank_class, class_of, class_at, AreClassesOf}
use Rattle.mls_index.specs.LeafCredentialsInternal.{support_each_other, lacks_used, FindsLacking}

-- ---- whether some class of a list passes a test

record NonePasses (test : LeafClass → Bool) (xs : List LeafClass) : Type 0 where
  count : eqb (count_by test xs) 0 ≡ true
  fails : (i : ℕ) → test (class_at xs i) ≡ false

record OnePasses (test : LeafClass → Bool) (xs : List LeafClass) : Type 0 where
  count : eqb (count_by test xs) 0 ≡ false
  index : ℕ
  passes : test (class_at xs index) ≡ true

fails-more : (test : LeafClass → Bool) (x : LeafClass) (xs : List LeafClass) → test x ≡ false → ((i : ℕ) → test (class_at xs i) ≡ false)
    → (i : ℕ) → test (class_at (x ∷ xs) i) ≡ false
fails-more test x xs here rest zero = here
fails-more test x xs here rest (suc i) = rest i

count-more : (test : LeafClass → Bool) (x : LeafClass) (xs : List LeafClass) (b : Bool) → test x ≡ b → count_by test (x ∷ xs) ≡ cond b 1 0 + count_by test xs
count-more test x xs b e = sum_by-cons (λ y. cond (test y) 1 0) x xs ∙ ap (λ v. cond v 1 0 + count_by test xs) e

zero-more : (m n : ℕ) → m ≡ 0 + n → eqb n 0 ≡ true → eqb m 0 ≡ true
zero-more m n e z = grind (arith, nat_tests)

some-more : (m n : ℕ) → m ≡ 0 + n → eqb n 0 ≡ false → eqb m 0 ≡ false
some-more m n e z = grind (arith, nat_tests)

some-here : (m n : ℕ) → m ≡ 1 + n → eqb m 0 ≡ false
some-here m n e = grind (arith, nat_tests)

passing : (test : LeafClass → Bool) → test blank_class ≡ false → (xs : List LeafClass) → NonePasses test xs ⊎ OnePasses test xs
passing test blank [] = inl (record { count = refl; fails = λ i. blank })
passing test blank (x ∷ xs) =
    elim (cases_Bool (test x)) [
      | inl here ↦ inr (record { count = some-here (count_by test (x ∷ xs)) (count_by test xs) (count-more test x xs true here); index = 0; passes = here })
      | inr fails ↦
          (let more = count-more test x xs false fails in
          elim (passing test blank xs) [
            | inl none ↦ inl (record { count = zero-more (count_by test (x ∷ xs)) (count_by test xs) more none.count; fails = fails-more test x xs fails none.fails })
            | inr one ↦ inr (record { count = some-more (count_by test (x ∷ xs)) (count_by test xs) more one.count; index = suc one.index; passes = one.passes })
          ])
    ]

-- ---- one type of credential

-- each leaf supports it, if some leaf has it
pub record IsTypeSupported (t : Tree) (kind : ℕ) : Type 0 where
  pub at : (i j : ℕ) (x y : LeafNode) → leaf_at 0 t i ≡ Some x → leaf_at 0 t j ≡ Some y → credential_type y.credential ≡ kind → supports_credential x kind ≡ true

-- what classes say of it
pub record AreTests (kind : ℕ) (has lacks : LeafClass → Bool) : Type 0 where
  pub blank_has : has blank_class ≡ false
  pub blank_lacks : lacks blank_class ≡ false
  pub has_it : (x : LeafNode) → has (class_of (Some x)) ≡ eqb (credential_type x.credential) kind
  pub lacks_it : (x : LeafNode) → lacks (class_of (Some x)) ≡ not (supports_credential x kind)

basic_tests : AreTests 1 (λ c. c.has_basic) (λ c. c.lacks_basic)
basic_tests = record { blank_has = refl; blank_lacks = refl; has_it = λ x. refl; lacks_it = λ x. refl }

x509_tests : AreTests 2 (λ c. c.has_x509) (λ c. c.lacks_x509)
x509_tests = record { blank_has = refl; blank_lacks = refl; has_it = λ x. refl; lacks_it = λ x. refl }

or_right : (a : Bool) → (a || true) ≡ true
or_right true = refl
or_right false = refl

not_false : (b : Bool) → not b ≡ false → b ≡ true
not_false true e = refl
not_false false e = absurd (false≢true (sym e))

not_true : (b : Bool) → not b ≡ true → b ≡ false
not_true true e = absurd (false≢true e)
not_true false e = refl

same_number : (m n : ℕ) → m ≡ n → eqb m n ≡ true
same_number m n e = grind (arith, nat_tests)

equal : (m n : ℕ) → eqb m n ≡ true → m ≡ n
equal m n e = grind (arith, nat_tests)

-- a leaf whose class passes a test that blank leaves fail
record Passes (test : LeafClass → Bool) (t : Tree) (i : ℕ) : Type 0 where
  node : LeafNode
  set : leaf_at 0 t i ≡ Some node
  passes : test (class_of (Some node)) ≡ true

passes-set : (test : LeafClass → Bool) → test blank_class ≡ false → (t : Tree) (i : ℕ) (o : Option LeafNode) → leaf_at 0 t i ≡ o → test (class_of o) ≡ true → Passes test t i
passes-set test blank t i None set passes = absurd (false≢true (sym blank ∙ passes))
passes-set test blank t i (Some x) set passes = record { node = x; set = set; passes = passes }

module _ (t : Tree) (xs : List LeafClass) (h : AreClassesOf t xs) (kind : ℕ) (has lacks : LeafClass → Bool) (tests : AreTests kind has lacks) where
  passes_at : (test : LeafClass → Bool) → test blank_class ≡ false → (i : ℕ) → test (class_at xs i) ≡ true → Passes test t i
  passes_at test blank i e = passes-set test blank t i (leaf_at 0 t i) refl (ap test (sym (h.at i)) ∙ e)

  fails_at : (test : LeafClass → Bool) (i : ℕ) (x : LeafNode) → leaf_at 0 t i ≡ Some x → test (class_at xs i) ≡ false → test (class_of (Some x)) ≡ false
  fails_at test i x set e = ap test (sym (h.at i ∙ ap class_of set)) ∙ e

  none_has : NonePasses has xs → IsTypeSupported t kind
  none_has none = record {
    at = λ i j x y first second same.
        absurd (false≢true (sym (fails_at has j y second (none.fails j)) ∙ tests.has_it y ∙ same_number (credential_type y.credential) kind same));
  }

  none_lacks : NonePasses lacks xs → IsTypeSupported t kind
  none_lacks none = record { at = λ i j x y first second same. not_false (supports_credential x kind) (sym (tests.lacks_it x) ∙ fails_at lacks i x first (none.fails i)) }

  some_lacks : OnePasses has xs → OnePasses lacks xs → IsTypeSupported t kind → ⊥
  some_lacks one other s =
      let y = passes_at has tests.blank_has one.index one.passes in
      let x = passes_at lacks tests.blank_lacks other.index other.passes in
      let same = equal (credential_type y.node.credential) kind (sym (tests.has_it y.node) ∙ y.passes) in
      let lacking = not_true (supports_credential x.node kind) (sym (tests.lacks_it x.node) ∙ x.passes) in
      false≢true (sym lacking ∙ s.at other.index one.index x.node y.node x.set y.set same)

  abbrev test : Bool
  test = eqb (count_by has xs) 0 || eqb (count_by lacks xs) 0

  pub type_supported : IsTrue test ↔ IsTypeSupported t kind
  type_supported =
      elim (passing has tests.blank_has xs) [
        | inl none ↦ (λ e. none_has none, λ s. ap (λ v. v || eqb (count_by lacks xs) 0) none.count)
        | inr one ↦ elim (passing lacks tests.blank_lacks xs) [
          | inl none ↦ (λ e. none_lacks none, λ s. ap (λ v. eqb (count_by has xs) 0 || v) none.count ∙ or_right (eqb (count_by has xs) 0))
          | inr other ↦ (
            λ e. absurd (false≢true (sym (ap (λ v. v || eqb (count_by lacks xs) 0) one.count ∙ other.count) ∙ e)),
            λ s. absurd (some_lacks one other s),
          )
        ]
      ]

  -- the leaf of a class lacks a type that some leaf has
  abbrev lacks_type : ℕ → Bool
  lacks_type i = not (eqb (count_by has xs) 0) && lacks (class_at xs i)

  type_used : (j : ℕ) (y : LeafNode) → leaf_at 0 t j ≡ Some y → credential_type y.credential ≡ kind → eqb (count_by has xs) 0 ≡ false
  type_used j y second same = elim (passing has tests.blank_has xs) [
    | inl none ↦ absurd (false≢true (sym (fails_at has j y second (none.fails j)) ∙ tests.has_it y ∙ same_number (credential_type y.credential) kind same))
    | inr one ↦ one.count
  ]

  pub type_supports : (i : ℕ) (x : LeafNode) → leaf_at 0 t i ≡ Some x → lacks_type i ≡ false
      → (j : ℕ) (y : LeafNode) → leaf_at 0 t j ≡ Some y → credential_type y.credential ≡ kind → supports_credential x kind ≡ true
  type_supports i x first fails j y second same =
      let used = type_used j y second same in
      let e = ap (λ v. not v && lacks (class_at xs i)) (sym used) ∙ fails in
      not_false (supports_credential x kind) (sym (tests.lacks_it x) ∙ fails_at lacks i x first e)

  pub type_lacked : (i : ℕ) (x : LeafNode) → leaf_at 0 t i ≡ Some x → lacks_type i ≡ true
      → ((j : ℕ) (y : LeafNode) → leaf_at 0 t j ≡ Some y → supports_credential x (credential_type y.credential) ≡ true) → ⊥
  type_lacked i x first lacking all =
      let parts = and_parts (not (eqb (count_by has xs) 0)) (lacks (class_at xs i)) lacking in
      elim (passing has tests.blank_has xs) [
        | inl none ↦ false≢true (ap not (sym none.count) ∙ parts.0)
        | inr one ↦
            (let y = passes_at has tests.blank_has one.index one.passes in
            let same = equal (credential_type y.node.credential) kind (sym (tests.has_it y.node) ∙ y.passes) in
            let lacks_it = not_true (supports_credential x kind) (sym (tests.lacks_it x) ∙ (ap lacks (sym (h.at i ∙ ap class_of first)) ∙ parts.1)) in
            false≢true (sym lacks_it ∙ subst (λ k. supports_credential x k ≡ true) same (all one.index y.node y.set)))
      ]

-- ---- all types

both_types : (t : Tree) → IsTypeSupported t 1 → IsTypeSupported t 2 → (i j : ℕ) (x y : LeafNode) (c : Credential) → leaf_at 0 t i ≡ Some x → leaf_at 0 t j ≡ Some y
    → y.credential ≡ c → supports_credential x (credential_type c) ≡ true
both_types t basic x509 i j x y (Basic identity) first second is = basic.at i j x y first second (ap credential_type is)
both_types t basic x509 i j x y (X509 chain) first second is = x509.at i j x y first second (ap credential_type is)

support-from : (t : Tree) → IsTypeSupported t 1 → IsTypeSupported t 2 → SupportCredentials t
unfolding supports_used_credentials
support-from t basic x509 =
    all_leaves-from (λ _ x. supports_used_credentials t x) 0 t (λ i x from low first.
    all_leaves-from (λ _ other. supports_credential x (credential_type other.credential)) 0 t (λ j y from' low' second.
    both_types t basic x509 i j x y y.credential first second refl))

support-type : (t : Tree) (kind : ℕ) → SupportCredentials t → IsTypeSupported t kind
unfolding supports_used_credentials
support-type t kind s = record {
  at = λ i j x y first second same.
      let all = all_leaves-at (λ _ z. supports_used_credentials t z) 0 t s i x first in
      subst (λ k. supports_credential x k ≡ true) same (all_leaves-at (λ _ other. supports_credential x (credential_type other.credential)) 0 t all j y second);
}

and_both : (a b : Bool) → a ≡ true → b ≡ true → (a && b) ≡ true
and_both a b e f = rw (e, f) refl

pub supporting : (t : Tree) (xs : List LeafClass) → AreClassesOf t xs → IsTrue (support_each_other xs) ↔ SupportCredentials t
supporting t xs h =
    let basic = type_supported t xs h 1 (λ c. c.has_basic) (λ c. c.lacks_basic) basic_tests in
    let x509 = type_supported t xs h 2 (λ c. c.has_x509) (λ c. c.lacks_x509) x509_tests in (
      λ e. let parts = and_parts _ _ e in support-from t (basic.0 parts.0) (x509.0 parts.1),
      λ s. and_both _ _ (basic.1 (support-type t 1 s)) (x509.1 (support-type t 2 s)),
    )

-- ---- the first leaf that lacks a type

or_false : (a b : Bool) → (a || b) ≡ false → (a ≡ false) × (b ≡ false)
or_false true b e = absurd (false≢true (sym e))
or_false false b e = (refl, e)

or_true : (a b : Bool) → (a || b) ≡ true → (a ≡ true) ⊎ (b ≡ true)
or_true true b e = inl refl
or_true false b e = inr e

and_false : (a : Bool) → (a && false) ≡ false
and_false true = refl
and_false false = refl

pub lacks-blank : (xs : List LeafClass) → lacks_used xs blank_class ≡ false
lacks-blank xs =
    let a = not (eqb (count_by (λ (c : LeafClass). c.has_basic) xs) 0) in
    let b = not (eqb (count_by (λ (c : LeafClass). c.has_x509) xs) 0) in
    ap (λ v. v || (b && false)) (and_false a) ∙ and_false b

-- no class before the end of a list, and so none
pub lacking-none : (xs : List LeafClass) (n : ℕ) → length xs ≤ n → ((j : ℕ) → j < n → ¬ (lacks_used xs (class_at xs j) ≡ true)) → FindsLacking xs None
lacking-none xs n past h i e = elim (cases_lt i n) [
  | inl low ↦ h i low e
  | inr high ↦
      (let far : length xs ≤ i = omega (arith, past, high) in
      false≢true (sym (ap (lacks_used xs) (get_or_past xs i blank_class far) ∙ lacks-blank xs) ∙ e))
]

module _ (t : Tree) (xs : List LeafClass) (h : AreClassesOf t xs) where
  both_kinds : (i : ℕ) (x : LeafNode) → leaf_at 0 t i ≡ Some x
      → lacks_type t xs h 1 (λ c. c.has_basic) (λ c. c.lacks_basic) basic_tests i ≡ false
      → lacks_type t xs h 2 (λ c. c.has_x509) (λ c. c.lacks_x509) x509_tests i ≡ false
      → (j : ℕ) (y : LeafNode) → leaf_at 0 t j ≡ Some y → (c : Credential) → y.credential ≡ c → supports_credential x (credential_type y.credential) ≡ true
  both_kinds i x first basic x509 j y second (Basic identity) is =
      subst (λ k. supports_credential x k ≡ true) (sym (ap credential_type is))
      (type_supports t xs h 1 (λ c. c.has_basic) (λ c. c.lacks_basic) basic_tests i x first basic j y second (ap credential_type is))
  both_kinds i x first basic x509 j y second (X509 chain) is =
      subst (λ k. supports_credential x k ≡ true) (sym (ap credential_type is))
      (type_supports t xs h 2 (λ c. c.has_x509) (λ c. c.lacks_x509) x509_tests i x first x509 j y second (ap credential_type is))

  supports-used : (i : ℕ) (x : LeafNode) → leaf_at 0 t i ≡ Some x → lacks_used xs (class_at xs i) ≡ false → supports_used_credentials t x ≡ true
  unfolding supports_used_credentials
  supports-used i x first e =
      let parts = or_false _ _ e in
      all_leaves-from (λ _ other. supports_credential x (credential_type other.credential)) 0 t (λ j y from low second.
      both_kinds i x first parts.0 parts.1 j y second y.credential refl)

  lacks-fails : (i : ℕ) (x : LeafNode) → leaf_at 0 t i ≡ Some x → lacks_used xs (class_at xs i) ≡ true → supports_used_credentials t x ≡ true → ⊥
  unfolding supports_used_credentials
  lacks-fails i x first e s =
      let all = λ (j : ℕ) (y : LeafNode) (second : leaf_at 0 t j ≡ Some y). all_leaves-at (λ _ other. supports_credential x (credential_type other.credential)) 0 t s j y second in
      elim (or_true _ _ e) [
        | inl basic ↦ type_lacked t xs h 1 (λ c. c.has_basic) (λ c. c.lacks_basic) basic_tests i x first basic all
        | inr x509 ↦ type_lacked t xs h 2 (λ c. c.has_x509) (λ c. c.lacks_x509) x509_tests i x first x509 all
      ]

  lacks-not : (i : ℕ) → (lacks_used xs (class_at xs i) ≡ true → ⊥) → lacks_used xs (class_at xs i) ≡ false
  lacks-not i not = elim (cases_Bool (lacks_used xs (class_at xs i))) [
    | inl e ↦ absurd (not e)
    | inr e ↦ e
  ]

  lacks-set : (i : ℕ) → lacks_used xs (class_at xs i) ≡ true → (o : Option LeafNode) → leaf_at 0 t i ≡ o → (x : LeafNode) × (leaf_at 0 t i ≡ Some x)
  lacks-set i e None set = absurd (false≢true (sym (lacks-blank xs) ∙ (ap (lacks_used xs) (sym (h.at i ∙ ap class_of set)) ∙ e)))
  lacks-set i e (Some x) set = (x, set)

  pub lacking-first : (o : Option ℕ) → FindsLacking xs o → FindsFailing (λ _ x. supports_used_credentials t x) t o
  lacking-first None none =
      all_leaves-from (λ _ x. supports_used_credentials t x) 0 t (λ i x from low set. supports-used i x set (lacks-not i (none i)))
  lacking-first (Some i) f =
      let here = lacks-set i f.holds (leaf_at 0 t i) refl in
      record {
        node = here.0;
        set = here.1;
        fails = elim (cases_Bool (supports_used_credentials t here.0)) [
          | inl supports ↦ absurd (lacks-fails i here.0 here.1 f.holds supports)
          | inr fails ↦ fails
        ];
        smaller = λ j y low set. supports-used j y set (lacks-not j (f.smaller j low));
      }
