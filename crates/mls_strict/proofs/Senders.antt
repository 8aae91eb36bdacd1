-- Reading external senders.
use Rattle.std.proofs.Common.{◌≡◌, ◌∙◌, ℕ, zero, suc, ◌<◌, ◌≤◌, ◌==◌, Bool, true, false, List, [], ◌∷◌, length, Option, Some, None, Result, Ok, Err, refl, sym, ap, arith}
use Rattle.std.specs.Prelude.{◌||◌, is_some, if◌then◌else◌, nat_eq}
use Rattle.std.proofs.lemmas.Bool.{ne_eqb, or_right}
use Rattle.std.proofs.lemmas.List.{nil_from_length}
use Rattle.std.specs.Int.{w16}
use Rattle.mls_wire.specs.Input.{Input, at}
use Rattle.mls_wire.specs.EncodedItems.{Skips, items_of}
use Rattle.mls_wire.specs.ListLoops.{shortens}
use Rattle.mls_wire.specs.ListsExact.{items_take, items_again}
use Rattle.mls_wire.specs.Parsing.{◌>>=◌, body_at, items_at, list_at, number_at, vector_at}
use Rattle.mls_wire.specs.OptionBind.{bind_some, some_is}
use Rattle.mls_wire.specs.StoredItems.{at_any_offset}
use Rattle.mls_wire.specs.declared.fault.WireFault.{WireFault}
use Rattle.mls_nodes.specs.Layout.{external_sender}
use Rattle.mls_nodes.specs.NodesExact.{external_sender_exact, external_sender_long}
use Rattle.mls_nodes.specs.Parsing.{credential_at, external_sender_at}
use Rattle.mls_nodes.specs.declared.credential.Credential.{Credential}
use Rattle.mls_nodes.specs.declared.credential.Credential.TheVariants.{Basic, X509}
use Rattle.mls_nodes.specs.declared.senders.ExternalSender.{ExternalSender}
use Rattle.mls_strict.specs.ExtensionLists.{unread_type_at, are_senders}
use Rattle.mls_strict.specs.ExternalSendersInternal.{unread_front}

-- ---- one external sender

pub basic-skipped : (i j k : Input) (x : List ℕ) → number_at w16 i ≡ Some (1, j) → vector_at j ≡ Some (x, k)
    → (c : Credential) × (credential_at i ≡ Some (c, k))
unfolding credential_at
basic-skipped i j k x kind body = (Basic x, rw (kind, body) refl)

pub x509-skipped : (i j k : Input) (x : List (List ℕ)) → number_at w16 i ≡ Some (2, j) → list_at vector_at j ≡ Some (x, k)
    → (c : Credential) × (credential_at i ≡ Some (c, k))
unfolding credential_at
x509-skipped i j k x kind body = (X509 x, rw (kind, body) refl)

pub sender-skipped : {B : Type 0} (i j k : Input) (key : List ℕ) (r : Result B WireFault) → vector_at i ≡ Some (key, j) → Skips credential_at j k r → Skips external_sender_at i k r
unfolding external_sender_at
sender-skipped i j k key (Ok done) e h = (record { signature_key = key; credential = h.0 }, rw (e, h.1) refl)
sender-skipped i j k key (Err fault) e h = rw (e, h) refl

no_key : (i : Input) → vector_at i ≡ None → external_sender_at i ≡ None
unfolding external_sender_at
no_key i e = rw e refl

no_kind : (i j : Input) (key : List ℕ) → vector_at i ≡ Some (key, j) → number_at w16 j ≡ None → external_sender_at i ≡ None
unfolding external_sender_at credential_at
no_kind i j key e f = rw (e, f) refl

-- ---- external senders up to the end, or up to one that is not read

-- at most n external senders are left, up to the end or to one whose credential is not read
unfoldable pub are_readable : ℕ → Input → Bool
are_readable n i = is_some (items_at external_sender_at n i) || is_some (unread_type_at n i)

none_of_test : {A : Type 0} (o : Option A) → is_some o ≡ false → o ≡ None
none_of_test None h = refl
none_of_test (Some x) h = absurd cc

first_some : Option ℕ → Option ℕ → Option ℕ
first_some None o = o
first_some (Some kind) o = Some kind

module _ (n : ℕ) (i : Input) where
  -- the step, by the test of the credential's type
  by_test : (j k : Input) (key : List ℕ) (kind : ℕ) → vector_at i ≡ Some (key, j) → number_at w16 j ≡ Some (kind, k)
      → (b : Bool) → ((kind == 1) || (kind == 2)) ≡ b
      → unread_type_at (suc n) i ≡ first_some (unread_front i) (external_sender_at i >>= λ sender. unread_type_at n sender.1)
  unfolding unread_type_at unread_front first_some
  by_test j k key kind e f true t = rw (e, f, t) refl
  by_test j k key kind e f false t = rw (e, f, t) refl

  by_kind : (j : Input) (key : List ℕ) → vector_at i ≡ Some (key, j) → (o : Option (ℕ × Input)) → number_at w16 j ≡ o
      → unread_type_at (suc n) i ≡ first_some (unread_front i) (external_sender_at i >>= λ sender. unread_type_at n sender.1)
  unfolding unread_type_at unread_front first_some
  by_kind j key e None f = rw (e, f, no_kind i j key e f) refl
  by_kind j key e (Some (kind, k)) f = by_test j k key kind e f ((kind == 1) || (kind == 2)) refl

  by_key : (o : Option (List ℕ × Input)) → vector_at i ≡ o
      → unread_type_at (suc n) i ≡ first_some (unread_front i) (external_sender_at i >>= λ sender. unread_type_at n sender.1)
  unfolding unread_type_at unread_front first_some
  by_key None e = rw (e, no_key i e) refl
  by_key (Some (key, j)) e = by_kind j key e (number_at w16 j) refl

  unread-step : unread_type_at (suc n) i ≡ first_some (unread_front i) (external_sender_at i >>= λ sender. unread_type_at n sender.1)
  unread-step = by_key (vector_at i) refl

pub none_left : (n : ℕ) (i : Input) → i.left ≡ [] → are_readable n i ≡ true
unfolding are_readable items_at
none_left zero i none = rw none refl
none_left (suc n) i none = rw none refl

pub sender-shortens : (i j : Input) (x : ExternalSender) → external_sender_at i ≡ Some (x, j) → length j.left < length i.left
sender-shortens i j x e = shortens external_sender external_sender_at external_sender_exact external_sender_long i x j e

is_left : (i : Input) → (i.left ≡ [] → ⊥) → (length i.left == 0) ≡ false
is_left i some = ne_eqb (length i.left) 0 (λ e. some (nil_from_length i.left e))

some_in : (o : Option ℕ) → is_some o ≡ true → (kind : ℕ) × (o ≡ Some kind)
some_in None h = absurd cc
some_in (Some kind) h = (kind, refl)

pub unread-found : (n : ℕ) (i : Input) → (i.left ≡ [] → ⊥) → length i.left ≤ n → is_some (unread_front i) ≡ true → are_readable n i ≡ true
unfolding are_readable first_some
unread-found zero i some le h = absurd (some (nil_from_length i.left (omega arith)))
unread-found (suc n) i some le h =
    let found = some_in (unread_front i) h in
    rw (unread-step n i, found.1) (or_right (is_some (items_at external_sender_at (suc n) i)) true refl)

one_item : (x : ExternalSender) (o : Option (List ExternalSender)) → is_some (o >>= λ xs. Some (x ∷ xs)) ≡ is_some o
one_item x None = refl
one_item x (Some xs) = refl

items-step : (n : ℕ) (i j : Input) (x : ExternalSender) → (i.left ≡ [] → ⊥) → external_sender_at i ≡ Some (x, j)
    → is_some (items_at external_sender_at (suc n) i) ≡ is_some (items_at external_sender_at n j)
unfolding items_at
items-step n i j x some e = rw (is_left i some, e) (one_item x (items_at external_sender_at n j))

pub one-more : (n : ℕ) (i j : Input) (x : ExternalSender) → (i.left ≡ [] → ⊥) → is_some (unread_front i) ≡ false
    → external_sender_at i ≡ Some (x, j) → are_readable (suc n) i ≡ are_readable n j
unfolding are_readable first_some
one-more n i j x some read e =
    let none : unread_front i ≡ None = none_of_test (unread_front i) read in
    rw (items-step n i j x some e, unread-step n i, none, e) refl

items-stop : (n : ℕ) (i : Input) → (i.left ≡ [] → ⊥) → external_sender_at i ≡ None → is_some (items_at external_sender_at (suc n) i) ≡ false
unfolding items_at
items-stop n i some e = rw (is_left i some, e) refl

pub none-read : (n : ℕ) (i : Input) → (i.left ≡ [] → ⊥) → length i.left ≤ n → is_some (unread_front i) ≡ false
    → external_sender_at i ≡ None → are_readable n i ≡ false
unfolding are_readable first_some
none-read zero i some le read e = absurd (some (nil_from_length i.left (omega arith)))
none-read (suc n) i some le read e =
    let none : unread_front i ≡ None = none_of_test (unread_front i) read in
    rw (items-stop n i some e, unread-step n i, none, e) refl

-- the same as the loop has it
pub go-on : (n : ℕ) (i j : Input) (x : ExternalSender) (whole : Bool) → (i.left ≡ [] → ⊥) → is_some (unread_front i) ≡ false → external_sender_at i ≡ Some (x, j)
    → length i.left ≤ n → are_readable n i ≡ whole → (m : ℕ) × (length j.left ≤ m) × (are_readable m j ≡ whole)
go-on zero i j x whole some read e le h = absurd (some (nil_from_length i.left (omega arith)))
go-on (suc n) i j x whole some read e le h = (n, omega (arith, sender-shortens i j x e), sym (one-more n i j x some read e) ∙ h)

-- ---- the body of the vector

any_offset : (b : Input) (o : Option (List ExternalSender)) → items_at external_sender_at (length b.left) b ≡ o
    → (p : Option (List ExternalSender)) → items_of external_sender_at b.left ≡ p → is_some o ≡ is_some p
any_offset b (Some xs) e p f = rw (← f, at_any_offset external_sender external_sender_at external_sender_exact external_sender_long b xs e) refl
any_offset b None e None f = refl
any_offset b None e (Some xs) f =
    let text = items_take external_sender external_sender_at external_sender_exact (length b.left) (at 0 b.left) xs f in
    let again = items_again external_sender external_sender_at external_sender_exact external_sender_long xs (length b.left) b.offset b.left (omega arith) text in
    let bad = sym e ∙ again in absurd cc

when_whole : {A : Type 0} (o : Option (List A)) (j : Input) → j.left ≡ []
    → is_some (o >>= λ xs. if nat_eq (length j.left) 0 then Some xs else None) ≡ is_some o
when_whole None j none = refl
when_whole (Some xs) j none = rw none refl

when_more : {A : Type 0} (o : Option (List A)) (j : Input) → (j.left ≡ [] → ⊥)
    → is_some (o >>= λ xs. if nat_eq (length j.left) 0 then Some xs else None) ≡ false
when_more None j some = refl
when_more (Some xs) j some = rw (is_left j some) refl

abbrev paired : Option (List ExternalSender) → Input → Option (List ExternalSender × Input)
paired o j = o >>= λ xs. Some (xs, j)

by_items : (o : Option (List ExternalSender)) (j : Input) (b : Bool) (f : List ℕ → Option ℕ) (left : List ℕ)
    → (is_some (paired o j >>= λ x. if nat_eq (length x.1.left) 0 then Some x.0 else None) || is_some ((if b then Some left else None) >>= f))
    ≡ (is_some (o >>= λ xs. if nat_eq (length j.left) 0 then Some xs else None) || is_some ((if b then Some left else None) >>= f))
by_items None j b f left = refl
by_items (Some xs) j b f left = refl

-- the two ways to read them, from the body of their vector on
by_body : (body : List ℕ) (b j : Input) → body_at (at 0 body) ≡ Some (b, j)
    → are_senders body
    ≡ (is_some (items_at external_sender_at (length b.left) b >>= λ xs. if nat_eq (length j.left) 0 then Some xs else None)
    || is_some ((if nat_eq (length j.left) 0 then Some b.left else None) >>= λ senders. unread_type_at (length senders) (at 0 senders)))
unfolding are_senders list_at vector_at
by_body body b j e = rw e (by_items (items_at external_sender_at (length b.left) b) j (nat_eq (length j.left) 0) (λ senders. unread_type_at (length senders) (at 0 senders)) b.left)

at_the_end : (b j : Input) → j.left ≡ [] → (senders : List ℕ) → b.left ≡ senders
    → (is_some (items_at external_sender_at (length b.left) b >>= λ xs. if nat_eq (length j.left) 0 then Some xs else None)
    || is_some ((if nat_eq (length j.left) 0 then Some b.left else None) >>= λ xs. unread_type_at (length xs) (at 0 xs)))
    ≡ (is_some (items_of external_sender_at senders) || is_some (unread_type_at (length senders) (at 0 senders)))
at_the_end b j none senders same =
    rw (when_whole (items_at external_sender_at (length b.left) b) j none, none, any_offset b (items_at external_sender_at (length b.left) b) refl (items_of external_sender_at b.left) refl, same) refl

before_the_end : (b j : Input) → (j.left ≡ [] → ⊥)
    → (is_some (items_at external_sender_at (length b.left) b >>= λ xs. if nat_eq (length j.left) 0 then Some xs else None)
    || is_some ((if nat_eq (length j.left) 0 then Some b.left else None) >>= λ xs. unread_type_at (length xs) (at 0 xs)))
    ≡ false
before_the_end b j some = rw (when_more (items_at external_sender_at (length b.left) b) j some, is_left j some) refl

module _ (body senders : List ℕ) (j : Input) (read : vector_at (at 0 body) ≡ Some (senders, j)) where
  body_of : (b : Input) × (body_at (at 0 body) ≡ Some (b, j)) × (b.left ≡ senders)
  unfolding vector_at
  body_of =
      let parts = bind_some (body_at (at 0 body)) (λ b. Some (b.0.left, b.1)) (senders, j) read in
      let same = some_is (parts.0.0.left, parts.0.1) (senders, j) parts.2 in
      let end : parts.0.1 ≡ j = ap (λ p. p.1) same in
      (parts.0.0, parts.1 ∙ ap (λ k. Some (parts.0.0, k)) end, ap (λ p. p.0) same)

  pub senders-whole : j.left ≡ []
      → are_senders body ≡ (is_some (items_of external_sender_at senders) || is_some (unread_type_at (length senders) (at 0 senders)))
  senders-whole none = by_body body body_of.0 j body_of.1 ∙ at_the_end body_of.0 j none senders body_of.2

  pub senders-more : (j.left ≡ [] → ⊥) → are_senders body ≡ false
  senders-more some = by_body body body_of.0 j body_of.1 ∙ before_the_end body_of.0 j some

no_body : (body : List ℕ) → vector_at (at 0 body) ≡ None → (o : Option (Input × Input)) → body_at (at 0 body) ≡ o → o ≡ None
unfolding vector_at
no_body body e None f = refl
no_body body e (Some b) f = let bad = rw f at e in absurd cc

pub senders-none : (body : List ℕ) → vector_at (at 0 body) ≡ None → are_senders body ≡ false
unfolding are_senders list_at vector_at
senders-none body e = let none : body_at (at 0 body) ≡ None = no_body body e (body_at (at 0 body)) refl in rw none refl
