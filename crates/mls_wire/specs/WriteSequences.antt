-- Writing one encoding after the other: lemmas. Internal: no public contract uses this.
use Rattle.std.proofs.Common.{◌≡◌, ℕ, ◌+◌, ◌<◌, ◌≤◌, List, [], ◌∷◌, ◌++◌, length, take, drop, Option, Some, None, Err, refl, sym, ap, ◌∙◌, append_assoc, get_or, length-append}
use Rattle.std.proofs.lemmas.List.{drop-append-le, take-append-le, append-nil, take_all, take_more, drop_more, take-append-drop}
use Rattle.std.specs.Prelude.{option_map}
use Rattle.mls_wire.specs.declared.fault.CodecFault.{CodecFault}
use Rattle.mls_wire.specs.declared.fault.CodecFault.TheVariants as faults
use Rattle.mls_wire.specs.Encoding.{◌⊕◌, vector, sized, items}
use Rattle.mls_wire.specs.EncodingConcat.{joined, join}
use Rattle.mls_wire.specs.OptionBind.{some_is}
use Rattle.mls_wire.specs.Parsing.{◌>>=◌}
use Rattle.mls_wire.specs.WriteContracts.{after, Added, Puts}

-- A text, and another after it.
pub after_then : (old : List ℕ) (a b : Option (List ℕ)) (mid : List ℕ) → after old a ≡ Some mid → after old (a ⊕ b) ≡ after mid b
unfolding after ◌⊕◌
after_then old None b mid e = absurd cc
after_then old (Some s) None mid e = refl
after_then old (Some s) (Some t) mid e =
    let same : old ++ s ≡ mid = let f : ◌≡◌ {A = Option (List ℕ)} (Some (old ++ s)) (Some mid) = e in cc in
    ap (λ (x : List ℕ). Some x) (sym (append_assoc old s t) ∙ ap (λ (x : List ℕ). x ++ t) same)

-- The first part has no encoding.
pub none_first : (a b : Option (List ℕ)) → a ≡ None → a ⊕ b ≡ None
unfolding ◌⊕◌
none_first a b p = rw p refl

-- The second part has no encoding.
pub none_second : (a b : Option (List ℕ)) → b ≡ None → a ⊕ b ≡ None
unfolding ◌⊕◌
none_second None b p = refl
none_second (Some x) b p = rw p refl

-- A text that has an encoding is appended to the others.
pub after_some : (old s : List ℕ) → after old (Some s) ≡ Some (old ++ s)
unfolding after
after_some old s = refl

-- What is appended is the encoding.
pub after_is : (old : List ℕ) (text : Option (List ℕ)) (new : List ℕ) → after old text ≡ Some new → (s : List ℕ) × (text ≡ Some s) × (new ≡ old ++ s)
unfolding after
after_is old None new e = absurd cc
after_is old (Some s) new e = (s, refl, cc)

-- Appended to nothing it is the encoding alone.
pub after_nil : (text : Option (List ℕ)) (new : List ℕ) → after [] text ≡ Some new → text ≡ Some new
unfolding after
after_nil None new e = absurd cc
after_nil (Some s) new e = e

-- Appending to what is after the first k bytes.
pub grown : (k : ℕ) (old s new : List ℕ) → k ≤ length old → new ≡ old ++ s → (after (drop k old) (Some s) ≡ Some (drop k new)) × (take k new ≡ take k old)
grown k old s new le e =
    (after_some (drop k old) s ∙ ap (λ (x : List ℕ). Some x) (sym (drop-append-le k old s le) ∙ ap (drop k) (sym e)), ap (take k) e ∙ take-append-le k old s le)

-- ---- lists

-- A vector of a body that has an encoding.
pub sized_makes : (body : Option (List ℕ)) (s : List ℕ) → body ≡ Some s → sized body ≡ vector s
unfolding sized
sized_makes body s e = rw e refl

module _ {A : Type 0} (s : A → Option (List ℕ)) where
  pub items_snoc : (xs : List A) (x : A) (text u : List ℕ) → items s xs ≡ Some text → s x ≡ Some u → items s (xs ++ x ∷ []) ≡ Some (text ++ u)
  unfolding items
  items_snoc [] x text u e f =
      let none = some_is _ _ e in
      join (s x) (Some []) u [] f refl ∙ ap (λ (t : List ℕ). Some t) (append-nil u ∙ ap (λ (t : List ℕ). t ++ u) none)
  items_snoc (y ∷ xs) x text u e f =
      let a = joined (s y) (items s xs) text e in
      join _ _ a.0 (a.1 ++ u) a.2 (items_snoc xs x a.1 u a.3 f) ∙ ap (λ (t : List ℕ). Some t) (sym (append_assoc a.0 a.1 u) ∙ ap (λ (t : List ℕ). t ++ u) (sym a.4))

  pub items_push : (xs : List A) (i : ℕ) (x : A) (old text new : List ℕ) → i < length xs → x ≡ get_or xs i x → after old (items s (take i xs)) ≡ Some text → after text (s x) ≡ Some new → after old (items s (take (i + 1) xs)) ≡ Some new
  items_push xs i x old text new lt is e f =
      let a = after_is old (items s (take i xs)) text e in
      let b = after_is text (s x) new f in
      let more : take (i + 1) xs ≡ take i xs ++ x ∷ [] = rw (take_more xs i x lt, ← is) refl in
      let same : new ≡ old ++ (a.0 ++ b.0) = b.2 ∙ ap (λ (t : List ℕ). t ++ b.0) a.2 ∙ append_assoc old a.0 b.0 in
      rw (more, items_snoc (take i xs) x a.0 b.0 a.1 b.1, after_some old (a.0 ++ b.0)) (ap (λ (t : List ℕ). Some t) (sym same))

  pub items_all : (xs : List A) (i : ℕ) (old new : List ℕ) → length xs ≤ i → after old (items s (take i xs)) ≡ Some new → after old (items s xs) ≡ Some new
  items_all xs i old new le e = ap (λ (ys : List A). after old (items s ys)) (sym (take_all i xs le)) ∙ e

  pub nothing_put : (old : List ℕ) → after old (items s []) ≡ Some old
  unfolding items
  nothing_put old = after_some old [] ∙ ap (λ (t : List ℕ). Some t) (append-nil old)

  pub items_none : (xs : List A) (x : A) (ys : List A) → s x ≡ None → items s (xs ++ x ∷ ys) ≡ None
  unfolding items
  items_none [] x ys e = none_first (s x) (items s ys) e
  items_none (y ∷ xs) x ys e = none_second (s y) (items s (xs ++ x ∷ ys)) (items_none xs x ys e)

  pub items_refused : (xs : List A) (i : ℕ) (x : A) → i < length xs → x ≡ get_or xs i x → s x ≡ None → items s xs ≡ None
  items_refused xs i x lt is e =
      let parts : xs ≡ take i xs ++ x ∷ drop (i + 1) xs = sym (take-append-drop i xs) ∙ ap (λ (ys : List A). take i xs ++ ys) (drop_more xs i x lt ∙ ap (λ (y : A). y ∷ drop (i + 1) xs) (sym is)) in
      ap (items s) parts ∙ items_none (take i xs) x (drop (i + 1) xs) e

  pub items_fails : (e : CodecFault) (xs : List A) (i : ℕ) (x : A) (start old new : Added) → i < length xs → x ≡ get_or xs i x → old.kept ≡ start.kept → Puts {A = Unit {0}} (s x) old new (Err e) → Puts {A = Unit {0}} (items s xs) start new (Err e)
  items_fails (faults.Wire f) xs i x start old new lt is k h = (items_refused xs i x lt is h.0, h.1 ∙ k, h.2)
  items_fails faults.OutOfMemory xs i x start old new lt is k h = h ∙ k

-- All that was appended to what was there before.
pub put_behind : (text : Option (List ℕ)) (old kept more start whole : List ℕ) → after start text ≡ Some more → start ≡ [] → kept ≡ old → whole ≡ kept ++ more → after old text ≡ Some whole
put_behind text old kept more start whole e s k w =
    let a = after_nil text more (ap (λ (x : List ℕ). after x text) (sym s) ∙ e) in
    ap (after old) a ∙ after_some old more ∙ ap (λ (x : List ℕ). Some x) (sym (w ∙ ap (λ (x : List ℕ). x ++ more) k))

-- ---- how many bytes a text has

-- The size of two parts.
pub size_then : (a b : Option (List ℕ)) (m n : ℕ) → option_map length a ≡ Some m → option_map length b ≡ Some n → option_map length (a ⊕ b) ≡ Some (m + n)
unfolding ◌⊕◌
size_then None b m n e f = absurd cc
size_then (Some x) None m n e f = absurd cc
size_then (Some x) (Some y) m n e f = ap (λ (k : ℕ). Some k) (length-append x y ∙ (ap (λ (k : ℕ). k + length y) (some_is _ _ e) ∙ ap (λ (k : ℕ). m + k) (some_is _ _ f)))

-- Two parts as two steps.
pub after_both : (old : List ℕ) (a b : Option (List ℕ)) → after old (a ⊕ b) ≡ (after old a >>= λ mid. after mid b)
unfolding after ◌⊕◌
after_both old None b = refl
after_both old (Some s) None = refl
after_both old (Some s) (Some t) = ap (λ (x : List ℕ). Some x) (sym (append_assoc old s t))

-- The rules for fields put one after the other.
pub ruleset written = (after_both, none_first, none_second)
