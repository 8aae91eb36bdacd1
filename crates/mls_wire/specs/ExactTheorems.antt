-- What follows from an exact function for the encoding alone. Internal: no public contract uses this.
use Rattle.std.proofs.Common.{ℕ, ◌≡◌, List, [], ◌++◌, Option, Some, Ok, sym, ap, ◌∙◌}
use Rattle.std.proofs.lemmas.List.{append-nil}
use Rattle.mls_wire.specs.Input.{Input, at}
use Rattle.mls_wire.specs.OptionBind.{some_is}
use Rattle.mls_wire.specs.Encoding.{IsInjective, IsPrefixFree, IsUniquelyDecodable}
use Rattle.mls_wire.specs.ReadContracts.{ReadIsDeterministic}
use Rattle.mls_wire.specs.ExactParsers.{IsExact}
use Rattle.mls_wire.specs.ExactReads.{Gives-reads}

-- Bytes encode at most one value.
pub one_value : {A : Type 0} (s : A → Option (List ℕ)) (f : Input → Option (A × Input)) → IsExact s f → IsInjective s
one_value {A = A} s f exact x y text p q =
    let a = exact.again x text [] 0 tt p in
    let b = exact.again y text [] 0 tt q in
    ap (λ (z : A × Input). z.0) (some_is _ _ (sym a ∙ b))

-- No encoding is a proper prefix of another.
pub no_prefix : {A : Type 0} (s : A → Option (List ℕ)) (f : Input → Option (A × Input)) → IsExact s f → IsPrefixFree s
no_prefix {A = A} s f exact x y text more p q =
    let a = exact.again x text more 0 tt p in
    let b = exact.again y (text ++ more) [] 0 tt q in
    let c = ap (λ (t : List ℕ). f (at 0 t)) (append-nil (text ++ more)) in
    ap (λ (z : A × Input). z.1.left) (some_is _ _ (sym a ∙ (sym c ∙ b)))

-- Both.
pub unambiguous : {A : Type 0} (s : A → Option (List ℕ)) (f : Input → Option (A × Input)) → IsExact s f → IsUniquelyDecodable s
unambiguous s f exact = record { once = one_value s f exact; prefix_free = no_prefix s f exact }

-- Reading is deterministic.
pub one_reading : {A : Type 0} (s : A → Option (List ℕ)) (f : Input → Option (A × Input)) → IsExact s f → ReadIsDeterministic s
one_reading {A = A} s f exact x y i j k p q =
    let first : f i ≡ Some (x, j) = Gives-reads s f exact i j (Ok x) p in
    let second : f i ≡ Some (y, k) = Gives-reads s f exact i k (Ok y) q in
    let same : ◌≡◌ {A = A × Input} (x, j) (y, k) = some_is _ _ (sym first ∙ second) in
    (ap (λ (z : A × Input). z.0) same, ap (λ (z : A × Input). z.1) same)
