-- Texts without a line feed.
use Rattle.std.proofs.Common.{◌≡◌, ◌≢◌, ℕ, zero, suc, ◌+◌, ◌%◌, ◌/◌, List, [], ◌∷◌, ◌++◌, Bool, true, false, not, ◌==◌, refl, arith, if◌then◌else◌, codes}
use Rattle.std.specs.List.{list_all}
use Rattle.std.specs.Fmt.{decimal, digits, digits_onto, digit_glyph}
use Rattle.std.proofs.lemmas.List.Elements.{All-append}
use Rattle.std.proofs.lemmas.List.Sums.{AllPass-from_list_all}
use Rattle.mls_wire.specs.declared.fault.WireFault.{WireFault}
use Rattle.mls_wire.specs.declared.fault.WireFaultKind.{WireFaultKind}
use Rattle.mls_wire.specs.declared.fault.WireFaultKind.TheVariants as kind
use Rattle.mls_nodes.specs.declared.fault.NodeFault.{NodeFault}
use Rattle.mls_nodes.specs.declared.fault.NodeFault.TheVariants as fault
use Rattle.mls_show.specs.ValueTexts.{IsOneLine}
use Rattle.mls_show.specs.FaultText.{wire_kind_text, wire_fault_text, node_fault_text}

is_other : (c : ℕ) → not (c == 10) ≡ true → c ≢ 10
is_other c h e = let bad : false ≡ true = rw e at h in cc

-- a text that is written out
IsOneLine-tested : (text : List ℕ) → list_all (λ c. not (c == 10)) text ≡ true → IsOneLine text
IsOneLine-tested text h = λ k d l. is_other _ (AllPass-from_list_all (λ c. not (c == 10)) text h k d l)

IsOneLine-append : (a b : List ℕ) → IsOneLine a → IsOneLine b → IsOneLine (a ++ b)
IsOneLine-append a b p q = All-append (λ c. c ≢ 10) a b p q

IsOneLine-cons : (c : ℕ) (text : List ℕ) → c ≢ 10 → IsOneLine text → IsOneLine (c ∷ text)
IsOneLine-cons c text other h zero d l = other
IsOneLine-cons c text other h (suc k) d l = h k d (omega arith)

IsOneLine-either : (b : Bool) (x y : List ℕ) → IsOneLine x → IsOneLine y → IsOneLine (if b then x else y)
IsOneLine-either true x y p q = p
IsOneLine-either false x y p q = q

either_other : (b : Bool) (x y : ℕ) → x ≢ 10 → y ≢ 10 → (if b then x else y) ≢ 10
either_other true x y p q = p
either_other false x y p q = q

glyph_other : (d : ℕ) → digit_glyph false d ≢ 10
glyph_other d = either_other _ (48 + d) (87 + d) (omega arith) (omega arith)

IsOneLine-digits_onto : (k n : ℕ) (acc : List ℕ) → IsOneLine acc → IsOneLine (digits_onto k 10 false n acc)
IsOneLine-digits_onto zero n acc h = h
IsOneLine-digits_onto (suc k) n acc h =
    let more : IsOneLine (digit_glyph false (n % 10) ∷ acc) = IsOneLine-cons (digit_glyph false (n % 10)) acc (glyph_other (n % 10)) h in
    IsOneLine-either (n / 10 == 0) (digit_glyph false (n % 10) ∷ acc) (digits_onto k 10 false (n / 10) (digit_glyph false (n % 10) ∷ acc)) more
    (IsOneLine-digits_onto k (n / 10) (digit_glyph false (n % 10) ∷ acc) more)

IsOneLine-nil : IsOneLine []
IsOneLine-nil = IsOneLine-tested [] refl

IsOneLine-decimal : (n : ℕ) → IsOneLine (decimal n)
unfolding digits
IsOneLine-decimal n = IsOneLine-digits_onto 64 n [] IsOneLine-nil

IsOneLine-wire_kind_text : (k : WireFaultKind) → IsOneLine (wire_kind_text k)
IsOneLine-wire_kind_text kind.Truncated = IsOneLine-tested (codes "Truncated") refl
IsOneLine-wire_kind_text kind.NotShortest = IsOneLine-tested (codes "NotShortest") refl
IsOneLine-wire_kind_text kind.BadPrefix = IsOneLine-tested (codes "BadPrefix") refl
IsOneLine-wire_kind_text kind.BadOptional = IsOneLine-tested (codes "BadOptional") refl
IsOneLine-wire_kind_text (kind.BadTag value) = IsOneLine-append (codes "BadTag ") (decimal value) (IsOneLine-tested (codes "BadTag ") refl) (IsOneLine-decimal value)
IsOneLine-wire_kind_text kind.OddLength = IsOneLine-tested (codes "OddLength") refl
IsOneLine-wire_kind_text kind.Trailing = IsOneLine-tested (codes "Trailing") refl
IsOneLine-wire_kind_text kind.TooLong = IsOneLine-tested (codes "TooLong") refl

pub wire_fault_is_one_line : (f : WireFault) → IsOneLine (wire_fault_text f)
wire_fault_is_one_line f =
    IsOneLine-append (wire_kind_text f.kind) (codes " " ++ decimal f.at) (IsOneLine-wire_kind_text f.kind) (IsOneLine-append (codes " ") (decimal f.at) (IsOneLine-tested (codes " ") refl) (IsOneLine-decimal f.at))

pub node_fault_is_one_line : (f : NodeFault) → IsOneLine (node_fault_text f)
node_fault_is_one_line (fault.Wire f) = wire_fault_is_one_line f
node_fault_is_one_line (fault.WrongNodeKind position) = IsOneLine-append (codes "WrongNodeKind ") (decimal position) (IsOneLine-tested (codes "WrongNodeKind ") refl) (IsOneLine-decimal position)
node_fault_is_one_line fault.LastBlank = IsOneLine-tested (codes "LastBlank") refl
node_fault_is_one_line fault.EmptyTree = IsOneLine-tested (codes "EmptyTree") refl
node_fault_is_one_line fault.TooManyLeaves = IsOneLine-tested (codes "TooManyLeaves") refl
node_fault_is_one_line fault.OutOfMemory = IsOneLine-tested (codes "OutOfMemory") refl
