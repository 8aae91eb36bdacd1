-- Credential types that some leaf has and another lacks (RFC 9420, 5.3 and 7.2). Internal: no public contract uses
-- this.
use Rattle.std.specs.Prelude.{◌≡◌, ℕ, ◌==◌, Bool, true, not, ◌&&◌, ◌||◌, List, Option, count_by}
use Rattle.mls_index.specs.FirstIndex.{FindsFirst}
use Rattle.mls_index.specs.LeafCredentials.{class_at}
use Rattle.mls_index.specs.declared.leaf_credentials.LeafClass.{LeafClass}

-- `none_pass test classes`: no class of the list passes the test.
abbrev pub none_pass : (LeafClass → Bool) → List LeafClass → Bool
none_pass test classes = count_by test classes == 0

-- `support_each_other classes`: no leaf lacks a credential type that some leaf has.
abbrev pub support_each_other : List LeafClass → Bool
support_each_other classes =
    (none_pass (λ c. c.has_basic) classes || none_pass (λ c. c.lacks_basic) classes)
    && (none_pass (λ c. c.has_x509) classes || none_pass (λ c. c.lacks_x509) classes)

-- `lacks_used classes c`: the leaf of class `c` lacks a credential type that some class of the list has.
abbrev pub lacks_used : List LeafClass → LeafClass → Bool
lacks_used classes c =
    (not (none_pass (λ d. d.has_basic) classes) && c.lacks_basic) || (not (none_pass (λ d. d.has_x509) classes) && c.lacks_x509)

-- `FindsLacking classes o`: `o` is the smallest index of a class that lacks a credential type that some class has, or
-- `None` if there is none.
abbrev pub FindsLacking : List LeafClass → Option ℕ → Type 0
FindsLacking classes o = FindsFirst (λ i. lacks_used classes (class_at classes i) ≡ true) o
