-- Lists with the same extensions are equal, and the other way round.
use Rattle.std.proofs.Common.{◌≡◌, List, [], ◌∷◌, Bool, true, false, refl, sym, subst}
use Rattle.std.specs.Prelude.{◌↔◌, ◌==◌, ◌&&◌, IsTrue}
use Rattle.std.specs.Str.{bytes_eq}
use Rattle.std.proofs.lemmas.Bool.{and_from, and_parts, eq-eqb}
use Rattle.std.proofs.lemmas.Bool.Decides.{Decides-eqb}
use Rattle.std.proofs.lemmas.Slice.Eq.{bytes_eq-Decides}
use Rattle.mls_nodes.specs.declared.extension.Extension.{Extension}
use Rattle.mls_examine.specs.CurrentInfos.{have_same_extensions}

extension_of_parts : (e f : Extension) → e.kind ≡ f.kind → e.body ≡ f.body → e ≡ f
extension_of_parts e f kind body = λ i. record { kind = kind i; body = body i }

pub same_extensions : (es fs : List Extension) → have_same_extensions es fs ≡ true → es ≡ fs
same_extensions [] [] h = refl
same_extensions [] (f ∷ fs) h = absurd cc
same_extensions (e ∷ es) [] h = absurd cc
same_extensions (e ∷ es) (f ∷ fs) h =
    let first = and_parts (e.kind == f.kind && bytes_eq e.body f.body) (have_same_extensions es fs) h in
    let second = and_parts (e.kind == f.kind) (bytes_eq e.body f.body) first.0 in
    let head = extension_of_parts e f ((Decides-eqb e.kind f.kind).0 second.0) ((bytes_eq-Decides e.body f.body).0 second.1) in
    λ i. head i ∷ same_extensions es fs first.1 i

pub extensions_same : (es : List Extension) → have_same_extensions es es ≡ true
extensions_same [] = refl
extensions_same (e ∷ es) =
    and_from (e.kind == e.kind && bytes_eq e.body e.body) (have_same_extensions es es)
    (and_from (e.kind == e.kind) (bytes_eq e.body e.body) (eq-eqb e.kind e.kind refl) ((bytes_eq-Decides e.body e.body).1 refl))
    (extensions_same es)

-- what says whether they are equal says whether they have the same extensions
pub said_equal : (es fs : List Extension) (b : Bool) → (IsTrue b ↔ (es ≡ fs)) → b ≡ have_same_extensions es fs
said_equal es fs true h = sym (subst (λ (gs : List Extension). have_same_extensions es gs ≡ true) (h.0 refl) (extensions_same es))
said_equal es fs false h = go (have_same_extensions es fs) refl
  where
    go : (b : Bool) → have_same_extensions es fs ≡ b → false ≡ b
    go true e = h.1 (same_extensions es fs e)
    go false e = refl
