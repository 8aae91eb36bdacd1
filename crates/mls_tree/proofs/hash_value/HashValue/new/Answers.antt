use Rattle.std.proofs.Common.{ℕ, List, ◌∷◌, ◌∙◌, length, take, drop, replicate, ap, subst, sym, refl}
use Rattle.std.proofs.lemmas.List.{append-nil, take_at}
use Rattle.mls_tree.specs.HashValue.{IsPadded}
use Rattle.mls_tree.proofs.Padding.{padded-new}
use Rattle.mls_tree.proofs.hash_value.HashValue.new.Goals as goal

pub invariant_of-result : goal.invariant_of-result
invariant_of-result c =
    let n : ℕ = length c.args.bytes.now in
    subst (λ (body : List ℕ). IsPadded (n ∷ body)) (sym (append-nil c.copy_to_front.new.slice ∙ c.copy_to_front.ensures))
    (padded-new c.args.bytes.now n refl c.if-len-gt-MAX_BYTES.false 64 refl)

pub returns-clause-value : goal.returns-clause-value
returns-clause-value c =
    let n : ℕ = length c.args.bytes.now in
    ap (λ (body : List ℕ). take n body) (append-nil c.copy_to_front.new.slice ∙ c.copy_to_front.ensures)
    ∙ take_at c.args.bytes.now (drop n (replicate 64 0)) n refl
