use Rattle.std.proofs.Common.{◌≡◌, ◌∙◌, ◌++◌, ◌∷◌, [], List, ℕ, ap, map}
use Rattle.std.specs.Prelude.{reverse}
use Rattle.mls_apply.specs.PathParents.{Change}
use Rattle.mls_apply.specs.PathModel.{change_of}
use Rattle.mls_apply.proofs.path_merge.carried.Goals as goal

pub loop-parent-init : goal.loop-parent-init
loop-parent-init c =
    let first : c.push.new.self.items ≡ c.args.new.hash ∷ [] =
    c.in_ok-push.ensures.items ∙ ap (λ (hs : List (List ℕ)). hs ++ c.in_ok-to_opaque.field-0 ∷ []) c.new-hashes.ensures.items ∙ ap (λ (h : List ℕ). h ∷ []) c.in_ok-to_opaque.ensures in
    ap (λ (hs : List (List ℕ)). hs ++ reverse (map (λ (p : Change). p.parent.parent_hash) (map change_of c.args.new.parents.items))) first
