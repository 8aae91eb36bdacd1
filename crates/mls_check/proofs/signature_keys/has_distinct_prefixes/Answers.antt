use Rattle.std.proofs.Common.{◌≡◌, ◌∙◌, true, ap, sym, subst, arith}
use Rattle.std.specs.Prelude.{option_copied}
use Rattle.mls_tree.specs.Tree.{leaf_count}
use Rattle.mls_nodes.specs.KeyPrefix.{key_prefix}
use Rattle.mls_check.specs.LeafValidation.{all_leaves, has_unique_signature_key}
use Rattle.mls_check.proofs.Differing.{AreApart, Begun-blank, Begun-key, apart-answered}
use Rattle.mls_check.proofs.Keys.{signature_key_at, signature_key-set, signature_key-blank, own_keys-apart}
use Rattle.mls_check.proofs.signature_keys.has_distinct_prefixes.Goals as goal
use Rattle.mls_check.proofs.signature_keys.has_distinct_prefixes.Goals.{in-Some+in_ok-push, in_default}

pub loop-index-preserved : goal.loop-index-preserved
loop-index-preserved c =
    let t = c.args.tree.now.tree in
    let i = c.loop-index.index in
    let numbers = c.loop-index.prefixes.items in
    let known = c.loop-index.invariant in
    elim c.match-leaf.branch [
      | in-Some+in_ok-push w ↦
          let x = w.in-Some.leaf.now in
          let set = signature_key-set t i x (sym c.leaf.ensures ∙ ap option_copied w.in-Some.is) in
          let is = w.key_prefix.ensures ∙ ap key_prefix w.signature_key.ensures in
          rw w.prefixes-is
          (Begun-key (signature_key_at t) i numbers known x.signature_key set
          w.key_prefix.result w.push.new.self.items is w.in_ok-push.ensures.items)
      | in_default w ↦
          let blank = sym c.leaf.ensures ∙ ap option_copied w.in_default.is in
          let none = signature_key-blank t i blank in
          rw w.prefixes-is (Begun-blank (signature_key_at t) i numbers known none)
    ]

pub returns : goal.returns
returns c =
    let t = c.args.tree.now.tree in
    let i = c.loop-index.index in
    let numbers = c.loop-index.prefixes.items in
    let last : i ≡ leaf_count t = omega (arith, c.leaf_count-leaves.ensures) in
    apart-answered (signature_key_at t) i numbers c.loop-index.invariant
    (all_leaves (has_unique_signature_key t) 0 t ≡ true)
    (λ apart. own_keys-apart t (subst (λ n. AreApart (signature_key_at t) n) last apart))
    c.all_differ.result c.all_differ.ensures.0
