use Rattle.std.proofs.Common.{Some, refl, sym, subst}
use Rattle.mls_tree.specs.HashCache.{IsRightHash}
use Rattle.mls_tree.specs.declared.journal.UndoEntry.TheVariants.{Hash}
use Rattle.mls_tree.specs.declared.logged_hashes.LoggedHash.{LoggedHash}
use Rattle.mls_tree.proofs.LoggedHashes.{logs-entry}
use Rattle.mls_tree.proofs.logged_hashes.log_hash.Goals as goal

pub returns : goal.returns
returns c =
    let t = c.args.tree.now.tree in
    let logged = c.in_ok-logged.logged in
    let right : IsRightHash (Some c.in-Some.kind) t c.args.node_index c.in-Some-kept_hash.hash
    = subst (λ kind. IsRightHash kind t c.args.node_index c.in-Some-kept_hash.hash) (sym c.in-Some.ensures) c.in-Some-kept_hash.ensures.right in
    logs-entry c.args.formers.now.items c.push.new.self.items (Hash logged) t t refl
    (subst (λ (v : LoggedHash). IsRightHash (Some v.kind) t v.node_index v.hash) (sym c.in_ok-logged.ensures.ok) right)
    c.in_ok-push.ensures.items
