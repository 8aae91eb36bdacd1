use Rattle.std.proofs.Common.{◌≡◌, ◌++◌, ◌∷◌, [], List, Option, Ok, length, map, ap, sym, subst, ◌∙◌, arith, length-append}
use Rattle.std.proofs.lemmas.List.{length-map, map_push}
use Rattle.mls_nodes.specs.NodeModel.{NodeValue}
use Rattle.mls_nodes.specs.NodeValues.{entry_value}
use Rattle.mls_nodes.specs.RatchetTreeReading.{ReadsEntry}
use Rattle.mls_nodes.specs.declared.node.Node.{Node}
use Rattle.mls_tree.specs.HashLists.{EqualHashes}
use Rattle.mls_hash.specs.SuiteHash.{hash_of}
use Rattle.mls_hash.specs.EncodedLeaves.{AreEntryHashes}
use Rattle.mls_hash.proofs.EncodedLeaves.{read_more}
use Rattle.mls_hash.proofs.decode.read_hashed.Goals as goal

pub loop-hashes-preserved : goal.loop-hashes-preserved
loop-hashes-preserved c =
    let h = c.loop-hashes.invariant in
    let xs = c.loop-hashes.entries.items in
    let x = c.in-Some.entry in
    let read = subst (λ (o : Option (Option Node)). ReadsEntry c.loop-hashes.reader.reader c.next_entry.new.self.reader (Ok o)) c.in-Some.is c.in_ok-entry.ensures.entry in
    let pushed : c.push.new.self.items ≡ xs ++ x ∷ [] = c.in_ok-push.ensures.items ∙ ap (λ (ys : List (Option Node)). ys ++ x ∷ []) c.reserve_at_first.ensures.entries in
    let reserved : c.reserve_at_first.new.hashes ≡ c.loop-hashes.hashes = c.reserve_at_first.ensures.hashes in
    let front : map entry_value xs ++ entry_value x ∷ [] ≡ map entry_value c.push.new.self.items = sym (ap (map entry_value) pushed ∙ map_push entry_value xs x) in
    record {
      whole = read_more c.args.bytes.items xs c.push.new.self.items x c.loop-hashes.reader.reader.rest c.next_entry.new.self.reader.rest h.whole read.0 pushed;
      short = h.short;
      node_index = omega (arith, read.1, h.node_index, ap length pushed, length-append xs (x ∷ []));
      width = c.in_ok-push_hash.ensures.width ∙ ap (λ (l : EqualHashes). l.width) reserved ∙ h.width;
      hashes = subst (λ (ns : List (Option NodeValue)). AreEntryHashes (hash_of c.args.suite) ns c.push_hash.new.hashes.hashes) front
          (c.in_ok-push_hash.ensures.pushed (map entry_value xs) (omega (arith, length-map xs entry_value, read.1, h.node_index, c.node_index-node_index.ensures.value))
          (subst (λ (l : EqualHashes). AreEntryHashes (hash_of c.args.suite) (map entry_value xs) l.hashes) (sym reserved) h.hashes));
    }
