use Rattle.std.proofs.Common.{ℕ, sym, subst}
use Rattle.mls_index.specs.FirstIndex.{FindsFirst}
use Rattle.mls_index.specs.RepeatedKeysInternal.{FindsAmong, HasKeyBut}
use Rattle.mls_index.proofs.Lookups.{IsEntered, first_of_both, first_of_prefixes}
use Rattle.mls_index.proofs.key_table.KeyTable.first_with.Goals as goal

pub returns-then-is_empty : goal.returns-then-is_empty
returns-then-is_empty c = λ covers.
    let kind = c.args.kind in
    let t = c.args.tree.now.tree in
    let k = c.args.self.now in
    let key = c.args.key.now in
    first_of_prefixes kind t k key c.args.but covers c.first_among-found.result (c.is_empty.ensures c.if-is_empty.true)
    (subst (λ (b : ℕ). FindsAmong (IsEntered k.prefixes.entries b) (HasKeyBut kind t key c.args.but) c.first_among-found.result) c.key_prefix.ensures c.first_among-found.ensures)

pub returns : goal.returns
returns c = λ covers.
    let kind = c.args.kind in
    let t = c.args.tree.now.tree in
    let k = c.args.self.now in
    let key = c.args.key.now in
    let has = HasKeyBut kind t key c.args.but in
    subst (FindsFirst has) (sym c.smaller.ensures)
    (first_of_both kind t k key c.args.but covers c.first_among-found.result c.first_among.result
    (subst (λ (b : ℕ). FindsAmong (IsEntered k.prefixes.entries b) has c.first_among-found.result) c.key_prefix.ensures c.first_among-found.ensures)
    (subst (λ (b : ℕ). FindsAmong (IsEntered k.fingerprints.entries b) has c.first_among.result) c.number_of-number.ensures c.first_among.ensures))
