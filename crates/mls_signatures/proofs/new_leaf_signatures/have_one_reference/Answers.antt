use Rattle.std.proofs.Common.{◌∙◌, Some, ap, sym}
use Rattle.std.specs.Prelude.{option_map}
use Rattle.std.proofs.lemmas.Slice.Eq.{bytes_eq-Decides}
use Rattle.mls_signatures.proofs.new_leaf_signatures.have_one_reference.Goals as goal

pub returns : goal.returns
returns c = λ e.
    let first = c.in-Some-Some.first.now in
    let second = c.in-Some-Some.second.now in
    let same = (bytes_eq-Decides first second).0 (sym c.eq.ensures ∙ e) in
    record {
      name = first;
      first = ap (option_map (λ r. r.now)) c.in-Some-Some.is-0;
      second = ap (option_map (λ r. r.now)) c.in-Some-Some.is-1 ∙ ap Some (sym same);
    }
