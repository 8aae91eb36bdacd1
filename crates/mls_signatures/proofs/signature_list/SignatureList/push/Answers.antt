use Rattle.std.specs.Prelude.{◌∷◌, []}
use Rattle.std.proofs.lemmas.Result.{on_ok_weaker}
use Rattle.mls_signatures.proofs.Repeats.{extends-by, extends-once}
use Rattle.mls_signatures.proofs.signature_list.SignatureList.push.Goals as goal

pub returns-then-len-self : goal.returns-then-len-self
returns-then-len-self c = extends-by c.args.self.now (c.args.needed.now ∷ []) c.append.new.self c.in_ok-append.ensures

pub returns : goal.returns
returns c =
    on_ok_weaker c.remove_duplicates.result
    (extends-once c.args.self.now (c.args.needed.now ∷ []) c.append.new.self c.remove_duplicates.new.self c.in_ok-append.ensures)
    c.remove_duplicates.ensures
