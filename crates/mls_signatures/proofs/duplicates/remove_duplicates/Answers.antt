use Rattle.std.proofs.Common.{◌∙◌}
use Rattle.mls_signatures.specs.ShortenedSignatures.{IsShortened, restored}
use Rattle.mls_signatures.proofs.ShortenedMarks.{marked-map, marked-all}
use Rattle.mls_signatures.proofs.duplicates.remove_duplicates.Goals as goal

pub returns-clause-shortened : goal.returns-clause-shortened
returns-clause-shortened c = λ g all.
    rw (c.keep_marked.ensures, c.as_slice-2.ensures.value) (marked-all (IsShortened g) c.in_ok-marks.marks.items c.args.list.now.items all)

pub returns-clause-signatures : goal.returns-clause-signatures
returns-clause-signatures c = λ g all.
    let marks = c.in_ok-marks.ensures.marked g (rw (c.as_slice.ensures.value) all) in
    rw (c.keep_marked.ensures, c.as_slice-2.ensures.value)
    (marked-map (restored g) c.in_ok-marks.marks.items c.args.list.now.items ∙ rw c.as_slice.ensures.value at marks)
