use Rattle.std.proofs.Common.{◌∙◌, ap, refl, rules}
use Rattle.mls_wire.specs.WriteSequences.{put_behind}
use Rattle.mls_wire.specs.EncodedSizes.{sized_none_text}
use Rattle.mls_wire.proofs.Sized.{sized_some, put_undone}
use Rattle.mls_wire.proofs.writer.Writer.write.Goals as goal

pub returns-in_default : goal.returns-in_default
returns-in_default g c = (sized_none_text _ c.in_default.ensures, refl, c.too_long.ensures)

pub returns-in_err-reserve : goal.returns-in_err-reserve
returns-in_err-reserve g c = search (rules, sized_some)

pub returns-in-Ok : goal.returns-in-Ok
returns-in-Ok g c =
    put_behind _ c.args.self.now _ _ _ _ c.in-Ok.ensures.0 c.after-draft.ensures.more
    (c.in-Ok.ensures.1 ∙ (c.after-draft.ensures.kept ∙ (ap (λ v. v.items) c.replace.ensures.value ∙ (c.in_ok-reserve.ensures.items ∙ c.self.view_is)))) c.finish.ensures

pub returns-in-Err : goal.returns-in-Err
returns-in-Err g c =
    put_undone c.in-Err.fault (g.T.Decode.encoding c.args.value.now) c.in-Some.size c.args.self.now _ c.after-draft.result c.put.new.draft c.in-Some.ensures c.in-Err.ensures
    (c.after-draft.ensures.kept ∙ (ap (λ v. v.items) c.replace.ensures.value ∙ (c.in_ok-reserve.ensures.items ∙ c.self.view_is))) c.undo.ensures
