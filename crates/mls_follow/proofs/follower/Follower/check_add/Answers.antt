use Rattle.mls_follow.proofs.LoneAdding.{satisfies}
use Rattle.mls_follow.proofs.follower.Follower.check_add.Goals as goal

pub check_add-requires : goal.check_add-requires
check_add-requires g c = satisfies (g.C.SignatureCheck.meaning c.args.self.now.checker) c.args.self.now.group c.args.self.now.checked
