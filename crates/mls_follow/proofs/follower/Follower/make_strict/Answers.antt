use Rattle.mls_follow.proofs.AcceptedPending.{answered_pending}
use Rattle.mls_follow.proofs.AddingRules.{answered_checked}
use Rattle.mls_follow.proofs.follower.Follower.make_strict.Goals as goal

-- a rule that was added is met
pub invariant_of-self : goal.invariant_of-self
invariant_of-self g c =
    record {
      checked = answered_checked (g.C.SignatureCheck.meaning c.args.self.now.checker) c.args.asked c.args.self.now.group c.add_rules.new.self c.add_rules.result
          c.add_rules.ensures.made c.add_rules.ensures.unchanged_on_error c.args.self.now.checked;
      accepted = answered_pending (g.C.SignatureCheck.meaning c.args.self.now.checker) c.args.asked c.args.self.now.group c.add_rules.new.self c.add_rules.result
          c.add_rules.ensures.made c.add_rules.ensures.unchanged_on_error c.args.self.now.accepted;
    }
