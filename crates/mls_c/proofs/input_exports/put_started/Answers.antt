use Rattle.std.proofs.Common.{◌≡◌, ◌≢◌, ◌∙◌, List, ℕ, Option, refl, ap, ◌⊎◌, inl, inr, rules}
use Rattle.std.specs.Prelude.{Some}
use Rattle.mls_check.specs.Signatures.{VerifyFn}
use Rattle.mls_msgs.specs.declared.profile.Profile.{Profile}
use Rattle.mls_msgs.specs.declared.rules.Rules.{Rules}
use Rattle.mls_follow.specs.State.{State}
use Rattle.mls_start.specs.Inputs.{Inputs, OfInfo, OfState}
use Rattle.mls_start.specs.StartFindings.{IsFirstState}
use Rattle.mls_c.specs.Followers.{state_in, meaning_in}
use Rattle.mls_c.specs.Numbers.{plain_verdict, other_profile}
use Rattle.mls_c.specs.Starts.{RunsOut, Starts}
use Rattle.mls_c.specs.declared.group_follower.GroupFollower.{GroupFollower}
use Rattle.mls_c.specs.declared.input_verdict.InputVerdict.{InputVerdict}
use Rattle.mls_c.proofs.input_exports.put_started.Goals as goal

module _ (profile : Profile) (G : VerifyFn) (held : Option GroupFollower) (v : InputVerdict) where
  -- a follower that starts has the profile of the inputs, so this one has resumed
  differs : (i : Inputs) (s : State) → ((asked : Rules) (own : Profile) (info : List ℕ) (tree : Option (List ℕ)) → i ≡ OfInfo asked own info tree → own ≡ profile)
      → IsFirstState G i s → s.profile ≢ profile → v ≡ plain_verdict other_profile → Starts profile G i held held v
  differs (OfInfo asked own info tree) s agrees start other is =
      absurd (other (ap (λ (z : State). z.profile) start.start.state ∙ agrees asked own info tree refl))
  differs (OfState asked bytes) s agrees resumed other is = Starts.differs asked bytes s refl resumed other is refl

  starts-put : (new : Option GroupFollower) (f : GroupFollower) (i : Inputs) → meaning_in f ≡ G → IsFirstState G i (state_in f) → (state_in f).profile ≡ profile
      → ((v ≡ plain_verdict 0) × (new ≡ Some f)) ⊎ (RunsOut v × (new ≡ held)) → Starts profile G i held new v
  starts-put new f i meaning first same (inl p) = Starts.starts f p.1 first same meaning p.0
  starts-put new f i meaning first same (inr p) = Starts.runs_out p.0 p.1

pub returns-then-not-are_equal : goal.returns-then-not-are_equal
returns-then-not-are_equal c = differs _ _ _ _ _ _ c.requires c.in-Ok.ensures.first (search rules) c.plain_verdict-then-not-are_equal.ensures

pub returns : goal.returns
returns c = starts-put _ _ _ _ _ (record { follower = c.in-Ok.follower }) _ c.in-Ok.ensures.checker c.in-Ok.ensures.first (search rules) c.put_follower.ensures
