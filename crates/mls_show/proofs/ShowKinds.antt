-- Inputs that are read whole, by their kinds.
use Rattle.std.proofs.Common.{◌≢◌, ℕ, List, refl}
use Rattle.std.specs.Prelude.{Option}
use Rattle.mls_wire.specs.declared.fault.RunFault.{RunFault}
use Rattle.mls_msgs.specs.declared.profile.Profile.{Profile}
use Rattle.mls_show.specs.OneInputReport.{WritesReport}
use Rattle.mls_show.specs.Show.{IsShowReport, Shows, ShowsPart, StopsShowing}
use Rattle.mls_show.specs.declared.verdict.Verdict.{Verdict}
use Rattle.mls_show.specs.declared.show.ShowKind.{ShowKind}
use Rattle.mls_show.specs.declared.show.ShowKind.TheVariants as kind

module _ (profile : Profile) (l0 l1 w0 w1 : Option (List ℕ)) where
  -- the report was written whole
  pub shows_whole : (k : ShowKind) → k ≢ kind.Log → (verdict : Verdict) → WritesReport (IsShowReport profile k) l0 l1 w0 w1 verdict → Shows profile k l0 l1 w0 w1 verdict
  shows_whole kind.Tree other verdict h = h
  shows_whole kind.Info other verdict h = h
  shows_whole kind.Message other verdict h = h
  shows_whole kind.KeyPackage other verdict h = h
  shows_whole kind.Members other verdict h = h
  shows_whole kind.State other verdict h = h
  shows_whole kind.Log other verdict h = absurd (other refl)

  -- it was not
  pub stops_whole : (k : ShowKind) → k ≢ kind.Log → (fault : RunFault) → StopsShowing profile k l0 l1 w0 w1 fault → ShowsPart profile k l0 l1 w0 w1 fault
  stops_whole kind.Tree other fault h = h
  stops_whole kind.Info other fault h = h
  stops_whole kind.Message other fault h = h
  stops_whole kind.KeyPackage other fault h = h
  stops_whole kind.Members other fault h = h
  stops_whole kind.State other fault h = h
  stops_whole kind.Log other fault h = absurd (other refl)
