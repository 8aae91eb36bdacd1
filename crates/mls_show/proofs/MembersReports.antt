-- The report of the members of what bytes begin as.
use Rattle.std.proofs.Common.{◌≡◌, ℕ, List, Bool, true, false, sym, subst}
use Rattle.mls_show.specs.MembersReport.{begins_as_info, begins_as_state, IsInfoMembers, IsStateMembers, IsTreeMembers, IsMembersReport, MembersBy}
use Rattle.mls_show.specs.declared.verdict.Verdict.{Verdict}

module _ (bytes text : List ℕ) (verdict : Verdict) where
  pub of_info : begins_as_info bytes ≡ true → IsInfoMembers bytes text verdict → IsMembersReport bytes text verdict
  of_info info h = subst (λ (b : Bool). MembersBy b (begins_as_state bytes) bytes text verdict) (sym info) h

  pub of_state : begins_as_info bytes ≡ false → begins_as_state bytes ≡ true → IsStateMembers bytes text verdict → IsMembersReport bytes text verdict
  of_state info state h =
      subst (λ (b : Bool). MembersBy b (begins_as_state bytes) bytes text verdict) (sym info)
      (subst (λ (b : Bool). MembersBy false b bytes text verdict) (sym state) h)

  pub of_tree : begins_as_info bytes ≡ false → begins_as_state bytes ≡ false → IsTreeMembers bytes text verdict → IsMembersReport bytes text verdict
  of_tree info state h =
      subst (λ (b : Bool). MembersBy b (begins_as_state bytes) bytes text verdict) (sym info)
      (subst (λ (b : Bool). MembersBy false b bytes text verdict) (sym state) h)
