-- The steps of the report `show state`. Internal: no public contract uses this.
use Rattle.std.specs.Prelude.{◌≡◌, ◌⊎◌, ℕ, List, codes, Option, Result, Ok, Err}
use Rattle.mls_nodes.specs.NodeModel.{NodeValue}
use Rattle.mls_nodes.specs.RatchetTreeEncoding.{filled}
use Rattle.mls_nodes.specs.declared.fault.NodeFault.{NodeFault}
use Rattle.mls_nodes.specs.declared.fault.NodeFault.TheVariants as faults
use Rattle.mls_state.specs.declared.fault.StateFileFault.{StateFileFault}
use Rattle.mls_state.specs.declared.fault.StateFileFault.TheVariants.{Unreadable, ChecksumDiffers, OutOfMemory}
use Rattle.mls_show.specs.InputReports.{IsUnreadableReport}
use Rattle.mls_show.specs.StateReport.{IsTreeIn}
use Rattle.mls_show.specs.TreeText.{text_by}
use Rattle.mls_show.specs.declared.verdict.Verdict.{Verdict}
use Rattle.mls_show.specs.declared.verdict.Verdict.TheVariants.{Yes, No}

-- `HasNoTree body`: no ratchet_tree has the body `body`.
abbrev pub HasNoTree : List ℕ → Type 0
HasNoTree body = (nodes : List (Option NodeValue)) → IsTreeIn body nodes → ⊥

-- `GivesStateTextBy line body result`: the call returned what `line` gives for the tree whose encoding has this body.
abbrev pub GivesStateTextBy : (ℕ → Option NodeValue → List ℕ) → List ℕ → Result (List ℕ) NodeFault → Type 0
GivesStateTextBy line body (Ok text) =
    (nodes : List (Option NodeValue)) × IsTreeIn body nodes × (text ≡ text_by line (filled nodes))
GivesStateTextBy line body (Err faults.OutOfMemory) = Unit {0}
GivesStateTextBy line body (Err e) = HasNoTree body

-- `StateFaultReport fault text verdict`: the report of bytes that are the file of no state, by the fault.
abbrev pub StateFaultReport : StateFileFault → List ℕ → Verdict → Type 0
StateFaultReport (Unreadable f) text verdict = IsUnreadableReport text verdict
StateFaultReport ChecksumDiffers text verdict = (text ≡ codes "unreadable ChecksumDiffers\n") × (verdict ≡ No)
StateFaultReport OutOfMemory text verdict = ⊥

-- `ContentReport made body text verdict`: the report of a state whose tree has this body: what is made of the nodes of the full
-- tree, or that the tree cannot be read.
abbrev pub ContentReport : (List (Option NodeValue) → List ℕ) → List ℕ → List ℕ → Verdict → Type 0
ContentReport made body text verdict =
    ((nodes : List (Option NodeValue)) × IsTreeIn body nodes × (text ≡ made (filled nodes)) × (verdict ≡ Yes))
    ⊎ (HasNoTree body × IsUnreadableReport text verdict)
