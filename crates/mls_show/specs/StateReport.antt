-- The report `show state`. `bytes` is the input, `text` the report. Used by contracts.
use Rattle.std.specs.Prelude.{ℕ, ◌≤◌, List, length, codes, Option, Some, ◌≡◌, ◌⊎◌}
use Rattle.mls_wire.specs.Encoding.{vector}
use Rattle.mls_wire.specs.Limits.{input_limit}
use Rattle.mls_nodes.specs.NodeModel.{NodeValue}
use Rattle.mls_nodes.specs.RatchetTreeEncoding.{filled}
use Rattle.mls_tree.specs.TreeDecoding.{IsTree}
use Rattle.mls_state.specs.Layout.{state_file}
use Rattle.mls_state.specs.StateFile.{HasChecksum, IsFileOf}
use Rattle.mls_state.specs.declared.file.StateFile.{StateFile}
use Rattle.mls_state.specs.declared.state.FollowerState.{FollowerState}
use Rattle.mls_show.specs.InputReports.{IsUnreadableReport}
use Rattle.mls_show.specs.StateText.{state_text}
use Rattle.mls_show.specs.declared.verdict.Verdict.{Verdict}
use Rattle.mls_show.specs.declared.verdict.Verdict.TheVariants.{Yes, No}

-- `IsTreeIn body nodes`: `body` is the body of the encoding of a ratchet_tree with these nodes (RFC 9420, 12.4.3.3), without
-- the length before them.
pub record IsTreeIn (body : List ℕ) (nodes : List (Option NodeValue)) : Type 0 where
  pub encoding : List ℕ
  pub has_length : vector body ≡ Some encoding
  pub is_tree : IsTree encoding nodes

-- `IsStateWith bytes s nodes`: the bytes are the file of the state `s`, within the limit of an input, and its tree has these
-- nodes.
pub record IsStateWith (bytes : List ℕ) (s : FollowerState) (nodes : List (Option NodeValue)) : Type 0 where
  pub is_file : IsFileOf bytes s
  pub bounded : length bytes ≤ input_limit
  pub is_tree : IsTreeIn s.tree nodes

-- `IsDamagedReport bytes text verdict`: the bytes encode a file with another checksum than that of its state, and the report
-- says so.
pub record IsDamagedReport (bytes text : List ℕ) (verdict : Verdict) : Type 0 where
  pub file : StateFile
  pub encoded : state_file file ≡ Some bytes
  pub differs : HasChecksum file → ⊥
  pub text_is : text ≡ codes "unreadable ChecksumDiffers\n"
  pub verdict_is : verdict ≡ No

-- `IsNoStateReport bytes text verdict`: the bytes are the file of no state with a tree, and the report says so.
pub record IsNoStateReport (bytes text : List ℕ) (verdict : Verdict) : Type 0 where
  pub no_state : (s : FollowerState) (nodes : List (Option NodeValue)) → IsStateWith bytes s nodes → ⊥
  pub unreadable : IsUnreadableReport text verdict

-- `IsShownState bytes text verdict`: the report of the file of a state.
pub record IsShownState (bytes text : List ℕ) (verdict : Verdict) : Type 0 where
  pub state : FollowerState
  pub nodes : List (Option NodeValue)
  pub is_state : IsStateWith bytes state nodes
  pub text_is : text ≡ state_text state (filled nodes)
  pub verdict_is : verdict ≡ Yes

-- `IsStateReport bytes text verdict`: the report of the file of a state, or of bytes that are none.
abbrev pub IsStateReport : List ℕ → List ℕ → Verdict → Type 0
IsStateReport bytes text verdict =
    IsShownState bytes text verdict ⊎ (IsDamagedReport bytes text verdict ⊎ IsNoStateReport bytes text verdict)
