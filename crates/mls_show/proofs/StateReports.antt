-- The reports of the file of a state.
use Rattle.std.proofs.Common.{◌≡◌, ◌≢◌, ℕ, ◌+◌, ◌≤◌, List, [], ◌∷◌, ◌++◌, length, refl, sym, ap, subst, ◌∙◌, ◌⊎◌, inl, inr}
use Rattle.std.specs.Prelude.{Option, Some, None, Result, Ok, Err}
use Rattle.mls_wire.specs.Encoding.{vector}
use Rattle.mls_wire.specs.Limits.{input_limit}
use Rattle.mls_wire.specs.OptionBind.{some_is}
use Rattle.mls_nodes.specs.NodeModel.{NodeValue}
use Rattle.mls_nodes.specs.declared.fault.NodeFault.{NodeFault}
use Rattle.mls_nodes.specs.declared.fault.NodeFault.TheVariants as faults
use Rattle.mls_tree.specs.TreeDecoding.{IsNoTree}
use Rattle.mls_state.specs.StateFile.{DecodesStateFile, IsFileOf}
use Rattle.mls_state.specs.declared.fault.StateFileFault.{StateFileFault}
use Rattle.mls_state.specs.declared.fault.StateFileFault.TheVariants as files
use Rattle.mls_state.specs.declared.state.FollowerState.{FollowerState}
use Rattle.mls_state.proofs.Files.{state_is_unique}
use Rattle.mls_show.specs.InputReports.{IsUnreadableReport}
use Rattle.mls_show.specs.MembersReport.{IsStateMembers}
use Rattle.mls_show.specs.MembersText.{members_text}
use Rattle.mls_show.specs.StateReport.{IsDamagedReport, IsNoStateReport, IsStateReport, IsStateWith, IsTreeIn}
use Rattle.mls_show.specs.StateReportInternal.{ContentReport, GivesStateTextBy, HasNoTree, StateFaultReport}
use Rattle.mls_show.specs.StateText.{counts_of, state_text}
use Rattle.mls_show.specs.TreeText.{lines_by, text_by}
use Rattle.mls_show.specs.TreeTextInternal.{GivesTextBy}
use Rattle.mls_show.specs.declared.verdict.Verdict.{Verdict}

-- ---- the tree of a state

-- no line is made of any node
abbrev pub no_lines : ℕ → Option NodeValue → List ℕ
no_lines _ _ = []

nothing_made : (k : ℕ) (ns : List (Option NodeValue)) → lines_by no_lines k ns ≡ []
nothing_made k [] = refl
nothing_made k (n ∷ ns) = nothing_made (k + 1) ns

-- the counts alone are left
pub counts_left : (ns : List (Option NodeValue)) → text_by no_lines ns ≡ counts_of ns
counts_left ns = ap (λ (t : List ℕ). t ++ counts_of ns) (nothing_made 0 ns)

-- a body without an encoding has no tree
pub no_tree-unencoded : (body : List ℕ) → vector body ≡ None → HasNoTree body
no_tree-unencoded body none nodes h = let bad = sym none ∙ h.has_length in absurd cc

-- the encoding of a body is no tree
no_tree-encoded : (body encoding : List ℕ) → vector body ≡ Some encoding → IsNoTree encoding → HasNoTree body
no_tree-encoded body encoding is none nodes h =
    let same : h.encoding ≡ encoding = some_is h.encoding encoding (sym h.has_length ∙ is) in
    none nodes (record { encoded = h.is_tree.encoded ∙ ap (λ (t : List ℕ). Some t) same; bounded = subst (λ (t : List ℕ). length t ≤ input_limit) same h.is_tree.bounded })

-- the lines of the encoding of a body are those of the body
pub from_encoding : (line : ℕ → Option NodeValue → List ℕ) (body encoding : List ℕ) (r : Result (List ℕ) NodeFault) → vector body ≡ Some encoding
    → GivesTextBy line encoding r → GivesStateTextBy line body r
from_encoding line body encoding (Ok text) is h = (h.0, record { encoding = encoding; has_length = is; is_tree = h.1 }, h.2)
from_encoding line body encoding (Err (faults.Wire f)) is h = no_tree-encoded body encoding is h
from_encoding line body encoding (Err (faults.WrongNodeKind n)) is h = no_tree-encoded body encoding is h
from_encoding line body encoding (Err faults.LastBlank) is h = no_tree-encoded body encoding is h
from_encoding line body encoding (Err faults.EmptyTree) is h = no_tree-encoded body encoding is h
from_encoding line body encoding (Err faults.TooManyLeaves) is h = no_tree-encoded body encoding is h
from_encoding line body encoding (Err faults.OutOfMemory) is h = tt

-- a fault that is not of memory comes only if there is no tree
pub no_tree-found : (line : ℕ → Option NodeValue → List ℕ) (body : List ℕ) (f : NodeFault) → f ≢ faults.OutOfMemory → GivesStateTextBy line body (Err f) → HasNoTree body
no_tree-found line body (faults.Wire f) other h = h
no_tree-found line body (faults.WrongNodeKind n) other h = h
no_tree-found line body faults.LastBlank other h = h
no_tree-found line body faults.EmptyTree other h = h
no_tree-found line body faults.TooManyLeaves other h = h
no_tree-found line body faults.OutOfMemory other h = absurd (other refl)

-- ---- the file

module _ (bytes : List ℕ) (s : FollowerState) (is_file : IsFileOf bytes s) (bounded : length bytes ≤ input_limit) where
  -- the tree of the state has these nodes
  with_tree : (nodes : List (Option NodeValue)) → IsTreeIn s.tree nodes → IsStateWith bytes s nodes
  with_tree nodes tree = record { is_file = is_file; bounded = bounded; is_tree = tree }

  -- the state has no tree
  treeless : (text : List ℕ) (verdict : Verdict) → HasNoTree s.tree → IsUnreadableReport text verdict → IsNoStateReport bytes text verdict
  treeless text verdict none unreadable = record {
    no_state = λ other nodes h. none nodes (subst (λ (x : FollowerState). IsTreeIn x.tree nodes) (state_is_unique bytes other s h.is_file is_file) h.is_tree);
    unreadable = unreadable;
  }

  pub state_reported : (text : List ℕ) (verdict : Verdict) → ContentReport (state_text s) s.tree text verdict → IsStateReport bytes text verdict
  state_reported text verdict (inl h) = inl (record { state = s; nodes = h.0; is_state = with_tree h.0 h.1; text_is = h.2; verdict_is = h.3 })
  state_reported text verdict (inr h) = inr (inr (treeless text verdict h.0 h.1))

  pub members_reported : (text : List ℕ) (verdict : Verdict) → ContentReport members_text s.tree text verdict → IsStateMembers bytes text verdict
  members_reported text verdict (inl h) = inl (record { state = s; nodes = h.0; is_state = with_tree h.0 h.1; text_is = h.2; verdict_is = h.3 })
  members_reported text verdict (inr h) = inr (inr (treeless text verdict h.0 h.1))

-- bytes that are the file of no state
pub refused : (bytes : List ℕ) (f : StateFileFault) (text : List ℕ) (verdict : Verdict) → DecodesStateFile bytes (Err f) → StateFaultReport f text verdict
    → IsDamagedReport bytes text verdict ⊎ IsNoStateReport bytes text verdict
refused bytes (files.Unreadable f) text verdict none report =
    inr (record { no_state = λ s nodes h. none h.is_file.file h.is_file.encoded h.bounded; unreadable = report })
refused bytes files.ChecksumDiffers text verdict other report =
    inl (record { file = other.0; encoded = other.1; differs = other.2; text_is = report.0; verdict_is = report.1 })
refused bytes files.OutOfMemory text verdict full report = absurd report
