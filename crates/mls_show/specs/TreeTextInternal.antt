-- Making the lines of a tree while the entries are decoded. `line` is what is made of a node at a node index. Internal: no
-- public contract uses this.
use Rattle.std.specs.Prelude.{◌≡◌, ℕ, List, ◌++◌, length, Option, Some, None, Result, Ok, Err}
use Rattle.mls_nodes.specs.NodeModel.{NodeValue}
use Rattle.mls_nodes.specs.RatchetTreeEncoding.{filled}
use Rattle.mls_nodes.specs.RatchetTreeReading.{RatchetTreeReaderModel}
use Rattle.mls_nodes.specs.declared.fault.NodeFault.{NodeFault}
use Rattle.mls_nodes.specs.declared.fault.NodeFault.TheVariants as faults
use Rattle.mls_tree.specs.Tree.{leaves_among}
use Rattle.mls_tree.specs.TreeDecoding.{IsTree, IsNoTree}
use Rattle.mls_show.specs.TreeText.{lines_by, text_by}

-- `PutsEntries line out0 out1 old new result`: the call read all entries and appended their lines, and returned how many of
-- them are leaf nodes.
abbrev pub PutsEntries : (ℕ → Option NodeValue → List ℕ) → List ℕ → List ℕ → RatchetTreeReaderModel → RatchetTreeReaderModel → Result ℕ NodeFault → Type 0
PutsEntries line out0 out1 old new (Ok members) = (nodes : List (Option NodeValue)) × (old.rest ≡ Some nodes) × (out1 ≡ out0 ++ lines_by line 0 nodes) × (members ≡ leaves_among nodes) × (new.node_index ≡ length nodes)
PutsEntries line out0 out1 old new (Err faults.OutOfMemory) = Unit {0}
PutsEntries line out0 out1 old new (Err e) = old.rest ≡ None

-- `GivesTextBy line bytes result`: the call returned what `line` gives for the tree whose encoding is all of the bytes.
abbrev pub GivesTextBy : (ℕ → Option NodeValue → List ℕ) → List ℕ → Result (List ℕ) NodeFault → Type 0
GivesTextBy line bytes (Ok text) = (nodes : List (Option NodeValue)) × IsTree bytes nodes × (text ≡ text_by line (filled nodes))
GivesTextBy line bytes (Err faults.OutOfMemory) = Unit {0}
GivesTextBy line bytes (Err e) = IsNoTree bytes
