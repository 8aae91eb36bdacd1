-- The lines of `show state`: what the file of a state holds (own layout, docs/FORMATS.md). Used by contracts.
use Rattle.std.specs.Prelude.{ℕ, zero, suc, List, [], ◌∷◌, ◌++◌, ◌/◌, ◌+◌, Bool, false, true, codes, length, Option, Some, None}
use Rattle.mls_nodes.specs.NodeModel.{NodeValue}
use Rattle.mls_tree.specs.Tree.{leaves_among}
use Rattle.mls_nodes.specs.declared.extension.Extension.{Extension}
use Rattle.mls_msgs.specs.Rules.{has_rule}
use Rattle.mls_msgs.specs.declared.authenticated.AuthenticatedParts.{AuthenticatedParts}
use Rattle.mls_msgs.specs.declared.rules.Rules.{Rules}
use Rattle.mls_state.specs.declared.state.FollowerState.{FollowerState}
use Rattle.mls_state.specs.declared.state.GroupMode.{GroupMode}
use Rattle.mls_state.specs.declared.state.GroupMode.TheVariants.{Members, Full, Ended}
use Rattle.mls_show.specs.ExtensionsText.{extensions_text}
use Rattle.mls_show.specs.InfoText.{group_lines, hash_lines}
use Rattle.mls_show.specs.MessageText.{sender_text, content_text}
use Rattle.mls_show.specs.TreeText.{tree_counts_line}
use Rattle.mls_show.specs.ValueTexts.{hex_text, numbers_text}

-- `mode_lines m` is the profile in which a group is followed, and whether the group is over (RFC 9420, 11.2).
abbrev pub mode_lines : GroupMode → List ℕ
mode_lines Members = codes "profile members\nended no\n"
mode_lines Full = codes "profile full\nended no\n"
mode_lines Ended = codes "profile full\nended yes\n"

-- `number_if b n` is the number `n` if `b` is true, else nothing.
abbrev pub number_if : Bool → ℕ → List ℕ
number_if false n = []
number_if true n = n ∷ []

-- `numbers_from count n r` is those of `count` numbers, from `n` on, that are numbers of strict rules in the set `r`.
abbrev pub numbers_from : ℕ → ℕ → Rules → List ℕ
numbers_from zero n r = []
numbers_from (suc count) n r = number_if (has_rule r n) n ++ numbers_from count (n + 1) r

-- `rules_line r` is the numbers of the strict rules in a set, from 40 to 52 (own rule).
abbrev pub rules_line : Rules → List ℕ
rules_line r = codes "rules " ++ (numbers_text (numbers_from 13 40 r) ++ codes "\n")

-- `interim_line hash` is the interim transcript hash (RFC 9420, 8.2).
abbrev pub interim_line : List ℕ → List ℕ
interim_line hash = codes "interim " ++ (hex_text hash ++ codes "\n")

-- `extensions_line extensions` is the extensions of the GroupContext by their types and lengths (RFC 9420, 8.1).
abbrev pub extensions_line : List Extension → List ℕ
extensions_line extensions = codes "extensions " ++ (extensions_text extensions ++ codes "\n")

-- `pending_line a` is the line of a pending proposal (RFC 9420, 12.4): its sender, and what is proposed.
abbrev pub pending_line : AuthenticatedParts → List ℕ
pending_line a =
    codes "pending " ++ (sender_text a.content.sender ++ (codes " " ++ (content_text a.content.content ++ codes "\n")))

-- `more_pending_lines known` is the lines of pending proposals, none if there are none.
abbrev pub more_pending_lines : List AuthenticatedParts → List ℕ
more_pending_lines [] = []
more_pending_lines (a ∷ known) = pending_line a ++ more_pending_lines known

-- `pending_lines known` is the lines of the pending proposals, in the order in which they were accepted, or one line that
-- there are none.
abbrev pub pending_lines : List AuthenticatedParts → List ℕ
pending_lines [] = codes "pending -\n"
pending_lines (a ∷ known) = pending_line a ++ more_pending_lines known

-- `added_line reference` is the line of a KeyPackageRef (RFC 9420, 5.2).
abbrev pub added_line : List ℕ → List ℕ
added_line reference = codes "added " ++ (hex_text reference ++ codes "\n")

-- `more_added_lines references` is the lines of KeyPackageRefs, none if there are none.
abbrev pub more_added_lines : List (List ℕ) → List ℕ
more_added_lines [] = []
more_added_lines (reference ∷ references) = added_line reference ++ more_added_lines references

-- `reference_lines references` is the lines of the KeyPackageRefs of the Adds of a commit, in the order of its list, or one
-- line that it had no Add (RFC 9420, 5.2).
abbrev pub reference_lines : List (List ℕ) → List ℕ
reference_lines [] = codes "added -\n"
reference_lines (reference ∷ references) = added_line reference ++ more_added_lines references

-- `added_lines added` is the lines of the KeyPackageRefs of the last commit, or one line that none is known.
abbrev pub added_lines : Option (List (List ℕ)) → List ℕ
added_lines None = codes "added unknown\n"
added_lines (Some references) = reference_lines references

-- `first_state_lines s` is the lines of a state before that of the numbers of leaves and members.
abbrev pub first_state_lines : FollowerState → List ℕ
first_state_lines s =
    mode_lines s.mode ++ (rules_line s.rules
    ++ (group_lines s.context ++ (hash_lines s.context ++ interim_line s.interim)))

-- `last_state_lines s` is the lines of a state after that of the numbers of leaves and members.
abbrev pub last_state_lines : FollowerState → List ℕ
last_state_lines s = extensions_line s.context.extensions ++ (pending_lines s.known ++ added_lines s.added)

-- `counts_of nodes` is the line of the numbers of leaves and members of a tree.
abbrev pub counts_of : List (Option NodeValue) → List ℕ
counts_of nodes = tree_counts_line ((length nodes + 1) / 2) (leaves_among nodes)

-- `state_text s nodes` is the report of a state whose tree has these nodes.
abbrev pub state_text : FollowerState → List (Option NodeValue) → List ℕ
state_text s nodes = first_state_lines s ++ (counts_of nodes ++ last_state_lines s)
