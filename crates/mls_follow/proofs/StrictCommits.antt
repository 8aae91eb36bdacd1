-- A commit is judged by the rules after those of the profile, of the state that it leads to.
use Rattle.std.proofs.Common.{◌≡◌, ◌∙◌, ℕ, List, Option, Some, None, sym, ap, inl, inr}
use Rattle.std.specs.Prelude.{option_and_then, option_map}
use Rattle.mls_tree.specs.Tree.{Tree}
use Rattle.mls_hash.specs.SuiteHash.{hash_of}
use Rattle.mls_msgs.specs.declared.authenticated.AuthenticatedParts.{AuthenticatedParts}
use Rattle.mls_apply.specs.ContextExtensions.{new_extensions}
use Rattle.mls_apply.specs.Transcript.{confirmed_hash, interim_hash}
use Rattle.mls_apply.specs.declared.list_item.ListItem.{ListItem}
use Rattle.mls_apply.specs.declared.refusal.Refusal.{Refusal}
use Rattle.mls_follow.specs.AcceptanceInternal.{FailsWithRule, judged}
use Rattle.mls_follow.specs.NextState.{Transition, after_tree, committed, with_list}
use Rattle.mls_follow.specs.State.{State}
use Rattle.mls_follow.specs.StrictRulesInternal.{ChangesTo, RefusesCommit, commit_late_refusal, late_refusal}
use Rattle.mls_follow.proofs.StrictLists.{judged_first, judged_last}
use Rattle.mls_nodes.specs.declared.context.GroupContext.{GroupContext}
use Rattle.mls_nodes.specs.declared.extension.Extension.{Extension}
use Rattle.mls_msgs.specs.declared.rules.Rules.{Rules}

module _ (s : State) (unmet : Option Refusal) (items : List ListItem) (a : AuthenticatedParts) (failing : Option Refusal) (changed : Option Tree)
    (confirmed interim : List ℕ) (confirms : confirmed_hash (hash_of s.context.cipher_suite) s.interim a ≡ Some confirmed)
    (follows : interim_hash (hash_of s.context.cipher_suite) confirmed a.confirmation_tag ≡ Some interim) where
  abbrev After : Option Transition
  After = option_and_then (after_tree (with_list s (Some items)) a) changed

  after_made : (t : Tree) → (h : ChangesTo s.context changed t) → After ≡ Some (committed (with_list s (Some items)) t h.hash confirmed interim)
  after_made t h =
      ap (option_and_then (after_tree (with_list s (Some items)) a)) h.made
      ∙ ap (option_and_then (λ (hash : List ℕ). option_and_then
      (λ (c : List ℕ). option_map (committed (with_list s (Some items)) t hash c) (interim_hash (hash_of s.context.cipher_suite) c a.confirmation_tag))
      (confirmed_hash (hash_of s.context.cipher_suite) s.interim a))) h.hashed
      ∙ ap (option_and_then (λ (c : List ℕ). option_map (committed (with_list s (Some items)) t h.hash c)
      (interim_hash (hash_of s.context.cipher_suite) c a.confirmation_tag))) confirms
      ∙ ap (option_map (committed (with_list s (Some items)) t h.hash confirmed)) follows

  late_of_made : (t : Tree) → ChangesTo s.context changed t
      → late_refusal s.rules unmet After ≡ commit_late_refusal s.rules unmet (new_extensions s.context.extensions items) t
  late_of_made t h = ap (late_refusal s.rules unmet) (after_made t h)

  -- no rule fails
  pub commit_kept : (t : Tree) → ChangesTo s.context changed t → failing ≡ None
      → commit_late_refusal s.rules unmet (new_extensions s.context.extensions items) t ≡ None
      → judged (late_refusal s.rules unmet) failing After ≡ None
  commit_kept t h none kept = judged_last (late_refusal s.rules unmet) failing After none ∙ late_of_made t h ∙ kept

  -- one does
  pub commit_refused : (e : Refusal) → RefusesCommit s.context s.rules unmet items failing changed e
      → FailsWithRule (judged (late_refusal s.rules unmet) failing After) e
  commit_refused e h = λ own.
      elim (h own) [
        | inl fails ↦ judged_first (late_refusal s.rules unmet) failing After e fails
        | inr strictly ↦
            judged_last (late_refusal s.rules unmet) failing After strictly.0 ∙ late_of_made strictly.1.0 strictly.1.1 ∙ strictly.1.2
      ]

-- a commit is refused by a rule of the profile
pub refused_first : (context : GroupContext) (asked : Rules) (unmet : Option Refusal) (items : List ListItem) (failing : Option Refusal) (changed : Option Tree) (e : Refusal)
    → FailsWithRule failing e → RefusesCommit context asked unmet items failing changed e
refused_first context asked unmet items failing changed e h = λ own. inl (h own)

-- or by a later one
pub refused_last : (context : GroupContext) (asked : Rules) (unmet : Option Refusal) (items : List ListItem) (failing : Option Refusal) (changed : Option Tree) (e : Refusal)
    (es : List Extension) (t : Tree) → failing ≡ None → ChangesTo context changed t → es ≡ new_extensions context.extensions items
    → FailsWithRule (commit_late_refusal asked unmet es t) e → RefusesCommit context asked unmet items failing changed e
refused_last context asked unmet items failing changed e es t none made same h = λ own.
    inr (none, (t, made, ap (λ (xs : List Extension). commit_late_refusal asked unmet xs t) (sym same) ∙ h own))
