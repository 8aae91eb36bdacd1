-- A follower starts in a state that it may hold, and after any run it is in one.
use Rattle.std.proofs.Common.{◌∙◌, ℕ, List, [], ◌∷◌, Option, Result, Ok, Err, IsSome, sym, ap, subst}
use Rattle.std.proofs.lemmas.List.Elements.{All-nil}
use Rattle.std.proofs.lemmas.Option.{same_Some}
use Rattle.mls_nodes.specs.Requirements.{Requires}
use Rattle.mls_nodes.specs.declared.required_capabilities.RequiredCapabilities.{RequiredCapabilities}
use Rattle.mls_tree.specs.RatchetTree.{RatchetTree}
use Rattle.mls_tree.specs.TreeHash.{tree_hash}
use Rattle.mls_hash.specs.SuiteHash.{hash_of}
use Rattle.mls_check.specs.Signatures.{VerifyFn}
use Rattle.mls_msgs.specs.Layout.{proposal}
use Rattle.mls_msgs.specs.declared.group_info.GroupInfo.{GroupInfo}
use Rattle.mls_msgs.specs.declared.profile.Profile.{Profile}
use Rattle.mls_follow.specs.State.{State}
use Rattle.mls_follow.specs.NextState.{Transition, next}
use Rattle.mls_follow.specs.Acceptance.{IsAcceptable, IsNext}
use Rattle.mls_follow.specs.Runs.{IsTransition, Call, IsRun, IsWellFormed, RunsAreAnswered}
use Rattle.mls_follow.specs.Start.{IsStart}
use Rattle.mls_follow.specs.declared.taken.Taken.{Taken}
use Rattle.mls_follow.proofs.Advancing.{Leads, next_there}
use Rattle.mls_follow.proofs.Answering.{one_message}
use Rattle.mls_follow.proofs.Deciding.{an_answer}
use Rattle.mls_apply.proofs.Encodings.{put_back}
use Rattle.mls_apply.specs.declared.refusal.Refusal.{Refusal}
use Rattle.mls_follow.proofs.StrictLists.{plain_kept}
use Rattle.mls_msgs.specs.declared.rules.Rules.{Rules}

-- a state that a follower may hold, whose group's requirements can be read
pub record IsSteady (s : State) : Type 0 where
  pub held : IsWellFormed s
  pub required : RequiredCapabilities
  pub requires : Requires s.context required

-- it starts in one
pub start_steady : (asked : Rules) (profile : Profile) (G : VerifyFn) (info : GroupInfo) (supplied : Option RatchetTree) (s : State) → IsStart asked profile G info supplied s → IsSteady s
start_steady asked profile G info supplied s h =
    let valid = h.has_signer.has_members.valid_tree in
    subst IsSteady (sym h.state) (record {
      held = record {
        shape = h.tree.shape;
        tree = put_back (tree_hash (hash_of info.context.cipher_suite) 0 h.tree.tree) info.context.tree_hash valid.valid.hashed;
        known = All-nil (λ k. IsSome (proposal k.proposal));
      };
      required = h.has_signer.required;
      requires = valid.readable.requires;
    })

module _ (G : VerifyFn) (s : State) (steady : IsSteady s) (bytes : List ℕ) where
  -- what is accepted leads to one
  accepted_steady : (step : Transition) → IsAcceptable G s bytes → IsNext s bytes step → IsSteady step.state
  accepted_steady step a n =
      let l : Leads s steady.held (next s a.message) = next_there s steady.held G a.required a.requires a.message (bytes, a.encoded) (plain_kept G s a.required a.message a.rules_hold) in
      let same = same_Some l.step step (sym l.is ∙ ap (next s) (one_message a.message n.message bytes a.encoded n.encoded) ∙ n.after) in
      subst (λ (t : Transition). IsSteady t.state) same (record { held = l.still; required = l.required; requires = l.requires })

  pub taken_steady : (answer : Result Taken Refusal) (new : State) → IsTransition G s bytes answer new → IsSteady new
  taken_steady (Ok taken) new h = accepted_steady (record { taken = taken; state = new }) h.0 h.1
  taken_steady (Err e) new h = subst IsSteady (sym h.0) steady

pub run_steady : (G : VerifyFn) (s : State) (calls : List Call) (new : State) → IsSteady s → IsRun G s calls new → IsSteady new
run_steady G s [] new steady h = subst IsSteady (sym h) steady
run_steady G s (call ∷ calls) new steady h =
    run_steady G h.0 calls new (taken_steady G s steady call.bytes call.answer h.0 h.1) h.2

pub run_answered : RunsAreAnswered
run_answered asked profile G info supplied first last calls bytes start run =
    let steady = run_steady G first calls last (start_steady asked profile G info supplied first start) run in
    an_answer G last steady.required bytes steady.held steady.requires
