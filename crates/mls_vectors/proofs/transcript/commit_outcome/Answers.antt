use Rattle.std.proofs.Common.{◌≡◌, ◌∙◌, Some, ap, sym, refl, inl, inr, rules}
use Rattle.std.specs.Prelude.{option_map}
use Rattle.std.proofs.lemmas.Option.{none-some}
use Rattle.std.proofs.lemmas.Result.{IfOk-weaker}
use Rattle.mls_vectors.proofs.transcript.commit_outcome.Goals as goal

pub returns-in-Some : goal.returns-in-Some
returns-in-Some c =
    let same : c.in-Some.interim.items ≡ c.as_slice.result.now = search rules in
    let found = sym c.in_ok-interim.ensures ∙ ap (λ o. option_map (λ v. v.items) o) c.in-Some.is ∙ ap (λ x. Some x) same in
    IfOk-weaker c.hash_outcome.result _ _ (λ o h. inr (record {
      suite = c.args.suite;
      has_suite = c.requires.suite;
      sent = c.args.auth.now;
      has_commit = c.requires.commit;
      interim = c.as_slice.result.now;
      has_interim = found;
      outcome = h;
    })) c.hash_outcome.ensures

pub returns-in-None : goal.returns-in-None
returns-in-None c =
    let none = sym c.in_ok-interim.ensures ∙ ap (λ o. option_map (λ v. v.items) o) c.in-None.is in
    inl (inr ((c.args.suite, c.requires.suite), inr ((c.args.auth.now, c.requires.commit), inl (refl, λ h. none-some h.0 (sym none ∙ h.1)))))
