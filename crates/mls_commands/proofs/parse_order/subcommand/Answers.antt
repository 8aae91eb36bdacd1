use Rattle.std.proofs.Common.{◌≡◌, Option, Some, None, refl}
use Rattle.std.specs.Prelude.{List, option_map}
use Rattle.clap.specs.Words.{Text, Row}
use Rattle.clap.specs.declared.parser.matches.ArgMatches.TheViews.{out-ArgMatches}
use Rattle.mls_commands.proofs.parse_order.subcommand.Goals as goal

-- what has the same name and the same rows is the same
same_pair : {A B : Type 0} (r : Option A) (s : Option B) (f : A → Text) (g : A → List Row) (h : B → Text × List Row)
    → option_map f r ≡ option_map (λ b. (h b).0) s → option_map g r ≡ option_map (λ p. p.1) (option_map h s) → option_map (λ x. (f x, g x)) r ≡ option_map h s
same_pair None None f g h names rows = refl
same_pair None (Some b) f g h names rows = absurd cc
same_pair (Some a) None f g h names rows = absurd cc
same_pair (Some a) (Some b) f g h names rows =
    let name : f a ≡ (h b).0 = cc in
    let row : g a ≡ (h b).1 = cc in
    λ i. Some (name i, row i)

pub returns : goal.returns
returns c = same_pair c.subcommand.result (out-ArgMatches c.args.matches.now).subcommand _ _ _ c.subcommand.ensures.name c.subcommand.ensures.rows
