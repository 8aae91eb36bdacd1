-- The subcommands of the program and their arguments, as clap's definitions read them. Used by contracts.
use Rattle.std.specs.Prelude.{true, codes, Some}
use Rattle.clap.specs.Words.{App, Rule, Text, new_app, new_rule, with_rule, with_subcommand}
use Rattle.clap.specs.Lexer.{usize_max}
use Rattle.clap.specs.Simple.{on_top}
use Rattle.clap.specs.declared.builder.range.ValueRange.{ValueRange}
use Rattle.clap.specs.declared.builder.ArgAction.TheVariants.{SetTrue}

-- `word_rule id` is a required positional argument.
abbrev pub word_rule : Text → Rule
word_rule name = record (new_rule name) { required = true }

-- `file_rule name` is an option `--name` that takes one value, mostly the name of a file; help has one name for the value.
abbrev pub file_rule : Text → Rule
file_rule name = record (new_rule name) { long = Some name; value_names = 1 }

-- `needed_rule id` is an option with this name that has to name a file.
abbrev pub needed_rule : Text → Rule
needed_rule name = record (file_rule name) { required = true }

-- `flag_rule id` is an option without a value.
abbrev pub flag_rule : Text → Rule
flag_rule name = record (new_rule name) { long = Some name; action = Some SetTrue }

-- `one_or_more` is how many values an argument takes that names files: at least one.
abbrev pub one_or_more : ValueRange
one_or_more = record { start_inclusive = 1; end_inclusive = usize_max }

-- `with_several rule` is the argument with one value or more.
abbrev pub with_several : Rule → Rule
with_several r = record r { range = Some one_or_more }

-- `with_checker app` adds the options `--trust` and `--receipts FILE`.
abbrev pub with_checker : App → App
with_checker a = with_rule (with_rule a (flag_rule (codes "trust"))) (file_rule (codes "receipts"))

-- `with_rules app` adds the options of the strict rules: `--strict` and `--allow NUMBERS`.
abbrev pub with_rules : App → App
with_rules a = with_rule (with_rule a (flag_rule (codes "strict"))) (file_rule (codes "allow"))

-- `show KIND FILE [--profile PROFILE]`
abbrev pub show_app : App
show_app =
    with_rule (with_rule (with_rule
    (new_app (codes "show"))
    (word_rule (codes "KIND")))
    (word_rule (codes "FILE")))
    (file_rule (codes "profile"))

-- `validate-tree --context FILE --tree FILE`, and one of `--trust` and `--receipts FILE`
abbrev pub validate_tree_app : App
validate_tree_app =
    with_checker (with_rules (with_rule (with_rule
    (new_app (codes "validate-tree"))
    (needed_rule (codes "context")))
    (needed_rule (codes "tree"))))

-- `with_group app` adds the options of what a group is followed from, and how: `--info FILE`, `--tree FILE`, `--state FILE`,
-- `--profile PROFILE`, and the options of the strict rules.
abbrev pub with_group : App → App
with_group a =
    with_rules (with_rule (with_rule (with_rule (with_rule a
    (file_rule (codes "info")))
    (file_rule (codes "tree")))
    (file_rule (codes "state")))
    (file_rule (codes "profile")))

-- `validate --info FILE [--tree FILE] [--profile PROFILE]` or `validate --state FILE`, and one of `--trust` and
-- `--receipts FILE`
abbrev pub validate_app : App
validate_app = with_checker (with_group (new_app (codes "validate")))

-- `validate-key-package FILE..`, and one of `--trust` and `--receipts FILE`
abbrev pub validate_packages_app : App
validate_packages_app =
    with_checker (with_rules (with_rule
    (new_app (codes "validate-key-package"))
    (with_several (word_rule (codes "FILE")))))

-- `replay --info FILE [--tree FILE] [--profile PROFILE] --log FILE [--save FILE] [--now SECONDS]`, or with `--state FILE` in
-- place of the first three, and one of `--trust` and `--receipts FILE`
abbrev pub replay_app : App
replay_app =
    with_checker (with_rule (with_rule (with_rule (with_group
    (new_app (codes "replay")))
    (needed_rule (codes "log")))
    (file_rule (codes "save")))
    (file_rule (codes "now")))

-- `signatures --info FILE [--tree FILE] [--profile PROFILE] [--log FILE] [--receipts FILE]`, or with `--state FILE` in place
-- of the first three, or `signatures --key-package FILE.. [--receipts FILE]`
abbrev pub signatures_app : App
signatures_app =
    with_rule (with_rule (with_rule (with_group
    (new_app (codes "signatures")))
    (file_rule (codes "log")))
    (with_several (file_rule (codes "key-package"))))
    (file_rule (codes "receipts"))

-- `gate --info FILE [--tree FILE] [--profile PROFILE] [--now SECONDS]` or `gate --state FILE [--now SECONDS]`, and at most one
-- of `--trust` and `--receipts FILE`
abbrev pub gate_app : App
gate_app = with_checker (with_rule (with_group (new_app (codes "gate"))) (file_rule (codes "now")))

-- `check KIND FILE`
abbrev pub check_app : App
check_app =
    with_rule (with_rule
    (new_app (codes "check"))
    (word_rule (codes "KIND")))
    (word_rule (codes "FILE"))

-- The program without its subcommands: it prints its version, and one of them has to be given.
abbrev pub bare_app : App
bare_app =
    on_top (λ s. record s { has_version = true; subcommand_required = true })
    (new_app (codes "mlscheck"))

-- The program with its subcommands.
abbrev pub mlscheck_app : App
mlscheck_app =
    with_subcommand (with_subcommand (with_subcommand (with_subcommand
    (with_subcommand (with_subcommand (with_subcommand (with_subcommand bare_app
    show_app.top)
    validate_tree_app.top)
    validate_app.top)
    validate_packages_app.top)
    replay_app.top)
    signatures_app.top)
    gate_app.top)
    check_app.top
