-- The command that a command line gives. Used by contracts.
use Rattle.std.specs.Prelude.{List, [], ◌∷◌, count_by, unwrap_or, ℕ, ◌+◌, ◌-◌, ◌*◌, ◌^◌, ◌<◌, ◌≤◌, nat_le, Bool, false, true, not, ◌&&◌, ◌==◌, ◌≡◌, ◌≢◌, ◌⊎◌, Option, Some, None, codes}
use Rattle.std.specs.Str.{bytes_eq}
use Rattle.std.specs.Str.Parse.{IsNumeral, digits_value}
use Rattle.clap.specs.Words.{Text, Row, all_of, first_of, fault_of, subcommand_of, IsAmong}
use Rattle.clap.specs.declared.error.kind.ErrorKind.TheVariants.{DisplayHelp, DisplayVersion}
use Rattle.mls_commands.specs.ClapCommands.{mlscheck_app}
use Rattle.mls_show.specs.declared.check_kind.CheckKind.{CheckKind}
use Rattle.mls_show.specs.declared.check_kind.CheckKind.TheVariants as checks
use Rattle.mls_commands.specs.declared.order.CheckerChoice.{CheckerChoice}
use Rattle.mls_commands.specs.declared.order.CheckerChoice.TheVariants as checker
use Rattle.mls_commands.specs.declared.order.GroupReport.{GroupReport}
use Rattle.mls_commands.specs.declared.order.GroupReport.TheVariants as report
use Rattle.mls_commands.specs.declared.order.GroupFiles.{GroupFiles}
use Rattle.mls_commands.specs.declared.order.GroupFiles.TheVariants as groups
use Rattle.mls_commands.specs.declared.order.ReplayOptions.{ReplayOptions}
use Rattle.mls_commands.specs.declared.order.Order.{Order}
use Rattle.mls_commands.specs.declared.order.Order.TheVariants as order
use Rattle.mls_commands.specs.declared.order.OrderFault.{OrderFault}
use Rattle.mls_commands.specs.declared.order.OrderFault.TheVariants.{Help, Usage, Memory}
use Rattle.mls_msgs.specs.Rules.{has_rule, plain_rules, strict_rules}
use Rattle.mls_msgs.specs.declared.rules.Rules.{Rules}
use Rattle.mls_msgs.specs.declared.profile.Profile.{Profile}
use Rattle.mls_msgs.specs.declared.profile.Profile.TheVariants as profiles
use Rattle.mls_show.specs.declared.show.ShowKind.{ShowKind}
use Rattle.mls_show.specs.declared.show.ShowKind.TheVariants as kind

-- `kind_text k` is the argument that names a kind of `show`.
abbrev pub kind_text : ShowKind → Text
kind_text kind.Tree = codes "tree"
kind_text kind.Info = codes "info"
kind_text kind.Message = codes "message"
kind_text kind.KeyPackage = codes "key-package"
kind_text kind.Members = codes "members"
kind_text kind.State = codes "state"
kind_text kind.Log = codes "log"

-- `profile_text profile` is the word that names `profile` on the command line.
abbrev pub profile_text : Profile → Text
profile_text profiles.Members = codes "members"
profile_text profiles.Full = codes "full"

-- `is_digit c`: the character is a decimal digit.
abbrev pub is_digit : ℕ → Bool
is_digit c = nat_le 48 c && nat_le c 57

-- `two_digits a b` is the number whose two decimal digits are these.
abbrev pub two_digits : ℕ → ℕ → ℕ
two_digits a b = (a - 48) * 10 + (b - 48)

-- `IsWithout asked a b rules`: the two digits are the number of a rule of the set `asked`, and `rules` is the set without it.
pub record IsWithout (asked : Rules) (a b : ℕ) (rules : Rules) : Type 0 where
  pub digits : (is_digit a && is_digit b) ≡ true
  pub is_member : has_rule asked (two_digits a b) ≡ true
  pub others : (n : ℕ) → has_rule rules n ≡ (has_rule asked n && not (n == two_digits a b))

-- `Allows asked text rules`: the text names rules of the set `asked`, each by its two digits, none twice, and with a comma
-- between one and the next; and `rules` is the set without them.
abbrev pub Allows : Rules → Text → Rules → Type 0
Allows asked (a ∷ b ∷ []) rules = IsWithout asked a b rules
Allows asked (a ∷ b ∷ c ∷ text) rules =
    (c ≡ 44) × ((fewer : Rules) × IsWithout asked a b fewer × Allows fewer text rules)
Allows asked _ rules = ⊥

-- `IsAsked strict allow rules`: these are the strict rules that are asked, where `strict` and `allow` are the values of
-- `--strict` and `--allow`, if they are there: none, all of them, or all but those that are allowed to be broken.
abbrev pub IsAsked : Option Text → Option Text → Rules → Type 0
IsAsked strict None rules =
    ((strict ≡ Some (codes "true")) × (rules ≡ strict_rules)) ⊎ ((strict ≢ Some (codes "true")) × (rules ≡ plain_rules))
IsAsked strict (Some text) rules = (strict ≡ Some (codes "true")) × Allows strict_rules text rules

-- `AreAsked rows rules`: these are the strict rules that the arguments `--strict` and `--allow` ask.
abbrev pub AreAsked : List Row → Rules → Type 0
AreAsked rows rules = IsAsked (first_of (codes "strict") rows) (first_of (codes "allow") rows) rules

-- `IsProfile given k profile`: `show` of the kind `k` decodes messages in `profile`, where `given` is the value of
-- `--profile`, if it is there. Without it `profile` is that of the members; only `show message` and `show log` take it.
abbrev pub IsProfile : Option Text → ShowKind → Profile → Type 0
IsProfile None k profile = profile ≡ profiles.Members
IsProfile (Some text) kind.Message profile = text ≡ profile_text profile
IsProfile (Some text) kind.Log profile = text ≡ profile_text profile
IsProfile (Some text) kind.Tree profile = ⊥
IsProfile (Some text) kind.Info profile = ⊥
IsProfile (Some text) kind.KeyPackage profile = ⊥
IsProfile (Some text) kind.Members profile = ⊥
IsProfile (Some text) kind.State profile = ⊥

-- `IsShow rows profile k file`: the arguments KIND, FILE and `--profile` are these.
abbrev pub IsShow : List Row → Profile → ShowKind → Text → Type 0
IsShow rows profile k file =
    (first_of (codes "KIND") rows ≡ Some (kind_text k)) × (first_of (codes "FILE") rows ≡ Some file)
    × IsProfile (first_of (codes "profile") rows) k profile

-- `check_kind_text k` is the argument that names a kind of `check`.
abbrev pub check_kind_text : CheckKind → Text
check_kind_text checks.TreeMath = codes "tree-math"
check_kind_text checks.TreeValidation = codes "tree-validation"
check_kind_text checks.TreeOperations = codes "tree-operations"
check_kind_text checks.Transcript = codes "transcript"

-- `IsCheck rows k file`: these are the arguments KIND and FILE of `check`.
abbrev pub IsCheck : List Row → CheckKind → Text → Type 0
IsCheck rows k file =
    (first_of (codes "KIND") rows ≡ Some (check_kind_text k))
    × (first_of (codes "FILE") rows ≡ Some file)

-- `is_stdin file`: the file is standard input.
abbrev pub is_stdin : Option Text → Bool
is_stdin None = false
is_stdin (Some name) = bytes_eq name (codes "-")

-- `one_if b` is 1 if `b` is true, else 0.
abbrev pub one_if : Bool → ℕ
one_if false = 0
one_if true = 1

-- `stdin_at rows id` is 1 if the argument of this name is standard input, else 0.
abbrev pub stdin_at : List Row → Text → ℕ
stdin_at rows id = one_if (is_stdin (first_of id rows))

-- `is_stdin_name name`: the file of this name is standard input.
abbrev pub is_stdin_name : Text → Bool
is_stdin_name name = bytes_eq name (codes "-")

-- `stdin_among rows id` is how many of the files that the argument of this name has are standard input.
abbrev pub stdin_among : List Row → Text → ℕ
stdin_among rows id = count_by is_stdin_name (unwrap_or (all_of id rows) [])

-- `stdin_count rows` is how many of the files are standard input.
unfoldable pub stdin_count : List Row → ℕ
stdin_count rows =
    stdin_among rows (codes "FILE") + stdin_among rows (codes "key-package")
    + stdin_at rows (codes "context") + stdin_at rows (codes "info")
    + stdin_at rows (codes "tree") + stdin_at rows (codes "state") + stdin_at rows (codes "log")
    + stdin_at rows (codes "receipts")

-- `IsChecker trust receipts c`: exactly one of `--trust` and `--receipts` is given, and `c` is the choice.
abbrev pub IsChecker : Option Text → Option Text → CheckerChoice → Type 0
IsChecker trust receipts checker.Trust = (trust ≡ Some (codes "true")) × (receipts ≡ None)
IsChecker trust receipts (checker.Receipts file) =
    (trust ≢ Some (codes "true")) × (receipts ≡ Some file)
IsChecker trust receipts checker.NoReceipts = ⊥

-- `SelectsReceipts receipts c`: `c` is the receipts file, if `--receipts` is given, else no checker.
abbrev pub SelectsReceipts : Option Text → CheckerChoice → Type 0
SelectsReceipts receipts checker.Trust = ⊥
SelectsReceipts receipts (checker.Receipts file) = receipts ≡ Some file
SelectsReceipts receipts checker.NoReceipts = receipts ≡ None

-- `IsFirstChecker trust receipts c`: at most one of `--trust` and `--receipts` is given, and `c` is the choice.
abbrev pub IsFirstChecker : Option Text → Option Text → CheckerChoice → Type 0
IsFirstChecker trust receipts checker.NoReceipts = (trust ≢ Some (codes "true")) × (receipts ≡ None)
IsFirstChecker trust receipts c = IsChecker trust receipts c

-- `IsValidateTree rows rules context tree c`: these are the options of `validate-tree`.
abbrev pub IsValidateTree : List Row → Rules → Text → Text → CheckerChoice → Type 0
IsValidateTree rows rules context tree c =
    AreAsked rows rules
    × (first_of (codes "context") rows ≡ Some context) × (first_of (codes "tree") rows ≡ Some tree)
    × IsChecker (first_of (codes "trust") rows) (first_of (codes "receipts") rows) c

-- `IsNamedProfile given profile`: a group is followed in `profile`, where `given` is the value of `--profile`, if it is
-- there. Without it `profile` is that of the members.
abbrev pub IsNamedProfile : Option Text → Profile → Type 0
IsNamedProfile None profile = profile ≡ profiles.Members
IsNamedProfile (Some text) profile = text ≡ profile_text profile

-- `IsGroup rows group`: this is what a group is followed from: `--info` with or without `--tree` and `--profile`,
-- otherwise `--state` without both; and the strict rules that are asked.
abbrev pub IsGroup : List Row → GroupFiles → Type 0
IsGroup rows (groups.Info rules profile info tree) =
    AreAsked rows rules
    × (first_of (codes "info") rows ≡ Some info) × (first_of (codes "tree") rows ≡ tree)
    × (first_of (codes "state") rows ≡ None) × IsNamedProfile (first_of (codes "profile") rows) profile
IsGroup rows (groups.State rules state) =
    AreAsked rows rules
    × (first_of (codes "info") rows ≡ None) × (first_of (codes "tree") rows ≡ None)
    × (first_of (codes "state") rows ≡ Some state) × (first_of (codes "profile") rows ≡ None)

-- `IsValidate rows group c`: these are the options of `validate`.
abbrev pub IsValidate : List Row → GroupFiles → CheckerChoice → Type 0
IsValidate rows group c =
    IsGroup rows group × IsChecker (first_of (codes "trust") rows) (first_of (codes "receipts") rows) c

-- `NamesFiles rows id files`: these are the files that the argument of this name has, at least one.
abbrev pub NamesFiles : List Row → Text → List Text → Type 0
NamesFiles rows id files = (all_of id rows ≡ Some files) × (files ≢ [])

-- `IsValidatePackages rows rules files c`: these are the arguments of `validate-key-package`.
abbrev pub IsValidatePackages : List Row → Rules → List Text → CheckerChoice → Type 0
IsValidatePackages rows rules files c =
    AreAsked rows rules × NamesFiles rows (codes "FILE") files
    × IsChecker (first_of (codes "trust") rows) (first_of (codes "receipts") rows) c

-- `IsSave given save`: this is the file of `--save`, whose value is `given`. It is not standard input.
abbrev pub IsSave : Option Text → Option Text → Type 0
IsSave given save = (given ≡ save) × (is_stdin given ≡ false)

-- `IsTime given time`: lifetimes are judged at `time`, in seconds since 1970, where `given` is the value of `--now`, if it
-- is there: one decimal digit or more, and nothing else, whose number is below 2^64. Without it they are not judged.
abbrev pub IsTime : Option Text → Option ℕ → Type 0
IsTime None time = time ≡ None
IsTime (Some text) time =
    IsNumeral 10 text × (digits_value 10 text < 2 ^ 64) × (time ≡ Some (digits_value 10 text))

-- `AreReplayOptions rows options`: these are the options of `replay`, except the choice of a checker.
abbrev pub AreReplayOptions : List Row → ReplayOptions → Type 0
AreReplayOptions rows options =
    IsGroup rows options.group × (first_of (codes "log") rows ≡ Some options.log)
    × IsSave (first_of (codes "save") rows) options.save × IsTime (first_of (codes "now") rows) options.time

-- `IsReplay rows options c`: these are the options of `replay`.
abbrev pub IsReplay : List Row → ReplayOptions → CheckerChoice → Type 0
IsReplay rows options c =
    AreReplayOptions rows options × IsChecker (first_of (codes "trust") rows) (first_of (codes "receipts") rows) c

-- `IsSignatures rows group log c`: these are the options of `signatures` of a group.
abbrev pub IsSignatures : List Row → GroupFiles → Option Text → CheckerChoice → Type 0
IsSignatures rows group log c =
    (all_of (codes "key-package") rows ≡ None) × IsGroup rows group × (first_of (codes "log") rows ≡ log)
    × SelectsReceipts (first_of (codes "receipts") rows) c

-- `IsWithoutGroup rows`: nothing of a group is named.
abbrev pub IsWithoutGroup : List Row → Type 0
IsWithoutGroup rows =
    (first_of (codes "info") rows ≡ None) × (first_of (codes "tree") rows ≡ None)
    × (first_of (codes "state") rows ≡ None) × (first_of (codes "profile") rows ≡ None)
    × (first_of (codes "log") rows ≡ None)

-- `ArePackageSignatures rows rules files c`: these are the options of `signatures` of KeyPackages.
abbrev pub ArePackageSignatures : List Row → Rules → List Text → CheckerChoice → Type 0
ArePackageSignatures rows rules files c =
    IsWithoutGroup rows × AreAsked rows rules × NamesFiles rows (codes "key-package") files
    × SelectsReceipts (first_of (codes "receipts") rows) c

-- `IsGate rows group time c`: these are the options of `gate`. No file is standard input, which has the records.
abbrev pub IsGate : List Row → GroupFiles → Option ℕ → CheckerChoice → Type 0
IsGate rows group time c =
    IsGroup rows group × IsTime (first_of (codes "now") rows) time
    × IsFirstChecker (first_of (codes "trust") rows) (first_of (codes "receipts") rows) c
    × (stdin_count rows ≡ 0)

-- `IsGroupReport found report c`: this is the report that clap found, with this choice of a checker.
abbrev pub IsGroupReport : Option (Text × List Row) → GroupReport → CheckerChoice → Type 0
IsGroupReport found (report.ValidateTree rules context tree) c =
    (rows : List Row) × (found ≡ Some (codes "validate-tree", rows))
    × IsValidateTree rows rules context tree c
IsGroupReport found (report.Validate group) c =
    (rows : List Row) × (found ≡ Some (codes "validate", rows)) × IsValidate rows group c
IsGroupReport found (report.Replay options) c =
    (rows : List Row) × (found ≡ Some (codes "replay", rows)) × IsReplay rows options c
IsGroupReport found (report.Signatures group log) c =
    (rows : List Row) × (found ≡ Some (codes "signatures", rows)) × IsSignatures rows group log c
IsGroupReport found (report.ValidatePackages rules files) c =
    (rows : List Row) × (found ≡ Some (codes "validate-key-package", rows))
    × IsValidatePackages rows rules files.items c
IsGroupReport found (report.PackageSignatures rules files) c =
    (rows : List Row) × (found ≡ Some (codes "signatures", rows)) × ArePackageSignatures rows rules files.items c
IsGroupReport found (report.Gate group time) c =
    (rows : List Row) × (found ≡ Some (codes "gate", rows)) × IsGate rows group time c

-- `IsOrder found order`: this is the command that clap found: a subcommand's name, and the values of its arguments.
abbrev pub IsOrder : Option (Text × List Row) → Order → Type 0
IsOrder found (order.Show profile k file) =
    (rows : List Row) × (found ≡ Some (codes "show", rows)) × IsShow rows profile k file
IsOrder found (order.Group r c) = IsGroupReport found r c
IsOrder found (order.Check k file) =
    (rows : List Row) × (found ≡ Some (codes "check", rows)) × IsCheck rows k file

-- `IsGiven found order`: this is the command that clap found, and at most one of its files is standard input.
abbrev pub IsGiven : Option (Text × List Row) → Order → Type 0
IsGiven found o =
    (given : Text × List Row) × (found ≡ Some given) × (stdin_count given.1 ≤ 1)
    × IsOrder found o

-- `IsOrderOf words o`: clap refuses none of the arguments, and what it finds in them is the command.
pub record IsOrderOf (words : List Text) (o : Order) : Type 0 where
  pub passes : fault_of mlscheck_app words ≡ []
  pub found : IsGiven (subcommand_of mlscheck_app words) o

-- `RefusesArguments P fault`: a fault other than OutOfMemory comes only if nothing has the property P.
abbrev pub RefusesArguments : {A : Type 0} → (A → Type 0) → OrderFault → Type 0
RefusesArguments {A} P e = e ≢ Memory → (x : A) → P x → ⊥

-- `IsHelp fault`: the result is help or the version.
abbrev pub IsHelp : OrderFault → Type 0
IsHelp (Help text) = Unit {0}
IsHelp _ = ⊥

-- `IsUsage fault`: the result is a usage fault.
abbrev pub IsUsage : OrderFault → Type 0
IsUsage (Usage text) = Unit {0}
IsUsage _ = ⊥

-- `AsksForHelp words`: help or the version is among what clap may return for the arguments.
abbrev pub AsksForHelp : List Text → Type 0
AsksForHelp words =
    IsAmong DisplayHelp (fault_of mlscheck_app words)
    ⊎ IsAmong DisplayVersion (fault_of mlscheck_app words)

-- `AsksForHelpAlone words`: help or the version is all that clap may return for the arguments.
abbrev pub AsksForHelpAlone : List Text → Type 0
AsksForHelpAlone words =
    (fault_of mlscheck_app words ≡ DisplayHelp ∷ [])
    ⊎ (fault_of mlscheck_app words ≡ DisplayVersion ∷ [])
