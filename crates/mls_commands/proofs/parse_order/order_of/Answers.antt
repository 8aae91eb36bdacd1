use Rattle.std.proofs.Common.{◌≡◌, ◌∙◌, ap, sym, subst, refl, true, map, List, [], ◌∷◌, string_bytes, inl, inr}
use Rattle.std.proofs.lemmas.Result.{IfOk-weaker, IfErr-weaker}
use Rattle.clap.specs.Words.{App, Text, IsAmong, Kinds, is_simple, is_simple_and_free, fault_of, subcommand_of}
use Rattle.clap.specs.Values.{kind_of}
use Rattle.clap.specs.declared.error.kind.ErrorKind.{ErrorKind}
use Rattle.clap.proofs.OnLiterals.{clap_on_literals}
use Rattle.mls_commands.specs.ClapCommands.{mlscheck_app}
use Rattle.mls_commands.specs.Orders.{IsGiven, IsUsage}
use Rattle.mls_commands.proofs.parse_order.order_of.Goals as goal

-- the program's command is one whose matches and refusals clap gives as functions of the words
app_is_simple : is_simple mlscheck_app ≡ true
unfolding clap_on_literals
app_is_simple = refl

app_is_free : is_simple_and_free mlscheck_app ≡ true
unfolding clap_on_literals
app_is_free = refl

-- a kind that may come is in no empty list
none_among : (k : ErrorKind) (kinds : Kinds) → IsAmong k kinds → kinds ≡ [] → ⊥
none_among k [] among e = among
none_among k (x ∷ xs) among e = cc

pub returns-in-Ok-clause-order : goal.returns-in-Ok-clause-order
returns-in-Ok-clause-order c =
    let app_is = c.in_ok-command.ensures in
    let words : List Text = map string_bytes c.args.words.now in
    let found = (c.in-Ok.ensures.matches (ap is_simple app_is ∙ app_is_simple)).1 ∙ ap (λ (a : App). subcommand_of a words) app_is in
    let passes = ap (λ (a : App). fault_of a words) (sym app_is) ∙ c.in-Ok.ensures.kinds (ap is_simple_and_free app_is ∙ app_is_free) in
    IfOk-weaker c.read_order-order.result _ _ (λ o h. record { passes = passes; found = subst (λ f. IsGiven f o) found h }) c.read_order-order.ensures.order

pub returns-in-Ok-clause-refused : goal.returns-in-Ok-clause-refused
returns-in-Ok-clause-refused c =
    let app_is = c.in_ok-command.ensures in
    let words : List Text = map string_bytes c.args.words.now in
    let found = (c.in-Ok.ensures.matches (ap is_simple app_is ∙ app_is_simple)).1 ∙ ap (λ (a : App). subcommand_of a words) app_is in
    IfErr-weaker c.read_order-order.result _ _ (λ e h not_memory o is_order. h not_memory o (subst (λ f. IsGiven f o) (sym found) is_order.found)) c.read_order-order.ensures.refused

pub returns-in-Ok-clause-help : goal.returns-in-Ok-clause-help
returns-in-Ok-clause-help c = IfErr-weaker c.read_order-order.result _ _ (λ e h help. absurd (h help)) c.read_order-order.ensures.never_help

pub returns-in-Err-clause-refused : goal.returns-in-Err-clause-refused
returns-in-Err-clause-refused c not_memory o is_order =
    let app_is = c.in_ok-command.ensures in
    let words : List Text = map string_bytes c.args.words.now in
    elim (c.in-Err.ensures.kinds (ap is_simple_and_free app_is ∙ app_is_free)) [
      | inl memory ↦ not_memory (c.refusal-fault.ensures.memory memory)
      | inr among ↦ none_among _ _ among (ap (λ (a : App). fault_of a words) app_is ∙ is_order.passes)
    ]

pub returns-in-Err-clause-help : goal.returns-in-Err-clause-help
returns-in-Err-clause-help c help =
    let app_is = c.in_ok-command.ensures in
    let words : List Text = map string_bytes c.args.words.now in
    let kinds = c.in-Err.ensures.kinds (ap is_simple_and_free app_is ∙ app_is_free) in
    elim (c.refusal-fault.ensures.help help) [
      | inl is_help ↦ inl (elim kinds [
        | inl memory ↦ cc
        | inr among ↦ subst (λ (k : ErrorKind). IsAmong k (fault_of mlscheck_app words)) is_help (subst (λ (a : App). IsAmong (kind_of c.in-Err.error) (fault_of a words)) app_is among)
      ])
      | inr is_version ↦ inr (elim kinds [
        | inl memory ↦ cc
        | inr among ↦ subst (λ (k : ErrorKind). IsAmong k (fault_of mlscheck_app words)) is_version (subst (λ (a : App). IsAmong (kind_of c.in-Err.error) (fault_of a words)) app_is among)
      ])
    ]

-- an error of which this is the only kind that may come has it
only_one : (k only : ErrorKind) (kinds : Kinds) → IsAmong k kinds → kinds ≡ only ∷ [] → k ≡ only
only_one k only kinds among is_one = elim (subst (λ (kinds : Kinds). IsAmong k kinds) is_one among) [ inl same ↦ same | inr none ↦ absurd none ]

pub returns-in-Err-clause-usage : goal.returns-in-Err-clause-usage
returns-in-Err-clause-usage c usage alone =
    let app_is = c.in_ok-command.ensures in
    let words : List Text = map string_bytes c.args.words.now in
    let other = c.refusal-fault.ensures.usage usage in
    elim (c.in-Err.ensures.kinds (ap is_simple_and_free app_is ∙ app_is_free)) [
      | inl memory ↦ subst IsUsage (c.refusal-fault.ensures.memory memory) usage
      | inr among ↦
          let here = subst (λ (a : App). IsAmong (kind_of c.in-Err.error) (fault_of a words)) app_is among in
          elim alone [
            | inl only ↦ other.0 (only_one _ _ _ here only)
            | inr only ↦ other.1 (only_one _ _ _ here only)
          ]
    ]

pub returns-in-Ok-clause-usage : goal.returns-in-Ok-clause-usage
returns-in-Ok-clause-usage c =
    let app_is = c.in_ok-command.ensures in
    let words : List Text = map string_bytes c.args.words.now in
    let passes = ap (λ (a : App). fault_of a words) (sym app_is) ∙ c.in-Ok.ensures.kinds (ap is_simple_and_free app_is ∙ app_is_free) in
    IfErr-weaker c.read_order-order.result _ _ (λ e own usage alone. elim alone [ inl only ↦ cc | inr only ↦ cc ]) c.read_order-order.ensures.never_help
