-- What the parts of the program's commands are. Internal: no public contract uses this.
use Rattle.std.specs.Prelude.{◌≡◌, false, Result, IfOk}
use Rattle.clap.specs.Words.{App, Rule, app_of, rule_of}
use Rattle.clap.specs.declared.builder.arg.Arg.{Arg}
use Rattle.clap.specs.declared.builder.command.Command.{Command}
use Rattle.clap.specs.declared.builder.command.Command.TheViews.{out-Command as fields_of}

-- `HasRule rule arg`: `rule` is what clap reads of the argument, which is not for all commands below.
pub record HasRule (rule : Rule) (arg : Arg) : Type 0 where
  pub rule_is : rule_of arg ≡ rule
  pub own : arg.global ≡ false

-- `HasApp app command`: `app` is what clap reads of the command, no argument of which is for all commands below.
pub record HasApp (app : App) (command : Command) : Type 0 where
  pub app_is : app_of command ≡ app
  pub own : (fields_of command).has_globals ≡ false

-- `MakesApp app made`: the command has `app`, if it could be made.
abbrev pub MakesApp : {E : Type 0} → App → Result Command E → Type 0
MakesApp app made = IfOk made (HasApp app)
